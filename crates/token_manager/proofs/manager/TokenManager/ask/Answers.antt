use Rattle.std.proofs.Common.{◌≡◌, ◌+◌, Some, sym, subst, rules}
use Rattle.token_manager.specs.Managers.{Manager, grants_asked, queue_asked, after_ask}
use Rattle.token_manager.proofs.Lawful.{fresh_next}
use Rattle.token_manager.proofs.Sound.{IsSound, sound_ask}
use Rattle.token_manager.proofs.manager.TokenManager.ask.Goals as goal

pub grant-requires-clause-fresh : goal.grant-requires-clause-fresh
grant-requires-clause-fresh c = fresh_next _ _ _ _ _ c.self.invariant.0

-- the manager after the want is as the definition says, so it is sound
pub invariant_of-self-2 : goal.invariant_of-self-2
unfolding grants_asked queue_asked
invariant_of-self-2 c =
    let after : Manager = record {
      grants = c.if-is_blocked.self-inside.grants;
      queue = c.if-is_blocked.self-inside.queue;
      asked = c.if-is_blocked.self-inside.asked + 1;
      latest =
          Some c.args.want.number;
    } in
    let same : after ≡ after_ask c.args.self.now c.args.want = search rules in
    let before = subst IsSound c.self.view_is (record { lawful = c.self.invariant.0; room = c.self.invariant.1 }) in
    let sound = subst IsSound (sym same) (sound_ask c.args.self.now c.args.want c.requires.count c.requires.rising
    c.requires.needs before) in
    (sound.lawful, sound.room)
