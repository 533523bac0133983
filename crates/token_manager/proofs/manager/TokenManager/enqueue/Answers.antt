use Rattle.std.proofs.Common.{◌≡◌, ◌+◌, Some, sym, subst, rules}
use Rattle.token_manager.specs.Managers.{Manager, after_enqueue}
use Rattle.token_manager.proofs.Sound.{IsSound, sound_enqueue}
use Rattle.token_manager.proofs.manager.TokenManager.enqueue.Goals as goal

-- the manager after the want is as the definition says, so it is sound
pub invariant_of-self-2 : goal.invariant_of-self-2
invariant_of-self-2 c =
    let after : Manager = record {
      grants = c.self.inside.grants;
      queue = c.push.new.self;
      asked = c.self.inside.asked + 1;
      latest =
          Some c.args.want.number;
    } in
    let same : after ≡ after_enqueue c.args.self.now c.args.want = search rules in
    let before = subst IsSound c.self.view_is (record { lawful = c.self.invariant.0; room = c.self.invariant.1 }) in
    let sound = subst IsSound (sym same) (sound_enqueue c.args.self.now c.args.want c.requires.count c.requires.rising
    c.requires.needs before) in
    (sound.lawful, sound.room)
