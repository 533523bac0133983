use Rattle.std.proofs.Common.{◌≡◌, sym, subst, rules}
use Rattle.token_manager.specs.Managers.{Manager, grants_decided, queue_decided, after_decide}
use Rattle.token_manager.proofs.Lawful.{fresh_next}
use Rattle.token_manager.proofs.Rooms.{room_enough}
use Rattle.token_manager.proofs.Sound.{IsSound, sound_decide}
use Rattle.token_manager.proofs.manager.TokenManager.decide.Goals as goal

pub grant-requires-clause-room : goal.grant-requires-clause-room
grant-requires-clause-room c = room_enough _ _ _ _ c.in-Some.want.now (sym (rw c.as_slice.ensures at c.in-Some.ensures))
    c.self.invariant.1

pub grant-requires-clause-fresh : goal.grant-requires-clause-fresh
grant-requires-clause-fresh c = fresh_next _ _ _ _ _ c.self.invariant.0

-- the manager after the decision is as the definition says, so it is sound
pub invariant_of-self-2 : goal.invariant_of-self-2
unfolding grants_decided queue_decided
invariant_of-self-2 c =
    let after : Manager = record {
      grants = c.match-copied.self-inside.grants;
      queue = c.drop_want.new.queue;
      asked = c.match-copied.self-inside.asked;
      latest = c.match-copied.self-inside.latest;
    } in
    let same : after ≡ after_decide c.args.self.now c.args.number = search rules in
    let before = subst IsSound c.self.view_is (record { lawful = c.self.invariant.0; room = c.self.invariant.1 }) in
    let sound = subst IsSound (sym same) (sound_decide c.args.self.now c.args.number before) in
    (sound.lawful, sound.room)
