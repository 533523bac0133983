use Rattle.std.proofs.Common.{◌≡◌, refl, subst}
use Rattle.std.specs.Prelude.{OnOk}
use Rattle.message_json.proofs.Grown.{members_in, object_grown}
use Rattle.run_journal.specs.Trees.{room_json}
use Rattle.run_journal.proofs.trees.ServerRoomToLine.put.Goals as goal

pub returns : goal.returns
unfolding room_json
returns c =
    let all = object_grown (members_in (room_json c.args.self.now)) c.args.line.now c.open.new.self c.field-2.new.self c.in_ok-open.ensures (
      c.field.new.self,
      c.in_ok-field.ensures,
      (c.field-2.new.self, c.in_ok-field-2.ensures, refl),
    ) in
    subst (λ after. OnOk c.close.result (c.close.new.self ≡ after)) all c.close.ensures
