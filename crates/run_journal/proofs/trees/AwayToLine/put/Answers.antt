use Rattle.std.proofs.Common.{◌≡◌, refl, subst}
use Rattle.std.specs.Prelude.{OnOk}
use Rattle.message_json.proofs.Grown.{members_in, object_grown}
use Rattle.run_journal.specs.Trees.{away_json}
use Rattle.run_journal.proofs.trees.AwayToLine.put.Goals as goal

pub returns : goal.returns
unfolding away_json
returns c =
    let all = object_grown (members_in (away_json c.args.self.now)) c.args.line.now c.open.new.self c.field-5.new.self c.in_ok-open.ensures (
      c.field.new.self,
      c.in_ok-field.ensures,
      (
        c.field-2.new.self,
        c.in_ok-field-2.ensures,
        (
          c.field-3.new.self,
          c.in_ok-field-3.ensures,
          (
            c.field-4.new.self,
            c.in_ok-field-4.ensures,
            (c.field-5.new.self, c.in_ok-field-5.ensures, refl),
          ),
        ),
      ),
    ) in
    subst (λ after. OnOk c.close.result (c.close.new.self ≡ after)) all c.close.ensures
