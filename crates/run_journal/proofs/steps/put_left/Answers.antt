use Rattle.std.proofs.Common.{◌≡◌, codes, refl, subst}
use Rattle.std.specs.Prelude.{OnOk}
use Rattle.message_json.specs.Values.{tagged}
use Rattle.message_json.proofs.Grown.{case_grown, members_held}
use Rattle.run_journal.specs.Steps.{left_json}
use Rattle.run_journal.proofs.steps.put_left.Goals as goal

pub returns : goal.returns
unfolding tagged
returns c =
    let json = left_json c.args.fileset c.args.to in
    let all = case_grown (codes "left") (members_held json) c.args.line.now c.begin.new.self c.field-2.new.self c.in_ok-begin.ensures (
      c.field.new.self,
      c.in_ok-field.ensures,
      (c.field-2.new.self, c.in_ok-field-2.ensures, refl),
    ) in
    subst (λ after. OnOk c.end.result (c.end.new.self ≡ after)) all c.end.ensures
