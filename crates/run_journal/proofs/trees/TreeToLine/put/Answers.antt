use Rattle.std.proofs.Common.{◌≡◌, refl, subst}
use Rattle.std.specs.Prelude.{OnOk}
use Rattle.run_journal.specs.Trees.{tree_json}
use Rattle.message_json.proofs.Grown.{members_in, object_grown}
use Rattle.run_journal.proofs.trees.TreeToLine.put.Goals as goal

pub returns : goal.returns
unfolding tree_json
returns c =
    let all = object_grown (members_in (tree_json c.args.self.now)) c.args.line.now c.open.new.self c.put_field-6.new.line c.in_ok-open.ensures (
      c.put_field.new.line,
      c.in_ok-put_field.ensures,
      (
        c.put_field-2.new.line,
        c.in_ok-put_field-2.ensures,
        (
          c.put_field-3.new.line,
          c.in_ok-put_field-3.ensures,
          (
            c.put_field-4.new.line,
            c.in_ok-put_field-4.ensures,
            (
              c.put_field-5.new.line,
              c.in_ok-put_field-5.ensures,
              (c.put_field-6.new.line, c.in_ok-put_field-6.ensures, refl),
            ),
          ),
        ),
      ),
    ) in
    subst (λ after. OnOk c.close.result (c.close.new.self ≡ after)) all c.close.ensures
