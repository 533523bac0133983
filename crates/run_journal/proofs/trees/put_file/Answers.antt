use Rattle.std.proofs.Common.{◌≡◌, ◌∙◌, ◌∷◌, ◌++◌, ap, codes, refl, subst}
use Rattle.std.specs.Prelude.{OnOk}
use Rattle.message_json.proofs.Grown.{case_grown, members_held}
use Rattle.json.specs.Token.{key}
use Rattle.json.specs.Tree.{json_tokens}
use Rattle.message_json.specs.Values.{letters, tagged}
use Rattle.run_journal.specs.Trees.{file_json}
use Rattle.run_journal.proofs.trees.put_file.Goals as goal

pub returns : goal.returns
unfolding tagged
returns c =
    let json = file_json c.args.list.now c.args.kept.now c.args.unsaved.now c.args.length.now in
    let kept = c.in_ok-field_bytes.ensures
    ∙ ap (λ bytes. c.field.new.self ++ key (codes "kept") ∷ json_tokens (letters bytes)) c.as_slice.ensures in
    let all = case_grown (codes "file") (members_held json) c.args.line.now c.begin.new.self c.put_field-2.new.line c.in_ok-begin.ensures (
      c.field.new.self,
      c.in_ok-field.ensures,
      (
        c.field_bytes.new.self,
        kept,
        (
          c.put_field.new.line,
          c.in_ok-put_field.ensures,
          (c.put_field-2.new.line, c.in_ok-put_field-2.ensures, refl),
        ),
      ),
    ) in
    subst (λ after. OnOk c.end.result (c.end.new.self ≡ after)) all c.end.ensures
