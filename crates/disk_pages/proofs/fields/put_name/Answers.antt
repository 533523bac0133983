use Rattle.std.proofs.Common.{◌≡◌, ◌∙◌, ℕ, List, subst, sym}
use Rattle.std.specs.Prelude.{true}
use Rattle.base_types.specs.Name.{is_name}
use Rattle.disk_pages.proofs.Kept.{name_written}
use Rattle.disk_pages.proofs.fields.put_name.Goals as goal

pub returns-clause-name : goal.returns-clause-name
returns-clause-name c =
    let same = c.as_bytes-bytes.ensures.value in
    let is = subst (λ (name : List ℕ). is_name name ≡ true) (sym same) c.as_bytes-bytes.ensures.name in
    (name_written c.args.at c.as_bytes-bytes.result.now c.args.page.now c.put_byte.new.page c.put_bytes.new.bytes is c.requires.zeros
    c.put_byte.ensures.rest c.put_byte.ensures.byte c.put_bytes.ensures.rest c.put_bytes.ensures.piece).0 ∙ same

pub returns-clause-is_name : goal.returns-clause-is_name
returns-clause-is_name c =
    let same = c.as_bytes-bytes.ensures.value in
    let is = subst (λ (name : List ℕ). is_name name ≡ true) (sym same) c.as_bytes-bytes.ensures.name in
    (name_written c.args.at c.as_bytes-bytes.result.now c.args.page.now c.put_byte.new.page c.put_bytes.new.bytes is c.requires.zeros
    c.put_byte.ensures.rest c.put_byte.ensures.byte c.put_bytes.ensures.rest c.put_bytes.ensures.piece).1
