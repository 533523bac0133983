use Rattle.std.proofs.Common.{◌≡◌, ◌≤◌, ◌+◌, ◌-◌, List, sym, subst, set, ◌∙◌, arith}
use Rattle.std.specs.Prelude.{true, false, not, Bool, nat_lt, nat_le}
use Rattle.std.proofs.lemmas.Bool.{and_parts, ltb-true, leb-true}
use Rattle.disk_pages.specs.Anode.{is_object}
use Rattle.disk_image.specs.Aggregate.{anode_page, names_block}
use Rattle.disk_image.specs.Counts.{is_mapped, pointer_in}
use Rattle.disk_judge.specs.Metadata.{over}
use Rattle.disk_check.specs.Found.{AreMapped}
use Rattle.disk_check.proofs.Read.{front}
use Rattle.disk_check.proofs.Looking.{uses_alone, uses_mapped, mapped_same, mapped_set, no_map}
use Rattle.disk_check.proofs.anode.push_uses.Goals as goal

pub returns-then-not-names_block-clause-uses : goal.returns-then-not-names_block-clause-uses
returns-then-not-names_block-clause-uses c = λ image i page_is are mapped.
    let disk = over c.args.metadata.now image in
    let slot = c.args.slot in
    let pointer_is = c.page_pointer-pointer.ensures ∙ front disk slot i 15 c.args.page.now page_is (omega arith) in
    let object : is_object (anode_page disk slot i) ≡ true = (λ j. is_object (sym page_is j)) ∙ c.requires.object in
    let absent : names_block disk (pointer_in disk slot i 15) ≡ false = (λ j. names_block disk (sym pointer_is j)) ∙ sym c.names_block.ensures ∙ c.if-not-names_block.true in
    uses_alone disk slot i object _ _ absent (c.in_ok-push_page_uses.ensures c.args.metadata.now image i page_is)

pub returns-then-not-names_block-clause-mapped : goal.returns-then-not-names_block-clause-mapped
returns-then-not-names_block-clause-mapped c = λ image i page_is are mapped.
    let disk = over c.args.metadata.now image in
    let slot = c.args.slot in
    let pointer_is = c.page_pointer-pointer.ensures ∙ front disk slot i 15 c.args.page.now page_is (omega arith) in
    let absent : names_block disk (pointer_in disk slot i 15) ≡ false = (λ j. names_block disk (sym pointer_is j)) ∙ sym c.names_block.ensures ∙ c.if-not-names_block.true in
    mapped_same disk slot i c.args.mapped.now.items (λ pointer some there. no_map disk slot i pointer some there absent) mapped

pub returns-clause-uses : goal.returns-clause-uses
returns-clause-uses c = λ image i page_is are mapped.
    let disk = over c.args.metadata.now image in
    let slot = c.args.slot in
    let pointer_is = c.page_pointer-pointer.ensures ∙ front disk slot i 15 c.args.page.now page_is (omega arith) in
    let object : is_object (anode_page disk slot i) ≡ true = (λ j. is_object (sym page_is j)) ∙ c.requires.object in
    let there : names_block disk (pointer_in disk slot i 15) ≡ true = (λ j. names_block disk (sym pointer_is j)) ∙ sym c.names_block.ensures ∙ c.if-not-names_block.false in
    let pointer = c.page_pointer-pointer.result in
    let parts = and_parts (nat_lt 0 pointer) (nat_le pointer disk.blocks) (sym c.names_block.ensures ∙ c.if-not-names_block.false) in
    let some : 1 ≤ pointer = let a = ltb-true 0 pointer parts.0 in omega (arith, a) in
    let was = c.was_mapped-was.ensures.was ∙ mapped pointer some (leb-true pointer disk.blocks parts.1) ∙ (λ j. is_mapped disk slot i (pointer_is j)) in
    uses_mapped disk slot i object _ _ _ there (c.in_ok-push_page_uses.ensures c.args.metadata.now image i page_is)
    (c.in_ok-push_map_uses.ensures disk i are.map (λ j. not (was j)))

pub returns-clause-mapped : goal.returns-clause-mapped
returns-clause-mapped c = λ image i page_is are mapped.
    let disk = over c.args.metadata.now image in
    let slot = c.args.slot in
    let pointer_is = c.page_pointer-pointer.ensures ∙ front disk slot i 15 c.args.page.now page_is (omega arith) in
    let object : is_object (anode_page disk slot i) ≡ true = (λ j. is_object (sym page_is j)) ∙ c.requires.object in
    let there : names_block disk (pointer_in disk slot i 15) ≡ true = (λ j. names_block disk (sym pointer_is j)) ∙ sym c.names_block.ensures ∙ c.if-not-names_block.false in
    let next = c.was_mapped-was.ensures.noted ∙ (λ j. set c.args.mapped.now.items (pointer_is j - 1) true) in
    subst (λ (l : List Bool). AreMapped disk slot (i + 1) l) (sym next) (mapped_set disk slot i c.args.mapped.now.items c.requires.size object there mapped)
