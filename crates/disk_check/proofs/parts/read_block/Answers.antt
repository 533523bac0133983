use Rattle.std.proofs.Common.{◌≡◌, ◌∙◌, sym}
use Rattle.std.specs.Prelude.{true, false}
use Rattle.std.proofs.lemmas.Bool.{cond-true, cond-false}
use Rattle.base_types.specs.Image.{bytes_from}
use Rattle.disk_anode.specs.Node.{is_pointer}
use Rattle.disk_check.proofs.parts.read_block.Goals as goal

pub returns-then-not-names_block-clause-bytes : goal.returns-then-not-names_block-clause-bytes
returns-then-not-names_block-clause-bytes g c = λ told.
    let fails : is_pointer c.args.metadata.now.blocks c.args.pointer ≡ false = sym c.names_block.ensures ∙ c.if-not-names_block.true in
    sym (cond-false (is_pointer c.args.metadata.now.blocks c.args.pointer) _ _ fails)

pub returns-clause-bytes : goal.returns-clause-bytes
returns-clause-bytes g c = λ told.
    let holds : is_pointer c.args.metadata.now.blocks c.args.pointer ≡ true = sym c.names_block.ensures ∙ c.if-not-names_block.false in
    c.in_ok-read.ensures.bytes told ∙ (λ j. bytes_from (g.D.Disk.view c.args.disk.now).image (c.block_place.ensures.place j) 1024)
    ∙ sym (cond-true (is_pointer c.args.metadata.now.blocks c.args.pointer) _ _ holds)
