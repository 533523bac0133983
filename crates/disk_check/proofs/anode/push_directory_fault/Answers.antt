use Rattle.std.proofs.Common.{◌∙◌, ◌++◌}
use Rattle.disk_pages.specs.Blocks.{is_entry_block}
use Rattle.disk_judge.specs.Metadata.{over}
use Rattle.disk_check.proofs.Read.{directory_is}
use Rattle.disk_check.proofs.anode.push_directory_fault.Goals as goal

pub returns : goal.returns
returns c = λ image slot i page_is are.
    let disk = over c.args.metadata.now image in
    c.in_ok-push_unless_block.ensures image
    ∙ (λ j. c.args.faults.now.items
    ++ directory_is disk slot i c.args.n _ c.args.page.now c.args.parts.now _ page_is are (c.entry_pointer-pointer.ensures disk.blocks)
    (c.is_entry_block-is_block.ensures ∙ (λ k. is_entry_block (c.entries_in.ensures.value k) (c.deref.ensures.value k) c.args.n)) j)
