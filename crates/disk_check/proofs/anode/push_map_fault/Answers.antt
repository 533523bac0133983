use Rattle.std.proofs.Common.{◌∙◌, ◌++◌, ◌==◌, arith}
use Rattle.base_types.specs.Image.{byte_at}
use Rattle.disk_pages.specs.Blocks.{is_map}
use Rattle.disk_judge.specs.Metadata.{over}
use Rattle.disk_check.proofs.Read.{front, map_is}
use Rattle.disk_check.proofs.anode.push_map_fault.Goals as goal

pub returns : goal.returns
returns c = λ image slot i page_is are.
    let disk = over c.args.metadata.now image in
    let page = c.args.page.now in
    c.in_ok-push_unless_block.ensures image
    ∙ (λ j. c.args.faults.now.items
    ++ map_is disk slot i _ page _ _ page_is are.map (c.page_pointer.ensures ∙ front disk slot i 15 page page_is (omega arith))
    (c.is_map-is_map.ensures ∙ (λ k. is_map disk.blocks (byte_at page 0 == 1) (c.bytes_in.ensures.value k) c.args.parts.now.map)) j)
