use Rattle.std.proofs.Common.{rules, refl, sym, ◌∙◌, ◌+◌, ◌++◌, ap, arith, ℕ, List, length}
use Rattle.std.proofs.lemmas.List.{length-append}
use Rattle.base_outside.proofs.Runs.{quiet_then}
use Rattle.disk_layout.specs.Numbers.{number_at}
use Rattle.disk_anode.specs.Node.{map_under, pointer_of, pointer_at}
use Rattle.disk_anode.specs.declared.node.Node.{Node}
use Rattle.disk_image.proofs.Joined.{joined_none, joined_more}
use Rattle.disk_judge.specs.Metadata.{over}
use Rattle.disk_check.proofs.Read.{node_is}
use Rattle.disk_check.proofs.parts.read_entries.Goals as goal

pub loop-n-init : goal.loop-n-init
loop-n-init g c = record {
  size = search rules;
  bytes = λ told slot i page_is map_is. c.new-bytes.ensures.items ∙ sym (joined_none _);
  quiet = search rules;
  counted = search rules;
}

pub loop-n-preserved : goal.loop-n-preserved
loop-n-preserved g c =
    let inv = c.loop-n.invariant in
    let start = g.D.Disk.view c.args.disk.now in
    let metadata = c.args.metadata.now in
    let n = c.loop-n.n in
    record {
      size = ap (λ (l : List ℕ). length l) c.in_ok-extend_from_slice.ensures.items ∙ length-append c.loop-n.bytes.items _ ∙ (let a = inv.size in omega (arith, a));
      bytes = λ told slot i page_is map_is.
          let disk = over metadata start.image in
          let whole = map_is ∙ ap (λ (p : List ℕ). map_under metadata.blocks start.image (number_at 4 72 p)) page_is in
          let pointer = c.entry_pointer.ensures metadata.blocks ∙ ap (λ (node : Node). pointer_of node (pointer_at n)) (node_is disk slot i c.args.page.now c.args.map.now page_is whole) in
          c.in_ok-extend_from_slice.ensures.items
          ∙ (λ j. inv.bytes told slot i page_is map_is j ++ (c.in_ok-block.ensures.bytes told ∙ (λ l. map_under metadata.blocks (inv.quiet.image l) (pointer l))) j)
          ∙ sym (joined_more _ n (n + 1) refl);
      quiet = quiet_then inv.quiet c.read_block.ensures.quiet;
      counted = let a = inv.counted in let b = c.read_block.ensures.blamed.counted in omega (arith, a, b);
    }
