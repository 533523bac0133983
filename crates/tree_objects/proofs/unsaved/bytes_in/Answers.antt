use Rattle.std.proofs.Common.{◌≡◌, ◌++◌, length, ap, ◌∙◌, arith}
use Rattle.tree_objects.specs.Positions.{written}
use Rattle.tree_objects.specs.Stretches.{bytes_of, is_stretch}
use Rattle.tree_objects.proofs.Owned.{each_item, whole_next}
use Rattle.tree_objects.proofs.Pieces.{within_of}
use Rattle.tree_objects.proofs.unsaved.bytes_in.Goals as goal

pub push_bytes-requires : goal.push_bytes-requires
push_bytes-requires c =
    let s = c.stretch-item.result in
    let stands = each_item is_stretch c.args.stretches.now c.loop-stretch.stretch-index s c.requires
    c.loop-stretch-test.true c.stretch-item.is in
    let within = within_of s stands in
    let long = ap length c.as_slice-values.ensures in
    omega (arith, within, long)

pub loop-stretch-preserved : goal.loop-stretch-preserved
loop-stretch-preserved c =
    let s = c.stretch-item.result in
    let added : c.push_bytes.new.list ≡ c.loop-stretch.bytes ++ bytes_of s
    = c.in_ok-push_bytes.ensures ∙ ap (λ values. c.loop-stretch.bytes ++ written s.writer s.from values)
    c.as_slice-values.ensures in
    whole_next c.args.stretches.now c.loop-stretch.stretch-index s c.loop-stretch.bytes c.push_bytes.new.list _
    c.loop-stretch-test.true c.stretch-item.is added c.loop-stretch.invariant
