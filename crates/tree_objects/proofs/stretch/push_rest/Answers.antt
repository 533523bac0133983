use Rattle.std.proofs.Common.{◌≡◌, ◌-◌, ◌+◌, ◌++◌, min, take, drop, subst, ◌∙◌}
use Rattle.std.specs.Prelude.{OnOk}
use Rattle.tree_objects.specs.Positions.{written}
use Rattle.tree_objects.specs.Stretches.{all_bytes}
use Rattle.tree_objects.proofs.Pieces.{rest_of}
use Rattle.tree_objects.proofs.stretch.push_rest.Goals as goal

pub returns-clause-bytes : goal.returns-clause-bytes
returns-clause-bytes c =
    let stretch = c.args.stretch.now in let skipped = c.min-skipped.result in
    let few = c.min-skipped.ensures ∙ (λ i. min (c.saturating_sub.ensures i) (c.len-count.ensures i)) in
    let part = subst (λ n. OnOk c.push_part.result (all_bytes c.push_part.new.list.items ≡ all_bytes
    c.args.list.now.items ++ written stretch.writer (stretch.from + skipped)
    (take (n - skipped) (drop skipped stretch.bytes))))
    c.len-count.ensures c.push_part.ensures.bytes in
    subst (λ part. OnOk c.push_part.result (all_bytes c.push_part.new.list.items ≡ all_bytes c.args.list.now.items ++
    part))
    (rest_of stretch c.args.from skipped few) part
