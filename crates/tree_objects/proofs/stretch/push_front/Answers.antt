use Rattle.std.proofs.Common.{◌≡◌, ◌++◌, min, subst, ◌∙◌}
use Rattle.std.specs.Prelude.{OnOk}
use Rattle.tree_objects.specs.Stretches.{all_bytes}
use Rattle.tree_objects.proofs.Pieces.{front_of}
use Rattle.tree_objects.proofs.stretch.push_front.Goals as goal

pub returns-clause-bytes : goal.returns-clause-bytes
returns-clause-bytes c =
    let count = c.min-count.ensures ∙ (λ i. min (c.saturating_sub.ensures i) (c.len.ensures i)) in
    subst (λ part. OnOk c.push_part.result (all_bytes c.push_part.new.list.items ≡ all_bytes c.args.list.now.items ++
    part))
    (front_of c.args.stretch.now c.args.end c.min-count.result count) c.push_part.ensures.bytes
