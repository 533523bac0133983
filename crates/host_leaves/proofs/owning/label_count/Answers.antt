use Rattle.std.proofs.Common.{arith, ap, filter, length, min, ◌+◌, ◌∙◌, ◌≤◌}
use Rattle.std.proofs.lemmas.List.Sums.{count_by-le-length, length-filter}
use Rattle.host_leaves.proofs.Labels.{ending_low, filter_low}
use Rattle.std.specs.Bool.{beq}
use Rattle.host_labels.specs.Labels.{is_lock}
use Rattle.host_labels.specs.declared.uses.Labelled.{Labelled}
use Rattle.host_leaves.proofs.owning.label_count.Goals as goal

pub returns : goal.returns
returns c =
    let low = ending_low c.args.lock c.args.tables.now.ending in
    let most = filter_low (λ (used : Labelled). beq (is_lock used.token.kind) c.args.lock) c.labels-labels.result.now in
    let all = ap (λ labels. length (filter (λ (used : Labelled). beq (is_lock used.token.kind) c.args.lock) labels))
    c.labels-labels.ensures in
    omega (arith, c.saturating_add.ensures, c.count_of.ensures, c.ending_count.ensures, low, most, all)
