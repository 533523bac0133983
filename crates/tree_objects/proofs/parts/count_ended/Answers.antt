use Rattle.std.proofs.Common.{◌+◌, length, nat_le, rules}
use Rattle.std.proofs.lemmas.List.Sorted.{IsPartitionPoint-from_clause}
use Rattle.tree_objects.proofs.Cuts.{ended_first, below_of}
use Rattle.tree_objects.proofs.parts.count_ended.Goals as goal

pub returns-clause-below : goal.returns-clause-below
returns-clause-below c =
    let ss = c.args.stretches.now in let at = c.args.at in let i = c.partition_point.result in
    let point = IsPartitionPoint-from_clause (λ stretch. nat_le (stretch.from + length stretch.bytes) at) ss i
    c.partition_point.ensures.partitioned (ended_first at ss c.requires) (λ a r f' q. search rules) in
    below_of at ss i point.0
