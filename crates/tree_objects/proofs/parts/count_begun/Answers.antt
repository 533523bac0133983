use Rattle.std.proofs.Common.{nat_lt, rules}
use Rattle.std.proofs.lemmas.List.Sorted.{IsPartitionPoint-from_clause}
use Rattle.tree_objects.proofs.Cuts.{begun_first, above_of}
use Rattle.tree_objects.proofs.parts.count_begun.Goals as goal

pub returns-clause-above : goal.returns-clause-above
returns-clause-above c =
    let ss = c.args.stretches.now in let at = c.args.at in let i = c.partition_point.result in
    let point = IsPartitionPoint-from_clause (λ stretch. nat_lt stretch.from at) ss i
    c.partition_point.ensures.partitioned (begun_first at ss c.requires) (λ a r f' q. search rules) in
    above_of at ss i point.1
