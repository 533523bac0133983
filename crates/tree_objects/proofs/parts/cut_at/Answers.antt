use Rattle.tree_objects.proofs.Cuts.{cut_found}
use Rattle.tree_objects.proofs.parts.cut_at.Goals as goal

pub returns : goal.returns
returns c =
    cut_found c.args.stretches.now c.args.from c.args.to c.count_ended-first.result c.count_begun.result c.max.result
    c.count_ended-first.ensures.within c.count_begun.ensures.within c.max.ensures c.count_ended-first.ensures.below
    c.count_begun.ensures.above
