use Rattle.std.proofs.Common.{◌<◌, sym, subst}
use Rattle.tree_objects.proofs.Stored.{span_stored, span_more, between_stored}
use Rattle.tree_objects.proofs.splits.part_sought.Goals as goal

pub returns-in-Some-clause-more : goal.returns-in-Some-clause-more
returns-in-Some-clause-more c =
    subst (λ to. c.args.at < to) (sym c.min.ensures) (span_more c.args.spans.now c.args.end c.args.at c.in-Some.span
    c.requires.below (sym c.in-Some.ensures))

pub returns-in-Some-clause-alike : goal.returns-in-Some-clause-alike
returns-in-Some-clause-alike c place low high =
    span_stored c.args.spans.now c.args.end c.args.at place c.in-Some.span (sym c.in-Some.ensures) low
    (subst (λ to. place < to) c.min.ensures high)

pub returns-in-None-clause-alike : goal.returns-in-None-clause-alike
returns-in-None-clause-alike c place low high =
    between_stored c.args.spans.now c.args.end c.args.at place (sym c.in-None.ensures) low
    (subst (λ to. place < to) c.next_of.ensures high)
