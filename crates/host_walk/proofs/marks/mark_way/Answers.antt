use Rattle.std.proofs.Common.{◌≡◌, ◌++◌, ap, sym, ◌∙◌}
use Rattle.host_cache.specs.Holding.{used_each}
use Rattle.host_cache.specs.Seen.{seen}
use Rattle.host_walk.specs.Marks.{marks_of}
use Rattle.host_walk.specs.Views.{view_of}
use Rattle.host_walk.proofs.Marking.{used_as_each}
use Rattle.host_walk.proofs.marks.mark_way.Goals as goal

pub returns-then-are_of : goal.returns-then-are_of
returns-then-are_of c =
    let first = c.args.cache.now in
    let needs = marks_of (view_of first) c.args.user.now c.args.needs.now c.args.path.now c.args.at in
    let all : c.all.result.now ≡ needs =
    c.all.ensures ∙ c.are_of.ensures c.if-are_of.true ∙ ap (λ before. before ++ needs) c.none-marks.ensures in
    c.mark_all.ensures ∙ (λ i. record (seen first) { held = used_each (all i) first.held })
    ∙ sym (used_as_each needs (seen first))
