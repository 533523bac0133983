use Rattle.std.proofs.Common.{◌≡◌, ap, sym, ◌∙◌, refl, subst, take, length, arith, List}
use Rattle.host_cache.specs.Holding.{used_each}
use Rattle.host_cache.specs.declared.held.Held.{Held}
use Rattle.host_cache.specs.Seen.{Kept, Seen, after_used, seen}
use Rattle.host_cache.proofs.Marked.{used_again, used_all_of, used_next}
use Rattle.host_cache.proofs.cache.Cache.mark_all.Goals as goal

pub returns-then-is_marked : goal.returns-then-is_marked
returns-then-is_marked c =
    λ i. record (seen c.args.self.now) { held = sym (c.is_marked.ensures c.if-is_marked.true) i }

pub loop-need-preserved : goal.loop-need-preserved
loop-need-preserved c =
    let first = c.args.self.now in
    let needs = c.args.needs.now in
    c.used.ensures ∙ ap (λ (s : Seen). after_used s c.need-item.result) c.loop-need.invariant
    ∙ (λ i. record (seen first) {
      held = used_next needs c.loop-need.need-index c.need-item.result first.held
          (used_each (take c.loop-need.need-index needs) first.held) c.loop-need-test.true c.need-item.is refl i;
    })

pub note-requires : goal.note-requires
note-requires c =
    let first = c.args.self.now in
    let needs = c.args.needs.now in
    let end : c.loop-need.need-index ≡ length needs =
    omega (arith, c.loop-need-test.false, c.loop-need.auto.need-index-end) in
    let all : c.self-2.inside.order ≡ used_each needs first.held =
    ap (λ (k : Kept). k.held) c.self-2.view_is ∙ ap (λ (s : Seen). s.held) c.loop-need.invariant
    ∙ ap (λ n. used_each (take n needs) first.held) end ∙ used_all_of needs first.held in
    subst (λ (o : List Held). used_each needs o ≡ o) (sym all) (used_again needs first.held)
