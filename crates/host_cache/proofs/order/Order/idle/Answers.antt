use Rattle.std.proofs.Common.{◌≡◌, ℕ, suc, ap, ◌∙◌, arith, List, length, filter, cond, not, ◌∷◌}
use Rattle.std.specs.Map.{values_of}
use Rattle.host_cache.specs.declared.held.Held.{Held}
use Rattle.host_cache.specs.Holding.{is_idle}
use Rattle.host_cache.specs.Keys.{IdKey}
use Rattle.host_cache.proofs.Ordering.{idle_few}
use Rattle.host_cache.proofs.order.Order.idle.Goals as goal

abbrev count : List (IdKey × Held) → ℕ
count es = length (filter is_idle (values_of es))

pub loop-held-init : goal.loop-held-init
loop-held-init c =
    let e : count c.iter-entries.result ≡ length (filter is_idle c.args.self.now) =
    ap count c.iter-entries.ensures.rest ∙ ap (λ v. length (filter is_idle v)) c.self.view_is in
    (tt, tt, omega (arith, e))

pub overflow_add-count : goal.overflow_add-count
overflow_add-count c =
    let e : count c.self.inside.entries.entries ≡ length (filter is_idle c.args.self.now) =
    ap (λ v. length (filter is_idle v)) c.self.view_is in
    let few = idle_few c.self.inside.entries.entries in
    let inv = c.loop-held.invariant.2 in
    let fits = c.len-all.ensures.fits in
    let all = c.len-all.ensures.len in
    omega (arith, e, few, inv, fits, all)

pub loop-held-preserved-then-not-held : goal.loop-held-preserved-then-not-held
loop-held-preserved-then-not-held c =
    let e : count c.loop-held.entries ≡ suc (count c.next.new.self) =
    ap count c.in-Some.ensures.steps
    ∙ ap (λ b. length (cond (not b) (c.in-Some.held.now ∷ filter is_idle (values_of c.next.new.self))
    (filter is_idle (values_of c.next.new.self)))) c.if-not-held.true in
    let inv = c.loop-held.invariant.2 in
    (tt, tt, omega (arith, e, inv))

pub loop-held-preserved : goal.loop-held-preserved
loop-held-preserved c =
    let e : count c.loop-held.entries ≡ count c.next.new.self =
    ap count c.in-Some.ensures.steps
    ∙ ap (λ b. length (cond (not b) (c.in-Some.held.now ∷ filter is_idle (values_of c.next.new.self))
    (filter is_idle (values_of c.next.new.self)))) c.if-not-held.false in
    let inv = c.loop-held.invariant.2 in
    (tt, tt, omega (arith, e, inv))

pub returns : goal.returns
returns c =
    let e : count c.loop-held.entries ≡ 0 = ap count c.in_default.ensures.steps.0 in
    let inv = c.loop-held.invariant.2 in
    omega (arith, e, inv)
