use Rattle.std.proofs.Common.{ap, sym, ◌∙◌, List, filter, option_map}
use Rattle.std.specs.Map.{values_of}
use Rattle.host_cache.specs.declared.held.Held.{Held}
use Rattle.host_cache.specs.Holding.{is_idle, last_of}
use Rattle.host_cache.specs.Keys.{IdKey}
use Rattle.host_cache.proofs.Ordering.{last_idle, last_used}
use Rattle.host_cache.proofs.order.Order.oldest.Goals as goal

pub loop-held-init : goal.loop-held-init
loop-held-init c =
    ap (λ (es : List (IdKey × Held)). last_of (filter is_idle (values_of es))) c.iter-entries.ensures.rest
    ∙ ap (λ v. last_of (filter is_idle v)) c.self.view_is

pub returns-then-not-held : goal.returns-then-not-held
returns-then-not-held c =
    ap (option_map (λ (h : Held). h.token.id))
    (sym (last_idle c.loop-held.entries c.next_back.new.self c.in-Some.field-0-0.now c.in-Some.held.now
    c.in-Some.ensures.steps c.if-not-held.true) ∙ c.loop-held.invariant)

pub loop-held-preserved : goal.loop-held-preserved
loop-held-preserved c =
    sym (last_used c.loop-held.entries c.next_back.new.self c.in-Some.field-0-0.now c.in-Some.held.now
    c.in-Some.ensures.steps c.if-not-held.false) ∙ c.loop-held.invariant

pub returns : goal.returns
returns c =
    ap (option_map (λ (h : Held). h.token.id))
    (sym (ap (λ (es : List (IdKey × Held)). last_of (filter is_idle (values_of es))) c.in_default.ensures.steps.0)
    ∙ c.loop-held.invariant)
