use Rattle.std.proofs.Common.{◌≡◌, false, ◌==◌, None, Some, subst, ap, sym, true, ◌∙◌}
use Rattle.std.specs.Option.{option_map_or}
use Rattle.std.proofs.lemmas.Bool.{eq-eqb}
use Rattle.host_gives.specs.Giving.{Giving, IsSound, after_gone, gone, is_numbered, is_outstanding, number_of}
use Rattle.host_gives.proofs.Adding.{takes_any}
use Rattle.host_gives.proofs.Going.{gone_nowhere, gone_other, differs}
use Rattle.host_gives.proofs.Staying.{sound_without}
use Rattle.host_gives.proofs.gives.Gives.gone.Goals as goal

pub returns-in_default-clause-gone : goal.returns-in_default-clause-gone
returns-in_default-clause-gone c =
    let giving : Giving = record { gives = c.self.inside.gives; counters = c.self.inside.counters } in
    (gone_nowhere giving c.args.fileset c.args.number (sym c.in_default.ensures)).0
    ∙ ap (λ s. gone s c.args.fileset c.args.number) c.self.view_is

pub returns-in_default-clause-after : goal.returns-in_default-clause-after
returns-in_default-clause-after c =
    let giving : Giving = record { gives = c.self.inside.gives; counters = c.self.inside.counters } in
    subst (λ s. s ≡ after_gone s c.args.fileset c.args.number) c.self.view_is
    (gone_nowhere giving c.args.fileset c.args.number (sym c.in_default.ensures)).1

other : (c : goal.Then-number_of-number) →
    let giving : Giving = record { gives = c.self.inside.gives; counters = c.self.inside.counters } in
    (None ≡ gone giving c.args.fileset c.args.number) × (giving ≡ after_gone giving c.args.fileset c.args.number)
other c =
    let giving : Giving = record { gives = c.self.inside.gives; counters = c.self.inside.counters } in
    let first = c.in-Some.first.now in
    let apart : (number_of first == c.args.number) ≡ false =
    differs (number_of first) c.args.number (λ e. c.if-number_of-number.true (c.number_of.ensures ∙ e)) in
    gone_other giving c.args.fileset c.args.number first (sym c.in-Some.ensures) apart

pub returns-then-number_of-number-clause-gone : goal.returns-then-number_of-number-clause-gone
returns-then-number_of-number-clause-gone c =
    (other c).0 ∙ ap (λ s. gone s c.args.fileset c.args.number) c.self.view_is

pub returns-then-number_of-number-clause-after : goal.returns-then-number_of-number-clause-after
returns-then-number_of-number-clause-after c =
    subst (λ s. s ≡ after_gone s c.args.fileset c.args.number) c.self.view_is (other c).1

pub invariant_of-self : goal.invariant_of-self
invariant_of-self c =
    let giving : Giving = record { gives = c.self.inside.gives; counters = c.self.inside.counters } in
    subst (λ gives. IsSound (record { gives = gives; counters = c.self.inside.counters })) (sym c.take.ensures.rest)
    (sound_without giving (is_numbered c.args.fileset c.args.number) c.self.invariant)

is_first : (c : goal.After-take) →
    let giving : Giving = record { gives = c.self.inside.gives; counters = c.self.inside.counters } in
    is_outstanding giving c.args.fileset c.args.number ≡ true
is_first c =
    let number = c.args.number in
    ap (λ o. option_map_or (λ m. number_of m == number) o false) (sym c.in-Some.ensures)
    ∙ eq-eqb (number_of c.in-Some.first.now) number (sym c.number_of.ensures ∙ c.if-number_of-number.false)

pub returns-clause-gone : goal.returns-clause-gone
returns-clause-gone c =
    let giving : Giving = record { gives = c.self.inside.gives; counters = c.self.inside.counters } in
    c.take.ensures.taken ∙ ((takes_any giving c.args.fileset c.args.number).outstanding (is_first c)).0
    ∙ ap (λ s. gone s c.args.fileset c.args.number) c.self.view_is

pub returns-clause-after : goal.returns-clause-after
returns-clause-after c =
    let giving : Giving = record { gives = c.self.inside.gives; counters = c.self.inside.counters } in
    ap (λ gives. record { gives = gives; counters = c.self.inside.counters }) c.take.ensures.rest
    ∙ ((takes_any giving c.args.fileset c.args.number).outstanding (is_first c)).1
    ∙ ap (λ s. after_gone s c.args.fileset c.args.number) c.self.view_is
