use Rattle.std.proofs.Common.{subst, ap, sym, ◌∙◌}
use Rattle.host_gives.specs.Giving.{Giving, IsSound, is_numbered, taken_out, after_take_out}
use Rattle.host_gives.proofs.Staying.{sound_without}
use Rattle.host_gives.proofs.gives.Gives.take_out.Goals as goal

pub invariant_of-self : goal.invariant_of-self
invariant_of-self c =
    let giving : Giving = record { gives = c.self.inside.gives; counters = c.self.inside.counters } in
    subst (λ gives. IsSound (record { gives = gives; counters = c.self.inside.counters })) (sym c.take.ensures.rest)
    (sound_without giving (is_numbered c.args.fileset c.args.number) c.self.invariant)

pub returns-clause-taken : goal.returns-clause-taken
returns-clause-taken c = c.take.ensures.taken ∙ ap (λ s. taken_out s c.args.fileset c.args.number) c.self.view_is

pub returns-clause-after : goal.returns-clause-after
returns-clause-after c =
    ap (λ gives. record { gives = gives; counters = c.self.inside.counters }) c.take.ensures.rest
    ∙ ap (λ s. after_take_out s c.args.fileset c.args.number) c.self.view_is
