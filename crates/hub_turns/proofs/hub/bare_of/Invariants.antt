use Rattle.std.proofs.Common.{◌≡◌, length, vec_len}
use Rattle.std.specs.Prelude.{vec_capacity}
use Rattle.hub_turns.specs.Views.{AreBare}
use Rattle.hub_turns.proofs.hub.bare_of.Given as goal

abbrev pub invariant-loop-pass : goal.invariant-loop-pass
invariant-loop-pass l =
    (goal.iterator-loop-pass).can_next l.pass-iterator × (goal.iterator-loop-pass).is_finite l.pass-iterator
    × AreBare l.yielded l.bare.items × (vec_capacity l.bare ≡ vec_capacity l.initial.bare)
    × (vec_len l.bare ≡ length l.yielded)
