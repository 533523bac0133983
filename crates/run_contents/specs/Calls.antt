-- The calls of a host in a run. Lists of steps have the newest first.
use Rattle.std.specs.Prelude.{List, suc, ℕ, ◌∷◌, ◌≡◌}
use Rattle.base_types.specs.declared.ids.HostId.{HostId}
use Rattle.base_types.specs.declared.ids.Node.TheVariants.{Host}
use Rattle.tree_calls.specs.declared.call.Call.{Call}
use Rattle.run_rules.specs.Past.{Always}
use Rattle.run_rules.specs.Steps.{steps_of_host}
use Rattle.run_rules.specs.Tokens.{BeginsCall, IsOpen, NoneOpen, calls_begun}
use Rattle.run_rules.specs.declared.step.Asked.{Asked}
use Rattle.run_rules.specs.declared.step.Step.{Step}

-- a call begins when none of its host is open, with the next number among the host's
abbrev pub CallsInOrder : List Step → Type 0
CallsInOrder past =
    Always (λ before s. (host : HostId) → s.node ≡ Host host → (k : ℕ) (call : Call) → BeginsCall s k call
    → NoneOpen (steps_of_host host before) × (k ≡ suc (calls_begun (steps_of_host host before)))) past

-- after a host's step one of its calls is open, or none, and it is the one that was begun last
abbrev pub OneIsOpen : List Step → Type 0
OneIsOpen past =
    Always (λ before s. (host : HostId) → s.node ≡ Host host → (a b : Asked) → IsOpen (s ∷ steps_of_host host before) a
    → IsOpen (s ∷ steps_of_host host before) b → (a ≡ b) × (a.k ≡ calls_begun (s ∷ steps_of_host host before))) past
