-- Where the history stands with a host's calls. `W` are the Changes that servers have written down, `G` the give-backs
-- of the host that they have applied, `E` the calls of the host in the history.
use Rattle.std.proofs.Common.{◌≡◌, List, [], ◌∷◌, ◌++◌, Some}
use Rattle.base_types.specs.declared.ids.HostId.{HostId}
use Rattle.base_types.specs.declared.ids.ServerId.{ServerId}
use Rattle.message_types.specs.declared.giving.AppliedGive.{AppliedGive}
use Rattle.message_types.specs.declared.giving.Ends.{Ends}
use Rattle.message_types.specs.declared.giving.Give.{Give}
use Rattle.run_due.specs.Begun.{begun_by}
use Rattle.run_rules.specs.Messages.{Changing}
use Rattle.run_rules.specs.Tokens.{IsKnown, IsOpen, Made, number_of}
use Rattle.run_rules.specs.declared.applied.Written.{Written}
use Rattle.run_rules.specs.declared.step.Asked.{Asked}
use Rattle.run_rules.specs.declared.step.Step.{Step}

-- why a call that is open has its entry: its Change was written down, and the Done hasn't come; or the give-back that
-- ends it was applied, and isn't known as applied
pub data Reason (A : List Step) (host : HostId) (W : ServerId → Written → Type 0) (G : ServerId → AppliedGive → Type 0)
    (x : Asked) : Type 0 where
  ByChange : (v : ServerId) (w : Written) → W v w → w.answer.host ≡ host → w.answer.k ≡ x.k
      → Changing A v w.fileset w.number → Reason A host W G x
  ByGive : (v : ServerId) (g : Give) (ends : Ends) → Made A g → g.ends ≡ Some ends → ends.k ≡ x.k → G v (number_of g)
      → (IsKnown A g → ⊥) → Reason A host W G x

-- All calls that the host has begun have their entries, and one that is open has a reason for it; or the last one is
-- open and has none: no Change of it was written down, and no give-back that ends it was applied.
pub data State (A : List Step) (host : HostId) (W : ServerId → Written → Type 0) (G : ServerId → AppliedGive → Type 0)
    (E : List Asked) : Type 0 where
  Whole : E ≡ begun_by A → ((x : Asked) → IsOpen A x → Reason A host W G x) → State A host W G E
  Waits : (x : Asked) → IsOpen A x → E ++ x ∷ [] ≡ begun_by A
      → ((v : ServerId) (w : Written) → W v w → w.answer.host ≡ host → w.answer.k ≡ x.k → ⊥)
      → ((v : ServerId) (g : Give) (ends : Ends) → Made A g → g.ends ≡ Some ends → ends.k ≡ x.k → G v (number_of g) → ⊥)
      → State A host W G E
