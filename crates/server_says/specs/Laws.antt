-- What makes the definitions of this crate believable: a claim that is granted is granted as the rules of a server say.
use Rattle.std.specs.Prelude.{◌≡◌, ◌∷◌, List}
use Rattle.message_types.specs.declared.giving.Reclaimed.{Reclaimed as ReclaimedOf}
use Rattle.message_types.specs.declared.message.Body.TheVariants.{Reclaimed}
use Rattle.run_rules.specs.Doings.{Doing, HasReclaimed, IsLive}
use Rattle.run_rules.specs.Doings.Doing.{Admits}
use Rattle.run_rules.specs.Past.{In}
use Rattle.run_rules.specs.ServerDue.{AnswersClaim}
use Rattle.run_rules.specs.ServerTokens.{HasTakenGives, MayAdmit}
use Rattle.run_rules.specs.declared.applied.Admission.{Admission}
use Rattle.server_tables.specs.Standing.{Stands}
use Rattle.server_tables.specs.declared.recovering.Claimed.{Claimed}
use Rattle.server_takes.specs.Drafts.{word}
use Rattle.server_takes.specs.Taking.{Made}
use Rattle.server_says.specs.Claiming.{AdmitsOne}

-- `a` and `b`: the tables and the step in the making, before and after
pub record IsGrantedSo (past : List Doing) (a : Made) (claim : Admission) (b : Made) : Type 0 where
  -- the rules allow what is granted
  pub may : MayAdmit a.tables.server past claim.host claim.tokens
  -- each of the host's claims whose give-backs have all come is answered by what became of it
  pub told : (c : Claimed) → In c a.tables.recovering.claims → c.host ≡ claim.host
      → HasTakenGives a.tables.server past claim.host c.claim
      → (answer : ReclaimedOf) × In (word a.tables claim.host (Reclaimed answer)) b.draft.sent
      × AnswersClaim a.tables.server past claim.host c.claim answer
  -- the tables stand for it
  pub stands : Stands (Admits claim.host claim.tokens ∷ past) b.tables

-- where the tables stand for what the server did, and the claim's host is live and hasn't reclaimed
abbrev pub ClaimsAreGranted : Type 0
ClaimsAreGranted = (past : List Doing) (a b : Made) (one : AdmitsOne a b) → Stands past a.tables
    → (HasReclaimed past one.admission.host → ⊥) → IsLive past one.admission.host
    → IsGrantedSo past a one.admission b
