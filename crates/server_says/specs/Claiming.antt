-- Claims that are granted.
use Rattle.std.specs.Prelude.{◌≡◌, ◌⊎◌, ◌==◌, true, false, Bool, ◌&&◌, not, if◌then◌else◌, List, [], ◌∷◌, ◌++◌}
use Rattle.std.specs.Prelude.{Option, None, Some, map, nat_lt}
use Rattle.std.specs.List.{list_all}
use Rattle.base_types.specs.declared.ids.HostId.{HostId}
use Rattle.message_types.specs.declared.giving.Reclaim.{Reclaim as ReclaimOf}
use Rattle.message_types.specs.declared.giving.Reclaimed.{Reclaimed as ReclaimedOf}
use Rattle.message_types.specs.declared.message.Body.TheVariants.{Reclaimed}
use Rattle.run_rules.specs.Past.{EachOnce, In}
use Rattle.run_rules.specs.declared.applied.Admission.{Admission}
use Rattle.server_tables.specs.Claims.{answered_so, applied_of, left_out_of, names}
use Rattle.server_tables.specs.Judging.{first_ripe, gave_up, has_all}
use Rattle.server_tables.specs.Updates.{reclaimed_by}
use Rattle.server_tables.specs.declared.recovering.Answered.{Answered}
use Rattle.server_tables.specs.declared.recovering.Claimed.{Claimed}
use Rattle.server_tables.specs.declared.recovering.Recovering.{Recovering}
use Rattle.server_tables.specs.declared.tables.Tables.{Tables}
use Rattle.server_takes.specs.Drafts.{word}
use Rattle.server_takes.specs.Taking.{Made}
use Rattle.server_takes.specs.declared.draft.Draft.{Draft}
use Rattle.token_manager.specs.Managers.{Manager, after_admit}
use Rattle.token_table.specs.Tables.{has_id}
use Rattle.token_types.specs.declared.token.Token.{Token}

-- # Which tokens are granted again

-- a token of a host, granted in an earlier epoch; a sound claim names no other
abbrev pub is_past_of : Manager → HostId → Token → Bool
is_past_of manager host token =
    (token.host.0 == host.0) && nat_lt token.id.epoch manager.grants.table.epoch

abbrev pub names_past : Manager → Claimed → Bool
names_past manager c = list_all (is_past_of manager c.host) c.claim.tokens

-- one that isn't granted, of a fileset that the claim names, and that its host didn't give up
abbrev pub is_claimed : Tables → Claimed → Token → Bool
is_claimed x c token = not (has_id x.tokens.grants.table.tokens token.id)
    && (names c.claim x.server token.fid.fileset && not (gave_up x.recovering.given_up c.host token.id))

-- of some tokens those that pass a test, and of a number the first, behind those that were picked so far
unfoldable pub pick : (Token → Bool) → List Token → Token → List Token
pick passes picked token = if passes token && not (has_id picked token.id) then picked ++ token ∷ [] else picked

abbrev pub picked : (Token → Bool) → List Token → List Token → List Token
picked passes so_far [] = so_far
picked passes so_far (token ∷ tokens) = picked passes (pick passes so_far token) tokens

abbrev pub to_admit : Tables → Claimed → List Token
to_admit x c = picked (is_claimed x c) [] c.claim.tokens

-- # What is answered

-- a claim of a host whose give-backs have all come
abbrev pub is_ripe : Tables → HostId → Claimed → Bool
is_ripe x host c = (c.host.0 == host.0) && has_all x.recovering.taken x.server host c.claim

abbrev pub answer_of : Recovering → HostId → ReclaimOf → ReclaimedOf
answer_of x host claim = record {
  applied = applied_of x.taken host claim.numbers;
  left_out = left_out_of x.given_up host claim.tokens;
}

-- an answer comes to others where it isn't there
abbrev pub IsAdded : ReclaimedOf → List ReclaimedOf → List ReclaimedOf → Type 0
IsAdded a old new = (In a old × (new ≡ old)) ⊎ ((In a old → ⊥) × (new ≡ old ++ a ∷ []))

-- a claim is answered, where it is the host's and its give-backs have all come
abbrev pub AddsAnswer : Tables → HostId → Claimed → List ReclaimedOf → List ReclaimedOf → Type 0
AddsAnswer x host c old new =
    ((is_ripe x host c ≡ false) × (new ≡ old))
    ⊎ ((is_ripe x host c ≡ true) × IsAdded (answer_of x.recovering host c.claim) old new)

-- the answers to some claims of a host, those whose give-backs have all come, each once
pub record AreAnswers (x : Tables) (host : HostId) (claims : List Claimed) (answers : List ReclaimedOf) : Type 0 where
  pub of : (a : ReclaimedOf) → In a answers → (c : Claimed) × In c claims × (is_ripe x host c ≡ true)
      × (answer_of x.recovering host c.claim ≡ a)
  pub all : (c : Claimed) → In c claims → is_ripe x host c ≡ true → In (answer_of x.recovering host c.claim) answers
  pub once : EachOnce answers

abbrev pub all_answered : List Answered → HostId → List ReclaimedOf → List Answered
all_answered noted host [] = noted
all_answered noted host (a ∷ answers) = all_answered (answered_so noted host a) host answers

-- the answers are said and noted
abbrev pub answering : Tables → HostId → List ReclaimedOf → Tables
answering x host answers =
    record x { recovering = record x.recovering { answers = all_answered x.recovering.answers host answers } }

abbrev pub telling : Tables → Draft → HostId → List ReclaimedOf → Draft
telling x d host answers = record d { sent = d.sent ++ map (λ a. word x host (Reclaimed a)) answers }

-- # A claim is granted

abbrev pub with_claim : Tables → List Token → Tables
with_claim x tokens = record x { tokens = after_admit x.tokens tokens }

abbrev pub admitting : Draft → Admission → Draft
admitting d admission = record d { admitted = d.admitted ++ admission ∷ [] }

-- the first claim whose give-backs have all come, and what is granted of it
pub record IsAdmissionOf (x : Tables) (admission : Admission) : Type 0 where
  pub claimed : Claimed
  pub ripe : first_ripe x.recovering x.server ≡ Some claimed
  pub past : names_past x.tokens claimed ≡ true
  pub host : admission.host ≡ claimed.host
  pub tokens : admission.tokens ≡ to_admit x claimed

abbrev pub IsNextAdmission : Tables → Option Admission → Type 0
IsNextAdmission x None = first_ripe x.recovering x.server ≡ None
IsNextAdmission x (Some admission) = IsAdmissionOf x admission

-- of a host, with these tokens
pub record IsAdmitted (x : Tables) (d : Draft) (host : HostId) (tokens : List Token) (y : Tables) (e : Draft) : Type 0
  where
    pub answers : List ReclaimedOf
    pub are : AreAnswers x host x.recovering.claims answers
    pub tables : y ≡ reclaimed_by (answering (with_claim x tokens) host answers) host
    pub draft : e ≡ telling x (admitting d (record { host = host; tokens = tokens })) host answers

-- one claim is granted
pub record AdmitsOne (a b : Made) : Type 0 where
  pub admission : Admission
  pub next : IsAdmissionOf a.tables admission
  pub so : IsAdmitted a.tables a.draft admission.host admission.tokens b.tables b.draft
