-- Answers to claims are said one after the other.
use Rattle.std.proofs.Common.{◌≡◌, ◌∙◌, List, [], ◌∷◌, map, sym, ap, subst}
use Rattle.std.proofs.lemmas.List.{append-nil, append_assoc}
use Rattle.base_types.specs.declared.ids.HostId.{HostId}
use Rattle.message_types.specs.declared.giving.Reclaimed.{Reclaimed as ReclaimedOf}
use Rattle.message_types.specs.declared.message.Body.TheVariants.{Reclaimed}
use Rattle.message_types.specs.declared.message.Message.{Message}
use Rattle.run_rules.specs.declared.applied.Admission.{Admission}
use Rattle.server_tables.specs.Counting.{IsCounted}
use Rattle.server_tables.specs.Updates.{reclaimed_by}
use Rattle.server_tables.specs.declared.tables.Tables.{Tables}
use Rattle.server_takes.specs.Drafts.{saying, word}
use Rattle.server_takes.specs.declared.draft.Draft.{Draft}
use Rattle.server_says.specs.Claiming.{AreAnswers, IsAdmitted, admitting, answering, telling, with_claim}

-- one is said and noted, and then the others are
module _ (t u : Tables) (d e : Draft) (host : HostId) (a : ReclaimedOf) (rest : List ReclaimedOf)
    (tables : u ≡ answering t host (a ∷ [])) (draft : e ≡ saying d (word t host (Reclaimed a))) where
  pub noted_on : answering u host rest ≡ answering t host (a ∷ rest)
  noted_on = ap (λ (z : Tables). answering z host rest) tables

  pub told_on : telling u e host rest ≡ telling t d host (a ∷ rest)
  told_on =
      ap (λ (z : Tables). telling z e host rest) tables
      ∙ ap (λ (w : Draft). telling t w host rest) draft
      ∙ ap (λ (ms : List Message). record d { sent = ms })
      (append_assoc d.sent (word t host (Reclaimed a) ∷ []) (map (λ b. word t host (Reclaimed b)) rest))

-- nothing is left to be said
pub told_none : (t : Tables) (d : Draft) (host : HostId) → d ≡ telling t d host []
told_none t d host = ap (λ (ms : List Message). record d { sent = ms }) (sym (append-nil d.sent))

-- # A claim is granted

-- `v`, `e`: the tokens are granted; `w`, `f`: the answers are said; `y`: the host has reclaimed
module _ (x v w y : Tables) (d e f : Draft) (a : Admission) (answers told : List ReclaimedOf)
    (are : AreAnswers x a.host x.recovering.claims answers) (same : told ≡ answers)
    (grants : v ≡ with_claim x a.tokens) (admits : e ≡ admitting d a)
    (notes : w ≡ answering v a.host told) (tells : f ≡ telling v e a.host told) where
  abbrev noted : Tables
  noted = answering (with_claim x a.tokens) a.host answers

  noted_is : w ≡ noted
  noted_is = notes ∙ ap (λ (z : Tables). answering z a.host told) grants
      ∙ ap (λ (ts : List ReclaimedOf). answering (with_claim x a.tokens) a.host ts) same

  said_is : f ≡ telling x (admitting d a) a.host answers
  said_is = tells ∙ ap (λ (z : Tables). telling z e a.host told) grants
      ∙ ap (λ (c : Draft). telling x c a.host told) admits
      ∙ ap (λ (ts : List ReclaimedOf). telling x (admitting d a) a.host ts) same

  -- the numbers of the wants stay
  pub admit_counted : IsCounted x → IsCounted w
  admit_counted c = subst IsCounted (sym noted_is) c

  pub is_admitted : y ≡ reclaimed_by w a.host → IsAdmitted x d a.host a.tokens y f
  is_admitted reclaims = record {
    answers = answers;
    are = are;
    tables = reclaims ∙ ap (λ (z : Tables). reclaimed_by z a.host) noted_is;
    draft = said_is;
  }
