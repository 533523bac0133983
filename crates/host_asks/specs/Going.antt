-- How a host goes on with its open call, by its tables.
use Rattle.std.specs.Prelude.{Bool, Err, List, None, Ok, Result, Some, [], false, if◌then◌else◌, true, ℕ, ◌≡◌}
use Rattle.std.specs.Prelude.{◌∷◌, ◌⊎◌}
use Rattle.base_types.specs.declared.ids.Fid.{Fid}
use Rattle.host_asks.specs.Asking.{AsksFor, Doing, asking_question, doing}
use Rattle.host_calls.specs.Answering.{Answered, MarksUsed, EndsUse}
use Rattle.host_calls.specs.Looking.{EndsSo, IsPathless, LeadsSo, Walked, WalksSo, ending_of, is_settled}
use Rattle.host_calls.specs.declared.looking.Question.{Question}
use Rattle.host_calls.specs.declared.looking.Verdict.{Verdict}
use Rattle.host_calls.specs.declared.looking.Verdict.TheVariants.{Asks, Gives, Syncs}
use Rattle.host_labels.specs.Labels.{use_of}
use Rattle.host_labels.specs.declared.uses.Labelled.{Labelled as UseOf}
use Rattle.host_leaves.specs.Giving.{LeavesDirty, LeavesGiven}
use Rattle.host_tables.specs.Tables.{held_of, labelled}
use Rattle.host_tables.specs.declared.tables.Tables.{Tables}
use Rattle.host_walk.specs.declared.sight.Stop.TheVariants.{Lacks, Refused}
use Rattle.run_rules.specs.Past.{In}
use Rattle.run_rules.specs.declared.step.Asked.{Asked}
use Rattle.token_types.specs.declared.token.Need.{Need}
use Rattle.tree_calls.specs.declared.call.Call.{Call}
use Rattle.tree_calls.specs.declared.reply.Refusal.{Refusal}

-- The use of a label ends with a give-back: nothing is to be done while one that ends a use isn't known as applied. The
-- token of a label in use is held; else nothing is given back.
pub data GivesUse (lock : Bool) (label : List ℕ) (k : ℕ) (old new : Doing) : Type 0 where
  HasEnded : (old.tables.ending ≡ None → ⊥) → new ≡ old → GivesUse lock label k old new
  IsUnused : use_of old.tables.uses lock label ≡ None → new ≡ old → GivesUse lock label k old new
  IsLost : old.tables.ending ≡ None → (used : UseOf) → use_of old.tables.uses lock label ≡ Some used
      → (In used.token (held_of old.tables) → ⊥) → (ended : Tables) → EndsUse old.tables lock label used ended
      → new ≡ doing ended old.draft → GivesUse lock label k old new
  EndsIt : old.tables.ending ≡ None → (used : UseOf)
      → use_of old.tables.uses lock label ≡ Some used → (ended : Tables)
      → EndsUse old.tables lock label used ended
      → LeavesGiven (record ended { ending = Some (labelled used) }) old.draft used.token.fid (used.token ∷ [])
      (Some (record { k = k; call = ending_of lock label })) new.tables new.draft
      → GivesUse lock label k old new

-- the token of a label that is no longer in use leaves, where it is held
abbrev pub GivesEnded : UseOf → ℕ → Call → Doing → Doing → Type 0
GivesEnded used k call old new =
    ((In used.token (held_of old.tables) → ⊥) × (new ≡ old))
    ⊎ LeavesGiven (record old.tables { ending = Some (labelled used) }) old.draft used.token.fid (used.token ∷ [])
    (Some (record { k = k; call = call })) new.tables new.draft

pub record GivesLabel (k : ℕ) (call : Call) (old new : Doing) : Type 0 where
  pub lock : Bool
  pub label : List ℕ
  pub call_is : call ≡ ending_of lock label
  pub gives : GivesUse lock label k old new

-- what becomes of a call by the verdict on it: it is answered, or it is given back for, or asked about
pub data Settles (k : ℕ) (call : Call) (first : Bool) (old new : Doing) : Result Verdict Refusal → Bool → Type 0 where
  SyncsIt : (fid : Fid) → LeavesDirty old.tables old.draft fid new.tables new.draft
      → Settles k call first old new (Ok (Syncs fid)) false
  GivesIt : GivesLabel k call old new → Settles k call first old new (Ok Gives) false
  AsksIt : (question : Question) → new ≡ asking_question question k call old
      → Settles k call first old new (Ok (Asks question)) false
  AnswersIt : (verdict : Result Verdict Refusal)
      → Answered k call first verdict old.tables old.draft new.tables new.draft
      → Settles k call first old new verdict true

-- what an answered call used is marked, and nothing where it isn't answered
abbrev pub MarksWhere : Bool → Tables → Call → Fid → List (List ℕ) → Result Verdict Refusal → Tables → Type 0
MarksWhere true m call root path verdict new = MarksUsed m call root path verdict new
MarksWhere false m call root path verdict new = new ≡ m

-- a call that goes from a root along a path is settled by a verdict, and what it used is marked where it is answered
pub record SettlesOn (k : ℕ) (call : Call) (first : Bool) (root : Fid) (path : List (List ℕ))
    (verdict : Result Verdict Refusal) (old new : Doing) (answered : Bool) : Type 0 where
  pub marked : Tables
  pub marks : MarksWhere (is_settled verdict) old.tables call root path verdict marked
  pub settles : Settles k call first (doing marked old.draft) new verdict answered

-- the open call is gone on with
pub data Goes (k : ℕ) (call : Call) (first : Bool) (old new : Doing) : Bool → Type 0 where
  -- a request is outstanding
  Waits : (old.tables.request ≡ None → ⊥) → new ≡ old → Goes k call first old new false
  Ends : old.tables.request ≡ None → (verdict : Result Verdict Refusal) → EndsSo old.tables call verdict
      → IsPathless verdict → (answered : Bool)
      → Settles k call first old new verdict answered → Goes k call first old new answered
  LacksIt : old.tables.request ≡ None → (root : Fid) (path : List (List ℕ)) → WalksSo old.tables call root path
      → (need : Need) → Walked old.tables call root path (Err (Lacks need)) → AsksFor need k call old new
      → Goes k call first old new false
  Finds : old.tables.request ≡ None → (root : Fid) (path : List (List ℕ)) → WalksSo old.tables call root path
      → (verdict : Verdict) → Walked old.tables call root path (Ok verdict)
      → LeadsSo old.tables call root path verdict
      → (marked : Tables) → MarksWhere (is_settled (Ok verdict)) old.tables call root path (Ok verdict) marked
      → (answered : Bool) → Settles k call first (doing marked old.draft) new (Ok verdict) answered
      → Goes k call first old new answered
  IsRefused : old.tables.request ≡ None → (root : Fid) (path : List (List ℕ)) → WalksSo old.tables call root path
      → (refusal : Refusal) → Walked old.tables call root path (Err (Refused refusal))
      → (marked : Tables) → MarksUsed old.tables call root path (Err refusal) marked
      → Settles k call first (doing marked old.draft) new (Err refusal) true
      → Goes k call first old new true

-- a call is begun: it is answered at once, or left open
abbrev pub begun_at : ℕ → Doing → Doing
begun_at k at = record at { tables = record at.tables { begun = k; lost = [] } }

abbrev pub left_open : Asked → Doing → Doing
left_open asked at =
    doing (record at.tables { call = Some asked }) (record at.draft { asked = Some asked })

pub record Begins (k : ℕ) (call : Call) (old new : Doing) : Type 0 where
  pub gone : Doing
  pub answered : Bool
  pub goes : Goes k call true (begun_at k old) gone answered
  pub after : new ≡ (if answered then gone else left_open (record { k = k; call = call }) gone)

-- the open call, where there is one, is gone on with
pub data GoesOn (old new : Doing) : Type 0 where
  IsNone : old.tables.call ≡ None → new ≡ old → GoesOn old new
  IsOpen : (asked : Asked) → old.tables.call ≡ Some asked → (gone : Doing) (answered : Bool)
      → Goes asked.k asked.call false (record old { tables = record old.tables { call = None } }) gone answered
      → new ≡ (if answered then gone else record gone { tables = record gone.tables { call = Some asked } })
      → GoesOn old new
