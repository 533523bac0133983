-- How a call is answered from the tables.
use Rattle.std.specs.Prelude.{[]}
use Rattle.base_types.specs.declared.ids.Fid.{Fid}
use Rattle.base_types.specs.declared.ids.FilesetId.{FilesetId}
use Rattle.base_types.specs.declared.ids.ServerId.{ServerId}
use Rattle.host_tables.specs.Stands.{CanReply, Finds, IsDirtyFrom, verdict_from}
use Rattle.host_tables.specs.Tables.{held_of}
use Rattle.host_tables.specs.declared.tables.Tables.{Tables}
use Rattle.message_types.specs.declared.giving.Give.{Give}
use Rattle.need_host.specs.Calls.{Verdict}
use Rattle.need_host.specs.Calls.Verdict.{Locks, Opens, Writes}
use Rattle.run_rules.specs.HostMay.{IsExact}
use Rattle.run_rules.specs.Messages.{Asking, Changing, stay_of}
use Rattle.run_rules.specs.Past.{In}
use Rattle.run_rules.specs.Tokens.{CallGoesOn, FreesPinned, GivesUse, HasCall, Makes, end_of}
use Rattle.run_rules.specs.declared.step.Labelled.{Labelled}
use Rattle.run_rules.specs.declared.step.Step.{Step}
use Rattle.std.specs.Prelude.{Bool, List, None, Option, Some, false, true, ℕ, ◌∷◌, ◌≡◌}
use Rattle.token_types.specs.declared.token.Kind.{Kind}
use Rattle.token_types.specs.declared.token.Kind.TheVariants.{Lock as LockToken, Opening}
use Rattle.token_types.specs.declared.token.Token.{Token}
use Rattle.tree_calls.specs.declared.call.Call.{Call}
use Rattle.tree_calls.specs.declared.call.Call.TheVariants.{Sync}
use Rattle.tree_calls.specs.declared.place.Place.{Place as NamedPlace}

-- the file that an answer writes
abbrev pub wrote_by : Verdict → Option Fid
wrote_by (Writes fid from bytes) = Some fid
wrote_by _ = None

-- the label that an answer takes, with its exact token
pub record TakesLabel (held : List Token) (call : Call) (fid : Fid) (kind : Kind) (begun : List Labelled) : Type 0 where
  pub label : Labelled
  pub alone : begun ≡ label ∷ []
  pub exact : IsExact call label
  pub file : label.token.fid ≡ fid
  pub kind_is : label.token.kind ≡ kind
  pub is_held : In label.token held

abbrev pub BegunBy : List Token → Call → Verdict → List Labelled → Type 0
BegunBy held call (Locks fid writing span) begun = TakesLabel held call fid (LockToken writing span) begun
BegunBy held call (Opens fid kind) begun = TakesLabel held call fid (Opening kind) begun
BegunBy held call _ begun = begun ≡ []

-- a step in which a call is answered from the tables: it is the only call that could be, and nothing leaves
pub record AnswersCall (m : Tables) (past : List Step) (s : Step) (k : ℕ) (call : Call) (first : Bool) : Type 0 where
  pub turn : HasCall past s k call
  pub only : (n : ℕ) (other : Call) → HasCall past s n other → (n ≡ k) × (other ≡ call)
  pub can : CanReply m call
  pub answers : s.answers ≡ record { host = m.host; k = k; call = call; reply = can.reply; first = first } ∷ []
  pub asked : s.asked ≡ None
  pub made : s.made ≡ []
  pub dropped : s.dropped ≡ []
  pub begins : first ≡ true → s.sent ≡ []
  pub goes_on : first ≡ false → CallGoesOn past s k call
  pub wrote : s.wrote ≡ wrote_by (verdict_from m call)
  pub begun : BegunBy (held_of m) call (verdict_from m call) s.begun
  pub none_asked : (fs : FilesetId) (n : ℕ) → Asking (s ∷ past) fs n → ⊥
  pub none_changing : (v : ServerId) (fs : FilesetId) (n : ℕ) → Changing (s ∷ past) v fs n → ⊥

-- a step in which no call is answered: the open call, or that which begins, can't be
pub record AnswersNone (m : Tables) (past : List Step) (s : Step) : Type 0 where
  pub answers : s.answers ≡ []
  pub wrote : s.wrote ≡ None
  pub begun : s.begun ≡ []
  pub stuck : (k : ℕ) (call : Call) → HasCall past s k call → CanReply m call → ⊥

-- what such a step has to give back for the call itself
pub record GivesForCall (m : Tables) (past : List Step) (s : Step) : Type 0 where
  pub syncs : (k : ℕ) (stay_of : NamedPlace) (fid : Fid) (t : Token) → HasCall past s k (Sync stay_of)
      → Finds m stay_of fid
      → In t (held_of m) → t.fid ≡ fid → IsDirtyFrom m past t → Makes s t.id
  pub frees : (k : ℕ) (u : Labelled) → HasCall past s k (end_of u) → FreesPinned past u
      → (g : Give) × In g s.made × GivesUse g u
