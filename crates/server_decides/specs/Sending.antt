-- How requests that wait are answered.
use Rattle.std.specs.Prelude.{◌≡◌, ◌+◌, ◌≤◌, ℕ, Bool, true, false, not, if◌then◌else◌}
use Rattle.std.specs.Prelude.{List, [], ◌∷◌, length, remove, Option, None, Some, is_some}
use Rattle.base_types.specs.declared.ids.Fid.{Fid}
use Rattle.base_types.specs.declared.ids.FilesetId.{FilesetId}
use Rattle.base_types.specs.declared.ids.HostId.{HostId}
use Rattle.base_types.specs.declared.user.User.{User}
use Rattle.tree_calls.specs.Rosters.{user_of}
use Rattle.tree_calls.specs.declared.part.DirEntry.{DirEntry}
use Rattle.tree_calls.specs.declared.part.Piece.{Piece}
use Rattle.tree_calls.specs.declared.part.Status.{Status}
use Rattle.message_types.specs.declared.asking.Change.{Change as ChangeOf}
use Rattle.message_types.specs.declared.asking.Fetch.{Fetch as FetchOf}
use Rattle.message_types.specs.declared.message.Body.TheVariants.{Done as IsDone, Grant as IsGrant}
use Rattle.message_types.specs.declared.telling.Done.{Done as DoneOf}
use Rattle.message_types.specs.declared.telling.DoneIs.{DoneIs}
use Rattle.message_types.specs.declared.telling.DoneIs.TheVariants.{Again, Granted as IsGranted, Known}
use Rattle.message_types.specs.declared.telling.Grant.{Grant as GrantOf}
use Rattle.run_rules.specs.Wants.{is_use}
use Rattle.run_rules.specs.declared.applied.Request.{Request}
use Rattle.run_rules.specs.declared.applied.Request.TheVariants.{Change as Changes, Fetch as Asks}
use Rattle.store_memory.specs.Reading.{status_told}
use Rattle.store_state.specs.declared.state.StoreState.{StoreState}
use Rattle.server_says.specs.Asking.{entered_told}
use Rattle.server_says.specs.Granting.{entries_for, pieces_for}
use Rattle.server_says.specs.Found.{Found}
use Rattle.message_types.specs.Soundness.{no_fid}
use Rattle.server_tables.specs.Answers.{done_without, renewed}
use Rattle.server_tables.specs.Updates.{stamped, unqueued}
use Rattle.server_tables.specs.declared.pending.Pending.{Pending}
use Rattle.server_tables.specs.declared.tables.Tables.{Tables}
use Rattle.server_says.specs.Drafts.{saying, word}
use Rattle.server_says.specs.Taking.{Made, Whether, made}
use Rattle.server_says.specs.Draft.{Draft}
use Rattle.token_manager.specs.Managers.{Manager, after_decide, decide_answer}
use Rattle.token_manager.specs.declared.want.Outlook.{Outlook}
use Rattle.token_manager.specs.declared.want.Outlook.TheVariants.{Granted as CanBeGranted}
use Rattle.token_manager.specs.declared.want.Ready.{Ready}
use Rattle.token_manager.specs.declared.want.Ready.TheVariants.{Granted as GrantedLater}
use Rattle.token_types.specs.declared.token.Need.{Need}
use Rattle.token_types.specs.declared.token.Token.{Token}
use Rattle.server_decides.specs.Deciding.{Compared, IsPlaced, found_on, is_of_row, is_waiting, outlook_at}
use Rattle.server_says.specs.Running.{GoesTo}
use Rattle.server_decides.specs.declared.sending.Sending.{Sending}
use Rattle.server_decides.specs.declared.sending.Sending.TheVariants.{Grant, Say, Use}

-- # What becomes of a want

abbrev pub is_granted : Outlook → Bool
is_granted (CanBeGranted) = true
is_granted _ = false

-- a host enters a fileset, which the store has under this number
abbrev pub entering_by : ChangeOf → Option FilesetId → Option Sending
entering_by change None = None
entering_by change (Some fileset) = Some (Say change.fileset change.number (Known fileset))

-- a lock or an open of a Change that wanted this, by what it finds now
abbrev pub using_by : ChangeOf → List Need → Bool → Found → Bool → Option Sending
using_by change needs granted found same =
    if is_some found.refusal then None
    else (if not (is_of_row change needs same) then Some (Say change.fileset change.number Again)
    else (if granted then Some (Use change.fileset change.number) else None))

abbrev pub IsUsing : ChangeOf → List Need → Bool → Found → Option Sending → Type 0
IsUsing change needs granted found result =
    (compared : Compared found.needs needs) × (result ≡ using_by change needs granted found compared.same)

abbrev pub IsChangeSending : Tables → StoreState → Pending → Bool → Option Sending → ChangeOf → Type 0
IsChangeSending x state p granted result change =
    Whether change.enter (result ≡ (if granted then entering_by change (entered_told state change.call) else None))
    (Whether (is_use change.call)
    ((user : User) → user_of x.roster p.wanted.host ≡ Some user
    → IsUsing change p.wanted.needs granted (found_on state user p.wanted.host change) result)
    (result ≡ None))

-- of one that needn't wait
abbrev pub IsSendingOf : Tables → StoreState → Pending → Bool → Option Sending → Request → Type 0
IsSendingOf x state p granted result (Asks fetch) = result ≡ (if granted then Some (Grant fetch) else None)
IsSendingOf x state p granted result (Changes change) = IsChangeSending x state p granted result change

abbrev pub IsSending : Tables → StoreState → Pending → Option Sending → Type 0
IsSending x state p result = Whether (is_waiting (outlook_at x p.number)) (result ≡ None)
    (IsSendingOf x state p (is_granted (outlook_at x p.number)) result p.wanted.request)

-- # What is made of it

-- the tokens that a want is granted
abbrev pub tokens_of : Option Ready → List Token
tokens_of (Some (GrantedLater number tokens)) = tokens
tokens_of _ = []

abbrev pub granted_tokens : Manager → ℕ → List Token
granted_tokens manager number = tokens_of (decide_answer manager number)

abbrev pub granting : Tables → ℕ → Tables
granting x number = record x { tokens = after_decide x.tokens number }

abbrev pub file_of : List Token → Fid
file_of [] = no_fid
file_of (token ∷ tokens) = token.fid

-- a Done is said and noted
abbrev pub done_made : Tables → Draft → HostId → DoneOf → Made
done_made x d host done = made (record x { changes = renewed x host done None }) (saying d (word x host (IsDone done)))

-- what the tables are without a want, and where it is granted
abbrev pub left_out : Tables → ℕ → ℕ → Tables
left_out x at number = stamped (unqueued x at number)

abbrev pub granted_out : Tables → ℕ → ℕ → Tables
granted_out x at number = left_out (granting x number) at number

-- the Done that brings the tokens of a lock or an open
abbrev pub use_with : FilesetId → ℕ → ℕ → List Token → DoneOf
use_with fileset number stamp tokens = record {
  fileset = fileset;
  outcome = IsGranted;
  bring = record { number = number; fid = file_of tokens; stamp = stamp; tokens = tokens };
}

abbrev pub use_of : Tables → Pending → FilesetId → ℕ → DoneOf
use_of x p fileset number = use_with fileset number (x.stamp + 1) (granted_tokens x.tokens p.number)

abbrev pub use_made : Tables → Draft → ℕ → Pending → FilesetId → ℕ → Made
use_made x d at p fileset number = done_made (granted_out x at p.number) d p.wanted.host (use_of x p fileset number)

abbrev pub said_made : Tables → Draft → ℕ → Pending → FilesetId → ℕ → DoneIs → Made
said_made x d at p fileset number outcome =
    done_made (unqueued x at p.number) d p.wanted.host (done_without fileset outcome number)

-- the Grant of an object of this status, with what is told of it
abbrev pub grant_with : Tables → Pending → FetchOf → Status → List Piece → List DirEntry → GrantOf
grant_with x p fetch status pieces entries = record {
  bring = record {
    number = fetch.number;
    fid = fetch.fid;
    stamp = x.stamp + 1;
    tokens = granted_tokens x.tokens p.number;
  };
  status = Some status;
  pieces = pieces;
  entries = entries;
}

abbrev pub grant_of : Tables → StoreState → Pending → FetchOf → Status → GrantOf
grant_of x state p fetch status = grant_with x p fetch status (pieces_for state fetch.fid status.dir fetch.needs)
    (entries_for state fetch.fid status.dir fetch.needs)

abbrev pub empty_with : FetchOf → ℕ → GrantOf
empty_with fetch stamp = record {
  bring = record { number = fetch.number; fid = fetch.fid; stamp = stamp; tokens = [] };
  status = None;
  pieces = [];
  entries = [];
}

abbrev pub empty_of : Tables → FetchOf → GrantOf
empty_of x fetch = empty_with fetch (x.stamp + 1)

-- a Fetch is granted, of an object of this status, or of none
abbrev pub empty_made : Tables → Draft → ℕ → Pending → FetchOf → Made
empty_made x d at p fetch =
    made (left_out x at p.number) (saying d (word x p.wanted.host (IsGrant (empty_of x fetch))))

abbrev pub granted_made : Tables → Draft → ℕ → Pending → GrantOf → Made
granted_made x d at p grant =
    made (granted_out x at p.number) (saying d (word x p.wanted.host (IsGrant grant)))

abbrev pub grant_made : Tables → Draft → StoreState → ℕ → Pending → FetchOf → Option Status → Made
grant_made x d state at p fetch None = empty_made x d at p fetch
grant_made x d state at p fetch (Some status) = granted_made x d at p (grant_of x state p fetch status)

abbrev pub sent_made : Tables → Draft → StoreState → ℕ → Pending → Sending → Made
sent_made x d state at p (Grant fetch) = grant_made x d state at p fetch (status_told state fetch.fid)
sent_made x d state at p (Use fileset number) = use_made x d at p fileset number
sent_made x d state at p (Say fileset number outcome) = said_made x d at p fileset number outcome

-- the want at a place doesn't wait any more, and no other goes
pub record IsLeftAt (x : Tables) (at : ℕ) (y : Tables) : Type 0 where
  pub server : y.server ≡ x.server
  pub roster : y.roster ≡ x.roster
  pub pending : y.pending ≡ remove x.pending at

-- # One after the other

-- the wants before a place were looked at
pub record Looking : Type 0 where
  pub tables : Tables
  pub draft : Draft
  pub at : ℕ

abbrev pub looking : Tables → Draft → ℕ → Looking
looking x d at = record { tables = x; draft = d; at = at }

abbrev pub IsAfter : StoreState → Looking → Pending → Looking → Option Sending → Type 0
IsAfter state a p b None = b ≡ looking a.tables a.draft (a.at + 1)
IsAfter state a p b (Some sending) = b ≡ looking (sent_made a.tables a.draft state a.at p sending).tables
    (sent_made a.tables a.draft state a.at p sending).draft a.at

-- a want is answered, or passed over
pub record Sends (state : StoreState) (a b : Looking) : Type 0 where
  pub p : Pending
  pub place : IsPlaced a.tables.pending a.at p
  pub sending : Option Sending
  pub is : IsSending a.tables state p sending
  pub so : IsAfter state a p b sending

-- all that wait were looked at
pub record HasSentAll (state : StoreState) (x : Tables) (d : Draft) (y : Tables) (e : Draft) : Type 0 where
  pub end : Looking
  pub goes : GoesTo (Sends state) (looking x d 0) end
  pub tables : end.tables ≡ y
  pub draft : end.draft ≡ e
  pub all : length y.pending ≤ end.at
