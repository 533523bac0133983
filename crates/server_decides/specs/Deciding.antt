-- How Changes that wait are decided.
use Rattle.std.specs.List.{list_all}
use Rattle.std.specs.Option.{option_map_or}
use Rattle.std.specs.Prelude.{◌≡◌, ◌↔◌, ◌<◌, ◌==◌, ℕ, Bool, true, false, ◌&&◌, ◌||◌, not, if◌then◌else◌, IsTrue}
use Rattle.std.specs.Prelude.{List, length, slice_index_or, Option, None, Some}
use Rattle.base_types.specs.Ids.{same_fid}
use Rattle.base_types.specs.declared.ids.HostId.{HostId}
use Rattle.base_types.specs.declared.user.User.{User}
use Rattle.tree_calls.specs.Rosters.{user_of}
use Rattle.tree_calls.specs.declared.reply.Refusal.{Refusal}
use Rattle.tree_calls.specs.declared.reply.Reply.{Reply}
use Rattle.tree_calls.specs.declared.reply.Reply.TheVariants.{Refused}
use Rattle.token_manager.specs.Managers.{outlook_of, ready_at}
use Rattle.token_manager.specs.declared.want.Outlook.{Outlook}
use Rattle.token_manager.specs.declared.want.Outlook.TheVariants.{Refused as IsRefused, Waits as HasToWait}
use Rattle.token_types.specs.declared.token.Need.{Need}
use Rattle.message_types.specs.declared.asking.Change.{Change as ChangeOf}
use Rattle.run_rules.specs.Past.{In}
use Rattle.run_rules.specs.ServerDecides.{refusal_of}
use Rattle.run_rules.specs.Wants.{has_effect, is_use}
use Rattle.run_rules.specs.declared.applied.Request.{Request}
use Rattle.run_rules.specs.declared.applied.Request.TheVariants.{Change as Changes, Fetch as Asks}
use Rattle.store_acts.specs.Acts.{act_done}
use Rattle.store_acts.specs.Sound.{HasName}
use Rattle.store_state.specs.declared.state.StoreState.{StoreState}
use Rattle.server_says.specs.Asking.{change_needs, change_refused}
use Rattle.server_says.specs.Acts.{IsRepeatable, doing, refusing}
use Rattle.server_says.specs.Found.{Found}
use Rattle.server_tables.specs.Listing.{no_grace}
use Rattle.server_tables.specs.Updates.{unqueued}
use Rattle.server_tables.specs.declared.pending.Pending.{Pending}
use Rattle.server_tables.specs.declared.tables.Tables.{Tables}
use Rattle.server_says.specs.Taking.{IsMadeOf, Made, Whether, made, want_made, wanted_for}
use Rattle.server_says.specs.Draft.{Draft}
use Rattle.server_decides.specs.Serving.{IsServed}
use Rattle.server_decides.specs.Running.{Making}
use Rattle.server_says.specs.Writing.{written_made}
use Rattle.server_decides.specs.declared.deciding.Decision.{Decision}
use Rattle.server_decides.specs.declared.deciding.Decision.TheVariants.{Anew, Do, Refuse}
use Rattle.server_decides.specs.declared.deciding.Due.{Due}

-- # What is due of a Change

-- what it finds, by what the store tells
abbrev pub found_on : StoreState → User → HostId → ChangeOf → Found
found_on state user host change = record {
  refusal = change_refused state host user change;
  needs = change_needs state host user change;
}

-- two lists of needs, and whether they are the same
pub record Compared (ones others : List Need) : Type 0 where
  pub same : Bool
  pub is : IsTrue same ↔ (ones ≡ others)

abbrev pub is_waiting : Outlook → Bool
is_waiting HasToWait = true
is_waiting _ = false

-- it wanted what it finds now, `same`; one of a lock or an open that of the file which its host found
abbrev pub is_of_row : ChangeOf → List Need → Bool → Bool
is_of_row change needs same =
    same && (not (is_use change.call) || list_all (λ need. same_fid need.fid change.fid) needs)

abbrev pub due_by : ChangeOf → Outlook → Option Decision
due_by change (IsRefused token) = Some (Refuse (refusal_of change.call))
due_by change _ = if has_effect change then Some Do else None

-- of one that isn't refused; `finds` is what it needs now
abbrev pub accepted_by : ChangeOf → List Need → Outlook → List Need → Bool → Option Decision
accepted_by change needs outlook finds same =
    if is_waiting outlook || change.enter then None
    else (if has_effect change && not same then Some (Anew finds)
    else (if is_of_row change needs same then due_by change outlook else None))

abbrev pub decision_by : ChangeOf → List Need → Outlook → Found → Bool → Option Decision
decision_by change needs outlook found same =
    option_map_or (λ refusal. Some (Refuse refusal)) found.refusal
    (accepted_by change needs outlook found.needs same)

-- of a Change that wanted this, by what it finds now
abbrev pub IsDecision : ChangeOf → List Need → Outlook → Found → Option Decision → Type 0
IsDecision change needs outlook found result =
    (compared : Compared found.needs needs) × (result ≡ decision_by change needs outlook found compared.same)

-- # What is due of a want

-- it is what the step's request made
abbrev pub is_fresh : Option ℕ → ℕ → Bool
is_fresh None number = false
is_fresh (Some fresh) number = fresh == number

abbrev pub outlook_at : Tables → ℕ → Outlook
outlook_at x number = outlook_of x.tokens.grants (ready_at x.tokens number)

-- whether it isn't looked at: it has to wait, and hasn't just come, or a grace period lasts
abbrev pub is_passed : Tables → Pending → Bool → Bool
is_passed x p fresh = is_waiting (outlook_at x p.number) && not (fresh && no_grace x.hosts)

abbrev pub IsDueOf : Tables → StoreState → Pending → Bool → Option Decision → Request → Type 0
IsDueOf x state p fresh result (Asks fetch) = result ≡ None
IsDueOf x state p fresh result (Changes change) = Whether (is_passed x p fresh) (result ≡ None)
    ((user : User) → user_of x.roster p.wanted.host ≡ Some user
    → IsDecision change p.wanted.needs (outlook_at x p.number) (found_on state user p.wanted.host change) result)

abbrev pub IsDue : Tables → StoreState → Option ℕ → Pending → Option Decision → Type 0
IsDue x state fresh p result = IsDueOf x state p (is_fresh fresh p.number) result p.wanted.request

-- the want at a place among those that wait
abbrev pub IsPlaced : List Pending → ℕ → Pending → Type 0
IsPlaced pendings at p = (at < length pendings) × (slice_index_or pendings at p ≡ p)

-- nothing is due of any
abbrev pub NoneDue : Tables → StoreState → Option ℕ → List Pending → Type 0
NoneDue x state fresh pendings = (p : Pending) → In p pendings → IsDue x state fresh p None

-- what is due first
abbrev pub IsNextDue : Tables → StoreState → Option ℕ → Option Due → Type 0
IsNextDue x state fresh None = NoneDue x state fresh x.pending
IsNextDue x state fresh (Some due) =
    (p : Pending) × IsPlaced x.pending due.at p × IsDue x state fresh p (Some due.decision)

-- what is done or made anew was asked by a Change that has its effect
abbrev pub HasEffect : Request → Type 0
HasEffect (Asks fetch) = ⊥
HasEffect (Changes change) = has_effect change ≡ true

abbrev pub MayBeDone : Decision → Request → Type 0
MayBeDone (Refuse refusal) request = Unit {0}
MayBeDone _ request = HasEffect request

abbrev pub IsDueSo : List Pending → Due → Type 0
IsDueSo pendings due = (p : Pending) × IsPlaced pendings due.at p × MayBeDone due.decision p.wanted.request

-- # What is made of it, where the want doesn't wait any more

-- its want is made anew; one that has just come is still the one that has
abbrev pub still_fresh : Option ℕ → ℕ → Draft → Draft
still_fresh fresh number d = if is_fresh fresh number then d else record d { fresh = fresh }

abbrev pub anew_made : Tables → Draft → Pending → List Need → Made
anew_made x d p needs = let both = want_made x d (wanted_for p.wanted.host p.wanted.request needs) in
    made both.tables (still_fresh d.fresh p.number both.draft)

-- It is written down as refused, and the store notes it.
pub record IsRefusedNow (x : Tables) (d : Draft) (state : StoreState) (host : HostId) (change : ChangeOf)
    (refusal : Refusal) (y : Tables) (e : Draft) (next : StoreState) : Type 0 where
  pub both : IsMadeOf x d y e (written_made x d host change (Refused refusal))
  pub stored : IsRepeatable state (refusing state host change.fileset refusal)
      → next ≡ (act_done state (refusing state host change.fileset refusal)).state

-- It is done: the store does its call, and it is written down with the reply.
pub record IsDoneNow (x : Tables) (d : Draft) (state : StoreState) (host : HostId) (change : ChangeOf)
    (y : Tables) (e : Draft) (next : StoreState) : Type 0 where
  pub reply : Reply
  pub both : IsMadeOf x d y e (written_made x d host change reply)
  pub named : HasName change.call
  pub replied : IsRepeatable state (doing state host change.call)
      → reply ≡ (act_done state (doing state host change.call)).done.reply
  pub stored : IsRepeatable state (doing state host change.call)
      → next ≡ (act_done state (doing state host change.call)).state

-- nothing is made
pub record IsLeft (x : Tables) (d : Draft) (state : StoreState) (y : Tables) (e : Draft) (next : StoreState) : Type 0
  where
    pub both : IsMadeOf x d y e (made x d)
    pub stored : next ≡ state

-- a request is refused, or done: a Change alone is
abbrev pub IsRefusing : Tables → Draft → StoreState → HostId → Refusal → Tables → Draft → StoreState → Request → Type 0
IsRefusing x d state host refusal y e next (Asks fetch) = IsLeft x d state y e next
IsRefusing x d state host refusal y e next (Changes change) = IsRefusedNow x d state host change refusal y e next

abbrev pub IsDoing : Tables → Draft → StoreState → HostId → Tables → Draft → StoreState → Request → Type 0
IsDoing x d state host y e next (Asks fetch) = IsLeft x d state y e next
IsDoing x d state host y e next (Changes change) = IsDoneNow x d state host change y e next

-- `x` are the tables without its want
abbrev pub IsMadeBy : Tables → Draft → StoreState → Pending → Tables → Draft → StoreState → Decision → Type 0
IsMadeBy x d state p y e next (Refuse refusal) =
    IsRefusing x d state p.wanted.host refusal y e next p.wanted.request
IsMadeBy x d state p y e next Do = IsDoing x d state p.wanted.host y e next p.wanted.request
IsMadeBy x d state p y e next (Anew needs) = IsMadeOf x d y e (anew_made x d p needs) × (next ≡ state)

-- what was due is made
pub record Decides (a b : Making) : Type 0 where
  pub due : Due
  pub p : Pending
  pub place : IsPlaced a.tables.pending due.at p
  pub is : IsDue a.tables a.state a.draft.fresh p (Some due.decision)
  pub so : IsMadeBy (unqueued a.tables due.at p.number) a.draft a.state p b.tables b.draft b.state
      due.decision
  pub served : IsServed b.tables b.state

-- what was due at a place is made, of a want that stood there
abbrev pub IsDecided : Tables → Draft → StoreState → Due → Tables → Draft → StoreState → Type 0
IsDecided x d state due y e next = (p : Pending) × IsPlaced x.pending due.at p
    × IsMadeBy (unqueued x due.at p.number) d state p y e next due.decision
