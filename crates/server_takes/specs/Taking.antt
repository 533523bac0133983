-- What a message that comes makes of a server's tables, and of its step in the making. What it makes of the store, see
-- the calls of it; what a Change needs and whether a give-back can be stored, the store tells.
use Rattle.std.specs.Option.{option_map_or}
use Rattle.std.specs.Prelude.{◌≡◌, ◌⊎◌, ℕ, ◌==◌, nat_lt, Bool, true, false, ◌&&◌, ◌||◌, not, if◌then◌else◌, is_none}
use Rattle.std.specs.Prelude.{List, [], ◌∷◌, ◌++◌, length, map, Option, Some, None}
use Rattle.base_types.specs.declared.ids.HostId.{HostId}
use Rattle.tree_calls.specs.declared.part.Status.{Status}
use Rattle.tree_calls.specs.declared.reply.Reply.TheVariants.{Ok as Fine}
use Rattle.store_acts.specs.Acts.{act_done}
use Rattle.store_memory.specs.Reading.{status_told}
use Rattle.store_state.specs.declared.state.HostState.TheVariants.{Ended, Live}
use Rattle.store_state.specs.declared.state.StoreState.{StoreState}
use Rattle.server_looks.specs.Acts.{giving, host_noted}
use Rattle.token_manager.specs.Managers.{Manager, after_kept, after_returned}
use Rattle.token_types.specs.declared.token.Need.{Need}
use Rattle.token_types.specs.declared.token.TokenId.{TokenId}
use Rattle.message_types.specs.declared.asking.Change.{Change as ChangeOf}
use Rattle.message_types.specs.declared.asking.Fetch.{Fetch as FetchOf}
use Rattle.message_types.specs.declared.giving.Ends.{Ends}
use Rattle.message_types.specs.declared.giving.Give.{Give}
use Rattle.message_types.specs.declared.giving.Reclaim.{Reclaim as ReclaimOf}
use Rattle.message_types.specs.declared.message.Body.{Body}
use Rattle.message_types.specs.declared.message.Body.TheVariants.{Bye, Change, Done, Down, Fetch, GiveBack, Gone, Hello}
use Rattle.message_types.specs.declared.message.Body.TheVariants.{Kept, Reclaim, Reclaimed, Restarted, Returned}
use Rattle.message_types.specs.declared.message.Message.{Message}
use Rattle.message_types.specs.declared.telling.Done.{Done as DoneOf}
use Rattle.message_types.specs.declared.tokens.Named.{Named}
use Rattle.run_rules.specs.Past.{In}
use Rattle.run_rules.specs.ServerDecides.{ended_by, span_of}
use Rattle.run_rules.specs.ServerDue.{empty_reclaimed}
use Rattle.run_rules.specs.Tokens.{number_of}
use Rattle.run_rules.specs.declared.applied.Answer.{Answer}
use Rattle.run_rules.specs.declared.applied.Applied.TheVariants.{IsDown, Stored}
use Rattle.run_rules.specs.declared.applied.Request.{Request}
use Rattle.run_rules.specs.declared.applied.Request.TheVariants.{Change as Changes, Fetch as Asks}
use Rattle.run_rules.specs.declared.applied.Wanted.{Wanted}
use Rattle.server_tables.specs.Answers.{answer_again, is_old}
use Rattle.server_tables.specs.Claims.{answer_to, taking_one, ups_of}
use Rattle.server_tables.specs.Gives.{given, last_give}
use Rattle.server_tables.specs.Greetings.{welcoming}
use Rattle.server_tables.specs.Listing.{has_host, is_live, stopping}
use Rattle.server_tables.specs.Places.{is_of}
use Rattle.server_tables.specs.Queue.{is_meant_so, is_waiting}
use Rattle.server_tables.specs.Updates.{enqueued, gone_away}
use Rattle.server_tables.specs.declared.recovering.Claimed.{Claimed}
use Rattle.server_tables.specs.declared.tables.Tables.{Tables}
use Rattle.server_takes.specs.Drafts.{applying, saying, wanting, word}
use Rattle.server_takes.specs.declared.draft.Draft.{Draft}

-- what is made of both
pub record Made : Type 0 where
  pub tables : Tables
  pub draft : Draft

abbrev pub made : Tables → Draft → Made
made x d = record { tables = x; draft = d }

-- # Greetings

-- a live host that came on the list in an earlier epoch
abbrev pub is_late : Tables → HostId → Bool
is_late x host = is_live x.hosts host && not (has_host x.hosts.listed_now host)

-- a host that comes on the list
abbrev pub comes_new : Tables → HostId → Bool
comes_new x host = not (is_late x host) && not (has_host x.hosts.listed host)

abbrev pub hello_tables : Tables → HostId → Tables
hello_tables x host = if comes_new x host then welcoming x host else x

abbrev pub hello_draft : Tables → Draft → HostId → Draft
hello_draft x d host =
    saying d (word x host (if is_late x host then Restarted else Reclaimed empty_reclaimed))

-- a live host ends, in this epoch
abbrev pub ends_now : Tables → HostId → ℕ → Bool
ends_now x host epoch = is_live x.hosts host && (epoch == x.hosts.epoch)

abbrev pub bye_tables : Tables → HostId → ℕ → Tables
bye_tables x host epoch = if ends_now x host epoch then gone_away x host else x

-- a live host ends, in another epoch
abbrev pub ends_late : Tables → HostId → ℕ → Bool
ends_late x host epoch = is_live x.hosts host && not (epoch == x.hosts.epoch)

abbrev pub bye_draft : Tables → Draft → HostId → ℕ → Draft
bye_draft x d host epoch = saying d (word x host (if ends_late x host epoch then Restarted else Bye))

abbrev pub down_tables : Tables → HostId → Tables
down_tables x host = gone_away (record x { hosts = stopping x.hosts host }) host

abbrev pub down_draft : Draft → HostId → Draft
down_draft d host = applying d (IsDown host)

-- # Requests

abbrev pub wanted_for : HostId → Request → List Need → Wanted
wanted_for host request needs = record { host = host; request = request; moves = 0; needs = needs }

abbrev pub want_made : Tables → Draft → Wanted → Made
want_made x d w = made (enqueued x w) (wanting d w x.next)

-- a Fetch on a file that is here, beside which none of its number waits
abbrev pub takes_fetch : Tables → HostId → FetchOf → Bool
takes_fetch x host fetch = is_of x.server fetch.fid.fileset && not (is_waiting x.pending host (Asks fetch))

abbrev pub fetch_made : Tables → Draft → HostId → FetchOf → Made
fetch_made x d host fetch =
    if takes_fetch x host fetch then want_made x d (wanted_for host (Asks fetch) fetch.needs) else made x d

-- a Change of filesets themselves, or of one that is here
abbrev pub is_decided_here : Tables → ChangeOf → Bool
is_decided_here x change = (change.fileset.0 == 0) || is_of x.server change.fileset

-- one that can be answered, beside which no other of its fileset waits
abbrev pub may_wait : Tables → HostId → ChangeOf → Bool
may_wait x host change = is_meant_so change && not (is_waiting x.pending host (Changes change))

abbrev pub takes_change : Tables → HostId → ChangeOf → Bool
takes_change x host change = is_decided_here x change && not (is_old x host change) && may_wait x host change

-- one that is old is answered as before
abbrev pub repeated : Tables → Draft → HostId → Option DoneOf → Draft
repeated x d host None = d
repeated x d host (Some done) = saying d (word x host (Done done))

-- what is made of a Change that needs this
abbrev pub change_made : Tables → Draft → HostId → ChangeOf → List Need → Made
change_made x d host change needs =
    if is_decided_here x change && is_old x host change
    then made x (repeated x d host (answer_again x host change))
    else (if takes_change x host change then want_made x d (wanted_for host (Changes change) needs) else made x d)

-- # Tokens that come back, or are kept

abbrev pub all_returned : Manager → HostId → List TokenId → Manager
all_returned manager host [] = manager
all_returned manager host (id ∷ ids) = all_returned (after_returned manager host id) host ids

abbrev pub all_kept : Manager → HostId → List TokenId → Manager
all_kept manager host [] = manager
all_kept manager host (id ∷ ids) = all_kept (after_kept manager host id) host ids

-- tokens leave a host; of one that hasn't reclaimed it is noted
abbrev pub freed : Tables → HostId → List TokenId → Tables
freed x host ids = record x {
  tokens = all_returned x.tokens host ids;
  recovering = if has_host x.hosts.reclaimed host then x.recovering
      else record x.recovering { given_up = ups_of x.recovering.given_up host ids };
}

abbrev pub returned_tables : Tables → HostId → Named → Tables
returned_tables x host named = if is_of x.server named.fid.fileset then freed x host named.ids else x

abbrev pub kept_tables : Tables → HostId → Named → Tables
kept_tables x host named = record x { tokens = all_kept x.tokens host named.ids }

-- # Give-backs

-- a give-back is the first of its number
abbrev pub is_first : Tables → HostId → Give → Bool
is_first x host give = nat_lt (last_give x.gives host give.fid.fileset) give.number

-- it has something to store
abbrev pub has_some : Give → Bool
has_some give = not ((length give.pieces == 0) && is_none give.length)

-- an object of this status is a file that may be changed
abbrev pub takes_gifts : Option Status → Bool
takes_gifts status = option_map_or (λ (told : Status). not told.dir && not told.read_only) status false

-- it is stored, where this is told of its file
abbrev pub is_stored : Tables → HostId → Give → Option Status → Bool
is_stored x host give told = is_first x host give && (has_some give && takes_gifts told)

abbrev pub keeping : Draft → HostId → Give → Bool → Draft
keeping d host give stored =
    if stored then applying d (Stored host give.fid (map span_of give.pieces) give.length) else d

abbrev pub answer_by : HostId → Ends → Answer
answer_by host ends = record { host = host; k = ends.k; call = ends.call; reply = Fine; first = false }

abbrev pub ending : Draft → HostId → Give → Draft
ending d host give = record d { applied = d.applied ++ ended_by host give }

abbrev pub noted : Tables → HostId → Give → Tables
noted x host give = record x {
  gives = if is_first x host give then given x.gives host (number_of give) else x.gives;
  recovering = if has_host x.hosts.reclaimed host then x.recovering
      else record x.recovering { taken = taking_one x.recovering.taken host (number_of give) };
}

abbrev pub give_tables : Tables → HostId → Give → Tables
give_tables x host give =
    if is_of x.server give.fid.fileset then freed (noted x host give) host give.ids else x

abbrev pub give_applied : Tables → Draft → HostId → Give → Option Status → Draft
give_applied x d host give told =
    if is_first x host give then ending (keeping d host give (is_stored x host give told)) host give else d

abbrev pub give_draft : Tables → Draft → HostId → Give → Option Status → Draft
give_draft x d host give told =
    if is_of x.server give.fid.fileset
    then saying (give_applied x d host give told) (word x host (Gone (number_of give)))
    else d

-- # Claims

abbrev pub claim_of : HostId → ReclaimOf → Claimed
claim_of host claim = record { host = host; claim = claim }

-- a claim waits from now on, where it didn't
abbrev pub AreClaims : HostId → ReclaimOf → List Claimed → List Claimed → Type 0
AreClaims host claim old after =
    (In (claim_of host claim) old × (after ≡ old)) ⊎ (after ≡ old ++ claim_of host claim ∷ [])

-- a claim of a host that hasn't reclaimed waits
pub record IsClaimed (x : Tables) (host : HostId) (claim : ReclaimOf) (y : Tables) : Type 0 where
  pub reclaimed : has_host x.hosts.reclaimed host ≡ true → y ≡ x
  pub after : has_host x.hosts.reclaimed host ≡ false
      → (y ≡ record x { recovering = record x.recovering { claims = y.recovering.claims } })
      × AreClaims host claim x.recovering.claims y.recovering.claims

abbrev pub claim_draft : Tables → Draft → HostId → Draft
claim_draft x d host =
    if has_host x.hosts.reclaimed host
    then option_map_or (λ answer. saying d (word x host (Reclaimed answer))) (answer_to x.recovering.answers host) d
    else d

-- # Any message

-- `needs`: what a Change needs by the store; `told`: the status of a give-back's file by the store
pub record IsMadeOf (x : Tables) (d : Draft) (y : Tables) (e : Draft) (both : Made) : Type 0 where
  pub tables : y ≡ both.tables
  pub draft : e ≡ both.draft

-- a message of this epoch, from a live host, that is no greeting and no farewell
abbrev pub IsRequestTaken : Tables → Draft → HostId → List Need → Option Status → Tables → Draft → Body → Type 0
IsRequestTaken x d host needs told y e (Fetch fetch) = IsMadeOf x d y e (fetch_made x d host fetch)
IsRequestTaken x d host needs told y e (Change change) = IsMadeOf x d y e (change_made x d host change needs)
IsRequestTaken x d host needs told y e (Returned named) = IsMadeOf x d y e (made (returned_tables x host named) d)
IsRequestTaken x d host needs told y e (Kept named) = IsMadeOf x d y e (made (kept_tables x host named) d)
IsRequestTaken x d host needs told y e (GiveBack give) =
    IsMadeOf x d y e (made (give_tables x host give) (give_draft x d host give told))
IsRequestTaken x d host needs told y e (Reclaim claim) = IsClaimed x host claim y × (e ≡ claim_draft x d host)
IsRequestTaken x d host needs told y e _ = IsMadeOf x d y e (made x d)

abbrev pub Whether : Bool → Type 0 → Type 0 → Type 0
Whether true P Q = P
Whether false P Q = Q

abbrev pub IsOtherTaken : Tables → Draft → Message → List Need → Option Status → Tables → Draft → Type 0
IsOtherTaken x d m needs told y e =
    Whether (is_live x.hosts m.host)
    (Whether (m.epoch == x.hosts.epoch)
    (Whether (m.moves == 0) (IsRequestTaken x d m.host needs told y e m.body) (IsMadeOf x d y e (made x d)))
    (IsMadeOf x d y e (made x (saying d (word x m.host Restarted)))))
    (IsMadeOf x d y e (made x d))

abbrev pub IsBodyTaken : Tables → Draft → Message → List Need → Option Status → Tables → Draft → Body → Type 0
IsBodyTaken x d m needs told y e Hello = IsMadeOf x d y e (made (hello_tables x m.host) (hello_draft x d m.host))
IsBodyTaken x d m needs told y e Bye =
    IsMadeOf x d y e (made (bye_tables x m.host m.epoch) (bye_draft x d m.host m.epoch))
IsBodyTaken x d m needs told y e Down = IsMadeOf x d y e (made (down_tables x m.host) (down_draft d m.host))
IsBodyTaken x d m needs told y e _ = IsOtherTaken x d m needs told y e

-- Nothing is taken of a host that has stopped.
abbrev pub IsTaken : Tables → Draft → Message → List Need → Option Status → Tables → Draft → Type 0
IsTaken x d m needs told y e =
    Whether (has_host x.hosts.down m.host) (IsMadeOf x d y e (made x d)) (IsBodyTaken x d m needs told y e m.body)

-- # The store

-- what is known of a host that greets, ends or has stopped
abbrev pub hello_state : Tables → HostId → StoreState → StoreState
hello_state x host state = if comes_new x host then host_noted state host Live else state

abbrev pub bye_state : Tables → HostId → ℕ → StoreState → StoreState
bye_state x host epoch state = if ends_now x host epoch then host_noted state host Ended else state

-- a give-back is stored of a file that is there and may be changed
abbrev pub store_given : HostId → Give → StoreState → StoreState
store_given host give state =
    if has_some give && takes_gifts (status_told state give.fid) then (act_done state (giving host give)).state
    else state

abbrev pub give_state : Tables → HostId → Give → StoreState → StoreState
give_state x host give state =
    if is_of x.server give.fid.fileset && is_first x host give then store_given host give state else state
