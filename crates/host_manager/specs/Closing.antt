-- What a host does by itself, by its tables: it evicts, ends and stops.
use Rattle.std.specs.Prelude.{Bool, List, None, Option, Some, [], false, filter, find, fold, if◌then◌else◌, map}
use Rattle.std.specs.Prelude.{IsTrue, not, option_and_then, option_map, true, ◌&&◌, ◌++◌, ◌+◌, ◌||◌, ◌↔◌}
use Rattle.std.specs.Prelude.{◌∷◌, ◌≡◌, ◌≢◌, ◌⊎◌}
use Rattle.base_types.specs.declared.ids.Fid.{Fid}
use Rattle.host_asks.specs.Asking.{doing}
use Rattle.host_asks.specs.Going.{Begins}
use Rattle.host_calls.specs.Looking.{ending_of}
use Rattle.host_cache.specs.Holding.{is_id, is_idle, last_of, tokens_of}
use Rattle.host_labels.specs.Labels.{is_lock}
use Rattle.host_labels.specs.declared.uses.Labelled.{Labelled as UseOf}
use Rattle.host_leaves.specs.Dirtying.{tokens_at}
use Rattle.host_leaves.specs.Giving.{Drops, Leaves}
use Rattle.host_leaves.specs.Sending.{saying, sending_due}
use Rattle.host_tables.specs.declared.draft.Draft.{Draft}
use Rattle.host_tables.specs.declared.sites.Site.{Site}
use Rattle.host_tables.specs.declared.tables.Tables.{Tables}
use Rattle.message_types.specs.declared.message.Body.TheVariants.{Bye, Down}
use Rattle.run_rules.specs.Past.{In}
use Rattle.run_rules.specs.declared.applied.Why.TheVariants.{Ended, Evicted, Stopped}
use Rattle.token_types.specs.declared.token.Token.{Token}
use Rattle.tree_calls.specs.declared.call.Call.{Call}

-- the token that isn't in use and was last used longest ago
abbrev pub oldest_of : Tables → Option Token
oldest_of m = option_and_then (λ id. option_map (λ held. held.token) (find (is_id id) m.cache.held))
    (option_map (λ held. held.token.id) (last_of (filter is_idle m.cache.held)))

-- it is evicted
pub record EvictsIt (m : Tables) (draft : Draft) (token : Token) (new : Tables) (after : Draft) : Type 0 where
  pub left : Draft
  pub leaves : Leaves m draft token.fid (token ∷ []) Evicted [] new left
  pub sends : after ≡ sending_due new left

-- a call is begun, and each give-back that became outstanding is sent
pub record BeginsIt (m : Tables) (draft : Draft) (call : Call) (new : Tables) (after : Draft) : Type 0 where
  pub begun : Draft
  pub begins : Begins (m.begun + 1) call (doing m draft) (doing new begun)
  pub sends : after ≡ sending_due new begun

-- the call that ends the use of the first label
abbrev pub first_end : List UseOf → Option Call
first_end [] = None
first_end (used ∷ labels) = Some (ending_of (is_lock used.token.kind) used.label)

-- the tokens of a file leave, where there are any
pub data LeavesFile (m : Tables) (draft : Draft) (fid : Fid) (new : Tables) (after : Draft) : Type 0 where
  HasLeft : tokens_at m fid ≡ [] → new ≡ m → after ≡ draft → LeavesFile m draft fid new after
  NowLeaves : (tokens_at m fid ≡ [] → ⊥) → Leaves m draft fid (tokens_at m fid) Ended [] new after
      → LeavesFile m draft fid new after

-- tokens leave, file by file
pub data LeavesEach : List Token → Tables → Draft → Tables → Draft → Type 0 where
  NoneLeft : (m : Tables) (draft : Draft) → LeavesEach [] m draft m draft
  OneLeaves : (token : Token) (tokens : List Token) (m between new : Tables) (draft middle after : Draft)
      → LeavesEach tokens m draft between middle → LeavesFile between middle token.fid new after
      → LeavesEach (tokens ++ token ∷ []) m draft new after

-- all that is held leaves, and each give-back that became outstanding is sent
pub record AllLeave (m : Tables) (draft : Draft) (new : Tables) (after : Draft) : Type 0 where
  pub left : Draft
  pub leaves : LeavesEach (tokens_of m.cache.held) m draft new left
  pub sends : after ≡ sending_due new left

-- Bye is said to each server that was greeted, once
abbrev pub is_to_part : Site → Bool
is_to_part site = site.greeted && not site.said_bye

-- a server that was greeted hasn't said it yet
abbrev pub awaits_bye : Site → Bool
awaits_bye site = site.greeted && not site.has_bye

abbrev pub parting : Tables → Draft → Site → Draft
parting m draft site = if is_to_part site then saying m site.server Bye draft else draft

abbrev pub has_parted_from : Site → Site
has_parted_from site = record site { said_bye = site.said_bye || site.greeted }

abbrev pub with_byes : Tables → Tables
with_byes m = record m { sites = map has_parted_from m.sites }

-- the next step of the end, where there is one
pub data EndsNext (m : Tables) (draft : Draft) (new : Tables) (after : Draft) : Bool → Type 0 where
  EndsLabel : (call : Call) → first_end m.uses.labels ≡ Some call → BeginsIt m draft call new after
      → EndsNext m draft new after true
  LeavesAll : m.uses.labels ≡ [] → m.cache.held ≢ [] → AllLeave m draft new after → EndsNext m draft new after true
  Awaits : m.uses.labels ≡ [] → m.cache.held ≡ [] → m.gives.gives ≢ [] → new ≡ m → after ≡ draft
      → EndsNext m draft new after false
  Parts : (some : Bool) → m.uses.labels ≡ [] → m.cache.held ≡ [] → m.gives.gives ≡ [] → new ≡ with_byes m
      → after ≡ fold (parting m) draft m.sites → (IsTrue some ↔ (after.sent ≢ [])) → EndsNext m draft new after some

-- the end has a step to make now: something is held, or Bye is to be said to a server
abbrev pub MayEnd : Tables → Type 0
MayEnd m = (m.cache.held ≢ []) ⊎ ((m.gives.gives ≡ []) × ((site : Site) × In site m.sites × (is_to_part site ≡ true)))

-- the host stops: it drops all tokens, and says Down to each server
abbrev pub downing : Tables → Draft → Site → Draft
downing m draft site = saying m site.server Down draft

pub record GoesDown (m : Tables) (draft : Draft) (new : Tables) (after : Draft) : Type 0 where
  pub dropped : Draft
  pub drops : Drops m draft (tokens_of m.cache.held) Stopped new dropped
  pub says : after ≡ fold (downing new) dropped new.sites
