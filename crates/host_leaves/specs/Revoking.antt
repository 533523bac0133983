-- What a host answers to a Revoke, by its tables.
use Rattle.std.specs.Prelude.{Bool, List, None, Option, Some, [], false, filter, fold, if◌then◌else◌, is_some, map}
use Rattle.std.specs.Prelude.{nat_lt, not, true, ℕ}
use Rattle.std.specs.Prelude.{◌&&◌, ◌++◌, ◌∷◌, ◌≡◌}
use Rattle.std.specs.List.{find, list_any}
use Rattle.base_types.specs.Ids.{same_fid}
use Rattle.base_types.specs.declared.ids.Fid.{Fid}
use Rattle.base_types.specs.declared.ids.FilesetId.{FilesetId}
use Rattle.host_cache.specs.Holding.{is_id, is_status}
use Rattle.host_cache.specs.declared.held.Held.{Held}
use Rattle.host_gives.specs.Giving.{is_outstanding}
use Rattle.host_labels.specs.Labels.{InUse, after_pin, has_id as is_in_use}
use Rattle.host_labels.specs.declared.uses.Labelled.{Labelled}
use Rattle.host_leaves.specs.Giving.{Leaves}
use Rattle.host_leaves.specs.Sending.{saying, sending_give, with_once}
use Rattle.host_leaves.specs.declared.revoking.Sorted.{Sorted}
use Rattle.host_tables.specs.Tables.{floor_of, held_of}
use Rattle.host_tables.specs.Updates.{home_at, with_floor}
pub use Rattle.host_gives.specs.Leavings.{is_leaving}
use Rattle.host_gives.specs.declared.leavings.Leaving.{Leaving}
use Rattle.host_tables.specs.declared.draft.Draft.{Draft}
use Rattle.host_tables.specs.declared.tables.Tables.{Tables}
use Rattle.message_types.specs.declared.message.Body.TheVariants.{Kept}
use Rattle.message_types.specs.declared.tokens.Revoke.{Revoke}
use Rattle.run_rules.specs.Past.{In}
use Rattle.run_rules.specs.declared.applied.Why.TheVariants.{Revoked}
use Rattle.token_types.specs.Conflicts.{same_id}
use Rattle.token_types.specs.declared.token.Token.{Token}
use Rattle.token_types.specs.declared.token.TokenId.{TokenId}

-- the floor of a file is at least a stamp
abbrev pub with_raised : Fid → ℕ → Tables → Tables
with_raised fid stamp m = if nat_lt (floor_of m.floors fid) stamp
    then record m { floors = with_floor (record { fid = fid; stamp = stamp }) m.floors } else m

-- the filesets whose outstanding give-back names a token
abbrev pub with_given : Tables → TokenId → List FilesetId → Leaving → List FilesetId
with_given m id filesets left =
    if is_leaving id left && is_outstanding m.gives left.fileset left.number then with_once filesets left.fileset
    else filesets

abbrev pub given_by : Tables → TokenId → Sorted → Sorted
given_by m id sorted = record sorted { given = fold (with_given m id) sorted.given m.leaving }

-- a token that a Revoke names: it is in use, or held, or on its way, or none of these
abbrev pub sorting_held : Tables → TokenId → Option Held → Sorted → Sorted
sorting_held m id None sorted =
    if list_any (is_leaving id) m.leaving then sorted else record sorted { back = sorted.back ++ id ∷ [] }
sorting_held m id (Some held) sorted =
    if is_in_use m.uses.labels id then record sorted { kept = sorted.kept ++ held.token ∷ [] }
    else record sorted { left = sorted.left ++ held.token ∷ [] }

abbrev pub sorting : Tables → Sorted → TokenId → Sorted
sorting m sorted id = sorting_held m id (find (is_id id) m.cache.held) (given_by m id sorted)

-- numbers, each once
abbrev pub has_id : TokenId → List TokenId → Bool
has_id id ids = list_any (λ other. same_id other id) ids

abbrev pub with_id : List TokenId → TokenId → List TokenId
with_id ids id = if has_id id ids then ids else ids ++ id ∷ []

abbrev pub once_each : List TokenId → List TokenId
once_each ids = fold with_id [] ids

abbrev pub none_sorted : Sorted
none_sorted = record { kept = []; left = []; back = []; given = [] }

abbrev pub sorted_by : Tables → List TokenId → Sorted
sorted_by m ids = fold (sorting m) none_sorted (once_each ids)

-- the tokens of a file
abbrev pub of_file : Fid → List Token → List Token
of_file fid tokens = filter (λ token. same_fid token.fid fid) tokens

-- tokens in use are pinned, and it is said for each file that they are kept
abbrev pub pinned : InUse → List Token → InUse
pinned uses tokens = fold (λ uses token. after_pin uses token.id) uses tokens

abbrev pub pinned_all : List Token → Tables → Tables
pinned_all tokens m = record m { uses = pinned m.uses tokens }

abbrev pub keeping_file : Tables → List Token → Draft → Fid → Draft
keeping_file m tokens draft fid =
    saying m (home_at fid.fileset)
    (Kept (record { fid = fid; ids = map (λ token. token.id) (of_file fid tokens) })) draft

-- the files of tokens, each once
abbrev pub with_fid : List Fid → Token → List Fid
with_fid fids token = if list_any (same_fid token.fid) fids then fids else fids ++ token.fid ∷ []

abbrev pub fids_of : List Token → List Fid
fids_of tokens = fold with_fid [] tokens

abbrev pub keeping_all : Tables → List Token → Draft → Draft
keeping_all m tokens draft = fold (keeping_file m tokens) draft (fids_of tokens)

abbrev pub sending_given : Tables → List FilesetId → Draft → Draft
sending_given m filesets draft = fold (sending_give m) draft filesets

-- the files whose tokens of the status all left, while a call is open
abbrev pub covers_status : Fid → List Token → Bool
covers_status fid tokens = list_any (λ token. same_fid token.fid fid && is_status token.kind) tokens

abbrev pub with_lost : Fid → List Fid → List Fid
with_lost fid lost = if list_any (λ other. same_fid other fid) lost then lost else lost ++ fid ∷ []

abbrev pub is_lost : Fid → List Token → Tables → Bool
is_lost fid tokens m = covers_status fid tokens && is_some m.call && not (covers_status fid (held_of m))

abbrev pub with_lost_where : Fid → List Token → Tables → Tables
with_lost_where fid tokens m = if is_lost fid tokens m then record m { lost = with_lost fid m.lost } else m

-- the files of tokens but for one
abbrev pub others_of : Fid → List Token → List Fid
others_of fid tokens = filter (λ other. not (same_fid other fid)) (fids_of tokens)

-- the tokens of files leave, file by file, those of one file first, with numbers that aren't held
pub data LeaveAll (tokens : List Token) : List Fid → List TokenId → Tables → Draft → Tables → Draft → Type 0 where
  NoneLeft : (back : List TokenId) (m : Tables) (draft : Draft) → LeaveAll tokens [] back m draft m draft
  FileLeaves : (fid : Fid) (fids : List Fid) (back : List TokenId) (m between new : Tables) (draft middle after : Draft)
      → Leaves m draft fid (of_file fid tokens) Revoked back between middle
      → LeaveAll tokens fids [] (with_lost_where fid (of_file fid tokens) between) middle new after
      → LeaveAll tokens (fid ∷ fids) back m draft new after

-- what becomes of the tokens that a Revoke of a file names: those that are on their way are sent again, those in use
-- kept, and the others leave
abbrev pub Answers : Fid → Sorted → Tables → Draft → Tables → Draft → Type 0
Answers fid sorted m draft new after =
    LeaveAll sorted.left (fid ∷ others_of fid sorted.left) sorted.back (pinned_all sorted.kept m)
    (keeping_all m sorted.kept (sending_given m sorted.given draft)) new after

-- what a Revoke brings about
pub record Revokes (revoke : Revoke) (m : Tables) (draft : Draft) (new : Tables) (after : Draft) : Type 0 where
  pub sorted : Sorted
  pub sorted_is : sorted ≡ sorted_by (with_raised revoke.fid revoke.stamp m) revoke.ids
  pub leaves : Answers revoke.fid sorted (with_raised revoke.fid revoke.stamp m) draft new after

-- the tokens of one file leave, with numbers that aren't held
pub record LeavesFile (fid : Fid) (tokens : List Token) (back : List TokenId) (m : Tables) (draft : Draft)
    (new : Tables) (after : Draft) : Type 0 where
  pub between : Tables
  pub leaves : Leaves m draft fid (of_file fid tokens) Revoked back between after
  pub lost : new ≡ with_lost_where fid (of_file fid tokens) between
  -- those of others stay
  pub stay : (token : Token) → same_fid token.fid fid ≡ false → In token (held_of m) → In token (held_of new)

-- labels are in use for tokens; tokens are held; those are that aren't of a file, nor of the files of others
abbrev pub AreUsed : List Labelled → List Token → Type 0
AreUsed labels tokens = (token : Token) → In token tokens → is_in_use labels token.id ≡ true

abbrev pub AreHeld : Tables → List Token → Type 0
AreHeld m tokens = (token : Token) → In token tokens → In token (held_of m)

abbrev pub has_file : Fid → List Token → Bool
has_file fid tokens = list_any (λ token. same_fid token.fid fid) tokens

abbrev pub AreHeldBeside : Tables → Fid → List Token → List Token → Type 0
AreHeldBeside m fid gone tokens = (token : Token) → In token tokens → same_fid token.fid fid ≡ false →
    has_file token.fid gone ≡ false → In token (held_of m)
