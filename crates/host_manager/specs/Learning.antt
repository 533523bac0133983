-- What a host learns from servers, by its tables.
use Rattle.std.specs.Prelude.{Bool, List, None, Option, Some, [], false, filter, fold, if◌then◌else◌, is_some, map}
use Rattle.std.specs.Prelude.{nat_lt, not, true, ℕ}
use Rattle.std.specs.Prelude.{◌&&◌, ◌++◌, ◌==◌, ◌∷◌, ◌≡◌}
use Rattle.std.specs.List.{list_any}
use Rattle.std.specs.Option.{option_map_or}
use Rattle.base_types.specs.Ids.{same_fid}
use Rattle.base_types.specs.declared.ids.ServerId.{ServerId}
use Rattle.host_asks.specs.Asking.{Doing, doing}
use Rattle.host_cache.specs.Holding.{has_id}
use Rattle.host_cache.specs.Seen.{Seen, after_add, seen}
use Rattle.host_gives.specs.Giving.{Giving, after_take_out, give_of, is_of_file, is_outstanding, outstanding, taken_out}
use Rattle.host_leaves.specs.Owning.{is_use}
use Rattle.host_leaves.specs.Sending.{with_once}
use Rattle.host_tables.specs.Tables.{floor_of, site_at, updates_status}
use Rattle.host_tables.specs.Updates.{home_at, known_by, with_floor, with_site}
use Rattle.host_gives.specs.declared.leavings.Leaving.{Leaving}
use Rattle.host_tables.specs.declared.draft.Draft.{Draft}
use Rattle.host_tables.specs.declared.files.Floor.{Floor}
use Rattle.host_lengths.specs.declared.given.Given.{Given}
use Rattle.host_tables.specs.declared.tables.Tables.{Tables}
use Rattle.message_types.specs.declared.giving.AppliedGive.{AppliedGive}
use Rattle.message_types.specs.declared.giving.Ends.{Ends}
use Rattle.message_types.specs.declared.giving.Give.{Give}
use Rattle.message_types.specs.declared.message.Message.{Message}
use Rattle.message_types.specs.declared.telling.Bring.{Bring}
use Rattle.message_types.specs.declared.telling.Grant.{Grant}
use Rattle.run_rules.specs.declared.step.Asked.{Asked}
use Rattle.token_types.specs.declared.token.Token.{Token}

-- the call that a give-back ends is open no more, and its label ended
abbrev pub closed_at : ℕ → Option Asked → Option Asked
closed_at k None = None
closed_at k (Some asked) = if asked.k == k then None else Some asked

abbrev pub closed_by : Option Ends → Option Asked → Option Asked
closed_by None asked = asked
closed_by (Some ends) asked = closed_at ends.k asked

abbrev pub ends_in : Message → Option Ends
ends_in message = option_map_or (λ (give : Give). give.ends) (give_of message) None

abbrev pub ended_by : Message → Tables → Tables
ended_by message m = if is_some (ends_in message)
    then record m { ending = None; call = closed_by (ends_in message) m.call } else m

abbrev pub is_leaving_by : AppliedGive → Leaving → Bool
is_leaving_by applied left = (left.fileset.0 == applied.fileset.0) && (left.number == applied.number)

-- a give-back is known as applied
abbrev pub without_give : AppliedGive → Tables → Tables
without_give applied m = record m {
  gives = after_take_out m.gives applied.fileset applied.number;
  leaving = filter (λ left. not (is_leaving_by applied left)) m.leaving;
  lengths = map (known_by applied.fileset applied.number) m.lengths;
}

-- the next one of its fileset is to be sent, where it was outstanding
abbrev pub due_of : AppliedGive → Bool → Giving → Draft → Draft
due_of applied is_first left draft = if is_first && is_some (outstanding left applied.fileset)
    then record draft { due = with_once draft.due applied.fileset } else draft

abbrev pub due_after : AppliedGive → Tables → Draft → Draft
due_after applied m draft = due_of applied (is_outstanding m.gives applied.fileset applied.number)
    (after_take_out m.gives applied.fileset applied.number) draft

abbrev pub learning_given : AppliedGive → Doing → Doing
learning_given applied at = option_map_or
    (λ message. doing (ended_by message (without_give applied at.tables)) (due_after applied at.tables at.draft))
    (taken_out at.tables.gives applied.fileset applied.number) at

-- the epoch of a server rises: no claim to it waits, and the floors of its files begin anew
abbrev pub renewed : ServerId → ℕ → Tables → Tables
renewed server epoch m = record m {
  sites = with_site (record (site_at m.sites server) { epoch = epoch; claimed = false }) m.sites;
  floors = filter (λ (floor : Floor). not ((home_at floor.fid.fileset).0 == server.0)) m.floors;
}

-- a token comes, with what a Grant shows under it
abbrev pub shown_with : Option Grant → Token → Seen → Seen
shown_with None token shown = after_add shown token None [] []
shown_with (Some grant) token shown = after_add shown token grant.status grant.pieces grant.entries

-- what is shown, the lengths that were given back, and the tokens that were taken
pub record Taking : Type 0 where
  pub shown : Seen
  pub lengths : List Given
  pub taken : List Token

abbrev pub without_length : Token → List Given → List Given
without_length token lengths = if updates_status token.kind
    then filter (λ (given : Given). not (same_fid given.fid token.fid)) lengths else lengths

abbrev pub taking_token : Option Grant → Taking → Token → Taking
taking_token grant at token = record {
  shown = shown_with grant token at.shown;
  lengths = without_length token at.lengths;
  taken = at.taken ++ token ∷ [];
}

abbrev pub taking_one : Option Grant → Taking → Token → Taking
taking_one grant at token = if has_id at.shown.held token.id then at else taking_token grant at token

abbrev pub taking : Option Grant → List Token → Taking → Taking
taking grant tokens at = fold (taking_one grant) at tokens

abbrev pub taking_from : Tables → Draft → Taking
taking_from m draft = record { shown = seen m.cache; lengths = m.lengths; taken = draft.taken }

pub record HasTaken (m : Tables) (draft : Draft) (at : Taking) (new : Tables) (after : Draft) : Type 0 where
  pub shown : seen new.cache ≡ at.shown
  pub tables : new ≡ record m { cache = new.cache; lengths = at.lengths }
  pub draft_is : after ≡ record draft { taken = at.taken }

-- what an answer brings may be used
abbrev pub may_use : Tables → Bring → Bool
may_use m bring =
    nat_lt (floor_of m.floors bring.fid) bring.stamp && not (list_any (is_of_file bring.fid) m.gives.gives)

-- it is used, where it may be
abbrev pub floor_by : Bring → Floor
floor_by bring = record { fid = bring.fid; stamp = bring.stamp }

abbrev pub with_floor_by : Bring → Tables → Tables
with_floor_by bring m = record m { floors = with_floor (floor_by bring) m.floors }

pub data UsesBring (bring : Bring) (grant : Option Grant) (m : Tables) (draft : Draft) (new : Tables) (after : Draft)
    : Type 0 where
  MayNot : may_use m bring ≡ false → new ≡ m → after ≡ draft → UsesBring bring grant m draft new after
  UsesIt : may_use m bring ≡ true
      → HasTaken (with_floor_by bring m) draft (taking grant bring.tokens (taking_from m draft)) new after
      → UsesBring bring grant m draft new after

-- all that a Done brings are tokens of locks and open files
abbrev pub brings_uses : Bring → Bool
brings_uses bring = not (list_any (λ (token : Token). not (is_use token.kind)) bring.tokens)
