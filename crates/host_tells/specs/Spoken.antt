-- What a host owes where it answers a call at once, without memory.
use Rattle.std.specs.Prelude.{[], List, None, Option, Some, length, take, ℕ, ◌+◌, ◌++◌, ◌<◌, ◌≡◌, ◌≤◌, ◌⊎◌}
use Rattle.std.specs.Prelude.{Err, Ok, Result, false, min, true}
use Rattle.base_types.specs.declared.ids.Fid.{Fid}
use Rattle.base_types.specs.declared.user.User.{User}
use Rattle.host_calls.specs.Answering.{MarksUsed}
use Rattle.host_calls.specs.Looking.{IsVerdictOf, LeadsSo, OnlyTells, Walked, WalksSo, meant}
use Rattle.host_calls.specs.declared.looking.Verdict.{Verdict}
use Rattle.host_tables.specs.Stands.{CanReply}
use Rattle.host_tables.specs.declared.tables.Tables.{Tables}
use Rattle.host_walk.specs.Views.{nature_told}
use Rattle.host_walk.specs.declared.sight.Stop.{Stop}
use Rattle.host_walk.specs.declared.sight.Stop.TheVariants.{Lacks}
use Rattle.message_calls.specs.Replies.{spell_reply}
use Rattle.need_host.specs.Calls.{reply_now}
use Rattle.need_host.specs.Walks.{rights_on}
use Rattle.token_types.specs.declared.token.Need.{Need}
use Rattle.tree_calls.specs.declared.call.Call.{Call}
use Rattle.tree_calls.specs.declared.call.Call.TheVariants.{GetAcl, List as ListNames, Read, Stat}
use Rattle.tree_calls.specs.declared.part.Status.{Status}
use Rattle.tree_calls.specs.declared.place.Place.{Place}
use Rattle.tree_calls.specs.declared.reply.Facts.{Facts}
use Rattle.tree_calls.specs.declared.reply.Refusal.{Refusal}
use Rattle.tree_calls.specs.declared.reply.Reply.{Reply}

-- bytes are put into room from a place on, and the place behind them is answered; none where there isn't room
abbrev pub Puts : List ℕ → ℕ → List ℕ → List ℕ → Option ℕ → Type 0
Puts bytes at old new None = length old < at + length bytes
Puts bytes at old new (Some end) = (end ≡ at + length bytes) × (end ≤ length old) × (length new ≡ length old)
    × (take end new ≡ take at old ++ bytes)

-- the spelling of a reply is put into room, and can be read back; nothing is answered where there is no reply, or none
-- that can be spelled, or there isn't room
abbrev pub Spells : Option Reply → List ℕ → List ℕ → Option ℕ → Type 0
Spells None old new result = result ≡ None
Spells (Some reply) old new None =
    Puts (spell_reply reply).bytes 0 old new None ⊎ ((spell_reply reply).fits ≡ false)
Spells (Some reply) old new (Some count) =
    Puts (spell_reply reply).bytes 0 old new (Some count) × ((spell_reply reply).fits ≡ true)

-- the place of a call that only tells of an object
abbrev pub told_place : Call → Option Place
told_place (Read place from len) = Some place
told_place (Stat place) = Some place
told_place (ListNames place) = Some place
told_place (GetAcl place which) = Some place
told_place _ = None

-- what is told of an object of this status
abbrev pub facts_told : Status → User → Facts
facts_told status user = record {
  dir = status.dir;
  length = min status.length 4294967295;
  owner = status.owner;
  rights = rights_on (nature_told status) user;
}

-- a call that goes from a root along a path comes to this verdict
pub record ComesTo (m : Tables) (call : Call) (root : Fid) (path : List (List ℕ)) (verdict : Result Verdict Refusal)
    : Type 0 where
  pub made : Result Verdict Stop
  pub walked : Walked m call root path made
  pub leads : (v : Verdict) → verdict ≡ Ok v → LeadsSo m call root path v
  pub verdict_is : IsVerdictOf made verdict

-- it is answered, or it lacks a token, or can't be replied to, or there isn't room
pub data SpeaksAlong (m : Tables) (call : Call) (root : Fid) (path : List (List ℕ)) (old new : List ℕ) (after : Tables)
    : Option ℕ → Type 0
  where
    LacksIt : (need : Need) → Walked m call root path (Err (Lacks need)) → after ≡ m
        → SpeaksAlong m call root path old new after None
    IsSilent : (verdict : Result Verdict Refusal) → ComesTo m call root path verdict
        → Spells (reply_now (meant m call verdict)) old new None → after ≡ m
        → SpeaksAlong m call root path old new after None
    Speaks : (verdict : Result Verdict Refusal) → ComesTo m call root path verdict → (count : ℕ)
        → Spells (reply_now (meant m call verdict)) old new (Some count) → MarksUsed m call root path verdict after
        → SpeaksAlong m call root path old new after (Some count)

-- so, and where it is answered it is counted
abbrev pub SpeaksCounted : Tables → Call → Fid → List (List ℕ) → ℕ → List ℕ → List ℕ → Tables → Option ℕ → Type 0
SpeaksCounted m call root path begun old new after None = SpeaksAlong m call root path old new after None
SpeaksCounted m call root path begun old new after (Some count) =
    (marked : Tables) × SpeaksAlong m call root path old new marked (Some count)
    × (after ≡ record marked { begun = begun; lost = [] })

-- nothing changes: the call isn't one of these, or can't be replied to, or there isn't room for the reply, or it has no
-- spelling that can be read back, or no further call can be counted
abbrev pub StaysSilent : Tables → Tables → Call → ℕ → Type 0
StaysSilent old new call room = (new ≡ old) × ((OnlyTells call → ⊥) ⊎ (CanReply old call → ⊥)
    ⊎ ((can : CanReply old call)
    × ((room < length (spell_reply can.reply).bytes) ⊎ ((spell_reply can.reply).fits ≡ false)))
    ⊎ (4294967295 ≤ old.begun))

-- the spelling of the reply is in front of the room; what the call used is marked, and the call is counted
pub record SpeaksAtOnce (old new : Tables) (call : Call) (out : List ℕ) (count : ℕ) : Type 0 where
  pub tells : OnlyTells call
  pub can : CanReply old call
  pub room : count ≤ length out
  pub spelled : take count out ≡ (spell_reply can.reply).bytes
  pub fits : (spell_reply can.reply).fits ≡ true
  pub root : Fid
  pub path : List (List ℕ)
  pub walks : WalksSo old call root path
  pub verdict : Result Verdict Refusal
  pub comes : ComesTo old call root path verdict
  pub right : reply_now (meant old call verdict) ≡ Some can.reply
  pub marked : Tables
  pub marks : MarksUsed old call root path verdict marked
  pub after : new ≡ record marked { begun = old.begun + 1; lost = [] }
