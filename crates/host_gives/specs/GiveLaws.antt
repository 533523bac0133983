-- Laws that only the right definitions of give-backs meet.
use Rattle.std.specs.Prelude.{◌≡◌, ℕ, true, false, ◌==◌, ◌&&◌, ◌||◌, not, if◌then◌else◌, [], ◌∷◌, ◌++◌, drop}
use Rattle.std.specs.List.{list_any}
use Rattle.base_types.specs.Ids.{same_fid}
use Rattle.base_types.specs.declared.ids.Fid.{Fid}
use Rattle.base_types.specs.declared.ids.FilesetId.{FilesetId}
use Rattle.token_types.specs.Conflicts.{same_id}
use Rattle.token_types.specs.declared.token.TokenId.{TokenId}
use Rattle.message_types.specs.declared.giving.Give.{Give}
use Rattle.message_types.specs.declared.message.Body.TheVariants.{GiveBack}
use Rattle.message_types.specs.declared.message.Message.{Message}
use Rattle.host_gives.specs.Counters.{last_of}
use Rattle.host_gives.specs.Giving.{Giving, IsSound, is_of_file, names, of_fileset, is_numbered, is_outstanding}
use Rattle.host_gives.specs.Giving.{after_add, gone, after_gone, taken_out, after_take_out}

-- a message that gives back
abbrev message_of : Message → Give → Message
message_of message give = record message { body = GiveBack give }

-- A give-back that is added is the last one of its fileset. Its number is the last one there, its tokens are named, and
-- it is of its file; all other filesets, tokens and files are as before.
pub record AddsAt (giving : Giving) (message : Message) (give : Give) : Type 0 where
  pub gives : (fileset : FilesetId) →
      of_fileset fileset (after_add giving (message_of message give)).gives
      ≡ of_fileset fileset giving.gives
      ++ (if give.fid.fileset.0 == fileset.0 then message_of message give ∷ [] else [])
  pub last : (fileset : FilesetId) →
      last_of (after_add giving (message_of message give)).counters fileset
      ≡ (if give.fid.fileset.0 == fileset.0 then give.number else last_of giving.counters fileset)
  pub named : (id : TokenId) →
      list_any (names id) (after_add giving (message_of message give)).gives
      ≡ (list_any (names id) giving.gives || list_any (λ other. same_id other id) give.ids)
  pub of_file : (fid : Fid) →
      list_any (is_of_file fid) (after_add giving (message_of message give)).gives
      ≡ (list_any (is_of_file fid) giving.gives || same_fid give.fid fid)

abbrev pub Adds : Type 0
Adds = (giving : Giving) (message : Message) (give : Give) → AddsAt giving message give

-- Where the outstanding give-back is gone, the fileset has the others yet, and where a number isn't the outstanding one
-- it has all. Other filesets have all, and the last numbers stay.
pub record TakesOutAt (giving : Giving) (fileset : FilesetId) (number : ℕ) : Type 0 where
  pub gone : is_outstanding giving fileset number ≡ true →
      of_fileset fileset (after_gone giving fileset number).gives ≡ drop 1 (of_fileset fileset giving.gives)
  pub kept : is_outstanding giving fileset number ≡ false → after_gone giving fileset number ≡ giving
  pub others : (other : FilesetId) → (fileset.0 == other.0) ≡ false →
      of_fileset other (after_gone giving fileset number).gives ≡ of_fileset other giving.gives
  pub last : (after_gone giving fileset number).counters ≡ giving.counters

abbrev pub TakesOut : Type 0
TakesOut = (giving : Giving) (fileset : FilesetId) (number : ℕ) → TakesOutAt giving fileset number

-- A number that is outstanding goes alike by both calls. Where a number is known as applied, outstanding or not, the
-- give-back with it isn't there any more, and all other numbers and filesets have theirs; the last numbers stay.
pub record TakesAnyAt (giving : Giving) (fileset : FilesetId) (number : ℕ) : Type 0 where
  pub outstanding : is_outstanding giving fileset number ≡ true →
      (taken_out giving fileset number ≡ gone giving fileset number)
      × (after_take_out giving fileset number ≡ after_gone giving fileset number)
  pub is_open : IsSound giving → (other : FilesetId) (n : ℕ) →
      list_any (is_numbered other n) (after_take_out giving fileset number).gives
      ≡ (list_any (is_numbered other n) giving.gives && not ((fileset.0 == other.0) && (number == n)))
  pub others : (other : FilesetId) → (fileset.0 == other.0) ≡ false →
      of_fileset other (after_take_out giving fileset number).gives ≡ of_fileset other giving.gives
  pub last : (after_take_out giving fileset number).counters ≡ giving.counters

abbrev pub TakesAny : Type 0
TakesAny = (giving : Giving) (fileset : FilesetId) (number : ℕ) → TakesAnyAt giving fileset number
