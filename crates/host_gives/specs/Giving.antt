-- The give-backs that a host has made and doesn't know as applied.
use Rattle.std.specs.Prelude.{ℕ, ◌+◌, ◌<◌, ◌≤◌, Bool, false, IsTrue, ◌==◌, ◌&&◌, if◌then◌else◌, List, [], ◌∷◌, ◌++◌}
use Rattle.std.specs.Prelude.{map}
use Rattle.std.specs.Prelude.{Option, Some, None, is_some, All, filter}
use Rattle.std.specs.List.{find, list_any, before_first, after_first}
use Rattle.std.specs.Option.{option_map_or}
use Rattle.base_types.specs.Ids.{same_fid}
use Rattle.base_types.specs.declared.ids.Fid.{Fid}
use Rattle.base_types.specs.declared.ids.FilesetId.{FilesetId}
use Rattle.token_types.specs.Conflicts.{same_id}
use Rattle.token_types.specs.declared.token.TokenId.{TokenId}
use Rattle.message_types.specs.declared.giving.Give.{Give}
use Rattle.message_types.specs.declared.message.Body.{Body}
use Rattle.message_types.specs.declared.message.Body.TheVariants.{GiveBack}
use Rattle.message_types.specs.declared.message.Message.{Message}
use Rattle.host_gives.specs.declared.counters.Counter.{Counter}
use Rattle.host_gives.specs.Counters.{last_of, with_last}

pub record Giving : Type 0 where
  -- in the order in which they were made
  pub gives : List Message
  -- the number of the last one that was made of each fileset
  pub counters : List Counter

-- what a message gives back
abbrev pub given_in : Body → Option Give
given_in (GiveBack give) = Some give
given_in _ = None

abbrev pub give_of : Message → Option Give
give_of message = given_in message.body

abbrev pub number_of : Message → ℕ
number_of message = option_map_or (λ give. give.number) (give_of message) 0

-- whether a message gives back of a fileset, or of a file, or names a token
abbrev pub is_of : FilesetId → Message → Bool
is_of fileset message = option_map_or (λ give. give.fid.fileset.0 == fileset.0) (give_of message) false

abbrev pub is_of_file : Fid → Message → Bool
is_of_file fid message = option_map_or (λ give. same_fid give.fid fid) (give_of message) false

abbrev pub names : TokenId → Message → Bool
names id message = option_map_or (λ give. list_any (λ other. same_id other id) give.ids) (give_of message) false

-- the first give-back of a fileset is outstanding
abbrev pub outstanding : Giving → FilesetId → Option Message
outstanding giving fileset = find (is_of fileset) giving.gives

-- whether a message is the next give-back of its fileset
abbrev pub is_next : Giving → Message → Bool
is_next giving message =
    option_map_or (λ give. give.number == last_of giving.counters give.fid.fileset + 1) (give_of message) false

-- the last numbers with that of a give-back
abbrev pub counted : List Counter → Option Give → List Counter
counted counters None = counters
counted counters (Some give) = with_last counters give.fid.fileset give.number

abbrev pub after_add : Giving → Message → Giving
after_add giving message =
    record { gives = giving.gives ++ message ∷ []; counters = counted giving.counters (give_of message) }

-- whether a number is that of the outstanding give-back
abbrev pub is_outstanding : Giving → FilesetId → ℕ → Bool
is_outstanding giving fileset number =
    option_map_or (λ message. number_of message == number) (outstanding giving fileset) false

-- the outstanding give-back is known as applied, where it has this number
abbrev pub gone : Giving → FilesetId → ℕ → Option Message
gone giving fileset number = if is_outstanding giving fileset number then outstanding giving fileset else None

-- the messages without the first one that passes a test
abbrev pub without : (Message → Bool) → List Message → List Message
without test gives = before_first test gives ++ after_first test gives

-- the messages without the first one of a fileset
abbrev pub without_first : FilesetId → List Message → List Message
without_first fileset gives = without (is_of fileset) gives

abbrev pub after_gone : Giving → FilesetId → ℕ → Giving
after_gone giving fileset number =
    record giving {
      gives = if is_outstanding giving fileset number then without_first fileset giving.gives else giving.gives;
    }

-- whether a message is the give-back of a fileset with this number
abbrev pub is_numbered : FilesetId → ℕ → Message → Bool
is_numbered fileset number message = is_of fileset message && (number_of message == number)

-- the give-back with this number is known as applied, outstanding or not
abbrev pub taken_out : Giving → FilesetId → ℕ → Option Message
taken_out giving fileset number = find (is_numbered fileset number) giving.gives

abbrev pub after_take_out : Giving → FilesetId → ℕ → Giving
after_take_out giving fileset number =
    record giving { gives = without (is_numbered fileset number) giving.gives }

-- the give-backs of one fileset
abbrev pub of_fileset : FilesetId → List Message → List Message
of_fileset fileset gives = filter (is_of fileset) gives

-- numbers rise: each is above the one before it, the first above `low`, and none is above `last`
abbrev pub Rise : ℕ → ℕ → List ℕ → Type 0
Rise low last [] = low ≤ last
Rise low last (number ∷ numbers) = (low < number) × Rise number last numbers

-- all messages give back, and the numbers of those of one fileset rise; none is above the last one that was made
pub record IsSound (giving : Giving) : Type 0 where
  pub give_back : All (λ message. IsTrue (is_some (give_of message))) giving.gives
  pub rise : (fileset : FilesetId) →
      Rise 0 (last_of giving.counters fileset) (map number_of (of_fileset fileset giving.gives))
