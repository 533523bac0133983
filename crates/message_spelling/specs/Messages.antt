-- Messages, and which bytes begin some message.
use Rattle.std.specs.Prelude.{
  ◌≡◌,
  ◌<◌,
  ◌≤◌,
  ℕ,
  ◌==◌,
  ◌||◌,
  Bool,
  if◌then◌else◌,
  List,
  ◌++◌,
  take,
  length,
  Result,
  Ok,
  Err,
  MatchResult,
  IsTrue,
}
use Rattle.message_types.specs.declared.message.Direction.{Direction}
use Rattle.message_types.specs.declared.message.Direction.TheVariants.{ToServer, ToHost, BetweenServers}
use Rattle.message_types.specs.declared.message.Message.{Message}
use Rattle.message_spelling.specs.declared.coding.DecodeRefused.{DecodeRefused}
use Rattle.message_spelling.specs.declared.coding.DecodeRefused.TheVariants.{BadMessage, Memory}
use Rattle.message_parts.specs.Spelled.{Spelled, ◌&◌, number}
use Rattle.message_parts.specs.Reading.{Reading, ◌>>=◌, number_at}
use Rattle.message_parts.specs.Words.{coded, coded_at, host_code, host_of, spell_server, server_at}
use Rattle.message_spelling.specs.Bodies.{body_tag, body_fields}
use Rattle.message_spelling.specs.Readings.{body_of}

abbrev pub direction_code : Direction → ℕ
direction_code ToServer = 0
direction_code ToHost = 1
direction_code BetweenServers = 2

abbrev pub direction_of : ℕ → Direction
direction_of n = if n == 0 then ToServer else if n == 1 then ToHost else BetweenServers

-- Ship and Shipped go between servers.
abbrev pub goes_between : ℕ → Bool
goes_between tag = (tag == 17) || (tag == 18)

-- Grant, Done, Revoke, Gone, Reclaimed, Restarted and NotHere go to a host, Bye to either, and all others to a server.
abbrev pub goes_to_host : ℕ → Bool
goes_to_host tag =
    (tag == 3) || (tag == 5) || (tag == 6) || (tag == 10) || (tag == 12) || (tag == 13) || (tag == 16)

abbrev pub least_direction : ℕ → ℕ
least_direction tag = if goes_between tag then 2 else if goes_to_host tag then 1 else 0

abbrev pub most_direction : ℕ → ℕ
most_direction tag = if goes_between tag then 2 else if goes_to_host tag || (tag == 15) then 1 else 0

-- between servers there is no host, and no epoch
abbrev pub most_host : Direction → ℕ
most_host BetweenServers = 0
most_host _ = 17

abbrev pub most_epoch : Direction → ℕ
most_epoch BetweenServers = 0
most_epoch _ = 18446744073709551615

-- A message: its kind, which way it goes, the host, the server, the epoch, and the fields of its kind.
unfoldable pub spell_message : Message → Spelled
spell_message m =
    number 1 1 18 (body_tag m.body)
    & coded (least_direction (body_tag m.body)) (most_direction (body_tag m.body)) direction_code m.direction
    & coded 0 (most_host m.direction) host_code m.host & spell_server m.server
    & number 8 0 (most_epoch m.direction) m.epoch & body_fields m.moves m.body

unfoldable pub message_at : List ℕ → Reading Message
message_at rest =
    number_at 1 1 18 rest >>= λ tag rest.
    coded_at (least_direction tag) (most_direction tag) direction_of rest >>= λ direction rest.
    coded_at 0 (most_host direction) host_of rest >>= λ host rest. server_at rest >>= λ server rest.
    number_at 8 0 (most_epoch direction) rest >>= λ epoch rest. body_of tag rest >>= λ told rest.
    Ok (
      record {
        direction = direction;
        host = host;
        server = server;
        epoch = epoch;
        moves = told.0;
        body = told.1;
      },
      rest,
    )

-- the bytes of a message
abbrev pub spelling : Message → List ℕ
spelling message = (spell_message message).bytes

-- whether its fields lie in their ranges and its lists have room for their counts
abbrev pub is_spellable : Message → Bool
is_spellable message = (spell_message message).fits

-- the bytes are the beginning of a message, or a whole one
abbrev pub BeginsMessage : List ℕ → Type 0
BeginsMessage bytes =
    (message : Message) × (more : List ℕ) × IsTrue (is_spellable message) × (bytes ++ more ≡ spelling message)

-- a message stands at the front of the bytes
abbrev pub HasMessage : List ℕ → Type 0
HasMessage bytes =
    (message : Message) × (more : List ℕ) × IsTrue (is_spellable message) × (bytes ≡ spelling message ++ more)

-- So many of the bytes begin a message, and no more of them do.
pub record IsLongestBeginning (bytes : List ℕ) (n : ℕ) : Type 0 where
  pub within : n ≤ length bytes
  pub begins : BeginsMessage (take n bytes)
  pub longest : (m : ℕ) → n < m → m ≤ length bytes → BeginsMessage (take m bytes) → ⊥

-- What decoding answers: the message at the front of the bytes and its length; or, exactly where no message stands
-- there, how many of the bytes begin one.
abbrev pub Decodes : Result (Message × ℕ) DecodeRefused → List ℕ → Type 0
Decodes (Ok found) bytes =
    (found.1 ≤ length bytes) × IsTrue (is_spellable found.0) × (take found.1 bytes ≡ spelling found.0)
Decodes (Err (BadMessage n)) bytes = (HasMessage bytes → ⊥) × IsLongestBeginning bytes n
Decodes (Err Memory) bytes = Unit {0}

-- bytes that begin with the spellings of two messages begin with one and the same
abbrev pub OneSpelling : Type 0
OneSpelling = (a b : Message) (x y : List ℕ) → IsTrue (is_spellable a) → IsTrue (is_spellable b)
    → spelling a ++ x ≡ spelling b ++ y → (a ≡ b) × (x ≡ y)

-- what was written is read back, whatever follows
abbrev pub ReadsBack : Type 0
ReadsBack = (message : Message) (more : List ℕ) (result : Result (Message × ℕ) DecodeRefused)
    → IsTrue (is_spellable message) → Decodes result (spelling message ++ more)
    → MatchResult result (λ found. found ≡ (message, length (spelling message))) (λ e. e ≡ Memory)
