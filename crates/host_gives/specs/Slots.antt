-- Slots that hold a message each or none.
use Rattle.std.specs.Prelude.{◌≡◌, ℕ, ◌≤◌, ◌==◌, Bool, false, List, [], ◌∷◌, length, take, Option, Some, None}
use Rattle.std.specs.List.{find, list_any}
use Rattle.std.specs.Option.{option_map_or}
use Rattle.base_types.specs.declared.ids.FilesetId.{FilesetId}
use Rattle.message_types.specs.declared.message.Message.{Message}
use Rattle.host_gives.specs.Giving.{is_of}
use Rattle.host_gives.specs.declared.slots.Start.{Start}

-- the messages in slots, in order
abbrev pub held_in : List (Option Message) → List Message
held_in [] = []
held_in (None ∷ slots) = held_in slots
held_in (Some message ∷ slots) = message ∷ held_in slots

-- whether the message in a slot passes a test
abbrev pub holds : (Message → Bool) → Option Message → Bool
holds test slot = option_map_or test slot false

-- no slot before this one holds a message of the fileset
abbrev pub IsStart : List (Option Message) → Start → Type 0
IsStart slots start =
    (start.slot ≤ length slots) × (list_any (holds (is_of start.fileset)) (take start.slot slots) ≡ false)

abbrev pub AreStarts : List (Option Message) → List Start → Type 0
AreStarts slots [] = Unit {0}
AreStarts slots (start ∷ starts) = IsStart slots start × AreStarts slots starts

abbrev pub is_start : FilesetId → Start → Bool
is_start fileset start = start.fileset.0 == fileset.0

-- from where on a fileset's messages are looked for
abbrev pub start_of : List Start → FilesetId → ℕ
start_of starts fileset = option_map_or (λ start. start.slot) (find (is_start fileset) starts) 0
