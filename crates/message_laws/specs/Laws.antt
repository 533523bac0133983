-- What may be sent has a spelling, and is read back.
use Rattle.std.specs.Prelude.{◌++◌, ◌≡◌, ℕ, IsTrue, List, length, Result, MatchResult}
use Rattle.tree_calls.specs.Limits.{keeps_limits}
use Rattle.tree_calls.specs.declared.roster.Roster.{Roster}
use Rattle.message_spelling.specs.Messages.{Decodes, is_spellable, spelling}
use Rattle.message_spelling.specs.declared.coding.DecodeRefused.{DecodeRefused}
use Rattle.message_spelling.specs.declared.coding.DecodeRefused.TheVariants.{Memory}
use Rattle.message_types.specs.Soundness.{IsSound}
use Rattle.message_types.specs.declared.message.Message.{Message}
use Rattle.message_laws.specs.Typed.{TypedMessage}

-- a sound message of a program is spellable
abbrev pub SoundIsSpellable : Type 0
SoundIsSpellable = (roster : Roster) (message : Message)
    → IsTrue (keeps_limits roster) → IsSound roster message → TypedMessage message → IsTrue (is_spellable message)

-- and what is spellable is a message of a program: nothing more is asked of one
abbrev pub SpellableIsTyped : Type 0
SpellableIsTyped = (message : Message) → IsTrue (is_spellable message) → TypedMessage message

-- whatever follows a sound message, decoding answers it and its length, if memory doesn't run out
abbrev pub SoundIsReadBack : Type 0
SoundIsReadBack = (roster : Roster) (message : Message) (more : List ℕ) (result : Result (Message × ℕ) DecodeRefused)
    → IsTrue (keeps_limits roster) → IsSound roster message → TypedMessage message
    → Decodes result (spelling message ++ more)
    → MatchResult result (λ found. found ≡ (message, length (spelling message))) (λ e. e ≡ Memory)
