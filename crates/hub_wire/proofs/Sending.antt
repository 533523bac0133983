-- One message more.
use Rattle.std.proofs.Common.{◌≡◌, ℕ, ◌+◌, ◌<◌, List, [], ◌∷◌, ◌++◌, length, get_or, take, refl, sym, ap, ◌∙◌}
use Rattle.std.proofs.lemmas.List.{take_more}
use Rattle.message_types.specs.declared.message.Message.{Message}
use Rattle.hub_wire.specs.Networks.{Network, with_message, with_messages}

messages_append : (net : Network) (ms : List Message) (m : Message)
    → with_messages net (ms ++ m ∷ []) ≡ with_message (with_messages net ms) m
messages_append net [] m = refl
messages_append net (x ∷ ms) m = messages_append (with_message net x) ms m

pub messages_more : (net : Network) (ms : List Message) (i : ℕ) (m : Message) → i < length ms → m ≡ get_or ms i m
    → with_messages net (take (i + 1) ms) ≡ with_message (with_messages net (take i ms)) m
messages_more net ms i m h e =
    ap (with_messages net) (take_more ms i m h) ∙ messages_append net (take i ms) (get_or ms i m)
    ∙ ap (with_message (with_messages net (take i ms))) (sym e)
