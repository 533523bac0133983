-- The tokens of an object, added member by member.
use Rattle.std.proofs.Common.{◌≡◌, ◌∙◌, ℕ, List, [], ◌∷◌, ◌++◌, ap, sym, append_assoc}
use Rattle.json.specs.Json.{Json, object, Members, no_members, member}
use Rattle.json.specs.Token.{Token, begin_object, end_object, key}
use Rattle.json.specs.Tree.{json_tokens, members_tokens}
use Rattle.message_json.specs.Values.{tagged}

-- the members of an object, and of what a case holds
abbrev pub members_in : Json → Members
members_in (object ms) = ms
members_in _ = no_members

abbrev pub members_held : Json → Members
members_held (object (member k j ms)) = members_in j
members_held _ = no_members

-- what a line had, once each of these members was added
abbrev pub Grows : List Token → Members → List Token → Type 0
Grows line no_members last = last ≡ line
Grows line (member k j ms) last =
    (next : List Token) × (next ≡ line ++ key k ∷ json_tokens j) × Grows next ms last

grown : (ms : Members) (line last : List Token) → Grows line ms last → last ++ end_object ∷ [] ≡ line ++ members_tokens ms
grown no_members line last g = ap (λ added. added ++ end_object ∷ []) g
grown (member k j ms) line last g =
    grown ms g.0 last g.2
    ∙ ap (λ added. added ++ members_tokens ms) g.1
    ∙ append_assoc line (key k ∷ json_tokens j) (members_tokens ms)

pub object_grown : (ms : Members) (line first last : List Token) → first ≡ line ++ begin_object ∷ [] → Grows first ms last
    → last ++ end_object ∷ [] ≡ line ++ json_tokens (object ms)
object_grown ms line first last e g =
    grown ms first last g
    ∙ ap (λ added. added ++ members_tokens ms) e
    ∙ append_assoc line (begin_object ∷ []) (members_tokens ms)

pub case_grown : (name : List ℕ) (ms : Members) (line first last : List Token)
    → first ≡ line ++ begin_object ∷ key name ∷ begin_object ∷ [] → Grows first ms last
    → last ++ end_object ∷ end_object ∷ [] ≡ line ++ json_tokens (tagged name (object ms))
unfolding tagged
case_grown name ms line first last e g =
    sym (append_assoc last (end_object ∷ []) (end_object ∷ []))
    ∙ ap (λ added. added ++ end_object ∷ []) (grown ms first last g)
    ∙ ap (λ added. (added ++ members_tokens ms) ++ end_object ∷ []) e
    ∙ append_assoc (line ++ begin_object ∷ key name ∷ begin_object ∷ []) (members_tokens ms) (end_object ∷ [])
    ∙ append_assoc line (begin_object ∷ key name ∷ begin_object ∷ []) (members_tokens ms ++ end_object ∷ [])
