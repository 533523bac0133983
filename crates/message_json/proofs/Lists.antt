-- The tokens of a list.
use Rattle.std.proofs.Common.{◌≡◌, List, [], ◌∷◌, ◌++◌, map, refl, ap, append_assoc}
use Rattle.std.specs.List.{flat_map}
use Rattle.json.specs.Json.{Json}
use Rattle.json.specs.Token.{begin_array, end_array}
use Rattle.json.specs.Tree.{json_tokens, items_tokens}
use Rattle.json.specs.Value.{items_of}
use Rattle.message_json.specs.Values.{list}

items_are : {A : Type 0} (json : A → Json) (values : List A)
    → items_tokens (items_of (map json values)) ≡ flat_map (λ value. json_tokens (json value)) values ++ end_array ∷ []
items_are json [] = refl
items_are json (value ∷ values) =
    rw (items_are json values) (simp append_assoc)

pub list_tokens : {A : Type 0} (json : A → Json) (values : List A)
    → json_tokens (list json values)
    ≡ begin_array ∷ (flat_map (λ value. json_tokens (json value)) values ++ end_array ∷ [])
unfolding list
list_tokens json values = ap (λ tokens. begin_array ∷ tokens) (items_are json values)
