-- What becomes of a look where it is tried under some tokens: it lacks a token, it refuses, or it finds something.
use Rattle.need_host.specs.Looks.{IsCovered, IsFirstLack, Look, View, checked, needs_of, outcome}
use Rattle.std.specs.Prelude.{Err, List, Ok, Result, ◌≡◌}
use Rattle.token_types.specs.declared.token.Need.{Need}
use Rattle.token_types.specs.declared.token.Token.{Token}
use Rattle.tree_calls.specs.declared.reply.Refusal.{Refusal}

pub data Tried (A : Type 0) : Type 0 where
  Short : Need → Tried A
  Denies : Refusal → Tried A
  Yields : A → Tried A

abbrev pub IsTried : {A : Type 0} → List Token → View → Look (Result A Refusal) → Tried A → Type 0
IsTried held view look (Short need) = IsFirstLack held (needs_of view look) need
IsTried held view look (Denies refusal) = IsCovered held view look × (outcome view look ≡ Err refusal)
IsTried held view look (Yields value) = IsCovered held view look × (outcome view look ≡ Ok value)

-- a look after another one: what the first lacks or refuses stands for both
pub record TriesOn (A B : Type 0) (held : List Token) (view : View) (look : Look (Result A Refusal))
    (next : A → Look (Result B Refusal)) : Type 0 where
  pub lacks : (need : Need) → IsTried held view look (Short need) → IsTried held view (checked look next) (Short need)
  pub refuses : (r : Refusal) → IsTried held view look (Denies r) → IsTried held view (checked look next) (Denies r)
  pub found : (value : A) (then : Tried B) → IsTried held view look (Yields value) → IsTried held view (next value) then
      → IsTried held view (checked look next) then
