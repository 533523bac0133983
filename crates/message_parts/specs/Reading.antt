-- Reading a part from the front of bytes.
use Rattle.std.specs.Prelude.{
  ◌≡◌,
  ℕ,
  zero,
  suc,
  ◌+◌,
  ◌*◌,
  ◌/◌,
  ◌^◌,
  ◌&&◌,
  nat_le,
  Bool,
  if◌then◌else◌,
  List,
  [],
  ◌∷◌,
  length,
  Result,
  Ok,
  Err,
}
use Rattle.message_parts.specs.declared.part.Stopped.{Stopped}
use Rattle.message_parts.specs.declared.part.Stopped.TheVariants.{Bad, Memory}

-- A value and the bytes behind it, or how many bytes are left where the bytes stop to begin a spelling.
abbrev pub Reading : Type 0 → Type 0
Reading A = Result (A × List ℕ) ℕ

infixr 10 ◌>>=◌
abbrev pub ◌>>=◌ : {A B : Type 0} → Reading A → (A → List ℕ → Reading B) → Reading B
(Ok x) >>= next = next x.0 x.1
(Err left) >>= next = Err left

-- one byte that passes a test
abbrev pub byte_at : (ℕ → Bool) → List ℕ → Reading ℕ
byte_at test [] = Err 0
byte_at test (byte ∷ bytes) = if test byte then Ok (byte, bytes) else Err (suc (length bytes))

-- whether some number from `least` to `most` begins with these digits, where so many more digits follow
abbrev pub begins_number : ℕ → ℕ → ℕ → ℕ → Bool
begins_number lacking least most front = nat_le (least / 256 ^ lacking) front && nat_le front (most / 256 ^ lacking)

-- the rest of a number of which some digits were read and so many lack
abbrev pub number_from : ℕ → ℕ → ℕ → ℕ → List ℕ → Reading ℕ
number_from zero least most front bytes = Ok (front, bytes)
number_from (suc lacking) least most front bytes =
    byte_at (λ byte. begins_number lacking least most (256 * front + byte)) bytes >>= λ byte rest.
    number_from lacking least most (256 * front + byte) rest

-- a number from `least` to `most` in so many bytes
unfoldable pub number_at : ℕ → ℕ → ℕ → List ℕ → Reading ℕ
number_at width least most bytes = number_from width least most 0 bytes

-- so many items
unfoldable pub items_at : {A : Type 0} → (List ℕ → Reading A) → ℕ → List ℕ → Reading (List A)
items_at item zero bytes = Ok ([], bytes)
items_at item (suc count) bytes = item bytes >>= λ x rest. items_at item count rest >>= λ xs rest. Ok (x ∷ xs, rest)

unfoldable pub counted_at : {A : Type 0} → ℕ → ℕ → ℕ → (List ℕ → Reading A) → List ℕ → Reading (List A)
counted_at width least most item bytes = number_at width least most bytes >>= λ count rest. items_at item count rest

-- What a function returned, seen by `view`, is what reading gives, unless memory ran out.
abbrev pub Fails : {A : Type 0} → Stopped → Reading A → Type 0
Fails (Bad left) read = read ≡ Err left
Fails Memory read = Unit {0}

abbrev pub Gives : {X A : Type 0} → (X → A × List ℕ) → Result X Stopped → Reading A → Type 0
Gives view (Ok x) read = read ≡ Ok (view x)
Gives view (Err e) read = Fails e read
