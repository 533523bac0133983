-- What is written of a value: whether it lies in its range, and then its bytes.
use Rattle.std.specs.Prelude.{
  ℕ,
  zero,
  suc,
  ◌/◌,
  ◌%◌,
  ◌^◌,
  Bool,
  true,
  ◌&&◌,
  nat_le,
  nat_lt,
  List,
  [],
  ◌∷◌,
  ◌++◌,
  length,
}
use Rattle.std.specs.List.{list_all, flat_map}

pub record Spelled : Type 0 where
  pub fits : Bool
  pub bytes : List ℕ

infixr 20 ◌&◌
-- one part, and then another
abbrev pub ◌&◌ : Spelled → Spelled → Spelled
a & b = record { fits = a.fits && b.fits; bytes = a.bytes ++ b.bytes }

-- nothing
abbrev pub nothing : Spelled
nothing = record { fits = true; bytes = [] }

-- one byte that passes a test
abbrev pub one_byte : (ℕ → Bool) → ℕ → Spelled
one_byte test byte = record { fits = nat_lt byte 256 && test byte; bytes = byte ∷ [] }

-- the last so many digits of a number to the base 256, the highest first
abbrev pub big_endian : ℕ → ℕ → List ℕ
big_endian zero n = []
big_endian (suc width) n = (n / 256 ^ width % 256) ∷ big_endian width n

-- a number from `least` to `most` in so many bytes
unfoldable pub number : ℕ → ℕ → ℕ → ℕ → Spelled
number width least most n = record { fits = nat_le least n && nat_le n most; bytes = big_endian width n }

-- all items of a list, one behind another
unfoldable pub items : {A : Type 0} → (A → Spelled) → List A → Spelled
items item xs = record { fits = list_all (λ x. (item x).fits) xs; bytes = flat_map (λ x. (item x).bytes) xs }

-- the count of a list's items, from `least` to `most`, in so many bytes, and then the items
abbrev pub counted : {A : Type 0} → ℕ → ℕ → ℕ → (A → Spelled) → List A → Spelled
counted width least most item xs = number width least most (length xs) & items item xs
