-- Numbers in pages.
use Rattle.std.specs.Prelude.{ℕ, List}
use Rattle.byteorder.specs.Endian.{big_from}

-- the number in n bytes from a place on, the highest first
unfoldable pub number_at : ℕ → ℕ → List ℕ → ℕ
number_at n at image = big_from at n image
