-- Words in pages and blocks.
use Rattle.std.specs.Prelude.{ℕ, zero, suc, ◌+◌, ◌-◌, ◌==◌, ◌&&◌, min, nat_le, Bool, true, List}
use Rattle.std.specs.List.{list_all}
use Rattle.base_types.specs.Image.{byte_at, bytes_from}
use Rattle.base_types.specs.Name.{is_name}

-- whether each number below one passes a test
unfoldable pub each_below : (ℕ → Bool) → ℕ → Bool
each_below test zero = true
each_below test (suc n) = each_below test n && test n

-- whether n bytes from a place on are zero
unfoldable pub are_zero : ℕ → ℕ → List ℕ → Bool
are_zero at n bytes = list_all (λ byte. byte == 0) (bytes_from bytes at n)

-- the name at a place, behind its length in one byte: 60 bytes at most
unfoldable pub name_at : ℕ → List ℕ → List ℕ
name_at at bytes = bytes_from bytes (at + 1) (min (byte_at bytes at) 60)

-- whether a name stands at a place: its length, the name, and zeros up to 60 bytes
unfoldable pub is_name_at : ℕ → List ℕ → Bool
is_name_at at bytes =
    nat_le (byte_at bytes at) 60 && is_name (name_at at bytes)
    && are_zero (at + 1 + byte_at bytes at) (60 - byte_at bytes at) bytes
