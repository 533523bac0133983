-- What stands in blocks: pointers, and entries of directories.
use Rattle.std.specs.Prelude.{ℕ, ◌+◌, ◌-◌, ◌*◌, ◌/◌, ◌==◌, ◌&&◌, ◌||◌, not, nat_le, nat_lt, Bool, List}
use Rattle.base_types.specs.Image.{byte_at}
use Rattle.base_types.specs.Name.{is_before}
use Rattle.tree_calls.specs.declared.part.DirEntry.{DirEntry}
use Rattle.disk_layout.specs.Numbers.{number_at}
use Rattle.disk_pages.specs.Words.{each_below, are_zero, name_at, is_name_at}

-- pointer j of the 52 in an indirect block
abbrev pub map_pointer : ℕ → List ℕ → ℕ
map_pointer j block = number_at 4 (4 * j) block

-- Whether a block is the indirect block of an anode with so many bytes: each pointer is a block's number and
-- one, or zero. None is zero below the end of a directory's bytes.
unfoldable pub is_map : ℕ → Bool → ℕ → List ℕ → Bool
is_map blocks is_directory bytes block =
    each_below (λ j. nat_le (map_pointer j block) blocks && (not is_directory || nat_le bytes (1024 * (12 + j))
    || not (map_pointer j block == 0))) 52
    && are_zero 208 816 block

-- The bytes of a directory are those of its blocks, one after another; entry e stands from byte 72 * e on.
abbrev pub entry_name : List ℕ → ℕ → List ℕ
entry_name bytes e = name_at (72 * e) bytes

abbrev pub entry_anode : List ℕ → ℕ → ℕ
entry_anode bytes e = number_at 4 (72 * e + 64) bytes

abbrev pub entry_unique : List ℕ → ℕ → ℕ
entry_unique bytes e = number_at 4 (72 * e + 68) bytes

-- whether entry e is one: a name, which is behind that of the entry before it, and an anode from 1 to 64
unfoldable pub is_entry : List ℕ → ℕ → Bool
is_entry bytes e =
    is_name_at (72 * e) bytes && are_zero (72 * e + 61) 3 bytes && nat_le 1 (entry_anode bytes e)
    && nat_le (entry_anode bytes e) 64
    && ((e == 0) || is_before (entry_name bytes (e - 1)) (entry_name bytes e))

-- whether block i of a directory of so many entries holds what it should: the entries that begin in it, and
-- then zeros
unfoldable pub is_entry_block : ℕ → List ℕ → ℕ → Bool
is_entry_block count bytes i =
    each_below (λ e. not (72 * e / 1024 == i) || is_entry bytes e) count
    && each_below (λ k. nat_lt (1024 * i + k) (72 * count) || (byte_at bytes (1024 * i + k) == 0)) 1024

-- an entry as the tree has it
abbrev pub entry_of : List ℕ → ℕ → DirEntry
entry_of bytes e = record { name = entry_name bytes e; anode = entry_anode bytes e; unique = entry_unique bytes e }
