-- The page of an anode.
use Rattle.std.specs.Prelude.{ℕ, ◌+◌, ◌*◌, ◌==◌, ◌&&◌, ◌||◌, not, min, nat_le, Bool, List, if◌then◌else◌}
use Rattle.base_types.specs.Image.{byte_at}
use Rattle.disk_layout.specs.Numbers.{number_at}
use Rattle.disk_pages.specs.Words.{each_below, are_zero, is_name_at}

-- its kind: 0 free, 1 a directory, 2 a file
abbrev pub is_object : List ℕ → Bool
is_object page = (byte_at page 0 == 1) || (byte_at page 0 == 2)

abbrev pub unique_of : List ℕ → ℕ
unique_of page = number_at 4 4 page

-- a free anode keeps its unique number, and all else is zero
unfoldable pub is_free_page : List ℕ → Bool
is_free_page page = are_zero 0 4 page && are_zero 8 504 page

-- pointer w of the 16 in the page: those of the lists own, files and dirs, twelve direct ones, and the indirect one
abbrev pub page_pointer : ℕ → List ℕ → ℕ
page_pointer w page = number_at 4 (12 + 4 * w) page

-- how many bytes its content has, by its kind and length: a directory's length is in entries of 72 bytes
abbrev pub bytes_in : List ℕ → ℕ
bytes_in page = min (if byte_at page 0 == 1 then 72 * number_at 4 8 page else number_at 4 8 page) 65536

-- a directory has at most 64 entries, a file 65,536 bytes
abbrev pub is_length : List ℕ → Bool
is_length page = if byte_at page 0 == 1 then nat_le (number_at 4 8 page) 64 else nat_le (number_at 4 8 page) 65536

-- a directory has three lists, a file one
abbrev pub are_lists : List ℕ → Bool
are_lists page =
    not (page_pointer 0 page == 0)
    && (if byte_at page 0 == 1 then not (page_pointer 1 page == 0) && not (page_pointer 2 page == 0)
    else (page_pointer 1 page == 0) && (page_pointer 2 page == 0))

-- the direct pointers of a directory's bytes all name a block
abbrev pub has_no_hole : List ℕ → Bool
has_no_hole page = each_below (λ i. not (byte_at page 0 == 1) || nat_le (bytes_in page) (1024 * i)
    || not (page_pointer (3 + i) page == 0)) 12

-- whether it is the page of a file or directory whose pointers are numbers of blocks and one, or zero
unfoldable pub is_object_page : ℕ → List ℕ → Bool
is_object_page blocks page =
    is_object page && are_zero 1 3 page && is_length page && each_below (λ w. nat_le (page_pointer w page) blocks) 16
    && are_lists page && has_no_hole page && is_name_at 76 page && is_name_at 137 page && are_zero 198 314 page
