-- A page of call numbers: for each host 0 to 16 24 bytes, which are the number of its last change, the number
-- of its last give-back, the code of the reply and the right that it says is missing.
use Rattle.std.specs.Prelude.{ℕ, ◌+◌, ◌*◌, ◌&&◌, nat_lt, Bool, List}
use Rattle.base_types.specs.Image.{byte_at}
use Rattle.tree_calls.specs.declared.ship.Record.{Record}
use Rattle.disk_layout.specs.Numbers.{number_at}
use Rattle.disk_pages.specs.Words.{each_below, are_zero}
use Rattle.disk_pages.specs.Server.{is_code}

unfoldable pub is_record : ℕ → List ℕ → Bool
is_record at page = is_code (byte_at page (at + 16)) && nat_lt (byte_at page (at + 17)) 64
    && are_zero (at + 18) 6 page

-- whether it is a page of call numbers
unfoldable pub is_numbers_page : List ℕ → Bool
is_numbers_page page = each_below (λ host. is_record (24 * host) page) 17 && are_zero 408 104 page

-- what is kept of a host's requests
abbrev pub record_at : ℕ → List ℕ → Record
record_at at page = record {
  change = number_at 8 at page;
  give = number_at 8 (at + 8) page;
  code = byte_at page (at + 16);
  right = byte_at page (at + 17);
}
