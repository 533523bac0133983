-- The page of a server: 0..8 the epoch, 8..12 the next fileset number, 12..29 the states of hosts 0 to 16, 29
-- the format, 0 for format 1. In format 2, 32..40 the last ship number that the server gave, and from 40 on 16
-- bytes for each server: the last ship number taken from it, and a reply code.
use Rattle.std.specs.Prelude.{ℕ, ◌+◌, ◌*◌, ◌==◌, ◌&&◌, nat_le, Bool, List, [], ◌∷◌, if◌then◌else◌}
use Rattle.std.specs.List.{list_all}
use Rattle.base_types.specs.Image.{byte_at, bytes_from}
use Rattle.disk_layout.specs.Numbers.{number_at}
use Rattle.disk_pages.specs.Words.{are_zero}
use Rattle.disk_pages.specs.declared.server.TakenShip.{TakenShip}
use Rattle.disk_pages.specs.declared.server.ServerFacts.{ServerFacts}

-- whether a reply code is told: 0 for one that isn't a refusal, and 1 to 21
abbrev pub is_code : ℕ → Bool
is_code code = nat_le code 21

-- what was taken from a server
abbrev pub taken_at : ℕ → List ℕ → TakenShip
taken_at at page = record { ship = number_at 8 at page; code = byte_at page (at + 8) }

unfoldable pub is_taken : ℕ → List ℕ → Bool
is_taken at page = is_code (byte_at page (at + 8)) && are_zero (at + 9) 7 page

-- the rest of the page in format 1, which is zero, and in format 2
abbrev pub is_rest : List ℕ → Bool
is_rest page =
    if byte_at page 29 == 0 then are_zero 30 482 page
    else (byte_at page 29 == 2) && are_zero 30 2 page
    && is_taken 40 page && is_taken 56 page && is_taken 72 page && is_taken 88 page && are_zero 104 408 page

-- whether it is the page of a server
unfoldable pub is_server_page : List ℕ → Bool
is_server_page page =
    nat_le 1 (number_at 4 8 page) && nat_le (number_at 4 8 page) 65536
    && list_all (λ state. nat_le state 3) (bytes_from page 12 17) && is_rest page

-- what it says
unfoldable pub server_of : List ℕ → ServerFacts
server_of page = record {
  epoch = number_at 8 0 page;
  next = number_at 4 8 page;
  hosts = bytes_from page 12 17;
  format = byte_at page 29;
  ship = number_at 8 32 page;
  taken = taken_at 40 page ∷ taken_at 56 page ∷ taken_at 72 page ∷ taken_at 88 page ∷ [];
}
