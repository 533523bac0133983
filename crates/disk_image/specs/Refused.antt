-- Whether a disk can be mounted for a server, and the place at which it is refused.
use Rattle.std.specs.Prelude.{
  ℕ,
  ◌==◌,
  ◌||◌,
  nat_le,
  Bool,
  List,
  [],
  ◌∷◌,
  ◌++◌,
  map,
  slice_get,
  Option,
  Some,
  None,
  if◌then◌else◌,
}
use Rattle.std.specs.List.{list_any}
use Rattle.base_types.specs.Image.{byte_at}
use Rattle.disk_layout.specs.Half.{used_half}
use Rattle.disk_layout.specs.Places.{page_start, pages_of}
use Rattle.disk_layout.specs.declared.half.Half.{Half}
use Rattle.disk_layout.specs.declared.superblock.Superblock.{Superblock}
use Rattle.disk_pages.specs.Server.{server_of}
use Rattle.disk_pages.specs.declared.server.ServerFacts.{ServerFacts}
use Rattle.disk_image.specs.Joined.{joined}
use Rattle.disk_image.specs.Aggregate.{
  Aggregate,
  aggregate_of,
  is_blank,
  superblock_of,
  server_page,
  header_number,
  header_page,
}
use Rattle.disk_image.specs.Faults.{faults_in}

-- where a test fails
abbrev pub refused_unless : Bool → ℕ → List ℕ
refused_unless test place = if test then [] else (place ∷ [])

-- whether the other server that a slot's header names, 0 for none, is one of so many that are declared
abbrev pub is_declared : ℕ → Aggregate → ℕ → Bool
is_declared servers disk slot = nat_le (byte_at (header_page disk slot) 73) servers

-- A number that only rises is worn from 2^63 on: so many more can't come in a run.
abbrev pub is_worn : ℕ → Bool
is_worn number = nat_le 9223372036854775808 number

-- whether the epoch is worn, or the last ship number that the server gave or took from another one
abbrev pub are_worn : ServerFacts → Bool
are_worn facts = is_worn facts.epoch || is_worn facts.ship || list_any (λ taken. is_worn taken.ship) facts.taken

-- The places at which an aggregate is refused, where so many servers are declared: its faults, then the headers that
-- name another server, then the log and the server's page where they are worn.
unfoldable pub refusals : ℕ → Half → Aggregate → List ℕ
refusals servers half disk =
    map (λ fault. fault.place) (faults_in disk)
    ++ joined (λ slot. refused_unless (is_declared servers disk slot) (page_start (header_number slot))) 16
    ++ (if is_worn half.generation then (512 ∷ []) else [])
    ++ (if are_worn (server_of (server_page disk)) then (page_start 0 ∷ []) else [])

abbrev pub refused_behind : ℕ → Superblock → Option Half → List ℕ → Option ℕ
refused_behind servers superblock None image = Some 512
refused_behind servers superblock (Some half) image =
    slice_get (refusals servers half (aggregate_of superblock half image)) 0

abbrev pub refused_under : ℕ → ℕ → Option Superblock → List ℕ → Option ℕ
refused_under server servers None image = Some 0
refused_under server servers (Some superblock) image =
    if superblock.server == server
    then refused_behind servers superblock (used_half (pages_of superblock.blocks) image) image else Some 0

-- The place, in bytes, at which the mount of a disk for a server is refused, where so many servers are declared; none
-- where it is mounted. A blank disk and another server's are refused at 0.
unfoldable pub refused_at : ℕ → ℕ → List ℕ → Option ℕ
refused_at server servers image = if is_blank image then Some 0
    else refused_under server servers (superblock_of image) image
