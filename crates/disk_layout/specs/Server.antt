-- The first metadata page, which is the server's: 0..8 the epoch, 8..12 the next fileset number, 29 the format.
use Rattle.std.specs.Prelude.{◌≡◌, ◌≤◌, ◌<◌, ◌⊎◌, ℕ, List}
use Rattle.base_types.specs.Image.{byte_at}
use Rattle.disk_layout.specs.Numbers.{number_at}

-- the page of a server without filesets: number 1 is next, the format is 2, and all else is zero, the epoch too
pub record IsNewServer (page : List ℕ) : Type 0 where
  pub next : number_at 4 8 page ≡ 1
  pub format : byte_at page 29 ≡ 2
  pub zeros : (k : ℕ) → (k < 8) ⊎ ((12 ≤ k) × (k < 29)) ⊎ ((30 ≤ k) × (k < 512)) → byte_at page k ≡ 0
