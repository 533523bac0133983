-- That the numbers of the wants that wait rise, and suffice.
use Rattle.std.specs.Prelude.{◌≡◌, ◌≤◌, ◌<◌, ◌^◌, ◌+◌, ℕ, Bool, false, List, length, Option, IfSome, All, AllPairs}
use Rattle.base_types.specs.declared.limits.TheConstants.{NEEDS_MAX}
use Rattle.server_tables.specs.declared.pending.Pending.{Pending}
use Rattle.server_tables.specs.declared.tables.Tables.{Tables}
use Rattle.server_tables.specs.Listing.{no_grace}

-- a want has few needs
abbrev pub IsSmall : Pending → Type 0
IsSmall p = length p.wanted.needs ≤ NEEDS_MAX

-- a want is later than the last one that was asked
abbrev pub IsLater : Option ℕ → Pending → Type 0
IsLater latest p = IfSome latest (λ last. last < p.number)

-- a token manager that asked so many wants, this one last, can be asked these
pub record CanAskAll (asked : ℕ) (latest : Option ℕ) (pendings : List Pending) : Type 0 where
  pub room : asked + length pendings ≤ 2 ^ 44
  pub later : All (IsLater latest) pendings
  pub small : All IsSmall pendings
  pub rising : AllPairs (λ p q. p.number < q.number) pendings

-- The numbers of the wants that wait rise, up to the next one, and so do those that the token manager was asked.
-- `over`:
-- no grace period lasts; while one does the token manager hasn't been asked those that wait.
pub record AreCounted (over : Bool) (count : ℕ) (top : Option ℕ) (pendings : List Pending) (next : ℕ) : Type 0 where
  pub few : next ≤ 2 ^ 44
  pub asked : count ≤ next
  pub latest : IfSome top (λ last. last < next)
  pub small : All IsSmall pendings
  pub below : All (λ p. p.number < next) pendings
  pub rising : AllPairs (λ p q. p.number < q.number) pendings
  pub room : over ≡ false → count + length pendings ≤ next
  pub unasked : over ≡ false → All (IsLater top) pendings

abbrev pub IsCounted : Tables → Type 0
IsCounted x = AreCounted (no_grace x.hosts) x.tokens.asked x.tokens.latest x.pending x.next
