-- Room for the puts and the blocks of a call.
use Rattle.std.specs.Prelude.{
  ◌≡◌,
  ◌<◌,
  ℕ,
  zero,
  suc,
  ◌+◌,
  ◌*◌,
  ◌==◌,
  ◌&&◌,
  ◌||◌,
  Bool,
  true,
  not,
  List,
  if◌then◌else◌,
  ◌-◌,
  ◌/◌,
  min,
  nat_lt,
  nat_le,
}
use Rattle.std.proofs.Common.{get_or}
use Rattle.disk_log.specs.Puts.{is_put, count_of, IsOwn, without}
use Rattle.disk_log.specs.State.{State, IsOpen}
use Rattle.disk_space.specs.Counts.{count_now, count_settled}

-- 1 where a test passes
abbrev pub one : Bool → ℕ
one test = if test then 1 else 0

-- how many numbers below one pass a test
unfoldable pub how_many : (ℕ → Bool) → ℕ → ℕ
how_many test zero = 0
how_many test (suc n) = how_many test n + one (test n)

-- how many blocks are free, now and in whatever a crash may leave
abbrev pub free_blocks : State → List ℕ → ℕ
free_blocks state image = how_many
    (λ block. (count_now state image block == 0) && (count_settled state image block == 0)) state.superblock.blocks

-- the pages of counts, and with them the page of an anode
abbrev pub are_counts : ℕ → Bool
are_counts p = nat_le 1058 p

abbrev pub with_counts : ℕ → ℕ → Bool
with_counts page p = (p == page) || nat_le 1058 p

abbrev pub is_page : ℕ → ℕ → Bool
is_page page p = p == page

-- An open transaction may put each of some pages: no other one put it, and what it reserved is enough for all that it
-- didn't put yet.
pub record MayPutAll (pages : ℕ → Bool) (state : State) (slot : ℕ) : Type 0 where
  pub opened : IsOpen state slot
  pub own : (p : ℕ) → p < state.half.pages → pages p ≡ true → IsOwn slot p state.puts
  pub room : 2 * (count_of slot state.puts + how_many (λ p. pages p && not (is_put slot p state.puts)) state.half.pages)
      < get_or state.reservations slot 0

-- A transaction put some of these pages: all else is the same, and whatever held these pages and was open to it still
-- is.
pub record PutsPages (pages : ℕ → Bool) (slot : ℕ) (old new : State) : Type 0 where
  pub rest : new ≡ record old { puts = new.puts }
  pub others : without slot new.puts ≡ without slot old.puts
  pub may : (wider : ℕ → Bool)
      → ((p : ℕ) → pages p ≡ true → wider p ≡ true) → MayPutAll wider old slot → MayPutAll wider new slot

-- How many of the blocks below i are written where a piece of n bytes is laid over an anode's, of which those before
-- `kept` stay: those of the piece, and the block of the end.
abbrev pub blocks_written : ℕ → ℕ → ℕ → ℕ → ℕ
blocks_written kept from n i = min i ((from + n + 1023) / 1024) - from / 1024 + one (nat_lt (kept / 1024) i)
