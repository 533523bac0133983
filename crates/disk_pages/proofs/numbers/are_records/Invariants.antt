use Rattle.std.proofs.Common.{◌≡◌, ℕ}
use Rattle.std.specs.Prelude.{◌+◌, ◌*◌, ◌/◌, ◌==◌, ◌&&◌, ◌||◌, not, nat_le, nat_lt, true}
use Rattle.disk_pages.specs.Numbers.{is_record}
use Rattle.disk_pages.specs.Words.{each_below}
use Rattle.disk_pages.proofs.numbers.are_records.Given as goal

abbrev pub invariant-loop-host : goal.invariant-loop-host
invariant-loop-host l = each_below (λ (host : ℕ). is_record (24 * host) l.page) l.host ≡ true
