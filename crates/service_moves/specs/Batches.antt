-- Acts that are given to a store in batches.
use Rattle.std.specs.Prelude.{◌≡◌, ◌≤◌, ℕ, ◌+◌, ◌*◌, IsTrue, List, length, Result, Err}
use Rattle.std.specs.Int.{div_ceil}
use Rattle.base_types.specs.Faults.{RoseBy}
use Rattle.base_types.specs.declared.limits.TheConstants.{BATCH_ACTS_MAX}
use Rattle.store_memory.specs.Views.{View}
use Rattle.store_memory.specs.declared.store.StoreFault.{StoreFault}
use Rattle.store_memory.specs.declared.store.StoreFault.TheVariants.{Failed}
use Rattle.store_acts.specs.declared.act.Act.{Act}

-- how many batches acts make, each but the last as long as it may be
abbrev pub batch_count : List Act → ℕ
batch_count acts = div_ceil (length acts) BATCH_ACTS_MAX

-- what a batch wears a store at most: it is given, the store is opened anew, and it is given once more
abbrev pub batch_wear : ℕ
batch_wear = 3 * (BATCH_ACTS_MAX + 1)

-- the disk's count doesn't fall, and acts fail only where it rose by two or more and the disk's last call failed
pub record IsBlamedTwice {T : Type 0} (result : Result T StoreFault) (old new : View) : Type 0 where
  pub counted : old.faults ≤ new.faults
  pub cause : result ≡ Err Failed → RoseBy 2 old.faults new.faults × IsTrue new.last_failed
