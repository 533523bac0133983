-- What is seen of a disk: its bytes as a read gives them, the images that a crash now may leave, the moment, the
-- images that a crash at some moment from one on might have left, the count of faults, and whether its last call
-- failed.
use Rattle.std.specs.Prelude.{◌≤◌, ℕ, List, Bool, IsTrue, IsErr, ◌↔◌, Result, OnErr}
use Rattle.base_types.specs.Faults.{RoseBy}

pub record View : Type 1 where
  pub image : List ℕ
  pub may_leave : List ℕ → Type 0
  pub moment : ℕ
  pub left_since : ℕ → List ℕ → Type 0
  pub faults : ℕ
  pub last_failed : Bool
  -- this moment is one of those since an earlier one
  pub counts_now : (t : ℕ) (c : List ℕ) → t ≤ moment → may_leave c → left_since t c
  -- since this moment there is no other
  pub only_now : (c : List ℕ) → left_since moment c → may_leave c

-- the count of faults rose where the call failed, and the disk tells that it did
pub record IsCounted {T E : Type 0} (result : Result T E) (old new : View) : Type 0 where
  pub counted : old.faults ≤ new.faults
  pub cause : OnErr result (RoseBy 1 old.faults new.faults)
  pub last : IsTrue new.last_failed ↔ IsErr result
