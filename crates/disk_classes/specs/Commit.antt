-- What a class leaves of a log as it is committed.
use Rattle.std.specs.Prelude.{◌≡◌, ◌≤◌, ◌<◌, ℕ, ◌+◌, ◌*◌, List, [], Option, Some, None}
use Rattle.std.proofs.Common.{get_or}
use Rattle.base_types.specs.View.{View}
use Rattle.disk_log.specs.Contents.{contents_of, page_in, last_stage, stage_in}
use Rattle.disk_log.specs.Log.{disk_of, state_of}
use Rattle.disk_log.specs.Puts.{count_of, without}
use Rattle.disk_log.specs.State.{State, free_in}
use Rattle.disk_log.specs.declared.log.Log.{Log}
use Rattle.disk_classes.specs.Notes.{pages_in_class, IsPutIn}
use Rattle.disk_classes.specs.declared.member.Noted.{Noted}
use Rattle.disk_classes.specs.declared.members.Value.{Value}

-- A transaction is the only one that put pages, and may put so many more.
pub record IsOnlyTx (slot n : ℕ) (state : State) : Type 0 where
  pub alone : without slot state.puts ≡ []
  pub few : 2 * (count_of slot state.puts + n) + 1 ≤ get_or state.reservations slot 0

-- A transaction put up to so many pages, and is the only one that put any.
pub record PutsIn (slot n : ℕ) (old new : State) : Type 0 where
  pub rest : new ≡ record old { puts = new.puts }
  pub alone : without slot new.puts ≡ []
  pub few : count_of slot new.puts ≤ count_of slot old.puts + n

-- So many transactions ended: the stages so far are the same. The count of faults never fell.
pub record KeepsStages {D : Type 0} (tells : Type 0) (view : D → View) (ended : ℕ) (old new : Log D) : Type 0 where
  pub superblock : (state_of new).superblock ≡ (state_of old).superblock
  pub half : (state_of new).half ≡ (state_of old).half
  pub counted : (view (disk_of old)).faults ≤ (view (disk_of new)).faults
  pub last : last_stage (contents_of view new) ≡ last_stage (contents_of view old) + ended
  pub stages : tells → (k p : ℕ) → k ≤ last_stage (contents_of view old) → p < (state_of old).half.pages
      → stage_in (contents_of view new) k p ≡ stage_in (contents_of view old) k p

-- A class was committed: one more transaction has ended, and the pages show its puts.
pub record CommitsClass {D : Type 0} (tells : Type 0) (view : D → View) (class : ℕ) (members : List Noted)
    (values : List (Option Value)) (old new : Log D) : Type 0 where
  pub keeps : KeepsStages tells view 1 old new
  pub put : tells → (p : ℕ) (value : Value) → IsPutIn class members p → get_or values p None ≡ Some value
      → page_in (contents_of view new) p ≡ value.bytes
  pub kept : tells → (p : ℕ) → (IsPutIn class members p → ⊥)
      → page_in (contents_of view new) p ≡ page_in (contents_of view old) p
  pub room : free_in (state_of old) ≤ free_in (state_of new) + pages_in_class class members + 1
