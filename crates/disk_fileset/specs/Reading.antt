-- What a call that reads a slot keeps, and what it finds.
use Rattle.std.specs.Prelude.{◌≡◌, ◌≤◌, ℕ, List, Some, Result, IfOk, IfErr}
use Rattle.base_types.specs.View.{View}
use Rattle.base_types.specs.Crash.{IsQuiet}
use Rattle.tree_objects.specs.declared.content.Anode.{Anode}
use Rattle.tree_objects.specs.declared.content.Object.{Object}
use Rattle.disk_log.specs.Log.{disk_of, state_of, IsSoundLog}
use Rattle.disk_log.specs.declared.log.Log.{Log}
use Rattle.disk_anode.specs.Faults.{IsNodeFault}
use Rattle.disk_anode.specs.declared.fault.NodeFault.{NodeFault}
use Rattle.disk_objects.specs.Objects.{anode_at}
use Rattle.disk_fileset.specs.Slots.{Keeps}

-- What a call that reads keeps: all, and no byte of the disk changed. An error is the disk's, or want of memory.
pub record Looks {D T : Type 0} (tells : Type 0) (view : D → View) (result : Result T NodeFault)
    (old new : Log D) : Type 0 where
  pub sound : IsSoundLog tells view new
  pub state : state_of new ≡ state_of old
  pub quiet : IsQuiet (view (disk_of old)) (view (disk_of new))
  pub counted : (view (disk_of old)).faults ≤ (view (disk_of new)).faults
  pub only : IfErr result (λ fault. IsNodeFault fault (view (disk_of old)) (view (disk_of new)))

-- what is found where the log keeps an anode in a slot
abbrev pub Finds : {D T : Type 0} → Type 0 → (D → View) → ℕ → ℕ → (Anode → T → Type 0) → Result T NodeFault → Log D
    → Type 0
Finds tells view slot n is result log =
    tells → (slots : ℕ → List Anode) → Keeps view slots log → IfOk result (is (anode_at (slots slot) n))

-- and where this anode has an object
abbrev pub FindsOf : {D T : Type 0} → Type 0 → (D → View) → ℕ → ℕ → (Object → T → Type 0) → Result T NodeFault → Log D
    → Type 0
FindsOf tells view slot n is result log =
    Finds tells view slot n (λ anode found. (object : Object) → anode.object ≡ Some object → is object found) result log
