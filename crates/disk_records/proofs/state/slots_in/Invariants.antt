use Rattle.std.proofs.Common.{◌≡◌, ℕ, length, take}
use Rattle.std.specs.Prelude.{Ok, IfSome}
use Rattle.base_types.specs.Image.{byte_at}
use Rattle.tree_calls.specs.declared.roster.Roster.{Roster}
use Rattle.message_types.specs.Soundness.{Each}
use Rattle.store_acts.specs.Sound.{IsHolding}
use Rattle.store_state.specs.declared.state.StoreState.{StoreState}
use Rattle.disk_fileset.specs.Reading.{Looks}
use Rattle.disk_records.specs.Loading.{KeepsRecord}
use Rattle.disk_records.proofs.state.slots_in.Given as goal

abbrev pub invariant-loop-slot : goal.invariant-loop-slot
invariant-loop-slot g l = record {
  looks : Looks {T = ℕ} g.D.Disk.tells g.D.Disk.view (Ok 0) l.initial.log l.log;
  slots : g.D.Disk.tells → byte_at l.server 29 ≡ 2 → (state : StoreState) → KeepsRecord g.D.Disk.view state l.initial.log → l.home ≡ state.server → l.slots ≡ take l.slot state.slots;
  size : length l.slots ≡ l.slot;
  limits : (roster : Roster) → l.servers ≡ length roster.capacity → Each (λ slot. IfSome slot (IsHolding roster)) l.slots;
}
