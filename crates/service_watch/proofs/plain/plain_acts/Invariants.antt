use Rattle.std.proofs.Common.{length, ◌-◌, ◌≤◌, take}
use Rattle.store_acts.specs.Sound.{AllFit}
use Rattle.store_state.specs.declared.state.StoreState.{StoreState}
use Rattle.service_watch.proofs.plain.plain_acts.Given as goal

abbrev pub invariant-loop-count : goal.invariant-loop-count
invariant-loop-count l = record {
  within : l.count ≤ length l.batch;
  fit : (state : StoreState) → AllFit state (take l.count l.batch);
}

abbrev pub decreases-loop-count : goal.decreases-loop-count
decreases-loop-count l = length l.batch - l.count
