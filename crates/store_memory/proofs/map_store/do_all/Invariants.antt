use Rattle.std.proofs.Common.{◌≡◌, ◌≤◌, ◌+◌, take}
use Rattle.store_acts.specs.Acts.{state_after, dones_of}
use Rattle.store_acts.specs.Sound.{KeepsLimits}
use Rattle.store_memory.proofs.map_store.do_all.Given as goal

-- what the acts so far made, and answered
abbrev pub invariant-loop-act : goal.invariant-loop-act
invariant-loop-act l = record {
  state : l.state ≡ state_after l.fn.state (take l.act-index l.batch);
  dones : l.dones ≡ dones_of l.fn.state (take l.act-index l.batch);
  server : l.state.server ≡ l.fn.state.server;
  roster : l.state.roster ≡ l.fn.state.roster;
  limits : KeepsLimits l.state;
  counts : l.state.epoch + l.state.ship ≤ l.fn.state.epoch + l.fn.state.ship + l.act-index;
}
