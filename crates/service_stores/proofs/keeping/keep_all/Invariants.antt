use Rattle.std.proofs.Common.{◌≡◌, ◌≤◌, ◌+◌, ◌-◌, ◌*◌, ◌^◌, List, None, length, take, drop}
use Rattle.std.specs.Prelude.{Ok}
use Rattle.tree_answers.specs.Histories.{after_history}
use Rattle.store_laws.specs.Happening.{MayHappen}
use Rattle.store_laws.specs.MoveKeeping.{KeepAll}
use Rattle.store_laws.specs.MovedLaws.{numbers_after}
use Rattle.service_moves.specs.Doing.{Step, DoSteps}
use Rattle.service_moves.specs.Plans.{states_at}
use Rattle.service_moves.specs.Stores.{AreSame, AreStores, states_of}
use Rattle.service_moves.specs.declared.stopped.RunStopped.{RunStopped}
use Rattle.service_stores.specs.Plans.{AreOfHistory}
use Rattle.service_stores.proofs.Planned.{last_number}
use Rattle.service_stores.proofs.keeping.keep_all.Given as goal

-- the stores keep what the entries so far made of the tree
abbrev pub invariant-loop-place : goal.invariant-loop-place
invariant-loop-place g l = record {
  within : l.from ≤ length l.history;
  tree : l.tree ≡ after_history l.fn.tree (take l.from l.history);
  may : MayHappen (numbers_after (λ host. 1) (take l.from l.history)) l.tree (drop l.from l.history);
  kept : g.S.Store.tells → KeepAll (λ host. 1) l.fn.tree (states_of g.S.Store.view l.fn.stores)
      → KeepAll (numbers_after (λ host. 1) (take l.from l.history)) l.tree (states_of g.S.Store.view l.stores);
  cut : last_number None (take l.from l.history) ≡ None;
  does : g.S.Store.tells → KeepAll (λ host. 1) l.fn.tree (states_of g.S.Store.view l.fn.stores)
      → (steps : List Step) × AreOfHistory l.fn.tree (take l.from l.history) (states_at g.S.Store.view l.fn.stores) steps × DoSteps {T = Unit {0}} {E = RunStopped} g.S.Store.view (Ok tt) steps l.fn.stores l.stores;
  same : AreSame g.S.Store.view l.fn.stores l.stores;
  stores : AreStores g.S.Store.view l.fn.tree.roster (2 ^ 40 + 2048 * l.from) 1 l.stores;
}

abbrev pub decreases-loop-place : goal.decreases-loop-place
decreases-loop-place g l = length l.history - l.from
