use Rattle.std.proofs.Common.{◌*◌, List}
use Rattle.std.specs.Prelude.{Ok}
use Rattle.tree_answers.specs.declared.tree.Tree.{Tree}
use Rattle.service_starts.specs.UnderWay.{KeepUnderWay}
use Rattle.service_moves.specs.Batches.{batch_wear}
use Rattle.service_moves.specs.Doing.{Step, DoSteps}
use Rattle.service_moves.specs.Plans.{states_at, AreMoves}
use Rattle.service_moves.specs.Steps.{AllGoOn}
use Rattle.service_moves.specs.declared.stopped.RunStopped.{RunStopped}
use Rattle.service_moves.specs.Stores.{states_of}
use Rattle.service_moves.proofs.Finished.{HaveFinished}
use Rattle.service_moves.proofs.finishing.finish_moves.Given as goal

-- what the servers so far left
abbrev pub invariant-loop-k : goal.invariant-loop-k
invariant-loop-k g l = record {
  goes : AllGoOn {T = Unit {0}} g.S.Store.view (67 * batch_wear * l.k) (Ok tt) l.fn.stores l.stores;
  finished : g.S.Store.tells → (tree : Tree) → KeepUnderWay tree (states_of g.S.Store.view l.fn.stores) → HaveFinished tree l.k (states_of g.S.Store.view l.stores);
  does : g.S.Store.tells → (tree : Tree) → KeepUnderWay tree (states_of g.S.Store.view l.fn.stores)
      → (steps : List Step) × AreMoves (λ act. ⊥) (states_at g.S.Store.view l.fn.stores) steps × DoSteps {T = Unit {0}} {E = RunStopped} g.S.Store.view (Ok tt) steps l.fn.stores l.stores;
}
