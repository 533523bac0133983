use Rattle.std.proofs.Common.{◌≡◌, []}
use Rattle.server_node.proofs.Staying.{served_by}
use Rattle.server_node.proofs.Turns.{made_then, stored_ready}
use Rattle.server_node.specs.declared.server.ServerNode.{ServerNode}
use Rattle.server_node.proofs.server.ServerNode.store.Goals as goal

pub returns-clause-ready : goal.returns-clause-ready
returns-clause-ready g c =
    stored_ready g.S.Store.tells g.S.Store.view c.store_all.result c.fault_of.result c.args.self.now
    c.store_all.new.keeper c.requires.ready c.fault_of.ensures.ok c.store_all.ensures.tried

pub returns-clause-none : goal.returns-clause-none
returns-clause-none g c =
    made_then c.store_all.result c.fault_of.result (c.store_all.new.waiting ≡ []) c.fault_of.ensures.ok
    c.store_all.ensures.none

pub returns-clause-state : goal.returns-clause-state
returns-clause-state g c tells limited =
    made_then c.store_all.result c.fault_of.result _ c.fault_of.ensures.ok (c.store_all.ensures.state tells limited)

pub returns-clause-stays : goal.returns-clause-stays
returns-clause-stays g c =
    let now : ServerNode g.row.S.Denot = record c.args.self.now { keeper = c.store_all.new.keeper } in
    served_by g.S.Store.tells g.S.Store.view c.store_all.result c.args.self.now now c.store_all.ensures.tried

pub returns-clause-failed : goal.returns-clause-failed
returns-clause-failed g c = λ e. c.store_all.ensures.tried.blame (c.fault_of.ensures.err e)

pub returns-clause-went : goal.returns-clause-went
returns-clause-went g c tells came waits = c.store_all.ensures.went tells came waits
