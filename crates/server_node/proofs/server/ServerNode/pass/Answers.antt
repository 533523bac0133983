use Rattle.std.proofs.Common.{List, [], ◌∷◌, ◌++◌, ◌+◌, sym, subst}
use Rattle.run_rules.specs.declared.step.Step.{Step}
use Rattle.server_node.proofs.Staying.{same_keeper}
use Rattle.server_node.proofs.Turns.{all_ok, next_below, on_ok, passed}
use Rattle.server_node.specs.Standing.{IsReady, StandsSo}
use Rattle.server_node.specs.declared.server.ServerNode.{ServerNode}
use Rattle.server_node.proofs.server.ServerNode.pass.Goals as goal

pub go-requires : goal.go-requires
go-requires g c = next_below c.args.self.now.lines c.requires.next.0 c.requires.next.1

pub returns-clause-ready : goal.returns-clause-ready
returns-clause-ready g c =
    let now : ServerNode g.row.S.Denot = record c.args.self.now { lines = c.go.new.self } in
    let ready : IsReady g.S.Store.tells g.S.Store.view now =
    record {
      served = c.requires.ready.served;
      sound = c.requires.ready.sound;
      fit = c.requires.ready.fit;
    } in
    on_ok c.push.result _ _ (λ at. ready) c.push.ensures.ok

pub returns-clause-works : goal.returns-clause-works
returns-clause-works g c = λ part past so.
    let now : ServerNode g.row.S.Denot = record c.args.self.now { lines = c.go.new.self } in
    let olds = c.args.steps.now.steps in
    let then : StandsSo g.S.Store.tells g.S.Store.view part now past (olds ++ c.line-step.result ∷ []) [] 0 =
    rw c.go.ensures (passed g.S.Store.tells g.S.Store.view part c.args.self.now past olds so c.args.number
    c.requires.next c.line-step.result c.line-step.ensures.sends c.line-step.ensures.step c.line-step.ensures.meets
    c.line-step.ensures.follows) in
    on_ok c.push.result _ _
    (λ at. subst (λ (l : List Step). StandsSo g.S.Store.tells g.S.Store.view part now past l [] 0) (sym at) then)
    c.push.ensures.ok

pub returns-clause-stays : goal.returns-clause-stays
returns-clause-stays g c =
    same_keeper g.S.Store.tells g.S.Store.view c.args.self.now c.args.self.now.exporter c.go.new.self

pub returns-clause-all : goal.returns-clause-all
returns-clause-all g c tells came all = all_ok c.push.result all
