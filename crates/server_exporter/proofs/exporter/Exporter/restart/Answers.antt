use Rattle.std.proofs.Common.{◌≡◌, ap, sym, subst}
use Rattle.base_types.specs.declared.ids.Node.TheVariants.{Server}
use Rattle.run_rules.specs.declared.step.Step.{Step}
use Rattle.std.proofs.lemmas.Result.{IfOk-weaker, on_ok_weaker}
use Rattle.server_decides.specs.Hailing.{restarting}
use Rattle.server_decides.specs.Serving.{AreBrought}
use Rattle.server_exporter.specs.Machines.{IsRestart, MeetsOnLine, Says}
use Rattle.server_exporter.specs.declared.exporter.Exporter.{Exporter}
use Rattle.server_exporter.proofs.Begins.{restart_meets}
use Rattle.server_exporter.proofs.Begun.{restart_follows_all, restart_same, restart_served}
use Rattle.server_exporter.proofs.Spoken.{begun_sound_all, says_restart}
use Rattle.server_exporter.proofs.exporter.Exporter.restart.Goals as goal

pub returns-clause-meets : goal.returns-clause-meets
returns-clause-meets g c = let x = c.args.self.now in let n = c.args.line in
    IfOk-weaker c.begin.result (λ step. step
    ≡ restarting x.tables n) (MeetsOnLine IsRestart n x) (λ step e. restart_meets x n step e) c.begin.ensures.step

pub returns-clause-follows : goal.returns-clause-follows
returns-clause-follows g c tells = restart_follows_all c.begin.result c.args.self.now c.begin.new.self
    (g.S.Store.view c.args.keeper.now.store).state (g.S.Store.view c.begin.new.keeper.store).state c.args.line
    c.begin.ensures.step c.begin.ensures.after (c.begin.ensures.state tells)

pub returns-clause-served : goal.returns-clause-served
returns-clause-served g c = restart_served c.begin.result c.args.self.now c.begin.new.self
    (g.S.Store.view c.args.keeper.now.store) (g.S.Store.view c.begin.new.keeper.store) c.requires.served
    c.begin.ensures.tried.same c.begin.ensures.after c.begin.ensures.counted

pub returns-clause-same : goal.returns-clause-same
returns-clause-same g c = restart_same c.begin.result c.args.self.now c.begin.new.self c.begin.ensures.after

pub returns-clause-node : goal.returns-clause-node
returns-clause-node g c = let x = c.args.self.now in
    IfOk-weaker c.begin.result (λ step. step ≡ restarting x.tables c.args.line)
    (λ step. step.node ≡ Server x.tables.server) (λ step e. ap (λ (s : Step). s.node) e) c.begin.ensures.step

pub returns-clause-sends : goal.returns-clause-sends
returns-clause-sends g c sound = let x = c.args.self.now.tables in
    IfOk-weaker c.begin.result (λ step. step ≡ restarting x c.args.line) (Says x)
    (λ step e. says_restart x c.args.line step sound e) c.begin.ensures.step

pub returns-clause-sound : goal.returns-clause-sound
returns-clause-sound g c sound =
    begun_sound_all c.begin.result c.args.self.now c.begin.new.self c.begin.ensures.after sound

pub returns-clause-brought : goal.returns-clause-brought
returns-clause-brought g c came =
    on_ok_weaker c.begin.result
    (λ e. subst (λ (y : Exporter). AreBrought came y.tables.pending) (sym e) tt) c.begin.ensures.after
