use Rattle.std.proofs.Common.{◌≡◌, ap}
use Rattle.std.proofs.lemmas.Result.{on_ok_weaker}
use Rattle.base_types.specs.declared.ids.Node.TheVariants.{Server}
use Rattle.run_rules.specs.declared.step.Cause.TheVariants.{Flushed}
use Rattle.run_rules.specs.declared.step.Step.{Step}
use Rattle.server_decides.proofs.StepsMade.{if_made, step_made}
use Rattle.server_decides.specs.Serving.{AreBrought, IsServed}
use Rattle.server_tables.specs.Sound.{AreSound}
use Rattle.server_exporter.specs.Machines.{Follows, IsSame, Meets, Says}
use Rattle.server_exporter.specs.declared.exporter.Exporter.{Exporter}
use Rattle.server_exporter.proofs.Settled.{settle_follows, settle_meets}
use Rattle.server_exporter.proofs.Spoken.{says_step}
use Rattle.server_exporter.proofs.Stepped.{on_ok_all, same_machine, tried_if}
use Rattle.server_exporter.proofs.exporter.Exporter.settle.Goals as goal

pub returns-clause-meets : goal.returns-clause-meets
returns-clause-meets g c tells =
    let st = (g.S.Store.view c.args.keeper.now.store).state in
    let next = (g.S.Store.view c.finish-made.new.keeper.store).state in
    step_made c.finish-made.result c.into_step-step.result c.step_if_stored.result c.step_if_stored.ensures.step
    (Meets st c.args.self.now)
    (settle_meets c.finish-made.result c.args.self.now c.finish-made.new.tables c.new-draft.result
    c.finish-made.new.draft st next
    c.into_step-step.result c.new-draft.ensures c.into_step-step.ensures c.requires.served
    (c.finish-made.ensures.finished tells)
    c.finish-made.ensures.served)

pub returns-clause-follows : goal.returns-clause-follows
returns-clause-follows g c tells =
    let st = (g.S.Store.view c.args.keeper.now.store).state in
    let next = (g.S.Store.view c.finish-made.new.keeper.store).state in
    let z : Exporter = record { tables = c.finish-made.new.tables; rested = c.step_if_stored.new.rested } in
    step_made c.finish-made.result c.into_step-step.result c.step_if_stored.result c.step_if_stored.ensures.step
    (λ (s : Step). Follows st c.args.self.now s next z)
    (settle_follows c.finish-made.result c.args.self.now c.finish-made.new.tables c.step_if_stored.new.rested
    c.new-draft.result
    c.finish-made.new.draft st next c.into_step-step.result c.new-draft.ensures c.into_step-step.ensures
    c.requires.served
    (c.finish-made.ensures.finished tells) c.finish-made.ensures.served c.step_if_stored.ensures.rested)

pub returns-clause-cause : goal.returns-clause-cause
returns-clause-cause g c =
    step_made c.finish-made.result c.into_step-step.result c.step_if_stored.result c.step_if_stored.ensures.step
    (λ (s : Step). s.cause ≡ Flushed)
    (on_ok_all c.finish-made.result (ap (λ (s : Step). s.cause) c.into_step-step.ensures))

pub returns-clause-node : goal.returns-clause-node
returns-clause-node g c =
    step_made c.finish-made.result c.into_step-step.result c.step_if_stored.result c.step_if_stored.ensures.step
    (λ (s : Step). s.node ≡ Server c.args.self.now.tables.server)
    (on_ok_all c.finish-made.result (ap (λ (s : Step). s.node) c.into_step-step.ensures))

pub returns-clause-served : goal.returns-clause-served
returns-clause-served g c =
    if_made c.finish-made.result c.into_step-step.result c.step_if_stored.result c.step_if_stored.ensures.step
    (IsServed c.finish-made.new.tables
    (g.S.Store.view c.finish-made.new.keeper.store).state) c.finish-made.ensures.served

pub returns-clause-same : goal.returns-clause-same
returns-clause-same g c =
    let x = c.args.self.now in
    let y : Exporter = record { tables = c.finish-made.new.tables; rested = c.step_if_stored.new.rested } in
    if_made c.finish-made.result c.into_step-step.result c.step_if_stored.result c.step_if_stored.ensures.step
    (IsSame x y)
    (on_ok_weaker c.finish-made.result (λ s. same_machine x y (g.S.Store.view c.args.keeper.now.store)
    (g.S.Store.view c.finish-made.new.keeper.store) c.requires.served c.finish-made.ensures.tried.same s)
    c.finish-made.ensures.served)

pub returns-clause-tried : goal.returns-clause-tried
returns-clause-tried g c =
    tried_if c.finish-made.result c.into_step-step.result c.step_if_stored.result
    (g.S.Store.view c.args.keeper.now.store)
    (g.S.Store.view c.finish-made.new.keeper.store) c.finish-made.new.keeper.left c.step_if_stored.ensures.step
    c.finish-made.ensures.tried

pub returns-clause-sends : goal.returns-clause-sends
returns-clause-sends g c sound =
    let x = c.args.self.now.tables in
    step_made c.finish-made.result c.into_step-step.result c.step_if_stored.result c.step_if_stored.ensures.step
    (Says x)
    (on_ok_weaker c.finish-made.result (λ so. says_step x c.finish-made.new.tables c.new-draft.result
    c.finish-made.new.draft Flushed c.into_step-step.result c.new-draft.ensures c.into_step-step.ensures so)
    (c.finish-made.ensures.says sound))

pub returns-clause-sound : goal.returns-clause-sound
returns-clause-sound g c sound =
    if_made c.finish-made.result c.into_step-step.result c.step_if_stored.result c.step_if_stored.ensures.step
    (AreSound c.finish-made.new.tables)
    (on_ok_weaker c.finish-made.result (λ so. so.sound) (c.finish-made.ensures.says sound))

pub returns-clause-brought : goal.returns-clause-brought
returns-clause-brought g c tells came all =
    if_made c.finish-made.result c.into_step-step.result c.step_if_stored.result c.step_if_stored.ensures.step
    (AreBrought came c.finish-made.new.tables.pending) (c.finish-made.ensures.brought tells came all)
