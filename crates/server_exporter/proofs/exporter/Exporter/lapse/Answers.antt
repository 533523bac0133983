use Rattle.std.proofs.Common.{◌≡◌, [], ap, refl}
use Rattle.base_types.specs.declared.ids.Node.TheVariants.{Server}
use Rattle.run_rules.specs.declared.step.Cause.TheVariants.{Lapse}
use Rattle.run_rules.specs.declared.step.Step.{Step}
use Rattle.std.proofs.lemmas.Result.{IfOk-weaker}
use Rattle.server_exporter.specs.Machines.{MeetsAlone, Says}
use Rattle.server_decides.specs.Revoking.{lapse_step}
use Rattle.server_exporter.proofs.Calls.{lapse_brought, lapse_follows_all, lapse_keeps, lapse_same, lapse_served}
use Rattle.server_exporter.proofs.Calls.{numbered}
use Rattle.server_exporter.proofs.Lapsed.{lapse_meets}
use Rattle.server_exporter.proofs.Spoken.{lapse_sound_all, says_lapse}
use Rattle.server_exporter.proofs.exporter.Exporter.lapse.Goals as goal

pub returns-clause-meets : goal.returns-clause-meets
returns-clause-meets c = let x = c.args.self.now in
    IfOk-weaker c.lapse_step.result (λ step. step ≡ lapse_step x.tables) (MeetsAlone x)
    (λ step e. lapse_meets x step c.requires.rested
    (numbered x.tables c.lapse_step.ensures.laws) e) c.lapse_step.ensures.step

pub returns-clause-follows : goal.returns-clause-follows
returns-clause-follows c = let x = c.args.self.now in let t = c.lapse_step.new.tables in
    lapse_follows_all c.lapse_step.result x (record x { tables = t }) t refl c.requires.rested
    (numbered x.tables c.lapse_step.ensures.laws)
    c.lapse_step.ensures.step c.lapse_step.ensures.tables

pub returns-clause-served : goal.returns-clause-served
returns-clause-served c = let x = c.args.self.now in let t = c.lapse_step.new.tables in
    lapse_served c.lapse_step.result x (record x { tables = t }) t refl c.lapse_step.ensures.tables

pub returns-clause-keeps : goal.returns-clause-keeps
returns-clause-keeps c = let x = c.args.self.now in let t = c.lapse_step.new.tables in
    lapse_keeps c.lapse_step.result x (record x { tables = t }) t refl c.lapse_step.ensures.tables

pub returns-clause-same : goal.returns-clause-same
returns-clause-same c = let x = c.args.self.now in let t = c.lapse_step.new.tables in
    lapse_same c.lapse_step.result x (record x { tables = t }) t refl c.lapse_step.ensures.tables

pub returns-clause-applied : goal.returns-clause-applied
returns-clause-applied c = let x = c.args.self.now in
    IfOk-weaker c.lapse_step.result (λ step. step ≡ lapse_step x.tables) (λ step. step.applied ≡ [])
    (λ step e. ap (λ (s : Step). s.applied) e) c.lapse_step.ensures.step

pub returns-clause-cause : goal.returns-clause-cause
returns-clause-cause c = let x = c.args.self.now in
    IfOk-weaker c.lapse_step.result (λ step. step ≡ lapse_step x.tables) (λ step. step.cause ≡ Lapse)
    (λ step e. ap (λ (s : Step). s.cause) e) c.lapse_step.ensures.step

pub returns-clause-node : goal.returns-clause-node
returns-clause-node c = let x = c.args.self.now in
    IfOk-weaker c.lapse_step.result (λ step. step ≡ lapse_step x.tables)
    (λ step. step.node ≡ Server x.tables.server) (λ step e. ap (λ (s : Step). s.node) e) c.lapse_step.ensures.step

pub returns-clause-sends : goal.returns-clause-sends
returns-clause-sends c sound = let x = c.args.self.now.tables in
    IfOk-weaker c.lapse_step.result (λ step. step ≡ lapse_step x) (Says x) (λ step e. says_lapse x step sound e)
    c.lapse_step.ensures.step

pub returns-clause-sound : goal.returns-clause-sound
returns-clause-sound c sound =
    lapse_sound_all c.lapse_step.result c.args.self.now.tables c.lapse_step.new.tables c.lapse_step.ensures.tables sound

pub returns-clause-brought : goal.returns-clause-brought
returns-clause-brought c = let x = c.args.self.now in let t = c.lapse_step.new.tables in
    lapse_brought c.lapse_step.result x (record x { tables = t }) t refl c.lapse_step.ensures.tables
