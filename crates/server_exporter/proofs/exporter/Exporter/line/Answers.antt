use Rattle.server_exporter.proofs.Lines.{line_follows, line_meets}
use Rattle.std.proofs.Common.{refl}
use Rattle.base_types.specs.declared.ids.Node.TheVariants.{Server}
use Rattle.run_rules.specs.Steps.{bare}
use Rattle.run_rules.specs.declared.step.Cause.TheVariants.{Line}
use Rattle.server_exporter.proofs.Spoken.{says_none}
use Rattle.server_exporter.proofs.exporter.Exporter.line.Goals as goal

pub returns-clause-meets : goal.returns-clause-meets
returns-clause-meets c = line_meets c.args.self.now c.args.line c.bare.result c.requires.rested c.bare.ensures

pub returns-clause-follows : goal.returns-clause-follows
returns-clause-follows c = line_follows c.args.self.now c.args.line c.bare.result c.bare.ensures

pub returns-clause-sends : goal.returns-clause-sends
returns-clause-sends c =
    let x = c.args.self.now.tables in
    says_none x c.bare.result (bare (Server x.server) (Line c.args.line)) refl refl c.bare.ensures
