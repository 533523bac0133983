use Rattle.server_exporter.proofs.Starting.{is_new}
use Rattle.server_exporter.proofs.exporter.Exporter.new.Goals as goal

pub returns : goal.returns
returns c = is_new c.args.server c.args.epoch c.args.roster.now _ c.in_ok-new.ensures.tables c.in_ok-new.ensures.counted
