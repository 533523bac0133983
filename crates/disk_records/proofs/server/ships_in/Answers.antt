use Rattle.std.proofs.Common.{◌∙◌, ap, map, arith}
use Rattle.std.proofs.lemmas.List.{take_all}
use Rattle.disk_records.specs.Record.{ship_taken}
use Rattle.disk_records.proofs.Looked.{ship_more}
use Rattle.disk_records.proofs.server.ships_in.Goals as goal

pub loop-taken-preserved : goal.loop-taken-preserved
loop-taken-preserved c = c.in_ok-push.ensures.ok ∙ ship_more c.args.all.now c.loop-taken.ships c.loop-taken.taken-index (omega arith) c.loop-taken.invariant

pub returns : goal.returns
returns c = c.loop-taken.invariant ∙ ap (map ship_taken) (take_all c.loop-taken.taken-index c.args.all.now (omega arith))
