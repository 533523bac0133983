use Rattle.std.proofs.Common.{◌∙◌, ap}
use Rattle.disk_layout.specs.Entry.{entry_of, entry_at}
use Rattle.disk_log.proofs.read.read_one.Goals as goal

pub returns-clause-entry : goal.returns-clause-entry
unfolding entry_at
returns-clause-entry g c = λ told. c.read_entry.ensures.entry ∙ ap (entry_of c.args.half.now) (c.in_ok-read.ensures.bytes told)
