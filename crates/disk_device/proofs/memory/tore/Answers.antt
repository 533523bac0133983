use Rattle.disk_device.proofs.Noted.{tore_reads}
use Rattle.disk_device.proofs.memory.tore.Goals as goal

pub returns-clause-reads : goal.returns-clause-reads
returns-clause-reads c = λ start. tore_reads start c.args.acts.now.items c.push.new.self.items c.args.at c.args.len c.in_ok-push.ensures.items
