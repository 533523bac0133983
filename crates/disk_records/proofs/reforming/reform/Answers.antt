use Rattle.std.proofs.Common.{refl}
use Rattle.disk_log.specs.Log.{slot_of}
use Rattle.disk_records.proofs.Formatted.{may_put, formed, reforms_if, crash_now}
use Rattle.disk_records.proofs.reforming.reform.Goals as goal

-- src/reforming.rt:64:5
pub put_format-requires-clause-may : goal.put_format-requires-clause-may
put_format-requires-clause-may g c =
    may_put g.D.Disk.tells g.D.Disk.view c.args.log.now c.facts_of.new.log c.begin.new.self c.in_ok-tx.tx c.requires.idle c.in_ok-facts.ensures.reads.state c.in_ok-tx.ensures.begun

-- src/reforming.rt:57:9
pub returns-then-facts-eq-FORMAT-clause-reforms : goal.returns-then-facts-eq-FORMAT-clause-reforms
returns-then-facts-eq-FORMAT-clause-reforms g c =
    formed g.D.Disk.tells g.D.Disk.view c.args.log.now c.facts_of.new.log c.in_ok-facts.facts c.in_ok-facts.ensures.reads.state c.in_ok-facts.ensures.reads.quiet c.requires.idle c.requires.last c.requires.settled
    c.in_ok-facts.ensures.reads.sound c.in_ok-facts.ensures.facts c.if-facts-eq-FORMAT.true

-- src/reforming.rt:43:1
pub returns-clause-reforms : goal.returns-clause-reforms
returns-clause-reforms g c =
    reforms_if g.D.Disk.tells g.D.Disk.view (slot_of c.in_ok-tx.tx) (record c.in_ok-facts.facts { format = 2 }) c.args.log.now c.facts_of.new.log c.begin.new.self c.put_format.new.log
    c.requires.idle c.requires.last c.requires.settled c.in_ok-facts.ensures.reads.state c.in_ok-facts.ensures.reads.quiet c.in_ok-tx.ensures.begun.3 c.in_ok-tx.ensures.disk
    c.in_ok-put_format.field-0 c.in_ok-put_format.ensures c.in_ok-facts.facts c.in_ok-facts.ensures.facts c.if-facts-eq-FORMAT.false refl c.force.new.self
    c.force.result c.force.ensures.sound c.force.ensures.state c.force.ensures.stages c.force.ensures.blocks c.force.ensures.pages c.force.ensures.durable

-- src/reforming.rt:43:1
pub returns-clause-crash : goal.returns-clause-crash
returns-clause-crash g c = λ told server.
    crash_now g.D.Disk.tells g.D.Disk.view (slot_of c.in_ok-tx.tx) (record c.in_ok-facts.facts { format = 2 }) c.args.log.now c.facts_of.new.log c.begin.new.self c.put_format.new.log
    c.requires.idle c.requires.last c.requires.settled c.in_ok-facts.ensures.reads.state c.in_ok-facts.ensures.reads.quiet c.in_ok-tx.ensures.begun.3 c.in_ok-tx.ensures.disk
    c.in_ok-put_format.field-0 c.in_ok-put_format.ensures c.in_ok-facts.facts c.in_ok-facts.ensures.facts c.if-facts-eq-FORMAT.false refl c.force.new.self
    (c.force.ensures.crash told) told server
