use Rattle.std.proofs.Common.{List, take, sym, subst, arith}
use Rattle.std.proofs.lemmas.List.{take_more, take_all}
use Rattle.disk_layout.specs.declared.entry.Entry.{Entry}
use Rattle.disk_layout.specs.declared.entry.Entry.TheVariants.{End}
use Rattle.disk_log.specs.Recovered.{AreEnds}
use Rattle.disk_log.proofs.recover.ends_of.Goals as goal

pub loop-entry-preserved : goal.loop-entry-preserved
loop-entry-preserved c = record {
  ended = subst (λ (l : List Entry). AreEnds c.note_end.new.ended l) (sym (take_more c.args.entries.now c.loop-entry.entry-index (End 0) (omega arith))) (c.in_ok-note_end.ensures (take c.loop-entry.entry-index c.args.entries.now) c.loop-entry.invariant.ended);
}

pub returns : goal.returns
returns c = subst (λ (l : List Entry). AreEnds c.loop-entry.ended l) (take_all c.loop-entry.entry-index c.args.entries.now (omega arith)) c.loop-entry.invariant.ended
