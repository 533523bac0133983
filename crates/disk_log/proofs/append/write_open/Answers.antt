use Rattle.std.proofs.Common.{arith}
use Rattle.std.proofs.lemmas.Result.{on_ok_weaker}
use Rattle.base_outside.proofs.Runs.{wider_changes}
use Rattle.disk_layout.proofs.Entries.{stands_whole}
use Rattle.disk_layout.proofs.Slots.{torn_entry}
use Rattle.disk_log.proofs.append.write_open.Goals as goal

pub returns-clause-written : goal.returns-clause-written
returns-clause-written g c = λ told.
    on_ok_weaker c.write_at.result (λ holds. (stands_whole c.args.half.now c.args.entry.now c.entry_bytes-bytes.result _ c.args.slot c.requires.fits c.entry_bytes-bytes.ensures (omega arith) holds).0) (c.write_at.ensures.written told)

pub returns-clause-opened : goal.returns-clause-opened
returns-clause-opened g c = λ told.
    on_ok_weaker c.write_at.result (λ holds. (stands_whole c.args.half.now c.args.entry.now c.entry_bytes-bytes.result _ c.args.slot c.requires.fits c.entry_bytes-bytes.ensures (omega arith) holds).1) (c.write_at.ensures.written told)

pub returns-clause-same : goal.returns-clause-same
returns-clause-same g c = λ told. torn_entry c.args.half.now.start c.args.slot _ _ _ (omega arith) (c.write_at.ensures.torn told)

pub returns-clause-crash : goal.returns-clause-crash
returns-clause-crash g c = wider_changes c.write_at.ensures.crash (λ a b torn. torn_entry c.args.half.now.start c.args.slot _ a b (omega arith) torn)
