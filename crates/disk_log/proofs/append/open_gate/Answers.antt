use Rattle.std.proofs.lemmas.Result.{on_ok_weaker}
use Rattle.base_outside.proofs.Image.{byte_at-holds}
use Rattle.base_outside.proofs.Runs.{wider_changes}
use Rattle.disk_layout.proofs.Slots.{torn_gate}
use Rattle.disk_log.proofs.append.open_gate.Goals as goal

pub returns-clause-opened : goal.returns-clause-opened
returns-clause-opened g c = λ told. on_ok_weaker c.write_at.result (λ holds. byte_at-holds _ _ _ holds) (c.write_at.ensures.written told)

pub returns-clause-same : goal.returns-clause-same
returns-clause-same g c = λ told. torn_gate c.args.start c.args.slot _ _ (c.write_at.ensures.torn told)

pub returns-clause-crash : goal.returns-clause-crash
returns-clause-crash g c = wider_changes c.write_at.ensures.crash (λ a b torn. torn_gate c.args.start c.args.slot a b torn)
