use Rattle.std.proofs.Common.{arith}
use Rattle.std.proofs.lemmas.Result.{on_ok_weaker}
use Rattle.base_outside.proofs.Image.{byte_at-holds}
use Rattle.base_outside.proofs.Runs.{wider_changes}
use Rattle.disk_layout.proofs.Slots.{torn_gate}
use Rattle.disk_log.proofs.switch.close_gate.Goals as goal

pub returns-clause-closed : goal.returns-clause-closed
returns-clause-closed g c = λ told. on_ok_weaker c.write_at.result (λ holds is. absurd (let e = byte_at-holds _ _ _ holds in omega (arith, e, is))) (c.write_at.ensures.written told)

pub returns-clause-same : goal.returns-clause-same
returns-clause-same g c = λ told. torn_gate c.args.start c.args.slot _ _ (c.write_at.ensures.torn told)

pub returns-clause-crash : goal.returns-clause-crash
returns-clause-crash g c = wider_changes c.write_at.ensures.crash (λ a b torn. torn_gate c.args.start c.args.slot a b torn)
