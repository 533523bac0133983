use Rattle.std.proofs.Common.{refl, arith}
use Rattle.base_outside.proofs.Runs.{wider_changes}
use Rattle.disk_log.proofs.Recovering.{torn_page, never_none}
use Rattle.disk_log.proofs.recover.write_page.Goals as goal

pub returns-in-Some-clause-same : goal.returns-in-Some-clause-same
returns-in-Some-clause-same g c = λ told. torn_page c.args.place _ _ _ _ (omega arith) (λ stays. never_none _ _ c.in-Some.is (stays refl)) (c.write_at.ensures.torn told)

pub returns-in-Some-clause-crash : goal.returns-in-Some-clause-crash
returns-in-Some-clause-crash g c = wider_changes c.write_at.ensures.crash (λ a b torn. torn_page c.args.place _ _ a b (omega arith) (λ stays. never_none _ _ c.in-Some.is (stays refl)) torn)
