use Rattle.std.proofs.Common.{ap, ℕ, ◌∙◌}
use Rattle.std.specs.Prelude.{nat_le}
use Rattle.host_tells.proofs.Fits.{rights_fit}
use Rattle.host_tells.proofs.fitting.rights_fit.Goals as goal

pub returns : goal.returns
returns c = ap (λ (n : ℕ). nat_le n 63) c.bits.ensures ∙ rights_fit c.args.rights
