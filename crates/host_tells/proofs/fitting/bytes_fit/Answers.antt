use Rattle.std.proofs.Common.{ap, arith, not, ◌∙◌}
use Rattle.host_tells.proofs.Fits.{name_fits, name_long, some_bytes}
use Rattle.host_tells.proofs.fitting.bytes_fit.Goals as goal

pub returns : goal.returns
returns c =
    let bytes = c.args.bytes.now in
    ap not c.is_empty.ensures ∙ some_bytes bytes (name_long bytes c.requires)
    ∙ name_fits bytes c.requires (λ k. omega (arith, c.type_inv.bytes k))
