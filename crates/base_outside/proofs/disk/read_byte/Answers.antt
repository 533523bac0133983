use Rattle.std.proofs.Common.{ℕ, List, get_or, ◌∙◌, ap}
use Rattle.base_outside.proofs.Image.{byte_at-bytes_from}
use Rattle.base_outside.proofs.disk.read_byte.Goals as goal

pub returns-clause-byte : goal.returns-clause-byte
returns-clause-byte g c = λ told.
    ap (λ (bytes : List ℕ). get_or bytes 0 0) (c.in_ok-read.ensures.bytes told) ∙ byte_at-bytes_from (g.D.Disk.view c.args.disk.now).image c.args.at
