use Rattle.std.proofs.Common.{◌∙◌, ◌-◌, length, arith}
use Rattle.disk_layout.proofs.Bytes.{number-read}
use Rattle.disk_layout.proofs.numbers.u32_at.Goals as goal

pub returns : goal.returns
returns c = c.read_u32.ensures ∙ number-read 4 c.args.at (length c.args.bytes.now - c.args.at) c.args.bytes.now (omega arith)
