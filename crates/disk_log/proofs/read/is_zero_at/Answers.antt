use Rattle.std.proofs.Common.{◌≡◌, ◌∙◌, ℕ, List, length, ap, arith}
use Rattle.base_types.specs.Image.{bytes_from}
use Rattle.base_outside.proofs.Image.{length-bytes_from}
use Rattle.disk_log.proofs.Zeros.{zeros_read, zeros_reads}
use Rattle.disk_log.proofs.read.is_zero_at.Goals as goal

pub returns-clause-zero : goal.returns-clause-zero
returns-clause-zero g c = λ told.
    let image = (g.D.Disk.view c.args.disk.now).image in
    let n = length c.args.bytes.now in
    let is = c.in_ok-read.ensures.bytes told in
    let size = ap (λ (l : List ℕ). length l) is ∙ length-bytes_from image c.args.at n in (
      λ yes. zeros_read image _ c.args.at n is (λ j lt. c.are_zero.ensures.0 yes j (omega (arith, size, lt))),
      λ zeros. c.are_zero.ensures.1 (λ j lt. zeros_reads image _ c.args.at n is zeros j (omega (arith, size, lt))),
    )
