use Rattle.std.proofs.Common.{length, ◌≡◌, ◌∙◌, sym, ap, arith}
use Rattle.base_types.specs.Image.{bytes_from}
use Rattle.base_outside.proofs.Image.{bytes_from-is}
use Rattle.disk_device.proofs.bytes.copy_out.Goals as goal

pub returns : goal.returns
returns c =
    let size : length c.loop-i.out ≡ length c.args.out.now = grind arith in
    sym (bytes_from-is c.args.bytes.now c.loop-i.out c.args.at (λ j lt. sym (c.loop-i.invariant j (omega (arith, lt, size)))))
    ∙ ap (bytes_from c.args.bytes.now c.args.at) size
