use Rattle.std.proofs.Common.{arith, length, ◌-◌, ◌∙◌, ◌≡◌}
use Rattle.host_tells.proofs.Spelled.{shown_are}
use Rattle.host_tells.proofs.at_once.show.Goals as goal

pub bytes_into-requires : goal.bytes_into-requires
bytes_into-requires c at low high =
    let count = c.requires.count in
    let ordered = c.args.span.ordered in
    c.requires.covered at low (omega (arith, high, count, ordered))

pub returns-clause-shown : goal.returns-clause-shown
returns-clause-shown c =
    let span = c.args.span in
    let count = c.bytes_into.ensures.count in
    let size = c.requires.count in
    let same : length c.bytes_into.new.out ≡ span.to - span.from = count ∙ size in
    shown_are c.args.tables.now.cache c.args.fid c.bytes_into.new.out span.from (span.to - span.from) same
    (λ at low. c.bytes_into.ensures.bytes at (omega (arith, low, size)))

pub returns-clause-small : goal.returns-clause-small
returns-clause-small c at = omega (arith, c.type_inv.out at)
