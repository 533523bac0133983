use Rattle.std.proofs.Common.{ap, arith, drop, length, sym, take, ◌++◌, ◌-◌, ◌∙◌, ◌≡◌}
use Rattle.host_cache.proofs.Lists.{take_front}
use Rattle.host_leaves.proofs.Pieces.{bytes_are}
use Rattle.host_leaves.proofs.giving.bytes_of.Goals as goal

pub bytes_into-requires : goal.bytes_into-requires
bytes_into-requires c at low high =
    let many = c.as_mut_slice.ensures.len in
    let size = c.in_ok-bytes.ensures.len in
    let count = c.len.ensures in
    let ordered = c.args.span.ordered in
    c.requires at low (omega (arith, high, many, size, count, ordered))

pub returns : goal.returns
returns c =
    let span = c.args.span in
    let bytes = c.in_ok-bytes.bytes in
    let out = c.bytes_into.new.out in
    let many = c.as_mut_slice.ensures.len in
    let size = c.in_ok-bytes.ensures.len in
    let count = c.len.ensures in
    let same : length out ≡ bytes.len = c.bytes_into.ensures.count ∙ many in
    let exact : take bytes.len (out ++ drop (length out) bytes.items) ≡ out =
    (λ i. take (sym same i) (out ++ drop (length out) bytes.items)) ∙ take_front out (drop (length out) bytes.items) in
    c.from_vec.ensures ∙ exact
    ∙ bytes_are c.args.tables.now c.args.fid out span.from (span.to - span.from) (omega (arith, same, size, count))
    (λ at low. c.bytes_into.ensures.bytes at (omega (arith, low, many, size, count)))
