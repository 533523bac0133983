use Rattle.std.proofs.Common.{◌≡◌, ◌+◌, ◌-◌, ◌<◌, ℕ, List, length, arith, subst, ap, ◌∙◌, min, max, take, drop}
use Rattle.host_cache.specs.Bytes.{IsPut}
use Rattle.host_cache.proofs.Writing.{laid_over, laid_nothing}
use Rattle.host_cache.proofs.bytes.put_within.Goals as goal

pub returns-then-low-high : goal.returns-then-low-high
returns-then-low-high c =
    let span = c.args.span in
    let piece = c.args.piece.now in
    let e = c.as_slice-piece.ensures in
    let l = c.max-low.ensures in
    let h : c.min-high.result ≡ min (piece.from + length piece.bytes) span.to =
    c.min-high.ensures ∙ ap (λ (b : List ℕ). min (piece.from + length b) span.to) e in
    let lt : max piece.from span.from < min (piece.from + length piece.bytes) span.to =
    omega (arith, c.if-low-high.true, l, h) in
    let many = c.min-high.result - piece.from - (c.max-low.result - piece.from) in
    let n : many ≡ min (piece.from + length piece.bytes) span.to - max piece.from span.from = omega (arith, l, h, lt) in
    let part = take many (drop (c.max-low.result - piece.from) c.as_slice-piece.result.now) in
    let put : IsPut c.max-low.result part c.args.bytes.now c.put.new.bytes = c.put.ensures in
    laid_over span piece c.args.bytes.now c.put.new.bytes part lt
    (λ i. take (n i) (drop (l i - piece.from) (e i)))
    (subst (λ (k : ℕ). IsPut k part c.args.bytes.now c.put.new.bytes) l put)

pub returns-else-low-high : goal.returns-else-low-high
returns-else-low-high c =
    let span = c.args.span in
    let piece = c.args.piece.now in
    let h : c.min-high.result ≡ min (piece.from + length piece.bytes) span.to =
    c.min-high.ensures ∙ ap (λ (b : List ℕ). min (piece.from + length b) span.to) c.as_slice-piece.ensures in
    laid_nothing span piece c.args.bytes.now (omega (arith, c.if-low-high.false, c.max-low.ensures, h))
