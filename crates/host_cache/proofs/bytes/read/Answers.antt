use Rattle.std.proofs.Common.{◌≡◌, ◌≤◌, ℕ, List, ◌++◌, length, take, drop, ap, ◌∙◌, sym, arith}
use Rattle.host_cache.specs.Bytes.{padded}
use Rattle.host_cache.proofs.Padding.{padded_many, padded_read}
use Rattle.host_cache.proofs.bytes.read.Goals as goal

pub returns : goal.returns
returns c =
    let s = c.bytes.inside in
    let there = c.as_slice-there.result.now in
    let n = length c.args.out.now in
    let same : there ≡ s.there.items = c.as_slice-there.ensures.value in
    let le : length there ≤ s.room = omega (arith, c.bytes.invariant.0, ap (λ (l : List ℕ). length l) same) in
    let whole : padded s.room there ≡ c.args.bytes.now = ap (padded s.room) same ∙ c.bytes.view_is in
    let room : length c.args.bytes.now ≡ s.room =
    ap (λ (l : List ℕ). length l) (sym whole) ∙ padded_many s.room there le in
    (λ i. c.copy_from_slice.ensures.after i ++ c.fill.ensures.after (λ y k. k) i)
    ∙ padded_read s.room c.args.at n there le (omega (arith, c.requires, room)) c.min-from.result c.min-to.result
    c.min-from.ensures c.min-to.ensures _ (omega (arith, c.split_at_mut-front.ensures.back_len))
    ∙ ap (λ (l : List ℕ). take n (drop c.args.at l)) whole
