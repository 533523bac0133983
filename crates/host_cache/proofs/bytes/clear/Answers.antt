use Rattle.std.proofs.Common.{◌≡◌, ◌≤◌, ℕ, ◌-◌, List, ◌++◌, length, take, drop, replicate, min, refl, sym}
use Rattle.std.proofs.Common.{ap, ◌∙◌, subst, arith, length-drop}
use Rattle.std.proofs.lemmas.List.{length-take-le}
use borrow.Rule.Slice.PartMut.{put_mid, same_len_mid}
use Rattle.host_cache.specs.Bytes.{padded, IsCleared}
use Rattle.host_cache.proofs.Lists.{take_front}
use Rattle.host_cache.proofs.Padding.{padded_cleared}
use Rattle.host_cache.proofs.bytes.clear.Goals as goal

pub returns : goal.returns
returns c =
    let s = c.bytes.inside in
    let span = c.args.span in
    let there = c.as_mut_slice.result.now in
    let from = c.min-from.result in
    let to = c.min-to.result in
    let same : there ≡ s.there.items = c.as_mut_slice.ensures.value in
    let le : length there ≤ s.room = omega (arith, c.bytes.invariant.0, ap (λ (l : List ℕ). length l) same) in
    let last : to ≡ min (length there) span.to =
    omega (arith, c.min-to.ensures, c.len-count.ensures, c.as_mut_slice.ensures.len) in
    let first : from ≡ min to span.from = c.min-from.ensures in
    let size : length (take (to - from) (drop from there)) ≡ to - from =
    length-take-le (to - from) (drop from there) (omega (arith, last, first, length-drop from there)) in
    let zeros : c.fill.new.self ≡ replicate (to - from) 0 =
    c.fill.ensures.after (λ y k. k) ∙ ap (λ (m : ℕ). replicate m 0) size in
    let new = put_mid from (to - from) there c.fill.new.self in
    let rest = drop (length new) s.there.items in
    let many : length new ≡ s.there.len =
    same_len_mid from (to - from) there c.fill.new.self c.fill.ensures.len ∙ c.as_mut_slice.ensures.len in
    let exact : take s.there.len (new ++ rest) ≡ new = (λ i. take (sym many i) (new ++ rest)) ∙ take_front new rest in
    subst (λ (l : List ℕ). IsCleared span c.args.bytes.now (padded s.room l)) (sym exact)
    (subst (λ (l : List ℕ). IsCleared span l (padded s.room new)) (ap (padded s.room) same ∙ c.bytes.view_is)
    (padded_cleared s.room span there le from to last first (to - from) c.fill.new.self refl zeros))
