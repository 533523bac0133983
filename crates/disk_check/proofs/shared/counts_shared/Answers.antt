use Rattle.std.proofs.Common.{◌≡◌, ℕ, ◌<◌, ◌-◌, ◌+◌, ◌/◌, ◌∙◌, length, map, ap, arith, List}
use Rattle.std.specs.Prelude.{Bool}
use Rattle.std.specs.List.{range_with_len}
use Rattle.std.proofs.lemmas.List.FromFn.{length-range_with_len}
use Rattle.std.proofs.lemmas.Slice.Zip.{AllZip-map, AllZip-long}
use Rattle.rayon.specs.Numbers.{nat_range}
use Rattle.rayon.proofs.ListFacts.{IfOk-then, AllZip-weaken}
use Rattle.rayon.proofs.ToStd.{nat_range-All}
use Rattle.disk_image.specs.Counts.{is_count_page}
use Rattle.disk_judge.specs.Metadata.{IsSized, over}
use Rattle.disk_check.proofs.Threads.{counts_told}
use Rattle.disk_check.proofs.shared.counts_shared.Goals as goal

pub collect-requires-clause-ready : goal.collect-requires-clause-ready
collect-requires-clause-ready g c κs within =
    let ends = c.into_par_iter.ensures in
    let metadata = c.args.metadata.now in
    let size = c.requires.size in
    let inside = nat_range-All (λ p. IsSized metadata × (length c.args.marks.now ≡ metadata.blocks) × (p < (metadata.blocks + 255) / 256)) 0 c.div_ceil.result
    (λ p low high. (c.requires.sized, size, omega (arith, size, high))) in
    rw (c.map.ensures.base, c.map.ensures.f, ends.0, ends.1) (λ k d lt. (inside k d lt, λ y p. tt))

pub returns-clause-size : goal.returns-clause-size
returns-clause-size g c =
    let ends = c.into_par_iter.ensures in
    let size = c.requires.size in
    let count : c.div_ceil.result - 0 ≡ (c.args.metadata.now.blocks + 255) / 256 = omega (arith, size) in
    IfOk-then c.collect.result _ _ c.collect.ensures (λ v h.
    let chain = rw (c.map.ensures.base, c.map.ensures.f) at h.1 in
    let places = chain.1 ∙ (λ i. nat_range (ends.0 i) (ends.1 i)) in
    ap (λ (l : List Bool). length l) h.2 ∙ AllZip-long _ chain.0 h.0 chain.2 ∙ ap (λ (l : List ℕ). length l) places ∙ length-range_with_len 0 _ ∙ count)

pub returns-clause-each : goal.returns-clause-each
returns-clause-each g c =
    let ends = c.into_par_iter.ensures in
    let metadata = c.args.metadata.now in
    let size = c.requires.size in
    let count : c.div_ceil.result - 0 ≡ (metadata.blocks + 255) / 256 = omega (arith, size) in
    IfOk-then c.collect.result _ _ c.collect.ensures (λ v h image are.
    let chain = rw (c.map.ensures.base, c.map.ensures.f) at h.1 in
    let disk = over metadata image in
    let places = chain.1 ∙ (λ i. nat_range (ends.0 i) (ends.1 i)) ∙ ap (range_with_len 0) count in
    let told = AllZip-weaken _ (λ p y. y ≡ is_count_page disk p) (λ p y each. each image are) chain.0 h.0 chain.2 in
    counts_told (is_count_page disk) ((disk.blocks + 255) / 256) v.items (h.2 ∙ AllZip-map (is_count_page disk) chain.0 h.0 told ∙ ap (map (is_count_page disk)) places))
