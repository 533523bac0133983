use Rattle.std.proofs.Common.{ℕ, ◌<◌, ◌/◌, ◌%◌, ◌∙◌, length, map, ap, List}
use Rattle.std.specs.Prelude.{Bool}
use Rattle.std.specs.List.{range_with_len}
use Rattle.std.proofs.lemmas.List.{length-map}
use Rattle.std.proofs.lemmas.List.FromFn.{length-range_with_len}
use Rattle.std.proofs.lemmas.Slice.Zip.{AllZip-map}
use Rattle.rayon.specs.Numbers.{nat_range}
use Rattle.rayon.proofs.ListFacts.{IfOk-then}
use Rattle.rayon.proofs.ToStd.{nat_range-All}
use Rattle.disk_image.specs.Anodes.{is_slot_anode}
use Rattle.disk_judge.specs.Metadata.{IsSized, plain}
use Rattle.disk_check.proofs.Threads.{pairs_judged}
use Rattle.disk_check.proofs.shared.anodes_shared.Goals as goal

pub collect-requires-clause-ready : goal.collect-requires-clause-ready
collect-requires-clause-ready g c κs within =
    let ends = c.into_par_iter.ensures in
    let inside = nat_range-All (λ i. IsSized c.args.metadata.now × (i < 1024)) 0 1024 (λ i low high. (c.requires, high)) in
    rw (c.map.ensures.base, c.map.ensures.f, ends.0, ends.1) (λ k d lt. (inside k d lt, λ y p. tt))

pub returns-clause-size : goal.returns-clause-size
returns-clause-size g c =
    let ends = c.into_par_iter.ensures in
    let judge = λ (k : ℕ). is_slot_anode (plain c.args.metadata.now) (k / 64) (k % 64) in
    IfOk-then c.collect.result _ _ c.collect.ensures (λ v h.
    let chain = rw (c.map.ensures.base, c.map.ensures.f) at h.1 in
    let places = chain.1 ∙ (λ i. nat_range (ends.0 i) (ends.1 i)) in
    let all = h.2 ∙ AllZip-map judge chain.0 h.0 chain.2 ∙ ap (map judge) places in
    ap (λ (l : List Bool). length l) all ∙ length-map (range_with_len 0 1024) judge ∙ length-range_with_len 0 1024)

pub returns-clause-each : goal.returns-clause-each
returns-clause-each g c =
    let ends = c.into_par_iter.ensures in
    let judge = λ (k : ℕ). is_slot_anode (plain c.args.metadata.now) (k / 64) (k % 64) in
    IfOk-then c.collect.result _ _ c.collect.ensures (λ v h.
    let chain = rw (c.map.ensures.base, c.map.ensures.f) at h.1 in
    let places = chain.1 ∙ (λ i. nat_range (ends.0 i) (ends.1 i)) in
    pairs_judged (is_slot_anode (plain c.args.metadata.now)) v.items (h.2 ∙ AllZip-map judge chain.0 h.0 chain.2 ∙ ap (map judge) places))
