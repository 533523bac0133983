use Rattle.std.proofs.Common.{◌≡◌, ◌≤◌, ℕ, ◌+◌, ◌-◌, List, ◌++◌, length, take, drop, replicate, ap, ◌∙◌, sym}
use Rattle.std.proofs.Common.{subst, arith}
use Rattle.std.proofs.lemmas.List.{length-append, length-replicate}
use borrow.Rule.Slice.PartMut.{put_mid}
use Rattle.host_cache.specs.Bytes.{padded, IsPut}
use Rattle.host_cache.proofs.Lists.{take_front}
use Rattle.host_cache.proofs.Padding.{padded_many, padded_filled, padded_put}
use Rattle.host_cache.proofs.Writing.{is_put}
use Rattle.host_cache.proofs.bytes.put.Goals as goal

pub fill_to-requires : goal.fill_to-requires
fill_to-requires c =
    let s = c.bytes.inside in
    let room : length c.args.bytes.now ≡ s.room =
    ap (λ (l : List ℕ). length l) (sym c.bytes.view_is) ∙ padded_many s.room s.there.items c.bytes.invariant.0 in
    omega (arith, c.requires, room, c.bytes.invariant.1)

pub slice_bounds-copy_from_slice-end : goal.slice_bounds-copy_from_slice-end
slice_bounds-copy_from_slice-end c =
    let long : c.args.at + length c.args.piece.now ≤ length c.as_mut_slice.result.now =
    omega (arith, c.fill_to.ensures.long, c.as_mut_slice.ensures.len) in
    long

pub returns : goal.returns
returns c =
    let s = c.bytes.inside in
    let at = c.args.at in
    let piece = c.args.piece.now in
    let to = at + length piece in
    let old = s.there.items in
    let zeros : List ℕ = replicate (to - length old) 0 in
    let there = c.as_mut_slice.result.now in
    let same : there ≡ old ++ zeros = c.as_mut_slice.ensures.value ∙ c.fill_to.ensures.items in
    let room : length c.args.bytes.now ≡ s.room =
    ap (λ (l : List ℕ). length l) (sym c.bytes.view_is) ∙ padded_many s.room old c.bytes.invariant.0 in
    let fits : to ≤ s.room = omega (arith, c.requires, room) in
    let size : length there ≡ length old + (to - length old) =
    ap (λ (l : List ℕ). length l) same
    ∙ omega (arith, length-append old zeros, length-replicate {A = ℕ} (to - length old) 0) in
    let le : length there ≤ s.room = omega (arith, size, fits, c.bytes.invariant.0) in
    let new = put_mid at (to - at) there c.copy_from_slice.new.self in
    let put : IsPut at piece there new =
    is_put at piece there (omega (arith, size)) (to - at) c.copy_from_slice.new.self (omega arith)
    c.copy_from_slice.ensures.after in
    let rest = drop (length new) c.fill_to.new.there.items in
    let many : length new ≡ c.fill_to.new.there.len = put.len ∙ c.as_mut_slice.ensures.len in
    let exact : take c.fill_to.new.there.len (new ++ rest) ≡ new =
    (λ i. take (sym many i) (new ++ rest)) ∙ take_front new rest in
    subst (λ (l : List ℕ). IsPut at piece c.args.bytes.now (padded s.room l)) (sym exact)
    (subst (λ (l : List ℕ). IsPut at piece l (padded s.room new))
    (ap (padded s.room) same ∙ padded_filled s.room to old fits ∙ c.bytes.view_is)
    (padded_put s.room at piece there new le put))
