use Rattle.std.proofs.Common.{◌≡◌, true, sym, ◌-◌, Bool, min, max, not, filter, take, drop, subst, ap, ◌∙◌}
use Rattle.std.specs.List.{list_all}
use Rattle.tree_objects.specs.declared.content.Unsaved.{Unsaved}
use Rattle.tree_objects.specs.Cuts.{IsCut, first_of, end_of}
use Rattle.tree_objects.specs.Files.{bytes_over}
use Rattle.tree_objects.specs.Stores.{is_stored}
use Rattle.tree_objects.specs.Stretches.{all_bytes, is_stretch}
use Rattle.tree_objects.proofs.Observed.{and_left}
use Rattle.tree_objects.proofs.Overlays.{lengthened}
use Rattle.tree_objects.proofs.Cuts.{each_put, each_taken, each_dropped}
use Rattle.tree_objects.proofs.Stored.{part_stored, part_left, left_stands}
use Rattle.tree_objects.proofs.unsaved.UnsavedBytes.store.Goals as goal

pub invariant_of-self : goal.invariant_of-self
invariant_of-self c =
    let host = c.args.host in let spans = c.args.spans.now in let end = c.args.end in let i =
    c.cut_of-cut.result.from in let k = c.cut_of-cut.result.to in let ss = c.self.inside.stretches in
    let cut : IsCut ss (first_of spans end) (max (min (end_of spans) end) (first_of spans end)) i k
    = subst (λ xs. IsCut xs (first_of spans end) (max (min (end_of spans) end) (first_of spans end)) i k)
    c.as_slice-stretches.ensures c.cut_of-cut.ensures in
    let others : Unsaved → Bool = λ byte. not (is_stored host spans end byte) in
    let left = c.in_ok-stored.ensures.left ∙ ap (λ xs. filter others (all_bytes (take (k - i) (drop i xs))))
    c.as_slice-stretches.ensures in
    let after = part_left host spans end ss c.in_ok-stored.left.items c.put_between.new.stretches i k cut left
    c.in-Ok.ensures.ok in
    left_stands others ss c.put_between.new.stretches c.self.invariant after
    (each_put ss c.in_ok-stored.left.items c.put_between.new.stretches i k c.in-Ok.ensures.ok
    (and_left _ _ c.self.invariant) c.in_ok-stored.ensures.each)

pub returns-in-Ok-clause-kept : goal.returns-in-Ok-clause-kept
returns-in-Ok-clause-kept c =
    let host = c.args.host in let spans = c.args.spans.now in let end = c.args.end in let i =
    c.cut_of-cut.result.from in let k = c.cut_of-cut.result.to in let ss = c.self.inside.stretches in
    let cut : IsCut ss (first_of spans end) (max (min (end_of spans) end) (first_of spans end)) i k
    = subst (λ xs. IsCut xs (first_of spans end) (max (min (end_of spans) end) (first_of spans end)) i k)
    c.as_slice-stretches.ensures c.cut_of-cut.ensures in
    let test : Unsaved → Bool = is_stored host spans end in
    let stored = c.in_ok-stored.ensures.stored ∙ ap (λ xs. filter test (all_bytes (take (k - i) (drop i xs))))
    c.as_slice-stretches.ensures
    ∙ part_stored host spans end ss i k cut ∙ ap (filter test) c.self.view_is in
    let kept = c.args.kept.now in
    let cut_off = c.truncate.ensures ∙ ap (take end) c.in_ok-lengthen.ensures.ok ∙ lengthened kept end in
    c.put_each.ensures kept end cut_off ∙ ap (λ ys. bytes_over kept ys 0 end)
    (ap all_bytes c.as_slice.ensures.value ∙ stored)

pub returns-in-Ok-clause-left : goal.returns-in-Ok-clause-left
returns-in-Ok-clause-left c =
    let host = c.args.host in let spans = c.args.spans.now in let end = c.args.end in let i =
    c.cut_of-cut.result.from in let k = c.cut_of-cut.result.to in let ss = c.self.inside.stretches in
    let cut : IsCut ss (first_of spans end) (max (min (end_of spans) end) (first_of spans end)) i k
    = subst (λ xs. IsCut xs (first_of spans end) (max (min (end_of spans) end) (first_of spans end)) i k)
    c.as_slice-stretches.ensures c.cut_of-cut.ensures in
    let others : Unsaved → Bool = λ byte. not (is_stored host spans end byte) in
    let left = c.in_ok-stored.ensures.left ∙ ap (λ xs. filter others (all_bytes (take (k - i) (drop i xs))))
    c.as_slice-stretches.ensures in
    let after = part_left host spans end ss c.in_ok-stored.left.items c.put_between.new.stretches i k cut left
    c.in-Ok.ensures.ok in
    after ∙ ap (filter others) c.self.view_is

pub split_stored-requires : goal.split_stored-requires
split_stored-requires c =
    let ss = c.as_slice-stretches.result.now in let i = c.cut_of-cut.result.from in let k = c.cut_of-cut.result.to in
    let each : list_all is_stretch ss ≡ true = subst (λ xs. list_all is_stretch xs ≡ true)
    (sym c.as_slice-stretches.ensures) (and_left _ _ c.self.invariant) in
    each_taken is_stretch (drop i ss) (k - i) (each_dropped is_stretch ss i each)
