use Rattle.std.proofs.Common.{◌≡◌, None, Some, subst, ap, sym, ◌∙◌}
use Rattle.std.specs.List.{position, find, filter}
use Rattle.host_labels.specs.Labels.{InUse, IsSound, is_labelled, use_of, has_id, after_drop, without_label}
use Rattle.host_labels.proofs.Parting.{taken, untaken}
use Rattle.host_labels.proofs.Staying.{sound_dropped, nothing_dropped, view_dropped}
use Rattle.host_labels.proofs.uses.Uses.drop_label.Goals as goal

nothing : (c : goal.In_default) →
    let p = is_labelled c.args.lock c.args.label.now in position p c.self.inside.labels ≡ None
nothing c =
    let p = is_labelled c.args.lock c.args.label.now in
    ap (position p) (sym c.as_slice.ensures) ∙ sym c.place_of.ensures ∙ c.in_default.is

pub returns-in_default-clause-dropped : goal.returns-in_default-clause-dropped
returns-in_default-clause-dropped c =
    let p = is_labelled c.args.lock c.args.label.now in
    (untaken p c.self.inside.labels (nothing c)).0 ∙ ap (λ s. use_of s c.args.lock c.args.label.now) c.self.view_is

pub returns-in_default-clause-after : goal.returns-in_default-clause-after
returns-in_default-clause-after c =
    let p = is_labelled c.args.lock c.args.label.now in
    let uses : InUse = record { labels = c.self.inside.labels; pinned = c.self.inside.pinned } in
    let same = (untaken p c.self.inside.labels (nothing c)).1 in
    subst (λ s. s ≡ after_drop s c.args.lock c.args.label.now) c.self.view_is
    (nothing_dropped uses c.args.lock c.args.label.now c.self.invariant same)

there : (c : goal.After-keep_pins) → let p = is_labelled c.args.lock c.args.label.now in
    (Some c.remove-dropped.result ≡ find p c.self.inside.labels)
    × (c.remove-dropped.new.self ≡ without_label c.args.lock c.args.label.now c.self.inside.labels)
there c =
    let p = is_labelled c.args.lock c.args.label.now in
    let place : position p c.self.inside.labels ≡ Some c.in-Some.index =
    ap (position p) (sym c.as_slice.ensures) ∙ sym c.place_of.ensures ∙ c.in-Some.is in
    let once = c.self.invariant.once c.args.lock c.args.label.now in
    let h =
    taken p c.self.inside.labels c.in-Some.index c.remove-dropped.result place c.remove-dropped.ensures.value once in
    (h.0, c.remove-dropped.ensures.rest ∙ h.1)

view : (c : goal.After-keep_pins) →
    let left : InUse = record { labels = c.remove-dropped.new.self; pinned = c.keep_pins.new.pinned } in
    let uses : InUse = record { labels = c.self.inside.labels; pinned = c.self.inside.pinned } in
    left ≡ after_drop uses c.args.lock c.args.label.now
view c =
    let uses : InUse = record { labels = c.self.inside.labels; pinned = c.self.inside.pinned } in
    let pins = c.keep_pins.ensures ∙ ap (λ ls. filter (has_id ls) c.self.inside.pinned) c.as_slice-2.ensures in
    view_dropped uses c.args.lock c.args.label.now c.remove-dropped.new.self c.keep_pins.new.pinned (there c).1 pins

pub invariant_of-self : goal.invariant_of-self
invariant_of-self c =
    let uses : InUse = record { labels = c.self.inside.labels; pinned = c.self.inside.pinned } in
    subst IsSound (sym (view c)) (sound_dropped uses c.args.lock c.args.label.now c.self.invariant)

pub returns-clause-dropped : goal.returns-clause-dropped
returns-clause-dropped c = (there c).0 ∙ ap (λ s. use_of s c.args.lock c.args.label.now) c.self.view_is

pub returns-clause-after : goal.returns-clause-after
returns-clause-after c = view c ∙ ap (λ s. after_drop s c.args.lock c.args.label.now) c.self.view_is
