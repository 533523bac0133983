use Rattle.std.proofs.Common.{◌≡◌, None, [], ◌∷◌, ◌++◌, subst, sym, ap, ◌∙◌}
use Rattle.host_labels.specs.Labels.{InUse, IsSound, is_lock, use_of}
use Rattle.host_labels.proofs.Staying.{sound_taken}
use Rattle.host_labels.proofs.uses.Uses.take.Goals as goal

pub invariant_of-self-2 : goal.invariant_of-self-2
invariant_of-self-2 c =
    let uses : InUse = record { labels = c.self.inside.labels; pinned = c.self.inside.pinned } in
    let none : use_of uses (is_lock c.args.token.now.kind) c.args.label.now ≡ None =
    ap (λ s. use_of s (is_lock c.args.token.now.kind) c.args.label.now) c.self.view_is ∙ c.requires in
    let labels : c.push.new.self
    ≡ c.self.inside.labels ++ record { label = c.args.label.now; token = c.args.token.now } ∷ [] =
    c.in_ok-push.ensures.ok
    ∙ ap (λ n. c.self.inside.labels ++ record { label = n; token = c.args.token.now } ∷ []) c.in_ok-label.ensures in
    subst (λ ls. IsSound (record { labels = ls; pinned = c.self.inside.pinned })) (sym labels)
    (sound_taken uses c.args.label.now c.args.token.now none c.self.invariant)
