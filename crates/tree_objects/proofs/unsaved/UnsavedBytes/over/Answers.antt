use Rattle.std.proofs.Common.{◌≡◌, ◌-◌, take, drop, IfOk, subst, ap, ◌∙◌}
use Rattle.tree_objects.specs.Files.{bytes_over}
use Rattle.tree_objects.specs.Stretches.{all_bytes}
use Rattle.tree_objects.proofs.Cuts.{part_shows}
use Rattle.tree_objects.proofs.unsaved.UnsavedBytes.over.Goals as goal

pub returns : goal.returns
returns c =
    let kept = c.args.kept.now in let from = c.args.from in let end = c.args.end in let i = c.cut_at-cut.result.from
    in let k = c.cut_at-cut.result.to in
    let ss = c.as_slice-stretches.result.now in
    let whole = ap all_bytes c.as_slice-stretches.ensures ∙ c.self.view_is in
    subst (λ read. IfOk c.bytes_over.result (λ bytes. bytes ≡ read))
    (ap (λ n. bytes_over kept (all_bytes (take (k - i) (drop i ss))) from n) c.saturating_sub.ensures ∙ part_shows
    kept ss from end i k c.cut_at-cut.ensures ∙ ap (λ bytes. bytes_over kept bytes from (end - from)) whole)
    c.bytes_over.ensures
