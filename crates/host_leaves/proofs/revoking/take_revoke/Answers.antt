use Rattle.std.proofs.Common.{ap, subst, sym, ◌∙◌}
use Rattle.std.proofs.lemmas.Result.{on_ok_weaker}
use Rattle.host_leaves.specs.Revoking.{Answers, sorted_by}
use Rattle.host_leaves.proofs.Sorting.{IsSorted, is_sorted}
use Rattle.host_leaves.proofs.revoking.take_revoke.Goals as goal

pub answer-requires : goal.answer-requires
answer-requires c =
    let t = c.raise_floor.new.tables in
    let h = subst (IsSorted t) (sym c.in_ok-sorted.ensures) (is_sorted t c.as_slice.result.now) in
    record { kept = h.kept; left = h.left }

pub returns : goal.returns
returns c =
    on_ok_weaker c.answer.result
    (λ h. record {
      sorted = c.in_ok-sorted.sorted;
      sorted_is = c.in_ok-sorted.ensures ∙ ap (sorted_by c.raise_floor.new.tables) c.as_slice.ensures
          ∙ ap (λ t. sorted_by t c.args.revoke.now.ids) c.in_ok-raise_floor.ensures;
      leaves = subst (λ t. Answers c.args.revoke.now.fid c.in_ok-sorted.sorted t c.args.draft.now c.answer.new.tables
          c.answer.new.draft) c.in_ok-raise_floor.ensures h;
    }) c.answer.ensures
