use Rattle.std.proofs.Common.{ap, arith, subst, sym, ◌+◌, ◌∙◌, ◌≡◌, ◌≤◌}
use Rattle.std.proofs.lemmas.Result.{err_from_is_err_and}
use Rattle.base_types.specs.declared.span.Span.{Span}
use Rattle.host_calls.proofs.Judged.{lock_found, lock_lacks, lock_own}
use Rattle.host_leaves.specs.Owning.{is_own_locked}
use Rattle.host_walk.specs.Views.{held_by}
use Rattle.host_walk.specs.declared.sight.Stop.TheVariants.{Lacks}
use Rattle.token_types.specs.Covers.{Covers}
use Rattle.token_types.specs.declared.token.Kind.TheVariants.{Lock}
use Rattle.tree_objects.specs.Spans.{span_between}
use Rattle.host_calls.proofs.looking.lock_kind.Goals as goal

pub returns-then-is_own_locked-clause-tried : goal.returns-then-is_own_locked-clause-tried
returns-then-is_own_locked-clause-tried c =
    let kept = c.args.sight.cache.now in
    let m = c.args.tables.now in
    let to_is : c.saturating_add-to.result ≡ c.args.from + c.args.len = omega arith in
    let fits : c.args.from + c.args.len ≤ 65536 = omega arith in
    let span = c.positions-span.ensures ∙ ap (λ t. span_between c.args.from t) to_is in
    lock_own kept m c.args.writing c.args.from c.args.len c.args.fid fits
    (sym (ap (is_own_locked m c.args.fid) span) ∙ sym c.is_own_locked.ensures ∙ c.if-is_own_locked.true)

pub returns-in_err-covered-clause-tried : goal.returns-in_err-covered-clause-tried
returns-in_err-covered-clause-tried c =
    let kept = c.args.sight.cache.now in
    let m = c.args.tables.now in
    let to_is : c.saturating_add-to.result ≡ c.args.from + c.args.len = omega arith in
    let fits : c.args.from + c.args.len ≤ 65536 = omega arith in
    let span = c.positions-span.ensures ∙ ap (λ t. span_between c.args.from t) to_is in
    let p = err_from_is_err_and c.from_residual.result c.from_residual.ensures.1 in
    rw (p.1, p.2) (
    lock_lacks kept m c.args.writing c.args.from c.args.len c.args.fid fits
    (sym (ap (is_own_locked m c.args.fid) span) ∙ sym c.is_own_locked.ensures ∙ c.if-is_own_locked.false)
    c.in_err-covered.field-0.0
    (subst (λ (s : Span). (Covers (held_by kept) (record { fid = c.args.fid; kind = Lock c.args.writing s }) → ⊥)
    × (c.in_err-covered.field-0.0 ≡ Lacks (record { fid = c.args.fid; kind = Lock c.args.writing s }))) span
    c.in_err-covered.ensures))

pub returns-clause-tried : goal.returns-clause-tried
returns-clause-tried c =
    let kept = c.args.sight.cache.now in
    let m = c.args.tables.now in
    let to_is : c.saturating_add-to.result ≡ c.args.from + c.args.len = omega arith in
    let fits : c.args.from + c.args.len ≤ 65536 = omega arith in
    let span = c.positions-span.ensures ∙ ap (λ t. span_between c.args.from t) to_is in
    lock_found kept m c.args.writing c.args.from c.args.len c.args.fid fits
    (sym (ap (is_own_locked m c.args.fid) span) ∙ sym c.is_own_locked.ensures ∙ c.if-is_own_locked.false)
    (subst (λ (s : Span). Covers (held_by kept) (record { fid = c.args.fid; kind = Lock c.args.writing s })) span
    c.in_ok-covered.ensures)
