use Rattle.std.proofs.lemmas.Result.{err_from_is_err_and}
use Rattle.std.proofs.Common.{◌≡◌, ◌∙◌, subst, ap, sym, Ok, true, false}
use Rattle.token_types.specs.Covers.{Covers}
use Rattle.token_types.specs.declared.token.Need.{Need}
use Rattle.host_cache.specs.Seen.{seen}
use Rattle.host_walk.specs.declared.sight.Stop.TheVariants.{Lacks}
use Rattle.host_walk.specs.Trying.{Finds}
use Rattle.host_walk.specs.Views.{held_by, view_of, nature_told}
use Rattle.host_walk.specs.Walks.{entries_look}
use Rattle.host_walk.proofs.Steps.{entries_of_file, entries_denied, entries_lack, entries_found}
use Rattle.host_walk.proofs.sight.Sight.entries.Goals as goal

pub returns-then-not-status : goal.returns-then-not-status
returns-then-not-status c =
    let kept = c.args.self.now.cache.now in
    entries_of_file (held_by kept) (view_of kept) c.args.self.now.user.now c.args.right c.args.fid
    (nature_told c.args.status.now) c.if-not-status.true

pub returns-in_err-permitted : goal.returns-in_err-permitted
returns-in_err-permitted c =
    let kept = c.args.self.now.cache.now in
    let p = err_from_is_err_and c.from_residual.result c.from_residual.ensures.1 in
    rw (p.1, p.2) (
    entries_denied (held_by kept) (view_of kept) c.args.self.now.user.now c.args.right c.args.fid
    (nature_told c.args.status.now) c.if-not-status.false c.in_err-permitted.field-0.0 c.in_err-permitted.ensures)

pub returns-in_err-shown : goal.returns-in_err-shown
returns-in_err-shown c =
    let kept = c.args.self.now.cache.now in
    let p = err_from_is_err_and c.from_residual-in_err-shown.result c.from_residual-in_err-shown.ensures.1 in
    rw (p.1, p.2) (
    entries_lack (held_by kept) (view_of kept) c.args.self.now.user.now c.args.right c.args.fid
    (nature_told c.args.status.now) c.if-not-status.false c.in_ok-permitted.ensures c.in_err-shown.field-0.0
    (subst (λ n. (Covers (held_by kept) n → ⊥) × (c.in_err-shown.field-0.0 ≡ Lacks n)) c.whole_need.ensures
    c.in_err-shown.ensures.tried))

pub returns : goal.returns
returns c =
    let kept = c.args.self.now.cache.now in
    subst (Finds (held_by kept) (view_of kept) (entries_look c.args.self.now.user.now c.args.right c.args.fid
    (nature_told c.args.status.now)))
    (sym (c.in_ok-shown.ensures.entries ∙ ap (λ (n : Need). (seen kept).entries n.fid) c.whole_need.ensures))
    (entries_found (held_by kept) (view_of kept) c.args.self.now.user.now c.args.right c.args.fid
    (nature_told c.args.status.now) c.if-not-status.false c.in_ok-permitted.ensures
    (subst (Covers (held_by kept)) c.whole_need.ensures c.in_ok-shown.ensures.tried))
