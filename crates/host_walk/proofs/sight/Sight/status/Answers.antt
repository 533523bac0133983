use Rattle.std.proofs.Common.{◌≡◌, ◌∙◌, ap, option_copied, subst, sym}
use Rattle.std.proofs.lemmas.Result.{err_from_is_err_and}
use Rattle.token_types.specs.Covers.{Covers}
use Rattle.token_types.specs.declared.token.Need.{Need}
use Rattle.host_cache.specs.Seen.{seen}
use Rattle.host_walk.specs.declared.sight.Stop.TheVariants.{Lacks}
use Rattle.host_walk.specs.Views.{held_by, view_of}
use Rattle.host_walk.proofs.Steps.{nature_found, nature_lacks, nature_missing}
use Rattle.host_walk.proofs.sight.Sight.status.Goals as goal

pub returns-in_err-shown-clause-tried : goal.returns-in_err-shown-clause-tried
returns-in_err-shown-clause-tried c =
    let kept = c.args.self.now.cache.now in
    let p = err_from_is_err_and c.from_residual.result c.from_residual.ensures.1 in
    rw (p.1, p.2) (
    nature_lacks (held_by kept) (view_of kept) c.args.self.now.user.now c.args.fid c.in_err-shown.field-0.0
    (subst (λ n. (Covers (held_by kept) n → ⊥) × (c.in_err-shown.field-0.0 ≡ Lacks n)) c.status_need.ensures
    c.in_err-shown.ensures.tried))

pub returns-in-Some-clause-tried : goal.returns-in-Some-clause-tried
returns-in-Some-clause-tried c =
    let kept = c.args.self.now.cache.now in
    nature_found kept c.args.fid c.in-Some.status.now
    (subst (Covers (held_by kept)) c.status_need.ensures c.in_ok-shown.ensures.tried)
    (sym (ap (λ o. option_copied o) c.in-Some.is) ∙ c.in_ok-shown.ensures.status
    ∙ ap (λ (n : Need). (seen kept).status n.fid) c.status_need.ensures)

pub returns-in-None-clause-tried : goal.returns-in-None-clause-tried
returns-in-None-clause-tried c =
    let kept = c.args.self.now.cache.now in
    nature_missing kept c.args.fid
    (subst (Covers (held_by kept)) c.status_need.ensures c.in_ok-shown.ensures.tried)
    (sym (ap (λ o. option_copied o) c.in-None.is) ∙ c.in_ok-shown.ensures.status
    ∙ ap (λ (n : Need). (seen kept).status n.fid) c.status_need.ensures)

pub returns-in-Some-clause-seen : goal.returns-in-Some-clause-seen
returns-in-Some-clause-seen c =
    let kept = c.args.self.now.cache.now in
    sym (c.in_ok-shown.ensures.status ∙ ap (λ (n : Need). (seen kept).status n.fid) c.status_need.ensures)
    ∙ ap (λ o. option_copied o) c.in-Some.is
