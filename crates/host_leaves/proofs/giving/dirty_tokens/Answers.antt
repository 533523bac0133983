use Rattle.std.proofs.Common.{subst, sym, ap, ◌∙◌, ◌≡◌, filter}
use Rattle.std.proofs.lemmas.Result.{IfOk-weaker}
use Rattle.host_leaves.specs.Dirtying.{is_dirty_under}
use Rattle.host_leaves.specs.Giving.{AreDirty}
use Rattle.host_leaves.proofs.DirtyTokens.{are_dirty}
use Rattle.host_leaves.proofs.giving.dirty_tokens.Goals as goal

pub returns : goal.returns
returns c =
    let held = c.tokens_at.result.now in
    let spans = c.spans-spans.result.now in
    let length = c.dirty_length-length.result in
    IfOk-weaker c.dirty_of.result (λ tokens. tokens ≡ filter (is_dirty_under spans length) held)
    (AreDirty c.args.tables.now c.args.fid)
    (λ tokens e. subst (AreDirty c.args.tables.now c.args.fid) (sym e)
    (are_dirty c.args.tables.now c.args.fid held spans length c.tokens_at.ensures c.spans-spans.ensures.spans
    c.dirty_length-length.ensures)) c.dirty_of.ensures
