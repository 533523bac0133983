use Rattle.std.proofs.Common.{subst, sym, ap, ◌∙◌, ◌≡◌, filter}
use Rattle.std.proofs.lemmas.Result.{IfOk-weaker}
use Rattle.base_types.specs.Spans.{in_spans}
use Rattle.host_leaves.specs.Giving.{AreGiven, has_to_give}
use Rattle.host_leaves.proofs.DirtyTokens.{are_given}
use Rattle.host_leaves.proofs.giving.to_give.Goals as goal

pub returns : goal.returns
returns c =
    let spans = c.as_slice.result.now in
    let length = c.dirty_length-length.result in
    let tokens = c.args.tokens.now in
    IfOk-weaker c.named_of.result
    (λ giving. giving ≡ filter (has_to_give c.args.tables.now.gives.gives spans length) tokens)
    (AreGiven c.args.tables.now c.args.fid tokens)
    (λ giving e. subst (AreGiven c.args.tables.now c.args.fid tokens) (sym e)
    (are_given c.args.tables.now c.args.fid tokens spans length
    (λ at. ap (λ s. in_spans s at) c.as_slice.ensures ∙ c.in_ok-spans.ensures at)
    c.dirty_length-length.ensures)) c.named_of.ensures
