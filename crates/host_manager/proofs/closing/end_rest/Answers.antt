use Rattle.host_cache.specs.Holding.{tokens_of}
use Rattle.host_manager.specs.Closing.EndsNext.{LeavesAll}
use Rattle.std.proofs.Common.{ap, ◌∙◌}
use Rattle.host_manager.proofs.closing.end_rest.Goals as goal

pub returns : goal.returns
returns c =
    LeavesAll c.requires
    (λ e.
    let t = c.is_empty.ensures.1 (c.in_ok-tokens.ensures ∙ ap tokens_of e) in
    let f = c.if-is_empty.false in absurd (cc))
    c.in_ok-leave_all.ensures
