use Rattle.host_leaves.proofs.Steps.{take_whole}
use Rattle.host_manager.proofs.Folding.{take_next}
use Rattle.host_manager.specs.Closing.{LeavesEach}
use Rattle.host_manager.specs.Closing.LeavesEach.{NoneLeft, OneLeaves}
use Rattle.std.proofs.Common.{List, subst, take}
use Rattle.token_types.specs.declared.token.Token.{Token}
use Rattle.host_manager.proofs.closing.leave_each.Goals as goal

pub loop-token-init : goal.loop-token-init
loop-token-init c = NoneLeft c.args.tables.now c.args.draft.now

pub loop-token-preserved : goal.loop-token-preserved
loop-token-preserved c =
    let m = c.args.tables.now in
    let draft = c.args.draft.now in
    let tokens = c.args.tokens.now in
    subst (λ (ts : List Token). LeavesEach ts m draft c.leave_file.new.tables c.leave_file.new.draft)
    (take_next tokens c.loop-token.token-index c.token-item.result c.loop-token-test.true c.token-item.is)
    (OneLeaves c.token-item.result (take c.loop-token.token-index tokens) m c.loop-token.tables
    c.leave_file.new.tables draft c.loop-token.draft c.leave_file.new.draft c.loop-token.invariant
    c.in_ok-leave_file.ensures)

pub returns : goal.returns
returns c =
    subst (λ (ts : List Token). LeavesEach ts c.args.tables.now c.args.draft.now c.loop-token.tables c.loop-token.draft)
    (take_whole c.args.tokens.now c.loop-token.token-index c.loop-token-test.false) c.loop-token.invariant
