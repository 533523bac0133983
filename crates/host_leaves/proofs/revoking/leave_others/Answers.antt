use Rattle.std.proofs.Common.{[], subst, sym, take, ◌∙◌}
use Rattle.host_leaves.specs.Revoking.{LeaveAll, others_of}
use Rattle.host_leaves.specs.Revoking.LeaveAll.{NoneLeft}
use Rattle.host_leaves.proofs.Leaving.{same_held, same_left, step_covered, step_held, step_left}
use Rattle.host_leaves.proofs.Steps.{take_whole}
use Rattle.host_leaves.proofs.revoking.leave_others.Goals.{then-is_other+in_ok-leave_file, else-is_other}
use Rattle.host_leaves.proofs.revoking.leave_others.Goals as goal

pub leave_file-requires : goal.leave_file-requires
leave_file-requires c =
    step_covered c.args.fid c.args.tokens.now c.loop-index.index c.index-tokens-index.result c.loop-index-test.true
    c.index-tokens-index.is c.args.tables.now c.args.draft.now c.loop-index.tables c.loop-index.draft
    c.loop-index.invariant.left c.loop-index.invariant.held
    (sym c.is_other.ensures ∙ c.if-is_other.true)

pub loop-index-init : goal.loop-index-init
loop-index-init c = record {
  left = NoneLeft [] c.args.tables.now c.args.draft.now;
  held = c.requires;
}

pub loop-index-preserved : goal.loop-index-preserved
loop-index-preserved c =
    elim c.if-is_other.branch [
      | then-is_other+in_ok-leave_file w ↦
          let h = sym c.is_other.ensures ∙ w.if-is_other.true in
          record {
            left = step_left c.args.fid c.args.tokens.now c.loop-index.index c.index-tokens-index.result
                c.loop-index-test.true c.index-tokens-index.is c.args.tables.now c.args.draft.now c.loop-index.tables
                c.loop-index.draft c.loop-index.invariant.left c.loop-index.invariant.held
                h w.leave_file.new.tables w.leave_file.new.draft w.in_ok-leave_file.ensures c.if-is_other.tables
                w.tables-is c.if-is_other.draft w.draft-is;
            held = step_held c.args.fid c.args.tokens.now c.loop-index.index c.index-tokens-index.result
                c.loop-index-test.true c.index-tokens-index.is c.args.tables.now c.args.draft.now c.loop-index.tables
                c.loop-index.draft c.loop-index.invariant.left c.loop-index.invariant.held
                h w.leave_file.new.tables w.leave_file.new.draft w.in_ok-leave_file.ensures c.if-is_other.tables
                w.tables-is;
          }
      | else-is_other w ↦
          let h = sym c.is_other.ensures ∙ w.if-is_other.false in
          record {
            left = same_left c.args.fid c.args.tokens.now c.loop-index.index c.index-tokens-index.result
                c.loop-index-test.true c.index-tokens-index.is c.args.tables.now c.args.draft.now c.loop-index.tables
                c.loop-index.draft c.loop-index.invariant.left c.loop-index.invariant.held
                h c.if-is_other.tables w.tables-is c.if-is_other.draft w.draft-is;
            held = same_held c.args.fid c.args.tokens.now c.loop-index.index c.index-tokens-index.result
                c.loop-index-test.true c.index-tokens-index.is c.args.tables.now c.args.draft.now c.loop-index.tables
                c.loop-index.draft c.loop-index.invariant.left c.loop-index.invariant.held
                c.if-is_other.tables w.tables-is;
          }
    ]

pub returns : goal.returns
returns c =
    subst (λ ts. LeaveAll c.args.tokens.now (others_of c.args.fid ts) [] c.args.tables.now c.args.draft.now
    c.loop-index.tables c.loop-index.draft)
    (take_whole c.args.tokens.now c.loop-index.index c.loop-index-test.false) c.loop-index.invariant.left
