use Rattle.std.proofs.lemmas.Result.{on_ok_weaker}
use Rattle.host_leaves.specs.Revoking.{others_of}
use Rattle.host_leaves.proofs.Leaving.{file_covered, first_more, held_beside}
use Rattle.host_leaves.proofs.revoking.leave_all.Goals as goal

pub leave_file-requires : goal.leave_file-requires
leave_file-requires c =
    file_covered c.args.tables.now c.args.fid c.args.tokens.now (λ token i e. c.requires token i)

pub leave_others-requires : goal.leave_others-requires
leave_others-requires c =
    held_beside c.args.fid c.args.tokens.now c.args.back.now c.args.tables.now c.args.draft.now c.leave_file.new.tables
    c.leave_file.new.draft c.in_ok-leave_file.ensures c.requires

pub returns : goal.returns
returns c =
    on_ok_weaker c.leave_others.result
    (first_more c.args.tokens.now (others_of c.args.fid c.args.tokens.now) c.args.back.now c.args.tables.now
    c.args.draft.now c.args.fid c.leave_file.new.tables c.leave_file.new.draft c.leave_others.new.tables
    c.leave_others.new.draft c.in_ok-leave_file.ensures) c.leave_others.ensures
