use Rattle.std.proofs.Common.{subst, ◌∙◌}
use Rattle.run_rules.specs.Past.{In}
use Rattle.host_leaves.proofs.DirtyTokens.{at_file}
use Rattle.host_tests.proofs.leaving.leave_file.Goals as goal

pub leave-requires : goal.leave-requires
leave-requires c = λ token i.
    at_file c.args.tables.now c.args.fid token
    (subst (In token) (c.as_slice-tokens.ensures ∙ c.in_ok-tokens.ensures ∙ c.tokens_at.ensures) i)
