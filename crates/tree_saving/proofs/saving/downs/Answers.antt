use Rattle.tree_saving.proofs.Downs.{downs_pushed}
use Rattle.tree_saving.proofs.saving.downs.Goals as goal

pub loop-server-preserved : goal.loop-server-preserved
loop-server-preserved c =
    downs_pushed c.args.host c.loop-server.server c.args.servers c.loop-server.entries c.push.new.self c.loop-server-test.true c.in_ok-push.ensures.ok c.loop-server.invariant
