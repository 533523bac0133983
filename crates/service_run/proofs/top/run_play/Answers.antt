use Rattle.std.proofs.Common.{arith}
use Rattle.service_run.proofs.Happens.{sayable, servers_for}
use Rattle.service_run.proofs.top.run_play.Goals as goal

pub run_script-requires-clause-sayable : goal.run_script-requires-clause-sayable
run_script-requires-clause-sayable g c κs w =
    sayable _ _ c.args.play c.in-Ok.script c.requires.within c.in-Ok.ensures.read

pub run_script-requires-clause-few : goal.run_script-requires-clause-few
run_script-requires-clause-few g c κs w =
    (let servers = servers_for _ _ c.args.play c.in-Ok.script c.in-Ok.ensures.read in
    let count = c.requires.disks in
    omega (arith, servers, count))
