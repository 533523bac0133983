use Rattle.host_walk.proofs.Trying.{tries_first, tries_second}
use Rattle.host_walk.proofs.sight.Sight.both.Goals as goal

pub returns-in-Ok : goal.returns-in-Ok
returns-in-Ok c =
    tries_second c.args.self.now.cache.now c.args.first c.args.second c.in-Ok.ensures c.covered-in-Ok.result
    c.covered-in-Ok.ensures

pub returns-in-Err : goal.returns-in-Err
returns-in-Err c =
    tries_first (Unit {0}) c.args.self.now.cache.now c.args.first c.args.second c.in-Err.stop c.in-Err.ensures
