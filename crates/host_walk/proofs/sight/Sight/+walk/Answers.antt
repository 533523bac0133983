use Rattle.need_host.specs.Walks.{walk_look}
use Rattle.host_walk.specs.Views.{held_by, view_of}
use Rattle.host_walk.proofs.Trying.{tries_on}
use Rattle.host_walk.proofs.Steps.{none_left, walk_ends, walk_on, walk_stops}
use Rattle.host_walk.proofs.sight.Sight.+walk.Goals as goal

pub returns-in_default : goal.returns-in_default
returns-in_default t c =
    let kept = c.args.self.now.cache.now in
    walk_ends (held_by kept) (view_of kept) c.args.self.now.user.now c.args.at c.args.path.now
    (none_left c.args.path.now c.in_default.ensures.cases)

pub returns-in-Ok : goal.returns-in-Ok
returns-in-Ok t c =
    let kept = c.args.self.now.cache.now in
    let user = c.args.self.now.user.now in
    tries_on kept (walk_look user c.in-Ok.next c.in-Some.rest.now) (walk_look user c.args.at c.args.path.now)
    (λ fid. fid)
    (walk_on (held_by kept) (view_of kept) user c.args.at c.args.path.now c.in-Some.name.now c.in-Some.rest.now
    c.in-Some.ensures.cases.0 c.in-Ok.next c.in-Ok.ensures) c.walk.result c.walk.ensures

pub returns-in-Err : goal.returns-in-Err
returns-in-Err t c =
    let kept = c.args.self.now.cache.now in
    walk_stops (held_by kept) (view_of kept) c.args.self.now.user.now c.args.at c.args.path.now c.in-Some.name.now
    c.in-Some.rest.now c.in-Some.ensures.cases.0 c.in-Err.stop c.in-Err.ensures
