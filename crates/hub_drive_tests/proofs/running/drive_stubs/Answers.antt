use Rattle.hub_drive_tests.proofs.Stubs.{can_start, may_take_part}
use Rattle.hub_drive_tests.proofs.running.drive_stubs.Goals as goal

pub drive-driven-requires-clause-can : goal.drive-driven-requires-clause-can
drive-driven-requires-clause-can g c κs w =
    can_start c.in_ok-script.script c.in_ok-start.start c.args.epochs c.in_ok-start.ensures.valid
    c.in_ok-start.ensures.roster c.requires.epochs c.in_ok-script.ensures.capacity c.in_ok-script.ensures.servers
    c.in_ok-script.ensures.hosts

pub drive-driven-requires-clause-nodes : goal.drive-driven-requires-clause-nodes
drive-driven-requires-clause-nodes g c κs w =
    may_take_part c.in_ok-script.script c.in_ok-start.start c.args.epochs c.args.stubs.items
    c.in_ok-script.ensures.hosts c.in_ok-script.ensures.servers c.in_ok-script.ensures.none.0
    c.in_ok-script.ensures.none.1 c.requires.stubs c.requires.rest
