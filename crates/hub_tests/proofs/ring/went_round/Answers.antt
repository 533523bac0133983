use Rattle.hub_tests.proofs.Members.{all_of, ours_of}
use Rattle.hub_tests.proofs.ring.went_round.Goals as goal

pub all_work-requires-clause-hub : goal.all_work-requires-clause-hub
all_work-requires-clause-hub g c κs within =
    ours_of c.args.hub.now c.in_ok-members.members.items c.args.passes.items c.in_ok-members.ensures c.requires.all.of_hub

pub returns : goal.returns
returns g c =
    all_of c.args.hub.now c.in_ok-members.members.items c.in_ok-worked.worked.items c.args.passes.items
    c.in_ok-passes.passes.items c.requires.all c.in_ok-members.ensures c.in_ok-worked.ensures.count
    c.in_ok-worked.ensures.each c.in_ok-passes.ensures
