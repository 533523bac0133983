use Rattle.std.proofs.Common.{ap, sym, ◌∙◌}
use Rattle.std.specs.List.{position}
use Rattle.host_gives.specs.Counters.{is_of}
use Rattle.host_gives.proofs.Counting.{put_last, push_last}
use Rattle.host_gives.proofs.counters.set_last.Goals as goal

pub returns-in-Some-clause-after : goal.returns-in-Some-clause-after
returns-in-Some-clause-after c =
    let place = ap (position (is_of c.args.fileset)) (sym c.as_slice.ensures) ∙ sym c.place_of.ensures ∙ c.in-Some.is in
    c.put.ensures ∙ put_last c.args.counters.now c.args.fileset c.args.number c.in-Some.place place

pub returns-in_ok-push-in-None-clause-after : goal.returns-in_ok-push-in-None-clause-after
returns-in_ok-push-in-None-clause-after c =
    let place = ap (position (is_of c.args.fileset)) (sym c.as_slice.ensures) ∙ sym c.place_of.ensures ∙ c.in-None.is in
    c.in_ok-push-in-None.ensures.ok ∙ push_last c.args.counters.now c.args.fileset c.args.number place
