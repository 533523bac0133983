use Rattle.hub_wire.proofs.Flags.{flags_commute}
use Rattle.hub_wire.proofs.Posts.{always_posted}
use Rattle.hub_wire.proofs.Takes.{takes_first}
use Rattle.hub_wire.proofs.laws.copies_are_planned.Goals as goal

pub returns-clause-posted : goal.returns-clause-posted
returns-clause-posted c = always_posted

pub returns-clause-flags : goal.returns-clause-flags
returns-clause-flags c = flags_commute

pub returns-clause-taken : goal.returns-clause-taken
returns-clause-taken c = takes_first
