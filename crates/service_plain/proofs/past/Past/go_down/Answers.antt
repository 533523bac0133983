use Rattle.service_plain.proofs.Goes.{downs_by_all}
use Rattle.service_plain.proofs.Rests.{rest_by_one}
use Rattle.service_plain.proofs.past.Past.go_down.Goals as goal

pub down_all-requires-clause-apart : goal.down_all-requires-clause-apart
down_all-requires-clause-apart c = rest_by_one c.args.self.now.tree c.requires.rest

pub returns : goal.returns
returns c = downs_by_all c.args.host c.args.self.now _ _ _ c.requires.rest c.requires.rooms c.in_ok-downs.ensures c.in_ok-append.ensures.ok
