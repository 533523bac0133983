use Rattle.std.proofs.Common.{◌≡◌, []}
use Rattle.message_parts.specs.Access.{access_from}
use Rattle.message_parts.proofs.list.entries_at.Given as goal

abbrev pub invariant-loop-lacking : goal.invariant-loop-lacking
invariant-loop-lacking l = access_from l.lacking l.entries l.rest ≡ access_from l.count [] l.bytes

abbrev pub decreases-loop-lacking : goal.decreases-loop-lacking
decreases-loop-lacking l = l.lacking
