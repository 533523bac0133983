use Rattle.std.proofs.Common.{◌≡◌, []}
use Rattle.message_parts.specs.Access.{fresh_from, names_in}
use Rattle.message_parts.proofs.list.fresh_text_at.Given as goal

abbrev pub invariant-loop-lacking : goal.invariant-loop-lacking
invariant-loop-lacking l = fresh_from (names_in l.group l.entries) l.lacking l.text l.rest ≡ fresh_from (names_in l.group l.entries) l.count [] l.bytes

abbrev pub decreases-loop-lacking : goal.decreases-loop-lacking
decreases-loop-lacking l = l.lacking
