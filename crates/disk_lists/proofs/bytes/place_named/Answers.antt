use Rattle.std.proofs.Common.{◌∙◌, ◌-◌, sym, arith}
use Rattle.disk_lists.proofs.Places.{named_first, named_other, named_here}
use Rattle.disk_lists.proofs.bytes.place_named.Goals as goal

pub returns-then-place-eq0-clause-entry : goal.returns-then-place-eq0-clause-entry
returns-then-place-eq0-clause-entry c = λ entries are. let place = c.place_of-place in named_first entries c.args.name.now place.result are.rise (place.ensures.place entries are) (omega arith)

pub returns-then-is_name_of_entry-clause-entry : goal.returns-then-is_name_of_entry-clause-entry
returns-then-is_name_of_entry-clause-entry c = λ entries are. let place = c.place_of-place in
    named_here entries c.args.name.now place.result are.rise (place.ensures.place entries are) (place.result - 1) (omega arith) (sym (c.is_name_of_entry.ensures entries are) ∙ c.if-is_name_of_entry.true)

pub returns-else-is_name_of_entry-clause-entry : goal.returns-else-is_name_of_entry-clause-entry
returns-else-is_name_of_entry-clause-entry c = λ entries are. let place = c.place_of-place in
    named_other entries c.args.name.now place.result are.rise (place.ensures.place entries are) (place.result - 1) (omega arith) (sym (c.is_name_of_entry.ensures entries are) ∙ c.if-is_name_of_entry.false)
