use Rattle.std.proofs.Common.{◌≡◌, ◌∙◌, sym, arith}
use Rattle.std.specs.Ordering.{is_lt}
use Rattle.base_types.specs.Name.{is_before}
use Rattle.disk_lists.specs.Entries.{name_in}
use Rattle.disk_lists.proofs.Laid.{length-laid}
use Rattle.disk_lists.proofs.Places.{some_at, name_at}
use Rattle.disk_lists.proofs.bytes.is_before_entry.Goals as goal

pub returns : goal.returns
returns c = λ entries are.
    let size = length-laid entries c.args.bytes.now are in
    let found = some_at c.args.i entries (let room = c.requires in omega (arith, size, room)) in
    let e : c.name_at.result.now ≡ name_in entries c.args.i = c.name_at.ensures entries found.0 found.1 are found.2 ∙ sym (name_at c.args.i entries found.0 found.1 found.2) in
    c.is_lt.ensures ∙ (λ j. is_lt (c.cmp.ensures j)) ∙ (λ j. is_before c.args.name.now (e j))
