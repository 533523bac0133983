use Rattle.std.proofs.Common.{◌≡◌, ◌+◌, [], ◌∷◌, ◌++◌, None, Some, ap, sym, ◌∙◌}
use Rattle.std.specs.List.{position}
use Rattle.std.specs.Option.{option_map_or}
use Rattle.host_gives.proofs.Places.{found_at, found_nowhere}
use Rattle.host_tables.specs.Tables.{is_counter}
use Rattle.host_tables.specs.declared.numbers.Changed.{Changed}
use Rattle.host_tables.proofs.Updating.{put_at, put_last}
use Rattle.host_tables.proofs.numbers.next_change.Goals as goal

pub returns-in_default-clause-number : goal.returns-in_default-clause-number
returns-in_default-clause-number c =
    let test = is_counter c.args.server c.args.fileset in
    let place = ap (position test) (sym c.as_slice.ensures) ∙ sym c.change_place.ensures ∙ c.in_default.is in
    sym (ap (λ o. option_map_or (λ (f : Changed). f.number) o 0 + 1) (found_nowhere test c.args.changed.now place))

pub returns-in_default-clause-after : goal.returns-in_default-clause-after
returns-in_default-clause-after c =
    let test = is_counter c.args.server c.args.fileset in
    let place = ap (position test) (sym c.as_slice.ensures) ∙ sym c.change_place.ensures ∙ c.in_default.is in
    c.in_ok-push.ensures.ok
    ∙ ap (λ new. c.args.changed.now ++ new ∷ []) c.first_change.ensures
    ∙ put_last test (record { server = c.args.server; fileset = c.args.fileset; number = 1 }) c.args.changed.now place

pub returns-clause-number : goal.returns-clause-number
returns-clause-number c =
    let test = is_counter c.args.server c.args.fileset in
    let place = ap (position test) (sym c.as_slice.ensures) ∙ sym c.change_place.ensures ∙ c.in-Some.is in
    let there = found_at test c.args.changed.now c.in-Some.place c.get.result.now place c.get.ensures in
    c.in_ok-number.ensures ∙ sym (ap (λ o. option_map_or (λ (f : Changed). f.number) o 0 + 1) there)

pub returns-clause-after : goal.returns-clause-after
returns-clause-after c =
    let test = is_counter c.args.server c.args.fileset in
    let place = ap (position test) (sym c.as_slice.ensures) ∙ sym c.change_place.ensures ∙ c.in-Some.is in
    c.put.ensures
    ∙ put_at test (record { server = c.args.server; fileset = c.args.fileset; number = c.in_ok-number.number })
    c.args.changed.now c.in-Some.place place
