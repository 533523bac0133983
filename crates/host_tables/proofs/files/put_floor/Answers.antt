use Rattle.std.proofs.Common.{ap, sym, ◌∙◌}
use Rattle.std.specs.List.{position}
use Rattle.host_tables.specs.Updates.{is_floor}
use Rattle.host_tables.proofs.Updating.{put_at, put_last}
use Rattle.host_tables.proofs.files.put_floor.Goals as goal

pub returns-in-Some-clause-after : goal.returns-in-Some-clause-after
returns-in-Some-clause-after c =
    let test = is_floor c.args.floor.fid in
    let place = ap (position test) (sym c.as_slice.ensures) ∙ sym c.floor_place.ensures ∙ c.in-Some.is in
    c.put.ensures ∙ put_at test c.args.floor c.args.floors.now c.in-Some.place place

pub returns-in_ok-push-in-None-clause-after : goal.returns-in_ok-push-in-None-clause-after
returns-in_ok-push-in-None-clause-after c =
    let test = is_floor c.args.floor.fid in
    let place = ap (position test) (sym c.as_slice.ensures) ∙ sym c.floor_place.ensures ∙ c.in-None.is in
    c.in_ok-push-in-None.ensures.ok ∙ put_last test c.args.floor c.args.floors.now place
