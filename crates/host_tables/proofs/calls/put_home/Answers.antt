use Rattle.std.proofs.Common.{ap, sym, ◌∙◌}
use Rattle.std.specs.List.{position}
use Rattle.host_tables.specs.Updates.{is_home, put_by}
use Rattle.host_tables.proofs.Updating.{put_at, put_last}
use Rattle.host_tables.proofs.calls.put_home.Goals as goal

pub returns-in-Some-clause-after : goal.returns-in-Some-clause-after
returns-in-Some-clause-after c =
    let test = is_home c.args.server c.args.name.now in
    let place = ap (position test) (sym c.as_slice.ensures) ∙ sym c.place_of-place.ensures ∙ c.in-Some.is in
    c.put.ensures
    ∙ put_at test (record { server = c.args.server; name = c.in_ok-name.name; id = c.args.id }) c.args.homes.now
    c.in-Some.place place
    ∙ ap (λ n. put_by test (record { server = c.args.server; name = n; id = c.args.id }) c.args.homes.now)
    c.in_ok-name.ensures

pub returns-in_ok-push-in-None-clause-after : goal.returns-in_ok-push-in-None-clause-after
returns-in_ok-push-in-None-clause-after c =
    let test = is_home c.args.server c.args.name.now in
    let place = ap (position test) (sym c.as_slice.ensures) ∙ sym c.place_of-place.ensures ∙ c.in-None.is in
    c.in_ok-push-in-None.ensures.ok
    ∙ put_last test (record { server = c.args.server; name = c.in_ok-name.name; id = c.args.id }) c.args.homes.now place
    ∙ ap (λ n. put_by test (record { server = c.args.server; name = n; id = c.args.id }) c.args.homes.now)
    c.in_ok-name.ensures
