use Rattle.std.proofs.Common.{◌∙◌, ◌++◌, List, map, sym, ap}
use Rattle.std.specs.List.{filter}
use Rattle.std.proofs.lemmas.List.{at_drop_all}
use Rattle.base_types.specs.declared.ids.HostId.{HostId}
use Rattle.server_says.specs.Hailing.{hail, needs_hail}
use Rattle.server_says.proofs.Hailed.{all_hailed, hailed_all}
use Rattle.server_says.proofs.hailing.hail_all.Goals as goal

pub returns : goal.returns
returns c =
    let x = c.args.tables.now in
    let d = c.args.draft.now in
    let hosts = c.as_slice-host-items.result.now in
    sym (at_drop_all (hailed_all x c.loop-host.draft) hosts c.loop-host.host-index c.loop-host-test.false)
    ∙ c.loop-host.invariant ∙ all_hailed x d hosts
    ∙ ap (λ (hs : List HostId). record d { sent = d.sent ++ map (hail x) (filter (needs_hail x) hs) })
    c.as_slice-host-items.ensures
