use Rattle.std.proofs.Common.{◌^◌, ◌∙◌, List, length, sym, ap, subst, arith}
use Rattle.service_moves.specs.Stores.{AreStores}
use Rattle.service_hosts.specs.Hosting.{epochs_of}
use Rattle.service_hosts.proofs.running.nodes_over.Goals as goal

pub epochs_of-requires : goal.epochs_of-requires
epochs_of-requires g c =
    let roster = c.args.script.now.roster in
    record {
      ready = (
        roster,
        (
          2 ^ 40,
          subst (λ (l : List g.row.S.Denot). AreStores g.S.Store.view roster (2 ^ 40) 1 l)
              (sym c.as_slice.ensures.value) c.requires.stores,
        ),
      );
    }

pub with_servers-requires-clause-room : goal.with_servers-requires-clause-room
with_servers-requires-clause-room g c =
    let room = c.in_ok-nodes.ensures.room in
    let count = c.requires.count in
    omega (arith, room, count)

pub returns-in-Ok-clause-epochs : goal.returns-in-Ok-clause-epochs
returns-in-Ok-clause-epochs g c = λ t.
    c.in_ok-epochs.ensures.epochs t
    ∙ ap (λ (l : List g.row.S.Denot). epochs_of g.S.Store.view l) c.as_slice.ensures.value

pub returns-in-Ok-clause-count : goal.returns-in-Ok-clause-count
returns-in-Ok-clause-count g c =
    c.in_ok-epochs.ensures.count ∙ ap (λ (l : List g.row.S.Denot). length l) c.as_slice.ensures.value

pub returns-in-Ok-clause-first : goal.returns-in-Ok-clause-first
returns-in-Ok-clause-first g c = λ run is plays can.
    c.in-Ok.ensures.first run is can (c.in_ok-nodes.ensures.first run is plays)
