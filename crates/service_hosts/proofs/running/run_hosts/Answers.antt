use Rattle.std.proofs.Common.{◌^◌, ◌∙◌, Err, List, refl, sym, subst, arith}
use Rattle.service_moves.specs.Stores.{AreSame}
use Rattle.hub_drive.specs.Driving.{beginning}
use Rattle.run_rules.specs.declared.journal.Journal.{Journal}
use Rattle.service_hosts.specs.Hosting.{HasHostedSoFar, epochs_of}
use Rattle.service_hosts.specs.declared.running.HostsStopped.TheVariants.{Memory as OutOfMemory}
use Rattle.service_hosts.proofs.Nothing.{nothing, nothing_hosted}
use Rattle.service_hosts.proofs.Paired.{same_as}
use Rattle.service_hosts.proofs.Serving.{can_all}
use Rattle.service_hosts.proofs.Starting.{is_valid, playable}
use Rattle.service_hosts.proofs.running.run_hosts.Goals as goal

pub drive_all-requires-clause-valid : goal.drive_all-requires-clause-valid
drive_all-requires-clause-valid g c κs w =
    is_valid c.args.script.now c.args.start c.requires.start c.requires.homes

pub drive_all-requires-clause-roster : goal.drive_all-requires-clause-roster
drive_all-requires-clause-roster g c κs w = c.requires.start.roster

pub drive_all-requires-clause-epochs : goal.drive_all-requires-clause-epochs
drive_all-requires-clause-epochs g c κs w = c.in-Ok.ensures.count ∙ c.requires.count

pub drive_all-requires-clause-room : goal.drive_all-requires-clause-room
drive_all-requires-clause-room g c κs w =
    let room = c.in-Ok.ensures.room in
    let count = c.requires.count in
    omega (arith, room, count)

pub drive_all-requires-clause-over : goal.drive_all-requires-clause-over
drive_all-requires-clause-over g c κs w =
    (c.args.stores.items, (c.in-Ok.ensures.over, (c.requires.stores, c.requires.count)))

pub drive_all-requires-clause-first : goal.drive_all-requires-clause-first
drive_all-requires-clause-first g c κs w =
    let script = c.args.script.now in
    let valid = is_valid script c.args.start c.requires.start c.requires.homes in
    c.in-Ok.ensures.first (beginning script c.args.start c.in-Ok.epochs) refl
    (playable script c.requires.sound c.requires.sayable)
    (can_all g.S.Store.tells g.S.Store.view script c.args.start c.requires.sound valid c.args.stores.items
    c.requires.kept c.requires.begun c.in-Ok.epochs c.in-Ok.ensures.epochs c.requires.stores)

pub returns-in-Ok-clause-same : goal.returns-in-Ok-clause-same
returns-in-Ok-clause-same g c = c.drive_all.ensures.same c.args.stores.items c.in-Ok.ensures.over c.requires.stores

pub returns-in-Ok-clause-hosted : goal.returns-in-Ok-clause-hosted
returns-in-Ok-clause-hosted g c =
    c.drive_all.ensures.hosted c.args.stores.items c.in-Ok.ensures.over c.requires.stores c.in-Ok.ensures.epochs

pub returns-in-Ok-clause-stopped : goal.returns-in-Ok-clause-stopped
returns-in-Ok-clause-stopped g c = c.drive_all.ensures.stopped c.args.stores.items c.in-Ok.ensures.over

pub returns-in-Err-clause-same : goal.returns-in-Err-clause-same
returns-in-Err-clause-same g c =
    subst (λ (l : List g.row.S.Denot). AreSame g.S.Store.view c.args.stores.items l) (sym c.in-Err.ensures.back)
    (same_as g.S.Store.view c.args.script.now.roster (2 ^ 40) 1 c.args.stores.items c.requires.stores)

pub returns-in-Ok-clause-so_far : goal.returns-in-Ok-clause-so_far
returns-in-Ok-clause-so_far g c =
    c.drive_all.ensures.so_far c.args.stores.items c.in-Ok.ensures.over c.in-Ok.ensures.epochs

pub returns-in-Ok-clause-held : goal.returns-in-Ok-clause-held
returns-in-Ok-clause-held g c =
    c.drive_all.ensures.held c.args.stores.items c.in-Ok.ensures.over c.in-Ok.ensures.epochs

pub returns-in-Err-clause-held : goal.returns-in-Err-clause-held
returns-in-Err-clause-held g c =
    let view = g.S.Store.view in
    let script = c.args.script.now in
    let stores = c.args.stores.items in
    subst (λ (l : List g.row.S.Denot). (journal : Journal) × HasHostedSoFar g.S.Store.tells view script c.args.start
    stores l (Err OutOfMemory) journal) (sym c.in-Err.ensures.back) (
      nothing c.args.start (epochs_of view stores),
      nothing_hosted view g.S.Store.tells script c.args.start stores c.requires.start c.requires.homes c.requires.count
          (2 ^ 40) 1 c.requires.stores c.requires.kept (Err OutOfMemory) (λ w e. absurd (cc)),
    )
