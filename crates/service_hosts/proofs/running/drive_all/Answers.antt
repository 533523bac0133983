use Rattle.std.proofs.Common.{◌≡◌, ℕ, ◌+◌, ◌^◌, ◌∙◌, List, length, ap, refl, sym, subst, arith}
use Rattle.hub_drive.specs.Driving.{HasDriven, HasStopped, IsFault, beginning}
use Rattle.hub_node.specs.Either.{stands_any}
use Rattle.host_node.specs.Standing.{Stands as HostStands}
use Rattle.server_node.specs.Standing.{Stands as ServerStands}
use Rattle.service_moves.specs.Stores.{AreSame}
use Rattle.service_hosts.specs.Hosting.{HasHostedSoFar, IsStopped, stopped_by}
use Rattle.service_hosts.specs.declared.running.HostsStopped.TheVariants.{Memory as OutOfMemory}
use Rattle.std.specs.Prelude.{Err, IfSome, None, Ok}
use Rattle.run_rules.specs.declared.journal.Journal.{Journal}
use Rattle.hub_drive.specs.declared.driver.DriveFault.TheVariants as drive
use Rattle.service_hosts.specs.Nodes.{AreOver, next_line}
use Rattle.service_hosts.specs.declared.running.HostsStopped.{HostsStopped}
use Rattle.service_hosts.proofs.Driven.{BrokenSo, FailedSo, StaysSo, are_back, are_nodes, are_same, as_many, err_at}
use Rattle.service_hosts.proofs.Driven.{ok_at}
use Rattle.service_hosts.proofs.Driven.{on_err_at, one_over, over_back}
use Rattle.service_hosts.proofs.Driven.{stopped_so, stops_by, taken_back}
use Rattle.service_hosts.proofs.Ending.{has_hosted, held_by, lacks_by, so_far_by, so_far_ended}
use Rattle.service_hosts.proofs.Starting.{can_start, has_limits}
use Rattle.service_hosts.proofs.running.drive_all.Goals as goal

pub drive-driven-requires-clause-can : goal.drive-driven-requires-clause-can
drive-driven-requires-clause-can g c κs w =
    can_start c.args.script.now c.args.start c.args.epochs c.requires.sound c.requires.valid c.requires.roster
    c.requires.epochs

pub drive-driven-requires-clause-nodes : goal.drive-driven-requires-clause-nodes
drive-driven-requires-clause-nodes g c κs w =
    let o = c.requires.over in
    are_nodes g.S.Store.tells g.S.Store.view c.args.script.now c.args.start c.args.epochs c.args.nodes.items o.0 o.1.0
    c.requires.sound.servers o.1.1.1 c.requires.first

pub take_stores-requires : goal.take_stores-requires
take_stores-requires g c =
    let o = c.requires.over in
    let count = length c.args.script.now.roster.hosts + 1 in
    let olds = c.args.nodes.items in
    let news = c.drive-driven.result.nodes.items in
    let became = c.drive-driven.ensures.became in
    let are = ap (λ (l : List g.row.S.Denot). length l)
    (are_back g.S.Store.tells g.S.Store.view olds news count o.0 o.1.0 became) in
    let many = as_many g.S.Store.tells g.S.Store.view olds news count o.0 o.1.0 became in
    let none = ap (λ (l : List g.row.S.Denot). length l) c.requires.none in
    let counted = o.1.1.1 in
    let room = c.requires.room in
    omega (arith, are, many, none, counted, room)

pub returns-in-Ok-clause-same : goal.returns-in-Ok-clause-same
returns-in-Ok-clause-same g c = λ stores over are.
    let count = length c.args.script.now.roster.hosts + 1 in
    let olds = c.args.nodes.items in
    let news = c.drive-driven.result.nodes.items in
    let became = c.drive-driven.ensures.became in
    subst (λ (l : List g.row.S.Denot). AreSame g.S.Store.view stores l)
    (sym (taken_back g.S.Store.tells g.S.Store.view olds news count stores over became c.take_stores.new.stores.items
    c.args.room.items c.take_stores.ensures c.requires.none))
    (are_same g.S.Store.tells g.S.Store.view olds news count stores over became c.args.script.now.roster (2 ^ 40) are)

pub returns-in-Err-clause-same : goal.returns-in-Err-clause-same
returns-in-Err-clause-same g c = λ stores over are.
    let count = length c.args.script.now.roster.hosts + 1 in
    let olds = c.args.nodes.items in
    let news = c.drive-driven.result.nodes.items in
    let became = c.drive-driven.ensures.became in
    subst (λ (l : List g.row.S.Denot). AreSame g.S.Store.view stores l)
    (sym (taken_back g.S.Store.tells g.S.Store.view olds news count stores over became c.take_stores.new.stores.items
    c.args.room.items c.take_stores.ensures c.requires.none))
    (are_same g.S.Store.tells g.S.Store.view olds news count stores over became c.args.script.now.roster (2 ^ 40) are)

pub returns-in-Ok-clause-hosted : goal.returns-in-Ok-clause-hosted
returns-in-Ok-clause-hosted g c = λ stores over are epochs.
    let tells = g.S.Store.tells in
    let view = g.S.Store.view in
    let script = c.args.script.now in
    let o = c.requires.over in
    let count = length script.roster.hosts + 1 in
    let olds = c.args.nodes.items in
    let news = c.drive-driven.result.nodes.items in
    let became = c.drive-driven.ensures.became in
    let journal = c.in-Ok.journal in
    let driven = ok_at c.drive-driven.result.result journal
    (HasDriven (Unit {0} × tells) (stands_any HostStands (ServerStands tells view)) script c.args.start c.args.epochs
    news)
    c.in-Ok.is c.drive-driven.ensures.driven in
    let long = as_many tells view olds news count stores over became
    ∙ ap (λ (l : List g.row.S.Denot). length l) (one_over olds count stores o.0 over o.1.0) ∙ o.1.1.1 in
    let taken = taken_back tells view olds news count stores over became c.take_stores.new.stores.items
    c.args.room.items
    c.take_stores.ensures c.requires.none in
    has_hosted tells view script c.args.start c.args.epochs c.requires.sound.servers news journal driven stores
    c.take_stores.new.stores.items
    (subst (λ (l : List g.row.S.Denot). AreOver news count l) (sym taken)
    (over_back tells view olds news count stores over became))
    (ap (λ (l : List g.row.S.Denot). length l) taken ∙ long) epochs

pub stopped_by-requires : goal.stopped_by-requires
stopped_by-requires g c = λ k e.
    let tells = g.S.Store.tells in
    let view = g.S.Store.view in
    let script = c.args.script.now in
    let run = beginning script c.args.start c.args.epochs in
    let o = c.requires.over in
    let count = length script.roster.hosts + 1 in
    let olds = c.args.nodes.items in
    let news = c.drive-driven.result.nodes.items in
    let became = c.drive-driven.ensures.became in
    let fault = err_at c.drive-driven.result.result c.in-Err.fault
    (IsFault (Unit {0} × tells) (stands_any HostStands (ServerStands tells view)) run (FailedSo tells view)
    next_line olds news)
    c.in-Err.is c.drive-driven.ensures.failed in
    let at = stops_by tells view olds news count o.0 o.1.0 became run next_line c.in-Err.fault fault k e in
    let least = at.0 in
    let most = at.1 in
    let counted = o.1.1.1 in
    let few = (has_limits script.roster c.requires.sound.roster).servers in
    (omega (arith, least), omega (arith, most, counted, few))

pub returns-in-Err-clause-stopped : goal.returns-in-Err-clause-stopped
returns-in-Err-clause-stopped g c = λ stores over.
    let tells = g.S.Store.tells in
    let view = g.S.Store.view in
    let script = c.args.script.now in
    let start = c.args.start in
    let o = c.requires.over in
    let count = length script.roster.hosts + 1 in
    let olds = c.args.nodes.items in
    let news = c.drive-driven.result.nodes.items in
    let became = c.drive-driven.ensures.became in
    let fault = err_at c.drive-driven.result.result c.in-Err.fault
    (IsFault (Unit {0} × tells) (stands_any HostStands (ServerStands tells view)) (beginning script start c.args.epochs)
    (FailedSo tells view) next_line olds news) c.in-Err.is c.drive-driven.ensures.failed in
    let many = (are_nodes tells view script start c.args.epochs olds o.0 o.1.0 c.requires.sound.servers o.1.1.1
    c.requires.first).count in
    let stopped = stopped_so tells view olds news count stores over became script start c.args.epochs c.in-Err.fault
    many refl fault in
    let taken = taken_back tells view olds news count stores over became c.take_stores.new.stores.items
    c.args.room.items c.take_stores.ensures c.requires.none in
    subst (λ (s : HostsStopped). IsStopped tells view script start stores c.take_stores.new.stores.items s)
    (ap (λ (n : ℕ). stopped_by (n + 1) c.in-Err.fault) (sym c.len-hosts.ensures) ∙ sym c.stopped_by.ensures)
    (subst (λ (l : List g.row.S.Denot). IsStopped tells view script start stores l (stopped_by count c.in-Err.fault))
    (sym taken) stopped)

pub returns-in-Err-clause-so_far : goal.returns-in-Err-clause-so_far
returns-in-Err-clause-so_far g c = λ stores over epochs.
    let tells = g.S.Store.tells in
    let view = g.S.Store.view in
    let script = c.args.script.now in
    let start = c.args.start in
    let o = c.requires.over in
    let count = length script.roster.hosts + 1 in
    let olds = c.args.nodes.items in
    let news = c.drive-driven.result.nodes.items in
    let became = c.drive-driven.ensures.became in
    let so_far = c.drive-driven.result.so_far in
    let long = as_many tells view olds news count stores over became
    ∙ ap (λ (l : List g.row.S.Denot). length l) (one_over olds count stores o.0 over o.1.0) ∙ o.1.1.1 in
    let taken = taken_back tells view olds news count stores over became c.take_stores.new.stores.items
    c.args.room.items
    c.take_stores.ensures c.requires.none in
    subst (λ (s : HostsStopped). IfSome so_far
    (HasHostedSoFar tells view script start stores c.take_stores.new.stores.items (Err s)))
    (ap (λ (n : ℕ). stopped_by (n + 1) c.in-Err.fault) (sym c.len-hosts.ensures) ∙ sym c.stopped_by.ensures)
    (so_far_by tells view script start c.args.epochs c.requires.sound.servers news so_far c.in-Err.fault count
    c.drive-driven.ensures.so_far
    (λ w e. c.drive-driven.ensures.stuck w (c.in-Err.is ∙ ap (λ f. Err f) e))
    stores c.take_stores.new.stores.items
    (subst (λ (l : List g.row.S.Denot). AreOver news count l) (sym taken)
    (over_back tells view olds news count stores over became))
    (ap (λ (l : List g.row.S.Denot). length l) taken ∙ long) epochs)

pub returns-in-Err-clause-lacks : goal.returns-in-Err-clause-lacks
returns-in-Err-clause-lacks g c = λ none.
    let count = length c.args.script.now.roster.hosts + 1 in
    subst (λ (s : HostsStopped). s ≡ OutOfMemory)
    (ap (λ (n : ℕ). stopped_by (n + 1) c.in-Err.fault) (sym c.len-hosts.ensures) ∙ sym c.stopped_by.ensures)
    (lacks_by c.drive-driven.result.result c.drive-driven.result.so_far c.in-Err.fault count c.in-Err.is
    c.drive-driven.ensures.lacks none)

pub returns-in-Ok-clause-held : goal.returns-in-Ok-clause-held
returns-in-Ok-clause-held g c = λ stores over are.
    let tells = g.S.Store.tells in
    let view = g.S.Store.view in
    let script = c.args.script.now in
    let o = c.requires.over in
    let count = length script.roster.hosts + 1 in
    let olds = c.args.nodes.items in
    let news = c.drive-driven.result.nodes.items in
    let became = c.drive-driven.ensures.became in
    let journal = c.in-Ok.journal in
    let driven = ok_at c.drive-driven.result.result journal
    (HasDriven (Unit {0} × tells) (stands_any HostStands (ServerStands tells view)) script c.args.start c.args.epochs
    news)
    c.in-Ok.is c.drive-driven.ensures.driven in
    let long = as_many tells view olds news count stores over became
    ∙ ap (λ (l : List g.row.S.Denot). length l) (one_over olds count stores o.0 over o.1.0) ∙ o.1.1.1 in
    let taken = taken_back tells view olds news count stores over became c.take_stores.new.stores.items
    c.args.room.items
    c.take_stores.ensures c.requires.none in (
      journal,
      so_far_ended tells view script c.args.start c.args.epochs c.requires.sound.servers news journal driven
          (Ok journal) stores c.take_stores.new.stores.items
          (subst (λ (l : List g.row.S.Denot). AreOver news count l) (sym taken)
          (over_back tells view olds news count stores over became))
          (ap (λ (l : List g.row.S.Denot). length l) taken ∙ long) are,
    )

pub returns-in-Err-clause-held : goal.returns-in-Err-clause-held
returns-in-Err-clause-held g c = λ stores over epochs.
    let tells = g.S.Store.tells in
    let view = g.S.Store.view in
    let script = c.args.script.now in
    let start = c.args.start in
    let o = c.requires.over in
    let count = length script.roster.hosts + 1 in
    let olds = c.args.nodes.items in
    let news = c.drive-driven.result.nodes.items in
    let became = c.drive-driven.ensures.became in
    let result = c.drive-driven.result.result in
    let so_far = c.drive-driven.result.so_far in
    let fault = c.in-Err.fault in
    let after = c.take_stores.new.stores.items in
    let long = as_many tells view olds news count stores over became
    ∙ ap (λ (l : List g.row.S.Denot). length l) (one_over olds count stores o.0 over o.1.0) ∙ o.1.1.1 in
    let taken = taken_back tells view olds news count stores over became after c.args.room.items
    c.take_stores.ensures c.requires.none in
    subst (λ (s : HostsStopped). (journal : Journal)
    × HasHostedSoFar tells view script start stores after (Err s) journal)
    (ap (λ (n : ℕ). stopped_by (n + 1) fault) (sym c.len-hosts.ensures) ∙ sym c.stopped_by.ensures)
    (held_by tells view script start c.args.epochs c.requires.sound.servers news so_far fault count
    c.drive-driven.ensures.so_far (λ w e. c.drive-driven.ensures.stuck w (c.in-Err.is ∙ ap (λ f. Err f) e))
    stores after
    (subst (λ (l : List g.row.S.Denot). AreOver news count l) (sym taken)
    (over_back tells view olds news count stores over became))
    (ap (λ (l : List g.row.S.Denot). length l) taken ∙ long) epochs
    (err_at result fault (λ f. so_far ≡ None → f ≡ drive.Memory) c.in-Err.is c.drive-driven.ensures.lacks)
    (on_err_at result fault ((journal : Journal) × HasStopped (Unit {0} × tells)
    (stands_any HostStands (ServerStands tells view)) (StaysSo tells view) (FailedSo tells view)
    (BrokenSo tells view) script start
    c.args.epochs news journal) c.in-Err.is c.drive-driven.ensures.held))
