use Rattle.std.proofs.Common.{List, ◌++◌, sym, subst}
use Rattle.service_disks.specs.Stores.{disks_of, AreBack, IsStopped}
use Rattle.service_disks.proofs.Backing.{all_still, opened_back, stopped, stopped_back}
use Rattle.service_disks.proofs.disks.open_stores.Goals as goal

pub returns-in_default-clause-back : goal.returns-in_default-clause-back
returns-in_default-clause-back g c = all_still g.D.Disk.tells g.D.Disk.view c.args.roster.now 1 c.args.disks.now.items

pub returns-then-is_err-clause-back : goal.returns-then-is_err-clause-back
returns-then-is_err-clause-back g c =
    (let tells = g.D.Disk.tells in
    let view = g.D.Disk.view in
    let roster = c.args.roster.now in
    let old = c.args.disks.now.items in
    subst (λ (l : List g.row.D.Denot). AreBack tells view roster 1 old l) (sym c.reserve.ensures.items) (all_still tells view roster 1 old))

pub returns-in-Err-clause-back : goal.returns-in-Err-clause-back
returns-in-Err-clause-back g c =
    (let tells = g.D.Disk.tells in
    let view = g.D.Disk.view in
    let roster = c.args.roster.now in
    let stores = c.open_disks.new.stores.items in
    let left = c.open_disks.new.disks.items in
    subst (λ (l : List g.row.D.Denot). AreBack tells view roster 1 c.args.disks.now.items l) (sym c.close_stores.ensures.back)
    (subst (λ (l : List g.row.D.Denot). AreBack tells view roster 1 l (disks_of stores ++ left)) c.reserve.ensures.items
    (stopped_back tells view roster c.in-Err.refused stores c.reserve.new.self.items left c.in-Err.ensures.stopped)))

pub returns-in-Err-clause-stopped : goal.returns-in-Err-clause-stopped
returns-in-Err-clause-stopped g c =
    (let tells = g.D.Disk.tells in
    let view = g.D.Disk.view in
    let roster = c.args.roster.now in
    let refused = c.in-Err.refused in
    let stores = c.open_disks.new.stores.items in
    let left = c.open_disks.new.disks.items in
    subst (λ (l : List g.row.D.Denot). IsStopped tells view roster refused c.args.disks.now.items l) (sym c.close_stores.ensures.back)
    (subst (λ (l : List g.row.D.Denot). IsStopped tells view roster refused l (disks_of stores ++ left)) c.reserve.ensures.items
    (stopped tells view roster refused stores c.reserve.new.self.items left c.in-Err.ensures.stopped)))

pub returns-in-Err-add_memory-clause-back : goal.returns-in-Err-add_memory-clause-back
returns-in-Err-add_memory-clause-back g c =
    (let tells = g.D.Disk.tells in
    let view = g.D.Disk.view in
    let roster = c.args.roster.now in
    let old = c.reserve.new.self.items in
    let stores = c.add_memory.new.stores.items in
    let left = c.open_disks.new.disks.items in
    subst (λ (l : List g.row.D.Denot). AreBack tells view roster 1 c.args.disks.now.items l) (sym c.close_stores-in-Err-add_memory.ensures.back)
    (subst (λ (l : List g.row.D.Denot). AreBack tells view roster 1 l (disks_of stores ++ left)) c.reserve.ensures.items
    (opened_back tells view roster stores old left (c.in-Err-add_memory.ensures.opened old c.in_default-open_disks.ensures.opened) c.in_default-open_disks.ensures.taken)))
