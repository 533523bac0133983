use Rattle.std.proofs.Common.{rules, ◌≡◌, ◌<◌, ◌+◌, List, length, refl, sym, subst, ap, ◌∙◌, arith}
use Rattle.service_disks.specs.Steps.{AreOpened}
use Rattle.service_disks.specs.declared.stores.ServerStore.{ServerStore}
use Rattle.service_disks.specs.declared.stores.ServerStore.TheVariants.{Disk}
use Rattle.service_disks.proofs.Backing.{opened_more}
use Rattle.service_disks.proofs.Limits.{may_open}
use Rattle.service_disks.proofs.Lists.{longer}
use Rattle.service_disks.proofs.disks.open_disks.Goals as goal

pub open_first-requires-clause-least : goal.open_first-requires-clause-least
open_first-requires-clause-least g c =
    let lt : c.loop-k.k < length c.args.roster.now.capacity = search rules in
    (may_open c.args.roster.now c.loop-k.k (c.loop-k.k + 1) c.requires.limits lt refl).least

pub open_first-requires-clause-most : goal.open_first-requires-clause-most
open_first-requires-clause-most g c =
    let lt : c.loop-k.k < length c.args.roster.now.capacity = search rules in
    (may_open c.args.roster.now c.loop-k.k (c.loop-k.k + 1) c.requires.limits lt refl).most

pub loop-k-preserved : goal.loop-k-preserved
loop-k-preserved g c =
    (let tells = g.D.Disk.tells in
    let view = g.D.Disk.view in
    let roster = c.args.roster.now in
    let old = c.args.disks.now.items in
    let new = c.open_first.new.disks.items in
    let counted : length c.loop-k.stores.items ≡ c.loop-k.k = c.loop-k.invariant.counted in
    let first = c.in-Ok.ensures.opened in
    record {
      reached =
          subst (λ (l : List (ServerStore g.row.D.Denot)). AreOpened tells view roster l old new) (sym c.put_last.ensures.items)
          (opened_more tells view roster c.loop-k.stores.items old c.loop-k.disks.items new first.disk c.in-Ok.store (c.loop-k.k + 1) c.loop-k.invariant.reached first.was (ap (λ i. i + 1) (sym counted)) first.opened);
      counted = ap length c.put_last.ensures.items ∙ longer c.loop-k.stores.items (Disk c.in-Ok.store) ∙ ap (λ i. i + 1) counted;
      room = omega (arith, c.in-Ok.ensures.room, c.loop-k.invariant.room);
      stores_room = omega (arith, c.put_last.ensures.room, c.loop-k.invariant.stores_room);
    })
