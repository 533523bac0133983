use Rattle.std.proofs.Common.{◌≡◌, ◌+◌, List, length, sym, subst, ap, ◌∙◌, arith}
use Rattle.service_disks.specs.Stores.{AreOpen}
use Rattle.service_disks.specs.declared.stores.ServerStore.{ServerStore}
use Rattle.service_disks.specs.declared.stores.ServerStore.TheVariants.{Memory}
use Rattle.service_disks.proofs.Backing.{memory_last}
use Rattle.service_disks.proofs.Lists.{longer}
use Rattle.service_disks.proofs.disks.add_memory.Goals as goal

pub loop-k-preserved : goal.loop-k-preserved
loop-k-preserved g c =
    (let tells = g.D.Disk.tells in
    let view = g.D.Disk.view in
    let roster = c.args.roster.now in
    let counted : length c.loop-k.stores.items ≡ c.loop-k.k = c.loop-k.invariant.counted in
    let e : c.loop-k.k + 1 ≡ 1 + length c.loop-k.stores.items = omega (arith, counted) in
    record {
      opened = λ disks are.
          subst (λ (l : List (ServerStore g.row.D.Denot)). AreOpen tells view roster 1 disks l) (sym c.put_last.ensures.items)
          (memory_last tells view roster 1 (c.loop-k.k + 1) disks c.loop-k.stores.items c.in_ok-store.store (c.loop-k.invariant.opened disks are) e c.in_ok-store.ensures);
      counted = ap length c.put_last.ensures.items ∙ longer c.loop-k.stores.items (Memory c.in_ok-store.store) ∙ ap (λ i. i + 1) counted;
      room = omega (arith, c.put_last.ensures.room, c.loop-k.invariant.room);
    })
