use Rattle.std.proofs.Common.{◌∙◌, ◌≡◌, ◌+◌, arith, sym, subst}
use Rattle.std.specs.Prelude.{if◌then◌else◌}
use Rattle.disk_layout.specs.Numbers.{number_at}
use Rattle.disk_log.specs.Log.{disk_of, state_of, slot_of}
use Rattle.disk_log.specs.State.{State}
use Rattle.disk_anode.specs.Room.{is_page, free_blocks, MayPutAll, PutsPages}
use Rattle.disk_anode.specs.Anode.{anode_in, bare_anode, made}
use Rattle.disk_anode.proofs.anode.create.Goals.{then-dir, else-dir}
use Rattle.disk_anode.proofs.Plain.{made_after}
use Rattle.disk_anode.proofs.anode.create.Goals as goal

pub create_as-requires-clause-may : goal.create_as-requires-clause-may
create_as-requires-clause-may g c =
    subst (λ (s : State). MayPutAll (is_page c.args.page) s (slot_of c.args.tx.now)) (sym c.page.ensures.reads.state) c.requires.may

pub returns-clause-puts : goal.returns-clause-puts
returns-clause-puts g c =
    subst (λ (s : State). PutsPages (is_page c.args.page) (slot_of c.args.tx.now) s (state_of c.create_as.new.log)) c.page.ensures.reads.state c.create_as.ensures.puts

pub returns-clause-made : goal.returns-clause-made
returns-clause-made g c = λ told.
    let page = c.args.page in
    let old = state_of c.args.log.now in
    let before = (g.D.Disk.view (disk_of c.args.log.now)).image in
    let read : number_at 4 4 c.page.new.out ≡ (anode_in old before page).unique = (let e = c.in_ok-page.ensures.bytes told in λ i. number_at 4 4 (e i)) in
    let at = c.u32_at.ensures in
    let added = c.saturating_add-unique.ensures in
    let few = c.requires.unique told in
    let number : c.saturating_add-unique.result ≡ (anode_in old before page).unique + 1 = omega (arith, read, at, added, few) in
    let kind : c.if-dir.kind ≡ (if c.args.dir then 1 else 2) = elim c.if-dir.branch [ then-dir w ↦ w.kind-is ∙ (λ i. if sym w.if-dir.true i then 1 else 2) | else-dir w ↦ w.kind-is ∙ (λ i. if sym w.if-dir.false i then 1 else 2) ] in
    made_after page _ (made c.args.dir c.args.owner.now c.args.group.now (anode_in old before page)) old (state_of c.page.new.self) (state_of c.create_as.new.log) before _ _ c.page.ensures.reads.state c.page.ensures.reads.quiet.image
    (λ i. bare_anode (kind i) (number i) (c.as_bytes-owner.ensures.value i) (c.as_bytes-group.ensures.value i)) (c.in_ok-create_as.ensures.made told)

pub returns-clause-room : goal.returns-clause-room
returns-clause-room g c = λ told.
    let same = c.page.ensures.reads.state in
    let quiet = c.page.ensures.reads.quiet.image in
    let mid = c.in_ok-create_as.ensures.room told in
    let e : free_blocks (state_of c.page.new.self) (g.D.Disk.view (disk_of c.page.new.self)).image ≡ free_blocks (state_of c.args.log.now) (g.D.Disk.view (disk_of c.args.log.now)).image = (λ i. free_blocks (same i) (quiet i)) in
    omega (arith, e, mid)
