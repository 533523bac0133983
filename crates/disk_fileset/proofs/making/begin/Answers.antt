use Rattle.std.proofs.lemmas.Result.{on_ok_weaker}
use Rattle.disk_log.specs.Log.{disk_of, state_of, slot_of}
use Rattle.std.proofs.Common.{◌≡◌, ◌+◌, ℕ, subst}
use Rattle.std.specs.Prelude.{IfOk}
use Rattle.disk_fileset.proofs.Changing.{may_page, low_in, others_same, changes_made}
use Rattle.disk_fileset.proofs.Turns.{begin_turns, unique_here, unique_low}
use Rattle.disk_fileset.proofs.making.begin.Goals as goal

pub create-requires-clause-may : goal.create-requires-clause-may
create-requires-clause-may g c = may_page c.args.slot c.args.anode c.anode_page.result c.requires.slot c.requires.first c.requires.last c.anode_page.ensures (state_of c.args.log.now) (slot_of c.args.tx.now) c.requires.may.may

pub create-requires-clause-page : goal.create-requires-clause-page
create-requires-clause-page g c = low_in c.args.slot c.args.anode c.anode_page.result c.requires.slot c.requires.first c.requires.last c.anode_page.ensures

pub create-requires-clause-unique : goal.create-requires-clause-unique
create-requires-clause-unique g c = λ told.
    (let held = c.requires.may.held told in
    unique_low held.0 c.args.slot c.args.anode c.requires.slot c.requires.first c.requires.last c.anode_page.result c.anode_page.ensures (state_of c.args.log.now) _ held.1 held.2)

pub returns-clause-unique : goal.returns-clause-unique
returns-clause-unique g c = λ told slots held.
    subst (λ (n : ℕ). IfOk c.create.result (λ unique. unique ≡ n + 1)) (unique_here slots c.args.slot c.args.anode c.requires.slot c.requires.first c.requires.last c.anode_page.result c.anode_page.ensures (state_of c.args.log.now) (g.D.Disk.view (disk_of c.args.log.now)).image held) (c.create.ensures.unique told)

pub returns-clause-turned : goal.returns-clause-turned
returns-clause-turned g c = λ told slots held takes.
    begin_turns slots c.args.slot c.args.anode c.requires.slot c.requires.first c.requires.last c.anode_page.result c.anode_page.ensures (state_of c.args.log.now) (state_of c.create.new.log) (g.D.Disk.view (disk_of c.args.log.now)).image (g.D.Disk.view (disk_of c.create.new.log)).image
    c.create.ensures.puts.rest held c.create.result c.args.dir c.args.owner.now c.args.group.now takes c.create.ensures.quiet.image (c.create.ensures.made told) (c.create.ensures.bare told)

pub returns-clause-changes : goal.returns-clause-changes
returns-clause-changes g c =
    changes_made g.D.Disk.tells g.D.Disk.view c.args.slot c.args.anode c.anode_page.result c.create.result c.args.log.now c.create.new.log c.args.tx.now c.create.new.tx c.requires.first c.requires.last c.anode_page.ensures
    c.create.ensures.sound c.create.ensures.tx c.create.ensures.puts
    (λ told. others_same c.create.result _ (state_of c.args.log.now) (state_of c.create.new.log) (g.D.Disk.view (disk_of c.args.log.now)).image (g.D.Disk.view (disk_of c.create.new.log)).image (on_ok_weaker c.create.result (λ made. made.turns.pages) (c.create.ensures.made told)))
    c.create.ensures.room c.create.ensures.quiet c.create.ensures.counted c.create.ensures.only
