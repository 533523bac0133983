use Rattle.std.proofs.Common.{◌≡◌, ◌∙◌, sym}
use Rattle.disk_layout.specs.Numbers.{number_at}
use Rattle.disk_log.specs.Log.{disk_of, state_of}
use Rattle.disk_log.specs.Puts.{page_of}
use Rattle.disk_objects.proofs.Keeping.{held_of}
use Rattle.disk_fileset.proofs.Looking.{look_held}
use Rattle.disk_objects.specs.Objects.{KeepsNow}
use Rattle.disk_fileset.proofs.Turns.{unique_here}
use Rattle.disk_fileset.proofs.reading.kept_anode.Goals as goal

pub returns-clause-anode : goal.returns-clause-anode
returns-clause-anode g c = λ told slots keeps.
    (let state = c.page.ensures.reads.state in
    let quiet = c.page.ensures.reads.quiet in
    let bytes = c.in_ok-page.ensures.bytes told in
    let at = c.anode_page.ensures in
    let still = look_held g.D.Disk.tells g.D.Disk.view c.args.log.now c.page.new.self state quiet KeepsNow slots keeps in
    let head : c.page.new.out ≡ page_of (state_of c.page.new.self).entries (state_of c.page.new.self).puts (g.D.Disk.view (disk_of c.page.new.self)).image c.anode_page.result =
    bytes ∙ (λ i. page_of (sym state i).entries (sym state i).puts (sym quiet.image i) c.anode_page.result) in
    let object = c.in_ok-object.ensures.object (head ∙ (λ i. page_of (state_of c.page.new.self).entries (state_of c.page.new.self).puts (g.D.Disk.view (disk_of c.page.new.self)).image (at i))) told slots still in
    let unique = c.u32_at-unique.ensures ∙ (λ i. number_at 4 4 (bytes i)) ∙ unique_here slots c.args.slot c.args.anode c.requires.slot c.requires.first c.requires.last c.anode_page.result at (state_of c.args.log.now) (g.D.Disk.view (disk_of c.args.log.now)).image (held_of slots (state_of c.args.log.now) (g.D.Disk.view (disk_of c.args.log.now)).image keeps) in
    λ i. record { unique = unique i; object = object i })
