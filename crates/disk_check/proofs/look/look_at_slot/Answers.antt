use Rattle.std.proofs.Common.{◌∙◌, ◌++◌, List, sym, subst}
use Rattle.disk_image.specs.Joined.{joined}
use Rattle.disk_image.specs.Anodes.{links_at}
use Rattle.disk_image.specs.declared.found.Link.{Link}
use Rattle.disk_image.specs.Reach.{reach_faults}
use Rattle.disk_judge.specs.Metadata.{over}
use Rattle.disk_judge.specs.Reach.{AreFromAnodes}
use Rattle.disk_check.proofs.Looking.{slot_found, mapped_next, from_none}
use Rattle.disk_check.proofs.look.look_at_slot.Goals as goal

pub look_at_anodes-requires-clause-from : goal.look_at_anodes-requires-clause-from
look_at_anodes-requires-clause-from g c = from_none _ c.clear.ensures.items

pub push_reach_faults-requires-clause-from : goal.push_reach_faults-requires-clause-from
push_reach_faults-requires-clause-from g c =
    subst (λ (l : List Link). AreFromAnodes l) (sym c.as_slice.ensures.value) c.in_ok-look_at_anodes.ensures.from

pub returns-clause-looks : goal.returns-clause-looks
returns-clause-looks g c = λ told.
    let metadata = c.args.metadata.now in
    let image = (g.D.Disk.view c.args.disk.now).image in
    let disk = over metadata image in
    let slot = c.args.slot in
    let looks = c.in_ok-look_at_anodes.ensures.looks told in
    let links_is = c.as_slice.ensures.value ∙ looks.links ∙ (λ j. c.clear.ensures.items j ++ joined (links_at disk slot) 64) in
    record {
      faults = slot_found disk slot c.args.found.now.faults.items _ _ (c.in_ok-push_slot_faults.ensures image) looks.faults;
      uses = looks.uses;
      reach = c.in_ok-push_reach_faults.ensures image links_is ∙ (λ j. looks.reach j ++ reach_faults disk slot);
      mapped = λ mapped. mapped_next disk slot _ (looks.mapped mapped);
    }
