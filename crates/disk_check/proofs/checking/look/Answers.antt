use Rattle.std.proofs.Common.{◌∙◌, ◌++◌}
use Rattle.disk_image.specs.Joined.{joined}
use Rattle.disk_image.specs.Counts.{uses_at}
use Rattle.disk_image.specs.Faults.{slot_faults}
use Rattle.disk_image.specs.Reach.{reach_faults}
use Rattle.disk_judge.specs.Metadata.{over}
use Rattle.disk_check.specs.Found.{server_faults}
use Rattle.disk_check.proofs.Looking.{mapped_none}
use Rattle.disk_check.proofs.checking.look.Goals as goal

pub returns-clause-found : goal.returns-clause-found
returns-clause-found g c = λ told.
    let image = (g.D.Disk.view c.args.disk.now).image in
    let disk = over c.args.metadata.now image in
    let until = c.in_ok-look_at_slots.ensures.looks told in
    let start = c.in_ok-found.ensures in
    record {
      slots = until.slots;
      few = until.few;
      faults = until.looks.faults
          ∙ (λ j. (c.in_ok-push_server_faults.ensures image ∙ (λ k. start.faults k ++ server_faults disk)) j ++ joined (slot_faults disk) until.slots);
      uses = until.looks.uses (mapped_none disk _ start.mapped) ∙ (λ j. start.uses j ++ joined (λ slot. joined (uses_at disk slot) 64) until.slots);
      reach = until.looks.reach ∙ (λ j. start.reach j ++ joined (reach_faults disk) until.slots);
      all = until.all;
    }
