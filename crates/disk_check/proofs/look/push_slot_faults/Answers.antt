use Rattle.std.proofs.Common.{◌∙◌, ◌++◌}
use Rattle.disk_image.specs.Anodes.{unless}
use Rattle.disk_image.specs.declared.fault.Rule.TheVariants as rules
use Rattle.disk_judge.proofs.Plain.{same_header, same_numbers}
use Rattle.disk_check.proofs.look.push_slot_faults.Goals as goal

pub returns : goal.returns
returns c = λ image.
    let metadata = c.args.metadata.now in
    let header = c.is_slot_header-is_header.ensures ∙ same_header metadata image c.args.slot in
    let numbers = c.is_slot_numbers-are_numbers.ensures ∙ same_numbers metadata image c.args.slot in
    c.in_ok-push_unless-2.ensures
    ∙ (λ j. (c.in_ok-push_unless.ensures ∙ (λ k. c.args.faults.now.items ++ unless (header k) (c.page_place-place.ensures k) rules.SlotHeader)) j
    ++ unless (numbers j) (c.page_place-next.ensures j) rules.CallNumbers)
