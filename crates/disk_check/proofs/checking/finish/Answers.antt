use Rattle.std.proofs.Common.{◌∙◌, ◌++◌}
use Rattle.disk_image.specs.Joined.{joined}
use Rattle.disk_image.specs.Anodes.{unless}
use Rattle.disk_image.specs.Counts.{count_fault}
use Rattle.disk_image.specs.declared.fault.Rule.TheVariants as rules
use Rattle.disk_judge.specs.Metadata.{over}
use Rattle.disk_check.proofs.Looking.{same_promises}
use Rattle.disk_check.proofs.checking.finish.Goals as goal

pub returns : goal.returns
returns c = λ image are.
    let metadata = c.args.metadata.now in
    let disk = over metadata image in
    let kept = c.are_kept.ensures ∙ same_promises metadata image in
    let reach = c.in_ok-extend_from_slice.ensures.items ∙ (λ j. c.args.found.faults.items ++ c.as_slice.ensures.value j) in
    let counts = c.in_ok-push_count_faults.ensures disk c.requires.size are ∙ (λ j. reach j ++ joined (count_fault disk) (c.requires.size j)) in
    c.in_ok-push_unless.ensures ∙ (λ j. counts j ++ unless (kept j) 0 rules.Promises)
