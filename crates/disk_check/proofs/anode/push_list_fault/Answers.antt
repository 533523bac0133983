use Rattle.std.proofs.Common.{◌∙◌, ◌++◌, ap}
use Rattle.std.specs.Prelude.{is_some}
use Rattle.disk_image.specs.Anodes.{unless_block}
use Rattle.disk_image.specs.declared.fault.Rule.TheVariants as rules
use Rattle.disk_judge.specs.Metadata.{over}
use Rattle.disk_check.proofs.anode.push_list_fault.Goals as goal

pub returns : goal.returns
returns c = λ image.
    c.in_ok-push_unless_block.ensures image
    ∙ (λ j. c.args.faults.now.items ++ unless_block (over c.args.metadata.now image) c.args.pointer ((c.is_some-is_list.ensures ∙ ap (λ o. is_some o) c.in_ok-list.ensures) j) rules.ListBlock)
