use Rattle.std.proofs.Common.{refl, ◌∙◌, ◌++◌, arith}
use Rattle.disk_image.specs.Anodes.{list_fault}
use Rattle.disk_image.proofs.Joined.{pushed_none, pushed_more}
use Rattle.disk_judge.specs.Metadata.{over}
use Rattle.disk_check.proofs.Read.{front, list_is}
use Rattle.disk_check.proofs.anode.push_list_faults.Goals as goal

pub returns : goal.returns
returns c = λ image slot i page_is are.
    let disk = over c.args.metadata.now image in
    let start = c.args.faults.now.items in
    let part = list_fault disk slot i in
    let page = c.args.page.now in
    let one = pushed_more part 0 1 start start _ refl (pushed_none part start)
    (c.in_ok-push_list_fault.ensures image ∙ (λ j. start ++ list_is disk slot i 0 _ _ (c.page_pointer.ensures ∙ front disk slot i 0 page page_is (omega arith)) are.own j)) in
    let two = pushed_more part 1 2 start _ _ refl one
    (c.in_ok-push_list_fault-2.ensures image ∙ (λ j. c.push_list_fault.new.faults.items ++ list_is disk slot i 1 _ _ (c.page_pointer-2.ensures ∙ front disk slot i 1 page page_is (omega arith)) are.files j)) in
    pushed_more part 2 3 start _ _ refl two
    (c.in_ok-push_list_fault-3.ensures image ∙ (λ j. c.push_list_fault-2.new.faults.items ++ list_is disk slot i 2 _ _ (c.page_pointer-3.ensures ∙ front disk slot i 2 page page_is (omega arith)) are.dirs j))
