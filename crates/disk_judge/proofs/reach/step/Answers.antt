use Rattle.std.proofs.Common.{◌∙◌, ◌+◌, ◌-◌, ◌==◌, ◌&&◌, ◌||◌, get_or, false, arith}
use Rattle.std.specs.List.{list_any}
use Rattle.std.proofs.lemmas.List.{take_all}
use Rattle.disk_image.specs.declared.found.Link.{Link}
use Rattle.disk_judge.proofs.Reaching.{step_more}
use Rattle.disk_judge.proofs.reach.step.Goals as goal

pub returns : goal.returns
returns c = λ n within.
    let links = c.args.links.now in
    let before = c.args.reached.now in
    step_more links n before _ c.requires within
    (λ i lt. c.loop-link.invariant i lt ∙ (λ j. get_or before i false || list_any (λ (link : Link). (link.to == i + 1) && get_or before (link.from - 1) false) (take_all c.loop-link.link-index links (omega arith) j)))
