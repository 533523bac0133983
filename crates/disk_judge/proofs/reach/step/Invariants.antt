use Rattle.std.proofs.Common.{◌≡◌, ◌<◌, ℕ, ◌+◌, ◌-◌, take, get_or}
use Rattle.std.specs.Prelude.{◌==◌, ◌&&◌, ◌||◌, false}
use Rattle.std.specs.List.{list_any}
use Rattle.disk_image.specs.declared.found.Link.{Link}
use Rattle.disk_judge.proofs.reach.step.Given as goal

abbrev pub invariant-loop-link : goal.invariant-loop-link
invariant-loop-link l =
    (i : ℕ) → i < 64
    → get_or l.reached i false ≡ (get_or l.initial.reached i false || list_any (λ (link : Link). (link.to == i + 1) && get_or l.initial.reached (link.from - 1) false) (take l.link-index l.links))
