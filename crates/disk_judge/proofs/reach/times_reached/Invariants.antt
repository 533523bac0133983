use Rattle.std.proofs.Common.{◌≡◌, ◌≤◌, take}
use Rattle.std.specs.Prelude.{count_by, ◌==◌, ◌&&◌}
use Rattle.disk_image.specs.Reach.{is_reached}
use Rattle.disk_image.specs.declared.found.Link.{Link}
use Rattle.disk_judge.proofs.reach.times_reached.Given as goal

abbrev pub invariant-loop-link : goal.invariant-loop-link
invariant-loop-link l = record {
  times : l.times ≡ count_by (λ (link : Link). (link.to == l.fn.anode) && is_reached l.links link.from) (take l.link-index l.links);
  few : l.times ≤ l.link-index;
}
