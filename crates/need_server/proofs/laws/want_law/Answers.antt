use Rattle.need_server.proofs.Covered.{changes_are_so, wants_cover_changes}
use Rattle.need_server.proofs.WantsKept.{wants_are_kept}
use Rattle.need_server.proofs.WantsThere.{wants_are_there}
use Rattle.need_server.proofs.laws.want_law.Goals as goal

pub returns : goal.returns
returns c = record { so = changes_are_so; covers = wants_cover_changes; kept = wants_are_kept; there = wants_are_there }
