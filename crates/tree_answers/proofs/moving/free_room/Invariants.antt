use Rattle.std.proofs.Common.{◌≡◌, false, if◌then◌else◌}
use Rattle.tree_answers.specs.Away.{is_away}
use Rattle.tree_answers.proofs.Mapped.{mapped_first}
use Rattle.tree_answers.proofs.moving.free_room.Given as goal

-- those so far keep no more room for the fileset
abbrev pub invariant-loop-place : goal.invariant-loop-place
invariant-loop-place l = l.records ≡ mapped_first (λ away. if is_away l.server l.id away then record away { room_kept = false } else away) l.place l.fn.records
