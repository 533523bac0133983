-- What a crash may leave at least.
use Rattle.std.specs.Prelude.{ℕ, List}
use Rattle.base_types.specs.Image.{Torn}
use Rattle.base_types.specs.View.{View}

-- a crash may leave any bytes in a range of whatever it could leave before
abbrev pub MayTear : ℕ → ℕ → View → View → Type 0
MayTear at len old new = (c d : List ℕ) → old.may_leave d → Torn at len d c → new.may_leave c

-- a crash may leave whatever it could leave before: nothing became durable
abbrev pub MayLeaveStill : View → View → Type 0
MayLeaveStill old new = (c : List ℕ) → old.may_leave c → new.may_leave c
