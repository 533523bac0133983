use Rattle.std.proofs.Common.{◌≡◌, ℕ, suc, ◌+◌, ◌-◌, ◌<◌, List, ◌∷◌, [], ◌++◌, length, refl, arith, add-one}
use Rattle.script_reader.specs.Walk.{rounds, pass_from, walk_of, after_pass, count_up}
use Rattle.script_lines.specs.declared.script.Line.{Line}

-- one round of those that are left
pub round_step : (most round : ℕ) (lines : List Line) (flags : List (List ℕ)) (places : List ℕ) → round < most → rounds (most - round) lines flags places ≡ after_pass (length places) (pass_from lines (walk_of flags) places) (λ walk. rounds (most - (round + 1)) lines walk.flags walk.left)
round_step most round lines flags places h =
    let e : most - round ≡ suc (most - (round + 1)) = omega arith in
    rw e refl

pub count_step : (n : ℕ) → count_up (n + 1) ≡ count_up n ++ n ∷ []
count_step n = rw add-one refl

pub ruleset steps = (round_step, count_step)
