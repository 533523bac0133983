-- How many labels there are at most.
use Rattle.std.proofs.Common.{Bool, List, None, Option, Some, arith, cond, filter, length, true, false, ◌≤◌}
use Rattle.std.specs.Bool.{beq}
use Rattle.std.proofs.lemmas.List.Sums.{count_by-le-length, length-filter}
use Rattle.host_labels.specs.Labels.{is_lock}
use Rattle.host_leaves.specs.Owning.{ending_count}
use Rattle.run_rules.specs.declared.step.Labelled.{Labelled}

pub ending_low : (lock : Bool) (ending : Option Labelled) → ending_count lock ending ≤ 1
ending_low lock None = omega arith
ending_low lock (Some used) = by_test (beq (is_lock used.token.kind) lock)
  where
    by_test : (b : Bool) → cond b 1 0 ≤ 1
    by_test true = omega arith
    by_test false = omega arith

pub filter_low : {A : Type 0} (q : A → Bool) (xs : List A) → length (filter q xs) ≤ length xs
filter_low q xs = omega (arith, length-filter q xs, count_by-le-length q xs)
