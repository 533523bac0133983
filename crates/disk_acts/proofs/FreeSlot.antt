-- A free slot has nothing.
use Rattle.std.proofs.Common.{◌≡◌, ◌≤◌, suc, ◌+◌, List, [], ◌∷◌, length, refl, ◌∙◌, ap, arith, inl, inr, nat_lt, cond, Option, Some, None}
use Rattle.std.specs.Prelude.{true, false, not, is_none, unwrap_or}
use Rattle.std.specs.List.{position_or_len}
use Rattle.std.proofs.lemmas.Bool.Decides.{leb_tells}
use Rattle.std.proofs.lemmas.Grind.{common_steps}
use Rattle.std.proofs.lemmas.List.Sums.{prefix_len-le-length}
use Rattle.store_state.specs.Founding.{free_slot}
use Rattle.store_state.specs.State.{held_at}
use Rattle.store_state.specs.declared.state.Holding.{Holding}

free_first : (slots : List (Option Holding)) → free_slot slots ≡ position_or_len is_none slots
free_first slots = by (prefix_len-le-length (λ slot. not (is_none slot)) slots)
  where
    by : position_or_len is_none slots ≤ length slots → free_slot slots ≡ position_or_len is_none slots
    by h = elim (leb_tells (suc (position_or_len is_none slots)) (length slots)) as
        (λ _. unwrap_or (cond (nat_lt (position_or_len is_none slots) (length slots)) (Some (position_or_len is_none slots)) None) (length slots) ≡ position_or_len is_none slots) [
          | inl (e, k) ↦ (let l : nat_lt (position_or_len is_none slots) (length slots) ≡ true = grind (arith, common_steps, k) in rw l refl)
          | inr (e, k) ↦ (let l : nat_lt (position_or_len is_none slots) (length slots) ≡ false = grind (arith, common_steps, k) in rw l (omega (arith, h, k)))
        ]

first_none : (slots : List (Option Holding)) → held_at slots (position_or_len is_none slots) ≡ None
first_none [] = refl
first_none (None ∷ slots) = refl
first_none (Some holding ∷ slots) =
    let n : 1 + position_or_len is_none slots ≡ suc (position_or_len is_none slots) = omega arith in
    ap (held_at (Some holding ∷ slots)) n ∙ first_none slots

pub free_none : (slots : List (Option Holding)) → held_at slots (free_slot slots) ≡ None
free_none slots = ap (held_at slots) (free_first slots) ∙ first_none slots
