-- A gate that is closed, so that its disk may be formatted again.
use Rattle.std.proofs.Common.{◌≡◌, ◌<◌, ◌≤◌, ◌⊎◌, ℕ, zero, suc, List, [], ◌∷◌, length, inl, inr, ⊎_elim, refl, sym, ◌∙◌, subst, arith}
use Rattle.std.specs.Prelude.{Bool, true, false, ◌==◌}
use Rattle.std.proofs.lemmas.Bool.Decides.{nat_tests}
use Rattle.std.proofs.lemmas.Grind.{same_number_lists}
use Rattle.base_types.specs.Image.{byte_at, Torn}
use Rattle.base_types.specs.View.{View}
use Rattle.base_outside.proofs.Runs.{then, weaker}
use Rattle.base_outside.specs.Runs.{LeavesOnly}
use Rattle.disk_aggregate.specs.Records.{IsLeftOfFormat}
use Rattle.disk_layout.specs.Half.{HasNoLog}
use Rattle.disk_log.proofs.Formatting.{no_log}
use Rattle.store_state.specs.declared.state.StoreState.{StoreState}

-- bytes that differ from others at most in the first one, which is the same, are the same
same_bytes : (image c : List ℕ) → Torn 0 1 image c → byte_at image 0 ≡ 1 → byte_at c 0 ≡ 1 → c ≡ image
same_bytes [] c torn opened still = absurd (omega (arith, opened))
same_bytes (x ∷ xs) c torn opened still = same_number_lists c (x ∷ xs) (omega (arith, torn.no_shorter, torn.no_longer)) each
  where
    each : (k : ℕ) → k < length c → byte_at c k ≡ byte_at (x ∷ xs) k
    each zero low = still ∙ sym opened
    each (suc k) low = torn.after (suc k) (omega arith)

-- where an open gate alone is written, a crash leaves what it could have left before, or no log
pub gate_leaves : (old new : View) → old.may_leave old.image → byte_at old.image 0 ≡ 1 → LeavesOnly (Torn 0 1 old.image) old new → LeavesOnly (HasNoLog 0) old new
gate_leaves old new reads opened run = record {
  later = run.later;
  each = λ t c le left. ⊎_elim (λ earlier. inl earlier) (λ torn. by t c le torn (byte_at c 0 == 1) refl) (run.each t c le left);
}
  where
    by : (t : ℕ) (c : List ℕ) → t ≤ old.moment → Torn 0 1 old.image c → (b : Bool) → (byte_at c 0 == 1) ≡ b → old.left_since t c ⊎ HasNoLog 0 c
    by t c le torn true is = inl (old.counts_now t c le (subst old.may_leave (sym (same_bytes old.image c torn opened (grind (arith, nat_tests, is)))) reads))
    by t c le torn false is = inr (no_log c (λ e. absurd (grind (arith, nat_tests, is, e))))

-- and what is left of a format behind it is what is left of both
pub shut_then : (state : StoreState) (old mid new : View) → LeavesOnly (HasNoLog 0) old mid → LeavesOnly (IsLeftOfFormat state) mid new → LeavesOnly (IsLeftOfFormat state) old new
shut_then state old mid new first second = then (weaker first (λ c none. inl none)) second
