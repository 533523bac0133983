-- That the sequence numbers suffice.
use Rattle.std.proofs.Common.{◌≡◌, ◌≤◌, ◌<◌, ℕ, ◌+◌, ◌^◌, Bool, true, false, List, [], ◌∷◌, ◌++◌, length, length-append}
use Rattle.std.proofs.Common.{Some, inl, inr, subst, sym, ap, ◌∙◌, refl, arith}
use Rattle.std.specs.Prelude.{All}
use Rattle.std.specs.List.{find, filter}
use Rattle.std.proofs.lemmas.Bool.{cases_Bool}
use Rattle.std.proofs.lemmas.List.Elements.{All-filter, All-push, All-head, All-tail, All-nil}
use Rattle.base_types.specs.declared.limits.TheConstants.{NEEDS_MAX}
use Rattle.token_manager.specs.declared.want.Want.{Want}
use Rattle.token_manager.specs.Laws.{HasRoom}

some_same : {X : Type 0} (x y : X) → Some x ≡ Some y → x ≡ y
some_same x y e = cc

-- what was found has what each element has
pub all_found : {X : Type 0} (P : X → Type 0) (q : X → Bool) (xs : List X) (x : X) → find q xs ≡ Some x → All P xs → P x
all_found P q [] x e h = cc
all_found P q (y ∷ ys) x e h =
    elim (cases_Bool (q y)) [
      | inl passes ↦ subst P (some_same y x (rw passes at e)) (All-head P y ys h)
      | inr fails ↦ all_found P q ys x (rw fails at e) (All-tail P y ys h)
    ]

-- it passes the test
pub found_passes : {X : Type 0} (q : X → Bool) (xs : List X) (x : X) → find q xs ≡ Some x → q x ≡ true
found_passes q [] x e = cc
found_passes q (y ∷ ys) x e = grind (arith, cases_Bool (q y), found_passes q ys x)

-- a filter leaves no more
fewer : {X : Type 0} (p : X → Bool) (xs : List X) → length (filter p xs) ≤ length xs
fewer p [] = omega arith
fewer p (x ∷ xs) =
    elim (cases_Bool (p x)) [
      | inl passes ↦ rw passes (omega (arith, fewer p xs))
      | inr fails ↦
          rw fails (omega (arith, fewer p xs))
    ]

-- without what was found there is less
pub shorter : {X : Type 0} (q p : X → Bool) (xs : List X) (x : X) → find q xs ≡ Some x → p x ≡ false →
    length (filter p xs) + 1 ≤ length xs
shorter q p [] x e h = cc
shorter q p (y ∷ ys) x e h =
    elim (cases_Bool (q y)) [
      | inl here ↦ rw (ap p (some_same y x (rw here at e)) ∙ h) (omega (arith, fewer p ys))
      | inr there ↦ elim (cases_Bool (p y)) [
        | inl passes ↦ rw passes (omega (arith, shorter q p ys x (rw there at e) h))
        | inr fails ↦ rw fails (omega (arith, shorter q p ys x (rw there at e) h))
      ]
    ]

-- a want is granted at once
pub room_at_once : (last asked : ℕ) (queue : List Want) (n : ℕ) → asked < 2 ^ 44 → n ≤ NEEDS_MAX →
    HasRoom last asked queue → HasRoom (last + n) (asked + 1) queue
room_at_once last asked queue n few small h = record {
  few = omega arith;
  small = h.small;
  room = omega (arith, h.room);
}

-- a want is queued
pub room_queued : (last asked : ℕ) (queue : List Want) (want : Want) → asked < 2 ^ 44 → length want.needs ≤ NEEDS_MAX →
    HasRoom last asked queue → HasRoom last (asked + 1) (queue ++ want ∷ [])
room_queued last asked queue want few small h =
    record {
      few = omega arith;
      small = All-push (λ other. length other.needs ≤ NEEDS_MAX) queue want h.small small;
      room = rw (length-append queue (want ∷ [])) (omega (arith, h.room));
    }

-- wants leave the queue
pub room_filter : (last asked : ℕ) (queue : List Want) (p : Want → Bool) → HasRoom last asked queue →
    HasRoom last asked (filter p queue)
room_filter last asked queue p h =
    record {
      few = h.few;
      small = All-filter p (λ want. length want.needs ≤ NEEDS_MAX) queue h.small;
      room = omega (arith, h.room, fewer p queue);
    }

-- a queued want is granted
pub room_later : (last asked : ℕ) (queue : List Want) (q p : Want → Bool) (want : Want) → find q queue ≡ Some want →
    p want ≡ false → HasRoom last asked queue → HasRoom (last + length want.needs) asked (filter p queue)
room_later last asked queue q p want e out h =
    record {
      few = h.few;
      small = All-filter p (λ other. length other.needs ≤ NEEDS_MAX) queue h.small;
      room = omega (
        arith,
        h.room,
        shorter q p queue want e out,
        all_found (λ other. length other.needs ≤ NEEDS_MAX) q
            queue want e h.small,
      );
    }

-- its tokens find their numbers
pub room_enough : (last asked : ℕ) (queue : List Want) (q : Want → Bool) (want : Want) → find q queue ≡ Some want →
    HasRoom last asked queue → last + length want.needs < 18446744073709551616
room_enough last asked queue q want e h =
    omega (
      arith,
      h.few,
      h.room,
      shorter q (λ other. false) queue want e refl,
      all_found (λ other. length other.needs ≤ NEEDS_MAX) q queue want e h.small,
    )

-- nothing was asked
pub room_new : HasRoom 0 0 []
room_new = record {
  few = omega arith;
  small = All-nil (λ (want : Want). length want.needs ≤ NEEDS_MAX);
  room = omega arith;
}

-- tokens and wants are gone
pub room_none : (last asked : ℕ) (queue : List Want) → HasRoom last asked queue → HasRoom 0 asked []
room_none last asked queue h =
    record {
      few = h.few;
      small = All-nil (λ (want : Want). length want.needs ≤ NEEDS_MAX);
      room = omega arith;
    }

-- the last number by another word
pub room_last : (last last' asked : ℕ) (queue : List Want) → last' ≡ last → HasRoom last asked queue →
    HasRoom last' asked queue
room_last last last' asked queue same h = subst (λ n. HasRoom n asked queue) (sym same) h
