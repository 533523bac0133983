-- The numbers of a class become vacant, one after the other.
use Rattle.std.proofs.Common.{◌≡◌, ◌≢◌, ◌<◌, ◌≤◌, ◌⊎◌, ◌∙◌, ℕ, ◌+◌, List, length, get_or, set, length-set, sym, ap, subst, inl, inr, arith, Option, None}
use Rattle.std.specs.Prelude.{Contains}
use Rattle.std.proofs.lemmas.Bool.{cases_eq, cases_lt}
use Rattle.disk_classes.specs.Notes.{vacant, noted_at, class_of, vacated, cleared, IsPutIn}
use Rattle.disk_classes.specs.declared.member.Noted.{Noted as Kept}
use Rattle.disk_classes.specs.declared.members.Value.{Value}
use Rattle.disk_classes.proofs.Lists.{contains_nil}
use Rattle.disk_classes.proofs.Noted.{noted_set, noted_other, noted_past, vacated_in, vacated_out, length_vacated, cleared_in, cleared_none, cleared_out, noted_ext}

-- the numbers below x are vacant, if they are of the class
pub record Vacates (class : ℕ) (old : List Kept) (before : List (Option Value)) (x : ℕ) (now : List Kept) (values : List (Option Value)) : Type 0 where
  pub size : length now ≡ length old
  pub past : (m : ℕ) → m < x → noted_at now m ≡ noted_at (vacated class 0 old) m
  pub ahead : (m : ℕ) → x ≤ m → noted_at now m ≡ noted_at old m
  pub put : (m p : ℕ) → m < x → class_of old m ≡ class → Contains (noted_at old m).pages p → get_or values p None ≡ None
  pub kept : (p : ℕ) → ((m : ℕ) → m < x → class_of old m ≡ class → Contains (noted_at old m).pages p → ⊥) → get_or values p None ≡ get_or before p None

module _ (class : ℕ) (old : List Kept) (before : List (Option Value)) (x : ℕ) (now : List Kept) (values : List (Option Value)) where
  module _ (next : List Kept) (after : List (Option Value)) (lt : x < length old) (so_far : Vacates class old before x now values)
      (gone : class_of now x ≡ class → (next ≡ set now x (vacant x)) × (after ≡ cleared (noted_at now x).pages values))
      (stays : class_of now x ≢ class → (next ≡ now) × (after ≡ values)) where
    here : noted_at now x ≡ noted_at old x
    here = so_far.ahead x (omega arith)

    class_here : class_of now x ≡ class_of old x
    class_here = ap (λ (n : Kept). n.class) here

    below_or : (m : ℕ) → m < x + 1 → (m ≡ x) ⊎ (m ≡ x → ⊥) → (m < x) ⊎ (m ≡ x)
    below_or m le (inl e) = inr e
    below_or m le (inr ne) = inl (omega (arith, le, ne))

    -- it is of the class
    module _ (is : class_of now x ≡ class) where
      in_next : noted_at next x ≡ vacant x
      in_next = ap (λ (l : List Kept). noted_at l x) ((gone is).0) ∙ noted_set now x (vacant x) (let e = so_far.size in omega (arith, e, lt))

      next_other : (m : ℕ) → m ≢ x → noted_at next m ≡ noted_at now m
      next_other m ne = ap (λ (l : List Kept). noted_at l m) ((gone is).0) ∙ noted_other now x (vacant x) m ne

      past_in : (m : ℕ) → (m < x) ⊎ (m ≡ x) → noted_at next m ≡ noted_at (vacated class 0 old) m
      past_in m (inl less) = next_other m (λ e. absurd (omega (arith, e, less))) ∙ so_far.past m less
      past_in m (inr e) = subst (λ (k : ℕ). noted_at next k ≡ noted_at (vacated class 0 old) k) (sym e) (in_next ∙ sym (vacated_in class x old (sym class_here ∙ is)))

      values_at : (p : ℕ) → get_or after p None ≡ get_or (cleared (noted_at now x).pages values) p None
      values_at p = ap (λ (l : List (Option Value)). get_or l p None) ((gone is).1)

      put_in : (m p : ℕ) → (m < x) ⊎ (m ≡ x) → class_of old m ≡ class → Contains (noted_at old m).pages p → get_or after p None ≡ None
      put_in m p (inl less) of has = values_at p ∙ cleared_none (noted_at now x).pages values p (so_far.put m p less of has)
      put_in m p (inr e) of has =
          values_at p ∙ cleared_in (noted_at now x).pages values p (subst (λ (n : Kept). Contains n.pages p) (sym here) (subst (λ (k : ℕ). Contains (noted_at old k).pages p) e has))

      kept_in : (p : ℕ) → ((m : ℕ) → m < x + 1 → class_of old m ≡ class → Contains (noted_at old m).pages p → ⊥) → get_or after p None ≡ get_or before p None
      kept_in p out =
          values_at p
          ∙ cleared_out (noted_at now x).pages values p (λ has. out x (omega arith) (sym class_here ∙ is) (subst (λ (n : Kept). Contains n.pages p) here has))
          ∙ so_far.kept p (λ m less of has. out m (omega (arith, less)) of has)

      vacates_in : Vacates class old before (x + 1) next after
      vacates_in = record {
        size = ap length ((gone is).0) ∙ length-set now x (vacant x) ∙ so_far.size;
        past = λ m le. past_in m (below_or m le (cases_eq m x));
        ahead = λ m le. next_other m (λ e. absurd (omega (arith, e, le))) ∙ so_far.ahead m (omega (arith, le));
        put = λ m p le of has. put_in m p (below_or m le (cases_eq m x)) of has;
        kept = kept_in;
      }

    -- it is of another
    module _ (other : class_of now x ≢ class) where
      old_other : class_of old x ≢ class
      old_other e = other (class_here ∙ e)

      same_next : (m : ℕ) → noted_at next m ≡ noted_at now m
      same_next m = ap (λ (l : List Kept). noted_at l m) ((stays other).0)

      same_values : (p : ℕ) → get_or after p None ≡ get_or values p None
      same_values p = ap (λ (l : List (Option Value)). get_or l p None) ((stays other).1)

      past_out : (m : ℕ) → (m < x) ⊎ (m ≡ x) → noted_at next m ≡ noted_at (vacated class 0 old) m
      past_out m (inl less) = same_next m ∙ so_far.past m less
      past_out m (inr e) = subst (λ (k : ℕ). noted_at next k ≡ noted_at (vacated class 0 old) k) (sym e) (same_next x ∙ here ∙ sym (vacated_out class x old old_other))

      put_out : (m p : ℕ) → (m < x) ⊎ (m ≡ x) → class_of old m ≡ class → Contains (noted_at old m).pages p → get_or after p None ≡ None
      put_out m p (inl less) of has = same_values p ∙ so_far.put m p less of has
      put_out m p (inr e) of has = absurd (old_other (subst (λ (k : ℕ). class_of old k ≡ class) e of))

      vacates_out : Vacates class old before (x + 1) next after
      vacates_out = record {
        size = ap length ((stays other).0) ∙ so_far.size;
        past = λ m le. past_out m (below_or m le (cases_eq m x));
        ahead = λ m le. same_next m ∙ so_far.ahead m (omega (arith, le));
        put = λ m p le of has. put_out m p (below_or m le (cases_eq m x)) of has;
        kept = λ p out. same_values p ∙ so_far.kept p (λ m less of has. out m (omega (arith, less)) of has);
      }

    pub vacate_more : Vacates class old before (x + 1) next after
    vacate_more = by (cases_eq (class_of now x) class)
      where
        by : (class_of now x ≡ class) ⊎ (class_of now x ≡ class → ⊥) → Vacates class old before (x + 1) next after
        by (inl is) = vacates_in is
        by (inr other) = vacates_out other

  pub vacated_all : length old ≤ x → Vacates class old before x now values → now ≡ vacated class 0 old
  vacated_all le so_far =
      noted_ext now (vacated class 0 old) (so_far.size ∙ sym (length_vacated class 0 old)) (λ m lt. so_far.past m (let e = so_far.size in omega (arith, lt, e, le)))

  pub vacated_put : length old ≤ x → Vacates class old before x now values → (p : ℕ) → IsPutIn class old p → get_or values p None ≡ None
  vacated_put le so_far p (m, of, has) = by (cases_lt m x)
    where
      by : (m < x) ⊎ (x ≤ m) → get_or values p None ≡ None
      by (inl lt) = so_far.put m p lt of has
      by (inr past) = absurd (contains_nil p (subst (λ (n : Kept). Contains n.pages p) (noted_past old m (omega (arith, le, past))) has))

  pub vacated_kept : Vacates class old before x now values → (p : ℕ) → (IsPutIn class old p → ⊥) → get_or values p None ≡ get_or before p None
  vacated_kept so_far p out = so_far.kept p (λ m lt of has. out (m, of, has))
