-- The pages of a class that come into a log.
use Rattle.std.proofs.Common.{◌≡◌, ◌≢◌, ◌<◌, ◌≤◌, ◌⊎◌, ◌∙◌, ℕ, ◌+◌, List, [], ◌∷◌, ◌++◌, length, get_or, take, refl, sym, ap, subst, inl, inr, arith, Option, Some, None}
use Rattle.std.specs.Prelude.{Bool, true, false, ◌==◌, if◌then◌else◌, Contains}
use Rattle.std.proofs.lemmas.Bool.{cases_eq, cases_lt}
use Rattle.std.proofs.lemmas.List.{take_more, take_all, get_or-take, get_or_past, length-take}
use Rattle.std.proofs.lemmas.List.Elements.{Contains-append_left, Contains-push, Contains-push_cases}
use Rattle.std.proofs.lemmas.List.Sums.{sum_by_more}
use Rattle.base_types.specs.View.{View}
use Rattle.base_types.specs.Crash.{IsQuiet}
use Rattle.disk_layout.specs.declared.half.Half.{Half}
use Rattle.disk_log.specs.Contents.{contents_of, Keeps}
use Rattle.disk_log.specs.Log.{disk_of, state_of}
use Rattle.disk_log.specs.declared.log.Log.{Log}
use Rattle.disk_classes.specs.Commit.{KeepsStages}
use Rattle.disk_classes.specs.Notes.{vacant, noted_at, class_of, pages_by, pages_in_class, IsPutIn}
use Rattle.disk_classes.specs.declared.member.Noted.{Noted as Kept}
use Rattle.disk_classes.specs.declared.members.Value.{Value}
use Rattle.disk_classes.proofs.Lists.{test_same, test_other, contains_nil}

pub keeps_none : {D : Type 0} (tells : Type 0) (view : D → View) (log : Log D) → KeepsStages tells view 0 log log
keeps_none tells view log = record { superblock = refl; half = refl; counted = omega arith; last = omega arith; stages = λ told k p le lt. refl }

pub keeps_of : {D : Type 0} (tells : Type 0) (view : D → View) (n : ℕ) (old new : Log D) → Keeps tells view n old new → KeepsStages tells view n old new
keeps_of tells view n old new keeps = record { superblock = keeps.superblock; half = keeps.half; counted = keeps.counted; last = keeps.last; stages = keeps.stages }

pub keeps_then : {D : Type 0} (tells : Type 0) (view : D → View) (m n : ℕ) (old mid new : Log D) → KeepsStages tells view m old mid → KeepsStages tells view n mid new → KeepsStages tells view (m + n) old new
keeps_then tells view m n old mid new first second = record {
  superblock = second.superblock ∙ first.superblock;
  half = second.half ∙ first.half;
  counted = (let a = first.counted in let b = second.counted in omega (arith, a, b));
  last = (let a = first.last in let b = second.last in omega (arith, a, b));
  stages = λ told k p le lt.
      (let a = first.last in
      let same : (state_of mid).half.pages ≡ (state_of old).half.pages = ap (λ (h : Half). h.pages) first.half in
      second.stages told k p (omega (arith, le, a)) (omega (arith, lt, same)) ∙ first.stages told k p le lt);
}

-- the same state over the same bytes
pub contents_same : {D : Type 0} (view : D → View) (old new : Log D) → state_of new ≡ state_of old → IsQuiet (view (disk_of old)) (view (disk_of new)) → contents_of view new ≡ contents_of view old
contents_same view old new same quiet = λ j. record { state = same j; image = quiet.image j }

-- one more page of a list
module _ (pages : List ℕ) (i : ℕ) (values : List (Option Value)) (before now after : ℕ → List ℕ) (lt : i < length pages) (value : Value) (is : get_or values (get_or pages i 0) None ≡ Some value)
    (put : (p : ℕ) → after p ≡ (if get_or pages i 0 == p then value.bytes else now p)) where
  after_here : (p : ℕ) → get_or pages i 0 ≡ p → after p ≡ value.bytes
  after_here p e = put p ∙ by (get_or pages i 0 == p) refl
    where
      by : (b : Bool) → (get_or pages i 0 == p) ≡ b → (if b then value.bytes else now p) ≡ value.bytes
      by true f = refl
      by false f = absurd (test_other (get_or pages i 0) p f e)

  after_other : (p : ℕ) → get_or pages i 0 ≢ p → after p ≡ now p
  after_other p ne = put p ∙ by (get_or pages i 0 == p) refl
    where
      by : (b : Bool) → (get_or pages i 0 == p) ≡ b → (if b then value.bytes else now p) ≡ now p
      by true f = absurd (ne (test_same (get_or pages i 0) p f))
      by false f = refl

  pub put_more : ((p : ℕ) (v : Value) → Contains (take i pages) p → get_or values p None ≡ Some v → now p ≡ v.bytes)
      → (p : ℕ) (v : Value) → Contains (take (i + 1) pages) p → get_or values p None ≡ Some v → after p ≡ v.bytes
  put_more so_far p v h of = by (Contains-push_cases (take i pages) (get_or pages i 0) p (subst (λ (l : List ℕ). Contains l p) (take_more pages i 0 lt) h)) (cases_eq (get_or pages i 0) p)
    where
      same : get_or pages i 0 ≡ p → value.bytes ≡ v.bytes
      same e = let f : Some value ≡ Some v = sym is ∙ ap (λ (q : ℕ). get_or values q None) e ∙ of in cc

      by : Contains (take i pages) p ⊎ (get_or pages i 0 ≡ p) → (get_or pages i 0 ≡ p) ⊎ (get_or pages i 0 ≡ p → ⊥) → after p ≡ v.bytes
      by any (inl e) = after_here p e ∙ same e
      by (inl earlier) (inr ne) = after_other p ne ∙ so_far p v earlier of
      by (inr e) (inr ne) = absurd (ne e)

  pub kept_more : ((p : ℕ) → (Contains (take i pages) p → ⊥) → now p ≡ before p) → (p : ℕ) → (Contains (take (i + 1) pages) p → ⊥) → after p ≡ before p
  kept_more so_far p out =
      let all = take_more pages i 0 lt in
      after_other p (λ e. out (subst (λ (l : List ℕ). Contains l p) (sym all) (subst (λ (q : ℕ). Contains (take i pages ++ get_or pages i 0 ∷ []) q) e (Contains-push (take i pages) (get_or pages i 0)))))
      ∙ so_far p (λ h. out (subst (λ (l : List ℕ). Contains l p) (sym all) (Contains-append_left (take i pages) (get_or pages i 0 ∷ []) p h)))

-- one more member of a list
take_at : (ms : List Kept) (i m : ℕ) → m < i → noted_at (take i ms) m ≡ noted_at ms m
take_at ms i m lt = get_or-take i ms m (vacant m) lt

take_past : (ms : List Kept) (i m : ℕ) → i ≤ m → noted_at (take i ms) m ≡ vacant m
take_past ms i m le = get_or_past (take i ms) m (vacant m) (let e = length-take i ms in omega (arith, e, le))

pub first_put : (ms : List Kept) (class i p : ℕ) → IsPutIn class (take i ms) p → (m : ℕ) × (m < i) × (class_of ms m ≡ class) × Contains (noted_at ms m).pages p
first_put ms class i p (m, of, has) = by (cases_lt m i)
  where
    by : (m < i) ⊎ (i ≤ m) → (m : ℕ) × (m < i) × (class_of ms m ≡ class) × Contains (noted_at ms m).pages p
    by (inl lt) = (m, lt, sym (ap (λ (n : Kept). n.class) (take_at ms i m lt)) ∙ of, subst (λ (n : Kept). Contains n.pages p) (take_at ms i m lt) has)
    by (inr le) = absurd (contains_nil p (subst (λ (n : Kept). Contains n.pages p) (take_past ms i m le) has))

pub put_first : (ms : List Kept) (class i p m : ℕ) → m < i → class_of ms m ≡ class → Contains (noted_at ms m).pages p → IsPutIn class (take i ms) p
put_first ms class i p m lt of has =
    (m, ap (λ (n : Kept). n.class) (take_at ms i m lt) ∙ of, subst (λ (n : Kept). Contains n.pages p) (sym (take_at ms i m lt)) has)

pub put_cases : (ms : List Kept) (class i p : ℕ) → IsPutIn class (take (i + 1) ms) p → IsPutIn class (take i ms) p ⊎ ((class_of ms i ≡ class) × Contains (noted_at ms i).pages p)
put_cases ms class i p h =
    let one = first_put ms class (i + 1) p h in
    by one.0 one.1 one.2 one.3 (cases_eq one.0 i)
  where
    by : (m : ℕ) → m < i + 1 → class_of ms m ≡ class → Contains (noted_at ms m).pages p → (m ≡ i) ⊎ (m ≡ i → ⊥) → IsPutIn class (take i ms) p ⊎ ((class_of ms i ≡ class) × Contains (noted_at ms i).pages p)
    by m lt of has (inl e) = inr (subst (λ (k : ℕ). class_of ms k ≡ class) e of, subst (λ (k : ℕ). Contains (noted_at ms k).pages p) e has)
    by m lt of has (inr ne) = inl (put_first ms class i p m (omega (arith, lt, ne)) of has)

pub put_later : (ms : List Kept) (class i p : ℕ) → IsPutIn class (take i ms) p → IsPutIn class (take (i + 1) ms) p
put_later ms class i p h = let one = first_put ms class i p h in let lt = one.1 in put_first ms class (i + 1) p one.0 (omega (arith, lt)) one.2 one.3

pub put_here : (ms : List Kept) (class i p : ℕ) → class_of ms i ≡ class → Contains (noted_at ms i).pages p → IsPutIn class (take (i + 1) ms) p
put_here ms class i p of has = put_first ms class (i + 1) p i (omega arith) of has

-- at the end of the list
pub put_whole : (ms : List Kept) (class i p : ℕ) → length ms ≤ i → IsPutIn class ms p → IsPutIn class (take i ms) p
put_whole ms class i p le h = subst (λ (l : List Kept). IsPutIn class l p) (sym (take_all i ms le)) h

-- how many pages they noted
pub pages_here : (ms : List Kept) (class i : ℕ) → i < length ms → class_of ms i ≡ class → pages_in_class class (take (i + 1) ms) ≡ pages_in_class class (take i ms) + length (noted_at ms i).pages
pages_here ms class i lt of =
    let e = sum_by_more (pages_by class) ms i (vacant i) lt in
    let f : pages_by class (noted_at ms i) ≡ length (noted_at ms i).pages = by (class_of ms i == class) refl in
    omega (arith, e, f)
  where
    by : (b : Bool) → (class_of ms i == class) ≡ b → (if b then length (noted_at ms i).pages else 0) ≡ length (noted_at ms i).pages
    by true g = refl
    by false g = absurd (test_other (class_of ms i) class g of)

pub pages_other : (ms : List Kept) (class i : ℕ) → i < length ms → class_of ms i ≢ class → pages_in_class class (take (i + 1) ms) ≡ pages_in_class class (take i ms)
pages_other ms class i lt other =
    let e = sum_by_more (pages_by class) ms i (vacant i) lt in
    let f : pages_by class (noted_at ms i) ≡ 0 = by (class_of ms i == class) refl in
    omega (arith, e, f)
  where
    by : (b : Bool) → (class_of ms i == class) ≡ b → (if b then length (noted_at ms i).pages else 0) ≡ 0
    by true g = absurd (other (test_same (class_of ms i) class g))
    by false g = refl
