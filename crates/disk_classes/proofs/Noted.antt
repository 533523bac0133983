-- What is kept under a number, after changes.
use Rattle.std.proofs.Common.{◌≡◌, ◌≢◌, ◌<◌, ◌≤◌, ◌⊎◌, ℕ, zero, suc, ◌+◌, List, [], ◌∷◌, ◌++◌, length, refl, sym, ◌∙◌, ap, subst, inl, inr, arith, get_or, set, length-set, Option, Some, None}
use Rattle.std.specs.Prelude.{Bool, true, false, ◌==◌, if◌then◌else◌, Contains, slice_get}
use Rattle.std.proofs.lemmas.Option.{slice_get_cases}
use Rattle.std.proofs.lemmas.Bool.{cases_eq, cases_lt}
use Rattle.std.proofs.lemmas.List.{get_or_past, get_or-set_same, get_or-set_other, set_past, get_or_read, get_or_default, same_lists}
use Rattle.disk_classes.specs.Notes.{vacant, noted_at, note_of, class_of, joined_at, renumbered, vacated, cleared, Joins}
use Rattle.disk_classes.specs.declared.member.Noted.{Noted as Kept}
use Rattle.disk_classes.specs.declared.members.Value.{Value}
use Rattle.disk_classes.specs.declared.member.Standing.{Standing}
use Rattle.disk_classes.specs.declared.member.Standing.TheVariants.{Vacant, Open, Ended}
use Rattle.disk_classes.proofs.Lists.{test_same, test_other, contains_head, contains_tail, contains_nil, contains_cons, contains_or_not}

pub noted_set : (ms : List Kept) (x : ℕ) (v : Kept) → x < length ms → noted_at (set ms x v) x ≡ v
noted_set ms x v lt = get_or-set_same ms x v (vacant x) lt

pub noted_other : (ms : List Kept) (x : ℕ) (v : Kept) (m : ℕ) → m ≢ x → noted_at (set ms x v) m ≡ noted_at ms m
noted_other ms x v m ne = get_or-set_other ms x m v (vacant m) ne

pub noted_past : (ms : List Kept) (m : ℕ) → length ms ≤ m → noted_at ms m ≡ vacant m
noted_past ms m le = get_or_past ms m (vacant m) le

none_some : {X : Type 0} (x : X) → None ≡ Some x → ⊥
none_some x e = absurd (cc)

pub none_past : {X : Type 0} (xs : List X) (i : ℕ) → None ≡ slice_get xs i → length xs ≤ i
none_past {X} xs i none = by ((slice_get_cases xs i).1)
  where
    by : ((x : X) × (i < length xs) × (slice_get xs i ≡ Some x) × (get_or xs i x ≡ x)) ⊎ ((length xs ≤ i) × (slice_get xs i ≡ None)) → length xs ≤ i
    by (inl (x, lt, is, same)) = absurd (none_some x (none ∙ is))
    by (inr (le, is)) = le

pub past_vacant : (ms : List Kept) (m : ℕ) → None ≡ slice_get ms m → noted_at ms m ≡ vacant m
past_vacant ms m none = noted_past ms m (none_past ms m none)

pub past_closed : (ms : List Kept) (m : ℕ) → None ≡ slice_get ms m → (noted_at ms m).standing ≡ Open → ⊥
past_closed ms m none is = absurd (let e : Vacant ≡ Open = sym (ap (λ (n : Kept). n.standing) (past_vacant ms m none)) ∙ is in cc)

-- a part that is the same in what is kept anew
pub updated : {B : Type 0} (F : Kept → B) (ms : List Kept) (x : ℕ) (v : Kept) → F v ≡ F (noted_at ms x) → (m : ℕ) → F (noted_at (set ms x v) m) ≡ F (noted_at ms m)
updated {B} F ms x v same m = by (cases_eq m x) (cases_lt x (length ms))
  where
    by : (m ≡ x) ⊎ (m ≡ x → ⊥) → (x < length ms) ⊎ (length ms ≤ x) → F (noted_at (set ms x v) m) ≡ F (noted_at ms m)
    by (inr ne) lt = ap F (noted_other ms x v m ne)
    by (inl e) (inl lt) = subst (λ (k : ℕ). F (noted_at (set ms x v) k) ≡ F (noted_at ms k)) (sym e) (ap F (noted_set ms x v lt) ∙ same)
    by (inl e) (inr le) = ap (λ (l : List Kept). F (noted_at l m)) (set_past ms x v le)

-- a member stands in the list
pub live_within : (ms : List Kept) (m : ℕ) → (noted_at ms m).standing ≢ Vacant → m < length ms
live_within ms m live = by (cases_lt m (length ms))
  where
    by : (m < length ms) ⊎ (length ms ≤ m) → m < length ms
    by (inl lt) = lt
    by (inr le) = absurd (live (ap (λ (n : Kept). n.standing) (noted_past ms m le)))

pub vacant_or_not : (s : Standing) → (s ≡ Vacant) ⊎ (s ≢ Vacant)
vacant_or_not Vacant = inl refl
vacant_or_not Open = inr (λ e. absurd (cc))
vacant_or_not Ended = inr (λ e. absurd (cc))

pub open_live : (s : Standing) → s ≡ Open → s ≢ Vacant
open_live s is none = absurd (cc)

pub ended_live : (s : Standing) → s ≡ Ended → s ≢ Vacant
ended_live s is none = absurd (cc)

-- members of another class
pub length_renumbered : (class : ℕ) (xs : List ℕ) (ms : List Kept) → length (renumbered class xs ms) ≡ length ms
length_renumbered class [] ms = refl
length_renumbered class (x ∷ xs) ms =
    length_renumbered class xs (set ms x (record (noted_at ms x) { class = class })) ∙ length-set ms x (record (noted_at ms x) { class = class })

pub renumbered_part : {B : Type 0} (F : Kept → B) → ((n : Kept) (class : ℕ) → F (record n { class = class }) ≡ F n) → (class : ℕ) (xs : List ℕ) (ms : List Kept) (m : ℕ) → F (noted_at (renumbered class xs ms) m) ≡ F (noted_at ms m)
renumbered_part F same class [] ms m = refl
renumbered_part F same class (x ∷ xs) ms m =
    renumbered_part F same class xs (set ms x (record (noted_at ms x) { class = class })) m
    ∙ updated F ms x (record (noted_at ms x) { class = class }) (same (noted_at ms x) class) m

pub renumbered_out : (class : ℕ) (xs : List ℕ) (ms : List Kept) (m : ℕ) → (Contains xs m → ⊥) → noted_at (renumbered class xs ms) m ≡ noted_at ms m
renumbered_out class [] ms m out = refl
renumbered_out class (x ∷ xs) ms m out =
    renumbered_out class xs (set ms x (record (noted_at ms x) { class = class })) m (λ h. out (contains_tail x m xs h))
    ∙ noted_other ms x (record (noted_at ms x) { class = class }) m (λ e. out (subst (λ (k : ℕ). Contains (x ∷ xs) k) (sym e) (contains_head x xs)))

pub renumbered_in : (class : ℕ) (xs : List ℕ) (ms : List Kept) (m : ℕ) → ((k : ℕ) → Contains xs k → k < length ms) → Contains xs m → class_of (renumbered class xs ms) m ≡ class
renumbered_in class [] ms m within h = absurd (contains_nil m h)
renumbered_in class (x ∷ xs) ms m within h =
    by (contains_or_not xs m) (contains_cons x m xs h)
    (λ later. renumbered_in class xs (set ms x (record (noted_at ms x) { class = class })) m (λ k there. let lt = within k (contains_tail x k xs there) in let e = length-set ms x (record (noted_at ms x) { class = class }) in omega (arith, lt, e)) later)
  where
    by : Contains xs m ⊎ (Contains xs m → ⊥) → (x ≡ m) ⊎ Contains xs m → (Contains xs m → class_of (renumbered class xs (set ms x (record (noted_at ms x) { class = class }))) m ≡ class) → class_of (renumbered class xs (set ms x (record (noted_at ms x) { class = class }))) m ≡ class
    by (inl later) first rest = rest later
    by (inr absent) (inr later) rest = absurd (absent later)
    by (inr absent) (inl e) rest =
        ap (λ (n : Kept). n.class) (renumbered_out class xs (set ms x (record (noted_at ms x) { class = class })) m absent)
        ∙ subst (λ (k : ℕ). class_of (set ms x (record (noted_at ms x) { class = class })) k ≡ class) e (ap (λ (n : Kept). n.class) (noted_set ms x (record (noted_at ms x) { class = class }) (within x (contains_head x xs))))

-- numbers that are vacant again
pub vacated_get : (class at number m : ℕ) (ms : List Kept) → at ≡ number + m → get_or (vacated class number ms) m (vacant at) ≡ (if (get_or ms m (vacant at)).class == class then vacant at else get_or ms m (vacant at))
vacated_get class at number m [] is = by (at == class)
  where
    by : (b : Bool) → vacant at ≡ (if b then vacant at else vacant at)
    by true = refl
    by false = refl
vacated_get class at number zero (n ∷ ms) is =
    let e : at ≡ number = omega (arith, is) in
    (λ j. if n.class == class then vacant (sym e j) else n)
vacated_get class at number (suc m) (n ∷ ms) is = vacated_get class at (number + 1) m ms (omega (arith, is))

pub vacated_in : (class m : ℕ) (ms : List Kept) → class_of ms m ≡ class → noted_at (vacated class 0 ms) m ≡ vacant m
vacated_in class m ms is = vacated_get class m 0 m ms (omega arith) ∙ by (class_of ms m == class) refl
  where
    by : (b : Bool) → (class_of ms m == class) ≡ b → (if b then vacant m else noted_at ms m) ≡ vacant m
    by true e = refl
    by false e = absurd (test_other (class_of ms m) class e is)

pub vacated_out : (class m : ℕ) (ms : List Kept) → class_of ms m ≢ class → noted_at (vacated class 0 ms) m ≡ noted_at ms m
vacated_out class m ms other = vacated_get class m 0 m ms (omega arith) ∙ by (class_of ms m == class) refl
  where
    by : (b : Bool) → (class_of ms m == class) ≡ b → (if b then vacant m else noted_at ms m) ≡ noted_at ms m
    by true e = absurd (other (test_same (class_of ms m) class e))
    by false e = refl

pub length_vacated : (class number : ℕ) (ms : List Kept) → length (vacated class number ms) ≡ length ms
length_vacated class number [] = refl
length_vacated class number (n ∷ ms) = ap suc (length_vacated class (number + 1) ms)

-- two classes that are joined
module _ (from into : ℕ) (ms : List Kept) (apart : from ≢ into) (from_lt : from < length ms) (into_lt : into < length ms)
    (within : (m : ℕ) → Contains (joined_at ms from) m → m < length ms) where
  abbrev longer : Kept
  longer = record (noted_at ms into) { joined = joined_at ms into ++ joined_at ms from }

  abbrev joined : List Kept
  joined = set ms into longer

  abbrev emptied : Kept
  emptied = record (noted_at joined from) { joined = [] }

  abbrev pub taken : List Kept
  taken = set joined from emptied

  length_taken : length taken ≡ length ms
  length_taken = length-set joined from emptied ∙ length-set ms into longer

  -- all but the members is the same
  taken_part : {B : Type 0} (F : Kept → B) → ((n : Kept) (some : List ℕ) → F (record n { joined = some }) ≡ F n) → (m : ℕ) → F (noted_at taken m) ≡ F (noted_at ms m)
  taken_part F same m = updated F joined from emptied (same (noted_at joined from) []) m ∙ updated F ms into longer (same (noted_at ms into) (joined_at ms into ++ joined_at ms from)) m

  joined_part : (m : ℕ) → joined_at (renumbered into (joined_at ms from) taken) m ≡ joined_at taken m
  joined_part m = renumbered_part (λ (n : Kept). n.joined) (λ n class. refl) into (joined_at ms from) taken m

  pub joins_made : Joins from into ms (renumbered into (joined_at ms from) taken)
  joins_made = record {
    size = length_renumbered into (joined_at ms from) taken ∙ length_taken;
    notes = λ m. renumbered_part note_of (λ n class. refl) into (joined_at ms from) taken m ∙ taken_part note_of (λ n some. refl) m;
    moved = λ m there. renumbered_in into (joined_at ms from) taken m (λ k h. let lt = within k h in let e = length_taken in omega (arith, lt, e)) there;
    stayed = λ m out. ap (λ (n : Kept). n.class) (renumbered_out into (joined_at ms from) taken m out) ∙ taken_part (λ (n : Kept). n.class) (λ n some. refl) m;
    all = joined_part into
        ∙ ap (λ (n : Kept). n.joined) (noted_other joined from emptied into (λ e. apart (sym e)))
        ∙ ap (λ (n : Kept). n.joined) (noted_set ms into longer into_lt);
    none = joined_part from
        ∙ ap (λ (n : Kept). n.joined) (noted_set joined from emptied (let e = length-set ms into longer in omega (arith, e, from_lt)));
    rest = λ c other here. joined_part c
        ∙ ap (λ (n : Kept). n.joined) (noted_other joined from emptied c here)
        ∙ ap (λ (n : Kept). n.joined) (noted_other ms into longer c other);
  }

  -- as the calls say it
  pub joins_said : (a b d : Kept) (list : List ℕ) (new : List Kept) → a ≡ get_or ms from a → list ≡ a.joined → b ≡ get_or ms into b
      → d ≡ get_or (set ms into (record b { joined = b.joined ++ list })) from d
      → new ≡ renumbered into list (set (set ms into (record b { joined = b.joined ++ list })) from (record d { joined = [] })) → Joins from into ms new
  joins_said a b d list new a_is list_is b_is d_is is = subst (Joins from into ms) (sym (is ∙ all)) joins_made
    where
      a_at : a ≡ noted_at ms from
      a_at = get_or_read ms from a from_lt a_is (vacant from)

      b_at : b ≡ noted_at ms into
      b_at = get_or_read ms into b into_lt b_is (vacant into)

      list_at : list ≡ joined_at ms from
      list_at = list_is ∙ ap (λ (n : Kept). n.joined) a_at

      b_longer : record b { joined = b.joined ++ list } ≡ longer
      b_longer = λ j. record (b_at j) { joined = (b_at j).joined ++ list_at j }

      d_at : d ≡ noted_at joined from
      d_at =
          get_or_read (set ms into (record b { joined = b.joined ++ list })) from d (let e = length-set ms into (record b { joined = b.joined ++ list }) in omega (arith, e, from_lt)) d_is (vacant from)
          ∙ ap (λ (n : Kept). noted_at (set ms into n) from) b_longer

      all : renumbered into list (set (set ms into (record b { joined = b.joined ++ list })) from (record d { joined = [] })) ≡ renumbered into (joined_at ms from) taken
      all = λ j. renumbered into (list_at j) (set (set ms into (b_longer j)) from (record (d_at j) { joined = [] }))

-- values that are gone
set_none : (values : List (Option Value)) (q : ℕ) → get_or (set values q None) q None ≡ None
set_none values q = by (cases_lt q (length values))
  where
    by : (q < length values) ⊎ (length values ≤ q) → get_or (set values q None) q None ≡ None
    by (inl lt) = get_or-set_same values q None None lt
    by (inr le) = get_or_past (set values q None) q None (let e = length-set values q None in omega (arith, e, le))

pub cleared_none : (xs : List ℕ) (values : List (Option Value)) (p : ℕ) → get_or values p None ≡ None → get_or (cleared xs values) p None ≡ None
cleared_none [] values p is = is
cleared_none (q ∷ xs) values p is = cleared_none xs (set values q None) p (by (cases_eq p q))
  where
    by : (p ≡ q) ⊎ (p ≡ q → ⊥) → get_or (set values q None) p None ≡ None
    by (inl e) = subst (λ (k : ℕ). get_or (set values q None) k None ≡ None) (sym e) (set_none values q)
    by (inr ne) = get_or-set_other values q p None None ne ∙ is

pub cleared_in : (xs : List ℕ) (values : List (Option Value)) (p : ℕ) → Contains xs p → get_or (cleared xs values) p None ≡ None
cleared_in [] values p h = absurd (contains_nil p h)
cleared_in (q ∷ xs) values p h = by (contains_cons q p xs h) (λ there. cleared_in xs (set values q None) p there)
  where
    by : (q ≡ p) ⊎ Contains xs p → (Contains xs p → get_or (cleared xs (set values q None)) p None ≡ None) → get_or (cleared xs (set values q None)) p None ≡ None
    by (inl e) rest = cleared_none xs (set values q None) p (subst (λ (k : ℕ). get_or (set values q None) k None ≡ None) e (set_none values q))
    by (inr there) rest = rest there

pub cleared_out : (xs : List ℕ) (values : List (Option Value)) (p : ℕ) → (Contains xs p → ⊥) → get_or (cleared xs values) p None ≡ get_or values p None
cleared_out [] values p out = refl
cleared_out (q ∷ xs) values p out =
    cleared_out xs (set values q None) p (λ h. out (contains_tail q p xs h))
    ∙ get_or-set_other values q p None None (λ e. out (subst (λ (k : ℕ). Contains (q ∷ xs) k) (sym e) (contains_head q xs)))

-- lists that keep the same under each number
pub noted_ext : (a b : List Kept) → length a ≡ length b → ((m : ℕ) → m < length a → noted_at a m ≡ noted_at b m) → a ≡ b
noted_ext a b size same = same_lists a b size (λ k d lt. get_or_default a k d (vacant k) lt ∙ same k lt ∙ sym (get_or_default b k d (vacant k) (omega (arith, lt, size))))
