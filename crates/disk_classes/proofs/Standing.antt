-- A member that begins, and one that ends.
use Rattle.std.proofs.Common.{◌≡◌, ◌≢◌, ◌<◌, ◌≤◌, ◌⊎◌, ◌∙◌, ℕ, ◌+◌, ◌*◌, List, [], ◌∷◌, ◌++◌, length, set, refl, sym, ap, subst, inl, inr, arith, Option}
use Rattle.std.specs.Prelude.{Contains, ◌==◌, if◌then◌else◌, Bool, true, false}
use Rattle.std.proofs.lemmas.Bool.{cases_eq, cases_lt}
use Rattle.std.proofs.lemmas.List.{get_or_append_left, get_or_push, get_or_past, length_push}
use Rattle.std.proofs.lemmas.List.Sums.{sum_by-set, sum_by_push}
use Rattle.disk_classes.specs.Joined.{new_note}
use Rattle.disk_classes.specs.Notes.{vacant, fresh, noted_at, notes_in, note_of, class_of, joined_at, entries_of, needed_by, needed_in, IsPlaced, ArePartition, AreValues}
use Rattle.disk_classes.specs.declared.member.Noted.{Noted as Kept}
use Rattle.disk_classes.specs.declared.members.Value.{Value}
use Rattle.disk_classes.specs.declared.member.Standing.{Standing}
use Rattle.disk_classes.specs.declared.member.Standing.TheVariants.{Vacant, Open, Ended}
use Rattle.disk_classes.proofs.Lists.{test_same, test_other, contains_one, contains_head}
use Rattle.disk_classes.proofs.Noted.{updated, noted_set, noted_other, noted_past, ended_live}
use Rattle.disk_classes.proofs.Numbering.{together_same, joining_same}
use Rattle.disk_classes.proofs.Partition.{listed_of, partition_of, next_listed, next_class}

-- a member ends
module _ (ms : List Kept) (member : ℕ) (part : ArePartition ms) (live : (noted_at ms member).standing ≢ Vacant) where
  abbrev ended : Kept
  ended = record (noted_at ms member) { standing = Ended }

  abbrev now : List Kept
  now = set ms member ended

  ended_is : ended.standing ≢ Vacant
  ended_is = ended_live ended.standing refl

  same_pages : (m : ℕ) → (notes_in now m).pages ≡ (notes_in ms m).pages
  same_pages m = updated (λ (n : Kept). n.pages) ms member ended refl m

  same_class : (m : ℕ) → class_of now m ≡ class_of ms m
  same_class m = next_class ms member ended (listed_of ms part) refl refl ended_is live m

  pub partition_ended : ArePartition now
  partition_ended = partition_of now (next_listed ms member ended (listed_of ms part) refl refl ended_is live)
      (λ m n p a b. same_class m ∙ joining_same (notes_in ms) (notes_in now) (class_of ms) same_pages part.joining m n p a b ∙ sym (same_class n))
      (λ m n same. together_same (notes_in ms) (notes_in now) same_pages m n (part.finest m n (sym (same_class m) ∙ same ∙ same_class n)))

-- values of the same pages
pub values_kept : (ms new : List Kept) (values : List (Option Value)) → ((m : ℕ) → (noted_at new m).pages ≡ (noted_at ms m).pages) → AreValues ms values → AreValues new values
values_kept ms new values same vals = record {
  by_one = λ p v e. subst (λ (l : List ℕ). Contains l p) (sym (same v.member)) (vals.by_one p v e);
  there = λ m p h. vals.there m p (subst (λ (l : List ℕ). Contains l p) (same m) h);
}

vacant_none : (n : Kept) → n.standing ≡ Vacant → needed_by n ≡ 0
vacant_none n e = ap (λ (s : Standing). entries_of s n.limit) e

-- a member begins under a number that none has
module _ (ms now : List Kept) (number limit : ℕ) (part : ArePartition ms) (none : (noted_at ms number).standing ≡ Vacant) (placed : IsPlaced number (fresh number limit) ms now) where
  pub at_number : noted_at now number ≡ fresh number limit
  at_number = by placed
    where
      by : IsPlaced number (fresh number limit) ms now → noted_at now number ≡ fresh number limit
      by (inl (lt, is)) = ap (λ (l : List Kept). noted_at l number) is ∙ noted_set ms number (fresh number limit) lt
      by (inr (at, is)) = ap (λ (l : List Kept). noted_at l number) is ∙ get_or_push ms (fresh number limit) (vacant number) number (sym at)

  pub at_other : (m : ℕ) → m ≢ number → noted_at now m ≡ noted_at ms m
  at_other m other = by placed
    where
      past : number ≡ length ms → (m < length ms) ⊎ (length ms ≤ m) → noted_at (ms ++ fresh number limit ∷ []) m ≡ noted_at ms m
      past at (inl lt) = get_or_append_left ms (fresh number limit ∷ []) (vacant m) m lt
      past at (inr le) =
          get_or_past (ms ++ fresh number limit ∷ []) m (vacant m) (let e = length_push ms (fresh number limit) in omega (arith, e, le, at, other))
          ∙ sym (noted_past ms m le)

      by : IsPlaced number (fresh number limit) ms now → noted_at now m ≡ noted_at ms m
      by (inl (lt, is)) = ap (λ (l : List Kept). noted_at l m) is ∙ noted_other ms number (fresh number limit) m other
      by (inr (at, is)) = ap (λ (l : List Kept). noted_at l m) is ∙ past at (cases_lt m (length ms))

  was : ((noted_at ms number).pages ≡ []) × (class_of ms number ≡ number)
  was = part.none number none

  pub begun_pages : (m : ℕ) → (notes_in now m).pages ≡ (notes_in ms m).pages
  begun_pages m = by (cases_eq m number)
    where
      by : (m ≡ number) ⊎ (m ≡ number → ⊥) → (notes_in now m).pages ≡ (notes_in ms m).pages
      by (inl e) = subst (λ (k : ℕ). (notes_in now k).pages ≡ (notes_in ms k).pages) (sym e) (ap (λ (n : Kept). n.pages) at_number ∙ sym was.0)
      by (inr other) = ap (λ (n : Kept). n.pages) (at_other m other)

  begun_class : (m : ℕ) → class_of now m ≡ class_of ms m
  begun_class m = by (cases_eq m number)
    where
      by : (m ≡ number) ⊎ (m ≡ number → ⊥) → class_of now m ≡ class_of ms m
      by (inl e) = subst (λ (k : ℕ). class_of now k ≡ class_of ms k) (sym e) (ap (λ (n : Kept). n.class) at_number ∙ sym was.1)
      by (inr other) = ap (λ (n : Kept). n.class) (at_other m other)

  live_number : (noted_at now number).standing ≢ Vacant
  live_number is = absurd (let e : Open ≡ Vacant = sym (ap (λ (n : Kept). n.standing) at_number) ∙ is in cc)

  -- a member that was there is under another number, and so is its class
  not_number : (m : ℕ) → (noted_at ms m).standing ≢ Vacant → m ≢ number
  not_number m live e = live (subst (λ (k : ℕ). (noted_at ms k).standing ≡ Vacant) (sym e) none)

  still_live : (m : ℕ) → (noted_at ms m).standing ≢ Vacant → (noted_at now m).standing ≢ Vacant
  still_live m live is = live (sym (ap (λ (n : Kept). n.standing) (at_other m (not_number m live))) ∙ is)

  was_live : (m : ℕ) → m ≢ number → (noted_at now m).standing ≢ Vacant → (noted_at ms m).standing ≢ Vacant
  was_live m other live is = live (ap (λ (n : Kept). n.standing) (at_other m other) ∙ is)

  inside : (c m : ℕ) → Contains (joined_at now c) m → (c ≡ number) ⊎ (c ≡ number → ⊥) → (class_of now m ≡ c) × (noted_at now m).standing ≢ Vacant
  inside c m h (inl e) =
      let one : number ≡ m = contains_one number m (subst (λ (l : List ℕ). Contains l m) (ap (λ (n : Kept). n.joined) at_number) (subst (λ (k : ℕ). Contains (joined_at now k) m) e h)) in
      (subst (λ (k : ℕ). class_of now k ≡ c) one (ap (λ (n : Kept). n.class) at_number ∙ sym e), subst (λ (k : ℕ). (noted_at now k).standing ≢ Vacant) one live_number)
  inside c m h (inr other) =
      let old = part.inside c m (subst (λ (l : List ℕ). Contains l m) (ap (λ (n : Kept). n.joined) (at_other c other)) h) in
      (begun_class m ∙ old.0, still_live m old.1)

  listed : (m : ℕ) → (noted_at now m).standing ≢ Vacant → (m ≡ number) ⊎ (m ≡ number → ⊥) → Contains (joined_at now (class_of now m)) m
  listed m live (inl e) =
      subst (λ (k : ℕ). Contains (joined_at now (class_of now k)) k) (sym e)
      (subst (λ (k : ℕ). Contains (joined_at now k) number) (sym (ap (λ (n : Kept). n.class) at_number))
      (subst (λ (l : List ℕ). Contains l number) (sym (ap (λ (n : Kept). n.joined) at_number)) (contains_head number [])))
  listed m live (inr other) =
      let old = was_live m other live in
      subst (λ (k : ℕ). Contains (joined_at now k) m) (sym (begun_class m))
      (subst (λ (l : List ℕ). Contains l m) (sym (ap (λ (n : Kept). n.joined) (at_other (class_of ms m) (not_number (class_of ms m) (part.named m old).0)))) (part.listed m old))

  named : (m : ℕ) → (noted_at now m).standing ≢ Vacant → (m ≡ number) ⊎ (m ≡ number → ⊥) → (noted_at now (class_of now m)).standing ≢ Vacant × (class_of now (class_of now m) ≡ class_of now m)
  named m live (inl e) =
      let is : class_of now m ≡ number = ap (class_of now) e ∙ ap (λ (n : Kept). n.class) at_number in
      (subst (λ (k : ℕ). (noted_at now k).standing ≢ Vacant) (sym is) live_number, ap (class_of now) is ∙ ap (λ (n : Kept). n.class) at_number ∙ sym is)
  named m live (inr other) =
      let old = part.named m (was_live m other live) in
      (subst (λ (k : ℕ). (noted_at now k).standing ≢ Vacant) (sym (begun_class m)) (still_live (class_of ms m) old.0), ap (class_of now) (begun_class m) ∙ begun_class (class_of ms m) ∙ old.1 ∙ sym (begun_class m))

  none_now : (m : ℕ) → (noted_at now m).standing ≡ Vacant → (m ≡ number) ⊎ (m ≡ number → ⊥) → ((noted_at now m).pages ≡ []) × (class_of now m ≡ m)
  none_now m is (inl e) = absurd (live_number (subst (λ (k : ℕ). (noted_at now k).standing ≡ Vacant) e is))
  none_now m is (inr other) =
      let old = part.none m (sym (ap (λ (n : Kept). n.standing) (at_other m other)) ∙ is) in
      (begun_pages m ∙ old.0, begun_class m ∙ old.1)

  pub partition_begun : ArePartition now
  partition_begun = record {
    inside = λ c m h. inside c m h (cases_eq c number);
    listed = λ m live. listed m live (cases_eq m number);
    named = λ m live. named m live (cases_eq m number);
    none = λ m is. none_now m is (cases_eq m number);
    joining = λ m n p a b. begun_class m ∙ joining_same (notes_in ms) (notes_in now) (class_of ms) begun_pages part.joining m n p a b ∙ sym (begun_class n);
    finest = λ m n same. together_same (notes_in ms) (notes_in now) begun_pages m n (part.finest m n (sym (begun_class m) ∙ same ∙ begun_class n));
  }

  pub needed_begun : needed_in now ≡ needed_in ms + (2 * limit + 1)
  needed_begun = by placed
    where
      by : IsPlaced number (fresh number limit) ms now → needed_in now ≡ needed_in ms + (2 * limit + 1)
      by (inl (lt, is)) =
          let e = sum_by-set needed_by ms number (fresh number limit) (vacant number) lt in
          let f : needed_by (noted_at ms number) ≡ 0 = vacant_none (noted_at ms number) none in
          let g : needed_in now ≡ needed_in (set ms number (fresh number limit)) = ap needed_in is in
          omega (arith, e, f, g)
      by (inr (at, is)) = ap needed_in is ∙ sum_by_push needed_by ms (fresh number limit)

  pub notes_begun : (m : ℕ) → notes_in now m ≡ (if m == number then new_note limit else notes_in ms m)
  notes_begun m = by (m == number) refl
    where
      by : (b : Bool) → (m == number) ≡ b → notes_in now m ≡ (if b then new_note limit else notes_in ms m)
      by true e = ap note_of (subst (λ (k : ℕ). noted_at now k ≡ fresh k limit) (sym (test_same m number e)) at_number)
      by false e = ap note_of (at_other m (test_other m number e))
