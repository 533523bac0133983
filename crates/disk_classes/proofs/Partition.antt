-- The partition of members into classes, call by call.
use Rattle.std.proofs.Common.{◌≡◌, ◌≢◌, ◌⊎◌, ℕ, List, [], ◌++◌, refl, sym, ◌∙◌, ap, subst, inl, inr, arith, set}
use Rattle.std.specs.Prelude.{Contains}
use Rattle.std.proofs.lemmas.Bool.{cases_eq}
use Rattle.std.proofs.lemmas.List.Elements.{Contains-append_left, Contains-append_right, Contains-append_cases}
use Rattle.disk_classes.specs.Joined.{Note, IsJoining, AreTogether}
use Rattle.disk_classes.specs.Notes.{vacant, noted_at, notes_in, class_of, joined_at, vacated, Joins, ArePartition}
use Rattle.disk_classes.specs.declared.member.Noted.{Noted as Kept}
use Rattle.disk_classes.specs.declared.member.Standing.{Standing}
use Rattle.disk_classes.specs.declared.member.Standing.TheVariants.{Vacant, Open, Ended}
use Rattle.disk_classes.proofs.Lists.{contains_nil}
use Rattle.disk_classes.proofs.Noted.{updated, noted_other, vacant_or_not, vacated_in, vacated_out}
use Rattle.disk_classes.proofs.Numbering.{together_left}

-- What a partition says of lists and numbers alone. It stays where these do.
pub record AreListed (members : List Kept) : Type 0 where
  pub inside : (c m : ℕ) → Contains (joined_at members c) m → (class_of members m ≡ c) × (noted_at members m).standing ≢ Vacant
  pub listed : (m : ℕ) → (noted_at members m).standing ≢ Vacant → Contains (joined_at members (class_of members m)) m
  pub named : (m : ℕ) → (noted_at members m).standing ≢ Vacant → (noted_at members (class_of members m)).standing ≢ Vacant × (class_of members (class_of members m) ≡ class_of members m)
  pub none : (m : ℕ) → (noted_at members m).standing ≡ Vacant → ((noted_at members m).pages ≡ []) × (class_of members m ≡ m)

pub listed_of : (ms : List Kept) → ArePartition ms → AreListed ms
listed_of ms part = record { inside = part.inside; listed = part.listed; named = part.named; none = part.none }

pub partition_of : (ms : List Kept) → AreListed ms → IsJoining (notes_in ms) (class_of ms) → ((m n : ℕ) → class_of ms m ≡ class_of ms n → AreTogether (notes_in ms) m n) → ArePartition ms
partition_of ms listed joining finest = record {
  inside = listed.inside;
  listed = listed.listed;
  named = listed.named;
  none = listed.none;
  joining = joining;
  finest = finest;
}

-- What is kept of a member changes, but not its class, nor the members under its number, nor whether there is one.
module _ (ms : List Kept) (x : ℕ) (v : Kept) (listed : AreListed ms)
    (class : v.class ≡ class_of ms x) (joined : v.joined ≡ joined_at ms x)
    (live : v.standing ≢ Vacant) (was : (noted_at ms x).standing ≢ Vacant) where
  abbrev next : List Kept
  next = set ms x v

  pub next_class : (m : ℕ) → class_of next m ≡ class_of ms m
  next_class m = updated (λ (n : Kept). n.class) ms x v class m

  pub next_joined : (m : ℕ) → joined_at next m ≡ joined_at ms m
  next_joined m = updated (λ (n : Kept). n.joined) ms x v joined m

  abbrev live_tag : Standing → ℕ
  live_tag Vacant = 0
  live_tag Open = 1
  live_tag Ended = 1

  tagged : (s : Standing) → s ≢ Vacant → live_tag s ≡ 1
  tagged Vacant is = absurd (is refl)
  tagged Open is = refl
  tagged Ended is = refl

  untagged : (s : Standing) → live_tag s ≡ 1 → s ≢ Vacant
  untagged s is none = absurd (let e : 0 ≡ 1 = sym (ap live_tag none) ∙ is in omega (arith, e))

  same_tag : (m : ℕ) → live_tag (noted_at next m).standing ≡ live_tag (noted_at ms m).standing
  same_tag m = updated (λ (n : Kept). live_tag n.standing) ms x v (tagged v.standing live ∙ sym (tagged (noted_at ms x).standing was)) m

  pub next_live : (m : ℕ) → (noted_at ms m).standing ≢ Vacant → (noted_at next m).standing ≢ Vacant
  next_live m is = untagged (noted_at next m).standing (same_tag m ∙ tagged (noted_at ms m).standing is)

  pub was_live : (m : ℕ) → (noted_at next m).standing ≢ Vacant → (noted_at ms m).standing ≢ Vacant
  was_live m is = untagged (noted_at ms m).standing (sym (same_tag m) ∙ tagged (noted_at next m).standing is)

  none_next : (m : ℕ) → (noted_at next m).standing ≡ Vacant → (m ≡ x) ⊎ (m ≡ x → ⊥) → ((noted_at next m).pages ≡ []) × (class_of next m ≡ m)
  none_next m is (inl e) = absurd (next_live m (subst (λ (k : ℕ). (noted_at ms k).standing ≢ Vacant) (sym e) was) is)
  none_next m is (inr ne) =
      let same = noted_other ms x v m ne in
      let old = listed.none m (sym (ap (λ (n : Kept). n.standing) same) ∙ is) in
      (ap (λ (n : Kept). n.pages) same ∙ old.0, next_class m ∙ old.1)

  pub next_listed : AreListed next
  next_listed = record {
    inside = λ c m h. (let old = listed.inside c m (subst (λ (l : List ℕ). Contains l m) (next_joined c) h) in (next_class m ∙ old.0, next_live m old.1));
    listed = λ m is. subst (λ (k : ℕ). Contains (joined_at next k) m) (sym (next_class m)) (subst (λ (l : List ℕ). Contains l m) (sym (next_joined (class_of ms m))) (listed.listed m (was_live m is)));
    named = λ m is. (let old = listed.named m (was_live m is) in (
      subst (λ (k : ℕ). (noted_at next k).standing ≢ Vacant) (sym (next_class m)) (next_live (class_of ms m) old.0),
      ap (class_of next) (next_class m) ∙ next_class (class_of ms m) ∙ old.1 ∙ sym (next_class m),
    ));
    none = λ m is. none_next m is (cases_eq m x);
  }

-- two classes are joined, each that of a member
module _ (from into : ℕ) (old new : List Kept) (listed : AreListed old) (apart : from ≢ into) (joins : Joins from into old new)
    (from_live : (noted_at old from).standing ≢ Vacant) (into_live : (noted_at old into).standing ≢ Vacant) (into_named : class_of old into ≡ into) where
  same_standing : (m : ℕ) → (noted_at new m).standing ≡ (noted_at old m).standing
  same_standing m = ap (λ (n : Note). n.standing) (joins.notes m)

  now_live : (m : ℕ) → (noted_at old m).standing ≢ Vacant → (noted_at new m).standing ≢ Vacant
  now_live m is none = is (sym (same_standing m) ∙ none)

  had_live : (m : ℕ) → (noted_at new m).standing ≢ Vacant → (noted_at old m).standing ≢ Vacant
  had_live m is none = is (same_standing m ∙ none)

  pub moved_class : (m : ℕ) → class_of old m ≡ from → class_of new m ≡ into
  moved_class m is = by (vacant_or_not (noted_at old m).standing)
    where
      by : ((noted_at old m).standing ≡ Vacant) ⊎ ((noted_at old m).standing ≢ Vacant) → class_of new m ≡ into
      by (inl none) = absurd (from_live (subst (λ (k : ℕ). (noted_at old k).standing ≡ Vacant) (sym ((listed.none m none).1) ∙ is) none))
      by (inr live) = joins.moved m (subst (λ (k : ℕ). Contains (joined_at old k) m) is (listed.listed m live))

  pub kept_class : (m : ℕ) → class_of old m ≢ from → class_of new m ≡ class_of old m
  kept_class m other = joins.stayed m (λ there. other ((listed.inside from m there).0))

  inside_into : (m : ℕ) → Contains (joined_at old into) m ⊎ Contains (joined_at old from) m → (class_of new m ≡ into) × (noted_at new m).standing ≢ Vacant
  inside_into m (inl here) = let was = listed.inside into m here in (kept_class m (λ e. apart (sym e ∙ was.0)) ∙ was.0, now_live m was.1)
  inside_into m (inr there) = (joins.moved m there, now_live m ((listed.inside from m there).1))

  inside_now : (c m : ℕ) → Contains (joined_at new c) m → (c ≡ into) ⊎ (c ≡ into → ⊥) → (c ≡ from) ⊎ (c ≡ from → ⊥) → (class_of new m ≡ c) × (noted_at new m).standing ≢ Vacant
  inside_now c m h (inl e) f =
      let both = inside_into m (Contains-append_cases (joined_at old into) (joined_at old from) m (subst (λ (l : List ℕ). Contains l m) joins.all (subst (λ (k : ℕ). Contains (joined_at new k) m) e h))) in
      (both.0 ∙ sym e, both.1)
  inside_now c m h (inr ne) (inl e) = absurd (contains_nil m (subst (λ (l : List ℕ). Contains l m) joins.none (subst (λ (k : ℕ). Contains (joined_at new k) m) e h)))
  inside_now c m h (inr ne) (inr other) =
      let was = listed.inside c m (subst (λ (l : List ℕ). Contains l m) (joins.rest c ne other) h) in
      (kept_class m (λ e. other (sym was.0 ∙ e)) ∙ was.0, now_live m was.1)

  in_into : (m : ℕ) → Contains (joined_at old into ++ joined_at old from) m → Contains (joined_at new into) m
  in_into m h = subst (λ (l : List ℕ). Contains l m) (sym joins.all) h

  listed_now : (m : ℕ) → (noted_at old m).standing ≢ Vacant → (class_of old m ≡ from) ⊎ (class_of old m ≡ from → ⊥) → (class_of old m ≡ into) ⊎ (class_of old m ≡ into → ⊥) → Contains (joined_at new (class_of new m)) m
  listed_now m live (inl is) any =
      subst (λ (k : ℕ). Contains (joined_at new k) m) (sym (moved_class m is))
      (in_into m (Contains-append_right (joined_at old into) (joined_at old from) m (subst (λ (k : ℕ). Contains (joined_at old k) m) is (listed.listed m live))))
  listed_now m live (inr other) (inl is) =
      subst (λ (k : ℕ). Contains (joined_at new k) m) (sym (kept_class m other ∙ is))
      (in_into m (Contains-append_left (joined_at old into) (joined_at old from) m (subst (λ (k : ℕ). Contains (joined_at old k) m) is (listed.listed m live))))
  listed_now m live (inr other) (inr ne) =
      subst (λ (k : ℕ). Contains (joined_at new k) m) (sym (kept_class m other))
      (subst (λ (l : List ℕ). Contains l m) (sym (joins.rest (class_of old m) ne other)) (listed.listed m live))

  into_now : class_of new into ≡ into
  into_now = kept_class into (λ e. apart (sym e ∙ into_named)) ∙ into_named

  named_now : (m : ℕ) → (noted_at old m).standing ≢ Vacant → (class_of old m ≡ from) ⊎ (class_of old m ≡ from → ⊥) → (noted_at new (class_of new m)).standing ≢ Vacant × (class_of new (class_of new m) ≡ class_of new m)
  named_now m live (inl is) = (
    subst (λ (k : ℕ). (noted_at new k).standing ≢ Vacant) (sym (moved_class m is)) (now_live into into_live),
    ap (class_of new) (moved_class m is) ∙ into_now ∙ sym (moved_class m is),
  )
  named_now m live (inr other) =
      let was = listed.named m live in (
        subst (λ (k : ℕ). (noted_at new k).standing ≢ Vacant) (sym (kept_class m other)) (now_live (class_of old m) was.0),
        ap (class_of new) (kept_class m other) ∙ kept_class (class_of old m) (λ e. other (sym was.1 ∙ e)) ∙ was.1 ∙ sym (kept_class m other),
      )

  none_now : (m : ℕ) → (noted_at old m).standing ≡ Vacant → ((noted_at new m).pages ≡ []) × (class_of new m ≡ m)
  none_now m none =
      let was = listed.none m none in (
        ap (λ (n : Note). n.pages) (joins.notes m) ∙ was.0,
        kept_class m (λ e. from_live (subst (λ (k : ℕ). (noted_at old k).standing ≡ Vacant) (sym was.1 ∙ e) none)) ∙ was.1,
      )

  pub joined_listed : AreListed new
  joined_listed = record {
    inside = λ c m h. inside_now c m h (cases_eq c into) (cases_eq c from);
    listed = λ m is. listed_now m (had_live m is) (cases_eq (class_of old m) from) (cases_eq (class_of old m) into);
    named = λ m is. named_now m (had_live m is) (cases_eq (class_of old m) from);
    none = λ m is. none_now m (sym (same_standing m) ∙ is);
  }

  -- classes that were one are one
  pub joined_same : (x y : ℕ) → class_of old x ≡ class_of old y → class_of new x ≡ class_of new y
  joined_same x y same = by (cases_eq (class_of old x) from)
    where
      by : (class_of old x ≡ from) ⊎ (class_of old x ≡ from → ⊥) → class_of new x ≡ class_of new y
      by (inl is) = moved_class x is ∙ sym (moved_class y (sym same ∙ is))
      by (inr other) = kept_class x other ∙ same ∙ sym (kept_class y (λ e. other (same ∙ e)))

  -- and those that are one were one, or these two
  pub joined_were : (x y : ℕ) → class_of new x ≡ class_of new y
      → (class_of old x ≡ class_of old y) ⊎ (((class_of old x ≡ from) × (class_of old y ≡ into)) ⊎ ((class_of old x ≡ into) × (class_of old y ≡ from)))
  joined_were x y same = by (cases_eq (class_of old x) from) (cases_eq (class_of old y) from)
    where
      by : (class_of old x ≡ from) ⊎ (class_of old x ≡ from → ⊥) → (class_of old y ≡ from) ⊎ (class_of old y ≡ from → ⊥)
          → (class_of old x ≡ class_of old y) ⊎ (((class_of old x ≡ from) × (class_of old y ≡ into)) ⊎ ((class_of old x ≡ into) × (class_of old y ≡ from)))
      by (inl a) (inl b) = inl (a ∙ sym b)
      by (inl a) (inr other) = inr (inl (a, sym (kept_class y other) ∙ sym same ∙ moved_class x a))
      by (inr other) (inl b) = inr (inr (sym (kept_class x other) ∙ same ∙ moved_class y b, b))
      by (inr other) (inr there) = inl (sym (kept_class x other) ∙ same ∙ kept_class y there)

-- a class goes
module _ (class : ℕ) (ms : List Kept) (part : ArePartition ms) (named : class_of ms class ≡ class) where
  abbrev rest : List Kept
  rest = vacated class 0 ms

  gone : (m : ℕ) → class_of ms m ≡ class → noted_at rest m ≡ vacant m
  gone m is = vacated_in class m ms is

  stays : (m : ℕ) → class_of ms m ≢ class → noted_at rest m ≡ noted_at ms m
  stays m other = vacated_out class m ms other

  gone_standing : (m : ℕ) → class_of ms m ≡ class → (noted_at rest m).standing ≡ Vacant
  gone_standing m is = ap (λ (n : Kept). n.standing) (gone m is)

  -- a member that is left is of another class
  left_class : (m : ℕ) → (noted_at rest m).standing ≢ Vacant → class_of ms m ≢ class
  left_class m live is = live (gone_standing m is)

  pub left_is : (m : ℕ) → class_of ms m ≢ class → class_of rest m ≡ class_of ms m
  left_is m other = ap (λ (n : Kept). n.class) (stays m other)

  pub gone_is : (m : ℕ) → class_of ms m ≡ class → class_of rest m ≡ m
  gone_is m is = ap (λ (n : Kept). n.class) (gone m is)

  inside_left : (c m : ℕ) → Contains (joined_at rest c) m → (class_of ms c ≡ class) ⊎ (class_of ms c ≡ class → ⊥) → (class_of rest m ≡ c) × (noted_at rest m).standing ≢ Vacant
  inside_left c m h (inl is) = absurd (contains_nil m (subst (λ (l : List ℕ). Contains l m) (ap (λ (n : Kept). n.joined) (gone c is)) h))
  inside_left c m h (inr other) =
      let was = part.inside c m (subst (λ (l : List ℕ). Contains l m) (ap (λ (n : Kept). n.joined) (stays c other)) h) in
      let there : class_of ms m ≢ class = λ e. other (ap (class_of ms) (sym was.0 ∙ e) ∙ named) in
      (left_is m there ∙ was.0, λ none. was.1 (sym (ap (λ (n : Kept). n.standing) (stays m there)) ∙ none))

  was_there : (m : ℕ) → (noted_at rest m).standing ≢ Vacant → (noted_at ms m).standing ≢ Vacant
  was_there m live none = live (ap (λ (n : Kept). n.standing) (stays m (left_class m live)) ∙ none)

  name_left : (m : ℕ) → (noted_at rest m).standing ≢ Vacant → class_of ms (class_of ms m) ≢ class
  name_left m live is = left_class m live (sym ((part.named m (was_there m live)).1) ∙ is)

  listed_left : (m : ℕ) → (noted_at rest m).standing ≢ Vacant → Contains (joined_at rest (class_of rest m)) m
  listed_left m live =
      subst (λ (k : ℕ). Contains (joined_at rest k) m) (sym (left_is m (left_class m live)))
      (subst (λ (l : List ℕ). Contains l m) (sym (ap (λ (n : Kept). n.joined) (stays (class_of ms m) (name_left m live)))) (part.listed m (was_there m live)))

  named_left : (m : ℕ) → (noted_at rest m).standing ≢ Vacant → (noted_at rest (class_of rest m)).standing ≢ Vacant × (class_of rest (class_of rest m) ≡ class_of rest m)
  named_left m live =
      let same = left_is m (left_class m live) in
      let was = part.named m (was_there m live) in (
        subst (λ (k : ℕ). (noted_at rest k).standing ≢ Vacant) (sym same) (λ none. was.0 (sym (ap (λ (n : Kept). n.standing) (stays (class_of ms m) (name_left m live))) ∙ none)),
        ap (class_of rest) same ∙ left_is (class_of ms m) (name_left m live) ∙ was.1 ∙ sym same,
      )

  none_left : (m : ℕ) → (noted_at rest m).standing ≡ Vacant → (class_of ms m ≡ class) ⊎ (class_of ms m ≡ class → ⊥) → ((noted_at rest m).pages ≡ []) × (class_of rest m ≡ m)
  none_left m none (inl is) = (ap (λ (n : Kept). n.pages) (gone m is), gone_is m is)
  none_left m none (inr other) =
      let same = stays m other in
      let was = part.none m (sym (ap (λ (n : Kept). n.standing) same) ∙ none) in
      (ap (λ (n : Kept). n.pages) same ∙ was.0, left_is m other ∙ was.1)

  -- a page that is left
  page_left : (m p : ℕ) → Contains (noted_at rest m).pages p → (class_of ms m ≢ class) × Contains (noted_at ms m).pages p
  page_left m p h = by (cases_eq (class_of ms m) class)
    where
      by : (class_of ms m ≡ class) ⊎ (class_of ms m ≡ class → ⊥) → (class_of ms m ≢ class) × Contains (noted_at ms m).pages p
      by (inl is) = absurd (contains_nil p (subst (λ (l : List ℕ). Contains l p) (ap (λ (n : Kept). n.pages) (gone m is)) h))
      by (inr other) = (other, subst (λ (l : List ℕ). Contains l p) (ap (λ (n : Kept). n.pages) (stays m other)) h)

  joining_left : IsJoining (notes_in rest) (class_of rest)
  joining_left m n p a b =
      let one = page_left m p a in
      let two = page_left n p b in
      left_is m one.0 ∙ part.joining m n p one.1 two.1 ∙ sym (left_is n two.0)

  left_together : (x y : ℕ) → class_of ms x ≢ class → class_of ms y ≢ class → class_of ms x ≡ class_of ms y → AreTogether (notes_in rest) x y
  left_together x y one other same =
      together_left class (notes_in ms) (notes_in rest) (class_of ms) part.joining part.finest (λ m is. ap (λ (n : Kept). n.pages) (gone m is)) (λ m out. ap (λ (n : Kept). n.pages) (stays m out)) x y one other same

  -- a number of the class that goes is no other's class
  alone : (x y : ℕ) → class_of ms x ≡ class → class_of ms y ≢ class → x ≡ class_of ms y → ⊥
  alone x y one other same = by (vacant_or_not (noted_at ms y).standing)
    where
      by : ((noted_at ms y).standing ≡ Vacant) ⊎ ((noted_at ms y).standing ≢ Vacant) → ⊥
      by (inl none) = other (ap (class_of ms) (sym (same ∙ (part.none y none).1)) ∙ one)
      by (inr live) = other (sym ((part.named y live).1) ∙ ap (class_of ms) (sym same) ∙ one)

  finest_left : (x y : ℕ) → class_of rest x ≡ class_of rest y → (class_of ms x ≡ class) ⊎ (class_of ms x ≡ class → ⊥) → (class_of ms y ≡ class) ⊎ (class_of ms y ≡ class → ⊥) → AreTogether (notes_in rest) x y
  finest_left x y same (inl a) (inl b) = let e : x ≡ y = sym (gone_is x a) ∙ same ∙ gone_is y b in λ part joins. ap part e
  finest_left x y same (inl a) (inr other) = absurd (alone x y a other (sym (gone_is x a) ∙ same ∙ left_is y other))
  finest_left x y same (inr other) (inl b) = absurd (alone y x b other (sym (gone_is y b) ∙ sym same ∙ left_is x other))
  finest_left x y same (inr one) (inr two) = left_together x y one two (sym (left_is x one) ∙ same ∙ left_is y two)

  pub partition_left : ArePartition rest
  partition_left = record {
    inside = λ c m h. inside_left c m h (cases_eq (class_of ms c) class);
    listed = listed_left;
    named = named_left;
    none = λ m none. none_left m none (cases_eq (class_of ms m) class);
    joining = joining_left;
    finest = λ m n same. finest_left m n same (cases_eq (class_of ms m) class) (cases_eq (class_of ms n) class);
  }
