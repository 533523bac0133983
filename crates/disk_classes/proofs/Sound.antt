-- What stays true of classes, call by call.
use Rattle.std.proofs.Common.{◌≡◌, ◌≢◌, ◌<◌, ◌≤◌, ◌⊎◌, ◌∙◌, ℕ, suc, ◌+◌, ◌*◌, List, [], ◌∷◌, length, length-set, length-append, get_or, set, drop, refl, sym, ap, subst, inl, inr, arith, Option, Some, None}
use Rattle.std.specs.Prelude.{Contains, ◌==◌, if◌then◌else◌, Bool, true, false}
use Rattle.std.proofs.lemmas.Bool.{cases_eq, cases_lt}
use Rattle.std.proofs.lemmas.List.{drop_all, get_or_default}
use Rattle.std.proofs.lemmas.List.Sums.{sum_by-cons}
use Rattle.base_types.specs.View.{View}
use Rattle.disk_layout.specs.declared.half.Half.{Half}
use Rattle.disk_layout.specs.Pages.{ends_in}
use Rattle.disk_log.specs.Log.{state_of, IsIdle, IsSoundLog}
use Rattle.disk_log.specs.declared.log.Log.{Log}
use Rattle.disk_classes.specs.Classes.{log_of, notes_of, needed_of, IsSoundClasses, SameMembers}
use Rattle.disk_classes.specs.Commit.{CommitsClass}
use Rattle.disk_classes.specs.declared.classes.Classes.{Classes}
use Rattle.disk_classes.specs.declared.members.Members.{Members}
use Rattle.disk_log.specs.State.{State, HasNoOpen, free_in, forced_all}
use Rattle.disk_classes.specs.Joined.{Note, MayPut, PutsPage, IsWithPage, new_note}
use Rattle.disk_classes.specs.Notes.{vacant, fresh, bytes_in, noted_at, notes_in, note_of, class_of, entries_of, needed_by, needed_in, IsPlaced, pages_in_class, vacated, ArePartition, AreValues, AreWithin, IsPutIn}
use Rattle.disk_classes.specs.declared.member.Noted.{Noted as Kept}
use Rattle.disk_classes.specs.declared.members.Value.{Value}
use Rattle.disk_classes.specs.declared.member.Standing.{Standing}
use Rattle.disk_classes.specs.declared.member.Standing.TheVariants.{Vacant, Open, Ended}
use Rattle.disk_classes.proofs.Counting.{IsWithin, cost_of, cost_vacated, pages_live, needed_same, needs_all}
use Rattle.disk_classes.proofs.Lists.{test_same, test_other, contains_nil}
use Rattle.disk_classes.proofs.Noted.{updated, noted_set, noted_other, noted_past, live_within, open_live, vacated_in, vacated_out, length_vacated}
use Rattle.disk_classes.proofs.Partition.{partition_left}
use Rattle.disk_classes.proofs.Standing.{partition_ended, values_kept}

no_value : (value : Value) → None ≡ Some value → ⊥
no_value value e = absurd (cc)

-- no member
pub partition_none : ArePartition []
partition_none = record {
  inside = λ c m h. absurd (contains_nil m h);
  listed = λ m live. absurd (live refl);
  named = λ m live. absurd (live refl);
  none = λ m is. (refl, refl);
  joining = λ m n p a b. absurd (contains_nil p a);
  finest = λ m n same part joins. ap part same;
}

pub values_none : AreValues [] []
values_none = record {
  by_one = λ p value is. absurd (no_value value is);
  there = λ m p h. absurd (contains_nil p h);
}

pub within_none : (pages : ℕ) → AreWithin pages []
within_none pages p value is = absurd (no_value value is)

-- a member begins
pub limits_begun : (ms now : List Kept) (number limit : ℕ) → ((m : ℕ) → notes_in now m ≡ (if m == number then new_note limit else notes_in ms m))
    → ((m : ℕ) → length (notes_in ms m).pages ≤ (notes_in ms m).limit) → (m : ℕ) → length (notes_in now m).pages ≤ (notes_in now m).limit
limits_begun ms now number limit notes limits m = subst (λ (n : Note). length n.pages ≤ n.limit) (sym (notes m)) (by (m == number))
  where
    by : (b : Bool) → length (if b then new_note limit else notes_in ms m).pages ≤ (if b then new_note limit else notes_in ms m).limit
    by true = omega arith
    by false = limits m

pub lowest_vacant : (ms : List Kept) (number : ℕ) → number ≤ length ms → (number < length ms → (noted_at ms number).standing ≡ Vacant) → (noted_at ms number).standing ≡ Vacant
lowest_vacant ms number le is = by (cases_lt number (length ms))
  where
    by : (number < length ms) ⊎ (length ms ≤ number) → (noted_at ms number).standing ≡ Vacant
    by (inl lt) = is lt
    by (inr past) = ap (λ (n : Kept). n.standing) (noted_past ms number past)

-- as the call says it of an equal list
pub lowest_said : (ms other : List Kept) (number : ℕ) → other ≡ ms → number ≤ length other → (number < length other → (noted_at other number).standing ≡ Vacant) → (noted_at ms number).standing ≡ Vacant
lowest_said ms other number same le is = subst (λ (l : List Kept). (noted_at l number).standing ≡ Vacant) same (lowest_vacant other number le is)

pub below_said : (ms other : List Kept) (number : ℕ) → other ≡ ms → ((m : ℕ) → m < number → (noted_at other m).standing ≢ Vacant) → (m : ℕ) → m < number → (noted_at ms m).standing ≢ Vacant
below_said ms other number same all = subst (λ (l : List Kept). (m : ℕ) → m < number → (noted_at l m).standing ≢ Vacant) same all

-- each member needs an entry
live_many : (ms : List Kept) → ((k : ℕ) (d : Kept) → k < length ms → (get_or ms k d).standing ≢ Vacant) → length ms ≤ needed_in ms
live_many [] each = omega arith
live_many (n ∷ ms) each =
    let rest = live_many ms (λ k d lt. each (suc k) d (omega (arith, lt))) in
    let a = sum_by-cons needed_by n ms in
    let b = least n.standing n.limit (each 0 n (omega arith)) in
    omega (arith, rest, a, b)
  where
    least : (s : Standing) (limit : ℕ) → s ≢ Vacant → 1 ≤ entries_of s limit
    least Vacant limit live = absurd (live refl)
    least Open limit live = omega arith
    least Ended limit live = omega arith

pub few_begun : (ms now : List Kept) (number limit : ℕ) → ((m : ℕ) → m < number → (noted_at ms m).standing ≢ Vacant) → IsPlaced number (fresh number limit) ms now → length ms ≤ 2048 → needed_in ms + (2 * limit + 1) ≤ 2048 → length now ≤ 2048
few_begun ms now number limit lowest (inl (lt, is)) few room = let a = ap length is in let b = length-set ms number (fresh number limit) in omega (arith, a, b, few)
few_begun ms now number limit lowest (inr (at, is)) few room =
    let a = ap length is in
    let b = length-append ms (fresh number limit ∷ []) in
    let d = live_many ms (λ k d lt. subst (λ (n : Kept). n.standing ≢ Vacant) (get_or_default ms k (vacant k) d lt) (lowest k (omega (arith, lt, at)))) in
    omega (arith, a, b, d, room)

-- a member puts a page
with_more : (page limit : ℕ) (old new : List ℕ) → length old ≤ limit → Contains old page ⊎ (length old < limit) → IsWithPage page old new → length new ≤ limit
with_more page limit old new le any (inl (there, same)) = let e = ap length same in omega (arith, e, le)
with_more page limit old new le (inl there) (inr (absent, longer)) = absurd (absent there)
with_more page limit old new le (inr lt) (inr (absent, longer)) = let e = ap length longer in let f = length-append old (page ∷ []) in omega (arith, e, f, lt)

pub limits_put : (member page : ℕ) (old new : ℕ → Note) → MayPut (old member) page → PutsPage member page old new → ((m : ℕ) → length (old m).pages ≤ (old m).limit) → (m : ℕ) → length (new m).pages ≤ (new m).limit
limits_put member page old new may puts limits m = by (cases_eq m member)
  where
    by : (m ≡ member) ⊎ (m ≡ member → ⊥) → length (new m).pages ≤ (new m).limit
    by (inl e) = subst (λ (k : ℕ). length (new k).pages ≤ (new k).limit) (sym e)
        (subst (λ (limit : ℕ). length (new member).pages ≤ limit) (sym puts.limit) (with_more page (old member).limit (old member).pages (new member).pages (limits member) may.1 puts.pages))
    by (inr other) = subst (λ (n : Note). length n.pages ≤ n.limit) (sym (puts.others m other)) (limits m)

-- a member ends
module _ (ms : List Kept) (member : ℕ) (lt : member < length ms) where
  abbrev ended_one : Kept
  ended_one = record (noted_at ms member) { standing = Ended }

  pub notes_ended : (m : ℕ) → notes_in (set ms member ended_one) m ≡ (if m == member then record (notes_in ms m) { standing = Ended } else notes_in ms m)
  notes_ended m = by (m == member) refl
    where
      by : (b : Bool) → (m == member) ≡ b → notes_in (set ms member ended_one) m ≡ (if b then record (notes_in ms m) { standing = Ended } else notes_in ms m)
      by true e =
          let same : m ≡ member = test_same m member e in
          subst (λ (k : ℕ). notes_in (set ms member ended_one) k ≡ record (notes_in ms k) { standing = Ended }) (sym same) (ap note_of (noted_set ms member ended_one lt))
      by false e = ap note_of (noted_other ms member ended_one m (test_other m member e))

  pub pages_ended : (m : ℕ) → (noted_at (set ms member ended_one) m).pages ≡ (noted_at ms m).pages
  pages_ended m = updated (λ (n : Kept). n.pages) ms member ended_one refl m

  pub limits_ended : ((m : ℕ) → length (notes_in ms m).pages ≤ (notes_in ms m).limit) → (m : ℕ) → length (notes_in (set ms member ended_one) m).pages ≤ (notes_in (set ms member ended_one) m).limit
  limits_ended limits m =
      let a = updated (λ (n : Kept). length n.pages) ms member ended_one refl m in
      let b = updated (λ (n : Kept). n.limit) ms member ended_one refl m in
      let le = limits m in
      omega (arith, a, b, le)

  pub needed_ended : (noted_at ms member).standing ≡ Open → needed_in (set ms member ended_one) ≡ needed_in ms
  needed_ended is = needed_same ms (set ms member ended_one) (length-set ms member ended_one) (updated needed_by ms member ended_one (same (noted_at ms member) is))
    where
      same : (n : Kept) → n.standing ≡ Open → needed_by (record n { standing = Ended }) ≡ needed_by n
      same n e = subst (λ (k : Kept). needed_by (record n { standing = Ended }) ≡ needed_by k) (λ j. record n { standing = sym e j }) refl

-- a class is committed
module _ (class : ℕ) (ms : List Kept) (values after : List (Option Value)) (part : ArePartition ms) (limits : (m : ℕ) → length (notes_in ms m).pages ≤ (notes_in ms m).limit) (vals : AreValues ms values)
    (live : (noted_at ms class).standing ≢ Vacant) (named : class_of ms class ≡ class) where
  within_each : (k : ℕ) (d : Kept) → k < length ms → IsWithin (get_or ms k d)
  within_each k d lt = subst IsWithin (same k d lt) (limits k, λ none. ap length ((part.none k none).0))
    where
      same : (k : ℕ) (d : Kept) → k < length ms → noted_at ms k ≡ get_or ms k d
      same k d lt = get_or_default ms k (vacant k) d lt

  pub costs : 2 * pages_in_class class ms + 1 ≤ cost_of class ms
  costs = pages_live class ms class (vacant class) within_each (live_within ms class live) named live

  pub room_for : (free : ℕ) → needed_in ms ≤ free → 2 * pages_in_class class ms + 1 ≤ free
  room_for free le = let a = costs in let b = cost_vacated class 0 ms in omega (arith, a, b, le)

  pub room_after : (free next : ℕ) → needed_in ms ≤ free → free ≤ next + pages_in_class class ms + 1 → needed_in (vacated class 0 ms) ≤ next
  room_after free next le less = let a = costs in let b = cost_vacated class 0 ms in omega (arith, a, b, le, less)

  pub limits_left : (m : ℕ) → length (notes_in (vacated class 0 ms) m).pages ≤ (notes_in (vacated class 0 ms) m).limit
  limits_left m = by (cases_eq (class_of ms m) class)
    where
      by : (class_of ms m ≡ class) ⊎ (class_of ms m ≡ class → ⊥) → length (notes_in (vacated class 0 ms) m).pages ≤ (notes_in (vacated class 0 ms) m).limit
      by (inl is) = subst (λ (n : Kept). length n.pages ≤ n.limit) (sym (vacated_in class m ms is)) (omega arith)
      by (inr other) = subst (λ (n : Kept). length n.pages ≤ n.limit) (sym (vacated_out class m ms other)) (limits m)

  module _ (put : (p : ℕ) → IsPutIn class ms p → get_or after p None ≡ None) (kept : (p : ℕ) → (IsPutIn class ms p → ⊥) → get_or after p None ≡ get_or values p None) where
    put_or_not : (p : ℕ) (o : Option Value) → get_or values p None ≡ o → IsPutIn class ms p ⊎ (IsPutIn class ms p → ⊥)
    put_or_not p None none = inr (λ (m, of, has). let there = vals.there m p has in no_value there.0 (sym none ∙ there.1))
    put_or_not p (Some value) is = by (cases_eq (class_of ms value.member) class)
      where
        by : (class_of ms value.member ≡ class) ⊎ (class_of ms value.member ≡ class → ⊥) → IsPutIn class ms p ⊎ (IsPutIn class ms p → ⊥)
        by (inl of) = inl (value.member, of, vals.by_one p value is)
        by (inr other) = inr (λ (m, of, has). other (part.joining value.member m p (vals.by_one p value is) has ∙ of))

    was_there : (p : ℕ) (value : Value) → get_or after p None ≡ Some value → IsPutIn class ms p ⊎ (IsPutIn class ms p → ⊥) → (IsPutIn class ms p → ⊥) × (get_or values p None ≡ Some value)
    was_there p value is (inl h) = absurd (no_value value (sym (put p h) ∙ is))
    was_there p value is (inr out) = (out, sym (kept p out) ∙ is)

    pub within_left : (pages : ℕ) → AreWithin pages values → AreWithin pages after
    within_left pages within p value is = within p value (was_there p value is (put_or_not p (get_or values p None) refl)).1

    has_left : (m p : ℕ) → (class_of ms m ≡ class) ⊎ (class_of ms m ≡ class → ⊥) → Contains (noted_at (vacated class 0 ms) m).pages p → (class_of ms m ≢ class) × Contains (noted_at ms m).pages p
    has_left m p (inl of) h = absurd (contains_nil p (subst (λ (n : Kept). Contains n.pages p) (vacated_in class m ms of) h))
    has_left m p (inr other) h = (other, subst (λ (n : Kept). Contains n.pages p) (vacated_out class m ms other) h)

    pub values_left : AreValues (vacated class 0 ms) after
    values_left = record { by_one = by_one; there = there }
      where
        by_one : (p : ℕ) (value : Value) → get_or after p None ≡ Some value → Contains (noted_at (vacated class 0 ms) value.member).pages p
        by_one p value is =
            let was = was_there p value is (put_or_not p (get_or values p None) refl) in
            let has = vals.by_one p value was.1 in
            subst (λ (n : Kept). Contains n.pages p) (sym (vacated_out class value.member ms (λ of. was.0 (value.member, of, has)))) has

        there : (m p : ℕ) → Contains (noted_at (vacated class 0 ms) m).pages p → (value : Value) × (get_or after p None ≡ Some value)
        there m p h =
            let has = has_left m p (cases_eq (class_of ms m) class) h in
            let was = vals.there m p has.1 in
            (was.0, kept p (λ (k, of, had). has.0 (part.joining m k p has.1 had ∙ of)) ∙ was.1)

-- all is forced
pub none_last : (state forced : State) → forced ≡ forced_all state → ends_in (drop forced.forced forced.entries) ≡ 0
none_last state forced is =
    ap (λ (s : State). ends_in (drop s.forced s.entries)) is
    ∙ ap ends_in (drop_all (length state.entries) state.entries (omega arith))

pub none_forced : (state forced : State) → forced ≡ forced_all state → HasNoOpen state → HasNoOpen forced
none_forced state forced is none slot = ap (λ (s : State). get_or s.reservations slot 0) is ∙ none slot

pub free_forced : (state forced : State) → forced ≡ forced_all state → free_in forced ≡ free_in state
free_forced state forced is = ap free_in is

pub sound_new : {D : Type 0} (tells : Type 0) (view : D → View) (log : Log D) (members : Members) → IsIdle tells view log → members.noted ≡ [] → members.values ≡ []
    → IsSoundClasses tells view (record { log = log; members = members })
sound_new tells view log members idle noted values = record {
  idle = idle;
  partition = subst ArePartition (sym noted) partition_none;
  limits = λ m. subst (λ (l : List Kept). length (notes_in l m).pages ≤ (notes_in l m).limit) (sym noted) (omega arith);
  values = subst (λ (l : List Kept). AreValues l members.values) (sym noted) (subst (AreValues []) (sym values) values_none);
  within = subst (AreWithin (state_of log).half.pages) (sym values) (within_none (state_of log).half.pages);
  room = (let e : needed_in members.noted ≡ 0 = ap needed_in noted in omega (arith, e));
  few = (let e : length members.noted ≡ 0 = ap length noted in omega (arith, e));
  needs = needs_all members.noted (let e : length members.noted ≡ 0 = ap length noted in omega (arith, e));
}

-- the same members over a log that was read, or left as it was
pub sound_over : {D : Type 0} (tells : Type 0) (view : D → View) (old : Classes D) (log : Log D) (members : Members) → IsSoundClasses tells view old → members ≡ old.members → IsIdle tells view log → state_of log ≡ state_of (log_of old)
    → IsSoundClasses tells view (record { log = log; members = members })
sound_over tells view old log members sound same idle state = record {
  idle = idle;
  partition = subst (λ (ms : Members). ArePartition ms.noted) (sym same) sound.partition;
  limits = λ m. subst (λ (ms : Members). length (notes_in ms.noted m).pages ≤ (notes_in ms.noted m).limit) (sym same) (sound.limits m);
  values = subst (λ (ms : Members). AreValues ms.noted ms.values) (sym same) sound.values;
  within = subst (λ (ms : Members). AreWithin (state_of log).half.pages ms.values) (sym same) (subst (λ (s : State). AreWithin s.half.pages old.members.values) (sym state) sound.within);
  room = (let e : needed_in members.noted ≡ needed_of old = ap (λ (ms : Members). needed_in ms.noted) same in let f : free_in (state_of log) ≡ free_in (state_of (log_of old)) = ap free_in state in let g = sound.room in omega (arith, e, f, g));
  few = (let e : length members.noted ≡ length old.members.noted = ap (λ (ms : Members). length ms.noted) same in let f = sound.few in omega (arith, e, f));
  needs = needs_all members.noted (let e : length members.noted ≡ length old.members.noted = ap (λ (ms : Members). length ms.noted) same in let f = sound.few in omega (arith, e, f));
}

pub idle_over : {D : Type 0} (tells : Type 0) (view : D → View) (old log : Log D) → IsIdle tells view old → IsSoundLog tells view log → state_of log ≡ state_of old → IsIdle tells view log
idle_over tells view old log idle sound state = record { sound = sound; none_open = subst HasNoOpen (sym state) idle.none_open }

pub same_self : {D : Type 0} (old : Classes D) (log : Log D) (members : Members) → members ≡ old.members → SameMembers old (record { log = log; members = members })
same_self old log members same = record {
  notes = λ m. ap (λ (ms : Members). notes_in ms.noted m) same;
  values = λ p. ap (λ (ms : Members). bytes_in (get_or ms.values p None)) same;
  needed = ap (λ (ms : Members). needed_in ms.noted) same;
}

-- all is forced
pub sound_forced : {D : Type 0} (tells : Type 0) (view : D → View) (mid : Classes D) (log : Log D) → IsSoundClasses tells view mid → IsSoundLog tells view log → state_of log ≡ forced_all (state_of (log_of mid))
    → IsSoundClasses tells view (record { log = log; members = mid.members })
sound_forced tells view mid log sound logged state = record {
  idle = record { sound = logged; none_open = none_forced (state_of (log_of mid)) (state_of log) state sound.idle.none_open };
  partition = sound.partition;
  limits = sound.limits;
  values = sound.values;
  within = subst (λ (s : State). AreWithin s.half.pages mid.members.values) (sym state) sound.within;
  room = (let f = free_forced (state_of (log_of mid)) (state_of log) state in let g = sound.room in omega (arith, f, g));
  few = sound.few;
  needs = needs_all mid.members.noted (sound.few);
}

-- a class is committed
pub sound_left : {D : Type 0} (tells : Type 0) (view : D → View) (class : ℕ) (old : Classes D) (log : Log D) (members : Members) → IsSoundClasses tells view old → (notes_of old class).standing ≢ Vacant → class_of old.members.noted class ≡ class
    → IsIdle tells view log → CommitsClass tells view class old.members.noted old.members.values (log_of old) log → members.noted ≡ vacated class 0 old.members.noted
    → ((p : ℕ) → IsPutIn class old.members.noted p → get_or members.values p None ≡ None) → ((p : ℕ) → (IsPutIn class old.members.noted p → ⊥) → get_or members.values p None ≡ get_or old.members.values p None)
    → IsSoundClasses tells view (record { log = log; members = members })
sound_left tells view class old log members sound live named idle commits noted put kept =
    let ms = old.members.noted in
    let values = old.members.values in
    record {
      idle = idle;
      partition = subst ArePartition (sym noted) (partition_left class ms sound.partition named);
      limits = λ m. subst (λ (l : List Kept). length (notes_in l m).pages ≤ (notes_in l m).limit) (sym noted)
          (limits_left class ms values members.values sound.partition sound.limits sound.values live named m);
      values = subst (λ (l : List Kept). AreValues l members.values) (sym noted)
          (values_left class ms values members.values sound.partition sound.limits sound.values live named put kept);
      within = within_left class ms values members.values sound.partition sound.limits sound.values live named put kept (state_of log).half.pages
          (subst (λ (h : Half). AreWithin h.pages values) (sym commits.keeps.half) sound.within);
      room =
          (let e : needed_in members.noted ≡ needed_in (vacated class 0 ms) = ap needed_in noted in
          let f = room_after class ms values members.values sound.partition sound.limits sound.values live named (free_in (state_of (log_of old))) (free_in (state_of log)) sound.room commits.room in
          omega (arith, e, f));
      few = (let e = ap length noted in let f = length_vacated class 0 ms in let g = sound.few in omega (arith, e, f, g));
      needs = needs_all members.noted (let e = ap length noted in let f = length_vacated class 0 ms in let g = sound.few in omega (arith, e, f, g));
    }

-- a member ends
module _ {D : Type 0} (old : Classes D) (members : Members) (member : ℕ) (is : (notes_of old member).standing ≡ Open) (noted : members.noted ≡ set old.members.noted member (record (noted_at old.members.noted member) { standing = Ended })) where
  ended_within : member < length old.members.noted
  ended_within = live_within old.members.noted member (open_live (noted_at old.members.noted member).standing is)

  pub notes_said : (m : ℕ) → notes_in members.noted m ≡ (if m == member then record (notes_of old m) { standing = Ended } else notes_of old m)
  notes_said m = ap (λ (l : List Kept). notes_in l m) noted ∙ notes_ended old.members.noted member ended_within m

  pub needed_said : needed_in members.noted ≡ needed_of old
  needed_said = ap needed_in noted ∙ needed_ended old.members.noted member ended_within is

  pub sound_ended : (tells : Type 0) (view : D → View) → IsSoundClasses tells view old → members.values ≡ old.members.values → IsSoundClasses tells view (record { log = log_of old; members = members })
  sound_ended tells view sound values = record {
    idle = sound.idle;
    partition = subst ArePartition (sym noted) (partition_ended old.members.noted member sound.partition (open_live (noted_at old.members.noted member).standing is));
    limits = λ m. subst (λ (l : List Kept). length (notes_in l m).pages ≤ (notes_in l m).limit) (sym noted) (limits_ended old.members.noted member ended_within sound.limits m);
    values = subst (λ (l : List Kept). AreValues l members.values) (sym noted) (subst (AreValues (set old.members.noted member (record (noted_at old.members.noted member) { standing = Ended }))) (sym values)
        (values_kept old.members.noted (set old.members.noted member (record (noted_at old.members.noted member) { standing = Ended })) old.members.values (pages_ended old.members.noted member ended_within) sound.values));
    within = subst (AreWithin (state_of (log_of old)).half.pages) (sym values) sound.within;
    room = (let e = needed_said in let f = sound.room in omega (arith, e, f));
    few = (let e = ap length noted in let f = length-set old.members.noted member (record (noted_at old.members.noted member) { standing = Ended }) in let h = sound.few in omega (arith, e, f, h));
    needs = needs_all members.noted (let e = ap length noted in let f = length-set old.members.noted member (record (noted_at old.members.noted member) { standing = Ended }) in let h = sound.few in omega (arith, e, f, h));
  }
