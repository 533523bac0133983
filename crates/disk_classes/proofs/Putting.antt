-- A put, and the classes after it.
use Rattle.std.proofs.Common.{◌≡◌, ◌≢◌, ◌<◌, ◌⊎◌, ℕ, List, [], ◌∷◌, length, refl, sym, ◌∙◌, ap, subst, inl, inr, arith, get_or, set, take, Option, Some, None, length-set}
use Rattle.std.specs.Prelude.{Bool, true, false, ◌==◌, if◌then◌else◌, Contains, MatchOption, MatchBool}
use Rattle.std.proofs.lemmas.Bool.{cases_eq}
use Rattle.std.proofs.lemmas.List.{take_all, take_at, set-set, set-get_or, get_or-set_same, get_or-set_other}
use Rattle.disk_classes.specs.Joined.{Note, IsWithPage, PutsPage}
use Rattle.disk_classes.specs.Notes.{vacant, bytes_in, noted_at, notes_in, note_of, class_of, entries_of, needed_by, needed_in, Joins, JoinsPage, NotesPage, ArePartition, AreValues, AreWithin}
use Rattle.disk_classes.specs.declared.member.Noted.{Noted as Kept}
use Rattle.disk_classes.specs.declared.members.Value.{Value}
use Rattle.disk_classes.specs.declared.member.Standing.TheVariants.{Vacant}
use Rattle.disk_classes.proofs.Counting.{needed_same}
use Rattle.disk_classes.proofs.Lists.{test_same, test_other, contains_nil}
use Rattle.disk_classes.proofs.Noted.{updated, noted_set, noted_other, live_within}
use Rattle.disk_classes.proofs.Numbering.{Grown, grown, joining_grown, finest_grown}
use Rattle.disk_classes.proofs.Partition.{AreListed, listed_of, partition_of, next_class, next_listed, next_live, moved_class, kept_class, joined_listed, joined_same, joined_were}

none_some : (p : ℕ) (all : List (Option Value)) → get_or all p None ≡ None → (value : Value) → get_or all p None ≡ Some value → ⊥
none_some p all none value some = absurd (let e : None ≡ Some value = sym none ∙ some in cc)

-- a member has a page only where there is one
pub putter_live : (ms : List Kept) → ArePartition ms → (m p : ℕ) → Contains (noted_at ms m).pages p → (noted_at ms m).standing ≢ Vacant
putter_live ms part m p h none = contains_nil p (subst (λ (l : List ℕ). Contains l p) ((part.none m none).0) h)

module _ (member page : ℕ) (ms : List Kept) (more : List ℕ) (part : ArePartition ms) (live : (noted_at ms member).standing ≢ Vacant)
    (with : IsWithPage page (noted_at ms member).pages more) where
  abbrev pub kept_more : Kept
  kept_more = record (noted_at ms member) { pages = more }

  abbrev pub noted_more : List Kept
  noted_more = set ms member kept_more

  at_member : noted_at noted_more member ≡ kept_more
  at_member = noted_set ms member kept_more (live_within ms member live)

  -- the page is taken out again
  pub taken_back : set noted_more member (record (noted_at noted_more member) { pages = take (length (noted_at ms member).pages) (noted_at noted_more member).pages }) ≡ ms
  taken_back =
      ap (λ (n : Kept). set noted_more member (record n { pages = take (length (noted_at ms member).pages) n.pages })) at_member
      ∙ ap (λ (l : List ℕ). set noted_more member (record kept_more { pages = l })) (back with)
      ∙ set-set ms member kept_more (noted_at ms member)
      ∙ set-get_or ms member (vacant member)
    where
      back : IsWithPage page (noted_at ms member).pages more → take (length (noted_at ms member).pages) more ≡ (noted_at ms member).pages
      back (inl (there, same)) = ap (take (length (noted_at ms member).pages)) same ∙ take_all (length (noted_at ms member).pages) (noted_at ms member).pages (omega arith)
      back (inr (absent, longer)) = ap (take (length (noted_at ms member).pages)) longer ∙ take_at (noted_at ms member).pages (page ∷ []) (length (noted_at ms member).pages) refl

  pages_member : (notes_in noted_more member).pages ≡ more
  pages_member = ap (λ (n : Kept). n.pages) at_member

  pub puts_page : PutsPage member page (notes_in ms) (notes_in noted_more)
  puts_page = record {
    standing = ap (λ (n : Kept). n.standing) at_member;
    limit = ap (λ (n : Kept). n.limit) at_member;
    pages = subst (λ (l : List ℕ). IsWithPage page (noted_at ms member).pages l) (sym pages_member) with;
    others = λ m other. ap note_of (noted_other ms member kept_more m other);
  }

  pub more_grown : Grown member page (notes_in ms) (notes_in noted_more)
  more_grown = grown member page (notes_in ms) (notes_in noted_more) (subst (λ (l : List ℕ). IsWithPage page (noted_at ms member).pages l) (sym pages_member) with)
      (λ m other. ap (λ (n : Kept). n.pages) (noted_other ms member kept_more m other))

  same_class : (m : ℕ) → class_of noted_more m ≡ class_of ms m
  same_class m = next_class ms member kept_more (listed_of ms part) refl refl live live m

  more_listed : AreListed noted_more
  more_listed = next_listed ms member kept_more (listed_of ms part) refl refl live live

  more_live : (m : ℕ) → (noted_at ms m).standing ≢ Vacant → (noted_at noted_more m).standing ≢ Vacant
  more_live m is = next_live ms member kept_more (listed_of ms part) refl refl live live m is

  -- all that put the page are of the member's class
  partition_noted : ((m : ℕ) → Contains (noted_at ms m).pages page → class_of ms m ≡ class_of ms member) → ArePartition noted_more
  partition_noted putters = partition_of noted_more more_listed
      (joining_grown member page (notes_in ms) (notes_in noted_more) more_grown (class_of ms) (class_of noted_more) part.joining
      (λ x y same. same_class x ∙ same ∙ sym (same_class y))
      (λ x h. same_class x ∙ putters x h ∙ sym (same_class member)))
      (λ x y same. finest_grown member page (notes_in ms) (notes_in noted_more) more_grown (class_of ms) (class_of noted_more) part.finest x y (inl (sym (same_class x) ∙ same ∙ same_class y)))

  -- the member's class is joined with that of another that put the page
  module _ (other from into : ℕ) (new : List Kept) (put : Contains (noted_at ms other).pages page) (apart : from ≢ into) (joins : Joins from into noted_more new)
      (sides : ((from ≡ class_of noted_more member) × (into ≡ class_of noted_more other)) ⊎ ((from ≡ class_of noted_more other) × (into ≡ class_of noted_more member))) where
    other_live : (noted_at ms other).standing ≢ Vacant
    other_live = putter_live ms part other page put

    abbrev IsName : ℕ → Type 0
    IsName c = (noted_at noted_more c).standing ≢ Vacant × (class_of noted_more c ≡ c)

    one_name : IsName (class_of noted_more member)
    one_name = more_listed.named member (more_live member live)

    two_name : IsName (class_of noted_more other)
    two_name = more_listed.named other (more_live other other_live)

    from_name : IsName from
    from_name = by sides
      where
        by : ((from ≡ class_of noted_more member) × (into ≡ class_of noted_more other)) ⊎ ((from ≡ class_of noted_more other) × (into ≡ class_of noted_more member)) → IsName from
        by (inl (a, b)) = subst IsName (sym a) one_name
        by (inr (a, b)) = subst IsName (sym a) two_name

    into_name : IsName into
    into_name = by sides
      where
        by : ((from ≡ class_of noted_more member) × (into ≡ class_of noted_more other)) ⊎ ((from ≡ class_of noted_more other) × (into ≡ class_of noted_more member)) → IsName into
        by (inl (a, b)) = subst IsName (sym b) two_name
        by (inr (a, b)) = subst IsName (sym b) one_name

    of_into : (m : ℕ) → (class_of noted_more m ≡ from) ⊎ (class_of noted_more m ≡ into) → class_of new m ≡ into
    of_into m (inl is) = moved_class from into noted_more new more_listed apart joins from_name.0 into_name.0 into_name.1 m is
    of_into m (inr is) = kept_class from into noted_more new more_listed apart joins from_name.0 into_name.0 into_name.1 m (λ e. apart (sym e ∙ is)) ∙ is

    member_into : class_of new member ≡ into
    member_into = by sides
      where
        by : ((from ≡ class_of noted_more member) × (into ≡ class_of noted_more other)) ⊎ ((from ≡ class_of noted_more other) × (into ≡ class_of noted_more member)) → class_of new member ≡ into
        by (inl (a, b)) = of_into member (inl (sym a))
        by (inr (a, b)) = of_into member (inr (sym b))

    other_into : (m : ℕ) → class_of noted_more m ≡ class_of noted_more other → class_of new m ≡ into
    other_into m is = by sides
      where
        by : ((from ≡ class_of noted_more member) × (into ≡ class_of noted_more other)) ⊎ ((from ≡ class_of noted_more other) × (into ≡ class_of noted_more member)) → class_of new m ≡ into
        by (inl (a, b)) = of_into m (inr (is ∙ sym b))
        by (inr (a, b)) = of_into m (inl (is ∙ sym a))

    putter_into : (m : ℕ) → Contains (noted_at ms m).pages page → class_of new m ≡ class_of new member
    putter_into m h = other_into m (same_class m ∙ part.joining m other page h put ∙ sym (same_class other)) ∙ sym member_into

    abbrev Were : ℕ → ℕ → Type 0
    Were x y = (class_of ms x ≡ class_of ms y) ⊎ ((v : ℕ) × Contains (noted_at ms v).pages page
        × (((class_of ms x ≡ class_of ms member) × (class_of ms y ≡ class_of ms v)) ⊎ ((class_of ms x ≡ class_of ms v) × (class_of ms y ≡ class_of ms member))))

    as_member : (m c : ℕ) → class_of noted_more m ≡ c → c ≡ class_of noted_more member → class_of ms m ≡ class_of ms member
    as_member m c is e = sym (same_class m) ∙ is ∙ e ∙ same_class member

    as_other : (m c : ℕ) → class_of noted_more m ≡ c → c ≡ class_of noted_more other → class_of ms m ≡ class_of ms other
    as_other m c is e = sym (same_class m) ∙ is ∙ e ∙ same_class other

    were : (x y : ℕ) → (class_of noted_more x ≡ class_of noted_more y) ⊎ (((class_of noted_more x ≡ from) × (class_of noted_more y ≡ into)) ⊎ ((class_of noted_more x ≡ into) × (class_of noted_more y ≡ from)))
        → ((from ≡ class_of noted_more member) × (into ≡ class_of noted_more other)) ⊎ ((from ≡ class_of noted_more other) × (into ≡ class_of noted_more member)) → Were x y
    were x y (inl same) any = inl (sym (same_class x) ∙ same ∙ same_class y)
    were x y (inr (inl (a, b))) (inl (c, d)) = inr (other, put, inl (as_member x from a c, as_other y into b d))
    were x y (inr (inl (a, b))) (inr (c, d)) = inr (other, put, inr (as_other x from a c, as_member y into b d))
    were x y (inr (inr (a, b))) (inl (c, d)) = inr (other, put, inr (as_other x into a d, as_member y from b c))
    were x y (inr (inr (a, b))) (inr (c, d)) = inr (other, put, inl (as_member x into a d, as_other y from b c))

    new_grown : Grown member page (notes_in ms) (notes_in new)
    new_grown = record {
      more = λ m p h. subst (λ (n : Note). Contains n.pages p) (sym (joins.notes m)) (more_grown.more m p h);
      here = subst (λ (n : Note). Contains n.pages page) (sym (joins.notes member)) more_grown.here;
      only = λ m p h. more_grown.only m p (subst (λ (n : Note). Contains n.pages p) (joins.notes m) h);
    }

    pub partition_joined : ArePartition new
    partition_joined = partition_of new (joined_listed from into noted_more new more_listed apart joins from_name.0 into_name.0 into_name.1)
        (joining_grown member page (notes_in ms) (notes_in new) new_grown (class_of ms) (class_of new) part.joining
        (λ x y same. joined_same from into noted_more new more_listed apart joins from_name.0 into_name.0 into_name.1 x y (same_class x ∙ same ∙ sym (same_class y)))
        putter_into)
        (λ x y same. finest_grown member page (notes_in ms) (notes_in new) new_grown (class_of ms) (class_of new) part.finest x y
        (were x y (joined_were from into noted_more new more_listed apart joins from_name.0 into_name.0 into_name.1 x y same) sides))

  -- in each case
  pub record Made (new : List Kept) : Type 0 where
    pub partition : ArePartition new
    pub notes : (m : ℕ) → notes_in new m ≡ notes_in noted_more m
    pub size : length new ≡ length noted_more

  made_same : (new : List Kept) → new ≡ noted_more → ArePartition noted_more → Made new
  made_same new is partition = record {
    partition = subst ArePartition (sym is) partition;
    notes = λ m. ap (λ (l : List Kept). notes_in l m) is;
    size = ap length is;
  }

  pub put_made : (values : List (Option Value)) (new : List Kept) → AreValues ms values → JoinsPage member page values noted_more new → Made new
  put_made values new vals joins = by (get_or values page None) refl joins
    where
      two : (value : Value) → get_or values page None ≡ Some value → class_of noted_more value.member ≢ class_of noted_more member
          → Joins (class_of noted_more member) (class_of noted_more value.member) noted_more new ⊎ Joins (class_of noted_more value.member) (class_of noted_more member) noted_more new → Made new
      two value is apart (inl joined) = record {
        partition = partition_joined value.member (class_of noted_more member) (class_of noted_more value.member) new (vals.by_one page value is) (λ e. apart (sym e)) joined (inl (refl, refl));
        notes = joined.notes;
        size = joined.size;
      }
      two value is apart (inr joined) = record {
        partition = partition_joined value.member (class_of noted_more value.member) (class_of noted_more member) new (vals.by_one page value is) apart joined (inr (refl, refl));
        notes = joined.notes;
        size = joined.size;
      }

      one : (value : Value) → get_or values page None ≡ Some value → (b : Bool) → (class_of noted_more member == class_of noted_more value.member) ≡ b
          → MatchBool b (new ≡ noted_more) (Joins (class_of noted_more member) (class_of noted_more value.member) noted_more new ⊎ Joins (class_of noted_more value.member) (class_of noted_more member) noted_more new) → Made new
      one value is true e same =
          let class : class_of ms value.member ≡ class_of ms member = sym (same_class value.member) ∙ sym (test_same (class_of noted_more member) (class_of noted_more value.member) e) ∙ same_class member in
          made_same new same (partition_noted (λ m h. part.joining m value.member page h (vals.by_one page value is) ∙ class))
      one value is false e joined = two value is (λ f. test_other (class_of noted_more member) (class_of noted_more value.member) e (sym f)) joined

      by : (o : Option Value) → get_or values page None ≡ o
          → MatchOption o (new ≡ noted_more) (λ (value : Value). MatchBool (class_of noted_more member == class_of noted_more value.member) (new ≡ noted_more)
          (Joins (class_of noted_more member) (class_of noted_more value.member) noted_more new ⊎ Joins (class_of noted_more value.member) (class_of noted_more member) noted_more new)) → Made new
      by None is same = made_same new same (partition_noted (λ m h. absurd (let there = vals.there m page h in none_some page values is there.0 there.1)))
      by (Some value) is joined = one value is (class_of noted_more member == class_of noted_more value.member) refl joined

  -- the values after it
  pub values_put : (values grown_values : List (Option Value)) (new : List Kept) (value : Value) → AreValues ms values → page < length grown_values
      → ((p : ℕ) → get_or grown_values p None ≡ get_or values p None) → Made new → value.member ≡ member → AreValues new (set grown_values page (Some value))
  values_put values grown_values new value vals lt same made is = record {
    by_one = λ p v e. by_one p v e (cases_eq p page);
    there = λ m p h. there m p (cases_eq p page) (more_grown.only m p (subst (λ (n : Note). Contains n.pages p) (made.notes m) h));
  }
    where
      here : get_or (set grown_values page (Some value)) page None ≡ Some value
      here = get_or-set_same grown_values page (Some value) None lt

      elsewhere : (p : ℕ) → p ≢ page → get_or (set grown_values page (Some value)) p None ≡ get_or values p None
      elsewhere p other = get_or-set_other grown_values page p (Some value) None other ∙ same p

      some_same : (a b : Value) → Some a ≡ Some b → a ≡ b
      some_same a b e = cc

      has : (m p : ℕ) → Contains (notes_in noted_more m).pages p → Contains (noted_at new m).pages p
      has m p h = subst (λ (n : Note). Contains n.pages p) (sym (made.notes m)) h

      by_one : (p : ℕ) (v : Value) → get_or (set grown_values page (Some value)) p None ≡ Some v → (p ≡ page) ⊎ (p ≡ page → ⊥) → Contains (noted_at new v.member).pages p
      by_one p v e (inl at) =
          let v_is : v ≡ value = some_same v value (sym e ∙ ap (λ (q : ℕ). get_or (set grown_values page (Some value)) q None) at ∙ here) in
          subst (λ (q : ℕ). Contains (noted_at new v.member).pages q) (sym at) (subst (λ (m : ℕ). Contains (noted_at new m).pages page) (sym (ap (λ (w : Value). w.member) v_is ∙ is)) (has member page more_grown.here))
      by_one p v e (inr other) = has v.member p (more_grown.more v.member p (vals.by_one p v (sym (elsewhere p other) ∙ e)))

      there : (m p : ℕ) → (p ≡ page) ⊎ (p ≡ page → ⊥) → Contains (notes_in ms m).pages p ⊎ ((m ≡ member) × (p ≡ page)) → (v : Value) × (get_or (set grown_values page (Some value)) p None ≡ Some v)
      there m p (inl at) any = (value, ap (λ (q : ℕ). get_or (set grown_values page (Some value)) q None) at ∙ here)
      there m p (inr other) (inl before) = let was = vals.there m p before in (was.0, elsewhere p other ∙ was.1)
      there m p (inr other) (inr (a, at)) = absurd (other at)

within_put : (pages page : ℕ) (values grown : List (Option Value)) (value : Value) → page < pages → ((p : ℕ) → get_or grown p None ≡ get_or values p None) → AreWithin pages values
    → (p : ℕ) (v : Value) → get_or (set grown page (Some value)) p None ≡ Some v → (p ≡ page) ⊎ (p ≡ page → ⊥) → p < pages
within_put pages page values grown value lt same old p v e (inl at) = omega (arith, at, lt)
within_put pages page values grown value lt same old p v e (inr other) = old p v (sym (same p) ∙ sym (get_or-set_other grown page p (Some value) None other) ∙ e)

-- a put is done
pub record IsDone (member page : ℕ) (ms new : List Kept) (before values : List (Option Value)) : Type 0 where
  pub partition : ArePartition new
  pub values_now : AreValues new values
  pub within : (pages : ℕ) → page < pages → AreWithin pages before → AreWithin pages values
  pub put : PutsPage member page (notes_in ms) (notes_in new)
  pub needed : needed_in new ≡ needed_in ms
  pub size : length new ≡ length ms

pub values_as : (ms : List Kept) (values other : List (Option Value)) → ((p : ℕ) → get_or other p None ≡ get_or values p None) → AreValues ms values → AreValues ms other
values_as ms values other same vals = record {
  by_one = λ p v e. vals.by_one p v (sym (same p) ∙ e);
  there = λ m p h. (let was = vals.there m p h in (was.0, same p ∙ was.1));
}

puts_as : (member page : ℕ) (old mid new : ℕ → Note) → ((m : ℕ) → new m ≡ mid m) → PutsPage member page old mid → PutsPage member page old new
puts_as member page old mid new same puts = record {
  standing = ap (λ (n : Note). n.standing) (same member) ∙ puts.standing;
  limit = ap (λ (n : Note). n.limit) (same member) ∙ puts.limit;
  pages = subst (λ (n : Note). IsWithPage page (old member).pages n.pages) (sym (same member)) puts.pages;
  others = λ m other. same m ∙ puts.others m other;
}

pub put_done : (member page : ℕ) (ms new : List Kept) (values grown : List (Option Value)) (value : Value) → ArePartition ms → AreValues ms values → (noted_at ms member).standing ≢ Vacant → page < length grown
    → ((p : ℕ) → get_or grown p None ≡ get_or values p None) → NotesPage member page grown ms new → value.member ≡ member → IsDone member page ms new values (set grown page (Some value))
put_done member page ms new values grown value part vals live room same (more, with, joins) is =
    let made = put_made member page ms more part live with grown new (values_as ms values grown same vals) joins in
    record {
      partition = made.partition;
      values_now = values_put member page ms more part live with values grown new value vals room same made is;
      within = λ pages lt old p v e. within_put pages page values grown value lt same old p v e (cases_eq p page);
      put = puts_as member page (notes_in ms) (notes_in (set ms member (record (noted_at ms member) { pages = more }))) (notes_in new) made.notes (puts_page member page ms more part live with);
      needed =
          needed_same ms new (made.size ∙ length-set ms member (record (noted_at ms member) { pages = more }))
          (λ m. ap (λ (n : Note). entries_of n.standing n.limit) (made.notes m) ∙ updated needed_by ms member (record (noted_at ms member) { pages = more }) refl m);
      size = made.size ∙ length-set ms member (record (noted_at ms member) { pages = more });
    }

-- and the values say so
pub value_after : (page : ℕ) (values grown : List (Option Value)) (value : Value) → page < length grown → ((p : ℕ) → get_or grown p None ≡ get_or values p None)
    → (p : ℕ) → bytes_in (get_or (set grown page (Some value)) p None) ≡ (if p == page then Some value.bytes else bytes_in (get_or values p None))
value_after page values grown value lt same p = by (p == page) refl
  where
    by : (b : Bool) → (p == page) ≡ b → bytes_in (get_or (set grown page (Some value)) p None) ≡ (if b then Some value.bytes else bytes_in (get_or values p None))
    by true e =
        ap bytes_in (subst (λ (q : ℕ). get_or (set grown page (Some value)) q None ≡ Some value) (sym (test_same p page e)) (get_or-set_same grown page (Some value) None lt))
    by false e = ap bytes_in (get_or-set_other grown page p (Some value) None (test_other p page e) ∙ same p)
