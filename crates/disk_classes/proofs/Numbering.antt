-- Numberings that tell the classes of members.
use Rattle.std.proofs.Common.{◌≡◌, ◌≢◌, ◌⊎◌, ℕ, suc, List, [], ◌∷◌, refl, sym, ◌∙◌, ap, subst, inl, inr, arith}
use Rattle.std.specs.Prelude.{Bool, true, false, ◌==◌, if◌then◌else◌, Contains}
use Rattle.std.proofs.lemmas.Bool.{cases_eq}
use Rattle.std.proofs.lemmas.List.Elements.{Contains-append_left, Contains-push, Contains-push_cases}
use Rattle.disk_classes.specs.Joined.{Note, IsJoining, AreTogether, IsWithPage}
use Rattle.disk_classes.proofs.Lists.{test_same, test_other}

-- A member put a page, and nothing else changed of what was put.
pub record Grown (member page : ℕ) (old new : ℕ → Note) : Type 0 where
  pub more : (m p : ℕ) → Contains (old m).pages p → Contains (new m).pages p
  pub here : Contains (new member).pages page
  pub only : (m p : ℕ) → Contains (new m).pages p → Contains (old m).pages p ⊎ ((m ≡ member) × (p ≡ page))

with_more : (page p : ℕ) (old new : List ℕ) → IsWithPage page old new → Contains old p → Contains new p
with_more page p old new (inl (there, same)) h = subst (λ (l : List ℕ). Contains l p) (sym same) h
with_more page p old new (inr (absent, more)) h = subst (λ (l : List ℕ). Contains l p) (sym more) (Contains-append_left old (page ∷ []) p h)

with_here : (page : ℕ) (old new : List ℕ) → IsWithPage page old new → Contains new page
with_here page old new (inl (there, same)) = subst (λ (l : List ℕ). Contains l page) (sym same) there
with_here page old new (inr (absent, more)) = subst (λ (l : List ℕ). Contains l page) (sym more) (Contains-push old page)

with_only : (page p : ℕ) (old new : List ℕ) → IsWithPage page old new → Contains new p → Contains old p ⊎ (p ≡ page)
with_only page p old new (inl (there, same)) h = inl (subst (λ (l : List ℕ). Contains l p) same h)
with_only page p old new (inr (absent, more)) h = by (Contains-push_cases old page p (subst (λ (l : List ℕ). Contains l p) more h))
  where
    by : Contains old p ⊎ (page ≡ p) → Contains old p ⊎ (p ≡ page)
    by (inl before) = inl before
    by (inr e) = inr (sym e)

pub grown : (member page : ℕ) (old new : ℕ → Note) → IsWithPage page (old member).pages (new member).pages → ((m : ℕ) → m ≢ member → (new m).pages ≡ (old m).pages) → Grown member page old new
grown member page old new with others = record {
  more = λ m p h. more m p h (cases_eq m member);
  here = with_here page (old member).pages (new member).pages with;
  only = λ m p h. only m p h (cases_eq m member);
}
  where
    more : (m p : ℕ) → Contains (old m).pages p → (m ≡ member) ⊎ (m ≡ member → ⊥) → Contains (new m).pages p
    more m p h (inl e) = subst (λ (k : ℕ). Contains (new k).pages p) (sym e) (with_more page p (old member).pages (new member).pages with (subst (λ (k : ℕ). Contains (old k).pages p) e h))
    more m p h (inr ne) = subst (λ (l : List ℕ). Contains l p) (sym (others m ne)) h

    here_or : (m p : ℕ) → m ≡ member → Contains (old member).pages p ⊎ (p ≡ page) → Contains (old m).pages p ⊎ ((m ≡ member) × (p ≡ page))
    here_or m p e (inl before) = inl (subst (λ (k : ℕ). Contains (old k).pages p) (sym e) before)
    here_or m p e (inr is) = inr (e, is)

    only : (m p : ℕ) → Contains (new m).pages p → (m ≡ member) ⊎ (m ≡ member → ⊥) → Contains (old m).pages p ⊎ ((m ≡ member) × (p ≡ page))
    only m p h (inl e) = here_or m p e (with_only page p (old member).pages (new member).pages with (subst (λ (k : ℕ). Contains (new k).pages p) e h))
    only m p h (inr ne) = inl (subst (λ (l : List ℕ). Contains l p) (others m ne) h)

-- a numbering before a put, and one after it
module _ (member page : ℕ) (old new : ℕ → Note) (more : Grown member page old new) (before after : ℕ → ℕ) where
  pub joining_grown : IsJoining old before → ((x y : ℕ) → before x ≡ before y → after x ≡ after y) → ((x : ℕ) → Contains (old x).pages page → after x ≡ after member) → IsJoining new after
  joining_grown joins kept putters m n p first second = by (more.only m p first) (more.only n p second)
    where
      by : Contains (old m).pages p ⊎ ((m ≡ member) × (p ≡ page)) → Contains (old n).pages p ⊎ ((n ≡ member) × (p ≡ page)) → after m ≡ after n
      by (inl a) (inl b) = kept m n (joins m n p a b)
      by (inl a) (inr (e, is)) = putters m (subst (λ (q : ℕ). Contains (old m).pages q) is a) ∙ ap after (sym e)
      by (inr (e, is)) (inl b) = ap after e ∙ sym (putters n (subst (λ (q : ℕ). Contains (old n).pages q) is b))
      by (inr (e, is)) (inr (f, it)) = ap after (e ∙ sym f)

  -- two of one class now were of one class, or of those of the member and of another that put the page
  abbrev pub WereJoined : ℕ → ℕ → Type 0
  WereJoined x y = (before x ≡ before y) ⊎ ((v : ℕ) × Contains (old v).pages page
      × (((before x ≡ before member) × (before y ≡ before v)) ⊎ ((before x ≡ before v) × (before y ≡ before member))))

  pub finest_grown : ((x y : ℕ) → before x ≡ before y → AreTogether old x y) → (x y : ℕ) → WereJoined x y → AreTogether new x y
  finest_grown finest x y were part joins = by were
    where
      earlier : IsJoining old part
      earlier m n p a b = joins m n p (more.more m p a) (more.more n p b)

      share : (v : ℕ) → Contains (old v).pages page → part member ≡ part v
      share v put = joins member v page more.here (more.more v page put)

      sides : (v : ℕ) → Contains (old v).pages page → ((before x ≡ before member) × (before y ≡ before v)) ⊎ ((before x ≡ before v) × (before y ≡ before member)) → part x ≡ part y
      sides v put (inl (a, b)) = finest x member a part earlier ∙ share v put ∙ sym (finest y v b part earlier)
      sides v put (inr (a, b)) = finest x v a part earlier ∙ sym (share v put) ∙ sym (finest y member b part earlier)

      by : WereJoined x y → part x ≡ part y
      by (inl same) = finest x y same part earlier
      by (inr (v, put, ends)) = sides v put ends

-- the same pages, the same classes
pub together_same : (old new : ℕ → Note) → ((m : ℕ) → (new m).pages ≡ (old m).pages) → (x y : ℕ) → AreTogether old x y → AreTogether new x y
together_same old new same x y together part joins =
    together part (λ m n p a b. joins m n p (subst (λ (l : List ℕ). Contains l p) (sym (same m)) a) (subst (λ (l : List ℕ). Contains l p) (sym (same n)) b))

pub joining_same : (old new : ℕ → Note) (part : ℕ → ℕ) → ((m : ℕ) → (new m).pages ≡ (old m).pages) → IsJoining old part → IsJoining new part
joining_same old new part same joins m n p a b = joins m n p (subst (λ (l : List ℕ). Contains l p) (same m) a) (subst (λ (l : List ℕ). Contains l p) (same n) b)

-- A class goes: each of its numbers is a class by itself.
module _ (class : ℕ) (old new : ℕ → Note) (before : ℕ → ℕ) (joins_old : IsJoining old before) (finest_old : (x y : ℕ) → before x ≡ before y → AreTogether old x y)
    (gone : (m : ℕ) → before m ≡ class → (new m).pages ≡ []) (stays : (m : ℕ) → before m ≢ class → (new m).pages ≡ (old m).pages) where
  abbrev part_of : (ℕ → ℕ) → ℕ → ℕ
  part_of part m = if before m == class then 0 else suc (part m)

  part_gone : (part : ℕ → ℕ) (m : ℕ) → before m ≡ class → part_of part m ≡ 0
  part_gone part m is = by (before m == class) refl
    where
      by : (b : Bool) → (before m == class) ≡ b → (if b then 0 else suc (part m)) ≡ 0
      by true e = refl
      by false e = absurd (test_other (before m) class e is)

  part_stays : (part : ℕ → ℕ) (m : ℕ) → before m ≢ class → part_of part m ≡ suc (part m)
  part_stays part m other = by (before m == class) refl
    where
      by : (b : Bool) → (before m == class) ≡ b → (if b then 0 else suc (part m)) ≡ suc (part m)
      by true e = absurd (other (test_same (before m) class e))
      by false e = refl

  part_joins : (part : ℕ → ℕ) → IsJoining new part → IsJoining old (part_of part)
  part_joins part joins m n p a b = by (cases_eq (before m) class)
    where
      one : before m ≡ before n
      one = joins_old m n p a b

      by : (before m ≡ class) ⊎ (before m ≡ class → ⊥) → part_of part m ≡ part_of part n
      by (inl is) = part_gone part m is ∙ sym (part_gone part n (sym one ∙ is))
      by (inr other) =
          let there : before n ≢ class = λ e. other (one ∙ e) in
          part_stays part m other
          ∙ ap suc (joins m n p (subst (λ (l : List ℕ). Contains l p) (sym (stays m other)) a) (subst (λ (l : List ℕ). Contains l p) (sym (stays n there)) b))
          ∙ sym (part_stays part n there)

  pub together_left : (x y : ℕ) → before x ≢ class → before y ≢ class → before x ≡ before y → AreTogether new x y
  together_left x y one other same part joins =
      let e : suc (part x) ≡ suc (part y) = sym (part_stays part x one) ∙ finest_old x y same (part_of part) (part_joins part joins) ∙ part_stays part y other in
      omega (arith, e)
