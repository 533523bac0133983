-- Pages that recovery writes in place.
use Rattle.std.proofs.Common.{drop, drop-cons, set, length-set, subst, Option, Some, None, ◌≡◌, ◌≢◌, ◌<◌, ◌≤◌, ◌⊎◌, ℕ, zero, suc, ◌+◌, List, [], ◌∷◌, ◌++◌, length, take, refl, sym, ◌∙◌, ap, inl, inr, ⊎_elim, arith, get_or}
use Rattle.std.specs.Prelude.{Bool, true, false, ◌==◌, ◌&&◌, ◌||◌, not, if◌then◌else◌, IsSome, cond, replicate}
use Rattle.std.proofs.lemmas.Bool.{cases_lt}
use Rattle.std.proofs.lemmas.Bool.Decides.{nat_tests}
use Rattle.std.proofs.lemmas.List.{take_more, get_or-set_other, get_or_default}
use Rattle.std.proofs.lemmas.Grind.{get_or-set_at}
use Rattle.base_types.specs.Image.{Torn}
use Rattle.base_outside.proofs.Image.{bytes_from-before, bytes_from-behind}
use Rattle.disk_layout.specs.declared.entry.Entry.{Entry}
use Rattle.disk_layout.specs.declared.entry.Entry.TheVariants.{Update, End}
use Rattle.disk_layout.specs.Places.{in_place, page_start}
use Rattle.disk_layout.specs.Pages.{redone, undone, recovered, is_ended, is_named, SameButPages}
use Rattle.disk_log.specs.Pages.{AreKept}
use Rattle.std.specs.Ordering.{nat_cmp}
use Rattle.std.specs.BTreeSet.{BTreeSet, contains}
use Rattle.std.specs.BTreeMap.{is_at}
use Rattle.std.specs.Cmp.{unsigned_tied}
use Rattle.disk_log.specs.Recovered.{blank_page, AreEnds}
use Rattle.disk_log.proofs.Fresh.{get_or-same}
use Rattle.disk_log.proofs.Reading.{place_of}

or_false : (b : Bool) → (b || false) ≡ b
or_false true = refl
or_false false = refl

pub same_pages : (Stays : ℕ → Type 0) (image : List ℕ) → SameButPages Stays image image
same_pages Stays image = record { log = λ at lt. refl; pages = λ p out. refl; blocks = λ n out at from. refl }

pub then_pages : (Stays : ℕ → Type 0) (a b c : List ℕ) → SameButPages Stays a b → SameButPages Stays b c → SameButPages Stays a c
then_pages Stays a b c one two = record {
  log = λ at lt. two.log at lt ∙ one.log at lt;
  pages = λ p out. two.pages p out ∙ one.pages p out;
  blocks = λ n out at from. two.blocks n out at from ∙ one.blocks n out at from;
}

pub wider_pages : (Stays More : ℕ → Type 0) (a b : List ℕ) → ((p : ℕ) → More p → Stays p) → SameButPages Stays a b → SameButPages More a b
wider_pages Stays More a b so same = record { log = same.log; pages = λ p out. same.pages p (so p out); blocks = λ n out. same.blocks n (λ p le. so p (out p le)) }

pub named_part : (all : List Entry) (k p : ℕ) (default : Entry) → k < length all → is_named p all ≡ false → is_named p (get_or all k default ∷ []) ≡ false
named_part [] k p default lt out = absurd (omega arith)
named_part (Update t page old new ∷ all) zero p default lt out = or_false (page == p) ∙ left (page == p) (is_named p all) out
  where
    left : (a b : Bool) → (a || b) ≡ false → a ≡ false
    left true b e = e
    left false b e = refl
named_part (End t ∷ all) zero p default lt out = refl
named_part (Update t page old new ∷ all) (suc k) p default lt out = named_part all k p default (omega arith) (right (page == p) (is_named p all) out)
  where
    right : (a b : Bool) → (a || b) ≡ false → b ≡ false
    right true b e = absurd (grind (arith, e))
    right false b e = e
named_part (End t ∷ all) (suc k) p default lt out = named_part all k p default (omega arith) out

named_append : (xs ys : List Entry) (p : ℕ) → is_named p (xs ++ ys) ≡ (is_named p xs || is_named p ys)
named_append [] ys p = refl
named_append (Update t page old new ∷ xs) ys p = (λ j. (page == p) || named_append xs ys p j) ∙ sym (either (page == p))
  where
    either : (b : Bool) → ((b || is_named p xs) || is_named p ys) ≡ (b || (is_named p xs || is_named p ys))
    either true = refl
    either false = refl
named_append (End t ∷ xs) ys p = named_append xs ys p

-- a page that the entries so far name is named by the last of them or by an earlier one
pub named_more : (all : List Entry) (i p : ℕ) (default : Entry) → i < length all → is_named p (get_or all i default ∷ []) ≡ false → is_named p (take (i + 1) all) ≡ true → is_named p (take i all) ≡ true
named_more all i p default lt out is =
    sym (or_false (is_named p (take i all))) ∙ (λ j. is_named p (take i all) || sym out j) ∙ sym (named_append (take i all) (get_or all i default ∷ []) p)
    ∙ ap (is_named p) (sym (take_more all i default lt)) ∙ is

other_page : (page p : ℕ) → ((page == p) || false) ≡ false → page ≢ p
other_page page p out e = absurd (grind (arith, nat_tests, out, e))

-- a page that is written, or torn
pub torn_page : (place n : ℕ) (Stays : ℕ → Type 0) (a b : List ℕ) → n ≡ 512 → (Stays place → ⊥) → Torn (page_start place) n a b → SameButPages Stays a b
torn_page place n Stays a b size moves torn = record {
  log = λ at lt. torn.before at (omega arith);
  pages = λ p out. by p (λ e. moves (subst Stays (sym e) out)) (cases_lt p place);
  blocks = λ m out at from. torn.after at (let lt = below m out in omega arith);
}
  where
    by : (p : ℕ) → place ≢ p → (p < place) ⊎ (place ≤ p) → in_place b p ≡ in_place a p
    by p apart (inl lt) = bytes_from-before (page_start place) n a b (page_start p) 512 torn (omega arith)
    by p apart (inr le) = bytes_from-behind (page_start place) n a b (page_start p) 512 torn (omega arith)

    below : (m : ℕ) → ((p : ℕ) → m ≤ p → Stays p) → place < m
    below m out = ⊎_elim (λ lt. lt) (λ le. absurd (moves (out place le))) (cases_lt place m)

-- a page that neither the entries so far nor the next one names
pub named_split : (all : List Entry) (i p : ℕ) (default : Entry) → i < length all → is_named p (take (i + 1) all) ≡ false → (is_named p (take i all) ≡ false) × (is_named p (get_or all i default ∷ []) ≡ false)
named_split all i p default lt out =
    both (is_named p (take i all)) (is_named p (get_or all i default ∷ []))
    (sym (named_append (take i all) (get_or all i default ∷ []) p) ∙ ap (is_named p) (sym (take_more all i default lt)) ∙ out)
  where
    both : (a b : Bool) → (a || b) ≡ false → (a ≡ false) × (b ≡ false)
    both true b e = absurd (grind (arith, e))
    both false b e = (refl, e)

some_still : (a b : Option (List ℕ)) → a ≡ b → IsSome b → IsSome a
some_still a b same some = subst (λ (o : Option (List ℕ)). IsSome o) (sym same) some

-- pages that are there, with those of one entry more
pub held_more : (all : List Entry) (i p : ℕ) (default : Entry) (now before : Option (List ℕ)) → i < length all → (is_named p (get_or all i default ∷ []) ≡ true → IsSome now) → (is_named p (get_or all i default ∷ []) ≡ false → now ≡ before)
    → (is_named p (take i all) ≡ true → IsSome before) → is_named p (take (i + 1) all) ≡ true → IsSome now
held_more all i p default now before lt here other earlier named = by (is_named p (get_or all i default ∷ [])) refl
  where
    by : (b : Bool) → is_named p (get_or all i default ∷ []) ≡ b → IsSome now
    by true is = here is
    by false is = some_still now before (other is) (earlier (named_more all i p default lt is named))

same_place : (page p : ℕ) → ((page == p) || false) ≡ true → p ≡ page
same_place page p is = grind (arith, nat_tests, or_false, is)

-- a table with one page set
pub set_here : (table : List (Option (List ℕ))) (page p : ℕ) (new : List ℕ) → p < length table → ((page == p) || false) ≡ true → IsSome (get_or (set table page (Some new)) p None)
set_here table page p new lt is =
    let e = same_place page p is in
    some_still _ (Some new) (get_or-set_at table page p (Some new) None e (omega arith)) refl

pub set_apart : (table : List (Option (List ℕ))) (page p : ℕ) (new : List ℕ) → ((page == p) || false) ≡ false → get_or (set table page (Some new)) p None ≡ get_or table p None
set_apart table page p new out = get_or-set_other table page p (Some new) None (λ e. other_page page p out (sym e))

-- a page that is set is there
pub set_still : (table : List (Option (List ℕ))) (page p : ℕ) (new : List ℕ) → IsSome (get_or table p None) → IsSome (get_or (set table page (Some new)) p None)
set_still table page p new some = by ((page == p) || false) refl
  where
    there : (o : Option (List ℕ)) → get_or table p None ≡ o → IsSome o → p < length table
    there (Some bytes) is some = place_of table p bytes is
    there None is some = absurd (grind (arith, some))

    by : (b : Bool) → ((page == p) || false) ≡ b → IsSome (get_or (set table page (Some new)) p None)
    by true is = set_here table page p new (there _ refl some) is
    by false is = some_still _ _ (set_apart table page p new is) some

-- an update that is undone, one that is not, and an end
module _ (all rest : List Entry) (t page : ℕ) (old new : List ℕ) (known : ℕ → List ℕ) (table : List (Option (List ℕ))) (kept : AreKept table (λ (p : ℕ). undone all rest known p)) where
  pub undone_kept : is_ended t all ≡ false → AreKept (set table page (Some old)) (λ (p : ℕ). undone all (Update t page old new ∷ rest) known p)
  undone_kept unended p bytes is = by (page == p) refl
    where
      by : (here : Bool) → (page == p) ≡ here → bytes ≡ (if (page == p) && not (is_ended t all) then old else undone all rest known p)
      by true e =
          let same : p ≡ page = grind (arith, nat_tests, e) in
          let lt : p < length table = let f = place_of (set table page (Some old)) p bytes is in let g = length-set table page (Some old) in omega arith in
          let there : Some old ≡ Some bytes = sym (get_or-set_at table page p (Some old) None same (omega arith)) ∙ is in
          let equal : old ≡ bytes = cc in
          sym equal ∙ (λ j. if sym e j && not (sym unended j) then old else undone all rest known p)
      by false e =
          let apart : p ≢ page = λ f. absurd (grind (arith, nat_tests, e, f)) in
          kept p bytes (sym (get_or-set_other table page p (Some old) None apart) ∙ is) ∙ (λ j. if sym e j && not (is_ended t all) then old else undone all rest known p)

  pub ended_kept : is_ended t all ≡ true → AreKept table (λ (p : ℕ). undone all (Update t page old new ∷ rest) known p)
  ended_kept ended p bytes is = kept p bytes is ∙ (λ j. if no (page == p) j then old else undone all rest known p) ∙ (λ j. if (page == p) && not (sym ended j) then old else undone all rest known p)
    where
      no : (b : Bool) → false ≡ (b && false)
      no true = refl
      no false = refl

-- a redone page is recovered by undoing
pub recovered_kept : (entries : List Entry) (table : List (Option (List ℕ))) → AreKept table (λ (p : ℕ). undone entries entries (redone entries (λ (q : ℕ). blank_page)) p) → AreKept table (recovered entries (λ (q : ℕ). blank_page))
unfolding recovered
recovered_kept entries table kept p bytes is = kept p bytes is

-- an end is one more
ended_snoc : (xs : List Entry) (u t : ℕ) → is_ended t (xs ++ End u ∷ []) ≡ cond (u == t) true (is_ended t xs)
ended_snoc [] u t = by (u == t)
  where
    by : (b : Bool) → (b || false) ≡ cond b true false
    by true = refl
    by false = refl
ended_snoc (Update v page old new ∷ xs) u t = ended_snoc xs u t
ended_snoc (End v ∷ xs) u t = (λ j. (v == t) || ended_snoc xs u t j) ∙ by (v == t) (u == t) (is_ended t xs)
  where
    by : (a b x : Bool) → (a || cond b true x) ≡ cond b true (a || x)
    by true true x = refl
    by true false x = refl
    by false b x = refl

unended_snoc : (xs : List Entry) (t v page : ℕ) (old new : List ℕ) → is_ended t (xs ++ Update v page old new ∷ []) ≡ is_ended t xs
unended_snoc [] t v page old new = refl
unended_snoc (Update w p a b ∷ xs) t v page old new = unended_snoc xs t v page old new
unended_snoc (End w ∷ xs) t v page old new = λ j. (w == t) || unended_snoc xs t v page old new j

pub ends_more : (before : List Entry) (entry : Entry) (u : ℕ) (s n : BTreeSet ℕ) → entry ≡ End u → AreEnds s before → ((q : ℕ) → contains nat_cmp n q ≡ cond (is_at (nat_cmp u) q) true (contains nat_cmp s q)) → AreEnds n (before ++ entry ∷ [])
ends_more before entry u s n is are updates t =
    updates t ∙ (λ j. cond (unsigned_tied u t j) true (are t j)) ∙ sym (ended_snoc before u t) ∙ (λ j. is_ended t (before ++ sym is j ∷ []))

pub ends_still : (before : List Entry) (entry : Entry) (t page : ℕ) (old new : List ℕ) (s : BTreeSet ℕ) → entry ≡ Update t page old new → AreEnds s before → AreEnds s (before ++ entry ∷ [])
ends_still before entry v page old new s is are t = are t ∙ sym (unended_snoc before t v page old new) ∙ (λ j. is_ended t (before ++ sym is j ∷ []))

-- one entry more is undone
pub undone_more : (all : List Entry) (k m j : ℕ) (default : Entry) (known : ℕ → List ℕ) (table : List (Option (List ℕ))) → k < length all → m ≡ suc k → j ≡ k
    → AreKept table (undone all (get_or all k default ∷ drop m all) known) → AreKept table (undone all (drop j all) known)
undone_more all k m j default known table lt is same kept p bytes there =
    kept p bytes there ∙ (λ i. undone all (get_or all k default ∷ drop (is i) all) known p) ∙ (λ i. undone all (sym (drop-cons all k default lt) i) known p) ∙ (λ i. undone all (drop (sym same i) all) known p)

-- the pages that are written so far
pub done_pages : (table : List (Option (List ℕ))) (place : ℕ) (default : Option (List ℕ)) (a b : List ℕ) → place < length table → SameButPages (λ (q : ℕ). q ≡ place → get_or table place default ≡ None) a b
    → ((bytes : List ℕ) → get_or table place default ≡ Some bytes → in_place b place ≡ bytes)
    → ((p : ℕ) (bytes : List ℕ) → p < place → get_or table p None ≡ Some bytes → in_place a p ≡ bytes) → (p : ℕ) (bytes : List ℕ) → p < place + 1 → get_or table p None ≡ Some bytes → in_place b p ≡ bytes
done_pages table place default a b within same written done p bytes lt there = by (cases_lt p place)
  where
    by : (p < place) ⊎ (place ≤ p) → in_place b p ≡ bytes
    by (inl below) = same.pages p (λ e. absurd (omega arith)) ∙ done p bytes below there
    by (inr le) = let e : p ≡ place = omega arith in ap (in_place b) e ∙ written bytes (get_or_default table place default None within ∙ (λ j. get_or table (sym e j) None) ∙ there)

pub page_stays : (table : List (Option (List ℕ))) (place : ℕ) (default : Option (List ℕ)) → place < length table → (q : ℕ) → get_or table q None ≡ None → q ≡ place → get_or table place default ≡ None
page_stays table place default within q none e = get_or_default table place default None within ∙ (λ j. get_or table (sym e j) None) ∙ none

pub none_first : (table : List (Option (List ℕ))) (n : ℕ) → table ≡ replicate {A = Option (List ℕ)} n None → (p : ℕ) → get_or table p None ≡ None
none_first table n is p = (λ j. get_or (is j) p None) ∙ get_or-same n p None

pub never_there : (table : List (Option (List ℕ))) (n : ℕ) → table ≡ replicate {A = Option (List ℕ)} n None → (known : ℕ → List ℕ) → AreKept table known
never_there table n first known p bytes is = let e : None ≡ Some bytes = sym (none_first table n first p) ∙ is in absurd (cc)

pub never_none : (o : Option (List ℕ)) (bytes : List ℕ) → o ≡ Some bytes → o ≡ None → ⊥
never_none o bytes some none = let e : None ≡ Some bytes = sym none ∙ some in absurd (cc)
