-- Places among entries in the order of names.
use Rattle.std.proofs.Common.{◌≡◌, ◌≢◌, ◌<◌, ◌≤◌, ◌⊎◌, ℕ, zero, suc, ◌+◌, List, [], ◌∷◌, ◌++◌, length, take, drop, refl, sym, ◌∙◌, ap, inl, inr, arith}
use Rattle.std.specs.Prelude.{Bool, true, false, ◌&&◌, not, cond, nat_lt, Some, None, unwrap_or}
use Rattle.std.specs.List.{list_all, prefix_len}
use Rattle.std.specs.Ordering.{is_lt, is_eq, ordering_reverse, nat_cmp}
use Rattle.std.specs.declared.cmp.Ordering.{Ordering}
use Rattle.std.specs.declared.cmp.Ordering.TheVariants.{Less, Equal, Greater}
use Rattle.std.specs.Cmp.Lexicographic.{slice_cmp, same_text}
use Rattle.std.proofs.lemmas.Cmp.{nat_list_cmp_total}
use Rattle.std.proofs.lemmas.Map.Text.{is_eq-slice_cmp}
use Rattle.std.proofs.Math.Numerals.{add-one}
use Rattle.std.proofs.lemmas.Bool.{cases_eq}
use Rattle.std.proofs.lemmas.Bool.Decides.{nat_tests}
use Rattle.base_types.specs.Name.{same_name, is_before}
use Rattle.tree_calls.specs.declared.part.DirEntry.{DirEntry}
use Rattle.tree_objects.specs.Entries.{entry_named, entry_place}
use Rattle.tree_objects.specs.Sound.{names_rise}
use Rattle.tree_objects.proofs.Rising.{before_trans}
use Rattle.disk_lists.specs.Entries.{name_in, without, IsPlace, IsNamedAt}

-- both tests pass
left : (a b : Bool) → (a && b) ≡ true → a ≡ true
left true b is = refl
left false b is = absurd (grind (arith, is))

right : (a b : Bool) → (a && b) ≡ true → b ≡ true
right true b is = is
right false b is = absurd (grind (arith, is))

-- a name that comes before another is another
eq_less : (o : Ordering) → is_lt o ≡ true → is_eq o ≡ false
eq_less Less is = refl
eq_less Equal is = absurd (grind (arith, is))
eq_less Greater is = refl

eq_more : (o r : Ordering) → r ≡ ordering_reverse o → is_lt r ≡ true → is_eq o ≡ false
eq_more Less r e is = refl
eq_more Equal r e is = absurd (grind (arith, (λ i. is_lt (sym e i)) ∙ is))
eq_more Greater r e is = refl

pub before_apart : (a b : List ℕ) → is_before a b ≡ true → same_name a b ≡ false
before_apart a b is = sym (is_eq-slice_cmp a b) ∙ eq_less (slice_cmp nat_cmp a b) is

pub after_apart : (a b : List ℕ) → is_before a b ≡ true → same_name b a ≡ false
after_apart a b is = sym (is_eq-slice_cmp b a) ∙ eq_more (slice_cmp nat_cmp b a) (slice_cmp nat_cmp a b) (nat_list_cmp_total.antisymm a b) is

-- the entry at a place
pub some_at : (i : ℕ) (entries : List DirEntry) → i < length entries → (entry : DirEntry) × (rest : List DirEntry) × (drop i entries ≡ entry ∷ rest)
some_at i [] lt = absurd (omega arith)
some_at zero (entry ∷ entries) lt = (entry, entries, refl)
some_at (suc i) (entry ∷ entries) lt = some_at i entries (omega arith)

pub take-next : (i : ℕ) (entries : List DirEntry) (entry : DirEntry) (rest : List DirEntry) → drop i entries ≡ entry ∷ rest → take (i + 1) entries ≡ take i entries ++ entry ∷ []
take-next i entries entry rest is = by i entries is (add-one i)
  where
    by : (i : ℕ) (entries : List DirEntry) → drop i entries ≡ entry ∷ rest → {n : ℕ} → n ≡ suc i → take n entries ≡ take i entries ++ entry ∷ []
    by i entries is e = (λ j. take (e j) entries) ∙ next i entries is
      where
        next : (i : ℕ) (entries : List DirEntry) → drop i entries ≡ entry ∷ rest → take (suc i) entries ≡ take i entries ++ entry ∷ []
        next zero [] is = absurd (cc)
        next (suc i) [] is = absurd (cc)
        next zero (first ∷ entries) is = (let e : first ≡ entry = cc in λ j. e j ∷ [])
        next (suc i) (first ∷ entries) is = (let rest_is = next i entries is in λ j. first ∷ rest_is j)

pub name_at : (i : ℕ) (entries : List DirEntry) (entry : DirEntry) (rest : List DirEntry) → drop i entries ≡ entry ∷ rest → name_in entries i ≡ entry.name
name_at zero [] entry rest is = absurd (cc)
name_at (suc i) [] entry rest is = absurd (cc)
name_at zero (first ∷ entries) entry rest is = (let e : first ≡ entry = cc in λ j. (e j).name)
name_at (suc i) (first ∷ entries) entry rest is = name_at i entries entry rest is

-- names rise with places
all_in : (p : List ℕ → Bool) (entries : List DirEntry) (j : ℕ) → list_all (λ other. p other.name) entries ≡ true → j < length entries → p (name_in entries j) ≡ true
all_in p [] j all lt = absurd (omega arith)
all_in p (entry ∷ entries) zero all lt = left _ _ all
all_in p (entry ∷ entries) (suc j) all lt = all_in p entries j (right _ _ all) (omega arith)

pub rise_in : (entries : List DirEntry) (i j : ℕ) → names_rise entries ≡ true → i < j → j < length entries → is_before (name_in entries i) (name_in entries j) ≡ true
rise_in [] i j rise low lt = absurd (omega arith)
rise_in (entry ∷ entries) i zero rise low lt = absurd (omega arith)
rise_in (entry ∷ entries) zero (suc j) rise low lt = all_in (is_before entry.name) entries j (left _ _ rise) (omega arith)
rise_in (entry ∷ entries) (suc i) (suc j) rise low lt = rise_in entries i j (right _ _ rise) (omega arith) (omega arith)

-- halves of a search
pub search_above : (entries : List DirEntry) (name : List ℕ) (middle : ℕ) → names_rise entries ≡ true → middle < length entries → is_before name (name_in entries middle) ≡ true → (i : ℕ) → middle ≤ i → i < length entries → is_before name (name_in entries i) ≡ true
search_above entries name middle rise lt is i le below = by (cases_eq i middle)
  where
    by : (i ≡ middle) ⊎ (i ≢ middle) → is_before name (name_in entries i) ≡ true
    by (inl e) = ap (λ (k : ℕ). is_before name (name_in entries k)) e ∙ is
    by (inr apart) = before_trans name (name_in entries middle) (name_in entries i) is (rise_in entries middle i rise (omega arith) below)

pub search_below : (entries : List DirEntry) (name : List ℕ) (middle : ℕ) → names_rise entries ≡ true → middle < length entries → is_before name (name_in entries middle) ≡ false → (i : ℕ) → i ≤ middle → is_before name (name_in entries i) ≡ false
search_below entries name middle rise lt is i le = by (is_before name (name_in entries i)) refl (cases_eq i middle)
  where
    by : (b : Bool) → is_before name (name_in entries i) ≡ b → (i ≡ middle) ⊎ (i ≢ middle) → is_before name (name_in entries i) ≡ false
    by false e which = e
    by true e (inl same) = ap (λ (k : ℕ). is_before name (name_in entries k)) same ∙ is
    by true e (inr apart) = (let both = before_trans name (name_in entries i) (name_in entries middle) e (rise_in entries i middle rise (omega arith) lt) in absurd (grind (arith, sym both ∙ is)))

-- the place of a name
front_at : (entries : List DirEntry) (name : List ℕ) (place : ℕ) → place ≤ length entries → ((i : ℕ) → i < place → is_before name (name_in entries i) ≡ false)
    → ((i : ℕ) → place ≤ i → i < length entries → is_before name (name_in entries i) ≡ true) → prefix_len (λ entry. not (is_before name entry.name)) entries ≡ place
front_at [] name zero le below above = refl
front_at [] name (suc place) le below above = absurd (omega arith)
front_at (entry ∷ entries) name zero le below above = (let e = above 0 (omega arith) (omega arith) in λ i. cond (not (e i)) (1 + prefix_len (λ other. not (is_before name other.name)) entries) 0)
front_at (entry ∷ entries) name (suc place) le below above =
    let e = below 0 (omega arith) in
    let rest = front_at entries name place (omega arith) (λ i lt. below (suc i) (omega arith)) (λ i low lt. above (suc i) (omega arith) (omega arith)) in
    (λ i. cond (not (e i)) (1 + prefix_len (λ other. not (is_before name other.name)) entries) 0) ∙ omega (arith, rest)

pub place_is : (entries : List DirEntry) (name : List ℕ) (place : ℕ) → IsPlace entries name place → entry_place entries name ≡ place
place_is entries name place is = by (nat_lt place (length entries)) refl
  where
    front : prefix_len (λ entry. not (is_before name entry.name)) entries ≡ place
    front = front_at entries name place is.within is.below is.above

    by : (b : Bool) → nat_lt place (length entries) ≡ b → entry_place entries name ≡ place
    by true e = (λ i. unwrap_or (cond (nat_lt (front i) (length entries)) (Some (front i)) None) (length entries)) ∙ (λ i. unwrap_or (cond (e i) (Some place) None) (length entries))
    by false e = (let within = is.within in let high : length entries ≤ place = grind (arith, nat_tests) in (λ i. unwrap_or (cond (nat_lt (front i) (length entries)) (Some (front i)) None) (length entries)) ∙ (λ i. unwrap_or (cond (e i) (Some place) None) (length entries)) ∙ omega (arith, within, high))

-- the entry of a name, and the others
find_at : (entries : List DirEntry) (name : List ℕ) (q : ℕ) (entry : DirEntry) (rest : List DirEntry) → drop q entries ≡ entry ∷ rest → same_name entry.name name ≡ true
    → ((i : ℕ) → i < q → same_name (name_in entries i) name ≡ false) → entry_named entries name ≡ Some entry
find_at [] name zero entry rest is same below = absurd (cc)
find_at [] name (suc q) entry rest is same below = absurd (cc)
find_at (first ∷ entries) name zero entry rest is same below =
    let e : first ≡ entry = cc in
    (λ i. cond (((λ j. same_name (e j).name name) ∙ same) i) (Some first) (entry_named entries name)) ∙ ap Some e
find_at (first ∷ entries) name (suc q) entry rest is same below =
    let e = below 0 (omega arith) in
    (λ i. cond (e i) (Some first) (entry_named entries name)) ∙ find_at entries name q entry rest is same (λ i lt. below (suc i) (omega arith))

find_none : (entries : List DirEntry) (name : List ℕ) → ((i : ℕ) → i < length entries → same_name (name_in entries i) name ≡ false) → entry_named entries name ≡ None
find_none [] name none = refl
find_none (first ∷ entries) name none =
    let e = none 0 (omega arith) in
    (λ i. cond (e i) (Some first) (entry_named entries name)) ∙ find_none entries name (λ i lt. none (suc i) (omega arith))

without_none : (entries : List DirEntry) (name : List ℕ) → ((i : ℕ) → i < length entries → same_name (name_in entries i) name ≡ false) → without name entries ≡ entries
without_none [] name none = refl
without_none (first ∷ entries) name none =
    let e = none 0 (omega arith) in
    let rest = without_none entries name (λ i lt. none (suc i) (omega arith)) in
    (λ i. cond (not (e i)) (first ∷ without name entries) (without name entries)) ∙ (λ i. first ∷ rest i)

without_at : (entries : List DirEntry) (name : List ℕ) (q : ℕ) (entry : DirEntry) (rest : List DirEntry) → drop q entries ≡ entry ∷ rest → same_name entry.name name ≡ true
    → ((i : ℕ) → i < length entries → i ≢ q → same_name (name_in entries i) name ≡ false) → without name entries ≡ take q entries ++ rest
without_at [] name zero entry rest is same others = absurd (cc)
without_at [] name (suc q) entry rest is same others = absurd (cc)
without_at (first ∷ entries) name zero entry rest is same others =
    let e : first ≡ entry = cc in
    let f : entries ≡ rest = cc in
    (λ i. cond (not (((λ j. same_name (e j).name name) ∙ same) i)) (first ∷ without name entries) (without name entries))
    ∙ without_none entries name (λ i lt. others (suc i) (omega arith) (λ no. absurd (omega (arith, no)))) ∙ f
without_at (first ∷ entries) name (suc q) entry rest is same others =
    let e = others 0 (omega arith) (λ no. absurd (omega (arith, no))) in
    let tail = without_at entries name q entry rest is same (λ i lt apart. others (suc i) (omega arith) (λ no. apart (omega (arith, no)))) in
    (λ i. cond (not (e i)) (first ∷ without name entries) (without name entries)) ∙ (λ i. first ∷ tail i)

named_none : (entries : List DirEntry) (name : List ℕ) → ((i : ℕ) → i < length entries → same_name (name_in entries i) name ≡ false) → IsNamedAt entries name None
named_none entries name none = (find_none entries name none, without_none entries name none)

-- the entry just before the place of a name is the one of the name, or none is
module _ (entries : List DirEntry) (name : List ℕ) (place : ℕ) (rise : names_rise entries ≡ true) (is : IsPlace entries name place) where
  beyond : (i : ℕ) → place ≤ i → i < length entries → same_name (name_in entries i) name ≡ false
  beyond i le lt = after_apart name (name_in entries i) (is.above i le lt)

  lower : (last i : ℕ) → last + 1 ≡ place → i < last → same_name (name_in entries i) name ≡ false
  lower last i e lt = by (same_name (name_in entries i) name) refl
    where
      by : (b : Bool) → same_name (name_in entries i) name ≡ b → same_name (name_in entries i) name ≡ false
      by false f = f
      by true f =
          let within = is.within in
          let up = rise_in entries i last rise lt (omega (arith, e, within)) in
          let no = is.below last (omega (arith, e)) in
          let equal = same_text (name_in entries i) name (sym f) in
          let before : is_before name (name_in entries last) ≡ true = (λ j. is_before (sym equal j) (name_in entries last)) ∙ up in
          absurd (grind (arith, sym before ∙ no))

  pub named_first : place ≡ 0 → IsNamedAt entries name None
  named_first e = named_none entries name (λ i lt. beyond i (omega (arith, e)) lt)

  pub named_other : (last : ℕ) → last + 1 ≡ place → same_name (name_in entries last) name ≡ false → IsNamedAt entries name None
  named_other last e other = named_none entries name (λ i lt. by i lt (nat_lt i last) refl (cases_eq i last))
    where
      by : (i : ℕ) → i < length entries → (b : Bool) → nat_lt i last ≡ b → (i ≡ last) ⊎ (i ≢ last) → same_name (name_in entries i) name ≡ false
      by i lt b f (inl same) = ap (λ (k : ℕ). same_name (name_in entries k) name) same ∙ other
      by i lt true f (inr apart) = let low : i < last = grind (arith, nat_tests) in lower last i e low
      by i lt false f (inr apart) = let high : last ≤ i = grind (arith, nat_tests) in beyond i (omega (arith, e, high, apart)) lt

  pub named_here : (last : ℕ) → last + 1 ≡ place → same_name (name_in entries last) name ≡ true → IsNamedAt entries name (Some last)
  named_here last e same =
      let within = is.within in
      let found = some_at last entries (omega (arith, e, within)) in
      let entry = found.0 in
      let here : same_name entry.name name ≡ true = (λ j. same_name (sym (name_at last entries entry found.1 found.2) j) name) ∙ same in
      (entry, found.1, found.2, find_at entries name last entry found.1 found.2 here (λ i lt. lower last i e lt), without_at entries name last entry found.1 found.2 here (λ i lt apart. by i lt (nat_lt i last) refl apart))
    where
      by : (i : ℕ) → i < length entries → (b : Bool) → nat_lt i last ≡ b → i ≢ last → same_name (name_in entries i) name ≡ false
      by i lt true f apart = let low : i < last = grind (arith, nat_tests) in lower last i e low
      by i lt false f apart = let high : last ≤ i = grind (arith, nat_tests) in beyond i (omega (arith, e, high, apart)) lt
