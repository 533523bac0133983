-- How many pointers name a block, with and without those of one page.
use Rattle.std.proofs.Common.{◌≡◌, ◌≢◌, ◌<◌, ◌≤◌, ◌⊎◌, ℕ, ◌+◌, ◌-◌, refl, sym, ◌∙◌, arith, inl, inr}
use Rattle.std.specs.Prelude.{Bool, true, false, ◌==◌, ◌&&◌, not, if◌then◌else◌, nat_lt}
use Rattle.std.proofs.lemmas.Bool.{cases_eq}
use Rattle.std.proofs.lemmas.Bool.Decides.{nat_tests}
use Rattle.disk_anode.specs.Node.{is_pointer}
use Rattle.disk_anode.proofs.Counting.{same_many, one_of_many}
use Rattle.disk_anode.proofs.Cells.{pointer_facts}
use Rattle.disk_objects.specs.Holds.{sum_below, is_indirect, total}
use Rattle.disk_objects.proofs.Sums.{sum_same, sum_but, sum_one, many_some}

-- without one
abbrev pub beside : ℕ → (ℕ → ℕ) → ℕ → ℕ
beside page f p = if p == page then 0 else f p

pub beside_here : (page : ℕ) (f : ℕ → ℕ) → beside page f page ≡ 0
beside_here page f = let e : (page == page) ≡ true = grind (arith, nat_tests) in λ i. if e i then 0 else f page

pub beside_other : (page p : ℕ) (f : ℕ → ℕ) → p ≢ page → beside page f p ≡ f p
beside_other page p f apart = let e : (p == page) ≡ false = grind (arith, nat_tests) in λ i. if e i then 0 else f p

-- the pointers of its indirect block where no other page has this
abbrev pub own_map : (indirect maps : ℕ → ℕ) → ℕ → ℕ → ℕ
own_map indirect maps page blocks =
    if is_pointer blocks (indirect page) && not (is_indirect (beside page indirect) (indirect page - 1)) then maps (indirect page - 1) else 0

pub indirect_some : (indirect : ℕ → ℕ) (m : ℕ) → is_indirect indirect m ≡ true → (p : ℕ) × (p < 1058) × (indirect p ≡ m + 1)
indirect_some indirect m is =
    let found = many_some (λ p. indirect p == m + 1) 1058 (grind (arith, nat_tests, is)) in
    let test = found.2 in
    (found.0, found.1, grind (arith, nat_tests, test))

pub indirect_at : (indirect : ℕ → ℕ) (p m : ℕ) → p < 1058 → indirect p ≡ m + 1 → is_indirect indirect m ≡ true
indirect_at indirect p m lt is =
    let e : (indirect p == m + 1) ≡ true = grind (arith, nat_tests, is) in
    let some = one_of_many (λ q. indirect q == m + 1) p 1058 lt e in
    grind (arith, nat_tests, some)

-- another page has one
pub indirect_beside : (indirect : ℕ → ℕ) (page m : ℕ) → is_indirect (beside page indirect) m ≡ true → (p : ℕ) × (p < 1058) × (p ≢ page) × (indirect p ≡ m + 1)
indirect_beside indirect page m is = by (indirect_some (beside page indirect) m is)
  where
    by : (p : ℕ) × (p < 1058) × (beside page indirect p ≡ m + 1) → (p : ℕ) × (p < 1058) × (p ≢ page) × (indirect p ≡ m + 1)
    by (p, lt, e) = at (cases_eq p page)
      where
        at : (p ≡ page) ⊎ (p ≢ page) → (q : ℕ) × (q < 1058) × (q ≢ page) × (indirect q ≡ m + 1)
        at (inl here) = absurd (let none = (λ i. beside page indirect (here i)) ∙ beside_here page indirect in omega (arith, none, e))
        at (inr apart) = (p, lt, apart, sym (beside_other page p indirect apart) ∙ e)

pub beside_indirect : (indirect : ℕ → ℕ) (page p m : ℕ) → p < 1058 → p ≢ page → indirect p ≡ m + 1 → is_indirect (beside page indirect) m ≡ true
beside_indirect indirect page p m lt apart is = indirect_at (beside page indirect) p m lt (beside_other page p indirect apart ∙ is)

indirect_same : (f g : ℕ → ℕ) (m : ℕ) → ((p : ℕ) → p < 1058 → (f p == m + 1) ≡ (g p == m + 1)) → is_indirect f m ≡ is_indirect g m
indirect_same f g m same = let e = same_many (λ p. f p == m + 1) (λ p. g p == m + 1) 1058 same in λ i. nat_lt 0 (e i)

pub indirect_as : (f g : ℕ → ℕ) (m : ℕ) → ((p : ℕ) → p < 1058 → f p ≡ g p) → is_indirect f m ≡ is_indirect g m
indirect_as f g m same = indirect_same f g m (λ p lt. (let e = same p lt in λ i. e i == m + 1))

-- a block that the page's pointer doesn't name
indirect_off : (indirect : ℕ → ℕ) (page m : ℕ) → indirect page ≢ m + 1 → is_indirect indirect m ≡ is_indirect (beside page indirect) m
indirect_off indirect page m off = indirect_same indirect (beside page indirect) m (λ p lt. at p (cases_eq p page))
  where
    at : (p : ℕ) → (p ≡ page) ⊎ (p ≢ page) → (indirect p == m + 1) ≡ (beside page indirect p == m + 1)
    at p (inl here) =
        let no : (indirect page == m + 1) ≡ false = grind (arith, nat_tests, off) in
        let zero_off : (0 == m + 1) ≡ false = grind (arith, nat_tests) in
        (λ i. indirect (here i) == m + 1) ∙ no ∙ sym zero_off ∙ (λ i. sym (beside_here page indirect) i == m + 1) ∙ (λ i. beside page indirect (sym here i) == m + 1)
    at p (inr apart) = λ i. sym (beside_other page p indirect apart) i == m + 1

module _ (front indirect maps : ℕ → ℕ) (page blocks : ℕ) (lt : page < 1058) where
  abbrev pub maps_of : (ℕ → ℕ) → ℕ → ℕ
  maps_of f m = if is_indirect f m then maps m else 0

  fronts : sum_below (beside page front) 1058 + front page ≡ sum_below front 1058
  fronts =
      let e = sum_but front (beside page front) page 1058 lt (λ j low apart. sym (beside_other page j front apart)) in
      let none = beside_here page front in
      omega (arith, e, none)

  all_maps : (is : Bool) → is_pointer blocks (indirect page) ≡ is → (shared : Bool) → is_indirect (beside page indirect) (indirect page - 1) ≡ shared
      → sum_below (maps_of indirect) blocks ≡ sum_below (maps_of (beside page indirect)) blocks + (if is && not shared then maps (indirect page - 1) else 0)
  all_maps false e shared f =
      let same = sum_same (maps_of indirect) (maps_of (beside page indirect)) blocks (λ m low.
      let off : indirect page ≢ m + 1 = (λ is. grind (arith, nat_tests, e, is, low)) in
      let g = indirect_off indirect page m off in λ i. if g i then maps m else 0) in
      omega (arith, same)
  all_maps true e shared f =
      let facts = pointer_facts blocks (indirect page) e in
      let some = facts.0 in let within = facts.1 in
      let low : indirect page - 1 < blocks = omega (arith, some, within) in
      let but = sum_but (maps_of indirect) (maps_of (beside page indirect)) (indirect page - 1) blocks low (λ m below apart.
      let off : indirect page ≢ m + 1 = (λ is. apart (omega (arith, is))) in
      let g = indirect_off indirect page m off in λ i. if g i then maps m else 0) in
      let has : is_indirect indirect (indirect page - 1) ≡ true = indirect_at indirect page (indirect page - 1) lt (omega (arith, some)) in
      let here : maps_of indirect (indirect page - 1) ≡ maps (indirect page - 1) = (λ i. if has i then maps (indirect page - 1) else 0) in
      by shared f but here
    where
      by : (shared : Bool) → is_indirect (beside page indirect) (indirect page - 1) ≡ shared
          → sum_below (maps_of (beside page indirect)) blocks + maps_of indirect (indirect page - 1) ≡ sum_below (maps_of indirect) blocks + maps_of (beside page indirect) (indirect page - 1)
          → maps_of indirect (indirect page - 1) ≡ maps (indirect page - 1)
          → sum_below (maps_of indirect) blocks ≡ sum_below (maps_of (beside page indirect)) blocks + (if not shared then maps (indirect page - 1) else 0)
      by true f but here = (let other : maps_of (beside page indirect) (indirect page - 1) ≡ maps (indirect page - 1) = (λ i. if f i then maps (indirect page - 1) else 0) in omega (arith, but, here, other))
      by false f but here = (let other : maps_of (beside page indirect) (indirect page - 1) ≡ 0 = (λ i. if f i then maps (indirect page - 1) else 0) in omega (arith, but, here, other))

  pub total_split : total front indirect maps blocks ≡ total (beside page front) (beside page indirect) maps blocks + (front page + own_map indirect maps page blocks)
  total_split =
      let a = fronts in
      let b = all_maps (is_pointer blocks (indirect page)) refl (is_indirect (beside page indirect) (indirect page - 1)) refl in
      omega (arith, a, b)

-- what the other pages have depends on them alone
pub total_same : (front indirect maps front_2 indirect_2 maps_2 : ℕ → ℕ) (blocks : ℕ) → ((p : ℕ) → p < 1058 → front_2 p ≡ front p) → ((p : ℕ) → p < 1058 → indirect_2 p ≡ indirect p)
    → ((m : ℕ) → m < blocks → is_indirect indirect m ≡ true → maps_2 m ≡ maps m) → total front_2 indirect_2 maps_2 blocks ≡ total front indirect maps blocks
total_same front indirect maps front_2 indirect_2 maps_2 blocks fronts indirects same =
    let a = sum_same front_2 front 1058 fronts in
    let b = sum_same (λ m. if is_indirect indirect_2 m then maps_2 m else 0) (λ m. if is_indirect indirect m then maps m else 0) blocks (λ m lt.
    (let e = indirect_as indirect_2 indirect m indirects in λ i. if e i then maps_2 m else 0) ∙ by m lt (is_indirect indirect m) refl) in
    λ i. a i + b i
  where
    by : (m : ℕ) → m < blocks → (is : Bool) → is_indirect indirect m ≡ is → (if is then maps_2 m else 0) ≡ (if is then maps m else 0)
    by m lt true e = same m lt e
    by m lt false e = refl

-- what one page has is among all
pub total_front : (front indirect maps : ℕ → ℕ) (p blocks : ℕ) → p < 1058 → front p ≤ total front indirect maps blocks
total_front front indirect maps p blocks lt = let e = sum_one front p 1058 lt in omega (arith, e)

pub total_both : (front indirect maps : ℕ → ℕ) (p m blocks : ℕ) → p < 1058 → m < blocks → is_indirect indirect m ≡ true → front p + maps m ≤ total front indirect maps blocks
total_both front indirect maps p m blocks lt low is =
    let e = sum_one front p 1058 lt in
    let f = sum_one (λ k. if is_indirect indirect k then maps k else 0) m blocks low in
    let here : (if is_indirect indirect m then maps m else 0) ≡ maps m = (λ i. if is i then maps m else 0) in
    omega (arith, e, f, here)
