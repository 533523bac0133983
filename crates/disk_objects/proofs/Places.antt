-- Where the anodes of slots stand.
use Rattle.std.proofs.Common.{◌≡◌, ◌≢◌, ◌<◌, ◌≤◌, ◌⊎◌, ℕ, zero, suc, ◌-◌, ◌/◌, ◌%◌, List, length, refl, sym, ◌∙◌, inl, inr, arith}
use Rattle.std.specs.Prelude.{Bool, true, false, ◌==◌, ◌&&◌, if◌then◌else◌, nat_lt, nat_le, unwrap_or, replicate}
use Rattle.std.specs.Option.{option_map}
use Rattle.std.proofs.Common.{get_or}
use Rattle.std.proofs.lemmas.Bool.{cases_eq}
use Rattle.std.proofs.lemmas.Bool.Decides.{nat_tests}
use Rattle.std.proofs.lemmas.Option.{slice_get-get_or, unwrap_or-slice_get}
use Rattle.base_types.specs.Lists.{changed_at}
use Rattle.tree_filesets.specs.Founding.{unused_anode}
use Rattle.tree_filesets.proofs.Places.{get-changed_here, get-changed_other}
use Rattle.tree_objects.specs.declared.content.Anode.{Anode}
use Rattle.disk_anode.specs.Anode.{Anode as Kept}
use Rattle.disk_objects.specs.Holds.{is_anode, no_anode, set_at}
use Rattle.disk_objects.specs.Objects.{kept_of, page_for, anode_at, kept_anodes, with_slot}

-- the page of an anode
pub page_low : (slot n : ℕ) → slot < 16 → n ≤ 64 → page_for slot n < 1058
page_low slot n low few = omega arith

pub page_is : (slot n : ℕ) → slot < 16 → 1 ≤ n → n ≤ 64 → is_anode (page_for slot n) ≡ true
page_is slot n low some few =
    let a : nat_le 2 (page_for slot n) ≡ true = grind (arith, nat_tests) in
    let b : nat_lt (page_for slot n) 1058 ≡ true = (let lt : page_for slot n < 1058 = omega arith in grind (arith, nat_tests, lt)) in
    let c : nat_le 2 ((page_for slot n - 2) % 66) ≡ true = (let le : 2 ≤ (page_for slot n - 2) % 66 = omega arith in grind (arith, nat_tests, le)) in
    λ i. a i && b i && c i

slot_is : (slot n : ℕ) → 1 ≤ n → n ≤ 64 → (page_for slot n - 2) / 66 ≡ slot
slot_is slot n some few = omega arith

place_is : (slot n : ℕ) → 1 ≤ n → n ≤ 64 → (page_for slot n - 2) % 66 - 1 ≡ n
place_is slot n some few = omega arith

-- and the anode of a page
pub anode_here : (p : ℕ) → is_anode p ≡ true → ((p - 2) / 66 < 16) × (1 ≤ (p - 2) % 66 - 1) × ((p - 2) % 66 - 1 ≤ 64) × (p ≡ page_for ((p - 2) / 66) ((p - 2) % 66 - 1))
anode_here p is = by (nat_le 2 p) (nat_lt p 1058) (nat_le 2 ((p - 2) % 66)) refl refl refl is
  where
    by : (a b c : Bool) → nat_le 2 p ≡ a → nat_lt p 1058 ≡ b → nat_le 2 ((p - 2) % 66) ≡ c → (a && b && c) ≡ true
        → ((p - 2) / 66 < 16) × (1 ≤ (p - 2) % 66 - 1) × ((p - 2) % 66 - 1 ≤ 64) × (p ≡ page_for ((p - 2) / 66) ((p - 2) % 66 - 1))
    by true true true e f g on =
        let some : 2 ≤ p = grind (arith, nat_tests, e) in
        let low : p < 1058 = grind (arith, nat_tests, f) in
        let behind : 2 ≤ (p - 2) % 66 = grind (arith, nat_tests, g) in
        (omega (arith, some, low), omega (arith, behind), omega (arith, some), omega (arith, some, behind))
    by true true false e f g on = absurd (grind (arith, on))
    by true false c e f g on = absurd (grind (arith, on))
    by false b c e f g on = absurd (grind (arith, on))

-- an anode of a slot, after a change of one
pub at_here : (anodes : List Anode) (n : ℕ) (change : Anode → Anode) → 1 ≤ n → n ≤ length anodes → anode_at (changed_at anodes (n - 1) change) n ≡ change (anode_at anodes n)
at_here anodes n change some few =
    let e = slice_get-get_or anodes (n - 1) unused_anode (omega arith) in
    (λ i. unwrap_or (get-changed_here anodes (n - 1) change i) unused_anode)
    ∙ (λ i. unwrap_or (option_map change (e i)) unused_anode)
    ∙ (λ i. change (unwrap_or (sym e i) unused_anode))

pub at_other : (anodes : List Anode) (n m : ℕ) (change : Anode → Anode) → m - 1 ≢ n - 1 → anode_at (changed_at anodes (n - 1) change) m ≡ anode_at anodes m
at_other anodes n m change apart = λ i. unwrap_or (get-changed_other anodes (n - 1) (m - 1) change apart i) unused_anode

-- what is kept in the page of an anode
pub kept_here : (slots : ℕ → List Anode) (slot n : ℕ) → slot < 16 → 1 ≤ n → n ≤ 64 → kept_anodes slots (page_for slot n) ≡ kept_of (anode_at (slots slot) n)
unfolding kept_anodes
kept_here slots slot n low some few =
    let on = page_is slot n low some few in
    let s = slot_is slot n some few in
    let m = place_is slot n some few in
    (λ i. if on i then kept_of (anode_at (slots ((page_for slot n - 2) / 66)) ((page_for slot n - 2) % 66 - 1)) else no_anode)
    ∙ (λ i. kept_of (anode_at (slots (s i)) (m i)))

same_test : (a b : ℕ) → a ≡ b → (a == b) ≡ true
same_test a b e = grind (arith, nat_tests, e)

other_test : (a b : ℕ) → a ≢ b → (a == b) ≡ false
other_test a b apart = grind (arith, nat_tests, apart)

-- the anodes of a slot that was given others, and those of another slot
pub slot_here : (slots : ℕ → List Anode) (slot s : ℕ) (anodes : List Anode) → s ≡ slot → with_slot slot anodes slots s ≡ anodes
slot_here slots slot s anodes e = let on = same_test s slot e in λ i. if on i then anodes else slots s

pub slot_other : (slots : ℕ → List Anode) (slot s : ℕ) (anodes : List Anode) → s ≢ slot → with_slot slot anodes slots s ≡ slots s
slot_other slots slot s anodes apart = let off = other_test s slot apart in λ i. if off i then anodes else slots s

module _ (slots : ℕ → List Anode) (slot n : ℕ) (change : Anode → Anode) (low : slot < 16) (some : 1 ≤ n) (few : n ≤ 64) (there : n ≤ length (slots slot)) where
  changed_here : kept_anodes (with_slot slot (changed_at (slots slot) (n - 1) change) slots) (page_for slot n) ≡ kept_of (change (anode_at (slots slot) n))
  changed_here =
      kept_here (with_slot slot (changed_at (slots slot) (n - 1) change) slots) slot n low some few
      ∙ (λ i. kept_of (anode_at (slot_here slots slot slot (changed_at (slots slot) (n - 1) change) refl i) n))
      ∙ (λ i. kept_of (at_here (slots slot) n change some there i))

  -- an anode of this slot or of another
  same_anode : (s m : ℕ) → (s ≡ slot) ⊎ (s ≢ slot) → (s ≡ slot → m - 1 ≢ n - 1) → anode_at (with_slot slot (changed_at (slots slot) (n - 1) change) slots s) m ≡ anode_at (slots s) m
  same_anode s m (inl e) apart =
      (λ i. anode_at (slot_here slots slot s (changed_at (slots slot) (n - 1) change) e i) m)
      ∙ at_other (slots slot) n m change (apart e) ∙ (λ i. anode_at (slots (sym e i)) m)
  same_anode s m (inr off) apart = λ i. anode_at (slot_other slots slot s (changed_at (slots slot) (n - 1) change) off i) m

  changed_other : (p : ℕ) → p ≢ page_for slot n → kept_anodes (with_slot slot (changed_at (slots slot) (n - 1) change) slots) p ≡ kept_anodes slots p
  unfolding kept_anodes
  changed_other p apart = by (is_anode p) refl
    where
      by : (a : Bool) → is_anode p ≡ a
          → (if a then kept_of (anode_at (with_slot slot (changed_at (slots slot) (n - 1) change) slots ((p - 2) / 66)) ((p - 2) % 66 - 1)) else no_anode)
          ≡ (if a then kept_of (anode_at (slots ((p - 2) / 66)) ((p - 2) % 66 - 1)) else no_anode)
      by true e =
          let here = anode_here p e in
          let is = here.3 in
          let one = here.1 in
          let same = same_anode ((p - 2) / 66) ((p - 2) % 66 - 1) (cases_eq ((p - 2) / 66) slot)
          (λ f g. apart (is ∙ (λ i. page_for (f i) ((p - 2) % 66 - 1)) ∙ (let h : (p - 2) % 66 - 1 ≡ n = omega (arith, g, one, some) in λ i. page_for slot (h i)))) in
          λ i. kept_of (same i)
      by false e = refl

  -- all anodes where one of a slot changed
  pub set_kept : (anode : Kept) → anode ≡ kept_of (change (anode_at (slots slot) n)) → set_at (page_for slot n) anode (kept_anodes slots) ≡ kept_anodes (with_slot slot (changed_at (slots slot) (n - 1) change) slots)
  set_kept anode is = λ i p. at p (cases_eq p (page_for slot n)) i
    where
      at : (p : ℕ) → (p ≡ page_for slot n) ⊎ (p ≢ page_for slot n) → set_at (page_for slot n) anode (kept_anodes slots) p ≡ kept_anodes (with_slot slot (changed_at (slots slot) (n - 1) change) slots) p
      at p (inl e) =
          let on = same_test p (page_for slot n) e in
          (λ i. if on i then anode else kept_anodes slots p) ∙ is ∙ sym changed_here ∙ (λ i. kept_anodes (with_slot slot (changed_at (slots slot) (n - 1) change) slots) (sym e i))
      at p (inr apart) =
          let off = other_test p (page_for slot n) apart in
          (λ i. if off i then anode else kept_anodes slots p) ∙ sym (changed_other p apart)

-- slots without objects
unused_at : (n k : ℕ) → get_or (replicate n unused_anode) k unused_anode ≡ unused_anode
unused_at zero k = refl
unused_at (suc n) zero = refl
unused_at (suc n) (suc k) = unused_at n k

pub nothing_kept : kept_anodes (λ (slot : ℕ). replicate 64 unused_anode) ≡ (λ (p : ℕ). no_anode)
unfolding kept_anodes
nothing_kept = λ i p. by p (is_anode p) i
  where
    by : (p : ℕ) (a : Bool) → (if a then kept_of (anode_at (replicate 64 unused_anode) ((p - 2) % 66 - 1)) else no_anode) ≡ no_anode
    by p true =
        let e = unwrap_or-slice_get (replicate 64 unused_anode) ((p - 2) % 66 - 1 - 1) unused_anode ∙ unused_at 64 ((p - 2) % 66 - 1 - 1) in
        λ i. kept_of (e i)
    by p false = refl
