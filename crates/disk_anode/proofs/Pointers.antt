-- The pointers of an anode.
use Rattle.std.proofs.Common.{◌≡◌, ◌≢◌, ◌<◌, ◌≤◌, ◌⊎◌, ℕ, ◌+◌, ◌*◌, ◌-◌, List, refl, sym, ◌∙◌, arith, inl, inr}
use Rattle.std.specs.Prelude.{Bool, true, false, nat_lt}
use Rattle.std.proofs.lemmas.Bool.Decides.{nat_tests}
use Rattle.base_types.specs.Image.{byte_at, Torn}
use Rattle.disk_layout.specs.Numbers.{number_at}
use Rattle.disk_layout.proofs.Bytes.{number-same}
use Rattle.disk_anode.specs.Node.{pointer_of, PointsTo}
use Rattle.disk_anode.specs.declared.node.Node.{Node}

-- those in the page, and those in the indirect block
pub pointer_front : (node : Node) (w : ℕ) → w < 16 → pointer_of node w ≡ number_at 4 (12 + 4 * w) node.page
unfolding pointer_of
pointer_front node w lt = let yes : nat_lt w 16 ≡ true = grind (arith, nat_tests) in rw yes refl

pub pointer_back : (node : Node) (w : ℕ) → 16 ≤ w → pointer_of node w ≡ number_at 4 (4 * (w - 16)) node.map
unfolding pointer_of
pointer_back node w le = let no : nat_lt w 16 ≡ false = grind (arith, nat_tests) in rw no refl

-- a number beside the place of another
pub number_apart : (at there : ℕ) (old new : List ℕ) → (there + 4 ≤ at) ⊎ (at + 4 ≤ there) → Torn at 4 old new → number_at 4 there new ≡ number_at 4 there old
number_apart at there old new (inl low) torn = number-same 4 there there new old (λ j lt. torn.before _ (omega arith))
number_apart at there old new (inr high) torn = number-same 4 there there new old (λ j lt. torn.after _ (omega arith))

apart : (a b base : ℕ) → a ≢ b → (base + 4 * b + 4 ≤ base + 4 * a) ⊎ (base + 4 * a + 4 ≤ base + 4 * b)
apart a b base other = by (nat_lt b a) refl
  where
    by : (lower : Bool) → nat_lt b a ≡ lower → (base + 4 * b + 4 ≤ base + 4 * a) ⊎ (base + 4 * a + 4 ≤ base + 4 * b)
    by true is = let low : b < a = grind (arith, nat_tests) in inl (omega arith)
    by false is = let high : a < b = grind (arith, nat_tests) in inr (omega arith)

-- a pointer that was set in the page
pub points_front : (w pointer : ℕ) (old : Node) (page : List ℕ) → w < 16 → number_at 4 (12 + 4 * w) page ≡ pointer → Torn (12 + 4 * w) 4 old.page page →
    PointsTo w pointer old (record { blocks = old.blocks; page = page; map = old.map })
points_front w pointer old page lt is torn = record {
  blocks = refl;
  here = pointer_front _ w lt ∙ is;
  others = λ v below differs. by v differs (nat_lt v 16) refl;
  map = λ low. refl;
  rest = λ k beside. beside_page k beside;
  behind = λ k le. refl;
}
  where
    new : Node
    new = record { blocks = old.blocks; page = page; map = old.map }

    by : (v : ℕ) → (v ≡ w → ⊥) → (front : Bool) → nat_lt v 16 ≡ front → pointer_of (record { blocks = old.blocks; page = page; map = old.map }) v ≡ pointer_of old v
    by v differs true e =
        let low : v < 16 = grind (arith, nat_tests) in
        pointer_front _ v low ∙ number_apart _ _ old.page page (apart w v 12 (λ same. differs (sym same))) torn ∙ sym (pointer_front old v low)
    by v differs false e = let high : 16 ≤ v = grind (arith, nat_tests) in pointer_back _ v high ∙ sym (pointer_back old v high)

    beside_page : (k : ℕ) → (k < 12) ⊎ (76 ≤ k) → byte_at page k ≡ byte_at old.page k
    beside_page k (inl low) = torn.before k (omega arith)
    beside_page k (inr high) = torn.after k (omega arith)

-- and in the indirect block
pub points_back : (w pointer : ℕ) (old : Node) (map : List ℕ) → 16 ≤ w → w < 68 → number_at 4 (4 * (w - 16)) map ≡ pointer → Torn (4 * (w - 16)) 4 old.map map →
    PointsTo w pointer old (record { blocks = old.blocks; page = old.page; map = map })
points_back w pointer old map le most is torn = record {
  blocks = refl;
  here = pointer_back _ w le ∙ is;
  others = λ v below differs. by v differs (nat_lt v 16) refl;
  map = λ low. let no : ⊥ = omega arith in absurd no;
  rest = λ k beside. refl;
  behind = λ k le_2. torn.after k (omega arith);
}
  where
    by : (v : ℕ) → (v ≡ w → ⊥) → (front : Bool) → nat_lt v 16 ≡ front → pointer_of (record { blocks = old.blocks; page = old.page; map = map }) v ≡ pointer_of old v
    by v differs true e = let low : v < 16 = grind (arith, nat_tests) in pointer_front _ v low ∙ sym (pointer_front old v low)
    by v differs false e =
        let high : 16 ≤ v = grind (arith, nat_tests) in
        pointer_back _ v high ∙ number_apart _ _ old.map map (beside (apart (w - 16) (v - 16) 0 (λ same. differs (omega arith)))) torn ∙ sym (pointer_back old v high)
      where
        beside : (0 + 4 * (v - 16) + 4 ≤ 0 + 4 * (w - 16)) ⊎ (0 + 4 * (w - 16) + 4 ≤ 0 + 4 * (v - 16)) → (4 * (v - 16) + 4 ≤ 4 * (w - 16)) ⊎ (4 * (w - 16) + 4 ≤ 4 * (v - 16))
        beside (inl low) = inl (omega arith)
        beside (inr high) = inr (omega arith)
