-- What writes within one entry, or one gate, leave of the log.
use Rattle.std.proofs.Common.{◌<◌, ◌≤◌, ℕ, ◌+◌, ◌-◌, List, ⊎_elim, refl, ◌∙◌, arith}
use Rattle.std.proofs.lemmas.Bool.{cases_lt}
use Rattle.base_types.specs.Image.{Torn}
use Rattle.disk_layout.specs.Places.{entry_start}
use Rattle.disk_layout.specs.Entry.{SameButBodies, SameButEntries, SameButGates, SameButThese}

pub torn_body : (start i j n : ℕ) (old new : List ℕ) → 1 ≤ j → j + n ≤ 1536 → Torn (entry_start start i + j) n old new → SameButBodies start i 1 old new
torn_body start i j n old new from up_to torn = record {
  gates = λ k. ⊎_elim (λ later. torn.after (entry_start start k) (omega arith)) (λ upto. torn.before (entry_start start k) (omega arith)) (cases_lt i k);
  below = λ k lt. torn.before k (omega arith);
  above = λ k le. torn.after k (omega arith);
}

pub torn_gate : (start i : ℕ) (old new : List ℕ) → Torn (entry_start start i) 1 old new → SameButGates start i 1 old new
torn_gate start i old new torn = record {
  bodies = λ k j from below. ⊎_elim (λ under. torn.before (entry_start start k + j) (omega arith)) (λ over. torn.after (entry_start start k + j) (omega arith)) (cases_lt k i);
  below = λ k lt. torn.before k (omega arith);
  above = λ k le. torn.after k (omega arith);
}

pub then_bodies : (start first n : ℕ) (a b c : List ℕ) → SameButBodies start first n a b → SameButBodies start first n b c → SameButBodies start first n a c
then_bodies start first n a b c one two = record {
  gates = λ k. two.gates k ∙ one.gates k;
  below = λ k lt. two.below k lt ∙ one.below k lt;
  above = λ k le. two.above k le ∙ one.above k le;
}

pub same_bodies : (start first n : ℕ) (image : List ℕ) → SameButBodies start first n image image
same_bodies start first n image = record { gates = λ k. refl; below = λ k lt. refl; above = λ k le. refl }

pub then_gates : (start first n : ℕ) (a b c : List ℕ) → SameButGates start first n a b → SameButGates start first n b c → SameButGates start first n a c
then_gates start first n a b c one two = record {
  bodies = λ i j from below. two.bodies i j from below ∙ one.bodies i j from below;
  below = λ k lt. two.below k lt ∙ one.below k lt;
  above = λ k le. two.above k le ∙ one.above k le;
}

pub same_gates : (start first n : ℕ) (image : List ℕ) → SameButGates start first n image image
same_gates start first n image = record { bodies = λ i j from below. refl; below = λ k lt. refl; above = λ k le. refl }

-- one entry is one of several
pub wider_bodies : (start i first n : ℕ) (old new : List ℕ) → SameButBodies start i 1 old new → first ≤ i → i < first + n → SameButBodies start first n old new
wider_bodies start i first n old new same from up_to = record {
  gates = same.gates;
  below = λ k lt. same.below k (omega arith);
  above = λ k le. same.above k (omega arith);
}

pub wider_gates : (start i first n : ℕ) (old new : List ℕ) → SameButGates start i 1 old new → first ≤ i → i < first + n → SameButGates start first n old new
wider_gates start i first n old new same from up_to = record {
  bodies = same.bodies;
  below = λ k lt. same.below k (omega arith);
  above = λ k le. same.above k (omega arith);
}

-- a write of one whole entry
pub torn_entry : (start i n : ℕ) (old new : List ℕ) → n ≤ 1536 → Torn (entry_start start i) n old new → SameButThese start i 1 old new
torn_entry start i n old new le torn = record {
  below = λ k lt. torn.before k lt;
  above = λ k from. torn.after k (omega arith);
}

pub then_these : (start first n : ℕ) (a b c : List ℕ) → SameButThese start first n a b → SameButThese start first n b c → SameButThese start first n a c
then_these start first n a b c one two = record {
  below = λ k lt. two.below k lt ∙ one.below k lt;
  above = λ k le. two.above k le ∙ one.above k le;
}

pub wider_these : (start i first n : ℕ) (old new : List ℕ) → SameButThese start i 1 old new → first ≤ i → i < first + n → SameButThese start first n old new
wider_these start i first n old new same from up_to = record {
  below = λ k lt. same.below k (omega arith);
  above = λ k le. same.above k (omega arith);
}

pub then_entries : (start first n : ℕ) (a b c : List ℕ) → SameButEntries start first n a b → SameButEntries start first n b c → SameButEntries start first n a c
then_entries start first n a b c one two = record {
  gate = two.gate ∙ one.gate;
  below = λ k lt. two.below k lt ∙ one.below k lt;
  above = λ k le. two.above k le ∙ one.above k le;
}

pub same_entries : (start first n : ℕ) (image : List ℕ) → SameButEntries start first n image image
same_entries start first n image = record { gate = refl; below = λ k lt. refl; above = λ k le. refl }

-- the entries behind the first ones, of which there is one at least where there is any
pub these_within : (start first s n : ℕ) (a b : List ℕ) → s ≤ n → (0 < n → 0 < s) → SameButThese start (first + s) (n - s) a b → SameButEntries start first n a b
these_within start first s n a b le some these = record {
  gate = ⊎_elim (λ lt. these.below (entry_start start first) (let e = some lt in omega (arith, e))) (λ none. these.above (entry_start start first) (omega (arith, none, le))) (cases_lt 0 n);
  below = λ k lt. these.below k (omega arith);
  above = λ k from. these.above k (omega (arith, from, le));
}

-- the first ones, but for their gates
pub bodies_within : (start first s n : ℕ) (a b : List ℕ) → s ≤ n → SameButBodies start first s a b → SameButEntries start first n a b
bodies_within start first s n a b le step = record {
  gate = step.gates first;
  below = λ k lt. step.below k lt;
  above = λ k from. step.above k (omega (arith, from, le));
}

pub more_gates : (start first s n : ℕ) (a b : List ℕ) → s ≤ n → SameButGates start first s a b → SameButGates start first n a b
more_gates start first s n a b le same = record {
  bodies = same.bodies;
  below = same.below;
  above = λ k from. same.above k (omega (arith, from, le));
}
