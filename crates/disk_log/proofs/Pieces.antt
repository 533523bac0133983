-- Clauses over a piece of a list, said of the list that it is.
use Rattle.std.proofs.Common.{◌≡◌, ◌≤◌, ◌+◌, ◌-◌, ℕ, List, length, take, drop, subst, ap, arith}
use Rattle.std.proofs.lemmas.List.{take_all, length-take, length-drop}
use Rattle.disk_layout.specs.declared.entry.Entry.{Entry}
use Rattle.disk_layout.specs.declared.half.Half.{Half}
use Rattle.disk_layout.specs.Entry.{StandFrom, AreOpen, SameButEntries, SameButGates}

module _ (all : List Entry) (forced : ℕ) (le : forced ≤ length all) where
  pub piece_is : take (length all - forced) (drop forced all) ≡ drop forced all
  piece_is = take_all (length all - forced) (drop forced all) (let e = length-drop forced all in omega arith)

  pub held_size : forced ≡ length (take forced all)
  held_size = let e = length-take forced all in omega arith

  pub both_size : length (take forced all) + length (drop forced all) ≡ length all
  both_size = let e = length-take forced all in let f = length-drop forced all in omega arith

  piece_size : length (take (length all - forced) (drop forced all)) ≡ length (drop forced all)
  piece_size = ap (λ (l : List Entry). length l) piece_is

  pub entries_as : (start : ℕ) (a b : List ℕ) → SameButEntries start forced (length (take (length all - forced) (drop forced all))) a b → SameButEntries start (length (take forced all)) (length (drop forced all)) a b
  entries_as start a b step =
      subst (λ (n : ℕ). SameButEntries start n (length (drop forced all)) a b) held_size (subst (λ (n : ℕ). SameButEntries start forced n a b) piece_size step)

  pub gates_as : (start : ℕ) (a b : List ℕ) → SameButGates start forced (length (take (length all - forced) (drop forced all))) a b → SameButGates start (length (take forced all)) (length (drop forced all)) a b
  gates_as start a b step =
      subst (λ (n : ℕ). SameButGates start n (length (drop forced all)) a b) held_size (subst (λ (n : ℕ). SameButGates start forced n a b) piece_size step)

  pub stand_as : (half : Half) (image : List ℕ) → StandFrom half forced (take (length all - forced) (drop forced all)) image → StandFrom half (length (take forced all)) (drop forced all) image
  stand_as half image stand =
      subst (λ (n : ℕ). StandFrom half n (drop forced all) image) held_size (subst (λ (l : List Entry). StandFrom half forced l image) piece_is stand)

  pub open_as : (half : Half) (image : List ℕ) → AreOpen half forced (length (take (length all - forced) (drop forced all))) image → AreOpen half (length (take forced all)) (length (drop forced all)) image
  open_as half image opened =
      subst (λ (n : ℕ). AreOpen half n (length (drop forced all)) image) held_size (subst (λ (n : ℕ). AreOpen half forced n image) piece_size opened)
