-- What servers may have, one after the other.
use Rattle.std.proofs.Common.{◌≡◌, ◌<◌, ◌≤◌, ◌+◌, ℕ, length, slice_get, Some, inl, inr, sym, ◌∙◌, subst, arith}
use Rattle.std.proofs.lemmas.Bool.{cases_lt}
use Rattle.std.proofs.lemmas.Grind.{common_steps}
use Rattle.std.proofs.lemmas.Option.{slice_get_within}
use Rattle.tree_answers.specs.declared.tree.ServerRoom.{ServerRoom}
use Rattle.tree_answers.specs.declared.tree.Tree.{Tree}
use Rattle.service_starts.specs.Rooms.{IsWithin, AreWithin}

-- so it is of the first servers
abbrev pub FirstWithin : Tree → ℕ → Type 0
FirstWithin tree k = (at : ℕ) (room : ServerRoom) → at < k → slice_get tree.servers at ≡ Some room → IsWithin tree (record { 0 = at + 1 }) room

some_same : (a b : ServerRoom) → Some a ≡ Some b → a ≡ b
some_same a b h = cc

the_last : (k at : ℕ) → at < k + 1 → k ≤ at → at ≡ k
the_last k at h l = grind (arith, common_steps)

-- one server more
pub one_more : (tree : Tree) (k : ℕ) (last : ServerRoom) → slice_get tree.servers k ≡ Some last → IsWithin tree (record { 0 = k + 1 }) last → FirstWithin tree k → FirstWithin tree (k + 1)
one_more tree k last there within first at room lt is = elim (cases_lt at k) [
  | inl below ↦ first at room below is
  | inr le ↦
      let same = the_last k at lt le in
      let found : slice_get tree.servers k ≡ Some room = subst (λ (n : ℕ). slice_get tree.servers n ≡ Some room) same is in
      rw (same, sym (some_same last room (sym there ∙ found))) within
]

-- and so of all
pub all_within : (tree : Tree) (k : ℕ) → length tree.servers ≤ k → FirstWithin tree k → AreWithin tree
all_within tree k le first at room is =
    let lt = slice_get_within tree.servers at room is in
    first at room (grind (arith, common_steps)) is
