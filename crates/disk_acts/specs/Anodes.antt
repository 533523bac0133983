-- The anodes of a slot, as an act leaves them.
use Rattle.std.specs.Prelude.{◌≡◌, ◌<◌, ℕ, ◌+◌, true, List, [], ◌∷◌, slice_get, Option, Some, None, is_none, ⊤}
use Rattle.tree_objects.specs.declared.content.Anode.{Anode}
use Rattle.tree_objects.specs.Changes.{anode_freed}
use Rattle.disk_objects.specs.Objects.{anode_at, with_slot}
use Rattle.disk_acts.specs.Seen.{seen_anode}
use Rattle.disk_acts.specs.declared.seen.SeenAnode.{SeenAnode}

-- An anode is the one that follows where that is seen as it was. Where nothing was seen it has no object.
abbrev pub IsOne : Option SeenAnode → Option Anode → Anode → Type 0
IsOne None next anode = is_none anode.object ≡ true
IsOne (Some was) None anode = ⊤
IsOne (Some was) (Some is) anode = was ≡ seen_anode is → anode ≡ is

-- so is one of the anodes of a slot, and so are all
abbrev pub IsAt : ℕ → ℕ → List SeenAnode → List Anode → (ℕ → List Anode) → Type 0
IsAt slot at before after slots = IsOne (slice_get before at) (slice_get after at) (anode_at (slots slot) (at + 1))

abbrev pub AreAt : ℕ → List SeenAnode → List Anode → (ℕ → List Anode) → Type 0
AreAt slot before after slots = (at : ℕ) → at < 64 → IsAt slot at before after slots

-- the first anodes are these, and the others are freed
abbrev pub replaced : List Anode → List Anode → List Anode
replaced after [] = []
replaced [] (x ∷ xs) = anode_freed x ∷ replaced [] xs
replaced (y ∷ after) (x ∷ xs) = y ∷ replaced after xs

abbrev pub slot_replaced : ℕ → List Anode → (ℕ → List Anode) → ℕ → List Anode
slot_replaced slot after slots = with_slot slot (replaced after (slots slot)) slots

-- one of them
abbrev pub renewed : Option Anode → Anode → Anode
renewed (Some is) was = is
renewed None was = anode_freed was
