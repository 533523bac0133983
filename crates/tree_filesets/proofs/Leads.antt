-- Where names lead.
use Rattle.std.proofs.Common.{◌≡◌, ℕ, List, [], ◌∷◌, ◌++◌, Option, Some, None, refl, ap, ◌∙◌, rules}
use Rattle.std.specs.Option.{option_and_then}
use Rattle.tree_calls.specs.declared.part.DirEntry.{DirEntry}
use Rattle.tree_objects.specs.declared.content.Anode.{Anode}
use Rattle.tree_filesets.specs.WellFormed.{entry_at, leads}

-- what led to a value
pub some_then : {A B : Type 0} (o : Option A) (f : A → Option B) (v : B) → option_and_then f o ≡ Some v → (x : A) × (o ≡ Some x) × (f x ≡ Some v)
some_then None f v h = absurd (search (rules, h))
some_then (Some x) f v h = (x, refl, h)

pub then_some : {A B : Type 0} (o : Option A) (f : A → Option B) (x : A) (v : B) → o ≡ Some x → f x ≡ Some v → option_and_then f o ≡ Some v
then_some o f x v h k = ap (option_and_then f) h ∙ k

-- a first name, and then the others
pub leads_first : (anodes : List Anode) (at : ℕ) (name : List ℕ) (names : List (List ℕ)) (entry : DirEntry) (to : ℕ) →
    entry_at anodes at name ≡ Some entry → leads anodes entry.anode names ≡ Some to → leads anodes at (name ∷ names) ≡ Some to
leads_first anodes at name names entry to h k = then_some (entry_at anodes at name) (λ e. leads anodes e.anode names) entry to h k

-- some names, and then others
pub leads-append : (anodes : List Anode) (at : ℕ) (front back : List (List ℕ)) (mid to : ℕ) →
    leads anodes at front ≡ Some mid → leads anodes mid back ≡ Some to → leads anodes at (front ++ back) ≡ Some to
leads-append anodes at [] back mid to h k = let same : at ≡ mid = cc in ap (λ n. leads anodes n back) same ∙ k
leads-append anodes at (name ∷ front) back mid to h k =
    let (entry, e, rest) = some_then (entry_at anodes at name) (λ e. leads anodes e.anode front) mid h in
    leads_first anodes at name (front ++ back) entry to e (leads-append anodes entry.anode front back mid to rest k)

-- where all entries stay, names lead as before
pub leads_more : (old new : List Anode) → ((at : ℕ) (name : List ℕ) (entry : DirEntry) → entry_at old at name ≡ Some entry → entry_at new at name ≡ Some entry) →
    (path : List (List ℕ)) (at to : ℕ) → leads old at path ≡ Some to → leads new at path ≡ Some to
leads_more old new stay [] at to h = h
leads_more old new stay (name ∷ names) at to h =
    let (entry, e, rest) = some_then (entry_at old at name) (λ e. leads old e.anode names) to h in
    leads_first new at name names entry to (stay at name entry e) (leads_more old new stay names entry.anode to rest)
