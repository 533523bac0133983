-- Lists that only grow, and lists that are made of several.
use Rattle.std.specs.Prelude.{◌≡◌, ℕ, suc, ◌≤◌, ◌⊎◌, ltb, if◌then◌else◌, List, [], ◌∷◌, ◌++◌, map, length}

module _ {E : Type 0} where
  -- a list begins with another
  abbrev pub IsPrefix : List E → List E → Type 0
  IsPrefix front all = (rest : List E) × (all ≡ front ++ rest)

  -- a list begins with each of these
  abbrev pub AllBegin : List (List E) → List E → Type 0
  AllBegin [] all = Unit {0}
  AllBegin (front ∷ fronts) all = IsPrefix front all × AllBegin fronts all

  -- a list goes on as it was, with one entry more at most
  abbrev pub GrowsByOne : List E → List E → Type 0
  GrowsByOne before after = (added : List E) × (length added ≤ 1) × (after ≡ before ++ added)

  -- the longer of two lists
  abbrev pub longer : List E → List E → List E
  longer xs ys = (if ltb (length xs) (length ys) then ys else xs)

  -- the entries, each with its place, where the first one's is this
  abbrev pub numbered : ℕ → List E → List (ℕ × E)
  numbered place [] = []
  numbered place (e ∷ es) = (place, e) ∷ numbered (suc place) es

  -- the entries without their places
  abbrev pub entries : List (ℕ × E) → List E
  entries xs = map (λ x. x.1) xs

  -- an entry comes before those of a later place
  abbrev pub inserted : ℕ × E → List (ℕ × E) → List (ℕ × E)
  inserted x [] = x ∷ []
  inserted x (y ∷ ys) = (if ltb y.0 x.0 then (y ∷ inserted x ys) else (x ∷ y ∷ ys))

  -- two lists of entries in one, by their places
  abbrev pub merged : List (ℕ × E) → List (ℕ × E) → List (ℕ × E)
  merged [] ys = ys
  merged (x ∷ xs) ys = inserted x (merged xs ys)

  -- a list is made of two, each in its order
  abbrev pub Weaves : List E → List E → List E → Type 0
  Weaves [] xs ys = (xs ≡ []) × (ys ≡ [])
  Weaves (e ∷ es) xs ys = ((rest : List E) × (xs ≡ e ∷ rest) × Weaves es rest ys) ⊎ ((rest : List E) × (ys ≡ e ∷ rest) ×
      Weaves es xs rest)

  -- a list has the entries of these parts and no others, each once, and those of one part in its order
  abbrev pub IsShuffle : List E → List (List E) → Type 0
  IsShuffle all [] = all ≡ []
  IsShuffle all (part ∷ parts) = (others : List E) × Weaves all part others × IsShuffle others parts
