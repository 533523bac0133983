-- Members that are joined. A member is told by its number.
use Rattle.std.specs.Prelude.{◌≡◌, ◌≢◌, ◌⊎◌, ◌≤◌, ◌<◌, ℕ, List, [], ◌∷◌, ◌++◌, length, Option, Some, Contains}
use Rattle.std.specs.List.Sorted.{IsStrictlyIncreasing}
use Rattle.disk_classes.specs.declared.member.Standing.{Standing}
use Rattle.disk_classes.specs.declared.member.Standing.TheVariants.{Vacant, Open, Ended}

-- what is known of a number: how it stands, how many pages its member may put, and those that it put
pub record Note : Type 0 where
  pub standing : Standing
  pub limit : ℕ
  pub pages : List ℕ

-- no member that isn't yet committed has the number
abbrev pub no_note : Note
no_note = record { standing = Vacant; limit = 0; pages = [] }

-- a member that began, and may put so many pages
abbrev pub new_note : ℕ → Note
new_note limit = record { standing = Open; limit = limit; pages = [] }

-- A partition of the members, told by a number for each part: two that put one page are in one part.
abbrev pub IsJoining : (ℕ → Note) → (ℕ → ℕ) → Type 0
IsJoining notes part =
    (m n p : ℕ) → Contains (notes m).pages p → Contains (notes n).pages p → part m ≡ part n

-- Two members are of one class: they are in one part of each such partition. So the classes are the finest one.
abbrev pub AreTogether : (ℕ → Note) → ℕ → ℕ → Type 0
AreTogether notes m n = (part : ℕ → ℕ) → IsJoining notes part → part m ≡ part n

-- a page is among those that were put, once
abbrev pub IsWithPage : ℕ → List ℕ → List ℕ → Type 0
IsWithPage page old new =
    (Contains old page × (new ≡ old)) ⊎ ((Contains old page → ⊥) × (new ≡ old ++ page ∷ []))

-- A member may put a page: it is open, and it put the page before or fewer pages than it may put.
abbrev pub MayPut : Note → ℕ → Type 0
MayPut note page = (note.standing ≡ Open) × (Contains note.pages page ⊎ (length note.pages < note.limit))

-- a member put a page
pub record PutsPage (member page : ℕ) (old new : ℕ → Note) : Type 0 where
  pub standing : (new member).standing ≡ (old member).standing
  pub limit : (new member).limit ≡ (old member).limit
  pub pages : IsWithPage page (old member).pages (new member).pages
  pub others : (m : ℕ) → m ≢ member → new m ≡ old m

-- A member is the least of its class, all of which has ended.
abbrev pub IsLeast : (ℕ → Note) → ℕ → Type 0
IsLeast notes l = (m : ℕ) → AreTogether notes l m → (l ≤ m) × ((notes m).standing ≡ Ended)

-- The least members of some classes that have ended, in their order: of all such classes those that come first.
pub record AreFirst (notes : ℕ → Note) (least : List ℕ) : Type 0 where
  pub each : (l : ℕ) → Contains least l → IsLeast notes l
  pub order : IsStrictlyIncreasing least
  pub first : (l other : ℕ) → IsLeast notes l → Contains least other → l < other → Contains least l

-- a member is of one of these classes
abbrev pub IsOf : (ℕ → Note) → List ℕ → ℕ → Type 0
IsOf notes least m = (l : ℕ) × Contains least l × AreTogether notes l m

-- a member of one of these classes put a page
abbrev pub IsPutBy : (ℕ → Note) → List ℕ → ℕ → Type 0
IsPutBy notes least p = (m : ℕ) × IsOf notes least m × Contains (notes m).pages p

-- Of so many pages those that these classes put have the values that they put last, and the others are as before.
pub record ShowsPuts (notes : ℕ → Note) (values : ℕ → Option (List ℕ)) (least : List ℕ) (pages : ℕ)
    (before after : ℕ → List ℕ) : Type 0 where
  pub puts : (p : ℕ) (bytes : List ℕ) → p < pages → IsPutBy notes least p → values p ≡ Some bytes → after p ≡ bytes
  pub rest : (p : ℕ) → p < pages → (IsPutBy notes least p → ⊥) → after p ≡ before p
