-- What classes are, and what a crash leaves of one.
use Rattle.std.specs.Prelude.{◌≡◌, ◌≢◌, ◌⊎◌, ◌<◌, ℕ, Bool, List, Option, Some, Contains}
use Rattle.disk_classes.specs.Joined.{Note, AreTogether, IsLeast, AreFirst, ShowsPuts}
use Rattle.disk_classes.specs.declared.member.Standing.TheVariants.{Ended}

-- the pages show all puts of a class
abbrev pub IsWhole : (ℕ → Note) → (ℕ → Option (List ℕ)) → ℕ → (ℕ → List ℕ) → ℕ → Type 0
IsWhole notes values pages after l = (m p : ℕ) (bytes : List ℕ) → p < pages → AreTogether notes l m
    → Contains (notes m).pages p → values p ≡ Some bytes → after p ≡ bytes

-- the pages show none of them
abbrev pub IsAbsent : (ℕ → Note) → ℕ → (before after : ℕ → List ℕ) → ℕ → Type 0
IsAbsent notes pages before after l =
    (m p : ℕ) → p < pages → AreTogether notes l m → Contains (notes m).pages p → after p ≡ before p

-- of each class that has ended the pages show all puts or none
abbrev pub ClassesAreWhole : Type 0
ClassesAreWhole = (notes : ℕ → Note) (values : ℕ → Option (List ℕ)) (least : List ℕ) (pages : ℕ)
    (before after : ℕ → List ℕ) → AreFirst notes least → ShowsPuts notes values least pages before after
    → (l : ℕ) → IsLeast notes l → IsWhole notes values pages after l ⊎ IsAbsent notes pages before after l

-- of a class with a member that hasn't ended they show none
abbrev pub OpenClassesAreAbsent : Type 0
OpenClassesAreAbsent = (notes : ℕ → Note) (values : ℕ → Option (List ℕ)) (least : List ℕ) (pages : ℕ)
    (before after : ℕ → List ℕ) → AreFirst notes least → ShowsPuts notes values least pages before after
    → (l m : ℕ) → AreTogether notes l m → (notes m).standing ≢ Ended → IsAbsent notes pages before after l

-- A member that ended is the least of a class that is committed where no other one put a page that it put.
abbrev pub LoneMembersCommit : Type 0
LoneMembersCommit = (notes : ℕ → Note) (m : ℕ) → (notes m).standing ≡ Ended
    → ((n p : ℕ) → Contains (notes m).pages p → Contains (notes n).pages p → n ≡ m) → IsLeast notes m

-- such a member is a class by itself
abbrev pub LoneMembersStayApart : Type 0
LoneMembersStayApart = (notes : ℕ → Note) (m : ℕ)
    → ((n p : ℕ) → Contains (notes m).pages p → Contains (notes n).pages p → n ≡ m)
    → (n : ℕ) → AreTogether notes m n → n ≡ m

-- and members on two sides that put no page in common are of two classes
abbrev pub SidesStayApart : Type 0
SidesStayApart = (notes : ℕ → Note) (side : ℕ → Bool)
    → ((m n p : ℕ) → Contains (notes m).pages p → Contains (notes n).pages p → side m ≡ side n)
    → (m n : ℕ) → AreTogether notes m n → side m ≡ side n

-- two that put one page are together
abbrev pub OnePageJoins : Type 0
OnePageJoins = (notes : ℕ → Note) (m n p : ℕ) → Contains (notes m).pages p → Contains (notes n).pages p
    → AreTogether notes m n

-- the classes part the members
pub record ClassesPart : Type 0 where
  pub itself : (notes : ℕ → Note) (m : ℕ) → AreTogether notes m m
  pub either : (notes : ℕ → Note) (m n : ℕ) → AreTogether notes m n → AreTogether notes n m
  pub along : (notes : ℕ → Note) (k m n : ℕ) → AreTogether notes k m → AreTogether notes m n → AreTogether notes k n

-- pages alone tell the classes, and not when members begin or end
abbrev pub PagesTellClasses : Type 0
PagesTellClasses = (old new : ℕ → Note) → ((m : ℕ) → (new m).pages ≡ (old m).pages) → (m n : ℕ)
    → AreTogether old m n → AreTogether new m n

-- not all members are of one class
abbrev pub NotAllAreTogether : Type 0
NotAllAreTogether = ((notes : ℕ → Note) (m n : ℕ) → AreTogether notes m n) → ⊥

-- and not each is a class by itself
abbrev pub NotAllAreApart : Type 0
NotAllAreApart = ((notes : ℕ → Note) (m n : ℕ) → AreTogether notes m n → n ≡ m) → ⊥
