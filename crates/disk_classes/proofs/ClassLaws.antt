-- The laws of classes.
use Rattle.std.proofs.Common.{◌≡◌, ◌≢◌, ◌⊎◌, ℕ, [], ◌∷◌, refl, sym, ◌∙◌, ap, subst, inl, inr, arith}
use Rattle.std.specs.Prelude.{Bool, true, false, ◌==◌, if◌then◌else◌, Contains}
use Rattle.std.proofs.lemmas.Bool.{cases_eq}
use Rattle.disk_classes.specs.Joined.{Note, no_note}
use Rattle.disk_classes.specs.Laws.{IsWhole, IsAbsent, ClassesAreWhole, OpenClassesAreAbsent, LoneMembersCommit, LoneMembersStayApart, SidesStayApart, OnePageJoins, ClassesPart, PagesTellClasses, NotAllAreTogether, NotAllAreApart}
use Rattle.disk_classes.specs.declared.member.Standing.TheVariants.{Ended}
use Rattle.disk_classes.proofs.Lists.{test_same, test_other, contains_or_not, contains_nil, contains_head}
use Rattle.disk_classes.proofs.Least.{together_refl, together_sym, together_trans, together_share, least_one}
use Rattle.disk_classes.proofs.Numbering.{together_same}

pub whole_law : ClassesAreWhole
whole_law notes values least pages before after first shows l is = by (contains_or_not least l)
  where
    by : Contains least l ⊎ (Contains least l → ⊥) → IsWhole notes values pages after l ⊎ IsAbsent notes pages before after l
    by (inl there) = inl (λ m p bytes lt one has value. shows.puts p bytes lt (m, (l, there, one), has) value)
    by (inr absent) = inr (λ m p lt one has. shows.rest p lt (λ (k, (other, there, two), had).
        absent (subst (Contains least) (least_one notes other l (first.each other there) is
        (together_trans notes other k l two (together_trans notes k m l (together_share notes k m p had has) (together_sym notes l m one)))) there)))

-- a class that is shown has ended
pub absent_law : OpenClassesAreAbsent
absent_law notes values least pages before after first shows l m one running k p lt two has =
    shows.rest p lt (λ (j, (other, there, three), had). running ((first.each other there m
    (together_trans notes other j m three (together_trans notes j k m (together_share notes j k p had has)
    (together_trans notes k l m (together_sym notes l k two) one)))).1))

-- a member by itself, and the others
abbrev alone : ℕ → ℕ → ℕ
alone m x = if x == m then 0 else 1

alone_is : (m x : ℕ) → x ≡ m → alone m x ≡ 0
alone_is m x is = by (x == m) refl
  where
    by : (b : Bool) → (x == m) ≡ b → ◌≡◌ {A = ℕ} (if b then 0 else 1) 0
    by true e = refl
    by false e = absurd (test_other x m e is)

alone_not : (m x : ℕ) → x ≢ m → alone m x ≡ 1
alone_not m x other = by (x == m) refl
  where
    by : (b : Bool) → (x == m) ≡ b → ◌≡◌ {A = ℕ} (if b then 0 else 1) 1
    by true e = absurd (other (test_same x m e))
    by false e = refl

pub apart_law : LoneMembersStayApart
apart_law notes m lone n together = by (cases_eq n m)
  where
    joins : (a b p : ℕ) → Contains (notes a).pages p → Contains (notes b).pages p → (a ≡ m) ⊎ (a ≡ m → ⊥) → (b ≡ m) ⊎ (b ≡ m → ⊥) → alone m a ≡ alone m b
    joins a b p one two (inl e) (inl f) = alone_is m a e ∙ sym (alone_is m b f)
    joins a b p one two (inl e) (inr absent) = absurd (absent (lone b p (subst (λ (k : ℕ). Contains (notes k).pages p) e one) two))
    joins a b p one two (inr absent) (inl f) = absurd (absent (lone a p (subst (λ (k : ℕ). Contains (notes k).pages p) f two) one))
    joins a b p one two (inr absent) (inr not) = alone_not m a absent ∙ sym (alone_not m b not)

    by : (n ≡ m) ⊎ (n ≡ m → ⊥) → n ≡ m
    by (inl e) = e
    by (inr other) =
        let e : alone m m ≡ alone m n = together (alone m) (λ a b p one two. joins a b p one two (cases_eq a m) (cases_eq b m)) in
        let f : ◌≡◌ {A = ℕ} 0 1 = sym (alone_is m m refl) ∙ e ∙ alone_not m n other in
        absurd (omega (arith, f))

pub joined_law : OnePageJoins
joined_law notes m n p a b = together_share notes m n p a b

pub part_law : ClassesPart
part_law = record { itself = together_refl; either = together_sym; along = together_trans }

pub commits_law : LoneMembersCommit
commits_law notes m ended lone n one =
    let e : n ≡ m = apart_law notes m lone n one in
    (omega (arith, e), subst (λ (k : ℕ). (notes k).standing ≡ Ended) (sym e) ended)

-- a side as a number
abbrev numbered : Bool → ℕ
numbered true = 0
numbered false = 1

numbered_one : (a b : Bool) → numbered a ≡ numbered b → a ≡ b
numbered_one true true e = refl
numbered_one true false e = absurd (omega (arith, e))
numbered_one false true e = absurd (omega (arith, e))
numbered_one false false e = refl

pub sides_law : SidesStayApart
sides_law notes side joins m n one =
    numbered_one (side m) (side n) (one (λ (k : ℕ). numbered (side k)) (λ a b p has had. ap numbered (joins a b p has had)))

pub pages_law : PagesTellClasses
pages_law old new same m n one = together_same old new same m n one

pub not_one_law : NotAllAreTogether
not_one_law all =
    let none : ℕ → Note = λ m. no_note in
    let e : ◌≡◌ {A = ℕ} 1 0 = apart_law none 0 (λ n p has had. absurd (contains_nil p has)) 1 (all none 0 1) in
    absurd (omega (arith, e))

-- all members put page 3
abbrev three : ℕ → Note
three m = record no_note { pages = 3 ∷ [] }

pub not_each_law : NotAllAreApart
not_each_law all =
    let e : ◌≡◌ {A = ℕ} 1 0 = all three 0 1 (together_share three 0 1 3 (contains_head 3 []) (contains_head 3 [])) in
    absurd (omega (arith, e))
