-- A page that is noted as one that a member put.
use Rattle.std.proofs.Common.{◌≡◌, ◌<◌, ◌∙◌, ℕ, List, [], ◌∷◌, ◌++◌, length, get_or, set, refl, sym, ap, subst, inl, inr}
use Rattle.std.specs.Prelude.{Bool, true, false, ◌==◌, Contains}
use Rattle.std.specs.List.{IsAnyAnswer}
use Rattle.std.specs.Bool.{Decides}
use Rattle.std.proofs.lemmas.Bool.Decides.{Decides-eqb, not_from_Decides}
use Rattle.std.proofs.lemmas.List.{set-get_or}
use Rattle.std.proofs.lemmas.List.Elements.{contains_decides, Decides-contains}
use Rattle.disk_classes.specs.Notes.{vacant, noted_at, IsNoted}
use Rattle.disk_classes.specs.declared.member.Noted.{Noted as Kept}
use Rattle.disk_classes.proofs.Ended.{read_at}

says : (xs : List ℕ) (x : ℕ) (r : Bool) → IsAnyAnswer (λ (y : ℕ) (t : Bool). (y == x) ≡ t) xs r → Decides r (Contains xs x)
says xs x r answer = Decides-contains xs x r (contains_decides (λ (a b : ℕ). a == b) Decides-eqb xs x r answer)

module _ (ms : List Kept) (member page : ℕ) (a : Kept) where
  pub noted_anew : (b new : Kept) (xs : List ℕ) (r : Bool) → member < length ms → a ≡ get_or ms member a → b ≡ get_or ms member b → xs ≡ a.pages
      → IsAnyAnswer (λ (y : ℕ) (t : Bool). (y == page) ≡ t) xs r → r ≡ false → new ≡ record b { pages = b.pages ++ page ∷ [] } → IsNoted member page ms (set ms member new)
  noted_anew b new xs r lt a_is b_is list answer is made =
      let pages : xs ≡ (noted_at ms member).pages = list ∙ ap (λ (n : Kept). n.pages) (read_at ms member a lt a_is) in
      let b_at = read_at ms member b lt b_is in (
        (noted_at ms member).pages ++ page ∷ [],
        inr (λ h. not_from_Decides r (says xs page r answer) is (subst (λ (l : List ℕ). Contains l page) (sym pages) h), refl),
        (λ j. set ms member ((made ∙ (λ i. record (b_at i) { pages = (b_at i).pages ++ page ∷ [] })) j)),
      )

  pub noted_before : (xs : List ℕ) (r : Bool) → member < length ms → a ≡ get_or ms member a → xs ≡ a.pages
      → IsAnyAnswer (λ (y : ℕ) (t : Bool). (y == page) ≡ t) xs r → r ≡ true → IsNoted member page ms ms
  noted_before xs r lt a_is list answer is =
      let pages : xs ≡ (noted_at ms member).pages = list ∙ ap (λ (n : Kept). n.pages) (read_at ms member a lt a_is) in
      ((noted_at ms member).pages, inl (subst (λ (l : List ℕ). Contains l page) pages ((says xs page r answer).0 is), refl), sym (set-get_or ms member (vacant member)))
