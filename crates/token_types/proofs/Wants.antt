-- Conflicts of wants go both ways.
use Rattle.std.proofs.Common.{◌≡◌, Bool, true, false, ◌||◌, ◌&&◌, not, List, [], ◌∷◌, refl, sym, ap, ◌∙◌}
use Rattle.std.specs.List.{list_any}
use Rattle.base_types.specs.declared.ids.HostId.{HostId}
use Rattle.token_types.specs.Conflicts.{needs_conflict, any_conflict, wants_conflict}
use Rattle.token_types.specs.declared.token.Need.{Need}
use Rattle.token_types.proofs.Symmetric.{same_number, needs_both}

four_ors : (a b c d : Bool) → ((a || b) || (c || d)) ≡ ((a || c) || (b || d))
four_ors true b c d = refl
four_ors false true true d = refl
four_ors false true false d = refl
four_ors false false c d = refl

module _ {A : Type 0} where
  any_of_none : (xs : List A) → list_any (λ x. false) xs ≡ false
  any_of_none [] = refl
  any_of_none (x ∷ xs) = any_of_none xs

  any_of_two : (f g : A → Bool) (xs : List A) → list_any (λ x. f x || g x) xs ≡ (list_any f xs || list_any g xs)
  any_of_two f g [] = refl
  any_of_two f g (x ∷ xs) = ap (λ b. (f x || g x) || b) (any_of_two f g xs)
      ∙ four_ors (f x) (g x) (list_any f xs) (list_any g xs)

-- whether some pair of two lists passes doesn't depend on which list comes first
any_any : {A B : Type 0} (test : A → B → Bool) (xs : List A) (ys : List B) →
    list_any (λ x. list_any (test x) ys) xs ≡ list_any (λ y. list_any (λ x. test x y) xs) ys
any_any test [] ys = sym (any_of_none ys)
any_any test (x ∷ xs) ys = ap (λ b. list_any (test x) ys || b) (any_any test xs ys)
    ∙ sym (any_of_two (test x) (λ y. list_any (λ x. test x y) xs) ys)

any_same : (need : Need) (others : List Need) → any_conflict need others ≡ list_any (λ o. needs_conflict o need) others
any_same need [] = refl
any_same need (other ∷ others) = (λ i. needs_both need other i || any_same need others i)

each_same : (needs others : List Need) → list_any (λ need. any_conflict need others) needs
    ≡ list_any (λ need. list_any (λ o. needs_conflict o need) others) needs
each_same [] others = refl
each_same (need ∷ needs) others = (λ i. any_same need others i || each_same needs others i)

pub wants_both : (host : HostId) (needs : List Need) (other : HostId) (others : List Need) →
    wants_conflict host needs other others ≡ wants_conflict other others host needs
wants_both host needs other others =
    let swapped = each_same needs others ∙ any_any (λ need o. needs_conflict o need) needs others in
    (λ i. not (same_number host.0 other.0 i) && swapped i)
