-- Where there is an image.
use Rattle.std.proofs.Common.{◌≡◌, ◌<◌, ℕ, List, [], ◌∷◌, length, inl, inr, refl, sym, ◌∙◌, ap, arith, ◌⊎◌}
use Rattle.std.specs.Prelude.{Bool, true, false, ◌||◌, ◌==◌, not, Option, Some, None, is_some}
use Rattle.std.proofs.lemmas.Bool.{cases_Bool, cond-true, cond-false, or_parts, or_from, eq-eqb, eqb-true, not-false, not_from_true, false_from_ne_true, false≢true, true≢false}
use Rattle.disk_layout.specs.Half.{used_half}
use Rattle.disk_layout.specs.Places.{pages_of}
use Rattle.disk_layout.specs.Superblock.{IsBlank}
use Rattle.disk_layout.specs.declared.half.Half.{Half}
use Rattle.disk_layout.specs.declared.superblock.Superblock.{Superblock}
use Rattle.disk_image.specs.Aggregate.{is_blank, superblock_of}
use Rattle.disk_image.specs.Faults.{faults_of, faults_under, faults_behind}
use Rattle.disk_image.specs.Image.{Image, image_of, image_under, image_behind}
use Rattle.disk_image.specs.Laws.{ImageIsThere}
use Rattle.disk_image.specs.declared.fault.Fault.{Fault}
use Rattle.disk_image.proofs.Front.{blank_passes, unblank_fails}

nil_of : {A : Type 0} (xs : List A) → (length xs == 0) ≡ true → xs ≡ []
nil_of [] is = refl
nil_of (x ∷ xs) is = absurd (let e = eqb-true (length (x ∷ xs)) 0 is in omega (arith, e))

cons_nil : {A : Type 0} (x : A) (xs : List A) → x ∷ xs ≡ [] → ⊥
cons_nil x xs e = let n : length (x ∷ xs) ≡ 0 = ap (λ l. length l) e in omega (arith, n)

module _ (server : ℕ) (image : List ℕ) where
  abbrev off : Bool
  off = is_blank image || not (length (faults_of image) == 0)

  -- a superblock without a used half has a fault
  behind : (superblock : Superblock) (half : Option Half) → faults_behind superblock half image ≡ [] → is_some (image_behind superblock half image) ≡ true
  behind superblock None none = absurd (cons_nil _ _ none)
  behind superblock (Some half) none = refl

  pub has_image : (IsBlank image → ⊥) → faults_of image ≡ [] → (superblock : Superblock) → superblock_of image ≡ Some superblock → superblock.server ≡ server → is_some (image_of server image) ≡ true
  unfolding image_of faults_of
  has_image unblank none superblock is named =
      let shown : is_blank image ≡ false = unblank_fails image unblank in
      let clean : (length (faults_of image) == 0) ≡ true = ap (λ (l : List Fault). length l == 0) none in
      let under : faults_behind superblock (used_half (pages_of superblock.blocks) image) image ≡ [] =
      ap (λ o. faults_under o image) (sym is) ∙ sym (cond-false (is_blank image) [] (faults_under (superblock_of image) image) shown) ∙ none in
      ap (λ o. is_some o) (cond-false off None (image_under (superblock_of image) server image) (or_from (is_blank image) (not (length (faults_of image) == 0)) shown (not_from_true (length (faults_of image) == 0) clean))
      ∙ ap (λ o. image_under o server image) is ∙ cond-true (superblock.server == server) (image_behind superblock (used_half (pages_of superblock.blocks) image) image) None (eq-eqb superblock.server server named))
      ∙ behind superblock (used_half (pages_of superblock.blocks) image) under

  under_is : (found : Option Superblock) → is_some (image_under found server image) ≡ true → (superblock : Superblock) × (found ≡ Some superblock) × (superblock.server ≡ server)
  under_is None some = absurd (false≢true some)
  under_is (Some superblock) some = by (cases_Bool (superblock.server == server))
    where
      by : ((superblock.server == server) ≡ true) ⊎ ((superblock.server == server) ≡ false) → (other : Superblock) × (Some superblock ≡ Some other) × (other.server ≡ server)
      by (inl named) = (superblock, refl, eqb-true superblock.server server named)
      by (inr other) = absurd (false≢true (ap (λ o. is_some o) (sym (cond-false (superblock.server == server) (image_behind superblock (used_half (pages_of superblock.blocks) image) image) None other)) ∙ some))

  pub image_has : is_some (image_of server image) ≡ true → (IsBlank image → ⊥) × (faults_of image ≡ []) × ((superblock : Superblock) × (superblock_of image ≡ Some superblock) × (superblock.server ≡ server))
  unfolding image_of
  image_has some = by (cases_Bool off)
    where
      by : (off ≡ true) ⊎ (off ≡ false) → (IsBlank image → ⊥) × (faults_of image ≡ []) × ((superblock : Superblock) × (superblock_of image ≡ Some superblock) × (superblock.server ≡ server))
      by (inl is) = absurd (false≢true (ap (λ o. is_some o) (sym (cond-true off None (image_under (superblock_of image) server image) is)) ∙ some))
      by (inr is) =
          let parts = or_parts (is_blank image) (not (length (faults_of image) == 0)) is in
          let there : is_some (image_under (superblock_of image) server image) ≡ true = ap (λ o. is_some o) (sym (cond-false off None (image_under (superblock_of image) server image) is)) ∙ some in
          ((λ blank. false≢true (sym parts.0 ∙ blank_passes image blank)), nil_of (faults_of image) (not-false (length (faults_of image) == 0) parts.1), under_is (superblock_of image) there)

pub image_there : ImageIsThere
image_there server image = (image_has server image, λ is. has_image server image is.0 is.1 is.2.0 is.2.1 is.2.2)
