-- What goes, and what is left.
use Rattle.std.proofs.Common.{◌≡◌, ℕ, Bool, true, false, ◌==◌, cond, Some, None, refl, sym, ap, ◌∙◌}
use Rattle.std.specs.Option.{option_map_or}
use Rattle.std.proofs.lemmas.Bool.{eqb-true}
use Rattle.base_types.specs.declared.ids.FilesetId.{FilesetId}
use Rattle.message_types.specs.declared.message.Message.{Message}
use Rattle.host_gives.specs.Giving.{Giving, number_of, outstanding, is_outstanding, gone, without_first, after_gone}

-- where the number is outstanding, and where it isn't
goes : (giving : Giving) (fileset : FilesetId) (number : ℕ) (b : Bool) →
    is_outstanding giving fileset number ≡ b →
    (gone giving fileset number ≡ cond b (outstanding giving fileset) None)
    × (after_gone giving fileset number
    ≡ record giving { gives = cond b (without_first fileset giving.gives) giving.gives })
goes giving fileset number b e = (
  ap (λ t. cond t (outstanding giving fileset) None) e,
  ap (λ t. record giving { gives = cond t (without_first fileset giving.gives) giving.gives }) e,
)

pub gone_nowhere : (giving : Giving) (fileset : FilesetId) (number : ℕ) → outstanding giving fileset ≡ None →
    (None ≡ gone giving fileset number) × (giving ≡ after_gone giving fileset number)
gone_nowhere giving fileset number none =
    let k = goes giving fileset number false (ap (λ o. option_map_or (λ m. number_of m == number) o false) none) in
    (sym k.0, sym k.1)

pub gone_other : (giving : Giving) (fileset : FilesetId) (number : ℕ) (message : Message) →
    outstanding giving fileset ≡ Some message → (number_of message == number) ≡ false →
    (None ≡ gone giving fileset number) × (giving ≡ after_gone giving fileset number)
gone_other giving fileset number message there apart =
    let k = goes giving fileset number false
    (ap (λ o. option_map_or (λ m. number_of m == number) o false) there ∙ apart) in
    (sym k.0, sym k.1)

pub gone_there : (giving : Giving) (fileset : FilesetId) (number : ℕ) (message : Message) →
    outstanding giving fileset ≡ Some message → (number_of message == number) ≡ true →
    (Some message ≡ gone giving fileset number)
    × (record giving { gives = without_first fileset giving.gives } ≡ after_gone giving fileset number)
gone_there giving fileset number message there same =
    let k = goes giving fileset number true
    (ap (λ o. option_map_or (λ m. number_of m == number) o false) there ∙ same) in
    (sym there ∙ sym k.0, sym k.1)

pub differs : (a b : ℕ) → (a ≡ b → ⊥) → (a == b) ≡ false
differs a b apart = by_test (a == b) refl
  where
    by_test : (t : Bool) → (a == b) ≡ t → t ≡ false
    by_test true e = absurd (apart (eqb-true a b e))
    by_test false e = refl
