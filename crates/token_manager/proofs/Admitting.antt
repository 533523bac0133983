-- The tokens that are granted after some are admitted.
use Rattle.std.proofs.Common.{◌≡◌, ℕ, Bool, true, false, ◌&&◌, ◌||◌, not, cond, if◌then◌else◌, List, [], ◌∷◌, ◌++◌}
use Rattle.std.proofs.Common.{refl}
use Rattle.std.proofs.Common.{Option, Some, None, is_some, option_map, inl, inr, ap, sym, ◌∙◌, append-nil}
use Rattle.std.specs.Prelude.{All}
use Rattle.std.specs.List.{list_any, find}
use Rattle.std.proofs.lemmas.Bool.{cases_Bool, false≢true, true≢false}
use Rattle.base_types.specs.declared.ids.ServerId.{ServerId}
use Rattle.token_types.specs.Conflicts.{same_id}
use Rattle.token_types.specs.declared.token.Token.{Token}
use Rattle.token_types.specs.declared.token.TokenId.{TokenId}
use Rattle.token_table.specs.Places.{placed, comes_before}
use Rattle.token_table.specs.Tables.{has_id}
use Rattle.token_table.proofs.Shelving.{one_id}
use Rattle.token_table.specs.declared.notes.Note.{Note}
use Rattle.token_table.specs.Marks.{note_at}
use Rattle.token_table.proofs.Reading.{with_note_at}
use Rattle.token_manager.specs.declared.grants.Grants.{Grants}
use Rattle.token_manager.specs.Grants.{with_claimed, with_claims, note_of}
use Rattle.token_manager.specs.Laws.{KeepsLaws}
use Rattle.token_manager.specs.AdmitLaws.{AdmitsEachOnce, AdmitsUnpinned, first_with}
use Rattle.token_manager.proofs.Lawful.{claimed, known_claimed}
use Rattle.token_manager.proofs.Noting.{has_placed}

module _ {X : Type 0} (q : X → Bool) where
  -- one that fails the test makes no difference
  find_skip : (xs : List X) (y : X) (ys : List X) → q y ≡ false → find q (xs ++ y ∷ ys) ≡ find q (xs ++ ys)
  find_skip [] y ys fails = rw fails refl
  find_skip (x ∷ xs) y ys fails = elim (cases_Bool (q x)) [
    | inl passes ↦ rw passes refl
    | inr other ↦ rw other (find_skip xs y ys fails)
  ]

  -- nor does one behind another that passes
  find_found : (xs : List X) (y : X) (ys : List X) → list_any q xs ≡ true → find q (xs ++ y ∷ ys) ≡ find q (xs ++ ys)
  find_found [] y ys found = absurd (false≢true found)
  find_found (x ∷ xs) y ys found = elim (cases_Bool (q x)) [
    | inl passes ↦ rw passes refl
    | inr other ↦ rw other (find_found xs y ys (let h = found in rw other at h))
  ]

  -- it is the first that passes behind those that don't
  find_there : (xs : List X) (y : X) (ys : List X) → list_any q xs ≡ false → q y ≡ true →
      find q (xs ++ y ∷ ys) ≡ Some y
  find_there [] y ys none passes = rw passes refl
  find_there (x ∷ xs) y ys none passes = elim (cases_Bool (q x)) [
    | inl here ↦ absurd (true≢false (let h = none in rw here at h))
    | inr other ↦ rw other (find_there xs y ys (let h = none in rw other at h) passes)
  ]

-- a token in its place is found as one behind the others
find_placed : (q : Token → Bool) (server : ServerId) (epoch : ℕ) (token : Token) (xs ys : List Token) →
    (q token ≡ true → list_any q xs ≡ false) → find q (placed server epoch token xs ++ ys) ≡ find q (xs ++ token ∷ ys)
find_placed q server epoch token [] ys apart = refl
find_placed q server epoch token (x ∷ xs) ys apart = elim (cases_Bool (comes_before server epoch x token)) [
  | inr behind ↦ elim (cases_Bool (q token)) [
    | inl passes ↦ rw (behind, passes) (sym (find_there q (x ∷ xs) token ys (apart passes) passes))
    | inr fails ↦ rw (behind, fails) (sym (find_skip q (x ∷ xs) token ys fails))
  ]
  | inl before ↦ elim (cases_Bool (q x)) [
    | inl here ↦ rw (before, here) refl
    | inr other ↦ rw (before, other) (find_placed q server epoch token xs ys (λ passes.
        let none = apart passes in rw other at none))
  ]
]

-- where a token has the number of another
same_number : (tokens : List Token) (token : Token) (id : TokenId) → same_id token.id id ≡ true →
    has_id tokens id ≡ has_id tokens token.id
same_number tokens token id same = ap (has_id tokens) (sym (one_id token.id id same))

each_once : (grants : Grants) (tokens : List Token) (id : TokenId) →
    first_with (with_claims grants tokens).table.tokens id ≡ first_with (grants.table.tokens ++ tokens) id
each_once grants [] id = ap (λ l. first_with l id) (sym (append-nil grants.table.tokens))
each_once grants (token ∷ tokens) id =
    each_once (with_claimed grants token) tokens id ∙ next (has_id grants.table.tokens token.id) refl
  where
    next : (b : Bool) → has_id grants.table.tokens token.id ≡ b →
        first_with ((with_claimed grants token).table.tokens ++ tokens) id
        ≡ first_with (grants.table.tokens ++ token ∷ tokens) id
    next true there = rw there (elim (cases_Bool (same_id token.id id)) [
      | inl same ↦ sym (find_found (λ t. same_id t.id id) grants.table.tokens token tokens
          (same_number grants.table.tokens token id same ∙ there))
      | inr other ↦ sym (find_skip (λ t. same_id t.id id) grants.table.tokens token tokens other)
    ])
    next false absent = rw absent (find_placed (λ t. same_id t.id id) grants.table.server grants.table.epoch token
        grants.table.tokens tokens (λ same. same_number grants.table.tokens token id same ∙ absent))

pub admits_each_once : AdmitsEachOnce
admits_each_once manager tokens id = each_once manager.grants tokens id

-- what a claim leaves, in its two cases
claimed_there : (grants : Grants) (token : Token) → has_id grants.table.tokens token.id ≡ true →
    with_claimed grants token ≡ grants
claimed_there grants token there = rw there refl

claimed_new : (grants : Grants) (token : Token) → has_id grants.table.tokens token.id ≡ false →
    with_claimed grants token ≡ claimed grants token
claimed_new grants token absent = rw absent refl

-- what is noted, where nothing else is noted than of what is granted
noted : (grants : Grants) (tokens : List Token) (id : TokenId) →
    ((id : TokenId) → is_some (note_at grants.notes id) ≡ has_id grants.table.tokens id) →
    note_at (with_claims grants tokens).notes id
    ≡ (if has_id grants.table.tokens id then note_at grants.notes id
    else option_map (λ (token : Token). note_of token.host None) (first_with tokens id))
noted grants [] id known = go (note_at grants.notes id) (has_id grants.table.tokens id) (known id)
  where
    go : (o : Option Note) (b : Bool) → is_some o ≡ b → o ≡ (if b then o else None)
    go o true e = refl
    go None false e = refl
    go (Some note) false e = absurd (true≢false e)
noted grants (token ∷ tokens) id known = elim (cases_Bool (has_id grants.table.tokens token.id)) [
  | inl there ↦ ap (λ g. note_at (with_claims g tokens).notes id) (claimed_there grants token there)
      ∙ noted grants tokens id known ∙ granted there
  | inr absent ↦ ap (λ g. note_at (with_claims g tokens).notes id) (claimed_new grants token absent)
      ∙ noted (claimed grants token) tokens id (known_claimed grants token known)
      ∙ fresh absent (has_id grants.table.tokens id) refl
]
  where
    granted : has_id grants.table.tokens token.id ≡ true →
        (if has_id grants.table.tokens id then note_at grants.notes id
        else option_map (λ (t : Token). note_of t.host None) (first_with tokens id))
        ≡ (if has_id grants.table.tokens id then note_at grants.notes id
        else option_map (λ (t : Token). note_of t.host None) (first_with (token ∷ tokens) id))
    granted there = elim (cases_Bool (same_id token.id id)) [
      | inl same ↦ rw (same_number grants.table.tokens token id same ∙ there) refl
      | inr other ↦ rw other refl
    ]

    fresh : has_id grants.table.tokens token.id ≡ false → (b : Bool) → has_id grants.table.tokens id ≡ b →
        (if has_id (claimed grants token).table.tokens id then note_at (claimed grants token).notes id
        else option_map (λ (t : Token). note_of t.host None) (first_with tokens id))
        ≡ (if has_id grants.table.tokens id then note_at grants.notes id
        else option_map (λ (t : Token). note_of t.host None) (first_with (token ∷ tokens) id))
    fresh absent b is = elim (cases_Bool (same_id token.id id)) [
      | inl same ↦ rw (
        has_placed grants.table.server grants.table.epoch token grants.table.tokens id,
        with_note_at grants.notes token.id (note_of token.host None) id,
        same,
        same_number grants.table.tokens token id same ∙ absent,
      ) refl
      | inr other ↦ rw (
        has_placed grants.table.server grants.table.epoch token grants.table.tokens id,
        with_note_at grants.notes token.id (note_of token.host None) id,
        other,
      ) refl
    ]

pub admits_unpinned : AdmitsUnpinned
unfolding KeepsLaws
admits_unpinned manager tokens id h = noted manager.grants tokens id h.known
