-- What an answer brings is taken once: each token that isn't held yet.
use Rattle.host_cache.specs.Holding.{IsOnce, has_id, is_id}
use Rattle.host_cache.specs.Seen.{Seen}
use Rattle.host_cache.specs.declared.held.Held.{Held}
use Rattle.host_manager.proofs.OnceSaid.{once_more}
use Rattle.host_manager.specs.Learning.{HasTaken, Taking, shown_with, taking, taking_from, taking_one, taking_token}
use Rattle.host_tables.proofs.Lists.{id_same, in_either, or_left, or_right, same_id_is, true_false}
use Rattle.host_tables.specs.declared.draft.Draft.{Draft}
use Rattle.host_tables.specs.declared.tables.Tables.{Tables}
use Rattle.message_types.specs.declared.telling.Grant.{Grant}
use Rattle.run_rules.specs.Past.{EachOnce, In}
use Rattle.std.proofs.Common.{Bool, List, None, Option, Some, [], ap, arith, false, filter, if◌then◌else◌, inl}
use Rattle.std.proofs.Common.{inr, length, refl, subst, sym, true, ◌++◌, ◌||◌, ◌∙◌, ◌∷◌, ◌≡◌, ◌≤◌}
use Rattle.std.specs.List.{list_any}
use Rattle.token_types.specs.Conflicts.{same_id}
use Rattle.token_types.specs.declared.token.Token.{Token}
use Rattle.token_types.specs.declared.token.TokenId.{TokenId}

-- each that was taken is held
pub record AreTaken (at : Taking) : Type 0 where
  pub once : EachOnce at.taken
  pub held : (t : Token) → In t at.taken → has_id at.shown.held t.id ≡ true
  pub single : IsOnce at.shown.held

none_filtered : (test : Held → Bool) (held : List Held) → list_any test held ≡ false → filter test held ≡ []
none_filtered test [] none = refl
none_filtered test (h ∷ held) none = by_head (λ q. none_filtered test held q) (test h) none
  where
    by_head : (list_any test held ≡ false → filter test held ≡ []) → (b : Bool)
        → (b || list_any test held) ≡ false → (if b then h ∷ filter test held else filter test held) ≡ []
    by_head rest true q = absurd (cc)
    by_head rest false q = rest q

-- one more, that wasn't held
once_held : (h : Held) (held : List Held) → has_id held h.token.id ≡ false → IsOnce held → IsOnce (h ∷ held)
once_held h held fresh once id = by_head (is_id id h) refl
  where
    by_head : (b : Bool) → is_id id h ≡ b
        → length (if b then h ∷ filter (is_id id) held else filter (is_id id) held) ≤ 1
    by_head true e =
        let same : h.token.id ≡ id = same_id_is h.token.id id e in
        let none : filter (is_id id) held ≡ [] =
        none_filtered (is_id id) held (subst (λ (i : TokenId). has_id held i ≡ false) same fresh) in
        let l : length (filter (is_id id) held) ≡ 0 = ap (λ (l : List Held). length l) none in omega (arith, l)
    by_head false e = once id

shown_held : (grant : Option Grant) (token : Token) (shown : Seen) (id : TokenId)
    → has_id (shown_with grant token shown).held id ≡ (same_id token.id id || has_id shown.held id)
shown_held None token shown id = refl
shown_held (Some g) token shown id = refl

one_taken : (grant : Option Grant) (at : Taking) (token : Token) → AreTaken at → AreTaken (taking_one grant at token)
one_taken grant at token are = by_held (has_id at.shown.held token.id) refl
  where
    fresh : has_id at.shown.held token.id ≡ false → In token at.taken → ⊥
    fresh f i = true_false (has_id at.shown.held token.id) (are.held token i) f

    there : (t : Token) → In t (at.taken ++ token ∷ [])
        → has_id (shown_with grant token at.shown).held t.id ≡ true
    there t i = shown_held grant token at.shown t.id ∙ elim (in_either at.taken (token ∷ []) t i) [
      | inl j ↦ or_right (same_id token.id t.id) (has_id at.shown.held t.id) (are.held t j)
      | inr j ↦ elim j [
        | inl e ↦ or_left (same_id token.id t.id) (has_id at.shown.held t.id)
            (id_same token.id t.id (ap (λ (x : Token). x.id) (sym e)))
        | inr n ↦ elim n [ ]
      ]
    ]

    single : has_id at.shown.held token.id ≡ false → (g : Option Grant)
        → IsOnce (shown_with g token at.shown).held
    single f None = once_held _ at.shown.held f are.single
    single f (Some g) = once_held _ at.shown.held f are.single

    by_held : (b : Bool) → has_id at.shown.held token.id ≡ b
        → AreTaken (if b then at else taking_token grant at token)
    by_held true h = are
    by_held false h = record {
      once = once_more at.taken token are.once (fresh h);
      held = there;
      single = single h grant;
    }

all_taken : (grant : Option Grant) (tokens : List Token) (at : Taking) → AreTaken at → AreTaken (taking grant tokens at)
all_taken grant [] at are = are
all_taken grant (t ∷ tokens) at are = all_taken grant tokens (taking_one grant at t) (one_taken grant at t are)

module _ (grant : Option Grant) (tokens : List Token) (m from : Tables) (d : Draft) (new : Tables) (after : Draft)
    (none : d.taken ≡ []) (once : IsOnce from.cache.held)
    (its : HasTaken m d (taking grant tokens (taking_from from d)) new after) where
  are : AreTaken (taking grant tokens (taking_from from d))
  are = all_taken grant tokens (taking_from from d) (record {
    once = subst EachOnce (sym none) tt;
    held = λ t i. elim (subst (In t) none i) [ ];
    single = once;
  })

  pub taken_once : EachOnce after.taken
  taken_once = subst EachOnce (sym (ap (λ (x : Draft). x.taken) its.draft_is)) are.once

  pub held_once : IsOnce new.cache.held
  held_once = subst IsOnce (sym (ap (λ (x : Seen). x.held) its.shown)) are.single
