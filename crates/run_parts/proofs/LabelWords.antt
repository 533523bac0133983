-- Which give-back names a token, and what a Kept says.
use Rattle.std.proofs.Common.{◌≡◌, ℕ, ◌⊎◌, ◌==◌, Bool, true, false, List, [], ◌∷◌}
use Rattle.std.proofs.Common.{inl, inr, ap, subst, refl, eqb-true}
use Rattle.std.proofs.lemmas.Bool.{eqb-false}
use Rattle.base_types.specs.declared.ids.ServerId.{ServerId}
use Rattle.message_types.specs.declared.giving.Give.{Give}
use Rattle.message_types.specs.declared.message.Body.TheVariants.{Kept}
use Rattle.message_types.specs.declared.tokens.Named.{Named}
use Rattle.token_types.specs.declared.token.Token.{Token}
use Rattle.token_types.specs.declared.token.TokenId.{TokenId}
use Rattle.run_rules.specs.Doings.{Doing, Granted, Pinned}
use Rattle.run_rules.specs.Messages.{KeepsToken, Said}
use Rattle.run_rules.specs.Past.{In, Once}
use Rattle.run_rules.specs.Tokens.{EverHeld, Owns}
use Rattle.run_tokens.specs.TokenLaws.{TookEver}
use Rattle.run_rules.specs.declared.step.Labelled.{Labelled}
use Rattle.run_rules.specs.declared.step.Step.{Step}

-- an earlier step began the use
abbrev pub HasBegun : List Step → Labelled → Type 0
HasBegun past u = Once (λ before s. In u s.begun) past

-- a Kept of an earlier step named the token
abbrev pub HadKept : List Step → TokenId → Type 0
HadKept past i = Once (λ before s. KeepsToken s i) past

pub said_kept : (A : List Step) (v : ServerId) (e n : ℕ) (w : Named) (i : TokenId) → Said A v e n (Kept w)
    → In i w.ids → HadKept A i
said_kept [] v e n w i p m = elim p [ ]
said_kept (s ∷ A) v e n w i (inl p) m = inl (v, e, n, w, p, m)
said_kept (s ∷ A) v e n w i (inr p) m = inr (said_kept A v e n w i p m)

-- what is pinned was named by a Kept that was taken, and is granted
pub record KeptOnce (v : ServerId) (S : List Doing) (t : Token) : Type 0 where
  pub named : Named
  pub took : TookEver v S t.host named.fid.fileset (Kept named)
  pub names : In t.id named.ids

pub pinned_kept : (v : ServerId) (S : List Doing) (t : Token) → Pinned v S t → KeptOnce v S t
pinned_kept v [] t p = elim p [ ]
pinned_kept v (a ∷ S) t (inl (w, took, names, kind, granted), _) =
    record { named = w; took = inl took; names = names }
pinned_kept v (a ∷ S) t (inr p, _) =
    let k = pinned_kept v S t p in
    record { named = k.named; took = inr k.took; names = k.names }

pub pinned_granted : (v : ServerId) (S : List Doing) (t : Token) → Pinned v S t → Granted v S t
pinned_granted v [] t p = elim p [ ]
pinned_granted v (a ∷ S) t p = p.1

pub owns_ever : (A : List Step) (t : Token) → Owns A t → EverHeld A t
owns_ever [] t k = elim k [ ]
owns_ever (s ∷ A) t k = elim k.0 [ inl m ↦ inl m | inr o ↦ inr (owns_ever A t o) ]

cases_number : (a b : ℕ) → (a ≡ b) ⊎ (a ≡ b → ⊥)
cases_number a b = go (a == b) refl
  where
    go : (q : Bool) → (a == b) ≡ q → (a ≡ b) ⊎ (a ≡ b → ⊥)
    go true e = inl (eqb-true a b e)
    go false e = inr (eqb-false a b e)

cases_id : (a b : TokenId) → (a ≡ b) ⊎ (a ≡ b → ⊥)
cases_id a b =
    elim (cases_number a.server.0 b.server.0) [
      | inr two ↦ inr (λ q. two (ap (λ (z : TokenId). z.server.0) q))
      | inl one ↦ elim (cases_number a.epoch b.epoch) [
        | inr two ↦ inr (λ q. two (ap (λ (z : TokenId). z.epoch) q))
        | inl same ↦ elim (cases_number a.seq b.seq) [
          | inr two ↦ inr (λ q. two (ap (λ (z : TokenId). z.seq) q))
          | inl seq ↦ inl (λ i. record { server = record { 0 = one i }; epoch = same i; seq = seq i })
        ]
      ]
    ]

is_id : (i : TokenId) (ids : List TokenId) → In i ids ⊎ (In i ids → ⊥)
is_id i [] = inr (λ e. elim e [ ])
is_id i (j ∷ ids) =
    elim (cases_id i j) [
      | inl e ↦ inl (inl e)
      | inr apart ↦ elim (is_id i ids) [
        | inl m ↦ inl (inr m)
        | inr none ↦ inr (λ e. elim e [ inl p ↦ apart p | inr p ↦ none p ])
      ]
    ]

-- one of these give-backs names the token, or none does
pub is_named : (i : TokenId) (gs : List Give) → ((g : Give) × In g gs × In i g.ids)
    ⊎ ((g : Give) → In g gs → In i g.ids → ⊥)
is_named i [] = inr (λ g m n. elim m [ ])
is_named i (g ∷ gs) =
    elim (is_id i g.ids) [
      | inl m ↦ inl (g, inl refl, m)
      | inr apart ↦ elim (is_named i gs) [
        | inl x ↦ inl (x.0, inr x.1, x.2)
        | inr none ↦ inr (λ k m n. elim m [
          | inl p ↦ apart (subst (λ (z : Give). In i z.ids) p n)
          | inr p ↦ none k p n
        ])
      ]
    ]
