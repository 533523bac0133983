-- What the begin of an epoch and a flush leave.
use Rattle.std.proofs.Common.{ℕ, List, ◌∷◌, inl, inr, refl}
use Rattle.base_types.specs.declared.ids.ServerId.{ServerId}
use Rattle.token_types.specs.declared.token.Token.{Token}
use Rattle.run_rules.specs.Doings.{Doing, Granted, IsNewlyGranted}
use Rattle.run_rules.specs.Doings.Doing.{BeginsEpoch, Flushes}
use Rattle.run_tokens.specs.Forgetting.{IsForgotten, IsKept, Forgetting}

module _ (v : ServerId) (past : List Doing) (n : ℕ) where
  new_none : (t : Token) → IsNewlyGranted (BeginsEpoch n) t → ⊥
  new_none t (inl (x, (h, e, w, inl g, _, _))) = (let q = g.1 in cc)
  new_none t (inl (x, (h, e, w, inr g, _, _))) = (let q = g.1 in cc)
  new_none t (inr (ts, e, _)) = cc

  none_granted : (t : Token) → Granted v (BeginsEpoch n ∷ past) t → ⊥
  none_granted t (inl g) = new_none t g
  none_granted t (inr (g, q, _, _)) = q (n, refl)

  forgotten : IsForgotten v (BeginsEpoch n ∷ past)
  forgotten = record {
    granted = none_granted;
    pinned = λ t p. none_granted t p.1;
    reserved = λ t r. elim r [ inl x ↦ (let q = x.1 in cc) | inr x ↦ x.1 (inl (n, refl)) ];
    reclaimed = λ h r. elim r [ inl x ↦ elim x [ inl y ↦ (let q = y.1 in cc) | inr y ↦ elim y.0 [ inl z ↦ (let q = z.0.2 in cc) | inr z ↦ y.1 z ] ] | inr x ↦ x.1 (n, refl) ];
    given_up = λ h i g. elim g [ inl x ↦ elim x [ inl y ↦ (let q = y.1.2.0 in cc) | inr y ↦ (let q = y.1.2.0 in cc) ] | inr x ↦ x.1 (n, refl) ];
    told = λ f x t. elim t [ inl y ↦ elim y [ inl z ↦ elim z.4 [ inl g ↦ (let q = g.1 in cc) | inr g ↦ (let q = g.1 in cc) ] | inr z ↦ (let q = z.4 in cc) ] | inr y ↦ y.1 (n, refl) ];
  }

  kept : IsKept v past (BeginsEpoch n)
  kept = record {
    applied = λ h k. ((λ a. elim a [ inl x ↦ absurd (let q = x.1.2.0 in cc) | inr x ↦ x ]), λ a. inr a);
    written = λ h fs k. ((λ a. elim a [ inl x ↦ absurd (let q = x.1 in cc) | inr x ↦ x ]), λ a. inr a);
    listed = λ h. ((λ a. elim a [ inl x ↦ absurd (let q = x.0.2 in cc) | inr x ↦ x ]), λ a. inr a);
    down = λ h. ((λ a. elim a [ inl x ↦ absurd (let q = x.2 in cc) | inr x ↦ x ]), λ a. inr a);
    away = λ h. ((λ a. elim a [ inl x ↦ absurd (elim x [ inl y ↦ (let q = y.2 in cc) | inr y ↦ (let q = y.0.1 in cc) ]) | inr x ↦ x ]), λ a. inr a);
  }

flush_none : (t : Token) → IsNewlyGranted Flushes t → ⊥
flush_none t (inl (x, (h, e, w, inl g, _, _))) = (let q = g.1 in cc)
flush_none t (inl (x, (h, e, w, inr g, _, _))) = (let q = g.1 in cc)
flush_none t (inr (ts, e, _)) = cc

pub forgetting : Forgetting
forgetting = record {
  restart = forgotten;
  lasting = kept;
  flush = λ past t r. elim r [ inl x ↦ (let q = x.1 in cc) | inr x ↦ x.1 (inr refl) ];
  hosts = λ v past t. (
    (λ g. elim g [ inl x ↦ absurd (flush_none t x) | inr x ↦ x.0 ]),
    λ g. inr (
      g,
      (λ b. let q = b.1 in cc),
      (λ m. elim m [ inl x ↦ (let q = x.1.2.0 in cc) | inr x ↦ (let q = x.1.2.0 in cc) ]),
      λ w. elim w [ inl x ↦ (let q = x.2 in cc) | inr x ↦ (let q = x.0.1 in cc) ],
    ),
  );
}
