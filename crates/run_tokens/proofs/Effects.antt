-- What a doing of a server changes at once, and what a Revoke changes at a host.
use Rattle.std.proofs.Common.{◌≡◌, ℕ, ◌<◌, ◌==◌, List, ◌∷◌, inl, inr, refl, sym, subst, ap, ◌∙◌, arith}
use Rattle.base_types.specs.declared.ids.HostId.{HostId}
use Rattle.base_types.specs.declared.ids.ServerId.{ServerId}
use Rattle.token_types.specs.declared.token.Token.{Token}
use Rattle.message_types.specs.declared.message.Body.{Body}
use Rattle.message_types.specs.declared.message.Body.TheVariants.{Revoke, Returned, Kept, GiveBack, Down}
use Rattle.message_types.specs.declared.tokens.Revoke.{Revoke as RevokeOf}
use Rattle.message_types.specs.declared.tokens.Named.{Named}
use Rattle.message_types.specs.declared.giving.Give.{Give}
use Rattle.run_rules.specs.declared.step.Cause.{Cause}
use Rattle.run_rules.specs.declared.step.Step.{Step}
use Rattle.run_rules.specs.Doings.{Doing, Granted, Here, IsLive, IsNewlyGranted, Pinned, epoch}
use Rattle.run_rules.specs.Doings.Doing.{Admits, Took}
use Rattle.run_rules.specs.Messages.{About, epoch_at, epoch_raised, epoch_raised_by, home}
use Rattle.run_rules.specs.Past.{In}
use Rattle.run_rules.specs.Tokens.{AboveFloor, IsUseKind}
use Rattle.run_tokens.specs.Effects.{takes, Effects}

-- to take a message makes no token granted
taken_none : (h : HostId) (e n : ℕ) (b : Body) (t : Token) → IsNewlyGranted (Took h e n b) t → ⊥
taken_none h e n b t (inl (x, (k, d, w, inl g, _, _))) = (let q = g.1 in cc)
taken_none h e n b t (inl (x, (k, d, w, inr g, _, _))) = (let q = g.1 in cc)
taken_none h e n b t (inr (ts, q, _)) = cc

returned : (v : ServerId) (past : List Doing) (h : HostId) (n : ℕ) (w : Named) (t : Token) → Here v past w.fid.fileset n → IsLive past h → t.host ≡ h → In t.id w.ids → Granted v (takes past h n (Returned w)) t → ⊥
returned v past h n w t here live mine m (inl g) = taken_none h (epoch past) n (Returned w) t g
returned v past h n w t here live mine m (inr (g, _, names, _)) = names (inl (w, (n, here, (ap (λ k. Took k (epoch past) n (Returned w)) (sym mine), subst (IsLive past) (sym mine) live)), m))

given : (v : ServerId) (past : List Doing) (h : HostId) (n : ℕ) (g : Give) (t : Token) → Here v past g.fid.fileset n → IsLive past h → t.host ≡ h → In t.id g.ids → Granted v (takes past h n (GiveBack g)) t → ⊥
given v past h n g t here live mine m (inl k) = taken_none h (epoch past) n (GiveBack g) t k
given v past h n g t here live mine m (inr (k, _, names, _)) = names (inr (g, (n, here, (ap (λ j. Took j (epoch past) n (GiveBack g)) (sym mine), subst (IsLive past) (sym mine) live)), m))

kept : (v : ServerId) (past : List Doing) (n : ℕ) (w : Named) (t : Token) → Here v past w.fid.fileset n → IsLive past t.host → In t.id w.ids → IsUseKind t.kind → Granted v past t → Pinned v (takes past t.host n (Kept w)) t
kept v past n w t here live m kind g = (
  inl (w, (n, here, (refl, live)), m, kind, g),
  inr (
    g,
    (λ b. let q = b.1 in cc),
    (λ x. elim x [ inl y ↦ (let q = y.1.2.0 in cc) | inr y ↦ (let q = y.1.2.0 in cc) ]),
    λ x. elim x [ inl y ↦ (let q = y.2 in cc) | inr y ↦ (let q = y.0.1 in cc) ],
  ),
)

down : (v : ServerId) (past : List Doing) (e n : ℕ) (t : Token) → Granted v (Took t.host e n Down ∷ past) t → ⊥
down v past e n t (inl g) = taken_none t.host e n Down t g
down v past e n t (inr (g, _, _, away)) = away (inl (e, n, refl))

floor : (past : List Step) (s : Step) (r : RevokeOf) (x : ℕ) → About past s r.fid.fileset (Revoke r) → AboveFloor (s ∷ past) r.fid x → r.stamp < x
floor past s r x comes (inl (inl up, _)) = absurd (let q = same (home r.fid.fileset) in let lt : epoch_at past (home r.fid.fileset) < epoch_at (s ∷ past) (home r.fid.fileset) = up in omega (arith, q))
  where
    same : (v : ServerId) → epoch_at (s ∷ past) v ≡ epoch_at past v
    same v = ap (λ (c : Cause). epoch_raised c v (epoch_at past v)) comes.1 ∙ ap (λ (b : Body). epoch_raised_by b (comes.0.server.0 == v.0) comes.0.epoch (epoch_at past v)) comes.5
floor past s r x comes (inl (inr moved, _)) = absurd (omega (arith, moved))
floor past s r x comes (inr a) = a.1 r comes refl

pub effects : Effects
effects = record {
  brought = λ v past h e n g t m. inl (inl (record { moves = n; stamp = g.bring.stamp }, (h, e, g.bring, inl (g, refl, refl), m, refl)));
  claimed = λ v past h ts t m mine. inl (inr (ts, ap (λ k. Admits k ts) (sym mine), m));
  returned = returned;
  given = given;
  applied = λ v past h n g here live. inl (g, (n, here, (refl, live)), refl, omega arith);
  kept = kept;
  down = down;
  reserved = λ past ts t m. inl (ts, refl, m);
  written = λ past w. inl (w, refl, refl, refl, refl);
  floor = floor;
}
