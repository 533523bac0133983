-- Choices between nodes, and messages that are taken.
use Rattle.std.proofs.Common.{◌≡◌, ℕ, ◌==◌, Bool, true, false, if◌then◌else◌, List, ap, refl, eqb-true}
use Rattle.std.proofs.lemmas.Bool.{eqb-false}
use Rattle.base_types.specs.declared.ids.FilesetId.{FilesetId}
use Rattle.base_types.specs.declared.ids.HostId.{HostId}
use Rattle.base_types.specs.declared.ids.ServerId.{ServerId}
use Rattle.message_types.specs.declared.message.Body.{Body}
use Rattle.run_rules.specs.Doings.{Doing, HasGoneAway, TakesOf, epoch}
use Rattle.run_rules.specs.Doings.Doing.{Took}

-- a message that is taken comes from a host that isn't away
pub taken_is : (v : ServerId) (S : List Doing) (a : Doing) (h : HostId) (fs : FilesetId) (b : Body) → TakesOf v S a h fs b
    → (n : ℕ) × (a ≡ Took h (epoch S) n b)
taken_is v S a h fs b (n, here, (is, (listed, live))) = (n, is)

pub taken_live : (v : ServerId) (S : List Doing) (a : Doing) (h : HostId) (fs : FilesetId) (b : Body) → TakesOf v S a h fs b
    → HasGoneAway S h → ⊥
taken_live v S a h fs b (n, here, (is, (listed, live))) = live

-- a choice by whether two nodes are the same
pub host_split : {X : Type 0} (P : X → Type 0) (k h : HostId) (new old : X) → (k ≡ h → P new) → ((k ≡ h → ⊥) → P old)
    → P (if k.0 == h.0 then new else old)
host_split {X} P k h new old same other = go (k.0 == h.0) refl
  where
    go : (b : Bool) → (k.0 == h.0) ≡ b → P (if b then new else old)
    go true e = same (ap (λ (n : ℕ). record { 0 = n }) (eqb-true k.0 h.0 e))
    go false e = other (λ q. eqb-false k.0 h.0 e (ap (λ (j : HostId). j.0) q))

pub server_split : {X : Type 0} (P : X → Type 0) (k v : ServerId) (new old : X) → (k ≡ v → P new)
    → ((k ≡ v → ⊥) → P old) → P (if k.0 == v.0 then new else old)
server_split {X} P k v new old same other = go (k.0 == v.0) refl
  where
    go : (b : Bool) → (k.0 == v.0) ≡ b → P (if b then new else old)
    go true e = same (ap (λ (n : ℕ). record { 0 = n }) (eqb-true k.0 v.0 e))
    go false e = other (λ q. eqb-false k.0 v.0 e (ap (λ (j : ServerId). j.0) q))
