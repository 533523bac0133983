-- Where nothing has moved, a server has just the filesets that were made at it; and in a run of today nothing moves.
use Rattle.std.proofs.Common.{Bool, List, [], ap, arith, false, if◌then◌else◌, inl, inr, refl, suc, sym, true, ℕ}
use Rattle.std.proofs.Common.{◌==◌, ◌∙◌, ◌∷◌, ◌≡◌}
use Rattle.std.specs.List.{list_any}
use Rattle.base_types.specs.declared.ids.FilesetId.{FilesetId}
use Rattle.base_types.specs.declared.ids.ServerId.{ServerId}
use Rattle.message_types.specs.declared.message.Message.{Message}
use Rattle.run_rules.specs.Doings.{after_shipping}
use Rattle.run_rules.specs.Doings.{Doing, Here, Slot, admitting, after_admitting, after_cause, after_deciding}
use Rattle.run_rules.specs.Doings.{after_sending, after_step, deciding, epoch, sending, slot_by, slot_of}
use Rattle.run_rules.specs.Doings.Doing.{Gets, Puts}
use Rattle.run_rules.specs.Doings.Doing.{Admits, BeginsEpoch, Flushes, MakesWant, Moves, Reserves, Sent, Took, WritesDown}
use Rattle.run_rules.specs.Doings.Slot.{Absent, Writable}
use Rattle.run_rules.specs.Messages.{Stay, first_stay, home}
use Rattle.run_rules.specs.Past.{appended}
use Rattle.run_rules.specs.declared.applied.Admission.{Admission}
use Rattle.run_rules.specs.declared.applied.Applied.{Applied}
use Rattle.run_rules.specs.declared.applied.Applied.TheVariants.{Done as IsDone, IsDown, Moves as IsMoved, Replied, Stored}
use Rattle.run_rules.specs.declared.applied.Applied.TheVariants.{Wants as IsWanted}
use Rattle.run_rules.specs.declared.step.Cause.{Cause}
use Rattle.run_rules.specs.declared.step.Cause.TheVariants.{End, Evict, Flushed, Freight, Lapse, Line, Message as Came}
use Rattle.run_rules.specs.declared.step.Cause.TheVariants.{Restart}
use Rattle.run_rules.specs.declared.step.Step.{Step}
use Rattle.run_tokens.proofs.Ships.{ships_keep}
use Rattle.run_tokens.specs.Unmoved.{MovesNone, MovesOne, StaysPut, Unmoved, is_move}

-- a doing that moves none leaves each slot as it is
pub slot_on : (a : Doing) (fs : FilesetId) (s : Slot) → (MovesOne a → ⊥) → slot_by a fs s ≡ s
slot_on (BeginsEpoch e) fs s still = refl
slot_on (Took h e n b) fs s still = refl
slot_on Flushes fs s still = refl
slot_on (MakesWant w) fs s still = refl
slot_on (WritesDown w) fs s still = refl
slot_on (Admits h ts) fs s still = refl
slot_on (Sent h e n b) fs s still = refl
slot_on (Reserves ts) fs s still = refl
slot_on (Gets from n b) fs s still = refl
slot_on (Puts to n b) fs s still = refl
slot_on (Moves move) fs s still = absurd (still (move, refl))

pub slot_is : (v : ServerId) (past : List Doing) (fs : FilesetId) → StaysPut past → slot_of v past fs ≡ slot_of v [] fs
slot_is v [] fs put = refl
slot_is v (a ∷ past) fs put =
    slot_on a fs (slot_of v past fs) (λ m. put (inl m)) ∙ slot_is v past fs (λ o. put (inr o))

-- so what is here stays here
pub here_on : (v : ServerId) (a : Doing) (past : List Doing) (fs : FilesetId) (m : ℕ) → (MovesOne a → ⊥)
    → Here v past fs m → Here v (a ∷ past) fs m
here_on v a past fs m still here = slot_on a fs (slot_of v past fs) still ∙ here

pub put_on : (a : Doing) (past : List Doing) → (MovesOne a → ⊥) → StaysPut past → StaysPut (a ∷ past)
put_on a past still put (inl m) = still m
put_on a past still put (inr o) = put o

at_first : (b : Bool) (m : ℕ) → (if b then Writable 0 else Absent) ≡ Writable m → (b ≡ true) × (m ≡ 0)
at_first true m q = (refl, cc)
at_first false m q = cc

one : (a b : ServerId) → (a.0 == b.0) ≡ true → a ≡ b
one a b q = (
    let e : a.0 ≡ b.0 = grind (arith, q) in
    let f : ℕ → ServerId = λ n. record { 0 = n } in
    ap f e)

pub here_is : (v : ServerId) (past : List Doing) (fs : FilesetId) (m : ℕ) → StaysPut past → Here v past fs m
    → first_stay fs ≡ record { server = v; moves = m }
here_is v past fs m put here = (
    let q = at_first ((home fs).0 == v.0) m (sym (slot_is v past fs put) ∙ here) in
    let p = one (home fs) v q.0 in
    let z = q.1 in
    cc)

pub here_was : (v : ServerId) (past : List Doing) (fs : FilesetId) (m : ℕ) → StaysPut past
    → first_stay fs ≡ record { server = v; moves = m } → Here v past fs m
here_was v past fs m put stay = slot_is v past fs put ∙ (
    let q : home fs ≡ v = ap (λ (s : Stay). s.server) stay in
    let z : 0 ≡ m = ap (λ (s : Stay). s.moves) stay in
    let k = ap (λ (s : ServerId). s.0) q in
    let e : ((home fs).0 == v.0) ≡ true = grind (arith, k) in
    ap (λ b. if b then Writable 0 else Absent) e ∙ ap Writable z)

-- a step that moves none leaves them there
pub cause_put : (c : Cause) (S : List Doing) → StaysPut S → StaysPut (after_cause c S)
cause_put (Came m) S put = put_on (Took m.host m.epoch m.moves m.body) S (λ p. let q = p.1 in cc) put
cause_put (Restart line) S put = put_on (BeginsEpoch (suc (epoch S))) S (λ p. let q = p.1 in cc) put
cause_put Flushed S put = put_on Flushes S (λ p. let q = p.1 in cc) put
cause_put (Line line) S put = put
cause_put Lapse S put = put
cause_put Evict S put = put
cause_put (Freight freight) S put = put_on (Gets freight.server freight.moves freight.body) S (λ p. let q = p.1 in cc) put
cause_put End S put = put

pub deciding_put : (xs : List Applied) (S : List Doing) → list_any is_move xs ≡ false → StaysPut S
    → StaysPut (appended (deciding xs) S)
deciding_put [] S none put = put
deciding_put (IsWanted x ∷ xs) S none put =
    deciding_put xs (MakesWant x ∷ S) none (put_on (MakesWant x) S (λ p. let q = p.1 in cc) put)
deciding_put (IsDone x ∷ xs) S none put =
    deciding_put xs (WritesDown x ∷ S) none (put_on (WritesDown x) S (λ p. let q = p.1 in cc) put)
deciding_put (Replied answer ∷ xs) S none put = deciding_put xs S none put
deciding_put (Stored host fid spans given ∷ xs) S none put = deciding_put xs S none put
deciding_put (IsDown host ∷ xs) S none put = deciding_put xs S none put
deciding_put (IsMoved move ∷ xs) S none put = absurd (cc)

pub admitting_put : (cs : List Admission) (S : List Doing) → StaysPut S → StaysPut (appended (admitting cs) S)
admitting_put [] S put = put
admitting_put (c ∷ cs) S put =
    admitting_put cs (Admits c.host c.tokens ∷ S) (put_on (Admits c.host c.tokens) S (λ p. let q = p.1 in cc) put)

pub sending_put : (ms : List Message) (S : List Doing) → StaysPut S → StaysPut (appended (sending ms) S)
sending_put [] S put = put
sending_put (m ∷ ms) S put =
    sending_put ms (Sent m.host m.epoch m.moves m.body ∷ S)
    (put_on (Sent m.host m.epoch m.moves m.body) S (λ p. let q = p.1 in cc) put)

pub admitted_put : (s : Step) (S : List Doing) → MovesNone s → StaysPut S → StaysPut (after_admitting s S)
admitted_put s S none put =
    admitting_put s.admitted (after_deciding s S)
    (deciding_put s.applied (after_cause s.cause S) none (cause_put s.cause S put))

pub step_put : (s : Step) (S : List Doing) → MovesNone s → StaysPut S → StaysPut (after_step s S)
step_put s S none put =
    put_on (Reserves s.reserved) (after_shipping s S) (λ p. let q = p.1 in cc)
    (ships_keep StaysPut (λ T to n b was. put_on (Puts to n b) T (λ p. let q = p.1 in cc) was) s.shipped
    (after_sending s S) (sending_put s.sent (after_admitting s S) (admitted_put s S none put)))

pub first_put : (first : ℕ) → StaysPut (BeginsEpoch first ∷ [])
first_put first o = elim o [ inl p ↦ (let q = p.1 in cc) | inr n ↦ elim n [ ] ]

pub unmoved : Unmoved
unmoved = record { here_is = here_is; here_was = here_was }
