-- What messages tell, and which count.
-- all but a Bye, a Restarted and a Reclaimed count in the present epoch alone
use Rattle.base_types.specs.declared.ids.FilesetId.{FilesetId}
use Rattle.host_manager.specs.Taking.{IsOfStay, told_by}
use Rattle.host_tables.proofs.Lists.{by_test, or_left, or_right, true_false}
use Rattle.host_tables.specs.Heeding.{IsForOthers}
use Rattle.host_tables.specs.declared.tables.Tables.{Tables}
use Rattle.message_types.specs.declared.giving.AppliedGive.{AppliedGive}
use Rattle.message_types.specs.declared.giving.Reclaimed.{Reclaimed as ReclaimedOf}
use Rattle.message_types.specs.declared.message.Body.{Body}
use Rattle.message_types.specs.declared.message.Body.TheVariants.{Bye, Change, Done, Down, Fetch, GiveBack, Gone}
use Rattle.message_types.specs.declared.message.Body.TheVariants.{Grant, Hello, Kept, NotHere, Reclaim, Reclaimed}
use Rattle.message_types.specs.declared.message.Body.TheVariants.{Restarted, Returned, Revoke, Ship, Shipped}
use Rattle.message_types.specs.declared.telling.Done.{Done as DoneOf}
use Rattle.message_types.specs.declared.telling.DoneIs.{DoneIs}
use Rattle.message_types.specs.declared.telling.DoneIs.TheVariants.{Known, Reply as HasReply}
use Rattle.message_types.specs.declared.telling.Grant.{Grant as GrantOf}
use Rattle.message_types.specs.declared.tokens.Revoke.{Revoke as RevokeOf}
use Rattle.std.proofs.Common.{Bool, None, ap, eq-eqb, eqb-true, false, inl, inr, refl, sym, true, ℕ, ◌==◌, ◌||◌, ◌∙◌}
use Rattle.std.proofs.Common.{◌≡◌, ◌⊎◌}
use Rattle.tree_calls.specs.declared.reply.Reply.{Reply}

pub of_stay : (body : Body) → (body ≡ Bye → ⊥) → (body ≡ Restarted → ⊥) → ((r : ReclaimedOf) → body ≡ Reclaimed r → ⊥)
    → IsOfStay body
of_stay Bye bye restarted reclaimed = absurd (bye refl)
of_stay Restarted bye restarted reclaimed = absurd (restarted refl)
of_stay (Reclaimed r) bye restarted reclaimed = absurd (reclaimed r refl)
of_stay Hello bye restarted reclaimed = tt
of_stay (Fetch f) bye restarted reclaimed = tt
of_stay (Grant g) bye restarted reclaimed = tt
of_stay (Change c) bye restarted reclaimed = tt
of_stay (Done d) bye restarted reclaimed = tt
of_stay (Revoke r) bye restarted reclaimed = tt
of_stay (Returned r) bye restarted reclaimed = tt
of_stay (Kept k) bye restarted reclaimed = tt
of_stay (GiveBack g) bye restarted reclaimed = tt
of_stay (Gone g) bye restarted reclaimed = tt
of_stay (Reclaim r) bye restarted reclaimed = tt
of_stay Down bye restarted reclaimed = tt
of_stay (NotHere n) bye restarted reclaimed = tt
of_stay (Ship s) bye restarted reclaimed = tt
of_stay (Shipped s) bye restarted reclaimed = tt

-- what isn't told to hosts
pub for_others : (body : Body) → IsOfStay body → ((g : AppliedGive) → body ≡ Gone g → ⊥)
    → ((g : GrantOf) → body ≡ Grant g → ⊥) → ((d : DoneOf) → body ≡ Done d → ⊥)
    → ((r : RevokeOf) → body ≡ Revoke r → ⊥) → IsForOthers body
for_others Bye stay gone grant done revoke = elim stay [ ]
for_others Restarted stay gone grant done revoke = elim stay [ ]
for_others (Reclaimed r) stay gone grant done revoke = elim stay [ ]
for_others Hello stay gone grant done revoke = tt
for_others (Fetch f) stay gone grant done revoke = tt
for_others (Grant g) stay gone grant done revoke = absurd (grant g refl)
for_others (Change c) stay gone grant done revoke = tt
for_others (Done d) stay gone grant done revoke = absurd (done d refl)
for_others (Revoke r) stay gone grant done revoke = absurd (revoke r refl)
for_others (Returned r) stay gone grant done revoke = tt
for_others (Kept k) stay gone grant done revoke = tt
for_others (GiveBack g) stay gone grant done revoke = tt
for_others (Gone g) stay gone grant done revoke = absurd (gone g refl)
for_others (Reclaim r) stay gone grant done revoke = tt
for_others Down stay gone grant done revoke = tt
for_others (NotHere n) stay gone grant done revoke = tt
for_others (Ship s) stay gone grant done revoke = tt
for_others (Shipped s) stay gone grant done revoke = tt

-- what comes of a server of which nothing was known, or in its present epoch
pub heard_is : (a b : ℕ) → ((a == 0) || (a == b)) ≡ true → (a ≡ 0) ⊎ (a ≡ b)
heard_is a b e = elim (by_test (a == 0)) [
  | inl t ↦ inl (eqb-true a 0 t)
  | inr f ↦ inr (eqb-true a b (sym (ap (λ (x : Bool). x || (a == b)) f) ∙ e))
]

pub not_heard : (a b : ℕ) → ((a == 0) || (a == b)) ≡ false → (a ≡ 0) ⊎ (a ≡ b) → ⊥
not_heard a b f (inl z) = true_false ((a == 0) || (a == b))
    (or_left (a == 0) (a == b) (eq-eqb a 0 z)) f
not_heard a b f (inr z) = true_false ((a == 0) || (a == b))
    (or_right (a == 0) (a == b) (eq-eqb a b z)) f

-- an outcome that tells nothing of its own
pub other_told : (outcome : DoneIs) (m : Tables) → ((id : FilesetId) → outcome ≡ Known id → ⊥)
    → ((reply : Reply) → outcome ≡ HasReply reply → ⊥) → record m { request = None } ≡ told_by outcome m
other_told (Known id) m known reply = absurd (known id refl)
other_told (HasReply r) m known reply = absurd (reply r refl)
other_told _ m known reply = refl
