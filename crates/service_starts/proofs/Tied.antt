-- A store that has settled what it had to keeps its part of the tree that a run starts from.
use Rattle.service_starts.proofs.Begun.{got_map, map_got, roster_all}
use Rattle.std.proofs.Common.{◌≡◌, ℕ, zero, suc, ◌+◌, ◌==◌, Bool, true, false, List, [], ◌∷◌, map, filter, Some, None, refl, sym, ap, ◌∙◌, subst, inl, inr, rules}
use Rattle.std.specs.Prelude.{slice_get, if◌then◌else◌}
use Rattle.base_types.specs.declared.ids.FilesetId.{FilesetId}
use Rattle.tree_calls.specs.declared.roster.Roster.{Roster}
use Rattle.store_memory.specs.declared.told.Slot.{Slot}
use Rattle.service_starts.proofs.Settles.{settles_once}
use Rattle.service_starts.proofs.Standing.{In, contains_in, in_contains, in_all_slots, of_all_slots}
use Rattle.service_starts.specs.Fitting.{misfit, settlings_of}
use Rattle.service_starts.specs.Settled.{stay_after, slot_after, told_after, settled}
use Rattle.service_starts.specs.Starting.{start_of}
use Rattle.service_starts.specs.Told.{Placed, placed, stands_as}
use Rattle.service_starts.specs.declared.fitting.Settling.{Settling}
use Rattle.service_starts.specs.declared.told.Told.{Told}
use Rattle.store_records.proofs.Acts.{acts_keep_storable}
use Rattle.store_records.specs.Stored.{IsStorable}
use Rattle.service_starts.proofs.Kept.{never, start_kept}
use Rattle.service_starts.proofs.SettledMoves.{stores_settle}
use Rattle.service_starts.proofs.Turned.{settled_slots}
use Rattle.service_starts.specs.Kept.{StartsAreKept}
use Rattle.service_starts.specs.Settles.{acts_at}
use Rattle.service_starts.specs.Starts.{IsToldOf, AreTold, NoneGoesOn}
use Rattle.store_acts.specs.Acts.{act_done, state_after}
use Rattle.store_acts.specs.declared.act.Act.TheVariants.{Settle}
use Rattle.store_state.specs.State.{is_leaving}
use Rattle.store_state.specs.declared.state.Stay.{Stay}
use Rattle.store_state.specs.declared.state.Stay.TheVariants.{Writable, Clone, Leaving, Arriving, Gone}
use Rattle.store_state.specs.declared.state.StoreState.{StoreState}
use Rattle.store_laws.specs.TreeKeeping.{KeepsOf}

in_map : {X : Type 0} {Y : Type 0} (f : X → Y) (xs : List X) (y : Y) → In y (map f xs) → (x : X) × In x xs × (f x ≡ y)
in_map f [] y i = absurd i
in_map f (x ∷ xs) y (inl e) = (x, inl refl, e)
in_map f (x ∷ xs) y (inr i) = let w = in_map f xs y i in (w.0, inr w.1, w.2)

-- what each store tells then
told_settled : (all : List Told) → AreTold all → AreTold (settled all)
told_settled all t place told e =
    let w = got_map (told_after all) all place told e in
    let s = t place w.0 w.1 in
    let after = state_after s.0 (acts_at (place + 1) (settlings_of all)) in
    (after, subst (IsToldOf (place + 1) after) w.2 (stores_settle all place w.0 s.0 w.1 s.1))

-- what was leaving, and stood there, is writable then
none_leaves : (all : List Told) (slot : Slot) (stay : Stay) → (is_leaving stay ≡ true → stands_as all slot stay ≡ true) → is_leaving (stay_after all slot stay) ≡ true → ⊥
none_leaves all slot Writable h e = never e
none_leaves all slot Clone h e = never e
none_leaves all slot (Leaving to ship) h e =
    let left : stay_after all slot (Leaving to ship) ≡ Writable = ap (λ b. if b then Writable else Leaving to ship) (h refl) in
    never (sym (ap is_leaving left) ∙ e)
none_leaves all slot (Arriving from ship parts) h e = choice _ e
  where
    choice : (b : Bool) → is_leaving (if b then Arriving from ship 1 else Arriving from ship parts) ≡ true → ⊥
    choice true k = never k
    choice false k = never k
none_leaves all slot (Gone to) h e = never e

none_settled : (all : List Told) → NoneGoesOn all → NoneGoesOn (settled all)
none_settled all none at i leaving =
    let w = of_all_slots 1 (settled all) at (contains_in (placed (settled all)) at i) in
    let v = got_map (told_after all) all w.0 w.1 w.2 in
    let inside : In at.slot (map (slot_after all) v.0.slots) = subst (λ (told : Told). In at.slot told.slots) (sym v.2) w.4 in
    let u = in_map (slot_after all) v.0.slots at.slot inside in
    let there : Placed = record { server = record { 0 = 1 + w.0 }; slot = u.0 } in
    let before : In there (placed all) = in_all_slots 1 all w.0 v.0 u.0 v.1 u.1 in
    absurd (none_leaves all u.0 u.0.stay (none there (in_contains (placed all) there before)) (ap (λ slot. is_leaving slot.stay) u.2 ∙ leaving))

start_settled : (roster : Roster) (all : List Told) (place : ℕ) (told : Told) (state : StoreState) → AreTold all → misfit all ≡ None → NoneGoesOn all → slice_get all place ≡ Some told → IsToldOf (place + 1) state told → state.roster ≡ roster
    → KeepsOf (start_of roster all) (state_after state (acts_at (place + 1) (settlings_of all)))
start_settled roster all place told state t f none e h r =
    let once = settles_once roster all f in
    let after = state_after state (acts_at (place + 1) (settlings_of all)) in
    let own = roster_all (filter (λ (one : Settling). one.server.0 == place + 1) (settlings_of all)) state h.storable in
    subst (λ tree. KeepsOf tree after) once.start
    (start_kept roster (settled all) place (told_after all told) after (told_settled all t) once.fit.0 (none_settled all none) once.fit.1 (map_got (told_after all) all place told e) (stores_settle all place told state e h) (own ∙ r))

pub starts_are_kept : StartsAreKept
starts_are_kept = record { still = start_kept; settled = start_settled }
