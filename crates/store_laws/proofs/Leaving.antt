-- A store that a fileset is leaving, and that it has left.
use Rattle.std.proofs.Common.{◌≡◌, ◌≢◌, ℕ, zero, suc, ◌+◌, true, false, ◌||◌, cond, List, [], ◌∷◌, Option, Some, None, refl, ap, ◌∙◌, subst}
use Rattle.std.specs.List.{find, list_any}
use Rattle.std.specs.Option.{option_map}
use Rattle.base_types.specs.Lists.{changed_at}
use Rattle.base_types.specs.declared.ids.ServerId.{ServerId}
use Rattle.tree_calls.specs.declared.reply.Reply.TheVariants.{Ok as Accepted}
use Rattle.store_memory.specs.Reading.{slot_told, slots_from}
use Rattle.tree_answers.specs.declared.tree.Tree.{Tree}
use Rattle.tree_answers.proofs.Inserted.{or_first, or_second}
use Rattle.store_records.specs.Stored.{IsStorable}
use Rattle.store_records.proofs.Acts.{acts_keep_storable}
use Rattle.message_types.specs.Soundness.{IsServer}
use Rattle.store_acts.specs.Acts.{act_done}
use Rattle.store_acts.specs.Moving.{held_as, held_left, leave_outcome, left_outcome, with_holding}
use Rattle.store_acts.specs.declared.act.Act.TheVariants.{Leave, Left}
use Rattle.store_state.specs.Outcomes.{Outcome, fresh}
use Rattle.store_state.specs.State.{
  held_at,
  held_so,
  is_gone,
  is_here,
  is_leaving,
  is_of,
  is_used_so,
  is_writable,
  slot_so,
}
use Rattle.store_state.specs.declared.state.Holding.{Holding}
use Rattle.store_state.specs.declared.state.Stay.{Stay}
use Rattle.store_state.specs.declared.state.Stay.TheVariants.{Writable, Clone, Leaving, Arriving, Gone}
use Rattle.store_state.specs.declared.state.StoreState.{StoreState}
use Rattle.store_laws.specs.TreeKeeping.{KeepsOf}
use Rattle.store_laws.proofs.Exact.{held_self}
use Rattle.store_laws.proofs.KeptGives.{here_writable}
use Rattle.store_laws.proofs.KeptMoves.{none_such}
use Rattle.store_laws.proofs.Slots.{changes_one}
use Rattle.store_laws.specs.MovedLaws.{IsLeavingAs, MayDo}

-- none is leaving a store that keeps its part of a tree
not_leaving : (stay : Stay) → (is_here stay || is_gone stay) ≡ true → is_leaving stay ≡ false
not_leaving Writable h = refl
not_leaving Clone h = refl
not_leaving (Leaving to ship) h = absurd (cc)
not_leaving (Arriving from ship parts) h = absurd (cc)
not_leaving (Gone to) h = refl

none_leaving : (tree : Tree) (state : StoreState) → KeepsOf tree state →
    list_any (is_used_so (λ holding. is_leaving holding.stay)) state.slots ≡ false
none_leaving tree state k =
    none_such (λ holding. is_leaving holding.stay) state.slots
    (λ s h e. not_leaving h.stay (k.still h.fileset.id h (held_self state s h k.storable e)))

-- the store that a fileset is leaving, and how it is held there
abbrev pub leaves : StoreState → Holding → ServerId → StoreState
leaves state held to = record state {
  slots = changed_at state.slots (slot_so (is_of held.fileset.id) state.slots)
      (option_map (held_as (Leaving to (state.ship + 1))));
  ship = state.ship + 1;
}

abbrev pub leaving_now : StoreState → Holding → ServerId → Holding
leaving_now state held to = held_as (Leaving to (state.ship + 1)) held

-- and once it has left
abbrev pub left_then : StoreState → Holding → ServerId → StoreState
left_then state held to = with_holding (leaves state held to) held.fileset.id held_left

leave_done : (state : StoreState) (held : Holding) (to : ServerId) →
    held_so (is_of held.fileset.id) state.slots ≡ Some held → is_writable held.stay ≡ true →
    list_any (is_used_so (λ holding. is_leaving holding.stay)) state.slots ≡ false →
    act_done state (Leave held.fileset.id to) ≡ fresh Accepted (leaves state held to)
unfolding act_done leave_outcome
leave_done state held to e writable none = rw e (rw writable (rw none refl))

left_done : (state : StoreState) (held leaving : Holding) → held_so (is_of held.fileset.id) state.slots ≡ Some leaving →
    is_leaving leaving.stay ≡ true →
    act_done state (Left held.fileset.id) ≡ fresh Accepted (with_holding state held.fileset.id held_left)
unfolding act_done left_outcome
left_done state held leaving e l = rw e (rw l refl)

-- the first slot that is leaving
first_leaving : (f : Holding → Holding) (slots : List (Option Holding)) (p n : ℕ) (held : Holding) →
    is_leaving (f held).stay ≡ true → list_any (is_used_so (λ holding. is_leaving holding.stay)) slots ≡ false →
    held_at slots p ≡ Some held → (at : ℕ)
    × (find (λ slot. is_leaving slot.stay) (slots_from n (changed_at slots p (option_map f)))
    ≡ Some (slot_told at (f held)))
first_leaving f [] p n held l none e = absurd (cc)
first_leaving f (None ∷ slots) zero n held l none e = absurd (cc)
first_leaving f (Some x ∷ slots) zero n held l none e =
    let same : x ≡ held = cc in (
      n,
      ap (λ h. find (λ slot. is_leaving slot.stay) (slots_from n (Some (f h) ∷ slots))) same
          ∙ ap (λ t. cond t (Some (slot_told n (f held)))
          (find (λ slot. is_leaving slot.stay) (slots_from (n + 1) slots))) l,
    )
first_leaving f (None ∷ slots) (suc p) n held l none e = first_leaving f slots p (n + 1) held l none e
first_leaving f (Some x ∷ slots) (suc p) n held l none e =
    let (at, rest) = first_leaving f slots p (n + 1) held l (or_second _ _ none) e in (
      at,
      ap (λ t. cond t (Some (slot_told n x))
          (find (λ slot. is_leaving slot.stay) (slots_from (n + 1) (changed_at slots p (option_map f)))))
          (or_first _ _ none) ∙ rest,
    )

-- a store lets a fileset go that it has here
pub record Sends (state : StoreState) (held : Holding) (to : ServerId) : Type 0 where
  pub leave : MayDo state (Leave held.fileset.id to)
  pub does : act_done state (Leave held.fileset.id to) ≡ fresh Accepted (leaves state held to)
  pub leaving : IsLeavingAs (leaves state held to) (leaving_now state held to) to (state.ship + 1)
  pub left : MayDo (leaves state held to) (Left held.fileset.id)
  pub ends : act_done (leaves state held to) (Left held.fileset.id) ≡ fresh Accepted (left_then state held to)

pub sends_so : (tree : Tree) (state : StoreState) (held : Holding) (to : ServerId) → KeepsOf tree state →
    held_so (is_of held.fileset.id) state.slots ≡ Some held → is_here held.stay ≡ true →
    held.fileset.read_only ≡ false → IsServer state.roster to → to.0 ≢ state.server.0 → Sends state held to
sends_so tree state held to k e here writable to_is apart =
    let slot = slot_so (is_of held.fileset.id) state.slots in
    let stored = k.storable.each slot held e in
    let may = here_writable state held.fileset held.stay stored.stay here writable in
    let none = none_leaving tree state k in
    let does = leave_done state held to e may none in
    let changes = changes_one state.slots held.fileset.id held (held_as (Leaving to (state.ship + 1))) (λ any h. refl) e in
    record {
      leave = record { storable = k.storable; is_act = to_is; fits = apart };
      does = does;
      leaving = record {
        held = changes.here;
        stay = refl;
        told = λ at l. (leaving_now state held to, changes.here, refl, l);
        slot = first_leaving (held_as (Leaving to (state.ship + 1))) state.slots slot 0 held refl none e;
      };
      left = record {
        storable = subst IsStorable (ap (λ (o : Outcome). o.state) does)
            (acts_keep_storable state (Leave held.fileset.id to) k.storable to_is apart);
        is_act = tt;
        fits = tt;
      };
      ends = left_done (leaves state held to) held (leaving_now state held to) changes.here refl;
    }
