-- A run that begins in stores: each begins one more.
use Rattle.std.proofs.Common.{◌≡◌, ℕ, zero, suc, ◌+◌, ◌-◌, ◌<◌, ◌≤◌, ◌∙◌, Bool, true, false, List, [], ◌∷◌, map, take}
use Rattle.std.proofs.Common.{length, Option, None, Some, refl, sym, subst, ap, arith}
use Rattle.std.specs.Prelude.{◌==◌, filter, if◌then◌else◌, nat_lt, slice_get, Result, Ok, Err}
use Rattle.std.specs.List.{list_any}
use Rattle.base_types.specs.Outcomes.{either}
use Rattle.base_types.specs.declared.ids.FilesetId.{FilesetId}
use Rattle.base_types.specs.declared.ids.ServerId.{ServerId}
use Rattle.tree_calls.specs.declared.reply.Refusal.{Refusal}
use Rattle.tree_calls.specs.declared.reply.Reply.TheVariants.{Ok as Accepted, Refused}
use Rattle.tree_calls.specs.declared.ship.Mover.{Mover}
use Rattle.tree_calls.specs.declared.ship.Record.{Record}
use Rattle.tree_calls.specs.declared.ship.ShipPart.{ShipPart}
use Rattle.tree_calls.specs.declared.ship.ShipPart.TheVariants.{Head, Object as ObjectPart}
use Rattle.message_types.specs.Soundness.{Each}
use Rattle.service_moves.proofs.Whole.{Has, moves_have}
use Rattle.service_moves.specs.Doing.{Step, DoSteps, acts_at}
use Rattle.service_moves.specs.Plans.{AreMoves}
use Rattle.service_moves.specs.Stores.{states_of}
use Rattle.service_starts.specs.FinishLaws.{settled_stores}
use Rattle.service_starts.specs.Settles.{acts_at as settle_acts}
use Rattle.service_starts.specs.declared.fitting.Settling.{Settling}
use Rattle.service_stores.specs.Starting.{HaveBegun, HaveBegunAnew}
use Rattle.store_acts.specs.Acts.{act_done, booted, state_after}
use Rattle.store_acts.specs.Moving.{
  anode_outcome,
  arrival,
  done_where,
  head_once,
  head_outcome,
  is_unsettled,
  left_outcome,
  part_outcome,
  settle_outcome,
  stays_so,
  taken_from,
}
use Rattle.store_acts.specs.declared.act.Act.{Act}
use Rattle.store_acts.specs.declared.act.Act.TheVariants.{Left, Part, Settle}
use Rattle.store_memory.specs.Views.{View}
use Rattle.store_state.specs.Outcomes.{Outcome, fresh, stale}
use Rattle.store_state.specs.State.{is_leaving, is_used_so}
use Rattle.store_state.specs.declared.state.StoreState.{StoreState}

-- an act that leaves the epoch as it is
abbrev pub StaysIn : Act → Type 0
StaysIn act = (state : StoreState) → (act_done state act).state.epoch ≡ state.epoch

where_stays : (condition : Bool) (state next : StoreState) → next.epoch ≡ state.epoch
    → (done_where condition state next).state.epoch ≡ state.epoch
where_stays true state next e = e
where_stays false state next e = refl

pub settle_stays : (id : FilesetId) → StaysIn (Settle id)
unfolding act_done settle_outcome
settle_stays id state = where_stays (stays_so state id is_unsettled) state _ refl

pub left_stays : (id : FilesetId) → StaysIn (Left id)
unfolding act_done left_outcome
left_stays id state = where_stays (stays_so state id is_leaving) state _ refl

either_stays : {A : Type 0} (state : StoreState) (found : Result A Refusal) (next : A → Outcome)
    (refused : Refusal → Outcome)
    → ((x : A) → (next x).state.epoch ≡ state.epoch) → ((why : Refusal) → (refused why).state.epoch ≡ state.epoch)
    → (either found next refused).state.epoch ≡ state.epoch
either_stays state (Ok x) next refused all none = all x
either_stays state (Err why) next refused all none = none why

head_stays : (state : StoreState) (from : ServerId) (ship : ℕ) (id : FilesetId) (moves : ℕ) (name : List ℕ)
    (objects : ℕ) (records : List Record) (mover : Mover)
    → (head_outcome state from ship id moves name objects records mover).state.epoch ≡ state.epoch
unfolding head_outcome
head_stays state from ship id moves name objects records mover =
    either_stays state (arrival state id name objects) _ _ (λ slot. refl) (λ why. refl)

if_stays : (b : Bool) (state : StoreState) (this other : Outcome) → this.state.epoch ≡ state.epoch
    → other.state.epoch ≡ state.epoch → (if b then this else other).state.epoch ≡ state.epoch
if_stays true state this other e f = e
if_stays false state this other e f = f

once_stays : (state : StoreState) (from : ServerId) (ship : ℕ) (id : FilesetId) (moves : ℕ) (outcome : Outcome)
    → outcome.state.epoch ≡ state.epoch → (head_once state from ship id moves outcome).state.epoch ≡ state.epoch
once_stays state from ship id moves outcome e =
    if_stays (list_any (is_used_so _) state.slots) state _ _ refl
    (if_stays (nat_lt (taken_from state from).ship ship) state _ _ e refl)

pub part_stays : (from : ServerId) (ship : ℕ) (id : FilesetId) (moves at : ℕ) (part : ShipPart) → StaysIn
    (Part from ship id moves at part)
unfolding act_done part_outcome
part_stays from ship id moves at (Head name objects records mover) state =
    if_stays (at == 0) state _ _
    (once_stays state from ship id moves (head_outcome state from ship id moves name objects records mover)
    (head_stays state from ship id moves name objects records mover)) refl
part_stays from ship id moves at (ObjectPart anode unique status pieces entries) state = where_stays _ state _ refl

stays_through : (acts : List Act) → Each StaysIn acts → (state : StoreState) → (state_after state acts).epoch
    ≡ state.epoch
stays_through [] each state = refl
stays_through (act ∷ acts) each state = stays_through acts each.1 (act_done state act).state ∙ each.0 state

-- what was left of moves is settled
all_settle : (settlings : List Settling) → Each StaysIn (map (λ (one : Settling). Settle one.fileset) settlings)
all_settle [] = tt
all_settle (one ∷ settlings) = (settle_stays one.fileset, all_settle settlings)

abbrev epochs : List StoreState → List ℕ
epochs states = map (λ (state : StoreState). state.epoch) states

settled_stays : (number : ℕ) (settlings : List Settling) (states : List StoreState)
    → epochs (settled_stores number settlings states) ≡ epochs states
settled_stays number settlings [] = refl
settled_stays number settlings (state ∷ states) =
    ap (λ (n : ℕ). n ∷ epochs (settled_stores (number + 1) settlings states))
    (stays_through (settle_acts number settlings) (all_settle (filter (λ one. one.server.0 == number) settlings)) state)
    ∙ ap (λ (l : List ℕ). state.epoch ∷ l) (settled_stays (number + 1) settlings states)

-- and those that went on are finished
none_has : Has (λ (act : Act). ⊥) StaysIn
none_has = record {
  of_kind = λ act is. absurd is;
  of_part = λ from ship id moves at part. part_stays from ship id moves at part;
  of_left = λ id. left_stays id;
}

each_taken : (P : Step → Type 0) (n : ℕ) (steps : List Step) → Each P steps → Each P (take n steps)
each_taken P zero steps each = tt
each_taken P (suc n) [] each = tt
each_taken P (suc n) (step ∷ steps) each = (each.0, each_taken P n steps each.1)

each_at : (P : Act → Type 0) (place : ℕ) (steps : List Step) → Each (λ (step : Step). P step.act) steps → Each P
    (acts_at place steps)
each_at P place [] each = tt
each_at P place (step ∷ steps) each = choice (step.place == place) (each_at P place steps each.1)
  where
    choice : (b : Bool) → Each P (acts_at place steps)
        → Each P (if b then step.act ∷ acts_at place steps else acts_at place steps)
    choice true rest = (each.0, rest)
    choice false rest = rest

same_epochs : {S : Type 0} (view : S → View) (old new : List S) → length new ≡ length old
    → ((k : ℕ) (before after : S) → slice_get old k ≡ Some before → slice_get new k ≡ Some after
    → (view after).state.epoch ≡ (view before).state.epoch) → epochs (states_of view new) ≡ epochs (states_of view old)
same_epochs view [] [] count each = refl
same_epochs view [] (y ∷ new) count each = absurd (omega (arith, count))
same_epochs view (x ∷ old) [] count each = absurd (omega (arith, count))
same_epochs view (x ∷ old) (y ∷ new) count each =
    ap (λ (n : ℕ). n ∷ epochs (states_of view new)) (each 0 x y refl refl)
    ∙ ap (λ (l : List ℕ). (view x).state.epoch ∷ l)
    (same_epochs view old new (omega (arith, count)) (λ k before after was is. each (suc k) before after was is))

moved_stay : {S T E : Type 0} (view : S → View) (result : Result T E) (states : ℕ → Option StoreState)
    (steps : List Step) (old new : List S)
    → AreMoves (λ act. ⊥) states steps → DoSteps view result steps old new → epochs (states_of view new) ≡ epochs
    (states_of view old)
moved_stay view result states steps old new moves does =
    same_epochs view old new does.count
    (λ k before after was is.
    ap (λ (s : StoreState). s.epoch) (does.states k before after was is)
    ∙ stays_through (acts_at k (take does.cut steps))
    (each_at StaysIn k (take does.cut steps)
    (each_taken (λ (step : Step). StaysIn step.act) does.cut steps
    (moves_have (λ act. ⊥) StaysIn none_has states steps moves)))
    (view before).state)

booted_epochs : (states : List StoreState) → epochs (map booted states) ≡ map (λ (n : ℕ). n + 1) (epochs states)
booted_epochs [] = refl
booted_epochs (state ∷ states) = ap (λ (l : List ℕ). (state.epoch + 1) ∷ l) (booted_epochs states)

mapped : (states : List StoreState) → map (λ (n : ℕ). n + 1) (epochs states) ≡ map
    (λ (state : StoreState). state.epoch + 1) states
mapped [] = refl
mapped (state ∷ states) = ap (λ (l : List ℕ). (state.epoch + 1) ∷ l) (mapped states)

-- so each store has begun one run more
pub begun_anew : {S T E : Type 0} (view : S → View) (result : Result T E) (settlings : List Settling)
    (states : ℕ → Option StoreState) (steps : List Step)
    (old settled finished new : List S)
    → states_of view settled ≡ settled_stores 1 settlings (states_of view old)
    → AreMoves (λ act. ⊥) states steps → DoSteps view result steps settled finished
    → states_of view new ≡ map booted (states_of view finished)
    → HaveBegunAnew (states_of view old) (states_of view new)
begun_anew view result settlings states steps old settled finished new first moves does last =
    ap epochs last ∙ booted_epochs (states_of view finished)
    ∙ ap (map (λ (n : ℕ). n + 1))
    (moved_stay view result states steps settled finished moves does ∙ ap epochs first ∙ settled_stays 1 settlings
    (states_of view old))
    ∙ mapped (states_of view old)

-- which is at least the first
pub have_begun : (olds news : List StoreState) → HaveBegunAnew olds news → HaveBegun news
have_begun olds [] e k state at = absurd (cc)
have_begun [] (new ∷ news) e k state at = absurd (cc)
have_begun (old ∷ olds) (new ∷ news) e zero state at =
    (let same : new ≡ state = cc in
    let is : new.epoch ≡ old.epoch + 1 = cc in
    let least : 1 ≤ new.epoch = omega (arith, is) in subst (λ (s : StoreState). 1 ≤ s.epoch) same least)
have_begun (old ∷ olds) (new ∷ news) e (suc k) state at = (let rest : HaveBegunAnew olds news = cc in have_begun olds
    news rest k state at)
