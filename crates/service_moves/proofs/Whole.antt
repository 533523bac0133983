-- Steps in which filesets go over whole.
use Rattle.std.proofs.Common.{◌≡◌, ◌+◌, ◌-◌, ◌++◌, ◌∙◌, ℕ, List, [], ◌∷◌, take, inl, inr, ⊎_elim, refl, sym, subst, ap, append_assoc, arith}
use Rattle.std.specs.Prelude.{Option, Some, None, Ok}
use Rattle.std.specs.List.{flat_map}
use Rattle.std.specs.Option.{option_map}
use Rattle.std.proofs.lemmas.List.{append-nil}
use Rattle.std.proofs.Math.Seq.{take-length}
use Rattle.base_types.specs.declared.ids.FilesetId.{FilesetId}
use Rattle.base_types.specs.declared.ids.ServerId.{ServerId}
use Rattle.tree_calls.specs.declared.ship.Mover.{Mover}
use Rattle.tree_calls.specs.declared.ship.ShipPart.{ShipPart}
use Rattle.tree_objects.specs.declared.content.Anode.{Anode}
use Rattle.message_types.specs.Soundness.{Each}
use Rattle.store_acts.specs.Acts.{act_done, state_after}
use Rattle.store_acts.specs.declared.act.Act.{Act}
use Rattle.store_acts.specs.declared.act.Act.TheVariants.{Leave, Left, Part}
use Rattle.store_laws.specs.Moves.{parts_from}
use Rattle.store_memory.specs.Views.{View}
use Rattle.store_memory.proofs.Doing.{after_append}
use Rattle.store_state.specs.State.{held_so, is_of}
use Rattle.store_state.specs.declared.state.Holding.{Holding}
use Rattle.store_state.specs.declared.state.Stay.TheVariants.{Leaving}
use Rattle.store_state.specs.declared.state.StoreState.{StoreState}
use Rattle.service_moves.specs.Doing.{Step, DoSteps, acts_at, steps_of}
use Rattle.service_moves.specs.Plans.{move_steps, ship_steps, states_at, behind, AreMoves, ArePieces, GoesWhole}
use Rattle.service_moves.proofs.Doing.{acts_append, acts_own}
use Rattle.service_moves.proofs.Stores.{is_there, map_before, map_there, there_within}

-- one keeps what the other does
pub AreIn : (few more : ℕ → Option StoreState) → Type 0
AreIn few more = (place : ℕ) (state : StoreState) → few place ≡ Some state → more place ≡ Some state

pub in_is : (few more : ℕ → Option StoreState) → AreIn few more → (place : ℕ) (state : StoreState) → few place ≡ Some state → more place ≡ Some state
unfolding AreIn
in_is few more are = are

pub in_so : (few more : ℕ → Option StoreState) → ((place : ℕ) (state : StoreState) → few place ≡ Some state → more place ≡ Some state) → AreIn few more
unfolding AreIn
in_so few more are = are

mapped : (f : StoreState → StoreState) (o : Option StoreState) (last : StoreState) → option_map f o ≡ Some last → (first : StoreState) × (o ≡ Some first) × (f first ≡ last)
mapped f None last e = absurd (cc)
mapped f (Some first) last e = (first, refl, (let p : Some (f first) ≡ Some last = e in cc))

pub behind_in : (few more : ℕ → Option StoreState) (steps : List Step) → AreIn few more → AreIn (behind few steps) (behind more steps)
behind_in few more steps are =
    in_so (behind few steps) (behind more steps)
    (λ place state e.
    (let after : StoreState → StoreState = λ s. state_after s (acts_at place steps) in
    let m = mapped after (few place) state e in
    ap (option_map after) (in_is few more are place m.0 m.1) ∙ ap (λ (s : StoreState). Some s) m.2))

none_behind : (states : ℕ → Option StoreState) → AreIn (behind states []) states
none_behind states =
    in_so (behind states []) states
    (λ place state e. (let m = mapped (λ (s : StoreState). s) (states place) state e in m.1 ∙ ap (λ (s : StoreState). Some s) m.2))

both_behind : (states : ℕ → Option StoreState) (front more : List Step) → AreIn (behind states (front ++ more)) (behind (behind states front) more)
both_behind states front more =
    in_so (behind states (front ++ more)) (behind (behind states front) more)
    (λ place state e.
    (let m = mapped (λ (s : StoreState). state_after s (acts_at place (front ++ more))) (states place) state e in
    ap (λ (o : Option StoreState). option_map (λ (s : StoreState). state_after s (acts_at place more)) (option_map (λ (s : StoreState). state_after s (acts_at place front)) o)) m.1
    ∙ ap (λ (s : StoreState). Some s)
    (sym (after_append (acts_at place front) (acts_at place more) m.0) ∙ ap (state_after m.0) (sym (acts_append place front more)) ∙ m.2)))

goes_in : (few more : ℕ → Option StoreState) (steps : List Step) → AreIn few more → GoesWhole few steps → GoesWhole more steps
goes_in few more steps are goes = record {
  from = goes.from;
  to = goes.to;
  fileset = goes.fileset;
  ship = goes.ship;
  mover = goes.mover;
  sender = goes.sender;
  holding = goes.holding;
  there = in_is few more are (goes.from.0 - 1) goes.sender goes.there;
  held = goes.held;
  stay = goes.stay;
  are = goes.are;
}

module _ (kind : Act → Type 0) where
  pieces_in : (few more : ℕ → Option StoreState) (pieces : List (List Step)) → AreIn few more → ArePieces kind few pieces → ArePieces kind more pieces
  pieces_in few more [] are each = tt
  pieces_in few more (piece ∷ pieces) are each = (
    ⊎_elim (λ goes. inl (goes_in few more piece are goes)) (λ of_kind. inr of_kind) each.0,
    pieces_in (behind few piece) (behind more piece) pieces (behind_in few more piece are) each.1,
  )

  -- so it is where more is kept
  pub moves_in : (few more : ℕ → Option StoreState) (steps : List Step) → AreIn few more → AreMoves kind few steps → AreMoves kind more steps
  moves_in few more steps are moves = record { pieces = moves.pieces; joined = moves.joined; each = pieces_in few more moves.pieces are moves.each }

  pieces_then : (states : ℕ → Option StoreState) (front more : List (List Step)) → ArePieces kind states front → ArePieces kind (behind states (flat_map (λ piece. piece) front)) more → ArePieces kind states (front ++ more)
  pieces_then states [] more first second = pieces_in (behind states []) states more (none_behind states) second
  pieces_then states (piece ∷ front) more first second = (
    first.0,
    pieces_then (behind states piece) front more first.1
        (pieces_in (behind states (piece ++ flat_map (λ p. p) front)) (behind (behind states piece) (flat_map (λ p. p) front)) more (both_behind states piece (flat_map (λ p. p) front)) second),
  )

  joined_append : (front more : List (List Step)) → flat_map (λ piece. piece) (front ++ more) ≡ flat_map (λ piece. piece) front ++ flat_map (λ piece. piece) more
  joined_append [] more = refl
  joined_append (piece ∷ front) more =
      ap (λ (l : List Step). piece ++ l) (joined_append front more) ∙ sym (append_assoc piece (flat_map (λ p. p) front) (flat_map (λ p. p) more))

  -- some steps, and then others
  pub moves_then : (states : ℕ → Option StoreState) (front more : List Step) → AreMoves kind states front → AreMoves kind (behind states front) more → AreMoves kind states (front ++ more)
  moves_then states front more first second = record {
    pieces = first.pieces ++ second.pieces;
    joined =
        ap (λ (l : List Step). l ++ more) first.joined ∙ ap (λ (l : List Step). flat_map (λ piece. piece) first.pieces ++ l) second.joined ∙ sym (joined_append first.pieces second.pieces);
    each = pieces_then states first.pieces second.pieces first.each (subst (λ (l : List Step). ArePieces kind (behind states l) second.pieces) first.joined second.each);
  }

  pub moves_none : (states : ℕ → Option StoreState) → AreMoves kind states []
  moves_none states = record { pieces = []; joined = refl; each = tt }

  -- acts of the kind
  pub moves_kind : (states : ℕ → Option StoreState) (steps : List Step) → Each (λ (step : Step). kind step.act) steps → AreMoves kind states steps
  moves_kind states steps each = record { pieces = steps ∷ []; joined = sym (append-nil steps); each = (inr each, tt) }

  -- a fileset that goes over whole
  pub moves_whole : (states : ℕ → Option StoreState) (steps : List Step) → GoesWhole states steps → AreMoves kind states steps
  moves_whole states steps goes = record { pieces = steps ∷ []; joined = sym (append-nil steps); each = (inl goes, tt) }

  -- what holds of the acts of the kind, of parts and of `Left` holds of all
  pub record Has (P : Act → Type 0) : Type 0 where
    pub of_kind : (act : Act) → kind act → P act
    pub of_part : (from : ServerId) (ship : ℕ) (id : FilesetId) (moves at : ℕ) (part : ShipPart) → P (Part from ship id moves at part)
    pub of_left : (id : FilesetId) → P (Left id)

  each_append : (P : Step → Type 0) (front more : List Step) → Each P front → Each P more → Each P (front ++ more)
  each_append P [] more first second = second
  each_append P (step ∷ front) more first second = (first.0, each_append P front more first.1 second)

  each_so : (P : Act → Type 0) (steps : List Step) → ((act : Act) → kind act → P act) → Each (λ (step : Step). kind step.act) steps → Each (λ (step : Step). P step.act) steps
  each_so P [] so each = tt
  each_so P (step ∷ steps) so each = (so step.act each.0, each_so P steps so each.1)

  module _ (P : Act → Type 0) (has : Has P) where
    parts_have : (place : ℕ) (holding : Holding) (from : ServerId) (ship : ℕ) (mover : Mover) (at : ℕ) (anodes : List Anode) → Each (λ (step : Step). P step.act) (steps_of place (parts_from holding from ship mover at anodes))
    parts_have place holding from ship mover at [] = tt
    parts_have place holding from ship mover at (anode ∷ anodes) = (has.of_part from ship holding.fileset.id (holding.fileset.moves + 1) at _, parts_have place holding from ship mover (at + 1) anodes)

    ship_has : (from to : ServerId) (fileset : FilesetId) (holding : Holding) (ship : ℕ) (mover : Mover) → Each (λ (step : Step). P step.act) (ship_steps from to fileset holding ship mover)
    ship_has from to fileset holding ship mover = (
      has.of_part from ship holding.fileset.id (holding.fileset.moves + 1) 0 _,
      each_append (λ (step : Step). P step.act) (steps_of (to.0 - 1) (parts_from holding from ship mover 1 holding.fileset.anodes)) (steps_of (from.0 - 1) (Left fileset ∷ []))
          (parts_have (to.0 - 1) holding from ship mover 1 holding.fileset.anodes) (has.of_left fileset, tt),
    )

    pieces_have : (states : ℕ → Option StoreState) (pieces : List (List Step)) → ArePieces kind states pieces → Each (λ (step : Step). P step.act) (flat_map (λ piece. piece) pieces)
    pieces_have states [] each = tt
    pieces_have states (piece ∷ pieces) each =
        each_append (λ (step : Step). P step.act) piece (flat_map (λ p. p) pieces)
        (⊎_elim
        (λ (goes : GoesWhole states piece). subst (λ (l : List Step). Each (λ (step : Step). P step.act) l) (sym goes.are) (ship_has goes.from goes.to goes.fileset goes.holding goes.ship goes.mover))
        (λ of_kind. each_so P piece has.of_kind of_kind) each.0)
        (pieces_have (behind states piece) pieces each.1)

    pub moves_have : (states : ℕ → Option StoreState) (steps : List Step) → AreMoves kind states steps → Each (λ (step : Step). P step.act) steps
    moves_have states steps moves = subst (λ (l : List Step). Each (λ (step : Step). P step.act) l) (sym moves.joined) (pieces_have states moves.pieces moves.each)

-- a kind of more acts
module _ (kind more : Act → Type 0) (so : (act : Act) → kind act → more act) where
  pieces_wider : (states : ℕ → Option StoreState) (pieces : List (List Step)) → ArePieces kind states pieces → ArePieces more states pieces
  pieces_wider states [] each = tt
  pieces_wider states (piece ∷ pieces) each = (⊎_elim (λ goes. inl goes) (λ of_kind. inr (each_so kind more piece so of_kind)) each.0, pieces_wider (behind states piece) pieces each.1)

  pub moves_wider : (states : ℕ → Option StoreState) (steps : List Step) → AreMoves kind states steps → AreMoves more states steps
  moves_wider states steps moves = record { pieces = moves.pieces; joined = moves.joined; each = pieces_wider states moves.pieces moves.each }

-- what stores keep that did steps
pub done_behind : {S T E : Type 0} (view : S → View) (value : T) (steps : List Step) (old new : List S) → DoSteps {E = E} view (Ok value) steps old new → AreIn (states_at view new) (behind (states_at view old) steps)
done_behind {S = S} view value steps old new does =
    in_so (states_at view new) (behind (states_at view old) steps)
    (λ place state e.
    (let state_of = λ (store : S). (view store).state in
    let after = map_before state_of new place state e in
    let low = there_within new place after.0 after.1 in
    let count = does.count in
    let before = is_there old place (omega (arith, low, count)) in
    let was = map_there state_of old place before.0 before.1 in
    let made = does.states place before.0 after.0 before.1 after.1 in
    let all : take does.cut steps ≡ steps = ap (λ (n : ℕ). take n steps) does.all ∙ take-length steps in
    ap (option_map (λ (s : StoreState). state_after s (acts_at place steps))) was
    ∙ ap (λ (s : StoreState). Some s) (ap (λ (l : List Step). state_after (view before.0).state (acts_at place l)) (sym all) ∙ sym made ∙ after.2)))

-- so moves go on where stores are
pub moves_behind : {S T E : Type 0} (kind : Act → Type 0) (view : S → View) (value : T) (front more : List Step) (old mid : List S) → AreMoves kind (states_at view old) front → DoSteps {E = E} view (Ok value) front old mid
    → AreMoves kind (states_at view mid) more → AreMoves kind (states_at view old) (front ++ more)
moves_behind kind view value front more old mid first does second =
    moves_then kind (states_at view old) front more first (moves_in kind (states_at view mid) (behind (states_at view old) front) more (done_behind view value front old mid does) second)

-- a fileset that begins to leave, and goes over whole
pub move_whole : (kind : Act → Type 0) (states : ℕ → Option StoreState) (from to : ServerId) (fileset : FilesetId) (mover : Mover) (sender : StoreState) (holding : Holding) (ship : ℕ) → kind (Leave fileset to)
    → states (from.0 - 1) ≡ Some sender → held_so (is_of fileset) (act_done sender (Leave fileset to)).state.slots ≡ Some holding → holding.stay ≡ Leaving to ship → AreMoves kind states (move_steps from to fileset holding ship mover)
move_whole kind states from to fileset mover sender holding ship is there held stay =
    (let leave : List Step = steps_of (from.0 - 1) (Leave fileset to ∷ []) in
    let own = acts_own (from.0 - 1) (Leave fileset to ∷ []) in
    moves_then kind states leave (ship_steps from to fileset holding ship mover) (moves_kind kind states leave (is, tt))
    (moves_whole kind (behind states leave) (ship_steps from to fileset holding ship mover)
    (record {
      from = from;
      to = to;
      fileset = fileset;
      ship = ship;
      mover = mover;
      sender = (act_done sender (Leave fileset to)).state;
      holding = holding;
      there = ap (option_map (λ (s : StoreState). state_after s (acts_at (from.0 - 1) leave))) there ∙ ap (λ (l : List Act). Some (state_after sender l)) own;
      held = held;
      stay = stay;
      are = refl;
    })))
