-- The steps in which a fileset goes over.
use Rattle.std.proofs.Common.{◌≡◌, ◌≢◌, ◌≤◌, ℕ, ◌+◌, ◌-◌, List, [], ◌∷◌, set, refl, sym, subst, ◌∙◌, ap}
use Rattle.std.specs.Prelude.{slice_get, Some, Result, Ok, Err}
use Rattle.base_types.specs.declared.ids.FilesetId.{FilesetId}
use Rattle.base_types.specs.declared.ids.HostId.{HostId}
use Rattle.base_types.specs.declared.ids.ServerId.{ServerId}
use Rattle.tree_calls.specs.declared.ship.Mover.{Mover}
use Rattle.tree_filesets.specs.declared.fileset.Fileset.{Fileset}
use Rattle.tree_answers.specs.WellFormed.{IsWellFormed}
use Rattle.tree_answers.specs.declared.tree.Tree.{Tree}
use Rattle.store_acts.specs.Acts.{act_done}
use Rattle.store_acts.specs.Sound.{Fits}
use Rattle.store_acts.specs.declared.act.Act.TheVariants.{Leave}
use Rattle.store_laws.specs.MoveKeeping.{KeepAll}
use Rattle.store_laws.specs.KeptMoves.{Moves}
use Rattle.store_laws.proofs.Goes.{moves_go_over}
use Rattle.store_memory.specs.Sound.{IsMover}
use Rattle.store_memory.specs.Views.{View, DoesActs}
use Rattle.store_state.specs.State.{held_so, is_of}
use Rattle.store_state.specs.declared.state.Holding.{Holding}
use Rattle.store_state.specs.declared.state.StoreState.{StoreState}
use Rattle.service_moves.specs.Again.{IsRepeatable}
use Rattle.service_moves.specs.Doing.{Step, steps_of, DoSteps}
use Rattle.service_moves.specs.Plans.{move_steps, ship_steps, states_at, AreMoves}
use Rattle.service_moves.specs.Ships.{CarriesOf, MayGo, MaySend, mover_of}
use Rattle.service_moves.specs.Stores.{states_of}
use Rattle.service_moves.specs.declared.moving.MoveRequest.{MoveRequest}
use Rattle.service_moves.specs.declared.ships.Ship.{Ship}
use Rattle.service_moves.specs.declared.stopped.RunStopped.{RunStopped}
use Rattle.service_moves.proofs.Between.{two_places}
use Rattle.service_moves.proofs.Carried.{apart_of}
use Rattle.service_moves.proofs.Doing.{steps_one, steps_stop, steps_then}
use Rattle.service_moves.proofs.Goes.{is_going, may_go}
use Rattle.service_moves.proofs.Repeats.{moves_repeat}
use Rattle.service_moves.proofs.Stores.{map_before, map_there, set_beside, set_there, there_within}
use Rattle.service_moves.proofs.Twice.{made_of}
use Rattle.service_moves.proofs.Whole.{move_whole}

-- the first store does `Leave`, and a ship goes
pub moved_does : {S T : Type 0} (view : S → View) (stores new : List S) (result : Result (Unit {0}) RunStopped) (from to : ServerId) (fileset : FilesetId) (mover : Mover) (s0 s1 sender receiver : S)
    (holding : Holding) (ship : Ship) (value : T) → slice_get stores (from.0 - 1) ≡ Some s0 → slice_get stores (from.0 - 1) ≡ Some sender → slice_get stores (to.0 - 1) ≡ Some receiver
    → MayGo (view sender).state (view receiver).state from to fileset mover holding
    → (Fits (view s0).state (Leave fileset to) → IsRepeatable (view s0).state (Leave fileset to) → DoesActs {E = RunStopped} (Ok value) (Leave fileset to ∷ []) (view s0) (view s1))
    → CarriesOf from (held_so (is_of fileset) (view s1).state.slots) (Some ship) → 1 ≤ from.0 → 1 ≤ to.0
    → ((a b : S) (held : Holding) → ship.from.0 ≢ ship.to.0 → slice_get (set stores (from.0 - 1) s1) (ship.from.0 - 1) ≡ Some a
    → slice_get (set stores (from.0 - 1) s1) (ship.to.0 - 1) ≡ Some b → MaySend (view a).state (view b).state held ship mover
    → DoSteps view result (ship_steps ship.from ship.to ship.fileset held ship.number mover) (set stores (from.0 - 1) s1) new)
    → DoSteps view result (move_steps from to fileset holding ((view sender).state.ship + 1) mover) stores new
moved_does view stores new result from to fileset mover s0 s1 sender receiver holding ship value was one two m step carried least leastto send =
    let start = (view sender).state in
    let taker = (view receiver).state in
    let left = (act_done start (Leave fileset to)).state in
    let mid = set stores (from.0 - 1) s1 in
    let both : Some s0 ≡ Some sender = sym was ∙ one in
    let same : s0 ≡ sender = cc in
    let again = moves_repeat start (Leave fileset to) (apart_of start m.leave.storable) tt in
    let does : DoesActs {E = RunStopped} (Ok value) (Leave fileset to ∷ []) (view sender) (view s1) =
    subst (λ s. DoesActs {E = RunStopped} (Ok value) (Leave fileset to ∷ []) (view s) (view s1)) same
    (step (subst (λ s. Fits (view s).state (Leave fileset to)) (sym same) m.leave.fits) (subst (λ s. IsRepeatable (view s).state (Leave fileset to)) (sym same) again)) in
    let made : (view s1).state ≡ left = made_of value (Leave fileset to ∷ []) (view sender) (view s1) does in
    let held : held_so (is_of fileset) (view s1).state.slots ≡ Some holding = ap (λ (s : StoreState). held_so (is_of fileset) s.slots) made ∙ m.held in
    let go = is_going start taker from to fileset mover holding ship m (subst (λ o. CarriesOf from o (Some ship)) held carried) in
    let places = two_places from to least leastto m.two in
    let low = there_within stores (from.0 - 1) sender one in
    let apart : ship.from.0 ≢ ship.to.0 = λ e. m.two (ap (λ (s : ServerId). s.0) (sym go.from_is) ∙ e ∙ ap (λ (s : ServerId). s.0) go.to_is) in
    let first : slice_get mid (ship.from.0 - 1) ≡ Some s1 = ap (λ (s : ServerId). slice_get mid (s.0 - 1)) go.from_is ∙ set_there stores (from.0 - 1) s1 low in
    let second : slice_get mid (ship.to.0 - 1) ≡ Some receiver =
    ap (λ (s : ServerId). slice_get mid (s.0 - 1)) go.to_is ∙ set_beside stores (from.0 - 1) (to.0 - 1) s1 (λ e. places (sym e)) ∙ two in
    let may : MaySend (view s1).state taker holding ship mover = subst (λ s. MaySend s taker holding ship mover) (sym made) go.send in
    let steps : ship_steps ship.from ship.to ship.fileset holding ship.number mover ≡ ship_steps from to fileset holding (start.ship + 1) mover =
    λ i. ship_steps (go.from_is i) (go.to_is i) (go.id_is i) holding (go.number_is i) mover in
    steps_then view value result (steps_of (from.0 - 1) (Leave fileset to ∷ [])) (ship_steps from to fileset holding (start.ship + 1) mover) stores mid new
    (steps_one view (Ok value) (Leave fileset to ∷ []) stores (from.0 - 1) sender s1 one does)
    (subst (λ l. DoSteps view result l mid new) steps (send s1 receiver holding apart first second may))

-- or the first store fails
pub left_does : {S T : Type 0} (view : S → View) (stores : List S) (from to : ServerId) (fileset : FilesetId) (mover : Mover) (s0 s1 sender receiver : S) (holding : Holding) (result : Result T RunStopped) (stopped : RunStopped)
    → slice_get stores (from.0 - 1) ≡ Some s0 → slice_get stores (from.0 - 1) ≡ Some sender → MayGo (view sender).state (view receiver).state from to fileset mover holding
    → (Fits (view s0).state (Leave fileset to) → IsRepeatable (view s0).state (Leave fileset to) → DoesActs result (Leave fileset to ∷ []) (view s0) (view s1))
    → DoSteps {T = Unit {0}} view (Err stopped) (move_steps from to fileset holding ((view sender).state.ship + 1) mover) stores (set stores (from.0 - 1) s1)
left_does view stores from to fileset mover s0 s1 sender receiver holding result stopped was one m step =
    let start = (view sender).state in
    let both : Some s0 ≡ Some sender = sym was ∙ one in
    let same : s0 ≡ sender = cc in
    let again = moves_repeat start (Leave fileset to) (apart_of start m.leave.storable) tt in
    let does : DoesActs result (Leave fileset to ∷ []) (view sender) (view s1) =
    subst (λ s. DoesActs result (Leave fileset to ∷ []) (view s) (view s1)) same
    (step (subst (λ s. Fits (view s).state (Leave fileset to)) (sym same) m.leave.fits) (subst (λ s. IsRepeatable (view s).state (Leave fileset to)) (sym same) again)) in
    steps_stop view result stopped (steps_of (from.0 - 1) (Leave fileset to ∷ [])) (ship_steps from to fileset holding (start.ship + 1) mover) stores (set stores (from.0 - 1) s1)
    (steps_one view result (Leave fileset to ∷ []) stores (from.0 - 1) sender s1 one does)

-- the stores follow a move that was accepted
pub kept_does : {S : Type 0} (view : S → View) (tree : Tree) (stores new : List S) (result : Result (Unit {0}) RunStopped) (next : HostId → ℕ) (request : MoveRequest) (found fileset : Fileset)
    (mover : Mover) → found ≡ fileset → mover ≡ mover_of request → IsWellFormed tree → KeepAll next tree (states_of view stores)
    → Moves tree request.host request.server request.name request.to fileset → next request.host ≡ request.k → IsMover tree.roster (mover_of request)
    → ((sender receiver : S) (holding : Holding) → slice_get stores (found.server.0 - 1) ≡ Some sender → slice_get stores (request.to.0 - 1) ≡ Some receiver
    → MayGo (view sender).state (view receiver).state found.server request.to found.id mover holding
    → DoSteps view result (move_steps found.server request.to found.id holding ((view sender).state.ship + 1) mover) stores new)
    → (steps : List Step) × AreMoves (λ act. act ≡ Leave fileset.id request.to) (states_at view stores) steps × DoSteps view result steps stores new
kept_does view tree stores new result next request found fileset mover same is formed keep moves number sound send =
    let states = states_of view stores in
    let go = moves_go_over next tree states request.host request.server request.name request.to fileset (mover_of request) formed keep moves sound refl (sym number) in
    let (s, at, here) = map_before (λ store. (view store).state) stores (fileset.server.0 - 1) go.from go.sends in
    let (r, to, there) = map_before (λ store. (view store).state) stores (request.to.0 - 1) go.other go.takes in
    let may = subst (λ x. MayGo x (view r).state fileset.server request.to fileset.id (mover_of request) go.holding) (sym here)
    (subst (λ x. MayGo go.from x fileset.server request.to fileset.id (mover_of request) go.holding) (sym there)
    (may_go next tree states request.host request.server request.name request.to fileset (mover_of request) go)) in
    let might = subst (λ (f : Fileset). MayGo (view s).state (view r).state f.server request.to f.id mover go.holding) (sym same)
    (subst (λ v. MayGo (view s).state (view r).state fileset.server request.to fileset.id v go.holding) (sym is) may) in
    let first : slice_get stores (found.server.0 - 1) ≡ Some s = subst (λ (f : Fileset). slice_get stores (f.server.0 - 1) ≡ Some s) (sym same) at in (
      move_steps found.server request.to found.id go.holding ((view s).state.ship + 1) mover,
      subst (λ (f : Fileset). AreMoves (λ act. act ≡ Leave fileset.id request.to) (states_at view stores) (move_steps f.server request.to f.id go.holding ((view s).state.ship + 1) mover)) (sym same)
          (move_whole (λ act. act ≡ Leave fileset.id request.to) (states_at view stores) fileset.server request.to fileset.id mover (view s).state go.holding ((view s).state.ship + 1) refl
          (map_there (λ store. (view store).state) stores (fileset.server.0 - 1) s at) may.held may.stay),
      send s r go.holding first to might,
    )
