-- What a move leaves of all stores.
use Rattle.std.proofs.Common.{◌≡◌, ◌≢◌, ◌≤◌, ℕ, ◌+◌, ◌-◌, List, length, set, get_or, refl, sym, subst, ◌∙◌, ap, arith}
use Rattle.std.specs.Prelude.{true, slice_get, Some, None, Result, Ok, OnOk, IfErr, nat_le, ◌&&◌}
use Rattle.std.proofs.lemmas.Bool.{le-leb}
use Rattle.base_types.specs.declared.ids.FilesetId.{FilesetId}
use Rattle.base_types.specs.declared.ids.HostId.{HostId}
use Rattle.base_types.specs.declared.ids.ServerId.{ServerId}
use Rattle.tree_calls.specs.Limits.{is_between}
use Rattle.tree_calls.specs.declared.call.Call.TheVariants.{MoveFileset}
use Rattle.tree_calls.specs.declared.entry.Entry.TheVariants.{Call as Called}
use Rattle.tree_calls.specs.declared.reply.Reply.TheVariants.{Ok as Accepted}
use Rattle.tree_calls.specs.declared.roster.Roster.{Roster}
use Rattle.tree_calls.specs.declared.ship.Mover.{Mover}
use Rattle.tree_filesets.specs.declared.fileset.Fileset.{Fileset}
use Rattle.store_memory.specs.Sound.{IsMover}
use Rattle.store_memory.specs.Views.{View}
use Rattle.tree_answers.specs.WellFormed.{IsWellFormed}
use Rattle.tree_answers.specs.declared.tree.Tree.{Tree}
use Rattle.store_laws.specs.Shape.{next_number}
use Rattle.store_laws.proofs.Goes.{moves_go_over}
use Rattle.store_laws.specs.KeptMoves.{after_move, Moves}
use Rattle.store_laws.specs.MoveKeeping.{KeepAll}
use Rattle.store_laws.specs.MovedLaws.{GoesOver}
use Rattle.message_types.specs.Soundness.{IsCall, IsHost, IsServer}
use Rattle.store_acts.specs.Acts.{act_done, state_after}
use Rattle.store_acts.specs.declared.act.Act.TheVariants.{Leave, Left}
use Rattle.store_acts.specs.Sound.{Fits}
use Rattle.service_moves.specs.Again.{IsRepeatable}
use Rattle.service_moves.proofs.Repeats.{moves_repeat}
use Rattle.store_laws.specs.Moves.{all_parts}
use Rattle.store_state.specs.State.{held_so, is_of}
use Rattle.store_state.specs.declared.state.Holding.{Holding}
use Rattle.store_state.specs.declared.state.StoreState.{StoreState}
use Rattle.service_moves.specs.Ships.{mover_of, two_set, CarriesOf, MayGo, MayMove, MaySend}
use Rattle.service_moves.specs.Steps.{AllGoOn, GoesOn, StopsAt}
use Rattle.service_moves.specs.Stores.{AreStores, states_of}
use Rattle.service_moves.specs.declared.moving.MoveRequest.{MoveRequest}
use Rattle.service_moves.specs.declared.ships.Ship.{Ship}
use Rattle.service_moves.specs.declared.stopped.RunStopped.{RunStopped}
use Rattle.service_moves.proofs.Between.{two_places}
use Rattle.service_moves.proofs.Carried.{apart_of}
use Rattle.service_moves.proofs.Goes.{goes_kept, going_states, is_going, may_go, no_ship}
use Rattle.service_moves.proofs.Stores.{all_mendable, goes_stores, if_err_then, map_before, map_set, on_ok_then, one_goes, set_beside, set_there, stops_among, get_there, there_within}

-- the store of a server
pub there_at : {S : Type 0} (roster : Roster) (stores : List S) (server : ServerId) → length stores ≡ length roster.capacity → IsServer roster server → (d : S)
    → slice_get stores (server.0 - 1) ≡ Some (get_or stores (server.0 - 1) d)
there_at roster stores server count is d = get_there stores (server.0 - 1) d (let f = is.first in let l = is.last in omega (arith, count, f, l))

-- what a step of the store of a server leaves of all
pub step_goes : {S T : Type 0} (view : S → View) (worn : ℕ) (first : Result T RunStopped) (old : List S) (roster : Roster) (most : ℕ) (server : ServerId) (before after : S)
    → AreStores view roster most 1 old → 1 ≤ server.0 → slice_get old (server.0 - 1) ≡ Some before → GoesOn worn first (view before) (view after) → IfErr first (StopsAt server (view before) (view after))
    → AllGoOn view worn first old (set old (server.0 - 1) after)
step_goes view worn first old roster most server before after are least was goes stops =
    one_goes view worn first old (server.0 - 1) before after (all_mendable view roster most old are) was goes
    (if_err_then first _ _ (λ stopped s.
    stops_among view old (set old (server.0 - 1) after) server (server.0 - 1) before after stopped (omega (arith, least)) was
    (set_there old (server.0 - 1) after (there_within old (server.0 - 1) before was)) s) stops)

-- stores that go on are those that may move
pub may_later : {S T : Type 0} (view : S → View) (value : T) (more worn most : ℕ) (old new : List S) (from to : ServerId) (mover : Mover) (roster : Roster) → worn + more ≡ most
    → length old ≡ length roster.capacity → AreStores view roster worn 1 old → AllGoOn view more (Ok value) old new → IsServer roster from → IsServer roster to → IsMover roster mover
    → MayMove view most new from to mover
may_later view value more worn most old new from to mover roster e count are goes f t m = record {
  roster = roster;
  count = goes.count ∙ count;
  are = subst (λ n. AreStores view roster n 1 new) e (goes_stores view value more worn roster old new goes are);
  is_from = f;
  is_to = t;
  is_mover = m;
}

-- the mover of a request
pub mover_sound : (roster : Roster) (request : MoveRequest) → IsHost roster request.host → IsCall roster (MoveFileset request.server request.name request.to) → IsMover roster (mover_of request)
mover_sound roster request host call = record { host = host; call = call; moves = tt }

-- the fileset's server is one of the roster
pub in_range : (next : HostId → ℕ) (tree : Tree) (states : List StoreState) (host : HostId) (server : ServerId) (name : List ℕ) (to : ServerId) (fileset : Fileset) (mover : Mover)
    → KeepAll next tree states → (g : GoesOver next tree states host server name to fileset mover) → is_between 1 (length tree.roster.capacity) fileset.server.0 ≡ true
in_range next tree states host server name to fileset mover keep g =
    let own : fileset.server ≡ record { 0 = (fileset.server.0 - 1) + 1 } = sym g.from_is ∙ keep.own (fileset.server.0 - 1) g.from g.sends in
    let number : fileset.server.0 ≡ (fileset.server.0 - 1) + 1 = ap (λ (s : ServerId). s.0) own in
    let low = there_within states (fileset.server.0 - 1) g.from g.sends in
    let count = keep.count in
    let least : nat_le 1 fileset.server.0 ≡ true = le-leb 1 fileset.server.0 (omega (arith, number)) in
    let most : nat_le fileset.server.0 (length tree.roster.capacity) ≡ true = le-leb fileset.server.0 (length tree.roster.capacity) (omega (arith, number, low, count)) in
    ap (λ b. b && nat_le fileset.server.0 (length tree.roster.capacity)) least ∙ most

-- a fileset goes over
pub moved : {S : Type 0} (view : S → View) (stores new : List S) (result : Result (Unit {0}) RunStopped) (from to : ServerId) (fileset : FilesetId) (mover : Mover) (s0 s1 sender receiver : S)
    (holding : Holding) (ship : Ship) → slice_get stores (from.0 - 1) ≡ Some s0 → slice_get stores (from.0 - 1) ≡ Some sender → slice_get stores (to.0 - 1) ≡ Some receiver
    → MayGo (view sender).state (view receiver).state from to fileset mover holding
    → (Fits (view s0).state (Leave fileset to) → IsRepeatable (view s0).state (Leave fileset to) → (view s1).state ≡ (act_done (view s0).state (Leave fileset to)).state)
    → CarriesOf from (held_so (is_of fileset) (view s1).state.slots) (Some ship) → 1 ≤ from.0 → 1 ≤ to.0
    → ((a b : S) (held : Holding) → ship.from.0 ≢ ship.to.0 → slice_get (set stores (from.0 - 1) s1) (ship.from.0 - 1) ≡ Some a
    → slice_get (set stores (from.0 - 1) s1) (ship.to.0 - 1) ≡ Some b → MaySend (view a).state (view b).state held ship mover
    → OnOk result (states_of view new ≡ two_set (states_of view (set stores (from.0 - 1) s1)) (ship.from.0 - 1) (act_done (view a).state (Left ship.fileset)).state
    (ship.to.0 - 1) (state_after (view b).state (all_parts held ship.from ship.number mover))))
    → OnOk result (states_of view new ≡ two_set (states_of view stores) (from.0 - 1) (act_done (act_done (view sender).state (Leave fileset to)).state (Left fileset)).state
    (to.0 - 1) (state_after (view receiver).state (all_parts holding from ((view sender).state.ship + 1) mover)))
moved view stores new result from to fileset mover s0 s1 sender receiver holding ship was one two m step carried least leastto send =
    let start = (view sender).state in
    let taker = (view receiver).state in
    let left = (act_done start (Leave fileset to)).state in
    let mid = set stores (from.0 - 1) s1 in
    let both : Some s0 ≡ Some sender = sym was ∙ one in
    let same : s0 ≡ sender = cc in
    let again = moves_repeat start (Leave fileset to) (apart_of start m.leave.storable) tt in
    let made : (view s1).state ≡ left =
    step (subst (λ s. Fits (view s).state (Leave fileset to)) (sym same) m.leave.fits) (subst (λ s. IsRepeatable (view s).state (Leave fileset to)) (sym same) again)
    ∙ ap (λ s. (act_done (view s).state (Leave fileset to)).state) same in
    let held : held_so (is_of fileset) (view s1).state.slots ≡ Some holding = ap (λ (s : StoreState). held_so (is_of fileset) s.slots) made ∙ m.held in
    let go = is_going start taker from to fileset mover holding ship m (subst (λ o. CarriesOf from o (Some ship)) held carried) in
    let places = two_places from to least leastto m.two in
    let low = there_within stores (from.0 - 1) sender one in
    let apart : ship.from.0 ≢ ship.to.0 = λ e. m.two (ap (λ (s : ServerId). s.0) (sym go.from_is) ∙ e ∙ ap (λ (s : ServerId). s.0) go.to_is) in
    let first : slice_get mid (ship.from.0 - 1) ≡ Some s1 = ap (λ (s : ServerId). slice_get mid (s.0 - 1)) go.from_is ∙ set_there stores (from.0 - 1) s1 low in
    let second : slice_get mid (ship.to.0 - 1) ≡ Some receiver =
    ap (λ (s : ServerId). slice_get mid (s.0 - 1)) go.to_is ∙ set_beside stores (from.0 - 1) (to.0 - 1) s1 (λ e. places (sym e)) ∙ two in
    let may : MaySend (view s1).state taker holding ship mover = subst (λ s. MaySend s taker holding ship mover) (sym made) go.send in
    on_ok_then result _ _ (λ e.
    e
    ∙ ap (λ xs. two_set xs (ship.from.0 - 1) (act_done (view s1).state (Left ship.fileset)).state (ship.to.0 - 1) (state_after taker (all_parts holding ship.from ship.number mover)))
    (map_set (λ store. (view store).state) stores (from.0 - 1) s1)
    ∙ ap (λ s. two_set (set (states_of view stores) (from.0 - 1) s) (ship.from.0 - 1) (act_done s (Left ship.fileset)).state (ship.to.0 - 1)
    (state_after taker (all_parts holding ship.from ship.number mover))) made
    ∙ going_states (states_of view stores) from to fileset (start.ship + 1) left taker holding ship mover go)
    (send s1 receiver holding apart first second may)

-- there is a ship
pub not_moved : {S : Type 0} (view : S → View) (stores : List S) (from to : ServerId) (fileset : FilesetId) (mover : Mover) (s0 s1 sender receiver : S) (holding : Holding)
    → slice_get stores (from.0 - 1) ≡ Some s0 → slice_get stores (from.0 - 1) ≡ Some sender → MayGo (view sender).state (view receiver).state from to fileset mover holding
    → (Fits (view s0).state (Leave fileset to) → IsRepeatable (view s0).state (Leave fileset to) → (view s1).state ≡ (act_done (view s0).state (Leave fileset to)).state)
    → CarriesOf from (held_so (is_of fileset) (view s1).state.slots) None → ⊥
not_moved view stores from to fileset mover s0 s1 sender receiver holding was one m step carried =
    let start = (view sender).state in
    let both : Some s0 ≡ Some sender = sym was ∙ one in
    let same : s0 ≡ sender = cc in
    let again = moves_repeat start (Leave fileset to) (apart_of start m.leave.storable) tt in
    let made : (view s1).state ≡ (act_done start (Leave fileset to)).state =
    step (subst (λ s. Fits (view s).state (Leave fileset to)) (sym same) m.leave.fits) (subst (λ s. IsRepeatable (view s).state (Leave fileset to)) (sym same) again)
    ∙ ap (λ s. (act_done (view s).state (Leave fileset to)).state) same in
    let held : held_so (is_of fileset) (view s1).state.slots ≡ Some holding = ap (λ (s : StoreState). held_so (is_of fileset) s.slots) made ∙ m.held in
    no_ship from to holding (start.ship + 1) m.stay (subst (λ o. CarriesOf from o None) held carried)

-- what the call with which a fileset goes over promises
abbrev pub Moving : {S : Type 0} → (S → View) → List S → List S → Result (Unit {0}) RunStopped → ServerId → Fileset → Mover → Type 0
Moving {S} view stores new result to found mover =
    (sender receiver : S) (holding : Holding) → slice_get stores (found.server.0 - 1) ≡ Some sender → slice_get stores (to.0 - 1) ≡ Some receiver
    → MayGo (view sender).state (view receiver).state found.server to found.id mover holding
    → OnOk result (states_of view new ≡ two_set (states_of view stores) (found.server.0 - 1) (act_done (act_done (view sender).state (Leave found.id to)).state (Left found.id)).state
    (to.0 - 1) (state_after (view receiver).state (all_parts holding found.server ((view sender).state.ship + 1) mover)))

least_of : (server : ServerId) (n : ℕ) → server ≡ record { 0 = n + 1 } → 1 ≤ server.0
least_of server n e = let k : server.0 ≡ n + 1 = ap (λ (s : ServerId). s.0) e in omega (arith, k)

-- the stores keep the tree behind the move
pub move_kept : {S : Type 0} (view : S → View) (tree : Tree) (stores new : List S) (result : Result (Unit {0}) RunStopped) (next : HostId → ℕ) (request : MoveRequest) (found fileset : Fileset)
    (mover : Mover) → found ≡ fileset → mover ≡ mover_of request → IsWellFormed tree → KeepAll next tree (states_of view stores)
    → Moves tree request.host request.server request.name request.to fileset → next request.host ≡ request.k → IsMover tree.roster (mover_of request)
    → Moving view stores new result request.to found mover
    → OnOk result (KeepAll (λ host. next_number host (next host) (Called request.host request.k (MoveFileset request.server request.name request.to) Accepted))
    (after_move tree request.host request.server request.name request.to fileset) (states_of view new))
move_kept view tree stores new result next request found fileset mover same is formed keep moves number sound send =
    let states = states_of view stores in
    let f = fileset.server.0 - 1 in
    let t = request.to.0 - 1 in
    let mine = subst (λ v. Moving view stores new result request.to fileset v) is (subst (λ x. Moving view stores new result request.to x mover) same send) in
    let go = moves_go_over next tree states request.host request.server request.name request.to fileset (mover_of request) formed keep moves sound refl (sym number) in
    let (s, at, here) = map_before (λ store. (view store).state) stores f go.from go.sends in
    let (r, to, there) = map_before (λ store. (view store).state) stores t go.other go.takes in
    let may = subst (λ x. MayGo x (view r).state fileset.server request.to fileset.id (mover_of request) go.holding) (sym here)
    (subst (λ x. MayGo go.from x fileset.server request.to fileset.id (mover_of request) go.holding) (sym there)
    (may_go next tree states request.host request.server request.name request.to fileset (mover_of request) go)) in
    let apart = two_places fileset.server request.to (least_of fileset.server f (sym go.from_is ∙ keep.own f go.from go.sends)) (least_of request.to t (sym go.other_is ∙ keep.own t go.other go.takes)) go.two in
    on_ok_then result _ _ (λ e.
    subst (λ k. KeepAll (λ host. next_number host (next host) (Called request.host k (MoveFileset request.server request.name request.to) Accepted))
    (after_move tree request.host request.server request.name request.to fileset) (states_of view new)) number
    (goes_kept next tree states (states_of view new) request.host request.server request.name request.to fileset (mover_of request) go apart
    (e
    ∙ ap (λ x. two_set states f (act_done (act_done x (Leave fileset.id request.to)).state (Left fileset.id)).state t
    (state_after (view r).state (all_parts go.holding fileset.server (x.ship + 1) (mover_of request)))) here
    ∙ ap (λ x. two_set states f (act_done (act_done go.from (Leave fileset.id request.to)).state (Left fileset.id)).state t
    (state_after x (all_parts go.holding fileset.server (go.from.ship + 1) (mover_of request)))) there)))
    (mine s r go.holding at to may)
