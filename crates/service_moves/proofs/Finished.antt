-- What moves that are finished leave.
use Rattle.std.proofs.Common.{◌≡◌, ◌≢◌, ◌≤◌, ◌<◌, ◌⊎◌, ℕ, zero, ◌+◌, ◌-◌, List, [], length, set, inl, inr, refl, sym, subst, ◌∙◌, ap, arith}
use Rattle.std.specs.Prelude.{Bool, true, false, slice_get, Some, None, Option, Result, Ok, OnOk, nat_le, nat_lt, ◌&&◌}
use Rattle.std.specs.List.{list_all}
use Rattle.std.proofs.lemmas.Bool.{and_parts, false≢true, leb-true}
use Rattle.base_types.specs.declared.ids.FilesetId.{FilesetId}
use Rattle.base_types.specs.declared.ids.ServerId.{ServerId}
use Rattle.base_types.specs.declared.limits.TheConstants.{SERVERS_MAX, HOSTS_MAX, GROUPS_MAX, CAPACITY_MIN, CAPACITY_MAX, CACHED_TOKENS_MIN, CACHED_TOKENS_MAX}
use Rattle.tree_calls.specs.declared.roster.Roster.{Roster}
use Rattle.tree_calls.specs.Limits.{is_between, keeps_limits}
use Rattle.store_memory.specs.Views.{View, Leaves, IsFirstOf}
use Rattle.store_memory.specs.Sound.{IsLeavingOf, IsMover}
use Rattle.store_memory.specs.declared.told.Slot.{Slot}
use Rattle.tree_answers.specs.Moving.{left_tree}
use Rattle.tree_answers.specs.declared.tree.Tree.{Tree}
use Rattle.service_starts.specs.FinishLaws.{ship_told, Finishes}
use Rattle.service_starts.specs.UnderWay.{freed, KeepUnderWay}
use Rattle.service_starts.proofs.Ended.{moves_end, ships_are_told}
use Rattle.service_starts.proofs.Finished.{moves_finish}
use Rattle.store_laws.specs.MovedLaws.{AreReplaced, MayDoAll}
use Rattle.store_records.specs.Stored.{IsStorable}
use Rattle.message_types.specs.Soundness.{IsServer}
use Rattle.store_acts.specs.Acts.{act_done, state_after}
use Rattle.store_acts.specs.declared.act.Act.TheVariants.{Left}
use Rattle.service_moves.proofs.Tables.{found_passes}
use Rattle.store_laws.specs.Moves.{all_parts}
use Rattle.store_laws.specs.TreeKeeping.{KeepsOf}
use Rattle.store_state.specs.State.{held_so, is_of}
use Rattle.store_state.specs.declared.state.Holding.{Holding}
use Rattle.store_state.specs.declared.state.StoreState.{StoreState}
use Rattle.service_moves.specs.Finishing.{mover_again, HasFinished}
use Rattle.service_moves.specs.Ships.{two_set, Carries, CarriesOf, IsNextShip, MaySend}
use Rattle.service_moves.specs.Stores.{states_of}
use Rattle.service_moves.specs.declared.ships.Ship.{Ship}
use Rattle.service_moves.specs.declared.stopped.RunStopped.{RunStopped}
use Rattle.service_moves.proofs.Carried.{may_ask, of_same}
use Rattle.service_moves.proofs.Goes.{set_same, two_replaced}
use Rattle.service_moves.specs.Doing.{Step, DoSteps}
use Rattle.service_moves.specs.Plans.{ship_steps, states_at, AreMoves}
use Rattle.service_moves.proofs.Doing.{steps_one, steps_then}
use Rattle.service_moves.proofs.Whole.{moves_whole}
use Rattle.service_moves.proofs.Twice.{done_none}
use Rattle.service_moves.proofs.Stores.{either_place, is_there, map_before, map_set, map_there, on_ok_then, set_beside, set_there, there_within}

-- the mover under which a ship goes again
pub again_moves : (roster : Roster) (ship : Ship) → IsServer roster ship.from → IsServer roster ship.to → IsMover roster (mover_again ship)
again_moves roster ship from to = record {
  host = omega arith;
  call = record { servers = (from, (to, tt)); paths = tt; objects = refl; groups = tt; bytes = tt };
  moves = tt;
}

-- where no ship is told, none is leaving
pub none_next : (from : ServerId) (state : StoreState) → IsStorable state → IsNextShip from state (ship_told state) None → ship_told state ≡ None
none_next from state storable h = by (ship_told state) refl h
  where
    by : (o : Option Slot) → ship_told state ≡ o → IsNextShip from state o None → o ≡ None
    by None e k = refl
    by (Some slot) e k =
        let (holding, held, leaving, told) = ships_are_told.some state slot storable e in
        let here : CarriesOf from (Some holding) None = subst (λ o. CarriesOf from o None) held k in
        absurd (false≢true (sym here ∙ leaving))

-- what is told of one that is leaving
pub record Told (from : ServerId) (state : StoreState) (ship : Ship) : Type 0 where
  pub holding : Holding
  pub held : held_so (is_of holding.fileset.id) state.slots ≡ Some holding
  pub carries : Carries from holding ship

pub told_next : (from : ServerId) (state : StoreState) (ship : Ship) → IsNextShip from state (ship_told state) (Some ship) → Told from state ship
told_next from state ship h = by (ship_told state) h
  where
    with : (id : FilesetId) (o : Option Holding) → held_so (is_of id) state.slots ≡ o → CarriesOf from o (Some ship) → Told from state ship
    with id None e k = absurd (cc)
    with id (Some holding) e k =
        let same = of_same id holding (found_passes (is_of id) state.slots holding e) in
        record { holding = holding; held = subst (λ i. held_so (is_of i) state.slots ≡ Some holding) (sym same) e; carries = k }

    by : (o : Option Slot) → IsNextShip from state o (Some ship) → Told from state ship
    by None k = absurd (cc)
    by (Some slot) k = with slot.fileset (held_so (is_of slot.fileset) state.slots) refl k

-- its parts may be asked for
pub may_ask_next : (from : ServerId) (state : StoreState) (ship : Ship) → IsNextShip from state (ship_told state) (Some ship) → (at : ℕ) → at ≤ ship.objects → IsLeavingOf state ship.fileset at
may_ask_next from state ship h at low = by (ship_told state) h
  where
    by : (o : Option Slot) → IsNextShip from state o (Some ship) → IsLeavingOf state ship.fileset at
    by None k = absurd (cc)
    by (Some slot) k = may_ask from state slot.fileset ship k at low

-- where none is leaving, all stays
pub none_finished : (tree : Tree) (place : ℕ) (old new : List StoreState) (state : StoreState) → KeepUnderWay tree old → slice_get old place ≡ Some state → new ≡ old → ship_told state ≡ None
    → HasFinished tree place old new
none_finished tree place old new state keep there same none = record {
  after = tree;
  keep = subst (KeepUnderWay tree) (sym same) keep;
  same = refl;
  left = λ other e.
      (let one : Some state ≡ Some other = sym there ∙ ap (λ xs. slice_get xs place) (sym same) ∙ e in
      let is : state ≡ other = cc in ap ship_told (sym is) ∙ none);
  still = λ k before now e f h.
      (let one : Some before ≡ Some now = sym e ∙ ap (λ xs. slice_get xs k) (sym same) ∙ f in
      let is : before ≡ now = cc in ap ship_told (sym is) ∙ h);
}

-- a ship may be sent
pub record MayFinish (tree : Tree) (states : List StoreState) (place : ℕ) (sender : StoreState) (ship : Ship) : Type 0 where
  pub holding : Holding
  pub goes : Finishes tree states place sender holding ship.to ship.number (mover_again ship)
  pub send : MaySend sender goes.receiver holding ship (mover_again ship)
  pub id : ship.fileset ≡ holding.fileset.id

pub may_finish : (tree : Tree) (states : List StoreState) (place : ℕ) (sender : StoreState) (ship : Ship) → KeepUnderWay tree states → slice_get states place ≡ Some sender → sender.server ≡ ship.from
    → IsMover sender.roster (mover_again ship) → Told ship.from sender ship → MayFinish tree states place sender ship
may_finish tree states place sender ship keep there own mover told =
    let goes = moves_finish tree states place sender told.holding ship.to ship.number (mover_again ship) keep there told.held told.carries.stay mover in
    record {
      holding = told.holding;
      goes = goes;
      send = record {
        storable = (keep.keeps place sender there).storable;
        held = subst (λ i. held_so (is_of i) sender.slots ≡ Some told.holding) (sym told.carries.fileset) told.held;
        carries = told.carries;
        parts = subst (λ s. MayDoAll goes.receiver (all_parts told.holding s ship.number (mover_again ship))) own goes.parts;
      };
      id = told.carries.fileset;
    }

-- and was
pub one_finished : (tree : Tree) (place : ℕ) (old new : List StoreState) (sender : StoreState) (ship : Ship) → slice_get old place ≡ Some sender → sender.server ≡ ship.from → (m : MayFinish tree old place sender ship)
    → new ≡ two_set old place (act_done sender (Left ship.fileset)).state (ship.to.0 - 1) (state_after m.goes.receiver (all_parts m.holding ship.from ship.number (mover_again ship)))
    → HasFinished tree place old new
one_finished tree place old new sender ship there own m e =
    let goes = m.goes in
    let left = (act_done sender (Left m.holding.fileset.id)).state in
    let taken = state_after goes.receiver (all_parts m.holding sender.server ship.number (mover_again ship)) in
    let made : new ≡ two_set old place left (ship.to.0 - 1) taken =
    e ∙ ap (λ i. two_set old place (act_done sender (Left i)).state (ship.to.0 - 1) (state_after goes.receiver (all_parts m.holding ship.from ship.number (mover_again ship)))) m.id
    ∙ ap (λ s. two_set old place left (ship.to.0 - 1) (state_after goes.receiver (all_parts m.holding s ship.number (mover_again ship)))) (sym own) in
    let r = two_replaced old new place (ship.to.0 - 1) left taken goes.two (there_within old place sender there) (there_within old (ship.to.0 - 1) goes.receiver goes.there) made in
    record {
      after = left_tree tree sender.server m.holding.fileset.id;
      keep = goes.keeps new r.count r.other r.one r.rest;
      same = goes.same;
      left = λ state f. (let one : Some left ≡ Some state = sym r.one ∙ f in let is : left ≡ state = cc in ap ship_told (sym is) ∙ goes.none);
      still = λ k before now f h n. by k before now f h n r (either_place k place) (either_place k (ship.to.0 - 1));
    }
  where
    by : (k : ℕ) (before now : StoreState) → slice_get old k ≡ Some before → slice_get new k ≡ Some now → ship_told before ≡ None
        → AreReplaced old new place (ship.to.0 - 1) (act_done sender (Left m.holding.fileset.id)).state
        (state_after m.goes.receiver (all_parts m.holding sender.server ship.number (mover_again ship)))
        → (k ≡ place) ⊎ (k ≢ place) → (k ≡ ship.to.0 - 1) ⊎ (k ≢ ship.to.0 - 1) → ship_told now ≡ None
    by k before now f h n r (inl is) other =
        let one : Some (act_done sender (Left m.holding.fileset.id)).state ≡ Some now = sym r.one ∙ ap (slice_get new) (sym is) ∙ h in
        let same : (act_done sender (Left m.holding.fileset.id)).state ≡ now = cc in
        ap ship_told (sym same) ∙ m.goes.none
    by k before now f h n r (inr away) (inl is) =
        let one : Some (state_after m.goes.receiver (all_parts m.holding sender.server ship.number (mover_again ship))) ≡ Some now = sym r.other ∙ ap (slice_get new) (sym is) ∙ h in
        let same : state_after m.goes.receiver (all_parts m.holding sender.server ship.number (mover_again ship)) ≡ now = cc in
        let two : Some m.goes.receiver ≡ Some before = sym m.goes.there ∙ ap (slice_get old) (sym is) ∙ f in
        let was : m.goes.receiver ≡ before = cc in
        ap ship_told (sym same) ∙ m.goes.no_more (ap ship_told was ∙ n)
    by k before now f h n r (inr away) (inr far) =
        let one : Some before ≡ Some now = sym f ∙ sym (r.rest k away far) ∙ h in
        let same : before ≡ now = cc in
        ap ship_told (sym same) ∙ n

-- what the first servers' stores have finished
pub record HaveFinished (tree : Tree) (count : ℕ) (states : List StoreState) : Type 0 where
  pub after : Tree
  pub keep : KeepUnderWay after states
  pub same : freed after ≡ freed tree
  pub left : (k : ℕ) (state : StoreState) → k < count → slice_get states k ≡ Some state → ship_told state ≡ None

pub finished_none : (tree : Tree) (states : List StoreState) → KeepUnderWay tree states → HaveFinished tree zero states
finished_none tree states keep = record { after = tree; keep = keep; same = refl; left = λ k state l e. absurd (omega (arith, l)) }

pub finished_more : (tree : Tree) (count place : ℕ) (old new : List StoreState) → place ≡ count → length new ≡ length old → (h : HaveFinished tree count old) → HasFinished h.after place old new
    → HaveFinished tree (count + 1) new
finished_more tree count place old new e size h more = record {
  after = more.after;
  keep = more.keep;
  same = more.same ∙ h.same;
  left = λ k state low there. by k state low there (either_place k count);
}
  where
    by : (k : ℕ) (state : StoreState) → k < count + 1 → slice_get new k ≡ Some state → (k ≡ count) ⊎ (k ≢ count) → ship_told state ≡ None
    by k state low there (inl is) = more.left state (ap (slice_get new) (e ∙ sym is) ∙ there)
    by k state low there (inr away) = still (is_there old k (let w = there_within new k state there in omega (arith, w, size)))
      where
        still : (before : StoreState) × (slice_get old k ≡ Some before) → ship_told state ≡ None
        still (before, was) = more.still k before state was there (h.left k before (omega (arith, low, away)) was)

pub all_finished : (tree : Tree) (count : ℕ) (states : List StoreState) → length states ≤ count → HaveFinished tree count states → (k : ℕ) (state : StoreState) → slice_get states k ≡ Some state
    → KeepsOf (freed tree) state
all_finished tree count states most h k state there =
    subst (λ t. KeepsOf t state) h.same
    (moves_end.keeps h.after states h.keep (λ j other e. h.left j other (let w = there_within states j other e in omega (arith, w, most)) e) k state there)

-- there are few servers
first_holds : (a b c d e : Bool) → (a && b && c && d && e) ≡ true → a ≡ true
first_holds true b c d e q = refl
first_holds false b c d e q = q

pub few_servers : (roster : Roster) → keeps_limits roster ≡ true → length roster.capacity ≤ 4
few_servers roster h =
    let between = first_holds (is_between 1 SERVERS_MAX (length roster.capacity)) (nat_le (length roster.hosts) HOSTS_MAX)
    (list_all (is_between CAPACITY_MIN CAPACITY_MAX) roster.capacity)
    (list_all (λ user. is_between 1 GROUPS_MAX (length user.groups)) roster.users)
    (list_all (λ line. nat_lt line.user (length roster.users)
    && is_between CACHED_TOKENS_MIN CACHED_TOKENS_MAX line.limit) roster.hosts) h in
    leb-true (length roster.capacity) 4 (and_parts (nat_le 1 (length roster.capacity)) (nat_le (length roster.capacity) 4) between).1

-- what finishing from one store leaves of all, where none is leaving it
pub nothing_goes : {S : Type 0} (view : S → View) (stores : List S) (from : ServerId) (tree : Tree) (s0 s1 : S) (found : Option Ship) → KeepUnderWay tree (states_of view stores)
    → slice_get stores (from.0 - 1) ≡ Some s0 → (view s1).state ≡ (view s0).state → IsNextShip from (view s1).state (ship_told (view s1).state) found → found ≡ None
    → HasFinished tree (from.0 - 1) (states_of view stores) (states_of view (set stores (from.0 - 1) s1))
nothing_goes view stores from tree s0 s1 found keep was same next is =
    let states = states_of view stores in
    let there = map_there (λ store. (view store).state) stores (from.0 - 1) s0 was in
    let after : states_of view (set stores (from.0 - 1) s1) ≡ states =
    map_set (λ store. (view store).state) stores (from.0 - 1) s1 ∙ ap (λ s. set states (from.0 - 1) s) same ∙ set_same states (from.0 - 1) (view s0).state there in
    let here : IsNextShip from (view s0).state (ship_told (view s0).state) None = subst (λ s. IsNextShip from s (ship_told s) None) same (subst (IsNextShip from (view s1).state (ship_told (view s1).state)) is next) in
    none_finished tree (from.0 - 1) states (states_of view (set stores (from.0 - 1) s1)) (view s0).state keep there after
    (none_next from (view s0).state (keep.keeps (from.0 - 1) (view s0).state there).storable here)

-- and where one is
pub one_goes_on : {S : Type 0} (view : S → View) (stores new : List S) (result : Result (Unit {0}) RunStopped) (from : ServerId) (tree : Tree) (s0 s1 : S) (ship : Ship) → KeepUnderWay tree (states_of view stores)
    → slice_get stores (from.0 - 1) ≡ Some s0 → (view s1).state ≡ (view s0).state → IsNextShip from (view s1).state (ship_told (view s1).state) (Some ship) → ship.from ≡ from → 1 ≤ from.0 → 1 ≤ ship.to.0
    → (view s0).state.server ≡ from → IsMover (view s0).state.roster (mover_again ship)
    → ((a b : S) (held : Holding) → ship.from.0 ≢ ship.to.0 → slice_get (set stores (from.0 - 1) s1) (ship.from.0 - 1) ≡ Some a
    → slice_get (set stores (from.0 - 1) s1) (ship.to.0 - 1) ≡ Some b → MaySend (view a).state (view b).state held ship (mover_again ship)
    → OnOk result (states_of view new ≡ two_set (states_of view (set stores (from.0 - 1) s1)) (ship.from.0 - 1) (act_done (view a).state (Left ship.fileset)).state
    (ship.to.0 - 1) (state_after (view b).state (all_parts held ship.from ship.number (mover_again ship)))))
    → OnOk result (HasFinished tree (from.0 - 1) (states_of view stores) (states_of view new))
one_goes_on view stores new result from tree s0 s1 ship keep was same next is least leastto own mover send =
    let states = states_of view stores in
    let start = (view s0).state in
    let place = from.0 - 1 in
    let mid = set stores place s1 in
    let there = map_there (λ store. (view store).state) stores place s0 was in
    let after : states_of view mid ≡ states =
    map_set (λ store. (view store).state) stores place s1 ∙ ap (λ s. set states place s) same ∙ set_same states place start there in
    let here : IsNextShip from start (ship_told start) (Some ship) = subst (λ s. IsNextShip from s (ship_told s) (Some ship)) same next in
    let told : Told ship.from start ship = told_next ship.from start ship (subst (λ x. IsNextShip x start (ship_told start) (Some ship)) (sym is) here) in
    let mine : start.server ≡ ship.from = own ∙ sym is in
    let may = may_finish tree states place start ship keep there mine mover told in
    let (b, to, at) = map_before (λ store. (view store).state) stores (ship.to.0 - 1) may.goes.receiver may.goes.there in
    let two : place ≢ ship.to.0 - 1 = may.goes.two in
    let from_place : ship.from.0 - 1 ≡ place = ap (λ (s : ServerId). s.0 - 1) is in
    let apart : ship.from.0 ≢ ship.to.0 = λ e. two (sym from_place ∙ ap (λ n. n - 1) e) in
    let low = there_within stores place s0 was in
    let first : slice_get mid (ship.from.0 - 1) ≡ Some s1 = ap (slice_get mid) from_place ∙ set_there stores place s1 low in
    let second : slice_get mid (ship.to.0 - 1) ≡ Some b = set_beside stores place (ship.to.0 - 1) s1 (λ e. two (sym e)) ∙ to in
    let sends : MaySend (view s1).state (view b).state may.holding ship (mover_again ship) =
    subst (λ s. MaySend s (view b).state may.holding ship (mover_again ship)) (sym same) (subst (λ s. MaySend start s may.holding ship (mover_again ship)) (sym at) may.send) in
    on_ok_then result _ _ (λ e.
    one_finished tree place states (states_of view new) start ship there mine may
    (e
    ∙ ap (λ xs. two_set xs (ship.from.0 - 1) (act_done (view s1).state (Left ship.fileset)).state (ship.to.0 - 1) (state_after (view b).state (all_parts may.holding ship.from ship.number (mover_again ship)))) after
    ∙ ap (λ n. two_set states n (act_done (view s1).state (Left ship.fileset)).state (ship.to.0 - 1) (state_after (view b).state (all_parts may.holding ship.from ship.number (mover_again ship)))) from_place
    ∙ ap (λ s. two_set states place (act_done s (Left ship.fileset)).state (ship.to.0 - 1) (state_after (view b).state (all_parts may.holding ship.from ship.number (mover_again ship)))) same
    ∙ ap (λ s. two_set states place (act_done start (Left ship.fileset)).state (ship.to.0 - 1) (state_after s (all_parts may.holding ship.from ship.number (mover_again ship)))) at))
    (send s1 b may.holding apart first second sends)

-- what finishing from one store makes of all
pub one_does : {S T : Type 0} (view : S → View) (stores new : List S) (result : Result (Unit {0}) RunStopped) (from : ServerId) (tree : Tree) (s0 s1 : S) (ship : Ship) (value : T) → KeepUnderWay tree (states_of view stores)
    → slice_get stores (from.0 - 1) ≡ Some s0 → (view s1).state ≡ (view s0).state → Leaves (IsFirstOf (view s0).state []) (view s0) (view s1) → IsNextShip from (view s1).state (ship_told (view s1).state) (Some ship)
    → ship.from ≡ from → (view s0).state.server ≡ from → IsMover (view s0).state.roster (mover_again ship)
    → ((a b : S) (held : Holding) → ship.from.0 ≢ ship.to.0 → slice_get (set stores (from.0 - 1) s1) (ship.from.0 - 1) ≡ Some a
    → slice_get (set stores (from.0 - 1) s1) (ship.to.0 - 1) ≡ Some b → MaySend (view a).state (view b).state held ship (mover_again ship)
    → DoSteps view result (ship_steps ship.from ship.to ship.fileset held ship.number (mover_again ship)) (set stores (from.0 - 1) s1) new)
    → (steps : List Step) × AreMoves (λ act. ⊥) (states_at view stores) steps × DoSteps view result steps stores new
one_does view stores new result from tree s0 s1 ship value keep was same left next is own mover send =
    let states = states_of view stores in
    let start = (view s0).state in
    let place = from.0 - 1 in
    let mid = set stores place s1 in
    let there = map_there (λ store. (view store).state) stores place s0 was in
    let here : IsNextShip from start (ship_told start) (Some ship) = subst (λ s. IsNextShip from s (ship_told s) (Some ship)) same next in
    let told : Told ship.from start ship = told_next ship.from start ship (subst (λ x. IsNextShip x start (ship_told start) (Some ship)) (sym is) here) in
    let mine : start.server ≡ ship.from = own ∙ sym is in
    let may = may_finish tree states place start ship keep there mine mover told in
    let (b, to, at) = map_before (λ store. (view store).state) stores (ship.to.0 - 1) may.goes.receiver may.goes.there in
    let two : place ≢ ship.to.0 - 1 = may.goes.two in
    let from_place : ship.from.0 - 1 ≡ place = ap (λ (s : ServerId). s.0 - 1) is in
    let apart : ship.from.0 ≢ ship.to.0 = λ e. two (sym from_place ∙ ap (λ n. n - 1) e) in
    let low = there_within stores place s0 was in
    let first : slice_get mid (ship.from.0 - 1) ≡ Some s1 = ap (slice_get mid) from_place ∙ set_there stores place s1 low in
    let second : slice_get mid (ship.to.0 - 1) ≡ Some b = set_beside stores place (ship.to.0 - 1) s1 (λ e. two (sym e)) ∙ to in
    let sends : MaySend (view s1).state (view b).state may.holding ship (mover_again ship) =
    subst (λ s. MaySend s (view b).state may.holding ship (mover_again ship)) (sym same) (subst (λ s. MaySend start s may.holding ship (mover_again ship)) (sym at) may.send) in
    let steps = ship_steps ship.from ship.to ship.fileset may.holding ship.number (mover_again ship) in (
      steps,
      moves_whole (λ act. ⊥) (states_at view stores) steps
          (record {
            from = ship.from;
            to = ship.to;
            fileset = ship.fileset;
            ship = ship.number;
            mover = mover_again ship;
            sender = start;
            holding = may.holding;
            there = ap (states_at view stores) from_place ∙ there;
            held = may.send.held;
            stay = may.send.carries.stay;
            are = refl;
          }),
      steps_then view value result [] steps stores mid new (steps_one view {E = RunStopped} (Ok value) [] stores place s0 s1 was (done_none (Ok value) (view s0) (view s1) same left)) (send s1 b may.holding apart first second sends),
    )
