-- The stores of all servers in a history that moves nothing.
use Rattle.std.proofs.Common.{◌≡◌, ℕ, zero, suc, List, [], ◌∷◌, length, map, Some, None, refl, sym, ap, ◌∙◌, subst, arith}
use Rattle.std.specs.Prelude.{slice_get, unwrap_or, ◌-◌}
use Rattle.base_types.specs.declared.ids.HostId.{HostId}
use Rattle.base_types.specs.declared.ids.ServerId.{ServerId}
use Rattle.tree_calls.specs.declared.entry.Entry.{Entry}
use Rattle.tree_calls.specs.declared.roster.Roster.{Roster}
use Rattle.tree_saving.proofs.Apart.{roster_stays}
use Rattle.tree_answers.specs.declared.tree.Tree.{Tree}
use Rattle.tree_answers.specs.Histories.{after_entry, after_history}
use Rattle.store_acts.specs.Acts.{state_after}
use Rattle.store_acts.proofs.Limits.{length_map}
use Rattle.store_state.specs.State.{no_ship}
use Rattle.store_state.specs.declared.state.StoreState.{StoreState}
use Rattle.store_state.specs.declared.state.TakenShip.{TakenShip}
use Rattle.store_laws.specs.Acts.{acts_of}
use Rattle.store_laws.specs.HistoryLaws.{Does, Happens, IsBehind}
use Rattle.store_laws.proofs.Whole.{histories_are_kept}
use Rattle.store_laws.specs.TreeKeeping.{KeepsOf}
use Rattle.store_laws.specs.MoveKeeping.{KeepAll}
use Rattle.store_laws.specs.MovedLaws.{PiecesAreKept, numbers_after, states_after}
use Rattle.store_laws.proofs.Ships.{SameShips, SameStore, acts_of_history, ships_after, store_after}

pub roster_after : (tree : Tree) (entries : List Entry) → (after_history tree entries).roster ≡ tree.roster
roster_after tree [] = refl
roster_after tree (entry ∷ entries) = roster_after (after_entry tree entry) entries ∙ roster_stays tree entry

-- an element of a list that was changed
pub record WasAt {X Y : Type 0} (f : X → Y) (xs : List X) (k : ℕ) (y : Y) : Type 0 where
  pub old : X
  pub there : slice_get xs k ≡ Some old
  pub is : f old ≡ y

pub mapped_at : {X Y : Type 0} (f : X → Y) (xs : List X) (k : ℕ) (y : Y) → slice_get (map f xs) k ≡ Some y →
    WasAt f xs k y
mapped_at f [] k y e = absurd (cc)
mapped_at f (x ∷ xs) zero y e = record { old = x; there = refl; is = cc }
mapped_at f (x ∷ xs) (suc k) y e =
    let rest = mapped_at f xs k y e in record { old = rest.old; there = rest.there; is = rest.is }

-- a store once it did its acts
abbrev done : Tree → List Entry → StoreState → StoreState
done start history state = state_after state (acts_of state.server start None history)

record Ends (next : HostId → ℕ) (start : Tree) (history : List Entry) (old new : StoreState) : Type 0 where
  does : Does (numbers_after next history) (after_history start history) old (acts_of old.server start None history)
  is : done start history old ≡ new
  store : SameStore old new
  ships : SameShips old new

ends : (next : HostId → ℕ) (start : Tree) (history : List Entry) (states : List StoreState) →
    Happens next start history → KeepAll next start states → (k : ℕ) (old new : StoreState) →
    slice_get states k ≡ Some old → done start history old ≡ new → Ends next start history old new
ends next start history states h all k old new there is =
    let keeps = all.keeps k old there in
    let does = histories_are_kept next start history old h keeps (all.behind k old there) in
    record {
      does = does;
      is = is;
      store = subst (SameStore old) is
          (store_after old (acts_of old.server start None history) keeps.storable.limits does.each);
      ships = subst (SameShips old) is
          (ships_after old (acts_of old.server start None history) (acts_of_history old.server start None history));
    }

pub taken_same : (old new : List TakenShip) (from at : ServerId) → new ≡ old → at ≡ from →
    unwrap_or (slice_get new (at.0 - 1)) no_ship ≡ unwrap_or (slice_get old (from.0 - 1)) no_ship
taken_same old new from at e f =
    ap (λ ships. unwrap_or (slice_get ships (at.0 - 1)) no_ship) e
    ∙ ap (λ (s : ServerId). unwrap_or (slice_get old (s.0 - 1)) no_ship) f

pub pieces_are_kept : PiecesAreKept
pieces_are_kept next start history states h all = record {
  count = length_map (done start history) states ∙ all.count
      ∙ ap (λ (r : Roster). length r.capacity) (sym (roster_after start history));
  own = λ k new e.
      (let was = mapped_at (done start history) states k new e in
      (got k new e).store.server ∙ all.own k was.old was.there);
  keeps = λ k new e. (let g = got k new e in subst (KeepsOf (after_history start history)) g.is g.does.keeps);
  behind = λ k new e. (let g = got k new e in subst (IsBehind (numbers_after next history)) g.is g.does.behind);
  ships = λ k j new other e f.
      (let was = mapped_at (done start history) states k new e in
      let had = mapped_at (done start history) states j other f in
      let low = all.ships k j was.old had.old was.there had.there in
      let taken = ap (λ (ship : TakenShip). ship.ship) (taken_same was.old.taken new.taken had.old.server other.server
      (got k new e).ships.taken (got j other f).store.server) in
      let sent = (got j other f).ships.ship in
      omega (arith, low, taken, sent));
}
  where
    got : (k : ℕ) (new : StoreState) (e : slice_get (states_after start history states) k ≡ Some new) →
        Ends next start history (mapped_at (done start history) states k new e).old new
    got k new e =
        let was = mapped_at (done start history) states k new e in
        ends next start history states h all k was.old new was.there was.is
