-- A move goes over the stores of two servers.
use Rattle.std.proofs.Common.{◌≡◌, ◌≢◌, ◌<◌, ℕ, zero, suc, ◌+◌, ◌-◌, List, [], ◌∷◌, length, set, refl, sym, subst, ◌∙◌, ap, arith}
use Rattle.std.specs.Prelude.{slice_get, Some, None}
use Rattle.std.proofs.lemmas.Bool.{false≢true}
use Rattle.std.proofs.lemmas.List.{set-set}
use Rattle.base_types.specs.declared.ids.FilesetId.{FilesetId}
use Rattle.base_types.specs.declared.ids.HostId.{HostId}
use Rattle.base_types.specs.declared.ids.ServerId.{ServerId}
use Rattle.tree_calls.specs.declared.ship.Mover.{Mover}
use Rattle.tree_filesets.specs.declared.fileset.Fileset.{Fileset}
use Rattle.tree_answers.specs.declared.tree.Tree.{Tree}
use Rattle.store_laws.specs.MoveKeeping.{KeepAll}
use Rattle.store_laws.specs.MovedLaws.{move_entry, numbers_after, AreReplaced, GoesOver, MayDoAll}
use Rattle.store_acts.specs.Acts.{act_done, state_after}
use Rattle.store_acts.specs.declared.act.Act.TheVariants.{Leave, Left}
use Rattle.store_laws.specs.Moves.{all_parts}
use Rattle.store_state.specs.State.{held_so, is_leaving, is_of}
use Rattle.store_state.specs.declared.state.Holding.{Holding}
use Rattle.store_state.specs.declared.state.Stay.TheVariants.{Leaving}
use Rattle.store_state.specs.declared.state.StoreState.{StoreState}
use Rattle.store_laws.specs.KeptMoves.{after_move, leaving_state}
use Rattle.service_moves.specs.Ships.{two_set, Carries, CarriesOf, MayGo, MaySend}
use Rattle.service_moves.specs.declared.ships.Ship.{Ship}
use Rattle.service_moves.proofs.Carried.{of_same}
use Rattle.service_moves.proofs.Stores.{set_beside, set_length, set_there, there_within}
use Rattle.service_moves.proofs.Tables.{found_passes}

-- two of the states are others
pub two_replaced : (states after : List StoreState) (f t : ℕ) (first second : StoreState) → f ≢ t → f < length states → t < length states → after ≡ two_set states f first t second
    → AreReplaced states after f t first second
two_replaced states after f t first second apart one other e = record {
  count = ap length e ∙ set_length (set states f first) t second ∙ set_length states f first;
  one = ap (λ xs. slice_get xs f) e ∙ set_beside (set states f first) t f second apart ∙ set_there states f first one;
  other = ap (λ xs. slice_get xs t) e ∙ set_there (set states f first) t second (let l = set_length states f first in omega (arith, other, l));
  rest = λ k p q. ap (λ xs. slice_get xs k) e ∙ set_beside (set states f first) t k second q ∙ set_beside states f k first p;
}

-- what the law says of the two stores
pub may_go : (next : HostId → ℕ) (tree : Tree) (states : List StoreState) (host : HostId) (server : ServerId) (name : List ℕ) (to : ServerId) (fileset : Fileset) (mover : Mover)
    → (g : GoesOver next tree states host server name to fileset mover) → MayGo g.from g.other fileset.server to fileset.id mover g.holding
may_go next tree states host server name to fileset mover g = record {
  two = g.two;
  leave = g.leave;
  storable = g.left.storable;
  held = subst (λ (f : Fileset). held_so (is_of f.id) (leaving_state g.from fileset to).slots ≡ Some g.holding) g.same g.leaving.held;
  stay = g.leaving.stay;
  parts = subst (λ s. MayDoAll g.other (all_parts g.holding s (g.from.ship + 1) mover)) g.from_is g.parts;
}

pub goes_kept : (next : HostId → ℕ) (tree : Tree) (states after : List StoreState) (host : HostId) (server : ServerId) (name : List ℕ) (to : ServerId) (fileset : Fileset) (mover : Mover)
    → (g : GoesOver next tree states host server name to fileset mover) → fileset.server.0 - 1 ≢ to.0 - 1
    → after ≡ two_set states (fileset.server.0 - 1) (act_done (act_done g.from (Leave fileset.id to)).state (Left fileset.id)).state
    (to.0 - 1) (state_after g.other (all_parts g.holding fileset.server (g.from.ship + 1) mover))
    → KeepAll (numbers_after next (move_entry host (next host) server name to ∷ [])) (after_move tree host server name to fileset) after
goes_kept next tree states after host server name to fileset mover g apart e =
    g.kept after (two_replaced states after (fileset.server.0 - 1) (to.0 - 1) _ _ apart (there_within states (fileset.server.0 - 1) g.from g.sends)
    (there_within states (to.0 - 1) g.other g.takes)
    (e ∙ ap (λ s. two_set states (fileset.server.0 - 1) (act_done (act_done g.from (Leave fileset.id to)).state (Left fileset.id)).state
    (to.0 - 1) (state_after g.other (all_parts g.holding s (g.from.ship + 1) mover))) (sym g.from_is)))

-- the ship that the first store tells of, once it did `Leave`
pub no_ship : (from to : ServerId) (holding : Holding) (number : ℕ) → holding.stay ≡ Leaving to number → CarriesOf from (Some holding) None → ⊥
no_ship from to holding number stay h = false≢true (sym h ∙ ap is_leaving stay)

-- a ship that carries what is leaving
pub record IsGoing (from to : ServerId) (id : FilesetId) (number : ℕ) (left receiver : StoreState) (holding : Holding) (ship : Ship) (mover : Mover) : Type 0 where
  pub send : MaySend left receiver holding ship mover
  pub from_is : ship.from ≡ from
  pub to_is : ship.to ≡ to
  pub number_is : ship.number ≡ number
  pub id_is : ship.fileset ≡ id

pub is_going : (sender receiver : StoreState) (from to : ServerId) (id : FilesetId) (mover : Mover) (holding : Holding) (ship : Ship) → MayGo sender receiver from to id mover holding
    → Carries from holding ship → IsGoing from to id (sender.ship + 1) (act_done sender (Leave id to)).state receiver holding ship mover
is_going sender receiver from to id mover holding ship m c =
    let left = (act_done sender (Leave id to)).state in
    let stays : Leaving ship.to ship.number ≡ Leaving to (sender.ship + 1) = sym c.stay ∙ m.stay in
    let to_is : ship.to ≡ to = cc in
    let number_is : ship.number ≡ sender.ship + 1 = cc in
    let id_is : ship.fileset ≡ id = c.fileset ∙ of_same id holding (found_passes (is_of id) left.slots holding m.held) in
    record {
      send = record {
        storable = m.storable;
        held = subst (λ i. held_so (is_of i) left.slots ≡ Some holding) (sym id_is) m.held;
        carries = record { from_is = refl; stay = c.stay; fileset = c.fileset; name = c.name; objects = c.objects; moves = c.moves };
        parts = subst (λ s. MayDoAll receiver (all_parts holding s ship.number mover)) (sym c.from_is)
            (subst (λ n. MayDoAll receiver (all_parts holding from n mover)) (sym number_is) m.parts);
      };
      from_is = c.from_is;
      to_is = to_is;
      number_is = number_is;
      id_is = id_is;
    }

-- the states behind it
pub going_states : (states : List StoreState) (from to : ServerId) (id : FilesetId) (number : ℕ) (left receiver : StoreState) (holding : Holding) (ship : Ship) (mover : Mover)
    → IsGoing from to id number left receiver holding ship mover
    → two_set (set states (from.0 - 1) left) (ship.from.0 - 1) (act_done left (Left ship.fileset)).state (ship.to.0 - 1) (state_after receiver (all_parts holding ship.from ship.number mover))
    ≡ two_set states (from.0 - 1) (act_done left (Left id)).state (to.0 - 1) (state_after receiver (all_parts holding from number mover))
going_states states from to id number left receiver holding ship mover g =
    ap (λ (s : ServerId). two_set (set states (from.0 - 1) left) (s.0 - 1) (act_done left (Left ship.fileset)).state (ship.to.0 - 1) (state_after receiver (all_parts holding s ship.number mover))) g.from_is
    ∙ ap (λ (s : ServerId). two_set (set states (from.0 - 1) left) (from.0 - 1) (act_done left (Left ship.fileset)).state (s.0 - 1) (state_after receiver (all_parts holding from ship.number mover))) g.to_is
    ∙ ap (λ n. two_set (set states (from.0 - 1) left) (from.0 - 1) (act_done left (Left ship.fileset)).state (to.0 - 1) (state_after receiver (all_parts holding from n mover))) g.number_is
    ∙ ap (λ i. two_set (set states (from.0 - 1) left) (from.0 - 1) (act_done left (Left i)).state (to.0 - 1) (state_after receiver (all_parts holding from number mover))) g.id_is
    ∙ ap (λ xs. set xs (to.0 - 1) (state_after receiver (all_parts holding from number mover))) (set-set states (from.0 - 1) left (act_done left (Left id)).state)

-- a first step of one store, and what is behind it
pub set_same : {A : Type 0} (xs : List A) (k : ℕ) (x : A) → slice_get xs k ≡ Some x → set xs k x ≡ xs
set_same [] k x e = refl
set_same (y ∷ xs) zero x e = let same : y ≡ x = cc in ap (λ z. z ∷ xs) (sym same)
set_same (y ∷ xs) (suc k) x e = ap (λ ys. y ∷ ys) (set_same xs k x e)
