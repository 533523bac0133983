-- The tree that new stores make.
use Rattle.std.proofs.Common.{◌≡◌, ℕ, suc, ◌+◌, ◌-◌, ◌≤◌, nat_le, true, not, List, [], ◌∷◌, ◌++◌, length, map, Some, refl, ap, ◌∙◌, subst, arith}
use Rattle.std.specs.Prelude.{fold, slice_get, unwrap_or}
use Rattle.std.specs.List.{find, filter_map}
use Rattle.std.proofs.lemmas.Grind.{common_steps}
use Rattle.std.proofs.lemmas.Option.{slice_get_within}
use Rattle.tree_calls.specs.Limits.{keeps_limits}
use Rattle.tree_calls.specs.declared.roster.Roster.{Roster}
use Rattle.tree_answers.specs.Away.{with_away}
use Rattle.tree_answers.specs.Founding.{new_room}
use Rattle.tree_answers.specs.WellFormed.{is_declared}
use Rattle.tree_answers.specs.declared.tree.ServerRoom.{ServerRoom}
use Rattle.tree_answers.specs.declared.tree.Tree.{Tree}
use Rattle.service_starts.proofs.Standing.{In, contains_in}
use Rattle.service_starts.proofs.Tests.{and_both}
use Rattle.service_starts.specs.Fitting.{fits, settlings_in}
use Rattle.service_starts.specs.Starting.{fileset_in, away_in, with_one}
use Rattle.service_starts.specs.Told.{Placed, placed, placed_at, placed_from, rooms_of}
use Rattle.service_starts.specs.declared.told.Told.{Told}
use Rattle.service_starts.specs.Kept.{server_of, new_store, AreNew, NewStoresStart}
use Rattle.service_starts.specs.Starts.{AreTold}
use Rattle.store_laws.proofs.Exact.{stores_keep_exactly}

-- no slot is told of
none_placed : (n : ℕ) (all : List Told) → ((place : ℕ) (told : Told) → slice_get all place ≡ Some told → told.slots ≡ []) → placed_from n all ≡ []
none_placed n [] h = refl
none_placed n (told ∷ rest) h =
    ap (λ slots. placed_at n slots ++ placed_from (n + 1) rest) (h 0 told refl) ∙ none_placed (n + 1) rest (λ place other e. h (suc place) other e)

-- the rooms are those of the roster
new_rooms : (all : List Told) (capacity : List ℕ) → length all ≡ length capacity
    → ((place : ℕ) (told : Told) → slice_get all place ≡ Some told → (told.kept.capacity ≡ unwrap_or (slice_get capacity place) 0) × (told.kept.next ≡ 1))
    → rooms_of all ≡ map new_room capacity
new_rooms [] [] l h = refl
new_rooms [] (x ∷ xs) l h = absurd (omega (arith, l))
new_rooms (told ∷ all) [] l h = absurd (omega (arith, l))
new_rooms (told ∷ all) (x ∷ xs) l h =
    let w = h 0 told refl in
    let rest = new_rooms all xs (omega (arith, l)) (λ place other e. h (suc place) other e) in
    ap (λ n. let room : ServerRoom = record { capacity = n; next = told.kept.next } in room ∷ rooms_of all) w.0
    ∙ ap (λ n. let room : ServerRoom = record { capacity = x; next = n } in room ∷ rooms_of all) w.1
    ∙ ap (λ rooms. new_room x ∷ rooms) rest

-- a new store's record is one that a disk can have
are_told : (roster : Roster) (all : List Told) → keeps_limits roster ≡ true → length all ≡ length roster.capacity → AreNew roster all → AreTold all
are_told roster all k l h place told e =
    let within = slice_get_within all place told e in
    let number : ℕ = place + 1 in
    let first : nat_le 1 number ≡ true = grind (arith, common_steps) in
    let most : number ≤ length roster.capacity = omega (arith, within, l) in
    let last : nat_le number (length roster.capacity) ≡ true = grind (arith, common_steps, most) in
    let declared : is_declared (length roster.capacity) (server_of number) ≡ true = and_both (nat_le 1 number) (nat_le number (length roster.capacity)) first last in
    let keeps = stores_keep_exactly.new roster (server_of number) k declared in
    let w = h place told e in
    (new_store roster number, record { storable = keeps.storable; own = refl; kept = w.0; slots = w.1 })

pub new_stores_start : NewStoresStart
new_stores_start roster all k l h =
    let none : placed all ≡ [] = none_placed 1 all (λ place told e. let w = h place told e in w.1) in
    let rooms : rooms_of all ≡ map new_room roster.capacity = new_rooms all roster.capacity l (λ place told e.
    let w = h place told e in
    let back : place + 1 - 1 ≡ place = omega arith in
    (ap (λ kept. kept.capacity) w.0 ∙ ap (λ n. unwrap_or (slice_get roster.capacity n) 0) back, ap (λ kept. kept.next) w.0)) in
    let tree : List ServerRoom → List Placed → Tree = λ servers slots. record {
      roster = roster;
      servers = servers;
      filesets = fold with_one [] (filter_map (fileset_in all) slots);
      away = fold with_away [] (filter_map (away_in all) slots);
      locks = [];
      opens = [];
    } in
    record {
      told = are_told roster all k l h;
      fit = (ap (λ slots. find (λ at. not (fits all at)) slots) none, ap (settlings_in all) none);
      still = λ at i leaving. absurd (subst (λ slots. In at slots) none (contains_in (placed all) at i));
      start = ap (tree (rooms_of all)) none ∙ ap (λ servers. tree servers []) rooms;
    }
