-- A tree whose filesets, records and rooms agree is well formed.
use Rattle.std.proofs.Common.{◌≡◌, ℕ, zero, suc, ◌+◌, ◌-◌, ◌<◌, ◌≤◌, ◌==◌, nat_le, Bool, true, false, ◌&&◌, ◌||◌, not, List, [], ◌∷◌, length, Some, None, refl, sym, ap, ◌∙◌, subst, inl, inr, arith}
use Rattle.std.specs.Prelude.{slice_get, if◌then◌else◌, Result, Ok, Err, IfOk}
use Rattle.std.specs.List.{list_all, count_by}
use Rattle.std.proofs.lemmas.Bool.{and_parts}
use Rattle.std.proofs.lemmas.Bool.Decides.{eqb_tells}
use Rattle.std.proofs.lemmas.Grind.{common_steps}
use Rattle.base_types.specs.declared.ids.ServerId.{ServerId}
use Rattle.base_types.specs.declared.limits.TheConstants.{FILESETS_MAX}
use Rattle.tree_calls.specs.Limits.{is_between, keeps_limits}
use Rattle.tree_filesets.specs.WellFormed.{is_at_rest}
use Rattle.tree_filesets.specs.declared.fileset.Fileset.{Fileset}
use Rattle.tree_answers.proofs.Followed.{all_both}
use Rattle.tree_answers.proofs.Places.{not_true}
use Rattle.tree_answers.specs.Founding.{room_of, count_at, fileset_count, away_count, promised_at, away_promise, away_promised}
use Rattle.tree_answers.specs.WellFormed.{ids_rise, names_differ, is_declared, is_given, rests_if_clone, AreWellFormed}
use Rattle.tree_answers.specs.declared.tree.Away.{Away}
use Rattle.tree_answers.specs.declared.tree.ServerRoom.{ServerRoom}
use Rattle.tree_answers.specs.declared.tree.Tree.{Tree}
use Rattle.service_starts.specs.Rooms.{IsWithin, AreWithin}
use Rattle.service_starts.specs.Start.{Agrees, IsStartable}

-- where nothing is unsaved nothing is in clones
or_true : (a b : Bool) → b ≡ true → (a || b) ≡ true
or_true true b e = refl
or_true false b e = e

clones_rest : (filesets : List Fileset) → list_all is_at_rest filesets ≡ true → list_all rests_if_clone filesets ≡ true
clones_rest filesets h = all_both is_at_rest is_at_rest rests_if_clone (λ fileset a b. or_true (not fileset.read_only) (is_at_rest fileset) a) filesets h h

-- nothing is at a server that isn't there
other_server : (n : ℕ) (one server : ServerId) → is_declared n one ≡ true → is_declared n server ≡ false → (one.0 == server.0) ≡ false
other_server n one server is isnt =
    elim (eqb_tells one.0 server.0) as (λ _. (one.0 == server.0) ≡ false) [
      | inl (test, same) ↦
          let there : is_between 1 n one.0 ≡ true = is in
          let wrong : false ≡ true = sym isnt ∙ ap (λ (k : ℕ). is_between 1 n k) (sym same) ∙ there in
          absurd (cc)
      | inr (test, differs) ↦ test
    ]

none_counted : {X : Type 0} (at : X → ServerId) (n : ℕ) (server : ServerId) (xs : List X) → is_declared n server ≡ false → list_all (λ x. is_declared n (at x)) xs ≡ true
    → count_by (λ x. (at x).0 == server.0) xs ≡ 0
none_counted at n server [] isnt h = refl
none_counted at n server (x ∷ xs) isnt h =
    let parts = and_parts (is_declared n (at x)) (list_all (λ x. is_declared n (at x)) xs) h in
    rw (other_server n (at x) server parts.0 isnt) (none_counted at n server xs isnt parts.1)

-- what its filesets do
filesets_of : (tree : Tree) → Agrees tree → (ids_rise tree.filesets ≡ true) × (names_differ tree.filesets ≡ true) × (list_all (λ fileset. is_declared (length tree.servers) fileset.server) tree.filesets ≡ true)
    × (list_all (λ fileset. is_given tree.servers fileset.id) tree.filesets ≡ true)
filesets_of tree h =
    let last = and_parts (ids_rise tree.filesets && names_differ tree.filesets && list_all (λ fileset. is_declared (length tree.servers) fileset.server) tree.filesets) (list_all (λ fileset. is_given tree.servers fileset.id) tree.filesets) h.filesets in
    let third = and_parts (ids_rise tree.filesets && names_differ tree.filesets) (list_all (λ fileset. is_declared (length tree.servers) fileset.server) tree.filesets) last.0 in
    let first = and_parts (ids_rise tree.filesets) (names_differ tree.filesets) third.0 in
    (first.0, first.1, third.1, last.1)

nobody_there : (tree : Tree) → Agrees tree → (server : ServerId) → is_declared (length tree.servers) server ≡ false → count_at tree server ≡ 0
nobody_there tree h server isnt =
    let filesets : fileset_count server tree.filesets ≡ 0 = none_counted (λ (fileset : Fileset). fileset.server) (length tree.servers) server tree.filesets isnt (filesets_of tree h).2 in
    let records : away_count server tree.away ≡ 0 = none_counted (λ (away : Away). away.server) (length tree.servers) server tree.away isnt h.away.declared in
    rw (filesets, records) refl

-- the room of a server that is there
pub get_some : {X : Type 0} (xs : List X) (k : ℕ) → k < length xs → (x : X) × (slice_get xs k ≡ Some x)
get_some [] k h = absurd (omega (arith, h))
get_some (x ∷ xs) zero h = (x, refl)
get_some (x ∷ xs) (suc k) h = get_some xs k (omega (arith, h))

within_at : (tree : Tree) → AreWithin tree → (server : ServerId) (room : ServerRoom) → 1 ≤ server.0 → slice_get tree.servers (server.0 - 1) ≡ Some room → IsWithin tree server room
within_at tree h server room least is =
    let number : server.0 - 1 + 1 ≡ server.0 = omega (arith, least) in
    subst (λ (n : ℕ). IsWithin tree (record { 0 = n }) room) number (h (server.0 - 1) room is)

counted : (tree : Tree) → Agrees tree → (server : ServerId) → count_at tree server ≤ FILESETS_MAX
counted tree h server = by (is_declared (length tree.servers) server) refl
  where
    by : (b : Bool) → is_declared (length tree.servers) server ≡ b → count_at tree server ≤ FILESETS_MAX
    by false isnt = rw (nobody_there tree h server isnt) (omega arith)
    by true is =
        let parts = and_parts (nat_le 1 server.0) (nat_le server.0 (length tree.servers)) is in
        let low = parts.0 in
        let high = parts.1 in
        let least : 1 ≤ server.0 = grind (arith, common_steps, low) in
        let most : server.0 ≤ length tree.servers = grind (arith, common_steps, high) in
        let there = get_some tree.servers (server.0 - 1) (omega (arith, least, most)) in
        (within_at tree h.within server there.0 least there.1).few

-- where no room is kept nothing is promised to records
free_promise : (filesets : List Fileset) (away : Away) → not away.room_kept ≡ true → away_promise filesets away ≡ 0
free_promise filesets away h = rw (not_true away.room_kept h) refl

free_promised : (server : ServerId) (filesets : List Fileset) (records : List Away) → list_all (λ away. not away.room_kept) records ≡ true → away_promised server filesets records ≡ 0
free_promised server filesets [] h = refl
free_promised server filesets (away ∷ records) h =
    let parts = and_parts (not away.room_kept) (list_all (λ away. not away.room_kept) records) h in
    let one : (if away.server.0 == server.0 then away_promise filesets away else 0) ≡ 0 = by (away.server.0 == server.0) (free_promise filesets away parts.0) in
    rw (one, free_promised server filesets records parts.1) refl
  where
    by : (b : Bool) → away_promise filesets away ≡ 0 → (if b then away_promise filesets away else 0) ≡ 0
    by true e = e
    by false e = refl

promises : (tree : Tree) → Agrees tree → (server : ServerId) (room : ServerRoom) → room_of tree.servers server ≡ Some room → promised_at tree server ≤ room.capacity
promises tree h server room is = by (server.0 == 0) refl is
  where
    by : (b : Bool) → (server.0 == 0) ≡ b → (if b then None else slice_get tree.servers (server.0 - 1)) ≡ Some room → promised_at tree server ≤ room.capacity
    by true test e = absurd (cc)
    by false test e =
        let least : 1 ≤ server.0 = grind (arith, common_steps, test) in
        let within = within_at tree h.within server room least e in
        let blocks = within.blocks in
        let none = free_promised server tree.filesets tree.away h.rooms in
        omega (arith, blocks, none)

-- each number is in range
all_rooms : (p : ServerRoom → Bool) (rooms : List ServerRoom) → ((k : ℕ) (room : ServerRoom) → slice_get rooms k ≡ Some room → p room ≡ true) → list_all p rooms ≡ true
all_rooms p [] h = refl
all_rooms p (room ∷ rooms) h = rw (h 0 room refl) (all_rooms p rooms (λ k other e. h (suc k) other e))

numbers : (tree : Tree) → AreWithin tree → list_all (λ room. is_between 1 65536 room.next) tree.servers ≡ true
numbers tree h = all_rooms (λ room. is_between 1 65536 room.next) tree.servers (λ k room e. (h k room e).number)

-- a script can be run from such a tree, where nothing is unsaved or in use
pub may_start : (tree : Tree) → keeps_limits tree.roster ≡ true → length tree.servers ≡ length tree.roster.capacity → tree.locks ≡ [] → tree.opens ≡ []
    → list_all is_at_rest tree.filesets ≡ true → Agrees tree → AreWellFormed tree.filesets → IsStartable tree
may_start tree limits servers locks opens rest h formed = record {
  formed = record {
    roster = limits;
    servers = servers;
    ordered = (filesets_of tree h).0;
    named = (filesets_of tree h).1;
    declared = (filesets_of tree h).2;
    given = (filesets_of tree h).3;
    filesets = formed;
    clones = clones_rest tree.filesets rest;
    away = h.away;
    counted = counted tree h;
    promised = promises tree h;
    numbers = numbers tree h.within;
    locks = rw locks refl;
    opens = rw opens refl;
  };
  rest = rest;
  rooms = h.rooms;
}

-- so it is where the filesets are found well formed
pub may_start_if : {E : Type 0} (result : Result Bool E) (tree : Tree) → keeps_limits tree.roster ≡ true → length tree.servers ≡ length tree.roster.capacity → tree.locks ≡ [] → tree.opens ≡ []
    → list_all is_at_rest tree.filesets ≡ true → Agrees tree → IfOk result (λ formed. formed ≡ true → AreWellFormed tree.filesets) → IfOk result (λ may. may ≡ true → IsStartable tree)
may_start_if (Ok formed) tree limits servers locks opens rest h found = λ e. may_start tree limits servers locks opens rest h (found e)
may_start_if (Err e) tree limits servers locks opens rest h found = tt
