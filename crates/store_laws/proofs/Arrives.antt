-- A store has room for a fileset that a tree lets move to its server.
use Rattle.std.proofs.Common.{◌≡◌, ◌≤◌, ◌<◌, ℕ, ◌+◌, ◌==◌, nat_lt, nat_le, Bool, true, false, ◌&&◌, ◌||◌, not, cond, List, [], ◌∷◌, length, Option, Some, None, Ok, refl, sym, ap, ◌∙◌, arith}
use Rattle.std.specs.Prelude.{if◌then◌else◌, option_and_then}
use Rattle.std.specs.List.{find, list_any}
use Rattle.std.specs.Option.{option_map}
use Rattle.std.proofs.lemmas.Grind.{common_steps}
use Rattle.base_types.specs.Name.{same_name}
use Rattle.base_types.specs.declared.ids.HostId.{HostId}
use Rattle.base_types.specs.declared.ids.ServerId.{ServerId}
use Rattle.base_types.specs.declared.limits.TheConstants.{FILESETS_MAX}
use Rattle.tree_calls.specs.declared.reply.Refusal.TheVariants.{Exists, TooMany, NoRoom}
use Rattle.tree_calls.specs.declared.ship.Mover.{Mover}
use Rattle.tree_filesets.specs.Checks.{unless}
use Rattle.tree_filesets.specs.Promises.{clone_promise, new_promise, promise}
use Rattle.tree_filesets.specs.declared.fileset.Fileset.{Fileset}
use Rattle.tree_answers.specs.declared.tree.Away.{Away}
use Rattle.tree_answers.specs.declared.tree.ServerRoom.{ServerRoom}
use Rattle.tree_answers.specs.declared.tree.Tree.{Tree}
use Rattle.tree_answers.specs.Away.{is_away, is_away_named, has_away}
use Rattle.tree_answers.specs.Finding.{has_id, is_named as is_tree_named, is_here as is_tree_here}
use Rattle.tree_answers.specs.Founding.{count_at}
use Rattle.tree_answers.specs.WellFormed.{IsWellFormed}
use Rattle.tree_answers.proofs.AfterMove.{IsMove}
use Rattle.tree_answers.proofs.Inserted.{or_first, or_second}
use Rattle.tree_answers.proofs.Places.{find_at_place}
use Rattle.store_records.specs.Stored.{IsStorable}
use Rattle.store_acts.specs.Acts.{state_after}
use Rattle.store_acts.specs.Moving.{arrival_slot, taken_from}
use Rattle.store_laws.specs.Founds.{room_in, HaveRoom}
use Rattle.store_laws.specs.Moves.{MayArrive, all_parts, are_tellable}
use Rattle.store_state.specs.Founding.{free_slot, promised}
use Rattle.store_state.specs.Sought.{is_other, is_past}
use Rattle.store_state.specs.State.{is_here, is_gone, is_of, is_used_so, held_at, held_so, slot_so}
use Rattle.store_state.specs.declared.state.Holding.{Holding}
use Rattle.store_state.specs.declared.state.Stay.{Stay}
use Rattle.store_state.specs.declared.state.StoreState.{StoreState}
use Rattle.store_state.proofs.Slots.{held_inside}
use Rattle.store_laws.specs.TreeKeeping.{if_at, if_here, if_gone, gone_from, fileset_at, record_at, KeepsOf}
use Rattle.store_laws.specs.KeptMoves.{Moves, MovesAreKept, after_move, leaving_state}
use Rattle.store_laws.proofs.Called.{same_id}
use Rattle.store_laws.proofs.Exact.{have_room, held_self}
use Rattle.store_laws.proofs.KeptFounds.{gone_left}
use Rattle.store_laws.proofs.Keys.{same_key}
use Rattle.store_laws.proofs.Moved.{moving_so}
use Rattle.store_laws.proofs.KeptMoves.{from_kept, none_such, others_kept, storable_after, to_kept}

-- what is found is some
found_any : {X : Type 0} (p q : X → Bool) (xs : List X) (x : X) → find p xs ≡ Some x → q x ≡ true →
    list_any q xs ≡ true
found_any p q [] x e k = absurd (cc)
found_any {X} p q (y ∷ ys) x e k = by (p y) e (λ f. found_any p q ys x f k)
  where
    or_true : (b : Bool) → (b || true) ≡ true
    or_true true = refl
    or_true false = refl

    by : (b : Bool) → cond b (Some y) (find p ys) ≡ Some x → (find p ys ≡ Some x → list_any q ys ≡ true) →
        (q y || list_any q ys) ≡ true
    by true e rest = let same : x ≡ y = cc in ap (λ b. b || list_any q ys) (ap q (sym same) ∙ k)
    by false e rest = ap (λ b. q y || b) (rest e) ∙ or_true (q y)

none_any : {X : Type 0} (p : X → Bool) (xs : List X) → find p xs ≡ None → list_any p xs ≡ false
none_any p [] e = refl
none_any p (x ∷ xs) e = by (p x) e (λ f. none_any p xs f)
  where
    by : (b : Bool) → cond b (Some x) (find p xs) ≡ None → (find p xs ≡ None → list_any p xs ≡ false) →
        (b || list_any p xs) ≡ false
    by true e rest = absurd (cc)
    by false e rest = rest e

and_false : (b : Bool) → (b && false) ≡ false
and_false true = refl
and_false false = refl

-- a fileset that may move to the server of a store
pub record Coming (tree : Tree) (state : StoreState) (place : ℕ) (fileset : Fileset) : Type 0 where
  pub formed : IsWellFormed tree
  pub keeps : KeepsOf tree state
  pub may : IsMove tree place fileset state.server

known : (tree : Tree) (state : StoreState) (place : ℕ) (fileset : Fileset) → Coming tree state place fileset →
    find (has_id fileset.id) tree.filesets ≡ Some fileset
known tree state place fileset c =
    find_at_place fileset.id tree.filesets place fileset c.may.there c.formed.ordered (same_key fileset.id.0)

not_there : (tree : Tree) (state : StoreState) (place : ℕ) (fileset : Fileset) → Coming tree state place fileset →
    fileset_at tree state.server fileset.id ≡ None
not_there tree state place fileset c =
    ap (option_and_then (if_at state.server)) (known tree state place fileset c)
    ∙ ap (λ b. if b then Some fileset else None) c.may.goes

-- how a holding stays
here_or_gone : (stay : Stay) → (is_here stay || is_gone stay) ≡ true → (b : Bool) → is_here stay ≡ b → b ≡ false →
    is_gone stay ≡ true
here_or_gone stay h b e f = sym (ap (λ t. t || is_gone stay) (e ∙ f)) ∙ h

-- its head doesn't come too late
not_late : (tree : Tree) (state : StoreState) (place : ℕ) (fileset : Fileset) → Coming tree state place fileset →
    list_any (is_used_so (is_past fileset.id (fileset.moves + 1))) state.slots ≡ false
not_late tree state place fileset c =
    none_such (is_past fileset.id (fileset.moves + 1)) state.slots (λ s h e. by s h e (is_of fileset.id h) refl)
  where
    held : (s : ℕ) (h : Holding) → held_at state.slots s ≡ Some h → is_of fileset.id h ≡ true →
        held_so (is_of fileset.id) state.slots ≡ Some h
    held s h e its =
        ap (λ i. held_so (is_of i) state.slots) (sym (same_id h.fileset.id fileset.id its))
        ∙ held_self state s h c.keeps.storable e

    gone : (s : ℕ) (h : Holding) → held_so (is_of fileset.id) state.slots ≡ Some h → (b : Bool) → is_here h.stay ≡ b →
        (not (is_gone h.stay) || nat_le (fileset.moves + 1) h.fileset.moves) ≡ false
    gone s h e true here =
        let wrong : Some h.fileset ≡ None =
        sym (ap (option_and_then if_here) e ∙ ap (λ b. if b then Some h.fileset else None) here)
        ∙ c.keeps.filesets fileset.id ∙ not_there tree state place fileset c in
        absurd (cc)
    gone s h e false here =
        let left = here_or_gone h.stay (c.keeps.still fileset.id h e) false here refl in
        let less = c.keeps.older fileset.id h fileset e left (known tree state place fileset c) in
        let low : nat_le (fileset.moves + 1) h.fileset.moves ≡ false = grind (arith, common_steps, less) in
        ap (λ b. not b || nat_le (fileset.moves + 1) h.fileset.moves) left ∙ low

    by : (s : ℕ) (h : Holding) → held_at state.slots s ≡ Some h → (t : Bool) → is_of fileset.id h ≡ t →
        is_past fileset.id (fileset.moves + 1) h ≡ false
    by s h e true its =
        ap (λ b. b && (not (is_gone h.stay) || nat_le (fileset.moves + 1) h.fileset.moves)) its
        ∙ gone s h (held s h e its) (is_here h.stay) refl
    by s h e false its = ap (λ b. b && (not (is_gone h.stay) || nat_le (fileset.moves + 1) h.fileset.moves)) its

-- no other one has its name
not_named : (tree : Tree) (state : StoreState) (place : ℕ) (fileset : Fileset) → Coming tree state place fileset →
    list_any (is_used_so (is_other fileset.id fileset.name)) state.slots ≡ false
not_named tree state place fileset c =
    none_such (is_other fileset.id fileset.name) state.slots
    (λ s h e. by s h e (same_name h.fileset.name fileset.name) (is_of fileset.id h) refl refl)
  where
    other_away : Away → Bool
    other_away away = is_away_named state.server fileset.name away && not (away.fileset.0 == fileset.id.0)

    free : (is_tree_here tree.filesets state.server fileset.name || list_any other_away tree.away) ≡ false
    free = c.may.free

    none_here : (h : Holding) → held_so (is_of h.fileset.id) state.slots ≡ Some h →
        same_name h.fileset.name fileset.name ≡ true → is_here h.stay ≡ true → ⊥
    none_here h e named here = at (find (has_id h.fileset.id) tree.filesets) refl
        (sym (c.keeps.filesets h.fileset.id) ∙ ap (option_and_then if_here) e
        ∙ ap (λ b. if b then Some h.fileset else None) here)
      where
        at : (found : Option Fileset) → find (has_id h.fileset.id) tree.filesets ≡ found →
            option_and_then (if_at state.server) found ≡ Some h.fileset → ⊥
        at None f g = absurd (cc)
        at (Some x) f g = there (x.server.0 == state.server.0) refl g
          where
            there : (b : Bool) → (x.server.0 == state.server.0) ≡ b → (if b then Some x else None) ≡ Some h.fileset → ⊥
            there false y g = absurd (cc)
            there true y g =
                let same : h.fileset ≡ x = cc in
                let its : is_tree_named state.server fileset.name x ≡ true =
                ap (λ b. b && same_name x.name fileset.name) y
                ∙ ap (λ (z : Fileset). same_name z.name fileset.name) (sym same) ∙ named in
                let some = found_any (has_id h.fileset.id) (is_tree_named state.server fileset.name) tree.filesets x f its in
                let wrong : true ≡ false = sym some ∙ or_first _ (list_any other_away tree.away) free in
                cc

    none_gone : (h : Holding) → held_so (is_of h.fileset.id) state.slots ≡ Some h →
        same_name h.fileset.name fileset.name ≡ true → is_of fileset.id h ≡ false → is_gone h.stay ≡ true → ⊥
    none_gone h e named apart gone =
        let (to, left) = gone_left h.stay gone in
        let told : Away = gone_from state.server h.fileset to in
        let there : find (is_away state.server h.fileset.id) tree.away ≡ Some told =
        sym (c.keeps.records h.fileset.id) ∙ ap (option_and_then (if_gone state.server)) e
        ∙ ap (option_map (gone_from state.server h.fileset)) left in
        let its : other_away told ≡ true =
        ap (λ b. (b && same_name h.fileset.name fileset.name) && not (h.fileset.id.0 == fileset.id.0))
        (same_key state.server.0)
        ∙ ap (λ b. b && not (h.fileset.id.0 == fileset.id.0)) named ∙ ap not apart in
        let some = found_any (is_away state.server h.fileset.id) other_away tree.away told there its in
        let wrong : true ≡ false =
        sym some ∙ or_second (is_tree_here tree.filesets state.server fileset.name) _ free in
        absurd (cc)

    never : (s : ℕ) (h : Holding) → held_at state.slots s ≡ Some h → same_name h.fileset.name fileset.name ≡ true →
        is_of fileset.id h ≡ false → (b : Bool) → is_here h.stay ≡ b → ⊥
    never s h e named apart true here =
        none_here h (held_self state s h c.keeps.storable e) named here
    never s h e named apart false here =
        let held = held_self state s h c.keeps.storable e in
        none_gone h held named apart (here_or_gone h.stay (c.keeps.still h.fileset.id h held) false here refl)

    by : (s : ℕ) (h : Holding) → held_at state.slots s ≡ Some h → (a b : Bool) →
        same_name h.fileset.name fileset.name ≡ a → is_of fileset.id h ≡ b →
        (same_name h.fileset.name fileset.name && not (is_of fileset.id h)) ≡ false
    by s h e false b x y = ap (λ t. t && not (is_of fileset.id h)) x
    by s h e true true x y =
        ap (λ t. same_name h.fileset.name fileset.name && not t) y ∙ and_false (same_name h.fileset.name fileset.name)
    by s h e true false x y = absurd (never s h e x y (is_here h.stay) refl)

-- there is a slot
has_slot : (tree : Tree) (state : StoreState) (place : ℕ) (fileset : Fileset) → Coming tree state place fileset →
    nat_le (length state.slots) (arrival_slot state fileset.id) ≡ false
has_slot tree state place fileset c =
    by (nat_lt (slot_so (is_of fileset.id) state.slots) (length state.slots)) refl
  where
    room : HaveRoom tree state
    room = have_room tree state c.formed c.keeps

    nothing : nat_lt (slot_so (is_of fileset.id) state.slots) (length state.slots) ≡ false →
        (found : Option Holding) → held_so (is_of fileset.id) state.slots ≡ found → found ≡ None
    nothing past None e = refl
    nothing past (Some h) e =
        let inside = held_inside state.slots (slot_so (is_of fileset.id) state.slots) h e in
        let low : nat_lt (slot_so (is_of fileset.id) state.slots) (length state.slots) ≡ true =
        grind (arith, common_steps, inside) in
        let wrong : false ≡ true = sym past ∙ low in
        absurd (cc)

    by : (b : Bool) → nat_lt (slot_so (is_of fileset.id) state.slots) (length state.slots) ≡ b →
        nat_le (length state.slots)
        (if b then slot_so (is_of fileset.id) state.slots else free_slot state.slots) ≡ false
    by true e =
        let low : slot_so (is_of fileset.id) state.slots < length state.slots = grind (arith, common_steps, e) in
        grind (arith, common_steps, low)
    by false e =
        let none : held_so (is_of fileset.id) state.slots ≡ None =
        nothing e (held_so (is_of fileset.id) state.slots) refl in
        let no_record : record_at tree state.server fileset.id ≡ None =
        sym (c.keeps.records fileset.id) ∙ ap (option_and_then (if_gone state.server)) none in
        let away : has_away tree.away state.server fileset.id ≡ false =
        none_any (is_away state.server fileset.id) tree.away no_record in
        let few : nat_le FILESETS_MAX (count_at tree state.server) ≡ false =
        sym (ap (λ b. not b && nat_le FILESETS_MAX (count_at tree state.server)) away) ∙ c.may.counted in
        sym room.full ∙ few

-- and blocks
has_blocks : (tree : Tree) (state : StoreState) (place : ℕ) (fileset : Fileset) → Coming tree state place fileset →
    nat_lt state.capacity (promised state.slots + new_promise fileset.objects) ≡ false
has_blocks tree state place fileset c =
    let room = have_room tree state c.formed c.keeps in
    let same : c.may.room ≡ room_in state =
    (let e : Some c.may.room ≡ Some (room_in state) = sym c.may.declared ∙ c.keeps.room in cc) in
    let capacity = ap (λ (r : ServerRoom). r.capacity) same in
    let blocks = room.blocks in
    let fits = c.may.fits in
    let promises : promise fileset ≡ new_promise fileset.objects =
    ap (λ b. if b then clone_promise fileset else new_promise fileset.objects) c.may.writable in
    let enough : promised state.slots + new_promise fileset.objects ≤ state.capacity =
    omega (arith, capacity, blocks, fits, promises) in
    grind (arith, common_steps, enough)

pub may_arrive : (tree : Tree) (state : StoreState) (place : ℕ) (fileset : Fileset) (from : ServerId) (ship : ℕ) →
    IsWellFormed tree → KeepsOf tree state → IsMove tree place fileset state.server →
    (taken_from state from).ship < ship → MayArrive state fileset from ship (arrival_slot state fileset.id)
may_arrive tree state place fileset from ship w k m new =
    let c : Coming tree state place fileset = record { formed = w; keeps = k; may = m } in
    record {
      late = not_late tree state place fileset c;
      taken = grind (arith, common_steps, new);
      room =
          ap (λ b. unless b Exists (unless (nat_le (length state.slots) (arrival_slot state fileset.id)) TooMany (
          unless (nat_lt state.capacity (promised state.slots + new_promise fileset.objects)) NoRoom
          (Ok (arrival_slot state fileset.id))))) (not_named tree state place fileset c)
          ∙ ap (λ b. unless b TooMany (
          unless (nat_lt state.capacity (promised state.slots + new_promise fileset.objects)) NoRoom
          (Ok (arrival_slot state fileset.id)))) (has_slot tree state place fileset c)
          ∙ ap (λ b. unless b NoRoom (Ok (arrival_slot state fileset.id))) (has_blocks tree state place fileset c);
    }

arrives_kept : (tree : Tree) (other state : StoreState) (host : HostId) (server : ServerId) (name : List ℕ)
    (fileset : Fileset) (holding : Holding) (ship : ℕ) (mover : Mover) → IsWellFormed tree →
    KeepsOf tree other → KeepsOf tree state → Moves tree host server name state.server fileset →
    fileset.server ≡ other.server →
    held_so (is_of fileset.id) (leaving_state other fileset state.server).slots ≡ Some holding →
    are_tellable fileset.anodes ≡ true → (taken_from state other.server).ship < ship →
    IsStorable (state_after state (all_parts holding other.server ship mover)) →
    KeepsOf (after_move tree host server name state.server fileset)
    (state_after state (all_parts holding other.server ship mover))
arrives_kept tree other state host server name fileset holding ship mover w kept k moves at held tell new storable =
    let m = moving_so tree host server name state.server fileset moves in
    to_kept tree other state host server name fileset holding ship (arrival_slot state fileset.id) mover w kept k moves
    at held tell (may_arrive tree state m.place fileset other.server ship w k m.is new) storable

pub moves_are_kept : MovesAreKept
moves_are_kept = record { from = from_kept; to = arrives_kept; fit = storable_after; others = others_kept }
