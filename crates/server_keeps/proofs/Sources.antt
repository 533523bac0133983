-- The source of a clone, and of a move, in what a server keeps and as its store tells it.
use Rattle.std.proofs.Common.{Bool, Err, List, None, Ok, Option, Result, Some, [], ap, false, nat_le, not, refl}
use Rattle.std.proofs.Common.{subst, sym, true, ℕ, ◌&&◌, ◌==◌, ◌||◌, ◌∙◌, ◌≡◌, ◌∷◌}
use Rattle.std.proofs.lemmas.Bool.{false≢true}
use Rattle.std.specs.List.{find, flat_map, list_all, list_any}
use Rattle.std.specs.Option.{option_map_or}
use Rattle.std.specs.Prelude.{if◌then◌else◌, nat_lt, slice_get}
use Rattle.base_types.specs.Access.{allows}
use Rattle.base_types.specs.Name.{same_name}
use Rattle.base_types.specs.Outcomes.{and_then}
use Rattle.base_types.specs.declared.ids.HostId.{HostId}
use Rattle.base_types.specs.declared.ids.ServerId.{ServerId}
use Rattle.base_types.specs.declared.limits.TheConstants.{FILESET_NUMBER_MAX}
use Rattle.base_types.specs.declared.user.User.{User}
use Rattle.tree_calls.specs.declared.call.Call.TheVariants.{CloneFileset, MoveFileset}
use Rattle.tree_calls.specs.declared.reply.Refusal.{Refusal}
use Rattle.tree_calls.specs.declared.reply.Refusal.TheVariants.{Denied, Exists, InUse, NoFileset, NoRoom, NotHome}
use Rattle.tree_calls.specs.declared.reply.Refusal.TheVariants.{ReadOnly, TooMany}
use Rattle.tree_objects.specs.Objects.{own_rights}
use Rattle.tree_objects.specs.declared.content.Object.{Object}
use Rattle.tree_filesets.specs.Checks.{unless}
use Rattle.tree_filesets.specs.Founding.{cloned, control_check}
use Rattle.tree_filesets.specs.Promises.{clone_promise, promise}
use Rattle.tree_filesets.specs.Rights.{control_right}
use Rattle.tree_filesets.specs.Walk.{object_at}
use Rattle.tree_filesets.specs.declared.fileset.Fileset.{Fileset}
use Rattle.tree_filesets.specs.declared.fileset.TheConstants.{MOVES_MAX}
use Rattle.tree_answers.specs.Answers.{answer_for}
use Rattle.tree_answers.specs.Away.{has_away, is_away_named}
use Rattle.tree_answers.specs.Finding.{fileset_named, fileset_place, found_or, is_here, is_named, is_taken}
use Rattle.tree_answers.specs.Founding.{blocks_for, clone_answer, clone_source, clone_target, next_id, room_for}
use Rattle.tree_answers.specs.Founding.{room_of}
use Rattle.tree_answers.specs.Founding.{slot_for, with_fileset}
use Rattle.tree_answers.specs.Moving.{is_fileset_used, is_taken_by_other, leave_check, move_answer, move_room}
use Rattle.tree_answers.specs.Moving.{move_source, move_target, with_moved}
use Rattle.tree_answers.specs.declared.tree.Away.{Away}
use Rattle.tree_answers.specs.declared.tree.ServerRoom.{ServerRoom}
use Rattle.tree_answers.specs.declared.tree.Tree.{Tree}
use Rattle.tree_answers.proofs.AfterMove.{same_server}
use Rattle.need_laws.proofs.Replies.{replied, reply_for}
use Rattle.need_server.specs.Wants.{all_objects_of, all_of, files_of, want, want_for}
use Rattle.store_laws.proofs.Keys.{keys_sym, same_key}
use Rattle.store_memory.specs.Reading.{status_told}
use Rattle.store_state.specs.Rows.{found_named}
use Rattle.store_state.specs.declared.state.StoreState.{StoreState}
use Rattle.need_host.specs.Walks.{root_of}
use Rattle.run_rules.specs.ServerDecides.{tells_alone}
use Rattle.run_stores.specs.Keeping.{IsOf, StandsFor}
use Rattle.server_keeps.specs.Asking.{move_refused, move_told, whole_of}
use Rattle.server_keeps.proofs.Objects.{control_found, control_is, right_told, root_told}

-- # Checks that refuse only so

abbrev pub Only : {A : Type 0} → (Refusal → Bool) → Result A Refusal → Type 0
Only p r = (refusal : Refusal) → r ≡ Err refusal → p refusal ≡ true

pub same_error : (A : Type 0) (a b : Refusal)
    → (let l : Result A Refusal = Err a in let r : Result A Refusal = Err b in l ≡ r) → a ≡ b
same_error A a b e = cc

pub only_ok : {A : Type 0} (p : Refusal → Bool) (x : A) → Only p (Ok x)
only_ok p x refusal e = absurd (cc)

pub only_err : {A : Type 0} (p : Refusal → Bool) (refusal : Refusal) → p refusal ≡ true
    → (let r : Result A Refusal = Err refusal in Only p r)
only_err {A} p refusal so other e = ap p (sym (same_error A refusal other e)) ∙ so

pub only_then : {A B : Type 0} (p : Refusal → Bool) (r : Result A Refusal) (next : A → Result B Refusal) → Only p r
    → ((x : A) → Only p (next x)) → Only p (and_then r next)
only_then p (Ok x) next a b other e = b x other e
only_then {A} {B} p (Err refusal) next a b other e = a other (ap Err (same_error B refusal other e))

pub only_unless : {A : Type 0} (p : Refusal → Bool) (b : Bool) (refusal : Refusal) (next : Result A Refusal)
    → p refusal ≡ true → Only p next → Only p (unless b refusal next)
only_unless {A} p true refusal next so a = only_err {A = A} p refusal so
only_unless p false refusal next so a = a

found_only : (p : Refusal → Bool) (o : Option ServerRoom) (refusal : Refusal) → p refusal ≡ true
    → Only p (found_or o refusal)
found_only p None refusal so = only_err p refusal so
found_only p (Some room) refusal so = only_ok p room

-- room for a fileset
slot_only : (p : Refusal → Bool) (tree : Tree) (server : ServerId) (recorded : Bool) → p TooMany ≡ true
    → Only p (slot_for tree server recorded)
slot_only p tree server recorded many =
    only_unless p _ TooMany (found_or (room_of tree.servers server) TooMany) many
    (found_only p (room_of tree.servers server) TooMany many)

blocks_only : (p : Refusal → Bool) (tree : Tree) (server : ServerId) (room : ServerRoom) (blocks : ℕ) → p NoRoom ≡ true
    → Only p (blocks_for tree server room blocks)
blocks_only p tree server room blocks full = only_unless p _ NoRoom (Ok room) full (only_ok p room)

pub room_only : (p : Refusal → Bool) (tree : Tree) (server : ServerId) (blocks : ℕ) → p TooMany ≡ true → p NoRoom ≡ true
    → Only p (room_for tree server blocks)
unfolding room_for
room_only p tree server blocks many full =
    only_then p (slot_for tree server false) _ (slot_only p tree server false many) (λ room.
    only_unless p (nat_lt FILESET_NUMBER_MAX room.next) TooMany _ many (blocks_only p tree server room blocks full))

pub move_room_only : (p : Refusal → Bool) (tree : Tree) (to : ServerId) (f : Fileset) → p TooMany ≡ true
    → p NoRoom ≡ true → Only p (move_room tree to f)
unfolding move_room
move_room_only p tree to f many full =
    only_then p (slot_for tree to (has_away tree.away to f.id)) _ (slot_only p tree to _ many)
    (λ room. blocks_only p tree to room (promise f) full)

-- # Clones

pub clone_reply : (tree : Tree) (host : HostId) (user : User) (at : ServerId) (source new : List ℕ)
    → (answer_for tree host (CloneFileset at source new) user).reply ≡ reply_for (clone_target tree user at source new)
unfolding answer_for clone_answer
clone_reply tree host user at source new =
    replied tree (clone_target tree user at source new) (λ (found : Fileset × ServerRoom).
    with_fileset tree at found.1 (cloned found.0 (next_id at found.1) new))

-- what follows behind the source
abbrev pub behind : Tree → ServerId → List ℕ → Fileset → Result (Fileset × ServerRoom) Refusal
behind tree at new fileset = unless (is_taken tree at new) Exists (
    and_then (room_for tree at (clone_promise fileset)) (λ room. Ok (fileset, room)))

pub target_is : (tree : Tree) (user : User) (at : ServerId) (source new : List ℕ) (r : Result Fileset Refusal)
    → clone_source tree user at source ≡ r → clone_target tree user at source new ≡ and_then r (behind tree at new)
unfolding clone_target
target_is tree user at source new r e =
    ap (λ x. and_then x (λ fileset. unless (is_taken tree at new) Exists (
    and_then (room_for tree at (clone_promise fileset)) (λ room. Ok (fileset, room))))) e

pub source_gone : (tree : Tree) (user : User) (at : ServerId) (source : List ℕ)
    → fileset_named tree at source ≡ Err NoFileset → clone_source tree user at source ≡ Err NoFileset
unfolding clone_source
source_gone tree user at source e = rw e refl

pub source_there : (tree : Tree) (user : User) (at : ServerId) (source : List ℕ) (f : Fileset) (root : Object)
    → fileset_named tree at source ≡ Ok f → f.server ≡ at → object_at f.anodes 1 ≡ Some root
    → clone_source tree user at source
    ≡ and_then (control_found f.read_only (allows (own_rights root user) control_right)) (λ _. Ok f)
unfolding clone_source
source_there tree user at source f root named_is own there =
    ap (λ r. and_then r (λ (fileset : Fileset). unless (not (fileset.server.0 == at.0)) NotHome (
    and_then (control_check fileset user) (λ _. Ok fileset)))) named_is
    ∙ ap (λ b. unless (not b) NotHome (and_then (control_check f user) (λ _. Ok f)))
    (ap (λ (v : ServerId). v.0 == at.0) own ∙ same_key at.0)
    ∙ ap (λ r. and_then r (λ _. Ok f)) (control_is f user root there)

pub clone_want : (tree : Tree) (user : User) (at : ServerId) (source new : List ℕ) (r : Result Fileset Refusal)
    → clone_source tree user at source ≡ r
    → want tree user (CloneFileset at source new) ≡ want_for r (λ fileset. flat_map (all_of false) (files_of fileset))
unfolding want
clone_want tree user at source new r e = ap (λ x. want_for x (λ fileset. flat_map (all_of false) (files_of fileset))) e

-- # Moves

pub move_reply : (tree : Tree) (host : HostId) (user : User) (at : ServerId) (name : List ℕ) (to : ServerId)
    → (answer_for tree host (MoveFileset at name to) user).reply ≡ reply_for (move_target tree user at name to)
unfolding answer_for move_answer
move_reply tree host user at name to =
    replied tree (move_target tree user at name to) (λ (found : ℕ × Fileset). with_moved tree found.0 found.1 to)

abbrev pub leaves : Tree → ServerId → ℕ × Fileset → Result (ℕ × Fileset) Refusal
leaves tree to found = and_then (leave_check tree to found.1) (λ _. and_then (move_room tree to found.1)
    (λ _. Ok found))

pub moved_is : (tree : Tree) (user : User) (at : ServerId) (name : List ℕ) (to : ServerId)
    (r : Result (ℕ × Fileset) Refusal) → move_source tree user at name ≡ r
    → move_target tree user at name to ≡ and_then r (leaves tree to)
unfolding move_target
moved_is tree user at name to r e = ap (λ x. and_then x (leaves tree to)) e

pub move_gone : (tree : Tree) (user : User) (at : ServerId) (name : List ℕ)
    → fileset_place tree at name ≡ Err NoFileset → move_source tree user at name ≡ Err NoFileset
unfolding move_source
move_gone tree user at name e = rw e refl

pub move_there : (tree : Tree) (user : User) (at : ServerId) (name : List ℕ) (i : ℕ) (f : Fileset) (root : Object)
    → fileset_place tree at name ≡ Ok i → slice_get tree.filesets i ≡ Some f → object_at f.anodes 1 ≡ Some root
    → move_source tree user at name
    ≡ and_then (control_found f.read_only (allows (own_rights root user) control_right)) (λ _. Ok (i, f))
unfolding move_source
move_there tree user at name i f root place_is there here =
    ap (λ r. and_then r (λ place. and_then (found_or (slice_get tree.filesets place) NoFileset) (λ (fileset : Fileset).
    and_then (control_check fileset user) (λ _. Ok (place, fileset))))) place_is
    ∙ ap (λ o. and_then (found_or o NoFileset) (λ (fileset : Fileset).
    and_then (control_check fileset user) (λ _. Ok (i, fileset)))) there
    ∙ ap (λ r. and_then r (λ _. Ok (i, f))) (control_is f user root here)

pub move_want : (tree : Tree) (user : User) (at : ServerId) (name : List ℕ) (to : ServerId)
    (r : Result (ℕ × Fileset) Refusal) → move_source tree user at name ≡ r
    → want tree user (MoveFileset at name to)
    ≡ want_for r (λ (found : ℕ × Fileset). flat_map whole_of (all_objects_of found.1))
unfolding want
move_want tree user at name to r e =
    ap (λ x. want_for x (λ (found : ℕ × Fileset). flat_map whole_of (all_objects_of found.1))) e

-- another server has none of the server's filesets
none_here : (server to : ServerId) (name : List ℕ) (filesets : List Fileset)
    → list_all (λ (f : Fileset). f.server.0 == server.0) filesets ≡ true → (to.0 == server.0) ≡ false
    → list_any (is_named to name) filesets ≡ false
none_here server to name [] all apart = refl
none_here server to name (f ∷ filesets) all apart =
    by (f.server.0 == server.0) refl all (λ rest. none_here server to name filesets rest apart)
  where
    by : (b : Bool) → (f.server.0 == server.0) ≡ b
        → (b && list_all (λ (g : Fileset). g.server.0 == server.0) filesets) ≡ true
        → (list_all (λ (g : Fileset). g.server.0 == server.0) filesets ≡ true
        → list_any (is_named to name) filesets ≡ false)
        → (is_named to name f || list_any (is_named to name) filesets) ≡ false
    by true e rest more =
        let own = same_server f.server server e in
        let other : (f.server.0 == to.0) ≡ false =
        ap (λ (v : ServerId). v.0 == to.0) own ∙ keys_sym to.0 server.0 apart in
        ap (λ b. (b && same_name f.name name) || list_any (is_named to name) filesets) other
        ∙ more rest
    by false e rest more = absurd (false≢true rest)

pub untaken : (server to : ServerId) (tree : Tree) (f : Fileset) → IsOf server tree → (to.0 == server.0) ≡ false
    → is_taken_by_other tree to f ≡ false
untaken server to tree f o apart =
    ap (λ (l : List Away). is_here tree.filesets to f.name
    || list_any (λ (away : Away). is_away_named to f.name away && not (away.fileset.0 == f.id.0)) l) o.unmoved
    ∙ ap (λ b. b || false) (none_here server to f.name tree.filesets o.own apart)

-- it may leave for its own server not at all, and for another one only its moves are in the way
pub stays_home : (tree : Tree) (to : ServerId) (f : Fileset) → (f.server.0 == to.0) ≡ true
    → leave_check tree to f ≡ Err Exists
unfolding leave_check
stays_home tree to f same = rw same refl

pub leave_is : (server to : ServerId) (tree : Tree) (f : Fileset) → IsOf server tree → f.server ≡ server
    → (to.0 == server.0) ≡ false
    → leave_check tree to f ≡ unless (nat_le MOVES_MAX f.moves) TooMany (Ok tt)
unfolding leave_check
leave_is server to tree f o own apart =
    ap (λ b. unless b Exists (unless (is_fileset_used tree.locks tree.opens f.id) InUse (
    unless (nat_le MOVES_MAX f.moves) TooMany (unless (is_taken_by_other tree to f) Exists (Ok tt)))))
    (ap (λ (v : ServerId). v.0 == to.0) own ∙ keys_sym to.0 server.0 apart)
    ∙ ap (λ b. unless b InUse (
    unless (nat_le MOVES_MAX f.moves) TooMany (unless (is_taken_by_other tree to f) Exists (Ok tt))))
    (ap (λ l. is_fileset_used l tree.opens f.id) o.locks ∙ ap (λ l. is_fileset_used [] l f.id) o.opens)
    ∙ ap (λ b. unless (nat_le MOVES_MAX f.moves) TooMany (unless b Exists (Ok tt))) (untaken server to tree f o apart)

-- what isn't told by a server alone
abbrev pub is_silent : Refusal → Bool
is_silent refusal = not (tells_alone refusal)

pub leaves_only : (server to : ServerId) (tree : Tree) (i : ℕ) (f : Fileset) → IsOf server tree → f.server ≡ server
    → (to.0 == server.0) ≡ false → Only is_silent (leaves tree to (i, f))
leaves_only server to tree i f o own apart =
    only_then is_silent (leave_check tree to f) _
    (subst (Only is_silent) (sym (leave_is server to tree f o own apart))
    (only_unless is_silent (nat_le MOVES_MAX f.moves) TooMany (Ok tt) refl (only_ok is_silent tt)))
    (λ _. only_then is_silent (move_room tree to f) _ (move_room_only is_silent tree to f refl refl)
    (λ _. only_ok is_silent (i, f)))

-- the store tells of its root
pub move_told_gone : (state : StoreState) (user : User) (name : List ℕ) (to : ServerId) → found_named state name ≡ None
    → move_told state user name to ≡ Some NoFileset
move_told_gone state user name to e =
    ap (λ o. option_map_or (λ id. move_refused state.server user to (status_told state (root_of id))) o
    (Some NoFileset)) e

abbrev pub move_found : ServerId → ServerId → Bool → Bool → Option Refusal
move_found server to read_only allowed =
    if read_only then Some ReadOnly
    else (if allowed then (if to.0 == server.0 then Some Exists else None) else Some (Denied control_right))

pub move_told_there : (tree : Tree) (state : StoreState) (user : User) (name : List ℕ) (to : ServerId) (f : Fileset)
    (root : Object) (s : StandsFor tree state) → find (λ (g : Fileset). g.id.0 == f.id.0) tree.filesets ≡ Some f
    → found_named state name ≡ Some f.id → object_at f.anodes 1 ≡ Some root
    → move_told state user name to
    ≡ move_found state.server to f.read_only (allows (own_rights root user) control_right)
move_told_there tree state user name to f root s known found there =
    ap (λ o. option_map_or (λ id. move_refused state.server user to (status_told state (root_of id))) o
    (Some NoFileset))
    found
    ∙ ap (move_refused state.server user to) (root_told tree state f s known root there)
    ∙ ap (λ b. move_found state.server to f.read_only b) (right_told f.read_only root user control_right refl)
