-- A move that a server refuses is refused in the tree.
use Rattle.std.proofs.Common.{Bool, Err, List, None, Ok, Option, Result, Some, ap, false, inl, inr, not, refl, subst}
use Rattle.std.proofs.Common.{sym, nat_le, true, ℕ, ◌&&◌, ◌++◌, ◌+◌, ◌==◌, ◌||◌, ◌∙◌, ◌∷◌, ◌≡◌}
use Rattle.std.proofs.lemmas.Bool.{false≢true}
use Rattle.std.specs.List.{flat_map, list_any}
use Rattle.std.specs.Option.{option_map_or}
use Rattle.std.specs.Prelude.{[], if◌then◌else◌, slice_get}
use Rattle.base_types.specs.Ids.{same_fid}
use Rattle.base_types.specs.Outcomes.{and_then}
use Rattle.base_types.specs.declared.ids.Fid.{Fid}
use Rattle.base_types.specs.declared.ids.FilesetId.{FilesetId}
use Rattle.base_types.specs.declared.ids.HostId.{HostId}
use Rattle.base_types.specs.declared.ids.ServerId.{ServerId}
use Rattle.base_types.specs.declared.user.User.{User}
use Rattle.tree_calls.specs.Rosters.{user_of}
use Rattle.tree_calls.specs.declared.call.Call.TheVariants.{MoveFileset}
use Rattle.tree_calls.specs.declared.reply.Refusal.{Refusal}
use Rattle.tree_calls.specs.declared.reply.Refusal.TheVariants.{Exists, InUse, NoFileset, NoRoom, TooMany}
use Rattle.tree_calls.specs.declared.reply.Reply.TheVariants.{Refused}
use Rattle.tree_filesets.proofs.Targets.{ok_is, then_ok}
use Rattle.tree_filesets.specs.Checks.{unless}
use Rattle.tree_filesets.specs.Founding.{control_check}
use Rattle.tree_filesets.specs.Promises.{promise}
use Rattle.tree_filesets.specs.declared.fileset.Fileset.{Fileset}
use Rattle.tree_filesets.specs.declared.fileset.TheConstants.{MOVES_MAX}
use Rattle.tree_objects.specs.declared.content.Anode.{Anode}
use Rattle.tree_answers.proofs.Places.{get_all}
use Rattle.tree_answers.specs.Answers.{answer_for, answer_to}
use Rattle.tree_answers.specs.Away.{has_away, is_away_named}
use Rattle.tree_answers.specs.Finding.{fileset_place, found_or}
use Rattle.tree_answers.specs.Founding.{blocks_for, slot_for}
use Rattle.tree_answers.specs.Moving.{is_fileset_used, is_taken_by_other, leave_check, move_answer, move_room}
use Rattle.tree_answers.specs.Moving.{move_source, move_target, with_moved}
use Rattle.tree_answers.specs.Uses.{Hold, is_fileset_held, is_held, is_used, lock_hold, open_hold}
use Rattle.tree_answers.specs.WellFormed.{IsWellFormed, rests_if_clone}
use Rattle.tree_answers.specs.declared.tree.Tree.{Tree}
use Rattle.need_server.proofs.Kept.{then_first}
use Rattle.need_server.proofs.KeptFounds.{moving_found, moving_same}
use Rattle.need_server.proofs.KeptRooms.{blocks_kept, promise_kept, slot_kept}
use Rattle.need_server.proofs.KeptTree.{here_kept}
use Rattle.need_server.specs.Kept.{kept_fileset, kept_tree}
use Rattle.need_server.specs.Wants.{all_objects_of, all_of, every_use_of, objects_from, want, want_for}
use Rattle.tree_laws.specs.Losses.{use_of}
use Rattle.need_laws.proofs.Founds.{same_found}
use Rattle.need_laws.proofs.Moves.{moves_are_refused_alike}
use Rattle.need_laws.proofs.Replies.{replied, reply_for}
use Rattle.need_laws.proofs.Rows.{IsPlaced, placed}
use Rattle.need_laws.proofs.Rows.IsPlaced.{Nowhere, There}
use Rattle.need_laws.specs.Idle.{IsOfServer}
use Rattle.need_laws.specs.Known.{SameAt}
use Rattle.token_types.specs.Conflicts.{any_conflict, kinds_conflict, need_of}
use Rattle.token_types.specs.declared.token.Need.{Need}
use Rattle.token_types.specs.declared.token.Token.{Token}
use Rattle.tree_laws.proofs.Steps.{fid_is, same_number, then_same, then_then}
use Rattle.run_rules.specs.Past.{In}
use Rattle.run_rules.specs.ServerDecides.{tells_alone}
use Rattle.run_history.proofs.Refusing.{for_its, for_none, then_err}

-- the checks of a move on what is kept of a tree
leave_same : (tree : Tree) (to : ServerId) (fileset : Fileset)
    → leave_check (kept_tree tree) to (kept_fileset fileset) ≡ leave_check tree to fileset
unfolding leave_check
leave_same tree to fileset =
    ap (λ here. unless (fileset.server.0 == to.0) Exists (
    unless (is_fileset_used tree.locks tree.opens fileset.id) InUse (
    unless (nat_le MOVES_MAX fileset.moves) TooMany (
    unless (here
    || list_any (λ away. is_away_named to fileset.name away && not (away.fileset.0 == fileset.id.0)) tree.away) Exists (
    Ok tt)))))
    (here_kept tree.filesets to fileset.name)

room_same : (tree : Tree) (to : ServerId) (fileset : Fileset) → IsWellFormed tree → rests_if_clone fileset ≡ true
    → move_room (kept_tree tree) to (kept_fileset fileset) ≡ move_room tree to fileset
unfolding move_room
room_same tree to fileset w rests =
    then_first _ _ _ (slot_kept tree to (has_away tree.away to fileset.id))
    ∙ then_same (slot_for tree to (has_away tree.away to fileset.id)) _ _ (λ room h.
    ap (λ n. blocks_for (kept_tree tree) to room n) (promise_kept fileset rests)
    ∙ blocks_kept tree to room (promise fileset) w)

move_same : (tree : Tree) (user : User) (server : ServerId) (name : List ℕ) (to : ServerId) → IsWellFormed tree
    → move_target (kept_tree tree) user server name to
    ≡ and_then (move_target tree user server name to) (λ found. Ok (found.0, kept_fileset found.1))
unfolding move_target
move_same tree user server name to w =
    then_first _ _ _ (moving_same tree user server name)
    ∙ then_then (move_source tree user server name) (λ found. Ok (found.0, kept_fileset found.1)) _
    ∙ then_same (move_source tree user server name) _ (λ found.
    and_then (and_then (leave_check tree to found.1) (λ _. and_then (move_room tree to found.1) (λ _. Ok found)))
    (λ found. Ok (found.0, kept_fileset found.1)))
    (λ found h.
    let there = moving_found tree user server name found h in
    let rests = get_all rests_if_clone tree.filesets found.0 found.1 there w.clones in
    then_first _ _ _ (leave_same tree to found.1)
    ∙ then_same (leave_check tree to found.1) _ (λ _.
    and_then (and_then (move_room tree to found.1) (λ _. Ok found)) (λ found. Ok (found.0, kept_fileset found.1)))
    (λ _ k. then_first _ _ _ (room_same tree to found.1 w rests)
    ∙ sym (then_then (move_room tree to found.1) (λ _. Ok found) (λ found. Ok (found.0, kept_fileset found.1))))
    ∙ sym (then_then (leave_check tree to found.1) (λ _. and_then (move_room tree to found.1) (λ _. Ok found))
    (λ found. Ok (found.0, kept_fileset found.1))))
    ∙ sym (then_then (move_source tree user server name) (λ (place, fileset).
    and_then (leave_check tree to fileset) (λ _. and_then (move_room tree to fileset) (λ _. Ok (place, fileset))))
    (λ found. Ok (found.0, kept_fileset found.1)))

mapped_reply : {A B : Type 0} (r : Result A Refusal) (f : A → B)
    → reply_for (and_then r (λ x. Ok (f x))) ≡ reply_for r
mapped_reply (Ok x) f = refl
mapped_reply (Err refusal) f = refl

move_reply : (tree : Tree) (host : HostId) (user : User) (server : ServerId) (name : List ℕ) (to : ServerId)
    → IsWellFormed tree
    → (answer_for (kept_tree tree) host (MoveFileset server name to) user).reply
    ≡ (answer_for tree host (MoveFileset server name to) user).reply
unfolding answer_for move_answer
move_reply tree host user server name to w =
    replied (kept_tree tree) (move_target (kept_tree tree) user server name to)
    (λ (place, fileset). with_moved (kept_tree tree) place fileset to)
    ∙ (ap reply_for (move_same tree user server name to w)
    ∙ (mapped_reply (move_target tree user server name to) (λ found. (found.0, kept_fileset found.1))
    ∙ sym (replied tree (move_target tree user server name to)
    (λ (place, fileset). with_moved tree place fileset to))))

its_reply : (tree : Tree) (host : HostId) (user : User) (server : ServerId) (name : List ℕ) (to : ServerId)
    → (answer_for tree host (MoveFileset server name to) user).reply ≡ reply_for (move_target tree user server name to)
unfolding answer_for move_answer
its_reply tree host user server name to =
    replied tree (move_target tree user server name to) (λ (place, fileset). with_moved tree place fileset to)

-- where the source of a move is
source_there : (tree : Tree) (user : User) (server : ServerId) (name : List ℕ) (i : ℕ) (fileset : Fileset)
    → fileset_place tree server name ≡ Ok i → slice_get tree.filesets i ≡ Some fileset
    → move_source tree user server name ≡ and_then (control_check fileset user) (λ _. Ok (i, fileset))
unfolding move_source
source_there tree user server name i fileset e g =
    ap (λ (r : Result ℕ Refusal). and_then r (λ place.
    and_then (found_or (slice_get tree.filesets place) NoFileset) (λ f.
    and_then (control_check f user) (λ _. Ok (place, f))))) e
    ∙ ap (λ (o : Option Fileset). and_then (found_or o NoFileset) (λ f.
    and_then (control_check f user) (λ _. Ok (i, f)))) g

source_nowhere : (tree : Tree) (user : User) (server : ServerId) (name : List ℕ)
    → fileset_place tree server name ≡ Err NoFileset → move_source tree user server name ≡ Err NoFileset
unfolding move_source
source_nowhere tree user server name e = then_err (fileset_place tree server name) _ NoFileset e

-- checks that come to a refusal
left_err : (tree : Tree) (user : User) (server : ServerId) (name : List ℕ) (to : ServerId) (found : ℕ × Fileset)
    (refusal : Refusal) → move_source tree user server name ≡ Ok found → leave_check tree to found.1 ≡ Err refusal
    → move_target tree user server name to ≡ Err refusal
unfolding move_target
left_err tree user server name to found refusal e l =
    ap (λ (r : Result (ℕ × Fileset) Refusal). and_then r (λ (place, fileset).
    and_then (leave_check tree to fileset) (λ _. and_then (move_room tree to fileset) (λ _. Ok (place, fileset))))) e
    ∙ then_err (leave_check tree to found.1) _ refusal l

leaves_exists : (tree : Tree) (to : ServerId) (fileset : Fileset) → (fileset.server.0 == to.0) ≡ true
    → leave_check tree to fileset ≡ Err Exists
unfolding leave_check
leaves_exists tree to fileset e =
    ap (λ (b : Bool). unless b Exists (
    unless (is_fileset_used tree.locks tree.opens fileset.id) InUse (
    unless (nat_le MOVES_MAX fileset.moves) TooMany (
    unless (is_taken_by_other tree to fileset) Exists (Ok tt))))) e

leaves_used : (tree : Tree) (to : ServerId) (fileset : Fileset) → (fileset.server.0 == to.0) ≡ false
    → is_fileset_used tree.locks tree.opens fileset.id ≡ true → leave_check tree to fileset ≡ Err InUse
unfolding leave_check
leaves_used tree to fileset e u =
    ap (λ (b : Bool). unless b Exists (
    unless (is_fileset_used tree.locks tree.opens fileset.id) InUse (
    unless (nat_le MOVES_MAX fileset.moves) TooMany (
    unless (is_taken_by_other tree to fileset) Exists (Ok tt))))) e
    ∙ ap (λ (b : Bool). unless b InUse (
    unless (nat_le MOVES_MAX fileset.moves) TooMany (
    unless (is_taken_by_other tree to fileset) Exists (Ok tt)))) u

-- a use of a file is a use of its fileset
second_way : (a c : Bool) → c ≡ true → (a || c) ≡ true
second_way true c h = refl
second_way false c h = h

held_in : {U : Type 0} (hold : U → Hold) (all : List U) (fid : Fid) → is_held hold all fid ≡ true
    → is_fileset_held hold all fid.fileset ≡ true
held_in hold [] fid e = absurd (false≢true e)
held_in {U} hold (x ∷ xs) fid e = go (λ r. held_in hold xs fid r) (same_fid (hold x).fid fid) refl e
  where
    go : (is_held hold xs fid ≡ true → is_fileset_held hold xs fid.fileset ≡ true) → (b : Bool)
        → same_fid (hold x).fid fid ≡ b → (b || is_held hold xs fid) ≡ true
        → (((hold x).fid.fileset.0 == fid.fileset.0) || is_fileset_held hold xs fid.fileset) ≡ true
    go rest true q r =
        ap (λ (t : Bool). t || is_fileset_held hold xs fid.fileset)
        (ap (λ (f : Fid). f.fileset.0 == fid.fileset.0) (fid_is (hold x).fid fid q) ∙ same_number fid.fileset.0)
    go rest false q r =
        second_way ((hold x).fid.fileset.0 == fid.fileset.0) (is_fileset_held hold xs fid.fileset) (rest r)

either_way : (a b c d : Bool) → (a ≡ true → c ≡ true) → (b ≡ true → d ≡ true) → (a || b) ≡ true → (c || d) ≡ true
either_way true b c d f g e = ap (λ (t : Bool). t || d) (f refl)
either_way false b true d f g e = refl
either_way false b false d f g e = g e

fileset_used : (tree : Tree) (fid : Fid) → is_used tree.locks tree.opens fid ≡ true
    → is_fileset_used tree.locks tree.opens fid.fileset ≡ true
fileset_used tree fid e =
    either_way (is_held lock_hold tree.locks fid) (is_held open_hold tree.opens fid)
    (is_fileset_held lock_hold tree.locks fid.fileset) (is_fileset_held open_hold tree.opens fid.fileset)
    (held_in lock_hold tree.locks fid) (held_in open_hold tree.opens fid) e

-- what is wanted for a move is of the fileset that moves
conflict_in : (t : Token) (id : FilesetId) (needs : List Need) → ((n : Need) → In n needs → n.fid.fileset ≡ id)
    → any_conflict (need_of t) needs ≡ true → t.fid.fileset ≡ id
conflict_in t id [] all e = absurd (false≢true e)
conflict_in t id (n ∷ ns) all e =
    go (conflict_in t id ns (λ m i. all m (inr i))) (same_fid t.fid n.fid) (kinds_conflict t.kind n.kind) refl e
  where
    go : (any_conflict (need_of t) ns ≡ true → t.fid.fileset ≡ id) → (a b : Bool) → same_fid t.fid n.fid ≡ a
        → ((a && b) || any_conflict (need_of t) ns) ≡ true → t.fid.fileset ≡ id
    go rest true true q r = ap (λ (f : Fid). f.fileset) (fid_is t.fid n.fid q) ∙ all n (inl refl)
    go rest true false q r = rest r
    go rest false b q r = rest r

abbrev after_objects : Fileset → ℕ → List Anode → List Fid
after_objects fileset at anodes = objects_from (λ object. true) fileset (at + 1) anodes

objects_in : (fileset : Fileset) (at : ℕ) (anodes : List Anode) (n : Need)
    → In n (flat_map (λ fid. all_of true fid ++ every_use_of fid) (objects_from (λ object. true) fileset at anodes))
    → n.fid.fileset ≡ fileset.id
objects_in fileset at [] n i = elim i [ ]
objects_in fileset at (anode ∷ anodes) n i =
    go (option_map_or (λ object. true) anode.object false) (objects_in fileset (at + 1) anodes n) i
  where
    go : (b : Bool)
        → (In n (flat_map (λ fid. all_of true fid ++ every_use_of fid) (after_objects fileset at anodes))
        → n.fid.fileset ≡ fileset.id)
        → In n (flat_map (λ fid. all_of true fid ++ every_use_of fid)
        (if b then use_of fileset at ∷ after_objects fileset at anodes else after_objects fileset at anodes))
        → n.fid.fileset ≡ fileset.id
    go false old j = old j
    go true old (inl e) = ap (λ (z : Need). z.fid.fileset) e
    go true old (inr (inl e)) = ap (λ (z : Need). z.fid.fileset) e
    go true old (inr (inr (inl e))) = ap (λ (z : Need). z.fid.fileset) e
    go true old (inr (inr (inr (inl e)))) = ap (λ (z : Need). z.fid.fileset) e
    go true old (inr (inr (inr (inr j)))) = old j

wanted_for : (tree : Tree) (user : User) (server : ServerId) (name : List ℕ) (to : ServerId)
    → want tree user (MoveFileset server name to)
    ≡ want_for (move_source tree user server name) (λ (place, fileset).
    flat_map (λ fid. all_of true fid ++ every_use_of fid) (all_objects_of fileset))
unfolding want
wanted_for tree user server name to = refl

-- a move that a server refuses on what it keeps
module _ (v : ServerId) (K T : Tree) (host : HostId) (name : List ℕ) (to : ServerId) (formed : IsWellFormed T)
    (same : SameAt v K (kept_tree T)) where
  pub move_alike : IsOfServer v K → (refusal : Refusal) → tells_alone refusal ≡ true
      → (answer_to K host (MoveFileset v name to)).reply ≡ Refused refusal
      → (answer_to T host (MoveFileset v name to)).reply ≡ Refused refusal
  move_alike own refusal alone said = go (user_of T.roster host) refl
    where
      other : (r : Refusal) → tells_alone r ≡ false → refusal ≡ r → ⊥
      other r untold e = false≢true (sym untold ∙ (sym (ap tells_alone e) ∙ alone))

      on_kept : (answer_to (kept_tree T) host (MoveFileset v name to)).reply ≡ Refused refusal
      on_kept =
          moves_are_refused_alike K (kept_tree T) v host name to refusal same own (other TooMany refl)
          (other NoRoom refl) said

      go : (o : Option User) → user_of T.roster host ≡ o
          → (answer_to T host (MoveFileset v name to)).reply ≡ Refused refusal
      go None e =
          for_none T host (MoveFileset v name to) e
          ∙ (sym (for_none (kept_tree T) host (MoveFileset v name to) e) ∙ on_kept)
      go (Some user) e =
          for_its T host (MoveFileset v name to) user e
          ∙ (sym (move_reply T host user v name to formed)
          ∙ (sym (for_its (kept_tree T) host (MoveFileset v name to) user e) ∙ on_kept))

  -- one that meets a pinned token
  module _ (no_exists : (answer_to K host (MoveFileset v name to)).reply ≡ Refused Exists → ⊥) (t : Token)
      (user : User) (is_user : user_of K.roster host ≡ Some user)
      (way : any_conflict (need_of t) (want K user (MoveFileset v name to)) ≡ true)
      (used : is_used T.locks T.opens t.fid ≡ true) where
    abbrev wanted : Result (ℕ × Fileset) Refusal → List Need
    wanted found = want_for found (λ (place, fileset).
        flat_map (λ fid. all_of true fid ++ every_use_of fid) (all_objects_of fileset))

    no_way : (refusal : Refusal) → move_source K user v name ≡ Err refusal → ⊥
    no_way refusal e =
        false≢true (sym (ap (λ ns. any_conflict (need_of t) ns) (wanted_for K user v name to ∙ ap wanted e)) ∙ way)

    in_fileset : (found : ℕ × Fileset) → move_source K user v name ≡ Ok found → t.fid.fileset ≡ found.1.id
    in_fileset found e =
        conflict_in t found.1.id (wanted (Ok found)) (λ n i. objects_in found.1 1 found.1.anodes n i)
        (sym (ap (λ ns. any_conflict (need_of t) ns) (wanted_for K user v name to ∙ ap wanted e)) ∙ way)

    away : (found : ℕ × Fileset) → move_source K user v name ≡ Ok found → (found.1.server.0 == to.0) ≡ false
    away found e = go (found.1.server.0 == to.0) refl
      where
        go : (b : Bool) → (found.1.server.0 == to.0) ≡ b → b ≡ false
        go false q = refl
        go true q =
            absurd (no_exists (for_its K host (MoveFileset v name to) user is_user
            ∙ (its_reply K host user v name to
            ∙ ap reply_for (left_err K user v name to found Exists e (leaves_exists K to found.1 q)))))

    -- what the tree has there
    in_tree : (found mine : ℕ × Fileset) → move_source K user v name ≡ Ok found
        → move_source T user v name ≡ Ok mine → kept_fileset mine.1 ≡ found.1
        → (answer_to T host (MoveFileset v name to)).reply ≡ Refused InUse
    in_tree found mine e f one =
        for_its T host (MoveFileset v name to) user (ap (λ roster. user_of roster host) (sym same.roster) ∙ is_user)
        ∙ (its_reply T host user v name to
        ∙ ap reply_for (left_err T user v name to mine InUse f
        (leaves_used T to mine.1 (ap (λ (z : Fileset). z.server.0 == to.0) one ∙ away found e)
        (subst (λ (id : FilesetId). is_fileset_used T.locks T.opens id ≡ true)
        (in_fileset found e ∙ ap (λ (z : Fileset). z.id) (sym one)) (fileset_used T t.fid used)))))

    found_there : (found : ℕ × Fileset) → move_source K user v name ≡ Ok found → (j : ℕ)
        → move_source (kept_tree T) user v name ≡ Ok (j, found.1)
        → (answer_to T host (MoveFileset v name to)).reply ≡ Refused InUse
    found_there found e j g =
        let mine = then_ok (move_source T user v name) (λ f. Ok (f.0, kept_fileset f.1)) (j, found.1)
        (sym (moving_same T user v name) ∙ g) in
        in_tree found mine.0 e mine.1
        (ap (λ (z : ℕ × Fileset). z.1) (ok_is (mine.0.0, kept_fileset mine.0.1) (j, found.1) mine.2))

    by_control : (i j : ℕ) (f : Fileset) → fileset_place K v name ≡ Ok i → slice_get K.filesets i ≡ Some f
        → fileset_place (kept_tree T) v name ≡ Ok j → slice_get (kept_tree T).filesets j ≡ Some f
        → (c : Result (Unit {0}) Refusal) → control_check f user ≡ c
        → (answer_to T host (MoveFileset v name to)).reply ≡ Refused InUse
    by_control i j f e g p q (Err refusal) c =
        absurd (no_way refusal (source_there K user v name i f e g
        ∙ ap (λ (r : Result (Unit {0}) Refusal). and_then r (λ _. Ok (i, f))) c))
    by_control i j f e g p q (Ok may) c =
        found_there (i, f) (source_there K user v name i f e g
        ∙ ap (λ (r : Result (Unit {0}) Refusal). and_then r (λ _. Ok (i, f))) c) j
        (source_there (kept_tree T) user v name j f p q
        ∙ ap (λ (r : Result (Unit {0}) Refusal). and_then r (λ _. Ok (j, f))) c)

    pub move_in_use : (answer_to T host (MoveFileset v name to)).reply ≡ Refused InUse
    move_in_use = by_place (placed K v name) (placed (kept_tree T) v name)
      where
        by_place : IsPlaced K v name → IsPlaced (kept_tree T) v name
            → (answer_to T host (MoveFileset v name to)).reply ≡ Refused InUse
        by_place (Nowhere e n) b = absurd (no_way NoFileset (source_nowhere K user v name e))
        by_place (There i f e p g n) (Nowhere d m) =
            absurd (let q : Some f ≡ None = sym n ∙ (same_found K (kept_tree T) v same name ∙ m) in cc)
        by_place (There i f e p g n) (There j h d q k m) =
            let both : Some f ≡ Some h = sym n ∙ (same_found K (kept_tree T) v same name ∙ m) in
            let one : h ≡ f = cc in
            by_control i j f e g d (k ∙ ap Some one) (control_check f user) refl
