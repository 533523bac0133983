-- A move that a server refuses by itself is refused alike wherever the same is kept of the server.
use Rattle.std.proofs.Common.{◌≡◌, ◌⊎◌, ℕ, ◌==◌, nat_le, nat_lt, ◌+◌, Bool, true, false, ◌&&◌, ◌||◌, not, List, [], ◌∷◌, Option, Some, None, Result, Ok, Err, inl, inr, refl, sym, ap, ◌∙◌, subst, rules}
use Rattle.std.specs.Prelude.{slice_get}
use Rattle.std.specs.List.{list_all, list_any}
use Rattle.base_types.specs.Name.{same_name}
use Rattle.base_types.specs.Outcomes.{and_then}
use Rattle.base_types.specs.declared.ids.ServerId.{ServerId}
use Rattle.base_types.specs.declared.limits.TheConstants.{FILESETS_MAX}
use Rattle.base_types.specs.declared.user.User.{User}
use Rattle.tree_calls.specs.Rosters.{user_of}
use Rattle.tree_calls.specs.declared.call.Call.TheVariants.{MoveFileset}
use Rattle.tree_calls.specs.declared.reply.Refusal.{Refusal}
use Rattle.tree_calls.specs.declared.reply.Refusal.TheVariants.{Exists, InUse, NoFileset, NoRoom, TooMany}
use Rattle.tree_calls.specs.declared.reply.Reply.TheVariants.{Ok as Done, Refused}
use Rattle.tree_objects.proofs.Observed.{and_left, and_right}
use Rattle.tree_filesets.specs.declared.fileset.Fileset.{Fileset}
use Rattle.tree_filesets.specs.declared.fileset.TheConstants.{MOVES_MAX}
use Rattle.tree_filesets.specs.Checks.{unless}
use Rattle.tree_filesets.specs.Founding.{control_check}
use Rattle.tree_filesets.specs.Promises.{promise}
use Rattle.tree_answers.specs.Answers.{answer_for, answer_to, for_user}
use Rattle.tree_answers.specs.Away.{has_away, is_away_named}
use Rattle.tree_answers.specs.Finding.{fileset_place, found_or, is_here, leads_to}
use Rattle.tree_answers.specs.Founding.{blocks_for, count_at, promised_at, room_of, slot_for}
use Rattle.tree_answers.specs.Moving.{is_fileset_used, is_taken_by_other, leave_check, move_answer, move_room, move_source, move_target, with_moved}
use Rattle.tree_answers.specs.declared.tree.Away.{Away}
use Rattle.tree_answers.specs.declared.tree.LockUse.{LockUse}
use Rattle.tree_answers.specs.declared.tree.OpenUse.{OpenUse}
use Rattle.tree_answers.specs.declared.tree.ServerRoom.{ServerRoom}
use Rattle.tree_answers.specs.declared.tree.Tree.{Tree}
use Rattle.tree_answers.proofs.Places.{equal_is, find_all}
use Rattle.need_laws.specs.Idle.{IsOfServer, MovesAreRefusedAlike}
use Rattle.need_laws.specs.Known.{SameAt}
use Rattle.need_laws.proofs.Founds.{same_found}
use Rattle.need_laws.proofs.Replies.{replied, reply_for}
use Rattle.need_laws.proofs.Rows.{IsPlaced, placed}
use Rattle.need_laws.proofs.Rows.IsPlaced.{Nowhere, There}

-- none of filesets of one server is at another
none_here : (xs : List Fileset) (server to : ServerId) (name : List ℕ) → list_all (λ fileset. fileset.server.0 == server.0) xs ≡ true → (server.0 == to.0) ≡ false → is_here xs to name ≡ false
none_here [] server to name all differ = refl
none_here (x ∷ xs) server to name all differ =
    let at : x.server.0 ≡ server.0 = equal_is x.server.0 server.0 (and_left _ _ all) in
    ap (λ (t : Bool). (t && same_name x.name name) || is_here xs to name) (ap (λ (n : ℕ). n == to.0) at ∙ differ) ∙ none_here xs server to name (and_right _ _ all) differ

-- for want of room alone
slot_refused : (tree : Tree) (to : ServerId) (recorded : Bool) (refusal : Refusal) → slot_for tree to recorded ≡ Err refusal → refusal ≡ TooMany
slot_refused tree to recorded refusal h = by_test (not recorded && nat_le FILESETS_MAX (count_at tree to)) (room_of tree.servers to) h
  where
    by_test : (b : Bool) (o : Option ServerRoom) → unless b TooMany (found_or o TooMany) ≡ Err refusal → refusal ≡ TooMany
    by_test true o e = let same : TooMany ≡ refusal = cc in sym same
    by_test false None e = let same : TooMany ≡ refusal = cc in sym same
    by_test false (Some room) e = absurd (search (rules, e))

room_refused : (tree : Tree) (to : ServerId) (fileset : Fileset) (refusal : Refusal) → move_room tree to fileset ≡ Err refusal → (refusal ≡ TooMany) ⊎ (refusal ≡ NoRoom)
unfolding move_room
room_refused tree to fileset refusal h = by_slot (slot_for tree to (has_away tree.away to fileset.id)) refl h
  where
    by_blocks : (b : Bool) (room : ServerRoom) → unless b NoRoom (Ok room) ≡ Err refusal → (refusal ≡ TooMany) ⊎ (refusal ≡ NoRoom)
    by_blocks true room e = let same : NoRoom ≡ refusal = cc in inr (sym same)
    by_blocks false room e = absurd (search (rules, e))

    by_slot : (slot : Result ServerRoom Refusal) → slot_for tree to (has_away tree.away to fileset.id) ≡ slot → and_then slot (λ room. blocks_for tree to room (promise fileset)) ≡ Err refusal
        → (refusal ≡ TooMany) ⊎ (refusal ≡ NoRoom)
    by_slot (Err r) s e = let same : r ≡ refusal = cc in inl (sym same ∙ slot_refused tree to (has_away tree.away to fileset.id) r s)
    by_slot (Ok room) s e = by_blocks (nat_lt room.capacity (promised_at tree to + promise fileset)) room e

-- the checks of a move, step by step
abbrev leaving : Bool → Bool → Bool → Bool → Result (Unit {0}) Refusal
leaving here used many taken = unless here Exists (unless used InUse (unless many TooMany (unless taken Exists (Ok tt))))

abbrev roomed : ℕ → Fileset → Result ServerRoom Refusal → Result (ℕ × Fileset) Refusal
roomed place fileset found = and_then found (λ _. Ok (place, fileset))

refused_is : (r refusal : Refusal) → Refused r ≡ Refused refusal → r ≡ refusal
refused_is r refusal e = cc

module _ (user : User) (name : List ℕ) (to : ServerId) where
  abbrev left : Tree → ℕ → Fileset → Result (Unit {0}) Refusal → Result (ℕ × Fileset) Refusal
  left tree place fileset leaves = and_then leaves (λ _. roomed place fileset (move_room tree to fileset))

  abbrev sourced : ℕ → Result Fileset Refusal → Result (ℕ × Fileset) Refusal
  sourced place found = and_then found (λ fileset. and_then (control_check fileset user) (λ _. Ok (place, fileset)))

  abbrev checks : Tree → Result (ℕ × Fileset) Refusal → Result (ℕ × Fileset) Refusal
  checks tree found = and_then found (λ (place, fileset). left tree place fileset (leave_check tree to fileset))

  target_there : (tree : Tree) (server : ServerId) (i : ℕ) (fileset : Fileset) → fileset_place tree server name ≡ Ok i → slice_get tree.filesets i ≡ Some fileset →
      move_target tree user server name to ≡ checks tree (sourced i (Ok fileset))
  unfolding move_target move_source
  target_there tree server i fileset e g =
      ap (λ (found : Result ℕ Refusal). checks tree (and_then found (λ place. sourced place (found_or (slice_get tree.filesets place) NoFileset)))) e
      ∙ ap (λ (o : Option Fileset). checks tree (sourced i (found_or o NoFileset))) g

  target_nowhere : (tree : Tree) (server : ServerId) → fileset_place tree server name ≡ Err NoFileset → move_target tree user server name to ≡ Err NoFileset
  unfolding move_target move_source
  target_nowhere tree server e = ap (λ (found : Result ℕ Refusal). checks tree (and_then found (λ place. sourced place (found_or (slice_get tree.filesets place) NoFileset)))) e

  module _ (a b : Tree) (server : ServerId) (own : IsOfServer server a) (refusal : Refusal) (not_many : refusal ≡ TooMany → ⊥) (not_room : refusal ≡ NoRoom → ⊥) where
    -- of a fileset that may leave, on what the server keeps, a move is refused for want of room alone
    no_room : (i : ℕ) (fileset : Fileset) (room : Result ServerRoom Refusal) → move_room a to fileset ≡ room → reply_for (roomed i fileset room) ≡ Refused refusal → ⊥
    no_room i fileset (Ok room) e k = let wrong : Done ≡ Refused refusal = k in cc
    no_room i fileset (Err r) e k =
        let same = refused_is r refusal k in
        elim (room_refused a to fileset r e) [ inl many ↦ not_many (sym same ∙ many) | inr none ↦ not_room (sym same ∙ none) ]

    no_moves : (i : ℕ) (fileset : Fileset) (many : Bool) → reply_for (left a i fileset (leaving false false many false)) ≡ Refused refusal → ⊥
    no_moves i fileset true k = not_many (sym (refused_is TooMany refusal k))
    no_moves i fileset false k = no_room i fileset (move_room a to fileset) refl k

    never : (i : ℕ) (fileset : Fileset) → (fileset.server.0 == server.0) ≡ true → (fileset.server.0 == to.0) ≡ false → reply_for (left a i fileset (leave_check a to fileset)) ≡ Refused refusal → ⊥
    unfolding leave_check
    never i fileset at away said =
        no_moves i fileset (nat_le MOVES_MAX fileset.moves)
        (sym (ap (λ (x : Bool × Bool × Bool). reply_for (left a i fileset (leaving x.0 x.1 (nat_le MOVES_MAX fileset.moves) x.2))) (λ j. (away j, idle_uses j, taken j))) ∙ said)
      where
        differ : (server.0 == to.0) ≡ false
        differ = sym (ap (λ (n : ℕ). n == to.0) (equal_is fileset.server.0 server.0 at)) ∙ away

        taken : is_taken_by_other a to fileset ≡ false
        taken = ap (λ (t : Bool). t || list_any (λ away. is_away_named to fileset.name away && not (away.fileset.0 == fileset.id.0)) a.away) (none_here a.filesets server to fileset.name own.filesets differ)
            ∙ ap (λ (records : List Away). list_any (λ away. is_away_named to fileset.name away && not (away.fileset.0 == fileset.id.0)) records) own.away

        idle_uses : is_fileset_used a.locks a.opens fileset.id ≡ false
        idle_uses = ap (λ (locks : List LockUse). is_fileset_used locks a.opens fileset.id) own.locks ∙ ap (λ (opens : List OpenUse). is_fileset_used [] opens fileset.id) own.opens

    by_place : (i j : ℕ) (fileset : Fileset) → (fileset.server.0 == server.0) ≡ true → (t : Bool) → (fileset.server.0 == to.0) ≡ t → reply_for (left a i fileset (leave_check a to fileset)) ≡ Refused refusal →
        reply_for (left b j fileset (leave_check b to fileset)) ≡ Refused refusal
    unfolding leave_check
    by_place i j fileset at false e k = absurd (never i fileset at e k)
    by_place i j fileset at true e k =
        let said : Refused Exists ≡ Refused refusal =
        sym (ap (λ (t : Bool). reply_for (left a i fileset (leaving t (is_fileset_used a.locks a.opens fileset.id) (nat_le MOVES_MAX fileset.moves) (is_taken_by_other a to fileset)))) e) ∙ k in
        ap (λ (t : Bool). reply_for (left b j fileset (leaving t (is_fileset_used b.locks b.opens fileset.id) (nat_le MOVES_MAX fileset.moves) (is_taken_by_other b to fileset)))) e ∙ said

    by_control : (i j : ℕ) (fileset : Fileset) → (fileset.server.0 == server.0) ≡ true → (c : Result (Unit {0}) Refusal) → reply_for (checks a (and_then c (λ _. Ok (i, fileset)))) ≡ Refused refusal →
        reply_for (checks b (and_then c (λ _. Ok (j, fileset)))) ≡ Refused refusal
    by_control i j fileset at (Err r) k = k
    by_control i j fileset at (Ok it) k = by_place i j fileset at (fileset.server.0 == to.0) refl k

    refused_alike : SameAt server a b → IsPlaced a server name → IsPlaced b server name → reply_for (move_target a user server name to) ≡ Refused refusal → reply_for (move_target b user server name to) ≡ Refused refusal
    refused_alike same (Nowhere ea na) (Nowhere eb nb) said = ap reply_for (target_nowhere b server eb) ∙ (sym (ap reply_for (target_nowhere a server ea)) ∙ said)
    refused_alike same (Nowhere ea na) (There j g eb pb gb fb) said = let wrong : None ≡ Some g = sym na ∙ same_found a b server same name ∙ fb in absurd (search (rules, wrong))
    refused_alike same (There i f ea pa ga fa) (Nowhere eb nb) said = let wrong : None ≡ Some f = sym nb ∙ sym (same_found a b server same name) ∙ fa in absurd (search (rules, wrong))
    refused_alike same (There i f ea pa ga fa) (There j g eb pb gb fb) said =
        let both : Some f ≡ Some g = sym fa ∙ same_found a b server same name ∙ fb in
        let one : f ≡ g = cc in
        let at : (f.server.0 == server.0) ≡ true = find_all (leads_to a server name) (λ fileset. fileset.server.0 == server.0) a.filesets f fa own.filesets in
        ap reply_for (target_there b server j g eb gb)
        ∙ subst (λ x. reply_for (checks b (sourced j (Ok x))) ≡ Refused refusal) one (by_control i j f at (control_check f user) (sym (ap reply_for (target_there a server i f ea ga)) ∙ said))

pub moves_are_refused_alike : MovesAreRefusedAlike
unfolding answer_to answer_for move_answer
moves_are_refused_alike a b server host name to refusal same own not_many not_room said =
    subst (λ o. (for_user b o (answer_for b host (MoveFileset server name to))).reply ≡ Refused refusal) (ap (λ roster. user_of roster host) same.roster) (by_user (user_of a.roster host) said)
  where
    by_user : (o : Option User) → (for_user a o (answer_for a host (MoveFileset server name to))).reply ≡ Refused refusal → (for_user b o (answer_for b host (MoveFileset server name to))).reply ≡ Refused refusal
    by_user None k = k
    by_user (Some user) k =
        replied b (move_target b user server name to) (λ (place, fileset). with_moved b place fileset to)
        ∙ refused_alike user name to a b server own refusal not_many not_room same (placed a server name) (placed b server name)
        (sym (replied a (move_target a user server name to) (λ (place, fileset). with_moved a place fileset to)) ∙ k)
