-- What a server refuses on what it keeps the tree refuses alike.
use Rattle.std.proofs.Common.{◌≡◌, ◌≤◌, ℕ, suc, ◌+◌, ◌-◌, ◌==◌, ◌/◌, ◌%◌, nat_lt, Bool, true, false, if◌then◌else◌, List, [], ◌∷◌, length, Option, Some, None, Result, Ok, Err, refl, sym, ap, ◌∙◌, arith, rules}
use Rattle.std.specs.Prelude.{map, slice_get, option_and_then}
use Rattle.std.specs.List.{find}
use Rattle.std.proofs.lemmas.Grind.{common_steps}
use Rattle.base_types.specs.Outcomes.{and_then, either}
use Rattle.base_types.specs.declared.ids.HostId.{HostId}
use Rattle.base_types.specs.declared.ids.ServerId.{ServerId}
use Rattle.base_types.specs.declared.limits.TheConstants.{FILESET_NUMBER_MAX}
use Rattle.base_types.specs.declared.user.User.{User}
use Rattle.tree_calls.specs.Rosters.{user_of}
use Rattle.tree_calls.specs.declared.call.Call.{Call}
use Rattle.tree_calls.specs.declared.call.Call.TheVariants.{NewFileset, Create, MakeDir, Remove, Rename, Truncate, SetAcl, CloneFileset, Read, Write, List as ListNames, Stat, GetAcl, Sync, Lock, Unlock, OpenFile, CloseFile, MoveFileset}
use Rattle.tree_calls.specs.declared.place.Place.{Place}
use Rattle.tree_calls.specs.declared.reply.Refusal.{Refusal}
use Rattle.tree_calls.specs.declared.reply.Refusal.TheVariants.{Exists, NoFileset, NoRoom, TooMany}
use Rattle.tree_calls.specs.declared.reply.Reply.{Reply}
use Rattle.tree_calls.specs.declared.reply.Reply.TheVariants.{Ok as Done, Refused}
use Rattle.tree_objects.proofs.StaysSound.{sound_longer}
use Rattle.tree_objects.specs.Changes.{anode_changed}
use Rattle.tree_objects.specs.Objects.{blocks_of}
use Rattle.tree_objects.specs.Sound.{is_sound}
use Rattle.tree_objects.specs.declared.content.Anode.{Anode}
use Rattle.tree_objects.specs.declared.content.Content.{Content}
use Rattle.tree_objects.specs.declared.content.Content.TheVariants.{Dir, File}
use Rattle.tree_objects.specs.declared.content.Object.{Object}
use Rattle.tree_filesets.specs.declared.fileset.Fileset.{Fileset}
use Rattle.tree_filesets.specs.Answers.{answered}
use Rattle.tree_filesets.specs.Changing.{truncate_answer, write_target}
use Rattle.tree_filesets.specs.Checks.{unless}
use Rattle.tree_filesets.specs.Founding.{cloned}
use Rattle.tree_filesets.specs.Promises.{anode_blocks, clone_promise}
use Rattle.tree_filesets.specs.Rows.{fileset_answer}
use Rattle.tree_filesets.specs.WellFormed.{IsWellFormed as IsWellFormedFileset}
use Rattle.tree_answers.proofs.Totals.{sum_total, total}
use Rattle.tree_answers.specs.Answers.{answer_for, answer_to, fileset_row}
use Rattle.tree_answers.specs.Finding.{Answer, fileset_named, fileset_place, found_or, is_taken, leads_to}
use Rattle.tree_answers.specs.Founding.{blocks_for, clone_answer, clone_source, clone_target, next_id, promised_at, room_for, slot_for, with_fileset}
use Rattle.tree_answers.specs.Uses.{is_used}
use Rattle.tree_answers.specs.WellFormed.{IsWellFormed}
use Rattle.tree_answers.specs.declared.tree.ServerRoom.{ServerRoom}
use Rattle.tree_answers.specs.declared.tree.Tree.{Tree}
use Rattle.need_host.specs.Questions.{is_change}
use Rattle.need_server.proofs.Alike.{names_change_alike}
use Rattle.need_server.proofs.KeptFiles.{kept_write}
use Rattle.need_server.proofs.KeptFounds.{source_found, source_same}
use Rattle.need_server.proofs.KeptRooms.{room_kept, taken_kept}
use Rattle.need_server.proofs.KeptTree.{same_named}
use Rattle.need_server.specs.Kept.{content_settled, kept_fileset, kept_tree}
use Rattle.need_server.specs.Laws.{is_of_names}
use Rattle.tree_laws.proofs.Steps.{formed_found, no_dir, no_file}
use Rattle.need_laws.specs.Decided.{ServersRefuseAlike}
use Rattle.need_laws.specs.Idle.{idle, minds_uses}
use Rattle.need_laws.specs.Laws.{AnswersSame}
use Rattle.need_laws.proofs.Decided.{rise_kept}
use Rattle.need_laws.proofs.Idle.{others_mind_no_uses}
use Rattle.need_laws.proofs.Replies.{replied, reply_for}
use Rattle.need_laws.proofs.Rows.{IsPlaced, placed, row_refused, row_there}
use Rattle.need_laws.proofs.Rows.IsPlaced.{Nowhere, There}
use Rattle.need_laws.proofs.Same.{calls_hang_on_their_server}
use Rattle.need_laws.proofs.Uses.{for_its}

-- what is kept takes no more blocks
more_blocks : (a b : ℕ) → a ≤ b → (a + 1023) / 1024 ≤ (b + 1023) / 1024
more_blocks a b h =
    let many = (a + 1023) / 1024 in let rest = (a + 1023) % 1024 in let more = (b + 1023) / 1024 in let other = (b + 1023) % 1024 in
    omega (arith, h)

content_less : (content : Content) → is_sound content ≡ true → blocks_of (content_settled content) ≤ blocks_of content
content_less (Dir entries lists) sound = omega arith
content_less (File list kept unsaved None) sound = omega arith
content_less (File list kept unsaved (Some len)) sound =
    let above : nat_lt (length kept) len.length ≡ true = sound_longer list kept unsaved (Some len) sound in
    let less : length kept ≤ len.length = grind (arith, common_steps, above) in
    let fewer = more_blocks (length kept) len.length less in
    omega (arith, fewer)

anodes_less : (anodes : List Anode) → ((i : ℕ) (object : Object) → option_and_then (λ a. a.object) (slice_get anodes i) ≡ Some object → is_sound object.content ≡ true) →
    total anode_blocks (map (anode_changed content_settled) anodes) ≤ total anode_blocks anodes
anodes_less [] sound = omega arith
anodes_less (anode ∷ anodes) sound =
    let here = one anode.object (λ object e. sound 0 object e) in
    let rest = anodes_less anodes (λ i object e. sound (suc i) object e) in
    omega (arith, here, rest)
  where
    one : (o : Option Object) → ((object : Object) → o ≡ Some object → is_sound object.content ≡ true) →
        anode_blocks (anode_changed content_settled (record { unique = anode.unique; object = o })) ≤ anode_blocks (record { unique = anode.unique; object = o })
    one None each = omega arith
    one (Some object) each = content_less object.content (each object refl)

promise_less : (fileset : Fileset) → IsWellFormedFileset fileset → clone_promise (kept_fileset fileset) ≤ clone_promise fileset
promise_less fileset formed =
    let less = anodes_less fileset.anodes (λ i object e. formed.sound (suc i) object (at i ∙ e)) in
    let kept = sum_total anode_blocks (map (anode_changed content_settled) fileset.anodes) in
    let its = sum_total anode_blocks fileset.anodes in
    omega (arith, less, kept, its)
  where
    at : (i : ℕ) → (if suc i == 0 then None else option_and_then (λ a. a.object) (slice_get fileset.anodes (suc i - 1))) ≡ option_and_then (λ a. a.object) (slice_get fileset.anodes i)
    at i =
        let off : (suc i == 0) ≡ false = grind (arith, common_steps) in
        let down : suc i - 1 ≡ i = omega arith in
        ap (λ (t : Bool). if t then None else option_and_then (λ a. a.object) (slice_get fileset.anodes (suc i - 1))) off
        ∙ ap (λ (n : ℕ). option_and_then (λ a. a.object) (slice_get fileset.anodes n)) down

-- where there is no room for some blocks, there is none for more
blocks_more : (capacity promised a b : ℕ) → a ≤ b → nat_lt capacity (promised + a) ≡ true → nat_lt capacity (promised + b) ≡ true
blocks_more capacity promised a b le h = grind (arith, common_steps, le, h)

room_less : (tree : Tree) (server : ServerId) (a b : ℕ) (refusal : Refusal) → a ≤ b → room_for tree server a ≡ Err refusal → room_for tree server b ≡ Err refusal
unfolding room_for
room_less tree server a b refusal le h = by_slot (slot_for tree server false) h
  where
    by_blocks : (room : ServerRoom) (t : Bool) → nat_lt room.capacity (promised_at tree server + a) ≡ t → unless t NoRoom (Ok room) ≡ Err refusal → blocks_for tree server room b ≡ Err refusal
    by_blocks room true e k = ap (λ (t : Bool). unless t NoRoom (Ok room)) (blocks_more room.capacity (promised_at tree server) a b le e) ∙ k
    by_blocks room false e k = absurd (search (rules, k))

    by_number : (room : ServerRoom) (t : Bool) → unless t TooMany (blocks_for tree server room a) ≡ Err refusal → unless t TooMany (blocks_for tree server room b) ≡ Err refusal
    by_number room true k = k
    by_number room false k = by_blocks room (nat_lt room.capacity (promised_at tree server + a)) refl k

    by_slot : (slot : Result ServerRoom Refusal) → and_then slot (λ room. unless (nat_lt FILESET_NUMBER_MAX room.next) TooMany (blocks_for tree server room a)) ≡ Err refusal →
        and_then slot (λ room. unless (nat_lt FILESET_NUMBER_MAX room.next) TooMany (blocks_for tree server room b)) ≡ Err refusal
    by_slot (Err r) k = k
    by_slot (Ok room) k = by_number room (nat_lt FILESET_NUMBER_MAX room.next) k

-- CloneFileset
abbrev roomed : Fileset → Result ServerRoom Refusal → Result (Fileset × ServerRoom) Refusal
roomed fileset found = and_then found (λ room. Ok (fileset, room))

abbrev cloning : Tree → ServerId → List ℕ → Result Fileset Refusal → Result (Fileset × ServerRoom) Refusal
cloning tree server new found = and_then found (λ fileset. unless (is_taken tree server new) Exists (roomed fileset (room_for tree server (clone_promise fileset))))

module _ (tree : Tree) (w : IsWellFormed tree) (user : User) (server : ServerId) (source new : List ℕ) (refusal : Refusal) where
  by_room : (fileset : Fileset) → IsWellFormedFileset fileset → (room : Result ServerRoom Refusal) → room_for (kept_tree tree) server (clone_promise (kept_fileset fileset)) ≡ room →
      reply_for (roomed (kept_fileset fileset) room) ≡ Refused refusal → reply_for (roomed fileset (room_for tree server (clone_promise fileset))) ≡ Refused refusal
  by_room fileset formed (Ok room) e k = let wrong : Done ≡ Refused refusal = k in absurd (search (rules, wrong))
  by_room fileset formed (Err r) e k =
      ap (λ (found : Result ServerRoom Refusal). reply_for (roomed fileset found))
      (room_less tree server (clone_promise (kept_fileset fileset)) (clone_promise fileset) r (promise_less fileset formed) (sym (room_kept tree server (clone_promise (kept_fileset fileset)) w) ∙ e))
      ∙ k

  by_name : (fileset : Fileset) → IsWellFormedFileset fileset → (t : Bool) → reply_for (unless t Exists (roomed (kept_fileset fileset) (room_for (kept_tree tree) server (clone_promise (kept_fileset fileset))))) ≡ Refused refusal →
      reply_for (unless t Exists (roomed fileset (room_for tree server (clone_promise fileset)))) ≡ Refused refusal
  by_name fileset formed true k = k
  by_name fileset formed false k = by_room fileset formed (room_for (kept_tree tree) server (clone_promise (kept_fileset fileset))) refl k

  by_source : (found : Result Fileset Refusal) → clone_source tree user server source ≡ found → reply_for (cloning (kept_tree tree) server new (and_then found (λ fileset. Ok (kept_fileset fileset)))) ≡ Refused refusal →
      reply_for (cloning tree server new found) ≡ Refused refusal
  by_source (Err r) e k = k
  by_source (Ok fileset) e k =
      by_name fileset (formed_found (leads_to tree server source) tree.filesets fileset w.filesets (source_found tree user server source fileset e)) (is_taken tree server new)
      (sym (ap (λ (t : Bool). reply_for (unless t Exists (roomed (kept_fileset fileset) (room_for (kept_tree tree) server (clone_promise (kept_fileset fileset)))))) (taken_kept tree server new)) ∙ k)

  clone_refused : (host : HostId) → (answer_for (kept_tree tree) host (CloneFileset server source new) user).reply ≡ Refused refusal → (answer_for tree host (CloneFileset server source new) user).reply ≡ Refused refusal
  unfolding answer_for clone_answer clone_target
  clone_refused host k =
      replied tree (clone_target tree user server source new) (λ found. with_fileset tree server found.1 (cloned found.0 (next_id server found.1) new))
      ∙ by_source (clone_source tree user server source) refl
      (sym (ap (λ (found : Result Fileset Refusal). reply_for (cloning (kept_tree tree) server new found)) (source_same tree user server source))
      ∙ (sym (replied (kept_tree tree) (clone_target (kept_tree tree) user server source new) (λ found. with_fileset (kept_tree tree) server found.1 (cloned found.0 (next_id server found.1) new))) ∙ k))

-- Truncate
module _ (host : HostId) (user : User) (place : Place) (len : ℕ) where
  abbrev cutting : Result Fileset Refusal → Reply
  cutting found = either found (λ fileset. reply_for (write_target fileset user place.path len)) (λ refusal. Refused refusal)

  cut_replied : (fileset : Fileset) (found : Result ℕ Refusal) (effect : ℕ → Fileset) → (answered fileset found effect).reply ≡ reply_for found
  cut_replied fileset (Ok anode) effect = refl
  cut_replied fileset (Err refusal) effect = refl

  cut_reply : (tree : Tree) → (answer_for tree host (Truncate place len) user).reply ≡ cutting (fileset_named tree place.server place.fileset)
  unfolding answer_for fileset_row fileset_answer truncate_answer fileset_named
  cut_reply tree = by_place (placed tree place.server place.fileset)
    where
      by_place : IsPlaced tree place.server place.fileset → (answer_for tree host (Truncate place len) user).reply ≡ cutting (found_or (find (leads_to tree place.server place.fileset) tree.filesets) NoFileset)
      by_place (Nowhere e n) =
          ap (λ (x : Answer). x.reply) (row_refused (is_used tree.locks tree.opens) host user (Truncate place len) tree (fileset_place tree place.server place.fileset) NoFileset e)
          ∙ sym (ap (λ (o : Option Fileset). cutting (found_or o NoFileset)) n)
      by_place (There i f e p g h) =
          ap (λ (x : Answer). x.reply) (row_there (is_used tree.locks tree.opens) host user (Truncate place len) tree (fileset_place tree place.server place.fileset) i f e g)
          ∙ (cut_replied f (write_target f user place.path len) _ ∙ sym (ap (λ (o : Option Fileset). cutting (found_or o NoFileset)) h))

  cut_alike : (tree : Tree) → (answer_for (kept_tree tree) host (Truncate place len) user).reply ≡ (answer_for tree host (Truncate place len) user).reply
  cut_alike tree = cut_reply (kept_tree tree) ∙ (ap cutting (same_named tree place.server place.fileset) ∙ (each (fileset_named tree place.server place.fileset) ∙ sym (cut_reply tree)))
    where
      each : (found : Result Fileset Refusal) → cutting (and_then found (λ fileset. Ok (kept_fileset fileset))) ≡ cutting found
      each (Ok fileset) = ap reply_for (kept_write fileset user place.path len)
      each (Err refusal) = refl

-- any Change
module _ (tree : Tree) (w : IsWellFormed tree) (host : HostId) (user : User) (acts : user_of tree.roster host ≡ Some user) (refusal : Refusal) where
  named : (call : Call) → is_of_names call ≡ true → (answer_to (kept_tree tree) host call).reply ≡ Refused refusal → (answer_to tree host call).reply ≡ Refused refusal
  named call is k = sym (ap (λ (x : Answer). x.reply) (names_change_alike tree host call w is)) ∙ k

  kept_refused : (call : Call) → is_change call ≡ true → minds_uses call ≡ false → (answer_to (kept_tree tree) host call).reply ≡ Refused refusal → (answer_to tree host call).reply ≡ Refused refusal
  kept_refused (NewFileset server name objects owner) is free k = named (NewFileset server name objects owner) refl k
  kept_refused (Create place) is free k = named (Create place) refl k
  kept_refused (MakeDir place) is free k = named (MakeDir place) refl k
  kept_refused (Rename from to) is free k = named (Rename from to) refl k
  kept_refused (SetAcl place which list) is free k = named (SetAcl place which list) refl k
  kept_refused (Truncate place len) is free k =
      ap (λ (x : Answer). x.reply) (for_its tree host user acts (Truncate place len))
      ∙ (sym (cut_alike host user place len tree)
      ∙ (sym (ap (λ (x : Answer). x.reply) (for_its (kept_tree tree) host user acts (Truncate place len))) ∙ k))
  kept_refused (CloneFileset server source new) is free k =
      ap (λ (x : Answer). x.reply) (for_its tree host user acts (CloneFileset server source new))
      ∙ clone_refused tree w user server source new refusal host
      (sym (ap (λ (x : Answer). x.reply) (for_its (kept_tree tree) host user acts (CloneFileset server source new))) ∙ k)
  kept_refused (MoveFileset server name to) is free k = no_dir free
  kept_refused (Remove place) is free k = no_dir free
  kept_refused (Lock label place writing from len) is free k = no_dir free
  kept_refused (OpenFile label place kind) is free k = no_dir free
  kept_refused (Unlock label) is free k = no_dir free
  kept_refused (CloseFile label) is free k = no_dir free
  kept_refused (Read place from len) is free k = no_file is
  kept_refused (Write place from bytes) is free k = no_file is
  kept_refused (ListNames place) is free k = no_file is
  kept_refused (Stat place) is free k = no_file is
  kept_refused (GetAcl place which) is free k = no_file is
  kept_refused (Sync place) is free k = no_file is

pub servers_refuse_alike : ServersRefuseAlike
servers_refuse_alike server kept tree host user call refusal w rises same none_locked none_open acts change at minds said =
    let its : AnswersSame server (answer_to kept host call) (answer_to (idle (kept_tree tree)) host call) = calls_hang_on_their_server kept (idle (kept_tree tree)) server host call rises (rise_kept tree.filesets ∙ w.ordered)
    (record { roster = same.roster; room = same.room; filesets = same.filesets; records = same.records }) (record { locks = none_locked; opens = none_open }) at in
    kept_refused tree w host user acts refusal call change minds
    (sym (ap (λ (x : Answer). x.reply) (others_mind_no_uses (kept_tree tree) host call minds)) ∙ (sym its.reply ∙ said))
