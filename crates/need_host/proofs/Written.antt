-- What a Write leaves of a view and of the tree.
use Rattle.std.proofs.Common.{◌≡◌, ℕ, ◌+◌, ◌-◌, ◌==◌, nat_lt, nat_le, Bool, true, false, ◌&&◌, List, [], ◌∷◌, length, Option, Some, None, is_some, Result, Ok, Err, refl, sym, ap, ◌∙◌}
use Rattle.std.specs.Prelude.{slice_get, if◌then◌else◌}
use Rattle.std.specs.List.{find}
use Rattle.base_types.specs.Ids.{same_fid}
use Rattle.base_types.specs.Image.{byte_at}
use Rattle.base_types.specs.Outcomes.{either}
use Rattle.base_types.specs.declared.ids.HostId.{HostId}
use Rattle.base_types.specs.declared.ids.FilesetId.{FilesetId}
use Rattle.base_types.specs.declared.ids.Fid.{Fid}
use Rattle.base_types.specs.declared.ids.ServerId.{ServerId}
use Rattle.base_types.specs.declared.user.User.{User}
use Rattle.tree_calls.specs.declared.call.Call.{Call}
use Rattle.tree_calls.specs.declared.call.Call.TheVariants.{Write}
use Rattle.tree_calls.specs.declared.place.Place.{Place}
use Rattle.tree_calls.specs.declared.reply.Refusal.{Refusal}
use Rattle.tree_calls.specs.declared.reply.Refusal.TheVariants.{NoFileset}
use Rattle.tree_calls.specs.declared.reply.Reply.TheVariants.{Refused}
use Rattle.tree_calls.specs.Rosters.{user_of}
use Rattle.tree_filesets.specs.declared.fileset.Fileset.{Fileset}
use Rattle.tree_filesets.specs.Changing.{write_target}
use Rattle.tree_filesets.specs.Walk.{unique_at}
use Rattle.tree_answers.specs.declared.tree.Tree.{Tree}
use Rattle.tree_answers.specs.Answers.{answer_to}
use Rattle.tree_answers.specs.Finding.{found_or, has_id, leads_to, fileset_place}
use Rattle.tree_answers.specs.WellFormed.{IsWellFormed}
use Rattle.tree_answers.proofs.Places.{place_found}
use Rattle.token_types.specs.declared.token.Token.{Token}
use Rattle.tree_laws.specs.Parts.Part.{ByteAt, Size, Traits, Entries}
use Rattle.need_host.specs.Looks.{outcome, IsCovered, View, tree_view}
use Rattle.need_host.specs.Walks.{root_of}
use Rattle.need_host.specs.Calls.{Verdict, Own, from_root, reply_now, write_look, call_look, written_value, view_after}
use Rattle.need_host.specs.Calls.Verdict.{Replies, Writes, Asks}
use Rattle.tree_laws.specs.Fates.{Cells, after_fate, write_fate, names_use, if_reached, fate_at, fate_for}
use Rattle.tree_laws.specs.Fates.Fate.{Stays, IsWritten}
use Rattle.need_host.specs.Laws.{AgreeUnder, Stands}
use Rattle.need_host.proofs.Found.{home_known, tree_shows, position_found}
use Rattle.need_host.proofs.Looking.{outcome_alike}
use Rattle.need_host.proofs.Rows.{written_verdict, write_seen}
use Rattle.tree_laws.proofs.TreeFates.{fates_call}
use Rattle.tree_laws.proofs.Steps.{no_file}
use Rattle.tree_laws.specs.Parts.{Part, Cell, present, cell_at}
use Rattle.tree_laws.specs.Losses.{use_of}

-- what is present after a write
written_present : (host : HostId) (from : ℕ) (byte : ℕ) (bytes : List ℕ) (cells : Cells) (part : Part) →
    present (after_fate (IsWritten host from (byte ∷ bytes)) cells part) ≡ written_value from (byte ∷ bytes) part (present (cells part))
written_present host from byte bytes cells (ByteAt at) = by_test (nat_le from at && nat_lt at (from + length (byte ∷ bytes)))
  where
    by_test : (b : Bool) → present (if b then (let new : Cell ℕ = record (cells (ByteAt at)) { unsaved = Some (record { writer = host; value = byte_at (byte ∷ bytes) (at - from) }) } in new) else cells (ByteAt at))
        ≡ (if b then byte_at (byte ∷ bytes) (at - from) else present (cells (ByteAt at)))
    by_test true = refl
    by_test false = refl
written_present host from byte bytes cells Size = by_test (nat_lt (present (cells Size)) (from + length (byte ∷ bytes)))
  where
    by_test : (b : Bool) → present (if b then (let new : Cell ℕ = record (cells Size) { unsaved = Some (record { writer = host; value = from + length (byte ∷ bytes) }) } in new) else cells Size)
        ≡ (if b then from + length (byte ∷ bytes) else present (cells Size))
    by_test true = refl
    by_test false = refl
written_present host from byte bytes cells Traits = refl
written_present host from byte bytes cells Entries = refl

-- a verdict leaves alike what is seen alike
after_alike : (verdict : Verdict) (a b : View) (fid : Fid) (part : Part) → a fid part ≡ b fid part → view_after verdict a fid part ≡ view_after verdict b fid part
after_alike (Replies reply) a b fid part same = same
after_alike (Writes written from bytes) a b fid part same = by_test (same_fid written fid)
  where
    by_test : (t : Bool) → (if t then written_value from bytes part (a fid part) else a fid part) ≡ (if t then written_value from bytes part (b fid part) else b fid part)
    by_test true = ap (λ seen. written_value from bytes part seen) same
    by_test false = same
after_alike (Rattle.need_host.specs.Calls.Verdict.Locks file writing span) a b fid part same = same
after_alike (Rattle.need_host.specs.Calls.Verdict.Opens file kind) a b fid part same = same
after_alike Rattle.need_host.specs.Calls.Verdict.Frees a b fid part same = same
after_alike Rattle.need_host.specs.Calls.Verdict.Gives a b fid part same = same
after_alike (Asks question) a b fid part same = same

pub stays_either : (b : Bool) (cells : Cells) (part : Part) → cells part ≡ after_fate (if b then Stays else Stays) cells part
stays_either true cells part = refl
stays_either false cells part = refl

-- the verdict on a Write and the fates of the tree
write_agrees : (fileset : Fileset) (host : HostId) (from : ℕ) (bytes : List ℕ) (view : View) (fid : Fid) (cells : Cells) (part : Part) (checks : Result ℕ Refusal) → view fid part ≡ present (cells part) →
    view_after (either checks (λ anode. written_verdict (use_of fileset anode) from bytes) (λ refusal. Replies (Refused refusal))) view fid part
    ≡ present (after_fate (if has_id fid.fileset fileset then if_reached fileset fid (write_fate host from bytes) checks else Stays) cells part)
write_agrees fileset host from bytes view fid cells part (Err refusal) same = same ∙ ap present (stays_either (has_id fid.fileset fileset) cells part)
write_agrees fileset host from [] view fid cells part (Ok anode) same = same ∙ ap present (by_tests (has_id fid.fileset fileset) (names_use fileset anode fid))
  where
    by_tests : (a b : Bool) → cells part ≡ after_fate (if a then (if b then Stays else Stays) else Stays) cells part
    by_tests true b = stays_either b cells part
    by_tests false b = refl
write_agrees fileset host from (byte ∷ bytes) view fid cells part (Ok anode) same = by_tests (has_id fid.fileset fileset) (anode == fid.anode) (unique_at fileset.anodes anode == fid.unique)
  where
    by_tests : (a b c : Bool) → (if a && b && c then written_value from (byte ∷ bytes) part (view fid part) else view fid part)
        ≡ present (after_fate (if a then (if b && c then IsWritten host from (byte ∷ bytes) else Stays) else Stays) cells part)
    by_tests true true true = ap (λ seen. written_value from (byte ∷ bytes) part seen) same ∙ sym (written_present host from byte bytes cells part)
    by_tests true true false = same
    by_tests true false c = same
    by_tests false b c = same

-- the fate of an object by a call in a fileset that is known
pub fate_home : (tree : Tree) (host : HostId) (user : User) (server : ServerId) (name : List ℕ) (call : Call) (fileset : Fileset) (fid : Fid) → find (leads_to tree server name) tree.filesets ≡ Some fileset →
    either (fileset_place tree server name) (λ at. fate_at tree host user call fid (slice_get tree.filesets at)) (λ refusal. Stays) ≡ fate_at tree host user call fid (Some fileset)
unfolding fileset_place
fate_home tree host user server name call fileset fid found =
    ap (λ o. either (found_or o NoFileset) (λ at. fate_at tree host user call fid (slice_get tree.filesets at)) (λ refusal. Stays)) (position_found (leads_to tree server name) tree.filesets fileset found)
    ∙ ap (λ o. fate_at tree host user call fid o) (sym (place_found (leads_to tree server name) tree.filesets) ∙ found)

-- the tree after a call of the host's user
pub after_call : (tree : Tree) (host : HostId) (user : User) (call : Call) (fid : Fid) (part : Part) → IsWellFormed tree → user_of tree.roster host ≡ Some user →
    cell_at (answer_to tree host call).tree fid part ≡ after_fate (fate_for tree host call fid (Some user)) (cell_at tree fid) part
after_call tree host user call fid part formed is_user =
    fates_call tree host call fid part formed ∙ ap (λ found. after_fate (fate_for tree host call fid found) (cell_at tree fid) part) is_user

module _ (tree : Tree) (host : HostId) (user : User) (own : Own) (held : List Token) (view : View) (place : Place) (from : ℕ) (bytes : List ℕ) (stands : Stands tree host user own held view) where
  by_home : (o : Option FilesetId) → own.seen place.server place.fileset ≡ o → let look = from_root place.server o (λ root. write_look user root place.path from bytes) in
      IsCovered held view look → is_some (reply_now (outcome view look)) ≡ true → AgreeUnder held (view_after (outcome view look) view) (tree_view (answer_to tree host (Write place from bytes)).tree)
  by_home None e covered answers fid part under = no_file answers
  by_home (Some id) e covered answers fid part under =
      let (fileset, named, same) = stands.knows.seen place.server place.fileset id e in
      let home = home_known tree place.server place.fileset id fileset stands.formed named same in
      let look = write_look user (root_of id) place.path from bytes in
      let checks = write_target fileset user place.path (from + length bytes) in
      let verdict : outcome view look ≡ either checks (λ anode. written_verdict (use_of fileset anode) from bytes) (λ refusal. Replies (Refused refusal)) =
      outcome_alike held view (tree_view tree) stands.agrees look covered
      ∙ ap (λ root. outcome (tree_view tree) (write_look user root place.path from bytes)) (sym home.root)
      ∙ write_seen (tree_view tree) fileset home.formed (tree_shows tree fileset home.by_id) user place.path from bytes in
      ap (λ v. view_after v view fid part) verdict
      ∙ write_agrees fileset host from bytes view fid (cell_at tree fid) part checks (stands.agrees fid part under)
      ∙ ap (λ f. present (after_fate f (cell_at tree fid) part)) (sym (fate_home tree host user place.server place.fileset (Write place from bytes) fileset fid home.found))
      ∙ ap present (sym (after_call tree host user (Write place from bytes) fid part stands.formed stands.knows.acts_for))

  pub write_leaves : let look = call_look own host user (Write place from bytes) in
      IsCovered held view look → is_some (reply_now (outcome view look)) ≡ true → AgreeUnder held (view_after (outcome view look) view) (tree_view (answer_to tree host (Write place from bytes)).tree)
  unfolding call_look
  write_leaves covered answers = by_home (own.seen place.server place.fileset) refl covered answers
