-- Where the looks of calls end, by a view that shows the fileset that decides them.
use Rattle.std.proofs.Common.{◌≡◌, ℕ, zero, suc, ◌+◌, ◌-◌, nat_lt, min, Bool, true, false, not, List, [], ◌∷◌, length, take, drop, Option, Some, None, Result, Ok, Err, refl, sym, ap, ◌∙◌, arith, rules}
use Rattle.std.specs.Prelude.{if◌then◌else◌}
use Rattle.std.specs.Option.{option_map, option_map_or}
use Rattle.base_types.specs.Image.{byte_at}
use Rattle.base_types.specs.Outcomes.{and_then, either}
use Rattle.base_types.specs.declared.access.AccessEntry.{AccessEntry}
use Rattle.base_types.specs.declared.ids.HostId.{HostId}
use Rattle.base_types.specs.declared.ids.Fid.{Fid}
use Rattle.base_types.specs.declared.ids.OpenKind.{OpenKind}
use Rattle.base_types.specs.declared.limits.TheConstants.{FILE_BYTES_MAX}
use Rattle.base_types.specs.declared.user.User.{User}
use Rattle.tree_calls.specs.declared.part.DirEntry.{DirEntry}
use Rattle.tree_calls.specs.declared.place.Which.{Which}
use Rattle.tree_calls.specs.declared.place.Which.TheVariants.{Own as OwnList, Files, Dirs}
use Rattle.tree_calls.specs.declared.reply.Facts.{Facts as FactsOf}
use Rattle.tree_calls.specs.declared.reply.Refusal.{Refusal}
use Rattle.tree_calls.specs.declared.reply.Refusal.TheVariants.{NotDir, TooBig, ReadOnly, NoEntry, AlreadyLocked}
use Rattle.tree_calls.specs.declared.reply.Reply.{Reply}
use Rattle.tree_calls.specs.declared.reply.Reply.TheVariants.{Ok as Done, Bytes, Names, Facts, Access, Refused}
use Rattle.tree_objects.specs.declared.content.Content.{Content}
use Rattle.tree_objects.specs.declared.content.Content.TheVariants.{Dir, File}
use Rattle.tree_objects.specs.declared.content.Object.{Object}
use Rattle.tree_objects.specs.declared.content.Unsaved.{Unsaved}
use Rattle.tree_objects.specs.declared.content.UnsavedLength.{UnsavedLength}
use Rattle.tree_objects.specs.Entries.{names_of}
use Rattle.tree_objects.specs.Files.{present_length, unsaved_at, byte_over, bytes_over, content_bytes}
use Rattle.tree_objects.specs.Objects.{is_dir, told_length, entries_of, facts_of, access_of}
use Rattle.tree_objects.specs.Spans.{span_between}
use Rattle.tree_objects.proofs.Overlays.{over_part}
use Rattle.tree_filesets.specs.declared.fileset.Fileset.{Fileset}
use Rattle.tree_filesets.specs.Answers.{told}
use Rattle.tree_filesets.specs.Changing.{write_target}
use Rattle.tree_filesets.specs.Checks.{unless, permission}
use Rattle.tree_filesets.specs.Rights.{read_right, write_right}
use Rattle.tree_filesets.specs.Telling.{read_reply, list_target, list_reply, stat_reply, access_reply}
use Rattle.tree_filesets.specs.Uses.{lock_target, open_target, use_target, is_changing, right_to_open}
use Rattle.tree_filesets.specs.Walk.{object_at, target, file_target, permitted_file}
use Rattle.tree_filesets.specs.WellFormed.{IsWellFormed}
use Rattle.tree_filesets.proofs.Targets.{target_ok, permitted_file_ok, permitted_file_file}
use Rattle.tree_answers.specs.Finding.{found_or}
use Rattle.tree_answers.specs.Locks.{is_own_locked}
use Rattle.tree_laws.specs.Parts.Part.{ByteAt, Size, Traits, Entries}
use Rattle.token_types.specs.declared.token.Need.{Need}
use Rattle.token_types.specs.declared.token.Kind.TheVariants.{Bytes as BytesKind, Status as StatusKind, Lock as LockKind}
use Rattle.need_host.specs.Looks.{Look, outcome, checked, refuse_if, rounded, View}
use Rattle.need_host.specs.Looks.Look.{Ends, Looks, Takes}
use Rattle.need_host.specs.Walks.{nature_look, permitted, target_look, file_look, permitted_look, writable_look, use_look, rights_on}
use Rattle.need_host.specs.Calls.{Verdict, Own, judged, bytes_look, read_look, write_target_look, read_from, fits_file, write_takes, written_look, write_look, entries_for, list_look, facts_for, stat_look, list_in, list_for, access_look, sync_verdict, sync_look, lock_for, lock_look, open_for, open_look}
use Rattle.need_host.specs.Calls.Verdict.{Replies, Writes, Locks, Opens, Gives}
use Rattle.need_host.proofs.Looking.{outcome_on, outcome_checked, outcome_refuse, either_then}
use Rattle.tree_laws.proofs.Contents.{size_seen}
use Rattle.tree_laws.proofs.Steps.{no_dir, then_same, then_then, unless_then}
use Rattle.need_host.proofs.Walking.{ShowsFileset, same_rights, same_permission, seen_at, on_target, on_permitted, file_seen, use_seen}
use Rattle.tree_laws.specs.Losses.{use_of}
use Rattle.tree_laws.specs.Parts.{Part, present, written_byte, byte_cell, size_cell, nature_of, cell_of, cell_found}
use Rattle.tree_filesets.specs.Laws.{entries_in}

-- a verdict, or a refusal
pub outcome_judged : {A : Type 0} (view : View) (look : Look (Result A Refusal)) (judge : A → Verdict) →
    outcome view (judged look judge) ≡ either (outcome view look) judge (λ refusal. Replies (Refused refusal))
outcome_judged view look judge = outcome_on view look (λ seen. Ends (either seen judge (λ refusal. Replies (Refused refusal))))

pub either_same : {A E C : Type 0} (found : Result A E) (f g : A → C) (refused : E → C) → ((value : A) → found ≡ Ok value → f value ≡ g value) → either found f refused ≡ either found g refused
either_same (Ok value) f g refused same = same value refl
either_same (Err error) f g refused same = refl

told_replies : {A : Type 0} (found : Result A Refusal) (tell : A → Reply) → either found (λ value. Replies (tell value)) (λ refusal. Replies (Refused refusal)) ≡ Replies (told found tell)
told_replies (Ok value) tell = refl
told_replies (Err refusal) tell = refl

-- what is seen of a content
byte_option : (o : Option Unsaved) (value : ℕ) →
    option_map_or (λ written. written.value) (option_map written_byte o) value ≡ option_map_or (λ byte. byte.value) o value
byte_option None value = refl
byte_option (Some byte) value = refl

pub byte_seen : (list : List AccessEntry) (kept : List ℕ) (unsaved : List Unsaved) (len : Option UnsavedLength) (at : ℕ) → present (byte_cell (File list kept unsaved len) at) ≡ byte_over kept unsaved at
byte_seen list kept unsaved len at = byte_option (unsaved_at unsaved at) (byte_at kept at)

-- the bytes from a position on
bytes_seen : (view : View) (fid : Fid) (kept : List ℕ) (unsaved : List Unsaved) → ((at : ℕ) → view fid (ByteAt at) ≡ byte_over kept unsaved at) → (at n : ℕ) →
    outcome view (bytes_look fid at n) ≡ bytes_over kept unsaved at n
bytes_seen view fid kept unsaved shows at zero = refl
bytes_seen view fid kept unsaved shows at (suc n) =
    outcome_on view (bytes_look fid (suc at) n) (λ bytes. Ends (view fid (ByteAt at) ∷ bytes))
    ∙ ap (λ bytes. view fid (ByteAt at) ∷ bytes) (bytes_seen view fid kept unsaved shows (suc at) n)
    ∙ ap (λ byte. byte ∷ bytes_over kept unsaved (suc at) n) (shows at)

-- how many bytes lie between a position and the end of what is asked for
part_length : (end from len : ℕ) → min len (end - from) ≡ min end (from + len) - from
part_length end from len = omega arith

-- the bytes that a Read tells
pub part_seen : (view : View) (fid : Fid) (content : Content) (from len : ℕ) → is_dir content ≡ false → view fid Size ≡ present (size_cell content) → ((at : ℕ) → view fid (ByteAt at) ≡ present (byte_cell content at)) →
    outcome view (bytes_look fid from (min len (view fid Size - from))) ≡ take len (drop from (content_bytes content))
part_seen view fid (Dir entries lists) from len file size bytes = no_dir file
part_seen view fid (File list kept unsaved length) from len file size bytes =
    ap (λ n. outcome view (bytes_look fid from (min len (n - from)))) (size ∙ size_seen (File list kept unsaved length))
    ∙ bytes_seen view fid kept unsaved (λ at. bytes at ∙ byte_seen list kept unsaved length at) from (min len (present_length kept length - from))
    ∙ ap (λ n. bytes_over kept unsaved from n) (part_length (present_length kept length) from len)
    ∙ over_part kept unsaved (present_length kept length) from len (min (present_length kept length) (from + len)) refl

-- a list of rights
list_seen : (which : Which) (read_only : Bool) (owner group : List ℕ) (content : Content) → let object : Object = record { owner = owner; group = group; content = content } in
    list_in which (nature_of read_only object) ≡ access_of which content
list_seen OwnList read_only owner group (Dir entries lists) = refl
list_seen Files read_only owner group (Dir entries lists) = refl
list_seen Dirs read_only owner group (Dir entries lists) = refl
list_seen OwnList read_only owner group (File list kept unsaved len) = refl
list_seen Files read_only owner group (File list kept unsaved len) = refl
list_seen Dirs read_only owner group (File list kept unsaved len) = refl

-- the entries to list
list_content : (content : Content) (may : Result (Unit {0}) Refusal) (seen : List DirEntry) → seen ≡ entries_in content →
    unless (not (is_dir content)) NotDir (and_then may (λ _. Ok seen)) ≡ and_then (entries_of content) (λ entries. and_then may (λ _. Ok entries))
list_content (Dir entries lists) may seen same = ap (λ es. and_then may (λ _. Ok es)) same
list_content (File list kept unsaved len) may seen same = refl

-- what a Write is
abbrev pub written_verdict : Fid → ℕ → List ℕ → Verdict
written_verdict fid from [] = Replies Done
written_verdict fid from (byte ∷ bytes) = Writes fid from (byte ∷ bytes)

takes_test : {R : Type 0} (view : View) (b : Bool) (first second third : Need) (result : R) → outcome view (if b then Takes first (Takes second (Ends result)) else Takes third (Ends result)) ≡ result
takes_test view true first second third result = refl
takes_test view false first second third result = refl

takes_alike : {R : Type 0} (view : View) (fid : Fid) (from end size : ℕ) (result : R) → outcome view (write_takes fid from end size (Ends result)) ≡ result
takes_alike view fid from end size result =
    takes_test view (nat_lt size end) (record { fid = fid; kind = StatusKind true }) (record { fid = fid; kind = BytesKind true (rounded (min from size) end) }) (record { fid = fid; kind = BytesKind true (rounded from end) }) result

pub written_seen : (view : View) (fid : Fid) (from : ℕ) (bytes : List ℕ) → outcome view (written_look from bytes fid) ≡ Ok (written_verdict fid from bytes)
written_seen view fid from [] = refl
written_seen view fid from (byte ∷ bytes) = takes_alike view fid from (from + length (byte ∷ bytes)) (view fid Size) (Ok (Writes fid from (byte ∷ bytes)))

-- the checks of a Lock before those for other hosts' locks
abbrev pub lock_checks : Fileset → Own → HostId → User → List (List ℕ) → Bool → ℕ → ℕ → Result Fid Refusal
lock_checks fileset own host user path writing from len =
    and_then (lock_target fileset user path writing) (λ fid.
    unless (nat_lt FILE_BYTES_MAX (from + len)) TooBig (
    unless (is_own_locked own.locks host fid (span_between from (from + len))) AlreadyLocked (Ok fid)))

module _ (view : View) (fileset : Fileset) (formed : IsWellFormed fileset) (shows : ShowsFileset view fileset) where
  -- what stands at an anode
  shown_there : (anode : ℕ) (object : Object) (part : Part) → object_at fileset.anodes anode ≡ Some object → view (use_of fileset anode) part ≡ present (cell_of fileset.read_only object part)
  shown_there anode object part there = shows anode part ∙ ap (λ o. present (cell_found fileset.read_only o part)) there

  pub read_seen : (user : User) (path : List (List ℕ)) (from len : ℕ) → outcome view (read_look user (use_of fileset 1) path from len) ≡ Replies (read_reply fileset user path from len)
  unfolding read_look read_reply
  read_seen user path from len =
      outcome_judged view (checked (permitted_look user (use_of fileset 1) path read_right) (read_from from len)) (λ bytes. Replies (Bytes bytes))
      ∙ ap (λ found. either found (λ bytes. Replies (Bytes bytes)) (λ refusal. Replies (Refused refusal))) (on_permitted view fileset formed shows user path read_right (read_from from len))
      ∙ either_then (permitted_file fileset user path read_right) (λ found. outcome view (read_from from len (seen_at fileset found))) (λ bytes. Replies (Bytes bytes)) (λ refusal. Replies (Refused refusal))
      ∙ either_same (permitted_file fileset user path read_right) (λ found. either (outcome view (read_from from len (seen_at fileset found))) (λ bytes. Replies (Bytes bytes)) (λ refusal. Replies (Refused refusal))) (λ found. Replies (Bytes (take len (drop from (content_bytes found.1.content))))) (λ refusal. Replies (Refused refusal))
      (λ found h. let there = (permitted_file_ok fileset user path read_right found h).there in let fid = use_of fileset found.0 in
      ap (λ seen. either seen (λ bytes. Replies (Bytes bytes)) (λ refusal. Replies (Refused refusal))) (outcome_on view (bytes_look fid from (min len (view fid Size - from))) (λ bytes. Ends (Ok bytes)))
      ∙ ap (λ bytes. Replies (Bytes bytes)) (part_seen view fid found.1.content from len (permitted_file_file fileset user path read_right found h) (shown_there found.0 found.1 Size there) (λ at. shown_there found.0 found.1 (ByteAt at) there)))
      ∙ told_replies (permitted_file fileset user path read_right) (λ found. Bytes (take len (drop from (content_bytes found.1.content))))

  pub list_row_seen : (user : User) (path : List (List ℕ)) → outcome view (list_look user (use_of fileset 1) path) ≡ Replies (list_reply fileset user path)
  unfolding list_look list_reply list_target
  list_row_seen user path =
      outcome_judged view (checked (target_look user (use_of fileset 1) path) (entries_for user)) (λ entries. Replies (Names (names_of entries)))
      ∙ ap (λ found. either found (λ entries. Replies (Names (names_of entries))) (λ refusal. Replies (Refused refusal)))
      (on_target view fileset formed shows user path (entries_for user)
      ∙ then_same (target fileset user path) (λ found. outcome view (entries_for user (seen_at fileset found))) (λ found. and_then (entries_of found.1.content) (λ entries. and_then (permission found.1 user read_right) (λ _. Ok entries)))
      (λ found h. let there = (target_ok fileset user path found h).there in let fid = use_of fileset found.0 in
      outcome_refuse view (not (is_dir found.1.content)) NotDir (permitted (nature_of fileset.read_only found.1) user read_right (Looks fid Entries (λ entries. Ends (Ok entries))))
      ∙ ap (λ next. unless (not (is_dir found.1.content)) NotDir next) (same_permission view fileset.read_only found.1 user read_right (Looks fid Entries (λ entries. Ends (Ok entries))))
      ∙ list_content found.1.content (permission found.1 user read_right) (view fid Entries) (shown_there found.0 found.1 Entries there)))
      ∙ told_replies (and_then (target fileset user path) (λ found. and_then (entries_of found.1.content) (λ entries. and_then (permission found.1 user read_right) (λ _. Ok entries)))) (λ entries. Names (names_of entries))

  facts_seen : (user : User) (object : Object) (size : ℕ) → size ≡ told_length object.content → let nature = nature_of fileset.read_only object in
      let facts : FactsOf = record { dir = nature.dir; length = min size 4294967295; owner = nature.owner; rights = rights_on nature user } in facts ≡ facts_of object user
  facts_seen user object size same =
      let nature = nature_of fileset.read_only object in
      ap (λ n. let facts : FactsOf = record { dir = nature.dir; length = min n 4294967295; owner = nature.owner; rights = rights_on nature user } in facts) same
      ∙ ap (λ rights. let facts : FactsOf = record { dir = nature.dir; length = min (told_length object.content) 4294967295; owner = nature.owner; rights = rights } in facts) (same_rights fileset.read_only object user)

  pub stat_seen : (user : User) (path : List (List ℕ)) → outcome view (stat_look user (use_of fileset 1) path) ≡ Replies (stat_reply fileset user path)
  unfolding stat_look stat_reply
  stat_seen user path =
      outcome_judged view (checked (target_look user (use_of fileset 1) path) (facts_for user)) (λ facts. Replies (Facts facts))
      ∙ ap (λ found. either found (λ facts. Replies (Facts facts)) (λ refusal. Replies (Refused refusal))) (on_target view fileset formed shows user path (facts_for user))
      ∙ either_then (target fileset user path) (λ found. outcome view (facts_for user (seen_at fileset found))) (λ facts. Replies (Facts facts)) (λ refusal. Replies (Refused refusal))
      ∙ either_same (target fileset user path) (λ found. either (outcome view (facts_for user (seen_at fileset found))) (λ facts. Replies (Facts facts)) (λ refusal. Replies (Refused refusal))) (λ found. Replies (Facts (facts_of found.1 user))) (λ refusal. Replies (Refused refusal))
      (λ found h. let there = (target_ok fileset user path found h).there in
      ap (λ facts. Replies (Facts facts)) (facts_seen user found.1 (view (use_of fileset found.0) Size) (shown_there found.0 found.1 Size there ∙ size_seen found.1.content)))
      ∙ told_replies (target fileset user path) (λ found. Facts (facts_of found.1 user))

  pub access_seen : (user : User) (path : List (List ℕ)) (which : Which) → outcome view (access_look user (use_of fileset 1) path which) ≡ Replies (access_reply fileset user path which)
  unfolding access_look access_reply
  access_seen user path which =
      outcome_judged view (checked (target_look user (use_of fileset 1) path) (list_for which)) (λ list. Replies (Access list))
      ∙ ap (λ found. either found (λ list. Replies (Access list)) (λ refusal. Replies (Refused refusal)))
      (on_target view fileset formed shows user path (list_for which)
      ∙ then_same (target fileset user path) (λ found. outcome view (list_for which (seen_at fileset found))) (λ found. access_of which found.1.content) (λ found h. list_seen which fileset.read_only found.1.owner found.1.group found.1.content))
      ∙ told_replies (and_then (target fileset user path) (λ found. access_of which found.1.content)) (λ list. Access list)

  -- a Sync ends where the file is
  pub sync_seen : (own : Own) (user : User) (path : List (List ℕ)) → outcome view (sync_look own user (use_of fileset 1) path)
      ≡ either (file_target fileset user path) (λ found. if own.is_clean (use_of fileset found.0) then Replies Done else Gives) (λ refusal. Replies (Refused refusal))
  unfolding sync_look
  sync_seen own user path =
      outcome_judged view (file_look user (use_of fileset 1) path) (sync_verdict own)
      ∙ ap (λ found. either found (sync_verdict own) (λ refusal. Replies (Refused refusal))) (file_seen view fileset formed shows user path)
      ∙ either_then (file_target fileset user path) (λ found. Ok (seen_at fileset found)) (sync_verdict own) (λ refusal. Replies (Refused refusal))

  -- the root is there
  root_there : (o : Option Object) → option_map_or (λ object. is_dir object.content) o false ≡ true → (object : Object) × (o ≡ Some object)
  root_there None h = absurd (search (rules, h))
  root_there (Some object) h = (object, refl)

  pub on_writable : {A : Type 0} (next : Look (Result A Refusal)) → outcome view (writable_look (use_of fileset 1) next) ≡ unless fileset.read_only ReadOnly (outcome view next)
  on_writable next =
      let (root, there) = root_there (object_at fileset.anodes 1) formed.root in
      outcome_checked view (nature_look (use_of fileset 1)) _
      ∙ ap (λ seen. and_then (found_or seen NoEntry) (λ nature. outcome view (refuse_if nature.read_only ReadOnly next))) (shown_there 1 root Traits there)
      ∙ outcome_refuse view fileset.read_only ReadOnly next

  pub write_target_seen : (user : User) (path : List (List ℕ)) (end : ℕ) → outcome view (write_target_look user (use_of fileset 1) path end) ≡ and_then (write_target fileset user path end) (λ anode. Ok (use_of fileset anode))
  unfolding write_target
  write_target_seen user path end =
      on_writable (checked (permitted_look user (use_of fileset 1) path write_right) (fits_file end))
      ∙ ap (λ next. unless fileset.read_only ReadOnly next)
      (on_permitted view fileset formed shows user path write_right (fits_file end)
      ∙ then_same (permitted_file fileset user path write_right) (λ found. outcome view (fits_file end (seen_at fileset found))) (λ found. and_then (unless (nat_lt FILE_BYTES_MAX end) TooBig (Ok found.0)) (λ anode. Ok (use_of fileset anode))) (λ found h. outcome_refuse view (nat_lt FILE_BYTES_MAX end) TooBig (Ends (Ok (use_of fileset found.0)))
      ∙ sym (unless_then (nat_lt FILE_BYTES_MAX end) TooBig (Ok found.0) (λ anode. Ok (use_of fileset anode))))
      ∙ sym (then_then (permitted_file fileset user path write_right) (λ (anode, object). unless (nat_lt FILE_BYTES_MAX end) TooBig (Ok anode)) (λ anode. Ok (use_of fileset anode))))
      ∙ sym (unless_then fileset.read_only ReadOnly (and_then (permitted_file fileset user path write_right) (λ (anode, object). unless (nat_lt FILE_BYTES_MAX end) TooBig (Ok anode))) (λ anode. Ok (use_of fileset anode)))

  -- a Write ends in what is written, or a refusal
  pub write_seen : (user : User) (path : List (List ℕ)) (from : ℕ) (bytes : List ℕ) → outcome view (write_look user (use_of fileset 1) path from bytes)
      ≡ either (write_target fileset user path (from + length bytes)) (λ anode. written_verdict (use_of fileset anode) from bytes) (λ refusal. Replies (Refused refusal))
  unfolding write_look
  write_seen user path from bytes =
      let checks = write_target fileset user path (from + length bytes) in
      outcome_judged view (checked (write_target_look user (use_of fileset 1) path (from + length bytes)) (written_look from bytes)) (λ verdict. verdict)
      ∙ ap (λ found. either found (λ verdict. verdict) (λ refusal. Replies (Refused refusal)))
      (outcome_checked view (write_target_look user (use_of fileset 1) path (from + length bytes)) (written_look from bytes)
      ∙ ap (λ found. and_then found (λ fid. outcome view (written_look from bytes fid))) (write_target_seen user path (from + length bytes))
      ∙ then_then checks (λ anode. Ok (use_of fileset anode)) (λ fid. outcome view (written_look from bytes fid))
      ∙ then_same checks (λ anode. outcome view (written_look from bytes (use_of fileset anode))) (λ anode. Ok (written_verdict (use_of fileset anode) from bytes)) (λ anode h. written_seen view (use_of fileset anode) from bytes))
      ∙ either_then checks (λ anode. Ok (written_verdict (use_of fileset anode) from bytes)) (λ verdict. verdict) (λ refusal. Replies (Refused refusal))

  -- a Lock ends in a lock, or a refusal before those for other hosts' locks
  pub lock_seen : (own : Own) (host : HostId) (user : User) (path : List (List ℕ)) (writing : Bool) (from len : ℕ) → outcome view (lock_look own host user (use_of fileset 1) path writing from len)
      ≡ either (lock_checks fileset own host user path writing from len) (λ fid. Locks fid writing (span_between from (from + len))) (λ refusal. Replies (Refused refusal))
  unfolding lock_look
  lock_seen own host user path writing from len =
      let span = span_between from (from + len) in
      let right = if writing then write_right else read_right in
      outcome_judged view (checked (use_look user (use_of fileset 1) path writing right) (lock_for own host writing from len)) (λ fid. Locks fid writing span)
      ∙ ap (λ found. either found (λ fid. Locks fid writing span) (λ refusal. Replies (Refused refusal)))
      (outcome_checked view (use_look user (use_of fileset 1) path writing right) (lock_for own host writing from len)
      ∙ ap (λ found. and_then found (λ fid. outcome view (lock_for own host writing from len fid))) (use_seen view fileset formed shows user path writing right)
      ∙ then_same (use_target fileset user path writing right) (λ fid. outcome view (lock_for own host writing from len fid))
      (λ fid. unless (nat_lt FILE_BYTES_MAX (from + len)) TooBig (unless (is_own_locked own.locks host fid span) AlreadyLocked (Ok fid))) (λ fid h.
      let takes : Look (Result Fid Refusal) = Takes (record { fid = fid; kind = LockKind writing span }) (Ends (Ok fid)) in
      outcome_refuse view (nat_lt FILE_BYTES_MAX (from + len)) TooBig (refuse_if (is_own_locked own.locks host fid span) AlreadyLocked takes)
      ∙ ap (λ next. unless (nat_lt FILE_BYTES_MAX (from + len)) TooBig next) (outcome_refuse view (is_own_locked own.locks host fid span) AlreadyLocked takes)))

  pub open_seen : (user : User) (path : List (List ℕ)) (kind : OpenKind) → outcome view (open_look user (use_of fileset 1) path kind)
      ≡ either (open_target fileset user path kind) (λ fid. Opens fid kind) (λ refusal. Replies (Refused refusal))
  unfolding open_look
  open_seen user path kind =
      outcome_judged view (checked (use_look user (use_of fileset 1) path (is_changing kind) (right_to_open kind)) (open_for kind)) (λ fid. Opens fid kind)
      ∙ ap (λ found. either found (λ fid. Opens fid kind) (λ refusal. Replies (Refused refusal)))
      (outcome_checked view (use_look user (use_of fileset 1) path (is_changing kind) (right_to_open kind)) (open_for kind)
      ∙ ap (λ found. and_then found (λ fid. outcome view (open_for kind fid))) (use_seen view fileset formed shows user path (is_changing kind) (right_to_open kind))
      ∙ ends (use_target fileset user path (is_changing kind) (right_to_open kind)))
    where
      ends : (found : Result Fid Refusal) → and_then found (λ fid. Ok fid) ≡ found
      ends (Ok fid) = refl
      ends (Err refusal) = refl
