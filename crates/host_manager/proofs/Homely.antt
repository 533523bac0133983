-- What a call needs is of the fileset that it is about.
use Rattle.need_host.specs.Looks.{kind_for}
use Rattle.run_rules.specs.Tokens.{IsUseKind}
use Rattle.std.proofs.Common.{◌&&◌, ◌+◌, ◌-◌, ◌==◌, ◌∙◌, ◌∷◌, ◌≡◌}
use Rattle.tree_laws.specs.Parts.{Part}
use Rattle.base_types.specs.Access.{allows}
use Rattle.base_types.specs.Name.{same_name}
use Rattle.base_types.specs.Outcomes.{and_then, either}
use Rattle.base_types.specs.declared.access.AccessEntry.{AccessEntry}
use Rattle.base_types.specs.declared.ids.Fid.{Fid}
use Rattle.base_types.specs.declared.ids.FilesetId.{FilesetId}
use Rattle.base_types.specs.declared.ids.HostId.{HostId}
use Rattle.base_types.specs.declared.ids.ServerId.{ServerId}
use Rattle.base_types.specs.declared.limits.TheConstants.{FILE_BYTES_MAX, LABELS_MAX}
use Rattle.base_types.specs.declared.user.User.{User}
use Rattle.host_tables.proofs.Outstanding.{found_in}
use Rattle.host_tables.specs.Stands.{IsLack, needs_from}
use Rattle.host_tables.specs.Tables.{content, held_of, home_of, own_of}
use Rattle.host_tables.specs.Tidy.{IsTidy}
use Rattle.host_tables.specs.declared.calls.Home.{Home}
use Rattle.host_tables.specs.declared.tables.Tables.{Tables}
use Rattle.message_types.specs.Soundness.{IsServer}
use Rattle.need_host.specs.Calls.{Own, Verdict, access_look, bytes_look, call_look, change_look, entries_for}
use Rattle.need_host.specs.Calls.{facts_for, fits_file, from_root, judged, list_for, list_in, list_look, lock_for}
use Rattle.need_host.specs.Calls.{lock_look, open_for, open_look, read_from, read_look, stat_look, sync_look}
use Rattle.need_host.specs.Calls.{sync_verdict, write_look, write_target_look, written_look}
use Rattle.need_host.specs.Calls.Verdict.{Frees, Gives, Locks, Opens, Replies, Writes}
use Rattle.need_host.specs.Looks.{IsFirstLack, Look, View, after_check, checked, look_on, needs_of, refuse_if}
use Rattle.need_host.specs.Looks.{rounded}
use Rattle.need_host.specs.Looks.Look.{Ends, Looks, Takes}
use Rattle.need_host.specs.Questions.{fileset_of}
use Rattle.need_host.specs.Walks.{fid_in, file_look, nature_look, permitted, permitted_look, rights_on, root_of}
use Rattle.need_host.specs.Walks.{search_look, step_look, target_look, use_look, walk_look}
use Rattle.run_rules.specs.Messages.{home}
use Rattle.run_rules.specs.Past.{In}
use Rattle.std.proofs.Common.{Bool, Err, IfOk, List, None, Ok, Option, Result, Some, [], ap, false, if◌then◌else◌}
use Rattle.std.proofs.Common.{inl, inr, length, min, nat_le, nat_lt, not, refl, subst, suc, sym, true, zero, ℕ, ◌&&◌}
use Rattle.std.proofs.Common.{◌+◌, ◌-◌, ◌==◌, ◌∙◌, ◌∷◌, ◌≡◌}
use Rattle.std.specs.List.{find}
use Rattle.std.specs.Option.{option_map}
use Rattle.token_types.specs.declared.token.Kind.TheVariants.{Bytes as BytesKind, Lock as LockKind}
use Rattle.token_types.specs.declared.token.Kind.TheVariants.{Status as StatusKind}
use Rattle.token_types.specs.declared.token.Need.{Need}
use Rattle.token_types.specs.declared.token.Token.{Token}
use Rattle.tree_answers.specs.Finding.{found_or}
use Rattle.tree_answers.specs.Locks.{has_lock, is_own_locked, lock_count}
use Rattle.tree_answers.specs.Opens.{has_open, open_count}
use Rattle.tree_calls.specs.declared.call.Call.{Call}
use Rattle.tree_calls.specs.declared.call.Call.TheVariants.{CloneFileset, CloseFile, Create, GetAcl}
use Rattle.tree_calls.specs.declared.call.Call.TheVariants.{List as ListNames, Lock, MakeDir, MoveFileset, NewFileset}
use Rattle.tree_calls.specs.declared.call.Call.TheVariants.{OpenFile, Read, Remove, Rename, SetAcl, Stat, Sync}
use Rattle.tree_calls.specs.declared.call.Call.TheVariants.{Truncate, Unlock, Write}
use Rattle.tree_calls.specs.declared.part.DirEntry.{DirEntry}
use Rattle.tree_calls.specs.declared.reply.Facts.{Facts as FactsOf}
use Rattle.tree_calls.specs.declared.reply.Refusal.{Refusal}
use Rattle.tree_calls.specs.declared.reply.Refusal.TheVariants.{AlreadyLocked, AlreadyOpened, Denied, IsDir, NoEntry}
use Rattle.tree_calls.specs.declared.reply.Refusal.TheVariants.{NotDir, NotLocked, NotOpened, ReadOnly, TooBig}
use Rattle.tree_calls.specs.declared.reply.Refusal.TheVariants.{TooMany}
use Rattle.tree_calls.specs.declared.reply.Reply.TheVariants.{Access, Bytes, Facts, Names, Refused}
use Rattle.tree_calls.specs.declared.roster.Roster.{Roster}
use Rattle.tree_filesets.specs.Rights.{execute_right, read_right, write_right}
use Rattle.tree_filesets.specs.Uses.{is_changing, right_to_open}
use Rattle.tree_filesets.specs.Walk.{entry_or_none}
use Rattle.tree_laws.specs.Parts.{Nature}
use Rattle.tree_laws.specs.Parts.Part.{ByteAt, Entries, Size, Traits}
use Rattle.tree_objects.specs.Entries.{entry_named, names_of}
use Rattle.tree_objects.specs.Spans.{span_between}

-- all that a look needs is of a fileset, and of a use only where that may be; and what it ends in
abbrev IsWithin : {R : Type 0} → Type 0 → FilesetId → View → (R → Type 0) → Look R → Type 0
IsWithin U fs view P (Ends result) = P result
IsWithin U fs view P (Looks fid part next) = (fid.fileset ≡ fs) × IsWithin U fs view P (next (view fid part))
IsWithin U fs view P (Takes need next) =
    (need.fid.fileset ≡ fs) × (IsUseKind need.kind → U) × IsWithin U fs view P next

-- what is seen of a part needs no use
seen_kind : (part : Part) → IsUseKind (kind_for part) → ⊥
seen_kind (ByteAt at) u = u
seen_kind Size u = u
seen_kind Traits u = u
seen_kind Entries u = u

needs_within : {R : Type 0} (U : Type 0) (fs : FilesetId) (view : View) (P : R → Type 0) (look : Look R)
    → IsWithin U fs view P look → (n : Need) → In n (needs_of view look)
    → (n.fid.fileset ≡ fs) × (IsUseKind n.kind → U)
needs_within U fs view P (Ends result) w n i = elim i [ ]
needs_within U fs view P (Looks fid part next) w n (inl e) = (
  ap (λ (x : Need). x.fid.fileset) e ∙ w.0,
  λ u. absurd (seen_kind part (subst (λ (x : Need). IsUseKind x.kind) e u)),
)
needs_within U fs view P (Looks fid part next) w n (inr i) = needs_within U fs view P (next (view fid part)) w.1 n i
needs_within U fs view P (Takes need next) w n (inl e) = (
  ap (λ (x : Need). x.fid.fileset) e ∙ w.0,
  λ u. w.1 (subst (λ (x : Need). IsUseKind x.kind) e u),
)
needs_within U fs view P (Takes need next) w n (inr i) = needs_within U fs view P next w.2 n i

any_ok : {A : Type 0} (r : Result A Refusal) → IfOk r (λ (a : A). Unit {0})
any_ok (Ok value) = tt
any_ok (Err refusal) = tt

module _ (U : Type 0) (fs : FilesetId) (view : View) where
  within_on : {A B : Type 0} (P : A → Type 0) (Q : B → Type 0) (look : Look A) (next : A → Look B)
      → IsWithin U fs view P look → ((a : A) → P a → IsWithin U fs view Q (next a))
      → IsWithin U fs view Q (look_on look next)
  within_on P Q (Ends result) next w f = f result w
  within_on P Q (Looks fid part after) next w f = (w.0, within_on P Q (after (view fid part)) next w.1 f)
  within_on P Q (Takes need after) next w f = (w.0, w.1, within_on P Q after next w.2 f)

  within_checked : {A B : Type 0} (P : A → Type 0) (Q : B → Type 0) (look : Look (Result A Refusal))
      (next : A → Look (Result B Refusal)) → IsWithin U fs view (λ r. IfOk r P) look
      → ((a : A) → P a → IsWithin U fs view (λ r. IfOk r Q) (next a))
      → IsWithin U fs view (λ r. IfOk r Q) (checked look next)
  within_checked {A = A} {B = B} P Q look next w f =
      within_on (λ r. IfOk r P) (λ r. IfOk r Q) look (after_check next) w by_result
    where
      by_result : (r : Result A Refusal) → IfOk r P → IsWithin U fs view (λ s. IfOk s Q) (after_check next r)
      by_result (Ok value) p = f value p
      by_result (Err refusal) p = tt

  within_refused : {A : Type 0} (P : A → Type 0) (b : Bool) (refusal : Refusal) (next : Look (Result A Refusal))
      → IsWithin U fs view (λ r. IfOk r P) next → IsWithin U fs view (λ r. IfOk r P) (refuse_if b refusal next)
  within_refused P true refusal next w = tt
  within_refused P false refusal next w = w

  within_judged : {A : Type 0} (P : A → Type 0) (look : Look (Result A Refusal)) (judge : A → Verdict)
      → IsWithin U fs view (λ r. IfOk r P) look → IsWithin U fs view (λ (v : Verdict). Unit {0}) (judged look judge)
  within_judged P look judge w =
      within_on (λ r. IfOk r P) (λ (v : Verdict). Unit {0}) look
      (λ seen. Ends (either seen judge (λ refusal. Replies (Refused refusal)))) w (λ r p. tt)

  abbrev Of : Fid → Type 0
  Of fid = fid.fileset ≡ fs

  abbrev OfPair : Fid × Nature → Type 0
  OfPair found = found.0.fileset ≡ fs

  in_nature : (fid : Fid) → fid.fileset ≡ fs
      → IsWithin U fs view (λ r. IfOk r (λ (n : Nature). Unit {0})) (nature_look fid)
  in_nature fid e = (e, any_ok (found_or (view fid Traits) NoEntry))

  in_search : (user : User) (fid : Fid) (nature : Nature) → fid.fileset ≡ fs
      → IsWithin U fs view (λ r. IfOk r (λ (es : List DirEntry). Unit {0})) (search_look user fid nature)
  in_search user fid nature e =
      within_refused (λ (es : List DirEntry). Unit {0}) (not nature.dir) NotDir
      (permitted nature user execute_right (Looks fid Entries (λ entries. Ends (Ok entries))))
      (within_refused (λ (es : List DirEntry). Unit {0}) (not (allows (rights_on nature user) execute_right))
      (Denied execute_right) (Looks fid Entries (λ entries. Ends (Ok entries))) (e, tt))

  in_step : (user : User) (fid : Fid) (name : List ℕ) → fid.fileset ≡ fs
      → IsWithin U fs view (λ r. IfOk r Of) (step_look user fid name)
  in_step user fid name e =
      within_checked (λ (n : Nature). Unit {0}) Of (nature_look fid)
      (λ nature. checked (search_look user fid nature) (λ entries.
      Ends (and_then (entry_or_none (entry_named entries name)) (λ entry. Ok (fid_in fid entry)))))
      (in_nature fid e)
      (λ nature u. within_checked (λ (es : List DirEntry). Unit {0}) Of (search_look user fid nature)
      (λ entries. Ends (and_then (entry_or_none (entry_named entries name)) (λ entry. Ok (fid_in fid entry))))
      (in_search user fid nature e) (λ entries v. by_entry (entry_or_none (entry_named entries name))))
    where
      by_entry : (r : Result DirEntry Refusal) → IfOk (and_then r (λ entry. Ok (fid_in fid entry))) Of
      by_entry (Ok entry) = e
      by_entry (Err refusal) = tt

  in_walk : (user : User) (fid : Fid) (path : List (List ℕ)) → fid.fileset ≡ fs
      → IsWithin U fs view (λ r. IfOk r Of) (walk_look user fid path)
  in_walk user fid [] e = e
  in_walk user fid (name ∷ names) e =
      within_checked Of Of (step_look user fid name) (λ next. walk_look user next names) (in_step user fid name e)
      (λ next w. in_walk user next names w)

  in_target : (user : User) (root : Fid) (path : List (List ℕ)) → root.fileset ≡ fs
      → IsWithin U fs view (λ r. IfOk r OfPair) (target_look user root path)
  in_target user root path e =
      within_checked Of OfPair (walk_look user root path)
      (λ fid. checked (nature_look fid) (λ nature. Ends (Ok (fid, nature)))) (in_walk user root path e)
      (λ fid w. within_checked (λ (n : Nature). Unit {0}) OfPair (nature_look fid)
      (λ nature. Ends (Ok (fid, nature))) (in_nature fid w) (λ nature u. w))

  in_file : (user : User) (root : Fid) (path : List (List ℕ)) → root.fileset ≡ fs
      → IsWithin U fs view (λ r. IfOk r OfPair) (file_look user root path)
  in_file user root path e =
      within_checked OfPair OfPair (target_look user root path)
      (λ (fid, nature). refuse_if nature.dir IsDir (Ends (Ok (fid, nature)))) (in_target user root path e)
      (λ found w. within_refused OfPair found.1.dir IsDir (Ends (Ok (found.0, found.1))) w)

  in_permitted : (user : User) (root : Fid) (path : List (List ℕ)) (right : ℕ) → root.fileset ≡ fs
      → IsWithin U fs view (λ r. IfOk r OfPair) (permitted_look user root path right)
  in_permitted user root path right e =
      within_checked OfPair OfPair (file_look user root path)
      (λ (fid, nature). permitted nature user right (Ends (Ok (fid, nature)))) (in_file user root path e)
      (λ found w. within_refused OfPair (not (allows (rights_on found.1 user) right)) (Denied right)
      (Ends (Ok (found.0, found.1))) w)

  in_use : (user : User) (root : Fid) (path : List (List ℕ)) (changing : Bool) (right : ℕ) → root.fileset ≡ fs
      → IsWithin U fs view (λ r. IfOk r Of) (use_look user root path changing right)
  in_use user root path changing right e =
      within_checked OfPair Of (file_look user root path)
      (λ (fid, nature). refuse_if (changing && nature.read_only) ReadOnly (permitted nature user right (Ends (Ok fid))))
      (in_file user root path e)
      (λ found w. within_refused Of (changing && found.1.read_only) ReadOnly
      (permitted found.1 user right (Ends (Ok found.0)))
      (within_refused Of (not (allows (rights_on found.1 user) right)) (Denied right) (Ends (Ok found.0)) w))

  in_bytes : (fid : Fid) (at n : ℕ) → fid.fileset ≡ fs
      → IsWithin U fs view (λ (bytes : List ℕ). Unit {0}) (bytes_look fid at n)
  in_bytes fid at zero e = tt
  in_bytes fid at (suc n) e = (
    e,
    within_on (λ (bytes : List ℕ). Unit {0}) (λ (bytes : List ℕ). Unit {0}) (bytes_look fid (suc at) n)
        (λ bytes. Ends (view fid (ByteAt at) ∷ bytes)) (in_bytes fid (suc at) n e) (λ bytes u. tt),
  )

  in_read : (from len : ℕ) (found : Fid × Nature) → found.0.fileset ≡ fs
      → IsWithin U fs view (λ r. IfOk r (λ (bytes : List ℕ). Unit {0})) (read_from from len found)
  in_read from len found e = (
    e,
    within_on (λ (bytes : List ℕ). Unit {0}) (λ (r : Result (List ℕ) Refusal). IfOk r (λ (bytes : List ℕ). Unit {0}))
        (bytes_look found.0 from (min len (view found.0 Size - from))) (λ bytes. Ends (Ok bytes))
        (in_bytes found.0 from (min len (view found.0 Size - from)) e) (λ bytes u. tt),
  )

  in_written : (from : ℕ) (bytes : List ℕ) (fid : Fid) → fid.fileset ≡ fs
      → IsWithin U fs view (λ r. IfOk r (λ (v : Verdict). Unit {0})) (written_look from bytes fid)
  in_written from [] fid e = tt
  in_written from (byte ∷ bytes) fid e =
      (e, by_size (nat_lt (view fid Size) (from + length (byte ∷ bytes))))
    where
      by_size : (b : Bool) → IsWithin U fs view (λ (r : Result Verdict Refusal). IfOk r (λ (v : Verdict). Unit {0}))
          (if b
          then Takes (record { fid = fid; kind = StatusKind true })
          (Takes (record {
            fid = fid;
            kind = BytesKind true (rounded (min from (view fid Size)) (from + length (byte ∷ bytes)));
          }) (Ends (Ok (Writes fid from (byte ∷ bytes)))))
          else Takes (record {
            fid = fid;
            kind = BytesKind true (rounded from (from + length (byte ∷ bytes)));
          }) (Ends (Ok (Writes fid from (byte ∷ bytes)))))
      by_size true = (e, (λ u. elim u [ ]), (e, (λ u. elim u [ ]), tt))
      by_size false = (e, (λ u. elim u [ ]), tt)

-- what a call is about, as the host has seen it
abbrev pub IsOfCall : Own → Call → FilesetId → Type 0
IsOfCall own call fs = (server : ServerId) × (name : List ℕ) × (fileset_of call ≡ Some (server, name))
    × (own.seen server name ≡ Some fs)

-- the calls that use a label
abbrev pub TakesUse : Call → Type 0
TakesUse (Lock label place writing from len) = Unit {0}
TakesUse (OpenFile label place kind) = Unit {0}
TakesUse _ = ⊥

module _ (own : Own) (host : HostId) (user : User) (view : View) where
  abbrev AreOf : Call → Look Verdict → Type 0
  AreOf call look = (n : Need) → In n (needs_of view look) → IsOfCall own call n.fid.fileset
      × (IsUseKind n.kind → TakesUse call)

  of_root : (call : Call) (server : ServerId) (name : List ℕ) → fileset_of call ≡ Some (server, name)
      → (look : Fid → Look Verdict)
      → ((id : FilesetId) → IsWithin (TakesUse call) id view (λ (v : Verdict). Unit {0}) (look (root_of id)))
      → AreOf call (from_root server (own.seen server name) look)
  of_root call server name of look within = by_seen (own.seen server name) refl
    where
      by_seen : (o : Option FilesetId) → own.seen server name ≡ o → AreOf call (from_root server o look)
      by_seen None e n i = elim i [ ]
      by_seen (Some id) e n i =
          let r = needs_within (TakesUse call) id view (λ (v : Verdict). Unit {0}) (look (root_of id)) (within id) n
          i in
          ((server, name, of, e ∙ ap Some (sym r.0)), r.1)

  of_change : (call : Call) (server : ServerId) (name : List ℕ) → fileset_of call ≡ Some (server, name)
      → AreOf call (from_root server (own.seen server name) change_look)
  of_change call server name of = of_root call server name of change_look (λ id. tt)

  of_label : (call : Call) (used full : Bool) (refusal : Refusal) (look : Look Verdict) → AreOf call look
      → AreOf call (if used then Ends (Replies (Refused refusal)) else if full then Ends (Replies (Refused TooMany))
      else look)
  of_label call true full refusal look are = λ n i. elim i [ ]
  of_label call false true refusal look are = λ n i. elim i [ ]
  of_label call false false refusal look are = are

  of_free : (call : Call) (used last : Bool) (refusal : Refusal)
      → AreOf call (if not used then Ends (Replies (Refused refusal)) else Ends (if last then Gives else Frees))
  of_free call false last refusal = λ n i. elim i [ ]
  of_free call true last refusal = λ n i. elim i [ ]

  pub needs_are : (call : Call) → AreOf call (call_look own host user call)
  unfolding call_look read_look write_look list_look stat_look access_look sync_look lock_look open_look
  needs_are (NewFileset server name objects owner) = λ n i. elim i [ ]
  needs_are (CloneFileset server source new) = λ n i. elim i [ ]
  needs_are (Create place) = of_change (Create place) place.server place.fileset refl
  needs_are (MakeDir place) = of_change (MakeDir place) place.server place.fileset refl
  needs_are (Remove place) = of_change (Remove place) place.server place.fileset refl
  needs_are (Rename from to) = of_change (Rename from to) from.server from.fileset refl
  needs_are (Truncate place len) = of_change (Truncate place len) place.server place.fileset refl
  needs_are (SetAcl place which list) = of_change (SetAcl place which list) place.server place.fileset refl
  needs_are (MoveFileset server name to) = of_change (MoveFileset server name to) server name refl
  needs_are (Read place from len) =
      of_root (Read place from len) place.server place.fileset refl _
      (λ id. within_judged ⊥ id view (λ (bytes : List ℕ). Unit {0})
      (checked (permitted_look user (root_of id) place.path read_right) (read_from from len))
      (λ bytes. Replies (Bytes bytes))
      (within_checked ⊥ id view (λ (found : Fid × Nature). found.0.fileset ≡ id) (λ (bytes : List ℕ). Unit {0})
      (permitted_look user (root_of id) place.path read_right) (read_from from len)
      (in_permitted ⊥ id view user (root_of id) place.path read_right refl)
      (λ found w. in_read ⊥ id view from len found w)))
  needs_are (Write place from bytes) =
      of_root (Write place from bytes) place.server place.fileset refl _
      (λ id. within_judged ⊥ id view (λ (v : Verdict). Unit {0})
      (checked (write_target_look user (root_of id) place.path (from + length bytes)) (written_look from bytes))
      (λ verdict. verdict)
      (within_checked ⊥ id view (λ (fid : Fid). fid.fileset ≡ id) (λ (v : Verdict). Unit {0})
      (write_target_look user (root_of id) place.path (from + length bytes)) (written_look from bytes)
      (within_checked ⊥ id view (λ (n : Nature). Unit {0}) (λ (fid : Fid). fid.fileset ≡ id) (nature_look (root_of id))
      (λ nature. refuse_if nature.read_only ReadOnly
      (checked (permitted_look user (root_of id) place.path write_right) (fits_file (from + length bytes))))
      (in_nature ⊥ id view (root_of id) refl)
      (λ nature u. within_refused ⊥ id view (λ (fid : Fid). fid.fileset ≡ id) nature.read_only ReadOnly
      (checked (permitted_look user (root_of id) place.path write_right) (fits_file (from + length bytes)))
      (within_checked ⊥ id view (λ (found : Fid × Nature). found.0.fileset ≡ id) (λ (fid : Fid). fid.fileset ≡ id)
      (permitted_look user (root_of id) place.path write_right) (fits_file (from + length bytes))
      (in_permitted ⊥ id view user (root_of id) place.path write_right refl)
      (λ found w. within_refused ⊥ id view (λ (fid : Fid). fid.fileset ≡ id)
      (nat_lt FILE_BYTES_MAX (from + length bytes)) TooBig (Ends (Ok found.0)) w))))
      (λ fid w. in_written ⊥ id view from bytes fid w)))
  needs_are (ListNames place) =
      of_root (ListNames place) place.server place.fileset refl _
      (λ id. within_judged ⊥ id view (λ (es : List DirEntry). Unit {0})
      (checked (target_look user (root_of id) place.path) (entries_for user))
      (λ entries. Replies (Names (names_of entries)))
      (within_checked ⊥ id view (λ (found : Fid × Nature). found.0.fileset ≡ id) (λ (es : List DirEntry). Unit {0})
      (target_look user (root_of id) place.path) (entries_for user)
      (in_target ⊥ id view user (root_of id) place.path refl)
      (λ found w. within_refused ⊥ id view (λ (es : List DirEntry). Unit {0}) (not found.1.dir) NotDir
      (permitted found.1 user read_right (Looks found.0 Entries (λ entries. Ends (Ok entries))))
      (within_refused ⊥ id view (λ (es : List DirEntry). Unit {0}) (not (allows (rights_on found.1 user) read_right))
      (Denied read_right) (Looks found.0 Entries (λ entries. Ends (Ok entries))) (w, tt)))))
  needs_are (Stat place) =
      of_root (Stat place) place.server place.fileset refl _
      (λ id. within_judged ⊥ id view (λ (f : FactsOf). Unit {0})
      (checked (target_look user (root_of id) place.path) (facts_for user)) (λ facts. Replies (Facts facts))
      (within_checked ⊥ id view (λ (found : Fid × Nature). found.0.fileset ≡ id) (λ (f : FactsOf). Unit {0})
      (target_look user (root_of id) place.path) (facts_for user)
      (in_target ⊥ id view user (root_of id) place.path refl) (λ found w. (w, tt))))
  needs_are (GetAcl place which) =
      of_root (GetAcl place which) place.server place.fileset refl _
      (λ id. within_judged ⊥ id view (λ (l : List AccessEntry). Unit {0})
      (checked (target_look user (root_of id) place.path) (list_for which)) (λ list. Replies (Access list))
      (within_checked ⊥ id view (λ (found : Fid × Nature). found.0.fileset ≡ id) (λ (l : List AccessEntry). Unit {0})
      (target_look user (root_of id) place.path) (list_for which)
      (in_target ⊥ id view user (root_of id) place.path refl)
      (λ found w. any_ok (list_in which found.1))))
  needs_are (Sync place) =
      of_root (Sync place) place.server place.fileset refl _
      (λ id. within_judged ⊥ id view (λ (found : Fid × Nature). found.0.fileset ≡ id)
      (file_look user (root_of id) place.path) (sync_verdict own)
      (in_file ⊥ id view user (root_of id) place.path refl))
  needs_are (Lock label place writing from len) =
      of_label (Lock label place writing from len) (has_lock own.locks host label)
      (nat_le LABELS_MAX (lock_count own.locks host)) AlreadyLocked _
      (of_root (Lock label place writing from len) place.server place.fileset refl _
      (λ id. within_judged (Unit {0}) id view (λ (fid : Fid). fid.fileset ≡ id)
      (checked (use_look user (root_of id) place.path writing (if writing then write_right else read_right))
      (lock_for own host writing from len)) (λ fid. Locks fid writing (span_between from (from + len)))
      (within_checked (Unit {0}) id view (λ (fid : Fid). fid.fileset ≡ id) (λ (fid : Fid). fid.fileset ≡ id)
      (use_look user (root_of id) place.path writing (if writing then write_right else read_right))
      (lock_for own host writing from len)
      (in_use (Unit {0}) id view user (root_of id) place.path writing (if writing then write_right else read_right)
      refl)
      (λ fid w. within_refused (Unit {0}) id view (λ (f : Fid). f.fileset ≡ id) (nat_lt FILE_BYTES_MAX (from + len))
      TooBig
      (refuse_if (is_own_locked own.locks host fid (span_between from (from + len))) AlreadyLocked
      (Takes (record { fid = fid; kind = LockKind writing (span_between from (from + len)) }) (Ends (Ok fid))))
      (within_refused (Unit {0}) id view (λ (f : Fid). f.fileset ≡ id)
      (is_own_locked own.locks host fid (span_between from (from + len))) AlreadyLocked
      (Takes (record { fid = fid; kind = LockKind writing (span_between from (from + len)) }) (Ends (Ok fid)))
      (w, (λ u. tt), w))))))
  needs_are (OpenFile label place kind) =
      of_label (OpenFile label place kind) (has_open own.opens host label)
      (nat_le LABELS_MAX (open_count own.opens host)) AlreadyOpened _
      (of_root (OpenFile label place kind) place.server place.fileset refl _
      (λ id. within_judged (Unit {0}) id view (λ (fid : Fid). fid.fileset ≡ id)
      (checked (use_look user (root_of id) place.path (is_changing kind) (right_to_open kind)) (open_for kind))
      (λ fid. Opens fid kind)
      (within_checked (Unit {0}) id view (λ (fid : Fid). fid.fileset ≡ id) (λ (fid : Fid). fid.fileset ≡ id)
      (use_look user (root_of id) place.path (is_changing kind) (right_to_open kind)) (open_for kind)
      (in_use (Unit {0}) id view user (root_of id) place.path (is_changing kind) (right_to_open kind) refl)
      (λ fid w. (w, (λ u. tt), w)))))
  needs_are (Unlock label) =
      of_free (Unlock label) (has_lock own.locks host label) (own.gives_lock label) NotLocked
  needs_are (CloseFile label) =
      of_free (CloseFile label) (has_open own.opens host label) (own.gives_open label) NotOpened

-- # The servers that may be asked
pub first_lack_in : (held : List Token) (needs : List Need) (need : Need) → IsFirstLack held needs need → In need needs
first_lack_in held [] need l = elim l [ ]
first_lack_in held (first ∷ needs) need (inl p) = inl (sym p.1)
first_lack_in held (first ∷ needs) need (inr p) = inr (first_lack_in held needs need p.1)

home_in : (homes : List Home) (server : ServerId) (name : List ℕ) (id : FilesetId)
    → home_of homes server name ≡ Some id → (h : Home) × In h homes × (h.id ≡ id)
home_in homes server name id e =
    by_found (find (λ home. (home.server.0 == server.0) && same_name home.name name) homes) refl e
  where
    by_found : (o : Option Home)
        → find (λ home. (home.server.0 == server.0) && same_name home.name name) homes ≡ o
        → option_map (λ home. home.id) o ≡ Some id → (h : Home) × In h homes × (h.id ≡ id)
    by_found None f q = absurd (cc)
    by_found (Some h) f q =
        (h, (found_in (λ home. (home.server.0 == server.0) && same_name home.name name) homes h f).0, (cc))

module _ (roster : Roster) (m : Tables) (tidy : IsTidy roster m) where
  pub seen_declared : (server : ServerId) (name : List ℕ) (id : FilesetId)
      → home_of m.homes server name ≡ Some id → IsServer roster (home id)
  seen_declared server name id e =
      let r = home_in m.homes server name id e in
      subst (λ (fs : FilesetId). IsServer roster (home fs)) r.2 (tidy.homes r.0 r.1)

  pub lack_declared : (call : Call) (need : Need) → IsLack m call need → IsServer roster (home need.fid.fileset)
  lack_declared call need lack =
      let r = needs_are (own_of m) m.host m.user (content m.cache) call need
      (first_lack_in (held_of m) (needs_from m call) need lack) in
      seen_declared r.0.0 r.0.1 need.fid.fileset r.0.3

  -- a use is needed by a Lock or an OpenFile alone
  pub lack_used : (call : Call) (need : Need) → IsLack m call need → IsUseKind need.kind → TakesUse call
  lack_used call need lack used =
      (needs_are (own_of m) m.host m.user (content m.cache) call need
      (first_lack_in (held_of m) (needs_from m call) need lack)).1 used
