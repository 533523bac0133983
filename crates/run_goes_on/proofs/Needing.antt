-- What a call needs is of the fileset that it names, as its host has seen it.
use Rattle.std.proofs.Common.{Bool, Err, List, None, Ok, Option, Result, Some, [], ap, false, inl, inr, nat_lt, not}
use Rattle.std.proofs.Common.{refl, subst, suc, sym, true, zero, ℕ, ◌&&◌, ◌+◌, ◌++◌, ◌∙◌, ◌∷◌, ◌≡◌}
use Rattle.std.specs.Prelude.{if◌then◌else◌, length, min, nat_le, ◌-◌}
use Rattle.base_types.specs.Access.{allows}
use Rattle.base_types.specs.Outcomes.{and_then, either}
use Rattle.base_types.specs.declared.ids.Fid.{Fid}
use Rattle.base_types.specs.declared.ids.FilesetId.{FilesetId}
use Rattle.base_types.specs.declared.ids.HostId.{HostId}
use Rattle.base_types.specs.declared.ids.OpenKind.{OpenKind}
use Rattle.base_types.specs.declared.ids.ServerId.{ServerId}
use Rattle.base_types.specs.declared.limits.TheConstants.{FILE_BYTES_MAX, LABELS_MAX}
use Rattle.base_types.specs.declared.user.User.{User}
use Rattle.tree_calls.specs.declared.call.Call.{Call}
use Rattle.tree_calls.specs.declared.call.Call.TheVariants.{CloneFileset, CloseFile, Create, GetAcl, List as ListNames}
use Rattle.tree_calls.specs.declared.call.Call.TheVariants.{Lock as LockCall, MakeDir, MoveFileset, NewFileset}
use Rattle.tree_calls.specs.declared.call.Call.TheVariants.{OpenFile, Read, Remove, Rename, SetAcl, Stat, Sync}
use Rattle.tree_calls.specs.declared.call.Call.TheVariants.{Truncate, Unlock, Write}
use Rattle.tree_calls.specs.declared.part.DirEntry.{DirEntry}
use Rattle.tree_calls.specs.declared.place.Which.{Which}
use Rattle.tree_calls.specs.declared.reply.Refusal.{Refusal}
use Rattle.tree_calls.specs.declared.reply.Refusal.TheVariants.{AlreadyLocked, AlreadyOpened, Denied, IsDir, NotDir}
use Rattle.tree_calls.specs.declared.reply.Refusal.TheVariants.{NotLocked, NotOpened, ReadOnly, TooBig, TooMany}
use Rattle.tree_calls.specs.declared.reply.Reply.TheVariants.{Access, Bytes as BytesRead, Facts, Names, Refused}
use Rattle.tree_filesets.specs.Rights.{execute_right, read_right, write_right}
use Rattle.tree_filesets.specs.Uses.{is_changing, right_to_open}
use Rattle.tree_filesets.specs.Walk.{entry_or_none}
use Rattle.tree_objects.specs.Entries.{entry_named, names_of}
use Rattle.tree_objects.specs.Spans.{span_between}
use Rattle.tree_answers.specs.Locks.{has_lock, is_own_locked, lock_count}
use Rattle.tree_answers.specs.Opens.{has_open, open_count}
use Rattle.token_types.specs.declared.token.Kind.TheVariants.{Bytes as BytesKind, Lock as LockKind}
use Rattle.token_types.specs.declared.token.Kind.TheVariants.{Opening as OpeningKind, Status as StatusKind}
use Rattle.token_types.specs.declared.token.Need.{Need}
use Rattle.tree_laws.specs.Parts.{Nature}
use Rattle.tree_laws.specs.Parts.Part.{ByteAt, Entries, Size, Traits}
use Rattle.need_host.proofs.Looking.{outcome_checked}
use Rattle.need_host.proofs.Updates.{needs_on}
use Rattle.need_host.specs.Calls.{Own, Verdict, access_look, bytes_look, call_look, change_look, entries_for, facts_for}
use Rattle.need_host.specs.Calls.{fits_file, from_root, judged, list_for, list_look, lock_for, lock_look, open_for}
use Rattle.need_host.specs.Calls.{open_look, read_from, read_look, refuse, stat_look, sync_look, sync_verdict}
use Rattle.need_host.specs.Calls.{write_look, write_takes, write_target_look, written_look}
use Rattle.need_host.specs.Calls.Verdict.{Frees, Gives, Locks, Opens, Replies}
use Rattle.need_host.specs.Looks.{Look, View, after_check, checked, kind_for, look_on, needs_of, outcome, refuse_if}
use Rattle.need_host.specs.Looks.{rounded}
use Rattle.need_host.specs.Looks.Look.{Ends, Looks, Takes}
use Rattle.need_host.specs.Questions.{fileset_of}
use Rattle.need_host.specs.Walks.{fid_in, file_look, nature_look, permitted, permitted_look, rights_on, root_of}
use Rattle.need_host.specs.Walks.{search_look, step_look, target_look, use_look, walk_look}
use Rattle.run_rules.specs.Past.{In}

-- the checks of a file, of one that is used, and what it is that was found
abbrev file_ends : Fid × Nature → Look (Result (Fid × Nature) Refusal)
file_ends (fid, nature) = refuse_if nature.dir IsDir (Ends (Ok (fid, nature)))

abbrev right_ends : User → ℕ → Fid × Nature → Look (Result (Fid × Nature) Refusal)
right_ends user right (fid, nature) = permitted nature user right (Ends (Ok (fid, nature)))

abbrev use_ends : User → Bool → ℕ → Fid × Nature → Look (Result Fid Refusal)
use_ends user changing right (fid, nature) =
    refuse_if (changing && nature.read_only) ReadOnly (permitted nature user right (Ends (Ok fid)))

-- # Looks that need parts of one fileset alone, and end with an object of it
module _ (fs : FilesetId) (view : View) where
  abbrev AllIn : List Need → Type 0
  AllIn needs = (n : Need) → In n needs → n.fid.fileset ≡ fs

  none_in : AllIn []
  none_in n i = elim i [ ]

  more_in : (need : Need) (needs : List Need) → need.fid.fileset ≡ fs → AllIn needs → AllIn (need ∷ needs)
  more_in need needs p rest n (inl e) = ap (λ (x : Need). x.fid.fileset) e ∙ p
  more_in need needs p rest n (inr i) = rest n i

  two_in : (xs ys : List Need) → AllIn xs → AllIn ys → AllIn (xs ++ ys)
  two_in [] ys a b n i = b n i
  two_in (x ∷ xs) ys a b n (inl e) = a n (inl e)
  two_in (x ∷ xs) ys a b n (inr i) = two_in xs ys (λ m j. a m (inr j)) b n i

  abbrev Within : {A : Type 0} → Look A → Type 0
  Within look = AllIn (needs_of view look)

  abbrev Lies : {A : Type 0} → (A → Type 0) → Look (Result A Refusal) → Type 0
  Lies P look = Within look × ((x : _) → outcome view look ≡ Ok x → P x)

  on_in : {A B : Type 0} (look : Look A) (next : A → Look B) → Within look → Within (next (outcome view look))
      → Within (look_on look next)
  on_in look next a b =
      subst AllIn (sym (needs_on view look next))
      (two_in (needs_of view look) (needs_of view (next (outcome view look))) a b)

  ends_lie : {A : Type 0} (P : A → Type 0) (r : Result A Refusal) → ((x : A) → r ≡ Ok x → P x) → Lies P (Ends r)
  ends_lie P r p = (none_in, p)

  ok_lies : {A : Type 0} (P : A → Type 0) (x : A) → P x → Lies P (Ends (Ok x))
  ok_lies {A} P x p = ends_lie P (Ok x) (λ y e. (let same : x ≡ y = cc in subst P same p))

  checked_lies : {A B : Type 0} (P : A → Type 0) (Q : B → Type 0) (look : Look (Result A Refusal))
      (next : A → Look (Result B Refusal)) → Lies P look → ((x : A) → P x → Lies Q (next x))
      → Lies Q (checked look next)
  checked_lies {A} {B} P Q look next a b = (
    on_in look (after_check next) a.0 (needs (outcome view look) refl),
    λ x e. ends (outcome view look) refl x (sym (outcome_checked view look next) ∙ e),
  )
    where
      needs : (r : Result A Refusal) → outcome view look ≡ r → Within (after_check next r)
      needs (Ok x) e = (b x (a.1 x e)).0
      needs (Err refusal) e = none_in

      ends : (r : Result A Refusal) → outcome view look ≡ r → (x : B)
          → and_then r (λ value. outcome view (next value)) ≡ Ok x → Q x
      ends (Ok value) e x q = (b value (a.1 value e)).1 x q
      ends (Err refusal) e x q = absurd (let z : Err refusal ≡ Ok x = q in cc)

  refuse_lies : {A : Type 0} (P : A → Type 0) (b : Bool) (refusal : Refusal) (next : Look (Result A Refusal))
      → Lies P next → Lies P (refuse_if b refusal next)
  refuse_lies P true refusal next a = (none_in, λ x e. absurd (let z : Err refusal ≡ Ok x = e in cc))
  refuse_lies P false refusal next a = a

  judged_in : {A : Type 0} (look : Look (Result A Refusal)) (judge : A → Verdict) → Within look
      → Within (judged look judge)
  judged_in look judge a =
      on_in look (λ seen. Ends (either seen judge (λ refusal. Replies (Refused refusal)))) a none_in

  abbrev Any : {A : Type 0} → A → Type 0
  Any x = Unit {0}

  abbrev IsIn : Fid → Type 0
  IsIn fid = fid.fileset ≡ fs

  abbrev FoundIn : Fid × Nature → Type 0
  FoundIn found = found.0.fileset ≡ fs

  nature_lies : (fid : Fid) → IsIn fid → Lies Any (nature_look fid)
  nature_lies fid p = (more_in (record { fid = fid; kind = kind_for Traits }) [] p none_in, λ x e. tt)

  entries_lie : (fid : Fid) → IsIn fid → Lies Any (Looks fid Entries (λ entries. Ends (Ok entries)))
  entries_lie fid p = (more_in (record { fid = fid; kind = kind_for Entries }) [] p none_in, λ x e. tt)

  right_lies : {A : Type 0} (P : A → Type 0) (nature : Nature) (user : User) (right : ℕ)
      (next : Look (Result A Refusal)) → Lies P next → Lies P (permitted nature user right next)
  right_lies P nature user right next a =
      refuse_lies P (not (allows (rights_on nature user) right)) (Denied right) next a

  search_lies : (user : User) (fid : Fid) (nature : Nature) → IsIn fid → Lies Any (search_look user fid nature)
  search_lies user fid nature p =
      refuse_lies Any (not nature.dir) NotDir
      (permitted nature user execute_right (Looks fid Entries (λ entries. Ends (Ok entries))))
      (right_lies Any nature user execute_right (Looks fid Entries (λ entries. Ends (Ok entries))) (entries_lie fid p))

  step_lies : (user : User) (fid : Fid) (name : List ℕ) → IsIn fid → Lies IsIn (step_look user fid name)
  step_lies user fid name p =
      checked_lies Any IsIn (nature_look fid) (λ nature.
      checked (search_look user fid nature) (λ entries.
      Ends (and_then (entry_or_none (entry_named entries name)) (λ entry. Ok (fid_in fid entry))))) (nature_lies fid p)
      (λ nature _. checked_lies Any IsIn (search_look user fid nature) (λ entries.
      Ends (and_then (entry_or_none (entry_named entries name)) (λ entry. Ok (fid_in fid entry))))
      (search_lies user fid nature p)
      (λ entries _. ends_lie IsIn (and_then (entry_or_none (entry_named entries name)) (λ entry. Ok (fid_in fid entry)))
      (entered (entry_or_none (entry_named entries name)))))
    where
      entered : (r : Result DirEntry Refusal) (x : Fid) → and_then r (λ entry. Ok (fid_in fid entry)) ≡ Ok x → IsIn x
      entered (Ok entry) x e =
          let same : fid_in fid entry ≡ x = cc in ap (λ (f : Fid). f.fileset) (sym same) ∙ p
      entered (Err refusal) x e = absurd (let z : Err refusal ≡ Ok x = e in cc)

  walk_lies : (user : User) (names : List (List ℕ)) (fid : Fid) → IsIn fid → Lies IsIn (walk_look user fid names)
  walk_lies user [] fid p = ok_lies IsIn fid p
  walk_lies user (name ∷ names) fid p =
      checked_lies IsIn IsIn (step_look user fid name) (λ next. walk_look user next names) (step_lies user fid name p)
      (λ next q. walk_lies user names next q)

  module _ (user : User) (root : Fid) (path : List (List ℕ)) (at : IsIn root) where
    target_lies : Lies FoundIn (target_look user root path)
    target_lies =
        checked_lies IsIn FoundIn (walk_look user root path)
        (λ fid. checked (nature_look fid) (λ nature. Ends (Ok (fid, nature)))) (walk_lies user path root at)
        (λ fid q. checked_lies Any FoundIn (nature_look fid) (λ nature. Ends (Ok (fid, nature))) (nature_lies fid q)
        (λ nature _. ok_lies FoundIn (fid, nature) q))

    file_lies : Lies FoundIn (file_look user root path)
    file_lies = checked_lies FoundIn FoundIn (target_look user root path) file_ends target_lies ended
      where
        ended : (found : Fid × Nature) → FoundIn found → Lies FoundIn (file_ends found)
        ended (fid, nature) q =
            refuse_lies FoundIn nature.dir IsDir (Ends (Ok (fid, nature))) (ok_lies FoundIn (fid, nature) q)

    permitted_lies : (right : ℕ) → Lies FoundIn (permitted_look user root path right)
    permitted_lies right =
        checked_lies FoundIn FoundIn (file_look user root path) (right_ends user right) file_lies ended
      where
        ended : (found : Fid × Nature) → FoundIn found → Lies FoundIn (right_ends user right found)
        ended (fid, nature) q =
            right_lies FoundIn nature user right (Ends (Ok (fid, nature))) (ok_lies FoundIn (fid, nature) q)

    use_lies : (changing : Bool) (right : ℕ) → Lies IsIn (use_look user root path changing right)
    use_lies changing right =
        checked_lies FoundIn IsIn (file_look user root path) (use_ends user changing right) file_lies ended
      where
        ended : (found : Fid × Nature) → FoundIn found → Lies IsIn (use_ends user changing right found)
        ended (fid, nature) q =
            refuse_lies IsIn (changing && nature.read_only) ReadOnly (permitted nature user right (Ends (Ok fid)))
            (right_lies IsIn nature user right (Ends (Ok fid)) (ok_lies IsIn fid q))

    -- a call that reads bytes
    bytes_in : (n at : ℕ) (fid : Fid) → IsIn fid → Within (bytes_look fid at n)
    bytes_in zero at fid p = none_in
    bytes_in (suc n) at fid p =
        more_in (record { fid = fid; kind = kind_for (ByteAt at) }) _ p
        (on_in (bytes_look fid (suc at) n) (λ bytes. Ends (view fid (ByteAt at) ∷ bytes)) (bytes_in n (suc at) fid p)
        none_in)

    read_in : (from len : ℕ) → Within (read_look user root path from len)
    unfolding read_look
    read_in from len =
        judged_in (checked (permitted_look user root path read_right) (read_from from len))
        (λ bytes. Replies (BytesRead bytes))
        (checked_lies FoundIn Any (permitted_look user root path read_right) (read_from from len)
        (permitted_lies read_right) ended).0
      where
        ended : (found : Fid × Nature) → FoundIn found → Lies Any (read_from from len found)
        ended (fid, nature) q = (
          more_in (record { fid = fid; kind = kind_for Size }) _ q
              (on_in (bytes_look fid from (min len (view fid Size - from))) (λ bytes. Ends (Ok bytes))
              (bytes_in (min len (view fid Size - from)) from fid q) none_in),
          λ x e. tt,
        )

    -- a call that writes some
    target_in : (end : ℕ) → Lies IsIn (write_target_look user root path end)
    target_in end =
        checked_lies Any IsIn (nature_look root)
        (λ nature. refuse_if nature.read_only ReadOnly
        (checked (permitted_look user root path write_right) (fits_file end))) (nature_lies root at)
        (λ nature _. refuse_lies IsIn nature.read_only ReadOnly
        (checked (permitted_look user root path write_right) (fits_file end))
        (checked_lies FoundIn IsIn (permitted_look user root path write_right) (fits_file end)
        (permitted_lies write_right) ended))
      where
        ended : (found : Fid × Nature) → FoundIn found → Lies IsIn (fits_file end found)
        ended (fid, nature) q =
            refuse_lies IsIn (nat_lt FILE_BYTES_MAX end) TooBig (Ends (Ok fid)) (ok_lies IsIn fid q)

    takes_in : {R : Type 0} (fid : Fid) (from end size : ℕ) (next : Look R) → IsIn fid → Within next
        → Within (write_takes fid from end size next)
    takes_in fid from end size next p rest = go (nat_lt size end)
      where
        go : (b : Bool)
            → Within (if b
            then Takes (record { fid = fid; kind = StatusKind true })
            (Takes (record { fid = fid; kind = BytesKind true (rounded (min from size) end) }) next)
            else Takes (record { fid = fid; kind = BytesKind true (rounded from end) }) next)
        go true =
            more_in (record { fid = fid; kind = StatusKind true })
            (record { fid = fid; kind = BytesKind true (rounded (min from size) end) } ∷ needs_of view next) p
            (more_in (record { fid = fid; kind = BytesKind true (rounded (min from size) end) }) (needs_of view next) p
            rest)
        go false =
            more_in (record { fid = fid; kind = BytesKind true (rounded from end) }) (needs_of view next) p rest

    written_lies : (from : ℕ) (bytes : List ℕ) (fid : Fid) → IsIn fid → Lies Any (written_look from bytes fid)
    written_lies from [] fid p = (none_in, λ x e. tt)
    written_lies from (byte ∷ bytes) fid p = (
      more_in (record { fid = fid; kind = kind_for Size }) _ p
          (takes_in fid from (from + length (byte ∷ bytes)) (view fid Size) _ p none_in),
      λ x e. tt,
    )

    write_in : (from : ℕ) (bytes : List ℕ) → Within (write_look user root path from bytes)
    unfolding write_look
    write_in from bytes =
        judged_in (checked (write_target_look user root path (from + length bytes)) (written_look from bytes))
        (λ verdict. verdict)
        (checked_lies IsIn Any (write_target_look user root path (from + length bytes)) (written_look from bytes)
        (target_in (from + length bytes)) (λ fid q. written_lies from bytes fid q)).0

    -- the others
    list_in : Within (list_look user root path)
    unfolding list_look
    list_in =
        judged_in (checked (target_look user root path) (entries_for user))
        (λ entries. Replies (Names (names_of entries)))
        (checked_lies FoundIn Any (target_look user root path) (entries_for user) target_lies ended).0
      where
        ended : (found : Fid × Nature) → FoundIn found → Lies Any (entries_for user found)
        ended (fid, nature) q =
            refuse_lies Any (not nature.dir) NotDir
            (permitted nature user read_right (Looks fid Entries (λ entries. Ends (Ok entries))))
            (right_lies Any nature user read_right (Looks fid Entries (λ entries. Ends (Ok entries)))
            (entries_lie fid q))

    stat_in : Within (stat_look user root path)
    unfolding stat_look
    stat_in =
        judged_in (checked (target_look user root path) (facts_for user)) (λ facts. Replies (Facts facts))
        (checked_lies FoundIn Any (target_look user root path) (facts_for user) target_lies ended).0
      where
        ended : (found : Fid × Nature) → FoundIn found → Lies Any (facts_for user found)
        ended (fid, nature) q = (more_in (record { fid = fid; kind = kind_for Size }) [] q none_in, λ x e. tt)

    access_in : (which : Which) → Within (access_look user root path which)
    unfolding access_look
    access_in which =
        judged_in (checked (target_look user root path) (list_for which)) (λ list. Replies (Access list))
        (checked_lies FoundIn Any (target_look user root path) (list_for which) target_lies ended).0
      where
        ended : (found : Fid × Nature) → FoundIn found → Lies Any (list_for which found)
        ended (fid, nature) q = (none_in, λ x e. tt)

    sync_in : (own : Own) → Within (sync_look own user root path)
    unfolding sync_look
    sync_in own = judged_in (file_look user root path) (sync_verdict own) file_lies.0

    lock_in : (own : Own) (host : HostId) (writing : Bool) (from len : ℕ)
        → Within (lock_look own host user root path writing from len)
    unfolding lock_look
    lock_in own host writing from len =
        judged_in (checked (use_look user root path writing (if writing then write_right else read_right))
        (lock_for own host writing from len)) (λ fid. Locks fid writing (span_between from (from + len)))
        (checked_lies IsIn Any (use_look user root path writing (if writing then write_right else read_right))
        (lock_for own host writing from len) (use_lies writing (if writing then write_right else read_right))
        (λ fid q. refuse_lies Any (nat_lt FILE_BYTES_MAX (from + len)) TooBig _
        (refuse_lies Any (is_own_locked own.locks host fid (span_between from (from + len))) AlreadyLocked _ (
          more_in (record { fid = fid; kind = LockKind writing (span_between from (from + len)) }) [] q none_in,
          λ x e. tt,
        )))).0

    open_in : (kind : OpenKind) → Within (open_look user root path kind)
    unfolding open_look
    open_in kind =
        judged_in (checked (use_look user root path (is_changing kind) (right_to_open kind)) (open_for kind))
        (λ fid. Opens fid kind)
        (checked_lies IsIn Any (use_look user root path (is_changing kind) (right_to_open kind)) (open_for kind)
        (use_lies (is_changing kind) (right_to_open kind))
        (λ fid q. (more_in (record { fid = fid; kind = OpeningKind kind }) [] q none_in, λ x e. tt))).0

-- the fileset of a call, as the host has seen it, has what it needs
pub record SeenNeed (own : Own) (call : Call) (need : Need) : Type 0 where
  pub server : ServerId
  pub name : List ℕ
  pub id : FilesetId
  pub of : fileset_of call ≡ Some (server, name)
  pub seen : own.seen server name ≡ Some id
  pub fileset : need.fid.fileset ≡ id

module _ (view : View) (own : Own) (host : HostId) (user : User) (need : Need) where
  rooted : (call : Call) (server : ServerId) (name : List ℕ) (look : Fid → Look Verdict)
      → fileset_of call ≡ Some (server, name)
      → ((id : FilesetId) → Within id view (look (root_of id)))
      → In need (needs_of view (from_root server (own.seen server name) look)) → SeenNeed own call need
  rooted call server name look of all = go (own.seen server name) refl
    where
      go : (o : Option FilesetId) → own.seen server name ≡ o → In need (needs_of view (from_root server o look))
          → SeenNeed own call need
      go None e i = elim i [ ]
      go (Some id) e i =
          record { server = server; name = name; id = id; of = of; seen = e; fileset = all id need i }

  labelled : (used full : Bool) (refusal : Refusal) (look : Look Verdict)
      → In need (needs_of view (if used then refuse refusal else if full then refuse TooMany else look))
      → In need (needs_of view look)
  labelled true full refusal look i = elim i [ ]
  labelled false true refusal look i = elim i [ ]
  labelled false false refusal look i = i

  changing : (call : Call) (server : ServerId) (o : Option FilesetId)
      → In need (needs_of view (from_root server o change_look)) → SeenNeed own call need
  changing call server None i = elim i [ ]
  changing call server (Some id) i = elim i [ ]

  ending : (call : Call) (used last : Bool) (refusal : Refusal)
      → In need (needs_of view (if not used then refuse refusal else Ends (if last then Gives else Frees)))
      → SeenNeed own call need
  ending call false last refusal i = elim i [ ]
  ending call true last refusal i = elim i [ ]

  pub seen_need : (call : Call) → In need (needs_of view (call_look own host user call)) → SeenNeed own call need
  unfolding call_look
  seen_need (NewFileset server name objects owner) i = elim i [ ]
  seen_need (CloneFileset server source new) i = elim i [ ]
  seen_need (Create place) i = changing (Create place) place.server (own.seen place.server place.fileset) i
  seen_need (MakeDir place) i = changing (MakeDir place) place.server (own.seen place.server place.fileset) i
  seen_need (Remove place) i = changing (Remove place) place.server (own.seen place.server place.fileset) i
  seen_need (Rename from to) i = changing (Rename from to) from.server (own.seen from.server from.fileset) i
  seen_need (Truncate place len) i = changing (Truncate place len) place.server (own.seen place.server place.fileset) i
  seen_need (SetAcl place which list) i =
      changing (SetAcl place which list) place.server (own.seen place.server place.fileset) i
  seen_need (MoveFileset server name to) i = changing (MoveFileset server name to) server (own.seen server name) i
  seen_need (Read place from len) i =
      rooted (Read place from len) place.server place.fileset (λ root. read_look user root place.path from len) refl
      (λ id. read_in id view user (root_of id) place.path refl from len) i
  seen_need (Write place from bytes) i =
      rooted (Write place from bytes) place.server place.fileset (λ root. write_look user root place.path from bytes)
      refl (λ id. write_in id view user (root_of id) place.path refl from bytes) i
  seen_need (ListNames place) i =
      rooted (ListNames place) place.server place.fileset (λ root. list_look user root place.path) refl
      (λ id. list_in id view user (root_of id) place.path refl) i
  seen_need (Stat place) i =
      rooted (Stat place) place.server place.fileset (λ root. stat_look user root place.path) refl
      (λ id. stat_in id view user (root_of id) place.path refl) i
  seen_need (GetAcl place which) i =
      rooted (GetAcl place which) place.server place.fileset (λ root. access_look user root place.path which) refl
      (λ id. access_in id view user (root_of id) place.path refl which) i
  seen_need (Sync place) i =
      rooted (Sync place) place.server place.fileset (λ root. sync_look own user root place.path) refl
      (λ id. sync_in id view user (root_of id) place.path refl own) i
  seen_need (LockCall label place writing from len) i =
      rooted (LockCall label place writing from len) place.server place.fileset
      (λ root. lock_look own host user root place.path writing from len) refl
      (λ id. lock_in id view user (root_of id) place.path refl own host writing from len)
      (labelled (has_lock own.locks host label) (nat_le LABELS_MAX (lock_count own.locks host)) AlreadyLocked _ i)
  seen_need (OpenFile label place kind) i =
      rooted (OpenFile label place kind) place.server place.fileset (λ root. open_look user root place.path kind) refl
      (λ id. open_in id view user (root_of id) place.path refl kind)
      (labelled (has_open own.opens host label) (nat_le LABELS_MAX (open_count own.opens host)) AlreadyOpened _ i)
  seen_need (Unlock label) i =
      ending (Unlock label) (has_lock own.locks host label) (own.gives_lock label) NotLocked i
  seen_need (CloseFile label) i =
      ending (CloseFile label) (has_open own.opens host label) (own.gives_open label) NotOpened i
