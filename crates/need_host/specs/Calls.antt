-- What each call looks at, as a row of the call table, and what the host makes of it.
use Rattle.std.specs.Prelude.{
  ℕ,
  zero,
  suc,
  ◌+◌,
  ◌-◌,
  nat_lt,
  nat_le,
  min,
  Bool,
  true,
  ◌&&◌,
  not,
  if◌then◌else◌,
  List,
  [],
  ◌∷◌,
  length,
  slice_get,
  Option,
  Some,
  None,
  Result,
  Ok,
}
use Rattle.base_types.specs.Ids.{same_fid}
use Rattle.base_types.specs.Image.{byte_at}
use Rattle.base_types.specs.Outcomes.{either}
use Rattle.base_types.specs.declared.access.AccessEntry.{AccessEntry}
use Rattle.base_types.specs.declared.ids.HostId.{HostId}
use Rattle.base_types.specs.declared.ids.Fid.{Fid}
use Rattle.base_types.specs.declared.ids.FilesetId.{FilesetId}
use Rattle.base_types.specs.declared.ids.ServerId.{ServerId}
use Rattle.base_types.specs.declared.ids.OpenKind.{OpenKind}
use Rattle.base_types.specs.declared.limits.TheConstants.{FILE_BYTES_MAX, LABELS_MAX}
use Rattle.base_types.specs.declared.span.Span.{Span}
use Rattle.base_types.specs.declared.user.User.{User}
use Rattle.tree_calls.specs.declared.call.Call.{Call}
use Rattle.tree_calls.specs.declared.call.Call.TheVariants.{
  NewFileset,
  Create,
  MakeDir,
  Remove,
  Rename,
  Truncate,
  SetAcl,
}
use Rattle.tree_calls.specs.declared.call.Call.TheVariants.{
  CloneFileset,
  Read,
  Write,
  List as ListNames,
  Stat,
  GetAcl,
  Sync,
}
use Rattle.tree_calls.specs.declared.call.Call.TheVariants.{Lock, Unlock, OpenFile, CloseFile, MoveFileset}
use Rattle.tree_calls.specs.declared.part.DirEntry.{DirEntry}
use Rattle.tree_calls.specs.declared.place.Place.{Place}
use Rattle.tree_calls.specs.declared.place.Which.{Which}
use Rattle.tree_calls.specs.declared.reply.Facts.{Facts as FactsOf}
use Rattle.tree_calls.specs.declared.reply.Refusal.{Refusal}
use Rattle.tree_calls.specs.declared.reply.Refusal.TheVariants.{
  NotDir,
  TooBig,
  TooMany,
  AlreadyLocked,
  NotLocked,
  AlreadyOpened,
  NotOpened,
}
use Rattle.tree_calls.specs.declared.reply.Reply.{Reply}
use Rattle.tree_calls.specs.declared.reply.Reply.TheVariants.{Ok as Done, Bytes, Names, Facts, Access, Refused}
use Rattle.tree_objects.specs.Entries.{names_of}
use Rattle.tree_objects.specs.Objects.{list_index, list_or_refused}
use Rattle.tree_objects.specs.Spans.{span_between}
use Rattle.tree_filesets.specs.Rights.{read_right, write_right}
use Rattle.tree_filesets.specs.Uses.{is_changing, right_to_open}
use Rattle.tree_answers.specs.declared.tree.LockUse.{LockUse}
use Rattle.tree_answers.specs.declared.tree.OpenUse.{OpenUse}
use Rattle.tree_answers.specs.Locks.{has_lock, lock_count, is_own_locked}
use Rattle.tree_answers.specs.Opens.{has_open, open_count}
use Rattle.token_types.specs.declared.token.Kind.TheVariants.{
  Bytes as BytesKind,
  Status as StatusKind,
  Lock as LockKind,
  Opening as OpeningKind,
}
use Rattle.tree_laws.specs.Parts.{Part, Seen, Nature}
use Rattle.tree_laws.specs.Parts.Part.{ByteAt, Size, Traits, Entries}
use Rattle.need_host.specs.Looks.{View, Look, look_on, checked, refuse_if, rounded}
use Rattle.need_host.specs.Looks.Look.{Ends, Looks, Takes}
use Rattle.need_host.specs.Questions.{Question}
use Rattle.need_host.specs.Questions.Question.{EnterAt, ChangeIn, ChangeAt}
use Rattle.need_host.specs.Walks.{
  root_of,
  rights_on,
  permitted,
  target_look,
  file_look,
  permitted_look,
  writable_look,
  use_look,
}

-- what a host makes of a call
pub data Verdict : Type 0 where
  -- it replies, and nothing changes
  Replies : Reply → Verdict
  -- it replies ok, and these bytes of the file are its unsaved changes
  Writes : Fid → ℕ → List ℕ → Verdict
  -- it replies ok, and the file is locked, or open, under the call's label
  Locks : Fid → Bool → Span → Verdict
  Opens : Fid → OpenKind → Verdict
  -- it replies ok, and the label is no longer in use
  Frees : Verdict
  -- it replies ok once the server has taken what the host gives back: its changes of the file, or the use of a label
  Gives : Verdict
  -- it asks a server
  Asks : Question → Verdict

-- the reply that the host gives at once
abbrev pub reply_now : Verdict → Option Reply
reply_now (Replies reply) = Some reply
reply_now (Writes fid from bytes) = Some Done
reply_now (Locks fid writing span) = Some Done
reply_now (Opens fid kind) = Some Done
reply_now Frees = Some Done
reply_now Gives = None
reply_now (Asks question) = None

-- the reply that the host gives by itself, at once or later
abbrev pub reply_of : Verdict → Option Reply
reply_of Gives = Some Done
reply_of verdict = reply_now verdict

-- What a host knows of itself.
pub record Own : Type 0 where
  -- its locks and open files by label, counting those whose end it has given back and doesn't know as taken
  pub locks : List LockUse
  pub opens : List OpenUse
  -- whether the server has to take the end of a label: it is the last use of a pinned token, or was given back already
  pub gives_lock : List ℕ → Bool
  pub gives_open : List ℕ → Bool
  -- whether nothing of a file is dirty, and nothing that it gave back of the file isn't known as taken
  pub is_clean : Fid → Bool
  -- the filesets that it has seen: what a server and a name lead to, wherever the fileset is by now
  pub seen : ServerId → List ℕ → Option FilesetId

-- a verdict, or a refusal
abbrev pub judged : {A : Type 0} → Look (Result A Refusal) → (A → Verdict) → Look Verdict
judged look judge = look_on look (λ seen. Ends (either seen judge (λ refusal. Replies (Refused refusal))))

-- a look from the root of a fileset on, which the host has to have seen
abbrev pub from_root : ServerId → Option FilesetId → (Fid → Look Verdict) → Look Verdict
from_root server None look = Ends (Asks (EnterAt server))
from_root server (Some id) look = look (root_of id)

-- so with the fileset of a place
abbrev pub in_place : Own → Place → (Fid → Look Verdict) → Look Verdict
in_place own place look = from_root place.server (own.seen place.server place.fileset) look

-- a Change, which the server decides
abbrev pub change_look : Fid → Look Verdict
change_look root = Ends (Asks (ChangeIn root.fileset))

-- so many bytes from a position on
abbrev pub bytes_look : Fid → ℕ → ℕ → Look (List ℕ)
bytes_look fid at zero = Ends []
bytes_look fid at (suc n) =
    Looks fid (ByteAt at) (λ byte. look_on (bytes_look fid (suc at) n) (λ bytes. Ends (byte ∷ bytes)))

-- the bytes of from..min(from + len, length)
abbrev pub read_from : ℕ → ℕ → Fid × Nature → Look (Result (List ℕ) Refusal)
read_from from len (fid, nature) =
    Looks fid Size (λ size. look_on (bytes_look fid from (min len (size - from))) (λ bytes. Ends (Ok bytes)))

-- Read: walk; IsDir; Denied (read). The bytes
unfoldable pub read_look : User → Fid → List (List ℕ) → ℕ → ℕ → Look Verdict
read_look user root path from len =
    judged (checked (permitted_look user root path read_right) (read_from from len)) (λ bytes. Replies (Bytes bytes))

abbrev pub fits_file : ℕ → Fid × Nature → Look (Result Fid Refusal)
fits_file end (fid, nature) = refuse_if (nat_lt FILE_BYTES_MAX end) TooBig (Ends (Ok fid))

-- Write: ReadOnly; walk; IsDir; Denied (write); TooBig
abbrev pub write_target_look : User → Fid → List (List ℕ) → ℕ → Look (Result Fid Refusal)
write_target_look user root path end =
    writable_look root (checked (permitted_look user root path write_right) (fits_file end))

-- the tokens of a Write: bytes for update; beyond the length also the status, and the bytes from the length on
abbrev pub write_takes : {R : Type 0} → Fid → ℕ → ℕ → ℕ → Look R → Look R
write_takes fid from end size next =
    if nat_lt size end
    then Takes (record { fid = fid; kind = StatusKind true })
    (Takes (record { fid = fid; kind = BytesKind true (rounded (min from size) end) }) next)
    else Takes (record { fid = fid; kind = BytesKind true (rounded from end) }) next

-- no bytes change nothing
abbrev pub written_look : ℕ → List ℕ → Fid → Look (Result Verdict Refusal)
written_look from [] fid = Ends (Ok (Replies Done))
written_look from (byte ∷ bytes) fid =
    Looks fid Size (λ size.
    write_takes fid from (from + length (byte ∷ bytes)) size (Ends (Ok (Writes fid from (byte ∷ bytes)))))

unfoldable pub write_look : User → Fid → List (List ℕ) → ℕ → List ℕ → Look Verdict
write_look user root path from bytes =
    judged (checked (write_target_look user root path (from + length bytes)) (written_look from bytes))
    (λ verdict. verdict)

abbrev pub entries_for : User → Fid × Nature → Look (Result (List DirEntry) Refusal)
entries_for user (fid, nature) =
    refuse_if (not nature.dir) NotDir (
    permitted nature user read_right (
    Looks fid Entries (λ entries. Ends (Ok entries))))

-- List: walk; NotDir; Denied (read). The names in the order of their bytes
unfoldable pub list_look : User → Fid → List (List ℕ) → Look Verdict
list_look user root path =
    judged (checked (target_look user root path) (entries_for user)) (λ entries. Replies (Names (names_of entries)))

-- kind, length (entries of a directory), owner, the caller's rights
abbrev pub facts_for : User → Fid × Nature → Look (Result FactsOf Refusal)
facts_for user (fid, nature) =
    Looks fid Size (λ size.
    let facts : FactsOf = record {
      dir = nature.dir;
      length = min size 4294967295;
      owner = nature.owner;
      rights = rights_on nature user;
    } in
    Ends (Ok facts))

-- Stat: walk. The facts
unfoldable pub stat_look : User → Fid → List (List ℕ) → Look Verdict
stat_look user root path =
    judged (checked (target_look user root path) (facts_for user)) (λ facts. Replies (Facts facts))

-- an access list; a file has only its own
abbrev pub list_in : Which → Nature → Result (List AccessEntry) Refusal
list_in which nature = list_or_refused (slice_get nature.lists (list_index which))

abbrev pub list_for : Which → Fid × Nature → Look (Result (List AccessEntry) Refusal)
list_for which (fid, nature) = Ends (list_in which nature)

-- GetAcl: walk; NotDir. The list
unfoldable pub access_look : User → Fid → List (List ℕ) → Which → Look Verdict
access_look user root path which =
    judged (checked (target_look user root path) (list_for which)) (λ list. Replies (Access list))

abbrev pub sync_verdict : Own → Fid × Nature → Verdict
sync_verdict own (fid, nature) = if own.is_clean fid then Replies Done else Gives

-- Sync: walk; IsDir. The host's unsaved changes of the file become kept
unfoldable pub sync_look : Own → User → Fid → List (List ℕ) → Look Verdict
sync_look own user root path = judged (file_look user root path) (sync_verdict own)

abbrev pub lock_for : Own → HostId → Bool → ℕ → ℕ → Fid → Look (Result Fid Refusal)
lock_for own host writing from len fid =
    let span = span_between from (from + len) in
    refuse_if (nat_lt FILE_BYTES_MAX (from + len)) TooBig (
    refuse_if (is_own_locked own.locks host fid span) AlreadyLocked (
    Takes (record { fid = fid; kind = LockKind writing span }) (Ends (Ok fid))))

-- Lock: label, TooMany; fileset; walk; IsDir; ReadOnly; Denied; TooBig; AlreadyLocked (overlap); the exact token
unfoldable pub lock_look : Own → HostId → User → Fid → List (List ℕ) → Bool → ℕ → ℕ → Look Verdict
lock_look own host user root path writing from len =
    judged
    (checked (use_look user root path writing (if writing then write_right else read_right))
    (lock_for own host writing from len))
    (λ fid. Locks fid writing (span_between from (from + len)))

abbrev pub open_for : OpenKind → Fid → Look (Result Fid Refusal)
open_for kind fid = Takes (record { fid = fid; kind = OpeningKind kind }) (Ends (Ok fid))

-- OpenFile: label, TooMany; fileset; walk; IsDir; ReadOnly; Denied; the exact token
unfoldable pub open_look : User → Fid → List (List ℕ) → OpenKind → Look Verdict
open_look user root path kind =
    judged (checked (use_look user root path (is_changing kind) (right_to_open kind)) (open_for kind))
    (λ fid. Opens fid kind)

abbrev pub refuse : Refusal → Look Verdict
refuse refusal = Ends (Replies (Refused refusal))

-- a call of a host's user
unfoldable pub call_look : Own → HostId → User → Call → Look Verdict
call_look own host user (NewFileset server name objects owner) = Ends (Asks (ChangeAt server))
call_look own host user (Create place) = in_place own place change_look
call_look own host user (MakeDir place) = in_place own place change_look
call_look own host user (Remove place) = in_place own place change_look
call_look own host user (Rename from to) = in_place own from change_look
call_look own host user (Truncate place len) = in_place own place change_look
call_look own host user (SetAcl place which list) = in_place own place change_look
call_look own host user (CloneFileset server source new) = Ends (Asks (ChangeAt server))
call_look own host user (Read place from len) =
    in_place own place (λ root. read_look user root place.path from len)
call_look own host user (Write place from bytes) =
    in_place own place (λ root. write_look user root place.path from bytes)
call_look own host user (ListNames place) = in_place own place (λ root. list_look user root place.path)
call_look own host user (Stat place) = in_place own place (λ root. stat_look user root place.path)
call_look own host user (GetAcl place which) = in_place own place (λ root. access_look user root place.path which)
call_look own host user (Sync place) = in_place own place (λ root. sync_look own user root place.path)
call_look own host user (Lock label place writing from len) =
    if has_lock own.locks host label then refuse AlreadyLocked
    else if nat_le LABELS_MAX (lock_count own.locks host) then refuse TooMany
    else in_place own place (λ root. lock_look own host user root place.path writing from len)
call_look own host user (Unlock label) =
    if not (has_lock own.locks host label) then refuse NotLocked
    else Ends (if own.gives_lock label then Gives else Frees)
call_look own host user (OpenFile label place kind) =
    if has_open own.opens host label then refuse AlreadyOpened
    else if nat_le LABELS_MAX (open_count own.opens host) then refuse TooMany
    else in_place own place (λ root. open_look user root place.path kind)
call_look own host user (CloseFile label) =
    if not (has_open own.opens host label) then refuse NotOpened
    else Ends (if own.gives_open label then Gives else Frees)
call_look own host user (MoveFileset server name to) = from_root server (own.seen server name) change_look

-- what a write leaves of a part that is seen
abbrev pub written_value : ℕ → List ℕ → (part : Part) → Seen part → Seen part
written_value from bytes (ByteAt at) byte =
    if nat_le from at && nat_lt at (from + length bytes) then byte_at bytes (at - from) else byte
written_value from bytes Size size = if nat_lt size (from + length bytes) then from + length bytes else size
written_value from bytes Traits seen = seen
written_value from bytes Entries seen = seen

-- what a host's answer leaves of its view: its own writes change it, and nothing else does
abbrev pub view_after : Verdict → View → View
view_after (Writes written from bytes) view fid part =
    if same_fid written fid then written_value from bytes part (view fid part) else view fid part
view_after verdict view fid part = view fid part
