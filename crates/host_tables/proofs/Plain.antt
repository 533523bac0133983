-- Looks whose needs hang on no byte that is seen.
use Rattle.std.proofs.Common.{[]}
use Rattle.base_types.specs.Access.{allows}
use Rattle.base_types.specs.Outcomes.{and_then, either}
use Rattle.base_types.specs.declared.access.AccessEntry.{AccessEntry}
use Rattle.base_types.specs.declared.ids.Fid.{Fid}
use Rattle.base_types.specs.declared.ids.FilesetId.{FilesetId}
use Rattle.base_types.specs.declared.ids.HostId.{HostId}
use Rattle.base_types.specs.declared.ids.OpenKind.{OpenKind}
use Rattle.base_types.specs.declared.limits.TheConstants.{FILE_BYTES_MAX, LABELS_MAX}
use Rattle.base_types.specs.declared.span.Span.{Span}
use Rattle.base_types.specs.declared.user.User.{User}
use Rattle.host_tables.proofs.Lists.{by_test, true_false}
use Rattle.host_tables.specs.Plain.{CallsArePlain, CallsEnterDirs, EntersDirs, IsOfFile, IsPlain, NoBytes}
use Rattle.host_tables.specs.Plain.{PlainNeedsAlike}
use Rattle.need_host.proofs.Looking.{outcome_checked}
use Rattle.need_host.specs.Calls.{Own, Verdict, access_look, bytes_look, call_look, change_look, entries_for}
use Rattle.need_host.specs.Calls.{facts_for, fits_file, from_root, in_place, judged, list_for, list_look, lock_for}
use Rattle.need_host.specs.Calls.{lock_look, open_for, open_look, read_from, read_look, refuse, stat_look, sync_look}
use Rattle.need_host.specs.Calls.{sync_verdict, write_look, write_target_look, written_look}
use Rattle.need_host.specs.Calls.Verdict.{Frees, Gives, Locks, Opens, Replies}
use Rattle.need_host.specs.Laws.{AgreeUnder}
use Rattle.need_host.specs.Looks.{IsFirstLack, Look, View, after_check, checked, kind_for, look_on, needs_of, outcome}
use Rattle.need_host.specs.Looks.{refuse_if}
use Rattle.need_host.specs.Looks.Look.{Ends, Looks, Takes}
use Rattle.need_host.specs.Walks.{fid_in, file_look, nature_look, permitted, permitted_look, rights_on, root_of}
use Rattle.need_host.specs.Walks.{search_look, step_look, target_look, use_look, walk_look}
use Rattle.run_rules.specs.Messages.{stay_of}
use Rattle.std.proofs.Common.{Bool, Err, List, None, Ok, Option, Result, Some, ap, false, if◌then◌else◌, inl, inr}
use Rattle.std.proofs.Common.{length, min, nat_le, nat_lt, not, refl, subst, suc, sym, true, zero, ℕ, ◌&&◌, ◌+◌, ◌-◌}
use Rattle.std.proofs.Common.{◌∙◌, ◌∷◌, ◌≡◌}
use Rattle.std.specs.List.{list_any}
use Rattle.token_types.specs.Covers.{Covers, covers_alone, covers_byte}
use Rattle.token_types.specs.declared.token.Kind.TheVariants.{Bytes, Lock as LockKind, Status}
use Rattle.token_types.specs.declared.token.Need.{Need}
use Rattle.token_types.specs.declared.token.Token.{Token}
use Rattle.tree_answers.specs.Finding.{found_or}
use Rattle.tree_answers.specs.Locks.{has_lock, is_own_locked, lock_count}
use Rattle.tree_answers.specs.Opens.{has_open, open_count}
use Rattle.tree_calls.specs.declared.call.Call.TheVariants.{CloneFileset, CloseFile, Create, GetAcl}
use Rattle.tree_calls.specs.declared.call.Call.TheVariants.{List as ListNames, Lock, MakeDir, MoveFileset, NewFileset}
use Rattle.tree_calls.specs.declared.call.Call.TheVariants.{OpenFile, Read, Remove, Rename, SetAcl, Stat, Sync}
use Rattle.tree_calls.specs.declared.call.Call.TheVariants.{Truncate, Unlock, Write}
use Rattle.tree_calls.specs.declared.part.DirEntry.{DirEntry}
use Rattle.tree_calls.specs.declared.place.Place.{Place as NamedPlace}
use Rattle.tree_calls.specs.declared.place.Which.{Which}
use Rattle.tree_calls.specs.declared.reply.Facts.{Facts as FactsOf}
use Rattle.tree_calls.specs.declared.reply.Refusal.{Refusal}
use Rattle.tree_calls.specs.declared.reply.Refusal.TheVariants.{AlreadyLocked, AlreadyOpened, Denied, IsDir, NoEntry}
use Rattle.tree_calls.specs.declared.reply.Refusal.TheVariants.{NotDir, NotLocked, NotOpened, ReadOnly, TooBig}
use Rattle.tree_calls.specs.declared.reply.Refusal.TheVariants.{TooMany}
use Rattle.tree_calls.specs.declared.reply.Reply.TheVariants.{Access, Bytes as BytesReply, Facts, Names, Refused}
use Rattle.tree_filesets.specs.Rights.{execute_right, read_right, write_right}
use Rattle.tree_filesets.specs.Uses.{is_changing, right_to_open}
use Rattle.tree_filesets.specs.Walk.{entry_or_none}
use Rattle.tree_laws.specs.Parts.{Nature}
use Rattle.tree_laws.specs.Parts.Part.{ByteAt, Entries, Size, Traits}
use Rattle.tree_objects.specs.Entries.{entry_named, names_of}
use Rattle.tree_objects.specs.Spans.{span_between, whole}

no_bytes_plain : {R : Type 0} (look : Look R) → NoBytes look → IsPlain look
no_bytes_plain (Ends result) n = tt
no_bytes_plain (Takes need next) n = absurd n
no_bytes_plain (Looks fid (ByteAt at) next) n = absurd n
no_bytes_plain (Looks fid Size next) n = λ x. no_bytes_plain (next x) (n x)
no_bytes_plain (Looks fid Traits next) n = λ x. no_bytes_plain (next x) (n x)
no_bytes_plain (Looks fid Entries next) n = λ x. no_bytes_plain (next x) (n x)

-- one look after another
no_bytes_on : {A B : Type 0} (look : Look A) (next : A → Look B) → NoBytes look → ((a : A) → NoBytes (next a))
    → NoBytes (look_on look next)
no_bytes_on (Ends result) next n k = k result
no_bytes_on (Takes need after) next n k = absurd n
no_bytes_on (Looks fid (ByteAt at) after) next n k = absurd n
no_bytes_on (Looks fid Size after) next n k = λ x. no_bytes_on (after x) next (n x) k
no_bytes_on (Looks fid Traits after) next n k = λ x. no_bytes_on (after x) next (n x) k
no_bytes_on (Looks fid Entries after) next n k = λ x. no_bytes_on (after x) next (n x) k

plain_on : {A B : Type 0} (look : Look A) (next : A → Look B) → NoBytes look → ((a : A) → IsPlain (next a))
    → IsPlain (look_on look next)
plain_on (Ends result) next n k = k result
plain_on (Takes need after) next n k = absurd n
plain_on (Looks fid (ByteAt at) after) next n k = absurd n
plain_on (Looks fid Size after) next n k = λ x. plain_on (after x) next (n x) k
plain_on (Looks fid Traits after) next n k = λ x. plain_on (after x) next (n x) k
plain_on (Looks fid Entries after) next n k = λ x. plain_on (after x) next (n x) k

pub needs_ended : {A B : Type 0} (view : View) (look : Look A) (f : A → B)
    → needs_of view (look_on look (λ a. Ends (f a))) ≡ needs_of view look
needs_ended view (Ends result) f = refl
needs_ended view (Takes need after) f = ap (λ (l : List Need). need ∷ l) (needs_ended view after f)
needs_ended view (Looks fid part after) f = ap (λ (l : List Need). record { fid = fid; kind = kind_for part } ∷ l)
    (needs_ended view (after (view fid part)) f)

plain_ended : {A B : Type 0} (look : Look A) (f : A → B) → IsPlain look → IsPlain (look_on look (λ a. Ends (f a)))
plain_ended (Ends result) f p = tt
plain_ended (Takes need after) f p = λ a b. needs_ended a after f ∙ (p a b ∙ sym (needs_ended b after f))
plain_ended (Looks fid (ByteAt at) after) f p = λ x y a b. needs_ended a (after x) f
    ∙ (p x y a b ∙ sym (needs_ended b (after y) f))
plain_ended (Looks fid Size after) f p = λ x. plain_ended (after x) f (p x)
plain_ended (Looks fid Traits after) f p = λ x. plain_ended (after x) f (p x)
plain_ended (Looks fid Entries after) f p = λ x. plain_ended (after x) f (p x)

-- after a check
no_bytes_then : {A B : Type 0} (look : Look (Result A Refusal)) (next : A → Look (Result B Refusal)) → NoBytes look
    → ((a : A) → NoBytes (next a)) → NoBytes (checked look next)
no_bytes_then {A = A} {B = B} look next n k = no_bytes_on look (after_check next) n by_case
  where
    by_case : (r : Result A Refusal) → NoBytes (after_check next r)
    by_case (Ok value) = k value
    by_case (Err refusal) = tt

plain_then : {A B : Type 0} (look : Look (Result A Refusal)) (next : A → Look (Result B Refusal)) → NoBytes look
    → ((a : A) → IsPlain (next a)) → IsPlain (checked look next)
plain_then {A = A} {B = B} look next n k = plain_on look (after_check next) n by_case
  where
    by_case : (r : Result A Refusal) → IsPlain (after_check next r)
    by_case (Ok value) = k value
    by_case (Err refusal) = tt

no_bytes_refuse : {A : Type 0} (b : Bool) (r : Refusal) (next : Look (Result A Refusal)) → NoBytes next
    → NoBytes (refuse_if b r next)
no_bytes_refuse true r next n = tt
no_bytes_refuse false r next n = n

plain_refuse : {A : Type 0} (b : Bool) (r : Refusal) (next : Look (Result A Refusal)) → IsPlain next
    → IsPlain (refuse_if b r next)
plain_refuse true r next n = tt
plain_refuse false r next n = n

judged_plain : {A : Type 0} (look : Look (Result A Refusal)) (judge : A → Verdict) → IsPlain look
    → IsPlain (judged look judge)
judged_plain look judge p = plain_ended look (λ seen. either seen judge (λ refusal. Replies (Refused refusal))) p

-- walks
nature_plain : (fid : Fid) → NoBytes (nature_look fid)
nature_plain fid = λ x. tt

abbrev entry_in : Fid → List ℕ → List DirEntry → Look (Result Fid Refusal)
entry_in fid name entries = Ends (and_then (entry_or_none (entry_named entries name)) (λ entry. Ok (fid_in fid entry)))

abbrev step_from : User → Fid → List ℕ → Nature → Look (Result Fid Refusal)
step_from user fid name nature = checked (search_look user fid nature) (entry_in fid name)

permitted_on : {A : Type 0} (nature : Nature) (user : User) (right : ℕ) (next : Look (Result A Refusal)) → NoBytes next
    → NoBytes (permitted nature user right next)
permitted_on nature user right next n = no_bytes_refuse (not (allows (rights_on nature user) right)) (Denied right) next
    n

search_plain : (user : User) (fid : Fid) (nature : Nature) → NoBytes (search_look user fid nature)
search_plain user fid nature =
    let next : Look (Result (List DirEntry) Refusal) = Looks fid Entries (λ entries. Ends (Ok entries)) in
    no_bytes_refuse (not nature.dir) NotDir (permitted nature user execute_right next)
    (permitted_on nature user execute_right next (λ x. tt))

step_from_plain : (user : User) (fid : Fid) (name : List ℕ) (nature : Nature) → NoBytes (step_from user fid name nature)
step_from_plain user fid name nature = no_bytes_then (search_look user fid nature) (entry_in fid name)
    (search_plain user fid nature) (λ entries. tt)

step_plain : (user : User) (fid : Fid) (name : List ℕ) → NoBytes (step_look user fid name)
step_plain user fid name = no_bytes_then (nature_look fid) (step_from user fid name) (nature_plain fid)
    (step_from_plain user fid name)

walk_plain : (user : User) (fid : Fid) (path : List (List ℕ)) → NoBytes (walk_look user fid path)
walk_plain user fid [] = tt
walk_plain user fid (name ∷ names) =
    no_bytes_then (step_look user fid name) (λ next. walk_look user next names) (step_plain user fid name)
    (λ next. walk_plain user next names)

abbrev with_nature : Fid → Nature → Look (Result (Fid × Nature) Refusal)
with_nature fid nature = Ends (Ok (fid, nature))

abbrev natured : Fid → Look (Result (Fid × Nature) Refusal)
natured fid = checked (nature_look fid) (with_nature fid)

natured_plain : (fid : Fid) → NoBytes (natured fid)
natured_plain fid = no_bytes_then (nature_look fid) (with_nature fid) (nature_plain fid) (λ nature. tt)

target_plain : (user : User) (root : Fid) (path : List (List ℕ)) → NoBytes (target_look user root path)
target_plain user root path = no_bytes_then (walk_look user root path) natured (walk_plain user root path) natured_plain

abbrev file_of : Fid × Nature → Look (Result (Fid × Nature) Refusal)
file_of (fid, nature) = refuse_if nature.dir IsDir (Ends (Ok (fid, nature)))

file_of_plain : (found : Fid × Nature) → NoBytes (file_of found)
file_of_plain (fid, nature) = no_bytes_refuse nature.dir IsDir (with_nature fid nature) tt

file_plain : (user : User) (root : Fid) (path : List (List ℕ)) → NoBytes (file_look user root path)
file_plain user root path = no_bytes_then (target_look user root path) file_of (target_plain user root path)
    file_of_plain

abbrev permitted_of : User → ℕ → Fid × Nature → Look (Result (Fid × Nature) Refusal)
permitted_of user right (fid, nature) = permitted nature user right (Ends (Ok (fid, nature)))

permitted_of_plain : (user : User) (right : ℕ) (found : Fid × Nature) → NoBytes (permitted_of user right found)
permitted_of_plain user right (fid, nature) = permitted_on nature user right (with_nature fid nature) tt

permitted_plain : (user : User) (root : Fid) (path : List (List ℕ)) (right : ℕ)
    → NoBytes (permitted_look user root path right)
permitted_plain user root path right =
    no_bytes_then (file_look user root path) (permitted_of user right) (file_plain user root path)
    (permitted_of_plain user right)

abbrev used_of : User → Bool → ℕ → Fid × Nature → Look (Result Fid Refusal)
used_of user changing right (fid, nature) =
    refuse_if (changing && nature.read_only) ReadOnly (permitted nature user right (Ends (Ok fid)))

used_of_plain : (user : User) (changing : Bool) (right : ℕ) (found : Fid × Nature)
    → NoBytes (used_of user changing right found)
used_of_plain user changing right (fid, nature) =
    let end : Look (Result Fid Refusal) = Ends (Ok fid) in
    no_bytes_refuse (changing && nature.read_only) ReadOnly (permitted nature user right end)
    (permitted_on nature user right end tt)

use_plain : (user : User) (root : Fid) (path : List (List ℕ)) (changing : Bool) (right : ℕ)
    → NoBytes (use_look user root path changing right)
use_plain user root path changing right =
    no_bytes_then (file_look user root path) (used_of user changing right) (file_plain user root path)
    (used_of_plain user changing right)

abbrev writable_from : {A : Type 0} → Look (Result A Refusal) → Nature → Look (Result A Refusal)
writable_from next nature = refuse_if nature.read_only ReadOnly next

fits_plain : (end : ℕ) (found : Fid × Nature) → NoBytes (fits_file end found)
fits_plain end (fid, nature) = let done : Look (Result Fid Refusal) = Ends (Ok fid) in
    no_bytes_refuse (nat_lt FILE_BYTES_MAX end) TooBig done tt

write_target_plain : (user : User) (root : Fid) (path : List (List ℕ)) (end : ℕ)
    → NoBytes (write_target_look user root path end)
write_target_plain user root path end =
    let next : Look (Result Fid Refusal) = checked (permitted_look user root path write_right) (fits_file end) in
    no_bytes_then (nature_look root) (writable_from next) (nature_plain root)
    (λ nature. no_bytes_refuse nature.read_only ReadOnly next
    (no_bytes_then (permitted_look user root path write_right) (fits_file end)
    (permitted_plain user root path write_right) (fits_plain end)))

-- bytes
bytes_same : (fid : Fid) (n at : ℕ) (a b : View) → needs_of a (bytes_look fid at n) ≡ needs_of b (bytes_look fid at n)
bytes_same fid zero at a b = refl
bytes_same fid (suc n) at a b =
    ap (λ (l : List Need). record { fid = fid; kind = kind_for (ByteAt at) } ∷ l)
    (needs_ended a (bytes_look fid (suc at) n) (λ bytes. a fid (ByteAt at) ∷ bytes) ∙ (bytes_same fid n (suc at) a b
    ∙ sym (needs_ended b (bytes_look fid (suc at) n) (λ bytes. b fid (ByteAt at) ∷ bytes))))

bytes_plain : (fid : Fid) (n at : ℕ) → IsPlain (bytes_look fid at n)
bytes_plain fid zero at = tt
bytes_plain fid (suc n) at = λ x y a b.
    needs_ended a (bytes_look fid (suc at) n) (λ bytes. x ∷ bytes) ∙ (bytes_same fid n (suc at) a b
    ∙ sym (needs_ended b (bytes_look fid (suc at) n) (λ bytes. y ∷ bytes)))

takes_same : {R : Type 0} (b : Bool) (status over beyond : Need) (result : R)
    → IsPlain (if b then Takes status (Takes over (Ends result)) else Takes beyond (Ends result))
takes_same true status over beyond result = λ a b. refl
takes_same false status over beyond result = λ a b. refl

written_plain : (from : ℕ) (bytes : List ℕ) (fid : Fid) → IsPlain (written_look from bytes fid)
written_plain from [] fid = tt
written_plain from (byte ∷ bytes) fid = λ size. takes_same (nat_lt size (from + length (byte ∷ bytes))) _ _ _ _

-- the calls
abbrev bytes_from : Fid → ℕ → ℕ → ℕ → Look (Result (List ℕ) Refusal)
bytes_from fid from len size = look_on (bytes_look fid from (min len (size - from))) (λ bytes. Ends (Ok bytes))

read_from_plain : (from len : ℕ) (found : Fid × Nature) → IsPlain (read_from from len found)
read_from_plain from len (fid, nature) =
    let fine : List ℕ → Result (List ℕ) Refusal = λ bytes. Ok bytes in
    λ size. plain_ended (bytes_look fid from (min len (size - from))) fine
    (bytes_plain fid (min len (size - from)) from)

read_plain : (user : User) (root : Fid) (path : List (List ℕ)) (from len : ℕ)
    → IsPlain (read_look user root path from len)
unfolding read_look
read_plain user root path from len =
    judged_plain (checked (permitted_look user root path read_right) (read_from from len))
    (λ bytes. Replies (BytesReply bytes))
    (plain_then (permitted_look user root path read_right) (read_from from len)
    (permitted_plain user root path read_right) (read_from_plain from len))

write_plain : (user : User) (root : Fid) (path : List (List ℕ)) (from : ℕ) (bytes : List ℕ)
    → IsPlain (write_look user root path from bytes)
unfolding write_look
write_plain user root path from bytes =
    let end : ℕ = from + length bytes in
    judged_plain (checked (write_target_look user root path end) (written_look from bytes)) (λ verdict. verdict)
    (plain_then (write_target_look user root path end) (written_look from bytes) (write_target_plain user root path end)
    (written_plain from bytes))

entries_for_plain : (user : User) (found : Fid × Nature) → NoBytes (entries_for user found)
entries_for_plain user (fid, nature) =
    let next : Look (Result (List DirEntry) Refusal) = Looks fid Entries (λ entries. Ends (Ok entries)) in
    no_bytes_refuse (not nature.dir) NotDir (permitted nature user read_right next)
    (permitted_on nature user read_right next (λ x. tt))

list_plain : (user : User) (root : Fid) (path : List (List ℕ)) → IsPlain (list_look user root path)
unfolding list_look
list_plain user root path =
    let look : Look (Result (List DirEntry) Refusal) = checked (target_look user root path) (entries_for user) in
    judged_plain look (λ entries. Replies (Names (names_of entries)))
    (no_bytes_plain look (no_bytes_then (target_look user root path) (entries_for user) (target_plain user root path)
    (entries_for_plain user)))

facts_plain : (user : User) (found : Fid × Nature) → NoBytes (facts_for user found)
facts_plain user (fid, nature) = λ size. tt

stat_plain : (user : User) (root : Fid) (path : List (List ℕ)) → IsPlain (stat_look user root path)
unfolding stat_look
stat_plain user root path =
    let look : Look (Result FactsOf Refusal) = checked (target_look user root path) (facts_for user) in
    judged_plain look (λ facts. Replies (Facts facts))
    (no_bytes_plain look (no_bytes_then (target_look user root path) (facts_for user) (target_plain user root path)
    (facts_plain user)))

list_for_plain : (which : Which) (found : Fid × Nature) → NoBytes (list_for which found)
list_for_plain which (fid, nature) = tt

access_plain : (user : User) (root : Fid) (path : List (List ℕ)) (which : Which)
    → IsPlain (access_look user root path which)
unfolding access_look
access_plain user root path which =
    let look : Look (Result (List AccessEntry) Refusal) = checked (target_look user root path) (list_for which) in
    judged_plain look (λ list. Replies (Access list))
    (no_bytes_plain look (no_bytes_then (target_look user root path) (list_for which) (target_plain user root path)
    (list_for_plain which)))

sync_plain : (own : Own) (user : User) (root : Fid) (path : List (List ℕ)) → IsPlain (sync_look own user root path)
unfolding sync_look
sync_plain own user root path =
    judged_plain (file_look user root path) (sync_verdict own) (no_bytes_plain (file_look user root path)
    (file_plain user root path))

lock_for_plain : (own : Own) (host : HostId) (writing : Bool) (from len : ℕ) (fid : Fid)
    → IsPlain (lock_for own host writing from len fid)
lock_for_plain own host writing from len fid =
    let span : Span = span_between from (from + len) in
    let takes : Look (Result Fid Refusal) = Takes (record { fid = fid; kind = LockKind writing span })
    (Ends (Ok fid)) in
    plain_refuse (nat_lt FILE_BYTES_MAX (from + len)) TooBig (refuse_if (is_own_locked own.locks host fid span)
    AlreadyLocked takes)
    (plain_refuse (is_own_locked own.locks host fid span) AlreadyLocked takes (λ a b. refl))

lock_plain : (own : Own) (host : HostId) (user : User) (root : Fid) (path : List (List ℕ)) (writing : Bool)
    (from len : ℕ)
    → IsPlain (lock_look own host user root path writing from len)
unfolding lock_look
lock_plain own host user root path writing from len =
    let right : ℕ = if writing then write_right else read_right in
    judged_plain (checked (use_look user root path writing right) (lock_for own host writing from len))
    (λ fid. Locks fid writing (span_between from (from + len)))
    (plain_then (use_look user root path writing right) (lock_for own host writing from len)
    (use_plain user root path writing right) (lock_for_plain own host writing from len))

open_for_plain : (kind : OpenKind) (fid : Fid) → IsPlain (open_for kind fid)
open_for_plain kind fid = λ a b. refl

open_plain : (user : User) (root : Fid) (path : List (List ℕ)) (kind : OpenKind)
    → IsPlain (open_look user root path kind)
unfolding open_look
open_plain user root path kind =
    judged_plain (checked (use_look user root path (is_changing kind) (right_to_open kind)) (open_for kind))
    (λ fid. Opens fid kind)
    (plain_then (use_look user root path (is_changing kind) (right_to_open kind)) (open_for kind)
    (use_plain user root path (is_changing kind) (right_to_open kind)) (open_for_plain kind))

placed : (own : Own) (stay_of : NamedPlace) (look : Fid → Look Verdict) → ((root : Fid) → IsPlain (look root))
    → IsPlain (in_place own stay_of look)
placed own stay_of look p = go (own.seen stay_of.server stay_of.fileset)
  where
    go : (o : Option FilesetId) → IsPlain (from_root stay_of.server o look)
    go None = tt
    go (Some id) = p (root_of id)

pub calls_are_plain : CallsArePlain
unfolding call_look
calls_are_plain own host user (NewFileset server name objects owner) = tt
calls_are_plain own host user (Create stay_of) = placed own stay_of change_look (λ root. tt)
calls_are_plain own host user (MakeDir stay_of) = placed own stay_of change_look (λ root. tt)
calls_are_plain own host user (Remove stay_of) = placed own stay_of change_look (λ root. tt)
calls_are_plain own host user (Rename from to) = placed own from change_look (λ root. tt)
calls_are_plain own host user (Truncate stay_of len) = placed own stay_of change_look (λ root. tt)
calls_are_plain own host user (SetAcl stay_of which list) = placed own stay_of change_look (λ root. tt)
calls_are_plain own host user (CloneFileset server source new) = tt
calls_are_plain own host user (Read stay_of from len) =
    placed own stay_of (λ root. read_look user root stay_of.path from len)
    (λ root. read_plain user root stay_of.path from len)
calls_are_plain own host user (Write stay_of from bytes) =
    placed own stay_of (λ root. write_look user root stay_of.path from bytes)
    (λ root. write_plain user root stay_of.path from bytes)
calls_are_plain own host user (ListNames stay_of) = placed own stay_of (λ root. list_look user root stay_of.path)
    (λ root. list_plain user root stay_of.path)
calls_are_plain own host user (Stat stay_of) = placed own stay_of (λ root. stat_look user root stay_of.path)
    (λ root. stat_plain user root stay_of.path)
calls_are_plain own host user (GetAcl stay_of which) =
    placed own stay_of (λ root. access_look user root stay_of.path which) (λ root. access_plain user root stay_of.path
    which)
calls_are_plain own host user (Sync stay_of) = placed own stay_of (λ root. sync_look own user root stay_of.path)
    (λ root. sync_plain own user root stay_of.path)
calls_are_plain own host user (Lock label stay_of writing from len) = go (has_lock own.locks host label)
    (nat_le LABELS_MAX (lock_count own.locks host))
  where
    go : (b c : Bool) → IsPlain (if b then refuse AlreadyLocked else if c then refuse TooMany
        else in_place own stay_of (λ root. lock_look own host user root stay_of.path writing from len))
    go true c = tt
    go false true = tt
    go false false = placed own stay_of (λ root. lock_look own host user root stay_of.path writing from len)
        (λ root. lock_plain own host user root stay_of.path writing from len)
calls_are_plain own host user (Unlock label) = go (has_lock own.locks host label)
  where
    go : (b : Bool) → IsPlain (if not b then refuse NotLocked else Ends (if own.gives_lock label then Gives else Frees))
    go true = tt
    go false = tt
calls_are_plain own host user (OpenFile label stay_of kind) = go (has_open own.opens host label)
    (nat_le LABELS_MAX (open_count own.opens host))
  where
    go : (b c : Bool) → IsPlain (if b then refuse AlreadyOpened else if c then refuse TooMany
        else in_place own stay_of (λ root. open_look user root stay_of.path kind))
    go true c = tt
    go false true = tt
    go false false = placed own stay_of (λ root. open_look user root stay_of.path kind)
        (λ root. open_plain user root stay_of.path kind)
calls_are_plain own host user (CloseFile label) = go (has_open own.opens host label)
  where
    go : (b : Bool) → IsPlain (if not b then refuse NotOpened else Ends (if own.gives_open label then Gives else Frees))
    go true = tt
    go false = tt
calls_are_plain own host user (MoveFileset server name to) = go (own.seen server name)
  where
    go : (o : Option FilesetId) → IsPlain (from_root server o change_look)
    go None = tt
    go (Some id) = tt

-- entries of directories alone
enters_on : {A B : Type 0} (view : View) (look : Look A) (next : A → Look B) → EntersDirs view look
    → EntersDirs view (next (outcome view look)) → EntersDirs view (look_on look next)
enters_on view (Ends result) next e k = k
enters_on view (Takes need after) next e k = tt
enters_on view (Looks fid (ByteAt at) after) next e k = tt
enters_on view (Looks fid Size after) next e k = enters_on view (after (view fid Size)) next e k
enters_on view (Looks fid Traits after) next e k = enters_on view (after (view fid Traits)) next e k
enters_on view (Looks fid Entries after) next e k = (e.0, enters_on view (after (view fid Entries)) next e.1 k)

enters_then : {A B : Type 0} (view : View) (look : Look (Result A Refusal)) (next : A → Look (Result B Refusal))
    → EntersDirs view look
    → ((a : A) → outcome view look ≡ Ok a → EntersDirs view (next a)) → EntersDirs view (checked look next)
enters_then {A = A} {B = B} view look next e k = enters_on view look (after_check next) e
    (by_case (outcome view look) refl)
  where
    by_case : (r : Result A Refusal) → outcome view look ≡ r → EntersDirs view (after_check next r)
    by_case (Ok value) q = k value q
    by_case (Err refusal) q = tt

enters_refuse : {A : Type 0} (view : View) (b : Bool) (r : Refusal) (next : Look (Result A Refusal))
    → (b ≡ false → EntersDirs view next) → EntersDirs view (refuse_if b r next)
enters_refuse view true r next k = tt
enters_refuse view false r next k = k refl

enters_ended : {A B : Type 0} (view : View) (look : Look A) (f : A → B) → EntersDirs view look
    → EntersDirs view (look_on look (λ a. Ends (f a)))
enters_ended {A = A} {B = B} view look f e = let next : A → Look B = λ a. Ends (f a) in enters_on view look next e tt

judged_enters : {A : Type 0} (view : View) (look : Look (Result A Refusal)) (judge : A → Verdict) → EntersDirs view look
    → EntersDirs view (judged look judge)
judged_enters view look judge e =
    enters_ended view look (λ seen. either seen judge (λ refusal. Replies (Refused refusal))) e

told : (o : Option Nature) (nature : Nature) → found_or o NoEntry ≡ Ok nature → o ≡ Some nature
told None nature e = absurd (cc)
told (Some x) nature e = let p : x ≡ nature = cc in cc

dir_of : (b : Bool) → not b ≡ false → b ≡ true
dir_of true e = refl
dir_of false e = absurd (cc)

module _ (view : View) where
  permitted_enters : {A : Type 0} (nature : Nature) (user : User) (right : ℕ) (next : Look (Result A Refusal))
      → EntersDirs view next → EntersDirs view (permitted nature user right next)
  permitted_enters nature user right next e = enters_refuse view (not (allows (rights_on nature user) right))
      (Denied right) next (λ q. e)

  search_enters : (user : User) (fid : Fid) (nature : Nature) → view fid Traits ≡ Some nature
      → EntersDirs view (search_look user fid nature)
  search_enters user fid nature t =
      let next : Look (Result (List DirEntry) Refusal) = Looks fid Entries (λ entries. Ends (Ok entries)) in
      enters_refuse view (not nature.dir) NotDir (permitted nature user execute_right next)
      (λ d. permitted_enters nature user execute_right next ((nature, t, dir_of nature.dir d), tt))

  step_enters : (user : User) (fid : Fid) (name : List ℕ) → EntersDirs view (step_look user fid name)
  step_enters user fid name = enters_then view (nature_look fid) (step_from user fid name) tt
      (λ nature q. enters_then view (search_look user fid nature) (entry_in fid name)
      (search_enters user fid nature (told (view fid Traits) nature q)) (λ entries _. tt))

  walk_enters : (user : User) (fid : Fid) (path : List (List ℕ)) → EntersDirs view (walk_look user fid path)
  walk_enters user fid [] = tt
  walk_enters user fid (name ∷ names) =
      enters_then view (step_look user fid name) (λ next. walk_look user next names) (step_enters user fid name)
      (λ next _. walk_enters user next names)

  natured_enters : (fid : Fid) → EntersDirs view (natured fid)
  natured_enters fid = enters_then view (nature_look fid) (with_nature fid) tt (λ nature _. tt)

  target_enters : (user : User) (root : Fid) (path : List (List ℕ)) → EntersDirs view (target_look user root path)
  target_enters user root path = enters_then view (walk_look user root path) natured (walk_enters user root path)
      (λ fid _. natured_enters fid)

  natured_told : (fid : Fid) (found : Fid × Nature) → outcome view (natured fid) ≡ Ok found → view found.0 Traits
      ≡ Some found.1
  natured_told fid found q = by_case (view fid Traits) refl
      (sym (outcome_checked view (nature_look fid) (with_nature fid)) ∙ q)
    where
      by_case : (o : Option Nature) → view fid Traits ≡ o → and_then (found_or o NoEntry)
          (λ nature. outcome view (with_nature fid nature)) ≡ Ok found → view found.0 Traits ≡ Some found.1
      by_case None e p = absurd (cc)
      by_case (Some x) e p = let same : (fid, x) ≡ found = cc in subst (λ (f : Fid × Nature). view f.0 Traits
          ≡ Some f.1) same e

  target_told : (user : User) (root : Fid) (path : List (List ℕ)) (found : Fid × Nature)
      → outcome view (target_look user root path) ≡ Ok found → view found.0 Traits ≡ Some found.1
  target_told user root path found q = by_case (outcome view (walk_look user root path))
      (sym (outcome_checked view (walk_look user root path) natured) ∙ q)
    where
      by_case : (r : Result Fid Refusal) → and_then r (λ fid. outcome view (natured fid)) ≡ Ok found
          → view found.0 Traits ≡ Some found.1
      by_case (Ok fid) p = natured_told fid found p
      by_case (Err refusal) p = absurd (cc)

  file_of_enters : (found : Fid × Nature) → EntersDirs view (file_of found)
  file_of_enters (fid, nature) = enters_refuse view nature.dir IsDir (with_nature fid nature) (λ _. tt)

  file_enters : (user : User) (root : Fid) (path : List (List ℕ)) → EntersDirs view (file_look user root path)
  file_enters user root path = enters_then view (target_look user root path) file_of (target_enters user root path)
      (λ found _. file_of_enters found)

  permitted_of_enters : (user : User) (right : ℕ) (found : Fid × Nature)
      → EntersDirs view (permitted_of user right found)
  permitted_of_enters user right (fid, nature) = permitted_enters nature user right (with_nature fid nature) tt

  allowed_enters : (user : User) (root : Fid) (path : List (List ℕ)) (right : ℕ)
      → EntersDirs view (permitted_look user root path right)
  allowed_enters user root path right =
      enters_then view (file_look user root path) (permitted_of user right) (file_enters user root path)
      (λ found _. permitted_of_enters user right found)

  used_of_enters : (user : User) (changing : Bool) (right : ℕ) (found : Fid × Nature)
      → EntersDirs view (used_of user changing right found)
  used_of_enters user changing right (fid, nature) =
      let end : Look (Result Fid Refusal) = Ends (Ok fid) in
      enters_refuse view (changing && nature.read_only) ReadOnly (permitted nature user right end)
      (λ _. permitted_enters nature user right end tt)

  use_enters : (user : User) (root : Fid) (path : List (List ℕ)) (changing : Bool) (right : ℕ)
      → EntersDirs view (use_look user root path changing right)
  use_enters user root path changing right =
      enters_then view (file_look user root path) (used_of user changing right) (file_enters user root path)
      (λ found _. used_of_enters user changing right found)

  fits_enters : (end : ℕ) (found : Fid × Nature) → EntersDirs view (fits_file end found)
  fits_enters end (fid, nature) = let done : Look (Result Fid Refusal) = Ends (Ok fid) in
      enters_refuse view (nat_lt FILE_BYTES_MAX end) TooBig done (λ _. tt)

  write_target_enters : (user : User) (root : Fid) (path : List (List ℕ)) (end : ℕ)
      → EntersDirs view (write_target_look user root path end)
  write_target_enters user root path end =
      let next : Look (Result Fid Refusal) = checked (permitted_look user root path write_right) (fits_file end) in
      enters_then view (nature_look root) (writable_from next) tt
      (λ nature _. enters_refuse view nature.read_only ReadOnly next
      (λ _. enters_then view (permitted_look user root path write_right) (fits_file end)
      (allowed_enters user root path write_right) (λ found _. fits_enters end found)))

  bytes_enters : (fid : Fid) (n at : ℕ) → EntersDirs view (bytes_look fid at n)
  bytes_enters fid zero at = tt
  bytes_enters fid (suc n) at = tt

  read_from_enters : (from len : ℕ) (found : Fid × Nature) → EntersDirs view (read_from from len found)
  read_from_enters from len (fid, nature) =
      let fine : List ℕ → Result (List ℕ) Refusal = λ bytes. Ok bytes in
      let size : ℕ = view fid Size in
      enters_ended view (bytes_look fid from (min len (size - from))) fine
      (bytes_enters fid (min len (size - from)) from)

  takes_enter : {R : Type 0} (b : Bool) (status over beyond : Need) (next : Look R)
      → EntersDirs view (if b then Takes status (Takes over next) else Takes beyond next)
  takes_enter true status over beyond next = tt
  takes_enter false status over beyond next = tt

  written_enters : (from : ℕ) (bytes : List ℕ) (fid : Fid) → EntersDirs view (written_look from bytes fid)
  written_enters from [] fid = tt
  written_enters from (byte ∷ bytes) fid = takes_enter (nat_lt (view fid Size) (from + length (byte ∷ bytes))) _ _ _ _

  entries_for_enters : (user : User) (found : Fid × Nature) → view found.0 Traits ≡ Some found.1
      → EntersDirs view (entries_for user found)
  entries_for_enters user (fid, nature) t =
      let next : Look (Result (List DirEntry) Refusal) = Looks fid Entries (λ entries. Ends (Ok entries)) in
      enters_refuse view (not nature.dir) NotDir (permitted nature user read_right next)
      (λ d. permitted_enters nature user read_right next ((nature, t, dir_of nature.dir d), tt))

  facts_enters : (user : User) (found : Fid × Nature) → EntersDirs view (facts_for user found)
  facts_enters user (fid, nature) = tt

  list_for_enters : (which : Which) (found : Fid × Nature) → EntersDirs view (list_for which found)
  list_for_enters which (fid, nature) = tt

  lock_for_enters : (own : Own) (host : HostId) (writing : Bool) (from len : ℕ) (fid : Fid)
      → EntersDirs view (lock_for own host writing from len fid)
  lock_for_enters own host writing from len fid =
      let span : Span = span_between from (from + len) in
      let takes : Look (Result Fid Refusal) = Takes (record { fid = fid; kind = LockKind writing span })
      (Ends (Ok fid)) in
      enters_refuse view (nat_lt FILE_BYTES_MAX (from + len)) TooBig (refuse_if (is_own_locked own.locks host fid span)
      AlreadyLocked takes)
      (λ _. enters_refuse view (is_own_locked own.locks host fid span) AlreadyLocked takes (λ _. tt))

  read_enters : (user : User) (root : Fid) (path : List (List ℕ)) (from len : ℕ)
      → EntersDirs view (read_look user root path from len)
  unfolding read_look
  read_enters user root path from len =
      judged_enters view (checked (permitted_look user root path read_right) (read_from from len))
      (λ bytes. Replies (BytesReply bytes))
      (enters_then view (permitted_look user root path read_right) (read_from from len)
      (allowed_enters user root path read_right) (λ found _. read_from_enters from len found))

  write_enters : (user : User) (root : Fid) (path : List (List ℕ)) (from : ℕ) (bytes : List ℕ)
      → EntersDirs view (write_look user root path from bytes)
  unfolding write_look
  write_enters user root path from bytes =
      let end : ℕ = from + length bytes in
      judged_enters view (checked (write_target_look user root path end) (written_look from bytes)) (λ verdict. verdict)
      (enters_then view (write_target_look user root path end) (written_look from bytes)
      (write_target_enters user root path end) (λ fid _. written_enters from bytes fid))

  list_enters : (user : User) (root : Fid) (path : List (List ℕ)) → EntersDirs view (list_look user root path)
  unfolding list_look
  list_enters user root path =
      judged_enters view (checked (target_look user root path) (entries_for user))
      (λ entries. Replies (Names (names_of entries)))
      (enters_then view (target_look user root path) (entries_for user) (target_enters user root path)
      (λ found q. entries_for_enters user found (target_told user root path found q)))

  stat_enters : (user : User) (root : Fid) (path : List (List ℕ)) → EntersDirs view (stat_look user root path)
  unfolding stat_look
  stat_enters user root path =
      judged_enters view (checked (target_look user root path) (facts_for user)) (λ facts. Replies (Facts facts))
      (enters_then view (target_look user root path) (facts_for user) (target_enters user root path)
      (λ found _. facts_enters user found))

  access_enters : (user : User) (root : Fid) (path : List (List ℕ)) (which : Which)
      → EntersDirs view (access_look user root path which)
  unfolding access_look
  access_enters user root path which =
      judged_enters view (checked (target_look user root path) (list_for which)) (λ list. Replies (Access list))
      (enters_then view (target_look user root path) (list_for which) (target_enters user root path)
      (λ found _. list_for_enters which found))

  sync_enters : (own : Own) (user : User) (root : Fid) (path : List (List ℕ))
      → EntersDirs view (sync_look own user root path)
  unfolding sync_look
  sync_enters own user root path = judged_enters view (file_look user root path) (sync_verdict own)
      (file_enters user root path)

  lock_enters : (own : Own) (host : HostId) (user : User) (root : Fid) (path : List (List ℕ)) (writing : Bool)
      (from len : ℕ)
      → EntersDirs view (lock_look own host user root path writing from len)
  unfolding lock_look
  lock_enters own host user root path writing from len =
      let right : ℕ = if writing then write_right else read_right in
      judged_enters view (checked (use_look user root path writing right) (lock_for own host writing from len))
      (λ fid. Locks fid writing (span_between from (from + len)))
      (enters_then view (use_look user root path writing right) (lock_for own host writing from len)
      (use_enters user root path writing right) (λ fid _. lock_for_enters own host writing from len fid))

  open_enters : (user : User) (root : Fid) (path : List (List ℕ)) (kind : OpenKind)
      → EntersDirs view (open_look user root path kind)
  unfolding open_look
  open_enters user root path kind =
      judged_enters view (checked (use_look user root path (is_changing kind) (right_to_open kind)) (open_for kind))
      (λ fid. Opens fid kind)
      (enters_then view (use_look user root path (is_changing kind) (right_to_open kind)) (open_for kind)
      (use_enters user root path (is_changing kind) (right_to_open kind)) (λ fid _. tt))

  placed_enters : (own : Own) (stay_of : NamedPlace) (look : Fid → Look Verdict)
      → ((root : Fid) → EntersDirs view (look root)) → EntersDirs view (in_place own stay_of look)
  placed_enters own stay_of look p = go (own.seen stay_of.server stay_of.fileset)
    where
      go : (o : Option FilesetId) → EntersDirs view (from_root stay_of.server o look)
      go None = tt
      go (Some id) = p (root_of id)

pub calls_enter_dirs : CallsEnterDirs
unfolding call_look
calls_enter_dirs view own host user (NewFileset server name objects owner) = tt
calls_enter_dirs view own host user (Create stay_of) = placed_enters view own stay_of change_look (λ root. tt)
calls_enter_dirs view own host user (MakeDir stay_of) = placed_enters view own stay_of change_look (λ root. tt)
calls_enter_dirs view own host user (Remove stay_of) = placed_enters view own stay_of change_look (λ root. tt)
calls_enter_dirs view own host user (Rename from to) = placed_enters view own from change_look (λ root. tt)
calls_enter_dirs view own host user (Truncate stay_of len) = placed_enters view own stay_of change_look (λ root. tt)
calls_enter_dirs view own host user (SetAcl stay_of which list) = placed_enters view own stay_of change_look
    (λ root. tt)
calls_enter_dirs view own host user (CloneFileset server source new) = tt
calls_enter_dirs view own host user (Read stay_of from len) = placed_enters view own stay_of
    (λ root. read_look user root stay_of.path from len) (λ root. read_enters view user root stay_of.path from len)
calls_enter_dirs view own host user (Write stay_of from bytes) = placed_enters view own stay_of
    (λ root. write_look user root stay_of.path from bytes) (λ root. write_enters view user root stay_of.path from bytes)
calls_enter_dirs view own host user (ListNames stay_of) = placed_enters view own stay_of
    (λ root. list_look user root stay_of.path) (λ root. list_enters view user root stay_of.path)
calls_enter_dirs view own host user (Stat stay_of) = placed_enters view own stay_of
    (λ root. stat_look user root stay_of.path) (λ root. stat_enters view user root stay_of.path)
calls_enter_dirs view own host user (GetAcl stay_of which) = placed_enters view own stay_of
    (λ root. access_look user root stay_of.path which) (λ root. access_enters view user root stay_of.path which)
calls_enter_dirs view own host user (Sync stay_of) = placed_enters view own stay_of
    (λ root. sync_look own user root stay_of.path) (λ root. sync_enters view own user root stay_of.path)
calls_enter_dirs view own host user (Lock label stay_of writing from len) = go (has_lock own.locks host label)
    (nat_le LABELS_MAX (lock_count own.locks host))
  where
    go : (b c : Bool) → EntersDirs view (if b then refuse AlreadyLocked else if c then refuse TooMany
        else in_place own stay_of (λ root. lock_look own host user root stay_of.path writing from len))
    go true c = tt
    go false true = tt
    go false false = placed_enters view own stay_of (λ root. lock_look own host user root stay_of.path writing from len)
        (λ root. lock_enters view own host user root stay_of.path writing from len)
calls_enter_dirs view own host user (Unlock label) = go (has_lock own.locks host label)
  where
    go : (b : Bool) → EntersDirs view (if not b then refuse NotLocked else Ends (if own.gives_lock label then Gives
        else Frees))
    go true = tt
    go false = tt
calls_enter_dirs view own host user (OpenFile label stay_of kind) = go (has_open own.opens host label)
    (nat_le LABELS_MAX (open_count own.opens host))
  where
    go : (b c : Bool) → EntersDirs view (if b then refuse AlreadyOpened else if c then refuse TooMany
        else in_place own stay_of (λ root. open_look user root stay_of.path kind))
    go true c = tt
    go false true = tt
    go false false = placed_enters view own stay_of (λ root. open_look user root stay_of.path kind)
        (λ root. open_enters view user root stay_of.path kind)
calls_enter_dirs view own host user (CloseFile label) = go (has_open own.opens host label)
  where
    go : (b : Bool) → EntersDirs view (if not b then refuse NotOpened else Ends (if own.gives_open label then Gives
        else Frees))
    go true = tt
    go false = tt
calls_enter_dirs view own host user (MoveFileset server name to) = go (own.seen server name)
  where
    go : (o : Option FilesetId) → EntersDirs view (from_root server o change_look)
    go None = tt
    go (Some id) = tt

-- views that agree
module _ (held : List Token) (a b : View) (agree : AgreeUnder held a b) where
  covered_bytes : (fid : Fid) (span : Span) → ((Covers held (record { fid = fid; kind = Bytes false span }) → ⊥) → ⊥)
      → Covers held (record { fid = fid; kind = Bytes false span })
  covered_bytes fid span un at from to =
      elim (by_test (list_any (covers_byte fid false at) held)) [
        | inl e ↦ e
        | inr e ↦ absurd (un (λ c. true_false (list_any (covers_byte fid false at) held) (c at from to) e))
      ]

  covered_status : (fid : Fid) → ((Covers held (record { fid = fid; kind = Status false }) → ⊥) → ⊥)
      → Covers held (record { fid = fid; kind = Status false })
  covered_status fid un =
      elim (by_test (list_any (covers_alone fid (Status false)) held)) [
        | inl e ↦ e
        | inr e ↦ absurd (un (λ c. true_false (list_any (covers_alone fid (Status false)) held) c e))
      ]

  alike : {R : Type 0} (look : Look R) → IsPlain look → EntersDirs a look
      → ((need : Need) → IsFirstLack held (needs_of a look) need → IsOfFile held a need) → needs_of a look
      ≡ needs_of b look
  alike (Ends result) p e lack = refl
  alike (Takes need next) p e lack = ap (λ (l : List Need). need ∷ l) (p a b)
  alike (Looks fid (ByteAt at) next) p e lack = ap (λ (l : List Need). record { fid = fid; kind = kind_for (ByteAt at) }
      ∷ l) (p (a fid (ByteAt at)) (b fid (ByteAt at)) a b)
  alike (Looks fid Size next) p e lack =
      let c = covered_status fid (λ n. n (lack (record { fid = fid; kind = Status false }) (inl (n, refl))).0) in
      ap (λ (l : List Need). record { fid = fid; kind = Status false } ∷ l)
      (alike (next (a fid Size)) (p (a fid Size)) e (λ need l. lack need (inr (c, l)))
      ∙ ap (λ (x : ℕ). needs_of b (next x)) (agree fid Size c))
  alike (Looks fid Traits next) p e lack =
      let c = covered_status fid (λ n. n (lack (record { fid = fid; kind = Status false }) (inl (n, refl))).0) in
      ap (λ (l : List Need). record { fid = fid; kind = Status false } ∷ l)
      (alike (next (a fid Traits)) (p (a fid Traits)) e (λ need l. lack need (inr (c, l)))
      ∙ ap (λ (x : Option Nature). needs_of b (next x)) (agree fid Traits c))
  alike (Looks fid Entries next) p e lack =
      let c = covered_bytes fid whole (λ n. (lack (record { fid = fid; kind = Bytes false whole }) (inl (n, refl))).1
      e.0) in
      ap (λ (l : List Need). record { fid = fid; kind = Bytes false whole } ∷ l)
      (alike (next (a fid Entries)) (p (a fid Entries)) e.1 (λ need l. lack need (inr (c, l)))
      ∙ ap (λ (x : List DirEntry). needs_of b (next x)) (agree fid Entries c))

pub plain_needs_alike : PlainNeedsAlike
plain_needs_alike held a b agree own host user call lack = alike held a b agree (call_look own host user call)
    (calls_are_plain own host user call) (calls_enter_dirs a own host user call) lack
