-- What a host makes of a call along a path, where the look was tried.
use Rattle.std.proofs.Common.{◌≡◌, ◌<◌, ◌≤◌, ◌+◌, ◌-◌, ◌++◌, ◌∙◌, ◌∷◌, Bool, Err, List, None, Ok, Option, Result, Some}
use Rattle.std.proofs.Common.{[]}
use Rattle.std.proofs.Common.{ap, arith, false, length, min, nat_lt, not, refl, subst, suc, sym, true, zero}
use Rattle.std.proofs.Common.{ℕ}
use Rattle.std.proofs.Common.{if◌then◌else◌}
use Rattle.std.proofs.lemmas.Bool.{false_from_ne_true, lt-ltb, ltb-false, ltb-true}
use Rattle.std.specs.Option.{option_map, option_map_or}
use Rattle.base_types.specs.Access.{allows}
use Rattle.base_types.specs.Outcomes.{and_then, either}
use Rattle.base_types.specs.declared.access.AccessEntry.{AccessEntry}
use Rattle.base_types.specs.declared.ids.Fid.{Fid}
use Rattle.base_types.specs.declared.ids.HostId.{HostId}
use Rattle.base_types.specs.declared.ids.OpenKind.{OpenKind}
use Rattle.base_types.specs.declared.limits.TheConstants.{FILE_BYTES_MAX}
use Rattle.base_types.specs.declared.span.Span.{Span}
use Rattle.base_types.specs.declared.user.User.{User}
use Rattle.host_cache.specs.Seen.{Kept, seen}
use Rattle.host_calls.proofs.Labels.{own_locked_is}
use Rattle.host_calls.specs.Looking.{AreSized, JudgesOn, StopsOn, access_of, facts_of, meant_by, used_by}
use Rattle.host_calls.specs.declared.looking.Verdict.{Verdict}
use Rattle.host_calls.specs.declared.looking.Verdict.TheVariants.{Does, Lists, Reads, Shows, Syncs, Tells, Uses}
use Rattle.host_leaves.specs.Owning.{is_own_locked}
use Rattle.host_tables.specs.Tables.{content, own_of}
use Rattle.host_tables.specs.declared.tables.Tables.{Tables}
use Rattle.host_walk.proofs.Judging.{judges_by}
use Rattle.host_walk.proofs.Trying.{GoesOn, checked_on, lacks_need, passes_on, refused_by, stops_on}
use Rattle.host_walk.specs.Bytes.{bytes_read, bytes_seen, read_count, write_meant}
use Rattle.host_walk.specs.Trying.{Finds, IsStopped, status_need}
use Rattle.host_walk.specs.Views.{held_by, nature_told, view_of}
use Rattle.host_walk.specs.declared.sight.Stop.{Stop}
use Rattle.host_walk.specs.declared.sight.Stop.TheVariants.{Lacks, Refused}
use Rattle.need_host.proofs.Looking.{outcome_checked}
use Rattle.need_host.proofs.Updates.{needs_on}
use Rattle.need_host.specs.Calls.{Own, Verdict as Meant, access_look, entries_for, facts_for, fits_file, judged}
use Rattle.need_host.specs.Calls.{list_for, list_look, lock_for, lock_look, open_for, open_look, read_from, read_look}
use Rattle.need_host.specs.Calls.{stat_look, sync_look, sync_verdict, write_look, write_target_look, written_look}
use Rattle.need_host.specs.Calls.Verdict.{Gives as GivesIt, Locks, Opens, Replies, Writes}
use Rattle.need_host.specs.Looks.{CoverAll, IsCovered, Look, View, after_check, checked, needs_of, outcome, refuse_if}
use Rattle.need_host.specs.Looks.{rounded}
use Rattle.need_host.specs.Looks.Look.{Ends, Looks, Takes}
use Rattle.need_host.specs.Walks.{file_look, nature_look, permitted, permitted_look, rights_on, target_look, use_look}
use Rattle.need_host.specs.Walks.{walk_look}
use Rattle.token_types.specs.Covers.{Covers, CoversBetween}
use Rattle.token_types.specs.declared.token.Kind.{Kind}
use Rattle.token_types.specs.declared.token.Kind.TheVariants.{Bytes as BytesKind, Lock, Opening, Status}
use Rattle.token_types.specs.declared.token.Need.{Need}
use Rattle.token_types.specs.declared.token.Token.{Token}
use Rattle.tree_answers.specs.Finding.{found_or}
use Rattle.tree_answers.specs.Locks.{is_own_locked as has_own_lock}
use Rattle.tree_calls.specs.declared.call.Call.{Call}
use Rattle.tree_calls.specs.declared.part.DirEntry.{DirEntry}
use Rattle.tree_calls.specs.declared.part.Status.{Status as StatusOf}
use Rattle.tree_calls.specs.declared.place.Which.{Which}
use Rattle.tree_calls.specs.declared.reply.Facts.{Facts as FactsOf}
use Rattle.tree_calls.specs.declared.reply.Refusal.{Refusal}
use Rattle.tree_calls.specs.declared.reply.Refusal.TheVariants.{AlreadyLocked, Denied, NoEntry, NotDir, ReadOnly}
use Rattle.tree_calls.specs.declared.reply.Refusal.TheVariants.{TooBig}
use Rattle.tree_calls.specs.declared.reply.Reply.TheVariants.{Access, Bytes, Facts, Names, Ok as Done}
use Rattle.tree_calls.specs.declared.reply.Reply.TheVariants.{Refused as IsRefused}
use Rattle.tree_filesets.specs.Rights.{read_right, write_right}
use Rattle.tree_filesets.specs.Uses.{is_changing, right_to_open}
use Rattle.tree_laws.specs.Parts.{Nature}
use Rattle.tree_laws.specs.Parts.Part.{Entries, Size, Traits}
use Rattle.tree_objects.specs.Entries.{names_of}
use Rattle.tree_objects.specs.Spans.{span_between}

module _ {A : Type 0} (kept : Kept) (user : User) (look : Look (Result A Refusal)) (judge : A → Meant) (call : Call)
  where
    pub stops_so : (stop : Stop) → IsStopped (held_by kept) (view_of kept) look stop →
        StopsOn kept (judged look judge) stop
    stops_so (Lacks need) l = (judges_by A).lacks (held_by kept) (view_of kept) look judge need l
    stops_so (Refused refusal) t = (judges_by A).refuses (held_by kept) (view_of kept) look judge refusal t

    pub finds_so : (verdict : Verdict) (value : A) → Finds (held_by kept) (view_of kept) look value →
        (AreSized kept → judge value ≡ meant_by (content kept) user call verdict) →
        JudgesOn kept user call (judged look judge) (Ok verdict)
    finds_so verdict value found is =
        let r = (judges_by A).finds (held_by kept) (view_of kept) look judge value found in
        (r.0, λ sized. r.1 ∙ is sized)

-- the bytes that are read, where a file is no longer than one can be
pub read_so : (view : View) (fid : Fid) (from len : ℕ) (span : Span) → view fid Size ≤ FILE_BYTES_MAX →
    span ≡ span_between from (from + read_count from len (view fid Size)) →
    bytes_read view from len fid ≡ bytes_seen view fid span.from (span.to - span.from)
read_so view fid from len span sized is =
    by_count (read_count from len (view fid Size)) (fits from len (view fid Size) sized)
    ∙ ap (λ (s : Span). bytes_seen view fid s.from (s.to - s.from)) (sym is)
  where
    fits : (from len size : ℕ) → size ≤ FILE_BYTES_MAX →
        read_count from len size ≤ FILE_BYTES_MAX - from
    fits from len size h = omega (arith, h)

    by_count : (n : ℕ) → n ≤ FILE_BYTES_MAX - from →
        bytes_seen view fid from n
        ≡ bytes_seen view fid (span_between from (from + n)).from
        ((span_between from (from + n)).to - (span_between from (from + n)).from)
    by_count zero h =
        let none : 0 ≡ (span_between from (from + 0)).to - (span_between from (from + 0)).from = omega arith in
        ap (λ (k : ℕ). bytes_seen view fid (span_between from (from + 0)).from k) none
    by_count (suc n) h =
        let low : from ≡ (span_between from (from + suc n)).from = omega (arith, h) in
        let count : suc n ≡ (span_between from (from + suc n)).to - (span_between from (from + suc n)).from
        = omega (arith, h) in
        λ i. bytes_seen view fid (low i) (count i)

-- ---- a lock
module _ (kept : Kept) (m : Tables) (writing : Bool) (from len : ℕ) (fid : Fid) where
  abbrev taken : Look (Result Fid Refusal)
  taken = Takes (record { fid = fid; kind = Lock writing (span_between from (from + len)) }) (Ends (Ok fid))

  abbrev unlocked : Look (Result Fid Refusal)
  unlocked = refuse_if (has_own_lock (own_of m).locks m.host fid (span_between from (from + len))) AlreadyLocked taken

  abbrev whole : Look (Result Fid Refusal)
  whole = lock_for (own_of m) m.host writing from len fid

  pub lock_big : FILE_BYTES_MAX < from + len → IsStopped (held_by kept) (view_of kept) whole (Refused TooBig)
  lock_big h = refused_by (held_by kept) (view_of kept) (nat_lt FILE_BYTES_MAX (from + len)) TooBig unlocked
      (lt-ltb FILE_BYTES_MAX (from + len) h)

  fits_on : from + len ≤ FILE_BYTES_MAX → GoesOn (held_by kept) (view_of kept) unlocked whole
  fits_on h = passes_on (held_by kept) (view_of kept) (nat_lt FILE_BYTES_MAX (from + len)) TooBig unlocked
      (false_from_ne_true (nat_lt FILE_BYTES_MAX (from + len))
      (λ e. absurd (omega (arith, h, ltb-true FILE_BYTES_MAX (from + len) e))))

  pub lock_own : from + len ≤ FILE_BYTES_MAX → is_own_locked m fid (span_between from (from + len)) ≡ true →
      IsStopped (held_by kept) (view_of kept) whole (Refused AlreadyLocked)
  lock_own h e =
      (fits_on h).stops (Refused AlreadyLocked)
      (refused_by (held_by kept) (view_of kept) (has_own_lock (own_of m).locks m.host fid (span_between from (from +
      len)))
      AlreadyLocked taken (own_locked_is m fid (span_between from (from + len)) ∙ e))

  free_on : from + len ≤ FILE_BYTES_MAX → is_own_locked m fid (span_between from (from + len)) ≡ false →
      GoesOn (held_by kept) (view_of kept) unlocked whole → GoesOn (held_by kept) (view_of kept) taken unlocked
  free_on h e on = passes_on (held_by kept) (view_of kept)
      (has_own_lock (own_of m).locks m.host fid (span_between from (from + len))) AlreadyLocked taken
      (own_locked_is m fid (span_between from (from + len)) ∙ e)

  pub lock_lacks : from + len ≤ FILE_BYTES_MAX → is_own_locked m fid (span_between from (from + len)) ≡ false →
      (stop : Stop) → (Covers (held_by kept) (record {
        fid = fid;
        kind = Lock writing (span_between from (from + len));
      }) → ⊥)
      × (stop ≡ Lacks (record { fid = fid; kind = Lock writing (span_between from (from + len)) })) →
      IsStopped (held_by kept) (view_of kept) whole stop
  lock_lacks h e stop lack =
      (fits_on h).stops stop ((free_on h e (fits_on h)).stops stop
      (lacks_need (held_by kept) (view_of kept)
      (record { fid = fid; kind = Lock writing (span_between from (from + len)) }) (Ends (Ok fid)) stop lack))

  pub lock_found : from + len ≤ FILE_BYTES_MAX → is_own_locked m fid (span_between from (from + len)) ≡ false →
      Covers (held_by kept) (record { fid = fid; kind = Lock writing (span_between from (from + len)) }) →
      Finds (held_by kept) (view_of kept) whole fid
  lock_found h e covered =
      (fits_on h).finds fid ((free_on h e (fits_on h)).finds fid
      (record { covered = (covered, tt); ends = refl }))

-- ---- what comes behind the file that is to be used
module _ {A : Type 0} (kept : Kept) (look : Look (Result A Refusal)) (next : A → Look (Result Fid Refusal)) where
  pub use_stops : (stop : Stop) → IsStopped (held_by kept) (view_of kept) look stop →
      IsStopped (held_by kept) (view_of kept) (checked look next) stop
  use_stops stop h = stops_on (held_by kept) (view_of kept) next look stop h

  pub use_on : (value : A) → Finds (held_by kept) (view_of kept) look value →
      GoesOn (held_by kept) (view_of kept) (next value) (checked look next)
  use_on value found = checked_on (held_by kept) (view_of kept) next look value found

-- ---- what is seen where a path leads
module _ {B : Type 0} (view : View) (user : User) (root : Fid) (path : List (List ℕ)) (fid : Fid)
    (walked : outcome view (walk_look user root path) ≡ Ok fid) (next : Fid × Nature → Look (Result B Refusal)) (x : B)
    (ends : outcome view (checked (target_look user root path) next) ≡ Ok x) where
  abbrev with_nature : Fid → Nature → Look (Result (Fid × Nature) Refusal)
  with_nature f nature = Ends (Ok (f, nature))

  abbrev natured : Fid → Look (Result (Fid × Nature) Refusal)
  natured f = checked (nature_look f) (with_nature f)

  abbrev behind : Fid × Nature → Result B Refusal
  behind found = outcome view (next found)

  target_is : outcome view (target_look user root path)
      ≡ and_then (found_or (view fid Traits) NoEntry) (λ nature. Ok (fid, nature))
  target_is =
      outcome_checked view (walk_look user root path) natured
      ∙ ap (λ (r : Result Fid Refusal). and_then r (λ f. outcome view (natured f))) walked
      ∙ outcome_checked view (nature_look fid) (with_nature fid)

  pub seen_behind : (nature : Nature) × (view fid Traits ≡ Some nature) × (outcome view (next (fid, nature)) ≡ Ok x)
  seen_behind = by_case (view fid Traits) refl
      (sym (outcome_checked view (target_look user root path) next
      ∙ ap (λ (r : Result (Fid × Nature) Refusal). and_then r behind) target_is) ∙ ends)
    where
      by_case : (o : Option Nature) → view fid Traits ≡ o →
          and_then (and_then (found_or o NoEntry) (λ nature. Ok (fid, nature))) behind ≡ Ok x →
          (nature : Nature) × (view fid Traits ≡ Some nature) × (outcome view (next (fid, nature)) ≡ Ok x)
      by_case None e p = absurd (cc)
      by_case (Some nature) e p = (nature, e, p)

-- ---- Stat
module _ (kept : Kept) (user : User) (root : Fid) (path : List (List ℕ)) (call : Call) where
  abbrev tells : FactsOf → Meant
  tells facts = Replies (Facts facts)

  pub stat_stops : (stop : Stop) → IsStopped (held_by kept) (view_of kept) (target_look user root path) stop →
      StopsOn kept (stat_look user root path) stop
  unfolding stat_look
  stat_stops stop h =
      stops_so kept user (checked (target_look user root path) (facts_for user)) tells call stop
      (stops_on (held_by kept) (view_of kept) (facts_for user) (target_look user root path) stop h)

  pub stat_finds : (fid : Fid) (status : StatusOf) →
      Finds (held_by kept) (view_of kept) (target_look user root path) (fid, nature_told status) →
      Covers (held_by kept) (status_need fid) → (seen kept).status fid ≡ Some status →
      JudgesOn kept user call (stat_look user root path) (Ok (Tells fid))
  unfolding stat_look
  stat_finds fid status found covered shown =
      let nature = nature_told status in
      let facts : FactsOf = record {
        dir = nature.dir;
        length = min (view_of kept fid Size) 4294967295;
        owner = nature.owner;
        rights = rights_on nature user;
      } in
      finds_so kept user (checked (target_look user root path) (facts_for user)) tells call (Tells fid) facts
      ((checked_on (held_by kept) (view_of kept) (facts_for user) (target_look user root path) (fid, nature)
      found).finds facts (record { covered = (covered, tt); ends = refl }))
      (λ sized. ap (λ (o : Option StatusOf). Replies (option_map_or (facts_of (content kept) user fid)
      (option_map nature_told o) (IsRefused NoEntry))) (sym shown))

  -- ---- List
  abbrev names : List DirEntry → Meant
  names entries = Replies (Names (names_of entries))

  pub list_stops : (stop : Stop) →
      IsStopped (held_by kept) (view_of kept) (checked (target_look user root path) (entries_for user)) stop →
      StopsOn kept (list_look user root path) stop
  unfolding list_look
  list_stops stop h = stops_so kept user (checked (target_look user root path) (entries_for user)) names call stop h

  abbrev entries_look : Fid → Look (Result (List DirEntry) Refusal)
  entries_look fid = Looks fid Entries (λ entries. Ends (Ok entries))

  entries_are : (fid : Fid) (nature : Nature) (entries : List DirEntry) →
      outcome (view_of kept) (entries_for user (fid, nature)) ≡ Ok entries → entries ≡ view_of kept fid Entries
  entries_are fid nature entries e = by_dir (not nature.dir) e
    where
      by_right : (b : Bool) → outcome (view_of kept) (refuse_if b (Denied read_right) (entries_look fid)) ≡ Ok entries →
          entries ≡ view_of kept fid Entries
      by_right true e = absurd (cc)
      by_right false e = cc

      by_dir : (b : Bool) → outcome (view_of kept) (refuse_if b NotDir (permitted nature user read_right
          (entries_look fid))) ≡ Ok entries → entries ≡ view_of kept fid Entries
      by_dir true e = absurd (cc)
      by_dir false e = by_right (not (allows (rights_on nature user) read_right)) e

  pub list_finds : (fid : Fid) (entries : List DirEntry) →
      outcome (view_of kept) (walk_look user root path) ≡ Ok fid →
      Finds (held_by kept) (view_of kept) (checked (target_look user root path) (entries_for user)) entries →
      JudgesOn kept user call (list_look user root path) (Ok (Lists fid))
  unfolding list_look
  list_finds fid entries walked found =
      let r = seen_behind (view_of kept) user root path fid walked (entries_for user) entries found.ends in
      finds_so kept user (checked (target_look user root path) (entries_for user)) names call (Lists fid) entries found
      (λ sized. ap names (entries_are fid r.0 entries r.2))

  -- ---- GetAcl
  abbrev shows : List AccessEntry → Meant
  shows list = Replies (Access list)

  pub access_stops : (which : Which) (stop : Stop) →
      IsStopped (held_by kept) (view_of kept) (checked (target_look user root path) (list_for which)) stop →
      StopsOn kept (access_look user root path which) stop
  unfolding access_look
  access_stops which stop h =
      stops_so kept user (checked (target_look user root path) (list_for which)) shows call stop h

  pub access_finds : (which : Which) (fid : Fid) (list : List AccessEntry) →
      outcome (view_of kept) (walk_look user root path) ≡ Ok fid →
      Finds (held_by kept) (view_of kept) (checked (target_look user root path) (list_for which)) list →
      JudgesOn kept user call (access_look user root path which) (Ok (Shows fid which))
  unfolding access_look
  access_finds which fid list walked found =
      let r = seen_behind (view_of kept) user root path fid walked (list_for which) list found.ends in
      finds_so kept user (checked (target_look user root path) (list_for which)) shows call (Shows fid which) list found
      (λ sized. sym (ap (λ (o : Option Nature). Replies (option_map_or (access_of which) o (IsRefused NoEntry))) r.1
      ∙ ap (λ (l : Result (List AccessEntry) Refusal). Replies (either l Access IsRefused)) r.2))

  -- ---- Sync
  pub sync_stops : (own : Own) (stop : Stop) →
      IsStopped (held_by kept) (view_of kept) (file_look user root path) stop →
      StopsOn kept (sync_look own user root path) stop
  unfolding sync_look
  sync_stops own stop h = stops_so kept user (file_look user root path) (sync_verdict own) call stop h

  pub sync_finds : (own : Own) (fid : Fid) (nature : Nature) (clean : Bool) →
      Finds (held_by kept) (view_of kept) (file_look user root path) (fid, nature) → own.is_clean fid ≡ clean →
      JudgesOn kept user call (sync_look own user root path) (Ok (if clean then Does else Syncs fid))
  unfolding sync_look
  sync_finds own fid nature clean found is =
      finds_so kept user (file_look user root path) (sync_verdict own) call (if clean then Does else Syncs fid)
      (fid, nature) found (λ sized. ap (λ b. if b then Replies Done else GivesIt) is ∙ by_clean clean)
    where
      by_clean : (b : Bool) → (if b then Replies Done else GivesIt)
          ≡ meant_by (content kept) user call (if b then Does else Syncs fid)
      by_clean true = refl
      by_clean false = refl

  -- ---- Read
  abbrev reads : List ℕ → Meant
  reads bytes = Replies (Bytes bytes)

  pub read_stops : (from len : ℕ) (stop : Stop) →
      IsStopped (held_by kept) (view_of kept)
      (checked (permitted_look user root path read_right) (read_from from len)) stop →
      StopsOn kept (read_look user root path from len) stop
  unfolding read_look
  read_stops from len stop h =
      stops_so kept user (checked (permitted_look user root path read_right) (read_from from len)) reads call stop h

  pub read_finds : (from len : ℕ) (fid : Fid) (span : Span) →
      Finds (held_by kept) (view_of kept) (checked (permitted_look user root path read_right) (read_from from len))
      (bytes_read (view_of kept) from len fid) →
      span ≡ span_between from (from + read_count from len (view_of kept fid Size)) →
      JudgesOn kept user call (read_look user root path from len) (Ok (Reads fid span))
  unfolding read_look
  read_finds from len fid span found is =
      finds_so kept user (checked (permitted_look user root path read_right) (read_from from len)) reads call
      (Reads fid span) (bytes_read (view_of kept) from len fid) found
      (λ sized. ap reads (read_so (view_of kept) fid from len span (sized fid) is))

  -- ---- Write
  abbrev same : Meant → Meant
  same verdict = verdict

  pub write_stops : (from : ℕ) (bytes : List ℕ) (stop : Stop) →
      IsStopped (held_by kept) (view_of kept)
      (checked (write_target_look user root path (from + length bytes)) (written_look from bytes)) stop →
      StopsOn kept (write_look user root path from bytes) stop
  unfolding write_look
  write_stops from bytes stop h =
      stops_so kept user (checked (write_target_look user root path (from + length bytes)) (written_look from bytes))
      same call stop h

  pub write_finds : (from : ℕ) (bytes : List ℕ) (verdict : Verdict) (found : Option Fid) →
      Finds (held_by kept) (view_of kept)
      (checked (write_target_look user root path (from + length bytes)) (written_look from bytes))
      (write_meant from bytes found) →
      write_meant from bytes found ≡ meant_by (content kept) user call verdict →
      JudgesOn kept user call (write_look user root path from bytes) (Ok verdict)
  unfolding write_look
  write_finds from bytes verdict found h is =
      finds_so kept user (checked (write_target_look user root path (from + length bytes)) (written_look from bytes))
      same call verdict (write_meant from bytes found) h (λ sized. is)

  -- ---- Lock, OpenFile
  abbrev locks_it : Bool → ℕ → ℕ → Fid → Meant
  locks_it writing from len fid = Locks fid writing (span_between from (from + len))

  abbrev right_of : Bool → ℕ
  right_of writing = if writing then write_right else read_right

  pub lock_stops : (own : Own) (host : HostId) (writing : Bool) (from len : ℕ) (stop : Stop) →
      IsStopped (held_by kept) (view_of kept) (use_look user root path writing (right_of writing)) stop →
      StopsOn kept (lock_look own host user root path writing from len) stop
  unfolding lock_look
  lock_stops own host writing from len stop h =
      stops_so kept user (checked (use_look user root path writing (right_of writing)) (lock_for own host writing from
      len)) (locks_it writing from len) call stop
      (use_stops kept (use_look user root path writing (right_of writing)) (lock_for own host writing from len) stop h)

  pub lock_fails : (own : Own) (host : HostId) (writing : Bool) (from len : ℕ) (fid : Fid) (stop : Stop) →
      Finds (held_by kept) (view_of kept) (use_look user root path writing (right_of writing)) fid →
      IsStopped (held_by kept) (view_of kept) (lock_for own host writing from len fid) stop →
      StopsOn kept (lock_look own host user root path writing from len) stop
  unfolding lock_look
  lock_fails own host writing from len fid stop found h =
      stops_so kept user (checked (use_look user root path writing (right_of writing)) (lock_for own host writing from
      len)) (locks_it writing from len) call stop
      ((use_on kept (use_look user root path writing (right_of writing)) (lock_for own host writing from len) fid
      found).stops stop h)

  pub lock_finds : (own : Own) (host : HostId) (writing : Bool) (from len : ℕ) (fid : Fid) (kind : Kind) →
      Finds (held_by kept) (view_of kept) (use_look user root path writing (right_of writing)) fid →
      Finds (held_by kept) (view_of kept) (lock_for own host writing from len fid) fid →
      kind ≡ Lock writing (span_between from (from + len)) →
      JudgesOn kept user call (lock_look own host user root path writing from len) (Ok (Uses fid kind))
  unfolding lock_look
  lock_finds own host writing from len fid kind found h is =
      finds_so kept user (checked (use_look user root path writing (right_of writing)) (lock_for own host writing from
      len)) (locks_it writing from len) call (Uses fid kind) fid
      ((use_on kept (use_look user root path writing (right_of writing)) (lock_for own host writing from len) fid
      found).finds fid h)
      (λ sized. sym (ap (used_by fid) is))

  pub open_stops : (kind : OpenKind) (stop : Stop) →
      IsStopped (held_by kept) (view_of kept) (use_look user root path (is_changing kind) (right_to_open kind)) stop →
      StopsOn kept (open_look user root path kind) stop
  unfolding open_look
  open_stops kind stop h =
      stops_so kept user (checked (use_look user root path (is_changing kind) (right_to_open kind)) (open_for kind))
      (λ fid. Opens fid kind) call stop
      (use_stops kept (use_look user root path (is_changing kind) (right_to_open kind)) (open_for kind) stop h)

  pub open_fails : (kind : OpenKind) (fid : Fid) (stop : Stop) →
      Finds (held_by kept) (view_of kept) (use_look user root path (is_changing kind) (right_to_open kind)) fid →
      (Covers (held_by kept) (record { fid = fid; kind = Opening kind }) → ⊥)
      × (stop ≡ Lacks (record { fid = fid; kind = Opening kind })) →
      StopsOn kept (open_look user root path kind) stop
  unfolding open_look
  open_fails kind fid stop found lack =
      stops_so kept user (checked (use_look user root path (is_changing kind) (right_to_open kind)) (open_for kind))
      (λ fid. Opens fid kind) call stop
      ((use_on kept (use_look user root path (is_changing kind) (right_to_open kind)) (open_for kind) fid found).stops
      stop (lacks_need (held_by kept) (view_of kept) (record { fid = fid; kind = Opening kind }) (Ends (Ok fid)) stop
      lack))

  pub open_finds : (kind : OpenKind) (fid : Fid) →
      Finds (held_by kept) (view_of kept) (use_look user root path (is_changing kind) (right_to_open kind)) fid →
      Covers (held_by kept) (record { fid = fid; kind = Opening kind }) →
      JudgesOn kept user call (open_look user root path kind) (Ok (Uses fid (Opening kind)))
  unfolding open_look
  open_finds kind fid found covered =
      finds_so kept user (checked (use_look user root path (is_changing kind) (right_to_open kind)) (open_for kind))
      (λ fid. Opens fid kind) call (Uses fid (Opening kind)) fid
      ((use_on kept (use_look user root path (is_changing kind) (right_to_open kind)) (open_for kind) fid found).finds
      fid (record { covered = (covered, tt); ends = refl }))
      (λ sized. refl)

-- ---- what a Write takes
module _ (view : View) where
  abbrev fitting : User → Fid → List (List ℕ) → ℕ → Look (Result Fid Refusal)
  fitting user root path end = checked (permitted_look user root path write_right) (fits_file end)

  pub fits : (user : User) (root : Fid) (path : List (List ℕ)) (end : ℕ) (fid : Fid) →
      outcome view (write_target_look user root path end) ≡ Ok fid → end ≤ FILE_BYTES_MAX
  fits user root path end fid e =
      by_root (found_or (view root Traits) NoEntry)
      (sym (outcome_checked view (nature_look root) (λ nature. refuse_if nature.read_only ReadOnly (fitting user root
      path end))) ∙ e)
    where
      by_end : (b : Bool) (f : Fid) → nat_lt FILE_BYTES_MAX end ≡ b →
          outcome view (refuse_if b TooBig (Ends (Ok f))) ≡ Ok fid → end ≤ FILE_BYTES_MAX
      by_end true f is q = absurd (cc)
      by_end false f is q = ltb-false FILE_BYTES_MAX end is

      by_found : (r : Result (Fid × Nature) Refusal) →
          and_then r (λ found. outcome view (fits_file end found)) ≡ Ok fid → end ≤ FILE_BYTES_MAX
      by_found (Ok (f, nature)) q = by_end (nat_lt FILE_BYTES_MAX end) f refl q
      by_found (Err refusal) q = absurd (cc)

      by_clone : (b : Bool) → outcome view (refuse_if b ReadOnly (fitting user root path end)) ≡ Ok fid → end ≤
          FILE_BYTES_MAX
      by_clone true q = absurd (cc)
      by_clone false q =
          by_found (outcome view (permitted_look user root path write_right))
          (sym (outcome_checked view (permitted_look user root path write_right) (fits_file end)) ∙ q)

      by_root : (r : Result Nature Refusal) →
          and_then r (λ nature. outcome view (refuse_if nature.read_only ReadOnly (fitting user root path end))) ≡ Ok
          fid →
          end ≤ FILE_BYTES_MAX
      by_root (Ok nature) q = by_clone nature.read_only q
      by_root (Err refusal) q = absurd (cc)

  cover_behind : (held : List Token) (xs ys : List Need) → CoverAll held (xs ++ ys) → CoverAll held ys
  cover_behind held [] ys c = c
  cover_behind held (x ∷ xs) ys c = cover_behind held xs ys c.1

  abbrev wrote : Fid → ℕ → List ℕ → Result Meant Refusal
  wrote fid from bytes = Ok (Writes fid from bytes)

  write_cover : (held : List Token) (b : Bool) (fid : Fid) (from end size : ℕ) (result : Result Meant Refusal) →
      end ≤ FILE_BYTES_MAX →
      IsCovered held view (if b
      then Takes (record { fid = fid; kind = Status true })
      (Takes (record { fid = fid; kind = BytesKind true (rounded (min from size) end) }) (Ends result))
      else Takes (record { fid = fid; kind = BytesKind true (rounded from end) }) (Ends result)) →
      CoversBetween held fid true from end
  write_cover held true fid from end size result h c at low high =
      c.1.0 at (omega (arith, h, low, high)) (omega (arith, h, low, high))
  write_cover held false fid from end size result h c at low high =
      c.0 at (omega (arith, h, low, high)) (omega (arith, h, low, high))

  wrote_is : (f fid : Fid) (from : ℕ) (bytes : List ℕ) → wrote f from bytes ≡ wrote fid from bytes → f ≡ fid
  wrote_is f fid from bytes e = cc

  written_ends : (b : Bool) (f fid : Fid) (from end size : ℕ) (bytes : List ℕ) →
      outcome view (if b
      then Takes (record { fid = f; kind = Status true })
      (Takes (record { fid = f; kind = BytesKind true (rounded (min from size) end) }) (Ends (wrote f from bytes)))
      else Takes (record { fid = f; kind = BytesKind true (rounded from end) }) (Ends (wrote f from bytes)))
      ≡ wrote fid from bytes → f ≡ fid
  written_ends true f fid from end size bytes e = wrote_is f fid from bytes e
  written_ends false f fid from end size bytes e = wrote_is f fid from bytes e

  pub write_backed : (held : List Token) (user : User) (root : Fid) (path : List (List ℕ)) (from : ℕ) (bytes : List ℕ)
      (fid : Fid) →
      Finds held view (checked (write_target_look user root path (from + length bytes)) (written_look from bytes))
      (Writes fid from bytes) →
      (from + length bytes ≤ FILE_BYTES_MAX) × CoversBetween held fid true from (from + length bytes)
  write_backed held user root path from bytes fid found =
      let way = write_target_look user root path (from + length bytes) in
      by_target (outcome view way) refl (sym (outcome_checked view way (written_look from bytes)) ∙ found.ends)
      (cover_behind held (needs_of view way) (needs_of view (after_check (written_look from bytes) (outcome view way)))
      (subst (CoverAll held) (needs_on view way (after_check (written_look from bytes))) found.covered))
    where
      by_bytes : (bs : List ℕ) (f : Fid) → from + length bs ≤ FILE_BYTES_MAX →
          outcome view (written_look from bs f) ≡ Ok (Writes fid from bs) →
          IsCovered held view (written_look from bs f) → CoversBetween held fid true from (from + length bs)
      by_bytes [] f h e c = absurd (cc)
      by_bytes (byte ∷ bs) f h e c =
          let end = from + length (byte ∷ bs) in
          let is = written_ends (nat_lt (view f Size) end) f fid from end (view f Size) (byte ∷ bs) e in
          subst (λ (x : Fid). CoversBetween held x true from end) is
          (write_cover held (nat_lt (view f Size) end) f from end (view f Size) (wrote f from (byte ∷ bs)) h c.1)

      by_target : (r : Result Fid Refusal) →
          outcome view (write_target_look user root path (from + length bytes)) ≡ r →
          and_then r (λ f. outcome view (written_look from bytes f)) ≡ Ok (Writes fid from bytes) →
          CoverAll held (needs_of view (after_check (written_look from bytes)
          (outcome view (write_target_look user root path (from + length bytes))))) →
          (from + length bytes ≤ FILE_BYTES_MAX) × CoversBetween held fid true from (from + length bytes)
      by_target (Ok f) is e c =
          let h = fits user root path (from + length bytes) f is in (
            h,
            by_bytes bytes f h e (subst (λ (r : Result Fid Refusal). CoverAll held (needs_of view (after_check
                (written_look from bytes) r))) is c),
          )
      by_target (Err refusal) is e c = absurd (cc)
