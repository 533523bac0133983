-- What gives back without a label is a Sync, of the file that its place leads to; and where tokens of that file leave.
-- the first of two parts of what is found
use Rattle.std.proofs.Common.{◌++◌, ◌+◌, ◌-◌, ◌<◌, ◌==◌, ◌∙◌, ◌∷◌, ◌≡◌, ◌⊎◌}
use Rattle.base_types.specs.Ids.{same_fid}
use Rattle.base_types.specs.Outcomes.{and_then, either}
use Rattle.base_types.specs.declared.ids.Fid.{Fid}
use Rattle.base_types.specs.declared.ids.FilesetId.{FilesetId}
use Rattle.base_types.specs.declared.user.User.{User}
use Rattle.host_calls.specs.Looking.{path_look}
use Rattle.host_tables.proofs.Lists.{any_in, by_test, fid_same, in_any, same_fid_is, true_false}
use Rattle.host_tables.specs.Stands.{Finds, IsCoveredFrom, look_from, verdict_from}
use Rattle.host_tables.specs.Tables.{content, held_of, home_of, is_clean_file, own_of, updates_status}
use Rattle.host_tables.specs.declared.tables.Tables.{Tables}
use Rattle.need_host.proofs.Looking.{outcome_checked}
use Rattle.need_host.proofs.Rows.{outcome_judged, written_seen, written_verdict}
use Rattle.need_host.proofs.Updates.{needs_on}
use Rattle.need_host.specs.Calls.{Own, Verdict as Meant, access_look, call_look, entries_for, facts_for, from_root}
use Rattle.need_host.specs.Calls.{judged, list_for, list_look, lock_for, lock_look, open_for, open_look, read_from}
use Rattle.need_host.specs.Calls.{read_look, stat_look, sync_look, sync_verdict, write_look, write_target_look}
use Rattle.need_host.specs.Calls.{written_look}
use Rattle.need_host.specs.Calls.Verdict.{Gives as GivesOf, Locks, Opens, Replies}
use Rattle.need_host.specs.Looks.{CoverAll, IsCovered, IsFirstLack, Look, View, after_check, checked, needs_of}
use Rattle.need_host.specs.Looks.{outcome, refuse_if}
use Rattle.need_host.specs.Looks.Look.{Ends}
use Rattle.need_host.specs.Walks.{file_look, nature_look, permitted_look, root_of, target_look, use_look, walk_look}
use Rattle.run_rules.specs.Past.{In}
use Rattle.std.proofs.Common.{Bool, Err, List, None, Ok, Option, Result, Some, [], ap, append-nil, arith, eqb-true}
use Rattle.std.proofs.Common.{false, if◌then◌else◌, inl, inr, length, nat_le, refl, subst, suc, sym, true, zero, ℕ}
use Rattle.std.proofs.Common.{◌++◌, ◌+◌, ◌-◌, ◌<◌, ◌==◌, ◌∙◌, ◌∷◌, ◌≡◌, ◌⊎◌}
use Rattle.std.proofs.lemmas.Bool.{and_from, and_parts, eqb-false, leb-false, leb-true}
use Rattle.std.specs.List.{list_any}
use Rattle.token_types.specs.Covers.{Covers, CoversBetween, CoversKind, covers_alone, covers_byte, kind_covers}
use Rattle.token_types.specs.Covers.{kind_covers_byte}
use Rattle.token_types.specs.declared.token.Kind.{Kind}
use Rattle.token_types.specs.declared.token.Kind.TheVariants.{Bytes as BytesKind, Lock as LockKind}
use Rattle.token_types.specs.declared.token.Kind.TheVariants.{Opening as OpeningKind, Status as StatusKind}
use Rattle.token_types.specs.declared.token.Need.{Need}
use Rattle.token_types.specs.declared.token.Token.{Token}
use Rattle.tree_answers.specs.Finding.{found_or}
use Rattle.tree_calls.specs.declared.call.Call.{Call}
use Rattle.tree_calls.specs.declared.call.Call.TheVariants.{CloneFileset, CloseFile, Create, GetAcl}
use Rattle.tree_calls.specs.declared.call.Call.TheVariants.{List as ListNames, Lock, MakeDir, MoveFileset, NewFileset}
use Rattle.tree_calls.specs.declared.call.Call.TheVariants.{OpenFile, Read, Remove, Rename, SetAcl, Stat, Sync}
use Rattle.tree_calls.specs.declared.call.Call.TheVariants.{Truncate, Unlock, Write}
use Rattle.tree_calls.specs.declared.place.Place.{Place as NamedPlace}
use Rattle.tree_calls.specs.declared.reply.Refusal.{Refusal}
use Rattle.tree_calls.specs.declared.reply.Refusal.TheVariants.{IsDir, NoEntry}
use Rattle.tree_calls.specs.declared.reply.Reply.TheVariants.{Access, Bytes, Facts, Names, Ok as Done, Refused}
use Rattle.tree_filesets.specs.Rights.{read_right, write_right}
use Rattle.tree_filesets.specs.Uses.{is_changing, right_to_open}
use Rattle.tree_laws.specs.Parts.{Nature}
use Rattle.tree_laws.specs.Parts.Part.{Traits}
use Rattle.tree_objects.specs.Entries.{names_of}
use Rattle.tree_objects.specs.Spans.{span_between}

abbrev pub found_ok : Fid → Nature → Result (Fid × Nature) Refusal
found_ok fid nature = Ok (fid, nature)

found_fid : Fid → Result (Fid × Nature) Refusal → Fid
found_fid other (Ok found) = found.0
found_fid other (Err refusal) = other

pub ok_first : (a b : Fid) (x y : Nature) → found_ok a x ≡ found_ok b y → a ≡ b
unfolding found_fid
ok_first a b x y e = ap (λ (r : Result (Fid × Nature) Refusal). found_fid a r) e

-- lists that are the same end alike
last_need : List Need → Option Need
last_need [] = None
last_need (z ∷ []) = Some z
last_need (z ∷ w ∷ zs) = last_need (w ∷ zs)

last_is : (zs : List Need) (z : Need) → last_need (zs ++ z ∷ []) ≡ Some z
unfolding last_need
last_is [] z = refl
last_is (w ∷ []) z = refl
last_is (w ∷ v ∷ zs) z = last_is (v ∷ zs) z

last_same : (xs ys : List Need) (x y : Need) → xs ++ x ∷ [] ≡ ys ++ y ∷ [] → x ≡ y
last_same xs ys x y e =
    let p : Some x ≡ Some y = sym (last_is xs x) ∙ ap last_need e ∙ last_is ys y in cc

covered_first : (held : List Token) (xs ys : List Need) → CoverAll held (xs ++ ys) → CoverAll held xs
covered_first held [] ys c = tt
covered_first held (x ∷ xs) ys c = (c.0, covered_first held xs ys c.1)

-- what doesn't give back
NotGives : Meant → Type 0
NotGives GivesOf = ⊥
NotGives _ = Unit {0}

not_judged : {A : Type 0} (view : View) (look : Look (Result A Refusal)) (judge : A → Meant)
    → ((value : A) → NotGives (judge value)) → outcome view (judged look judge) ≡ GivesOf → ⊥
unfolding NotGives
not_judged {A = A} view look judge none e = by_found (outcome view look) (sym (outcome_judged view look judge) ∙ e)
  where
    by_found : (found : Result A Refusal) → either found judge (λ refusal. Replies (Refused refusal)) ≡ GivesOf → ⊥
    by_found (Ok value) q = subst NotGives q (none value)
    by_found (Err refusal) q = subst NotGives q tt

not_write : (view : View) (user : User) (root : Fid) (path : List (List ℕ)) (from : ℕ) (bytes : List ℕ)
    → outcome view (write_look user root path from bytes) ≡ GivesOf → ⊥
unfolding write_look NotGives
not_write view user root path from bytes e =
    by_target (outcome view (write_target_look user root path (from + length bytes))) bytes
    (sym (outcome_judged view (checked (write_target_look user root path (from + length bytes))
    (written_look from bytes))
    (λ verdict. verdict)
    ∙ ap (λ found. either found (λ verdict. verdict) (λ refusal. Replies (Refused refusal)))
    (outcome_checked view (write_target_look user root path (from + length bytes)) (written_look from bytes))) ∙ e)
  where
    none_written : (fid : Fid) (bs : List ℕ) → NotGives (written_verdict fid from bs)
    none_written fid [] = tt
    none_written fid (byte ∷ bs) = tt

    by_target : (found : Result Fid Refusal) (bs : List ℕ)
        → either (and_then found (λ fid. outcome view (written_look from bs fid))) (λ verdict. verdict)
        (λ refusal. Replies (Refused refusal)) ≡ GivesOf → ⊥
    by_target (Ok fid) bs q =
        subst NotGives (ap (λ r. either r (λ verdict. verdict) (λ refusal. Replies (Refused refusal)))
        (sym (written_seen view fid from bs)) ∙ q) (none_written fid bs)
    by_target (Err refusal) bs q = subst NotGives q tt

-- along a path only a Sync gives back
pub only_sync : (m : Tables) (call : Call) (root : Fid) (path : List (List ℕ))
    → outcome (content m.cache) (path_look m call root path) ≡ GivesOf → (place : NamedPlace) × (call ≡ Sync place)
unfolding read_look list_look stat_look access_look lock_look open_look NotGives
only_sync m (Read place from len) root path e =
    absurd (not_judged (content m.cache) (checked (permitted_look m.user root path read_right) (read_from from len))
    (λ bytes. Replies (Bytes bytes)) (λ bytes. tt) e)
only_sync m (Write place from bytes) root path e =
    absurd (not_write (content m.cache) m.user root path from bytes e)
only_sync m (ListNames place) root path e =
    absurd (not_judged (content m.cache) (checked (target_look m.user root path) (entries_for m.user))
    (λ entries. Replies (Names (names_of entries))) (λ entries. tt) e)
only_sync m (Stat place) root path e =
    absurd (not_judged (content m.cache) (checked (target_look m.user root path) (facts_for m.user))
    (λ facts. Replies (Facts facts)) (λ facts. tt) e)
only_sync m (GetAcl place which) root path e =
    absurd (not_judged (content m.cache) (checked (target_look m.user root path) (list_for which))
    (λ list. Replies (Access list)) (λ list. tt) e)
only_sync m (Sync place) root path e = (place, refl)
only_sync m (Lock label place writing from len) root path e =
    absurd (not_judged (content m.cache)
    (checked (use_look m.user root path writing (if writing then write_right else read_right))
    (lock_for (own_of m) m.host writing from len)) (λ fid. Locks fid writing (span_between from (from + len)))
    (λ fid. tt) e)
only_sync m (OpenFile label place kind) root path e =
    absurd (not_judged (content m.cache)
    (checked (use_look m.user root path (is_changing kind) (right_to_open kind)) (open_for kind))
    (λ fid. Opens fid kind) (λ fid. tt) e)
only_sync m (NewFileset server name objects owner) root path e = absurd (cc)
only_sync m (Create place) root path e = absurd (cc)
only_sync m (MakeDir place) root path e = absurd (cc)
only_sync m (Remove place) root path e = absurd (cc)
only_sync m (Rename from to) root path e = absurd (cc)
only_sync m (Truncate place len) root path e = absurd (cc)
only_sync m (SetAcl place which list) root path e = absurd (cc)
only_sync m (CloneFileset server source new) root path e = absurd (cc)
only_sync m (Unlock label) root path e = absurd (cc)
only_sync m (CloseFile label) root path e = absurd (cc)
only_sync m (MoveFileset server name to) root path e = absurd (cc)

-- # The last thing that the look of a Sync needs
abbrev traits_of : Fid → Need
traits_of fid = record { fid = fid; kind = StatusKind false }

abbrev if_file : Fid × Nature → Look (Result (Fid × Nature) Refusal)
if_file found = refuse_if found.1.dir IsDir (Ends (found_ok found.0 found.1))

abbrev with_nature : Fid → Look (Result (Fid × Nature) Refusal)
with_nature fid = checked (nature_look fid) (λ nature. Ends (found_ok fid nature))

module _ (own : Own) (user : User) (view : View) where
  file_needs : (root : Fid) (path : List (List ℕ)) (fid : Fid) → outcome view (walk_look user root path) ≡ Ok fid
      → needs_of view (file_look user root path) ≡ needs_of view (walk_look user root path) ++ traits_of fid ∷ []
  file_needs root path fid found =
      needs_on view (target_look user root path) (after_check if_file)
      ∙ ap (λ (ns : List Need). needs_of view (target_look user root path) ++ ns)
      (none_after (outcome view (target_look user root path)))
      ∙ append-nil (needs_of view (target_look user root path))
      ∙ needs_on view (walk_look user root path) (after_check with_nature)
      ∙ ap (λ (r : Result Fid Refusal). needs_of view (walk_look user root path)
      ++ needs_of view (after_check with_nature r)) found
      ∙ ap (λ (ns : List Need). needs_of view (walk_look user root path) ++ traits_of fid ∷ ns)
      (none_nature (found_or (view fid Traits) NoEntry))
    where
      none_dir : (b : Bool) (p : Fid × Nature) → needs_of view (refuse_if b IsDir (Ends (found_ok p.0 p.1))) ≡ []
      none_dir true p = refl
      none_dir false p = refl

      none_after : (r : Result (Fid × Nature) Refusal) → needs_of view (after_check if_file r) ≡ []
      none_after (Ok p) = none_dir p.1.dir p
      none_after (Err refusal) = refl

      none_nature : (r : Result Nature Refusal)
          → needs_of view (after_check (λ nature. Ends (found_ok fid nature)) r) ≡ []
      none_nature (Ok nature) = refl
      none_nature (Err refusal) = refl

  pub sync_needs : (root : Fid) (path : List (List ℕ)) → needs_of view (sync_look own user root path)
      ≡ needs_of view (file_look user root path)
  unfolding sync_look
  sync_needs root path =
      needs_on view (file_look user root path)
      (λ seen. Ends (either seen (sync_verdict own) (λ refusal. Replies (Refused refusal))))
      ∙ append-nil (needs_of view (file_look user root path))

  -- where it finds a file the walk finds that
  walk_found : (root : Fid) (path : List (List ℕ)) (fid : Fid) (nature : Nature)
      → outcome view (file_look user root path) ≡ found_ok fid nature
      → outcome view (walk_look user root path) ≡ Ok fid
  walk_found root path fid nature e =
      by_walk (outcome view (walk_look user root path)) refl
      (by_target (outcome view (target_look user root path))
      (sym (outcome_checked view (target_look user root path) if_file) ∙ e))
    where
      by_dir : (p : Fid × Nature) (b : Bool)
          → outcome view (refuse_if b IsDir (Ends (found_ok p.0 p.1))) ≡ found_ok fid nature
          → Ok p ≡ found_ok fid nature
      by_dir p true k = absurd (cc)
      by_dir p false k = k

      by_target : (r : Result (Fid × Nature) Refusal)
          → and_then r (λ p. outcome view (if_file p)) ≡ found_ok fid nature → r ≡ found_ok fid nature
      by_target (Ok p) q = by_dir p p.1.dir q
      by_target (Err refusal) q = absurd (cc)

      by_nature : (f : Fid) (r : Result Nature Refusal)
          → and_then r (λ n. outcome view (Ends (found_ok f n))) ≡ found_ok fid nature → f ≡ fid
      by_nature f (Ok n) q = ok_first f fid n nature q
      by_nature f (Err refusal) q = absurd (cc)

      by_walk : (r : Result Fid Refusal) → outcome view (walk_look user root path) ≡ r
          → outcome view (target_look user root path) ≡ found_ok fid nature → r ≡ Ok fid
      by_walk (Ok f) w q =
          let s = sym (outcome_checked view (walk_look user root path) with_nature) ∙ q in
          let k : outcome view (with_nature f) ≡ found_ok fid nature =
          sym (ap (λ (x : Result Fid Refusal). and_then x (λ g. outcome view (with_nature g))) w) ∙ s in
          ap Ok (by_nature f (found_or (view f Traits) NoEntry)
          (sym (outcome_checked view (nature_look f) (λ n. Ends (found_ok f n))) ∙ k))
      by_walk (Err refusal) w q =
          let s = sym (outcome_checked view (walk_look user root path) with_nature) ∙ q in
          let k : Err refusal ≡ found_ok fid nature =
          sym (ap (λ (x : Result Fid Refusal). and_then x (λ g. outcome view (with_nature g))) w) ∙ s in absurd (cc)

  -- two looks that are the same find the same file
  same_file : (root other : Fid) (path names : List (List ℕ)) (fid found : Fid)
      → sync_look own user root path ≡ sync_look own user other names
      → outcome view (walk_look user root path) ≡ Ok fid → outcome view (walk_look user other names) ≡ Ok found
      → fid ≡ found
  same_file root other path names fid found e at_fid at_found =
      ap (λ (n : Need). n.fid) (last_same (needs_of view (walk_look user root path))
      (needs_of view (walk_look user other names)) (traits_of fid) (traits_of found)
      (sym (sync_needs root path ∙ file_needs root path fid at_fid) ∙ ap (needs_of view) e
      ∙ sync_needs other names ∙ file_needs other names found at_found))

-- # What a Sync finds, where it gives back
pub record FoundSync (m : Tables) (place : NamedPlace) : Type 0 where
  pub fid : Fid
  pub finds : Finds m place fid
  pub walked : outcome (content m.cache) (walk_look m.user (root_of finds.id) place.path) ≡ Ok fid
  pub look_is : look_from m (Sync place) ≡ sync_look (own_of m) m.user (root_of finds.id) place.path
  pub unclean : is_clean_file m fid ≡ false

pub found_sync : (m : Tables) (place : NamedPlace) → IsCoveredFrom m (Sync place) → verdict_from m (Sync place)
    ≡ GivesOf
    → FoundSync m place
unfolding call_look sync_look
found_sync m place covered verdict = by_seen (home_of m.homes place.server place.fileset) refl covered verdict
  where
    by_clean : (b : Bool) → (if b then Replies Done else GivesOf) ≡ GivesOf → b ≡ false
    by_clean true q = absurd (cc)
    by_clean false q = refl

    by_file : (id : FilesetId) → home_of m.homes place.server place.fileset ≡ Some id
        → IsCovered (held_of m) (content m.cache) (judged (file_look m.user (root_of id) place.path)
        (sync_verdict (own_of m)))
        → (r : Result (Fid × Nature) Refusal) → outcome (content m.cache) (file_look m.user (root_of id) place.path) ≡ r
        → either r (sync_verdict (own_of m)) (λ refusal. Replies (Refused refusal)) ≡ GivesOf → FoundSync m place
    by_file id seen c (Ok p) found q = record {
      fid = p.0;
      finds = record {
        id = id;
        nature = p.1;
        seen = seen;
        covered = covered_first (held_of m) (needs_of (content m.cache) (file_look m.user (root_of id) place.path)) []
            (subst (CoverAll (held_of m)) (needs_on (content m.cache) (file_look m.user (root_of id) place.path)
            (λ seen. Ends (either seen (sync_verdict (own_of m)) (λ refusal. Replies (Refused refusal))))) c);
        found = found;
      };
      walked = walk_found (own_of m) m.user (content m.cache) (root_of id) place.path p.0 p.1 found;
      look_is = ap (λ (o : Option FilesetId). from_root place.server o
          (λ root. sync_look (own_of m) m.user root place.path)) seen;
      unclean = by_clean (is_clean_file m p.0) q;
    }
    by_file id seen c (Err refusal) found q = absurd (cc)

    by_seen : (o : Option FilesetId) → home_of m.homes place.server place.fileset ≡ o
        → IsCovered (held_of m) (content m.cache) (from_root place.server o
        (λ root. sync_look (own_of m) m.user root place.path))
        → outcome (content m.cache) (from_root place.server o (λ root. sync_look (own_of m) m.user root place.path))
        ≡ GivesOf → FoundSync m place
    by_seen None e c v = absurd (cc)
    by_seen (Some id) e c v =
        by_file id e c (outcome (content m.cache) (file_look m.user (root_of id) place.path)) refl
        (sym (outcome_judged (content m.cache) (file_look m.user (root_of id) place.path) (sync_verdict (own_of m)))
        ∙ v)

-- what a Sync looks at, and makes of it
pub sync_from : (m : Tables) (place : NamedPlace) (id : FilesetId)
    → home_of m.homes place.server place.fileset ≡ Some id
    → look_from m (Sync place) ≡ sync_look (own_of m) m.user (root_of id) place.path
unfolding call_look
sync_from m place id seen =
    ap (λ (o : Option FilesetId). from_root place.server o (λ root. sync_look (own_of m) m.user root place.path)) seen

pub sync_gives : (m : Tables) (path : List (List ℕ)) (id : FilesetId) (fid : Fid) (nature : Nature)
    → outcome (content m.cache) (file_look m.user (root_of id) path) ≡ found_ok fid nature
    → is_clean_file m fid ≡ false
    → outcome (content m.cache) (sync_look (own_of m) m.user (root_of id) path) ≡ GivesOf
unfolding sync_look
sync_gives m path id fid nature found unclean =
    outcome_judged (content m.cache) (file_look m.user (root_of id) path) (sync_verdict (own_of m))
    ∙ ap (λ r. either r (sync_verdict (own_of m)) (λ refusal. Replies (Refused refusal))) found
    ∙ ap (λ (b : Bool). if b then Replies Done else GivesOf) unclean

-- a token for changing a status covers the length
pub status_covers : (t : Token) (fid : Fid) (held : List Token) → In t held → t.fid ≡ fid
    → updates_status t.kind ≡ true → list_any (covers_alone fid (StatusKind false)) held ≡ true
status_covers t fid held i at e =
    any_in (covers_alone fid (StatusKind false)) held t i
    (and_from (same_fid t.fid fid) (kind_covers t.kind (StatusKind false)) (fid_same t.fid fid at) (by_kind t.kind e))
  where
    by_kind : (k : Kind) → updates_status k ≡ true → kind_covers k (StatusKind false) ≡ true
    by_kind (StatusKind true) q = refl
    by_kind (StatusKind false) q = absurd (cc)
    by_kind (BytesKind update span) q = absurd (cc)
    by_kind (LockKind writing span) q = absurd (cc)
    by_kind (OpeningKind opening) q = absurd (cc)

-- the file that the path led to is the one that the place leads to
pub finds_same : (m : Tables) (place : NamedPlace) (root : Fid) (path : List (List ℕ)) (fid : Fid)
    (covered : IsCoveredFrom m (Sync place)) (verdict : verdict_from m (Sync place) ≡ GivesOf)
    → look_from m (Sync place) ≡ path_look m (Sync place) root path
    → outcome (content m.cache) (walk_look m.user root path) ≡ Ok fid
    → fid ≡ (found_sync m place covered verdict).fid
finds_same m place root path fid covered verdict look found =
    let f = found_sync m place covered verdict in
    same_file (own_of m) m.user (content m.cache) root (root_of f.finds.id) path place.path fid f.fid
    (sym look ∙ f.look_is) found f.walked

-- # Whether tokens cover what a look needs
decide_between : (held : List Token) (fid : Fid) (needed : Bool) (from n : ℕ)
    → CoversBetween held fid needed from (from + n) ⊎ (CoversBetween held fid needed from (from + n) → ⊥)
decide_between held fid needed from zero = inl (λ at low high. absurd (omega (arith, low, high)))
decide_between held fid needed from (suc n) =
    by_both (decide_between held fid needed from n) (by_test (list_any (covers_byte fid needed (from + n)) held))
  where
    by_both : CoversBetween held fid needed from (from + n) ⊎ (CoversBetween held fid needed from (from + n) → ⊥)
        → (list_any (covers_byte fid needed (from + n)) held ≡ true)
        ⊎ (list_any (covers_byte fid needed (from + n)) held ≡ false)
        → CoversBetween held fid needed from (from + suc n) ⊎ (CoversBetween held fid needed from (from + suc n) → ⊥)
    by_both (inl all) (inl t) = inl (λ at low high. elim (by_test (at == from + n)) [
      | inl e ↦ subst (λ (k : ℕ). list_any (covers_byte fid needed k) held ≡ true) (sym (eqb-true at (from + n) e)) t
      | inr d ↦ all at low (let ne = eqb-false at (from + n) d in below at high ne)
    ])
      where
        below : (at : ℕ) → at < from + suc n → (at ≡ from + n → ⊥) → at < from + n
        below at high ne = omega (arith, high, ne)
    by_both (inl all) (inr f) = inr (λ every. true_false (list_any (covers_byte fid needed (from + n)) held)
        (every (from + n) (omega arith) (omega arith)) f)
    by_both (inr none) t = inr (λ every. none (λ at low high. every at low (omega (arith, high))))

decide_kind : (held : List Token) (need : Need) → Covers held need ⊎ (Covers held need → ⊥)
decide_kind held need = by_kind need.kind
  where
    by_flag : (b : Bool) → (b ≡ true) ⊎ (b ≡ true → ⊥)
    by_flag true = inl refl
    by_flag false = inr (λ e. cc)

    by_order : (from to : ℕ) (needed : Bool) → (nat_le from to ≡ true) ⊎ (nat_le from to ≡ false)
        → CoversBetween held need.fid needed from to ⊎ (CoversBetween held need.fid needed from to → ⊥)
    by_order from to needed (inl t) =
        subst (λ (k : ℕ). CoversBetween held need.fid needed from k ⊎ (CoversBetween held need.fid needed from k → ⊥))
        (let l = leb-true from to t in omega (arith, l)) (decide_between held need.fid needed from (to - from))
    by_order from to needed (inr f) =
        inl (λ at low high. absurd (let l = leb-false from to f in omega (arith, l, low, high)))

    by_kind : (k : Kind) → CoversKind held need.fid k ⊎ (CoversKind held need.fid k → ⊥)
    by_kind (BytesKind update span) =
        by_order span.from span.to update (by_test (nat_le span.from span.to))
    by_kind (StatusKind update) = by_flag (list_any (covers_alone need.fid (StatusKind update)) held)
    by_kind (LockKind writing span) = by_flag (list_any (covers_alone need.fid (LockKind writing span)) held)
    by_kind (OpeningKind opening) = by_flag (list_any (covers_alone need.fid (OpeningKind opening)) held)

pub decide_all : (held : List Token) (needs : List Need)
    → CoverAll held needs ⊎ ((need : Need) × IsFirstLack held needs need)
decide_all held [] = inl tt
decide_all held (first ∷ needs) = by_first (decide_kind held first) (decide_all held needs)
  where
    by_first : Covers held first ⊎ (Covers held first → ⊥)
        → CoverAll held needs ⊎ ((need : Need) × IsFirstLack held needs need)
        → CoverAll held (first ∷ needs) ⊎ ((need : Need) × IsFirstLack held (first ∷ needs) need)
    by_first (inl c) (inl all) = inl (c, all)
    by_first (inl c) (inr r) = inr (r.0, inr (c, r.1))
    by_first (inr none) rest = inr (first, inl (none, refl))

-- what covers a need of another file stays, where tokens of one file leave
pub covers_stay : (old new : List Token) (fid : Fid)
    → ((t : Token) → In t old → (t.fid ≡ fid → ⊥) → In t new) → (need : Need) → (need.fid ≡ fid → ⊥)
    → Covers old need → Covers new need
covers_stay old new fid stays need other covers = by_kind need.kind covers
  where
    moved : (test : Token → Bool) → ((t : Token) → test t ≡ true → t.fid ≡ need.fid) → list_any test old ≡ true
        → list_any test new ≡ true
    moved test of any =
        let r = in_any test old any in
        any_in test new r.0 (stays r.0 r.1 (λ e. other (sym (of r.0 r.2) ∙ e))) r.2

    by_kind : (k : Kind) → CoversKind old need.fid k → CoversKind new need.fid k
    by_kind (BytesKind update span) c = λ at low high.
        moved (covers_byte need.fid update at)
        (λ t e. same_fid_is t.fid need.fid (and_parts (same_fid t.fid need.fid) (kind_covers_byte update at t.kind)
        e).0)
        (c at low high)
    by_kind (StatusKind update) c =
        moved (covers_alone need.fid (StatusKind update)) (λ t e. same_fid_is t.fid need.fid
        (and_parts (same_fid t.fid need.fid) (kind_covers t.kind (StatusKind update)) e).0) c
    by_kind (LockKind writing span) c =
        moved (covers_alone need.fid (LockKind writing span)) (λ t e. same_fid_is t.fid need.fid
        (and_parts (same_fid t.fid need.fid) (kind_covers t.kind (LockKind writing span)) e).0) c
    by_kind (OpeningKind opening) c =
        moved (covers_alone need.fid (OpeningKind opening)) (λ t e. same_fid_is t.fid need.fid
        (and_parts (same_fid t.fid need.fid) (kind_covers t.kind (OpeningKind opening)) e).0) c
