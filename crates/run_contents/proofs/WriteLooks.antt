-- What the look of a call has seen, and needs, where it ends in a Write.
use Rattle.std.proofs.Common.{◌≡◌, ℕ, ◌+◌, Bool, true, false, if◌then◌else◌, nat_lt, Some, None, List, [], ◌∷◌, ◌++◌}
use Rattle.std.proofs.Common.{Option, Result, Ok, Err, length, inl, inr, sym, ◌∙◌, ap, subst, refl}
use Rattle.std.proofs.lemmas.Bool.{false≢true}
use Rattle.std.specs.Prelude.{nat_le, min, not}
use Rattle.base_types.specs.Access.{allows}
use Rattle.base_types.specs.Outcomes.{and_then, either}
use Rattle.base_types.specs.declared.ids.Fid.{Fid}
use Rattle.base_types.specs.declared.ids.FilesetId.{FilesetId}
use Rattle.base_types.specs.declared.ids.HostId.{HostId}
use Rattle.base_types.specs.declared.ids.ServerId.{ServerId}
use Rattle.base_types.specs.declared.limits.TheConstants.{FILE_BYTES_MAX, LABELS_MAX}
use Rattle.base_types.specs.declared.user.User.{User}
use Rattle.tree_calls.specs.declared.call.Call.{Call}
use Rattle.tree_calls.specs.declared.call.Call.TheVariants.{NewFileset, Create, MakeDir, Remove, Rename, Truncate}
use Rattle.tree_calls.specs.declared.call.Call.TheVariants.{SetAcl, CloneFileset, Read, Write, List as ListNames, Stat}
use Rattle.tree_calls.specs.declared.call.Call.TheVariants.{GetAcl, Sync, Lock, Unlock, OpenFile, CloseFile}
use Rattle.tree_calls.specs.declared.call.Call.TheVariants.{MoveFileset}
use Rattle.tree_calls.specs.declared.part.DirEntry.{DirEntry}
use Rattle.tree_calls.specs.declared.place.Place.{Place}
use Rattle.tree_calls.specs.declared.reply.Refusal.{Refusal}
use Rattle.tree_calls.specs.declared.reply.Refusal.TheVariants.{Denied, NotLocked, NotOpened, AlreadyLocked}
use Rattle.tree_calls.specs.declared.reply.Refusal.TheVariants.{AlreadyOpened, IsDir, NoEntry, ReadOnly, TooBig}
use Rattle.tree_calls.specs.declared.reply.Refusal.TheVariants.{TooMany}
use Rattle.tree_calls.specs.declared.reply.Reply.TheVariants.{Ok as Done, Bytes as BytesRead, Names, Facts, Access}
use Rattle.tree_calls.specs.declared.reply.Reply.TheVariants.{Refused}
use Rattle.tree_filesets.specs.Rights.{read_right, write_right}
use Rattle.tree_filesets.specs.Uses.{is_changing, right_to_open}
use Rattle.tree_filesets.specs.Walk.{entry_or_none}
use Rattle.need_host.proofs.Looking.{outcome_on}
use Rattle.need_host.proofs.Rows.{outcome_judged}
use Rattle.need_host.proofs.Updates.{needs_on}
use Rattle.need_host.specs.Calls.{entries_for, list_for, lock_for, open_for, read_from, refuse, Own, Verdict}
use Rattle.need_host.specs.Calls.{access_look, call_look, change_look, facts_for, fits_file, from_root, in_place}
use Rattle.need_host.specs.Calls.{judged, list_look, lock_look, open_look, read_look, stat_look, sync_look}
use Rattle.need_host.specs.Calls.{sync_verdict, write_look, write_target_look, written_look}
use Rattle.need_host.specs.Calls.Verdict.{Asks, Frees, Gives, Locks, Opens, Replies, Writes}
use Rattle.need_host.specs.Looks.{Look, View, after_check, checked, needs_of, outcome, refuse_if, rounded}
use Rattle.need_host.specs.Looks.Look.{Ends, Takes}
use Rattle.need_host.specs.Questions.Question.{ChangeAt, ChangeIn, EnterAt}
use Rattle.need_host.specs.Walks.{permitted, rights_on, search_look, use_look, file_look, fid_in, nature_look}
use Rattle.need_host.specs.Walks.{permitted_look, root_of, step_look, target_look, walk_look}
use Rattle.tree_objects.specs.Entries.{entry_named, names_of}
use Rattle.tree_objects.specs.Spans.{span_between}
use Rattle.tree_answers.specs.Finding.{found_or}
use Rattle.tree_answers.specs.Locks.{has_lock, lock_count}
use Rattle.tree_answers.specs.Opens.{has_open, open_count}
use Rattle.token_types.specs.declared.token.Kind.TheVariants.{Bytes, Status}
use Rattle.token_types.specs.declared.token.Need.{Need}
use Rattle.tree_laws.specs.Parts.{Nature}
use Rattle.tree_laws.specs.Parts.Part.{Size, Traits}
use Rattle.run_rules.specs.Past.{In}

pub in_front : {X : Type 0} (x : X) (xs ys : List X) → In x xs → In x (xs ++ ys)
in_front x [] ys m = elim m [ ]
in_front x (z ∷ zs) ys (inl e) = inl e
in_front x (z ∷ zs) ys (inr m) = inr (in_front x zs ys m)

pub in_back : {X : Type 0} (x : X) (xs ys : List X) → In x ys → In x (xs ++ ys)
in_back x [] ys m = m
in_back x (z ∷ zs) ys m = inr (in_back x zs ys m)

ok_same : {A : Type 0} (x y : A) → (let l : Result A Refusal = Ok x in let r : Result A Refusal = Ok y in l ≡ r)
    → x ≡ y
ok_same x y e = cc

-- a look whose checks all pass has passed the first
pub record Passed {A B : Type 0} (view : View) (look : Look (Result A Refusal)) (next : A → Look (Result B Refusal))
    (y : B) : Type 0 where
  pub value : A
  pub first : outcome view look ≡ Ok value
  pub rest : outcome view (next value) ≡ Ok y
  pub needs : needs_of view (checked look next) ≡ needs_of view look ++ needs_of view (next value)

pub passed : {A B : Type 0} (view : View) (look : Look (Result A Refusal)) (next : A → Look (Result B Refusal)) (y : B)
    → outcome view (checked look next) ≡ Ok y → Passed view look next y
passed {A} {B} view look next y e = go (outcome view look) refl
  where
    go : (r : Result A Refusal) → outcome view look ≡ r → Passed view look next y
    go (Ok x) q = record {
      value = x;
      first = q;
      rest = ap (λ (z : Result A Refusal). outcome view (after_check next z)) (sym q)
          ∙ (sym (outcome_on view look (after_check next)) ∙ e);
      needs = needs_on view look (after_check next)
          ∙ ap (λ (z : Result A Refusal). needs_of view look ++ needs_of view (after_check next z)) q;
    }
    go (Err refusal) q = absurd (let k : Err refusal ≡ Ok y =
        ap (λ (z : Result A Refusal). outcome view (after_check next z)) (sym q)
        ∙ (sym (outcome_on view look (after_check next)) ∙ e) in cc)

pub record Unrefused {A : Type 0} (view : View) (b : Bool) (refusal : Refusal) (next : Look (Result A Refusal)) (y : A)
    : Type 0 where
  pub holds : b ≡ false
  pub rest : outcome view next ≡ Ok y
  pub needs : needs_of view (refuse_if b refusal next) ≡ needs_of view next

pub unrefused : {A : Type 0} (view : View) (b : Bool) (refusal : Refusal) (next : Look (Result A Refusal)) (y : A)
    → outcome view (refuse_if b refusal next) ≡ Ok y → Unrefused view b refusal next y
unrefused view true refusal next y e = absurd (let k : Err refusal ≡ Ok y = e in cc)
unrefused view false refusal next y e = record { holds = refl; rest = e; needs = refl }

-- needs of a look that passed stay among those of the whole
pub in_first : {A B : Type 0} (view : View) (look : Look (Result A Refusal)) (next : A → Look (Result B Refusal)) (y : B)
    (p : Passed view look next y) (n : Need) → In n (needs_of view look) → In n (needs_of view (checked look next))
in_first view look next y p n m =
    subst (In n) (sym p.needs) (in_front n (needs_of view look) (needs_of view (next p.value)) m)

pub in_rest : {A B : Type 0} (view : View) (look : Look (Result A Refusal)) (next : A → Look (Result B Refusal)) (y : B)
    (p : Passed view look next y) (n : Need) → In n (needs_of view (next p.value))
    → In n (needs_of view (checked look next))
in_rest view look next y p n m =
    subst (In n) (sym p.needs) (in_back n (needs_of view look) (needs_of view (next p.value)) m)

abbrev pub status_of : Fid → Need
status_of fid = record { fid = fid; kind = Status false }

-- the nature that a look found, with the need of it
found_there : (view : View) (fid : Fid) (n : Nature) → outcome view (nature_look fid) ≡ Ok n → view fid Traits ≡ Some n
found_there view fid n = go (view fid Traits)
  where
    go : (o : Option Nature) → found_or o NoEntry ≡ Ok n → o ≡ Some n
    go None e = absurd (let k : Err NoEntry ≡ Ok n = e in cc)
    go (Some m) e = ap Some (ok_same m n e)

-- what follows a step's first look, and that of a target
abbrev pub search_ends : User → Fid → List ℕ → Nature → Look (Result Fid Refusal)
search_ends user fid name nature =
    checked (search_look user fid nature) (λ entries.
    Ends (and_then (entry_or_none (entry_named entries name)) (λ entry. Ok (fid_in fid entry))))

abbrev pub target_ends : Fid → Look (Result (Fid × Nature) Refusal)
target_ends fid = checked (nature_look fid) (λ nature. Ends (Ok (fid, nature)))

-- a walk stays in its fileset
walk_stays : (view : View) (user : User) (names : List (List ℕ)) (fid to : Fid)
    → outcome view (walk_look user fid names) ≡ Ok to → to.fileset ≡ fid.fileset
walk_stays view user [] fid to e = ap (λ (f : Fid). f.fileset) (sym (ok_same fid to e))
walk_stays view user (name ∷ names) fid to e =
    let p = passed view (step_look user fid name) (λ next. walk_look user next names) to e in
    walk_stays view user names p.value to p.rest ∙ step_stays p.value p.first
  where
    entered : (next : Fid) (r : Result DirEntry Refusal) → and_then r (λ entry. Ok (fid_in fid entry)) ≡ Ok next
        → next.fileset ≡ fid.fileset
    entered next (Ok entry) q = ap (λ (f : Fid). f.fileset) (sym (ok_same (fid_in fid entry) next q))
    entered next (Err refusal) q = absurd (let k : Err refusal ≡ Ok next = q in cc)

    step_stays : (next : Fid) → outcome view (step_look user fid name) ≡ Ok next → next.fileset ≡ fid.fileset
    step_stays next q =
        let n = passed view (nature_look fid) (search_ends user fid name) next q in
        let s = passed view (search_look user fid n.value) (λ entries.
        Ends (and_then (entry_or_none (entry_named entries name)) (λ entry. Ok (fid_in fid entry)))) next n.rest in
        entered next (entry_or_none (entry_named s.value name)) s.rest

-- the file that a path leads to
pub record FileSeen (view : View) (needs : List Need) (root : Fid) (found : Fid × Nature) : Type 0 where
  pub fileset : found.0.fileset ≡ root.fileset
  pub seen : view found.0 Traits ≡ Some found.1
  pub is_file : found.1.dir ≡ false
  pub status : In (status_of found.0) needs

pair_same : (fid : Fid) (nature : Nature) (found : Fid × Nature)
    → (let l : Result (Fid × Nature) Refusal = Ok (fid, nature) in let r : Result (Fid × Nature) Refusal = Ok found in
    l ≡ r) → (let pair : Fid × Nature = (fid, nature) in pair ≡ found)
pair_same fid nature found e = ok_same (fid, nature) found e

target_row : (view : View) (user : User) (root : Fid) (path : List (List ℕ)) (found : Fid × Nature)
    → outcome view (target_look user root path) ≡ Ok found
    → (found.0.fileset ≡ root.fileset) × (view found.0 Traits ≡ Some found.1)
    × In (status_of found.0) (needs_of view (target_look user root path))
target_row view user root path found e =
    let w = passed view (walk_look user root path) target_ends found e in
    let n = passed view (nature_look w.value) (λ nature. Ends (Ok (w.value, nature))) found w.rest in
    let one = pair_same w.value n.value found n.rest in
    subst (λ (y : Fid × Nature). (y.0.fileset ≡ root.fileset) × (view y.0 Traits ≡ Some y.1)
    × In (status_of y.0) (needs_of view (target_look user root path))) one (
      walk_stays view user path root w.value w.first,
      found_there view w.value n.value n.first,
      in_rest view (walk_look user root path) target_ends found w (status_of w.value)
          (in_first view (nature_look w.value) (λ nature. Ends (Ok (w.value, nature))) found n (status_of w.value)
          (inl refl)),
    )

abbrev pub file_checks : Fid × Nature → Look (Result (Fid × Nature) Refusal)
file_checks (fid, nature) = refuse_if nature.dir IsDir (Ends (Ok (fid, nature)))

file_checked : (view : View) (at found : Fid × Nature) → outcome view (file_checks at) ≡ Ok found
    → (at ≡ found) × (at.1.dir ≡ false)
file_checked view (fid, nature) found e =
    let u = unrefused view nature.dir IsDir (Ends (Ok (fid, nature))) found e in
    (pair_same fid nature found u.rest, u.holds)

file_row : (view : View) (user : User) (root : Fid) (path : List (List ℕ)) (found : Fid × Nature)
    → outcome view (file_look user root path) ≡ Ok found
    → FileSeen view (needs_of view (file_look user root path)) root found
file_row view user root path found e =
    let t = passed view (target_look user root path) file_checks found e in
    let c = file_checked view t.value found t.rest in
    let r = target_row view user root path t.value t.first in
    subst (λ (y : Fid × Nature). FileSeen view (needs_of view (file_look user root path)) root y) c.0
    (record {
      fileset = r.0;
      seen = r.1;
      is_file = c.1;
      status = in_first view (target_look user root path) file_checks found t (status_of t.value.0) r.2;
    })

abbrev pub right_checks : User → ℕ → Fid × Nature → Look (Result (Fid × Nature) Refusal)
right_checks user right (fid, nature) = permitted nature user right (Ends (Ok (fid, nature)))

right_checked : (view : View) (user : User) (right : ℕ) (at found : Fid × Nature)
    → outcome view (right_checks user right at) ≡ Ok found → at ≡ found
right_checked view user right (fid, nature) found e =
    let u = unrefused view (not (allows (rights_on nature user) right)) (Denied right) (Ends (Ok (fid, nature))) found e
    in pair_same fid nature found u.rest

permitted_row : (view : View) (user : User) (root : Fid) (path : List (List ℕ)) (right : ℕ) (found : Fid × Nature)
    → outcome view (permitted_look user root path right) ≡ Ok found
    → FileSeen view (needs_of view (permitted_look user root path right)) root found
permitted_row view user root path right found e =
    let t = passed view (file_look user root path) (right_checks user right) found e in
    let r = file_row view user root path t.value t.first in
    subst (λ (y : Fid × Nature). FileSeen view (needs_of view (permitted_look user root path right)) root y)
    (right_checked view user right t.value found t.rest)
    (record {
      fileset = r.fileset;
      seen = r.seen;
      is_file = r.is_file;
      status = in_first view (file_look user root path) (right_checks user right) found t
          (status_of t.value.0) r.status;
    })

fits_checked : (view : View) (end : ℕ) (at : Fid × Nature) (fid : Fid) → outcome view (fits_file end at) ≡ Ok fid
    → (at.0 ≡ fid) × (nat_lt FILE_BYTES_MAX end ≡ false)
fits_checked view end (g, nature) fid e =
    let u = unrefused view (nat_lt FILE_BYTES_MAX end) TooBig (Ends (Ok g)) fid e in
    (ok_same g fid u.rest, u.holds)

-- the file that a Write is of
pub record Target (view : View) (needs : List Need) (end : ℕ) (fid : Fid) : Type 0 where
  pub nature : Nature
  pub seen : view fid Traits ≡ Some nature
  pub is_file : nature.dir ≡ false
  pub status : In (status_of fid) needs
  pub root : Fid
  pub fileset : root.fileset ≡ fid.fileset
  pub root_nature : Nature
  pub root_seen : view root Traits ≡ Some root_nature
  pub writable : root_nature.read_only ≡ false
  pub root_status : In (status_of root) needs
  pub fits : nat_lt FILE_BYTES_MAX end ≡ false

target_of : (view : View) (user : User) (root : Fid) (path : List (List ℕ)) (end : ℕ) (fid : Fid)
    → outcome view (write_target_look user root path end) ≡ Ok fid
    → Target view (needs_of view (write_target_look user root path end)) end fid
target_of view user root path end fid e =
    let rest : Look (Result Fid Refusal) = checked (permitted_look user root path write_right) (fits_file end) in
    let guard : Nature → Look (Result Fid Refusal) = λ nature. refuse_if nature.read_only ReadOnly rest in
    let w = passed view (nature_look root) guard fid e in
    let r = unrefused view w.value.read_only ReadOnly rest fid w.rest in
    let g = passed view (permitted_look user root path write_right) (fits_file end) fid r.rest in
    let c = fits_checked view end g.value fid g.rest in
    let s = permitted_row view user root path write_right g.value g.first in
    subst (λ y. Target view (needs_of view (write_target_look user root path end)) end y) c.0
    (record {
      nature = g.value.1;
      seen = s.seen;
      is_file = s.is_file;
      status = in_rest view (nature_look root) guard fid w (status_of g.value.0)
          (subst (In (status_of g.value.0)) (sym r.needs)
          (in_first view (permitted_look user root path write_right) (fits_file end) fid g (status_of g.value.0)
          s.status));
      root = root;
      fileset = sym s.fileset;
      root_nature = w.value;
      root_seen = found_there view root w.value w.first;
      writable = r.holds;
      root_status = in_first view (nature_look root) guard fid w (status_of root) (inl refl);
      fits = c.1;
    })

-- what a Write takes
pub record Takings (view : View) (needs : List Need) (fid : Fid) (from end : ℕ) : Type 0 where
  pub grows : nat_lt (view fid Size) end ≡ true
      → In (record { fid = fid; kind = Status true }) needs
      × In (record { fid = fid; kind = Bytes true (rounded (min from (view fid Size)) end) }) needs
  pub inside : nat_lt (view fid Size) end ≡ false
      → In (record { fid = fid; kind = Bytes true (rounded from end) }) needs

-- the look of a Write has seen the file, and takes what it changes
pub record WriteLook (view : View) (needs : List Need) (fid : Fid) (from : ℕ) (bytes : List ℕ) : Type 0 where
  pub target : Target view needs (from + length bytes) fid
  pub takes : Takings view needs fid from (from + length bytes)

ends_written : {X : Type 0} (view : View) (fid : Fid) (from end size : ℕ) (result : X) (b : Bool) → nat_lt size end ≡ b
    → (let look : Look X =
    if b then Takes (record { fid = fid; kind = Status true })
    (Takes (record { fid = fid; kind = Bytes true (rounded (min from size) end) }) (Ends result))
    else Takes (record { fid = fid; kind = Bytes true (rounded from end) }) (Ends result) in
    (outcome view look ≡ result)
    × (nat_lt size end ≡ true
    → In (record { fid = fid; kind = Status true }) (needs_of view look)
    × In (record { fid = fid; kind = Bytes true (rounded (min from size) end) }) (needs_of view look))
    × (nat_lt size end ≡ false → In (record { fid = fid; kind = Bytes true (rounded from end) }) (needs_of view look)))
ends_written view fid from end size result true e =
    (refl, λ _. (inl refl, inr (inl refl)), λ q. absurd (false≢true (sym q ∙ e)))
ends_written view fid from end size result false e =
    (refl, λ q. absurd (false≢true (sym e ∙ q)), λ _. inl refl)

-- the end of a Write's look
record Written (view : View) (needs : List Need) (fid : Fid) (from : ℕ) (bytes : List ℕ) (v : Verdict) : Type 0 where
  so : v ≡ Writes fid from bytes
  takes : Takings view needs fid from (from + length bytes)

written_row : (view : View) (fid : Fid) (from : ℕ) (bytes : List ℕ) (v : Verdict) (f : Fid) (n : ℕ) (bs : List ℕ)
    → outcome view (written_look from bytes fid) ≡ Ok v → v ≡ Writes f n bs
    → Written view (needs_of view (written_look from bytes fid)) fid from bytes v
written_row view fid from [] v f n bs e q =
    absurd (let k : Replies Done ≡ Writes f n bs = ok_same (Replies Done) v e ∙ q in cc)
written_row view fid from (byte ∷ bytes) v f n bs e q =
    let all = byte ∷ bytes in
    let result : Result Verdict Refusal = Ok (Writes fid from all) in
    let w = ends_written view fid from (from + length all) (view fid Size) result
    (nat_lt (view fid Size) (from + length all)) refl in
    record {
      so = sym (ok_same (Writes fid from all) v (sym w.0 ∙ e));
      takes = record {
        grows = λ b. (let i = w.1 b in (inr i.0, inr i.1));
        inside = λ b. inr (w.2 b);
      };
    }

judged_ok : {A : Type 0} (view : View) (look : Look (Result A Refusal)) (judge : A → Verdict) (f : Fid) (n : ℕ)
    (bs : List ℕ) → outcome view (judged look judge) ≡ Writes f n bs
    → (x : A) × (outcome view look ≡ Ok x) × (judge x ≡ Writes f n bs)
judged_ok {A} view look judge f n bs e = go (outcome view look) refl
  where
    go : (r : Result A Refusal) → outcome view look ≡ r
        → (x : A) × (outcome view look ≡ Ok x) × (judge x ≡ Writes f n bs)
    go (Ok x) q = (
      x,
      q,
      ap (λ (z : Result A Refusal). either z judge (λ refusal. Replies (Refused refusal))) (sym q)
          ∙ (sym (outcome_judged view look judge) ∙ e),
    )
    go (Err refusal) q = absurd (let k : Replies (Refused refusal) ≡ Writes f n bs =
        ap (λ (z : Result A Refusal). either z judge (λ refusal. Replies (Refused refusal))) (sym q)
        ∙ (sym (outcome_judged view look judge) ∙ e) in cc)

target_on : (view : View) (old new : List Need) (end : ℕ) (fid : Fid) → ((n : Need) → In n old → In n new)
    → Target view old end fid → Target view new end fid
target_on view old new end fid on t = record {
  nature = t.nature;
  seen = t.seen;
  is_file = t.is_file;
  status = on (status_of fid) t.status;
  root = t.root;
  fileset = t.fileset;
  root_nature = t.root_nature;
  root_seen = t.root_seen;
  writable = t.writable;
  root_status = on (status_of t.root) t.root_status;
  fits = t.fits;
}

takings_on : (view : View) (old new : List Need) (fid : Fid) (from end : ℕ) → ((n : Need) → In n old → In n new)
    → Takings view old fid from end → Takings view new fid from end
takings_on view old new fid from end on t = record {
  grows = λ b. (let i = t.grows b in (
    on (record { fid = fid; kind = Status true }) i.0,
    on (record { fid = fid; kind = Bytes true (rounded (min from (view fid Size)) end) }) i.1,
  ));
  inside = λ b. on (record { fid = fid; kind = Bytes true (rounded from end) }) (t.inside b);
}

write_row : (view : View) (user : User) (root : Fid) (path : List (List ℕ)) (from : ℕ) (bytes : List ℕ) (f : Fid)
    (n : ℕ) (bs : List ℕ) → outcome view (write_look user root path from bytes) ≡ Writes f n bs
    → (Writes f from bytes ≡ Writes f n bs)
    × WriteLook view (needs_of view (write_look user root path from bytes)) f from bytes
unfolding write_look
write_row view user root path from bytes f n bs e =
    let target = write_target_look user root path (from + length bytes) in
    let look : Look (Result Verdict Refusal) = checked target (written_look from bytes) in
    let all = needs_of view (judged look (λ verdict. verdict)) in
    let (v, q, is) = judged_ok view look (λ verdict. verdict) f n bs e in
    let p = passed view target (written_look from bytes) v q in
    let w = written_row view p.value from bytes v f n bs p.rest is in
    let one : Writes p.value from bytes ≡ Writes f n bs = sym w.so ∙ is in
    let file : p.value ≡ f = cc in
    let on : (n : Need) → In n (needs_of view look) → In n all = λ n m.
    subst (In n) (sym (needs_on view look
    (λ seen. Ends (either seen (λ verdict. verdict) (λ refusal. Replies (Refused refusal))))))
    (in_front n (needs_of view look) [] m) in (
      subst (λ y. Writes y from bytes ≡ Writes f n bs) file one,
      subst (λ y. WriteLook view all y from bytes) file (record {
        target = target_on view (needs_of view target) all (from + length bytes) p.value
            (λ n m. on n (in_first view target (written_look from bytes) v p n m))
            (target_of view user root path (from + length bytes) p.value p.first);
        takes = takings_on view (needs_of view (written_look from bytes p.value)) all p.value from (from + length bytes)
            (λ n m. on n (in_rest view target (written_look from bytes) v p n m)) w.takes;
      }),
    )

-- the call is a Write, and its look is such a one
pub record OfWrite (view : View) (call : Call) (needs : List Need) (f : Fid) (from : ℕ) (bytes : List ℕ) : Type 0 where
  pub place : Place
  pub is : call ≡ Write place from bytes
  pub look : WriteLook view needs f from bytes

module _ (view : View) (f : Fid) (n : ℕ) (bs : List ℕ) where
  abbrev Ends_so : Look Verdict → Type 0
  Ends_so look = outcome view look ≡ Writes f n bs

  never : {A : Type 0} (look : Look (Result A Refusal)) (judge : A → Verdict)
      → ((x : A) → judge x ≡ Writes f n bs → ⊥) → Ends_so (judged look judge) → ⊥
  never look judge none e = let (x, q, is) = judged_ok view look judge f n bs e in none x is

  rooted : (server : ServerId) (o : Option FilesetId) (look : Fid → Look Verdict)
      → ((root : Fid) → Ends_so (look root) → ⊥) → Ends_so (from_root server o look) → ⊥
  rooted server None look none e = let k : Asks (EnterAt server) ≡ Writes f n bs = e in cc
  rooted server (Some id) look none e = none (root_of id) e

  changes : (server : ServerId) (o : Option FilesetId) → Ends_so (from_root server o change_look) → ⊥
  changes server o e = rooted server o change_look
      (λ root q. let k : Asks (ChangeIn root.fileset) ≡ Writes f n bs = q in cc) e

  synced : (own : Own) (x : Fid × Nature) → sync_verdict own x ≡ Writes f n bs → ⊥
  synced own (fid, nature) = go (own.is_clean fid)
    where
      go : (b : Bool) → (if b then Replies Done else Gives) ≡ Writes f n bs → ⊥
      go true e = let k : Replies Done ≡ Writes f n bs = e in cc
      go false e = let k : Gives ≡ Writes f n bs = e in cc

  labelled : (used full : Bool) (refusal : Refusal) (look : Look Verdict) → (Ends_so look → ⊥)
      → Ends_so (if used then refuse refusal else if full then refuse TooMany else look) → ⊥
  labelled true full refusal look none e = let k : Replies (Refused refusal) ≡ Writes f n bs = e in cc
  labelled false true refusal look none e = let k : Replies (Refused TooMany) ≡ Writes f n bs = e in cc
  labelled false false refusal look none e = none e

  freed : (used gives : Bool) (refusal : Refusal)
      → Ends_so (if not used then refuse refusal else Ends (if gives then Gives else Frees)) → ⊥
  freed false gives refusal e = let k : Replies (Refused refusal) ≡ Writes f n bs = e in cc
  freed true true refusal e = let k : Gives ≡ Writes f n bs = e in cc
  freed true false refusal e = let k : Frees ≡ Writes f n bs = e in cc

  writes_in : (user : User) (server : ServerId) (o : Option FilesetId) (path : List (List ℕ)) (from : ℕ)
      (bytes : List ℕ) → Ends_so (from_root server o (λ root. write_look user root path from bytes))
      → (Writes f from bytes ≡ Writes f n bs)
      × WriteLook view (needs_of view (from_root server o (λ root. write_look user root path from bytes))) f from bytes
  writes_in user server None path from bytes e = absurd (let k : Asks (EnterAt server) ≡ Writes f n bs = e in cc)
  writes_in user server (Some id) path from bytes e = write_row view user (root_of id) path from bytes f n bs e

  pub of_write : (own : Own) (host : HostId) (user : User) (call : Call) → Ends_so (call_look own host user call)
      → OfWrite view call (needs_of view (call_look own host user call)) f n bs
  unfolding call_look read_look list_look stat_look access_look sync_look lock_look open_look
  of_write own host user (NewFileset server name objects owner) e =
      absurd (let k : Asks (ChangeAt server) ≡ Writes f n bs = e in cc)
  of_write own host user (Create place) e = absurd (changes place.server (own.seen place.server place.fileset) e)
  of_write own host user (MakeDir place) e = absurd (changes place.server (own.seen place.server place.fileset) e)
  of_write own host user (Remove place) e = absurd (changes place.server (own.seen place.server place.fileset) e)
  of_write own host user (Rename from to) e = absurd (changes from.server (own.seen from.server from.fileset) e)
  of_write own host user (Truncate place len) e =
      absurd (changes place.server (own.seen place.server place.fileset) e)
  of_write own host user (SetAcl place which list) e =
      absurd (changes place.server (own.seen place.server place.fileset) e)
  of_write own host user (CloneFileset server source new) e =
      absurd (let k : Asks (ChangeAt server) ≡ Writes f n bs = e in cc)
  of_write own host user (Read place from len) e =
      absurd (rooted place.server (own.seen place.server place.fileset)
      (λ root. read_look user root place.path from len)
      (λ root q. never (checked (permitted_look user root place.path read_right) (read_from from len))
      (λ bytes. Replies (BytesRead bytes)) (λ x is. let k : Replies (BytesRead x) ≡ Writes f n bs = is in cc) q) e)
  of_write own host user (Write place from bytes) e =
      let w = writes_in user place.server (own.seen place.server place.fileset) place.path from bytes e in
      let one : from ≡ n = (let q = w.0 in cc) in
      let two : bytes ≡ bs = (let q = w.0 in cc) in
      record {
        place = place;
        is = (let q = w.0 in cc);
        look = subst (λ (y : ℕ × List ℕ).
            WriteLook view (needs_of view (call_look own host user (Write place from bytes))) f y.0 y.1)
            (λ i. (one i, two i)) w.1;
      }
  of_write own host user (ListNames place) e =
      absurd (rooted place.server (own.seen place.server place.fileset) (λ root. list_look user root place.path)
      (λ root q. never (checked (target_look user root place.path) (entries_for user))
      (λ entries. Replies (Names (names_of entries)))
      (λ x is. let k : Replies (Names (names_of x)) ≡ Writes f n bs = is in cc) q) e)
  of_write own host user (Stat place) e =
      absurd (rooted place.server (own.seen place.server place.fileset) (λ root. stat_look user root place.path)
      (λ root q. never (checked (target_look user root place.path) (facts_for user)) (λ facts. Replies (Facts facts))
      (λ x is. let k : Replies (Facts x) ≡ Writes f n bs = is in cc) q) e)
  of_write own host user (GetAcl place which) e =
      absurd (rooted place.server (own.seen place.server place.fileset)
      (λ root. access_look user root place.path which)
      (λ root q. never (checked (target_look user root place.path) (list_for which)) (λ list. Replies (Access list))
      (λ x is. let k : Replies (Access x) ≡ Writes f n bs = is in cc) q) e)
  of_write own host user (Sync place) e =
      absurd (rooted place.server (own.seen place.server place.fileset) (λ root. sync_look own user root place.path)
      (λ root q. never (file_look user root place.path) (sync_verdict own) (synced own) q) e)
  of_write own host user (Lock label place writing from len) e =
      absurd (labelled (has_lock own.locks host label) (nat_le LABELS_MAX (lock_count own.locks host)) AlreadyLocked
      (in_place own place (λ root. lock_look own host user root place.path writing from len))
      (λ q. rooted place.server (own.seen place.server place.fileset)
      (λ root. lock_look own host user root place.path writing from len)
      (λ root p. never
      (checked (use_look user root place.path writing (if writing then write_right else read_right))
      (lock_for own host writing from len)) (λ fid. Locks fid writing (span_between from (from + len)))
      (λ x is. let k : Locks x writing (span_between from (from + len)) ≡ Writes f n bs = is in cc) p) q) e)
  of_write own host user (Unlock label) e =
      absurd (freed (has_lock own.locks host label) (own.gives_lock label) NotLocked e)
  of_write own host user (OpenFile label place kind) e =
      absurd (labelled (has_open own.opens host label) (nat_le LABELS_MAX (open_count own.opens host)) AlreadyOpened
      (in_place own place (λ root. open_look user root place.path kind))
      (λ q. rooted place.server (own.seen place.server place.fileset)
      (λ root. open_look user root place.path kind)
      (λ root p. never
      (checked (use_look user root place.path (is_changing kind) (right_to_open kind)) (open_for kind))
      (λ fid. Opens fid kind) (λ x is. let k : Opens x kind ≡ Writes f n bs = is in cc) p) q) e)
  of_write own host user (CloseFile label) e =
      absurd (freed (has_open own.opens host label) (own.gives_open label) NotOpened e)
  of_write own host user (MoveFileset server name to) e = absurd (changes server (own.seen server name) e)
