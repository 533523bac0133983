-- What a host answers is the reply of a tree that agrees with the run, and leaves the cells that the run has then.
use Rattle.std.proofs.Common.{Bool, Err, List, None, Ok, Option, Result, Some, ap, false, inl, length, nat_le, nat_lt}
use Rattle.std.proofs.Common.{not, refl, subst, sym, true, ℕ, ◌&&◌, ◌+◌, ◌==◌, ◌||◌, ◌∙◌, ◌∷◌, ◌≡◌, ◌≤◌}
use Rattle.std.proofs.lemmas.Bool.{eqb-true}
use Rattle.std.proofs.lemmas.List.Sums.{length-filter}
use Rattle.std.specs.List.{filter, list_any}
use Rattle.std.specs.Prelude.{[], count_by, if◌then◌else◌}
use Rattle.base_types.specs.Name.{same_name}
use Rattle.base_types.specs.Outcomes.{and_then, either}
use Rattle.base_types.specs.declared.ids.Fid.{Fid}
use Rattle.base_types.specs.declared.ids.FilesetId.{FilesetId}
use Rattle.base_types.specs.declared.ids.HostId.{HostId}
use Rattle.base_types.specs.declared.ids.Node.TheVariants.{Host}
use Rattle.base_types.specs.declared.ids.OpenKind.{OpenKind}
use Rattle.base_types.specs.declared.ids.ServerId.{ServerId}
use Rattle.base_types.specs.declared.limits.TheConstants.{FILE_BYTES_MAX, LABELS_MAX}
use Rattle.base_types.specs.declared.span.Span.{Span}
use Rattle.base_types.specs.declared.user.User.{User}
use Rattle.tree_calls.specs.Rosters.{user_of}
use Rattle.tree_calls.specs.declared.call.Call.{Call}
use Rattle.tree_calls.specs.declared.call.Call.TheVariants.{CloneFileset, CloseFile, Create, GetAcl, List as ListNames}
use Rattle.tree_calls.specs.declared.call.Call.TheVariants.{Lock as LockCall, MakeDir, MoveFileset, NewFileset}
use Rattle.tree_calls.specs.declared.call.Call.TheVariants.{OpenFile, Read, Remove, Rename, SetAcl, Stat, Sync}
use Rattle.tree_calls.specs.declared.call.Call.TheVariants.{Truncate, Unlock, Write}
use Rattle.tree_calls.specs.declared.place.Place.{Place}
use Rattle.tree_calls.specs.declared.reply.Refusal.{Refusal}
use Rattle.tree_calls.specs.declared.reply.Refusal.TheVariants.{AlreadyLocked, AlreadyOpened, Locked, NotLocked}
use Rattle.tree_calls.specs.declared.reply.Refusal.TheVariants.{NotOpened, OpenConflict, TooBig, TooMany}
use Rattle.tree_calls.specs.declared.reply.Reply.{Reply}
use Rattle.tree_calls.specs.declared.reply.Reply.TheVariants.{Ok as Done, Refused}
use Rattle.tree_calls.specs.declared.roster.Roster.{Roster}
use Rattle.tree_filesets.specs.Changing.{write_target}
use Rattle.tree_filesets.specs.Rights.{read_right, write_right}
use Rattle.tree_filesets.specs.Walk.{file_target, unique_at}
use Rattle.tree_filesets.specs.declared.fileset.Fileset.{Fileset}
use Rattle.need_host.proofs.Found.{home_known, tree_shows}
use Rattle.need_host.proofs.Looking.{outcome_alike}
use Rattle.need_host.proofs.Present.{answers_leave_all, synced_part}
use Rattle.need_host.proofs.Replies.{covered_answers}
use Rattle.need_host.proofs.Rows.{sync_seen, write_seen, written_verdict}
use Rattle.need_host.proofs.Written.{after_call, fate_home}
use Rattle.need_host.specs.Calls.{Own, Verdict, call_look, change_look, from_root, in_place, judged, lock_look}
use Rattle.need_host.specs.Calls.{open_look, refuse, reply_now, sync_look, write_look}
use Rattle.need_host.specs.Calls.Verdict.{Asks, Frees, Gives, Locks, Opens, Replies, Writes}
use Rattle.need_host.specs.Laws.{AgreeUnder, IsTold, Stands, tree_reply}
use Rattle.need_host.specs.Looks.{IsCovered, Look, View, checked, outcome, refuse_if, tree_view}
use Rattle.need_host.specs.Looks.Look.{Ends, Takes}
use Rattle.need_host.specs.Present.{changes_nothing}
use Rattle.need_host.specs.Walks.{root_of, use_look}
use Rattle.tree_objects.specs.Spans.{span_between}
use Rattle.tree_objects.specs.declared.content.Object.{Object}
use Rattle.tree_answers.specs.Answers.{answer_to}
use Rattle.tree_answers.specs.Finding.{fileset_named, has_id}
use Rattle.tree_answers.specs.Locks.{covers, has_lock, is_excluded, is_own_locked, lock_count}
use Rattle.tree_answers.specs.Opens.{has_open, is_barred, open_count}
use Rattle.tree_answers.specs.WellFormed.{IsWellFormed}
use Rattle.tree_answers.specs.declared.tree.LockUse.{LockUse}
use Rattle.tree_answers.specs.declared.tree.OpenUse.{OpenUse}
use Rattle.tree_answers.specs.declared.tree.Tree.{Tree}
use Rattle.tree_laws.specs.Losses.{use_of}
use Rattle.script_lines.specs.declared.script.Script.{Script}
use Rattle.token_types.specs.declared.token.Kind.TheVariants.{Lock as LockKind, Status}
use Rattle.tree_laws.specs.Fates.{Fate, after_fate, if_reached, is_of}
use Rattle.tree_laws.specs.Fates.Fate.{IsSynced, Stays}
use Rattle.tree_laws.specs.Parts.{Part, Seen, cell_at, present}
use Rattle.tree_laws.specs.Parts.Part.{Size}
use Rattle.run_rules.specs.Past.{In}
use Rattle.run_rules.specs.Runs.{StepMeets, StepsMeet}
use Rattle.run_rules.specs.Steps.{steps_of_host}
use Rattle.run_rules.specs.Views.{Entered, IsClean, needs_in, sees as host_sees}
use Rattle.run_history.proofs.Knowing.{agrees}
use Rattle.run_history.proofs.Writing.{no_bytes, write_leaves, writes}
use Rattle.run_parts.specs.Cells.{written}
use Rattle.run_parts.specs.Contents.{Contents}
use Rattle.run_parts.specs.Legal.{LegalStep, tree}
use Rattle.run_contents.proofs.Answers.{covered_in}
use Rattle.run_contents.proofs.Views.{one_alone}
use Rattle.run_contents.proofs.WriteLooks.{of_write}
use Rattle.run_contents.specs.Steps.{IsOfJournal, Written, written_by, written_in}
use Rattle.run_rules.specs.declared.applied.Answer.{Answer}
use Rattle.run_rules.specs.declared.step.Step.{Step}

-- what a host knows of its labels is so in the tree
pub record SameLabels (own : Own) (h : HostId) (tree : Tree) : Type 0 where
  pub has_lock_is : (label : List ℕ) → has_lock own.locks h label ≡ has_lock tree.locks h label
  pub lock_count_is : lock_count own.locks h ≡ lock_count tree.locks h
  pub own_locked_is : (fid : Fid) (span : Span) → is_own_locked own.locks h fid span ≡ is_own_locked tree.locks h fid span
  pub has_open_is : (label : List ℕ) → has_open own.opens h label ≡ has_open tree.opens h label
  pub open_count_is : open_count own.opens h ≡ open_count tree.opens h

-- a host's own among those of all
any_own : {X : Type 0} (mine test : X → Bool) (xs : List X)
    → list_any (λ x. mine x && test x) (filter mine xs) ≡ list_any (λ x. mine x && test x) xs
any_own mine test [] = refl
any_own {X} mine test (x ∷ xs) = go (any_own mine test xs) (mine x) refl
  where
    go : list_any (λ x. mine x && test x) (filter mine xs) ≡ list_any (λ x. mine x && test x) xs
        → (b : Bool) → mine x ≡ b → list_any (λ y. mine y && test y) (if b then x ∷ filter mine xs else filter mine xs)
        ≡ ((b && test x) || list_any (λ y. mine y && test y) xs)
    go rest true e =
        ap (λ (t : Bool). (t && test x) || list_any (λ y. mine y && test y) (filter mine xs)) e
        ∙ ap (λ (t : Bool). test x || t) rest
    go rest false e = rest

filter_twice : {X : Type 0} (mine : X → Bool) (xs : List X) → filter mine (filter mine xs) ≡ filter mine xs
filter_twice mine [] = refl
filter_twice {X} mine (x ∷ xs) = go (filter_twice mine xs) (mine x) refl
  where
    go : filter mine (filter mine xs) ≡ filter mine xs → (b : Bool) → mine x ≡ b
        → filter mine (if b then x ∷ filter mine xs else filter mine xs) ≡ (if b then x ∷ filter mine xs else filter mine xs)
    go rest true e =
        ap (λ (t : Bool). if t then x ∷ filter mine (filter mine xs) else filter mine (filter mine xs)) e
        ∙ ap (λ ys. x ∷ ys) rest
    go rest false e = rest

count_own : {X : Type 0} (mine : X → Bool) (xs : List X) → count_by mine (filter mine xs) ≡ count_by mine xs
count_own mine xs =
    sym (length-filter mine (filter mine xs)) ∙ (ap length (filter_twice mine xs) ∙ length-filter mine xs)

-- looks of calls about labels, by what is asked of the labels
abbrev lock_with : Bool → ℕ → (Fid → Span → Bool) → (ServerId → List ℕ → Option FilesetId) → User → Place → Bool → ℕ → ℕ
    → Look Verdict
lock_with has count locked seen user place writing from len =
    if has then refuse AlreadyLocked
    else if nat_le LABELS_MAX count then refuse TooMany
    else from_root place.server (seen place.server place.fileset) (λ root.
    judged
    (checked (use_look user root place.path writing (if writing then write_right else read_right)) (λ fid.
    refuse_if (nat_lt FILE_BYTES_MAX (from + len)) TooBig (
    refuse_if (locked fid (span_between from (from + len))) AlreadyLocked (
    Takes (record { fid = fid; kind = LockKind writing (span_between from (from + len)) }) (Ends (Ok fid))))))
    (λ fid. Locks fid writing (span_between from (from + len))))

lock_is : (own : Own) (h : HostId) (user : User) (label : List ℕ) (place : Place) (writing : Bool) (from len : ℕ)
    → call_look own h user (LockCall label place writing from len)
    ≡ lock_with (has_lock own.locks h label) (lock_count own.locks h) (λ fid span. is_own_locked own.locks h fid span)
    own.seen user place writing from len
unfolding call_look lock_look
lock_is own h user label place writing from len = refl

-- a host that knows its labels looks as one that has those of the tree
module _ (own : Own) (h : HostId) (user : User) (tree : Tree) (same : SameLabels own h tree) where
  abbrev pub own_there : Own
  own_there = record own {
    locks = filter (λ lock. lock.host.0 == h.0) tree.locks;
    opens = filter (λ opened. opened.host.0 == h.0) tree.opens;
  }

  has_lock_there : (label : List ℕ) → has_lock own.locks h label ≡ has_lock own_there.locks h label
  has_lock_there label =
      same.has_lock_is label
      ∙ sym (any_own (λ (lock : LockUse). lock.host.0 == h.0) (λ (lock : LockUse). same_name lock.label label) tree.locks)

  lock_count_there : lock_count own.locks h ≡ lock_count own_there.locks h
  lock_count_there = same.lock_count_is ∙ sym (count_own (λ (lock : LockUse). lock.host.0 == h.0) tree.locks)

  own_locked_there : (fid : Fid) (span : Span)
      → is_own_locked own.locks h fid span ≡ is_own_locked own_there.locks h fid span
  own_locked_there fid span =
      same.own_locked_is fid span
      ∙ sym (any_own (λ (lock : LockUse). lock.host.0 == h.0) (λ (lock : LockUse). covers fid span lock) tree.locks)

  has_open_there : (label : List ℕ) → has_open own.opens h label ≡ has_open own_there.opens h label
  has_open_there label =
      same.has_open_is label
      ∙ sym (any_own (λ (opened : OpenUse). opened.host.0 == h.0) (λ (opened : OpenUse). same_name opened.label label)
      tree.opens)

  open_count_there : open_count own.opens h ≡ open_count own_there.opens h
  open_count_there = same.open_count_is ∙ sym (count_own (λ (opened : OpenUse). opened.host.0 == h.0) tree.opens)

  pub look_there : (call : Call) → call_look own h user call ≡ call_look own_there h user call
  unfolding call_look sync_look
  look_there (LockCall label place writing from len) =
      lock_is own h user label place writing from len
      ∙ ((λ i. lock_with (has_lock_there label i) (lock_count_there i) (λ fid span. own_locked_there fid span i) own.seen
      user place writing from len)
      ∙ sym (lock_is own_there h user label place writing from len))
  look_there (Unlock label) =
      ap (λ (b : Bool). if not b then refuse NotLocked else Ends (if own.gives_lock label then Gives else Frees))
      (has_lock_there label)
  look_there (OpenFile label place kind) =
      λ i. if has_open_there label i then refuse AlreadyOpened
      else if nat_le LABELS_MAX (open_count_there i) then refuse TooMany
      else in_place own place (λ root. open_look user root place.path kind)
  look_there (CloseFile label) =
      ap (λ (b : Bool). if not b then refuse NotOpened else Ends (if own.gives_open label then Gives else Frees))
      (has_open_there label)
  look_there (NewFileset server name objects owner) = refl
  look_there (Create place) = refl
  look_there (MakeDir place) = refl
  look_there (Remove place) = refl
  look_there (Rename from to) = refl
  look_there (Truncate place len) = refl
  look_there (SetAcl place which list) = refl
  look_there (CloneFileset server source new) = refl
  look_there (Read place from len) = refl
  look_there (Write place from bytes) = refl
  look_there (ListNames place) = refl
  look_there (Stat place) = refl
  look_there (GetAcl place which) = refl
  look_there (Sync place) = refl
  look_there (MoveFileset server name to) = refl

some_one : (a b : Reply) → Some a ≡ Some b → a ≡ b
some_one a b e = cc

-- a call that the host answers at once has the tree's reply, where no other host's label is in its way
told_now : (verdict : Verdict) (tree : Tree) (h : HostId) (reply actual : Reply) → reply_now verdict ≡ Some reply
    → IsTold (tree_reply tree h verdict) actual
    → ((fid : Fid) (writing : Bool) (span : Span) → verdict ≡ Locks fid writing span
    → is_excluded tree.locks h fid span writing ≡ false)
    → ((fid : Fid) (kind : OpenKind) → verdict ≡ Opens fid kind → is_barred tree.opens h fid kind ≡ false)
    → reply ≡ actual
told_now (Replies r) tree h reply actual e told locks opens = let q : r ≡ reply = some_one r reply e in sym q ∙ sym told
told_now (Writes fid from bytes) tree h reply actual e told locks opens =
    let q : Done ≡ reply = some_one Done reply e in sym q ∙ sym told
told_now (Locks fid writing span) tree h reply actual e told locks opens =
    let q : Done ≡ reply = some_one Done reply e in
    sym q ∙ sym (told ∙ ap (λ b. if b then Refused Locked else Done) (locks fid writing span refl))
told_now (Opens fid kind) tree h reply actual e told locks opens =
    let q : Done ≡ reply = some_one Done reply e in
    sym q ∙ sym (told ∙ ap (λ b. if b then Refused OpenConflict else Done) (opens fid kind refl))
told_now Frees tree h reply actual e told locks opens =
    let q : Done ≡ reply = some_one Done reply e in sym q ∙ sym told
told_now Gives tree h reply actual e told locks opens = absurd (let q : None ≡ Some reply = e in cc)
told_now (Asks question) tree h reply actual e told locks opens = absurd (let q : None ≡ Some reply = e in cc)

asks_none : (view : View) (server : ServerId) (o : Option FilesetId)
    → reply_now (outcome view (from_root server o change_look)) ≡ None
asks_none view server None = refl
asks_none view server (Some id) = refl

answers_no : {X : Type 0} (o : Option Reply) (reply : Reply) → o ≡ None → o ≡ Some reply → X
answers_no o reply none e = absurd (let q : None ≡ Some reply = sym none ∙ e in cc)

first_written : (xs : List Answer) (a : Answer) → length xs ≤ 1 → In a xs → written_in xs ≡ written_by a.call
first_written [] a le i = elim i [ ]
first_written (x ∷ xs) a le i =
    ap (λ (z : Answer). written_by z.call) (one_alone (x ∷ xs) le x a (inl refl) i)

-- what a Sync that is answered leaves
synced : (tree : Tree) (h : HostId) (fileset : Fileset) (own : Own) (fid : Fid) (p : Part)
    → ((f : Fid) → own.is_clean f ≡ true → (q : Part) → is_of h (cell_at tree f q).unsaved ≡ false)
    → (checks : Result (ℕ × Object) Refusal) (reply : Reply)
    → reply_now (either checks (λ found. if own.is_clean (use_of fileset found.0) then Replies Done else Gives)
    (λ refusal. Replies (Refused refusal))) ≡ Some reply
    → after_fate (if has_id fid.fileset fileset then if_reached fileset fid (IsSynced h)
    (and_then checks (λ (anode, object). Ok anode)) else Stays) (cell_at tree fid) p ≡ cell_at tree fid p
synced tree h fileset own fid p clean (Err refusal) reply e = stays (has_id fid.fileset fileset)
  where
    stays : (b : Bool) → after_fate (if b then Stays else Stays) (cell_at tree fid) p ≡ cell_at tree fid p
    stays true = refl
    stays false = refl
synced tree h fileset own fid p clean (Ok found) reply e = go (own.is_clean (use_of fileset found.0)) refl e
  where
    by : own.is_clean (use_of fileset found.0) ≡ true → (a b c : Bool) → (fileset.id.0 == fid.fileset.0) ≡ a
        → (found.0 == fid.anode) ≡ b → (unique_at fileset.anodes found.0 == fid.unique) ≡ c
        → after_fate (if a then (if b && c then IsSynced h else Stays) else Stays) (cell_at tree fid) p ≡ cell_at tree fid p
    by k true true true x y z =
        let f = eqb-true fileset.id.0 fid.fileset.0 x in
        let a = eqb-true found.0 fid.anode y in
        let u = eqb-true (unique_at fileset.anodes found.0) fid.unique z in
        let one : use_of fileset found.0 ≡ fid =
        (λ i. record { fileset = record { 0 = f i }; anode = a i; unique = u i }) in
        synced_part tree h fid p (clean fid (subst (λ (g : Fid). own.is_clean g ≡ true) one k))
    by k true true false x y z = refl
    by k true false c x y z = refl
    by k false b c x y z = refl

    go : (b : Bool) → own.is_clean (use_of fileset found.0) ≡ b
        → reply_now (if b then Replies Done else Gives) ≡ Some reply
        → after_fate (if has_id fid.fileset fileset then if_reached fileset fid (IsSynced h) (Ok found.0) else Stays)
        (cell_at tree fid) p ≡ cell_at tree fid p
    go true k e =
        by k (fileset.id.0 == fid.fileset.0) (found.0 == fid.anode) (unique_at fileset.anodes found.0 == fid.unique)
        refl refl refl
    go false k e = absurd (let q : None ≡ Some reply = e in cc)

-- a host's step in a run, and a tree that agrees with the run before it
module _ (script : Script) (start : Tree) (firsts : ServerId → ℕ) (c : Contents) (same : IsOfJournal c)
    (past : List Step) (run : StepsMeet script start firsts past) (h : HostId) (s : Step)
    (m : StepMeets script start firsts (Host h) past s) (tree_is : Tree) (formed : IsWellFormed tree_is)
    (cells : (f : Fid) (p : Part) → cell_at tree_is f p ≡ tree c past f p) (legal : LegalStep c firsts (Host h) s past)
    (roster : tree_is.roster ≡ script.roster)
    (clean : (f : Fid) → IsClean (steps_of_host h past) s f → (p : Part) → is_of h (cell_at tree_is f p).unsaved ≡ false)
    (names : (server : ServerId) (name : List ℕ) (id : FilesetId) → Entered (s ∷ steps_of_host h past) server name id
    → (fileset : Fileset) × (fileset_named tree_is server name ≡ Ok fileset) × (fileset.id ≡ id))
    (labels : SameLabels m.0.stance.own h tree_is) where
  abbrev A : List Step
  A = steps_of_host h past

  abbrev there : Own
  there = own_there m.0.stance.own h m.0.stance.user tree_is labels

  under : AgreeUnder m.0.stance.held (host_sees A s) (tree_view tree_is)
  under = agrees script start firsts c same past run h s m tree_is formed cells legal

  is_user : user_of tree_is.roster h ≡ Some m.0.stance.user
  is_user = ap (λ (r : Roster). user_of r h) roster ∙ m.0.stance.acts_for

  seen_so : (server : ServerId) (name : List ℕ) (id : FilesetId) → m.0.stance.own.seen server name ≡ Some id
      → (fileset : Fileset) × (fileset_named tree_is server name ≡ Ok fileset) × (fileset.id ≡ id)
  seen_so server name id e = names server name id ((m.0.stance.knows.seen server name id).0 e)

  clean_so : (f : Fid) → m.0.stance.own.is_clean f ≡ true → (p : Part) → is_of h (cell_at tree_is f p).unsaved ≡ false
  clean_so f e = clean f ((m.0.stance.knows.clean f).0 e)

  stands : Stands tree_is h m.0.stance.user there m.0.stance.held (host_sees A s)
  stands = record {
    formed = formed;
    knows = record { acts_for = is_user; locks = refl; opens = refl; seen = seen_so; clean = clean_so };
    agrees = under;
  }

  module _ (a : Answer) (i : In a s.answers) where
    abbrev view : View
    view = host_sees A s

    abbrev look : Look Verdict
    look = call_look m.0.stance.own h m.0.stance.user a.call

    covered : IsCovered m.0.stance.held view look
    covered = (m.0.answers.answers a i).2.covered

    settled : reply_now (outcome view look) ≡ Some a.reply
    settled = (m.0.answers.answers a i).2.settled

    -- the reply is the tree's
    pub reply_is : ((fid : Fid) (writing : Bool) (span : Span) → outcome view look ≡ Locks fid writing span
        → is_excluded tree_is.locks h fid span writing ≡ false)
        → ((fid : Fid) (kind : OpenKind) → outcome view look ≡ Opens fid kind → is_barred tree_is.opens h fid kind ≡ false)
        → a.reply ≡ (answer_to tree_is h a.call).reply
    reply_is locks opens =
        let same_look = look_there m.0.stance.own h m.0.stance.user tree_is labels a.call in
        told_now (outcome view look) tree_is h a.reply (answer_to tree_is h a.call).reply settled
        (subst (λ (l : Look Verdict). IsTold (tree_reply tree_is h (outcome view l)) (answer_to tree_is h a.call).reply)
        (sym same_look)
        (covered_answers tree_is h m.0.stance.user there m.0.stance.held view a.call stands
        (subst (λ (l : Look Verdict). IsCovered m.0.stance.held view l) same_look covered))) locks opens

    abbrev size : Fid → ℕ
    size f = host_sees A s f Size

    -- of the file that is written the host sees the size
    size_seen : (f : Fid) → s.wrote ≡ Some f → size f ≡ present (cell_at tree_is f Size)
    size_seen f e =
        let (b, from, bytes, j, v) = m.0.answers.writes_only f e in
        let w = of_write view f from bytes m.0.stance.own h m.0.stance.user b.call v in
        under f Size (covered_in m.0.stance.held (needs_in m.0.stance b.call) (record { fid = f; kind = Status false })
        (m.0.answers.answers b j).2.covered w.look.target.status)

    -- the step says which file
    says_file : (f : Fid) (from : ℕ) (bytes : List ℕ) → outcome view look ≡ Writes f from bytes → s.wrote ≡ Some f
    says_file f from bytes v = m.0.answers.writes a f from bytes i v

    file_said : (f : Fid) → s.wrote ≡ Some f → (n : ℕ) × (bs : List ℕ) × (outcome view look ≡ Writes f n bs)
    file_said f e =
        let (b, from, bytes, j, v) = m.0.answers.writes_only f e in
        let one : b ≡ a = one_alone s.answers m.0.answers.answers_one b a j i in (
          from,
          bytes,
          subst (λ (z : Answer). outcome view (call_look m.0.stance.own h m.0.stance.user z.call)
              ≡ Writes f from bytes) one v,
        )

    module _ (f : Fid) (p : Part) where
      abbrev Leaves : Call → Type 0
      Leaves call =
          cell_at (answer_to tree_is h call).tree f p ≡ writes h s.wrote (written_by call) (size f) f p (cell_at tree_is f p)

      abbrev Settled : Call → Type 0
      Settled call =
          (reply_now (outcome view (call_look m.0.stance.own h m.0.stance.user call)) ≡ Some a.reply)
          × IsCovered m.0.stance.held view (call_look m.0.stance.own h m.0.stance.user call)
          × ((g : Fid) (n : ℕ) (bs : List ℕ) → outcome view (call_look m.0.stance.own h m.0.stance.user call) ≡ Writes g n bs
          → s.wrote ≡ Some g)
          × ((g : Fid) → s.wrote ≡ Some g → (n : ℕ) × (bs : List ℕ)
          × (outcome view (call_look m.0.stance.own h m.0.stance.user call) ≡ Writes g n bs))

      -- a call that changes nothing
      tells : (call : Call) → changes_nothing call ≡ true
          → (let none : Option Written = None in written_by call ≡ none) → Leaves call
      tells call nothing none =
          answers_leave_all tree_is h call f p formed nothing
          ∙ sym (ap (λ (w : Option Written). writes h s.wrote w (size f) f p (cell_at tree_is f p)) none
          ∙ no_bytes h s.wrote (size f) f p (cell_at tree_is f p))

      -- a Write
      write_row : (place : Place) (from : ℕ) (bytes : List ℕ) (o : Option FilesetId)
          → m.0.stance.own.seen place.server place.fileset ≡ o
          → (let row = from_root place.server o (λ root. write_look m.0.stance.user root place.path from bytes) in
          (reply_now (outcome view row) ≡ Some a.reply)
          × IsCovered m.0.stance.held view row
          × ((g : Fid) (n : ℕ) (bs : List ℕ) → outcome view row ≡ Writes g n bs → s.wrote ≡ Some g)
          × ((g : Fid) → s.wrote ≡ Some g → (n : ℕ) × (bs : List ℕ) × (outcome view row ≡ Writes g n bs)))
          → Leaves (Write place from bytes)
      write_row place from bytes None e k = answers_no None a.reply refl k.0
      write_row place from bytes (Some id) e k =
          let (fileset, named, same_id) = seen_so place.server place.fileset id e in
          let home = home_known tree_is place.server place.fileset id fileset formed named same_id in
          let checks = write_target fileset m.0.stance.user place.path (from + length bytes) in
          let verdict : outcome view (write_look m.0.stance.user (root_of id) place.path from bytes)
          ≡ either checks (λ anode. written_verdict (use_of fileset anode) from bytes) (λ refusal. Replies (Refused refusal)) =
          outcome_alike m.0.stance.held view (tree_view tree_is) under
          (write_look m.0.stance.user (root_of id) place.path from bytes) k.1
          ∙ (ap (λ root. outcome (tree_view tree_is) (write_look m.0.stance.user root place.path from bytes)) (sym home.root)
          ∙ write_seen (tree_view tree_is) fileset home.formed (tree_shows tree_is fileset home.by_id) m.0.stance.user
          place.path from bytes) in
          after_call tree_is h m.0.stance.user (Write place from bytes) f p formed is_user
          ∙ (ap (λ (fate : Fate). after_fate fate (cell_at tree_is f) p)
          (fate_home tree_is h m.0.stance.user place.server place.fileset (Write place from bytes) fileset f home.found)
          ∙ write_leaves h fileset from s.wrote size f (cell_at tree_is f) p bytes checks
          (λ g q. k.2 g from bytes (verdict ∙ q))
          (λ g q. (let w = k.3 g q in (w.0, w.1, sym verdict ∙ w.2)))
          (size_seen f))

      -- a Sync
      sync_row : (place : Place) (o : Option FilesetId) → m.0.stance.own.seen place.server place.fileset ≡ o
          → (let row = from_root place.server o (λ root. sync_look m.0.stance.own m.0.stance.user root place.path) in
          (reply_now (outcome view row) ≡ Some a.reply) × IsCovered m.0.stance.held view row)
          → Leaves (Sync place)
      sync_row place None e k = answers_no None a.reply refl k.0
      sync_row place (Some id) e k =
          let (fileset, named, same_id) = seen_so place.server place.fileset id e in
          let home = home_known tree_is place.server place.fileset id fileset formed named same_id in
          let verdict =
          outcome_alike m.0.stance.held view (tree_view tree_is) under
          (sync_look m.0.stance.own m.0.stance.user (root_of id) place.path) k.1
          ∙ (ap (λ root. outcome (tree_view tree_is) (sync_look m.0.stance.own m.0.stance.user root place.path))
          (sym home.root)
          ∙ sync_seen (tree_view tree_is) fileset home.formed (tree_shows tree_is fileset home.by_id) m.0.stance.own
          m.0.stance.user place.path) in
          after_call tree_is h m.0.stance.user (Sync place) f p formed is_user
          ∙ (ap (λ (fate : Fate). after_fate fate (cell_at tree_is f) p)
          (fate_home tree_is h m.0.stance.user place.server place.fileset (Sync place) fileset f home.found)
          ∙ (synced tree_is h fileset m.0.stance.own f p clean_so (file_target fileset m.0.stance.user place.path) a.reply
          (ap reply_now (sym verdict) ∙ k.0)
          ∙ sym (no_bytes h s.wrote (size f) f p (cell_at tree_is f p))))

      leaves : (call : Call) → Settled call → Leaves call
      unfolding call_look
      leaves (Read place from len) k = tells (Read place from len) refl refl
      leaves (ListNames place) k = tells (ListNames place) refl refl
      leaves (Stat place) k = tells (Stat place) refl refl
      leaves (GetAcl place which) k = tells (GetAcl place which) refl refl
      leaves (LockCall label place writing from len) k = tells (LockCall label place writing from len) refl refl
      leaves (Unlock label) k = tells (Unlock label) refl refl
      leaves (OpenFile label place kind) k = tells (OpenFile label place kind) refl refl
      leaves (CloseFile label) k = tells (CloseFile label) refl refl
      leaves (Write place from bytes) k =
          write_row place from bytes (m.0.stance.own.seen place.server place.fileset) refl k
      leaves (Sync place) k = sync_row place (m.0.stance.own.seen place.server place.fileset) refl (k.0, k.1)
      leaves (NewFileset server name objects owner) k = answers_no None a.reply refl k.0
      leaves (CloneFileset server source new) k = answers_no None a.reply refl k.0
      leaves (Create place) k =
          answers_no _ a.reply (asks_none view place.server (m.0.stance.own.seen place.server place.fileset)) k.0
      leaves (MakeDir place) k =
          answers_no _ a.reply (asks_none view place.server (m.0.stance.own.seen place.server place.fileset)) k.0
      leaves (Remove place) k =
          answers_no _ a.reply (asks_none view place.server (m.0.stance.own.seen place.server place.fileset)) k.0
      leaves (Rename from to) k =
          answers_no _ a.reply (asks_none view from.server (m.0.stance.own.seen from.server from.fileset)) k.0
      leaves (Truncate place len) k =
          answers_no _ a.reply (asks_none view place.server (m.0.stance.own.seen place.server place.fileset)) k.0
      leaves (SetAcl place which list) k =
          answers_no _ a.reply (asks_none view place.server (m.0.stance.own.seen place.server place.fileset)) k.0
      leaves (MoveFileset server name to) k =
          answers_no _ a.reply (asks_none view server (m.0.stance.own.seen server name)) k.0

      -- the cells are those of the run after the step
      pub cells_left : cell_at (answer_to tree_is h a.call).tree f p
          ≡ written h (c.wrote A s f p) (cell_at tree_is f p)
      cells_left =
          leaves a.call (settled, covered, says_file, file_said)
          ∙ (ap (λ (w : Option Written). writes h s.wrote w (size f) f p (cell_at tree_is f p))
          (sym (first_written s.answers a m.0.answers.answers_one i))
          ∙ ap (λ (o : Option (Seen p)). written h o (cell_at tree_is f p)) (sym (same.wrote A s f p)))
