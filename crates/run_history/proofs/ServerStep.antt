-- After what a server stores and learns by the cause of its step the labels in use in the tree are those of the run
-- again.
use Rattle.std.proofs.Common.{Bool, List, None, Option, Some, ap, eqb-true, false, inl, inr, not, refl, subst, sym}
use Rattle.std.proofs.Common.{true, ℕ, ◌&&◌, ◌++◌, ◌<◌, ◌==◌, ◌∙◌, ◌∷◌, ◌≡◌}
use Rattle.std.proofs.lemmas.Bool.{and_parts, false≢true}
use Rattle.std.specs.List.{list_all}
use Rattle.std.specs.Option.{option_map_or}
use Rattle.std.specs.Prelude.{[], filter, find, flat_map, if◌then◌else◌, is_some, length, map, nat_lt, ◌||◌}
use Rattle.base_types.specs.declared.ids.Fid.{Fid}
use Rattle.base_types.specs.declared.ids.HostId.{HostId}
use Rattle.base_types.specs.declared.ids.Node.{Node}
use Rattle.base_types.specs.declared.ids.Node.TheVariants.{Server}
use Rattle.base_types.specs.declared.ids.OpenKind.{OpenKind}
use Rattle.base_types.specs.declared.ids.ServerId.{ServerId}
use Rattle.base_types.specs.declared.span.Span.{Span}
use Rattle.base_types.specs.declared.user.User.{User}
use Rattle.tree_calls.specs.Rosters.{user_of}
use Rattle.tree_calls.specs.declared.call.Call.{Call}
use Rattle.tree_calls.specs.declared.call.Call.TheVariants.{CloseFile, Unlock}
use Rattle.tree_calls.specs.declared.entry.Entry.{Entry}
use Rattle.tree_calls.specs.declared.entry.Entry.TheVariants.{Call as CallEntry, Down as DownEntry}
use Rattle.tree_calls.specs.declared.entry.Entry.TheVariants.{Stored as StoredEntry}
use Rattle.tree_calls.specs.declared.reply.Reply.TheVariants.{Ok as Fine}
use Rattle.tree_calls.specs.declared.roster.Roster.{Roster}
use Rattle.tree_filesets.specs.Laws.{is_file_at}
use Rattle.tree_filesets.specs.declared.fileset.Fileset.{Fileset}
use Rattle.tree_answers.specs.Answers.{answer_to}
use Rattle.tree_answers.specs.Finding.{has_id}
use Rattle.tree_answers.specs.Histories.{IsLegal, after_entry, after_history}
use Rattle.tree_answers.specs.Locks.{has_lock, is_lock}
use Rattle.tree_answers.specs.Losses.{is_at}
use Rattle.tree_answers.specs.Opens.{has_open, is_open}
use Rattle.tree_answers.specs.Stores.{stored_tree}
use Rattle.tree_answers.specs.WellFormed.{IsWellFormed, names_file}
use Rattle.tree_answers.specs.declared.tree.LockUse.{LockUse}
use Rattle.tree_answers.specs.declared.tree.OpenUse.{OpenUse}
use Rattle.tree_answers.specs.declared.tree.Tree.{Tree}
use Rattle.tree_laws.proofs.Agreeing.{uses_keep_agreeing}
use Rattle.tree_laws.proofs.Labels.{labels_change_so}
use Rattle.tree_laws.specs.Labels.{locks_for, opens_for}
use Rattle.message_types.specs.declared.giving.Ends.{Ends as EndsCall}
use Rattle.message_types.specs.declared.giving.Give.{Give}
use Rattle.message_types.specs.declared.message.Body.{Body}
use Rattle.message_types.specs.declared.message.Body.TheVariants.{Down, GiveBack}
use Rattle.message_types.specs.declared.message.Message.{Message}
use Rattle.script_lines.specs.declared.script.Script.{Script}
use Rattle.token_types.specs.declared.token.Kind.TheVariants.{Lock as LockToken, Opening}
use Rattle.token_types.specs.declared.token.TokenId.{TokenId}
use Rattle.tree_laws.proofs.Steps.{same_number}
use Rattle.run_rules.specs.Doings.{Doing, HasGoneAway, HasGoneDown, doings_of, epoch}
use Rattle.run_rules.specs.Doings.Doing.{Took}
use Rattle.run_rules.specs.Kept.{filesets_kept, takes_gifts}
use Rattle.run_rules.specs.Messages.{Said, home}
use Rattle.run_rules.specs.Past.{In}
use Rattle.run_rules.specs.Runs.{StepMeets, StepsMeet, call_entry, entries_in}
use Rattle.run_rules.specs.ServerDecides.{FirstDown, FirstGiven, ServerApplies, by_cause, ended_by, span_of, stored_of}
use Rattle.run_rules.specs.Steps.{steps_of_host, steps_of_server}
use Rattle.run_rules.specs.Tokens.{GivesUse, Made, end_of}
use Rattle.run_rules.specs.Views.{IsLock, IsOpening}
use Rattle.run_rules.specs.declared.applied.Applied.TheVariants.{IsDown as GoesDown, Replied, Stored}
use Rattle.run_parts.specs.Doings.{doings}
use Rattle.run_history.specs.Changes.{are_home, is_home}
use Rattle.run_parts.proofs.LabelLaw.{given_ended, locked_owed}
use Rattle.run_parts.specs.Uses.{Frees, FreesAny, Locked}
use Rattle.run_contents.proofs.Uses.{IsUse, begun_use, ended_begun}
use Rattle.run_contents.proofs.Words.{any_in, both, in_any}
use Rattle.run_tokens.proofs.Invariant.{Link}
use Rattle.run_tokens.proofs.Words.{made_at}
use Rattle.run_rules.specs.declared.applied.Answer.{Answer}
use Rattle.run_rules.specs.declared.applied.Applied.{Applied as AppliedOf}
use Rattle.run_rules.specs.declared.step.Cause.TheVariants.{Message as Came}
use Rattle.run_rules.specs.declared.step.Labelled.{Labelled}
use Rattle.run_rules.specs.declared.step.Step.{Step}
use Rattle.run_history.proofs.UseCausing.{First, end_by_cause, first_of, frees_is, is_frees}
use Rattle.run_history.proofs.Found.{close_reply, unlock_reply}
use Rattle.run_history.proofs.HostStep.{closes, is_under, under_is, unlocks}
use Rattle.run_history.proofs.Open.{EndsOf, made_ends}
use Rattle.run_history.proofs.Rows.{of_both}
use Rattle.run_history.proofs.State.{LockedNow, StandsWith, TiedLocks, TiedOpens, all, host_run, locked_live}
use Rattle.run_history.proofs.State.{locked_once, of_stand, rules, stand_after, tokens, whole}
use Rattle.run_history.proofs.Tying.{tied_same, tied_without}
use Rattle.run_history.specs.UseStanding.{LabelsStand}

-- what stands in a list passes a test that all pass, and what is found stands in it
all_in : {X : Type 0} (test : X → Bool) (xs : List X) (x : X) → list_all test xs ≡ true → In x xs → test x ≡ true
all_in test [] x e i = elim i [ ]
all_in test (y ∷ ys) x e (inl q) = ap test q ∙ (and_parts (test y) (list_all test ys) e).0
all_in test (y ∷ ys) x e (inr i) = all_in test ys x (and_parts (test y) (list_all test ys) e).1 i

found_is : {X : Type 0} (test : X → Bool) (xs : List X) (x : X) → find test xs ≡ Some x → In x xs × (test x ≡ true)
found_is test [] x e = absurd (let q : None ≡ Some x = e in cc)
found_is {X} test (y ∷ ys) x e = go (λ q. found_is test ys x q) (test y) refl e
  where
    go : (find test ys ≡ Some x → In x ys × (test x ≡ true)) → (b : Bool) → test y ≡ b
        → (if b then Some y else find test ys) ≡ Some x → In x (y ∷ ys) × (test x ≡ true)
    go rest true t q = let one : y ≡ x = (let k : Some y ≡ Some x = q in cc) in (inl (sym one), ap test (sym one) ∙ t)
    go rest false t q = let k = rest q in (inr k.0, k.1)

-- the fileset of a file in use is at a server where it was made there
module _ (tree : Tree) (homes : are_home tree ≡ true) (fid : Fid) where
  homed : (fileset : Fileset) → In fileset tree.filesets → fileset.server ≡ home fileset.id
  homed fileset i =
      ap (λ (n : ℕ). record { 0 = n })
      (eqb-true fileset.server.0 (home fileset.id).0 (all_in is_home tree.filesets fileset homes i))

  id_is : (fileset : Fileset) → has_id fid.fileset fileset ≡ true → fileset.id ≡ fid.fileset
  id_is fileset e = ap (λ (n : ℕ). record { 0 = n }) (eqb-true fileset.id.0 fid.fileset.0 e)

  pub at_is : (v : ServerId) → is_at tree.filesets v fid.fileset ≡ true → home fid.fileset ≡ v
  at_is v e =
      let k = any_in (λ (fileset : Fileset). has_id fid.fileset fileset && (fileset.server.0 == v.0)) tree.filesets e in
      let p = and_parts (has_id fid.fileset k.0) (k.0.server.0 == v.0) k.2 in
      sym (ap home (id_is k.0 p.0))
      ∙ (sym (homed k.0 k.1) ∙ ap (λ (n : ℕ). record { 0 = n }) (eqb-true k.0.server.0 v.0 p.1))

  pub is_there : (v : ServerId) → names_file tree.filesets fid ≡ true → home fid.fileset ≡ v
      → is_at tree.filesets v fid.fileset ≡ true
  is_there v named at = go (find (has_id fid.fileset) tree.filesets) refl named
    where
      go : (o : Option Fileset) → find (has_id fid.fileset) tree.filesets ≡ o
          → option_map_or (λ fileset. is_file_at fileset fid) o false ≡ true → is_at tree.filesets v fid.fileset ≡ true
      go None e q = absurd (false≢true q)
      go (Some fileset) e q =
          let k = found_is (has_id fid.fileset) tree.filesets fileset e in
          let to : fileset.server ≡ v = homed fileset k.0 ∙ (ap home (id_is fileset k.1) ∙ at) in
          in_any (λ (f : Fileset). has_id fid.fileset f && (f.server.0 == v.0)) tree.filesets fileset k.0
          (both (has_id fid.fileset fileset) (fileset.server.0 == v.0) k.1
          (ap (λ (w : ServerId). fileset.server.0 == w.0) (sym to) ∙ same_number fileset.server.0))

-- what is stored leaves who takes part, and what is in use
stored_roster : (tree : Tree) (h : HostId) (fid : Fid) (spans : List Span) (len : Option ℕ)
    → (after_entry tree (StoredEntry h fid spans len)).roster ≡ tree.roster
unfolding stored_tree
stored_roster tree h fid spans len = refl

stored_stands : (had : HostId → Labelled → Type 0) (tree : Tree) (h : HostId) (fid : Fid) (spans : List Span)
    (len : Option ℕ) → StandsWith had tree → StandsWith had (after_entry tree (StoredEntry h fid spans len))
stored_stands had tree h fid spans len old = record {
  locks = subst (TiedLocks had) (sym (labels_change_so tree (StoredEntry h fid spans len)).locks) old.locks;
  opens = subst (TiedOpens had) (sym (labels_change_so tree (StoredEntry h fid spans len)).opens) old.opens;
  agree = uses_keep_agreeing.entry tree (StoredEntry h fid spans len) old.agree;
}

module _ (script : Script) (start : Tree) (firsts : ServerId → ℕ) (real : (v : ServerId) → 0 < firsts v)
    (past : List Step) (s : Step) (run : StepsMeet script start firsts (s ∷ past)) (v : ServerId)
    (node : s.node ≡ Server v) where
  abbrev S : List Doing
  S = doings_of (firsts v) v past

  abbrev K : Tree
  K = filesets_kept start v (steps_of_server v past)

  pub met : StepMeets script start firsts (Server v) past s
  met = subst (λ (n : Node). StepMeets script start firsts n past s) node run.1.0

  applies : ServerApplies v K S s
  applies = met.0.works.applies

  abbrev Old : HostId → Labelled → Type 0
  Old = Locked firsts past

  abbrev Now : HostId → Labelled → Type 0
  Now = LockedNow firsts past s (Server v)

  link : (h : HostId) → Link h v (steps_of_host h past) S
  link h = ((whole script start firsts real past run.0).at v).link h

  -- a label in use is of the server of its file
  pub token_home : (h : HostId) (u : Labelled) → Old h u → home u.token.fid.fileset ≡ u.token.id.server
  token_home h u l =
      let at = (whole script start firsts real past run.0).at u.token.id.server in
      let o = (locked_owed firsts past (tokens script start firsts real past run.0)
      (rules script start firsts real past run.0) h u l (locked_live script start firsts real past run.0 h u l)).0 in
      let i = at.served.owed_issued u.token o in
      made_at u.token.id.server (doings_of (firsts u.token.id.server) u.token.id.server past) u.token.fid.fileset i.0.moves
      at.served.put (at.served.at u.token i.0 i.1)

  use_kind : (h : HostId) (u : Labelled) → Old h u → IsUse u.token.kind
  use_kind h u l =
      begun_use script h (steps_of_host h past) (host_run script start firsts real past run.0 h) u
      (((all script start firsts real past run.0).uses h u.token.id.server).locked_begun u refl l)

  -- where nothing in use is freed, all stay
  unfreed : (tree : Tree) → StandsWith Old tree → ((k : HostId) (u : Labelled) → u.token.id.server ≡ v → Old k u
      → FreesAny v (doings s S) S k u → ⊥) → StandsWith Now tree
  unfreed tree old never = record {
    locks = tied_same (λ (lock : LockUse). lock.host) (λ (lock : LockUse) u. IsLock lock.host lock u) Old Now tree.locks
        old.locks (λ lock u is l. (l, λ at f. never lock.host u at l f)) (λ lock u is y. y.0);
    opens = tied_same (λ (opened : OpenUse). opened.host) (λ (opened : OpenUse) u. IsOpening opened.host opened u) Old
        Now
        tree.opens old.opens (λ opened u is l. (l, λ at f. never opened.host u at l f)) (λ opened u is y. y.0);
    agree = old.agree;
  }

  -- a message that is the cause is the give-back, the Down
  given_is : (h : HostId) (g : Give) (first : FirstGiven v S s h g) (m : Message) → s.cause ≡ Came m
      → (m.host ≡ h) × (m.body ≡ GiveBack g)
  given_is h g first m e =
      let one : first.0.1.0.0 ≡ m = (let r : Came first.0.1.0.0 ≡ Came m = sym first.0.1.0.1 ∙ e in cc) in (
        sym (ap (λ (x : Message). x.host) one) ∙ first.0.1.0.2,
        sym (ap (λ (x : Message). x.body) one) ∙ first.0.1.0.5,
      )

  down_is : (h : HostId) (first : FirstDown S s h) (m : Message) → s.cause ≡ Came m → (m.host ≡ h) × (m.body ≡ Down)
  down_is h first m e =
      let one : first.0.0 ≡ m = (let r : Came first.0.0 ≡ Came m = sym first.0.1 ∙ e in cc) in (
        sym (ap (λ (x : Message). x.host) one) ∙ first.0.2,
        sym (ap (λ (x : Message). x.body) one) ∙ first.0.3,
      )

  took_host : (m : Message) (h : HostId) (e n : ℕ) (b : Body) → Took m.host m.epoch m.moves m.body ≡ Took h e n b
      → (m.host ≡ h) × (m.body ≡ b)
  took_host m h e n b q = (cc, cc)

  -- a give-back that is applied for the first time
  module _ (h : HostId) (g : Give) (first : FirstGiven v S s h g) where
    abbrev A : List Step
    A = steps_of_host h past

    pub made : Made A g
    made =
        let x = first.0.1.0 in
        let said = (met.1 x.0 x.1).2 in
        let said' = subst (λ (y : HostId × Body). Said (steps_of_host y.0 past) v x.0.epoch x.0.moves y.1)
        (λ i. (x.2 i, x.5 i)) said in
        (((whole script start firsts real past run.0).alone h).said_made g v x.0.epoch x.0.moves said').0

    server_is : (i : TokenId) → In i g.ids → i.server ≡ v
    server_is i j =
        let here = made_at v S g.fid.fileset first.0.0 ((whole script start firsts real past run.0).at v).served.put first.0.2 in
        let there = (((whole script start firsts real past run.0).at i.server).link h).made_id g i made j refl in
        sym there ∙ here

    live : HasGoneAway S h → ⊥
    live = first.0.1.1.1

    -- what it frees
    freed_is : (k : HostId) (u : Labelled) → FreesAny v (doings s S) S k u → (k ≡ h) × GivesUse g u
    freed_is k u f =
        let (m, cause, fr) = frees_is v k u s S f in
        let is = given_is h g first m cause in
        elim fr [
          | inl (e, n, q) ↦ absurd (let t = took_host m k e n Down q in
              let w : GiveBack g ≡ Down = sym is.1 ∙ t.1 in cc)
          | inr (j, applied, gives) ↦ (
              let t = took_host m k (epoch S) applied.0.0 (GiveBack j) applied.0.2.0 in
              let w : GiveBack g ≡ GiveBack j = sym is.1 ∙ t.1 in
              let one : g ≡ j = cc in
              (sym t.0 ∙ is.0, subst (λ (x : Give). GivesUse x u) (sym one) gives)
              )
        ]

    frees : (u : Labelled) → GivesUse g u → FreesAny v (doings s S) S h u
    frees u gives =
        let x = first.0.1.0 in
        is_frees v h u s S x.0 x.1 (inr (
          g,
          (
            (first.0.0, first.0.2, ((λ i. Took (x.2 i) (x.3 i) (x.4 i) (x.5 i)), first.0.1.1)),
            first.1,
          ),
          gives,
        ))

    -- a use that it ends is in use
    module _ (ends : EndsCall) (is : g.ends ≡ Some ends) where
      abbrev E : EndsOf script h A g ends
      E = made_ends script h A (host_run script start firsts real past run.0 h) g ends made is

      pub some_use : ((u : Labelled) → GivesUse g u → Old h u → end_of u ≡ ends.call → ⊥) → ⊥
      some_use never =
          ((all script start firsts real past run.0).uses h v).kept_locked g E.u.token.id
          (server_is E.u.token.id E.gives.3) made E.gives.3
          (((all script start firsts real past run.0).labels h).kept_since E.u.token.id E.kept) first.1 live
          (λ u same gives l. never u gives l (sym gives.2 ∙ ap (λ (x : EndsCall). x.call)
          (let q : Some gives.0 ≡ Some ends = sym gives.1 ∙ is in let w : gives.0 ≡ ends = cc in w)))

      pub ends_kind : IsUse E.u.token.kind
      ends_kind =
          begun_use script h A (host_run script start firsts real past run.0 h) E.u
          (ended_begun script h A E.u g (given_ended A E.u g E.given E.gives))

      -- so the host has a lock, an open file under the label
      lock_there : (tree : Tree) → LabelsStand firsts past tree → (w : Bool) (span : Span)
          → E.u.token.kind ≡ LockToken w span → has_lock tree.locks h E.u.label ≡ true
      lock_there tree stands w span kind = go (has_lock tree.locks h E.u.label) refl
        where
          never : has_lock tree.locks h E.u.label ≡ false → (u : Labelled) → GivesUse g u → Old h u
              → end_of u ≡ ends.call → ⊥
          never none u gives l same = by (use_kind h u l)
            where
              by : IsUse u.token.kind → ⊥
              by (inl (x, y, k)) =
                  let q : Unlock u.label ≡ Unlock E.u.label =
                  sym (unlocks u x y k) ∙ (same ∙ (E.call ∙ unlocks E.u w span kind)) in
                  let name : u.label ≡ E.u.label = cc in
                  let lock : LockUse =
                  record { host = h; label = u.label; fid = u.token.fid; writing = x; span = y } in
                  false≢true (sym none ∙ in_any (is_lock h E.u.label) tree.locks lock
                  ((stands.locks lock).1 (u, l, (refl, refl, refl, k)))
                  (is_under h h u.label E.u.label refl name))
              by (inr (x, k)) =
                  let q : CloseFile u.label ≡ Unlock E.u.label =
                  sym (closes u x k) ∙ (same ∙ (E.call ∙ unlocks E.u w span kind)) in
                  cc

          go : (b : Bool) → has_lock tree.locks h E.u.label ≡ b → has_lock tree.locks h E.u.label ≡ true
          go true e = e
          go false e = absurd (some_use (never e))

      open_there : (tree : Tree) → LabelsStand firsts past tree → (kind : OpenKind)
          → E.u.token.kind ≡ Opening kind → has_open tree.opens h E.u.label ≡ true
      open_there tree stands kind is_kind = go (has_open tree.opens h E.u.label) refl
        where
          never : has_open tree.opens h E.u.label ≡ false → (u : Labelled) → GivesUse g u → Old h u
              → end_of u ≡ ends.call → ⊥
          never none u gives l same = by (use_kind h u l)
            where
              by : IsUse u.token.kind → ⊥
              by (inr (x, k)) =
                  let q : CloseFile u.label ≡ CloseFile E.u.label =
                  sym (closes u x k) ∙ (same ∙ (E.call ∙ closes E.u kind is_kind)) in
                  let name : u.label ≡ E.u.label = cc in
                  let opened : OpenUse = record { host = h; label = u.label; fid = u.token.fid; kind = x } in
                  false≢true (sym none ∙ in_any (is_open h E.u.label) tree.opens opened
                  ((stands.opens opened).1 (u, l, (refl, refl, refl, k)))
                  (is_under h h u.label E.u.label refl name))
              by (inl (x, y, k)) =
                  let q : Unlock u.label ≡ CloseFile E.u.label =
                  sym (unlocks u x y k) ∙ (same ∙ (E.call ∙ closes E.u kind is_kind)) in
                  cc

          go : (b : Bool) → has_open tree.opens h E.u.label ≡ b → has_open tree.opens h E.u.label ≡ true
          go true e = e
          go false e = absurd (some_use (never e))

      -- the call that it ends is answered with ok
      pub fine : (tree : Tree) → tree.roster ≡ script.roster → LabelsStand firsts past tree
          → (answer_to tree h ends.call).reply ≡ Fine
      fine tree roster stands = by ends_kind
        where
          acts_for : user_of tree.roster h ≡ Some E.user
          acts_for = ap (λ (r : Roster). user_of r h) roster ∙ E.acts_for

          by : IsUse E.u.token.kind → (answer_to tree h ends.call).reply ≡ Fine
          by (inl (w, span, kind)) =
              ap (λ (call : Call). (answer_to tree h call).reply) (E.call ∙ unlocks E.u w span kind)
              ∙ unlock_reply tree h E.user acts_for E.u.label (lock_there tree stands w span kind)
          by (inr (kind, is_kind)) =
              ap (λ (call : Call). (answer_to tree h call).reply) (E.call ∙ closes E.u kind is_kind)
              ∙ close_reply tree h E.user acts_for E.u.label (open_there tree stands kind is_kind)

      -- what it leaves of the labels of the call
      module _ (tree : Tree) (old : StandsWith Old tree) where
        kept_locks : (w : Bool) (span : Span) → E.u.token.kind ≡ LockToken w span
            → TiedLocks Now (filter (λ lock. not (is_lock h E.u.label lock)) tree.locks)
        kept_locks w span kind =
            tied_without (λ (lock : LockUse). lock.host) (λ (lock : LockUse) u. IsLock lock.host lock u) Old Now
            tree.locks old.locks (λ lock. not (is_lock h E.u.label lock)) stays (λ lock u is y. y.0) passes
          where
            stays : (lock : LockUse) (u : Labelled) → IsLock lock.host lock u → Old lock.host u → In lock tree.locks
                → not (is_lock h E.u.label lock) ≡ true → Now lock.host u
            stays lock u is_lock_of l i test = (
              l,
              λ at f. (
                  let k = freed_is lock.host u f in
                  let q : Unlock u.label ≡ Unlock E.u.label =
                  sym (unlocks u lock.writing lock.span is_lock_of.3)
                  ∙ (sym k.1.2 ∙ (ap (λ (x : EndsCall). x.call)
                  (let p : Some k.1.0 ≡ Some ends = sym k.1.1 ∙ is in let w : k.1.0 ≡ ends = cc in w)
                  ∙ (E.call ∙ unlocks E.u w span kind))) in
                  let name : u.label ≡ E.u.label = cc in
                  false≢true (sym (ap not (is_under lock.host h lock.label E.u.label k.0 (is_lock_of.1 ∙ name))) ∙ test)
                  ),
            )

            passes : (lock : LockUse) (u : Labelled) → IsLock lock.host lock u → Now lock.host u → In lock tree.locks
                → not (is_lock h E.u.label lock) ≡ true
            passes lock u is_lock_of y i = go (is_lock h E.u.label lock) refl
              where
                go : (b : Bool) → is_lock h E.u.label lock ≡ b → not b ≡ true
                go false e = refl
                go true e =
                    let p = under_is lock.host h lock.label E.u.label e in
                    let l : Old h u = subst (λ (k : HostId). Old k u) p.0 y.0 in
                    let end : end_of u ≡ ends.call =
                    unlocks u lock.writing lock.span is_lock_of.3
                    ∙ (ap Unlock (sym is_lock_of.1 ∙ p.1) ∙ (sym (unlocks E.u w span kind) ∙ sym E.call)) in
                    absurd (some_use (λ z gives m same. (
                    let one = locked_once script start firsts real past run.0 h z u m l (same ∙ sym end) in
                    let gives' : GivesUse g u = subst (λ (x : Labelled). GivesUse g x) one gives in
                    y.1 (server_is u.token.id gives'.3)
                    (subst (λ (k : HostId). FreesAny v (doings s S) S k u) (sym p.0) (frees u gives')))))

        same_opens : (w : Bool) (span : Span) → E.u.token.kind ≡ LockToken w span → TiedOpens Now tree.opens
        same_opens w span kind =
            tied_same (λ (opened : OpenUse). opened.host) (λ (opened : OpenUse) u. IsOpening opened.host opened u) Old
            Now
            tree.opens old.opens (λ opened u is_opening l. (
              l,
              λ at f. (
                  let k = freed_is opened.host u f in
                  let q : CloseFile u.label ≡ Unlock E.u.label =
                  sym (closes u opened.kind is_opening.3)
                  ∙ (sym k.1.2 ∙ (ap (λ (x : EndsCall). x.call)
                  (let p : Some k.1.0 ≡ Some ends = sym k.1.1 ∙ is in let w : k.1.0 ≡ ends = cc in w)
                  ∙ (E.call ∙ unlocks E.u w span kind))) in
                  cc),
            )) (λ opened u is_opening y. y.0)

        kept_opens : (kind : OpenKind) → E.u.token.kind ≡ Opening kind
            → TiedOpens Now (filter (λ opened. not (is_open h E.u.label opened)) tree.opens)
        kept_opens kind is_kind =
            tied_without (λ (opened : OpenUse). opened.host) (λ
            (opened : OpenUse) u. IsOpening opened.host opened u) Old
            Now tree.opens old.opens (λ opened. not (is_open h E.u.label opened)) stays (λ opened u is y. y.0) passes
          where
            stays : (opened : OpenUse) (u : Labelled) → IsOpening opened.host opened u → Old opened.host u
                → In opened tree.opens → not (is_open h E.u.label opened) ≡ true → Now opened.host u
            stays opened u is_opening l i test = (
              l,
              λ at f. (
                  let k = freed_is opened.host u f in
                  let q : CloseFile u.label ≡ CloseFile E.u.label =
                  sym (closes u opened.kind is_opening.3)
                  ∙ (sym k.1.2 ∙ (ap (λ (x : EndsCall). x.call)
                  (let p : Some k.1.0 ≡ Some ends = sym k.1.1 ∙ is in let w : k.1.0 ≡ ends = cc in w)
                  ∙ (E.call ∙ closes E.u kind is_kind))) in
                  let name : u.label ≡ E.u.label = cc in
                  false≢true (sym (ap not (is_under opened.host h opened.label E.u.label k.0 (is_opening.1 ∙ name)))
                  ∙ test)
                  ),
            )

            passes : (opened : OpenUse) (u : Labelled) → IsOpening opened.host opened u → Now opened.host u
                → In opened tree.opens → not (is_open h E.u.label opened) ≡ true
            passes opened u is_opening y i = go (is_open h E.u.label opened) refl
              where
                go : (b : Bool) → is_open h E.u.label opened ≡ b → not b ≡ true
                go false e = refl
                go true e =
                    let p = under_is opened.host h opened.label E.u.label e in
                    let l : Old h u = subst (λ (k : HostId). Old k u) p.0 y.0 in
                    let end : end_of u ≡ ends.call =
                    closes u opened.kind is_opening.3
                    ∙ (ap CloseFile (sym is_opening.1 ∙ p.1) ∙ (sym (closes E.u kind is_kind) ∙ sym E.call)) in
                    absurd (some_use (λ z gives m same. (
                    let one = locked_once script start firsts real past run.0 h z u m l (same ∙ sym end) in
                    let gives' : GivesUse g u = subst (λ (x : Labelled). GivesUse g x) one gives in
                    y.1 (server_is u.token.id gives'.3)
                    (subst (λ (k : HostId). FreesAny v (doings s S) S k u) (sym p.0) (frees u gives')))))

        same_locks : (kind : OpenKind) → E.u.token.kind ≡ Opening kind → TiedLocks Now tree.locks
        same_locks kind is_kind =
            tied_same (λ (lock : LockUse). lock.host) (λ (lock : LockUse) u. IsLock lock.host lock u) Old Now
            tree.locks old.locks (λ lock u is_lock_of l. (
              l,
              λ at f. (
                  let k = freed_is lock.host u f in
                  let q : Unlock u.label ≡ CloseFile E.u.label =
                  sym (unlocks u lock.writing lock.span is_lock_of.3)
                  ∙ (sym k.1.2 ∙ (ap (λ (x : EndsCall). x.call)
                  (let p : Some k.1.0 ≡ Some ends = sym k.1.1 ∙ is in let w : k.1.0 ≡ ends = cc in w)
                  ∙ (E.call ∙ closes E.u kind is_kind))) in
                  cc),
            )) (λ lock u is_lock_of y. y.0)

        pub end_left : tree.roster ≡ script.roster
            → StandsWith Now (after_entry tree (CallEntry h ends.k ends.call Fine))
        end_left roster = by ends_kind
          where
            entry : Entry
            entry = CallEntry h ends.k ends.call Fine

            acts_for : user_of tree.roster h ≡ Some E.user
            acts_for = ap (λ (r : Roster). user_of r h) roster ∙ E.acts_for

            locks_now : (call : Call) → ends.call ≡ call
                → (after_entry tree entry).locks ≡ locks_for tree h call (Some E.user)
            locks_now call e =
                (labels_change_so tree entry).locks
                ∙ (ap (λ (o : Option User). locks_for tree h ends.call o) acts_for
                ∙ ap (λ (k : Call). locks_for tree h k (Some E.user)) e)

            opens_now : (call : Call) → ends.call ≡ call
                → (after_entry tree entry).opens ≡ opens_for tree h call (Some E.user)
            opens_now call e =
                (labels_change_so tree entry).opens
                ∙ (ap (λ (o : Option User). opens_for tree h ends.call o) acts_for
                ∙ ap (λ (k : Call). opens_for tree h k (Some E.user)) e)

            by : IsUse E.u.token.kind → StandsWith Now (after_entry tree entry)
            by (inl (w, span, kind)) =
                let e : ends.call ≡ Unlock E.u.label = E.call ∙ unlocks E.u w span kind in
                record {
                  locks = subst (TiedLocks Now) (sym (locks_now (Unlock E.u.label) e)) (kept_locks w span kind);
                  opens = subst (TiedOpens Now) (sym (opens_now (Unlock E.u.label) e)) (same_opens w span kind);
                  agree = uses_keep_agreeing.entry tree entry old.agree;
                }
            by (inr (kind, is_kind)) =
                let e : ends.call ≡ CloseFile E.u.label = E.call ∙ closes E.u kind is_kind in
                record {
                  locks = subst (TiedLocks Now) (sym (locks_now (CloseFile E.u.label) e)) (same_locks kind is_kind);
                  opens = subst (TiedOpens Now) (sym (opens_now (CloseFile E.u.label) e)) (kept_opens kind is_kind);
                  agree = uses_keep_agreeing.entry tree entry old.agree;
                }

    -- one that ends no call frees nothing
    none_left : g.ends ≡ None → (tree : Tree) → StandsWith Old tree → StandsWith Now tree
    none_left is tree old = unfreed tree old (λ k u at l f. (
        let q = (freed_is k u f).1 in let w : None ≡ Some q.0 = sym is ∙ q.1 in cc))

    -- what it has stored leaves the labels, and then it ends its call
    pub given_left : (tree : Tree) → tree.roster ≡ script.roster → StandsWith Old tree
        → StandsWith Now (after_history tree (flat_map (entries_in v) (stored_of K h g ++ ended_by h g)))
    given_left tree roster old =
        go (takes_gifts K g.fid && (nat_lt 0 (length g.pieces) || is_some g.length)) g.ends refl
      where
        go : (b : Bool) (o : Option EndsCall) → g.ends ≡ o
            → StandsWith Now (after_history tree (flat_map (entries_in v)
            ((if b then Stored h g.fid (map span_of g.pieces) g.length ∷ [] else [])
            ++ option_map_or (λ ends.
            Replied (record { host = h; k = ends.k; call = ends.call; reply = Fine; first = false }) ∷ []) o [])))
        go true None e =
            none_left e (after_entry tree (StoredEntry h g.fid (map span_of g.pieces) g.length))
            (stored_stands Old tree h g.fid (map span_of g.pieces) g.length old)
        go true (Some ends) e =
            end_left ends e (after_entry tree (StoredEntry h g.fid (map span_of g.pieces) g.length))
            (stored_stands Old tree h g.fid (map span_of g.pieces) g.length old)
            (stored_roster tree h g.fid (map span_of g.pieces) g.length ∙ roster)
        go false None e = none_left e tree old
        go false (Some ends) e = end_left ends e tree old roster

  -- a host that goes down
  module _ (h : HostId) (first : FirstDown S s h) (tree : Tree) (formed : IsWellFormed tree)
      (homes : are_home tree ≡ true) (old : StandsWith Old tree) where
    freed_by_down : (k : HostId) (u : Labelled) → FreesAny v (doings s S) S k u → k ≡ h
    freed_by_down k u f =
        let (m, cause, fr) = frees_is v k u s S f in
        let is = down_is h first m cause in
        elim fr [
          | inl (e, n, q) ↦ (let t = took_host m k e n Down q in sym t.0 ∙ is.0)
          | inr (j, applied, gives) ↦ (
              let t = took_host m k (epoch S) applied.0.0 (GiveBack j) applied.0.2.0 in
              sym t.0 ∙ is.0
              )
        ]

    down_frees : (u : Labelled) → FreesAny v (doings s S) S h u
    down_frees u =
        let x = first.0 in
        is_frees v h u s S x.0 x.1 (inl (x.0.epoch, x.0.moves, (λ i. Took (x.2 i) x.0.epoch x.0.moves (x.3 i))))

    -- what the tree forgets
    abbrev Gone : HostId → Fid → Bool
    Gone host fid = (host.0 == h.0) && is_at tree.filesets v fid.fileset

    -- what is freed is what the tree forgets
    forgotten : (k : HostId) (u : Labelled) (fid : Fid) → fid ≡ u.token.fid → names_file tree.filesets fid ≡ true
        → u.token.id.server ≡ v → Old k u → FreesAny v (doings s S) S k u → Gone k fid ≡ true
    forgotten k u fid same named at l f =
        both (k.0 == h.0) (is_at tree.filesets v fid.fileset)
        (ap (λ (j : HostId). k.0 == j.0) (sym (freed_by_down k u f)) ∙ same_number k.0)
        (is_there tree homes fid v named (ap (λ (x : Fid). home x.fileset) same ∙ (token_home k u l ∙ at)))

    not_freed : (k : HostId) (u : Labelled) (fid : Fid) → fid ≡ u.token.fid → Now k u → Gone k fid ≡ true → ⊥
    not_freed k u fid same y e =
        let p = and_parts (k.0 == h.0) (is_at tree.filesets v fid.fileset) e in
        let host : k ≡ h = ap (λ (n : ℕ). record { 0 = n }) (eqb-true k.0 h.0 p.0) in
        let at : u.token.id.server ≡ v =
        sym (token_home k u y.0) ∙ (ap (λ (x : Fid). home x.fileset) (sym same) ∙ at_is tree homes fid v p.1) in
        y.1 at (subst (λ (j : HostId). FreesAny v (doings s S) S j u) (sym host) (down_frees u))

    not_gone : (b : Bool) → (b ≡ true → ⊥) → not b ≡ true
    not_gone true never = absurd (never refl)
    not_gone false never = refl

    is_gone : (b : Bool) → b ≡ true → not b ≡ true → ⊥
    is_gone true e n = false≢true n
    is_gone false e n = false≢true e

    pub down_left : StandsWith Now (after_entry tree (DownEntry h v))
    down_left = record {
      locks = subst (TiedLocks Now) (sym (labels_change_so tree (DownEntry h v)).locks)
          (tied_without (λ (lock : LockUse). lock.host) (λ (lock : LockUse) u. IsLock lock.host lock u) Old Now
          tree.locks old.locks (λ lock. not (Gone lock.host lock.fid))
          (λ lock u is l i test. (
            l,
            λ at f. is_gone (Gone lock.host lock.fid)
                (forgotten lock.host u lock.fid is.2 (all_in (λ
                (x : LockUse). names_file tree.filesets x.fid) tree.locks
                lock formed.locks i) at l f) test,
          )) (λ lock u is y. y.0)
          (λ lock u is y i. not_gone (Gone lock.host lock.fid) (λ e. not_freed lock.host u lock.fid is.2 y e)));
      opens = subst (TiedOpens Now) (sym (labels_change_so tree (DownEntry h v)).opens)
          (tied_without (λ (opened : OpenUse). opened.host) (λ (opened : OpenUse) u. IsOpening opened.host opened u) Old
          Now tree.opens old.opens (λ opened. not (Gone opened.host opened.fid))
          (λ opened u is l i test. (
            l,
            λ at f. is_gone (Gone opened.host opened.fid)
                (forgotten opened.host u opened.fid is.2 (all_in (λ (x : OpenUse). names_file tree.filesets x.fid)
                tree.opens opened formed.opens i) at l f) test,
          )) (λ opened u is y. y.0)
          (λ opened u is y i. not_gone (Gone opened.host opened.fid)
          (λ e. not_freed opened.host u opened.fid is.2 y e)));
      agree = uses_keep_agreeing.entry tree (DownEntry h v) old.agree;
    }

  -- where the cause applies nothing it frees nothing that is in use
  down_away : (D : List Doing) (k : HostId) → HasGoneDown D k → HasGoneAway D k
  down_away [] k d = elim d [ ]
  down_away (a ∷ D) k (inl d) = inl (inl d)
  down_away (a ∷ D) k (inr d) = inr (down_away D k d)

  none_applied : by_cause s.applied ≡ [] → (k : HostId) (u : Labelled) → u.token.id.server ≡ v → Old k u
      → FreesAny v (doings s S) S k u → ⊥
  none_applied none k u at l f = by (frees_is v k u s S f)
    where
      not_away : HasGoneAway S k → ⊥
      not_away away =
          locked_live script start firsts real past run.0 k u l
          (subst (λ (w : ServerId). HasGoneAway (doings_of (firsts w) w past) k) (sym at) away)

      by : (m : Message) × (s.cause ≡ Came m) × Frees v S (Took m.host m.epoch m.moves m.body) k u → ⊥
      by (m, cause, inl (e, n, q)) =
          let t = took_host m k e n Down q in
          let some : GoesDown k ∷ [] ≡ [] =
          sym (applies.down k ((m, cause, t.0, t.1), λ d. not_away (down_away S k d))) ∙ none in
          cc
      by (m, cause, inr (g, (t, fresh), gives)) =
          let p = took_host m k (epoch S) t.0 (GiveBack g) t.2.0 in
          let now : m.epoch ≡ epoch S = took_epoch m k (epoch S) t.0 (GiveBack g) t.2.0 in
          let moves : m.moves ≡ t.0 = took_moves m k (epoch S) t.0 (GiveBack g) t.2.0 in
          let some = sym (applies.given k g ((t.0, ((m, cause, p.0, now, moves, p.1), t.2.1), t.1), fresh)) ∙ none in
          ends_some (stored_of K k g) g.ends gives.0 gives.1 some
        where
          took_epoch : (m : Message) (h : HostId) (e n : ℕ) (b : Body)
              → Took m.host m.epoch m.moves m.body ≡ Took h e n b → m.epoch ≡ e
          took_epoch m h e n b q = cc

          took_moves : (m : Message) (h : HostId) (e n : ℕ) (b : Body)
              → Took m.host m.epoch m.moves m.body ≡ Took h e n b → m.moves ≡ n
          took_moves m h e n b q = cc

          ends_some : (xs : List AppliedOf) (o : Option EndsCall) (ends : EndsCall) → o ≡ Some ends
              → xs ++ option_map_or (λ ends.
              Replied (record { host = k; k = ends.k; call = ends.call; reply = Fine; first = false }) ∷ []) o [] ≡ []
              → ⊥
          ends_some [] None ends e q = let w : None ≡ Some ends = e in cc
          ends_some [] (Some x) ends e q = cc
          ends_some (x ∷ xs) o ends e q = cc

  -- after the cause the labels stand
  pub cause_left : (tree : Tree) → IsWellFormed tree → tree.roster ≡ script.roster → are_home tree ≡ true
      → LabelsStand firsts past tree
      → LabelsStand firsts (s ∷ past) (after_history tree (flat_map (entries_in v) (by_cause s.applied)))
  cause_left tree formed roster homes stands = go (by_cause s.applied) refl
    where
      old : StandsWith Old tree
      old = of_stand firsts past tree stands

      by : First v S K s applies → StandsWith Now (after_history tree (flat_map (entries_in v) (by_cause s.applied)))
      by (inl (h, g, first)) =
          subst (λ (xs : List AppliedOf). StandsWith Now (after_history tree (flat_map (entries_in v) xs)))
          (sym (applies.given h g first)) (given_left h g first tree roster old)
      by (inr (h, first)) =
          subst (λ (xs : List AppliedOf). StandsWith Now (after_history tree (flat_map (entries_in v) xs)))
          (sym (applies.down h first)) (down_left h first tree formed homes old)

      go : (xs : List AppliedOf) → by_cause s.applied ≡ xs
          → LabelsStand firsts (s ∷ past) (after_history tree (flat_map (entries_in v) (by_cause s.applied)))
      go [] e =
          stand_after firsts past s (Server v) (after_history tree (flat_map (entries_in v) (by_cause s.applied))) node
          (subst (λ (xs : List AppliedOf). StandsWith Now (after_history tree (flat_map (entries_in v) xs))) (sym e)
          (unfreed tree old (none_applied e)))
      go (x ∷ xs) e =
          stand_after firsts past s (Server v) (after_history tree (flat_map (entries_in v) (by_cause s.applied))) node
          (by (first_of v S K s applies (λ none. (let q : x ∷ xs ≡ [] = sym e ∙ none in cc))))

  -- the end of a use that the server takes is legal
  pub end_legal : (tree : Tree) → tree.roster ≡ script.roster → LabelsStand firsts past tree → (a : Answer)
      → In (Replied a) s.applied → IsLegal tree (call_entry a)
  end_legal tree roster stands a i =
      by (first_of v S K s applies (λ none. elim (subst (In (Replied a)) none j) [ ]))
    where
      j : In (Replied a) (by_cause s.applied)
      j = end_by_cause s.applied a applies.decided i

      stored_no : (h : HostId) (g : Give) (b : Bool)
          → In (Replied a) (if b then Stored h g.fid (map span_of g.pieces) g.length ∷ [] else []) → ⊥
      stored_no h g true (inl e) = let q : Replied a ≡ Stored h g.fid (map span_of g.pieces) g.length = e in cc
      stored_no h g true (inr e) = elim e [ ]
      stored_no h g false e = elim e [ ]

      ended_is : (h : HostId) (o : Option EndsCall)
          → In (Replied a) (option_map_or (λ ends.
          Replied (record { host = h; k = ends.k; call = ends.call; reply = Fine; first = false }) ∷ []) o [])
          → (ends : EndsCall) × (o ≡ Some ends)
          × (a ≡ record { host = h; k = ends.k; call = ends.call; reply = Fine; first = false })
      ended_is h None e = elim e [ ]
      ended_is h (Some ends) (inl e) = (ends, refl, end_same a _ e)
        where
          end_same : (x y : Answer) → Replied x ≡ Replied y → x ≡ y
          end_same x y q = cc
      ended_is h (Some ends) (inr e) = elim e [ ]

      by : First v S K s applies → IsLegal tree (call_entry a)
      by (inr (h, first)) = absurd (elim (subst (In (Replied a)) (applies.down h first) j) [
        | inl e ↦ (let q : Replied a ≡ GoesDown h = e in cc)
        | inr e ↦ elim e [ ]
      ])
      by (inl (h, g, first)) =
          elim (of_both (Replied a) (stored_of K h g) (ended_by h g) (subst (In (Replied a)) (applies.given h g first) j)) [
            | inl x ↦ absurd (stored_no h g (takes_gifts K g.fid && (nat_lt 0 (length g.pieces) || is_some g.length)) x)
            | inr x ↦ (
                let (ends, is, same) = ended_is h g.ends x in
                subst (λ (b : Answer). IsLegal tree (call_entry b)) (sym same)
                (sym (fine h g first ends is tree roster stands))
                )
          ]
