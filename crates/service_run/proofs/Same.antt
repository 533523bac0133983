-- Stores that are the same servers'.
use Rattle.std.proofs.Common.{◌≡◌, ◌≤◌, ◌+◌, ◌⊎◌, ℕ, zero, suc, List, [], ◌∷◌, length, map, Some, None, Ok, Err, true}
use Rattle.std.proofs.Common.{inl, inr, ⊎_elim, refl, sym, ap, subst, ◌∙◌, arith}
use Rattle.std.specs.Prelude.{slice_get, nat_lt, ◌-◌, Result, IfErr, IfOk}
use Rattle.base_types.specs.Faults.{RoseBy}
use Rattle.tree_calls.specs.declared.roster.Roster.{Roster}
use Rattle.store_memory.specs.Views.{View}
use Rattle.store_state.specs.declared.state.StoreState.{StoreState}
use Rattle.tree_answers.specs.declared.tree.Tree.{Tree}
use Rattle.service_hosts.specs.Homes.{may_host}
use Rattle.service_starts.specs.Fitting.{misfit}
use Rattle.service_starts.specs.declared.told.Told.{Told}
use Rattle.script_lines.specs.declared.script.Script.{Script}
use Rattle.service_moves.specs.Doing.{Step, DoSteps, acts_at}
use Rattle.service_moves.proofs.Whole.{in_so, moves_in}
use Rattle.service_moves.specs.Plans.{states_at}
use Rattle.service_moves.specs.Stopping.{IsStopped, HasFailed}
use Rattle.service_moves.specs.Stores.{AreSame, AreStores, states_of}
use Rattle.service_moves.specs.declared.stopped.RunStopped.{RunStopped}
use Rattle.service_moves.specs.declared.stopped.RunStopped.TheVariants.{Failed, Unfit, Memory}
use Rattle.service_stores.specs.Plans.{AreBeginning, IsBeginning}
use Rattle.service_stores.specs.Starting.{told_of, told_by, start_from, HaveBegunAnew}
use Rattle.service_stores.specs.Steps.{MayBeAsked}
use Rattle.service_run.proofs.Gone.{gone_idle, gone_in, gone_on}
use Rattle.service_run.proofs.Lists.{get_map, mapped}
use Rattle.std.proofs.Math.Logic.{∥∥₁_map}
use Rattle.service_watch.proofs.Going.{first_views}
use Rattle.service_run.proofs.Worked.{have_served}
use Rattle.service_run.specs.Courses.{KeepTree, last_in}
use Rattle.service_hosts.specs.Hosting.{HasKept, kept_so_far}
use Rattle.service_run.specs.Steps.{HaveKeptSoFar, KeepsWhole}
use Rattle.service_run.specs.Steps.{HasRunFrom, HasRunOver, HaveGone, HaveKept, IsRunFrom, IsRunOf, IsStoppedSo}
use Rattle.service_run.specs.Steps.{HasWorked, HaveHosted, HaveServed, RunsIn}
use Rattle.service_run.specs.declared.disks.Stopped.{Stopped}
use Rattle.service_run.specs.declared.disks.Stopped.TheVariants.{Run, Stuck}
use Rattle.service_run.specs.declared.outcome.Course.{Course}

rose_before : (a b c : ℕ) → a ≤ b → RoseBy 2 b c → RoseBy 2 a c
rose_before a b c less rose = omega (arith, less, rose)

module _ {S : Type 0} (view : S → View) where
  pub same_trans : (olds mids news : List S) → AreSame view olds mids → AreSame view mids news → AreSame view olds news
  same_trans [] [] [] a b = tt
  same_trans [] [] (x ∷ news) a b = absurd b
  same_trans [] (x ∷ mids) news a b = absurd a
  same_trans (x ∷ olds) [] news a b = absurd a
  same_trans (x ∷ olds) (y ∷ mids) [] a b = absurd b
  same_trans (x ∷ olds) (y ∷ mids) (z ∷ news) a b = (
    record { server = b.0.server ∙ a.0.server; roster = b.0.roster ∙ a.0.roster },
    b.1,
    (let p = a.2 in let q = b.2 in omega (arith, p, q)),
    same_trans olds mids news a.3 b.3,
  )

  pub same_count : (olds news : List S) → AreSame view olds news → length news ≡ length olds
  same_count [] [] same = refl
  same_count [] (y ∷ news) same = absurd same
  same_count (x ∷ olds) [] same = absurd same
  same_count (x ∷ olds) (y ∷ news) same = ap (λ n. suc n) (same_count olds news same.3)

  -- stores that may be opened anew are the same as themselves
  pub same_self : (roster : Roster) (worn n : ℕ) (stores : List S) → AreStores view roster worn n stores → AreSame
      view stores stores
  same_self roster worn n [] are = tt
  same_self roster worn n (x ∷ stores) are = (
    record { server = refl; roster = refl },
    are.0.mendable,
    omega arith,
    same_self roster worn (n + 1) stores are.1,
  )

  record Before (olds : List S) (k faults : ℕ) : Type 0 where
    pub from : S
    pub was : slice_get olds k ≡ Some from
    pub less : (view from).faults ≤ faults

  before : (olds mids : List S) (k : ℕ) (mid : S) → AreSame view olds mids → slice_get mids k ≡ Some mid → Before
      olds k ((view mid).faults)
  before [] [] k mid same e = absurd (cc)
  before [] (y ∷ mids) k mid same e = absurd same
  before (x ∷ olds) [] k mid same e = absurd same
  before (x ∷ olds) (y ∷ mids) zero mid same e = (let is : y ≡ mid = cc in record
      { from = x; was = refl; less = subst (λ (z : S). (view x).faults ≤ (view z).faults) is same.2 })
  before (x ∷ olds) (y ∷ mids) (suc k) mid same e = (let b = before olds mids k mid same.3 e in record
      { from = b.from; was = b.was; less = b.less })

  failed_later : (olds mids news : List S) (number : ℕ) → AreSame view olds mids → HasFailed view mids news number
      → HasFailed view olds news number
  failed_later olds mids news number same failed =
      (let b = before olds mids failed.k failed.before same failed.was in
      record {
        k = failed.k;
        numbered = failed.numbered;
        before = b.from;
        after = failed.after;
        was = b.was;
        is = failed.is;
        twice = rose_before ((view b.from).faults) ((view failed.before).faults) ((view failed.after).faults) b.less
            failed.twice;
        last = failed.last;
      })

  -- what stopped the keeping of a run stopped the run
  stopped_later : (tells : Type 0) (all : List Told) (olds mids news : List S) (why : RunStopped) → AreSame view olds
      mids → IsStopped tells view [] mids news why → IsStopped tells view all olds news why
  stopped_later tells all olds mids news (Failed server) same is = failed_later olds mids news server.0 same is
  stopped_later tells all olds mids news (Unfit disk slot) same is = λ told. absurd
      (let none = (is told).0 in let bad = none.1 in cc)
  stopped_later tells all olds mids news Memory same is = tt

  module _ (tells : Type 0) (script : Script) (disks : ℕ) where
    -- a run that stopped while it began
    pub run_stopped : (olds news : List S) (why : RunStopped) → AreSame view olds news → IsStopped tells view
        (told_by view disks olds) olds news why → (tells → HaveGone view script disks (Err (Run why)) olds news)
        → IsRunOf tells view script disks (Err (Run why)) olds news
    run_stopped olds news why same is goes = record {
      same = same;
      ran = tt;
      stopped = is;
      goes = λ told. inl
          (goes told);
    }

    -- or began, and then ran from the tree
    pub run_from : {E : Type 0} (worn : ℕ) (olds mids news : List S) (start : Tree) (result : Result Course Stopped)
        → AreStores view script.roster worn 1 mids → AreSame view olds mids
        → (tells → misfit (told_by view disks olds) ≡ None)
        → (tells → start ≡ start_from script.roster (told_by view disks olds))
        → (tells → HaveBegunAnew (states_of view olds) (states_of view mids))
        → (tells → (steps : List Step) × AreBeginning (states_at view olds) steps × DoSteps {T = Tree} {E = E} view
        (Ok start) steps olds mids)
        → IsRunFrom tells view (HaveHosted (first_views view mids) view script start
        (map (λ (state : StoreState). state.epoch) (states_of view mids)) result) script start result mids news
        → IsRunOf tells view script disks result olds news
    run_from {E = E} worn olds mids news start result are same fit tree begun steps from = record {
      same = same_trans olds mids news same from.same;
      ran = ran result from.ran;
      stopped = halted result from.stopped;
      goes = λ told.
          ⊎_elim (λ (hosted : HaveHosted (first_views view mids) view script start
          (map (λ (state : StoreState). state.epoch) (states_of view mids)) result news). inr (have_served view {E = E}
          script
          disks worn olds mids news start result are same from.same (fit told)
          (subst (λ (t : Tree). may_host script t ≡ true) (tree told) hosted.may) (steps told) hosted.worked
          (subst (λ (t : Tree). HaveKeptSoFar view script t
          (map (λ (state : StoreState). state.epoch + 1) (states_of view olds)) result news) (tree told)
          (subst (λ (l : List ℕ). HaveKeptSoFar view script start l result news) (begun told) hosted.so_far))))
          (λ (kept : HaveKept view script start result mids news). inl (gone told kept)) (from.goes told);
    }
      where
        ran : (result : Result Course Stopped) → IfOk result (HasRunFrom tells view script start mids news) → IfOk
            result (HasRunOver tells view script disks olds news)
        ran (Ok run) from = record {
          went = from.went;
          fit = fit;
          start = λ told. from.start_is ∙ tree told;
          epochs = λ told. subst (λ (l : List ℕ). RunsIn l run) (begun told) (from.epochs told);
          kept = from.kept;
          ready = from.ready;
        }
        ran (Err why) from = tt

        halted : (result : Result Course Stopped) → IfErr result (IsStoppedSo tells view script [] mids news) → IfErr
            result (IsStoppedSo tells view script (told_by view disks olds) olds news)
        halted (Ok run) is = tt
        halted (Err (Run why)) is = stopped_later tells (told_by view disks olds) olds mids news why same is
        halted (Err (Stuck place next)) is = is

        gone : tells → HaveKept view script start result mids news → HaveGone view script disks result olds news
        gone told (inl idle) = gone_idle view script disks start olds mids news start (tree told) (steps told) result
            idle.0 idle.1
        gone told (inr keeps) = gone_on view script disks start olds mids news start (tree told) (steps told) result
            keeps

-- stores in what holds them
module _ {S T : Type 0} (f : S → T) (view : T → View) where
  pub same_in : (olds news : List S) → AreSame (λ s. view (f s)) olds news → AreSame view (map f olds) (map f news)
  same_in [] [] same = tt
  same_in [] (y ∷ news) same = absurd same
  same_in (x ∷ olds) [] same = absurd same
  same_in (x ∷ olds) (y ∷ news) same = (same.0, same.1, same.2, same_in olds news same.3)

  pub stores_in_are : (roster : Roster) (worn n : ℕ) (stores : List S) → AreStores view roster worn n (map f stores)
      → AreStores (λ s. view (f s)) roster worn n stores
  stores_in_are roster worn n [] are = tt
  stores_in_are roster worn n (x ∷ stores) are = (are.0, stores_in_are roster worn (n + 1) stores are.1)

  pub states_in : (stores : List S) → states_of view (map f stores) ≡ states_of (λ s. view (f s)) stores
  states_in [] = refl
  states_in (x ∷ stores) = ap (λ l. (view (f x)).state ∷ l) (states_in stores)

  told_in : (disks : ℕ) (stores : List S) → told_by view disks (map f stores) ≡ told_by (λ s. view (f s)) disks stores
  told_in disks [] = refl
  told_in disks (x ∷ stores) = ap (λ l. told_of (nat_lt 0 disks) (view (f x)).state ∷ l) (told_in (disks - 1) stores)

  pub failed_in : (olds news : List S) (number : ℕ) → HasFailed (λ s. view (f s)) olds news number → HasFailed view
      (map f olds) (map f news) number
  failed_in olds news number failed = record {
    k = failed.k;
    numbered = failed.numbered;
    before = f failed.before;
    after = f failed.after;
    was = get_map f olds failed.k failed.before failed.was;
    is = get_map f news failed.k failed.after failed.is;
    twice = failed.twice;
    last = failed.last;
  }

  pub asked_in : (stores : List S) → MayBeAsked (λ s. view (f s)) stores → MayBeAsked view (map f stores)
  asked_in stores asked = record {
    each = λ k store is. (let m = mapped f stores k store is in subst (λ (t : T). (view t).ready) m.is
        (asked.each k m.from m.was));
  }

  stopped_in : (tells : Type 0) (script : Script) (disks : ℕ) (olds news : List S) (why : Stopped) → IsStoppedSo
      tells (λ s. view (f s)) script (told_by (λ s. view (f s)) disks olds) olds news why
      → IsStoppedSo tells view script (told_by view disks (map f olds)) (map f olds) (map f news) why
  stopped_in tells script disks olds news (Run (Failed server)) is = failed_in olds news server.0 is
  stopped_in tells script disks olds news (Run (Unfit disk slot)) is = λ told.
      (rw (told_in disks olds) (is told).0, states_in news ∙ (is told).1 ∙ sym (states_in olds))
  stopped_in tells script disks olds news (Run Memory) is = tt
  stopped_in tells script disks olds news (Stuck place next) is = is

  -- what they keep of what happened so far
  kept_in : (script : Script) (start start_is : Tree) (epochs epochs_is : List ℕ) (result : Result Course Stopped)
      (news : List S) → start ≡ start_is → epochs ≡ epochs_is
      → HaveKeptSoFar (λ s. view (f s)) script start epochs result news
      → HaveKeptSoFar view script start_is epochs_is result (map f news)
  kept_in script start start_is epochs epochs_is result news tree are h =
      subst (λ (t : Tree). HaveKeptSoFar view script t epochs_is result (map f news)) tree (record {
        journal = h.journal;
        starts = h.starts;
        epochs_are = h.epochs_are ∙ are;
        planned = h.planned;
        run = h.run;
        dutiful = h.dutiful;
        kept = λ k store is.
            (let m = mapped f news k store is in
            subst (λ (t : T). HasKept script start h.journal (record { 0 = k + 1 }) (view t)) m.is
            (h.kept k m.from m.was));
        rested = λ rest k store is.
            (let m = mapped f news k store is in
            subst (λ (t : T). KeepsWhole (kept_so_far start h.journal (record { 0 = k + 1 })) (view t)) m.is
            (h.rested rest k m.from m.was));
      })

  goes_in : (script : Script) (disks : ℕ) (result : Result Course Stopped) (olds news : List S) → HaveGone
      (λ s. view (f s)) script disks result olds news ⊎ HaveServed (λ s. view (f s)) script disks result olds news
      → HaveGone view script disks result (map f olds) (map f news) ⊎ HaveServed view script disks result (map f olds)
      (map f news)
  goes_in script disks result olds news (inl gone) = inl (gone_in f view script disks result olds news
      (told_in disks olds) (states_in olds) gone)
  goes_in script disks result olds news (inr served) = inr (record {
    fit = ap misfit (told_in disks olds) ∙ served.fit;
    may = ap (λ l. may_host script (start_from script.roster l)) (told_in disks olds) ∙ served.may;
    begins = served.begins;
    beginning = moves_in IsBeginning (states_at (λ s. view (f s)) olds) (states_at view (map f olds)) served.begins
        (in_so (states_at (λ s. view (f s)) olds) (states_at view (map f olds))
        (λ place state e. ap (λ (l : List StoreState). slice_get l place) (states_in olds) ∙ e)) served.beginning;
    each = λ k before after was is.
        (let m = mapped f olds k before was in
        let n = mapped f news k after is in
        let acts = acts_at k served.begins in
        ∥∥₁_map (served.each k m.from n.from m.was n.was) (λ worked.
        subst (λ (t : T). HasWorked acts (view before) (view t)) n.is
        (subst (λ (t : T). HasWorked acts (view t) (view (f n.from))) m.is worked)));
    so_far = kept_in script (start_from script.roster (told_by (λ s. view (f s)) disks olds))
        (start_from script.roster (told_by view disks (map f olds)))
        (map (λ (state : StoreState). state.epoch + 1) (states_of (λ s. view (f s)) olds))
        (map (λ (state : StoreState). state.epoch + 1) (states_of view (map f olds))) result news
        (ap (λ l. start_from script.roster l) (sym (told_in disks olds)))
        (ap (λ (l : List StoreState). map (λ (state : StoreState). state.epoch + 1) l) (sym (states_in olds)))
        served.so_far;
  })

  pub run_in : (tells : Type 0) (script : Script) (disks : ℕ) (result : Result Course Stopped) (olds news : List S)
      → IsRunOf tells (λ s. view (f s)) script disks result olds news
      → IsRunOf tells view script disks result (map f olds) (map f news)
  run_in tells script disks (Ok run) olds news is = record {
    same = same_in olds news is.same;
    ran = record {
      went = is.ran.went;
      fit = λ told. ap misfit (told_in disks olds) ∙ is.ran.fit told;
      start = λ told. is.ran.start told ∙ ap (λ l. start_from script.roster l) (sym (told_in disks olds));
      epochs = λ told. subst (λ (l : List StoreState). RunsIn (map (λ (state : StoreState). state.epoch + 1) l) run)
          (sym (states_in olds)) (is.ran.epochs told);
      kept = λ told. subst (λ (l : List StoreState). KeepTree (last_in run) l) (sym (states_in news))
          (is.ran.kept told);
      ready = asked_in news is.ran.ready;
    };
    stopped = tt;
    goes = λ told. goes_in script disks (Ok run) olds news (is.goes told);
  }
  run_in tells script disks (Err why) olds news is = record {
    same = same_in olds news is.same;
    ran = tt;
    stopped = stopped_in tells script disks olds news why is.stopped;
    goes = λ told. goes_in script disks (Err why) olds news (is.goes told);
  }
