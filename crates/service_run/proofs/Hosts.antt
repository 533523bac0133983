-- A script that ran from a tree on, by hosts and servers or on the tree alone.
use Rattle.std.proofs.Common.{◌≡◌, ◌+◌, ◌++◌, ℕ, List, [], ◌∷◌, map, length, Some, Ok, Err, true, false, inl, inr}
use Rattle.std.proofs.Common.{⊎_elim, refl, sym, ap, subst, ◌∙◌}
use Rattle.std.specs.Prelude.{Result, IfErr, IfOk, slice_get, unwrap_or}
use Rattle.std.proofs.lemmas.List.{length-map}
use Rattle.service_hosts.proofs.Nothing.{nothing, nothing_due, nothing_keep, nothing_planned, nothing_runs}
use Rattle.service_hosts.proofs.Promised.{promises_are_kept}
use Rattle.service_hosts.specs.Runs.{last_tree}
use Rattle.run_rules.specs.Runs.{history_of}
use Rattle.run_rules.specs.declared.journal.Journal.{Journal}
use Rattle.script_lines.specs.Sound.{IsSound}
use Rattle.script_lines.specs.declared.script.Script.{Script}
use Rattle.service_hosts.specs.Homes.{may_host}
use Rattle.service_hosts.specs.Hosting.{HasHosted, HasHostedSoFar, HasKept, IsStopped as IsHalted, kept_so_far}
use Rattle.service_hosts.specs.declared.running.HostsStopped.{HostsStopped}
use Rattle.service_hosts.specs.declared.running.HostsStopped.TheVariants as hosts
use Rattle.service_moves.proofs.Doing.{steps_err, steps_none, steps_ok}
use Rattle.service_moves.specs.Stopping.{IsStopped}
use Rattle.service_moves.specs.Stores.{AreSame, AreStores, states_of}
use Rattle.service_moves.specs.declared.stopped.RunStopped.{RunStopped}
use Rattle.service_moves.specs.declared.stopped.RunStopped.TheVariants.{Memory}
use Rattle.service_plain.specs.Played.{IsStart}
use Rattle.service_plain.specs.declared.played.Played.{Played as WasPlayed}
use Rattle.service_stores.specs.Plans.{KeepsHistory}
use Rattle.service_stores.specs.Steps.{MayBeAsked}
use Rattle.store_laws.specs.MoveKeeping.{KeepAll}
use Rattle.store_laws.specs.Shape.{number_after}
use Rattle.store_laws.specs.TreeKeeping.{KeepsOf}
use Rattle.store_memory.specs.Views.{View}
use Rattle.store_state.specs.declared.state.StoreState.{StoreState}
use Rattle.tree_answers.specs.Histories.{after_history}
use Rattle.tree_answers.specs.declared.tree.Tree.{Tree}
use Rattle.tree_calls.specs.declared.entry.Entry.{Entry}
use Rattle.service_run.proofs.Lists.{mapped}
use Rattle.service_run.proofs.Same.{asked_in, failed_in, same_in, same_self, states_in}
use Rattle.service_run.specs.Courses.{no_tree, start_in}
use Rattle.service_run.specs.Engine.{HasPlayed}
use Rattle.service_run.specs.Steps.{HasRunFrom, HaveKept, HaveKeptSoFar, IsClosedFrom, IsRunFrom, IsStoppedSo}
use Rattle.service_run.specs.Steps.{IsRestStop, KeepsWhole, course_of}
use Rattle.service_run.specs.declared.disks.Stopped.{Stopped}
use Rattle.service_run.specs.declared.disks.Stopped.TheVariants.{Run}
use Rattle.service_run.specs.declared.outcome.Course.{Course}
use Rattle.service_run.specs.declared.outcome.Course.TheVariants.{Hosted, Played}

starts_at : (journal : Journal) (start : Tree) → journal.start ≡ start ∷ [] → start_in (Hosted journal) ≡ start
starts_at journal start e = ap (λ (l : List Tree). unwrap_or (slice_get l 0) no_tree) e

module _ {S : Type 0} (view : S → View) where
  -- a history that was kept, whatever was answered
  keeps_ok : {T U E F : Type 0} (value : T) (answer : U) (start : Tree) (history : List Entry) (old new : List S)
      → KeepsHistory {E = E} view (Ok value) start history old new → KeepsHistory {E = F} view (Ok answer) start
      history old new
  keeps_ok value answer start history old new k = record {
    count = k.count;
    within = k.within;
    all = k.all;
    steps = k.steps;
    are = k.are;
    does = steps_ok view value answer k.steps old new k.does;
  }

  keeps_err : {T U E F : Type 0} (result : Result T E) (why : F) (start : Tree) (history : List Entry)
      (old new : List S) → KeepsHistory view result start history old new → KeepsHistory {T = U} view (Err why) start
      history old new
  keeps_err result why start history old new k = record {
    count = k.count;
    within = k.within;
    all = tt;
    steps = k.steps;
    are = k.are;
    does = steps_err view result why k.steps old new k.does;
  }

  -- there was no memory to watch stores, and nothing has happened
  pub nothing_so_far : (script : Script) (start : Tree) (worn : ℕ) (stores : List S) → IsStart script.roster start
      → may_host script start ≡ true → length stores ≡ length script.roster.capacity
      → AreStores view script.roster worn 1 stores → KeepAll (λ host. 1) start (states_of view stores)
      → HaveKeptSoFar view script start (map (λ (state : StoreState). state.epoch) (states_of view stores))
      (Err (Run Memory)) stores
  nothing_so_far script start worn stores s may count are kept =
      let epochs = map (λ (state : StoreState). state.epoch) (states_of view stores) in
      let long = length-map (states_of view stores) (λ (state : StoreState). state.epoch)
      ∙ length-map stores (λ (store : S). (view store).state) ∙ count in record {
        journal = nothing start epochs;
        starts = refl;
        epochs_are = refl;
        planned = nothing_planned script start s may epochs long;
        run = nothing_runs script start s may epochs long;
        dutiful = nothing_due script start s may epochs long;
        kept = nothing_keep view script start s may epochs long worn 1 stores are kept;
        rested = λ rest. absurd rest;
      }

  module _ (tells : Type 0) (hosted : List S → Type 0) (script : Script) (start : Tree) where
    -- there was no memory to run it on the tree
    pub run_idle : (worn : ℕ) (stores : List S) → AreStores view script.roster worn 1 stores → IsRunFrom tells view
        hosted script start (Err (Run Memory)) stores stores
    run_idle worn stores are = record {
      same = same_self view script.roster worn 1 stores are;
      ran = tt;
      stopped = tt;
      goes = λ told. inr (inl (tt, steps_none view (Err (Run Memory)) stores));
    }

    -- or to watch them
    pub run_unwatched : (worn : ℕ) (stores : List S) → AreStores view script.roster worn 1 stores
        → (tells → hosted stores) → IsRunFrom tells view hosted script start (Err (Run Memory)) stores stores
    run_unwatched worn stores are so = record {
      same = same_self view script.roster worn 1 stores are;
      ran = tt;
      stopped = tt;
      goes = λ told. inl (so told);
    }

    -- it ran on the tree, and stores kept its history
    pub run_kept : (olds news : List S) (run : WasPlayed) → may_host script start ≡ false → HasPlayed script start
        run → AreSame view olds news → (tells → KeepAll (λ host. 1) start (states_of view olds))
        → (tells → KeepAll (λ host. 1) run.start (states_of view olds) → KeepAll
        (λ host. number_after host 1 run.history) (after_history run.start run.history) (states_of view news))
        → MayBeAsked view news → (tells → KeepAll (λ host. 1) run.start (states_of view olds) → KeepsHistory
        {T = Unit {0}} {E = RunStopped} view (Ok tt) run.start run.history olds news)
        → IsRunFrom tells view hosted script start (Ok (Played run)) olds news
    run_kept olds news run moves has same held keeps ready does = record {
      same = same;
      ran = record {
        went = (has.played, subst (λ (t : Tree). may_host script t ≡ false) (sym has.start) moves);
        start_is = has.start;
        epochs = λ told. tt;
        kept = λ told k state at. (keeps told (from told)).keeps k state at;
        ready = ready;
      };
      stopped = tt;
      goes = λ told. inr (inr (record {
        played = run;
        starts = has.start;
        goes = has.played;
        keeps = keeps_ok tt (Played run) run.start run.history olds news (does told (from told));
        ran = refl;
      }));
    }
      where
        from : tells → KeepAll (λ host. 1) run.start (states_of view olds)
        from told = subst (λ (t : Tree). KeepAll (λ host. 1) t (states_of view olds)) (sym has.start) (held told)

    -- or the first part of it
    pub run_unkept : (olds news : List S) (run : WasPlayed) (why : RunStopped) → HasPlayed script start run → AreSame
        view olds news → (tells → KeepAll (λ host. 1) start (states_of view olds))
        → IsStopped tells view [] olds news why → (tells → KeepAll (λ host. 1) run.start (states_of view olds)
        → KeepsHistory {T = Unit {0}} view (Err why) run.start run.history olds news)
        → IsRunFrom tells view hosted script start (Err (Run why)) olds news
    run_unkept olds news run why has same held is does = record {
      same = same;
      ran = tt;
      stopped = is;
      goes = λ told. inr (inr (record {
        played = run;
        starts = has.start;
        goes = has.played;
        keeps = keeps_err (Err why) (Run why) run.start run.history olds news
            (does told (subst (λ (t : Tree). KeepAll (λ host. 1) t (states_of view olds)) (sym has.start) (held told)));
        ran = tt;
      }));
    }

    -- where more may hold of the stores
    pub run_wider : (more : List S → Type 0) (olds news : List S) (result : Result Course Stopped)
        → ((stores : List S) → hosted stores → more stores) → IsRunFrom tells view hosted script start result olds news
        → IsRunFrom tells view more script start result olds news
    run_wider more olds news result so run = record {
      same = run.same;
      ran = run.ran;
      stopped = run.stopped;
      goes = λ told. ⊎_elim (λ (h : hosted news). inl (so news h))
          (λ (kept : HaveKept view script start result olds news). inr kept) (run.goes told);
    }

    -- and the stores are closed
    pub run_closed : {D : Type 0} (disks_in : List S → List D) (olds news : List S) (result : Result Course Stopped)
        (empty disks : List D) → IsRunFrom tells view hosted script start result olds news → disks ≡ disks_in news ++
        empty → IsClosedFrom tells view hosted disks_in script start result olds empty disks
    run_closed disks_in olds news result empty disks ran closed = record { left = news; closed = closed; over = ran }

-- hosts and servers ran it, over stores in what holds them
module _ {S T : Type 0} (f : S → T) (view : T → View) where
  both_mapped : (stores : List S) → map (λ store. (view (f store)).state.epoch) stores ≡ map
      (λ (state : StoreState). state.epoch) (states_of view (map f stores))
  both_mapped [] = refl
  both_mapped (x ∷ stores) = ap (λ (l : List ℕ). (view (f x)).state.epoch ∷ l) (both_mapped stores)

  -- what stores keep of what happened so far
  module _ (tells : Type 0) (script : Script) (start : Tree) (olds news : List S) where
    rested_in : (result : Result Journal HostsStopped) (journal : Journal)
        → HasHostedSoFar tells (λ s. view (f s)) script start olds news result journal → tells
        → IsRestStop (course_of result) → (k : ℕ) (store : T) → slice_get (map f news) k ≡ Some store
        → KeepsWhole (kept_so_far start journal (record { 0 = k + 1 })) (view store)
    rested_in (Ok done) journal h told rest k store is = absurd rest
    rested_in (Err (hosts.Failed server)) journal h told rest k store is = absurd rest
    rested_in (Err hosts.Memory) journal h told rest k store is = absurd rest
    rested_in (Err (hosts.Stuck waiting)) journal h told rest k store is =
        let m = mapped f news k store is in
        let all = h.rested waiting refl in
        subst (λ (t : T). KeepsWhole (kept_so_far start journal (record { 0 = k + 1 })) (view t)) m.is
        (record { ready = all.ready k m.from m.was; keeps = all.keeps told k m.from m.was })

    pub so_far_in : (result : Result Journal HostsStopped)
        → ((journal : Journal) × HasHostedSoFar tells (λ s. view (f s)) script start olds news result journal) → tells
        → HaveKeptSoFar view script start (map (λ (state : StoreState). state.epoch) (states_of view (map f olds)))
        (course_of result) (map f news)
    so_far_in result held told =
        let journal = held.0 in
        let h = held.1 in record {
          journal = journal;
          starts = h.starts;
          epochs_are = h.epochs told ∙ both_mapped olds;
          planned = h.planned;
          run = h.run told;
          dutiful = h.dutiful told;
          kept = λ k store is.
              (let m = mapped f news k store is in
              subst (λ (t : T). HasKept script start journal (record { 0 = k + 1 }) (view t)) m.is
              (h.kept told k m.from m.was));
          rested = rested_in result journal h told;
        }

  module _ (tells : Type 0) (hosted : List T → Type 0) (script : Script) (start : Tree) where
    pub run_hosted : (olds news : List S) (result : Result Journal HostsStopped) → IsSound script → may_host script
        start ≡ true → AreSame (λ s. view (f s)) olds news
        → IfOk result (HasHosted tells (λ s. view (f s)) script start olds news) → IfErr result
        (IsHalted tells (λ s. view (f s)) script start olds news) → (tells → hosted (map f news))
        → IsRunFrom tells view hosted script start (course_of result) (map f olds) (map f news)
    run_hosted olds news result sound may same has stopped so = record {
      same = same_in f view olds news same;
      ran = ran result has;
      stopped = halted result stopped;
      goes = λ told. inl (so told);
    }
      where
        ran : (result : Result Journal HostsStopped)
            → IfOk result (HasHosted tells (λ s. view (f s)) script start olds news)
            → IfOk (course_of result) (HasRunFrom tells view script start (map f olds) (map f news))
        ran (Ok journal) has =
            (let begin = starts_at journal start has.starts in
            record {
              went = (
                record {
                  start = start;
                  starts = has.starts;
                  planned = has.planned;
                  run = has.run;
                  promises = λ told.
                      promises_are_kept script journal start sound (has.run told) has.starts;
                },
                subst (λ (t : Tree). may_host script t ≡ true) (sym begin) may,
              );
              start_is = begin;
              epochs = λ told. has.epochs told ∙ both_mapped olds;
              kept = λ told k state at.
                  (let m = mapped (λ (s : S). (view (f s)).state) news k state
                  (ap (λ (l : List StoreState). slice_get l k) (sym (states_in f view news)) ∙ at) in
                  subst (λ (t : Tree). KeepsOf (after_history t (history_of journal.steps)) state) (sym begin)
                  (subst (λ (s : StoreState). KeepsOf (last_tree start journal) s) m.is
                  (has.kept.keeps told k m.from m.was)));
              ready = asked_in f view news (record { each = has.kept.ready });
            })
        ran (Err (hosts.Failed server)) has = tt
        ran (Err (hosts.Stuck waiting)) has = tt
        ran (Err hosts.Memory) has = tt

        halted : (result : Result Journal HostsStopped)
            → IfErr result (IsHalted tells (λ s. view (f s)) script start olds news)
            → IfErr (course_of result) (IsStoppedSo tells view script [] (map f olds) (map f news))
        halted (Ok journal) is = tt
        halted (Err (hosts.Failed server)) is = failed_in f view olds news server.0 is
        halted (Err (hosts.Stuck waiting)) is = is.node
        halted (Err hosts.Memory) is = tt
