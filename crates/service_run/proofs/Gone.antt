-- The steps of a run.
use Rattle.std.proofs.Common.{◌≡◌, ◌++◌, ◌∙◌, ◌+◌, ℕ, List, [], length, map, take, inl, inr, ⊎_elim, refl, sym, subst}
use Rattle.std.proofs.Common.{ap}
use Rattle.std.specs.Prelude.{◌-◌, slice_get, Option, Some, Result, Ok, Err, IfOk, OnOk}
use Rattle.std.proofs.lemmas.List.{append-nil}
use Rattle.std.proofs.Math.Seq.{take-length}
use Rattle.tree_calls.specs.declared.entry.Entry.{Entry}
use Rattle.tree_answers.specs.declared.tree.Tree.{Tree}
use Rattle.store_acts.specs.Acts.{state_after}
use Rattle.store_memory.specs.Views.{View, IsFirstOf, Leaves}
use Rattle.base_types.specs.declared.limits.TheConstants.{BATCH_ACTS_MAX}
use Rattle.store_state.specs.declared.state.StoreState.{StoreState}
use Rattle.service_starts.specs.declared.told.Told.{Told}
use Rattle.script_lines.specs.declared.script.Script.{Script}
use Rattle.service_moves.specs.Doing.{Step, DoSteps, acts_at}
use Rattle.service_moves.specs.Plans.{behind, states_at}
use Rattle.service_moves.specs.Stores.{states_of}
use Rattle.service_moves.proofs.Doing.{steps_err, steps_none, steps_ok, steps_then}
use Rattle.service_moves.proofs.Stores.{map_length}
use Rattle.service_moves.proofs.Whole.{AreIn, behind_in, done_behind, in_so, moves_behind, moves_in, moves_none}
use Rattle.service_stores.specs.Plans.{AreBeginning, AreOfHistory, IsBeginning, IsOfHistory}
use Rattle.service_stores.specs.Starting.{told_by, start_from}
use Rattle.service_stores.proofs.Doing.{steps_failed}
use Rattle.service_run.proofs.Lists.{get_map, mapped}
use Rattle.service_run.specs.Disks.{ArePlanned, IsKeptHistory}
use Rattle.service_run.specs.Steps.{HaveGone, IsKeptBy, KeepsPlayed}
use Rattle.service_run.specs.declared.disks.Stopped.{Stopped}
use Rattle.service_run.specs.declared.outcome.Course.{Course}
use Rattle.service_run.specs.declared.outcome.Course.TheVariants.{Empty, Hosted, Played}

-- where more is kept
pub history_in : (few more : ℕ → Option StoreState) (start : Tree) (history : List Entry) (steps : List Step) → AreIn
    few more → AreOfHistory start history few steps → AreOfHistory start history more steps
history_in few more start history steps are so = record {
  asked = so.asked;
  moves = moves_in (IsOfHistory history)
      few more steps are so.moves;
}

abbrev pub planned_in : (script : Script) (all : List Told) (few more : ℕ → Option StoreState) (steps : List Step)
    → AreIn few more → ArePlanned script all few steps → ArePlanned script all more steps
planned_in script all few more steps are p = record {
  begins = p.begins;
  keeps = p.keeps;
  are = p.are;
  beginning = moves_in IsBeginning few more p.begins are p.beginning;
  keeping =
      ⊎_elim (λ none. inl none)
      (λ (kept : IsKeptHistory script all (behind few p.begins) p.keeps).
      inr (record {
        played = kept.played;
        start = kept.start;
        goes = kept.goes;
        count = kept.count;
        keeps = history_in (behind few p.begins) (behind more p.begins) kept.played.start
            (take kept.count kept.played.history) p.keeps (behind_in few more p.begins are) kept.keeps;
      })) p.keeping;
}

-- where the same is told
abbrev pub planned_told : (script : Script) (all other : List Told) (states : ℕ → Option StoreState)
    (steps : List Step) → all ≡ other → ArePlanned script all states steps → ArePlanned script other states steps
planned_told script all other states steps same p = record {
  begins = p.begins;
  keeps = p.keeps;
  are = p.are;
  beginning = p.beginning;
  keeping =
      ⊎_elim (λ none. inl none)
      (λ (kept : IsKeptHistory script all (behind states p.begins) p.keeps).
      inr (record {
        played = kept.played;
        start = kept.start ∙ ap (start_from script.roster) same;
        goes = kept.goes;
        count = kept.count;
        keeps = kept.keeps;
      })) p.keeping;
}

pub kept_in : (few more : ℕ → Option StoreState) (steps : List Step) (run : Course) → AreIn few more → IsKeptBy few
    steps run → IsKeptBy more steps run
kept_in few more steps Empty are so = tt
kept_in few more steps (Hosted journal) are so = tt
kept_in few more steps (Played run) are so = history_in few more run.start run.history steps are so

ran_in : (few more : ℕ → Option StoreState) (steps : List Step) (result : Result Course Stopped) → AreIn few more
    → IfOk result (IsKeptBy few steps) → IfOk result (IsKeptBy more steps)
ran_in few more steps (Ok run) are so = kept_in few more steps run are so
ran_in few more steps (Err why) are so = tt

pub never_so : {T E : Type 0} (P : T → Type 0) (result : Result T E) → OnOk result ⊥ → IfOk result P
never_so P (Ok value) failed = absurd failed
never_so P (Err error) failed = tt

module _ {S : Type 0} (view : S → View) (script : Script) (disks : ℕ) where
  -- a run that stopped while it began
  pub gone_begun : {T E : Type 0} (result : Result T E) (answer : Result Course Stopped) (old new : List S) → OnOk
      answer ⊥ → (steps : List Step) × AreBeginning (states_at view old) steps × DoSteps view result steps old new
      → HaveGone view script disks answer old new
  gone_begun result answer old new failed d = record {
    steps = d.0;
    planned = record { begins = d.0; keeps = []; are = sym (append-nil d.0); beginning = d.1; keeping = inl refl };
    does = steps_failed view result answer d.0 old new failed d.2;
    ran = never_so _ answer failed;
  }

  -- or before
  pub gone_none : (answer : Result Course Stopped) (stores : List S) → OnOk answer ⊥ → HaveGone view script disks
      answer stores stores
  gone_none answer stores failed = gone_begun answer answer stores stores failed
      ([], moves_none IsBeginning (states_at view stores), steps_none view answer stores)

  -- one that began, and then kept its history, or a first part of it
  module _ {T E : Type 0} (value : T) (old mid new : List S) (start : Tree)
      (start_is : start ≡ start_from script.roster (told_by view disks old))
      (began : (steps : List Step) × AreBeginning (states_at view old) steps × DoSteps {E = E} view (Ok value) steps
      old mid) where
    history_behind : (result : Result Course Stopped) (k : KeepsPlayed view script start result mid new)
        → AreOfHistory k.played.start (take k.keeps.count k.played.history) (behind (states_at view old) began.0)
        k.keeps.steps
    history_behind result k =
        history_in (states_at view mid) (behind (states_at view old) began.0) k.played.start
        (take k.keeps.count k.played.history) k.keeps.steps (done_behind view value began.0 old mid began.2) k.keeps.are

    kept_so : (result : Result Course Stopped) (k : KeepsPlayed view script start result mid new) → IfOk result
        (IsKeptBy (behind (states_at view old) began.0) k.keeps.steps)
    kept_so (Ok run) k =
        subst (IsKeptBy (behind (states_at view old) began.0) k.keeps.steps) (sym k.ran)
        (subst (λ (l : List Entry). AreOfHistory k.played.start l (behind (states_at view old) began.0)
        k.keeps.steps) (ap (λ n. take n k.played.history) k.keeps.all ∙ take-length k.played.history)
        (history_behind (Ok run) k))
    kept_so (Err why) k = tt

    pub gone_on : (result : Result Course Stopped) → KeepsPlayed view script start result mid new → HaveGone view
        script disks result old new
    gone_on result k = record {
      steps = began.0 ++ k.keeps.steps;
      planned = record {
        begins = began.0;
        keeps = k.keeps.steps;
        are = refl;
        beginning = began.1;
        keeping = inr (record {
          played = k.played;
          start = k.starts ∙ start_is;
          goes = k.goes;
          count = k.keeps.count;
          keeps = history_behind result k;
        });
      };
      does = steps_then view value result began.0 k.keeps.steps old mid new
          (steps_ok view value value began.0 old mid began.2) k.keeps.does;
      ran = kept_so result k;
    }

    -- or did no more
    pub gone_idle : (result : Result Course Stopped) → OnOk result ⊥ → DoSteps view result [] mid new → HaveGone view
        script disks result old new
    gone_idle result failed idle =
        gone_begun result result old new failed (
          began.0 ++ [],
          moves_behind IsBeginning view value began.0 [] old mid began.1 began.2
              (moves_none IsBeginning (states_at view mid)),
          steps_then view value result began.0 [] old mid new
              (steps_ok view value value began.0 old mid began.2) idle,
        )

-- stores in what holds them
module _ {S T : Type 0} (f : S → T) (view : T → View) where
  steps_in : {U E : Type 0} (result : Result U E) (steps : List Step) (olds news : List S) → DoSteps
      (λ s. view (f s)) result steps olds news → DoSteps view result steps (map f olds) (map f news)
  steps_in result steps olds news does = record {
    cut = does.cut;
    within = does.within;
    all = does.all;
    count = map_length f news ∙ does.count ∙ sym (map_length f olds);
    states = λ k before after was is.
        (let m = mapped f olds k before was in
        let n = mapped f news k after is in
        let made = does.states k m.from n.from m.was n.was in
        ap (λ (t : T). (view t).state) (sym n.is) ∙ made ∙ ap
        (λ (t : T). state_after (view t).state (acts_at k (take does.cut steps))) m.is);
    leaves = λ k before after was is.
        (let m = mapped f olds k before was in
        let n = mapped f news k after is in
        subst (λ (t : T). Leaves (IsFirstOf (view before).state (acts_at k (take (does.cut + BATCH_ACTS_MAX) steps)))
        (view before) (view t)) n.is
        (subst (λ (t : T). Leaves (IsFirstOf (view t).state (acts_at k (take (does.cut + BATCH_ACTS_MAX) steps)))
        (view t) (view (f n.from))) m.is (does.leaves k m.from n.from m.was n.was)));
  }

  pub gone_in : (script : Script) (disks : ℕ) (result : Result Course Stopped) (olds news : List S) → told_by view
      disks (map f olds) ≡ told_by (λ s. view (f s)) disks olds
      → states_of view (map f olds) ≡ states_of (λ s. view (f s)) olds → HaveGone (λ s. view (f s)) script disks
      result olds news → HaveGone view script disks result (map f olds) (map f news)
  gone_in script disks result olds news told states gone = record {
    steps = gone.steps;
    planned =
        planned_told script (told_by (λ s. view (f s)) disks olds) (told_by view disks (map f olds))
        (states_at view (map f olds)) gone.steps (sym told)
        (planned_in script (told_by (λ s. view (f s)) disks olds) (states_at (λ s. view (f s)) olds)
        (states_at view (map f olds)) gone.steps same gone.planned);
    does = steps_in result gone.steps olds news gone.does;
    ran =
        ran_in (behind (states_at (λ s. view (f s)) olds) gone.planned.begins)
        (behind (states_at view (map f olds)) gone.planned.begins) gone.planned.keeps result
        (behind_in (states_at (λ s. view (f s)) olds) (states_at view (map f olds)) gone.planned.begins same) gone.ran;
  }
    where
      same : AreIn (states_at (λ s. view (f s)) olds) (states_at view (map f olds))
      same = in_so (states_at (λ s. view (f s)) olds) (states_at view (map f olds))
          (λ place state e. ap (λ (l : List StoreState). slice_get l place) states ∙ e)
