-- What follows from the laws of runs.
use Rattle.std.proofs.Common.{List, [], ap, subst, sym, ◌∙◌, ◌∷◌, ◌≡◌}
use Rattle.tree_answers.specs.Histories.{IsHistory, after_history}
use Rattle.tree_answers.specs.declared.tree.Tree.{Tree}
use Rattle.script_lines.specs.declared.script.Script.{Script}
use Rattle.run_rules.specs.Past.{Always}
use Rattle.run_rules.specs.Runs.{FlagsMet, IsRun, IsValid, past_of}
use Rattle.run_rules.specs.declared.journal.Journal.{Journal}
use Rattle.run_tokens.specs.Pasts.{tree_at}
use Rattle.run_tokens.specs.CacheLaws.{CachedExactly}
use Rattle.run_tokens.proofs.TokenRun.{apart}
use Rattle.run_history.proofs.Law.{caches_are_exact, journals_are_legal, same_history}
use Rattle.run_history.proofs.EndedLaw.{ended_runs_may_be_followed}
use Rattle.run_answered.proofs.Ended.{calls_are_answered}
use Rattle.run_answered.proofs.Printed.{each_line_is_told, runs_tell_replies}
use Rattle.run_leaving.proofs.Leaving.{tokens_leave_so}
use Rattle.run_dump.proofs.Shown.{runs_are_shown}
use Rattle.run_dump.specs.Shown.{IsDumped}
use Rattle.run_rules.specs.Runs.{history_of}
use Rattle.run_promises.specs.Promises.{PromisesAreKept, last_tree}

always_so : {A : Type 0} (P Q : List A → A → Type 0) → ((before : List A) (x : A) → P before x → Q before x)
    → (past : List A) → Always P past → Always Q past
always_so P Q f [] h = tt
always_so P Q f (x ∷ past) h = (always_so P Q f past h.0, f past x h.1)

-- the tree of the steps is that of the journal's history
pub tree_is : (start : Tree) (journal : Journal) → tree_at start (past_of journal) ≡ last_tree start journal
tree_is start journal = ap (after_history start) (same_history journal.steps [])

-- a journal has one start tree
pub one_start : (a b : Tree) (all : List Tree) → all ≡ a ∷ [] → all ≡ b ∷ [] → a ≡ b
one_start a b all p q = (let e : a ∷ [] ≡ b ∷ [] = sym p ∙ q in cc)

pub promises_are_kept : PromisesAreKept
promises_are_kept script journal start sound has starts =
    let run = has.run in
    let same : run.start ≡ start = one_start run.start start journal.start run.starts starts in record {
      legal = subst (λ t. IsHistory t (history_of journal.steps)) same (journals_are_legal script journal run);
      answered = calls_are_answered script journal run has.ended;
      told = runs_tell_replies script journal run has.ended;
      lines = each_line_is_told script journal sound run has.ended;
      met = always_so _ (FlagsMet script) (λ before s m. m.1) (past_of journal) run.steps;
      cached = subst (λ t. CachedExactly t (past_of journal)) same (caches_are_exact script journal run);
      caused = tokens_leave_so script journal run;
      apart = apart script journal run;
      shown = subst (λ t. IsDumped script t (history_of journal.steps)) same (runs_are_shown script journal run);
      left = subst (λ t. IsValid (last_tree t journal)) same
          (subst IsValid (tree_is run.start journal) (ended_runs_may_be_followed script journal run has.ended).0);
    }
