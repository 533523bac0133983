-- Another run may start from what an ended run leaves.
use Rattle.std.proofs.Common.{List, None, ap, refl, ℕ, ◌∙◌, ◌∷◌, ◌≡◌}
use Rattle.std.specs.Prelude.{[]}
use Rattle.base_types.specs.declared.ids.Fid.{Fid}
use Rattle.base_types.specs.declared.ids.ServerId.{ServerId}
use Rattle.tree_calls.specs.declared.entry.Entry.{Entry}
use Rattle.tree_saving.proofs.Apart.{roster_stays}
use Rattle.tree_answers.specs.Histories.{after_entry, after_history}
use Rattle.tree_answers.specs.declared.tree.Tree.{Tree}
use Rattle.need_laws.specs.Known.{SameAt}
use Rattle.need_server.specs.Kept.{kept_tree}
use Rattle.script_lines.specs.declared.script.Script.{Script}
use Rattle.tree_laws.specs.Parts.{Cell, Part, Seen, cell_at}
use Rattle.run_rules.specs.Kept.{filesets_kept}
use Rattle.run_rules.specs.Runs.{IsEnded, IsRun, IsValid, firsts_of, past_of}
use Rattle.run_tokens.specs.Pasts.{history, tree_at}
use Rattle.run_rules.specs.Steps.{steps_of_server}
use Rattle.run_history.proofs.Ended.{nothing_unsaved}
use Rattle.run_history.proofs.Instance.{contents_of, is_of_run}
use Rattle.run_history.specs.Changes.{is_home}
use Rattle.run_rules.specs.declared.journal.Journal.{Journal}
use Rattle.run_history.proofs.Kept.{Unmoved, kept_unmoved, tree_unmoved, unmoved_tree}
use Rattle.run_history.proofs.Law.{histories_make_the_tree}
use Rattle.run_history.proofs.PastLists.{all_both, all_parts}
use Rattle.run_history.proofs.Moves.{never_moved}
use Rattle.run_history.proofs.Resting.{all_rest}
use Rattle.run_history.proofs.Unused.{no_locks, no_opens}
use Rattle.run_history.specs.PastEnded.{EndedRunsMayBeFollowed}
use Rattle.run_history.specs.Past.{IsOfPast, IsThroughout}
use Rattle.run_parts.specs.Contents.{Contents}
use Rattle.run_contents.specs.Instance.{IsOfRun}
use Rattle.run_rules.specs.declared.step.Step.{Step}
use Rattle.run_history.proofs.Meaning.{changes_are_meant, none_away}

last_of : (start : Tree) (firsts : ServerId → ℕ) (c : Contents) (past : List Step) → IsThroughout start firsts c past
    → IsOfPast start firsts c past (tree_at start past)
last_of start firsts c [] all = all
last_of start firsts c (s ∷ past) all = all.1

same_roster : (tree : Tree) (entries : List Entry) → (after_history tree entries).roster ≡ tree.roster
same_roster tree [] = refl
same_roster tree (entry ∷ entries) = same_roster (after_entry tree entry) entries ∙ roster_stays tree entry

module _ (script : Script) (journal : Journal) (run : IsRun script journal) (ended : IsEnded script journal) where
  abbrev firsts : ServerId → ℕ
  firsts = firsts_of journal

  abbrev past : List Step
  past = past_of journal

  abbrev left : Tree
  left = tree_at run.start past

  abbrev c : Contents
  c = contents_of run.start firsts

  of_run : IsOfRun run.start firsts c
  of_run = is_of_run run.start firsts

  last : IsOfPast run.start firsts c past left
  last = last_of run.start firsts c past (histories_make_the_tree script journal run c of_run)

  none_moved : (v : ServerId) → (filesets_kept run.start v (steps_of_server v past)).away ≡ []
  none_moved = none_away script run.start firsts run.valid.unmoved past run.steps

  kept_same : (v : ServerId) → SameAt v (filesets_kept run.start v (steps_of_server v past)) (kept_tree left)
  kept_same v = (last.kept v).same

  unmoved : Unmoved left
  unmoved =
      tree_unmoved (λ v. filesets_kept run.start v (steps_of_server v past)) left kept_same none_moved
      (kept_unmoved run.start firsts (all_parts is_home never_moved run.start.filesets run.valid.at_home) past
      (changes_are_meant script journal run))

  none_unsaved : (f : Fid) (p : Part) → (cell_at left f p).unsaved ≡ None
  none_unsaved f p =
      ap (λ (cell : Cell (Seen p)). cell.unsaved) (last.cells f p)
      ∙ nothing_unsaved script journal run c of_run ended f p

  valid : IsValid left
  valid = record {
    well_formed = last.formed;
    at_rest = all_rest left last.formed.ordered none_unsaved;
    locks = no_locks script journal run ended left last.labels;
    opens = no_opens script journal run ended left last.labels;
    unmoved = unmoved_tree (λ v. filesets_kept run.start v (steps_of_server v past)) left kept_same none_moved;
    at_home = all_both is_home never_moved left.filesets unmoved.0 unmoved.1;
  }

pub ended_runs_may_be_followed : EndedRunsMayBeFollowed
ended_runs_may_be_followed script journal run ended =
    (valid script journal run ended, same_roster run.start (history (past_of journal)) ∙ run.roster)
