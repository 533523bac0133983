-- In every run the history is legal, and its tree is that of the run.
use Rattle.std.proofs.Common.{List, ap, refl, subst, sym, ℕ, ◌++◌, ◌∙◌, ◌∷◌, ◌≡◌}
use Rattle.std.specs.Prelude.{[]}
use Rattle.base_types.specs.declared.ids.FilesetId.{FilesetId}
use Rattle.base_types.specs.declared.ids.HostId.{HostId}
use Rattle.base_types.specs.declared.ids.Node.{Node}
use Rattle.base_types.specs.declared.ids.Node.TheVariants.{Host, Server}
use Rattle.base_types.specs.declared.ids.ServerId.{ServerId}
use Rattle.need_host.specs.Looks.{tree_view}
use Rattle.tree_answers.specs.Histories.{IsHistory}
use Rattle.tree_answers.specs.WellFormed.{IsWellFormed}
use Rattle.tree_answers.specs.declared.tree.Tree.{Tree}
use Rattle.need_server.specs.Kept.{kept_tree}
use Rattle.script_lines.specs.declared.script.Script.{Script}
use Rattle.need_laws.specs.Known.{SameAt}
use Rattle.run_rules.specs.Doings.{after_cause, doings_of}
use Rattle.run_rules.specs.Kept.{filesets_kept, filesets_through}
use Rattle.run_rules.specs.Past.{Always, appended}
use Rattle.run_rules.specs.Runs.{IsRun, entries_of, firsts_of, history_of, past_of}
use Rattle.run_tokens.specs.Pasts.{IsLegalPast, history, tree_at}
use Rattle.run_rules.specs.ServerDecides.{by_cause}
use Rattle.run_rules.specs.Steps.{steps_of_host, steps_of_server}
use Rattle.run_tokens.specs.CacheLaws.{CachedAt, CachedExactly}
use Rattle.run_history.proofs.Answered.{answers_from_cache_exactly, cached_at}
use Rattle.run_history.proofs.ChangeLaw.{servers_decide}
use Rattle.run_history.proofs.Instance.{contents_of, is_of_run}
use Rattle.run_history.specs.Agreement.{CellsAgree, LeadsTo}
use Rattle.run_history.specs.Changes.{DecidesLegally}
use Rattle.run_tokens.specs.CacheLaws.{CachedOn}
use Rattle.run_rules.specs.declared.journal.Journal.{Journal}
use Rattle.run_history.proofs.PastDeciding.{all_legal}
use Rattle.run_history.proofs.PassLaw.{always_both, always_map, hosts_pass, servers_pass, starts_stand}
use Rattle.run_history.proofs.Stands.{after_both, both_histories, none_more}
use Rattle.run_history.specs.Passing.{ChangesAreLegal, HostPasses, ServerPasses}
use Rattle.run_history.specs.Past.{CachesAreExact, HistoriesMakeTheTree, IsOfPast, IsThroughout, JournalsAreLegal}
use Rattle.run_history.specs.Past.{RunsAreLegal, ServersKeepTheTree}
use Rattle.run_history.specs.PastStanding.{PassesOn, Stands}
use Rattle.run_parts.specs.Contents.{Contents}
use Rattle.run_contents.specs.Instance.{IsOfRun}
use Rattle.run_rules.specs.declared.step.Step.{Step}
use Rattle.run_history.proofs.UseHostLaw.{labels_begin}
use Rattle.run_history.proofs.Meaning.{changes_are_meant}
use Rattle.run_history.proofs.Naming.{names_go_on, names_start}
use Rattle.run_history.proofs.UseLaw.{labels_found, uses_decide}
use Rattle.run_history.specs.Deciding.{DecidesUses, FindsLabels}
use Rattle.run_history.specs.Meant.{DecidesMeant}
use Rattle.run_history.specs.Names.{NamesStand}
use Rattle.run_history.specs.UseStanding.{LabelsStand}

module _ (script : Script) (journal : Journal) (run : IsRun script journal) (c : Contents)
    (of_run : IsOfRun run.start (firsts_of journal) c) where
  abbrev start : Tree
  start = run.start

  abbrev firsts : ServerId → ℕ
  firsts = firsts_of journal

  -- each Change is legal
  abbrev Decided : List Step → Step → Type 0
  Decided past s =
      (DecidesLegally start firsts past s × DecidesMeant start firsts past s)
      × (DecidesUses start firsts past s × FindsLabels script firsts past s)

  abbrev EachLegal : List Step → Step → Type 0
  EachLegal past s = (v : ServerId) → s.node ≡ Server v → ChangesAreLegal start firsts past s v

  each_legal : (past : List Step) (s : Step) → Decided past s → EachLegal past s
  each_legal past s k v node =
      all_legal v s (filesets_through s.cause (by_cause s.applied) (filesets_kept start v (steps_of_server v past)))
      (after_cause s.cause (doings_of (firsts v) v past)) (LabelsStand firsts (s ∷ past))
      (λ t labels x i. k.1.1 v t node labels x i) (k.0.0 v node) (k.0.1 v node) (k.1.0 v node)

  -- names go on
  abbrev NamesGoOnAt : List Step → Step → Type 0
  NamesGoOnAt past s =
      (old new : Tree) → NamesStand firsts past old → ((server : ServerId) (name : List ℕ) (id : FilesetId)
      → LeadsTo old server name id → LeadsTo new server name id)
      → ((v : ServerId) → SameAt v (filesets_kept start v (steps_of_server v (s ∷ past))) (kept_tree new))
      → NamesStand firsts (s ∷ past) new

  -- what is known of a step
  abbrev Known : List Step → Step → Type 0
  Known past s =
      (HostPasses script start firsts c past s × ServerPasses script start firsts c past s)
      × (EachLegal past s × NamesGoOnAt past s)

  known : Always Known (past_of journal)
  known =
      let xs = past_of journal in
      always_both _ _ xs
      (always_both _ _ xs (hosts_pass script journal run c of_run) (servers_pass script journal run c of_run))
      (always_both _ _ xs
      (always_map Decided EachLegal each_legal xs
      (always_both _ _ xs
      (always_both _ _ xs (servers_decide script journal run) (changes_are_meant script journal run))
      (always_both _ _ xs (uses_decide script journal run) (labels_found script journal run))))
      (names_go_on script journal run))

  -- the tree of a history
  record Whole (past : List Step) (t : Tree) : Type 0 where
    stands : Stands script start c past t
    labels : LabelsStand firsts past t
    names : NamesStand firsts past t

  passes : (past : List Step) (s : Step) → Known past s → (t : Tree) → Whole past t
      → PassesOn script start firsts c past s t
  passes past s k t w = go s.node refl
    where
      go : (n : Node) → s.node ≡ n → PassesOn script start firsts c past s t
      go (Host h) node = k.0.0 h t node w.stands w.labels w.names
      go (Server v) node = k.0.1 v t node w.stands w.labels (k.1.0 v node)

  each_whole : (past : List Step) → Always Known past → IsLegalPast start past × Whole past (tree_at start past)
  each_whole [] all = (
    tt,
    record {
      stands = starts_stand script journal run c of_run;
      labels = labels_begin script journal run;
      names = names_start firsts start;
    },
  )
  each_whole (s ∷ past) all =
      let old = each_whole past all.0 in
      let k = passes past s all.1 (tree_at start past) old.1 in (
        both_histories start (history past) (entries_of s) old.0 k.legal,
        subst (Whole (s ∷ past)) (sym (after_both start (history past) (entries_of s)))
            (record {
              stands = k.stands;
              labels = k.labels;
              names = all.1.1.1 (tree_at start past) _ old.1.names k.leads (λ v. (k.stands.keeps v).same);
            }),
      )

  -- each tree so far
  of_past : (past : List Step) → Always Known past → IsOfPast start firsts c past (tree_at start past)
  of_past past all =
      let w = (each_whole past all).1 in
      record {
        formed = w.stands.formed;
        cells = w.stands.cells;
        kept = w.stands.keeps;
        labels = w.labels;
      }

  throughout : (past : List Step) → Always Known past → IsThroughout start firsts c past
  throughout [] all = of_past [] all
  throughout (s ∷ past) all = (throughout past all.0, of_past (s ∷ past) all)

  before_each : (past : List Step) → Always Known past
      → Always (λ before s. IsOfPast start firsts c before (tree_at start before)) past
  before_each [] all = tt
  before_each (s ∷ past) all = (before_each past all.0, of_past past all.0)

  -- calls that are answered from cache
  abbrev Cached : List Step → Step → Type 0
  Cached before s =
      ((host : HostId) (tree_is : Tree) → s.node ≡ Host host → IsWellFormed tree_is → CellsAgree c before tree_is
      → CachedOn script.roster host (steps_of_host host before) s (tree_view tree_is))
      × IsOfPast start firsts c before (tree_at start before)

  exact_at : (before : List Step) (s : Step) → Cached before s → (host : HostId) → s.node ≡ Host host
      → CachedAt start host before s
  exact_at before s k host node =
      cached_at start script host before s run.roster (k.0 host (tree_at start before) node k.1.formed k.1.cells)

  exactly : CachedExactly start (past_of journal)
  exactly =
      let xs = past_of journal in
      always_map Cached (λ before s. (host : HostId) → s.node ≡ Host host → CachedAt start host before s) exact_at xs
      (always_both _ _ xs (answers_from_cache_exactly script journal run c of_run) (before_each xs known))

pub runs_are_legal : RunsAreLegal
runs_are_legal script journal run =
    let c = contents_of run.start (firsts_of journal) in
    let of_run = is_of_run run.start (firsts_of journal) in
    (each_whole script journal run c of_run (past_of journal) (known script journal run c of_run)).0

-- the journal has the steps in their order
join_three : {X : Type 0} (a b d : List X) → (a ++ b) ++ d ≡ a ++ (b ++ d)
join_three [] b d = refl
join_three (x ∷ a) b d = ap (λ zs. x ∷ zs) (join_three a b d)

pub same_history : (steps past : List Step) → history (appended steps past) ≡ history past ++ history_of steps
same_history [] past = sym (none_more (history past))
same_history (s ∷ more) past =
    same_history more (s ∷ past) ∙ join_three (history past) (entries_of s) (history_of more)

pub journals_are_legal : JournalsAreLegal
journals_are_legal script journal run =
    subst (IsHistory run.start) (same_history journal.steps []) (runs_are_legal script journal run)

pub histories_make_the_tree : HistoriesMakeTheTree
histories_make_the_tree script journal run c of_run =
    throughout script journal run c of_run (past_of journal) (known script journal run c of_run)

-- at the end it is well formed
pub runs_are_well_formed : (script : Script) (journal : Journal) (run : IsRun script journal)
    → IsWellFormed (tree_at run.start (past_of journal))
runs_are_well_formed script journal run =
    let c = contents_of run.start (firsts_of journal) in
    let of_run = is_of_run run.start (firsts_of journal) in
    (of_past script journal run c of_run (past_of journal) (known script journal run c of_run)).formed

pub servers_keep_the_tree : ServersKeepTheTree
servers_keep_the_tree script journal run =
    let c = contents_of run.start (firsts_of journal) in
    let of_run = is_of_run run.start (firsts_of journal) in
    (of_past script journal run c of_run (past_of journal) (known script journal run c of_run)).kept

pub caches_are_exact : CachesAreExact
caches_are_exact script journal run =
    exactly script journal run (contents_of run.start (firsts_of journal)) (is_of_run run.start (firsts_of journal))
