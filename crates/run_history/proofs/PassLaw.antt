-- In every run each step passes a tree on that agrees with the run.
use Rattle.std.proofs.Common.{List, ap, refl, subst, sym, true, ℕ, ◌&&◌, ◌++◌, ◌==◌, ◌∙◌, ◌∷◌, ◌≡◌}
use Rattle.std.proofs.lemmas.Bool.{and_parts}
use Rattle.std.specs.List.{find, list_all}
use Rattle.std.specs.Prelude.{[], map}
use Rattle.base_types.specs.declared.ids.Fid.{Fid}
use Rattle.base_types.specs.declared.ids.FilesetId.{FilesetId}
use Rattle.base_types.specs.declared.ids.HostId.{HostId}
use Rattle.base_types.specs.declared.ids.Node.{Node}
use Rattle.base_types.specs.declared.ids.Node.TheVariants.{Host, Server}
use Rattle.base_types.specs.declared.ids.ServerId.{ServerId}
use Rattle.tree_calls.specs.declared.entry.Entry.{Entry}
use Rattle.tree_filesets.specs.declared.fileset.Fileset.{Fileset}
use Rattle.tree_answers.specs.Finding.{has_id}
use Rattle.tree_answers.specs.Histories.{IsHistory, IsLegal, after_entry, after_history}
use Rattle.tree_answers.specs.declared.tree.Tree.{Tree}
use Rattle.need_server.proofs.Settled.{kept_is_settled}
use Rattle.script_lines.specs.declared.script.Script.{Script}
use Rattle.tree_laws.specs.Parts.{Part, cell_at, cell_in, settled}
use Rattle.run_rules.specs.Kept.{filesets_kept}
use Rattle.run_rules.specs.Messages.{home}
use Rattle.run_rules.specs.Past.{Always, In}
use Rattle.run_rules.specs.Runs.{IsRun, StepMeets, StepsMeet, applied_entries, call_entry, entries_of, firsts_of}
use Rattle.run_rules.specs.Runs.{past_of}
use Rattle.run_rules.specs.Steps.{steps_of_host, steps_of_server}
use Rattle.run_rules.specs.Views.{Entered}
use Rattle.run_tokens.specs.TokenLaws.{IsTokenRun}
use Rattle.run_history.proofs.HostLaw.{hosts_answer}
use Rattle.run_history.proofs.ServerLaw.{downs_forget, store_legally}
use Rattle.run_history.specs.Agreement.{AgreesAt, AnswersLegally, DownsForget, LeadsTo, StoresLegally}
use Rattle.run_history.specs.Changes.{is_home}
use Rattle.run_rules.specs.declared.journal.Journal.{Journal}
use Rattle.run_history.proofs.PastAnswering.{leaves_answers}
use Rattle.run_history.proofs.Fitting.{all_fit}
use Rattle.run_history.proofs.Keeping.{rest_all, starts_as}
use Rattle.run_history.proofs.Passing.{kept_then}
use Rattle.run_history.proofs.Served.{leaves_step}
use Rattle.run_history.proofs.Serving.{Known}
use Rattle.run_history.proofs.Stands.{StandsNext, none_more}
use Rattle.run_history.specs.Passing.{ChangesAreLegal, HostPasses, InEachStep, ServerPasses, StartsStand}
use Rattle.run_history.specs.PastStanding.{LeadsOn, PassesOn, Stands}
use Rattle.run_parts.proofs.PlaceLaw.{Kept, coherent}
use Rattle.run_parts.specs.Contents.{Contents}
use Rattle.run_parts.specs.Legal.{ContentsRun, LegalStep, tree, tree_after}
use Rattle.run_contents.proofs.DeedSteps.{deeds_stand, runs_meet}
use Rattle.run_contents.proofs.Keeping.{cause_kept, sizes}
use Rattle.run_contents.proofs.Uses.{run_tokens}
use Rattle.run_contents.specs.Doing.{deeds_at}
use Rattle.run_contents.specs.Instance.{IsOfRun}
use Rattle.run_rules.specs.declared.applied.Answer.{Answer}
use Rattle.run_rules.specs.declared.step.Step.{Step}
use Rattle.run_history.proofs.UseGranting.{decisions_granted}
use Rattle.run_history.proofs.UseHostLaw.{hosts_know, hosts_leave, labels_are_of_uses}
use Rattle.run_history.proofs.Meaning.{changes_are_meant}
use Rattle.run_history.proofs.Naming.{names_are_known}
use Rattle.run_history.proofs.UseServerLaw.{ends_are_legal, servers_leave}
use Rattle.run_history.specs.UseGranted.{DecidesGranted}
use Rattle.run_history.specs.HostLaws.{KnowsLabels, LeavesLabels}
use Rattle.run_history.specs.Meant.{DecidesMeant}
use Rattle.run_history.specs.Names.{NamesStand}
use Rattle.run_history.specs.ServerLaws.{CauseLeavesLabels, EndsLegally}
use Rattle.run_history.specs.UseStanding.{LabelsStand}

-- statements on each step
pub always_both : {A : Type 0} (P Q : List A → A → Type 0) (xs : List A) → Always P xs → Always Q xs
    → Always (λ past x. P past x × Q past x) xs
always_both P Q [] p q = tt
always_both P Q (x ∷ xs) p q = (always_both P Q xs p.0 q.0, (p.1, q.1))

pub always_map : {A : Type 0} (P Q : List A → A → Type 0) → ((past : List A) (x : A) → P past x → Q past x)
    → (xs : List A) → Always P xs → Always Q xs
always_map P Q to [] p = tt
always_map P Q to (x ∷ xs) p = (always_map P Q to xs p.0, to xs x p.1)

module _ (script : Script) (journal : Journal) (run : IsRun script journal) (c : Contents)
    (of_run : IsOfRun run.start (firsts_of journal) c) where
  abbrev start : Tree
  start = run.start

  abbrev firsts : ServerId → ℕ
  firsts = firsts_of journal

  -- the start
  first_home : (xs : List Fileset)
      → list_all (λ fileset. (fileset.server.0 == (home fileset.id).0) && (fileset.moves == 0)) xs ≡ true
      → list_all is_home xs ≡ true
  first_home [] e = refl
  first_home (x ∷ xs) e =
      let k = and_parts ((x.server.0 == (home x.id).0) && (x.moves == 0))
      (list_all (λ (fileset : Fileset). (fileset.server.0 == (home fileset.id).0) && (fileset.moves == 0)) xs) e in
      let q = and_parts (x.server.0 == (home x.id).0) (x.moves == 0) k.0 in
      λ i. q.0 i && first_home xs k.1 i

  first_cells : (f : Fid) (p : Part) → cell_at start f p ≡ tree c [] f p
  first_cells f p =
      ap (λ (xs : List Fileset). cell_in (find (has_id f.fileset) xs) f p)
      (sym (rest_all start.filesets run.valid.at_rest))
      ∙ (kept_is_settled start f p ∙ ap settled (sym (of_run.start_is f p)))

  first_stands : Stands script start c [] start
  first_stands = record {
    formed = run.valid.well_formed;
    roster_is = run.roster;
    unmoved = run.valid.unmoved;
    homes = first_home start.filesets run.valid.at_home;
    keeps = λ v. starts_as v start run.valid.at_rest run.valid.unmoved;
    cells = first_cells;
  }

  -- names that a host has entered lead to their filesets
  abbrev KnowsNames : List Step → Step → Type 0
  KnowsNames past s =
      (h : HostId) (tree_is : Tree) → s.node ≡ Host h → NamesStand firsts past tree_is → (server : ServerId)
      (name : List ℕ) (id : FilesetId) → Entered (s ∷ steps_of_host h past) server name id → LeadsTo tree_is server name id

  -- a step
  module _ (past : List Step) (s : Step) (t : Tree) (stands : Stands script start c past t)
      (labels : LabelsStand firsts past t) where
    -- what is left by some entries
    abbrev Next : Node → List Entry → Type 0
    Next n xs =
        IsHistory t xs × StandsNext script start c past s n (after_history t xs)
        × LeadsOn t (after_history t xs) × LabelsStand firsts (s ∷ past) (after_history t xs)

    passes : Next s.node (entries_of s) → PassesOn script start firsts c past s t
    passes k = record { legal = k.0; stands = k.1; leads = k.2; labels = k.3 }

    by_node : (n : Node) → s.node ≡ n → Next n (entries_of s) → PassesOn script start firsts c past s t
    by_node n e k = passes (subst (λ (m : Node). Next m (entries_of s)) (sym e) k)

    -- of a host
    module _ (h : HostId) (node : s.node ≡ Host h) (m : StepMeets script start firsts (Host h) past s)
        (names : NamesStand firsts past t) (knows : KnowsLabels script firsts past s)
        (leaves : LeavesLabels c script firsts past s) (names_known : KnowsNames past s)
        (answers : AnswersLegally script.roster c past s) where
      agrees : (a : Answer) → In a s.answers → AgreesAt script.roster c past h s t
      agrees a i =
          let u = knows h t node labels a i in
          record {
            formed = stands.formed;
            uses = u.uses;
            roster_is = stands.roster_is;
            cells = stands.cells;
            names = λ server name id e. names_known h t node names server name id e;
            locks = u.locks;
            opens = u.opens;
            locks_free = u.locks_free;
            opens_free = u.opens_free;
          }

      answered : (a : Answer) → In a s.answers → IsLegal t (call_entry a)
          × ((f : Fid) (p : Part) → cell_at (after_entry t (call_entry a)) f p
          ≡ tree_after c (Host h) s past (tree c past) f p)
      answered a i =
          let k = answers h t node (agrees a i) a i in
          (k.0, λ f p. k.1 f p ∙ ap (λ (n : Node). tree_after c n s past (tree c past) f p) node)

      host_passes : PassesOn script start firsts c past s t
      host_passes =
          let left = leaves_answers script start firsts c of_run.hosts past h s m t stands answered in
          by_node (Host h) node
          (subst (Next (Host h))
          (sym (none_more (map call_entry s.answers))
          ∙ ap (λ (n : Node). map call_entry s.answers ++ applied_entries n s.applied) (sym node))
          (left.0, left.1, left.2, leaves h t node labels (λ a i. (agrees a i, (answered a i).0))))

    -- of a server
    module _ (v : ServerId) (node : s.node ≡ Server v) (steps : StepsMeet script start firsts past)
        (m : StepMeets script start firsts (Server v) past s) (kept_now : Kept c firsts past)
        (legal : LegalStep c firsts (Server v) s past) (stores : StoresLegally start c past s)
        (downs : DownsForget start c past s) (ends : EndsLegally script firsts past s)
        (cause : CauseLeavesLabels script firsts past s) (meant : DecidesMeant start firsts past s)
        (granted : DecidesGranted start firsts c past s) (changes : ChangesAreLegal start firsts past s v) where
      abbrev K : Tree
      K = filesets_kept start v (steps_of_server v past)

      deeds_are : c.deeds past s ≡ deeds_at start firsts (Server v) past s
      deeds_are = of_run.deeds past s ∙ ap (λ (n : Node). deeds_at start firsts n past s) node

      known : Known script start firsts c past steps v s m node
      known =
          let now = deeds_stand script journal run c of_run past steps v in
          record {
            stores = stores;
            downs = downs;
            kept_then = kept_then script start firsts c of_run past steps v s m node deeds_are kept_now now.doings_are
                now.at legal
                (cause_kept script start firsts past steps v s m s.applied K
                (sizes script start firsts past steps v s m) now.at.keeps);
            keeps_well = now.at.keeps;
          }

      server_passes : PassesOn script start firsts c past s t
      server_passes =
          by_node (Server v) node
          (subst (Next (Server v))
          (ap (λ (n : Node). applied_entries n s.applied) (sym node)
          ∙ ap (λ (xs : List Answer). map call_entry xs ++ applied_entries s.node s.applied)
          (sym m.0.no_host.does_none.2))
          (leaves_step script start firsts c of_run past steps v s m node deeds_are (LabelsStand firsts past)
          (LabelsStand firsts (s ∷ past)) (λ a b e f k. labels_are_of_uses firsts past a b e f k)
          (λ a b e f k. labels_are_of_uses firsts (s ∷ past) a b e f k) t stands labels
          (λ now roster labels a i. ends v now node roster labels a i)
          (cause v t node stands.formed stands.roster_is stands.homes labels) known
          (all_fit script start firsts past steps v s m c (LabelsStand firsts (s ∷ past))
          (λ a b e f k. labels_are_of_uses firsts (s ∷ past) a b e f k) changes (meant v node)) (granted v node)))

  -- all steps
  abbrev OfHosts : List Step → Step → Type 0
  OfHosts past s =
      (KnowsLabels script firsts past s × LeavesLabels c script firsts past s)
      × (KnowsNames past s × AnswersLegally script.roster c past s)

  of_hosts : Always OfHosts (past_of journal)
  of_hosts =
      let xs = past_of journal in
      always_both _ _ xs
      (always_both _ _ xs (hosts_know script journal run) (hosts_leave script journal run c of_run))
      (always_both _ _ xs (names_are_known script journal run) (hosts_answer script journal run c of_run))

  each_host : (past : List Step) → StepsMeet script start firsts past → Always OfHosts past
      → Always (HostPasses script start firsts c) past
  each_host [] steps all = tt
  each_host (s ∷ past) steps all = (
    each_host past steps.0 all.0,
    λ h t node stands labels names. host_passes past s t stands labels h node
        (subst (λ (n : Node). StepMeets script start firsts n past s) node steps.1.0) names all.1.0.0 all.1.0.1
        all.1.1.0 all.1.1.1,
  )

  abbrev OfServers : List Step → Step → Type 0
  OfServers past s =
      (StoresLegally start c past s × DownsForget start c past s)
      × ((EndsLegally script firsts past s × CauseLeavesLabels script firsts past s)
      × (DecidesMeant start firsts past s × DecidesGranted start firsts c past s))

  of_servers : Always OfServers (past_of journal)
  of_servers =
      let xs = past_of journal in
      always_both _ _ xs
      (always_both _ _ xs (store_legally script journal run c of_run) (downs_forget script journal run c of_run))
      (always_both _ _ xs
      (always_both _ _ xs (ends_are_legal script journal run) (servers_leave script journal run))
      (always_both _ _ xs (changes_are_meant script journal run) (decisions_granted script journal run c of_run)))

  each_server : (past : List Step) → StepsMeet script start firsts past → IsTokenRun firsts past
      → ContentsRun c firsts past → Always OfServers past → Always (ServerPasses script start firsts c) past
  each_server [] steps tokens rules all = tt
  each_server (s ∷ past) steps tokens rules all = (
    each_server past steps.0 tokens.0 rules.0 all.0,
    λ v t node stands labels changes. server_passes past s t stands labels v node steps.0
        (subst (λ (n : Node). StepMeets script start firsts n past s) node steps.1.0)
        (coherent c firsts past tokens.0 rules.0).0
        (subst (λ (n : Node). LegalStep c firsts n s past) node (coherent c firsts (s ∷ past) tokens rules).1.1)
        all.1.0.0 all.1.0.1 all.1.1.0.0 all.1.1.0.1 all.1.1.1.0 all.1.1.1.1 changes,
  )

pub starts_stand : StartsStand
starts_stand script journal run c of_run = first_stands script journal run c of_run

pub hosts_pass : InEachStep HostPasses
hosts_pass script journal run c of_run =
    each_host script journal run c of_run (past_of journal) run.steps (of_hosts script journal run c of_run)

pub servers_pass : InEachStep ServerPasses
servers_pass script journal run c of_run =
    each_server script journal run c of_run (past_of journal) run.steps (run_tokens script journal run)
    (runs_meet script journal run c of_run) (of_servers script journal run c of_run)
