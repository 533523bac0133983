-- At the end of an ended run nothing is unsaved.
use Rattle.std.proofs.Common.{◌≡◌, ℕ, List, [], ◌∷◌, Option, Some, None, inl, inr, refl, subst, if◌then◌else◌}
use Rattle.base_types.specs.declared.ids.Fid.{Fid}
use Rattle.base_types.specs.declared.ids.HostId.{HostId}
use Rattle.base_types.specs.declared.ids.Node.{Node}
use Rattle.base_types.specs.declared.ids.Node.TheVariants.{Host, Server}
use Rattle.base_types.specs.declared.ids.ServerId.{ServerId}
use Rattle.tree_answers.specs.declared.tree.Tree.{Tree}
use Rattle.script_lines.specs.declared.script.Script.{Script}
use Rattle.tree_laws.specs.Parts.{Part, Seen, Written}
use Rattle.run_rules.specs.Doings.{Doing, IsLive, Listed, after_step, doings_of}
use Rattle.run_rules.specs.Past.{In}
use Rattle.run_rules.specs.Runs.{IsEnded, IsRun, StepsMeet, TakesPart, firsts_of, past_of}
use Rattle.run_rules.specs.Steps.{is_node, servers_of, steps_of_host}
use Rattle.run_parts.proofs.Words.{server_split}
use Rattle.run_rules.specs.declared.journal.Journal.{Journal}
use Rattle.run_parts.proofs.Invariant.{mine_writes}
use Rattle.run_parts.proofs.PlaceLaw.{coherent}
use Rattle.run_parts.specs.Cells.{by}
use Rattle.run_parts.specs.Contents.{Contents, site}
use Rattle.run_parts.specs.Deeds.{acts_in}
use Rattle.run_parts.specs.Legal.{served, tree}
use Rattle.run_contents.proofs.DeedSteps.{runs_meet}
use Rattle.run_contents.proofs.Uses.{run_tokens}
use Rattle.run_contents.specs.Instance.{IsOfRun}
use Rattle.run_rules.specs.declared.step.Step.{Step}

-- a server that has a host on its list takes part
module _ (script : Script) (start : Tree) (firsts : ServerId → ℕ) (v : ServerId) (h : HostId) where
  at_node : (n : Node) (s : Step) (S : List Doing) → TakesPart script n → (Listed S h → In v (servers_of script.roster))
      → Listed (if is_node n (Server v) then after_step s S else S) h → In v (servers_of script.roster)
  at_node (Host k) s S part old listed = old listed
  at_node (Server w) s S part old listed =
      server_split (λ (D : List Doing). Listed D h → In v (servers_of script.roster)) w v (after_step s S) S
      (λ e its. subst (λ (x : ServerId). In x (servers_of script.roster)) e part) (λ two. old) listed

  pub takes_part : (past : List Step) → StepsMeet script start firsts past → Listed (doings_of (firsts v) v past) h
      → In v (servers_of script.roster)
  takes_part [] steps (inl l) = let p = l.0.2 in absurd (cc)
  takes_part [] steps (inr l) = elim l [ ]
  takes_part (s ∷ past) steps listed = at_node s.node s (doings_of (firsts v) v past) steps.1.2 (takes_part past steps.0) listed

module _ (script : Script) (journal : Journal) (run : IsRun script journal) (c : Contents)
    (of_run : IsOfRun run.start (firsts_of journal) c) (ended : IsEnded script journal) where
  abbrev firsts : ServerId → ℕ
  firsts = firsts_of journal

  abbrev past : List Step
  past = past_of journal

  none_by : (f : Fid) (p : Part) (h : HostId) (x : Seen p) → (tree c past f p).unsaved ≡ Some (by h x) → ⊥
  none_by f p h x e =
      let kept = (coherent c firsts past (run_tokens script journal run) (runs_meet script journal run c of_run)).0 in
      let at = kept.at (site f) in
      let w = mine_writes c h (steps_of_host h past) (tree c past) (site f) (served c (firsts (site f)) (site f) past)
      (kept.whole.at (site f)).served ((kept.whole.at (site f)).link h) (kept.seen h) (at.shown h) p f x refl e in
      let live : IsLive (doings_of (firsts (site f)) (site f) past) h =
      subst (λ S. IsLive S h) (kept.same (site f))
      (subst (λ k. IsLive (acts_in (served c (firsts (site f)) (site f) past)) k) w.host ((kept.whole.at (site f)).served.owed_live w.token w.owed)) in
      live.1 (ended.servers (site f) h (takes_part script run.start firsts (site f) h past run.steps live.0) live.0)

  pub nothing_unsaved : (f : Fid) (p : Part) → (tree c past f p).unsaved ≡ None
  nothing_unsaved f p = go (tree c past f p).unsaved refl
    where
      go : (o : Option (Written (Seen p))) → (tree c past f p).unsaved ≡ o → o ≡ None
      go None e = refl
      go (Some u) e = absurd (none_by f p u.writer u.value e)
