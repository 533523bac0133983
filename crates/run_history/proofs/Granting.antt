-- In every run what is unsaved is under granted tokens.
use Rattle.std.proofs.Common.{List, subst, sym, ℕ, ◌∷◌, ◌≡◌}
use Rattle.std.specs.Prelude.{[]}
use Rattle.base_types.specs.declared.ids.HostId.{HostId}
use Rattle.base_types.specs.declared.ids.Node.{Node}
use Rattle.base_types.specs.declared.ids.Node.TheVariants.{Host, Server}
use Rattle.base_types.specs.declared.ids.ServerId.{ServerId}
use Rattle.run_rules.specs.Past.{Always, EachInTurn}
use Rattle.run_rules.specs.Runs.{firsts_of, past_of}
use Rattle.run_rules.specs.ServerTokens.{ServerStep}
use Rattle.run_rules.specs.Steps.{steps_of_host}
use Rattle.run_tokens.specs.TokenLaws.{IsTokenRun, StepMay}
use Rattle.run_parts.proofs.Served.{Next, each_next}
use Rattle.run_history.specs.Granted.{EachGranted, GrantedAt, UnsavedIsGranted}
use Rattle.run_parts.proofs.ActStep.{OneDoing, shown_act, treed_act}
use Rattle.run_parts.proofs.Invariant.{Alike, mine_writes}
use Rattle.run_parts.proofs.PlaceLaw.{At, Kept, coherent}
use Rattle.run_parts.specs.Contents.{Contents, ServerShows}
use Rattle.run_parts.specs.Deeds.{Deed, acts_in}
use Rattle.run_parts.specs.Legal.{Cells, ContentsRun, StepShows, cells_after, served, tree}
use Rattle.run_contents.proofs.DeedSteps.{runs_meet}
use Rattle.run_contents.proofs.Uses.{run_tokens}
use Rattle.run_tokens.proofs.Invariant.{Alone}
use Rattle.run_tokens.specs.Unmoved.{MovesNone}
use Rattle.run_rules.specs.declared.step.Step.{Step}

module _ (c : Contents) (own_of : HostId → List Step) (alone : (h : HostId) → Alone (own_of h))
    (seen : (h : HostId) → Alike c (own_of h)) (v : ServerId) where
  granted_now : (D : List Deed) (cells : Cells) → At c own_of cells v D → GrantedAt v (acts_in D) cells
  granted_now D cells x grace f p u home e =
      let w = mine_writes c u.writer (own_of u.writer) cells v D x.at.served (x.at.link u.writer) (seen u.writer)
      (x.shown u.writer) p f u.value home e in (
        w.token,
        x.at.served.owed_granted w.token w.owed (grace w.token.host (x.at.served.owed_live w.token w.owed)),
        record { file = w.file; covers = w.covers; update = w.update },
      )

  each_granted : (more D : List Deed) (cells : Cells) → At c own_of cells v D
      → EachInTurn (Next own_of v) (acts_in more) (acts_in D) → EachInTurn (ServerShows c v) more D → EachGranted v more D cells
  each_granted [] D cells x may rules = granted_now D cells x
  each_granted (d ∷ more) D cells x may rules =
      let o : OneDoing c own_of cells v D d =
      record {
        at = x.at;
        alone = alone;
        seen = seen;
        shown = x.shown;
        treed = x.treed;
        may = may.0.may;
        rules = rules.0;
        heard = may.0.heard;
        next = may.0.next x.at;
      } in
      let next : At c own_of (cells_after d cells) v (d ∷ D) =
      record { at = o.next; shown = shown_act c own_of cells v D d o; treed = treed_act c own_of cells v D d o } in
      (granted_now D cells x, each_granted more (d ∷ D) (cells_after d cells) next may.1 rules.1)

module _ (c : Contents) (firsts : ServerId → ℕ) where
  at_node : (n : Node) (past : List Step) (s : Step) → Kept c firsts past → StepMay firsts n past s → MovesNone s
      → StepShows c firsts n past s → (v : ServerId) → n ≡ Server v
      → EachGranted v (c.deeds past s) (served c (firsts v) v past) (tree c past)
  at_node (Host h) past s old may none rules v e = cc
  at_node (Server k) past s old may none rules v e =
      let same : k ≡ v = let q : Server k ≡ Server v = e in cc in
      subst (λ w. EachGranted w (c.deeds past s) (served c (firsts w) w past) (tree c past)) same
      (each_granted c (λ h. steps_of_host h past) old.whole.alone old.seen k (c.deeds past s) (served c (firsts k) k past)
      (tree c past) (old.at k)
      (subst (λ l. EachInTurn (Next (λ h. steps_of_host h past) k) l (acts_in (served c (firsts k) k past))) (sym rules.0)
      (each_next (λ h. steps_of_host h past) old.whole.alone k s (acts_in (served c (firsts k) k past)) none
      (subst (λ S. ServerStep k S s) (sym (old.same k)) may.0) (λ m e. (may.1 m e).2))) rules.1)

  all_granted : (past : List Step) → IsTokenRun firsts past → ContentsRun c firsts past
      → Always (λ past s. (v : ServerId) → s.node ≡ Server v
      → EachGranted v (c.deeds past s) (served c (firsts v) v past) (tree c past)) past
  all_granted [] tokens rules = tt
  all_granted (s ∷ past) tokens rules = (
    all_granted past tokens.0 rules.0,
    at_node s.node past s (coherent c firsts past tokens.0 rules.0).0 tokens.1 tokens.3 rules.1,
  )

pub unsaved_is_granted : UnsavedIsGranted
unsaved_is_granted script journal run c of_run =
    all_granted c (firsts_of journal) (past_of journal) (run_tokens script journal run)
    (runs_meet script journal run c of_run)
