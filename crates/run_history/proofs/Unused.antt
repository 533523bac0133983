-- At the end of an ended run no label is in use.
use Rattle.std.proofs.Common.{List, inl, refl, subst, sym, ℕ, ◌∷◌, ◌≡◌}
use Rattle.std.specs.Prelude.{[]}
use Rattle.base_types.specs.declared.ids.HostId.{HostId}
use Rattle.base_types.specs.declared.ids.ServerId.{ServerId}
use Rattle.tree_answers.specs.declared.tree.LockUse.{LockUse}
use Rattle.tree_answers.specs.declared.tree.OpenUse.{OpenUse}
use Rattle.tree_answers.specs.declared.tree.Tree.{Tree}
use Rattle.script_lines.specs.declared.script.Script.{Script}
use Rattle.run_rules.specs.Doings.{HasGoneAway, IsLive, doings_of}
use Rattle.run_rules.specs.Past.{In}
use Rattle.run_rules.specs.Runs.{IsEnded, IsRun, firsts_of, past_of}
use Rattle.run_tokens.specs.TokenLaws.{IsTokenRun}
use Rattle.run_history.proofs.Ended.{takes_part}
use Rattle.run_rules.specs.declared.journal.Journal.{Journal}
use Rattle.run_parts.proofs.LabelLaw.{all_uses, locked_owed}
use Rattle.run_parts.specs.Uses.{Locked, UsesRun}
use Rattle.run_contents.proofs.Uses.{run_tokens, run_uses}
use Rattle.run_tokens.proofs.Law.{always}
use Rattle.run_rules.specs.declared.step.Labelled.{Labelled}
use Rattle.run_rules.specs.declared.step.Step.{Step}
use Rattle.run_history.specs.UseStanding.{LabelsStand}

module _ (script : Script) (journal : Journal) (run : IsRun script journal) (ended : IsEnded script journal) where
  abbrev firsts : ServerId → ℕ
  firsts = firsts_of journal

  abbrev past : List Step
  past = past_of journal

  -- its host would be live at the server of its token
  none_locked : (h : HostId) (u : Labelled) → Locked firsts past h u → ⊥
  none_locked h u l =
      let v = u.token.id.server in
      let tokens : IsTokenRun firsts past = run_tokens script journal run in
      let rules : UsesRun past = run_uses script journal run in
      let up : (HasGoneAway (doings_of (firsts v) v past) h → ⊥) =
      ((all_uses firsts past tokens rules).uses h v).none_away u refl l in
      let owed = locked_owed firsts past tokens rules h u l up in
      let live : IsLive (doings_of (firsts v) v past) h =
      subst (λ k. IsLive (doings_of (firsts v) v past) k) owed.1
      (((always firsts past tokens).at v).served.owed_live u.token owed.0) in
      up (ended.servers v h (takes_part script run.start firsts v h past run.steps live.0) live.0)

  module _ (t : Tree) (stand : LabelsStand firsts past t) where
    pub no_locks : t.locks ≡ []
    no_locks = go t.locks refl
      where
        go : (locks : List LockUse) → t.locks ≡ locks → locks ≡ []
        go [] e = refl
        go (lock ∷ others) e =
            let u = (stand.locks lock).0 (subst (λ locks. In lock locks) (sym e) (inl refl)) in
            absurd (none_locked lock.host u.0 u.1)

    pub no_opens : t.opens ≡ []
    no_opens = go t.opens refl
      where
        go : (opens : List OpenUse) → t.opens ≡ opens → opens ≡ []
        go [] e = refl
        go (opened ∷ others) e =
            let u = (stand.opens opened).0 (subst (λ opens. In opened opens) (sym e) (inl refl)) in
            absurd (none_locked opened.host u.0 u.1)
