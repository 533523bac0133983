-- A host has stopped where a line that stops it has gone; and then none of its calls is open.
use Rattle.std.proofs.Common.{◌≡◌, ℕ, suc, ◌+◌, ◌⊎◌, Some, None, List, [], ◌∷◌, ◌++◌}
use Rattle.std.proofs.Common.{take, inl, inr, sym, ◌∙◌, ap, subst, refl, arith}
use Rattle.base_types.specs.declared.ids.HostId.{HostId}
use Rattle.base_types.specs.declared.ids.ServerId.{ServerId}
use Rattle.base_types.specs.declared.ids.Node.TheVariants.{Host}
use Rattle.script_lines.specs.declared.script.Deed.{Deed}
use Rattle.script_lines.specs.declared.script.Deed.TheVariants.{Stop}
use Rattle.script_lines.specs.declared.script.Line.{Line}
use Rattle.script_lines.specs.declared.script.Script.{Script}
use Rattle.run_rules.specs.declared.step.Cause.{Cause}
use Rattle.run_rules.specs.declared.step.Cause.TheVariants.{End, Evict, Freight, Lapse}
use Rattle.run_rules.specs.declared.step.Cause.TheVariants.{Line as LineOf, Message as Came, Restart}
use Rattle.run_rules.specs.declared.step.Cause.TheVariants.{Flushed}
use Rattle.run_rules.specs.declared.step.Step.{Step}
use Rattle.run_rules.specs.HostMay.{DoesLine}
use Rattle.run_rules.specs.Messages.{HasStopped}
use Rattle.run_rules.specs.Past.{In}
use Rattle.run_rules.specs.Steps.{IsNextLine, goes_with, lines_gone, lines_of, servers_of}
use Rattle.run_rules.specs.Tokens.{NoneOpen}
use Rattle.run_contents.specs.Steps.{HostRun}
use Rattle.run_due.proofs.Beginning.{take_next}

in_push : (xs : List Line) (x y : Line) → In y (xs ++ x ∷ []) → In y xs ⊎ (y ≡ x)
in_push [] x y (inl e) = inr e
in_push [] x y (inr i) = elim i [ ]
in_push (z ∷ xs) x y (inl e) = inl (inl e)
in_push (z ∷ xs) x y (inr i) = elim (in_push xs x y i) [
  | inl j ↦ inl (inr j)
  | inr e ↦ inr e
]

-- where a stop has gone the host has stopped
pub stop_gone : (script : Script) (host : HostId) (past : List Step) → HostRun script host past → (line : Line)
    → In line (take (lines_gone past) (lines_of script (Host host))) → line.deed ≡ Stop → (v : ServerId)
    → In v (servers_of script.roster) → HasStopped past
stop_gone script host [] run line i stop v there = elim i [ ]
stop_gone script host (s ∷ past) run line i stop v there =
    by (λ j. older (stop_gone script host past run.0 line j stop v there)) s.cause refl
  where
    older : HasStopped past → HasStopped (s ∷ past)
    older x = (x.0, x.1, x.2, inr x.3)

    same : (In line (take (lines_gone past) (lines_of script (Host host))) → HasStopped (s ∷ past)) → (c : Cause)
        → s.cause ≡ c → goes_with c ≡ 0 → HasStopped (s ∷ past)
    same old c e z =
        let gone : lines_gone (s ∷ past) ≡ goes_with c + lines_gone past =
        ap (λ (x : Cause). goes_with x + lines_gone past) e in
        let is : lines_gone (s ∷ past) ≡ lines_gone past = omega (arith, gone, z) in
        old (subst (λ (n : ℕ). In line (take n (lines_of script (Host host)))) is i)

    by : (In line (take (lines_gone past) (lines_of script (Host host))) → HasStopped (s ∷ past)) → (c : Cause)
        → s.cause ≡ c → HasStopped (s ∷ past)
    by old (LineOf n) e = elim (in_push (take (lines_gone past) (lines_of script (Host host))) next.0 line here) [
      | inl j ↦ old j
      | inr is ↦ (
          let deed = subst (λ (d : Deed). DoesLine (servers_of script.roster) past s d)
          (ap (λ (l : Line). l.deed) (sym is) ∙ stop) next.2 in
          let says = deed.0 v there in
          (v, says.0, says.1, inl says.2)
          )
    ]
      where
        next : (l : Line) × IsNextLine (lines_of script (Host host)) past n l
            × DoesLine (servers_of script.roster) past s l.deed
        next = run.1.lines.next n e

        gone : lines_gone (s ∷ past) ≡ suc (lines_gone past)
        gone =
            let g : lines_gone (s ∷ past) ≡ 1 + lines_gone past =
            ap (λ (x : Cause). goes_with x + lines_gone past) e in omega (arith, g)

        here : In line (take (lines_gone past) (lines_of script (Host host)) ++ next.0 ∷ [])
        here =
            subst (λ (xs : List Line). In line xs)
            (ap (λ (k : ℕ). take k (lines_of script (Host host))) gone
            ∙ take_next (lines_of script (Host host)) (lines_gone past) next.0 next.1.0) i
    by old (Restart n) e = absurd (run.1.lines.no_server.0 n e)
    by old (Came x) e = same old (Came x) e refl
    by old Lapse e = same old Lapse e refl
    by old Evict e = same old Evict e refl
    by old (Freight freight) e = same old (Freight freight) e refl
    by old End e = same old End e refl
    by old Flushed e = absurd (run.1.lines.no_server.1 e)

-- a host that has stopped has no open call
pub stopped_none : (script : Script) (host : HostId) (past : List Step) → HostRun script host past → HasStopped past
    → NoneOpen past
stopped_none script host [] run st call o = elim o [ ]
stopped_none script host (s ∷ past) run st call o = elim st.3 [
  | inr old ↦ run.1.tokens.live (st.0, st.1, st.2, old)
  | inl sends ↦ (
      let k = run.1.lines.stops (st.0, st.1, st.2, sends) in
      let next = run.1.lines.next k.0 k.2 in
      let same = some_line next.0 k.1 (sym next.1.0 ∙ k.3.0) in
      let deed = subst (λ (d : Deed). DoesLine (servers_of script.roster) past s d)
      (ap (λ (l : Line). l.deed) same ∙ k.4) next.2 in
      elim o [
        | inl asked ↦ (let q : None ≡ Some call = sym deed.2 ∙ asked in cc)
        | inr x ↦ (run.1.lines.free k.0 k.2).0 call x.0
      ]
      )
]
  where
    some_line : (a b : Line) → Some a ≡ Some b → a ≡ b
    some_line a b e = cc
