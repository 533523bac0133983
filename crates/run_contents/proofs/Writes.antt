-- What a host writes.
use Rattle.std.proofs.Common.{◌≡◌, ℕ, ◌<◌, ◌+◌, Bool, true, false, if◌then◌else◌, nat_lt, Option, Some, None, List}
use Rattle.std.proofs.Common.{[], ◌∷◌, length, inl, sym, ◌∙◌, subst, refl, arith, ltb-true}
use Rattle.base_types.specs.declared.ids.Fid.{Fid}
use Rattle.base_types.specs.declared.ids.FilesetId.{FilesetId}
use Rattle.base_types.specs.declared.ids.HostId.{HostId}
use Rattle.script_lines.specs.declared.script.Script.{Script}
use Rattle.tree_laws.specs.Parts.{Part, Seen}
use Rattle.tree_laws.specs.Parts.Part.{Size}
use Rattle.run_rules.specs.HostMay.{HostMay}
use Rattle.run_rules.specs.Messages.{Asking}
use Rattle.run_rules.specs.Past.{In}
use Rattle.run_rules.specs.Views.{sees as host_sees, writes_to}
use Rattle.run_parts.specs.Contents.{Contents, WritesGrow, sees}
use Rattle.run_contents.proofs.Views.{sees_same}
use Rattle.run_contents.specs.Steps.{HostRun, IsOfJournal, Written, wrote, written_at, written_in}
use Rattle.run_rules.specs.declared.applied.Answer.{Answer}
use Rattle.run_rules.specs.declared.step.Step.{Step}

-- what writes answers a call
by_answer : (past : List Step) (s : Step) (f : Fid) (p : Part) (x : Seen p) → wrote past s f p ≡ Some x
    → (a : Answer) × In a s.answers
by_answer past s f p x = go (writes_to s f) s.answers
  where
    go : (b : Bool) (answers : List Answer)
        → (if b then written_at (written_in answers) (host_sees past s f Size) p else None) ≡ Some x
        → (a : Answer) × In a answers
    go false answers e = absurd (let k : None ≡ Some x = e in cc)
    go true [] e = absurd (let k : None ≡ Some x = e in cc)
    go true (a ∷ rest) e = (a, inl refl)

-- a size that is written is above the one that is seen
above : (o : Option Written) (size y : ℕ) → written_at o size Size ≡ Some y → size < y
above None size y e = absurd (let k : None ≡ Some y = e in cc)
above (Some w) size y e = go (nat_lt size (w.from + length w.bytes)) refl e
  where
    go : (b : Bool) → nat_lt size (w.from + length w.bytes) ≡ b
        → (if b then Some (w.from + length w.bytes) else None) ≡ Some y → size < y
    go false q e = absurd (let k : None ≡ Some y = e in cc)
    go true q e =
        let lt = ltb-true size (w.from + length w.bytes) q in
        let end : w.from + length w.bytes ≡ y = cc in
        omega (arith, lt, end)

size_above : (past : List Step) (s : Step) (f : Fid) (y : ℕ) → wrote past s f Size ≡ Some y
    → host_sees past s f Size < y
size_above past s f y = go (writes_to s f)
  where
    go : (b : Bool) → (if b then written_at (written_in s.answers) (host_sees past s f Size) Size else None) ≡ Some y
        → host_sees past s f Size < y
    go false e = absurd (let k : None ≡ Some y = e in cc)
    go true e = above (written_in s.answers) (host_sees past s f Size) y e

module _ (c : Contents) (same : IsOfJournal c) (script : Script) (host : HostId) (past : List Step) (s : Step)
    (run : HostRun script host past) (m : HostMay script host past s) where
  writes_alone' : (f : Fid) (p : Part) (x : Seen p) (fs : FilesetId) (n : ℕ) → c.wrote past s f p ≡ Some x
      → Asking (s ∷ past) fs n → ⊥
  writes_alone' f p x fs n e asking =
      let a = by_answer past s f p x (sym (same.wrote past s f p) ∙ e) in
      m.answers.answers_alone a.0 fs n a.1 asking

  grows' : (f : Fid) (y : ℕ) → c.wrote past s f Size ≡ Some y → sees c past s f Size < y
  grows' f y e =
      subst (λ z. z < y) (sym (sees_same c same script host past run s f Size))
      (size_above past s f y (sym (same.wrote past s f Size) ∙ e))

  pub writes_grow : WritesGrow c past s
  writes_grow = record { writes_alone = writes_alone'; grows = grows' }
