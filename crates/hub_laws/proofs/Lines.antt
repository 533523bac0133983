-- Flags of lines that go are raised by steps.
use Rattle.std.proofs.Common.{◌≡◌, ◌⊎◌, ⊎_elim, inl, inr, ℕ, zero, suc, ◌+◌, ◌≤◌, ◌<◌, cond, List, [], ◌∷◌, length}
use Rattle.std.proofs.Common.{take, drop, Option, None, Some, refl, sym, ap, ◌∙◌, subst, arith}
use Rattle.std.specs.Prelude.{slice_get}
use Rattle.std.specs.List.{cons_option, filter_map}
use Rattle.std.proofs.lemmas.List.Sums.{sum_by-cons}
use Rattle.base_types.specs.declared.ids.Node.{Node}
use Rattle.script_lines.specs.declared.script.Deed.{Deed}
use Rattle.script_lines.specs.declared.script.Deed.TheVariants.{Call, Raise as RaiseLine, Await as AwaitLine, Stop}
use Rattle.script_lines.specs.declared.script.Deed.TheVariants.{Restart as RestartLine}
use Rattle.script_lines.specs.declared.script.Line.{Line}
use Rattle.script_lines.specs.declared.script.Script.{Script}
use Rattle.run_rules.specs.Past.{EachInTurn, In, Once, appended}
use Rattle.run_rules.specs.Steps.{goes_with, lines_gone, lines_of}
use Rattle.run_rules.specs.declared.step.Cause.{Cause}
use Rattle.run_rules.specs.declared.step.Cause.TheVariants.{Freight, Line as LineOf, Message as CameBy, Restart}
use Rattle.run_rules.specs.declared.step.Cause.TheVariants.{Lapse as LapsesBy, Evict, End, Flushed}
use Rattle.run_rules.specs.declared.step.Step.{Step}
use Rattle.hub_board.specs.Follows.{gone_in, goes, mark_of, raise_of}
use Rattle.hub_laws.specs.Keeping.{LineGoes}
use Rattle.hub_laws.proofs.Planned.{once_after}

module _ {A : Type 0} where
  pub in_at : (xs : List A) (i : ℕ) (x : A) → slice_get xs i ≡ Some x → In x xs
  in_at [] i x e = absurd (cc)
  in_at (y ∷ ys) zero x e = inl (let same : x ≡ y = cc in same)
  in_at (y ∷ ys) (suc i) x e = inr (in_at ys i x e)

  pub below_at : (xs : List A) (i : ℕ) (x : A) → slice_get xs i ≡ Some x → i < length xs
  below_at [] i x e = absurd (cc)
  below_at (y ∷ ys) zero x e = omega arith
  below_at (y ∷ ys) (suc i) x e = let b = below_at ys i x e in omega arith

  drop_at : (xs : List A) (i : ℕ) (x : A) → slice_get xs i ≡ Some x → drop i xs ≡ x ∷ drop (suc i) xs
  drop_at [] i x e = absurd (cc)
  drop_at (y ∷ ys) zero x e = let same : y ≡ x = cc in ap (λ z. z ∷ ys) same
  drop_at (y ∷ ys) (suc i) x e = drop_at ys i x e

-- the flag that a line raises
abbrev pub raised_at : Line → Option (List ℕ)
raised_at line = raise_of (mark_of line.deed)

deed_raises : (d : Deed) (flag : List ℕ) → raise_of (mark_of d) ≡ Some flag → d ≡ RaiseLine flag
deed_raises (RaiseLine name) flag e = let same : name ≡ flag = cc in ap RaiseLine same
deed_raises (AwaitLine name) flag e = absurd (cc)
deed_raises (Call call) flag e = absurd (cc)
deed_raises Stop flag e = absurd (cc)
deed_raises RestartLine flag e = absurd (cc)

module _ (script : Script) (node : Node) (flag : List ℕ) where
  abbrev Raises : List Step → Step → Type 0
  Raises before s = (n : ℕ) × (line : Line) × (s.cause ≡ LineOf n)
      × (In line (lines_of script s.node) × (line.number ≡ n))
      × (line.deed ≡ RaiseLine flag)

  abbrev next_flags : ℕ → ℕ → List (List ℕ)
  next_flags gone count = filter_map raised_at (take count (drop gone (lines_of script node)))

  -- the flags of one line more
  line_more : (g k : ℕ) (line : Line) → slice_get (lines_of script node) g ≡ Some line → In flag (next_flags g (1 + k))
      → (raised_at line ≡ Some flag) ⊎ In flag (next_flags (1 + g) k)
  line_more g k line at i =
      let step : 1 + k ≡ suc k = omega arith in
      let next : suc g ≡ 1 + g = omega arith in
      let whole : In flag (cons_option (raised_at line) (next_flags (suc g) k)) =
      subst (λ l. In flag (filter_map raised_at (take (suc k) l))) (drop_at (lines_of script node) g line at)
      (subst (λ n. In flag (next_flags g n)) step i) in
      by_option (raised_at line) refl whole
    where
      by_option : (o : Option (List ℕ)) → raised_at line ≡ o → In flag (cons_option o (next_flags (suc g) k))
          → (raised_at line ≡ Some flag) ⊎ In flag (next_flags (1 + g) k)
      by_option None e h = inr (subst (λ n. In flag (next_flags n k))
          (let next : suc g ≡ 1 + g = omega arith in next) h)
      by_option (Some name) e h = ⊎_elim
          (λ (u : flag ≡ name). inl (e ∙ ap Some (sym u)))
          (λ (u : In flag (next_flags (suc g) k)).
          inr (subst (λ n. In flag (next_flags n k)) (let next : suc g ≡ 1 + g = omega arith in next) u))
          h

  module _ (s : Step) (xs own past : List Step) (mine : s.node ≡ node) (goes_so : LineGoes (lines_of script node) own s)
      (again : In flag (next_flags (lines_gone (s ∷ own)) (gone_in xs)) → Once Raises (appended xs (s ∷ past))) where
    still : (c : Cause) → s.cause ≡ c → goes_with c ≡ 0 → In flag (next_flags (lines_gone own) (0 + gone_in xs))
        → Once Raises (appended xs (s ∷ past))
    still c e z i =
        let none : 0 + gone_in xs ≡ gone_in xs = omega arith in
        let zero_goes = ap goes_with e ∙ z in
        let gone : lines_gone own ≡ lines_gone (s ∷ own) = omega arith in
        again (subst (λ n. In flag (next_flags n (gone_in xs))) gone
        (subst (λ n. In flag (next_flags (lines_gone own) n)) none i))

    by_cause : (c : Cause) → s.cause ≡ c → In flag (next_flags (lines_gone own) (cond (goes c) 1 0 + gone_in xs))
        → Once Raises (appended xs (s ∷ past))
    by_cause (LineOf n) e i =
        let l = goes_so.line n e in
        let one = ap goes_with e in
        let gone : 1 + lines_gone own ≡ lines_gone (s ∷ own) = omega arith in ⊎_elim
        (λ (u : raised_at l.0 ≡ Some flag).
        once_after Raises xs (s ∷ past)
        (inl (
          n,
          l.0,
          e,
          (
            subst (λ x. In l.0 (lines_of script x)) (sym mine)
                (in_at (lines_of script node) (lines_gone own) l.0 l.1.0),
            l.1.1,
          ),
          deed_raises l.0.deed flag u,
        )))
        (λ (u : In flag (next_flags (1 + lines_gone own) (gone_in xs))).
        again (subst (λ k. In flag (next_flags k (gone_in xs))) gone u))
        (line_more (lines_gone own) (gone_in xs) l.0 l.1.0 i)
    by_cause (Restart n) e i =
        let l = goes_so.restart n e in
        let one = ap goes_with e in
        let gone : 1 + lines_gone own ≡ lines_gone (s ∷ own) = omega arith in ⊎_elim
        (λ (u : raised_at l.0 ≡ Some flag).
        let clash : None ≡ Some flag = sym (ap (λ d. raise_of (mark_of d)) l.2) ∙ u in absurd (cc))
        (λ (u : In flag (next_flags (1 + lines_gone own) (gone_in xs))).
        again (subst (λ k. In flag (next_flags k (gone_in xs))) gone u))
        (line_more (lines_gone own) (gone_in xs) l.0 l.1.0 i)
    by_cause (CameBy m) e i = still (CameBy m) e refl i
    by_cause LapsesBy e i = still LapsesBy e refl i
    by_cause Evict e i = still Evict e refl i
    by_cause (Freight freight) e i = still (Freight freight) e refl i
    by_cause End e i = still End e refl i
    by_cause Flushed e i = still Flushed e refl i

  -- each flag of the lines that go in some steps is raised by one of them
  pub flags_raised : (xs own past : List Step) → ((s : Step) → In s xs → s.node ≡ node)
      → EachInTurn (LineGoes (lines_of script node)) xs own → In flag (next_flags (lines_gone own) (gone_in xs))
      → Once Raises (appended xs past)
  flags_raised [] own past mine goes_so i = absurd (i)
  flags_raised (s ∷ xs) own past mine goes_so i =
      by_cause s xs own past (mine s (inl refl)) goes_so.0
      (flags_raised xs (s ∷ own) (s ∷ past) (λ x k. mine x (inr k)) goes_so.1) s.cause refl
      (subst (λ n. In flag (next_flags (lines_gone own) n))
      (sum_by-cons (λ (x : Step). cond (goes x.cause) 1 0) s xs) i)

-- how many lines have gone after some steps
pub gone_after : (xs own : List Step) → lines_gone (appended xs own) ≡ lines_gone own + gone_in xs
gone_after [] own = omega arith
gone_after (s ∷ xs) own =
    let i = gone_after xs (s ∷ own) in
    let c = sum_by-cons (λ (x : Step). cond (goes x.cause) 1 0) s xs in
    let e = same_goes s.cause in omega arith
  where
    same_goes : (c : Cause) → goes_with c ≡ cond (goes c) 1 0
    same_goes (LineOf n) = refl
    same_goes (Restart n) = refl
    same_goes (CameBy m) = refl
    same_goes LapsesBy = refl
    same_goes Evict = refl
    same_goes (Freight freight) = refl
    same_goes End = refl
    same_goes Flushed = refl

-- no more than there are
pub gone_few : (lines : List Line) (xs own : List Step) → lines_gone own ≤ length lines → EachInTurn (LineGoes lines)
    xs own
    → lines_gone (appended xs own) ≤ length lines
gone_few lines [] own few goes_so = few
gone_few lines (s ∷ xs) own few goes_so = gone_few lines xs (s ∷ own) (by_cause s.cause refl) goes_so.1
  where
    by_cause : (c : Cause) → s.cause ≡ c → lines_gone (s ∷ own) ≤ length lines
    by_cause (LineOf n) e =
        let l = goes_so.0.line n e in let b = below_at lines (lines_gone own) l.0 l.1.0 in
        let one = ap goes_with e in omega arith
    by_cause (Restart n) e =
        let l = goes_so.0.restart n e in let b = below_at lines (lines_gone own) l.0 l.1.0 in
        let one = ap goes_with e in omega arith
    by_cause (CameBy m) e = let z = ap goes_with e in omega arith
    by_cause LapsesBy e = let z = ap goes_with e in omega arith
    by_cause Evict e = let z = ap goes_with e in omega arith
    by_cause (Freight freight) e = let z = ap goes_with e in omega arith
    by_cause End e = let z = ap goes_with e in omega arith
    by_cause Flushed e = let z = ap goes_with e in omega arith
