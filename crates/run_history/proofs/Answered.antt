-- A host that sees the tree under its tokens answers a call, in the step that begins it, exactly where it could on the tree.
use Rattle.std.proofs.Common.{◌≡◌, ℕ, true, List, [], ◌∷◌, inl, inr, refl, sym, ap, ◌∙◌, subst}
use Rattle.base_types.specs.declared.ids.HostId.{HostId}
use Rattle.base_types.specs.declared.ids.Node.{Node}
use Rattle.base_types.specs.declared.ids.Node.TheVariants.{Host, Server}
use Rattle.base_types.specs.declared.ids.ServerId.{ServerId}
use Rattle.tree_calls.specs.declared.call.Call.{Call}
use Rattle.tree_calls.specs.declared.reply.Reply.{Reply}
use Rattle.need_host.proofs.Looking.{covered_alike, outcome_alike}
use Rattle.need_host.specs.Calls.{reply_now}
use Rattle.need_host.specs.Laws.{AgreeUnder}
use Rattle.need_host.specs.Looks.{IsCovered, View, needs_of, outcome, tree_view}
use Rattle.tree_answers.specs.WellFormed.{IsWellFormed}
use Rattle.tree_answers.specs.declared.tree.Tree.{Tree}
use Rattle.message_types.specs.declared.message.Body.{Body}
use Rattle.message_types.specs.declared.telling.Bring.{Bring}
use Rattle.script_lines.specs.declared.script.Script.{Script}
use Rattle.run_rules.specs.HostMay.{CanAnswer, HostMay}
use Rattle.run_rules.specs.Messages.{ComesIn}
use Rattle.run_rules.specs.Past.{Always, In}
use Rattle.run_rules.specs.Runs.{StepMeets, StepsMeet, firsts_of, past_of}
use Rattle.run_tokens.specs.Pasts.{tree_at}
use Rattle.run_rules.specs.Steps.{steps_of_host}
use Rattle.run_rules.specs.Tokens.{BeginsCall, NoneOpen, Uses}
use Rattle.run_rules.specs.Views.{look_of, sees}
use Rattle.run_tokens.specs.CacheLaws.{CachedAt}
use Rattle.run_history.proofs.Knowing.{agrees}
use Rattle.run_history.proofs.Stances.{covers_one, look_one}
use Rattle.run_history.specs.Agreement.{CellsAgree}
use Rattle.run_history.specs.Exactly.{AnswersFromCacheExactly}
use Rattle.run_tokens.specs.CacheLaws.{CachedOn, CoveredOn}
use Rattle.run_parts.proofs.PlaceLaw.{legal}
use Rattle.run_parts.specs.Contents.{Contents}
use Rattle.run_parts.specs.Legal.{Legal, LegalStep}
use Rattle.run_contents.proofs.DeedSteps.{runs_meet}
use Rattle.run_contents.proofs.Uses.{run_tokens}
use Rattle.run_contents.specs.Steps.{IsOfJournal}
use Rattle.run_rules.specs.declared.applied.Answer.{Answer}
use Rattle.run_rules.specs.declared.step.Step.{Step}

none_there : {X : Type 0} (xs : List X) → ((x : X) → In x xs → ⊥) → xs ≡ []
none_there [] none = refl
none_there (x ∷ xs) none = absurd (none x (inl refl))

module _ (script : Script) (host : HostId) (past : List Step) (s : Step) (m : HostMay script host past s) (tree : View)
    (agrees : AgreeUnder m.stance.held (sees past s) tree) where
  -- it could on its own view, too
  can : (call : Call) (on : CoveredOn script.roster host past s tree call) → CanAnswer script.roster host past s m.stance call on.reply
  can call on =
      let look = look_one on.stance m.stance call in
      let back : AgreeUnder m.stance.held tree (sees past s) = λ fid part covered. sym (agrees fid part covered) in
      let covered : IsCovered m.stance.held tree (look_of m.stance call) =
      covers_one on.stance m.stance (needs_of tree (look_of m.stance call)) (subst (λ l. IsCovered on.stance.held tree l) look on.covered) in
      record {
        covered = covered_alike m.stance.held tree (sees past s) back (look_of m.stance call) covered;
        settled =
            ap reply_now (sym (outcome_alike m.stance.held tree (sees past s) back (look_of m.stance call) covered))
            ∙ (ap (λ l. reply_now (outcome tree l)) (sym look) ∙ on.settled);
      }

  -- and what it answers it could answer on the tree
  could : (call : Call) (reply : Reply) → CanAnswer script.roster host past s m.stance call reply → CoveredOn script.roster host past s tree call
  could call reply k = record {
    stance = m.stance;
    reply = reply;
    covered = covered_alike m.stance.held (sees past s) tree agrees (look_of m.stance call) k.covered;
    settled = ap reply_now (sym (outcome_alike m.stance.held (sees past s) tree agrees (look_of m.stance call) k.covered)) ∙ k.settled;
  }

  -- a call begins while none is open, and when no message comes
  none_open : (k : ℕ) (call : Call) → BeginsCall s k call → NoneOpen past
  none_open k call b = elim (m.lines.begins k call b) [ inl c ↦ (m.lines.free c.0 c.1).0 | inr c ↦ (m.ends.after c).1 ]

  none_comes : (k : ℕ) (call : Call) → BeginsCall s k call → (v : ServerId) (e n : ℕ) (b : Body) → ComesIn s v e n b → ⊥
  none_comes k call begun v e n b c = elim (m.lines.begins k call begun) [
    | inl at ↦ let p = sym at.1 ∙ c.1 in cc
    | inr at ↦ let p = sym at ∙ c.1 in cc
  ]

  none_used : (k : ℕ) (call : Call) → BeginsCall s k call → (w : Bring) → Uses past s w → ⊥
  none_used k call begun w u = elim u.0 [ inl g ↦ none_comes k call begun _ _ _ _ g.1 | inr d ↦ none_comes k call begun _ _ _ _ d.1 ]

  begun_by : (a : Answer) → In a s.answers → a.first ≡ true → BeginsCall s a.k a.call
  begun_by a i f = inr (a, i, f, refl, refl)

  answered : (k : ℕ) (call : Call) → BeginsCall s k call → CoveredOn script.roster host past s tree call → (a : Answer) × In a s.answers × (a.k ≡ k) × (a.first ≡ true)
  answered k call begun on =
      let a = m.answers.answers_all k call on.reply (inl begun) (can call on) in
      (a.0, a.1, a.2, elim (m.answers.first a.0 a.1) [ inl f ↦ f | inr on ↦ absurd (none_open k call begun _ on.1.0) ])

  from_cache : (a : Answer) → In a s.answers → a.first ≡ true → CoveredOn script.roster host past s tree a.call
  from_cache a i f = could a.call a.reply (m.answers.answers a i).2

  quiet : (a : Answer) → In a s.answers → a.first ≡ true → (s.sent ≡ []) × (s.taken ≡ []) × (s.dropped ≡ [])
  quiet a i f = (
    m.answers.quiet a i f,
    none_there s.taken (λ t taken. let w = m.tokens.takes t taken in none_used a.k a.call (begun_by a i f) w.0 w.1),
    (m.answers.keeps a i).0,
  )

  pub cached_on : CachedOn script.roster host past s tree
  cached_on = record {
    covered = answered;
    first = λ a i f. (begun_by a i f, from_cache a i f);
    quiet = quiet;
  }

-- on the tree of the journal's history
module _ (start : Tree) (script : Script) (host : HostId) (past : List Step) (s : Step) where
  pub cached_at : start.roster ≡ script.roster → CachedOn script.roster host (steps_of_host host past) s (tree_view (tree_at start past)) → CachedAt start host past s
  cached_at e on = subst (λ r. CachedOn r host (steps_of_host host past) s (tree_view (tree_at start past))) (sym e) on

-- in a run
module _ (script : Script) (start : Tree) (firsts : ServerId → ℕ) (c : Contents) (same : IsOfJournal c) where
  at_node : (n : Node) (past : List Step) (s : Step) → StepsMeet script start firsts past → StepMeets script start firsts n past s → LegalStep c firsts n s past
      → (host : HostId) (tree_is : Tree) → n ≡ Host host → IsWellFormed tree_is → CellsAgree c past tree_is → CachedOn script.roster host (steps_of_host host past) s (tree_view tree_is)
  at_node (Host k) past s run m legal host tree_is e formed cells =
      let one : k ≡ host = cc in
      subst (λ h. CachedOn script.roster h (steps_of_host h past) s (tree_view tree_is)) one
      (cached_on script k (steps_of_host k past) s m.0 (tree_view tree_is) (agrees script start firsts c same past run k s m tree_is formed cells legal))
  at_node (Server v) past s run m legal host tree_is e formed cells = absurd (cc)

  always_cached : (past : List Step) → StepsMeet script start firsts past → Legal c firsts past
      → Always (λ before s. (host : HostId) (tree_is : Tree) → s.node ≡ Host host → IsWellFormed tree_is → CellsAgree c before tree_is → CachedOn script.roster host (steps_of_host host before) s (tree_view tree_is)) past
  always_cached [] steps legal = tt
  always_cached (s ∷ past) steps legal = (always_cached past steps.0 legal.0, at_node s.node past s steps.0 steps.1.0 legal.1)

pub answers_from_cache_exactly : AnswersFromCacheExactly
answers_from_cache_exactly script journal run c of_run =
    always_cached script run.start (firsts_of journal) c of_run.hosts (past_of journal) run.steps
    (legal c (firsts_of journal) (past_of journal) (run_tokens script journal run) (runs_meet script journal run c of_run))
