-- In every run servers decide Changes legally.
use Rattle.std.proofs.Common.{Bool, List, arith, false, inl, inr, length, refl, subst, true, ℕ, ◌∷◌, ◌≡◌, ◌≤◌}
use Rattle.std.specs.Prelude.{[], if◌then◌else◌}
use Rattle.base_types.specs.declared.ids.HostId.{HostId}
use Rattle.base_types.specs.declared.ids.Node.{Node}
use Rattle.base_types.specs.declared.ids.Node.TheVariants.{Host, Server}
use Rattle.base_types.specs.declared.ids.ServerId.{ServerId}
use Rattle.tree_calls.specs.Limits.{keeps_limit}
use Rattle.need_host.specs.Questions.{is_change}
use Rattle.tree_answers.specs.Answers.{answer_to}
use Rattle.tree_answers.specs.declared.tree.Tree.{Tree}
use Rattle.message_types.specs.Soundness.{HasRoom}
use Rattle.message_types.specs.declared.message.Body.{Body}
use Rattle.script_lines.specs.declared.script.Script.{Script}
use Rattle.token_types.specs.declared.token.Token.{Token}
use Rattle.run_rules.specs.Doings.{Doing, Granted, after_cause, doings_of}
use Rattle.run_rules.specs.Doings.Doing.{MakesWant, Moves, Took, WritesDown}
use Rattle.run_rules.specs.Kept.{filesets_after, filesets_first, filesets_kept, filesets_through, is_refusal}
use Rattle.run_rules.specs.Messages.{Said}
use Rattle.run_rules.specs.Past.{Always, In}
use Rattle.run_rules.specs.Runs.{IsRun, StepMeets, StepsMeet, firsts_of, past_of}
use Rattle.run_rules.specs.ServerDecides.{IsWrittenSo, MayDecideAll, by_cause, decisions}
use Rattle.run_rules.specs.Steps.{steps_of_host, steps_of_server}
use Rattle.run_rules.specs.declared.applied.Applied.TheVariants.{Done as IsDone, IsDown, Replied, Stored}
use Rattle.run_rules.specs.declared.applied.Applied.TheVariants.{Moves as IsMoved, Wants as IsWanted}
use Rattle.run_history.proofs.Deciding.{legal_change}
use Rattle.run_history.proofs.Instance.{contents_of, is_of_run}
use Rattle.run_history.specs.Changes.{AgreesKept, DecidesLegally, EachChange, IsLegalChange, IsMeant}
use Rattle.run_history.specs.Changes.{ServersDecideLegally}
use Rattle.run_rules.specs.declared.journal.Journal.{Journal}
use Rattle.run_contents.proofs.DeedSteps.{limit}
use Rattle.run_contents.proofs.Grants.{AllTaken, Heard, all_taken, causes as causes_taken, taken_took, wanted}
use Rattle.run_contents.proofs.Grants.{written_down}
use Rattle.run_contents.proofs.Keeping.{all_kept, answer_kept, cause_kept, sizes, written_sound}
use Rattle.run_contents.proofs.Servers.{cause_heard, heard}
use Rattle.run_contents.proofs.Starts.{starts_kept}
use Rattle.run_contents.proofs.Tokens.{AllGood, all_good, causes as causes_good, plain}
use Rattle.run_contents.specs.Gives.{IsKept}
use Rattle.run_rules.specs.declared.applied.Applied.{Applied}
use Rattle.run_rules.specs.declared.applied.Written.{Written}
use Rattle.run_rules.specs.declared.step.Cause.{Cause}
use Rattle.run_rules.specs.declared.step.Step.{Step}

-- a Change that is written down, and what is so then
pub record WrittenAt (v : ServerId) (S : List Doing) (K : Tree) (x : Written) : Type 0 where
  pub so : IsWrittenSo v K S x
  pub keeps : IsKept K
  pub low : (t : Token) → Granted v S t → t.host.0 ≤ 16
  pub room : (t : Token) → Granted v S t → HasRoom t.kind
  pub taken : AllTaken S

-- what follows of each, and what two say of each
pub each_map : (P Q : List Doing → Tree → Written → Type 0) (cause : Cause)
    → ((S : List Doing) (K : Tree) (x : Written) → P S K x → Q S K x) → (xs : List Applied) (K : Tree) (S : List Doing)
    → EachChange P cause K S xs → EachChange Q cause K S xs
each_map P Q cause to [] K S all = tt
each_map P Q cause to (IsDone x ∷ xs) K S all =
    (to S K x all.0, each_map P Q cause to xs (filesets_after cause K (IsDone x)) (WritesDown x ∷ S) all.1)
each_map P Q cause to (IsWanted x ∷ xs) K S all =
    each_map P Q cause to xs (filesets_after cause K (IsWanted x)) (MakesWant x ∷ S) all
each_map P Q cause to (Replied x ∷ xs) K S all = each_map P Q cause to xs (filesets_after cause K (Replied x)) S all
each_map P Q cause to (Stored h f ss n ∷ xs) K S all =
    each_map P Q cause to xs (filesets_after cause K (Stored h f ss n)) S all
each_map P Q cause to (IsDown h ∷ xs) K S all = each_map P Q cause to xs (filesets_after cause K (IsDown h)) S all
each_map P Q cause to (IsMoved move ∷ xs) K S all =
    each_map P Q cause to xs (filesets_after cause K (IsMoved move)) (Moves move ∷ S) all

pub each_both : (P Q : List Doing → Tree → Written → Type 0) (cause : Cause) (xs : List Applied) (K : Tree) (S : List Doing)
    → EachChange P cause K S xs → EachChange Q cause K S xs → EachChange (λ S K x. P S K x × Q S K x) cause K S xs
each_both P Q cause [] K S a b = tt
each_both P Q cause (IsDone x ∷ xs) K S a b =
    ((a.0, b.0), each_both P Q cause xs (filesets_after cause K (IsDone x)) (WritesDown x ∷ S) a.1 b.1)
each_both P Q cause (IsWanted x ∷ xs) K S a b =
    each_both P Q cause xs (filesets_after cause K (IsWanted x)) (MakesWant x ∷ S) a b
each_both P Q cause (Replied x ∷ xs) K S a b = each_both P Q cause xs (filesets_after cause K (Replied x)) S a b
each_both P Q cause (Stored h f ss n ∷ xs) K S a b =
    each_both P Q cause xs (filesets_after cause K (Stored h f ss n)) S a b
each_both P Q cause (IsDown h ∷ xs) K S a b = each_both P Q cause xs (filesets_after cause K (IsDown h)) S a b
each_both P Q cause (IsMoved move ∷ xs) K S a b =
    each_both P Q cause xs (filesets_after cause K (IsMoved move)) (Moves move ∷ S) a b

module _ (script : Script) (start : Tree) (firsts : ServerId → ℕ) (past : List Step)
    (run : StepsMeet script start firsts past) (v : ServerId) (s : Step)
    (few : length script.roster.hosts ≤ 16) where
  abbrev AllSaid : List Doing → Type 0
  AllSaid S = (h : HostId) (e n : ℕ) (b : Body) → In (Took h e n b) S → Said (steps_of_host h past) v e n b

  on_said : (S : List Doing) (a : Doing) → ((h : HostId) (e n : ℕ) (b : Body) → Took h e n b ≡ a → ⊥) → AllSaid S
      → AllSaid (a ∷ S)
  on_said S a never old h e n b (inl q) = absurd (never h e n b q)
  on_said S a never old h e n b (inr i) = old h e n b i

  low : (S : List Doing) → AllGood script v S → (t : Token) → Granted v S t → t.host.0 ≤ 16
  low S good t g =
      let here : t.host.0 ≤ length script.roster.hosts = (good t g).0 in
      let most = few in
      omega (arith, here, most)

  -- what is kept after a Change is well formed, with nothing unsaved
  next : (K : Tree) (x : Written) → IsKept K
      → (is_refusal x.answer.reply ≡ false → (keeps_limit x.answer.call ≡ true) × (is_change x.answer.call ≡ true))
      → IsKept (filesets_after s.cause K (IsDone x))
  next K x k sound = go (is_refusal x.answer.reply) refl
    where
      go : (b : Bool) → is_refusal x.answer.reply ≡ b
          → IsKept (if b then K else (answer_to K x.answer.host x.answer.call).tree)
      go true e = k
      go false e = let q = sound e in answer_kept K k x.answer.host x.answer.call q.0 q.1

  decides : (xs : List Applied) (S0 S : List Doing) (K : Tree) → MayDecideAll v K S0 S s xs → IsKept K → AllTaken S
      → Heard v S0 s S → AllSaid S → AllGood script v S
      → EachChange (WrittenAt v) s.cause K S xs
  decides [] S0 S K may k taken heard said good = tt
  decides (IsWanted x ∷ xs) S0 S K may k taken heard said good =
      let q = wanted v S0 s x K S may.0 taken heard in
      decides xs S0 (MakesWant x ∷ S) K may.1 k q.0 q.1 (on_said S (MakesWant x) (λ h e n b p. cc) said)
      (plain script v S (MakesWant x) (λ h e n b q. cc) (λ h ts q. cc) good)
  decides (IsDone x ∷ xs) S0 S K may k taken heard said good =
      let q = written_down v S0 s x S taken heard in (
        record { so = may.0; keeps = k; low = low S good; room = λ t g. (good t g).1; taken = taken },
        decides xs S0 (WritesDown x ∷ S) (filesets_after s.cause K (IsDone x)) may.1
            (next K x k (written_sound script start firsts past run v s K S taken said x may.0)) q.0 q.1
            (on_said S (WritesDown x) (λ h e n b p. cc) said)
            (plain script v S (WritesDown x) (λ h e n b q. cc) (λ h ts q. cc) good),
      )
  decides (Replied x ∷ xs) S0 S K may k taken heard said good = elim may.0 [ ]
  decides (Stored h f ss n ∷ xs) S0 S K may k taken heard said good = elim may.0 [ ]
  decides (IsDown h ∷ xs) S0 S K may k taken heard said good = elim may.0 [ ]
  decides (IsMoved move ∷ xs) S0 S K may k taken heard said good = elim may.0 [ ]

  abbrev Decides : (List Doing → Tree → Written → Type 0) → Type 0
  Decides Holds =
      EachChange Holds s.cause (filesets_through s.cause (by_cause s.applied) (filesets_kept start v (steps_of_server v past)))
      (after_cause s.cause (doings_of (firsts v) v past)) (decisions s.applied)

  step : StepMeets script start firsts (Server v) past s → IsKept (filesets_kept start v (steps_of_server v past)) → Decides (WrittenAt v)
  step m k =
      let S = doings_of (firsts v) v past in
      decides (decisions s.applied) S (after_cause s.cause S)
      (filesets_through s.cause (by_cause s.applied) (filesets_kept start v (steps_of_server v past))) m.0.works.decides
      (cause_kept script start firsts past run v s m s.applied (filesets_kept start v (steps_of_server v past))
      (sizes script start firsts past run v s m) k)
      (causes_taken s.cause S (all_taken script start firsts past run v)) (taken_took S s)
      (λ h e n b i. cause_heard h e n b script start firsts past run v s m.1
      (heard h e n b script start firsts past run v) i)
      (causes_good script v s.cause S (all_good script start firsts past run v))

module _ (script : Script) (start : Tree) (firsts : ServerId → ℕ) (few : length script.roster.hosts ≤ 16)
    (first : (v : ServerId) → IsKept (filesets_first start v)) where
  at_node : (n : Node) (past : List Step) (s : Step) (run : StepsMeet script start firsts past)
      → StepMeets script start firsts n past s → (v : ServerId) → n ≡ Server v
      → Decides script start firsts past run v s few (WrittenAt v)
  at_node (Host h) past s run m v e = cc
  at_node (Server k) past s run m v e =
      let same : k ≡ v = let q : Server k ≡ Server v = e in cc in
      subst (λ w. Decides script start firsts past run w s few (WrittenAt w)) same
      (step script start firsts past run k s few m (all_kept script start firsts first past run k))

  -- each Change of a server's step
  pub step_writes : (past : List Step) (s : Step) → StepsMeet script start firsts (s ∷ past) → (v : ServerId)
      → s.node ≡ Server v
      → EachChange (WrittenAt v) s.cause (filesets_through s.cause (by_cause s.applied) (filesets_kept start v (steps_of_server v past)))
      (after_cause s.cause (doings_of (firsts v) v past)) (decisions s.applied)
  step_writes past s run v e = at_node s.node past s run.0 run.1.0 v e

  all_decide : (past : List Step) → StepsMeet script start firsts past → Always (DecidesLegally start firsts) past
  all_decide [] run = tt
  all_decide (s ∷ past) run = (
    all_decide past run.0,
    λ v e. each_map (WrittenAt v)
        (λ before K x. (tree_is : Tree) → AgreesKept v before K tree_is → IsMeant v x
        → IsLegalChange v s.cause K x tree_is) s.cause
        (λ S K x w tree_is agree meant. legal_change v s.cause S K x w.so w.keeps w.low tree_is agree meant)
        (decisions s.applied) (filesets_through s.cause (by_cause s.applied) (filesets_kept start v (steps_of_server v past)))
        (after_cause s.cause (doings_of (firsts v) v past)) (step_writes past s run v e),
  )

-- what a run begins with keeps the limits
pub run_limit : (script : Script) (journal : Journal) → (run : IsRun script journal) → length script.roster.hosts ≤ 16
run_limit script journal run =
    limit script journal run (contents_of run.start (firsts_of journal)) (is_of_run run.start (firsts_of journal))

pub run_first : (script : Script) (journal : Journal) (run : IsRun script journal) (v : ServerId)
    → IsKept (filesets_first run.start v)
run_first script journal run v =
    starts_kept run.start v (record { formed = run.valid.well_formed; rests = run.valid.at_rest }) run.valid.unmoved

pub servers_decide : ServersDecideLegally
servers_decide script journal run =
    all_decide script run.start (firsts_of journal) (run_limit script journal run) (run_first script journal run)
    (past_of journal) run.steps
