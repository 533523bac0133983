-- What is so of no step that meets all rules is so of no step of a run in which what is due is done.
use Rattle.std.proofs.Common.{◌≡◌, ◌∙◌, ℕ, List, [], ◌∷◌, subst, sym, refl, inl}
use Rattle.base_types.specs.declared.ids.HostId.{HostId}
use Rattle.base_types.specs.declared.ids.ServerId.{ServerId}
use Rattle.base_types.specs.declared.ids.Node.{Node}
use Rattle.base_types.specs.declared.ids.Node.TheVariants.{Host, Server}
use Rattle.tree_answers.specs.declared.tree.Tree.{Tree}
use Rattle.script_lines.specs.declared.script.Script.{Script}
use Rattle.message_types.specs.declared.message.Body.{Body}
use Rattle.message_types.specs.declared.message.Message.{Message}
use Rattle.run_rules.specs.Doings.{Doing, SentNow, doings_of}
use Rattle.run_rules.specs.HostDue.{HostDue}
use Rattle.run_rules.specs.HostMay.{HostMay}
use Rattle.run_rules.specs.Messages.{Sends}
use Rattle.run_rules.specs.Past.{Always, EachOnce, In}
use Rattle.run_rules.specs.Runs.{StepDue, StepMeets, StepsMeet, firsts_of, past_of}
use Rattle.run_rules.specs.ServerDue.{ServerDue}
use Rattle.run_rules.specs.ServerMay.{ServerMay}
use Rattle.run_rules.specs.Steps.{steps_of_host, steps_of_server}
use Rattle.run_rules.specs.declared.step.Cause.TheVariants.{Message as Came, Lapse}
use Rattle.run_rules.specs.declared.step.Step.{Step}
use Rattle.run_due.specs.Dutiful.{Never, NeverAt, NeverFrom, NeverIn, SaysTwice, Silent, SilentAt}

-- words of a step

pub unsent : (s : Step) (v : ServerId) (e n : ℕ) (b : Body) → s.sent ≡ [] → Sends s v e n b → ⊥
unsent s v e n b none x = subst (In x.0) none x.1

pub untold : (s : Step) (h : HostId) (b : Body) → s.sent ≡ [] → SentNow s h b → ⊥
untold s h b none x = subst (In x.0) none x.1

pub lapse_came : (s : Step) (m : Message) → s.cause ≡ Lapse → s.cause ≡ Came m → ⊥
lapse_came s m e q = let r : Lapse ≡ Came m = sym e ∙ q in cc

pub said_once : {A : Type 0} (past : A) (s : Step) → EachOnce s.sent → SaysTwice past s → ⊥
said_once past s once (m, ms, e) = (subst EachOnce e once).0 (inl refl)

start_is : (a b : Tree) → a ∷ [] ≡ b ∷ [] → a ≡ b
start_is a b e = cc

-- hosts

module _ (script : Script) (start : Tree) (firsts : ServerId → ℕ)
    (Bad : Script → HostId → List Step → Step → Type 0)
    (bad : (host : HostId) (past : List Step) (s : Step) → HostMay script host past s → HostDue script host past s
    → Bad script host past s → ⊥) where
  one_host : (n : Node) (past : List Step) (s : Step) → StepMeets script start firsts n past s
      → StepDue script start firsts n past s → (host : HostId) → n ≡ Host host
      → Bad script host (steps_of_host host past) s → ⊥
  one_host (Host k) past s m d host e =
      let q : k ≡ host = cc in
      bad host (steps_of_host host past) s (subst (λ (h : HostId). HostMay script h (steps_of_host h past) s) q m.0)
      (subst (λ (h : HostId). HostDue script h (steps_of_host h past) s) q d)
  one_host (Server k) past s m d host e = absurd (cc)

  hosts : (past : List Step) → StepsMeet script start firsts past
      → Always (λ before s. StepDue script start firsts s.node before s) past
      → Always (λ before s. (host : HostId) → s.node ≡ Host host → Bad script host (steps_of_host host before) s → ⊥) past
  hosts [] run due = tt
  hosts (s ∷ past) run due = (hosts past run.0 due.0, one_host s.node past s run.1.0 due.1)

pub never_in : (Bad : Script → HostId → List Step → Step → Type 0)
    → ((script : Script) (host : HostId) (past : List Step) (s : Step) → HostMay script host past s
    → HostDue script host past s → Bad script host past s → ⊥) → NeverIn Bad
never_in Bad bad script journal run due =
    hosts script run.start (firsts_of journal) Bad (bad script) (past_of journal) run.steps
    (subst (λ (t : Tree). Always (λ before s. StepDue script t (firsts_of journal) s.node before s) (past_of journal))
    (start_is due.start run.start (sym due.starts ∙ run.starts)) due.steps)

pub never : (Bad : List Step → Step → Type 0)
    → ((script : Script) (host : HostId) (past : List Step) (s : Step) → HostMay script host past s
    → HostDue script host past s → Bad past s → ⊥) → Never Bad
never Bad bad = never_in (λ script host past s. Bad past s) bad

pub silent : (Due : List Step → Step → Type 0)
    → ((script : Script) (host : HostId) (past : List Step) (s : Step) → HostDue script host past s
    → s.sent ≡ [] → Due past s → ⊥) → Silent Due
silent Due bad =
    never (λ past s. (s.sent ≡ []) × Due past s) (λ script host past s may due x. bad script host past s due x.0 x.1)

-- servers

module _ (script : Script) (start : Tree) (firsts : ServerId → ℕ)
    (Bad : Script → Tree → ServerId → List Step → List Doing → Step → Type 0)
    (bad : (v : ServerId) (steps : List Step) (past : List Doing) (s : Step) → ServerMay script start v steps past s
    → ServerDue script start v steps past s → Bad script start v steps past s → ⊥) where
  one_server : (n : Node) (past : List Step) (s : Step) → StepMeets script start firsts n past s
      → StepDue script start firsts n past s → (server : ServerId) → n ≡ Server server
      → Bad script start server (steps_of_server server past) (doings_of (firsts server) server past) s → ⊥
  one_server (Host k) past s m d server e = absurd (cc)
  one_server (Server k) past s m d server e =
      let q : k ≡ server = cc in
      bad server (steps_of_server server past) (doings_of (firsts server) server past) s
      (subst (λ (v : ServerId). ServerMay script start v (steps_of_server v past) (doings_of (firsts v) v past) s) q m.0)
      (subst (λ (v : ServerId). ServerDue script start v (steps_of_server v past) (doings_of (firsts v) v past) s) q d)

  servers : (past : List Step) → StepsMeet script start firsts past
      → Always (λ before s. StepDue script start firsts s.node before s) past
      → Always (λ before s. (server : ServerId) → s.node ≡ Server server
      → Bad script start server (steps_of_server server before) (doings_of (firsts server) server before) s → ⊥) past
  servers [] run due = tt
  servers (s ∷ past) run due = (servers past run.0 due.0, one_server s.node past s run.1.0 due.1)

pub never_from : (Bad : Script → Tree → ServerId → List Step → List Doing → Step → Type 0)
    → ((script : Script) (start : Tree) (v : ServerId) (steps : List Step) (past : List Doing) (s : Step)
    → ServerMay script start v steps past s → ServerDue script start v steps past s
    → Bad script start v steps past s → ⊥) → NeverFrom Bad
never_from Bad bad script journal start run due is =
    servers script start (firsts_of journal) Bad (bad script start) (past_of journal)
    (subst (λ (t : Tree). StepsMeet script t (firsts_of journal) (past_of journal))
    (start_is run.start start (sym run.starts ∙ is)) run.steps)
    (subst (λ (t : Tree). Always (λ before s. StepDue script t (firsts_of journal) s.node before s) (past_of journal))
    (start_is due.start start (sym due.starts ∙ is)) due.steps)

pub never_at : (Bad : ServerId → List Doing → Step → Type 0)
    → ((script : Script) (start : Tree) (v : ServerId) (steps : List Step) (past : List Doing) (s : Step)
    → ServerMay script start v steps past s → ServerDue script start v steps past s → Bad v past s → ⊥) → NeverAt Bad
never_at Bad bad = never_from (λ script start v steps past s. Bad v past s) bad

pub silent_at : (Due : ServerId → List Doing → Step → Type 0)
    → ((script : Script) (start : Tree) (v : ServerId) (steps : List Step) (past : List Doing) (s : Step)
    → ServerDue script start v steps past s → s.sent ≡ [] → Due v past s → ⊥) → SilentAt Due
silent_at Due bad =
    never_at (λ v past s. (s.sent ≡ []) × Due v past s)
    (λ script start v steps past s may due x. bad script start v steps past s due x.0 x.1)
