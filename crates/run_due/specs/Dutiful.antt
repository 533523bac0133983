-- What no step does in a run in which what is due is done.
use Rattle.std.specs.Prelude.{◌≡◌, List, [], ◌∷◌}
use Rattle.base_types.specs.declared.ids.HostId.{HostId}
use Rattle.base_types.specs.declared.ids.ServerId.{ServerId}
use Rattle.base_types.specs.declared.ids.Node.TheVariants.{Host, Server}
use Rattle.tree_answers.specs.declared.tree.Tree.{Tree}
use Rattle.message_types.specs.declared.message.Message.{Message}
use Rattle.script_lines.specs.declared.script.Script.{Script}
use Rattle.run_rules.specs.Doings.{Doing, doings_of}
use Rattle.run_rules.specs.Past.{Always}
use Rattle.run_rules.specs.Runs.{IsDutiful, IsRun, firsts_of, past_of}
use Rattle.run_rules.specs.Steps.{steps_of_host, steps_of_server}
use Rattle.run_rules.specs.declared.journal.Journal.{Journal}
use Rattle.run_rules.specs.declared.step.Step.{Step}

-- no step of a host is so, after the host's own earlier steps
abbrev pub NeverIn : (Script → HostId → List Step → Step → Type 0) → Type 0
NeverIn Bad = (script : Script) (journal : Journal) → IsRun script journal → IsDutiful script journal
    → Always (λ past s. (host : HostId) → s.node ≡ Host host → Bad script host (steps_of_host host past) s
    → ⊥) (past_of journal)

abbrev pub Never : (List Step → Step → Type 0) → Type 0
Never Bad = NeverIn (λ script host past s. Bad past s)

-- no step of a server is so, after its own earlier steps and its doings in them, from the start tree on
abbrev pub NeverFrom : (Script → Tree → ServerId → List Step → List Doing → Step → Type 0) → Type 0
NeverFrom Bad = (script : Script) (journal : Journal) (start : Tree) → IsRun script journal → IsDutiful script journal
    → journal.start ≡ start ∷ []
    → Always (λ past s. (server : ServerId) → s.node ≡ Server server
    → Bad script start server (steps_of_server server past) (doings_of (firsts_of journal server) server past) s
    → ⊥) (past_of journal)

abbrev pub NeverAt : (ServerId → List Doing → Step → Type 0) → Type 0
NeverAt Bad = NeverFrom (λ script start server steps past s. Bad server past s)

-- a host, a server says nothing, though this is due
abbrev pub Silent : (List Step → Step → Type 0) → Type 0
Silent Due = Never (λ past s. (s.sent ≡ []) × Due past s)

abbrev pub SilentAt : (ServerId → List Doing → Step → Type 0) → Type 0
SilentAt Due = NeverAt (λ server past s. (s.sent ≡ []) × Due server past s)

-- a message is sent twice, one after the other
abbrev pub SaysTwice : {A : Type 0} → A → Step → Type 0
SaysTwice past s = (m : Message) × (ms : List Message) × (s.sent ≡ m ∷ m ∷ ms)
