-- What hosts' rules say of contents: in each step that meets them, and so in each step of a run.
use Rattle.std.specs.Prelude.{List, [], true, ℕ, ◌∷◌, ◌≡◌}
use Rattle.base_types.specs.declared.ids.HostId.{HostId}
use Rattle.base_types.specs.declared.ids.Node.{Node}
use Rattle.base_types.specs.declared.ids.Node.TheVariants.{Host, Server}
use Rattle.base_types.specs.declared.ids.ServerId.{ServerId}
use Rattle.need_host.specs.Shows.{shows}
use Rattle.message_types.specs.declared.asking.Fetch.{Fetch as FetchOf}
use Rattle.message_types.specs.declared.message.Body.TheVariants.{Done, Fetch, Grant}
use Rattle.message_types.specs.declared.message.Message.{Message}
use Rattle.message_types.specs.declared.telling.Done.{Done as DoneOf}
use Rattle.message_types.specs.declared.telling.Grant.{Grant as GrantOf}
use Rattle.script_lines.specs.declared.script.Script.{Script}
use Rattle.token_types.specs.Conflicts.{need_of}
use Rattle.token_types.specs.declared.token.Token.{Token}
use Rattle.tree_laws.specs.Parts.{Part}
use Rattle.run_rules.specs.Doings.{Doing, SentTo, TookNow, after_admitting, doings_of}
use Rattle.run_rules.specs.Doings.Doing.{Sent}
use Rattle.run_rules.specs.HostMay.{HostMay}
use Rattle.run_rules.specs.Past.{In}
use Rattle.run_rules.specs.Runs.{IsRun, past_of}
use Rattle.run_rules.specs.Steps.{steps_of_host}
use Rattle.run_rules.specs.declared.journal.Journal.{Journal}
use Rattle.run_parts.specs.Contents.{Contents}
use Rattle.run_contents.specs.Steps.{HostRun, IsOfJournal}
use Rattle.run_rules.specs.declared.step.Step.{Step}

-- so it is in each step that meets a host's rules, after steps that do
abbrev pub HoldsForHosts : (Contents → List Step → Step → Type 0) → Type 0
HoldsForHosts Holds =
    (c : Contents) (script : Script) (host : HostId) (past : List Step) (s : Step) → IsOfJournal c
    → HostRun script host past → HostMay script host past s → Holds c past s

-- of a host's step and its own earlier ones
abbrev pub AtNode : (List Step → Step → Type 0) → Node → List Step → Step → Type 0
AtNode Holds (Host host) past s = Holds (steps_of_host host past) s
AtNode Holds (Server server) past s = Unit {0}

-- of each step of a host
abbrev pub EachOwn : (List Step → Step → Type 0) → List Step → Type 0
EachOwn Holds [] = Unit {0}
EachOwn Holds (s ∷ past) = EachOwn Holds past × AtNode Holds s.node past s

-- in each run
abbrev pub HoldsInRuns : (Contents → List Step → Step → Type 0) → Type 0
HoldsInRuns Holds =
    (c : Contents) (script : Script) (journal : Journal) → IsOfJournal c → IsRun script journal
    → EachOwn (Holds c) (past_of journal)

-- so it is for each message of a list that is sent, one after the other, after doings
abbrev pub EachSent : (List Doing → Doing → Type 0) → List Message → List Doing → Type 0
EachSent Holds [] past = Unit {0}
EachSent Holds (m ∷ ms) past =
    Holds past (Sent m.host m.epoch m.moves m.body) × EachSent Holds ms (Sent m.host m.epoch m.moves m.body ∷ past)

-- a Done brings no token that shows a part, but one that was sent before
abbrev pub DonesAreBlind : List Doing → Doing → Type 0
DonesAreBlind past a =
    (h : HostId) (e n : ℕ) (p : Part) (d : DoneOf) (t : Token) → a ≡ Sent h e n (Done d) → In t d.bring.tokens
    → shows t.kind p ≡ true → SentTo past h e n (Done d)

abbrev pub SentAtNode : (ServerId → ℕ) → Node → List Step → Step → Type 0
SentAtNode firsts (Host host) past s = Unit {0}
SentAtNode firsts (Server v) past s = EachSent DonesAreBlind s.sent (after_admitting s (doings_of (firsts v) v past))

-- in each step of a server
abbrev pub DonesShowNothing : (ServerId → ℕ) → List Step → Type 0
DonesShowNothing firsts [] = Unit {0}
DonesShowNothing firsts (s ∷ past) = DonesShowNothing firsts past × SentAtNode firsts s.node past s

-- a Grant brings tokens that a Fetch asks for, which was taken in this epoch
abbrev pub GrantsAreAsked : List Doing → Doing → Type 0
GrantsAreAsked past a =
    (h : HostId) (e n : ℕ) (g : GrantOf) → a ≡ Sent h e n (Grant g)
    → (f : FetchOf) × (k : ℕ) × TookNow past h k (Fetch f) × (f.number ≡ g.bring.number) × (f.fid ≡ g.bring.fid)
    × ((t : Token) → In t g.bring.tokens → In (need_of t) f.needs)

abbrev pub GrantsAtNode : (ServerId → ℕ) → Node → List Step → Step → Type 0
GrantsAtNode firsts (Host host) past s = Unit {0}
GrantsAtNode firsts (Server v) past s = EachSent GrantsAreAsked s.sent (after_admitting s (doings_of (firsts v) v past))

abbrev pub GrantsBringNeeds : (ServerId → ℕ) → List Step → Type 0
GrantsBringNeeds firsts [] = Unit {0}
GrantsBringNeeds firsts (s ∷ past) = GrantsBringNeeds firsts past × GrantsAtNode firsts s.node past s
