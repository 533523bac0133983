-- What the calls of a host's machine owe, over the steps that its tables stand for.
use Rattle.base_types.specs.declared.ids.Node.TheVariants.{Host}
use Rattle.base_types.specs.declared.ids.ServerId.{ServerId}
use Rattle.host_labels.specs.declared.uses.Labelled.{Labelled as UseOf}
use Rattle.host_tables.specs.Machine.{Rests}
use Rattle.host_tables.specs.Stands.{IsCoveredFrom, IsLack, verdict_from}
use Rattle.host_tables.specs.Tables.{labelled, site_at}
use Rattle.host_tables.specs.Tidy.{IsTidy}
use Rattle.host_tables.specs.declared.tables.Tables.{Tables}
use Rattle.message_types.specs.Soundness.{IsCall, IsSound}
use Rattle.message_types.specs.declared.message.Direction.TheVariants.{ToHost}
use Rattle.message_types.specs.declared.message.Message.{Message}
use Rattle.need_host.specs.Calls.Verdict.{Asks}
use Rattle.need_host.specs.Questions.{Question}
use Rattle.run_rules.specs.HostMay.{HostMay}
use Rattle.run_rules.specs.Past.{In}
use Rattle.run_rules.specs.Steps.{IsNextLine, lines_gone, lines_of}
use Rattle.run_rules.specs.Tokens.{end_of}
use Rattle.run_rules.specs.declared.step.Asked.{Asked}
use Rattle.run_rules.specs.declared.step.Cause.{Cause}
use Rattle.run_rules.specs.declared.step.Cause.TheVariants.{End, Line as LineOf, Message as Came}
use Rattle.run_rules.specs.declared.step.Labelled.{Labelled}
use Rattle.run_rules.specs.declared.step.Step.{Step}
use Rattle.script_lines.specs.declared.script.Deed.{Deed}
use Rattle.script_lines.specs.declared.script.Deed.TheVariants.{Call as MakesCall, Stop}
use Rattle.script_lines.specs.declared.script.Line.{Line}
use Rattle.script_lines.specs.declared.script.Script.{Script}
use Rattle.std.specs.Prelude.{List, None, Some, length, true, ℕ, ◌∷◌, ◌≡◌, ◌⊎◌}
use Rattle.token_types.specs.declared.token.Need.{Need}
use Rattle.tree_calls.specs.declared.roster.Roster.{Roster}

-- while the use of a label is being ended the call that ends it is open, and nothing is asked; no label in use has the
-- same end
abbrev pub EndsOpen : Tables → Type 0
EndsOpen m = (u : Labelled) → m.ending ≡ Some u
    → (c : Asked) × (m.call ≡ Some c) × (c.call ≡ end_of u) × (m.request ≡ None)
    × ((w : UseOf) → In w m.uses.labels → end_of (labelled w) ≡ end_of u → ⊥)

-- what is asked is asked for the open call: while a request is outstanding the call lacks a token, or it asks a server
-- and lacks nothing that the question takes
abbrev pub AsksForCall : Tables → Type 0
AsksForCall m = (c : Asked) → m.call ≡ Some c → (m.request ≡ None → ⊥)
    → ((need : Need) × IsLack m c.call need)
    ⊎ ((question : Question) × (verdict_from m c.call ≡ Asks question) × IsCoveredFrom m c.call)

-- The machine runs: its tables stand for the steps, the host is at rest, and what the tables hold may be said. Once it
-- has said Bye all its lines have gone.
pub record IsRunning (script : Script) (m : Tables) (past : List Step) : Type 0 where
  pub rests : Rests script m past
  pub tidy : IsTidy script.roster m
  pub ending : EndsOpen m
  pub asking : AsksForCall m
  pub gone : (v : ServerId) → (site_at m.sites v).said_bye ≡ true
      → lines_gone past ≡ length (lines_of script (Host m.host))

-- it runs on by a step, which does what it may and says only what is sound
pub record RunsOn (script : Script) (old new : Tables) (past : List Step) (s : Step) : Type 0 where
  pub may : HostMay script old.host past s
  pub sound : (y : Message) → In y s.sent → IsSound script.roster y
  pub host : new.host ≡ old.host
  pub runs : IsRunning script new (s ∷ past)

-- a line's call is at declared servers, and within the limits, as those of each sound script are
abbrev pub IsAskable : Roster → Deed → Type 0
IsAskable roster (MakesCall call) = IsCall roster call
IsAskable roster _ = Unit {0}

-- by a line of the host
abbrev pub LineRight : Tables → Tables → ℕ → Deed → Step → Type 0
LineRight old new number deed s = (script : Script) (past : List Step) → IsRunning script old past
    → (line : Line) → IsNextLine (lines_of script (Host old.host)) past number line → line.deed ≡ deed
    → IsAskable script.roster deed
    → RunsOn script old new past s × (s.cause ≡ LineOf number)

-- by a message
abbrev pub TakeRight : Tables → Tables → Message → Step → Type 0
TakeRight old new message s = (script : Script) (past : List Step) → IsRunning script old past
    → IsSound script.roster message → message.host ≡ old.host → message.direction ≡ ToHost
    → RunsOn script old new past s × (s.cause ≡ Came message)

-- at a lapse, to evict, and at the end, when all lines have gone
abbrev pub OwnRight : Cause → Tables → Tables → Step → Type 0
OwnRight cause old new s = (script : Script) (past : List Step) → IsRunning script old past
    → RunsOn script old new past s × (s.cause ≡ cause)

abbrev pub EndRight : Tables → Tables → Step → Type 0
EndRight old new s = (script : Script) (past : List Step) → IsRunning script old past
    → lines_gone past ≡ length (lines_of script (Host old.host))
    → RunsOn script old new past s × (s.cause ≡ End)

-- the last step: what comes after it isn't said
abbrev pub StopRight : Tables → ℕ → Step → Type 0
StopRight old number s = (script : Script) (past : List Step) → IsRunning script old past
    → (line : Line) → IsNextLine (lines_of script (Host old.host)) past number line → line.deed ≡ Stop
    → HostMay script old.host past s × ((y : Message) → In y s.sent → IsSound script.roster y)
    × (s.cause ≡ LineOf number)
