-- Calls that were answered between turns, as they are kept for the next one.
use Rattle.std.specs.Prelude.{List, Some, [], flat_map, map, slice_get, take, true, ℕ, ◌++◌, ◌≡◌}
use Rattle.base_types.specs.declared.ids.HostId.{HostId}
use Rattle.host_manager.specs.Spoken.{answered_step}
use Rattle.host_node.specs.declared.between.Between.{Between}
use Rattle.host_node.specs.declared.between.Entry.{Entry}
use Rattle.host_node.specs.declared.between.Spoken.{Spoken}
use Rattle.host_node.specs.declared.between.Spoken.TheVariants.{Answered, Asked}
use Rattle.message_calls.specs.Replies.{spell_reply}
use Rattle.run_rules.specs.Past.{In}
use Rattle.run_rules.specs.declared.applied.Answer.{Answer}
use Rattle.run_rules.specs.declared.step.Step.{Step}
use Rattle.script_lines.specs.declared.script.Deed.TheVariants.{Call as MakesCall}
use Rattle.script_lines.specs.declared.script.Line.{Line}
use Rattle.tree_calls.specs.declared.call.Call.{Call}
use Rattle.tree_calls.specs.declared.reply.Reply.{Reply}

-- a call that was answered: the place of its line, that line, its number among the host's calls, and the reply
pub record Said : Type 0 where
  pub place : ℕ
  pub line : Line
  pub k : ℕ
  pub call : Call
  pub reply : Reply

abbrev pub step_of : HostId → Said → Step
step_of host said = answered_step host said.line.number said.k said.call said.reply

abbrev pub entry_of : Said → Entry
entry_of said = record { place = said.place; k = said.k }

abbrev pub spelled_of : Said → List ℕ
spelled_of said = (spell_reply said.reply).bytes

-- it is the call of one of these lines, and its reply can be read back
pub record IsSaid (lines : List Line) (said : Said) : Type 0 where
  pub at : slice_get lines said.place ≡ Some said.line
  pub makes : said.line.deed ≡ MakesCall said.call
  pub fits : (spell_reply said.reply).fits ≡ true

-- steps of a host with these lines: first those that stand as steps, and then those of which an entry stands, and the
-- reply is spelled
pub record AreKept (lines : List Line) (host : HostId) (steps standing : List Step) (entries : List Entry)
    (spelled : List ℕ) : Type 0 where
  pub said : List Said
  pub all : (s : Said) → In s said → IsSaid lines s
  pub are : steps ≡ standing ++ map (step_of host) said
  pub entries_are : entries ≡ map entry_of said
  pub spelled_are : spelled ≡ flat_map spelled_of said

-- what the caller is told of a call's step: so many bytes in front of the room spell the reply, or there is none yet
abbrev pub IsToldOf : Step → Spoken → List ℕ → Type 0
IsToldOf s (Answered count) out = (a : Answer) × In a s.answers × (take count out ≡ (spell_reply a.reply).bytes)
IsToldOf s Asked out = s.answers ≡ []

-- these it holds
abbrev pub Holds : Between → List Line → HostId → List Step → Type 0
Holds b lines host steps = AreKept lines host steps b.steps.items b.entries.items b.spelled
