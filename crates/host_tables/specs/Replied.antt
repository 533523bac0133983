-- A whole step: a call that changes nothing is answered at once, by a line.
use Rattle.host_cache.specs.Seen.{Kept, seen}
use Rattle.host_tables.specs.AtOnce.{IsFree, IsNextCall, answers_line, first_answer}
use Rattle.host_tables.specs.Machine.{Rests, StepRight}
use Rattle.host_tables.specs.Stands.{IsCoveredFrom, needs_from, verdict_from}
use Rattle.host_tables.specs.Using.{used_all}
use Rattle.host_tables.specs.declared.tables.Tables.{Tables}
use Rattle.need_host.specs.Calls.Verdict.{Replies}
use Rattle.run_rules.specs.declared.step.Step.{Step}
use Rattle.script_lines.specs.declared.script.Script.{Script}
use Rattle.std.specs.Prelude.{List, None, [], ℕ, ◌+◌, ◌≡◌}
use Rattle.token_types.specs.declared.token.Need.{Need}
use Rattle.tree_calls.specs.declared.call.Call.{Call}
use Rattle.tree_calls.specs.declared.reply.Reply.{Reply}

-- the cache with the tokens first that helped with the needs
abbrev pub IsPromoted : Kept → Kept → List Need → Type 0
IsPromoted old new needs = seen new ≡ record (seen old) { held = used_all needs old.held }

-- the tables after the reply
abbrev pub replied : Tables → Kept → Tables
replied m cache = record m { cache = cache; begun = m.begun + 1; lost = [] }

-- a bare reply is no end of a label
abbrev pub RepliedRight : Type 0
RepliedRight = (script : Script) (m : Tables) (past : List Step) (line : ℕ) (call : Call)
    (covered : IsCoveredFrom m call)
    (reply : Reply) (cache : Kept) → Rests script m past → IsFree m → IsNextCall script m.host past line call
    → verdict_from m call ≡ Replies reply → IsPromoted m.cache cache (needs_from m call)
    → StepRight script m (replied m cache) past (answers_line m.host line (first_answer m call reply) None [])
