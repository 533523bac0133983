-- The tokens that servers grant in a run.
use Rattle.base_types.specs.declared.ids.ServerId.{ServerId}
use Rattle.message_types.specs.Soundness.{HasRoom, IsHost}
use Rattle.script_lines.specs.declared.script.Script.{Script}
use Rattle.token_types.specs.declared.token.Token.{Token}
use Rattle.run_rules.specs.Doings.{Granted, doings_of}
use Rattle.run_rules.specs.Runs.{IsRun, firsts_of, past_of}
use Rattle.run_rules.specs.declared.journal.Journal.{Journal}

-- each is of a declared host or the setup host, so of no exporter, and of no empty span
abbrev pub GrantedAreSound : Type 0
GrantedAreSound =
    (script : Script) (journal : Journal) → IsRun script journal → (server : ServerId) (t : Token)
    → Granted server (doings_of (firsts_of journal server) server (past_of journal)) t
    → IsHost script.roster t.host × HasRoom t.kind
