-- A journal that would be an ended run, in which a call of its script was never answered: a server restarts and says
-- Reclaimed to the setup host, which it doesn't know; the host takes itself for welcome, greets nobody, asks, and is
-- never heard.
use Rattle.std.specs.Prelude.{◌≡◌, ℕ, false, List, [], ◌∷◌, Some, None, codes}
use Rattle.base_types.specs.declared.ids.Node.TheVariants.{Host, Server}
use Rattle.tree_calls.specs.declared.call.Call.{Call}
use Rattle.tree_calls.specs.declared.call.Call.TheVariants.{NewFileset}
use Rattle.tree_answers.specs.declared.tree.Tree.{Tree}
use Rattle.message_types.specs.declared.asking.Change.{Change as ChangeOf}
use Rattle.message_types.specs.declared.message.Body.{Body}
use Rattle.message_types.specs.declared.message.Body.TheVariants.{Change, Reclaimed}
use Rattle.message_types.specs.declared.message.Message.{Message}
use Rattle.script_lines.specs.Sound.{IsSound}
use Rattle.script_lines.specs.declared.script.Deed.TheVariants.{Call as MakesCall, Restart as Restarts}
use Rattle.script_lines.specs.declared.script.Script.{Script}
use Rattle.run_rules.specs.Doings.{doings_of}
use Rattle.run_rules.specs.HostMay.{HostMay}
use Rattle.run_rules.specs.Plans.{IsPlanned}
use Rattle.run_rules.specs.Runs.{IsEnded, IsRun, IsValid, history_of, past_of}
use Rattle.run_rules.specs.ServerMay.{ServerMay}
use Rattle.run_rules.specs.Steps.{bare, setup, steps_of_host}
use Rattle.run_rules.specs.Tokens.{IsOpen}
use Rattle.run_rules.specs.declared.journal.Journal.{Journal}
use Rattle.run_rules.specs.declared.step.Cause.TheVariants.{Line as LineOf, Message as Came, Restart}
use Rattle.run_rules.specs.declared.step.Step.{Step}
use Rattle.run_tokens.specs.JournalWorked.{owner, roster, start}
use Rattle.run_tokens.specs.Worked.{from_server, no_fid, serves, site_one, to_server, welcome}

-- the setup host makes a fileset
abbrev pub makes : Call
makes = NewFileset site_one (codes "home") 64 owner

-- what is read of: servers 1, user u g, host c1 u, fileset home s1 64 u, begin, s1 restart
abbrev pub restart_script : Script
restart_script = record {
  servers = 1;
  roster = roster;
  setup = record { number = 4; node = Host setup; deed = MakesCall makes } ∷ [];
  plan = [];
  net = None;
  lines = record { number = 6; node = Server site_one; deed = Restarts } ∷ [];
}

-- no filesets
abbrev pub bare_tree : Tree
bare_tree = record start { filesets = [] }

abbrev pub tells_it : Body → Message
tells_it body = record (from_server body) { host = setup }

abbrev pub asks_it : Body → Message
asks_it body = record (to_server 2 body) { host = setup }

-- the server restarts, and says Reclaimed
abbrev pub tells : Step
tells = serves (Restart 6) [] [] (tells_it (Reclaimed welcome) ∷ [])

abbrev pub unasked : Step
unasked = bare (Host setup) (Came (tells_it (Reclaimed welcome)))

abbrev pub change : ChangeOf
change = record { number = 1; fileset = record { 0 = 0 }; fid = no_fid; enter = false; k = 1; call = makes }

-- the host asks without a greeting
abbrev pub asks : Step
asks = record (bare (Host setup) (LineOf 4)) {
  asked = Some (record { k = 1; call = makes });
  sent = asks_it (Change change) ∷ [];
}

abbrev pub journal : Journal
journal = record { start = bare_tree ∷ []; epochs = 1 ∷ []; steps = tells ∷ unasked ∷ asks ∷ [] }

-- It keeps to its script's plan and is ended, though the call of the setup host's only line is open and the history has
-- no entry. It is no run for two reasons: the server was asked for no Reclaimed, and the host has greeted nobody.
pub record Unanswered : Type 0 where
  pub sound : IsSound restart_script
  pub valid : IsValid bare_tree
  pub planned : IsPlanned restart_script journal
  pub ended : IsEnded restart_script journal
  pub open_is : IsOpen (steps_of_host setup (past_of journal)) (record { k = 1; call = makes })
  pub none : history_of journal.steps ≡ []
  pub told : ServerMay restart_script bare_tree site_one [] (doings_of 1 site_one []) tells → ⊥
  pub asked : HostMay restart_script setup (unasked ∷ []) asks → ⊥
  pub no_run : IsRun restart_script journal → ⊥
