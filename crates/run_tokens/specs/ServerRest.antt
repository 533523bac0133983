-- A server that is settled may do nothing: then no rule is in another's way.
use Rattle.run_rules.specs.Doings.{Doing, NoGrace}
use Rattle.run_rules.specs.Kept.{filesets_kept}
use Rattle.run_rules.specs.ServerDue.{ServerDue}
use Rattle.run_rules.specs.ServerMay.{IsAskedBack, IsOwed, ServerMay}
use Rattle.run_rules.specs.Steps.{bare}
use Rattle.run_rules.specs.Wants.{CanDecide, CanGrant, IsQueued}
use Rattle.run_rules.specs.declared.applied.Request.TheVariants.{Change as Changes, Fetch as Asks}
use Rattle.std.specs.Prelude.{List, ◌≡◌}
use Rattle.base_types.specs.declared.ids.ServerId.{ServerId}
use Rattle.tree_answers.specs.declared.tree.Tree.{Tree}
use Rattle.script_lines.specs.declared.script.Script.{Script}
use Rattle.token_types.specs.declared.token.Token.{Token}
use Rattle.run_rules.specs.declared.step.Step.{Step}
use Rattle.run_rules.specs.declared.step.Cause.TheVariants.{Lapse}
use Rattle.base_types.specs.declared.ids.Node.TheVariants.{Server}
use Rattle.run_rules.specs.declared.applied.Wanted.{Wanted}
use Rattle.message_types.specs.declared.asking.Fetch.{Fetch as FetchOf}
use Rattle.message_types.specs.declared.asking.Change.{Change as ChangeOf}

-- A server is settled: each live host has reclaimed, no want that waits can go on, and no token is asked back, now or
-- since earlier.
pub record IsSettled (server : ServerId) (tree : Tree) (past : List Doing) : Type 0 where
  pub over : NoGrace past
  pub fetches : (w : Wanted) (f : FetchOf) → IsQueued past w → w.request ≡ Asks f → CanGrant server past w → ⊥
  pub changes : (w : Wanted) (c : ChangeOf) → IsQueued past w → w.request ≡ Changes c → CanDecide server past w → ⊥
  pub none_asked_back : (t : Token) → IsAskedBack server past t → ⊥
  pub none_owed : (t : Token) → IsOwed server past t → ⊥

-- all rules of a server
pub record ServerMeets
    (script : Script) (start : Tree) (server : ServerId) (steps : List Step) (past : List Doing) (s : Step) : Type 0
  where
    pub may : ServerMay script start server steps past s
    pub due : ServerDue script start server steps past s

abbrev pub ServerMayRest : Type 0
ServerMayRest = (script : Script) (start : Tree) (server : ServerId) (steps : List Step) (past : List Doing)
    → IsSettled server (filesets_kept start server steps) past
    → ServerMeets script start server steps past (bare (Server server) Lapse)
