-- Steps that the rules refuse, each for one reason, and one that they admit.
use Rattle.std.specs.Prelude.{◌≡◌, ◌<◌, ℕ, Bool, List, [], ◌∷◌, Some, None, false}
use Rattle.base_types.specs.declared.ids.HostId.{HostId}
use Rattle.base_types.specs.declared.ids.ServerId.{ServerId}
use Rattle.base_types.specs.declared.name.Name.{Name}
use Rattle.tree_calls.specs.declared.call.Call.TheVariants.{Lock}
use Rattle.tree_calls.specs.declared.place.Place.{Place}
use Rattle.message_types.specs.declared.asking.Change.{Change as ChangeOf}
use Rattle.message_types.specs.declared.giving.Give.{Give}
use Rattle.message_types.specs.declared.message.Body.TheVariants.{Bye, Change, Done, GiveBack, Hello, Reclaimed}
use Rattle.message_types.specs.declared.message.Body.TheVariants.{Restarted}
use Rattle.script_lines.specs.declared.script.Deed.TheVariants.{Call as MakesCall}
use Rattle.script_lines.specs.declared.script.Script.{Script}
use Rattle.run_rules.specs.Doings.{Doing, doings_of as acts_of}
use Rattle.run_rules.specs.HostDue.{HostDue}
use Rattle.run_rules.specs.HostMay.{HostMay}
use Rattle.run_rules.specs.ServerDecides.{IsMeantSo, IsNewRequest}
use Rattle.run_rules.specs.ServerMay.{ServerMay}
use Rattle.run_rules.specs.declared.applied.Request.TheVariants.{Change as Changes}
use Rattle.run_rules.specs.declared.step.Cause.TheVariants.{Line as LineOf, Message as Came, Lapse}
use Rattle.run_rules.specs.declared.step.Step.{Step}
use Rattle.run_tokens.specs.Worked.{client, enter, entered, from_server, restarts, serves, site_one, stat, to_host}
use Rattle.run_tokens.specs.Worked.{to_server, welcome, welcomes}
use Rattle.run_examples.specs.Laws.{Does, restarting, writing}
use Rattle.run_examples.specs.Steps.{acts, hears, script_of, grown, file, file_tree}

-- a script of one line, the status of a root
abbrev pub looking : Script
looking = script_of (MakesCall stat ∷ [])

-- a Reclaimed comes that nobody asked for
abbrev pub unasked : Step
unasked = hears (to_host (Reclaimed welcome)) [] []

-- then the host asks the server without a greeting
abbrev pub asks_ungreeted : Step
asks_ungreeted =
    acts (LineOf 6) (Some (record { k = 1; call = stat })) [] [] None [] [] [] (to_server 1 (Change enter) ∷ [])

-- a host greets twice in one step
abbrev pub greets_twice : Step
greets_twice = acts (LineOf 6) (Some (record { k = 1; call = stat })) [] [] None [] [] []
    (to_server 0 Hello ∷ to_server 0 Hello ∷ [])

-- a host whose length is dirty gives it back, with no token, when a late copy of a message comes
abbrev pub no_tokens : Give
no_tokens = record { number = 1; fid = file; ids = []; pieces = []; length = Some 2; ends = None }

abbrev pub gives_length : Step
gives_length = acts (Came (to_host (Done entered))) None [] [] None [] (no_tokens ∷ []) []
    (to_server 1 (GiveBack no_tokens) ∷ [])

-- a server says Reclaimed to a host that it doesn't know, at a lapse
abbrev pub tells_unasked : Step
tells_unasked = serves Lapse [] [] (to_host (Reclaimed welcome) ∷ [])

-- A server welcomed a host and restarted. The host, which hasn't got the welcome, says Hello again; and the server says
-- both that it has restarted and, as if the host were new, Reclaimed.
abbrev pub restarted : List Step
restarted = restarts ∷ welcomes ∷ []

abbrev pub welcomes_old : Step
welcomes_old = serves (Came (to_server 0 Hello)) [] [] (from_server Restarted ∷ from_server (Reclaimed welcome) ∷ [])

-- A late Bye of the epoch before comes, and the server says both that it has restarted and Bye.
abbrev pub ends_old : Step
ends_old = serves (Came (to_server 1 Bye)) [] [] (from_server Restarted ∷ from_server Bye ∷ [])

-- a lock of so many bytes is asked for
abbrev pub LocksBytes : ChangeOf → ℕ → Type 0
LocksBytes change len =
    (label : Name) × (place : Place) × (writing : Bool) × (from : ℕ) × (change.call ≡ Lock label place writing from len)

-- A server says Reclaimed only where it was asked. A host bears one all the same, and doesn't count as welcome by it,
-- since it has greeted nobody; so it asks nothing. A live host of an older epoch gets no Reclaimed for its Hello: it
-- would take it, be in the new epoch without a claim, and the grace period would wait for the claim for ever. Nor does
-- its Bye of an older epoch get a Bye: the host would be done, and the server would keep it on its list for ever.
-- Nothing is said twice in a step, and a give-back names a token. A lock of no bytes makes no want, whoever asks for
-- it; one of any other length may.
pub record OddSteps : Type 0 where
  pub told : ServerMay looking file_tree site_one [] (acts_of 1 site_one []) tells_unasked → ⊥
  pub heard : Does looking client [] unasked
  pub old : ServerMay restarting file_tree site_one restarted (acts_of 1 site_one restarted) welcomes_old → ⊥
  pub late : ServerMay restarting file_tree site_one restarted (acts_of 1 site_one restarted) ends_old → ⊥
  pub asks : HostMay looking client (unasked ∷ []) asks_ungreeted → ⊥
  pub greets : HostDue looking client [] greets_twice → ⊥
  pub gives : HostMay writing client grown gives_length → ⊥
  pub nothing : (server : ServerId) (before past : List Doing) (s : Step) (host : HostId) (moves : ℕ)
      (change : ChangeOf) → LocksBytes change 0 → IsNewRequest server before past s host moves (Changes change) → ⊥
  pub something : (change : ChangeOf) (len : ℕ) → LocksBytes change len → 0 < len → change.enter ≡ false
      → change.fid.fileset ≡ change.fileset → IsMeantSo change
