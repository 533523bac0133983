-- A step of a server in the making.
use Rattle.std.specs.Prelude.{ℕ, [], ◌∷◌, ◌++◌, Some, None}
use Rattle.base_types.specs.declared.ids.HostId.{HostId}
use Rattle.base_types.specs.declared.ids.Node.TheVariants.{Server}
use Rattle.base_types.specs.declared.ids.ServerId.{ServerId}
use Rattle.message_types.specs.declared.message.Body.{Body}
use Rattle.message_types.specs.declared.message.Message.{Message}
use Rattle.run_rules.specs.Steps.{bare}
use Rattle.run_rules.specs.declared.applied.Applied.{Applied}
use Rattle.run_rules.specs.declared.applied.Applied.TheVariants.{Wants}
use Rattle.run_rules.specs.declared.applied.Wanted.{Wanted}
use Rattle.run_rules.specs.declared.step.Cause.{Cause}
use Rattle.run_rules.specs.declared.step.Step.{Step}
use Rattle.server_tables.specs.Steps.{to_host}
use Rattle.server_tables.specs.declared.tables.Tables.{Tables}
use Rattle.server_takes.specs.declared.draft.Draft.{Draft}

abbrev pub no_draft : Draft
no_draft = record { applied = []; admitted = []; sent = []; fresh = None }

-- what a server says to a host, of its epoch
abbrev pub word : Tables → HostId → Body → Message
word x host body = to_host x.server host x.hosts.epoch 0 body

abbrev pub saying : Draft → Message → Draft
saying d m = record d { sent = d.sent ++ m ∷ [] }

abbrev pub applying : Draft → Applied → Draft
applying d a = record d { applied = d.applied ++ a ∷ [] }

-- a request's want is made, under a number
abbrev pub wanting : Draft → Wanted → ℕ → Draft
wanting d w number = record d { applied = d.applied ++ Wants w ∷ []; fresh = Some number }

-- the step that was made
abbrev pub step_of : ServerId → Cause → Draft → Step
step_of server cause d =
    record (bare (Server server) cause) { applied = d.applied; admitted = d.admitted; sent = d.sent }
