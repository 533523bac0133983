-- Hosts that are told of a restart.
use Rattle.std.specs.List.{filter}
use Rattle.std.specs.Prelude.{ℕ, Bool, ◌&&◌, not, if◌then◌else◌, List, ◌++◌, map}
use Rattle.base_types.specs.declared.ids.HostId.{HostId}
use Rattle.message_types.specs.declared.message.Body.TheVariants.{Restarted}
use Rattle.message_types.specs.declared.message.Message.{Message}
use Rattle.run_rules.specs.declared.step.Cause.TheVariants.{Restart}
use Rattle.run_rules.specs.declared.step.Step.{Step}
use Rattle.server_tables.specs.Listing.{has_host, is_live}
use Rattle.server_tables.specs.Updates.{begun}
use Rattle.server_tables.specs.declared.tables.Tables.{Tables}
use Rattle.server_takes.specs.Drafts.{no_draft, saying, step_of, word}
use Rattle.server_takes.specs.declared.draft.Draft.{Draft}

-- a live host that hasn't reclaimed
abbrev pub needs_hail : Tables → HostId → Bool
needs_hail x host = is_live x.hosts host && not (has_host x.hosts.reclaimed host)

abbrev pub to_hail : Tables → List HostId
to_hail x = filter (needs_hail x) x.hosts.listed

abbrev pub hail : Tables → HostId → Message
hail x host = word x host Restarted

unfoldable pub hailed_one : Tables → Draft → HostId → Draft
hailed_one x d host = if needs_hail x host then saying d (hail x host) else d

-- each of them is told
abbrev pub hailing : Tables → Draft → Draft
hailing x d = record d { sent = d.sent ++ map (hail x) (to_hail x) }

-- the step of a restart, of the tables before it
abbrev pub restarting : Tables → ℕ → Step
restarting x line = step_of x.server (Restart line) (hailing (begun x) no_draft)
