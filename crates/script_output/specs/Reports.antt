-- What a run tells: replies, losses and filesets, each in the order of the output.
use Rattle.std.specs.Prelude.{
  ℕ,
  Bool,
  true,
  false,
  ◌+◌,
  ◌==◌,
  ◌&&◌,
  nat_le,
  if◌then◌else◌,
  List,
  [],
  ◌∷◌,
  filter,
  flat_map,
}
use Rattle.std.specs.List.{range_with_len}
use Rattle.base_types.specs.declared.limits.TheConstants.{HOSTS_MAX, SERVERS_MAX}
use Rattle.tree_calls.specs.declared.entry.Entry.{Entry}
use Rattle.tree_calls.specs.declared.entry.Entry.TheVariants.{Call, Stored, Down, Left}
use Rattle.tree_calls.specs.declared.entry.Loss.{Loss}
use Rattle.tree_filesets.specs.declared.fileset.Fileset.{Fileset}
use Rattle.tree_answers.specs.declared.tree.Tree.{Tree}
use Rattle.tree_answers.specs.Histories.{lost_in}
use Rattle.script_lines.specs.Asks.{call_lines}
use Rattle.script_lines.specs.declared.script.Script.{Script}
use Rattle.script_output.specs.declared.report.Answer.{Answer}
use Rattle.script_output.specs.declared.report.Report.{Report}

-- the numbers of the hosts, from that of the setup host on, and of the servers
abbrev pub all_hosts : List ℕ
all_hosts = range_with_len 0 (HOSTS_MAX + 1)

abbrev pub all_servers : List ℕ
all_servers = range_with_len 1 SERVERS_MAX

-- the reply to a call of a host, where a line of the script made it: calls that are implied come after those
unfoldable pub answer_in : ℕ → ℕ → Entry → List Answer
answer_in host calls (Call by k call reply) =
    if (by.0 == host) && nat_le k calls then record { host = by; k = k; reply = reply } ∷ [] else []
answer_in host calls (Stored by fid spans len) = []
answer_in host calls (Down by server) = []
answer_in host calls (Left server id) = []

abbrev pub answers_to : Script → List Entry → ℕ → List Answer
answers_to script history host = flat_map (answer_in host (call_lines script host)) history

-- the replies, by host
unfoldable pub answers_of : Script → List Entry → List Answer
answers_of script history = flat_map (answers_to script history) all_hosts

-- whether a server learns that a host is down
abbrev pub is_down : Entry → Bool
is_down (Down host server) = true
is_down _ = false

-- the losses of a host at a server
abbrev pub lost_by : List Loss → ℕ → ℕ → List Loss
lost_by losses host server = filter (λ loss. (loss.host.0 == host) && (loss.server.0 == server)) losses

-- Losses by host, and then by server. A host is down at a server once, and what is lost then is in the order of paths,
-- of each file the spans in their order, and then the length.
unfoldable pub by_host : List Loss → List Loss
by_host losses = flat_map (λ host. flat_map (lost_by losses host) all_servers) all_hosts

-- the filesets of a server
abbrev pub filesets_at : List Fileset → ℕ → List Fileset
filesets_at filesets server = filter (λ fileset. fileset.server.0 == server) filesets

-- Filesets by server, and then by id: in the order of ids the tree has them.
unfoldable pub by_server : List Fileset → List Fileset
by_server filesets = flat_map (filesets_at filesets) all_servers

-- what a run tells beside its filesets: the replies and the losses
unfoldable pub report_of : Script → Tree → List Entry → Report
report_of script start history = record {
  answers = answers_of script history;
  losses = by_host (lost_in start history);
}
