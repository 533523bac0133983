-- The generated workload: each host writes and reads a file of its own and writes its own part of a file that all
-- share.
use Rattle.std.specs.Prelude.{
  ℕ,
  ◌+◌,
  ◌-◌,
  ◌*◌,
  ◌/◌,
  ◌%◌,
  ◌==◌,
  if◌then◌else◌,
  List,
  [],
  ◌∷◌,
  ◌++◌,
  length,
  map,
  flat_map,
  replicate,
  None,
  codes,
  decimal,
}
use Rattle.std.specs.List.{range_with_len}
use Rattle.base_types.specs.declared.limits.TheConstants.{CACHED_TOKENS_DEFAULT, CAPACITY_DEFAULT, OBJECTS_MAX}
use Rattle.base_types.specs.declared.ids.Node.{Node}
use Rattle.base_types.specs.declared.user.User.{User}
use Rattle.tree_calls.specs.declared.call.Call.{Call as CallOf}
use Rattle.tree_calls.specs.declared.call.Call.TheVariants as calls
use Rattle.tree_calls.specs.declared.place.Place.{Place}
use Rattle.tree_calls.specs.declared.roster.Roster.{Roster}
use Rattle.script_words.specs.Fields.{host_node}
use Rattle.script_lines.specs.Headers.{setup_line}
use Rattle.script_lines.specs.Judge.{line_of}
use Rattle.script_lines.specs.declared.script.Deed.{Deed}
use Rattle.script_lines.specs.declared.script.Deed.TheVariants.{Call, Raise, Await}
use Rattle.script_lines.specs.declared.script.Line.{Line}
use Rattle.script_lines.specs.declared.script.Script.{Script}
use Rattle.rand_pcg.specs.Lcg.{Lcg}
use Rattle.script_generator.specs.Words.{generator, after_words, nth_word}

-- a node, and what it does
pub record Task : Type 0 where
  pub node : Node
  pub deed : Deed

-- a file in the root of the only fileset
abbrev pub in_work : List ℕ → Place
in_work name = record { server = record { 0 = 1 }; fileset = codes "work"; path = name ∷ [] }

-- the file that all hosts share, and a host's own
abbrev pub shared_file : Place
shared_file = in_work (codes "shared")

abbrev pub own_file : ℕ → Place
own_file host = in_work (codes "h" ++ decimal host)

-- what a host writes with one of its calls: both numbers, with a dash (45) between
abbrev pub text_of : ℕ → ℕ → List ℕ
text_of host i = decimal host ++ 45 ∷ decimal i

-- a host's call by the rest of a word: it writes its own file, reads it, or writes its own part of the shared file
abbrev pub call_by : ℕ → ℕ → ℕ → ℕ → CallOf
call_by kind host i v =
    if kind == 3 then calls.Write shared_file (512 * (host - 1) + v % 480) (text_of host i)
    else (if kind == 2 then calls.Read (own_file host) (v % 60000) 64
    else calls.Write (own_file host) (v % 60000) (text_of host i))

-- a host's call that a word makes
unfoldable pub call_of : ℕ → ℕ → ℕ → CallOf
call_of host i word = call_by (word % 4) host i (word / 4)

-- the first host makes the files
abbrev pub create : Place → Task
create place = record { node = host_node 1; deed = Call (calls.Create place) }

unfoldable pub creates : ℕ → List Task
creates hosts = map (λ h. create (own_file (h + 1))) (range_with_len 0 hosts)

-- it raises the flag that the others await
abbrev pub start : List ℕ
start = codes "start"

abbrev pub await_start : ℕ → Task
await_start host = record { node = host_node host; deed = Await start }

unfoldable pub awaits : ℕ → List Task
awaits hosts = map (λ h. await_start (h + 2)) (range_with_len 0 (hosts - 1))

-- then each host in turn makes its calls, each by a word of its own
abbrev pub made_call : ℕ → ℕ → ℕ → Task
made_call host i word = record { node = host_node host; deed = Call (call_of host i word) }

unfoldable pub calls_by : Lcg → ℕ → ℕ → List Task
calls_by rng host calls = map (λ i. made_call host (i + 1) (nth_word i rng)) (range_with_len 0 calls)

-- the words of a host come after those of the hosts before it
abbrev pub calls_of : ℕ → ℕ → ℕ → List Task
calls_of seed calls h = calls_by (after_words (h * calls) (generator seed)) (h + 1) calls

unfoldable pub all_calls : ℕ → ℕ → ℕ → List Task
all_calls seed hosts calls = flat_map (calls_of seed calls) (range_with_len 0 hosts)

-- all that the hosts do, in the order of the lines
abbrev pub first_tasks : ℕ → List Task
first_tasks hosts =
    create shared_file ∷ creates hosts ++ record { node = host_node 1; deed = Raise start } ∷ awaits hosts

abbrev pub tasks : ℕ → ℕ → ℕ → List Task
tasks seed hosts calls = first_tasks hosts ++ all_calls seed hosts calls

-- lines with these numbers and those after
abbrev pub numbered : ℕ → List Task → List Line
numbered number [] = []
numbered number (task ∷ tasks) = line_of number task.node task.deed ∷ numbered (number + 1) tasks

-- lines and more of them, numbered on from the first
unfoldable pub with_tasks : ℕ → List Line → List Task → List Line
with_tasks first lines tasks = lines ++ numbered (first + length lines) tasks

-- the only user
abbrev pub owner : User
owner = record { name = codes "u"; groups = codes "g" ∷ [] }

-- so many hosts, which act for it
abbrev pub roster_of : ℕ → Roster
roster_of hosts =
    record {
      users = owner ∷ [];
      hosts = replicate hosts (record { user = 0; limit = CACHED_TOKENS_DEFAULT });
      capacity = CAPACITY_DEFAULT ∷ [];
    }

-- its fileset
abbrev pub setup_of : ℕ → List Line
setup_of number = setup_line number (record { 0 = 1 }) (codes "work") OBJECTS_MAX owner ∷ []

-- the script: `servers 1`, `user u g`, a `host` line for each host, `fileset work s1 64 u`, `begin`, and the lines
unfoldable pub generated : ℕ → ℕ → ℕ → Script
generated seed hosts calls =
    record {
      servers = 1;
      roster = roster_of hosts;
      setup = setup_of (hosts + 3);
      plan = [];
      net = None;
      lines = numbered (hosts + 5) (tasks seed hosts calls);
    }
