-- Steps of a host in states that runs reach, as plain data. Lists of steps have the newest first.
use Rattle.base_types.specs.declared.ids.HostId.{HostId}
use Rattle.message_types.specs.declared.tokens.Revoke.{Revoke as RevokeOf}
use Rattle.message_types.specs.declared.telling.Grant.{Grant as GrantOf}
use Rattle.run_rules.specs.declared.applied.Wanted.{Wanted}
use Rattle.std.specs.Prelude.{Bool, List, None, Option, Some, [], codes, false, if◌then◌else◌, suc, true, ℕ, ◌∷◌}
use Rattle.base_types.specs.declared.ids.Fid.{Fid}
use Rattle.base_types.specs.declared.ids.Node.TheVariants.{Host}
use Rattle.tree_calls.specs.declared.call.Call.{Call}
use Rattle.tree_calls.specs.declared.call.Call.TheVariants.{Write, Lock, Sync, Unlock}
use Rattle.tree_calls.specs.declared.part.DirEntry.{DirEntry}
use Rattle.tree_calls.specs.declared.part.Status.{Status as StatusOf}
use Rattle.tree_calls.specs.declared.place.Place.{Place}
use Rattle.tree_calls.specs.declared.reply.Reply.TheVariants.{Ok as Fine}
use Rattle.tree_objects.specs.Spans.{span_between, whole}
use Rattle.script_lines.specs.declared.script.Deed.{Deed}
use Rattle.script_lines.specs.declared.script.Line.{Line as LineOf}
use Rattle.script_lines.specs.declared.script.Script.{Script}
use Rattle.token_types.specs.declared.token.Kind.{Kind}
use Rattle.token_types.specs.declared.token.Kind.TheVariants.{Bytes, Status, Lock as LockToken}
use Rattle.token_types.specs.declared.token.Need.{Need}
use Rattle.token_types.specs.declared.token.Token.{Token}
use Rattle.message_types.specs.declared.asking.Change.{Change as ChangeOf}
use Rattle.message_types.specs.declared.giving.Give.{Give}
use Rattle.message_types.specs.declared.giving.Reclaim.{Reclaim as ReclaimOf}
use Rattle.message_types.specs.declared.message.Body.{Body}
use Rattle.message_types.specs.declared.message.Body.TheVariants.{
  Hello,
  Fetch,
  Grant,
  Change,
  Done,
  Revoke,
  Returned,
  Kept,
}
use Rattle.message_types.specs.declared.message.Body.TheVariants.{
  GiveBack,
  Gone,
  Reclaim,
  Reclaimed,
  Restarted,
  Down,
  Bye,
}
use Rattle.message_types.specs.declared.message.Message.{Message}
use Rattle.message_types.specs.declared.telling.DoneIs.TheVariants.{Granted as IsGranted}
use Rattle.run_tokens.specs.JournalWorked.{home_fileset, root_object, roster, start}
use Rattle.tree_objects.specs.declared.content.Content.TheVariants.{Dir, File}
use Rattle.tree_answers.specs.declared.tree.Tree.{Tree}
use Rattle.message_types.specs.declared.asking.Fetch.{Fetch as FetchOf}
use Rattle.run_rules.specs.declared.applied.Applied.{Applied as AppliedOf}
use Rattle.run_rules.specs.Steps.{bare}
use Rattle.run_rules.specs.Tokens.{number_of}
use Rattle.run_rules.specs.declared.applied.Applied.TheVariants.{IsDown as GoesDown, Stored, Wants}
use Rattle.run_rules.specs.declared.applied.Request.TheVariants.{Change as AsksChange, Fetch as AsksFetch}
use Rattle.run_rules.specs.declared.applied.Why.TheVariants.{Ended, Evicted, ForCall as AskedBack, Revoked, Stopped}
use Rattle.run_tokens.specs.Worked.{access, client, entered, from_server, no_fid, root, serves, site_one, to_host}
use Rattle.run_tokens.specs.Worked.{to_server, welcome}
use Rattle.run_rules.specs.declared.applied.Answer.{Answer}
use Rattle.run_rules.specs.declared.applied.Leave.{Leave}
use Rattle.run_rules.specs.declared.applied.Why.{Why}
use Rattle.run_rules.specs.declared.step.Asked.{Asked}
use Rattle.run_rules.specs.declared.step.Cause.{Cause}
use Rattle.run_rules.specs.declared.step.Cause.TheVariants.{Line, Message as Came, Lapse, Evict, End, Restart}
use Rattle.run_rules.specs.declared.step.Labelled.{Labelled}
use Rattle.run_rules.specs.declared.step.Step.{Step}

-- what a host does in a step
abbrev pub acts : Cause → Option Asked → List Token → List Answer → Option Fid → List Labelled → List Give → List Leave
    → List Message → Step
acts cause asked taken answers wrote begun made dropped sent = record (bare (Host client) cause) {
  asked = asked;
  taken = taken;
  answers = answers;
  wrote = wrote;
  begun = begun;
  made = made;
  dropped = dropped;
  sent = sent;
}

-- it takes tokens, and sends
abbrev pub hears : Message → List Token → List Message → Step
hears message taken sent = acts (Came message) None taken [] None [] [] [] sent

-- a file in the root of the fileset
abbrev pub file : Fid
file = record { fileset = root.fileset; anode = 2; unique = 1 }

abbrev pub at_file : Place
at_file = record { server = site_one; fileset = codes "home"; path = codes "f" ∷ [] }

abbrev pub writes : Call
writes = Write at_file 0 (codes "ab")

abbrev pub locks : Call
locks = Lock (codes "l") at_file true 0 10

abbrev pub unlocks : Call
unlocks = Unlock (codes "l")

abbrev pub lines_from : ℕ → List Deed → List LineOf
lines_from n [] = []
lines_from n (deed ∷ deeds) = record { number = n; node = Host client; deed = deed } ∷ lines_from (suc n) deeds

abbrev pub script_of : List Deed → Script
script_of deeds = record {
  servers = 1;
  roster = roster;
  setup = [];
  plan = [];
  net = None;
  lines = lines_from 6 deeds;
}

abbrev pub token : ℕ → Fid → Kind → Token
token seq fid kind = record {
  id = record { server = site_one; epoch = 1; seq = seq };
  host = client;
  fid = fid;
  kind = kind;
}

-- what the host gets in turn: to read the root, the file's status; to change the file's status and its first block
abbrev pub root_status : Token
root_status = token 1 root (Status false)

abbrev pub root_entries : Token
root_entries = token 2 root (Bytes false whole)

abbrev pub file_status : Token
file_status = token 3 file (Status false)

abbrev pub file_update : Token
file_update = token 4 file (Status true)

abbrev pub file_bytes : Token
file_bytes = token 5 file (Bytes true (span_between 0 1024))

abbrev pub file_lock : Token
file_lock = token 4 file (LockToken true (span_between 0 10))

abbrev pub status_of : Bool → StatusOf
status_of dir = record {
  dir = dir;
  read_only = false;
  length = if dir then 1 else 0;
  owner = codes "u";
  group = codes "g";
  lists = if dir then access ∷ access ∷ access ∷ [] else access ∷ [];
}

abbrev pub grants : ℕ → Fid → ℕ → List Token → Bool → List DirEntry → Message
grants number fid stamp tokens dir entries =
    to_host (Grant (record {
      bring = record { number = number; fid = fid; stamp = stamp; tokens = tokens };
      status = Some (status_of dir);
      pieces = [];
      entries = entries;
    }))

abbrev pub asks_for : ℕ → Fid → List Need → Message
asks_for number fid needs = to_server 1 (Fetch (record { number = number; fid = fid; needs = needs }))

abbrev pub needs : Fid → Kind → Need
needs fid kind = record { fid = fid; kind = kind }

abbrev pub answer : ℕ → Call → Bool → Answer
answer k call first = record { host = client; k = k; call = call; reply = Fine; first = first }

-- the host's first steps: it greets the server for a call, enters the fileset, and asks for the root and for the file
abbrev pub greets : Call → Step
greets call = acts (Line 6) (Some (record { k = 1; call = call })) [] [] None [] [] [] (to_server 0 Hello ∷ [])

abbrev pub enters : Call → Step
enters call =
    hears (to_host (Reclaimed welcome)) []
    (to_server 1 (Change (record {
      number = 1;
      fileset = record { 0 = 0 };
      fid = no_fid;
      enter = true;
      k = 1;
      call = call;
    })) ∷ [])

abbrev pub asks_root : Step
asks_root =
    hears (to_host (Done entered)) [] (asks_for 1 root (needs root (Status false) ∷ needs root (Bytes false whole)
    ∷ []) ∷ [])

abbrev pub entry : DirEntry
entry = record { name = codes "f"; anode = 2; unique = 1 }

abbrev pub asks_file : Step
asks_file =
    hears (grants 1 root 1 (root_status ∷ root_entries ∷ []) true (entry ∷ [])) (root_status ∷ root_entries ∷ [])
    (asks_for 2 file (needs file (Status false) ∷ []) ∷ [])

abbrev pub begin : Call → List Step
begin call = asks_file ∷ asks_root ∷ enters call ∷ greets call ∷ []

-- a Write that grows the file: it asks to change the status and the first block, and then answers
abbrev pub asks_update : Step
asks_update =
    hears (grants 2 file 1 (file_status ∷ []) false []) (file_status ∷ [])
    (asks_for 3 file (needs file (Status true) ∷ needs file (Bytes true (span_between 0 1024)) ∷ []) ∷ [])

abbrev pub grows : Step
grows =
    acts (Came (grants 3 file 2 (file_update ∷ file_bytes ∷ []) false [])) None (file_update ∷ file_bytes ∷ [])
    (answer 1 writes false ∷ []) (Some file) [] [] [] []

abbrev pub grown : List Step
grown = grows ∷ asks_update ∷ begin writes

-- The server asks for the three tokens of the file: the two for update are dirty, and go into a give-back; the third
-- is returned.
abbrev pub leaves : Why → Token → Leave
leaves why token = record { token = token; why = why }

abbrev pub gift : Give
gift = record {
  number = 1;
  fid = file;
  ids = file_update.id ∷ file_bytes.id ∷ [];
  pieces = record { from = 0; bytes = codes "ab" } ∷ [];
  length = Some 2;
  ends = None;
}

abbrev pub recalls : Message
recalls =
    to_host (Revoke (record { fid = file; stamp = 3; ids = file_status.id ∷ file_update.id ∷ file_bytes.id ∷ [] }))

abbrev pub gives : Step
gives =
    acts (Came recalls) None [] [] None [] (gift ∷ [])
    (leaves Revoked file_status ∷ leaves Revoked file_update ∷ leaves Revoked file_bytes ∷ [])
    (to_server 1 (GiveBack gift) ∷ to_server 1 (Returned (record { fid = file; ids = file_status.id ∷ [] })) ∷ [])

abbrev pub learns : Step
learns = hears (to_host (Gone (number_of gift))) [] []

-- a lapse
abbrev pub lapses : List Message → Step
lapses sent = acts Lapse None [] [] None [] [] [] sent

-- The server has restarted: the host claims what it holds, with what stands in a give-back that isn't known as applied.
abbrev pub claim : List Token → ℕ → ReclaimOf
claim tokens give = record {
  tokens = tokens;
  numbers = record { fileset = root.fileset; moves = 0; give = give; change = 0 } ∷ [];
}

abbrev pub all_tokens : List Token
all_tokens = root_status ∷ root_entries ∷ file_status ∷ file_update ∷ file_bytes ∷ []

abbrev pub claims_all : Message
claims_all = to_server 2 (Reclaim (claim all_tokens 0))

abbrev pub restarted : Step
restarted = hears (from_server Restarted) [] (claims_all ∷ [])

abbrev pub claims_gift : Message
claims_gift = to_server 2 (Reclaim (claim (root_status ∷ root_entries ∷ file_update ∷ file_bytes ∷ []) 1))

abbrev pub restarted_late : Step
restarted_late = hears (from_server Restarted) [] (to_server 2 (GiveBack gift) ∷ claims_gift ∷ [])

abbrev pub reclaimed : Step
reclaimed = hears (from_server (Reclaimed welcome)) [] []

-- a stop, with all that is held dirty or clean
abbrev pub stops : Step
stops =
    acts (Line 7) None [] [] None [] []
    (leaves Stopped root_status ∷ leaves Stopped root_entries ∷ leaves Stopped file_status ∷ leaves Stopped file_update
    ∷ leaves Stopped file_bytes ∷ [])
    (to_server 1 Down ∷ [])

-- The end: all is given back and returned at once; when it is known as applied the host says Bye.
abbrev pub ends : Step
ends =
    acts End None [] [] None [] (gift ∷ [])
    (leaves Ended root_status ∷ leaves Ended root_entries ∷ leaves Ended file_status ∷ leaves Ended file_update
    ∷ leaves Ended file_bytes ∷ [])
    (to_server 1 (GiveBack gift)
    ∷ to_server 1 (Returned (record { fid = root; ids = root_status.id ∷ root_entries.id ∷ [] }))
    ∷ to_server 1 (Returned (record { fid = file; ids = file_status.id ∷ [] })) ∷ [])

abbrev pub says_bye : Step
says_bye = acts End None [] [] None [] [] [] (to_server 1 Bye ∷ [])

abbrev pub hears_bye : Step
hears_bye = hears (to_host Bye) [] []

-- A lock: the host asks the server for its token, and takes the label. A Revoke of the token in use is answered by
-- Kept. Then the end of the use has to be given back.
abbrev pub asks_lock : Step
asks_lock =
    hears (grants 2 file 1 (file_status ∷ []) false []) (file_status ∷ [])
    (to_server 1 (Change (record {
      number = 1;
      fileset = root.fileset;
      fid = file;
      enter = false;
      k = 1;
      call = locks;
    })) ∷ [])

abbrev pub label : Labelled
label = record { label = codes "l"; token = file_lock }

abbrev pub takes_lock : Step
takes_lock =
    acts
    (Came (to_host (Done (record {
      fileset = root.fileset;
      outcome = IsGranted;
      bring = record { number = 1; fid = file; stamp = 2; tokens = file_lock ∷ [] };
    }))))
    None (file_lock ∷ []) (answer 1 locks false ∷ []) None (label ∷ []) [] [] []

abbrev pub locked : List Step
locked = takes_lock ∷ asks_lock ∷ begin locks

abbrev pub keeps : Step
keeps =
    hears (to_host (Revoke (record { fid = file; stamp = 3; ids = file_lock.id ∷ [] }))) []
    (to_server 1 (Kept (record { fid = file; ids = file_lock.id ∷ [] })) ∷ [])

abbrev pub lock_gift : Give
lock_gift = record {
  number = 1;
  fid = file;
  ids = file_lock.id ∷ [];
  pieces = [];
  length = None;
  ends = Some (record { k = 2; call = unlocks });
}

abbrev pub frees : Step
frees =
    acts (Line 7) (Some (record { k = 2; call = unlocks })) [] [] None [] (lock_gift ∷ [])
    (leaves AskedBack file_lock ∷ [])
    (to_server 1 (GiveBack lock_gift) ∷ [])

abbrev pub learns_freed : Step
learns_freed = hears (to_host (Gone (number_of lock_gift))) [] []

-- Where the lines have gone, the host itself ends the use of a lock that no server asked back; then it returns all that
-- it holds. The use of one that was kept is given back, for an implied call.
abbrev pub unlocks_last : Step
unlocks_last = acts End None [] (answer 2 unlocks true ∷ []) None [] [] [] []

abbrev pub returns_all : Step
returns_all =
    acts End None [] [] None [] []
    (leaves Ended root_status ∷ leaves Ended root_entries ∷ leaves Ended file_status ∷ leaves Ended file_lock ∷ [])
    (to_server 1 (Returned (record { fid = root; ids = root_status.id ∷ root_entries.id ∷ [] }))
    ∷ to_server 1 (Returned (record { fid = file; ids = file_status.id ∷ file_lock.id ∷ [] }))
    ∷ [])

abbrev pub frees_last : Step
frees_last =
    acts End (Some (record { k = 2; call = unlocks })) [] [] None [] (lock_gift ∷ []) (leaves AskedBack file_lock ∷ [])
    (to_server 1 (GiveBack lock_gift) ∷ [])

-- A second label is taken, and then the first is freed and taken again, from cache: at the end the second goes first.
abbrev pub second_lock : Token
second_lock = token 5 file (LockToken true (span_between 20 30))

abbrev pub locks_second : Call
locks_second = Lock (codes "m") at_file true 20 10

abbrev pub unlocks_second : Call
unlocks_second = Unlock (codes "m")

abbrev pub asks_second : Step
asks_second =
    acts (Line 7) (Some (record { k = 2; call = locks_second })) [] [] None [] [] []
    (to_server 1 (Change (record {
      number = 2;
      fileset = root.fileset;
      fid = file;
      enter = false;
      k = 2;
      call = locks_second;
    })) ∷ [])

abbrev pub takes_second : Step
takes_second =
    acts
    (Came (to_host (Done (record {
      fileset = root.fileset;
      outcome = IsGranted;
      bring = record { number = 2; fid = file; stamp = 3; tokens = second_lock ∷ [] };
    }))))
    None (second_lock ∷ []) (answer 2 locks_second false ∷ []) None
    (record { label = codes "m"; token = second_lock } ∷ []) [] [] []

abbrev pub frees_first : Step
frees_first = acts (Line 8) None [] (answer 3 unlocks true ∷ []) None [] [] [] []

abbrev pub freed_first : List Step
freed_first = frees_first ∷ takes_second ∷ asks_second ∷ locked

abbrev pub locks_again : Step
locks_again = acts (Line 9) None [] (answer 4 locks true ∷ []) None (label ∷ []) [] [] []

abbrev pub ends_second : Step
ends_second = acts End None [] (answer 5 unlocks_second true ∷ []) None [] [] [] []

abbrev pub ends_again : Step
ends_again = acts End None [] (answer 6 unlocks true ∷ []) None [] [] [] []

-- A host that caches one token more than it may evicts the one over the file's bytes. These are dirty and go into a
-- give-back, and the length with them.
abbrev pub evicted : Give
evicted = record gift { ids = file_bytes.id ∷ [] }

abbrev pub evicts : Step
evicts = acts Evict None [] [] None [] (evicted ∷ []) (leaves Evicted file_bytes ∷ [])
    (to_server 1 (GiveBack evicted) ∷ [])

-- A Write over the end of a block, of which the first is dirty: the second alone is asked for. Before it comes the
-- first
-- is asked back, and goes. Then both are asked for, though the second is held.
abbrev pub writes_wide : Call
writes_wide = Write at_file 1000 (codes "abcdefghijklmnopqrstuvwxabcdefghijklmnopqrstuvwx")

abbrev pub second_block : Token
second_block = token 6 file (Bytes true (span_between 1024 2048))

abbrev pub asks_second_block : Step
asks_second_block =
    acts (Line 7) (Some (record { k = 2; call = writes_wide })) [] [] None [] [] []
    (asks_for 4 file (needs file (Bytes true (span_between 1024 2048)) ∷ []) ∷ [])

abbrev pub gives_first_block : Step
gives_first_block =
    acts (Came (to_host (Revoke (record { fid = file; stamp = 3; ids = file_bytes.id ∷ [] })))) None [] [] None []
    (evicted ∷ []) (leaves Revoked file_bytes ∷ []) (to_server 1 (GiveBack evicted) ∷ [])

abbrev pub learns_first_block : Step
learns_first_block = hears (to_host (Gone (number_of evicted))) [] []

abbrev pub asks_both : Message
asks_both = asks_for 5 file (needs file (Bytes true (span_between 0 2048)) ∷ [])

abbrev pub takes_second_block : Step
takes_second_block =
    hears (grants 4 file 4 (second_block ∷ []) false []) (second_block ∷ []) (asks_both ∷ [])

-- A Sync lacks the status of its file, under whose bytes something is dirty. The Grant shows these bytes, too, as no
-- server may: what is given back then is what the host sees.
abbrev pub syncs : Call
syncs = Sync at_file

abbrev pub status_gift : Give
status_gift = record gift { ids = file_update.id ∷ []; pieces = [] }

abbrev pub gives_status : Step
gives_status =
    acts (Came (to_host (Revoke (record { fid = file; stamp = 3; ids = file_status.id ∷ file_update.id ∷ [] })))) None
    [] [] None [] (status_gift ∷ []) (leaves Revoked file_status ∷ leaves Revoked file_update ∷ [])
    (to_server 1 (GiveBack status_gift) ∷ to_server 1 (Returned (record {
      fid = file;
      ids =
          file_status.id ∷ [];
    })) ∷ [])

abbrev pub learns_status : Step
learns_status = hears (to_host (Gone (number_of status_gift))) [] []

abbrev pub asks_status : Step
asks_status =
    acts (Line 7) (Some (record { k = 2; call = syncs })) [] [] None [] [] []
    (asks_for 4 file (needs file (Status false) ∷ []) ∷ [])

abbrev pub shown_tokens : List Token
shown_tokens = token 6 file (Status false) ∷ token 7 file (Bytes false (span_between 0 1024)) ∷ []

abbrev pub shown_gift : Give
shown_gift = record {
  number = 2;
  fid = file;
  ids = file_bytes.id ∷ [];
  pieces = record { from = 0; bytes = codes "xy" } ∷ [];
  length = None;
  ends = None;
}

abbrev pub gives_shown : Step
gives_shown =
    acts
    (Came (to_host (Grant (record {
      bring = record { number = 4; fid = file; stamp = 4; tokens = shown_tokens };
      status = Some (record (status_of false) { length = 2 });
      pieces = record { from = 0; bytes = codes "xy" } ∷ [];
      entries = [];
    }))))
    None shown_tokens [] None [] (shown_gift ∷ []) (leaves AskedBack file_bytes ∷ [])
    (to_server 1 (GiveBack shown_gift) ∷ [])

-- The server of the same run: it welcomes the host, tells it the number of the fileset, and grants what is asked.
abbrev pub wants : FetchOf → AppliedOf
wants fetch = Wants (record { host = client; request = AsksFetch fetch; moves = 0; needs = fetch.needs })

abbrev pub fetch_of : ℕ → Fid → List Need → FetchOf
fetch_of number fid needs = record { number = number; fid = fid; needs = needs }

abbrev pub fetched : FetchOf → Message → Step
fetched fetch grant = serves (Came (to_server 1 (Fetch fetch))) (wants fetch ∷ []) [] (grant ∷ [])

abbrev pub enter : ChangeOf
enter = record { number = 1; fileset = record { 0 = 0 }; fid = no_fid; enter = true; k = 1; call = writes }

abbrev pub serves_update : Step
serves_update =
    fetched (fetch_of 3 file (needs file (Status true) ∷ needs file (Bytes true (span_between 0 1024)) ∷ []))
    (grants 3 file 2 (file_update ∷ file_bytes ∷ []) false [])

abbrev pub served_first : List Step
served_first =
    fetched (fetch_of 2 file (needs file (Status false) ∷ [])) (grants 2 file 1 (file_status ∷ []) false [])
    ∷ fetched (fetch_of 1 root (needs root (Status false) ∷ needs root (Bytes false whole) ∷ []))
    (grants 1 root 1 (root_status ∷ root_entries ∷ []) true (entry ∷ []))
    ∷ serves (Came (to_server 1 (Change enter)))
    (Wants (record { host = client; request = AsksChange enter; moves = 0; needs = [] }) ∷ []) []
    (to_host (Done entered) ∷ [])
    ∷ serves (Came (to_server 0 Hello)) [] [] (to_host (Reclaimed welcome) ∷ []) ∷ []

abbrev pub served : List Step
served = serves_update ∷ served_first

-- the tree at the start: the root has the file, which is empty
abbrev pub file_tree : Tree
file_tree = record start {
  filesets = record home_fileset {
    objects = 2;
    anodes =
        record {
          unique = 1;
          object = Some (record root_object {
            content = Dir (entry ∷ []) (access ∷ access ∷ access
                ∷ []);
          });
        }
        ∷ record { unique = 1; object = Some (record root_object { content = File access [] [] None }) }
        ∷ [];
  } ∷ [];
}

-- its bytes and its length become kept, and the host is told
abbrev pub stores : Step
stores =
    serves (Came (to_server 1 (GiveBack gift))) (Stored client file (span_between 0 2 ∷ []) (Some 2) ∷ []) []
    (to_host (Gone (number_of gift)) ∷ [])

abbrev pub hears_returned : Step
hears_returned = serves (Came (to_server 1 (Returned (record { fid = file; ids = file_status.id ∷ [] })))) [] [] []

abbrev pub hears_down : Step
hears_down = serves (Came (to_server 1 Down)) (GoesDown client ∷ []) [] []

abbrev pub answers_bye : Step
answers_bye = serves (Came (to_server 1 Bye)) [] [] (to_host Bye ∷ [])

abbrev pub restarts : Step
restarts = serves (Restart 8) [] [] (from_server Restarted ∷ [])

-- the host claims what it holds, and all is granted again
abbrev pub admits : Step
admits =
    serves (Came claims_all) [] (record { host = client; tokens = all_tokens } ∷ [])
    (from_server (Reclaimed welcome) ∷ [])

abbrev pub server_lapses : List Message → Step
server_lapses sent = serves Lapse [] [] sent

-- A second host asks for the status of the file, which the first may change: the server asks the token back, and again
-- at a lapse. When the first has given it back the Fetch is granted, with the length that is kept now.
abbrev pub other : HostId
other = record { 0 = 2 }

abbrev pub from_other : ℕ → Body → Message
from_other epoch body = record (to_server epoch body) { host = other }

abbrev pub to_other : Body → Message
to_other body = record (to_host body) { host = other }

abbrev pub shared : List Step
shared = serves (Came (from_other 0 Hello)) [] [] (to_other (Reclaimed welcome) ∷ []) ∷ served

abbrev pub other_fetch : FetchOf
other_fetch = fetch_of 1 file (needs file (Status false) ∷ [])

abbrev pub other_want : Wanted
other_want = record { host = other; request = AsksFetch other_fetch; moves = 0; needs = other_fetch.needs }

abbrev pub recall : ℕ → RevokeOf
recall stamp = record { fid = file; stamp = stamp; ids = file_update.id ∷ [] }

abbrev pub calls_back : Step
calls_back =
    serves (Came (from_other 1 (Fetch other_fetch))) (Wants other_want ∷ []) [] (to_host (Revoke (recall 3)) ∷ [])

abbrev pub calls_again : Step
calls_again = server_lapses (to_host (Revoke (recall 4)) ∷ [])

-- a Change that enters, with a call that names no fileset
abbrev pub hears_nameless : Step
hears_nameless = serves (Came (to_server 1 (Change (record enter { number = 2; call = unlocks })))) [] [] []

-- the second host goes down, and its want with it
abbrev pub other_stops : Step
other_stops = serves (Came (from_other 1 Down)) (GoesDown other ∷ []) [] []

abbrev pub other_status : Token
other_status = record (token 6 file (Status false)) { host = other }

abbrev pub other_grant : GrantOf
other_grant = record {
  bring = record { number = 1; fid = file; stamp = 4; tokens = other_status ∷ [] };
  status = Some (record (status_of false) { length = 2 });
  pieces = [];
  entries = [];
}

abbrev pub stores_and_grants : Step
stores_and_grants =
    serves (Came (to_server 1 (GiveBack gift))) (Stored client file (span_between 0 2 ∷ []) (Some 2) ∷ []) []
    (to_host (Gone (number_of gift)) ∷ to_other (Grant other_grant) ∷ [])

-- Sound messages that no honest node sends. A Gone of a give-back that the host didn't make teaches it nothing; a Done
-- under fileset 0 with moves answers nothing; a token that a Revoke of another file names is returned under its own;
-- the bytes that a Done brings aren't taken, since it doesn't show them.
abbrev pub hears_unmade : Step
hears_unmade = hears (to_host (Gone (record { fileset = root.fileset; number = 7 }))) [] []

abbrev pub hears_moved : Step
hears_moved = hears (record (to_host (Done entered)) { moves = 1 }) [] []

abbrev pub returns_other : Step
returns_other =
    acts (Came (to_host (Revoke (record { fid = root; stamp = 3; ids = file_status.id ∷ [] })))) None [] [] None [] []
    (leaves Revoked file_status ∷ []) (to_server 1 (Returned (record { fid = file; ids = file_status.id ∷ [] })) ∷ [])

abbrev pub hears_bytes : Step
hears_bytes =
    hears
    (to_host (Done (record entered {
      bring = record { number = 1; fid = file; stamp = 1; tokens = file_bytes ∷ [] };
    }))) []
    (asks_for 1 root (needs root (Status false) ∷ needs root (Bytes false whole) ∷ []) ∷ [])

-- a lock that is numbered under another fileset than its file's makes no want
abbrev pub hears_misplaced : Step
hears_misplaced =
    serves (Came (to_server 1 (Change (record {
      number = 2;
      fileset = record { 0 = 65538 };
      fid = file;
      enter = false;
      k = 2;
      call = locks;
    })))) [] [] []

-- a lock of no bytes makes no want
abbrev pub hears_empty : Step
hears_empty =
    serves (Came (to_server 1 (Change (record {
      number = 2;
      fileset = file.fileset;
      fid = file;
      enter = false;
      k = 2;
      call = Lock (codes "l") at_file true 0 0;
    })))) [] [] []
