-- One run of a script, from its first step to its end. A host writes a file and reads it from its cache; the server
-- restarts, and admits the host's claim; the host locks the file. Another host asks for the status of the file, for
-- which the first gives its length back; and for the lock, which the first keeps, so that it is refused. Then the use
-- of the lock is given back, both hosts end, and say Bye.
use Rattle.base_types.specs.declared.ids.Fid.{Fid}
use Rattle.base_types.specs.declared.ids.HostId.{HostId}
use Rattle.base_types.specs.declared.ids.Node.{Node}
use Rattle.base_types.specs.declared.ids.Node.TheVariants.{Host, Server}
use Rattle.tree_calls.specs.declared.call.Call.{Call}
use Rattle.tree_calls.specs.declared.call.Call.TheVariants.{Lock, Read}
use Rattle.tree_calls.specs.declared.entry.Entry.{Entry}
use Rattle.tree_calls.specs.declared.entry.Entry.TheVariants.{Call as CallEntry, Stored as StoredEntry}
use Rattle.tree_calls.specs.declared.reply.Refusal.TheVariants.{Locked}
use Rattle.tree_calls.specs.declared.reply.Reply.TheVariants.{Bytes as BytesReply, Ok as Fine, Refused}
use Rattle.tree_calls.specs.declared.roster.Roster.{Roster}
use Rattle.tree_objects.specs.Spans.{span_between, whole}
use Rattle.tree_answers.specs.declared.tree.Tree.{Tree}
use Rattle.need_server.specs.Wants.{want}
use Rattle.message_types.specs.declared.asking.Change.{Change as ChangeOf}
use Rattle.message_types.specs.declared.giving.Give.{Give}
use Rattle.message_types.specs.declared.message.Body.{Body}
use Rattle.message_types.specs.declared.message.Body.TheVariants.{
  Bye,
  Change,
  Done,
  Fetch,
  GiveBack,
  Gone,
  Grant,
  Hello,
}
use Rattle.message_types.specs.declared.message.Body.TheVariants.{Kept, Reclaimed, Returned, Revoke}
use Rattle.message_types.specs.declared.message.Message.{Message}
use Rattle.message_types.specs.declared.telling.Done.{Done as DoneOf}
use Rattle.message_types.specs.declared.telling.DoneIs.TheVariants.{Reply as HasReply, Granted as IsGranted}
use Rattle.message_types.specs.declared.telling.Grant.{Grant as GrantOf}
use Rattle.message_types.specs.declared.tokens.Named.{Named}
use Rattle.message_types.specs.declared.tokens.Revoke.{Revoke as RevokeOf}
use Rattle.run_examples.specs.Steps.{acts, admits, answer, asks_file, asks_root, asks_update, at_file, enters, entry}
use Rattle.run_examples.specs.Steps.{fetch_of, file, file_bytes, file_status, file_tree, file_update, from_other}
use Rattle.run_examples.specs.Steps.{grants, greets, grows, hears, leaves, locks, needs, other, reclaimed, restarted}
use Rattle.run_examples.specs.Steps.{restarts, root_entries, root_status, status_of, unlocks, writes}
use Rattle.script_lines.specs.declared.script.Deed.{Deed}
use Rattle.script_lines.specs.declared.script.Deed.TheVariants.{Call as MakesCall, Restart}
use Rattle.script_lines.specs.declared.script.Line.{Line as ScriptLine}
use Rattle.script_lines.specs.declared.script.Script.{Script}
use Rattle.std.specs.Prelude.{List, None, Some, [], codes, false, true, ℕ, ◌∷◌}
use Rattle.token_types.specs.declared.token.Kind.{Kind}
use Rattle.token_types.specs.declared.token.Kind.TheVariants.{Bytes, Lock as LockToken, Status}
use Rattle.token_types.specs.declared.token.Need.{Need}
use Rattle.token_types.specs.declared.token.Token.{Token}
use Rattle.run_tokens.specs.JournalWorked.{roster}
use Rattle.run_rules.specs.declared.journal.Journal.{Journal}
use Rattle.run_rules.specs.Tokens.{number_of}
use Rattle.run_rules.specs.declared.applied.Applied.TheVariants.{Done as Decided, Replied, Stored, Wants}
use Rattle.run_rules.specs.declared.applied.Request.TheVariants.{Change as AsksChange, Fetch as AsksFetch}
use Rattle.run_rules.specs.declared.applied.Why.TheVariants.{Ended, ForCall as AskedBack, Revoked}
use Rattle.run_tokens.specs.Worked.{client, entered, from_server, no_fid, root, serves, site_one, to_host, to_server}
use Rattle.run_tokens.specs.Worked.{welcome}
use Rattle.run_rules.specs.declared.applied.Answer.{Answer}
use Rattle.run_rules.specs.declared.applied.Applied.{Applied as AppliedOf}
use Rattle.run_rules.specs.declared.applied.Request.{Request}
use Rattle.run_rules.specs.declared.step.Cause.TheVariants.{Message as Came, End, Line}
use Rattle.run_rules.specs.declared.step.Step.{Step}

-- who takes part
abbrev pub both : Roster
both = record roster { hosts = record { user = 0; limit = 64 } ∷ record { user = 0; limit = 64 } ∷ [] }

-- the tree at the start: a fileset with an empty file
abbrev pub start : Tree
start = record file_tree { roster = both }

abbrev pub reads : Call
reads = Read at_file 0 2

abbrev pub locks_too : Call
locks_too = Lock (codes "m") at_file true 0 10

abbrev pub line : ℕ → Node → Deed → ScriptLine
line number node deed = record { number = number; node = node; deed = deed }

abbrev pub script : Script
script = record {
  servers = 1;
  roster = both;
  setup = [];
  plan = [];
  net = None;
  lines =
      line 6 (Host client) (MakesCall writes) ∷ line 7 (Host client) (MakesCall reads)
      ∷ line 8 (Server site_one) Restart ∷ line 9 (Host client) (MakesCall locks)
      ∷ line 10 (Host other) (MakesCall locks_too) ∷ line 11 (Host client) (MakesCall unlocks) ∷ [];
}

-- messages of the second epoch
abbrev pub asks : Body → Message
asks body = to_server 2 body

abbrev pub tells : Body → Message
tells body = from_server body

abbrev pub asks_too : Body → Message
asks_too body = from_other 2 body

abbrev pub tells_too : Body → Message
tells_too body = record (from_server body) { host = other }

-- a step of the other host
abbrev pub hears_too : Message → List Token → List Message → Step
hears_too message taken sent = record (hears message taken sent) { node = Host other }

abbrev pub token_in_two : ℕ → HostId → Fid → Kind → Token
token_in_two seq host fid kind = record {
  id = record { server = site_one; epoch = 2; seq = seq };
  host = host;
  fid = fid;
  kind = kind;
}

abbrev pub enter_for : Call → ChangeOf
enter_for call = record { number = 1; fileset = record { 0 = 0 }; fid = no_fid; enter = true; k = 1; call = call }

abbrev pub lock_for : ℕ → Call → ChangeOf
lock_for k call = record { number = 1; fileset = root.fileset; fid = file; enter = false; k = k; call = call }

abbrev pub wants : HostId → Request → List Need → AppliedOf
wants host request needs = Wants (record { host = host; request = request; moves = 0; needs = needs })

-- the server takes a request, whose want it makes, and sends
abbrev pub takes_request : Message → AppliedOf → List Message → Step
takes_request message want sent = serves (Came message) (want ∷ []) [] sent

abbrev pub root_needs : List Need
root_needs = needs root (Status false) ∷ needs root (Bytes false whole) ∷ []

abbrev pub file_needs : List Need
file_needs = needs file (Status false) ∷ []

abbrev pub update_needs : List Need
update_needs = needs file (Status true) ∷ needs file (Bytes true (span_between 0 1024)) ∷ []

abbrev pub lock_needs : List Need
lock_needs = needs file (LockToken true (span_between 0 10)) ∷ []

-- 1 to 11: the host greets the server, enters the fileset, asks for what it lacks, and writes
abbrev pub step_1 : Step
step_1 = greets writes

abbrev pub step_2 : Step
step_2 = serves (Came (to_server 0 Hello)) [] [] (to_host (Reclaimed welcome) ∷ [])

abbrev pub step_3 : Step
step_3 = enters writes

abbrev pub step_4 : Step
step_4 =
    takes_request (to_server 1 (Change (enter_for writes))) (wants client (AsksChange (enter_for writes)) [])
    (to_host (Done entered) ∷ [])

abbrev pub step_5 : Step
step_5 = asks_root

abbrev pub step_6 : Step
step_6 =
    takes_request (to_server 1 (Fetch (fetch_of 1 root root_needs)))
    (wants client (AsksFetch (fetch_of 1 root root_needs)) root_needs)
    (grants 1 root 1 (root_status ∷ root_entries ∷ []) true (entry ∷ []) ∷ [])

abbrev pub step_7 : Step
step_7 = asks_file

abbrev pub step_8 : Step
step_8 =
    takes_request (to_server 1 (Fetch (fetch_of 2 file file_needs)))
    (wants client (AsksFetch (fetch_of 2 file file_needs)) file_needs)
    (grants 2 file 1 (file_status ∷ []) false [] ∷ [])

abbrev pub step_9 : Step
step_9 = asks_update

abbrev pub step_10 : Step
step_10 =
    takes_request (to_server 1 (Fetch (fetch_of 3 file update_needs)))
    (wants client (AsksFetch (fetch_of 3 file update_needs)) update_needs)
    (grants 3 file 2 (file_update ∷ file_bytes ∷ []) false [] ∷ [])

abbrev pub step_11 : Step
step_11 = grows

-- 12: it reads from its cache what it wrote
abbrev pub read_now : Answer
read_now = record { host = client; k = 2; call = reads; reply = BytesReply (codes "ab"); first = true }

abbrev pub step_12 : Step
step_12 = acts (Line 7) None [] (read_now ∷ []) None [] [] [] []

-- 13 to 16: the server restarts, and the host claims its tokens
abbrev pub step_13 : Step
step_13 = restarts

abbrev pub step_14 : Step
step_14 = restarted

abbrev pub step_15 : Step
step_15 = admits

abbrev pub step_16 : Step
step_16 = reclaimed

-- 17 to 19: it locks the file
abbrev pub step_17 : Step
step_17 =
    acts (Line 9) (Some (record { k = 3; call = locks })) [] [] None [] [] []
    (asks (Change (lock_for 3 locks)) ∷ [])

abbrev pub lock_token : Token
lock_token = token_in_two 1 client file (LockToken true (span_between 0 10))

abbrev pub lock_done : DoneOf
lock_done = record {
  fileset = root.fileset;
  outcome = IsGranted;
  bring = record { number = 1; fid = file; stamp = 1; tokens = lock_token ∷ [] };
}

abbrev pub step_18 : Step
step_18 =
    takes_request (asks (Change (lock_for 3 locks))) (wants client (AsksChange (lock_for 3 locks)) lock_needs)
    (tells (Done lock_done) ∷ [])

abbrev pub step_19 : Step
step_19 =
    acts (Came (tells (Done lock_done))) None (lock_token ∷ []) (answer 3 locks false ∷ []) None
    (record { label = codes "l"; token = lock_token } ∷ []) [] [] []

-- 20 to 25: the other host comes, and asks for the root
abbrev pub step_20 : Step
step_20 =
    record (acts (Line 10) (Some (record { k = 1; call = locks_too })) [] [] None [] [] [] (from_other 0 Hello ∷ [])) {
      node = Host other;
    }

abbrev pub step_21 : Step
step_21 = serves (Came (from_other 0 Hello)) [] [] (tells_too (Reclaimed welcome) ∷ [])

abbrev pub step_22 : Step
step_22 = hears_too (tells_too (Reclaimed welcome)) [] (asks_too (Change (enter_for locks_too)) ∷ [])

abbrev pub step_23 : Step
step_23 =
    takes_request (asks_too (Change (enter_for locks_too))) (wants other (AsksChange (enter_for locks_too)) [])
    (tells_too (Done entered) ∷ [])

abbrev pub step_24 : Step
step_24 = hears_too (tells_too (Done entered)) [] (asks_too (Fetch (fetch_of 1 root root_needs)) ∷ [])

abbrev pub their_status : Token
their_status = token_in_two 2 other root (Status false)

abbrev pub their_entries : Token
their_entries = token_in_two 3 other root (Bytes false whole)

abbrev pub their_root : GrantOf
their_root = record {
  bring = record { number = 1; fid = root; stamp = 1; tokens = their_status ∷ their_entries ∷ [] };
  status = Some (status_of true);
  pieces = [];
  entries = entry ∷ [];
}

abbrev pub step_25 : Step
step_25 =
    takes_request (asks_too (Fetch (fetch_of 1 root root_needs)))
    (wants other (AsksFetch (fetch_of 1 root root_needs)) root_needs) (tells_too (Grant their_root) ∷ [])

-- 26 to 30: it asks for the file's status, for which the first host gives its length back
abbrev pub step_26 : Step
step_26 =
    hears_too (tells_too (Grant their_root)) (their_status ∷ their_entries ∷ [])
    (asks_too (Fetch (fetch_of 2 file file_needs)) ∷ [])

abbrev pub recall_length : RevokeOf
recall_length = record { fid = file; stamp = 2; ids = file_update.id ∷ [] }

abbrev pub step_27 : Step
step_27 =
    takes_request (asks_too (Fetch (fetch_of 2 file file_needs)))
    (wants other (AsksFetch (fetch_of 2 file file_needs)) file_needs) (tells (Revoke recall_length) ∷ [])

abbrev pub length_gift : Give
length_gift = record {
  number = 1;
  fid = file;
  ids = file_update.id ∷ [];
  pieces = [];
  length = Some 2;
  ends = None;
}

abbrev pub step_28 : Step
step_28 =
    acts (Came (tells (Revoke recall_length))) None [] [] None [] (length_gift ∷ []) (leaves Revoked file_update ∷ [])
    (asks (GiveBack length_gift) ∷ [])

abbrev pub their_file : Token
their_file = token_in_two 4 other file (Status false)

abbrev pub their_grant : GrantOf
their_grant = record {
  bring = record { number = 2; fid = file; stamp = 3; tokens = their_file ∷ [] };
  status = Some (record (status_of false) { length = 2 });
  pieces = [];
  entries = [];
}

abbrev pub step_29 : Step
step_29 =
    serves (Came (asks (GiveBack length_gift))) (Stored client file [] (Some 2) ∷ []) []
    (tells (Gone (number_of length_gift)) ∷ tells_too (Grant their_grant) ∷ [])

abbrev pub step_30 : Step
step_30 = hears (tells (Gone (number_of length_gift))) [] []

-- 31 to 35: it asks for a lock, which the first host keeps, and is refused
abbrev pub step_31 : Step
step_31 =
    hears_too (tells_too (Grant their_grant)) (their_file ∷ []) (asks_too (Change (lock_for 1 locks_too)) ∷ [])

abbrev pub recall_lock : RevokeOf
recall_lock = record { fid = file; stamp = 4; ids = lock_token.id ∷ [] }

abbrev pub step_32 : Step
step_32 =
    takes_request (asks_too (Change (lock_for 1 locks_too)))
    (wants other (AsksChange (lock_for 1 locks_too)) lock_needs) (tells (Revoke recall_lock) ∷ [])

abbrev pub kept_lock : Named
kept_lock = record { fid = file; ids = lock_token.id ∷ [] }

abbrev pub step_33 : Step
step_33 = hears (tells (Revoke recall_lock)) [] (asks (Kept kept_lock) ∷ [])

abbrev pub their_answer : Answer
their_answer = record { host = other; k = 1; call = locks_too; reply = Refused Locked; first = false }

abbrev pub refused : DoneOf
refused = record {
  fileset = root.fileset;
  outcome = HasReply (Refused Locked);
  bring = record { number = 1; fid = no_fid; stamp = 0; tokens = [] };
}

abbrev pub step_34 : Step
step_34 =
    serves (Came (asks (Kept kept_lock)))
    (Decided (record { fileset = root.fileset; number = 1; answer = their_answer }) ∷ []) []
    (tells_too (Done refused) ∷ [])

abbrev pub step_35 : Step
step_35 = hears_too (tells_too (Done refused)) [] []

-- 36 to 38: the first host gives the use of its lock back
abbrev pub unlock_gift : Give
unlock_gift = record {
  number = 2;
  fid = file;
  ids = lock_token.id ∷ [];
  pieces = [];
  length = None;
  ends = Some (record { k = 4; call = unlocks });
}

abbrev pub step_36 : Step
step_36 =
    acts (Line 11) (Some (record { k = 4; call = unlocks })) [] [] None [] (unlock_gift ∷ [])
    (leaves AskedBack lock_token ∷ []) (asks (GiveBack unlock_gift) ∷ [])

abbrev pub step_37 : Step
step_37 =
    serves (Came (asks (GiveBack unlock_gift)))
    (Replied (record { host = client; k = 4; call = unlocks; reply = Fine; first = false }) ∷ []) []
    (tells (Gone (number_of unlock_gift)) ∷ [])

abbrev pub step_38 : Step
step_38 = hears (tells (Gone (number_of unlock_gift))) [] []

-- 39 to 44: the other host ends
abbrev pub of_root_too : Named
of_root_too = record { fid = root; ids = their_status.id ∷ their_entries.id ∷ [] }

abbrev pub of_file_too : Named
of_file_too = record { fid = file; ids = their_file.id ∷ [] }

abbrev pub step_39 : Step
step_39 =
    record (acts End None [] [] None [] []
    (leaves Ended their_status ∷ leaves Ended their_entries ∷ leaves Ended their_file ∷ [])
    (asks_too (Returned of_root_too) ∷ asks_too (Returned of_file_too) ∷ [])) { node = Host other }

abbrev pub step_40 : Step
step_40 = serves (Came (asks_too (Returned of_root_too))) [] [] []

abbrev pub step_41 : Step
step_41 = serves (Came (asks_too (Returned of_file_too))) [] [] []

abbrev pub step_42 : Step
step_42 = record (acts End None [] [] None [] [] [] (asks_too Bye ∷ [])) { node = Host other }

abbrev pub step_43 : Step
step_43 = serves (Came (asks_too Bye)) [] [] (tells_too Bye ∷ [])

abbrev pub step_44 : Step
step_44 = hears_too (tells_too Bye) [] []

-- 45 to 52: the first host ends, and gives the bytes back
abbrev pub bytes_gift : Give
bytes_gift = record {
  number = 3;
  fid = file;
  ids = file_bytes.id ∷ [];
  pieces = record { from = 0; bytes = codes "ab" } ∷ [];
  length = None;
  ends = None;
}

abbrev pub of_root : Named
of_root = record { fid = root; ids = root_status.id ∷ root_entries.id ∷ [] }

abbrev pub of_file : Named
of_file = record { fid = file; ids = file_status.id ∷ [] }

abbrev pub step_45 : Step
step_45 =
    acts End None [] [] None [] (bytes_gift ∷ [])
    (leaves Ended root_status ∷ leaves Ended root_entries ∷ leaves Ended file_status ∷ leaves Ended file_bytes ∷ [])
    (asks (GiveBack bytes_gift) ∷ asks (Returned of_root) ∷ asks (Returned of_file) ∷ [])

abbrev pub step_46 : Step
step_46 =
    serves (Came (asks (GiveBack bytes_gift))) (Stored client file (span_between 0 2 ∷ []) None ∷ []) []
    (tells (Gone (number_of bytes_gift)) ∷ [])

abbrev pub step_47 : Step
step_47 = serves (Came (asks (Returned of_root))) [] [] []

abbrev pub step_48 : Step
step_48 = serves (Came (asks (Returned of_file))) [] [] []

abbrev pub step_49 : Step
step_49 = hears (tells (Gone (number_of bytes_gift))) [] []

abbrev pub step_50 : Step
step_50 = acts End None [] [] None [] [] [] (asks Bye ∷ [])

abbrev pub step_51 : Step
step_51 = serves (Came (asks Bye)) [] [] (tells Bye ∷ [])

abbrev pub step_52 : Step
step_52 = hears (tells Bye) [] []

-- the server's own steps up to the lock that has to wait; and a second Change that comes while it waits
abbrev pub waiting : List Step
waiting =
    step_32 ∷ step_29 ∷ step_27 ∷ step_25 ∷ step_23 ∷ step_21 ∷ step_18 ∷ step_15 ∷ step_13 ∷ step_10 ∷ step_8 ∷ step_6
    ∷ step_4 ∷ step_2 ∷ []

abbrev pub second_change : Step
second_change = serves (Came (asks_too (Change (record (lock_for 1 locks_too) { number = 2 })))) [] [] []

abbrev pub steps : List Step
steps =
    step_1 ∷ step_2 ∷ step_3 ∷ step_4 ∷ step_5 ∷ step_6 ∷ step_7 ∷ step_8 ∷ step_9
    ∷ step_10 ∷ step_11 ∷ step_12 ∷ step_13 ∷ step_14 ∷ step_15 ∷ step_16 ∷ step_17 ∷ step_18
    ∷ step_19 ∷ step_20 ∷ step_21 ∷ step_22 ∷ step_23 ∷ step_24 ∷ step_25 ∷ step_26 ∷ step_27
    ∷ step_28 ∷ step_29 ∷ step_30 ∷ step_31 ∷ step_32 ∷ step_33 ∷ step_34 ∷ step_35 ∷ step_36
    ∷ step_37 ∷ step_38 ∷ step_39 ∷ step_40 ∷ step_41 ∷ step_42 ∷ step_43 ∷ step_44 ∷ step_45
    ∷ step_46 ∷ step_47 ∷ step_48 ∷ step_49 ∷ step_50 ∷ step_51 ∷ step_52
    ∷ []

abbrev pub journal : Journal
journal = record { start = start ∷ []; epochs = 1 ∷ []; steps = steps }

-- what it does to the file tree
abbrev pub entries : List Entry
entries =
    CallEntry client 1 writes Fine ∷ CallEntry client 2 reads (BytesReply (codes "ab")) ∷ CallEntry client 3 locks Fine
    ∷ StoredEntry client file [] (Some 2) ∷ CallEntry other 1 locks_too (Refused Locked)
    ∷ CallEntry client 4 unlocks Fine ∷ StoredEntry client file (span_between 0 2 ∷ []) None ∷ []
