use Rattle.std.specs.Prelude.{
  ℕ,
  ◌&&◌,
  nat_lt,
  Bool,
  true,
  false,
  if◌then◌else◌,
  List,
  Option,
  Some,
  None,
  Result,
  Ok,
  Err,
  codes,
}
use Rattle.base_types.specs.Name.{is_among}
use Rattle.base_types.specs.declared.ids.Node.{Node}
use Rattle.base_types.specs.declared.ids.Node.TheVariants.{Host, Server}
use Rattle.tree_calls.specs.declared.place.Which.{Which}
use Rattle.tree_calls.specs.declared.place.Which.TheVariants.{Own, Files, Dirs}
use Rattle.tree_calls.specs.declared.place.Place.{Place}
use Rattle.tree_calls.specs.declared.call.Call.{Call}
use Rattle.tree_calls.specs.declared.call.Call.TheVariants as calls
use Rattle.script_words.specs.Outcome.{◌>>=◌, found, unless}
use Rattle.script_words.specs.Fields.{word_at, end_at, name_at, label_at, number_at, text_at, is_word}
use Rattle.script_words.specs.Lists.{list_at}
use Rattle.script_words.specs.Terms.{open_kind_of, lock_mode_of}
use Rattle.script_lines.specs.Context.{server_of, server_at, is_elsewhere, place_at}
use Rattle.script_lines.specs.declared.context.Placed.{Placed}
use Rattle.script_lines.specs.declared.script.TheConstants.{NUMBER_MAX}
use Rattle.script_lines.specs.declared.script.Script.{Script}
use Rattle.script_lines.specs.declared.script.Deed.{Deed}
use Rattle.script_lines.specs.declared.script.Deed.TheVariants as deeds
use Rattle.script_lines.specs.declared.deeds.Verb.{Verb}
use Rattle.script_lines.specs.declared.deeds.Verb.TheVariants as verbs
use Rattle.script_words.specs.declared.fault.BadWhy.{BadWhy}
use Rattle.script_words.specs.declared.fault.BadWhy.TheVariants.{Word, Undeclared, Repeated, Disks}

-- what the second word of a line asks for
unfoldable pub verb_of : List ℕ → Option Verb
verb_of word =
    if is_word word (codes "create") then Some verbs.Create
    else (if is_word word (codes "mkdir") then Some verbs.MakeDir
    else (if is_word word (codes "remove") then Some verbs.Remove
    else (if is_word word (codes "rename") then Some verbs.Rename
    else (if is_word word (codes "truncate") then Some verbs.Truncate
    else (if is_word word (codes "setacl") then Some verbs.SetAcl
    else (if is_word word (codes "getacl") then Some verbs.GetAcl
    else (if is_word word (codes "clone") then Some verbs.CloneFileset
    else (if is_word word (codes "read") then Some verbs.Read
    else (if is_word word (codes "write") then Some verbs.Write
    else (if is_word word (codes "list") then Some verbs.List
    else (if is_word word (codes "stat") then Some verbs.Stat
    else (if is_word word (codes "sync") then Some verbs.Sync
    else (if is_word word (codes "unlock") then Some verbs.Unlock
    else (if is_word word (codes "close") then Some verbs.CloseFile
    else (if is_word word (codes "lock") then Some verbs.Lock
    else (if is_word word (codes "open") then Some verbs.OpenFile
    else (if is_word word (codes "raise") then Some verbs.Raise
    else (if is_word word (codes "await") then Some verbs.Await
    else (if is_word word (codes "stop") then Some verbs.Stop
    else (if is_word word (codes "restart") then Some verbs.Restart
    else (if is_word word (codes "move") then Some verbs.Move else None)))))))))))))))))))))

-- which access list of a directory
unfoldable pub which_of : List ℕ → Option Which
which_of word =
    if is_word word (codes "list") then Some Own
    else (if is_word word (codes "files") then Some Files
    else (if is_word word (codes "dirs") then Some Dirs else None))

unfoldable pub which_at : List (List ℕ) → ℕ → Result Which BadWhy
which_at words i = do
  word ← word_at words i
  found Word (which_of word)

-- the label, or the place, of a line that has no more words
unfoldable pub only_label : List (List ℕ) → Result (List ℕ) BadWhy
only_label words = do
  label ← label_at words 2
  _ ← end_at words 3
  Ok label

unfoldable pub only_place : List Placed → List (List ℕ) → Result Place BadWhy
only_place placed words = do
  place ← place_at placed words 2
  _ ← end_at words 3
  Ok place

-- the calls: a word at each place, judged from left to right, and no more words
unfoldable pub rename_call : List Placed → List (List ℕ) → Result Call BadWhy
rename_call placed words = do
  from ← place_at placed words 2
  to ← place_at placed words 3
  _ ← end_at words 4
  Ok (calls.Rename from to)

unfoldable pub truncate_call : List Placed → List (List ℕ) → Result Call BadWhy
truncate_call placed words = do
  place ← place_at placed words 2
  len ← number_at 0 NUMBER_MAX words 3
  _ ← end_at words 4
  Ok (calls.Truncate place len)

unfoldable pub getacl_call : List Placed → List (List ℕ) → Result Call BadWhy
getacl_call placed words = do
  place ← place_at placed words 2
  which ← which_at words 3
  _ ← end_at words 4
  Ok (calls.GetAcl place which)

unfoldable pub setacl_call : List Placed → List (List ℕ) → Result Call BadWhy
setacl_call placed words = do
  place ← place_at placed words 2
  which ← which_at words 3
  list ← list_at words 4
  _ ← end_at words 5
  Ok (calls.SetAcl place which list)

unfoldable pub read_call : List Placed → List (List ℕ) → Result Call BadWhy
read_call placed words = do
  place ← place_at placed words 2
  from ← number_at 0 NUMBER_MAX words 3
  len ← number_at 0 NUMBER_MAX words 4
  _ ← end_at words 5
  Ok (calls.Read place from len)

unfoldable pub write_call : List Placed → List (List ℕ) → Result Call BadWhy
write_call placed words = do
  place ← place_at placed words 2
  from ← number_at 0 NUMBER_MAX words 3
  bytes ← text_at words 4
  _ ← end_at words 5
  Ok (calls.Write place from bytes)

unfoldable pub lock_call : List Placed → List (List ℕ) → Result Call BadWhy
lock_call placed words = do
  label ← label_at words 2
  place ← place_at placed words 3
  mode ← word_at words 4
  writing ← found Word (lock_mode_of mode)
  from ← number_at 0 NUMBER_MAX words 5
  len ← number_at 1 NUMBER_MAX words 6
  _ ← end_at words 7
  Ok (calls.Lock label place writing from len)

unfoldable pub open_call : List Placed → List (List ℕ) → Result Call BadWhy
open_call placed words = do
  label ← label_at words 2
  place ← place_at placed words 3
  word ← word_at words 4
  kind ← found Word (open_kind_of word)
  _ ← end_at words 5
  Ok (calls.OpenFile label place kind)

-- a clone stays at its source's server, where its name is placed for the whole script
unfoldable pub clone_call : List Placed → List (List ℕ) → Result Call BadWhy
clone_call placed words = do
  fileset ← name_at words 2
  server ← found Undeclared (server_of placed fileset)
  new ← name_at words 3
  _ ← unless (is_elsewhere (server_of placed new) server) Repeated
  _ ← end_at words 4
  Ok (calls.CloneFileset server fileset new)

-- whether some of so many servers have a disk and some have none: disk k is server k's
abbrev pub is_mixed : ℕ → ℕ → Bool
is_mixed servers disks = nat_lt 0 disks && nat_lt disks servers

-- a fileset goes to a declared server, where each server has a disk, or none
unfoldable pub move_call : Script → ℕ → List Placed → List (List ℕ) → Result Call BadWhy
move_call script disks placed words = do
  fileset ← name_at words 2
  server ← found Undeclared (server_of placed fileset)
  to ← server_at script words 3
  _ ← unless (is_mixed script.servers disks) Disks
  _ ← end_at words 4
  Ok (calls.MoveFileset server fileset to)

-- the call of a host that a word asks for
unfoldable pub call_by : List Placed → Verb → List (List ℕ) → Result Call BadWhy
call_by placed verbs.Create words = only_place placed words >>= (λ place. Ok (calls.Create place))
call_by placed verbs.MakeDir words = only_place placed words >>= (λ place. Ok (calls.MakeDir place))
call_by placed verbs.Remove words = only_place placed words >>= (λ place. Ok (calls.Remove place))
call_by placed verbs.List words = only_place placed words >>= (λ place. Ok (calls.List place))
call_by placed verbs.Stat words = only_place placed words >>= (λ place. Ok (calls.Stat place))
call_by placed verbs.Sync words = only_place placed words >>= (λ place. Ok (calls.Sync place))
call_by placed verbs.Unlock words = only_label words >>= (λ label. Ok (calls.Unlock label))
call_by placed verbs.CloseFile words = only_label words >>= (λ label. Ok (calls.CloseFile label))
call_by placed verbs.Rename words = rename_call placed words
call_by placed verbs.Truncate words = truncate_call placed words
call_by placed verbs.SetAcl words = setacl_call placed words
call_by placed verbs.GetAcl words = getacl_call placed words
call_by placed verbs.CloneFileset words = clone_call placed words
call_by placed verbs.Read words = read_call placed words
call_by placed verbs.Write words = write_call placed words
call_by placed verbs.Lock words = lock_call placed words
call_by placed verbs.OpenFile words = open_call placed words
call_by placed _ words = Err Word

-- a flag is raised by one line alone
unfoldable pub raise_deed : List (List ℕ) → List (List ℕ) → Result Deed BadWhy
raise_deed raised words = do
  flag ← label_at words 2
  _ ← unless (is_among raised flag) Repeated
  _ ← end_at words 3
  Ok (deeds.Raise flag)

-- what a host does
unfoldable pub host_deed : Script → ℕ → List Placed → List (List ℕ) → Verb → List (List ℕ) → Result Deed BadWhy
host_deed script disks placed raised verbs.Raise words = raise_deed raised words
host_deed script disks placed raised verbs.Await words = only_label words >>= (λ flag. Ok (deeds.Await flag))
host_deed script disks placed raised verbs.Stop words = end_at words 2 >>= (λ _. Ok deeds.Stop)
host_deed script disks placed raised verbs.Move words =
    move_call script disks placed words >>= (λ call. Ok (deeds.Call call))
host_deed script disks placed raised verb words = call_by placed verb words >>= (λ call. Ok (deeds.Call call))

-- what a server does
unfoldable pub server_deed : List (List ℕ) → Verb → List (List ℕ) → Result Deed BadWhy
server_deed raised verbs.Raise words = raise_deed raised words
server_deed raised verbs.Await words = only_label words >>= (λ flag. Ok (deeds.Await flag))
server_deed raised verbs.Restart words = end_at words 2 >>= (λ _. Ok deeds.Restart)
server_deed raised _ words = Err Word

-- what a node does
abbrev pub node_deed : Script → ℕ → List Placed → List (List ℕ) → Node → Verb → List (List ℕ) → Result Deed BadWhy
node_deed script disks placed raised (Host _) verb words = host_deed script disks placed raised verb words
node_deed script disks placed raised (Server _) verb words = server_deed raised verb words

-- the deed of a node's line
unfoldable pub deed_of : Script → ℕ → List Placed → List (List ℕ) → Node → List (List ℕ) → Result Deed BadWhy
deed_of script disks placed raised node words = do
  word ← word_at words 1
  verb ← found Word (verb_of word)
  node_deed script disks placed raised node verb words
