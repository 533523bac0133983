-- Worked replies: what small trees answer to some calls, in their turn.
use Rattle.std.specs.Prelude.{◌≡◌, ℕ, true, false, List, [], ◌∷◌, ◌++◌, codes}
use Rattle.base_types.specs.declared.ids.HostId.{HostId}
use Rattle.base_types.specs.declared.ids.ServerId.{ServerId}
use Rattle.base_types.specs.declared.ids.OpenKind.TheVariants.{Writing, Shared}
use Rattle.base_types.specs.declared.user.User.{User}
use Rattle.base_types.specs.declared.access.AccessEntry.{AccessEntry}
use Rattle.tree_calls.specs.declared.call.Call.{Call}
use Rattle.tree_calls.specs.declared.call.Call.TheVariants.{
  NewFileset,
  Create,
  MakeDir,
  Remove,
  Rename,
  Truncate,
  SetAcl,
  CloneFileset,
  Read,
  Write,
  List as ListNames,
  Stat,
  GetAcl,
  Sync,
  Lock,
  Unlock,
  OpenFile,
  CloseFile,
}
use Rattle.tree_calls.specs.declared.place.Place.{Place}
use Rattle.tree_calls.specs.declared.place.Which.TheVariants.{Own}
use Rattle.tree_calls.specs.declared.reply.Refusal.TheVariants.{
  NoEntry,
  Exists,
  NotEmpty,
  Denied,
  TooBig,
  TooMany,
  NoRoom,
  ReadOnly,
  Locked,
  OpenConflict,
  InUse,
  Loop,
  NoFileset,
  CrossFileset,
}
use Rattle.tree_calls.specs.declared.reply.Reply.{Reply}
use Rattle.tree_calls.specs.declared.reply.Reply.TheVariants.{Ok as Done, Bytes, Names, Facts, Access, Refused}
use Rattle.tree_objects.specs.Spans.{span_between}
use Rattle.tree_filesets.specs.Founding.{three_entries}
use Rattle.tree_answers.specs.declared.tree.Tree.{Tree}
use Rattle.tree_answers.specs.Answers.{answer_to}
use Rattle.tree_answers.specs.Founding.{new_tree}
use Rattle.tree_answers.specs.Losses.{losses_of, span_loss, length_loss}

-- the replies to calls of hosts in their turn
abbrev pub replies_to : Tree → List (HostId × Call) → List Reply
replies_to tree [] = []
replies_to tree ((host, call) ∷ calls) =
    (answer_to tree host call).reply ∷ replies_to (answer_to tree host call).tree calls

-- the tree after calls of hosts in their turn
abbrev pub tree_after : Tree → List (HostId × Call) → Tree
tree_after tree [] = tree
tree_after tree ((host, call) ∷ calls) = tree_after (answer_to tree host call).tree calls

-- the users ann and bob, of one group
abbrev pub ann : User
ann = record { name = codes "ann"; groups = codes "dev" ∷ [] }

abbrev pub bob : User
bob = record { name = codes "bob"; groups = codes "dev" ∷ [] }

-- the host that sets the service up, that of ann, and that of bob
abbrev pub setup : HostId
setup = record { 0 = 0 }

abbrev pub c1 : HostId
c1 = record { 0 = 1 }

abbrev pub c2 : HostId
c2 = record { 0 = 2 }

-- the one server
abbrev pub server : ServerId
server = record { 0 = 1 }

-- a tree without filesets, whose server offers so many blocks
abbrev pub empty_tree : ℕ → Tree
empty_tree capacity = new_tree (record {
  users = ann ∷ bob ∷ [];
  hosts = record { user = 0; limit = 64 } ∷ record { user = 1; limit = 64 } ∷ [];
  capacity = capacity ∷ [];
})

-- the fileset "home" of so many objects, of ann
abbrev pub new_home : ℕ → HostId × Call
new_home objects = (setup, NewFileset server (codes "home") objects ann)

-- the tree in which there is "home", of three objects, at a server of 16384 blocks
abbrev pub home : Tree
home = tree_after (empty_tree 16384) (new_home 3 ∷ [])

-- a place in "home"
abbrev pub in_home : List (List ℕ) → Place
in_home path = record { server = server; fileset = codes "home"; path = path }

-- a place in "copy", a clone of it
abbrev pub in_copy : List (List ℕ) → Place
in_copy path = record { server = server; fileset = codes "copy"; path = path }

-- the file "note", and the directory "folder"
abbrev pub note : List (List ℕ)
note = codes "note" ∷ []

abbrev pub folder : List (List ℕ)
folder = codes "folder" ∷ []

-- the file "note" in the directory "folder", and a directory there
abbrev pub note_below : List (List ℕ)
note_below = codes "folder" ∷ codes "note" ∷ []

abbrev pub folder_below : List (List ℕ)
folder_below = codes "folder" ∷ codes "folder" ∷ []

-- the tree in which there is "note" as well
abbrev pub home_with_note : Tree
home_with_note = tree_after home ((c1, Create (in_home note)) ∷ [])

-- an access list by which ann's group may write: rwxc, rw, r
abbrev pub shared_list : List AccessEntry
shared_list = three_entries 15 3 1

-- the tree in which ann wrote "abcd" into "note", and then bob "x" over the second byte
abbrev pub written_by_both : Tree
written_by_both = tree_after home_with_note (
    (c1, SetAcl (in_home note) Own shared_list) ∷ (c1, Write (in_home note) 0 (codes "abcd")) ∷
    (c2, Write (in_home note) 1 (codes "x")) ∷ [])

-- What these trees reply.
pub record WorkedReplies : Type 0 where
  -- what one host writes, each host reads at once; at the end there are no bytes to read
  pub read_back : replies_to (empty_tree 16384) (
      new_home 3 ∷ (c1, Create (in_home note)) ∷ (c1, Write (in_home note) 0 (codes "hello")) ∷
      (c2, Read (in_home note) 0 16) ∷ (c2, Read (in_home note) 1 3) ∷ (c2, Read (in_home note) 5 16) ∷ [])
      ≡ Done ∷ Done ∷ Done ∷ Bytes (codes "hello") ∷ Bytes (codes "ell") ∷ Bytes [] ∷ []
  -- the bytes before those that are written read as zero
  pub gap : replies_to home_with_note (
      (c1, Write (in_home note) 2 (codes "a")) ∷ (c1, Read (in_home note) 0 16) ∷ [])
      ≡ Done ∷ Bytes (0 ∷ 0 ∷ codes "a") ∷ []
  -- a file ends at byte 65536 at most
  pub too_big : replies_to home_with_note (
      (c1, Write (in_home note) 65536 (codes "a")) ∷ (c1, Write (in_home note) 65535 (codes "a")) ∷ [])
      ≡ Refused TooBig ∷ Done ∷ []
  -- bob may neither write ann's file (2) nor insert into her directory (16) nor delete there (32)
  pub denied : replies_to home_with_note (
      (c2, Write (in_home note) 0 (codes "a")) ∷ (c2, Create (in_home folder)) ∷
      (c2, Remove (in_home note)) ∷ [])
      ≡ Refused (Denied 2) ∷ Refused (Denied 16) ∷ Refused (Denied 32) ∷ []
  -- only ann may set the list of her file (8); then bob may write it
  pub granted : replies_to home_with_note (
      (c2, SetAcl (in_home note) Own shared_list) ∷ (c1, SetAcl (in_home note) Own shared_list) ∷
      (c2, GetAcl (in_home note) Own) ∷ (c2, Write (in_home note) 0 (codes "a")) ∷ [])
      ≡ Refused (Denied 8) ∷ Done ∷ Access shared_list ∷ Done ∷ []
  -- the names in a directory come in the order of their bytes; bob may read and search it (5)
  pub told : replies_to home_with_note (
      (c1, MakeDir (in_home folder)) ∷ (c2, ListNames (in_home [])) ∷ (c2, Stat (in_home [])) ∷ [])
      ≡ Done ∷ Names (codes "folder" ∷ codes "note" ∷ [])
      ∷ Facts (record { dir = true; length = 2; owner = codes "ann"; rights = 5 }) ∷ []
  -- a file that is made longer has zeros there
  pub truncated : replies_to home_with_note (
      (c1, Write (in_home note) 0 (codes "hello")) ∷ (c1, Truncate (in_home note) 2) ∷
      (c1, Truncate (in_home note) 4) ∷ (c1, Read (in_home note) 0 16) ∷ [])
      ≡ Done ∷ Done ∷ Done ∷ Bytes (codes "he" ++ 0 ∷ 0 ∷ []) ∷ []
  -- a name that is not there leads nowhere, and one that is there is not made again
  pub exists : replies_to home (
      (c1, Read (in_home note) 0 1) ∷ (c1, Create (in_home note)) ∷ (c1, MakeDir (in_home note)) ∷ [])
      ≡ Refused NoEntry ∷ Done ∷ Refused Exists ∷ []
  -- only an empty directory is removed
  pub not_empty : replies_to home (
      (c1, MakeDir (in_home folder)) ∷ (c1, Create (in_home note_below)) ∷ (c1, Remove (in_home folder)) ∷
      (c1, Remove (in_home note_below)) ∷ (c1, Remove (in_home folder)) ∷ [])
      ≡ Done ∷ Done ∷ Refused NotEmpty ∷ Done ∷ Done ∷ []
  -- a directory isn't moved into itself, nor an object out of its fileset; no fileset "copy" is there
  pub moves : replies_to home (
      (c1, MakeDir (in_home folder)) ∷ (c1, Rename (in_home folder) (in_home folder_below)) ∷
      (c1, Rename (in_home folder) (in_copy folder)) ∷ (c1, Rename (in_copy folder) (in_home folder)) ∷
      (c1, Rename (in_home folder) (in_home note)) ∷ [])
      ≡ Done ∷ Refused Loop ∷ Refused CrossFileset ∷ Refused NoFileset ∷ Done ∷ []
  -- a clone keeps the bytes that its source had, and takes no others
  pub clone : replies_to home_with_note (
      (c1, Write (in_home note) 0 (codes "a")) ∷ (c1, CloneFileset server (codes "home") (codes "copy")) ∷
      (c1, Write (in_home note) 0 (codes "b")) ∷ (c1, Read (in_copy note) 0 1) ∷
      (c1, Read (in_home note) 0 1) ∷ (c1, Write (in_copy note) 0 (codes "c")) ∷ [])
      ≡ Done ∷ Done ∷ Done ∷ Bytes (codes "a") ∷ Bytes (codes "b") ∷ Refused ReadOnly ∷ []
  -- a lock for writing excludes those of other hosts that overlap it, until it ends
  pub locked : replies_to home_with_note (
      (c1, Lock (codes "w") (in_home note) true 0 2) ∷ (c2, Lock (codes "r") (in_home note) false 1 2) ∷
      (c2, Lock (codes "r") (in_home note) false 2 2) ∷ (c1, Remove (in_home note)) ∷
      (c1, Unlock (codes "w")) ∷ (c2, Lock (codes "q") (in_home note) false 0 2) ∷ [])
      ≡ Done ∷ Refused Locked ∷ Done ∷ Refused InUse ∷ Done ∷ Done ∷ []
  -- a file that is open for writing isn't opened as shared by another host, until it is closed
  pub open_conflict : replies_to home_with_note (
      (c1, OpenFile (codes "o") (in_home note) Writing) ∷ (c2, OpenFile (codes "o") (in_home note) Shared) ∷
      (c1, CloseFile (codes "o")) ∷ (c2, OpenFile (codes "o") (in_home note) Shared) ∷ [])
      ≡ Done ∷ Refused OpenConflict ∷ Done ∷ Done ∷ []
  -- a fileset of two objects holds its root and one other
  pub too_many : replies_to (empty_tree 16384) (
      new_home 2 ∷ (c1, Create (in_home note)) ∷ (c1, Create (in_home folder)) ∷
      (c1, Remove (in_home note)) ∷ (c1, Create (in_home folder)) ∷ [])
      ≡ Done ∷ Done ∷ Refused TooMany ∷ Done ∷ Done ∷ []
  -- a fileset of two objects is promised 136 blocks
  pub no_room : (replies_to (empty_tree 135) (new_home 2 ∷ []) ≡ Refused NoRoom ∷ [])
      × (replies_to (empty_tree 136) (new_home 2 ∷ []) ≡ Done ∷ [])
  -- a host that is down loses the bytes that it wrote last, and the length that they gave
  pub lost : losses_of written_by_both c1 server
      ≡ span_loss c1 server (codes "home" ∷ note) (span_between 0 1)
      ∷ span_loss c1 server (codes "home" ∷ note) (span_between 2 4) ∷
      length_loss c1 server (codes "home" ∷ note) 4 ∷ []
  pub lost_other : losses_of written_by_both c2 server
      ≡ span_loss c2 server (codes "home" ∷ note) (span_between 1 2) ∷ []
  -- and nothing that it has stored
  pub nothing_lost : losses_of (tree_after written_by_both ((c1, Sync (in_home note)) ∷ [])) c1 server ≡ []
