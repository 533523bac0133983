-- How replies are written.
use Rattle.std.specs.Prelude.{ℕ, Bool, true, false, List, ◌++◌, codes, decimal, flat_map}
use Rattle.tree_calls.specs.declared.reply.Refusal.{Refusal}
use Rattle.tree_calls.specs.declared.reply.Refusal.TheVariants as refusals
use Rattle.tree_calls.specs.declared.reply.Facts.{Facts}
use Rattle.tree_calls.specs.declared.reply.Reply.{Reply}
use Rattle.tree_calls.specs.declared.reply.Reply.TheVariants.{Ok as Done, Bytes, Names, Facts as Told, Access, Refused}
use Rattle.script_output.specs.Texts.{quoted, word_text}
use Rattle.script_output.specs.Access.{letters_of, rights_text, list_text}

-- why a call is refused
unfoldable pub refusal_text : Refusal → List ℕ
refusal_text refusals.NoEntry = codes "no-entry"
refusal_text refusals.NotDir = codes "not-dir"
refusal_text refusals.IsDir = codes "is-dir"
refusal_text refusals.Exists = codes "exists"
refusal_text refusals.NotEmpty = codes "not-empty"
refusal_text (refusals.Denied rights) = codes "denied " ++ rights_text rights
refusal_text refusals.TooBig = codes "too-big"
refusal_text refusals.TooMany = codes "too-many"
refusal_text refusals.NoRoom = codes "no-room"
refusal_text refusals.ReadOnly = codes "read-only"
refusal_text refusals.Locked = codes "locked"
refusal_text refusals.OpenConflict = codes "open-conflict"
refusal_text refusals.InUse = codes "in-use"
refusal_text refusals.Loop = codes "loop"
refusal_text refusals.NoFileset = codes "no-fileset"
refusal_text refusals.CrossFileset = codes "cross-fileset"
refusal_text refusals.NotLocked = codes "not-locked"
refusal_text refusals.NotOpened = codes "not-opened"
refusal_text refusals.AlreadyLocked = codes "already-locked"
refusal_text refusals.AlreadyOpened = codes "already-opened"
refusal_text refusals.NotHome = codes "not-home"

-- the kind of an object, before its length
abbrev pub kind_text : Bool → List ℕ
kind_text true = codes "dir "
kind_text false = codes "file "

-- what is told of an object; each right that the caller lacks is a "-"
unfoldable pub facts_text : Facts → List ℕ
facts_text facts =
    kind_text facts.dir ++ decimal facts.length ++ codes " " ++ word_text facts.owner
    ++ codes " " ++ letters_of (codes "-") facts.rights

-- names, each after a space
abbrev pub names_text : List (List ℕ) → List ℕ
names_text names = flat_map (λ name. codes " " ++ quoted name) names

-- a reply
unfoldable pub reply_text : Reply → List ℕ
reply_text Done = codes "ok"
reply_text (Bytes bytes) = codes "ok " ++ quoted bytes
reply_text (Names names) = codes "ok" ++ names_text names
reply_text (Told facts) = codes "ok " ++ facts_text facts
reply_text (Access list) = codes "ok " ++ word_text (list_text list)
reply_text (Refused refusal) = refusal_text refusal
