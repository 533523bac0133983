-- Open files.
use Rattle.std.specs.Prelude.{ℕ, ◌==◌, nat_le, Bool, ◌&&◌, not, if◌then◌else◌, List, Result, Ok}
use Rattle.std.specs.List.{list_any}
use Rattle.base_types.specs.Outcomes.{and_then, either}
use Rattle.base_types.specs.declared.ids.HostId.{HostId}
use Rattle.base_types.specs.declared.ids.Fid.{Fid}
use Rattle.base_types.specs.declared.ids.OpenKind.{OpenKind}
use Rattle.base_types.specs.Opens.{opens_conflict}
use Rattle.base_types.specs.declared.user.User.{User}
use Rattle.base_types.specs.declared.limits.TheConstants.{LABELS_MAX}
use Rattle.tree_calls.specs.declared.place.Place.{Place}
use Rattle.tree_calls.specs.declared.reply.Refusal.{Refusal}
use Rattle.tree_calls.specs.declared.reply.Refusal.TheVariants.{AlreadyOpened, NotOpened, TooMany, OpenConflict}
use Rattle.tree_calls.specs.declared.reply.Reply.TheVariants.{Ok as Done}
use Rattle.tree_filesets.specs.Checks.{unless}
use Rattle.tree_filesets.specs.Uses.{open_target}
use Rattle.tree_answers.specs.declared.tree.Tree.{Tree}
use Rattle.tree_answers.specs.declared.tree.OpenUse.{OpenUse}
use Rattle.tree_answers.specs.Finding.{Answer, refuse, fileset_named}
use Rattle.base_types.specs.Ids.{same_fid}
use Rattle.tree_answers.specs.Uses.{open_hold, is_under, has_label, label_count, label_place, with_one, without_label}

-- whether this is a host's open file with a label
abbrev pub is_open : HostId → List ℕ → OpenUse → Bool
is_open = is_under open_hold

abbrev pub has_open : List OpenUse → HostId → List ℕ → Bool
has_open = has_label open_hold

-- how many open files a host has
abbrev pub open_count : List OpenUse → HostId → ℕ
open_count = label_count open_hold

-- whether another host has a file open so that an open of this kind is excluded
abbrev pub is_barred : List OpenUse → HostId → Fid → OpenKind → Bool
is_barred opens host fid kind =
    list_any
    (λ opened. not (opened.host.0 == host.0) && same_fid opened.fid fid && opens_conflict opened.kind kind) opens

-- OpenFile: AlreadyOpened; TooMany; NoFileset; walk; IsDir; ReadOnly; Denied; OpenConflict
unfoldable pub open_check : Tree → HostId → User → List ℕ → Place → OpenKind → Result Fid Refusal
open_check tree host user label place kind =
    unless (has_open tree.opens host label) AlreadyOpened (
    unless (nat_le LABELS_MAX (open_count tree.opens host)) TooMany (
    and_then (fileset_named tree place.server place.fileset) (λ fileset.
    and_then (open_target fileset user place.path kind) (λ fid.
    unless (is_barred tree.opens host fid kind) OpenConflict (
    Ok fid)))))

-- where an open file goes
abbrev pub open_place : List OpenUse → HostId → List ℕ → ℕ
open_place = label_place open_hold

-- a tree with an open file more
abbrev pub with_open : Tree → OpenUse → Tree
with_open tree opened = record tree { opens = with_one open_hold tree.opens opened }

-- OpenFile: in use under the label
unfoldable pub open_answer : Tree → HostId → User → List ℕ → Place → OpenKind → Answer
open_answer tree host user label place kind =
    either (open_check tree host user label place kind)
    (λ fid.
    record { reply = Done; tree = with_open tree (record { host = host; label = label; fid = fid; kind = kind }) })
    (refuse tree)

-- CloseFile: NotOpened. No longer in use
unfoldable pub close_answer : Tree → HostId → List ℕ → Answer
close_answer tree host label =
    if not (has_open tree.opens host label) then refuse tree NotOpened
    else record { reply = Done; tree = record tree { opens = without_label open_hold tree.opens host label } }
