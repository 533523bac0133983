-- Locks and open files in use: whose they are and of which files, and where they stand in their lists.
use Rattle.std.specs.Prelude.{ℕ, ◌==◌, nat_lt, Bool, ◌&&◌, ◌||◌, not, List, length, insert, filter, unwrap_or}
use Rattle.std.specs.List.{list_any, position, count_by}
use Rattle.base_types.specs.Name.{same_name, is_before}
use Rattle.base_types.specs.declared.ids.HostId.{HostId}
use Rattle.base_types.specs.declared.ids.Fid.{Fid}
use Rattle.base_types.specs.declared.ids.FilesetId.{FilesetId}
use Rattle.base_types.specs.Ids.{same_fid}
use Rattle.tree_answers.specs.declared.tree.LockUse.{LockUse}
use Rattle.tree_answers.specs.declared.tree.OpenUse.{OpenUse}

-- who holds something, a lock or an open file: the host, its label of it, and the file
pub record Hold : Type 0 where
  pub host : HostId
  pub label : List ℕ
  pub fid : Fid

abbrev pub lock_hold : LockUse → Hold
lock_hold lock = record { host = lock.host; label = lock.label; fid = lock.fid }

abbrev pub open_hold : OpenUse → Hold
open_hold opened = record { host = opened.host; label = opened.label; fid = opened.fid }

-- whether a host's label is another host's label
abbrev pub same_label : HostId → List ℕ → HostId → List ℕ → Bool
same_label host label other other_label = (host.0 == other.0) && same_name label other_label

-- whether a host's label comes before another: by host, and then by label
abbrev pub label_before : HostId → List ℕ → HostId → List ℕ → Bool
label_before host label other other_label =
    nat_lt host.0 other.0 || ((host.0 == other.0) && is_before label other_label)

-- whether this is what a host holds under a label
abbrev pub is_under : {U : Type 0} → (U → Hold) → HostId → List ℕ → U → Bool
is_under hold host label one = same_label (hold one).host (hold one).label host label

-- whether a host holds something under a label
abbrev pub has_label : {U : Type 0} → (U → Hold) → List U → HostId → List ℕ → Bool
has_label hold all host label = list_any (is_under hold host label) all

-- how many labels a host has
abbrev pub label_count : {U : Type 0} → (U → Hold) → List U → HostId → ℕ
label_count hold all host = count_by (λ one. (hold one).host.0 == host.0) all

-- where a host's label goes: before the first that comes after it
abbrev pub label_place : {U : Type 0} → (U → Hold) → List U → HostId → List ℕ → ℕ
label_place hold all host label =
    unwrap_or (position (λ one. label_before host label (hold one).host (hold one).label) all) (length all)

-- with one more, at the place of its label
abbrev pub with_one : {U : Type 0} → (U → Hold) → List U → U → List U
with_one hold all one = insert all (label_place hold all (hold one).host (hold one).label) one

-- without what a host holds under a label
abbrev pub without_label : {U : Type 0} → (U → Hold) → List U → HostId → List ℕ → List U
without_label hold all host label = filter (λ one. not (is_under hold host label one)) all

-- whether some host holds a file
abbrev pub is_held : {U : Type 0} → (U → Hold) → List U → Fid → Bool
is_held hold all fid = list_any (λ one. same_fid (hold one).fid fid) all

-- whether some host holds a file of a fileset
abbrev pub is_fileset_held : {U : Type 0} → (U → Hold) → List U → FilesetId → Bool
is_fileset_held hold all id = list_any (λ one. (hold one).fid.fileset.0 == id.0) all

-- whether a file is locked, or open, by any host
abbrev pub is_used : List LockUse → List OpenUse → Fid → Bool
is_used locks opens fid = is_held lock_hold locks fid || is_held open_hold opens fid
