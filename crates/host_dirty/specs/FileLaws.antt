-- Laws that only the right list of dirty files meets.
use Rattle.std.specs.Prelude.{◌≡◌, not, map}
use Rattle.std.specs.List.{list_any}
use Rattle.std.specs.List.Sorted.{IsStrictlySortedBy}
use Rattle.base_types.specs.Ids.{same_fid}
use Rattle.base_types.specs.declared.ids.Fid.{Fid}
use Rattle.host_dirty.specs.Files.{key_of, key_cmp, is_clean}
use Rattle.host_dirty.specs.Dirtiness.{file_at, dirty_files}
use Rattle.host_dirty.specs.declared.dirty.Dirty.{Dirty}

-- each file comes before the ones behind it
abbrev pub FilesRise : Dirty → Type 0
FilesRise dirty = IsStrictlySortedBy key_cmp (map key_of (dirty_files dirty))

-- a file is one of them exactly where it isn't clean
abbrev pub FilesAreDirty : Dirty → Type 0
FilesAreDirty dirty =
    (fid : Fid) → list_any (same_fid fid) (dirty_files dirty) ≡ not (is_clean (file_at dirty fid))
