-- What is dirty of files.
use Rattle.std.specs.Prelude.{◌≡◌, ℕ, Bool, ◌&&◌, ◌||◌, not, if◌then◌else◌, List, map, filter}
use Rattle.std.specs.Prelude.{Option, unwrap_or}
use Rattle.std.specs.BTreeMap.{get, keys}
use Rattle.base_types.specs.Ids.{same_fid}
use Rattle.base_types.specs.Spans.{has_byte, in_spans}
use Rattle.base_types.specs.declared.ids.Fid.{Fid}
use Rattle.base_types.specs.declared.span.Span.{Span}
use Rattle.host_dirty.specs.Files.{key_of, fid_of, key_cmp, clean, is_clean}
use Rattle.host_dirty.specs.declared.dirty.Dirty.{Dirty}
use Rattle.host_dirty.specs.declared.file.DirtyFile.{DirtyFile}

abbrev pub file_at : Dirty → Fid → DirtyFile
file_at dirty fid = unwrap_or (get key_cmp dirty.files (key_of fid)) clean

abbrev pub spans_of : Dirty → Fid → List Span
spans_of dirty fid = (file_at dirty fid).spans

abbrev pub length_of : Dirty → Fid → Option ℕ
length_of dirty fid = (file_at dirty fid).length

-- whether a position of a file is dirty
abbrev pub is_dirty : Dirty → Fid → ℕ → Bool
is_dirty dirty fid at = in_spans (spans_of dirty fid) at

-- the files of which anything is dirty, in order
abbrev pub dirty_files : Dirty → List Fid
dirty_files dirty = filter (λ fid. not (is_clean (file_at dirty fid))) (map fid_of (keys dirty.files))

-- the same is dirty
abbrev pub IsSame : Dirty → Dirty → Type 0
IsSame old new = (fid : Fid) → file_at new fid ≡ file_at old fid

-- this is dirty of a file, and the same as before of all others
abbrev pub Puts : Dirty → Fid → DirtyFile → Dirty → Type 0
Puts old fid file new =
    (other : Fid) → file_at new other ≡ (if same_fid fid other then file else file_at old other)

-- the positions of a span of a file are dirty, and all that was
pub record Adds (old : Dirty) (fid : Fid) (span : Span) (new : Dirty) : Type 0 where
  pub positions : (other : Fid) (at : ℕ) →
      is_dirty new other at ≡ (is_dirty old other at || (same_fid fid other && has_byte span at))
  pub lengths : (other : Fid) → length_of new other ≡ length_of old other

-- all that was dirty is, but for the positions of a span of a file
pub record Cuts (old : Dirty) (fid : Fid) (span : Span) (new : Dirty) : Type 0 where
  pub positions : (other : Fid) (at : ℕ) →
      is_dirty new other at ≡ (is_dirty old other at && not (same_fid fid other && has_byte span at))
  pub lengths : (other : Fid) → length_of new other ≡ length_of old other

-- this is the dirty length of a file
pub record SetsLength (old : Dirty) (fid : Fid) (length : Option ℕ) (new : Dirty) : Type 0 where
  pub positions : (other : Fid) (at : ℕ) → is_dirty new other at ≡ is_dirty old other at
  pub lengths : (other : Fid) →
      length_of new other ≡ (if same_fid fid other then length else length_of old other)
