-- What is dirty of one file.
use Rattle.std.specs.Prelude.{ℕ, Bool, ◌==◌, ◌&&◌, [], length, None, is_none}
use Rattle.std.specs.Ordering.{ordering_then, nat_cmp}
use Rattle.std.specs.declared.cmp.Ordering.{Ordering}
use Rattle.base_types.specs.declared.ids.Fid.{Fid}
use Rattle.host_dirty.specs.declared.file.DirtyFile.{DirtyFile}

abbrev pub FileKey : Type 0
FileKey = ℕ × (ℕ × ℕ)

abbrev pub key_of : Fid → FileKey
key_of fid = (fid.fileset.0, (fid.anode, fid.unique))

abbrev pub fid_of : FileKey → Fid
fid_of key = record { fileset = record { 0 = key.0 }; anode = key.1.0; unique = key.1.1 }

-- the order of fids: by filesets, anodes and unique numbers
abbrev pub key_cmp : FileKey → FileKey → Ordering
key_cmp a b = ordering_then (nat_cmp a.0 b.0) (ordering_then (nat_cmp a.1.0 b.1.0) (nat_cmp a.1.1 b.1.1))

-- nothing is dirty
abbrev pub clean : DirtyFile
clean = record { spans = []; length = None }

-- whether neither a position nor the length is dirty
abbrev pub is_clean : DirtyFile → Bool
is_clean file = (length file.spans == 0) && is_none file.length
