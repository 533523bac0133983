-- When the content of an object is well formed.
use Rattle.std.specs.Prelude.{ℕ, ◌==◌, nat_lt, nat_le, Bool, true, ◌&&◌, List, [], ◌∷◌, length, Option}
use Rattle.std.specs.List.{list_all}
use Rattle.std.specs.Option.{option_map_or}
use Rattle.base_types.specs.Name.{is_before}
use Rattle.base_types.specs.declared.limits.TheConstants.{FILE_BYTES_MAX}
use Rattle.tree_calls.specs.declared.part.DirEntry.{DirEntry}
use Rattle.tree_objects.specs.declared.content.UnsavedLength.{UnsavedLength}
use Rattle.tree_objects.specs.declared.content.Content.{Content}
use Rattle.tree_objects.specs.declared.content.Content.TheVariants.{Dir, File}
use Rattle.tree_objects.specs.Files.{present_length}
use Rattle.tree_objects.specs.Positions.{positions_rise}

-- whether the names of entries rise, so that no two are the same
abbrev pub names_rise : List DirEntry → Bool
names_rise [] = true
names_rise (entry ∷ entries) = list_all (λ other. is_before entry.name other.name) entries && names_rise entries

-- whether a length that is unsaved, where there is one, is above the kept one
abbrev pub is_longer : List ℕ → Option UnsavedLength → Bool
is_longer kept len = option_map_or (λ unsaved. nat_lt (length kept) unsaved.length) len true

-- Whether the content of an object is well formed. In a directory names rise, and it has three lists. A file has at
-- most so many bytes, kept and present, its unsaved bytes stand at rising positions among these, and a length that is
-- unsaved is above the kept one.
abbrev pub is_sound : Content → Bool
is_sound (Dir entries lists) = names_rise entries && (length lists == 3)
is_sound (File list kept unsaved len) =
    nat_le (length kept) FILE_BYTES_MAX && nat_le (present_length kept len) FILE_BYTES_MAX
    && positions_rise unsaved && list_all (λ byte. nat_lt byte.at FILE_BYTES_MAX) unsaved
    && is_longer kept len
