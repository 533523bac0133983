-- How the objects of a fileset are found from its root.
use Rattle.std.specs.Prelude.{
  ◌≡◌,
  ◌≤◌,
  ◌⊎◌,
  ℕ,
  ◌==◌,
  nat_eq,
  nat_le,
  Bool,
  true,
  false,
  ◌&&◌,
  List,
  [],
  ◌∷◌,
  ◌++◌,
  length,
  map,
  take,
  Some,
}
use Rattle.std.specs.List.{flat_map, list_all, list_any, IsDistinct}
use Rattle.std.specs.Option.{option_map_or}
use Rattle.base_types.specs.declared.limits.TheConstants.{FILE_BYTES_MAX}
use Rattle.tree_calls.specs.declared.part.DirEntry.{DirEntry}
use Rattle.tree_objects.specs.Objects.{is_dir}
use Rattle.tree_objects.specs.Sound.{names_rise}
use Rattle.tree_objects.specs.declared.content.Anode.{Anode}
use Rattle.tree_objects.specs.declared.content.Content.{Content}
use Rattle.tree_objects.specs.declared.content.Content.TheVariants.{Dir, File}
use Rattle.tree_filesets.specs.Laws.{entries_in}
use Rattle.tree_filesets.specs.Walk.{object_at, unique_at}
use Rattle.tree_filesets.specs.WellFormed.{leads, IsUsed, IsWellFormed}
use Rattle.tree_filesets.specs.declared.fileset.Fileset.{Fileset}
use Rattle.message_types.specs.Soundness.{Each}

-- whether the content of an object is well formed, where nothing of it is unsaved
abbrev pub is_kept_sound : Content → Bool
is_kept_sound (Dir entries lists) = names_rise entries && (length lists == 3)
is_kept_sound (File list kept unsaved len) = nat_le (length kept) FILE_BYTES_MAX

-- whether that of each object is
abbrev pub are_kept_sound : List Anode → Bool
are_kept_sound anodes =
    list_all (λ anode. option_map_or (λ object. is_kept_sound object.content) anode.object true) anodes

-- whether the first anode is in its first use, and a directory
abbrev pub has_root : List Anode → Bool
has_root anodes =
    (unique_at anodes 1 == 1) && option_map_or (λ object. is_dir object.content) (object_at anodes 1) false

-- the entries of the directory at an anode
abbrev pub entries_at : List Anode → ℕ → List DirEntry
entries_at anodes at = option_map_or (λ object. entries_in object.content) (object_at anodes at) []

-- the anodes that entries lead to
abbrev pub targets : List DirEntry → List ℕ
targets entries = map (λ entry. entry.anode) entries

-- Entries lead on from anodes that were found: each to an object in its present use, and to none that was found.
pub record LeadOn (anodes : List Anode) (entries : List DirEntry) (old new : List ℕ) : Type 0 where
  pub all : new ≡ old ++ targets entries
  pub used : Each (IsUsed anodes) entries
  pub once : IsDistinct nat_eq old → IsDistinct nat_eq new

-- Entries don't: one names no present use, or an anode that was found.
pub record LeadAstray (anodes : List Anode) (entries : List DirEntry) (old : List ℕ) : Type 0 where
  pub front : List DirEntry
  pub entry : DirEntry
  pub back : List DirEntry
  pub among : entries ≡ front ++ entry ∷ back
  pub wrong : (IsUsed anodes entry → ⊥) ⊎ (list_any (nat_eq entry.anode) (old ++ targets front) ≡ true)

-- some path leads to an anode from the root
abbrev pub IsLedTo : List Anode → ℕ → Type 0
IsLedTo anodes at = (path : List (List ℕ)) × (leads anodes 1 path ≡ Some at)

-- Anodes were found from the root on, each once: the root, and what the entries of the first n of them lead to.
pub record AreFound (anodes : List Anode) (n : ℕ) (found : List ℕ) : Type 0 where
  pub few : n ≤ length found
  pub all : found ≡ 1 ∷ flat_map (λ at. targets (entries_at anodes at)) (take n found)
  pub used : Each (λ at. Each (IsUsed anodes) (entries_at anodes at)) (take n found)
  pub once : IsDistinct nat_eq found
  pub led : Each (IsLedTo anodes) found

-- they are the anodes of a well formed fileset
abbrev pub AreWellFormed : List Anode → Type 0
AreWellFormed anodes = (fileset : Fileset) × (fileset.anodes ≡ anodes) × IsWellFormed fileset
