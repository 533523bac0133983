-- When a fileset is well formed.
use Rattle.std.specs.Prelude.{◌≡◌, ◌≢◌, ◌≤◌, ℕ, Bool, true, false, List, [], ◌∷◌, length, Option, Some, None, is_some}
use Rattle.std.specs.List.{list_all}
use Rattle.std.specs.Option.{option_and_then, option_map_or}
use Rattle.base_types.specs.declared.limits.TheConstants.{OBJECTS_MAX}
use Rattle.tree_calls.specs.declared.part.DirEntry.{DirEntry}
use Rattle.tree_objects.specs.declared.content.Content.{Content}
use Rattle.tree_objects.specs.declared.content.Content.TheVariants.{Dir, File}
use Rattle.tree_objects.specs.declared.content.Object.{Object}
use Rattle.tree_objects.specs.declared.content.Anode.{Anode}
use Rattle.tree_objects.specs.Entries.{entry_named}
use Rattle.tree_objects.specs.Objects.{is_dir}
use Rattle.tree_objects.specs.Sound.{is_sound}
use Rattle.tree_filesets.specs.declared.fileset.Fileset.{Fileset}
use Rattle.tree_filesets.specs.Walk.{object_at, unique_at}

-- the entry of a name, where it is a directory
abbrev pub entry_in : Content → List ℕ → Option DirEntry
entry_in (Dir entries lists) name = entry_named entries name
entry_in (File list kept unsaved len) name = None

-- the entry of a name in the directory at an anode
abbrev pub entry_at : List Anode → ℕ → List ℕ → Option DirEntry
entry_at anodes at name = option_and_then (λ object. entry_in object.content name) (object_at anodes at)

-- the anode that names lead to, whoever asks
abbrev pub leads : List Anode → ℕ → List (List ℕ) → Option ℕ
leads anodes at [] = Some at
leads anodes at (name ∷ names) = option_and_then (λ entry. leads anodes entry.anode names) (entry_at anodes at name)

-- whether an entry names the present use of an anode
abbrev pub IsUsed : List Anode → DirEntry → Type 0
IsUsed anodes entry = (is_some (object_at anodes entry.anode) ≡ true) × (unique_at anodes entry.anode ≡ entry.unique)

-- A fileset is a tree: each object is reached from the root, by one path.
pub record IsWellFormed (fileset : Fileset) : Type 0 where
  -- it has all its anodes, and no more than a fileset may have
  pub count : length fileset.anodes ≡ fileset.objects
  pub limit : fileset.objects ≤ OBJECTS_MAX
  -- the first is in its first use, and a directory
  pub first : unique_at fileset.anodes 1 ≡ 1
  pub root : option_map_or (λ object. is_dir object.content) (object_at fileset.anodes 1) false ≡ true
  -- each object is well formed by itself
  pub sound : (at : ℕ) (object : Object) → object_at fileset.anodes at ≡ Some object → is_sound object.content ≡ true
  -- each entry names an object that is there
  pub named : (at : ℕ) (name : List ℕ) (entry : DirEntry)
      → entry_at fileset.anodes at name ≡ Some entry → IsUsed fileset.anodes entry
  -- no two entries name one object, and none names the root
  pub once : (a b : ℕ) (m n : List ℕ) (e f : DirEntry)
      → entry_at fileset.anodes a m ≡ Some e → entry_at fileset.anodes b n ≡ Some f
      → e.anode ≡ f.anode → (a ≡ b) × (m ≡ n)
  pub rootless : (at : ℕ) (name : List ℕ) (entry : DirEntry)
      → entry_at fileset.anodes at name ≡ Some entry → entry.anode ≢ 1
  -- some path leads to each object
  pub reached : (at : ℕ) (object : Object) → object_at fileset.anodes at ≡ Some object →
      (path : List (List ℕ)) × (leads fileset.anodes 1 path ≡ Some at)

-- whether nothing of an object is unsaved
abbrev pub is_settled : Content → Bool
is_settled (Dir entries lists) = true
is_settled (File list kept [] None) = true
is_settled (File list kept unsaved len) = false

-- whether nothing in a fileset is unsaved
abbrev pub is_at_rest : Fileset → Bool
is_at_rest fileset =
    list_all (λ anode. option_map_or (λ object. is_settled object.content) anode.object true) fileset.anodes
