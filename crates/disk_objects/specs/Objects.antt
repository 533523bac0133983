-- The anodes that keep the objects of filesets.
use Rattle.std.specs.Prelude.{◌≡◌, ◌≤◌, ◌<◌, ℕ, ◌+◌, ◌-◌, ◌*◌, ◌/◌, ◌%◌, ◌==◌, nat_lt, if◌then◌else◌, true, List}
use Rattle.std.specs.Prelude.{[], ◌∷◌, length, slice_get, None, IfSome, IsTrue, ⊤, unwrap_or, ◌⊎◌, is_none}
use Rattle.std.specs.List.{sum_by}
use Rattle.std.specs.Option.{option_map_or}
use Rattle.std.proofs.Common.{get_or}
use Rattle.base_types.specs.Access.{is_access_list}
use Rattle.base_types.specs.Lists.{changed_at}
use Rattle.base_types.specs.Name.{is_name}
use Rattle.base_types.specs.declared.access.AccessEntry.{AccessEntry}
use Rattle.tree_objects.specs.declared.content.Content.{Content}
use Rattle.tree_objects.specs.declared.content.Content.TheVariants.{Dir, File}
use Rattle.tree_objects.specs.declared.content.Object.{Object}
use Rattle.tree_objects.specs.declared.content.Anode.{Anode}
use Rattle.tree_objects.specs.Objects.{is_dir}
use Rattle.tree_objects.specs.Sound.{names_rise}
use Rattle.tree_filesets.specs.Founding.{unused_anode}
use Rattle.tree_filesets.specs.Promises.{anode_blocks, new_promise}
use Rattle.tree_filesets.specs.Laws.{lists_in}
use Rattle.disk_log.specs.State.{State}
use Rattle.disk_anode.specs.Anode.{Anode as Kept, IsTrimmed}
use Rattle.disk_anode.specs.Node.{node_in}
use Rattle.disk_lists.specs.Lists.{list_bytes, EachFits as EntriesFit}
use Rattle.disk_lists.specs.Entries.{bytes_of, EachFits as NamesFit}
use Rattle.disk_objects.specs.Holds.{is_anode, no_anode, HoldsNow}

-- the bytes of an object, and how many bytes a file or entries a directory has
abbrev pub bytes_kept : Content → List ℕ
bytes_kept (Dir entries lists) = bytes_of entries
bytes_kept (File list kept unsaved len) = kept

abbrev pub length_kept : Content → ℕ
length_kept (Dir entries lists) = length entries
length_kept (File list kept unsaved len) = length kept

-- a byte of the block of an access list
abbrev pub list_byte : List (List AccessEntry) → ℕ → ℕ → ℕ
list_byte lists which k =
    if nat_lt k 1024 then get_or (option_map_or list_bytes (slice_get lists which) []) k 0 else 0

-- the anode that keeps an object, in a use
abbrev pub object_kept : ℕ → Object → Kept
object_kept unique object = record {
  kind = if is_dir object.content then 1 else 2;
  unique = unique;
  length = length_kept object.content;
  owner = object.owner;
  group = object.group;
  lists = λ which k. list_byte (lists_in object.content) which k;
  content = λ k. get_or (bytes_kept object.content) k 0;
}

-- the anode that keeps what the tree has; a free one keeps its unique number
abbrev pub kept_of : Anode → Kept
kept_of anode = option_map_or (object_kept anode.unique) anode.object (record no_anode { unique = anode.unique })

-- The page of an anode of a slot. Slots are counted from 0, and anodes from 1.
abbrev pub page_for : ℕ → ℕ → ℕ
page_for slot anode = 3 + 66 * slot + anode

abbrev pub anode_at : List Anode → ℕ → Anode
anode_at anodes anode = unwrap_or (slice_get anodes (anode - 1)) unused_anode

-- the anodes of all pages, where these are the anodes of each slot
unfoldable pub kept_anodes : (ℕ → List Anode) → ℕ → Kept
kept_anodes slots p =
    if is_anode p then kept_of (anode_at (slots ((p - 2) / 66)) ((p - 2) % 66 - 1)) else no_anode

-- other anodes in a slot
abbrev pub with_slot : ℕ → List Anode → (ℕ → List Anode) → ℕ → List Anode
with_slot slot anodes slots s = if s == slot then anodes else slots s

-- one anode of a slot changed
abbrev pub with_anode : ℕ → ℕ → (Anode → Anode) → (ℕ → List Anode) → ℕ → List Anode
with_anode slot anode change slots = with_slot slot (changed_at (slots slot) (anode - 1) change) slots

-- access lists that can be kept
abbrev pub FitsList : List AccessEntry → Type 0
FitsList list = IsTrue (is_access_list list) × EntriesFit list

abbrev pub EachList : List (List AccessEntry) → Type 0
EachList [] = ⊤
EachList (list ∷ lists) = FitsList list × EachList lists

-- an object that can be kept: nothing of it is unsaved, and a directory has at most 64 entries
abbrev pub FitsContent : Content → Type 0
FitsContent (Dir entries lists) =
    (length entries ≤ 64) × NamesFit entries × (names_rise entries ≡ true) × (length lists ≡ 3) × EachList lists
FitsContent (File list kept unsaved len) =
    (length kept ≤ 65536) × (unsaved ≡ []) × (len ≡ None) × FitsList list

pub record FitsObject (object : Object) : Type 0 where
  pub owner : IsTrue (is_name object.owner)
  pub group : IsTrue (is_name object.group)
  pub content : FitsContent object.content

-- the anodes of a slot that can be kept
pub record AreKept (anodes : List Anode) : Type 0 where
  pub count : length anodes ≡ 64
  pub each : (anode : ℕ) → 1 ≤ anode → anode ≤ 64 → IfSome (anode_at anodes anode).object FitsObject

-- A log holds the anodes of each slot now.
pub record KeepsNow (slots : ℕ → List Anode) (state : State) (image : List ℕ) : Type 0 where
  pub held : HoldsNow (kept_anodes slots) state image
  pub each : (slot : ℕ) → slot < 16 → AreKept (slots slot)

-- no anode of a slot has pointers past its length
abbrev pub AreTrimmed : ℕ → State → List ℕ → Type 0
AreTrimmed slot state image =
    (anode : ℕ) → 1 ≤ anode → anode ≤ 64 → IsTrimmed (node_in state image (page_for slot anode))

-- So many blocks cover a slot: what a writable fileset is promised whose limit its anodes keep, or else, where none has
-- pointers past its length, as in a clone, what its objects have.
abbrev pub IsCovered : List Anode → ℕ → State → List ℕ → ℕ → Type 0
IsCovered anodes slot state image blocks =
    ((objects : ℕ) × ((anode : ℕ) → objects < anode → anode ≤ 64 → is_none (anode_at anodes anode).object ≡ true)
    × (new_promise objects ≤ blocks))
    ⊎ (AreTrimmed slot state image × (sum_by anode_blocks anodes ≤ blocks))

-- the same of anodes that are being made, of which nothing else is said
pub record HeldNow (slots : ℕ → List Anode) (state : State) (image : List ℕ) : Type 0 where
  pub held : HoldsNow (kept_anodes slots) state image
  pub count : (slot : ℕ) → slot < 16 → length (slots slot) ≡ 64
