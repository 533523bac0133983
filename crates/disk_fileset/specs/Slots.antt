-- What a call that changes a slot asks, and what it keeps.
use Rattle.std.specs.Prelude.{
  ◌≡◌,
  ◌≢◌,
  ◌≤◌,
  ◌<◌,
  ◌⊎◌,
  ℕ,
  ◌+◌,
  ◌*◌,
  ◌&&◌,
  ◌||◌,
  ◌==◌,
  if◌then◌else◌,
  nat_le,
  nat_lt,
  Bool,
  true,
  false,
  List,
  [],
  ◌∷◌,
  length,
  map,
  None,
  Some,
  is_none,
  not,
  Result,
  OnOk,
  IfErr,
}
use Rattle.std.specs.Option.{option_map, option_map_or}
use Rattle.base_types.specs.View.{View}
use Rattle.tree_calls.specs.declared.place.Which.{Which}
use Rattle.tree_objects.specs.declared.content.Anode.{Anode}
use Rattle.tree_objects.specs.declared.content.Content.{Content}
use Rattle.tree_objects.specs.declared.content.Content.TheVariants.{Dir, File}
use Rattle.tree_objects.specs.Changes.{anode_changed, anode_freed}
use Rattle.tree_objects.specs.Entries.{entry_named, content_with_entry, content_without_entry}
use Rattle.tree_objects.specs.declared.content.Object.{Object}
use Rattle.tree_objects.specs.Objects.{is_dir, list_index}
use Rattle.tree_objects.specs.Sound.{names_rise}
use Rattle.tree_filesets.specs.Laws.{lists_in}
use Rattle.tree_filesets.specs.Creation.{is_vacant, occupied}
use Rattle.tree_filesets.specs.declared.creating.Creation.{Creation}
use Rattle.tree_filesets.specs.declared.renaming.Move.{Move}
use Rattle.disk_log.specs.Log.{disk_of, state_of, slot_of, IsSoundLog}
use Rattle.disk_log.specs.Puts.{page_of}
use Rattle.disk_log.specs.State.{State}
use Rattle.disk_log.specs.declared.kept.Tx.{Tx}
use Rattle.disk_log.specs.declared.log.Log.{Log}
use Rattle.disk_space.specs.Counts.{count_now}
use Rattle.disk_anode.specs.Anode.{IsTrimmed}
use Rattle.disk_anode.specs.Changes.{WroteLoose}
use Rattle.disk_anode.specs.Faults.{IsNodeFault}
use Rattle.disk_anode.specs.Node.{pointer_of, node_in}
use Rattle.disk_anode.specs.Room.{free_blocks, MayPutAll, PutsPages}
use Rattle.disk_anode.specs.declared.fault.NodeFault.{NodeFault}
use Rattle.disk_objects.specs.Holds.{is_anode}
use Rattle.disk_objects.specs.Objects.{anode_at, page_for, with_slot, with_anode, KeepsNow}

-- the pages of a slot's anodes, and those of counts
abbrev pub slot_pages : ℕ → ℕ → Bool
slot_pages slot p = (nat_le (4 + 66 * slot) p && nat_lt p (68 + 66 * slot)) || nat_le 1058 p

-- the pages of the server and of filesets that pass a test are the same
abbrev pub SamePages : (ℕ → Bool) → State → List ℕ → State → List ℕ → Type 0
SamePages test old before new after = (p : ℕ) → p < 1058 → test p ≡ true
    → page_of new.entries new.puts after p ≡ page_of old.entries old.puts before p

-- A run wrote blocks alone that no pointer names in whatever a crash may leave.
abbrev pub WroteUnused : State → View → View → Type 0
WroteUnused state old new = WroteLoose (λ block. count_now state old.image block) state old new

-- what a log holds now, in the sense of a relation
abbrev pub Held : {D : Type 0} → ((ℕ → List Anode) → State → List ℕ → Type 0) → (D → View) → (ℕ → List Anode) → Log D
    → Type 0
Held holds view slots log = holds slots (state_of log) (view (disk_of log)).image

-- A slot may be changed: where the disk is told, the log holds some anodes that meet a condition, and so many blocks
-- are free. The transaction may put the pages of the slot's anodes and those of counts.
pub record MayTurn {D : Type 0} (holds : (ℕ → List Anode) → State → List ℕ → Type 0) (tells : Type 0)
    (view : D → View) (condition : (ℕ → List Anode) → Type 0) (slot blocks : ℕ) (log : Log D) (tx : Tx) : Type 0 where
  pub sound : IsSoundLog tells view log
  pub may : MayPutAll (slot_pages slot) (state_of log) (slot_of tx)
  pub held : tells → (slots : ℕ → List Anode) × Held holds view slots log × condition slots
  pub room : tells → blocks ≤ free_blocks (state_of log) (view (disk_of log)).image

-- What is held changes so, where it meets the condition.
abbrev pub Turned : {D T : Type 0} → ((ℕ → List Anode) → State → List ℕ → Type 0) → Type 0 → (D → View)
    → ((ℕ → List Anode) → Type 0) → ((ℕ → List Anode) → ℕ → List Anode) → Result T NodeFault → Log D → Log D → Type 0
Turned holds tells view condition change result old new = tells → (slots : ℕ → List Anode) → Held holds view slots old
    → condition slots → OnOk result (Held holds view (change slots) new)

-- The same of the objects that a log keeps.
abbrev pub Keeps : {D : Type 0} → (D → View) → (ℕ → List Anode) → Log D → Type 0
Keeps view slots log = Held KeepsNow view slots log

abbrev pub MayChange : {D : Type 0} → Type 0 → (D → View) → ((ℕ → List Anode) → Type 0) → ℕ → ℕ → Log D → Tx → Type 0
MayChange tells view condition slot blocks log tx = MayTurn KeepsNow tells view condition slot blocks log tx

abbrev pub TurnsInto : {D T : Type 0} → Type 0 → (D → View) → ((ℕ → List Anode) → Type 0)
    → ((ℕ → List Anode) → ℕ → List Anode) → Result T NodeFault → Log D → Log D → Type 0
TurnsInto tells view condition change result old new = Turned KeepsNow tells view condition change result old new

-- What a call that changes a slot keeps: the log is sound, and its transaction the same, which put pages of the slot's
-- anodes and of counts alone, so that all others are the same. It wrote unused blocks alone, and at most so many fewer
-- are free. An error is the disk's, or want of memory.
pub record ChangesSlot {D T : Type 0} (tells : Type 0) (view : D → View) (slot blocks : ℕ)
    (result : Result T NodeFault) (old new : Log D) (tx changed : Tx) : Type 0 where
  pub sound : IsSoundLog tells view new
  pub same : changed ≡ tx
  pub puts : PutsPages (slot_pages slot) (slot_of tx) (state_of old) (state_of new)
  pub pages : tells → OnOk result (SamePages (λ p. not (slot_pages slot p))
      (state_of old) (view (disk_of old)).image (state_of new) (view (disk_of new)).image)
  pub room : tells → OnOk result (free_blocks (state_of old) (view (disk_of old)).image
      ≤ free_blocks (state_of new) (view (disk_of new)).image + blocks)
  pub wrote : tells → WroteUnused (state_of old) (view (disk_of old)) (view (disk_of new))
  pub counted : (view (disk_of old)).faults ≤ (view (disk_of new)).faults
  pub only : IfErr result (λ fault. IsNodeFault fault (view (disk_of old)) (view (disk_of new)))

-- whether an anode has an object with this access list
abbrev pub has_list : Which → Anode → Bool
has_list which anode =
    option_map_or (λ object. nat_lt (list_index which) (length (lists_in object.content))) anode.object false

abbrev pub HasList : ℕ → ℕ → Which → (ℕ → List Anode) → Type 0
HasList slot anode which slots = has_list which (anode_at (slots slot) anode) ≡ true

-- whether it is a file
abbrev pub is_file : Content → Bool
is_file (Dir entries lists) = false
is_file (File list kept unsaved len) = true

abbrev pub IsFile : ℕ → ℕ → (ℕ → List Anode) → Type 0
IsFile slot anode slots =
    option_map_or (λ object. is_file object.content) (anode_at (slots slot) anode).object false ≡ true

-- whether it is a directory
abbrev pub IsDir : ℕ → ℕ → (ℕ → List Anode) → Type 0
IsDir slot anode slots =
    option_map_or (λ object. is_dir object.content) (anode_at (slots slot) anode).object false ≡ true

-- whether it is a directory that takes an entry of a name: it has none, and fewer than 64 entries
abbrev pub takes_name : List ℕ → Content → Bool
takes_name name (Dir entries lists) = is_none (entry_named entries name) && nat_lt (length entries) 64
takes_name name (File list kept unsaved len) = false

abbrev pub TakesName : ℕ → ℕ → List ℕ → (ℕ → List Anode) → Type 0
TakesName slot anode name slots =
    option_map_or (λ object. takes_name name object.content) (anode_at (slots slot) anode).object false ≡ true

-- whether an anode is free
abbrev pub IsVacant : ℕ → ℕ → (ℕ → List Anode) → Type 0
IsVacant slot anode slots = is_none (anode_at (slots slot) anode).object ≡ true

-- The anode of a page is a copy of another one: it names blocks that this one names, none past its length, and maybe an
-- indirect block that no other anode names.
pub record IsCopy (from page : ℕ) (state : State) (image : List ℕ) : Type 0 where
  pub trimmed : IsTrimmed (node_in state image page)
  pub pointers : (w : ℕ) → w < 68 → w ≢ 15 → (pointer_of (node_in state image page) w ≡ 0)
      ⊎ (pointer_of (node_in state image page) w ≡ pointer_of (node_in state image from) w)
  pub map : (pointer_of (node_in state image page) 15 ≡ pointer_of (node_in state image from) 15)
      ⊎ ((other block : ℕ) → is_anode other ≡ true → other ≢ page → block < state.superblock.blocks
      → pointer_of (node_in state image page) 15 ≡ block + 1 → pointer_of (node_in state image other) 15 ≢ block + 1)

-- What a log keeps where a slot is being made of another one: each of its anodes is free, or a copy of the other one's
-- anode of its number.
pub record CopiesNow (from to : ℕ) (slots : ℕ → List Anode) (state : State) (image : List ℕ) : Type 0 where
  pub keeps : KeepsNow slots state image
  pub copies : (anode : ℕ) → 1 ≤ anode → anode ≤ 64 → IsVacant to anode slots
      ⊎ IsCopy (page_for from anode) (page_for to anode) state image

-- an entry that moves from a directory to one that takes its name
abbrev pub MayMove : ℕ → Move → (ℕ → List Anode) → Type 0
MayMove slot way slots = TakesName slot way.to way.entry.name slots × IsDir slot way.from slots

abbrev pub moved : ℕ → Move → (ℕ → List Anode) → ℕ → List Anode
moved slot way slots =
    with_anode slot way.from (anode_changed (content_without_entry way.name))
    (with_anode slot way.to (anode_changed (content_with_entry way.entry)) slots)

-- an object of which the entry of a name goes
abbrev pub removed : ℕ → ℕ → List ℕ → ℕ → (ℕ → List Anode) → ℕ → List Anode
removed slot directory name anode slots =
    with_anode slot anode anode_freed (with_anode slot directory (anode_changed (content_without_entry name)) slots)

-- whether an anode takes a new object
abbrev pub TakesObject : ℕ → ℕ → (ℕ → List Anode) → Type 0
TakesObject slot anode slots = is_vacant (anode_at (slots slot) anode) ≡ true

-- an empty object, of which nothing is unsaved; a directory has three lists
abbrev pub is_new : Content → Bool
is_new (Dir [] lists) = length lists == 3
is_new (File list [] [] None) = true
is_new _ = false

-- whether a directory has three lists
abbrev pub is_listed : Content → Bool
is_listed (Dir entries lists) = length lists == 3
is_listed (File list kept unsaved len) = true

-- the same without entries or bytes
abbrev pub emptied : Content → Content
emptied (Dir entries lists) = Dir [] lists
emptied (File list kept unsaved len) = File list [] [] None

-- an object that is kept whole: a directory of at most 64 entries in the order of their names, with three lists, or a
-- file of at most 65,536 bytes of which nothing is unsaved
abbrev pub is_whole : Content → Bool
is_whole (Dir entries lists) = nat_le (length entries) 64 && (length lists == 3) && names_rise entries
is_whole (File list kept [] None) = nat_le (length kept) 65536
is_whole _ = false

-- an anode in its next use, with its object
abbrev pub used_by : Object → Anode → Anode
used_by object free = occupied (free.unique + 1) object free

-- A new object goes to the anode that its entry names, in the use that the entry names, and its directory takes the
-- name of the entry.
abbrev pub MayMake : ℕ → Creation → (ℕ → List Anode) → Type 0
MayMake slot creation slots =
    TakesName slot creation.parent creation.entry.name slots × TakesObject slot creation.entry.anode slots
    × ((anode_at (slots slot) creation.entry.anode).unique + 1 ≡ creation.entry.unique)

abbrev pub made : ℕ → Creation → (ℕ → List Anode) → ℕ → List Anode
made slot creation slots =
    with_anode slot creation.entry.anode (occupied creation.entry.unique creation.object)
    (with_anode slot creation.parent (anode_changed (content_with_entry creation.entry)) slots)

-- an anode that is being made, before its lists are saved
abbrev pub blank_content : Bool → Content
blank_content dir = if dir then Dir [] ([] ∷ [] ∷ [] ∷ []) else File [] [] [] None

abbrev pub IsBlank : ℕ → ℕ → Bool → (ℕ → List Anode) → Type 0
IsBlank slot anode dir slots =
    option_map (λ object. object.content) (anode_at (slots slot) anode).object ≡ Some (blank_content dir)

-- whether all anodes of a slot are free
abbrev pub AllVacant : ℕ → (ℕ → List Anode) → Type 0
AllVacant slot slots = (anode : ℕ) → 1 ≤ anode → anode ≤ 64 → IsVacant slot anode slots

-- a slot whose anodes are all freed
abbrev pub slot_freed : ℕ → (ℕ → List Anode) → ℕ → List Anode
slot_freed slot slots = with_slot slot (map anode_freed (slots slot)) slots

-- a slot that has what another one has
abbrev pub slot_copied : ℕ → ℕ → (ℕ → List Anode) → ℕ → List Anode
slot_copied from to slots = with_slot to (slots from) slots

-- a free anode of a unique number
abbrev pub numbered : ℕ → Anode → Anode
numbered unique free = record { unique = unique; object = None }

-- an object whose lists are those of a content, and that has no entries or bytes yet
abbrev pub IsEmptied : ℕ → ℕ → Content → (ℕ → List Anode) → Type 0
IsEmptied slot anode content slots =
    option_map (λ object. object.content) (anode_at (slots slot) anode).object ≡ Some (emptied content)
