-- What an anode is, and how calls change it.
use Rattle.std.specs.Prelude.{
  ◌≡◌,
  ◌≤◌,
  ◌<◌,
  ℕ,
  ◌+◌,
  ◌-◌,
  ◌*◌,
  ◌/◌,
  ◌%◌,
  ◌==◌,
  ◌&&◌,
  max,
  min,
  Bool,
  List,
  [],
  length,
  not,
  if◌then◌else◌,
  nat_lt,
  nat_le,
}
use Rattle.std.proofs.Common.{get_or}
use Rattle.base_types.specs.Image.{byte_at, bytes_from}
use Rattle.disk_layout.specs.Numbers.{number_at}
use Rattle.disk_log.specs.State.{State}
use Rattle.disk_anode.specs.Room.{how_many}
use Rattle.disk_anode.specs.Node.{pointer_of, pointer_at, cell, node_in, HasNoBlocks, IsRanged}
use Rattle.disk_anode.specs.declared.node.Node.{Node}

-- An anode: its kind (0 free, 1 directory, 2 file); its unique number; its length, of a directory in entries and else
-- in bytes; its owner and group; the bytes of its lists (own, files, dirs), and its own. Past their ends they are zero.
pub record Anode : Type 0 where
  pub kind : ℕ
  pub unique : ℕ
  pub length : ℕ
  pub owner : List ℕ
  pub group : List ℕ
  pub lists : ℕ → ℕ → ℕ
  pub content : ℕ → ℕ

-- a length in bytes, of which there are 65,536 at most
abbrev pub byte_length : ℕ → ℕ → ℕ
byte_length kind n = min (if kind == 1 then 72 * n else n) 65536

-- a text behind its length
abbrev pub text_at : List ℕ → ℕ → List ℕ
text_at page at = bytes_from page (at + 1) (byte_at page at)

-- byte k of an anode of so many bytes
abbrev pub content_at : List ℕ → Node → ℕ → ℕ → ℕ
content_at image node n k = if nat_lt k n then cell image node (pointer_at (k / 1024)) (k % 1024) else 0

abbrev pub bytes_of : Node → ℕ
bytes_of node = byte_length (byte_at node.page 0) (number_at 4 8 node.page)

abbrev pub anode_of : List ℕ → Node → Anode
anode_of image node = record {
  kind = byte_at node.page 0;
  unique = number_at 4 4 node.page;
  length = number_at 4 8 node.page;
  owner = text_at node.page 76;
  group = text_at node.page 137;
  lists = λ which k. if nat_lt which 3 && nat_lt k 1024 then cell image node which k else 0;
  content = λ k. content_at image node (bytes_of node) k;
}

-- the anode in a page of a log
abbrev pub anode_in : State → List ℕ → ℕ → Anode
anode_in state image p = anode_of image (node_in state image p)

-- an anode of length 0 with empty lists
abbrev pub bare_anode : ℕ → ℕ → List ℕ → List ℕ → Anode
bare_anode kind unique owner group = record {
  kind = kind;
  unique = unique;
  length = 0;
  owner = owner;
  group = group;
  lists = λ which k. 0;
  content = λ k. 0;
}

-- a new file or directory
abbrev pub made : Bool → List ℕ → List ℕ → Anode → Anode
made dir owner group anode = bare_anode (if dir then 1 else 2) (anode.unique + 1) owner group

-- bytes under a piece from one on
abbrev pub over : ℕ → List ℕ → (ℕ → ℕ) → ℕ → ℕ
over from piece content k =
    if nat_le from k && nat_lt k (from + length piece) then get_or piece (k - from) 0 else content k

-- how long an anode has to be to have so many bytes, in its own unit
abbrev pub length_for : ℕ → ℕ → ℕ
length_for kind n = if kind == 1 then (n + 71) / 72 else n

-- an anode with a piece written from one on, which is no shorter than it has to be
abbrev pub written : ℕ → List ℕ → Anode → Anode
written from piece anode = record anode {
  length = max anode.length (length_for anode.kind (if length piece == 0 then 0 else from + length piece));
  content = over from piece anode.content;
}

-- an anode with a length: what is past it is gone, and what is new is zero
abbrev pub with_length : ℕ → Anode → Anode
with_length n anode = record anode {
  length = n;
  content = λ k. if nat_lt k (byte_length anode.kind n) then anode.content k else 0;
}

-- an anode whose bytes end with a piece that was written from one on: what stood from there on is gone
abbrev pub ended : ℕ → List ℕ → Anode → Anode
ended from piece anode = record anode {
  length = length_for anode.kind (from + length piece);
  content = λ k. if nat_lt k (from + length piece) then over from piece anode.content k else 0;
}

-- an anode with a list in its block
abbrev pub with_list : ℕ → List ℕ → Anode → Anode
with_list which bytes anode = record anode {
  lists = λ w k.
      if w == which then (if nat_lt k 1024 then get_or bytes k 0 else 0) else anode.lists w k;
}

-- a free anode that keeps its unique number
abbrev pub freed : Anode → Anode
freed anode = bare_anode 0 anode.unique [] []

-- the page of an anode of length 0 without blocks
pub record IsPage (kind unique : ℕ) (owner group page : List ℕ) : Type 0 where
  pub kind_is : byte_at page 0 ≡ kind
  pub first : (k : ℕ) → 1 ≤ k → k < 4 → byte_at page k ≡ 0
  pub unique_is : number_at 4 4 page ≡ unique
  pub zero : (k : ℕ) → 8 ≤ k → k < 76 → byte_at page k ≡ 0
  pub owner_size : byte_at page 76 ≡ length owner
  pub owner_is : text_at page 76 ≡ owner
  pub owner_rest : (k : ℕ) → 77 + length owner ≤ k → k < 137 → byte_at page k ≡ 0
  pub group_size : byte_at page 137 ≡ length group
  pub group_is : text_at page 137 ≡ group
  pub group_rest : (k : ℕ) → 138 + length group ≤ k → k < 512 → byte_at page k ≡ 0

-- The bytes that no field of an anode names are zero: in its page, behind the pointers of its indirect block, and past
-- the entries of a directory in their last block. No pointer is out of range. A list that is zero has no block. There
-- may be blocks past the bytes of an anode, and anything past those of a file in their last block.
pub record IsTidy (image : List ℕ) (node : Node) : Type 0 where
  pub first : (k : ℕ) → 1 ≤ k → k < 4 → byte_at node.page k ≡ 0
  pub owner : (k : ℕ) → 77 + byte_at node.page 76 ≤ k → k < 137 → byte_at node.page k ≡ 0
  pub group : (k : ℕ) → 138 + byte_at node.page 137 ≤ k → k < 512 → byte_at node.page k ≡ 0
  pub behind : (k : ℕ) → 208 ≤ k → k < 1024 → byte_at node.map k ≡ 0
  pub past : byte_at node.page 0 ≡ 1 → (k : ℕ) → bytes_of node ≤ k
      → k < 65536 → 1024 * (k / 1024) < bytes_of node → cell image node (pointer_at (k / 1024)) (k % 1024) ≡ 0
  pub range : IsRanged node
  pub lists : (w : ℕ) → w < 3 → ((k : ℕ) → k < 1024 → cell image node w k ≡ 0) → pointer_of node w ≡ 0

-- no pointer of an anode is past the end of its bytes
abbrev pub IsTrimmed : Node → Type 0
IsTrimmed node = (i : ℕ) → i < 64 → bytes_of node ≤ 1024 * i → pointer_of node (pointer_at i) ≡ 0

-- how many pointers of an anode's indirect block are past the end of its bytes
abbrev pub names_past : Node → ℕ
names_past node = how_many (λ j. nat_le (bytes_of node) (1024 * (12 + j)) && not (pointer_of node (16 + j) == 0)) 52

-- an anode without blocks
pub record IsBare (image : List ℕ) (node : Node) : Type 0 where
  pub none : HasNoBlocks node
  pub tidy : IsTidy image node
