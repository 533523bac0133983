-- Bytes that were read.
use Rattle.std.proofs.Common.{◌≡◌, ◌<◌, ◌≤◌, ℕ, ◌+◌, ◌-◌, ◌*◌, ◌/◌, ◌%◌, List, get_or, refl, sym, ◌∙◌, ap, arith}
use Rattle.std.specs.Prelude.{Bool, true, false, ◌&&◌, nat_lt, if◌then◌else◌, replicate}
use Rattle.std.proofs.lemmas.Bool.Decides.{nat_tests}
use Rattle.std.proofs.lemmas.List.{get_or-replicate}
use Rattle.base_types.specs.Image.{byte_at, bytes_from}
use Rattle.base_outside.proofs.Image.{get_or-bytes_from}
use Rattle.disk_layout.specs.Places.{block_start, pages_of}
use Rattle.disk_anode.specs.Node.{pointer_of, pointer_at, is_pointer, byte_under, map_under, cell}
use Rattle.disk_anode.specs.Anode.{anode_of, content_at}
use Rattle.disk_anode.specs.declared.node.Node.{Node}

-- a byte of a block that was read
pub map_byte : (blocks : ℕ) (image : List ℕ) (pointer k : ℕ) → k < 1024 → get_or (map_under blocks image pointer) k 0 ≡ byte_under blocks image pointer k
map_byte blocks image pointer k lt = by (is_pointer blocks pointer)
  where
    by : (is : Bool) → get_or (if is then bytes_from image (block_start (pages_of blocks) (pointer - 1)) 1024 else replicate 1024 0) k 0 ≡ (if is then byte_at image (block_start (pages_of blocks) (pointer - 1) + k) else 0)
    by true = get_or-bytes_from image (block_start (pages_of blocks) (pointer - 1)) 1024 k lt
    by false = get_or-replicate 1024 k 0 0 lt

pub cell_read : (image bytes : List ℕ) (node : Node) (w k : ℕ) → bytes ≡ map_under node.blocks image (pointer_of node w) → k < 1024 → get_or bytes k 0 ≡ cell image node w k
unfolding cell
cell_read image bytes node w k is lt = ap (λ (l : List ℕ). get_or l k 0) is ∙ map_byte node.blocks image (pointer_of node w) k lt

-- and past the length
pub part_read : (image bytes cleared : List ℕ) (node : Node) (i k n : ℕ) → k < 1024 → bytes ≡ map_under node.blocks image (pointer_of node (pointer_at i))
    → ((j : ℕ) → j < n - 1024 * i → get_or cleared j 0 ≡ get_or bytes j 0) → ((j : ℕ) → n - 1024 * i ≤ j → j < 1024 → get_or cleared j 0 ≡ 0)
    → get_or cleared k 0 ≡ content_at image node n (1024 * i + k)
part_read image bytes cleared node i k n lt is below rest = by (nat_lt (1024 * i + k) n) refl
  where
    by : (inside : Bool) → nat_lt (1024 * i + k) n ≡ inside → get_or cleared k 0 ≡ (if inside then cell image node (pointer_at ((1024 * i + k) / 1024)) ((1024 * i + k) % 1024) else 0)
    by true e =
        let low : 1024 * i + k < n = grind (arith, nat_tests) in
        let a : i ≡ (1024 * i + k) / 1024 = omega arith in
        let b : k ≡ (1024 * i + k) % 1024 = omega arith in
        below k (omega arith) ∙ cell_read image bytes node (pointer_at i) k is lt ∙ (λ j. cell image node (pointer_at (a j)) (b j))
    by false e = let high : n ≤ 1024 * i + k = grind (arith, nat_tests) in rest k (omega arith) lt

-- a byte of a list's block
pub list_read : (image bytes : List ℕ) (node : Node) (which k : ℕ) → which < 3 → k < 1024 → bytes ≡ map_under node.blocks image (pointer_of node which) → get_or bytes k 0 ≡ (anode_of image node).lists which k
list_read image bytes node which k low lt is =
    let a : nat_lt which 3 ≡ true = grind (arith, nat_tests) in
    let b : nat_lt k 1024 ≡ true = grind (arith, nat_tests) in
    cell_read image bytes node which k is lt ∙ (λ i. if sym a i && sym b i then cell image node which k else 0)
