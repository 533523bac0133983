-- What a give-back leaves of what a server keeps.
use Rattle.std.specs.List.{list_all}
use Rattle.std.specs.Prelude.{IfSome, List, Option, if◌then◌else◌, nat_lt, true, unwrap_or, ℕ, ◌&&◌, ◌≡◌, ◌≤◌}
use Rattle.base_types.specs.Ids.{same_fid}
use Rattle.base_types.specs.declared.ids.Fid.{Fid}
use Rattle.base_types.specs.declared.limits.TheConstants.{FILE_BYTES_MAX}
use Rattle.tree_calls.specs.declared.part.Piece.{Piece}
use Rattle.tree_filesets.specs.WellFormed.{is_at_rest}
use Rattle.need_host.specs.Looks.{kept_view}
use Rattle.tree_answers.specs.WellFormed.{IsWellFormed}
use Rattle.tree_answers.specs.declared.tree.Tree.{Tree}
use Rattle.tree_laws.specs.Parts.{Part, Seen}
use Rattle.tree_laws.specs.Parts.Part.{ByteAt, Entries, Size, Traits}
use Rattle.run_rules.specs.Kept.{length_given, takes_gifts, tree_given}
use Rattle.run_rules.specs.Views.{byte_of}

-- a part of a file of a size, after pieces were given: a byte below the size is the one that a piece has, and the size
-- is that
abbrev pub part_given : List Piece → ℕ → (part : Part) → Seen part → Seen part
part_given pieces size (ByteAt at) kept = if nat_lt at size then unwrap_or (byte_of pieces at) kept else kept
part_given pieces size Size kept = size
part_given pieces size Traits kept = kept
part_given pieces size Entries kept = kept

-- so it is with the parts of the file that takes them, and no other part changes; the size only grows
abbrev pub view_given : Tree → Fid → List Piece → Option ℕ → Fid → (part : Part) → Seen part
view_given tree fid pieces given other part =
    if takes_gifts tree fid && same_fid fid other
    then part_given pieces (length_given (kept_view tree fid Size) given) part (kept_view tree other part)
    else kept_view tree other part

-- a tree that a server keeps: well formed, and with nothing unsaved
pub record IsKept (tree : Tree) : Type 0 where
  pub formed : IsWellFormed tree
  pub rests : list_all is_at_rest tree.filesets ≡ true

-- a give-back leaves such a tree, and changes the parts as said
pub record GivesKeep : Type 0 where
  pub parts : (tree : Tree) (fid : Fid) (pieces : List Piece) (given : Option ℕ) (other : Fid) (part : Part)
      → IsKept tree
      → kept_view (tree_given tree fid pieces given) other part ≡ view_given tree fid pieces given other part
  pub kept : (tree : Tree) (fid : Fid) (pieces : List Piece) (given : Option ℕ)
      → IsKept tree → IfSome given (λ n. n ≤ FILE_BYTES_MAX) → IsKept (tree_given tree fid pieces given)
