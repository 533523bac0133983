-- What a write changes.
use Rattle.std.specs.Prelude.{◌≡◌, ◌<◌, ◌≤◌, ◌⊎◌, ℕ, ◌+◌, false, List, length}
use Rattle.base_types.specs.Ids.{same_fid}
use Rattle.base_types.specs.declared.ids.HostId.{HostId}
use Rattle.base_types.specs.declared.ids.Fid.{Fid}
use Rattle.tree_calls.specs.declared.call.Call.TheVariants.{Write}
use Rattle.tree_calls.specs.declared.place.Place.{Place}
use Rattle.tree_answers.specs.declared.tree.Tree.{Tree}
use Rattle.tree_answers.specs.Answers.{answer_to}
use Rattle.tree_answers.specs.WellFormed.{IsWellFormed}
use Rattle.tree_laws.specs.Parts.{Part, cell_at}
use Rattle.tree_laws.specs.Parts.Part.{ByteAt, Traits, Entries}

-- A tree after a write of some bytes from a position on.
pub record ChangesItsSpan (old new : Tree) (from : ℕ) (bytes : List ℕ) : Type 0 where
  -- of two objects one is as it was
  pub one : (a b : Fid) → same_fid a b ≡ false →
      ((part : Part) → cell_at new a part ≡ cell_at old a part)
      ⊎ ((part : Part) → cell_at new b part ≡ cell_at old b part)
  -- of each object the bytes outside the span are as they were, and all but bytes and size
  pub outside : (fid : Fid) (at : ℕ) → (at < from) ⊎ (from + length bytes ≤ at) →
      cell_at new fid (ByteAt at) ≡ cell_at old fid (ByteAt at)
  pub traits : (fid : Fid) → cell_at new fid Traits ≡ cell_at old fid Traits
  pub entries : (fid : Fid) → cell_at new fid Entries ≡ cell_at old fid Entries
  -- what is kept stays so
  pub kept : (fid : Fid) (part : Part) → (cell_at new fid part).kept ≡ (cell_at old fid part).kept

abbrev pub WritesChangeTheirSpans : Type 0
WritesChangeTheirSpans =
    (tree : Tree) (host : HostId) (place : Place) (from : ℕ) (bytes : List ℕ) → IsWellFormed tree →
    ChangesItsSpan tree (answer_to tree host (Write place from bytes)).tree from bytes
