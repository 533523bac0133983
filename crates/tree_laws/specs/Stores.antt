-- What a host stores was its own, and no reader sees a change.
use Rattle.std.specs.Prelude.{◌≡◌, ◌<◌, ◌≤◌, ◌⊎◌, ◌↔◌, ℕ, true, false, not, List, Option, Some, unwrap_or}
use Rattle.std.specs.Option.{option_map_or}
use Rattle.base_types.specs.Spans.{in_spans}
use Rattle.base_types.specs.declared.ids.HostId.{HostId}
use Rattle.base_types.specs.declared.ids.Fid.{Fid}
use Rattle.base_types.specs.declared.span.Span.{Span}
use Rattle.tree_calls.specs.declared.entry.Entry.TheVariants.{Stored}
use Rattle.tree_answers.specs.declared.tree.Tree.{Tree}
use Rattle.tree_answers.specs.Histories.{IsLegal, after_entry}
use Rattle.tree_answers.specs.WellFormed.{IsWellFormed}
use Rattle.tree_laws.specs.Parts.{Part, Cell, present, settled, cell_at}
use Rattle.tree_laws.specs.Parts.Part.{ByteAt, Size, Traits}
use Rattle.tree_laws.specs.Fates.{is_of}

-- whether a value is a host's and isn't stored yet
abbrev pub IsUnsavedOf : {X : Type 0} → HostId → Cell X → Type 0
IsUnsavedOf host cell = is_of host cell.unsaved ≡ true

-- When a host may store spans of bytes of a file, and a length where there is one.
pub record MayStore (tree : Tree) (host : HostId) (file : Fid) (spans : List Span) (stored : Option ℕ) : Type 0 where
  -- the file is there
  pub there : option_map_or (λ nature. not nature.dir) (cell_at tree file Traits).kept false ≡ true
  -- each byte of the spans is the host's, unsaved, and below the length that is kept then
  pub bytes : (at : ℕ) → in_spans spans at ≡ true →
      IsUnsavedOf host (cell_at tree file (ByteAt at)) × (at < unwrap_or stored (cell_at tree file Size).kept)
  -- the length is between those that are kept and seen, and is the kept one unless the host's is unsaved
  pub size : (len : ℕ) → stored ≡ Some len →
      ((cell_at tree file Size).kept ≤ len) × (len ≤ present (cell_at tree file Size))
      × ((len ≡ (cell_at tree file Size).kept) ⊎ IsUnsavedOf host (cell_at tree file Size))

-- What that leaves: no reader sees a change, and what was stored is kept.
pub record StoresAreKept (old new : Tree) (file : Fid) (spans : List Span) (stored : Option ℕ) : Type 0 where
  pub seen : (fid : Fid) (part : Part) → present (cell_at new fid part) ≡ present (cell_at old fid part)
  pub bytes : (at : ℕ) → in_spans spans at ≡ true →
      cell_at new file (ByteAt at) ≡ settled (present (cell_at old file (ByteAt at)))
  pub size : (len : ℕ) → stored ≡ Some len → (cell_at new file Size).kept ≡ len

-- exactly so hosts store
pub record HostsStoreTheirOwn : Type 0 where
  pub legal : (tree : Tree) (host : HostId) (file : Fid) (spans : List Span) (stored : Option ℕ) →
      IsLegal tree (Stored host file spans stored) ↔ MayStore tree host file spans stored
  pub kept : (tree : Tree) (host : HostId) (file : Fid) (spans : List Span) (stored : Option ℕ) → IsWellFormed tree →
      IsLegal tree (Stored host file spans stored) →
      StoresAreKept tree (after_entry tree (Stored host file spans stored)) file spans stored
