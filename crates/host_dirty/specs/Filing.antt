-- How what is dirty of one file changes.
use Rattle.std.specs.Prelude.{◌≡◌}
use Rattle.base_types.specs.declared.span.Span.{Span}
use Rattle.token_ranges.specs.Positions.{Joins, Leaves}
use Rattle.host_dirty.specs.declared.file.DirtyFile.{DirtyFile}

-- the positions of a span are dirty, too
pub record AddsTo (old : DirtyFile) (span : Span) (new : DirtyFile) : Type 0 where
  pub spans : Joins old.spans span new.spans
  pub length : new.length ≡ old.length

-- they aren't any more
pub record CutsFrom (old : DirtyFile) (span : Span) (new : DirtyFile) : Type 0 where
  pub spans : Leaves old.spans span new.spans
  pub length : new.length ≡ old.length
