-- Stretches of unsaved bytes.
use Rattle.std.specs.Prelude.{ℕ, ◌+◌, ◌-◌, ◌==◌, nat_lt, nat_le, max, Bool, ◌&&◌}
use Rattle.std.specs.Prelude.{List, ◌++◌, length, take, drop, flat_map}
use Rattle.std.specs.List.{list_all}
use Rattle.base_types.specs.declared.limits.TheConstants.{FILE_BYTES_MAX}
use Rattle.base_types.specs.declared.ids.HostId.{HostId}
use Rattle.tree_objects.specs.declared.content.Unsaved.{Unsaved}
use Rattle.tree_objects.specs.declared.stretch.Stretch.{Stretch}
use Rattle.tree_objects.specs.declared.stretch.TheConstants.{PIECE_BYTES}
use Rattle.tree_objects.specs.Positions.{positions_rise, written}

-- the bytes of a stretch, each with its position
abbrev pub bytes_of : Stretch → List Unsaved
bytes_of stretch = written stretch.writer stretch.from stretch.bytes

-- the stretch of the bytes that a host writes from a position on
abbrev pub piece_of : HostId → ℕ → List ℕ → Stretch
piece_of host from bytes = record { from = from; writer = host; bytes = bytes }

-- the bytes of all stretches
abbrev pub all_bytes : List Stretch → List Unsaved
all_bytes stretches = flat_map bytes_of stretches

-- whether a stretch has a byte, and none behind the last that a file can have
abbrev pub is_stretch : Stretch → Bool
is_stretch stretch = nat_lt 0 (length stretch.bytes) && nat_le (stretch.from + length stretch.bytes) FILE_BYTES_MAX

-- whether these are stretches, and their bytes stand at rising positions
abbrev pub are_stretches : List Stretch → Bool
are_stretches stretches = list_all is_stretch stretches && positions_rise (all_bytes stretches)

-- bytes with a part put over them from a place on, as far as they reach
abbrev pub laid : List ℕ → ℕ → List ℕ → List ℕ
laid bytes at part = take at bytes ++ (take (length bytes - at) part ++ drop (at + length part) bytes)

-- whether a host may go on with a stretch by a write from a position on and before another: the stretch is the host's,
-- the write begins in it or directly behind it, and leaves it no longer than a piece, or than it was
abbrev pub reaches : HostId → ℕ → ℕ → Stretch → Bool
reaches host from to stretch =
    (stretch.writer.0 == host.0) && nat_le stretch.from from && nat_le from (stretch.from + length stretch.bytes)
    && nat_le to (max (stretch.from + length stretch.bytes) (stretch.from + PIECE_BYTES))

-- bytes with others in their place from a place on, which may go on behind the end
abbrev pub replaced : List ℕ → ℕ → List ℕ → List ℕ
replaced bytes at part = take at bytes ++ (part ++ drop (at + length part) bytes)

-- a stretch in which bytes are written from a position on
abbrev pub written_in : Stretch → ℕ → List ℕ → Stretch
written_in stretch from bytes = record stretch { bytes = replaced stretch.bytes (from - stretch.from) bytes }
