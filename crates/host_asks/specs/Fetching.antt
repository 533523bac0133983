-- What a host asks for of a file whose status it holds, by the call and its tables.
use Rattle.std.specs.Prelude.{Bool, List, None, Option, Some, false, length, min, nat_lt, not, true, ℕ}
use Rattle.std.specs.Prelude.{map, [], ◌&&◌, ◌+◌, ◌++◌, ◌∷◌, ◌≡◌, ◌↔◌, ◌⊎◌}
use Rattle.std.specs.Bool.{beq}
use Rattle.std.specs.List.{list_any}
use Rattle.std.specs.Option.{option_map_or}
use Rattle.base_types.specs.Ids.{same_fid}
use Rattle.base_types.specs.Spans.{has_byte, in_spans}
use Rattle.base_types.specs.declared.ids.Fid.{Fid}
use Rattle.base_types.specs.declared.span.Span.{Span}
use Rattle.host_dirty.specs.Dirtiness.{spans_of}
use Rattle.host_leaves.specs.Dirtying.{tokens_at}
use Rattle.host_tables.specs.Tables.{held_of, updates_status}
use Rattle.host_tables.specs.declared.tables.Tables.{Tables}
use Rattle.host_walk.specs.Bytes.{read_count, written_blocks}
use Rattle.host_walk.specs.Trying.{length_need, status_need}
use Rattle.need_host.specs.Looks.{rounded}
use Rattle.message_types.specs.Soundness.{HasRoom, IsShort}
use Rattle.run_rules.specs.HostAsks.{NamesByte}
use Rattle.run_rules.specs.Past.{In}
use Rattle.run_rules.specs.Tokens.{IsUseKind}
use Rattle.token_ranges.specs.Positions.{IsApart}
use Rattle.token_types.specs.Covers.{Covers}
use Rattle.token_types.specs.declared.token.Kind.TheVariants.{Bytes}
use Rattle.token_types.specs.declared.token.Need.{Need}
use Rattle.tree_calls.specs.declared.call.Call.{Call}
use Rattle.tree_calls.specs.declared.call.Call.TheVariants.{Read, Write}
use Rattle.tree_laws.specs.Parts.{Nature}
use Rattle.tree_objects.specs.Spans.{span_between}

-- the blocks of a file of this length that a call needs, and whether it changes them
abbrev pub end_of : ℕ → List ℕ → ℕ
end_of from bytes = min (from + length bytes) 4294967295

abbrev pub blocks_of : Span → Span
blocks_of span = rounded span.from span.to

abbrev pub wanted : Call → ℕ → Option (Bool × Span)
wanted (Read place from len) size = Some (false, blocks_of (span_between from (from + read_count from len size)))
wanted (Write place from bytes) size = Some (true, written_blocks from (end_of from bytes) size)
wanted call size = None

abbrev pub is_wanted : Call → ℕ → Bool → ℕ → Bool
is_wanted call size update at =
    option_map_or (λ want. beq want.0 update && has_byte want.1 at) (wanted call size) false

-- whether it changes the length
abbrev pub lengthens : Call → ℕ → Bool
lengthens (Write place from bytes) size = nat_lt size (end_of from bytes)
lengthens call size = false

-- whether a position is in a block in which something of the file is dirty
abbrev pub is_near : ℕ → Span → Bool
is_near at span = nat_lt span.from span.to && has_byte (blocks_of span) at

abbrev pub in_dirty_block : Tables → Fid → ℕ → Bool
in_dirty_block m fid at = list_any (is_near at) (spans_of m.dirty fid)

-- whether an object of this nature is seen to be a directory
abbrev pub is_directory : Option Nature → Bool
is_directory None = false
is_directory (Some nature) = nature.dir

-- whether a Revoke took the last token of its status since the call was begun, and none for its update is held
abbrev pub is_lost : Tables → Fid → Bool
is_lost m fid = list_any (λ other. same_fid other fid) m.lost
    && not (list_any (λ token. updates_status token.kind) (tokens_at m fid))

-- what is asked of the file: its status where that lacks for update or was lost, and the bytes that the call needs, but
-- for the blocks in which something is dirty
pub record AsksFile (m : Tables) (call : Call) (fid : Fid) (size : ℕ) (asked : List Need) : Type 0 where
  pub only : (n : Need) → In n asked → (n.fid ≡ fid) × (IsUseKind n.kind → ⊥)
  pub bytes : (update : Bool) (at : ℕ) → NamesByte asked fid update at
      ↔ ((is_wanted call size update at && not (in_dirty_block m fid at)) ≡ true)
  pub updates : In (length_need fid) asked
      ↔ ((lengthens call size ≡ true) × (Covers (held_of m) (length_need fid) → ⊥))
  pub shows : In (status_need fid) asked ↔ ((is_lost m fid ≡ true)
      × ((lengthens call size ≡ true) → Covers (held_of m) (length_need fid)))

-- what is asked of its status
abbrev pub StatusAsked : Tables → Call → Fid → ℕ → Option Need → Type 0
StatusAsked m call fid size None = (is_lost m fid ≡ false)
    × ((lengthens call size ≡ true) → Covers (held_of m) (length_need fid))
StatusAsked m call fid size (Some need) =
    ((need ≡ length_need fid) × (lengthens call size ≡ true) × (Covers (held_of m) (length_need fid) → ⊥))
    ⊎ ((need ≡ status_need fid) × (is_lost m fid ≡ true)
    × ((lengthens call size ≡ true) → Covers (held_of m) (length_need fid)))

-- so as a list
abbrev pub front_of : Option Need → List Need
front_of None = []
front_of (Some need) = need ∷ []

abbrev pub AsksStatus : Tables → Call → Fid → ℕ → List Need → Type 0
AsksStatus m call fid size needs = (asked : Option Need) × (needs ≡ front_of asked) × StatusAsked m call fid size asked

-- the bytes of a span are asked for, but for those blocks
pub record AddsClean (m : Tables) (fid : Fid) (update : Bool) (span : Span) (old new : List Need) : Type 0 where
  pub added : List Span
  pub needs : new ≡ old ++ map (λ left. record { fid = fid; kind = Bytes update left }) added
  pub bytes : (at : ℕ) → in_spans added at ≡ (has_byte span at && not (in_dirty_block m fid at))
  pub apart : IsApart added

-- what is asked for may be sent: no span is empty, and the needs are counted in two bytes
abbrev pub AreFetchable : List Need → Type 0
AreFetchable needs = ((n : Need) → In n needs → HasRoom n.kind) × IsShort needs
