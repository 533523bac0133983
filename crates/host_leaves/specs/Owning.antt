-- What a host knows of itself, by its tables.
use Rattle.std.specs.Prelude.{Bool, List, None, Option, Some, false, filter, if◌then◌else◌, length, true, ℕ}
use Rattle.std.specs.Prelude.{◌&&◌, ◌+◌, ◌||◌}
use Rattle.std.specs.Bool.{beq}
use Rattle.std.specs.List.{list_any}
use Rattle.base_types.specs.Ids.{same_fid}
use Rattle.base_types.specs.Spans.{overlap}
use Rattle.base_types.specs.declared.ids.Fid.{Fid}
use Rattle.base_types.specs.declared.span.Span.{Span}
use Rattle.host_labels.specs.Labels.{is_labelled, is_lock}
use Rattle.host_tables.specs.Tables.{content, ends_label, held_of, is_length_dirty}
use Rattle.host_tables.specs.declared.tables.Tables.{Tables}
use Rattle.run_rules.specs.declared.step.Labelled.{Labelled}
use Rattle.token_types.specs.declared.token.Kind.{Kind}
use Rattle.token_types.specs.declared.token.Kind.TheVariants.{Bytes, Lock, Opening}
use Rattle.token_types.specs.declared.token.Token.{Token}
use Rattle.tree_laws.specs.Parts.Part.{Size}

-- whether a token of a kind is of a lock or of an open file
abbrev pub is_use : Kind → Bool
is_use (Lock writing span) = true
is_use (Opening kind) = true
is_use _ = false

-- whether the host has a label, of locks or else of opens
abbrev pub has_label : Tables → Bool → List ℕ → Bool
has_label m lock label = list_any (is_labelled lock label) m.uses.labels || ends_label lock label m.ending

-- how many labels it has, of locks or else of opens
abbrev pub ending_count : Bool → Option Labelled → ℕ
ending_count lock None = 0
ending_count lock (Some u) = if beq (is_lock u.token.kind) lock then 1 else 0

abbrev pub label_count : Tables → Bool → ℕ
label_count m lock =
    length (filter (λ used. beq (is_lock used.token.kind) lock) m.uses.labels) + ending_count lock m.ending

-- whether a token locks bytes of a span
abbrev pub locks_under : Fid → Span → Token → Kind → Bool
locks_under fid span token (Lock writing locked) = same_fid token.fid fid && overlap locked span
locks_under fid span token _ = false

abbrev pub locks : Fid → Span → Token → Bool
locks fid span token = locks_under fid span token token.kind

abbrev pub ending_locks : Fid → Span → Option Labelled → Bool
ending_locks fid span None = false
ending_locks fid span (Some u) = locks fid span u.token

abbrev pub is_own_locked : Tables → Fid → Span → Bool
is_own_locked m fid span =
    list_any (λ used. locks fid span used.token) m.uses.labels || ending_locks fid span m.ending

-- the length of a file where that is dirty
abbrev pub dirty_length : Tables → Fid → Option ℕ
dirty_length m fid =
    if is_length_dirty (held_of m) m.lengths (content m.cache) fid then Some (content m.cache fid Size) else None

-- the bytes that a token of a kind is for changing
abbrev pub update_span : Kind → Option Span
update_span (Bytes update span) = if update then Some span else None
update_span _ = None
