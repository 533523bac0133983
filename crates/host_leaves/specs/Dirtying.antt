-- What is dirty under tokens, by the tables.
use Rattle.std.specs.Prelude.{Bool, List, Option, false, filter, flat_map, is_some, map, max, min, not, ℕ, ◌&&◌}
use Rattle.std.specs.List.{list_any}
use Rattle.std.specs.Option.{option_map_or}
use Rattle.base_types.specs.Spans.{has_byte, overlap}
use Rattle.base_types.specs.declared.ids.Fid.{Fid}
use Rattle.base_types.specs.declared.span.Span.{Span}
use Rattle.host_cache.specs.Files.{file_key}
use Rattle.host_cache.specs.Holding.{tokens_of}
use Rattle.host_cache.specs.Seen.{of_key}
use Rattle.host_dirty.specs.Dirtiness.{is_dirty}
use Rattle.host_leaves.specs.Owning.{update_span}
use Rattle.host_tables.specs.Tables.{updates_status}
use Rattle.host_tables.specs.declared.tables.Tables.{Tables}
use Rattle.token_types.specs.Conflicts.{same_id}
use Rattle.token_types.specs.declared.token.Token.{Token}
use Rattle.tree_objects.specs.Spans.{span_between}

-- whether a token is for changing a byte
abbrev pub updates_byte : ℕ → Token → Bool
updates_byte at token = option_map_or (λ span. has_byte span at) (update_span token.kind) false

-- whether one of some tokens has the number of another
abbrev pub is_named : List Token → Token → Bool
is_named tokens token = list_any (λ other. same_id other.id token.id) tokens

-- the tokens of a file, and those of them that stay where others leave
abbrev pub tokens_at : Tables → Fid → List Token
tokens_at m fid = tokens_of (of_key (file_key fid) m.cache.held)

abbrev pub staying_of : List Token → List Token → List Token
staying_of held leaving = filter (λ token. not (is_named leaving token)) held

abbrev pub staying : Tables → Fid → List Token → List Token
staying m fid leaving = staying_of (tokens_at m fid) leaving

-- whether some tokens are for changing a byte, and none that stays
abbrev pub covers_left : Tables → Fid → List Token → List Token → ℕ → Bool
covers_left m fid giving leaving at =
    list_any (updates_byte at) giving && not (list_any (updates_byte at) (staying m fid leaving))

-- whether a byte of a file is dirty, and only tokens are for changing it that leave
abbrev pub is_dirty_left : Tables → Fid → List Token → ℕ → Bool
is_dirty_left m fid leaving at = is_dirty m.dirty fid at && covers_left m fid leaving leaving at

-- whether something is dirty under a token, where these spans of its file are, and its length
abbrev pub is_dirty_under : List Span → Option ℕ → Token → Bool
is_dirty_under spans length token =
    option_map_or (λ span. list_any (λ other. overlap other span) spans) (update_span token.kind)
    (updates_status token.kind && is_some length)

-- the positions in both of two spans, and in both of two lists of them
abbrev pub common : Span → Span → Span
common a b = span_between (max a.from b.from) (min a.to b.to)

abbrev pub within : Span → List Span → List Span
within span others = map (λ other. common other span) (filter (λ other. overlap other span) others)

abbrev pub spans_within : List Span → List Span → List Span
spans_within spans others = flat_map (λ span. within span others) spans
