-- What is lost where a host goes down before it stored.
use Rattle.std.specs.Prelude.{ℕ, ◌+◌, ◌==◌, nat_lt, if◌then◌else◌, List, [], ◌∷◌, filter}
use Rattle.base_types.specs.declared.ids.HostId.{HostId}
use Rattle.base_types.specs.declared.span.Span.{Span}
use Rattle.tree_objects.specs.declared.content.Unsaved.{Unsaved}
use Rattle.tree_objects.specs.declared.content.Content.{Content}
use Rattle.tree_objects.specs.declared.content.Content.TheVariants.{Dir, File}
use Rattle.tree_objects.specs.Spans.{span_between}

-- a span that began, and those of further bytes: a byte directly behind the span makes it longer, another begins a span
abbrev pub spans_on : ℕ → ℕ → List Unsaved → List Span
spans_on from to [] = span_between from to ∷ []
spans_on from to (byte ∷ bytes) =
    if byte.at == to then spans_on from (to + 1) bytes
    else span_between from to ∷ spans_on byte.at (byte.at + 1) bytes

-- the spans in which bytes at rising positions stand together
abbrev pub spans_of : List Unsaved → List Span
spans_of [] = []
spans_of (byte ∷ bytes) = spans_on byte.at (byte.at + 1) bytes

-- the spans of further bytes behind a span, where that has a byte
abbrev pub spans_from : ℕ → ℕ → List Unsaved → List Span
spans_from from to bytes = if nat_lt from to then spans_on from to bytes else spans_of bytes

-- the unsaved bytes of a host
abbrev pub own_bytes : HostId → List Unsaved → List Unsaved
own_bytes host unsaved = filter (λ byte. byte.writer.0 == host.0) unsaved

-- the spans of a host's unsaved bytes
abbrev pub own_spans : HostId → Content → List Span
own_spans host (Dir entries lists) = []
own_spans host (File list kept unsaved len) = spans_of (own_bytes host unsaved)
