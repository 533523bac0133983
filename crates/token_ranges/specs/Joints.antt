-- A span that is put among others.
use Rattle.std.specs.Prelude.{List, ◌∷◌, ◌++◌, take, drop}
use Rattle.base_types.specs.declared.span.Span.{Span}
use Rattle.token_ranges.specs.declared.span_set.Joint.{Joint}

-- spans with one in the place of some of them
abbrev pub with_joint : Joint → List Span → List Span
with_joint joint spans = take joint.front spans ++ joint.merged ∷ drop joint.end spans
