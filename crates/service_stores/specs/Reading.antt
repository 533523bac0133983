-- Spans of a file that can be read.
use Rattle.std.specs.Prelude.{◌≡◌, ◌≤◌, ◌-◌, false, List, length}
use Rattle.base_types.specs.declared.span.Span.{Span}
use Rattle.tree_objects.specs.Files.{content_bytes}
use Rattle.tree_objects.specs.Objects.{is_dir}
use Rattle.tree_objects.specs.declared.content.Content.{Content}
use Rattle.message_types.specs.Soundness.{Each}

-- a file has all bytes of some spans
pub record HasBytes (content : Content) (spans : List Span) : Type 0 where
  pub file : is_dir content ≡ false
  pub there : Each (λ span. span.to - span.from ≤ length (content_bytes content) - span.from) spans
