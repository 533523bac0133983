-- The lines of an object are those of its kept copy.
use Rattle.std.proofs.Common.{◌≡◌, true, ℕ, List, refl, ap, ◌∙◌}
use Rattle.tree_objects.specs.declared.content.Content.{Content}
use Rattle.tree_objects.specs.declared.content.Content.TheVariants.{Dir, File}
use Rattle.tree_objects.specs.declared.content.Object.{Object}
use Rattle.tree_objects.specs.Changes.{content_as_cloned}
use Rattle.tree_objects.specs.Objects.{is_dir, object_as_cloned}
use Rattle.script_output.specs.Dump.{lines_by, object_lines}
use Rattle.script_output.specs.Kept.{content_lines}

same_lines : (path : List ℕ) (object : Object) (content : Content) → content_lines path object (content_as_cloned content) ≡ lines_by path object content
same_lines path object (Dir entries lists) = refl
same_lines path object (File list kept unsaved len) = refl

pub kept_lines : (path : List ℕ) (object copy : Object) → copy ≡ object_as_cloned object → content_lines path object copy.content ≡ object_lines path object
unfolding object_lines
kept_lines path object copy e = ap (λ other. content_lines path object other.content) e ∙ same_lines path object object.content

pub dir_lines : (path : List ℕ) (object : Object) → is_dir object.content ≡ true → content_lines path object object.content ≡ object_lines path object
unfolding object_lines
dir_lines path object e = by_content object.content e
  where
    by_content : (content : Content) → is_dir content ≡ true → content_lines path object content ≡ lines_by path object content
    by_content (Dir entries lists) k = refl
    by_content (File list kept unsaved len) k = absurd (cc)
