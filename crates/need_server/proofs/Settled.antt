-- What is kept of a tree shows what is kept.
use Rattle.std.proofs.Common.{◌≡◌, ℕ, Bool, List, Option, Some, None, refl, ap, ◌∙◌}
use Rattle.std.specs.List.{find}
use Rattle.std.specs.Option.{option_map}
use Rattle.base_types.specs.declared.ids.Fid.{Fid}
use Rattle.tree_objects.specs.declared.content.Content.{Content}
use Rattle.tree_objects.specs.declared.content.Content.TheVariants.{Dir, File}
use Rattle.tree_objects.specs.declared.content.Object.{Object}
use Rattle.tree_objects.specs.Changes.{content_changed}
use Rattle.tree_filesets.specs.declared.fileset.Fileset.{Fileset}
use Rattle.tree_answers.specs.Finding.{has_id}
use Rattle.tree_laws.specs.Parts.{Part, settled, cell_of, no_cell, object_in, cell_found, cell_in}
use Rattle.tree_laws.specs.Parts.Part.{ByteAt, Size, Traits, Entries}
use Rattle.tree_laws.proofs.Steps.{find_mapped}
use Rattle.tree_laws.proofs.TreeFates.{use_mapped}
use Rattle.need_server.specs.Kept.{content_settled, kept_fileset}
use Rattle.need_server.specs.Laws.{KeptIsSettled}

-- what is kept of a tree
kept_content : (read_only : Bool) (owner group : List ℕ) (content : Content) (part : Part) → let old : Object = record { owner = owner; group = group; content = content } in
    cell_of read_only (content_changed content_settled old) part ≡ settled (cell_of read_only old part).kept
kept_content read_only owner group (Dir entries lists) (ByteAt at) = refl
kept_content read_only owner group (Dir entries lists) Size = refl
kept_content read_only owner group (Dir entries lists) Traits = refl
kept_content read_only owner group (Dir entries lists) Entries = refl
kept_content read_only owner group (File list kept unsaved len) (ByteAt at) = refl
kept_content read_only owner group (File list kept unsaved len) Size = refl
kept_content read_only owner group (File list kept unsaved len) Traits = refl
kept_content read_only owner group (File list kept unsaved len) Entries = refl

nothing_kept : (part : Part) → no_cell part ≡ settled (no_cell part).kept
nothing_kept (ByteAt at) = refl
nothing_kept Size = refl
nothing_kept Traits = refl
nothing_kept Entries = refl

kept_option : (read_only : Bool) (o : Option Object) (part : Part) → cell_found read_only (option_map (content_changed content_settled) o) part ≡ settled (cell_found read_only o part).kept
kept_option read_only None part = nothing_kept part
kept_option read_only (Some object) part = kept_content read_only object.owner object.group object.content part

kept_found_in : (o : Option Fileset) (fid : Fid) (part : Part) → cell_in (option_map kept_fileset o) fid part ≡ settled (cell_in o fid part).kept
kept_found_in None fid part = nothing_kept part
kept_found_in (Some fileset) fid part =
    ap (λ o. cell_found fileset.read_only o part) (use_mapped fileset (kept_fileset fileset) content_settled fid refl) ∙ kept_option fileset.read_only (object_in fileset fid) part

pub kept_is_settled : KeptIsSettled
kept_is_settled tree fid part =
    ap (λ o. cell_in o fid part) (find_mapped (has_id fid.fileset) kept_fileset (λ fileset. refl) tree.filesets) ∙ kept_found_in (find (has_id fid.fileset) tree.filesets) fid part
