-- Trees in which nothing is unsaved.
use Rattle.std.proofs.Common.{◌≡◌, Bool, true, false, Option, Some, None, [], ◌∷◌, refl}
use Rattle.std.specs.List.{find}
use Rattle.std.specs.Option.{option_map, option_map_or, option_and_then}
use Rattle.base_types.specs.Outcomes.{either}
use Rattle.base_types.specs.declared.ids.HostId.{HostId}
use Rattle.tree_calls.specs.declared.entry.Entry.{Entry}
use Rattle.tree_calls.specs.declared.place.Place.{Place}
use Rattle.tree_calls.specs.declared.reply.Refusal.TheVariants.{NoFileset}
use Rattle.tree_objects.specs.declared.content.Content.{Content}
use Rattle.tree_objects.specs.declared.content.Content.TheVariants.{Dir, File}
use Rattle.tree_objects.specs.declared.content.Object.{Object}
use Rattle.tree_filesets.specs.declared.fileset.Fileset.{Fileset}
use Rattle.tree_filesets.specs.Walk.{object_at}
use Rattle.tree_filesets.specs.WellFormed.{is_settled, is_at_rest, leads}
use Rattle.tree_answers.specs.declared.tree.Tree.{Tree}
use Rattle.tree_answers.specs.Finding.{found_or, fileset_named, leads_to}
use Rattle.tree_answers.specs.Histories.{after_entry}
use Rattle.tree_answers.proofs.Places.{find_all}
use Rattle.tree_saving.specs.Unsaved.{all_contents, anode_content, fileset_contents, has_saved, is_by_one, is_only_by, is_alone_at, is_write_by, content_led_to}
use Rattle.tree_saving.proofs.Apart.{stays_saved, saved_is_at_rest}
use Rattle.tree_saving.proofs.Reached.{contents_at}
use Rattle.service_plain.specs.Played.{rests}
use Rattle.service_plain.proofs.Histories.{all_so}

settled_by_one : (content : Content) → is_settled content ≡ true → is_by_one content ≡ true
settled_by_one (Dir entries lists) h = refl
settled_by_one (File list kept [] None) h = refl
settled_by_one (File list kept [] (Some len)) h = cc
settled_by_one (File list kept (byte ∷ unsaved) len) h = cc

settled_saved : (host : HostId) (content : Content) → is_settled content ≡ true → has_saved host content ≡ true
settled_saved host (Dir entries lists) h = refl
settled_saved host (File list kept [] None) h = refl
settled_saved host (File list kept [] (Some len)) h = cc
settled_saved host (File list kept (byte ∷ unsaved) len) h = cc

settled_only : (host : HostId) (content : Content) → is_settled content ≡ true → is_only_by host content ≡ true
settled_only host (Dir entries lists) h = refl
settled_only host (File list kept [] None) h = refl
settled_only host (File list kept [] (Some len)) h = cc
settled_only host (File list kept (byte ∷ unsaved) len) h = cc

rest_all : (test : Content → Bool) → ((content : Content) → is_settled content ≡ true → test content ≡ true) → (tree : Tree) → rests tree ≡ true → all_contents test tree ≡ true
rest_all test f tree h = all_so is_at_rest (fileset_contents test) (λ fileset k. all_so (λ anode. option_map_or (λ object. is_settled object.content) anode.object true) (anode_content test) (λ anode m. by anode.object m) fileset.anodes k) tree.filesets h
  where
    by : (object : Option Object) → option_map_or (λ object. is_settled object.content) object true ≡ true → option_map_or (λ object. test object.content) object true ≡ true
    by None m = refl
    by (Some object) m = f object.content m

pub rest_by_one : (tree : Tree) → rests tree ≡ true → all_contents is_by_one tree ≡ true
rest_by_one tree h = rest_all is_by_one settled_by_one tree h

pub rest_saved : (tree : Tree) → rests tree ≡ true → (host : HostId) → all_contents (has_saved host) tree ≡ true
rest_saved tree h host = rest_all (has_saved host) (settled_saved host) tree h

-- an entry that is no write leaves nothing unsaved
pub rest_entry : (tree : Tree) (entry : Entry) → rests tree ≡ true → ((host : HostId) → is_write_by host entry ≡ false) → rests (after_entry tree entry) ≡ true
rest_entry tree entry h f = saved_is_at_rest (after_entry tree entry) (λ host. stays_saved tree entry host (rest_saved tree h host) (f host))

-- nobody has anything unsaved of a file
pub rest_alone : (host : HostId) (tree : Tree) (place : Place) → rests tree ≡ true → is_alone_at host tree place ≡ true
unfolding fileset_named
rest_alone host tree place h = in_tree (find (leads_to tree place.server place.fileset) tree.filesets) refl
  where
    at_anode : (fileset : Fileset) → is_at_rest fileset ≡ true → (at : Option _) (object : Option Object) → option_and_then (object_at fileset.anodes) at ≡ object →
        option_map_or (is_only_by host) (option_map (λ object. object.content) object) true ≡ true
    at_anode fileset k at None e = refl
    at_anode fileset k None (Some object) e = cc
    at_anode fileset k (Some anode) (Some object) e = settled_only host object.content (contents_at is_settled fileset.anodes anode object k e)

    in_fileset : (fileset : Fileset) → is_at_rest fileset ≡ true → (at : Option _) → option_map_or (is_only_by host) (option_and_then (λ anode. option_map (λ object. object.content) (object_at fileset.anodes anode)) at) true ≡ true
    in_fileset fileset k None = refl
    in_fileset fileset k (Some anode) = at_anode fileset k (Some anode) (object_at fileset.anodes anode) refl

    in_tree : (found : Option Fileset) → find (leads_to tree place.server place.fileset) tree.filesets ≡ found →
        option_map_or (is_only_by host) (either (found_or found NoFileset) (λ fileset. content_led_to fileset place.path) (λ refusal. None)) true ≡ true
    in_tree None e = refl
    in_tree (Some fileset) e = in_fileset fileset (find_all (leads_to tree place.server place.fileset) is_at_rest tree.filesets fileset e h) (leads fileset.anodes 1 place.path)
