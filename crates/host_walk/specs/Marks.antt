-- What an answered call used, in the order in which it is marked.
use Rattle.std.specs.Prelude.{List, [], ◌∷◌, ◌++◌, Bool, true, false, not, ◌||◌, if◌then◌else◌, Option, None, Some, ℕ}
use Rattle.base_types.specs.Access.{allows}
use Rattle.base_types.specs.declared.ids.Fid.{Fid}
use Rattle.base_types.specs.declared.user.User.{User}
use Rattle.token_types.specs.declared.token.Need.{Need}
use Rattle.tree_calls.specs.declared.part.DirEntry.{DirEntry}
use Rattle.tree_filesets.specs.Rights.{execute_right}
use Rattle.tree_laws.specs.Parts.{Nature}
use Rattle.tree_laws.specs.Parts.Part.{Entries, Traits}
use Rattle.tree_objects.specs.Entries.{entry_named}
use Rattle.need_host.specs.Looks.{View}
use Rattle.need_host.specs.Walks.{fid_in, rights_on}
use Rattle.host_cache.specs.Seen.{Seen, after_used}
use Rattle.host_walk.specs.Trying.{status_need, whole_need}
use Rattle.host_walk.specs.declared.marks.Onward.{Onward}
use Rattle.host_walk.specs.declared.marks.Onward.TheVariants.{Ends, Misses, Leads}

abbrev pub way_by : Fid → Option DirEntry → Onward
way_by at None = Misses
way_by at (Some entry) = Leads (fid_in at entry)

abbrev pub way_from : View → User → Fid → List ℕ → Option Nature → Onward
way_from view user at name None = Ends
way_from view user at name (Some nature) =
    if not nature.dir || not (allows (rights_on nature user) execute_right) then Ends
    else way_by at (entry_named (view at Entries) name)

-- how a walk goes on from an object by a name
abbrev pub way_of : View → User → Fid → List ℕ → Onward
way_of view user at name = way_from view user at name (view at Traits)

-- after what was marked behind the object, where the walk went on
abbrev pub marked_on : Fid → (Fid → List Need) → Onward → List Need
marked_on at behind Ends = status_need at ∷ []
marked_on at behind Misses = status_need at ∷ whole_need at ∷ []
marked_on at behind (Leads fid) = behind fid ++ status_need at ∷ whole_need at ∷ []

-- what a walk from an object along a path used: that of the object that it found first, and there some needs, too, and
-- that of the root last
abbrev pub marks_of : View → User → List Need → List (List ℕ) → Fid → List Need
marks_of view user needs [] at = status_need at ∷ needs
marks_of view user needs (name ∷ names) at = marked_on at (marks_of view user needs names) (way_of view user at name)

-- the tokens of these needs are used, one after the other
abbrev pub used_all : List Need → Seen → Seen
used_all [] shown = shown
used_all (need ∷ needs) shown = used_all needs (after_used shown need)
