-- What paths look at.
use Rattle.std.specs.Prelude.{ℕ, Bool, ◌&&◌, not, List, [], ◌∷◌, slice_get, Result, Ok}
use Rattle.std.specs.Option.{option_map_or}
use Rattle.base_types.specs.Access.{rights_of, allows}
use Rattle.base_types.specs.Outcomes.{and_then}
use Rattle.base_types.specs.declared.ids.Fid.{Fid}
use Rattle.base_types.specs.declared.ids.FilesetId.{FilesetId}
use Rattle.base_types.specs.declared.user.User.{User}
use Rattle.tree_calls.specs.declared.part.DirEntry.{DirEntry}
use Rattle.tree_calls.specs.declared.reply.Refusal.{Refusal}
use Rattle.tree_calls.specs.declared.reply.Refusal.TheVariants.{NoEntry, NotDir, IsDir, Denied, ReadOnly}
use Rattle.tree_objects.specs.Entries.{entry_named}
use Rattle.tree_filesets.specs.Rights.{execute_right}
use Rattle.tree_filesets.specs.Walk.{entry_or_none}
use Rattle.tree_answers.specs.Finding.{found_or}
use Rattle.tree_laws.specs.Parts.{Nature}
use Rattle.tree_laws.specs.Parts.Part.{Traits, Entries}
use Rattle.need_host.specs.Looks.{Look, checked, refuse_if}
use Rattle.need_host.specs.Looks.Look.{Ends, Looks}

-- the root of a fileset
abbrev pub root_of : FilesetId → Fid
root_of id = record { fileset = id; anode = 1; unique = 1 }

-- what an entry names, in the fileset of its directory
abbrev pub fid_in : Fid → DirEntry → Fid
fid_in directory entry = record { fileset = directory.fileset; anode = entry.anode; unique = entry.unique }

-- the rights of a user on an object, by the object's own list
abbrev pub rights_on : Nature → User → ℕ
rights_on nature user =
    option_map_or (λ list. rights_of list nature.owner nature.group user) (slice_get nature.lists 0) 0

-- the nature of an object that has to be there
abbrev pub nature_look : Fid → Look (Result Nature Refusal)
nature_look fid = Looks fid Traits (λ seen. Ends (found_or seen NoEntry))

-- a right that the user has to have
abbrev pub permitted : {A : Type 0} → Nature → User → ℕ → Look (Result A Refusal) → Look (Result A Refusal)
permitted nature user right next = refuse_if (not (allows (rights_on nature user) right)) (Denied right) next

-- the entries of a directory that the user may search: NotDir; Denied (execute)
abbrev pub search_look : User → Fid → Nature → Look (Result (List DirEntry) Refusal)
search_look user fid nature =
    refuse_if (not nature.dir) NotDir (
    permitted nature user execute_right (
    Looks fid Entries (λ entries. Ends (Ok entries))))

-- one name of a path
abbrev pub step_look : User → Fid → List ℕ → Look (Result Fid Refusal)
step_look user fid name =
    checked (nature_look fid) (λ nature.
    checked (search_look user fid nature) (λ entries.
    Ends (and_then (entry_or_none (entry_named entries name)) (λ entry. Ok (fid_in fid entry)))))

-- the object that names lead a user to, from one on
abbrev pub walk_look : User → Fid → List (List ℕ) → Look (Result Fid Refusal)
walk_look user fid [] = Ends (Ok fid)
walk_look user fid (name ∷ names) = checked (step_look user fid name) (λ next. walk_look user next names)

-- the walk: where a path leads, and the nature of the object there
abbrev pub target_look : User → Fid → List (List ℕ) → Look (Result (Fid × Nature) Refusal)
target_look user root path =
    checked (walk_look user root path) (λ fid. checked (nature_look fid) (λ nature. Ends (Ok (fid, nature))))

-- a file: walk; IsDir
abbrev pub file_look : User → Fid → List (List ℕ) → Look (Result (Fid × Nature) Refusal)
file_look user root path =
    checked (target_look user root path) (λ (fid, nature). refuse_if nature.dir IsDir (Ends (Ok (fid, nature))))

-- a file on which the user has a right: walk; IsDir; Denied
abbrev pub permitted_look : User → Fid → List (List ℕ) → ℕ → Look (Result (Fid × Nature) Refusal)
permitted_look user root path right =
    checked (file_look user root path) (λ (fid, nature). permitted nature user right (Ends (Ok (fid, nature))))

-- a fileset that isn't a clone: ReadOnly, by the root's status
abbrev pub writable_look : {A : Type 0} → Fid → Look (Result A Refusal) → Look (Result A Refusal)
writable_look root next = checked (nature_look root) (λ nature. refuse_if nature.read_only ReadOnly next)

-- a file to be used: walk; IsDir; ReadOnly (to be changed, in a clone); Denied
abbrev pub use_look : User → Fid → List (List ℕ) → Bool → ℕ → Look (Result Fid Refusal)
use_look user root path changing right =
    checked (file_look user root path) (λ (fid, nature).
    refuse_if (changing && nature.read_only) ReadOnly (
    permitted nature user right (Ends (Ok fid))))
