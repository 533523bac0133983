-- Where paths lead.
use Rattle.std.specs.Prelude.{
  ℕ,
  ◌-◌,
  ◌==◌,
  Bool,
  false,
  ◌||◌,
  if◌then◌else◌,
  List,
  [],
  ◌∷◌,
  slice_get,
  Option,
  Some,
  None,
  is_some,
  Result,
  Ok,
  Err,
}
use Rattle.std.specs.Option.{option_and_then, option_map_or}
use Rattle.base_types.specs.Outcomes.{and_then, either}
use Rattle.base_types.specs.declared.user.User.{User}
use Rattle.tree_calls.specs.declared.reply.Refusal.{Refusal}
use Rattle.tree_calls.specs.declared.reply.Refusal.TheVariants.{NoEntry, IsDir, Exists}
use Rattle.tree_calls.specs.declared.part.DirEntry.{DirEntry}
use Rattle.tree_objects.specs.declared.content.Object.{Object}
use Rattle.tree_objects.specs.declared.content.Anode.{Anode}
use Rattle.tree_objects.specs.Objects.{is_dir, entered}
use Rattle.tree_objects.specs.Entries.{entry_named}
use Rattle.tree_filesets.specs.declared.fileset.Fileset.{Fileset}
use Rattle.tree_filesets.specs.Checks.{unless, permission}
use Rattle.tree_filesets.specs.Rights.{insert_right, delete_right}

-- what stands at an anode; anodes are counted from 1
abbrev pub object_at : List Anode → ℕ → Option Object
object_at anodes anode = if anode == 0 then None else option_and_then (λ a. a.object) (slice_get anodes (anode - 1))

-- how often an anode has been used
abbrev pub unique_at : List Anode → ℕ → ℕ
unique_at anodes anode = option_map_or (λ a. a.unique) (slice_get anodes (anode - 1)) 0

abbrev pub entered_at : Option Object → User → Result (List DirEntry) Refusal
entered_at None user = Err NoEntry
entered_at (Some object) user = entered object user

abbrev pub entry_or_none : Option DirEntry → Result DirEntry Refusal
entry_or_none None = Err NoEntry
entry_or_none (Some entry) = Ok entry

-- one name of a path, from the directory at an anode, which the user has to be allowed to search
unfoldable pub step : List Anode → User → ℕ → List ℕ → Result ℕ Refusal
step anodes user at name =
    and_then (entered_at (object_at anodes at) user) (λ entries.
    and_then (entry_or_none (entry_named entries name)) (λ entry. Ok entry.anode))

-- the anode that names lead a user to, from an anode on
abbrev pub walk : List Anode → User → ℕ → List (List ℕ) → Result ℕ Refusal
walk anodes user at [] = Ok at
walk anodes user at (name ∷ names) = and_then (step anodes user at name) (λ next. walk anodes user next names)

-- whether an anode stands on the way that names lead, its ends counted
abbrev pub passes : List Anode → User → ℕ → List (List ℕ) → ℕ → Bool
passes anodes user at [] anode = at == anode
passes anodes user at (name ∷ names) anode =
    (at == anode) || either (step anodes user at name) (λ next. passes anodes user next names anode) (λ refusal. false)

abbrev pub found_at : ℕ → Option Object → Result (ℕ × Object) Refusal
found_at anode None = Err NoEntry
found_at anode (Some object) = Ok (anode, object)

-- the walk: where a path leads from the root, and the object there
unfoldable pub target : Fileset → User → List (List ℕ) → Result (ℕ × Object) Refusal
target fileset user path =
    and_then (walk fileset.anodes user 1 path) (λ anode. found_at anode (object_at fileset.anodes anode))

-- a file: walk; IsDir
unfoldable pub file_target : Fileset → User → List (List ℕ) → Result (ℕ × Object) Refusal
file_target fileset user path =
    and_then (target fileset user path) (λ (anode, object). unless (is_dir object.content) IsDir (Ok (anode, object)))

-- a file on which the user has a right: walk; IsDir; Denied
unfoldable pub permitted_file : Fileset → User → List (List ℕ) → ℕ → Result (ℕ × Object) Refusal
permitted_file fileset user path right =
    and_then (file_target fileset user path) (λ (anode, object).
    and_then (permission object user right) (λ _. Ok (anode, object)))

-- a directory in which the user has a right, and its entries: walk to the parent; Denied
unfoldable pub parent_target : Fileset → User → List (List ℕ) → ℕ → Result (ℕ × Object × List DirEntry) Refusal
parent_target fileset user front right =
    and_then (target fileset user front) (λ (anode, object).
    and_then (entered object user) (λ entries.
    and_then (permission object user right) (λ _. Ok (anode, object, entries))))

-- where an entry of a new name goes: walk to the parent; Denied (insert); Exists
unfoldable pub insert_target : Fileset → User → List (List ℕ) → List ℕ → Result (ℕ × Object) Refusal
insert_target fileset user front name =
    and_then (parent_target fileset user front insert_right) (λ (parent, object, entries).
    unless (is_some (entry_named entries name)) Exists (Ok (parent, object)))

-- an entry that goes: walk to the parent; Denied (delete); NoEntry
unfoldable pub entry_target : Fileset → User → List (List ℕ) → List ℕ → Result (ℕ × DirEntry) Refusal
entry_target fileset user front name =
    and_then (parent_target fileset user front delete_right) (λ (parent, object, entries).
    and_then (entry_or_none (entry_named entries name)) (λ entry. Ok (parent, entry)))
