-- How new objects come about.
use Rattle.std.specs.Prelude.{
  ℕ,
  ◌+◌,
  Bool,
  ◌&&◌,
  nat_lt,
  if◌then◌else◌,
  List,
  [],
  ◌∷◌,
  take,
  Some,
  None,
  is_none,
  Result,
  Ok,
  Err,
}
use Rattle.base_types.specs.Outcomes.{and_then}
use Rattle.base_types.specs.Users.{first_group}
use Rattle.base_types.specs.declared.user.User.{User}
use Rattle.base_types.specs.declared.limits.TheConstants.{UNIQUE_MAX}
use Rattle.tree_calls.specs.declared.part.DirEntry.{DirEntry}
use Rattle.tree_calls.specs.declared.place.Which.TheVariants.{Files, Dirs}
use Rattle.tree_calls.specs.declared.reply.Refusal.{Refusal}
use Rattle.tree_calls.specs.declared.reply.Refusal.TheVariants.{ReadOnly, Exists, TooMany}
use Rattle.tree_objects.specs.declared.content.Content.{Content}
use Rattle.tree_objects.specs.declared.content.Content.TheVariants.{Dir, File}
use Rattle.tree_objects.specs.declared.content.Object.{Object}
use Rattle.tree_objects.specs.declared.content.Anode.{Anode}
use Rattle.tree_objects.specs.Entries.{content_with_entry}
use Rattle.tree_objects.specs.Objects.{access_of}
use Rattle.tree_filesets.specs.declared.creating.Creation.{Creation}
use Rattle.tree_filesets.specs.declared.creating.NewObject.{NewObject}
use Rattle.tree_filesets.specs.declared.creating.NewObject.TheVariants.{EmptyFile, EmptyDirectory}
use Rattle.tree_filesets.specs.declared.creating.Vacancy.{Vacancy}
use Rattle.tree_filesets.specs.declared.fileset.Fileset.{Fileset}
use Rattle.tree_filesets.specs.Answers.{Answered, answered}
use Rattle.tree_filesets.specs.Checks.{unless, split_path}
use Rattle.tree_filesets.specs.Updates.{updated, changed}
use Rattle.tree_filesets.specs.Walk.{insert_target}

-- an anode takes a new object while the number of its uses can rise
abbrev pub is_vacant : Anode → Bool
is_vacant anode = is_none anode.object && nat_lt anode.unique UNIQUE_MAX

-- the lowest anode that takes a new object, and the number of that use
abbrev pub first_vacancy : ℕ → List Anode → Result Vacancy Refusal
first_vacancy anode [] = Err TooMany
first_vacancy anode (first ∷ anodes) =
    if is_vacant first then Ok (record { anode = anode; unique = first.unique + 1 })
    else first_vacancy (anode + 1) anodes

-- among the anodes from 1 to the object limit
abbrev pub vacancy : Fileset → Result Vacancy Refusal
vacancy fileset = first_vacancy 1 (take fileset.objects fileset.anodes)

-- a new object is owned by a user and the user's first group
abbrev pub owned : User → Content → Object
owned user content = record { owner = user.name; group = first_group user; content = content }

-- the list of a new file is its directory's list of new files; of a new directory its own list is its directory's list
-- of new directories, and its other two are copies of its directory's
abbrev pub new_content : NewObject → Content → Result Content Refusal
new_content EmptyFile directory = and_then (access_of Files directory) (λ files. Ok (File files [] [] None))
new_content EmptyDirectory directory =
    and_then (access_of Files directory) (λ files.
    and_then (access_of Dirs directory) (λ dirs. Ok (Dir [] (dirs ∷ files ∷ dirs ∷ []))))

-- what a user makes in a directory
abbrev pub new_object : NewObject → User → Object → Result Object Refusal
new_object kind user directory = and_then (new_content kind directory.content) (λ content. Ok (owned user content))

-- the entry of a new object
abbrev pub new_entry : List ℕ → Vacancy → DirEntry
new_entry name vacancy = record { name = name; anode = vacancy.anode; unique = vacancy.unique }

-- Create, MakeDir: ReadOnly; empty path Exists; walk to the parent; Denied (insert); Exists; TooMany
unfoldable pub create_target : Fileset → NewObject → User → List (List ℕ) → Result Creation Refusal
create_target fileset kind user path =
    unless fileset.read_only ReadOnly (
    and_then (split_path path Exists) (λ (name, front).
    and_then (insert_target fileset user front name) (λ (parent, directory).
    and_then (vacancy fileset) (λ vacancy.
    and_then (new_object kind user directory) (λ object.
    Ok (record { parent = parent; entry = new_entry name vacancy; object = object }))))))

-- an anode in a use, with its object
abbrev pub occupied : ℕ → Object → Anode → Anode
occupied unique object anode = record { unique = unique; object = Some object }

-- a fileset with a new object, and its entry in a directory
abbrev pub with_object : Fileset → Creation → Fileset
with_object fileset creation =
    updated (changed fileset creation.parent (content_with_entry creation.entry))
    creation.entry.anode (occupied creation.entry.unique creation.object)

-- Create, MakeDir: the new object stands in its directory
unfoldable pub create_answer : Fileset → NewObject → User → List (List ℕ) → Answered
create_answer fileset kind user path =
    answered fileset (create_target fileset kind user path) (λ creation. with_object fileset creation)
