-- What wants are good for.
use Rattle.std.specs.Prelude.{◌≡◌, ◌⊎◌, ℕ, nat_lt, Bool, true, false, List, Some, None, is_some, Ok}
use Rattle.std.specs.List.{list_all}
use Rattle.base_types.specs.Outcomes.{and_then}
use Rattle.base_types.specs.declared.ids.HostId.{HostId}
use Rattle.base_types.specs.declared.ids.Fid.{Fid}
use Rattle.base_types.specs.declared.user.User.{User}
use Rattle.tree_calls.specs.declared.call.Call.{Call}
use Rattle.tree_calls.specs.declared.call.Call.TheVariants.{Truncate, CloneFileset, MoveFileset}
use Rattle.tree_calls.specs.declared.reply.Refusal.TheVariants.{InUse}
use Rattle.tree_calls.specs.Rosters.{user_of}
use Rattle.tree_filesets.specs.declared.fileset.Fileset.{Fileset}
use Rattle.tree_filesets.specs.Checks.{unless}
use Rattle.tree_filesets.specs.Removal.{remove_target}
use Rattle.tree_filesets.specs.WellFormed.{IsWellFormed as IsWellFormedFileset}
use Rattle.tree_answers.specs.declared.tree.Tree.{Tree}
use Rattle.tree_answers.specs.Answers.{answer_to}
use Rattle.tree_answers.specs.WellFormed.{IsWellFormed}
use Rattle.tree_laws.specs.Fates.{Cells}
use Rattle.tree_laws.specs.Parts.{Nature, Part, settled, cell_at}
use Rattle.tree_laws.specs.Parts.Part.{ByteAt, Entries, Size, Traits}
use Rattle.tree_laws.specs.Losses.{use_of}
use Rattle.token_types.specs.Conflicts.{any_conflict}
use Rattle.token_types.specs.declared.token.Kind.{Kind}
use Rattle.token_types.specs.declared.token.Kind.TheVariants.{Bytes, Lock}
use Rattle.token_types.specs.declared.token.Need.{Need}
use Rattle.need_host.specs.Looks.{kept_view}
use Rattle.need_host.specs.Questions.{is_change}
use Rattle.need_host.specs.Shows.{needs_show, needs_update, can_be}
use Rattle.need_server.specs.Kept.{kept_tree, kept_answer}
use Rattle.need_server.specs.Wants.{want}

-- whether such a call looks at no bytes and at no size of a file
abbrev pub is_of_names : Call → Bool
is_of_names (Truncate place len) = false
is_of_names (CloneFileset server source new) = false
is_of_names (MoveFileset server name to) = false
is_of_names call = is_change call

-- what is kept of a tree shows what is kept, and nothing in it is unsaved
abbrev pub KeptIsSettled : Type 0
KeptIsSettled =
    (tree : Tree) (fid : Fid) (part : Part) → cell_at (kept_tree tree) fid part ≡ settled (kept_view tree fid part)

-- the want for a call is the same on what is kept
abbrev pub WantsAreKept : Type 0
WantsAreKept = (tree : Tree) (user : User) (call : Call) → want (kept_tree tree) user call ≡ want tree user call

-- A Change that is decided on what is kept is the tree's: it has the tree's reply, and leaves what is kept of what it
-- leaves of the tree.
abbrev pub DecidesAlike : Tree → HostId → Call → Type 0
DecidesAlike tree host call = answer_to (kept_tree tree) host call ≡ kept_answer (answer_to tree host call)

-- one that looks at names alone always
abbrev pub NamesChangeAlike : Type 0
NamesChangeAlike =
    (tree : Tree) (host : HostId) (call : Call) → IsWellFormed tree → is_of_names call ≡ true →
    DecidesAlike tree host call

-- nothing that some needs are of is unsaved
abbrev pub NothingUnsaved : Tree → List Need → Type 0
NothingUnsaved tree needs =
    (fid : Fid) (part : Part) → needs_show needs fid part ≡ true → (cell_at tree fid part).unsaved ≡ None

-- each where nothing under its want is unsaved
abbrev pub ChangesAreAlike : Type 0
ChangesAreAlike =
    (tree : Tree) (host : HostId) (user : User) (call : Call) →
    IsWellFormed tree → user_of tree.roster host ≡ Some user → is_change call ≡ true →
    NothingUnsaved tree (want tree user call) → DecidesAlike tree host call

-- What a Change changes is under its want, for update, or is of an object that wasn't there.
abbrev pub WantsCoverChanges : Type 0
WantsCoverChanges =
    (tree : Tree) (host : HostId) (user : User) (call : Call) (fid : Fid) (part : Part) →
    IsWellFormed tree → user_of tree.roster host ≡ Some user → is_change call ≡ true → can_be part ≡ true →
    (needs_update (want tree user call) fid part ≡ true)
    ⊎ ((cell_at (answer_to tree host call).tree fid part ≡ cell_at tree fid part)
    ⊎ ((cell_at tree fid Traits).kept ≡ None))

-- whether a kind isn't of an empty span
abbrev pub has_room : Kind → Bool
has_room (Bytes update span) = nat_lt span.from span.to
has_room (Lock writing span) = nat_lt span.from span.to
has_room kind = true

-- what is there stays a directory or a file, of a clone or not
abbrev pub KeepsKind : Cells → Cells → Type 0
KeepsKind old new =
    (nature : Nature) → (old Traits).kept ≡ Some nature
    → (now : Nature) × ((new Traits).kept ≡ Some now) × (now.dir ≡ nature.dir) × (now.read_only ≡ nature.read_only)

-- How a Change that wants this changes an object that was there.
pub data ChangesSo (needs : List Need) (fid : Fid) (old new : Cells) : Type 0 where
  -- not at all
  Leaves : ((part : Part) → new part ≡ old part) → ChangesSo needs fid old new
  -- its traits alone, under a want for updating them
  Lists : needs_update needs fid Traits ≡ true → ((at : ℕ) → new (ByteAt at) ≡ old (ByteAt at)) → new Size ≡ old Size
      → new Entries ≡ old Entries → KeepsKind old new → ChangesSo needs fid old new
  -- under a want for updating all of it
  Sets : ((part : Part) → can_be part ≡ true → needs_update needs fid part ≡ true) → KeepsKind old new
      → ChangesSo needs fid old new
  -- it goes, and whatever another host has of it is in the way of the want
  Goes : ((part : Part) → can_be part ≡ true → needs_update needs fid part ≡ true)
      → ((kind : Kind) → has_room kind ≡ true → any_conflict (record { fid = fid; kind = kind }) needs ≡ true)
      → (new Traits).kept ≡ None → ChangesSo needs fid old new

-- so each does, or the object wasn't there
abbrev pub ChangesAreSo : Type 0
ChangesAreSo =
    (tree : Tree) (host : HostId) (user : User) (call : Call) (fid : Fid) →
    IsWellFormed tree → user_of tree.roster host ≡ Some user → is_change call ≡ true →
    ChangesSo (want tree user call) fid (cell_at tree fid) (cell_at (answer_to tree host call).tree fid)
    ⊎ ((cell_at tree fid Traits).kept ≡ None)

-- what is wanted is of objects that are there
abbrev pub WantsAreThere : Type 0
WantsAreThere =
    (tree : Tree) (user : User) (call : Call) → IsWellFormed tree →
    list_all (λ need. is_some (cell_at tree need.fid Traits).kept) (want tree user call) ≡ true

-- a file in use is the last that a Remove is refused for
abbrev pub UsesRefuseLast : Type 0
UsesRefuseLast =
    (fileset : Fileset) (in_use : Fid → Bool) (user : User) (path : List (List ℕ)) → IsWellFormedFileset fileset →
    remove_target fileset in_use user path
    ≡ and_then (remove_target fileset (λ fid. false) user path) (λ (parent, name, anode).
    unless (in_use (use_of fileset anode)) InUse (Ok (parent, name, anode)))
