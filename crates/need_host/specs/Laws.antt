-- What the looks of calls are good for.
use Rattle.std.specs.Prelude.{
  ◌≡◌,
  ◌==◌,
  ◌≤◌,
  ℕ,
  Bool,
  true,
  false,
  if◌then◌else◌,
  List,
  filter,
  map,
  Option,
  Some,
  None,
  Ok,
}
use Rattle.std.specs.List.{find}
use Rattle.base_types.specs.Outcomes.{and_then}
use Rattle.base_types.specs.declared.ids.FilesetId.{FilesetId}
use Rattle.base_types.specs.declared.ids.HostId.{HostId}
use Rattle.base_types.specs.declared.ids.Fid.{Fid}
use Rattle.base_types.specs.declared.ids.ServerId.{ServerId}
use Rattle.base_types.specs.declared.limits.TheConstants.{FILE_BYTES_MAX}
use Rattle.base_types.specs.declared.user.User.{User}
use Rattle.tree_calls.specs.declared.call.Call.{Call}
use Rattle.tree_calls.specs.declared.entry.Entry.{Entry}
use Rattle.tree_calls.specs.declared.reply.Refusal.TheVariants.{Locked, OpenConflict}
use Rattle.tree_calls.specs.declared.reply.Reply.{Reply}
use Rattle.tree_calls.specs.declared.reply.Reply.TheVariants.{Ok as Done, Refused}
use Rattle.tree_calls.specs.Rosters.{user_of}
use Rattle.tree_filesets.specs.declared.fileset.Fileset.{Fileset}
use Rattle.tree_filesets.specs.Changing.{write_target}
use Rattle.tree_filesets.specs.Uses.{use_target}
use Rattle.tree_filesets.specs.Walk.{target, file_target, permitted_file}
use Rattle.tree_objects.specs.declared.content.Object.{Object}
use Rattle.tree_answers.specs.declared.tree.Tree.{Tree}
use Rattle.tree_answers.specs.Answers.{answer_to}
use Rattle.tree_answers.specs.Finding.{has_id, fileset_named}
use Rattle.tree_answers.specs.Histories.{after_entry}
use Rattle.tree_answers.specs.Locks.{is_excluded}
use Rattle.tree_answers.specs.Opens.{is_barred}
use Rattle.tree_answers.specs.WellFormed.{IsWellFormed}
use Rattle.tree_laws.specs.Fates.{is_of}
use Rattle.tree_laws.specs.Losses.{use_of}
use Rattle.tree_laws.specs.Parts.{Part, Nature, nature_of, cell_at}
use Rattle.tree_laws.specs.Parts.Part.{ByteAt}
use Rattle.token_types.specs.declared.token.Kind.{Kind}
use Rattle.token_types.specs.declared.token.Kind.TheVariants.{Bytes, Status}
use Rattle.token_types.specs.declared.token.Need.{Need}
use Rattle.token_types.specs.declared.token.Token.{Token}
use Rattle.token_types.specs.Conflicts.{kinds_conflict, need_of, any_conflict}
use Rattle.token_types.specs.Covers.{Covers}
use Rattle.need_host.specs.Looks.{View, Look, outcome, kind_for, needs_of, CoverAll, IsCovered, IsFirstLack, tree_view}
use Rattle.need_host.specs.Shows.{is_update, shows, needs_show, needs_update, can_be}
use Rattle.need_host.specs.Questions.{Question, fileset_of, is_change}
use Rattle.need_host.specs.Questions.Question.{EnterAt, ChangeIn, ChangeAt}
use Rattle.need_host.specs.Walks.{root_of, target_look, file_look, permitted_look, use_look}
use Rattle.need_host.specs.Calls.{Verdict, Own, call_look, reply_of, write_target_look}
use Rattle.need_host.specs.Calls.Verdict.{Locks, Opens, Asks}

-- Two views agree on the parts that tokens cover.
abbrev pub AgreeUnder : List Token → View → View → Type 0
AgreeUnder held a b =
    (fid : Fid) (part : Part) → Covers held (record { fid = fid; kind = kind_for part }) → a fid part ≡ b fid part

-- What two such views have in common: where a look is covered on one of them, its needs are the same on the other, and
-- it ends alike.
pub record AreAlike (held : List Token) (a b : View) (look : Look Verdict) : Type 0 where
  pub covered : IsCovered held a look → IsCovered held b look
  pub needs : IsCovered held a look → needs_of a look ≡ needs_of b look
  pub ends : IsCovered held a look → outcome a look ≡ outcome b look
  -- where it isn't covered the walk stops at one need on both
  pub lack : (need : Need) → IsFirstLack held (needs_of a look) need → IsFirstLack held (needs_of b look) need

-- so the need on a view is the need on the tree wherever either is covered, and the verdict is the same
abbrev pub NeedsAreAlike : Type 0
NeedsAreAlike =
    (held : List Token) (a b : View) → AgreeUnder held a b →
    (look : Look Verdict) → AreAlike held a b look × AreAlike held b a look

-- The first lack of some needs is the one at which a walk stops.
pub record LacksAreFirst (held : List Token) (needs : List Need) : Type 0 where
  -- where tokens cover them all there is none, else there is one
  pub none : CoverAll held needs → (need : Need) → IsFirstLack held needs need → ⊥
  pub some : (CoverAll held needs → ⊥) → ((need : Need) → IsFirstLack held needs need → ⊥) → ⊥
  -- it isn't covered, and no other one is the first
  pub lacked : (need : Need) → IsFirstLack held needs need → Covers held need → ⊥
  pub one : (a b : Need) → IsFirstLack held needs a → IsFirstLack held needs b → a ≡ b

abbrev pub AllLacksAreFirst : Type 0
AllLacksAreFirst = (held : List Token) (needs : List Need) → LacksAreFirst held needs

-- What a host knows of itself is so in the tree. This is said while none of its labels is on its way to end.
pub record Knows (own : Own) (host : HostId) (user : User) (tree : Tree) : Type 0 where
  pub acts_for : user_of tree.roster host ≡ Some user
  pub locks : own.locks ≡ filter (λ lock. lock.host.0 == host.0) tree.locks
  pub opens : own.opens ≡ filter (λ opened. opened.host.0 == host.0) tree.opens
  -- a place is in the fileset that the host has seen under it, wherever that has moved
  pub seen : (server : ServerId) (name : List ℕ) (id : FilesetId) → own.seen server name ≡ Some id →
      (fileset : Fileset) × (fileset_named tree server name ≡ Ok fileset) × (fileset.id ≡ id)
  -- of a file that the host calls clean nothing of its own is unsaved
  pub clean : (fid : Fid) → own.is_clean fid ≡ true → (part : Part) → is_of host (cell_at tree fid part).unsaved ≡ false

-- the reply of the tree where the call's look ends so: a lock or an open is refused where another host's is in its way
abbrev pub tree_reply : Tree → HostId → Verdict → Option Reply
tree_reply tree host (Locks fid writing span) =
    Some (if is_excluded tree.locks host fid span writing then Refused Locked else Done)
tree_reply tree host (Opens fid kind) = Some (if is_barred tree.opens host fid kind then Refused OpenConflict else Done)
tree_reply tree host verdict = reply_of verdict

-- a reply is the one that is told, where one is
abbrev pub IsTold : Option Reply → Reply → Type 0
IsTold None reply = Unit {0}
IsTold (Some told) reply = reply ≡ told

-- the look of a call over a tree ends in the reply of the tree
abbrev pub LooksEndInReplies : Type 0
LooksEndInReplies =
    (tree : Tree) (host : HostId) (user : User) (own : Own) (call : Call) →
    IsWellFormed tree → Knows own host user tree →
    IsTold (tree_reply tree host (outcome (tree_view tree) (call_look own host user call)))
    (answer_to tree host call).reply

-- Where a host stands: it knows itself, and its view agrees with the tree under its tokens.
pub record Stands
    (tree : Tree) (host : HostId) (user : User) (own : Own) (held : List Token) (view : View) : Type 0 where
  pub formed : IsWellFormed tree
  pub knows : Knows own host user tree
  pub agrees : AgreeUnder held view (tree_view tree)

-- a call that is answered from such a view is answered as by the tree
abbrev pub CoveredAnswersAreTheTrees : Type 0
CoveredAnswersAreTheTrees =
    (tree : Tree) (host : HostId) (user : User) (own : Own) (held : List Token) (view : View) (call : Call) →
    Stands tree host user own held view → IsCovered held view (call_look own host user call) →
    IsTold (tree_reply tree host (outcome view (call_look own host user call))) (answer_to tree host call).reply

-- A question that a host asks is about the call's fileset, and where it isn't for a fileset's number, about a Change.
abbrev pub IsAbout : Own → Call → Question → Type 0
IsAbout own call (EnterAt server) =
    (name : List ℕ) × (fileset_of call ≡ Some (server, name)) × (own.seen server name ≡ None)
IsAbout own call (ChangeIn id) =
    (server : ServerId) × (name : List ℕ) × (fileset_of call ≡ Some (server, name)) × (own.seen server name ≡ Some id)
    × (is_change call ≡ true)
IsAbout own call (ChangeAt server) = (fileset_of call ≡ None) × (is_change call ≡ true)

abbrev pub QuestionsAreAboutFilesets : Type 0
QuestionsAreAboutFilesets =
    (own : Own) (host : HostId) (user : User) (call : Call) (view : View) (question : Question) →
    outcome view (call_look own host user call) ≡ Asks question → IsAbout own call question

-- the same for update
abbrev pub for_update : Kind → Kind
for_update (Bytes update span) = Bytes true span
for_update (Status update) = Status true
for_update kind = kind

-- What `shows` means to tokens: what covers needs shows what they show, and what is for update of a part is in the way
-- of whatever shows the part.
pub record TokensShowParts : Type 0 where
  -- the need of a part is of a token that shows it
  pub seen_by : (part : Part) → can_be part ≡ true → shows (kind_for part) part ≡ true
  -- whatever shows a part is in the way of changing it
  pub only : (kind : Kind) (part : Part) → can_be part ≡ true → shows kind part ≡ true →
      kinds_conflict kind (for_update (kind_for part)) ≡ true
  -- what covers needs shows what they show, and lets its host change what they are for changing
  pub covers : (held : List Token) (needs : List Need) (fid : Fid) (part : Part) →
      CoverAll held needs → needs_show needs fid part ≡ true → needs_show (map need_of held) fid part ≡ true
  pub covers_update : (held : List Token) (needs : List Need) (fid : Fid) (part : Part) →
      CoverAll held needs → needs_update needs fid part ≡ true → needs_update (map need_of held) fid part ≡ true
  -- of two hosts' needs that show a part, one of them for update, each is in the way of the other
  pub conflict : (need : Need) (needs : List Need) (part : Part) →
      shows need.kind part ≡ true → needs_update needs need.fid part ≡ true → any_conflict need needs ≡ true
  pub conflict_update : (need : Need) (needs : List Need) (part : Part) →
      shows need.kind part ≡ true → is_update need.kind ≡ true → needs_show needs need.fid part ≡ true →
      any_conflict need needs ≡ true

-- Views agree under tokens where they agree on each part that one of the tokens shows, and where no file has a byte.
abbrev pub ShownAgree : Type 0
ShownAgree =
    (held : List Token) (a b : View) →
    ((fid : Fid) (part : Part) → needs_show (map need_of held) fid part ≡ true → a fid part ≡ b fid part) →
    ((fid : Fid) (at : ℕ) → FILE_BYTES_MAX ≤ at → a fid (ByteAt at) ≡ b fid (ByteAt at)) →
    AgreeUnder held a b

-- a tree shows no byte where no file has one
abbrev pub NothingBeyond : Type 0
NothingBeyond =
    (tree : Tree) (fid : Fid) (at : ℕ) → IsWellFormed tree → FILE_BYTES_MAX ≤ at → tree_view tree fid (ByteAt at) ≡ 0

-- what is seen of an object of a fileset
abbrev pub seen_there : Fileset → ℕ × Object → Fid × Nature
seen_there fileset found = (use_of fileset found.0, nature_of fileset.read_only found.1)

-- Where the walks of looks end over a tree: as those of the fileset.
pub record WalksEnd (tree : Tree) (fileset : Fileset) : Type 0 where
  pub targets : (user : User) (path : List (List ℕ)) →
      outcome (tree_view tree) (target_look user (root_of fileset.id) path)
      ≡ and_then (target fileset user path) (λ found. Ok (seen_there fileset found))
  pub files : (user : User) (path : List (List ℕ)) →
      outcome (tree_view tree) (file_look user (root_of fileset.id) path)
      ≡ and_then (file_target fileset user path) (λ found. Ok (seen_there fileset found))
  pub permitted : (user : User) (path : List (List ℕ)) (right : ℕ) →
      outcome (tree_view tree) (permitted_look user (root_of fileset.id) path right)
      ≡ and_then (permitted_file fileset user path right) (λ found. Ok (seen_there fileset found))
  pub uses : (user : User) (path : List (List ℕ)) (changing : Bool) (right : ℕ) →
      outcome (tree_view tree) (use_look user (root_of fileset.id) path changing right)
      ≡ use_target fileset user path changing right
  pub writes : (user : User) (path : List (List ℕ)) (end : ℕ) →
      outcome (tree_view tree) (write_target_look user (root_of fileset.id) path end)
      ≡ and_then (write_target fileset user path end) (λ anode. Ok (use_of fileset anode))

abbrev pub AllWalksEnd : Type 0
AllWalksEnd =
    (tree : Tree) (fileset : Fileset) → IsWellFormed tree → find (has_id fileset.id) tree.filesets ≡ Some fileset →
    WalksEnd tree fileset

-- A name that leads to a fileset leads to it for ever, wherever it moves: so what a host has seen stays true.
abbrev pub NamesLeadOn : Type 0
NamesLeadOn =
    (tree : Tree) (entry : Entry) (server : ServerId) (name : List ℕ) (old : Fileset) →
    IsWellFormed tree → fileset_named tree server name ≡ Ok old →
    (new : Fileset) × (fileset_named (after_entry tree entry) server name ≡ Ok new) × (new.id ≡ old.id)
