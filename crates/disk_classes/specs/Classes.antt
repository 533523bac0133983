-- What contracts see of members over a log.
use Rattle.std.specs.Prelude.{◌≡◌, ◌≢◌, ◌⊎◌, ◌≤◌, ◌<◌, ℕ, ◌+◌, ◌*◌, List, Option, None, Result, Ok}
use Rattle.std.specs.Prelude.{Err, length, IsTrue, ◌==◌, if◌then◌else◌, unwrap_or}
use Rattle.std.proofs.Common.{get_or}
use Rattle.base_types.specs.Faults.{RoseBy}
use Rattle.base_types.specs.View.{View}
use Rattle.base_types.specs.Crash.{IsQuiet}
use Rattle.disk_layout.specs.Places.{pages_of, SameBlocks}
use Rattle.disk_layout.specs.Pages.{HasPages}
use Rattle.disk_log.specs.Contents.{contents_of, page_in, last_stage, stage_in}
use Rattle.disk_log.specs.Log.{disk_of, state_of, IsIdle}
use Rattle.disk_log.specs.State.{free_in}
use Rattle.disk_log.specs.declared.log.Log.{Log}
use Rattle.disk_classes.specs.Joined.{Note, AreFirst, IsOf, IsPutBy, ShowsPuts, no_note, new_note}
use Rattle.disk_classes.specs.Notes.{bytes_in, needed_in, needs_below, notes_in, ArePartition, AreValues, AreWithin}
use Rattle.disk_classes.specs.declared.classes.Classes.{Classes}
use Rattle.disk_classes.specs.declared.fault.ClassFault.{ClassFault}
use Rattle.disk_classes.specs.declared.fault.ClassFault.TheVariants.{Failed, Full, Memory}
use Rattle.disk_classes.specs.declared.member.Member.{Member}
use Rattle.disk_classes.specs.declared.member.Standing.TheVariants.{Vacant}

abbrev pub log_of : {D : Type 0} → Classes D → Log D
log_of classes = classes.log

-- the members that aren't yet committed, by their numbers
abbrev pub notes_of : {D : Type 0} → Classes D → ℕ → Note
notes_of classes m = notes_in classes.members.noted m

-- the last put of a page by any of them
abbrev pub value_of : {D : Type 0} → Classes D → ℕ → Option (List ℕ)
value_of classes p = bytes_in (get_or classes.members.values p None)

-- the entries of the log that they need, `2 * pages + 1` each
abbrev pub needed_of : {D : Type 0} → Classes D → ℕ
needed_of classes = needed_in classes.members.noted

abbrev pub number_of : Member → ℕ
number_of member = member.number

-- a page with all puts
abbrev pub shown : {D : Type 0} → (D → View) → Classes D → ℕ → List ℕ
shown view classes p = unwrap_or (value_of classes p) (page_in (contents_of view (log_of classes)) p)

-- Classes that have not failed: no transaction is open in the log, and it has room for all members. As a member gets
-- the lowest number that is free, there are no more numbers than entries, and their notes tell what all need.
pub record IsSoundClasses {D : Type 0} (tells : Type 0) (view : D → View) (classes : Classes D) : Type 0 where
  pub idle : IsIdle tells view (log_of classes)
  pub partition : ArePartition classes.members.noted
  pub limits : (m : ℕ) → length (notes_of classes m).pages ≤ (notes_of classes m).limit
  pub values : AreValues classes.members.noted classes.members.values
  pub within : AreWithin (state_of (log_of classes)).half.pages classes.members.values
  pub room : needed_of classes ≤ free_in (state_of (log_of classes))
  pub few : length classes.members.noted ≤ 2048
  pub needs : needed_of classes ≡ needs_below 2048 (notes_of classes)

-- the same members with the same puts
pub record SameMembers {D : Type 0} (old new : Classes D) : Type 0 where
  pub notes : (m : ℕ) → notes_of new m ≡ notes_of old m
  pub values : (p : ℕ) → value_of new p ≡ value_of old p
  pub needed : needed_of new ≡ needed_of old

-- the lowest number that no member has
pub record IsLowest (notes : ℕ → Note) (number : ℕ) : Type 0 where
  pub vacant : (notes number).standing ≡ Vacant
  pub lowest : (m : ℕ) → m < number → (notes m).standing ≢ Vacant

-- A member began: the log has entries for all.
pub record Begins {D : Type 0} (pages number : ℕ) (old new : Classes D) : Type 0 where
  pub fits : needed_of old + (2 * pages + 1) ≤ free_in (state_of (log_of old))
  pub lowest : IsLowest (notes_of old) number
  pub notes : (m : ℕ) → notes_of new m ≡ (if m == number then new_note pages else notes_of old m)
  pub needed : needed_of new ≡ needed_of old + (2 * pages + 1)

-- A member began, or all is as before: too few entries of the log are free, or enough are and memory ran out.
abbrev pub IsBegun : {D : Type 0} → ℕ → Result Member ClassFault → Classes D → Classes D → Type 0
IsBegun pages (Ok member) old new = Begins pages member.number old new
IsBegun pages (Err (Full free needed)) old new =
    (free ≡ free_in (state_of (log_of old))) × (needed ≡ needed_of old + (2 * pages + 1))
    × (free_in (state_of (log_of old)) < needed) × SameMembers old new
IsBegun pages (Err Memory) old new =
    (needed_of old + (2 * pages + 1) ≤ free_in (state_of (log_of old))) × SameMembers old new
IsBegun pages (Err Failed) old new = ⊥

-- These classes are committed: their members are gone with their puts, and the others are as before.
pub record Commits {D : Type 0} (least : List ℕ) (old new : Classes D) : Type 0 where
  pub gone : (m : ℕ) → IsOf (notes_of old) least m → notes_of new m ≡ no_note
  pub stayed : (m : ℕ) → (IsOf (notes_of old) least m → ⊥) → notes_of new m ≡ notes_of old m
  pub put : (p : ℕ) → IsPutBy (notes_of old) least p → value_of new p ≡ None
  pub kept : (p : ℕ) → (IsPutBy (notes_of old) least p → ⊥) → value_of new p ≡ value_of old p

-- The log has what these classes put: its pages show it, and so will the stages of a later force.
pub record CommitsFirst {D : Type 0} (tells : Type 0) (view : D → View) (least : List ℕ) (old new : Classes D)
    : Type 0 where
  pub first : AreFirst (notes_of old) least
  pub commits : Commits least old new
  pub pages : tells → ShowsPuts (notes_of old) (value_of old) least (state_of (log_of old)).half.pages
      (page_in (contents_of view (log_of old))) (page_in (contents_of view (log_of new)))

-- The pages of a log after the first k transactions that ended since its last force, or, with more, those that show
-- the puts of the first classes that have ended, whole, over the last of these.
abbrev pub IsStageBy : {D : Type 0} → (D → View) → Classes D → ℕ → (ℕ → List ℕ) → Type 0
IsStageBy view old k pages =
    let told = contents_of view (log_of old) in
    ((k ≤ last_stage told) × ((p : ℕ) → p < told.state.half.pages → pages p ≡ stage_in told k p))
    ⊎ ((last_stage told < k) × ((least : List ℕ) × AreFirst (notes_of old) least
    × ShowsPuts (notes_of old) (value_of old) least told.state.half.pages (page_in told) pages))

-- The first classes that have ended were committed, and no byte is durable yet: each stage of the log is one of those
-- that a crash in a force may leave.
pub record Goes {D : Type 0} (tells : Type 0) (view : D → View) (least : List ℕ) (old new : Classes D)
    : Type 0 where
  pub commits : CommitsFirst tells view least old new
  pub superblock : (state_of (log_of new)).superblock ≡ (state_of (log_of old)).superblock
  pub half : (state_of (log_of new)).half ≡ (state_of (log_of old)).half
  pub later : last_stage (contents_of view (log_of old)) ≤ last_stage (contents_of view (log_of new))
  pub stages : tells → (k : ℕ) → k ≤ last_stage (contents_of view (log_of new))
      → IsStageBy view old k (stage_in (contents_of view (log_of new)) k)

-- What a crash in a force leaves: the log with such pages, and the blocks of an image that a crash could leave before
-- or, from stage 1 on, those that are read.
pub record IsLeftBy {D : Type 0} (view : D → View) (old : Classes D) (c : List ℕ) : Type 0 where
  pub stage : ℕ
  pub pages : ℕ → List ℕ
  pub is_stage : IsStageBy view old stage pages
  pub before : List ℕ
  pub could : (view (disk_of (log_of old))).may_leave before
  pub log : HasPages (state_of (log_of old)).superblock (state_of (log_of old)).half.generation pages before c
  pub blocks : 0 < stage → SameBlocks
      (pages_of (state_of (log_of old)).superblock.blocks) (view (disk_of (log_of old))).image before

-- A force failed where the disk did, or where memory ran out and no byte was changed.
abbrev pub IsForceFault : ClassFault → View → View → Type 0
IsForceFault Failed old new = RoseBy 1 old.faults new.faults × IsTrue new.last_failed
IsForceFault Memory old new = IsQuiet old new
IsForceFault (Full free needed) old new = ⊥
