-- Where nothing fails a run that can go ends so, or for want of memory.
use Rattle.std.proofs.Common.{◌≡◌, ◌⊎◌, ⊎_elim, ◌+◌, ℕ, zero, suc, true, false, List, [], ◌∷◌, ◌++◌, length}
use Rattle.std.proofs.Common.{slice_get, Some, Ok, Err, refl, sym, ap, ◌∙◌, subst, arith}
use Rattle.std.specs.Prelude.{None}
use Rattle.base_types.specs.Crash.{IsQuiet}
use Rattle.base_types.specs.Faults.{RoseBy}
use Rattle.base_types.specs.View.{View}
use Rattle.disk_aggregate.specs.declared.refused.MountRefused.TheVariants.{NotAggregate}
use Rattle.disk_image.specs.Aggregate.{is_blank}
use Rattle.disk_image.specs.Refused.{refused_at}
use Rattle.script_commands.specs.declared.command.Command.TheVariants.{Play as Plays}
use Rattle.script_commands.specs.declared.command.Play.{Play}
use Rattle.script_lines.specs.declared.script.Script.{Script}
use Rattle.script_reader.specs.declared.refused.ScriptRefused.{ScriptRefused}
use Rattle.tree_calls.specs.declared.roster.Roster.{Roster}
use Rattle.service_disks.specs.Stores.{AreOpen, IsFirstRefused, disks_of}
use Rattle.service_disks.specs.declared.stores.ServerStore.{ServerStore}
use Rattle.service_disks.specs.declared.stores.ServerStore.TheVariants.{Disk, Memory}
use Rattle.service_starts.specs.declared.told.Told.{Told}
use Rattle.service_run.specs.Complete.{CanRun, IsCalm, NothingFails, is_complete}
use Rattle.service_run.specs.Courses.{IsTold}
use Rattle.service_run.specs.Disks.{AreFound, AreStill, IsAggregateRefused, IsRunOver, IsUnfit, RunsOver, images}
use Rattle.service_run.specs.Checks.{IsDiskRefused}
use Rattle.service_run.specs.Outcomes.{EndsSo, has_reached, may_end}
use Rattle.service_run.specs.Scripts.{IsRead, script_for}
use Rattle.service_run.specs.World.{World}
use Rattle.service_run.specs.declared.outcome.Outcome.{Outcome}
use Rattle.service_run.specs.declared.outcome.Status.{Status}
use Rattle.service_run.specs.declared.outcome.Status.TheVariants.{
  Done,
  NoCommand,
  NoScript,
  NoInput,
  NoOutput,
  NoDisk,
  NoAggregate,
  NoMemory,
  HasFaults,
  Stuck,
}

-- a count that stayed didn't rise
calm_once : (before after : ℕ) → IsCalm before after → RoseBy 1 before after → ⊥
calm_once before after calm rose = let same = calm.0 in let low = calm.1 in absurd (omega (arith, rose, same, low))

calm_twice : (before after : ℕ) → IsCalm before after → RoseBy 2 before after → ⊥
calm_twice before after calm rose = let same = calm.0 in let low = calm.1 in absurd (omega (arith, rose, same, low))

-- one behind others
behind_them : {A : Type 0} (xs ys : List A) (x : A) → slice_get (xs ++ x ∷ ys) (length xs) ≡ Some x
behind_them [] ys x = refl
behind_them (y ∷ xs) ys x = behind_them xs ys x

-- two lists of one length with the same at each place
same_lists : {A : Type 0} (xs ys : List A) → length xs ≡ length ys
    → ((k : ℕ) (x y : A) → slice_get xs k ≡ Some x → slice_get ys k ≡ Some y → x ≡ y) → xs ≡ ys
same_lists [] [] size each = refl
same_lists [] (y ∷ ys) size each = absurd (omega (arith, size))
same_lists (x ∷ xs) [] size each = absurd (omega (arith, size))
same_lists {A} (x ∷ xs) (y ∷ ys) size each =
    let head : x ≡ y = each zero x y refl refl in
    let tail : xs ≡ ys = same_lists xs ys (omega (arith, size)) (λ k a b e f. each (suc k) a b e f) in
    ap (λ (z : A). z ∷ xs) head ∙ ap (λ (l : List A). y ∷ l) tail

-- disks tell one thing alone
told_once : (roster : Roster) (found : List (List ℕ)) (xs ys : List Told) → AreFound roster found xs
    → AreFound roster found ys → xs ≡ ys
told_once roster found xs ys h k =
    same_lists xs ys (h.count ∙ sym k.count)
    (λ n x y e f. (let a = h.each n x e in let b = k.each n y f in cc))

module _ {D : Type 0} (tells : Type 0) (view : D → View) where
  -- as many disks are open as were opened
  open_long : (roster : Roster) (number : ℕ) (disks : List D) (stores : List (ServerStore D))
      → AreOpen tells view roster number disks stores → length (disks_of stores) ≡ length disks
  open_long roster number [] [] are = refl
  open_long roster number [] (Memory store ∷ stores) are = open_long roster (number + 1) [] stores are.1
  open_long roster number [] (Disk store ∷ stores) are = absurd are
  open_long roster number (disk ∷ disks) [] are = absurd are
  open_long roster number (disk ∷ disks) (Memory store ∷ stores) are = absurd are
  open_long roster number (disk ∷ disks) (Disk store ∷ stores) are =
      ap suc (open_long roster (number + 1) disks stores are.1)

  module _ {reads writes : Type 0} (play : Play) (outcome : Outcome) (old new : List D)
      (before after : World reads writes) (told : tells) (read : reads) (can : CanRun view play old before.source)
      (calm : NothingFails view old new before after) where
    -- the script that was read is that one
    is_script : (script : Script) → IsRead before.source play (Ok script) → can.script ≡ script
    is_script script r =
        let same : Ok can.script ≡ Ok script =
        sym can.says ∙ ap (λ (l : List ℕ). script_for play l) (sym (r.had read)) ∙ r.says in cc

    not_refused : (why : ScriptRefused) → IsRead before.source play (Err why) → ⊥
    not_refused why r =
        let clash : Ok can.script ≡ Err why =
        sym can.says ∙ ap (λ (l : List ℕ). script_for play l) (sym (r.had read)) ∙ r.says in absurd (cc)

    -- no disk failed
    no_disk : IsDiskRefused view old new before.sink after.sink → ⊥
    no_disk h =
        let f = h.failing in
        calm_twice (view f.before).faults (view f.after).faults (calm.disks f.k f.before f.after f.was f.is) f.twice

    -- and each could be mounted
    not_first : (number place : ℕ)
        → IsFirstRefused tells view can.script.roster number (NotAggregate place) old new → ⊥
    not_first number place h =
        let at = length h.front in
        let many = open_long can.script.roster 1 h.front h.stores h.opened in
        let was : slice_get old at ≡ Some h.before =
        ap (λ (l : List D). slice_get l at) h.was ∙ behind_them h.front h.behind h.before in
        let is : slice_get new at ≡ Some h.after =
        ap (λ (l : List D). slice_get l at) h.is
        ∙ ap (λ (n : ℕ). slice_get (disks_of h.stores ++ h.after ∷ h.behind) n) (sym many)
        ∙ behind_them (disks_of h.stores) h.behind h.after in
        let stays = calm.disks at h.before h.after was is in
        let why = h.refused.cause in ⊎_elim
        (λ (quiet : IsQuiet (view h.before) (view h.after)). ⊎_elim
        (λ (blank : is_blank (view h.before).image ≡ true). (let full = why.1 told in absurd (cc)))
        (λ (none : refused_at (at + 1) (length can.script.roster.capacity) (view h.before).image ≡ None).
        (let some = why.0.1 told in let image = quiet.image in let number_is = h.numbered in absurd (cc)))
        (can.sound at h.before was))
        (λ (rose : RoseBy 1 (view h.before).faults (view h.after).faults).
        calm_once (view h.before).faults (view h.after).faults stays rose)
        why.0.0

    not_unfit : (number place : ℕ) → IsUnfit can.script.roster (images view old) number place → ⊥
    not_unfit number place h =
        let same = told_once can.script.roster (images view old) can.all h.all can.found h.found in
        let none = can.fit in
        let some = h.first in absurd (cc)

    no_aggregate : IsAggregateRefused tells view can.script.roster old new before.sink after.sink → ⊥
    no_aggregate h = ⊎_elim
        (λ (first : IsFirstRefused tells view can.script.roster h.number (NotAggregate h.place) old new).
        not_first h.number h.place first)
        (λ (unfit : tells → IsUnfit can.script.roster (images view old) h.number h.place
        × AreStill can.script.roster (images view old) (images view new)).
        not_unfit h.number h.place (unfit told).0)
        h.cause

    module _ (ends : EndsSo (IsTold tells old) play outcome before after)
        (over : RunsOver tells view play outcome old new before after) where
      -- where it reached the disks
      reached : (status : Status) → outcome.status ≡ status → has_reached status ≡ true
          → IsRunOver tells view play outcome old new before after
      reached status is reaches = ⊎_elim
          (λ (h : (has_reached outcome.status ≡ false) × (new ≡ old)). (let not = h.0 in absurd (cc)))
          (λ (h : IsRunOver tells view play outcome old new before after). h)
          over

      -- no such status comes of a script
      never : (status : Status) → outcome.status ≡ status → may_end (Some (Plays play)) status ≡ false → ⊥
      never status is not = (let words = ends.words in absurd (cc))

      by_status : (status : Status) → outcome.status ≡ status → is_complete status ≡ true
      by_status Done is = refl
      by_status Stuck is = refl
      by_status NoMemory is = refl
      by_status NoCommand is = absurd (never NoCommand is refl)
      by_status HasFaults is = absurd (never HasFaults is refl)
      by_status NoScript is = (let r = ends.refused is in absurd (not_refused r.why r.read))
      by_status NoInput is =
          absurd (calm_once before.source.faults after.source.faults calm.source (ends.failed is))
      by_status NoOutput is =
          absurd (calm_once before.sink.faults after.sink.faults calm.sink (ends.printed.failed is))
      by_status NoDisk is = absurd (no_disk ((reached NoDisk is refl).over.failed is))
      by_status NoAggregate is =
          (let r = reached NoAggregate is refl in
          absurd (no_aggregate
          (subst (λ (s : Script). IsAggregateRefused tells view s.roster old new before.sink after.sink)
          (sym (is_script r.script r.read)) (r.over.refused is))))

      pub complete : is_complete outcome.status ≡ true
      complete = by_status outcome.status refl
