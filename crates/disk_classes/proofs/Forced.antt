-- Classes that are committed and forced.
use Rattle.std.proofs.Common.{◌≡◌, ◌<◌, ◌≤◌, ◌∙◌, ℕ, List, sym, ap, subst, arith}
use Rattle.base_types.specs.View.{View}
use Rattle.base_types.specs.Crash.{IsQuiet}
use Rattle.base_outside.specs.Runs.{LeavesOnly}
use Rattle.base_outside.proofs.Runs.{quiet, then, weaker}
use Rattle.disk_layout.specs.declared.half.Half.{Half}
use Rattle.disk_layout.specs.declared.superblock.Superblock.{Superblock}
use Rattle.disk_layout.specs.Places.{pages_of, SameBlocks}
use Rattle.disk_layout.specs.Pages.{HasPages}
use Rattle.disk_log.specs.Blame.{IsDiskOrMemory}
use Rattle.disk_log.specs.Contents.{contents_of, page_in, stage_in, IsLeft, KeepsLast}
use Rattle.disk_log.specs.Log.{disk_of, state_of, IsIdle}
use Rattle.disk_log.specs.declared.fault.LogFault.{LogFault}
use Rattle.disk_log.specs.declared.fault.LogFault.TheVariants.{Failed, Full, NotALog, Memory}
use Rattle.disk_log.specs.declared.log.Log.{Log}
use Rattle.disk_classes.specs.Classes.{log_of, notes_of, value_of, CommitsFirst, Goes, IsLeftBy, IsForceFault}
use Rattle.disk_classes.specs.Faults.{class_fault}
use Rattle.disk_classes.specs.declared.classes.Classes.{Classes}
use Rattle.disk_classes.specs.declared.fault.ClassFault.{ClassFault}
use Rattle.disk_classes.specs.declared.fault.ClassFault.TheVariants.{Failed as DiskFailed, Full as LogFull, Memory as NoRoom}
use Rattle.disk_classes.proofs.Committed.{fault_then}
use Rattle.disk_classes.proofs.Forcing.{idle_last, shows_same}

-- a fault of the log, as one of classes
pub class_blamed : (fault : LogFault) (old new : View) → IsDiskOrMemory fault old new → IsForceFault (class_fault fault) old new
class_blamed Failed old new is = is
class_blamed Memory old new is = is
class_blamed (Full free needed) old new is = is
class_blamed (NotALog place) old new is = absurd is

pub force_fault_then : (fault : ClassFault) (old mid new : View) → IsQuiet old mid → old.faults ≤ mid.faults → IsForceFault fault mid new → IsForceFault fault old new
force_fault_then DiskFailed old mid new still le is = fault_then Failed old mid new still le is
force_fault_then NoRoom old mid new still le is = fault_then Memory old mid new still le is
force_fault_then (LogFull free needed) old mid new still le is = is

module _ {D : Type 0} (tells : Type 0) (view : D → View) (old mid : Classes D) (least : List ℕ) (goes : Goes tells view least old mid) (still : IsQuiet (view (disk_of (log_of old))) (view (disk_of (log_of mid)))) where
  -- what a crash in the force leaves
  left_by : tells → (c : List ℕ) → IsLeft (contents_of view (log_of mid)) (view (disk_of (log_of mid))) c → IsLeftBy view old c
  left_by told c (k, d, could, left) = record {
    stage = k;
    pages = stage_in (contents_of view (log_of mid)) k;
    is_stage = goes.stages told k left.some_of;
    before = d;
    could = still.now d could;
    log = subst (λ (s : Superblock). HasPages s (state_of (log_of old)).half.generation (stage_in (contents_of view (log_of mid)) k) d c) goes.superblock
        (subst (λ (h : Half). HasPages (state_of (log_of mid)).superblock h.generation (stage_in (contents_of view (log_of mid)) k) d c) goes.half left.log);
    blocks = λ lt. subst (λ (s : Superblock). SameBlocks (pages_of s.blocks) (view (disk_of (log_of old))).image d) goes.superblock
        (subst (λ (image : List ℕ). SameBlocks (pages_of (state_of (log_of mid)).superblock.blocks) image d) still.image (left.blocks lt));
  }

  pub crash_forced : (new : View) → tells → LeavesOnly (IsLeft (contents_of view (log_of mid)) (view (disk_of (log_of mid)))) (view (disk_of (log_of mid))) new → LeavesOnly (IsLeftBy view old) (view (disk_of (log_of old))) new
  crash_forced new told leaves = then (quiet (IsLeftBy view old) still) (weaker leaves (left_by told))

  -- what is committed is forced
  module _ (log : Log D) (pages : tells → (p : ℕ) → page_in (contents_of view log) p ≡ page_in (contents_of view (log_of mid)) p) where
    pub forced_first : CommitsFirst tells view least old (record { log = log; members = mid.members })
    forced_first = record {
      first = goes.commits.first;
      commits = record {
        gone = goes.commits.commits.gone;
        stayed = goes.commits.commits.stayed;
        put = goes.commits.commits.put;
        kept = goes.commits.commits.kept;
      };
      pages = λ told. shows_same (notes_of old) (value_of old) least (state_of (log_of old)).half.pages (page_in (contents_of view (log_of old))) (page_in (contents_of view (log_of mid))) (page_in (contents_of view log))
          (λ p lt. pages told p) (goes.commits.pages told);
    }

    pub forced_stage : IsIdle tells view (log_of mid) → (tells → KeepsLast (contents_of view (log_of mid)) (contents_of view log)) → tells
        → (p : ℕ) → p < (state_of (log_of old)).half.pages → stage_in (contents_of view log) 0 p ≡ page_in (contents_of view log) p
    forced_stage idle keeps told p lt =
        let same : (state_of (log_of mid)).half.pages ≡ (state_of (log_of old)).half.pages = ap (λ (h : Half). h.pages) goes.half in
        (keeps told).last p (omega (arith, lt, same)) ∙ idle_last tells view (log_of mid) idle told p ∙ sym (pages told p)
