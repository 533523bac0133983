-- One page that is put.
use Rattle.std.proofs.Common.{◌≡◌, ◌<◌, ◌≤◌, ℕ, ◌+◌, List, Ok, Err, refl, sym, ◌∙◌, ap, subst, arith}
use Rattle.std.specs.Prelude.{false, Result, OnOk, OnErr, IfErr, IsTrue, ◌==◌, if◌then◌else◌}
use Rattle.std.proofs.lemmas.Bool.{ne_eqb}
use Rattle.base_types.specs.View.{View}
use Rattle.base_types.specs.Faults.{RoseBy}
use Rattle.base_types.specs.Crash.{IsQuiet}
use Rattle.disk_layout.specs.Places.{pages_of}
use Rattle.disk_log.specs.declared.log.Log.{Log}
use Rattle.disk_log.specs.declared.fault.LogFault.{LogFault}
use Rattle.base_outside.proofs.Rises.{rise_before}
use Rattle.base_outside.proofs.Runs.{quiet_then}
use Rattle.disk_log.specs.declared.fault.LogFault.TheVariants.{Failed, Full, NotALog, Memory}
use Rattle.disk_log.specs.Blame.{IsDiskOrMemory}
use Rattle.disk_log.specs.Log.{disk_of, state_of, IsSoundLog}
use Rattle.disk_log.specs.State.{State, with_put, put_of}
use Rattle.disk_log.specs.Contents.{Contents, contents_of, over, page_in, last_stage, stage_in, IsStage, Keeps}
use Rattle.disk_log.proofs.Keeping.{keeps_same, same_ended}
use Rattle.disk_anode.specs.Room.{is_page, free_blocks, MayPutAll, PutsPages}
use Rattle.disk_anode.proofs.Putting.{puts_one, test_same}
use Rattle.disk_anode.proofs.Moving.{puts_none}
use Rattle.disk_anode.proofs.Free.{free_put}
use Rattle.disk_pages.specs.Puts.{PutsOne}

module _ {D T : Type 0} (tells : Type 0) (view : D → View) (slot page : ℕ) (old new : Log D) where
  pub put_err : (P : List ℕ → Type 0) (fault : LogFault) → Keeps tells view 0 old new → state_of new ≡ state_of old
      → IsQuiet (view (disk_of old)) (view (disk_of new)) → IsDiskOrMemory fault (view (disk_of old)) (view (disk_of new))
      → PutsOne {T = T} tells view slot page P (Err fault) old new
  put_err P fault keeps same quiet only = record {
    keeps = keeps;
    puts = puts_none (is_page page) slot (state_of old) (state_of new) same;
    here = λ told. tt;
    others = λ told. tt;
    room = λ told. tt;
    undone = same;
    quiet = quiet;
    only = only;
  }

  pub put_ok : (bytes was : List ℕ) (value : T) → page < 1058
      → (state_of old).half.pages ≡ pages_of (state_of old).superblock.blocks
      → MayPutAll (is_page page) (state_of old) slot → Keeps tells view 0 old new
      → state_of new ≡ with_put (state_of old) (put_of slot page was bytes)
      → ((image : List ℕ) (p : ℕ) → page_in (over image new) p ≡ (if page == p then bytes else page_in (over image old) p))
      → IsQuiet (view (disk_of old)) (view (disk_of new))
      → PutsOne {T = T} tells view slot page (λ (b : List ℕ). b ≡ bytes) (Ok value) old new
  put_ok bytes was value low many may keeps is pages quiet =
      let here = test_same page page refl in
      let there : page < (state_of old).half.pages = omega (arith, many, low) in
      let image = (view (disk_of new)).image in
      record {
        keeps = keeps;
        puts = puts_one (is_page page) (state_of old) (state_of new) (put_of slot page was bytes) is here there (may.own page there here);
        here = λ told. pages image page ∙ (λ i. if here i then bytes else page_in (over image old) page);
        others = λ told p apart.
            let other : (page == p) ≡ false = ne_eqb page p (λ e. apart (sym e)) in
            pages image p ∙ (λ i. if other i then bytes else page_in (over image old) p)
            ∙ ap (λ (l : List ℕ). page_in (over l old) p) quiet.image;
        room = λ told. free_put page slot bytes was (state_of old) (state_of new) (view (disk_of old)).image image low is pages quiet.image;
        undone = tt;
        quiet = quiet;
        only = tt;
      }

  pub put_done : (bytes : List ℕ) (result : Result T LogFault) → page < 1058
      → (state_of old).half.pages ≡ pages_of (state_of old).superblock.blocks
      → MayPutAll (is_page page) (state_of old) slot → Keeps tells view 0 old new
      → OnOk result ((was : List ℕ) × (state_of new ≡ with_put (state_of old) (put_of slot page was bytes)))
      → OnErr result (state_of new ≡ state_of old)
      → OnOk result ((image : List ℕ) (p : ℕ) → page_in (over image new) p ≡ (if page == p then bytes else page_in (over image old) p))
      → IsQuiet (view (disk_of old)) (view (disk_of new))
      → IfErr result (λ (fault : LogFault). IsDiskOrMemory fault (view (disk_of old)) (view (disk_of new)))
      → PutsOne tells view slot page (λ (b : List ℕ). b ≡ bytes) result old new
  put_done bytes (Ok value) low many may keeps put err pages quiet only =
      put_ok bytes put.0 value low many may keeps put.1 pages quiet
  put_done bytes (Err fault) low many may keeps put err pages quiet only =
      put_err (λ (b : List ℕ). b ≡ bytes) fault keeps err quiet only

-- what has P has Q
pub says_more : {D T : Type 0} (tells : Type 0) (view : D → View) (slot page : ℕ) (P Q : List ℕ → Type 0)
    (result : Result T LogFault) (old new : Log D) → (tells → (bytes : List ℕ) → P bytes → Q bytes)
    → PutsOne tells view slot page P result old new → PutsOne tells view slot page Q result old new
says_more tells view slot page P Q (Ok value) old new more put = record {
  keeps = put.keeps;
  puts = put.puts;
  here = λ told. more told (page_in (contents_of view new) page) (put.here told);
  others = put.others;
  room = put.room;
  undone = put.undone;
  quiet = put.quiet;
  only = put.only;
}
says_more tells view slot page P Q (Err fault) old new more put = record {
  keeps = put.keeps;
  puts = put.puts;
  here = λ told. tt;
  others = put.others;
  room = put.room;
  undone = put.undone;
  quiet = put.quiet;
  only = put.only;
}

-- the disk failed
pub failed_is : (fault : LogFault) (first second : View) → fault ≡ Failed → RoseBy 1 first.faults second.faults
    → IsTrue second.last_failed → IsDiskOrMemory fault first second
failed_is fault first second is rose last = subst (λ (f : LogFault). IsDiskOrMemory f first second) (sym is) (rose, last)

-- a page that is put after another was read
blame_after : (fault : LogFault) (first second last : View) → first.faults ≤ second.faults → IsQuiet first second
    → IsDiskOrMemory fault second last → IsDiskOrMemory fault first last
blame_after Failed first second last counted quiet only =
    (rise_before 1 first.faults second.faults last.faults counted only.0, only.1)
blame_after Memory first second last counted quiet only = quiet_then quiet only
blame_after (Full free needed) first second last counted quiet only = only
blame_after (NotALog place) first second last counted quiet only = only

module _ {D : Type 0} (tells : Type 0) (view : D → View) (old mid new : Log D) (same : state_of mid ≡ state_of old)
    (quiet : IsQuiet (view (disk_of old)) (view (disk_of mid)))
    (counted : (view (disk_of old)).faults ≤ (view (disk_of mid)).faults) where
  told_same : contents_of view mid ≡ contents_of view old
  told_same = let image = quiet.image in λ i. record { state = same i; image = image i }

  keeps_after : Keeps tells view 0 mid new → Keeps tells view 0 old new
  keeps_after keeps =
      let more = keeps.counted in
      record {
        sound = keeps.sound;
        superblock = keeps.superblock ∙ (λ i. (same i).superblock);
        half = keeps.half ∙ (λ i. (same i).half);
        counted = omega (arith, counted, more);
        last = keeps.last ∙ (λ i. last_stage (told_same i) + 0);
        stages = λ told k p le lt.
            keeps.stages told k p (subst (λ (t : Contents). k ≤ last_stage t) (sym told_same) le)
            (subst (λ (t : Contents). p < t.state.half.pages) (sym told_same) lt) ∙ (λ i. stage_in (told_same i) k p);
        crash = λ told c left. subst (λ (t : Contents). IsStage t 0 c) told_same (keeps.crash told c left);
      }

  pub after_read : {T : Type 0} (slot page : ℕ) (P : List ℕ → Type 0) (result : Result T LogFault)
      → PutsOne tells view slot page P result mid new → PutsOne tells view slot page P result old new
  after_read slot page P (Ok value) put = record {
    keeps = keeps_after put.keeps;
    puts = subst (λ (s : State). PutsPages (is_page page) slot s (state_of new)) same put.puts;
    here = put.here;
    others = λ told p apart. put.others told p apart ∙ (λ i. page_in (told_same i) p);
    room = λ told. subst (λ (t : Contents). free_blocks t.state t.image ≤ free_blocks (state_of new) (view (disk_of new)).image) told_same (put.room told);
    undone = tt;
    quiet = quiet_then quiet put.quiet;
    only = tt;
  }
  after_read slot page P (Err fault) put = record {
    keeps = keeps_after put.keeps;
    puts = subst (λ (s : State). PutsPages (is_page page) slot s (state_of new)) same put.puts;
    here = λ told. tt;
    others = λ told. tt;
    room = λ told. tt;
    undone = put.undone ∙ same;
    quiet = quiet_then quiet put.quiet;
    only = blame_after fault (view (disk_of old)) (view (disk_of mid)) (view (disk_of new)) counted quiet put.only;
  }

  -- a read that failed puts nothing
  pub read_err : {T : Type 0} (slot page : ℕ) (P : List ℕ → Type 0) (fault : LogFault) → IsSoundLog tells view mid
      → IsDiskOrMemory fault (view (disk_of old)) (view (disk_of mid)) → PutsOne {T = T} tells view slot page P (Err fault) old mid
  read_err {T = T} slot page P fault sound only =
      put_err {T = T} tells view slot page old mid P fault
      (keeps_same tells view old mid sound (same_ended (state_of old) (state_of mid) same) quiet counted) same quiet only
