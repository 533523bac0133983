-- What the calls of a log leave of its state.
use Rattle.std.proofs.Common.{◌≡◌, ◌<◌, ◌≤◌, ℕ, List, length, take, drop, refl, sym, ◌∙◌, subst, arith, get_or, Option, Some, None, length-append, ◌⊎◌, inl, inr}
use Rattle.std.proofs.lemmas.List.{length-take, length-drop, take-append-le}
use Rattle.base_types.specs.Image.{Torn}
use Rattle.base_types.specs.View.{View}
use Rattle.base_types.specs.Crash.{IsSettled, IsQuiet, ChangesBy}
use Rattle.disk_layout.specs.Places.{in_place, pages_end, SameFront}
use Rattle.disk_layout.specs.Half.{IsLog}
use Rattle.disk_layout.specs.declared.entry.Entry.{Entry}
use Rattle.disk_layout.proofs.Left.{page_same, between}
use Rattle.disk_layout.proofs.Pages.{redone_at}
use Rattle.disk_layout.proofs.Words.{superblock_same}
use Rattle.disk_log.specs.Append.{SameRest}
use Rattle.disk_log.specs.Pages.{HoldsPages}
use Rattle.disk_log.specs.Puts.{ended_page, run_of}
use Rattle.disk_log.specs.Contents.{IsStage}
use Rattle.disk_log.specs.State.{State, IsOpen, MayPut, free_in, begun, with_put, closed, ended, forced_all, IsSound}
use Rattle.disk_log.specs.Begin.{IsBegun}
use Rattle.disk_log.specs.Blame.{IsDiskOrMemory}
use Rattle.disk_log.specs.declared.fault.LogFault.{LogFault}
use Rattle.disk_log.specs.declared.fault.LogFault.TheVariants.{Failed, Full, NotALog, Memory}
use Rattle.disk_log.specs.declared.kept.Tx.{Tx}
use Rattle.disk_log.specs.declared.put.Put.{Put}
use Rattle.std.specs.Prelude.{Result, Ok, Err, OnOk, OnErr, IfErr}
use Rattle.disk_log.proofs.Blocks.{sound_beside}
use Rattle.disk_log.proofs.Ended.{sound_ended, sound_undone}
use Rattle.disk_log.proofs.Putting.{sound_put}
use Rattle.disk_log.proofs.Reading.{place_of, sound_read}
use Rattle.disk_log.proofs.Room.{open_slot, reserved_part, run_fits, room_begun, room_put, room_closed, room_ended}
use Rattle.disk_log.proofs.Under.{on_disk_after}

-- the same log by other names
pub sound_as : (tells : Type 0) (view : View) (pages there : List (Option (List ℕ))) (state other : State) → there ≡ pages → other ≡ state → IsSound tells view pages state → IsSound tells view there other
sound_as tells view pages there state other same is sound =
    subst (λ (l : State). IsSound tells view there l) (sym is) (subst (λ (l : List (Option (List ℕ))). IsSound tells view l state) (sym same) sound)

-- a log that reads as before is as it was
pub still_sound : (tells : Type 0) (old new : View) (pages : List (Option (List ℕ))) (state : State) → IsQuiet old new → IsSound tells old pages state → IsSound tells new pages state
still_sound tells old new pages state quiet sound =
    sound_read tells old new pages pages state quiet refl (λ told. subst (λ (image : List ℕ). HoldsPages pages (take state.forced state.entries) image) (sym quiet.image) (sound.kept told)) sound

module _ (tells : Type 0) (view : View) (pages : List (Option (List ℕ))) (state : State) (sound : IsSound tells view pages state) where
  pub begun_sound : (slot needed : ℕ) → slot < length state.reservations → get_or state.reservations slot 0 ≡ 0 → needed ≤ free_in state → IsSound tells view pages (begun state slot needed)
  begun_sound slot needed lt none fits = record {
    steady = sound.steady;
    accounts = room_begun state slot needed sound.accounts lt none fits;
    many = sound.many;
    blocks = sound.blocks;
    front = sound.front;
    slots = sound.slots;
    kept = sound.kept;
  }

  pub put_sound : (put : Put) → MayPut state put.slot put.page → put.page < state.half.pages → (tells → put.old ≡ ended_page state.entries view.image put.page) → IsSound tells view pages (with_put state put)
  put_sound put may lt old = record {
    steady = sound_put tells view state.half state.entries state.forced put state.puts sound.steady lt old;
    accounts = room_put state put sound.accounts may;
    many = sound.many;
    blocks = sound.blocks;
    front = sound.front;
    slots = sound.slots;
    kept = sound.kept;
  }

  pub end_sound : (slot : ℕ) → IsOpen state slot → IsSound tells view pages (ended state slot)
  end_sound slot opened = record {
    steady = sound_ended tells view state.half state.entries state.forced slot state.puts sound.steady
        (let e = length-append state.entries (run_of slot (length state.entries) state.puts) in
        let f = run_fits state slot sound.accounts opened in
        let g = reserved_part state slot sound.accounts (open_slot state.reservations slot opened) in
        let h = sound.accounts.room in
        omega (arith, e, f, g, h));
    accounts = room_ended state slot sound.accounts opened;
    many = sound.many;
    blocks = sound.blocks;
    front = sound.front;
    slots = sound.slots;
    kept = λ told. subst (λ (held : List Entry). HoldsPages pages held view.image)
        (sym (take-append-le state.forced state.entries (run_of slot (length state.entries) state.puts) sound.steady.forced_le))
        (sound.kept told);
  }

  pub undo_sound : (slot : ℕ) → IsOpen state slot → IsSound tells view pages (closed state slot)
  undo_sound slot opened = record {
    steady = sound_undone tells view state.half state.entries state.forced slot state.puts sound.steady;
    accounts = room_closed state slot sound.accounts (open_slot state.reservations slot opened);
    many = sound.many;
    blocks = sound.blocks;
    front = sound.front;
    slots = sound.slots;
    kept = sound.kept;
  }

  pub force_sound : (new : View) (fresh : List (Option (List ℕ))) → length fresh ≡ length pages → (tells → HoldsPages fresh (take (length state.entries) state.entries) new.image) → (tells → SameFront view.image new.image) → (tells → SameRest view.image new.image)
      → (tells → IsLog state.half state.entries new.image) → IsSettled new → IsSound tells new fresh (forced_all state)
  force_sound new fresh size kept front rest log settled = record {
    steady = record {
      placed = sound.steady.placed;
      few_pages = sound.steady.few_pages;
      forced_le = omega arith;
      room = sound.steady.room;
      fits = sound.steady.fits;
      apart = sound.steady.apart;
      on_disk = λ told. on_disk_after view new state.half state.entries state.forced (length state.entries) state.puts (sound.steady.on_disk told) refl (rest told) (log told) settled;
    };
    accounts = record { slots = sound.accounts.slots; in_all = sound.accounts.in_all; room = sound.accounts.room; enough = sound.accounts.enough };
    many = sound.many;
    blocks = sound.blocks;
    front = λ told. superblock_same state.superblock view.image new.image (front told) (sound.front told);
    slots = size ∙ sound.slots;
    kept = kept;
  }

  pub block_sound : (new : View) (at n : ℕ) → pages_end state.half.pages ≤ at → (tells → Torn at n view.image new.image) → ChangesBy (Torn at n) view new → IsSound tells new pages state
  block_sound new at n le torn changes = record {
    steady = sound_beside tells view new state.half state.entries state.forced state.puts at n le torn changes sound.steady;
    accounts = sound.accounts;
    many = sound.many;
    blocks = sound.blocks;
    front = λ told. superblock_same state.superblock view.image new.image (λ k lt. (torn told).before k (omega arith)) (sound.front told);
    slots = sound.slots;
    kept = λ told p bytes is.
        sound.kept told p bytes is
        ∙ redone_at (take state.forced state.entries) (λ (q : ℕ). in_place view.image q) (λ (q : ℕ). in_place new.image q) p (sym (kept_place told p bytes is));
  }
    where
      kept_place : tells → (p : ℕ) (bytes : List ℕ) → get_or pages p None ≡ Some bytes → in_place new.image p ≡ in_place view.image p
      kept_place told p bytes is =
          let lt = place_of pages p bytes is in
          let e = sound.slots in
          page_same state.half.pages p view.image new.image (omega arith) (λ k from below. (torn told).before k (omega arith))

-- a log in which a transaction was to begin
pub begun_as : (tells : Type 0) (view : View) (pages : List (Option (List ℕ))) (state new : State) → IsSound tells view pages state → (result : Result Tx LogFault) (needed : ℕ) → IsBegun needed result state new → IsSound tells view pages new
begun_as tells view pages state new sound (Ok tx) needed begun =
    sound_as tells view pages pages _ new refl begun.3 (begun_sound tells view pages state sound tx.slot needed begun.1 begun.2 begun.0)
begun_as tells view pages state new sound (Err (Full free wanted)) needed begun = sound_as tells view pages pages state new refl begun.3 sound
begun_as tells view pages state new sound (Err Memory) needed begun = sound_as tells view pages pages state new refl begun sound
begun_as tells view pages state new sound (Err Failed) needed begun = absurd begun
begun_as tells view pages state new sound (Err (NotALog place)) needed begun = absurd begun

-- a log in which a page was to be put
pub put_as : {T E : Type 0} (result : Result T E) (tells : Type 0) (view : View) (pages : List (Option (List ℕ))) (state new : State) (put : Put) → IsSound tells view pages state → MayPut state put.slot put.page → put.page < state.half.pages
    → (tells → put.old ≡ ended_page state.entries view.image put.page) → OnOk result (new ≡ with_put state put) → OnErr result (new ≡ state) → IsSound tells view pages new
put_as (Ok x) tells view pages state new put sound may lt old ok err = sound_as tells view pages pages _ new refl ok (put_sound tells view pages state sound put may lt old)
put_as (Err e) tells view pages state new put sound may lt old ok err = sound_as tells view pages pages state new refl err sound

pub put_fault : {T : Type 0} (result : Result T LogFault) (old new : View) → IsQuiet old new → IfErr result (λ (fault : LogFault). fault ≡ Memory) → IfErr result (λ (fault : LogFault). IsDiskOrMemory fault old new)
put_fault (Ok x) old new quiet is = tt
put_fault (Err e) old new quiet is = subst (λ (fault : LogFault). IsDiskOrMemory fault old new) (sym is) quiet

-- between two calls a crash leaves stage 0
pub sound_left : (tells : Type 0) (view : View) (pages : List (Option (List ℕ))) (state : State) → IsSound tells view pages state → tells → (c : List ℕ) → view.may_leave c → IsStage (record { state = state; image = view.image }) 0 c
sound_left tells view pages state sound told c left =
    let disk = sound.steady.on_disk told in
    (between state.half (take state.forced state.entries) (drop state.forced state.entries) view.image
    (let e = length-take state.forced state.entries in let f = length-drop state.forced state.entries in let g = sound.steady.room in let h = sound.steady.forced_le in omega arith)
    disk.log disk.whole state.superblock sound.many (sound.front told) c (disk.settled c left)).log
