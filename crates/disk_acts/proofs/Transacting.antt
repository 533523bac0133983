-- An act, from the begin of its transaction to the end.
use Rattle.std.proofs.Common.{◌≡◌, ◌<◌, ◌≤◌, ℕ, zero, suc, ◌+◌, List, [], ◌∷◌, set, take, drop, refl, sym, ◌∙◌, ap, subst, arith, get_or}
use Rattle.std.specs.Prelude.{Result, Ok, Err, OnOk, OnErr, IfErr}
use Rattle.base_types.specs.View.{View}
use Rattle.store_state.specs.declared.state.StoreState.{StoreState}
use Rattle.disk_layout.specs.declared.superblock.Superblock.{Superblock}
use Rattle.disk_layout.specs.Places.{in_place, pages_of, SameButBlocks}
use Rattle.disk_layout.specs.Pages.{firsts, redone}
use Rattle.disk_layout.proofs.Pages.{redone_at}
use Rattle.disk_layout.proofs.Left.{page_same}
use Rattle.disk_log.specs.Contents.{Contents, contents_of, over, page_in, stage_in, last_stage, Keeps}
use Rattle.disk_log.specs.Log.{disk_of, state_of, slot_of, IsSoundLog, IsIdle}
use Rattle.disk_log.specs.Puts.{overlaid, page_of}
use Rattle.disk_log.specs.State.{State, IsOpen, begun, ended}
use Rattle.disk_log.specs.declared.kept.Tx.{Tx}
use Rattle.disk_log.specs.declared.log.Log.{Log}
use Rattle.disk_log.specs.declared.put.Put.{Put}
use Rattle.disk_log.proofs.Emptying.{no_puts}
use Rattle.disk_log.proofs.Keeping.{last_redone}
use Rattle.disk_anode.specs.Anode.{Anode}
use Rattle.disk_anode.specs.Changes.{WritesLoose}
use Rattle.disk_anode.specs.Faults.{IsNodeFault}
use Rattle.disk_anode.specs.Room.{free_blocks, MayPutAll}
use Rattle.disk_anode.specs.declared.fault.NodeFault.{NodeFault}
use Rattle.disk_anode.proofs.Putting.{may_begun}
use Rattle.disk_anode.proofs.Moving.{wrote_quiet}
use Rattle.disk_objects.specs.Holds.{stage_of}
use Rattle.disk_objects.proofs.Staging.{holds_staged}
use Rattle.disk_fileset.specs.Slots.{WroteUnused}
use Rattle.disk_acts.specs.Acts.{act_pages, MayAct, DoesAct}
use Rattle.disk_acts.specs.Records.{HasRecord, HasStage, HasNow}
use Rattle.disk_acts.specs.Steps.{Begins, HasEnded, IsUndone, Finishes, MayStep, Steps, SaysNext}
use Rattle.disk_acts.proofs.Same.{record_with, record_same}
use Rattle.disk_acts.proofs.ActRoom.{act_many}
use Rattle.disk_acts.proofs.Freed.{free_begun, free_ended, unused_begun}

-- of a log without an open transaction, the last stage is what its pages say
module _ {D : Type 0} (tells : Type 0) (view : D → View) (log : Log D) (idle : IsIdle tells view log) (told : tells) where
  none_put : (state_of log).puts ≡ []
  none_put = no_puts (state_of log) idle.sound.accounts idle.none_open

  last_now : (p : ℕ) → stage_in (contents_of view log) (last_stage (contents_of view log)) p ≡ page_of (state_of log).entries (state_of log).puts (view (disk_of log)).image p
  unfolding page_of
  last_now p =
      last_redone (view (disk_of log)).image (state_of log) (idle.sound.steady.on_disk told).whole.ended p
      ∙ (λ i. overlaid (sym none_put i) (λ (q : ℕ). redone (state_of log).entries (in_place (view (disk_of log)).image) q) p)

  pub stage_now : (state : StoreState) → HasStage state (last_stage (contents_of view log)) (contents_of view log) → HasNow state (state_of log) (view (disk_of log)).image
  stage_now state has = record_same state (state_of log).superblock.blocks (stage_in (contents_of view log) (last_stage (contents_of view log)))
      (λ p. page_of (state_of log).entries (state_of log).puts (view (disk_of log)).image p) (view (disk_of log)).image (λ p lt. sym (last_now p)) has

  pub now_stage : (state : StoreState) → HasNow state (state_of log) (view (disk_of log)).image → HasStage state (last_stage (contents_of view log)) (contents_of view log)
  now_stage state has = record_same state (state_of log).superblock.blocks (λ p. page_of (state_of log).entries (state_of log).puts (view (disk_of log)).image p)
      (stage_in (contents_of view log) (last_stage (contents_of view log))) (view (disk_of log)).image (λ p lt. last_now p) has

-- stages that stay
stage_kept : (state : StoreState) (k : ℕ) (a b : Contents) → b.state.superblock ≡ a.state.superblock → b.image ≡ a.image
    → ((p : ℕ) → p < pages_of a.state.superblock.blocks → stage_in b k p ≡ stage_in a k p) → HasStage state k a → HasStage state k b
stage_kept state k a b superblock image same has =
    subst (λ (s : Superblock). HasRecord state s.blocks (stage_in b k) b.image) (sym superblock)
    (subst (λ (l : List ℕ). HasRecord state a.state.superblock.blocks (stage_in b k) l) (sym image)
    (record_same state a.state.superblock.blocks (stage_in a k) (stage_in b k) a.image same has))

pub stage_keeps : {D : Type 0} (tells : Type 0) (view : D → View) (n : ℕ) (old new : Log D) → IsSoundLog tells view old → Keeps tells view n old new → disk_of new ≡ disk_of old
    → tells → (k : ℕ) (state : StoreState) → k ≤ last_stage (contents_of view old) → HasStage state k (contents_of view old) → HasStage state k (contents_of view new)
stage_keeps tells view n old new sound keeps disk told k state le has =
    let many = sound.many in
    stage_kept state k (contents_of view old) (contents_of view new) keeps.superblock (λ i. (view (disk i)).image)
    (λ p lt. keeps.stages told k p le (omega (arith, many, lt))) has

page_stays : (state : State) (puts : List Put) (before after : List ℕ) (k p : ℕ) → SameButBlocks (pages_of state.superblock.blocks) before after → p < pages_of state.superblock.blocks
    → stage_of (record state { puts = puts }) after k p ≡ stage_of state before k p
page_stays state puts before after k p same lt =
    redone_at (firsts k (drop state.forced state.entries)) (λ (q : ℕ). redone (take state.forced state.entries) (in_place after) q) (λ (q : ℕ). redone (take state.forced state.entries) (in_place before) q) p
    (redone_at (take state.forced state.entries) (in_place after) (in_place before) p (page_same (pages_of state.superblock.blocks) p before after lt (λ j from below. same j below)))

stage_put : (state : StoreState) (k : ℕ) (named : ℕ → ℕ) (old new : State) (before after : List ℕ) → new ≡ record old { puts = new.puts } → WritesLoose named old before before after
    → HasRecord state old.superblock.blocks (stage_of old before k) before → HasRecord state new.superblock.blocks (stage_of new after k) after
stage_put state k named old new before after rest writes has =
    subst (λ (s : State). HasRecord state s.superblock.blocks (stage_of s after k) after) (sym rest)
    (record_with state old.superblock.blocks (stage_of old before k) (stage_of (record old { puts = new.puts }) after k) before after
    (λ p lt. page_stays old new.puts before after k p writes.front (omega (arith, lt)))
    (λ (anodes : ℕ → Anode) held. holds_staged anodes named old (record old { puts = new.puts }) before after k refl held writes) has)

-- no transaction is open once the only one is closed
none_after : (xs : List ℕ) (slot n : ℕ) → ((s : ℕ) → get_or xs s 0 ≡ 0) → (s : ℕ) → get_or (set (set xs slot n) slot 0) s 0 ≡ 0
none_after [] slot n none s = refl
none_after (x ∷ xs) zero n none zero = refl
none_after (x ∷ xs) zero n none (suc s) = none (suc s)
none_after (x ∷ xs) (suc slot) n none zero = none 0
none_after (x ∷ xs) (suc slot) n none (suc s) = none_after xs slot n (λ t. none (suc t)) s

-- where it has begun
module _ {D : Type 0} (tells : Type 0) (view : D → View) (blocks : ℕ) (state : StoreState) (old mid : Log D) (tx : Tx) (may : MayAct tells view blocks state old) (begins : Begins tells view (Ok tx) old mid) where
  begun_is : state_of mid ≡ begun (state_of old) (slot_of tx) 717
  begun_is = begins.opened.state

  view_same : view (disk_of mid) ≡ view (disk_of old)
  view_same = ap view begins.disk

  pub begun_now : tells → HasNow state (state_of mid) (view (disk_of mid)).image
  begun_now told =
      let now = stage_now tells view old may.idle told state (may.held told) in
      let same : HasNow state (begun (state_of old) (slot_of tx) 717) (view (disk_of old)).image = now in
      subst (λ (s : State). HasNow state s (view (disk_of mid)).image) (sym begun_is)
      (subst (λ (v : View). HasNow state (begun (state_of old) (slot_of tx) 717) v.image) (sym view_same) same)

  begun_free : free_blocks (state_of mid) (view (disk_of mid)).image ≡ free_blocks (state_of old) (view (disk_of old)).image
  begun_free = (λ i. free_blocks (begun_is i) (view_same i).image) ∙ free_begun (state_of old) (view (disk_of old)).image (slot_of tx) 717

  pub may_step : (slot : ℕ) → MayStep tells view (act_pages slot) blocks mid tx
  may_step slot =
      let old_sound = may.idle.sound in
      let many = old_sound.many in
      let most = old_sound.blocks in
      let few = act_many slot (state_of old).half.pages (omega (arith, many)) in
      record {
        sound = begins.keeps.sound;
        may = subst (λ (s : State). MayPutAll (act_pages slot) s (slot_of tx)) (sym begun_is)
            (may_begun (act_pages slot) (state_of old) (slot_of tx) 358 begins.opened.there (no_puts (state_of old) old_sound.accounts may.idle.none_open) (omega (arith, few, many, most)));
        room = λ told. (let room = may.room told in let e = begun_free in omega (arith, room, e));
      }

-- An act whose step was done.
module _ {D : Type 0} (tells : Type 0) (view : D → View) (slot blocks : ℕ) (state next : StoreState) (old mid last new : Log D) (tx changed : Tx)
    (may : MayAct tells view blocks state old) (begins : Begins tells view (Ok tx) old mid) where
  is_open : {T : Type 0} (put : Result T NodeFault) → Steps tells view (act_pages slot) blocks put mid last tx changed → IsOpen (state_of last) (slot_of changed)
  is_open put steps =
      subst (λ (x : Tx). IsOpen (state_of last) (slot_of x)) (sym steps.same)
      (steps.puts.may (act_pages slot) (λ p is. is) (may_step tells view blocks state old mid tx may begins slot).may).opened

  reserved_is : {T : Type 0} (put : Result T NodeFault) → Steps tells view (act_pages slot) blocks put mid last tx changed → (state_of last).reservations ≡ set (state_of old).reservations (slot_of tx) 717
  reserved_is put steps = ap (λ (s : State). s.reservations) steps.puts.rest ∙ ap (λ (s : State). s.reservations) begins.opened.state

  none_left : {T : Type 0} (put : Result T NodeFault) → Steps tells view (act_pages slot) blocks put mid last tx changed → (reservations : List ℕ) → reservations ≡ set (state_of last).reservations (slot_of changed) 0
      → (s : ℕ) → get_or reservations s 0 ≡ 0
  none_left put steps reservations is s =
      (λ i. get_or (is i) s 0) ∙ (λ i. get_or (set (reserved_is put steps i) (slot_of (steps.same i)) 0) s 0)
      ∙ none_after (state_of old).reservations (slot_of tx) 717 may.idle.none_open s

  stages_last : {T : Type 0} (put : Result T NodeFault) → Steps tells view (act_pages slot) blocks put mid last tx changed → tells → (k : ℕ) (r : StoreState) → k ≤ last_stage (contents_of view old)
      → HasStage r k (contents_of view old) → HasStage r k (contents_of view last)
  stages_last put steps told k r le has =
      stage_put r k _ (state_of mid) (state_of last) (view (disk_of mid)).image (view (disk_of last)).image steps.puts.rest (steps.wrote told).reads
      (stage_keeps tells view 0 old mid may.idle.sound begins.keeps begins.disk told k r le has)

  last_same : {T : Type 0} (put : Result T NodeFault) → Steps tells view (act_pages slot) blocks put mid last tx changed → last_stage (contents_of view last) ≡ last_stage (contents_of view old)
  last_same put steps =
      let first = begins.keeps.last in
      let second : last_stage (contents_of view last) ≡ last_stage (contents_of view mid) = (λ i. last_stage (record { state = steps.puts.rest i; image = (view (disk_of last)).image })) in
      omega (arith, first, second)

  stages_new : {T : Type 0} (n : ℕ) (put : Result T NodeFault) → Steps tells view (act_pages slot) blocks put mid last tx changed → Keeps tells view n last new → disk_of new ≡ disk_of last
      → tells → (k : ℕ) (r : StoreState) → k ≤ last_stage (contents_of view old) → HasStage r k (contents_of view old) → HasStage r k (contents_of view new)
  stages_new n put steps keeps disk told k r le has =
      let same = last_same put steps in
      stage_keeps tells view n last new steps.sound keeps disk told k r (omega (arith, same, le)) (stages_last put steps told k r le has)

  super_last : {T : Type 0} (put : Result T NodeFault) → Steps tells view (act_pages slot) blocks put mid last tx changed → (state_of last).superblock ≡ (state_of old).superblock
  super_last put steps = ap (λ (s : State). s.superblock) steps.puts.rest ∙ begins.keeps.superblock

  half_last : {T : Type 0} (put : Result T NodeFault) → Steps tells view (act_pages slot) blocks put mid last tx changed → (state_of last).half ≡ (state_of old).half
  half_last put steps = ap (λ (s : State). s.half) steps.puts.rest ∙ begins.keeps.half

  wrote_new : {T : Type 0} (put : Result T NodeFault) → Steps tells view (act_pages slot) blocks put mid last tx changed → disk_of new ≡ disk_of last → tells
      → WroteUnused (state_of old) (view (disk_of old)) (view (disk_of new))
  wrote_new put steps disk told =
      let first = steps.wrote told in
      let as_begun = subst (λ (s : State). WroteUnused s (view (disk_of mid)) (view (disk_of last))) begins.opened.state first in
      let as_old = subst (λ (v : View). WroteUnused (begun (state_of old) (slot_of tx) 717) v (view (disk_of last))) (ap view begins.disk) as_begun in
      subst (λ (v : View). WroteUnused (state_of old) (view (disk_of old)) v) (ap view (sym disk)) (unused_begun (state_of old) (slot_of tx) 717 (view (disk_of old)) (view (disk_of last)) as_old)

  counted_new : {T : Type 0} (put : Result T NodeFault) → Steps tells view (act_pages slot) blocks put mid last tx changed → disk_of new ≡ disk_of last → (view (disk_of old)).faults ≤ (view (disk_of new)).faults
  counted_new put steps disk =
      let a = steps.counted in
      let b : (view (disk_of mid)).faults ≡ (view (disk_of old)).faults = (λ i. (view (begins.disk i)).faults) in
      let c : (view (disk_of new)).faults ≡ (view (disk_of last)).faults = (λ i. (view (disk i)).faults) in
      omega (arith, a, b, c)

  -- it ended
  ended_now : {T : Type 0} (value : T) → Steps tells view (act_pages slot) blocks (Ok value) mid last tx changed → HasEnded tells view (slot_of changed) last new → disk_of new ≡ disk_of last
      → HasNow next (state_of last) (view (disk_of last)).image → HasNow next (state_of new) (view (disk_of new)).image
  ended_now value steps has disk now =
      let image : (view (disk_of new)).image ≡ (view (disk_of last)).image = (λ i. (view (disk i)).image) in
      let there = record_same next (state_of last).superblock.blocks (λ p. page_in (over (view (disk_of last)).image last) p) (λ p. page_in (over (view (disk_of last)).image new) p)
      (view (disk_of last)).image (λ p lt. has.pages (view (disk_of last)).image p) now in
      subst (λ (l : List ℕ). HasNow next (state_of new) l) (sym image)
      (subst (λ (s : Superblock). HasRecord next s.blocks (λ p. page_in (over (view (disk_of last)).image new) p) (view (disk_of last)).image) (sym has.keeps.superblock) there)

  ended_free : {T : Type 0} (value : T) → Steps tells view (act_pages slot) blocks (Ok value) mid last tx changed → HasEnded tells view (slot_of changed) last new → disk_of new ≡ disk_of last → tells
      → free_blocks (state_of old) (view (disk_of old)).image ≤ free_blocks (state_of new) (view (disk_of new)).image + blocks
  ended_free value steps has disk told =
      let steady = steps.sound.steady in
      let first = steps.room told in
      let begun_at = begun_free tells view blocks state old mid tx may begins in
      let end = free_ended (state_of last) (view (disk_of last)).image (slot_of changed) steady.forced_le steady.apart
      (λ p. (λ i. page_of (sym has.state i).entries (sym has.state i).puts (view (disk_of last)).image p) ∙ has.pages (view (disk_of last)).image p) in
      let same : free_blocks (state_of new) (view (disk_of new)).image ≡ free_blocks (ended (state_of last) (slot_of changed)) (view (disk_of last)).image =
      (λ i. free_blocks (has.state i) (view (disk i)).image) in
      omega (arith, first, begun_at, end, same)

  does_ok : {T : Type 0} (value : T) → Steps tells view (act_pages slot) blocks (Ok value) mid last tx changed → SaysNext tells view state next (Ok value) mid last → HasEnded tells view (slot_of changed) last new
      → disk_of new ≡ disk_of last → DoesAct tells view blocks next (Ok value) old new
  does_ok value steps says has disk =
      let idle : IsIdle tells view new = record { sound = has.keeps.sound; none_open = none_left (Ok value) steps (state_of new).reservations (ap (λ (s : State). s.reservations) has.state) } in
      let same = last_same (Ok value) steps in
      let more = has.keeps.last in
      record {
        idle = idle;
        superblock = has.keeps.superblock ∙ super_last (Ok value) steps;
        half = has.keeps.half ∙ half_last (Ok value) steps;
        least = omega (arith, same, more);
        most = omega (arith, same, more);
        none = tt;
        stages = stages_new 1 (Ok value) steps has.keeps disk;
        does = λ told. now_stage tells view new idle told next (ended_now value steps has disk (says told (begun_now tells view blocks state old mid tx may begins told)));
        room = λ told. ended_free value steps has disk told;
        wrote = wrote_new (Ok value) steps disk;
        counted = counted_new (Ok value) steps disk;
        only = tt;
      }

  -- it was undone
  does_err : {T : Type 0} (fault : NodeFault) → Steps {T = T} tells view (act_pages slot) blocks (Err fault) mid last tx changed → IsUndone tells view (slot_of changed) last new
      → disk_of new ≡ disk_of last → DoesAct {T = T} tells view blocks next (Err fault) old new
  does_err fault steps has disk =
      let same = last_same (Err fault) steps in
      let more = has.keeps.last in
      record {
        idle = record { sound = has.keeps.sound; none_open = none_left (Err fault) steps (state_of new).reservations (ap (λ (s : State). s.reservations) has.state) };
        superblock = has.keeps.superblock ∙ super_last (Err fault) steps;
        half = has.keeps.half ∙ half_last (Err fault) steps;
        least = omega (arith, same, more);
        most = omega (arith, same, more);
        none = omega (arith, same, more);
        stages = stages_new 0 (Err fault) steps has.keeps disk;
        does = λ told. tt;
        room = λ told. tt;
        wrote = wrote_new (Err fault) steps disk;
        counted = counted_new (Err fault) steps disk;
        only = subst (λ (v : View). IsNodeFault fault v (view (disk_of new))) (ap view begins.disk) (subst (λ (v : View). IsNodeFault fault (view (disk_of mid)) v) (ap view (sym disk)) steps.only);
      }

  pub does_put : {T : Type 0} (put : Result T NodeFault) → Steps tells view (act_pages slot) blocks put mid last tx changed → SaysNext tells view state next put mid last
      → Finishes tells view (slot_of changed) put last new → DoesAct tells view blocks next put old new
  does_put (Ok value) steps says finishes = does_ok value steps says finishes.ended finishes.disk
  does_put (Err fault) steps says finishes = does_err fault steps finishes.undone finishes.disk

  pub does_act : {T : Type 0} (put result : Result T NodeFault) → result ≡ put → Steps tells view (act_pages slot) blocks put mid last tx changed → SaysNext tells view state next put mid last
      → Finishes tells view (slot_of changed) put last new → DoesAct tells view blocks next result old new
  does_act {T = T} put result same steps says finishes =
      subst (λ (r : Result T NodeFault). DoesAct tells view blocks next r old new) (sym same) (does_put put steps says finishes)

  pub may_finish : {T : Type 0} (put : Result T NodeFault) → Steps tells view (act_pages slot) blocks put mid last tx changed → IsOpen (state_of last) (slot_of changed)
  may_finish put steps = is_open put steps

-- An act without a transaction: memory ran out, or it changes nothing.
module _ {D : Type 0} (tells : Type 0) (view : D → View) (blocks : ℕ) (state next : StoreState) (old new : Log D) (may : MayAct tells view blocks state old)
    (keeps : Keeps tells view 0 old new) (disk : disk_of new ≡ disk_of old) (same : state_of new ≡ state_of old) where
  quiet_wrote : tells → WroteUnused (state_of old) (view (disk_of old)) (view (disk_of new))
  quiet_wrote told = subst (λ (v : View). WroteUnused (state_of old) (view (disk_of old)) v) (ap view (sym disk))
      (wrote_quiet _ (state_of old) (view (disk_of old)) (view (disk_of old)) (record { image = refl; later = omega arith; now = λ c left. left; since = λ t c le left. left; kept = λ t c le left. left }))

  pub does_none : {T : Type 0} (result : Result T NodeFault) → IfErr result (λ fault. IsNodeFault fault (view (disk_of old)) (view (disk_of new))) → (tells → OnOk result (next ≡ state)) → DoesAct tells view blocks next result old new
  does_none {T = T} result only next_is =
      let more = keeps.last in
      record {
        idle = record { sound = keeps.sound; none_open = λ slot. (λ i. get_or (same i).reservations slot 0) ∙ may.idle.none_open slot };
        superblock = keeps.superblock;
        half = keeps.half;
        least = omega (arith, more);
        most = omega (arith, more);
        none = none_ended result;
        stages = stage_keeps tells view 0 old new may.idle.sound keeps disk;
        does = λ told. by told result (next_is told);
        room = λ told. room_of told result;
        wrote = quiet_wrote;
        counted = (let e : (view (disk_of new)).faults ≡ (view (disk_of old)).faults = (λ i. (view (disk i)).faults) in omega (arith, e));
        only = only;
      }
    where
      none_ended : (r : Result T NodeFault) → OnErr r (last_stage (contents_of view new) ≡ last_stage (contents_of view old))
      none_ended (Ok value) = tt
      none_ended (Err fault) = (let more = keeps.last in omega (arith, more))

      by : tells → (r : Result T NodeFault) → OnOk r (next ≡ state) → OnOk r (HasStage next (last_stage (contents_of view new)) (contents_of view new))
      by told (Ok value) is =
          let e : last_stage (contents_of view new) ≡ last_stage (contents_of view old) = (let more = keeps.last in omega (arith, more)) in
          subst (λ (k : ℕ). HasStage next k (contents_of view new)) (sym e)
          (subst (λ (s : StoreState). HasStage s (last_stage (contents_of view old)) (contents_of view new)) (sym is)
          (stage_keeps tells view 0 old new may.idle.sound keeps disk told (last_stage (contents_of view old)) state (omega arith) (may.held told)))
      by told (Err fault) is = tt

      room_of : tells → (r : Result T NodeFault) → OnOk r (free_blocks (state_of old) (view (disk_of old)).image ≤ free_blocks (state_of new) (view (disk_of new)).image + blocks)
      room_of told (Ok value) = (let e : free_blocks (state_of new) (view (disk_of new)).image ≡ free_blocks (state_of old) (view (disk_of old)).image = (λ i. free_blocks (same i) (view (disk i)).image) in omega (arith, e))
      room_of told (Err fault) = tt
