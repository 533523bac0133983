-- What acts, forces and crashes leave of the records of a batch.
use Rattle.std.proofs.Common.{◌≡◌, ◌<◌, ◌≤◌, ◌⊎◌, ℕ, zero, suc, ◌+◌, List, length, take, drop, inl, inr, refl, sym, ◌∙◌, ap, subst, arith}
use Rattle.std.specs.Prelude.{Result, Ok}
use Rattle.std.proofs.lemmas.List.{length-append, length-take-le, take-append-drop}
use Rattle.std.proofs.lemmas.Bool.{cases_lt}
use Rattle.base_types.specs.Crash.{IsSettled}
use Rattle.base_types.specs.View.{View}
use Rattle.base_outside.specs.Runs.{LeavesOnly}
use Rattle.base_outside.proofs.Runs.{then, weaker}
use Rattle.store_acts.specs.declared.act.Act.{Act}
use Rattle.store_state.specs.declared.state.StoreState.{StoreState}
use Rattle.disk_layout.specs.declared.entry.Entry.{Entry}
use Rattle.disk_layout.specs.declared.superblock.Superblock.{Superblock}
use Rattle.disk_layout.specs.Entry.{entries}
use Rattle.disk_layout.specs.Pages.{pages_in, redone, firsts, HasPages, IsSameOrNext}
use Rattle.disk_layout.specs.Places.{in_place, pages_of, block_start, SameBlocks, SameButBlocks}
use Rattle.disk_layout.proofs.Entries.{held_entries}
use Rattle.disk_layout.proofs.Left.{between, entries_stay, page_same, start_low}
use Rattle.disk_layout.proofs.Pages.{redone_at}
use Rattle.disk_log.specs.Contents.{contents_of, stage_in, last_stage, IsLeft, IsStage}
use Rattle.disk_log.specs.Log.{disk_of, state_of, IsSoundLog}
use Rattle.disk_log.specs.declared.log.Log.{Log}
use Rattle.disk_space.specs.Counts.{count_now}
use Rattle.disk_anode.specs.Anode.{Anode as Node}
use Rattle.disk_anode.specs.Changes.{WritesLoose}
use Rattle.disk_anode.specs.declared.fault.NodeFault.{NodeFault}
use Rattle.disk_objects.proofs.Staging.{crash_stays}
use Rattle.disk_objects.proofs.Staying.{holds_kept}
use Rattle.disk_acts.specs.Acts.{DoesAct}
use Rattle.disk_acts.specs.Records.{HasRecord, HasStage}
use Rattle.disk_acts.proofs.Same.{record_with}
use Rattle.disk_acts.specs.Stored.{IsOwn}
use Rattle.disk_acts.specs.Batch.{first_of, HoldsFirst, HasSome, Goes, IsDurable}

-- a record stays where the pages do, and the blocks
pub record_moved : (state : StoreState) (blocks : ℕ) (old new : ℕ → List ℕ) (before after : List ℕ) → ((p : ℕ) → p < pages_of blocks → new p ≡ old p) → SameBlocks (pages_of blocks) before after
    → HasRecord state blocks old before → HasRecord state blocks new after
record_moved state blocks old new before after pages same has =
    record_with state blocks old new before after (λ p lt. pages p (omega (arith, lt)))
    (λ anodes held. holds_kept anodes blocks old new before after held pages (λ b lt some k low. same (block_start (pages_of blocks) b + k) (omega arith))) has

pub some_moved : (start : StoreState) (acts : List Act) (n : ℕ) (superblock : Superblock) (old new : ℕ → List ℕ) (before after : List ℕ) → ((p : ℕ) → p < pages_of superblock.blocks → new p ≡ old p)
    → SameBlocks (pages_of superblock.blocks) before after → HasSome start acts n superblock old before → HasSome start acts n superblock new after
some_moved start acts n superblock old new before after pages same has = record {
  count = has.count;
  few = has.few;
  own = has.own;
  held = record_moved (first_of start acts has.count) superblock.blocks old new before after pages same has.held;
}

next_most : (a b : ℕ) → IsSameOrNext a b → b ≤ a + 1
next_most a b (inl e) = omega (arith, e)
next_most a b (inr e) = omega (arith, e)

-- the bytes of a log with such pages hold it
pub holds_first : (most : ℕ) (start : StoreState) (acts : List Act) (n : ℕ) (superblock : Superblock) (generation : ℕ) (pages : ℕ → List ℕ) (d c : List ℕ) → n ≤ length acts → generation + 1 ≤ most
    → HasPages superblock generation pages d c → HasSome start acts n superblock pages d → HoldsFirst most start acts c
holds_first most start acts n superblock generation pages d c few fresh log has =
    let follows = next_most generation log.half.generation log.follows in
    let le = has.few in (
      has.count,
      omega (arith, le, few),
      record {
        superblock = superblock;
        half = log.half;
        log = log.log;
        generation = omega (arith, follows, fresh);
        own = has.own;
        held = record_moved (first_of start acts has.count) superblock.blocks pages (λ p. pages_in log.half c p) d c (λ p lt. log.pages p lt) log.blocks has.held;
      },
    )

-- a log that is told
module _ {D : Type 0} (tells : Type 0) (view : D → View) (log : Log D) (sound : IsSoundLog tells view log) (told : tells) where
  abbrev Image : List ℕ
  Image = (view (disk_of log)).image

  abbrev held : List Entry
  held = take (state_of log).forced (state_of log).entries

  few_held : length held ≤ 2048
  few_held = let few = length-take-le (state_of log).forced (state_of log).entries sound.steady.forced_le in let le = sound.steady.forced_le in let room = sound.steady.room in omega (arith, few, le, room)

  few_all : length held + length (drop (state_of log).forced (state_of log).entries) ≤ 2048
  few_all =
      let all = ap length (take-append-drop (state_of log).forced (state_of log).entries) in
      let both = length-append held (drop (state_of log).forced (state_of log).entries) in
      let room = sound.steady.room in
      omega (arith, all, both, room)

  -- beside it is stage 0, with other blocks
  pub stage_beside : (c : List ℕ) → SameButBlocks (state_of log).half.pages Image c → IsStage (contents_of view log) 0 c
  stage_beside c same =
      let disk = sound.steady.on_disk told in
      (between (state_of log).half held (drop (state_of log).forced (state_of log).entries) Image few_all disk.log disk.whole (state_of log).superblock sound.many (sound.front told) c same).log

-- its stage 0 is the same where the bytes are but for blocks
module _ {D : Type 0} (tells : Type 0) (view : D → View) (old new : Log D) (told : tells) (before : IsSoundLog tells view old) (after : IsSoundLog tells view new)
    (half : (state_of new).half ≡ (state_of old).half) (same : SameButBlocks (pages_of (state_of old).superblock.blocks) (view (disk_of old)).image (view (disk_of new)).image) where
  abbrev first : List Entry
  first = take (state_of old).forced (state_of old).entries

  abbrev second : List Entry
  second = take (state_of new).forced (state_of new).entries

  entries_same : second ≡ first
  entries_same =
      let there = (after.steady.on_disk told).log.entries in
      let here = (before.steady.on_disk told).log in
      let low = start_low (state_of old).half here.place in
      let stays = entries_stay (state_of old).half first (view (disk_of old)).image (view (disk_of new)).image low (few_held tells view old before told) (λ at lt. same at (omega (arith, lt))) here.entries in
      sym (held_entries (state_of new).half second (view (disk_of new)).image (few_held tells view new after told) there)
      ∙ (λ i. entries (half i) (view (disk_of new)).image)
      ∙ held_entries (state_of old).half first (view (disk_of new)).image (few_held tells view old before told) stays

  pub front_same : (p : ℕ) → p < pages_of (state_of old).superblock.blocks → stage_in (contents_of view new) 0 p ≡ stage_in (contents_of view old) 0 p
  unfolding firsts
  front_same p lt =
      (λ i. redone (entries_same i) (in_place (view (disk_of new)).image) p)
      ∙ redone_at first (in_place (view (disk_of new)).image) (in_place (view (disk_of old)).image) p
      (page_same (pages_of (state_of old).superblock.blocks) p (view (disk_of old)).image (view (disk_of new)).image lt (λ k from below. same k below))

-- What a crash leaves of stage 0 while an act writes.
module _ {D : Type 0} (tells : Type 0) (view : D → View) (most : ℕ) (start : StoreState) (acts : List Act) (n : ℕ) (first : View) (old : Log D)
    (goes : Goes tells view most start acts n first old) (few : n ≤ length acts) (fresh : (state_of old).half.generation + 1 ≤ most) (told : tells) where
  abbrev blocks : ℕ
  blocks = (state_of old).superblock.blocks

  abbrev Before : List ℕ
  Before = (view (disk_of old)).image

  some_crashed : (named : ℕ → ℕ) (d c : List ℕ) → WritesLoose named (state_of old) Before d c → HasSome start acts n (state_of old).superblock (stage_in (contents_of view old) 0) d
      → HasSome start acts n (state_of old).superblock (stage_in (contents_of view old) 0) c
  some_crashed named d c writes has = record {
    count = has.count;
    few = has.few;
    own = has.own;
    held = record_with (first_of start acts has.count) blocks (stage_in (contents_of view old) 0) (stage_in (contents_of view old) 0) d c (λ p lt. refl)
        (λ (anodes : ℕ → Node) held. crash_stays anodes named (state_of old) Before d c 0 held writes) has.held;
  }

  beside : (named : ℕ → ℕ) (d c : List ℕ) → (view (disk_of old)).may_leave d → WritesLoose named (state_of old) Before d c → SameButBlocks (state_of old).half.pages Before c
  beside named d c left writes at lt =
      let sound = goes.idle.sound in
      let many = sound.many in
      writes.front at (omega (arith, many, lt)) ∙ (sound.steady.on_disk told).settled d left at lt

  -- as it is, or as the act writes
  crashed_first : (named : ℕ → ℕ) (d c : List ℕ) → (view (disk_of old)).may_leave d → WritesLoose named (state_of old) Before d c → HoldsFirst most start acts c
  crashed_first named d c left writes =
      holds_first most start acts n (state_of old).superblock (state_of old).half.generation (stage_in (contents_of view old) 0) c c few fresh
      (stage_beside tells view old goes.idle.sound told c (beside named d c left writes))
      (some_crashed named d c writes (goes.left told d left))

  module _ {T : Type 0} (bound : ℕ) (next : StoreState) (result : Result T NodeFault) (new : Log D) (does : DoesAct tells view bound next result old new) where
    act_crash : LeavesOnly (HoldsFirst most start acts) (view (disk_of old)) (view (disk_of new))
    act_crash = record {
      later = (does.wrote told).crash.later;
      each = λ t c le left. by c ((does.wrote told).crash.since t c le left);
    }
      where
        by : {E : Type 0} (c : List ℕ) → E ⊎ ((d : List ℕ) × (view (disk_of old)).may_leave d × WritesLoose (λ block. count_now (state_of old) Before block) (state_of old) Before d c) → E ⊎ HoldsFirst most start acts c
        by c (inl earlier) = inl earlier
        by c (inr (d, left, writes)) = inr (crashed_first (λ block. count_now (state_of old) Before block) d c left writes)

    stage_zero : (p : ℕ) → p < pages_of blocks → stage_in (contents_of view new) 0 p ≡ stage_in (contents_of view old) 0 p
    stage_zero p lt = front_same tells view old new told goes.idle.sound does.idle.sound does.half (does.wrote told).reads.front p lt

    act_left : (c : List ℕ) → (view (disk_of new)).may_leave c → HasSome start acts n (state_of new).superblock (stage_in (contents_of view new) 0) c
    act_left c left =
        let from = (does.wrote told).crash.now c left in
        subst (λ (s : Superblock). HasSome start acts n s (stage_in (contents_of view new) 0) c) (sym does.superblock)
        (some_moved start acts n (state_of old).superblock (stage_in (contents_of view old) 0) (stage_in (contents_of view new) 0) c c stage_zero (λ at le. refl)
        (some_crashed (λ block. count_now (state_of old) Before block) from.0 c from.2 (goes.left told from.0 from.1)))

    act_stage : (s : ℕ) → s ≤ last_stage (contents_of view old) → HasSome start acts n (state_of new).superblock (stage_in (contents_of view new) s) (view (disk_of new)).image
    act_stage s le =
        let has = goes.stages told s le in
        record {
          count = has.count;
          few = has.few;
          own = subst (IsOwn (first_of start acts has.count)) (sym does.superblock) has.own;
          held = does.stages told s (first_of start acts has.count) le has.held;
        }

some_more : (start : StoreState) (acts : List Act) (n : ℕ) (superblock : Superblock) (pages : ℕ → List ℕ) (image : List ℕ) → HasSome start acts n superblock pages image → HasSome start acts (n + 1) superblock pages image
some_more start acts n superblock pages image has = record { count = has.count; few = (let le = has.few in omega (arith, le)); own = has.own; held = has.held }

-- a log goes on after an act
pub goes_next : {D T : Type 0} (tells : Type 0) (view : D → View) (most : ℕ) (start : StoreState) (acts : List Act) (n : ℕ) (first : View) (old new : Log D) (bound : ℕ) (next : StoreState) (value : T)
    → Goes tells view most start acts n first old → n ≤ length acts → (state_of old).half.generation + 1 ≤ most → next ≡ first_of start acts (n + 1) → (tells → IsOwn next (state_of old).superblock)
    → DoesAct tells view bound next (Ok value) old new → Goes tells view most start acts (n + 1) first new
goes_next tells view most start acts n first old new bound next value goes few fresh is own does = record {
  idle = does.idle;
  stages = λ told s le. by told s le (cases_lt (last_stage (contents_of view old)) s);
  left = λ told c left. some_more start acts n _ _ c (act_left tells view most start acts n first old goes few fresh told bound next (Ok value) new does c left);
  last = λ told. subst (λ (s : StoreState). HasStage s (last_stage (contents_of view new)) (contents_of view new)) is (does.does told);
  own = λ told. own_new told;
  crash = λ told. then (goes.crash told) (act_crash tells view most start acts n first old goes few fresh told bound next (Ok value) new does);
  counted = (let a = goes.counted in let b = does.counted in omega (arith, a, b));
}
  where
    own_new : tells → IsOwn (first_of start acts (n + 1)) (state_of new).superblock
    own_new told = subst (λ (s : StoreState). IsOwn s (state_of new).superblock) is (subst (IsOwn next) (sym does.superblock) (own told))

    by : tells → (s : ℕ) → s ≤ last_stage (contents_of view new) → (last_stage (contents_of view old) < s) ⊎ (s ≤ last_stage (contents_of view old))
        → HasSome start acts (n + 1) (state_of new).superblock (stage_in (contents_of view new) s) (view (disk_of new)).image
    by told s le (inr low) = some_more start acts n _ _ _ (act_stage tells view most start acts n first old goes few fresh told bound next (Ok value) new does s low)
    by told s le (inl high) =
        let most_one = does.most in
        let e : s ≡ last_stage (contents_of view new) = omega (arith, le, high, most_one) in
        record {
          count = n + 1;
          few = omega arith;
          own = own_new told;
          held = subst (λ (k : ℕ). HasStage (first_of start acts (n + 1)) k (contents_of view new)) (sym e)
              (subst (λ (r : StoreState). HasStage r (last_stage (contents_of view new)) (contents_of view new)) is (does.does told));
        }

-- what is left where it failed
pub goes_failed : {D T : Type 0} (tells : Type 0) (view : D → View) (most : ℕ) (start : StoreState) (acts : List Act) (n : ℕ) (first : View) (old new : Log D) (bound : ℕ) (next : StoreState) (result : Result T NodeFault)
    → Goes tells view most start acts n first old → n ≤ length acts → (state_of old).half.generation + 1 ≤ most → DoesAct tells view bound next result old new
    → tells → LeavesOnly (HoldsFirst most start acts) first (view (disk_of new))
goes_failed tells view most start acts n first old new bound next result goes few fresh does told =
    then (goes.crash told) (act_crash tells view most start acts n first old goes few fresh told bound next result new does)

-- a force or a checkpoint
module _ {D : Type 0} (tells : Type 0) (view : D → View) (most : ℕ) (start : StoreState) (acts : List Act) (n : ℕ) (first : View) (old new : Log D)
    (goes : Goes tells view most start acts n first old) (few : n ≤ length acts) (fresh : (state_of old).half.generation + 1 ≤ most) where
  -- what a crash in it leaves
  left_first : tells → (c : List ℕ) → IsLeft (contents_of view old) (view (disk_of old)) c → HoldsFirst most start acts c
  left_first told c (zero, d, left, found) =
      holds_first most start acts n (state_of old).superblock (state_of old).half.generation (stage_in (contents_of view old) 0) d c few fresh found.log (goes.left told d left)
  left_first told c (suc k, d, left, found) =
      holds_first most start acts n (state_of old).superblock (state_of old).half.generation (stage_in (contents_of view old) (suc k)) d c few fresh found.log
      (some_moved start acts n (state_of old).superblock (stage_in (contents_of view old) (suc k)) (stage_in (contents_of view old) (suc k)) (view (disk_of old)).image d (λ p lt. refl)
      (found.blocks (omega arith)) (goes.stages told (suc k) found.some_of))

  pub settled_crash : (tells → LeavesOnly (IsLeft (contents_of view old) (view (disk_of old))) (view (disk_of old)) (view (disk_of new))) → tells → LeavesOnly (HoldsFirst most start acts) first (view (disk_of new))
  settled_crash crash told = then (goes.crash told) (weaker (crash told) (left_first told))

  pub goes_durable : (tells → LeavesOnly (IsLeft (contents_of view old) (view (disk_of old))) (view (disk_of old)) (view (disk_of new))) → (view (disk_of old)).faults ≤ (view (disk_of new)).faults
      → IsDurable tells view old new → Goes tells view most start acts n first new
  goes_durable crash counted durable = record {
    idle = durable.idle;
    stages = λ told s le. (let none = durable.none in let e : s ≡ 0 = omega (arith, none, le) in
        subst (λ (k : ℕ). HasSome start acts n (state_of new).superblock (stage_in (contents_of view new) k) (view (disk_of new)).image) (sym e) (now told));
    left = λ told c left. subst (HasSome start acts n (state_of new).superblock (stage_in (contents_of view new) 0)) (sym (durable.settled c left)) (now told);
    last = λ told. (let none = durable.none in subst (λ (k : ℕ). HasStage (first_of start acts n) k (contents_of view new)) (sym none) (has told));
    own = own_new;
    crash = settled_crash crash;
    counted = (let a = goes.counted in omega (arith, a, counted));
  }
    where
      own_new : tells → IsOwn (first_of start acts n) (state_of new).superblock
      own_new told = subst (IsOwn (first_of start acts n)) (sym durable.superblock) (goes.own told)

      pages : tells → (p : ℕ) → p < pages_of (state_of old).superblock.blocks → stage_in (contents_of view new) 0 p ≡ stage_in (contents_of view old) (last_stage (contents_of view old)) p
      pages told p lt = let many = goes.idle.sound.many in (durable.stages told).last p (omega (arith, many, lt))

      same : tells → SameBlocks (pages_of (state_of old).superblock.blocks) (view (disk_of old)).image (view (disk_of new)).image
      same told at le = let many = goes.idle.sound.many in durable.blocks told at (omega (arith, many, le))

      has : tells → HasStage (first_of start acts n) 0 (contents_of view new)
      has told =
          subst (λ (s : Superblock). HasRecord (first_of start acts n) s.blocks (stage_in (contents_of view new) 0) (view (disk_of new)).image) (sym durable.superblock)
          (record_moved (first_of start acts n) (state_of old).superblock.blocks (stage_in (contents_of view old) (last_stage (contents_of view old))) (stage_in (contents_of view new) 0)
          (view (disk_of old)).image (view (disk_of new)).image (pages told) (same told) (goes.last told))

      now : tells → HasSome start acts n (state_of new).superblock (stage_in (contents_of view new) 0) (view (disk_of new)).image
      now told = record { count = n; few = omega arith; own = own_new told; held = has told }

-- What a read gives after a run is what such a run may leave, where all was durable before.
pub left_reads : {P : List ℕ → Type 0} (first new : View) → LeavesOnly P first new → IsSettled first → P first.image → new.may_leave new.image → P new.image
left_reads {P = P} first new run settled before reads = by (run.each first.moment new.image (omega arith) (new.counts_now first.moment new.image (let later = run.later in omega (arith, later)) reads))
  where
    by : first.left_since first.moment new.image ⊎ P new.image → P new.image
    by (inl left) = subst P (sym (settled new.image (first.only_now new.image left))) before
    by (inr has) = has

pub starts_first : {D : Type 0} (tells : Type 0) (view : D → View) (most : ℕ) (start : StoreState) (acts : List Act) (first : View) (log : Log D) → Goes tells view most start acts 0 first log → (state_of log).half.generation + 1 ≤ most
    → tells → (view (disk_of log)).may_leave (view (disk_of log)).image → HoldsFirst most start acts (view (disk_of log)).image
starts_first tells view most start acts first log goes fresh told reads =
    let image = (view (disk_of log)).image in
    holds_first most start acts 0 (state_of log).superblock (state_of log).half.generation (stage_in (contents_of view log) 0) image image (omega arith) fresh
    (stage_beside tells view log goes.idle.sound told image (λ at lt. refl)) (goes.left told image reads)
