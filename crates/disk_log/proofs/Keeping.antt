-- What the calls of a log keep of its stages.
use Rattle.std.proofs.Common.{◌≡◌, ◌<◌, ◌≤◌, ℕ, ◌+◌, List, [], ◌∷◌, ◌++◌, length, take, drop, refl, sym, ◌∙◌, ap, subst, arith}
use Rattle.std.specs.Prelude.{Bool, true, false, ◌==◌, ◌&&◌, ◌||◌, if◌then◌else◌, Result, Ok, Err, OnOk, OnErr, Option}
use Rattle.std.proofs.lemmas.Bool.Decides.{nat_tests}
use Rattle.std.proofs.lemmas.List.{take-append-le, drop-append-le, take_all, drop_all, take-append-drop}
use Rattle.base_types.specs.View.{View}
use Rattle.base_types.specs.Crash.{IsQuiet}
use Rattle.disk_layout.specs.declared.entry.Entry.{Entry}
use Rattle.disk_layout.specs.declared.entry.Entry.TheVariants.{Update, End}
use Rattle.disk_layout.specs.declared.half.Half.{Half}
use Rattle.disk_layout.specs.declared.superblock.Superblock.{Superblock}
use Rattle.disk_layout.specs.Places.{in_place, pages_of, SameButBlocks}
use Rattle.disk_layout.specs.Pages.{redone, firsts, ends_in, stage, HasPages, AreWhole}
use Rattle.disk_layout.proofs.Left.{page_same}
use Rattle.disk_layout.proofs.Pages.{redone-append, redone_at, firsts_left, firsts_all}
use Rattle.disk_log.specs.Append.{SameRest}
use Rattle.disk_log.specs.Begin.{IsBegun}
use Rattle.disk_log.specs.Contents.{Contents, contents_of, stage_in, last_stage, Keeps, AppendsStage, KeepsLast}
use Rattle.disk_log.specs.Log.{disk_of, state_of, IsSoundLog}
use Rattle.disk_log.specs.Puts.{overlaid, page_of, IsAbsent, AreApart, updates_of, run_of, is_put}
use Rattle.disk_log.specs.State.{State, with_put, ended, forced_all, fresh_state, IsSound}
use Rattle.disk_log.specs.declared.fault.LogFault.{LogFault}
use Rattle.disk_log.specs.declared.fault.LogFault.TheVariants.{Failed, Full, NotALog, Memory}
use Rattle.disk_log.specs.declared.kept.Tx.{Tx}
use Rattle.disk_log.specs.declared.log.Log.{Log}
use Rattle.disk_log.specs.declared.put.Put.{Put}
use Rattle.disk_log.proofs.Calls.{sound_left}
use Rattle.disk_log.proofs.Under.{place_same}

-- the log in a stage, by the words of another
stage_as : (c : List ℕ) (old new : Superblock) (now before : ℕ) (pages known : ℕ → List ℕ) → new ≡ old → now ≡ before → ((p : ℕ) → p < pages_of old.blocks → pages p ≡ known p) → HasPages new now pages c c → HasPages old before known c c
stage_as c old new now before pages known is generation same has =
    let at = subst (λ (s : Superblock). HasPages s now pages c c) is has in
    let there = subst (λ (g : ℕ). HasPages old g pages c c) generation at in
    record { half = there.half; log = there.log; follows = there.follows; pages = λ p lt. there.pages p lt ∙ same p lt; blocks = λ k from. refl }

-- a log is kept where its stages are
pub keeps_from : {D : Type 0} (tells : Type 0) (view : D → View) (n : ℕ) (old new : Log D) → IsSoundLog tells view new → (state_of new).superblock ≡ (state_of old).superblock → (state_of new).half ≡ (state_of old).half
    → (view (disk_of old)).faults ≤ (view (disk_of new)).faults → last_stage (contents_of view new) ≡ last_stage (contents_of view old) + n
    → (tells → (k p : ℕ) → k ≤ last_stage (contents_of view old) → p < (state_of old).half.pages → stage_in (contents_of view new) k p ≡ stage_in (contents_of view old) k p) → Keeps tells view n old new
keeps_from tells view n old new sound superblock half counted last stages = record {
  sound = sound;
  superblock = superblock;
  half = half;
  counted = counted;
  last = last;
  stages = stages;
  crash = λ told c left.
      let size : (state_of old).half.pages ≡ pages_of (state_of old).superblock.blocks =
      ap (λ (h : Half). h.pages) (sym half) ∙ sound.many ∙ ap (λ (s : Superblock). pages_of s.blocks) superblock in
      stage_as c _ _ _ _ (stage_in (contents_of view new) 0) (stage_in (contents_of view old) 0) superblock (ap (λ (h : Half). h.generation) half) (λ p lt. stages told 0 p (omega arith) (omega (arith, size, lt)))
      (sound_left tells (view (disk_of new)) _ (state_of new) sound told c left);
}

-- the same superblock, half and entries
pub record SameEnded (old new : State) : Type 0 where
  pub superblock : new.superblock ≡ old.superblock
  pub half : new.half ≡ old.half
  pub entries : new.entries ≡ old.entries
  pub forced : new.forced ≡ old.forced

pub same_ended : (old new : State) → new ≡ old → SameEnded old new
same_ended old new is = record { superblock = ap (λ (s : State). s.superblock) is; half = ap (λ (s : State). s.half) is; entries = ap (λ (s : State). s.entries) is; forced = ap (λ (s : State). s.forced) is }

-- a call that changes no byte, and ends nothing
pub keeps_same : {D : Type 0} (tells : Type 0) (view : D → View) (old new : Log D) → IsSoundLog tells view new → SameEnded (state_of old) (state_of new) → IsQuiet (view (disk_of old)) (view (disk_of new))
    → (view (disk_of old)).faults ≤ (view (disk_of new)).faults → Keeps tells view 0 old new
keeps_same tells view old new sound same quiet counted =
    keeps_from tells view 0 old new sound same.superblock same.half counted ((λ j. ends_in (drop (same.forced j) (same.entries j))) ∙ omega arith)
    (λ told k p le lt j. stage (take (same.forced j) (same.entries j)) (drop (same.forced j) (same.entries j)) (quiet.image j) k p)

pub same_as : (old new other : State) → SameEnded old other → new ≡ other → SameEnded old new
same_as old new other same is = subst (λ (s : State). SameEnded old s) (sym is) same

pub begun_same : (result : Result Tx LogFault) (needed : ℕ) (old new : State) → IsBegun needed result old new → SameEnded old new
begun_same (Ok tx) needed old new begun = same_as old new _ (record { superblock = refl; half = refl; entries = refl; forced = refl }) begun.3
begun_same (Err (Full free wanted)) needed old new begun = same_ended old new begun.3
begun_same (Err Memory) needed old new begun = same_ended old new begun
begun_same (Err Failed) needed old new begun = absurd begun
begun_same (Err (NotALog place)) needed old new begun = absurd begun

-- a page that is put leaves the entries as they are
pub put_same : {T E : Type 0} (result : Result T E) (old new : State) (put : Put) → OnOk result (new ≡ with_put old put) → OnErr result (new ≡ old) → SameEnded old new
put_same (Ok x) old new put ok err = same_as old new (with_put old put) (record { superblock = refl; half = refl; entries = refl; forced = refl }) ok
put_same (Err e) old new put ok err = same_ended old new err

-- the stages of a log of whole transactions
module _ (image : List ℕ) (state : State) (whole : AreWhole (λ (q : ℕ). redone (take state.forced state.entries) (in_place image) q) (length (take state.forced state.entries)) (drop state.forced state.entries)) where
  abbrev told : Contents
  told = record { state = state; image = image }

  -- the last stage is the pages under all entries
  pub last_redone : (p : ℕ) → stage_in told (last_stage told) p ≡ redone state.entries (in_place image) p
  last_redone p =
      let held = take state.forced state.entries in
      let news = drop state.forced state.entries in
      ap (λ (l : List Entry). redone l (λ (q : ℕ). redone held (in_place image) q) p) (firsts_all news (λ (q : ℕ). redone held (in_place image) q) (length held) whole)
      ∙ sym (redone-append held news (in_place image) p)
      ∙ ap (λ (l : List Entry). redone l (in_place image) p) (take-append-drop state.forced state.entries)

-- a page that no put has is not one of a transaction's
absent_put : (slot p : ℕ) (puts : List Put) → IsAbsent p puts → is_put slot p puts ≡ false
absent_put slot p [] absent = refl
absent_put slot p (put ∷ puts) absent = (λ j. ((put.slot == slot) && other j) || is_put slot p puts) ∙ (λ j. no (put.slot == slot) j || is_put slot p puts) ∙ absent_put slot p puts absent.1
  where
    other : (put.page == p) ≡ false
    other = let e = absent.0 in grind (arith, nat_tests)

    no : (b : Bool) → (b && false) ≡ false
    no true = refl
    no false = refl

abbrev set_page : ℕ → List ℕ → (ℕ → List ℕ) → ℕ → List ℕ
set_page page new pages q = if page == q then new else pages q

same_page : (page p : ℕ) → (page == p) ≡ true → p ≡ page
same_page page p e = grind (arith, nat_tests, e)

overlaid_over : (puts : List Put) (a b : ℕ → List ℕ) (p : ℕ) → a p ≡ b p → overlaid puts a p ≡ overlaid puts b p
overlaid_over [] a b p same = same
overlaid_over (put ∷ puts) a b p same = λ j. if put.page == p then put.new else overlaid_over puts a b p same j

-- the entries of a transaction leave its pages as it put them
run_pages : (n slot name : ℕ) (puts : List Put) (pages : ℕ → List ℕ) (p : ℕ) → AreApart n puts
    → redone (updates_of slot name puts) pages p ≡ (if is_put slot p puts then overlaid puts pages p else pages p)
run_pages n slot name [] pages p apart = refl
run_pages n slot name (put ∷ puts) pages p apart = by (put.slot == slot) (put.page == p) refl (run_pages n slot name puts (set_page put.page put.new pages) p apart.2) (run_pages n slot name puts pages p apart.2)
  where
    absent : (put.page == p) ≡ true → is_put slot p puts ≡ false
    absent e = absent_put slot p puts (subst (λ (q : ℕ). IsAbsent q puts) (sym (same_page put.page p e)) apart.1)

    by : (mine here : Bool) → (put.page == p) ≡ here
        → redone (updates_of slot name puts) (set_page put.page put.new pages) p ≡ (if is_put slot p puts then overlaid puts (set_page put.page put.new pages) p else set_page put.page put.new pages p)
        → redone (updates_of slot name puts) pages p ≡ (if is_put slot p puts then overlaid puts pages p else pages p)
        → redone (if mine then Update name put.page put.old put.new ∷ updates_of slot name puts else updates_of slot name puts) pages p
        ≡ (if (mine && here) || is_put slot p puts then (if here then put.new else overlaid puts pages p) else pages p)
    by true true e moved stays =
        moved ∙ (λ j. if absent e j then overlaid puts (set_page put.page put.new pages) p else set_page put.page put.new pages p) ∙ (λ j. if e j then put.new else pages p)
    by true false e moved stays =
        let other : set_page put.page put.new pages p ≡ pages p = λ j. if e j then put.new else pages p in
        moved ∙ (λ j. if is_put slot p puts then overlaid_over puts (set_page put.page put.new pages) pages p other j else other j)
    by false true e moved stays = stays ∙ (λ j. if absent e j then overlaid puts pages p else pages p) ∙ (λ j. if sym (absent e) j then put.new else pages p)
    by false false e moved stays = stays

ends_append : (xs ys : List Entry) → ends_in (xs ++ ys) ≡ ends_in xs + ends_in ys
ends_append [] ys = omega arith
ends_append (Update t page old new ∷ xs) ys = ends_append xs ys
ends_append (End t ∷ xs) ys = let e = ends_append xs ys in omega (arith, e)

ends_run : (slot name : ℕ) (puts : List Put) → ends_in (run_of slot name puts) ≡ 1
ends_run slot name [] = refl
ends_run slot name (put ∷ puts) = by (put.slot == slot) (ends_run slot name puts)
  where
    by : (mine : Bool) → ends_in (run_of slot name puts) ≡ 1 → ends_in ((if mine then Update name put.page put.old put.new ∷ updates_of slot name puts else updates_of slot name puts) ++ End name ∷ []) ≡ 1
    by true rest = rest
    by false rest = rest

-- a transaction that ended is one more stage
module _ (state : State) (slot : ℕ) (forced_le : state.forced ≤ length state.entries) where
  abbrev run : List Entry
  run = run_of slot (length state.entries) state.puts

  abbrev news : List Entry
  news = drop state.forced state.entries

  taken : take state.forced (state.entries ++ run) ≡ take state.forced state.entries
  taken = take-append-le state.forced state.entries run forced_le

  dropped : drop state.forced (state.entries ++ run) ≡ news ++ run
  dropped = drop-append-le state.forced state.entries run forced_le

  pub one_ended : ends_in (drop state.forced (state.entries ++ run)) ≡ ends_in news + 1
  one_ended =
      let e = ap ends_in dropped in
      let f = ends_append news run in
      let h = ends_run slot (length state.entries) state.puts in
      omega (arith, e, f, h)

  pub earlier_stages : (image : List ℕ) (k p : ℕ) → k ≤ ends_in news → stage (take state.forced (state.entries ++ run)) (drop state.forced (state.entries ++ run)) image k p ≡ stage (take state.forced state.entries) news image k p
  earlier_stages image k p le = (λ j. stage (taken j) (dropped j) image k p) ∙ ap (λ (l : List Entry). redone l (λ (q : ℕ). redone (take state.forced state.entries) (in_place image) q) p) (firsts_left k news run le)

  pub later_stage : (image : List ℕ) (n p : ℕ) → AreApart n state.puts → redone (state.entries ++ run) (in_place image) p ≡ (if is_put slot p state.puts then page_of state.entries state.puts image p else redone state.entries (in_place image) p)
  unfolding page_of
  later_stage image n p apart =
      redone-append state.entries run (in_place image) p
      ∙ redone-append (updates_of slot (length state.entries) state.puts) (End (length state.entries) ∷ []) (λ (q : ℕ). redone state.entries (in_place image) q) p
      ∙ run_pages n slot (length state.entries) state.puts (λ (q : ℕ). redone state.entries (in_place image) q) p apart

pub ended_keeps : {D : Type 0} (tells : Type 0) (view : D → View) (old new : Log D) (slot : ℕ) → IsSoundLog tells view old → IsSoundLog tells view new → state_of new ≡ ended (state_of old) slot → disk_of new ≡ disk_of old → Keeps tells view 1 old new
ended_keeps tells view old new slot before sound is disk =
    let state = state_of old in
    keeps_from tells view 1 old new sound (ap (λ (s : State). s.superblock) is) (ap (λ (s : State). s.half) is)
    (let e = ap (λ d. (view d).faults) disk in omega (arith, e))
    ((λ j. ends_in (drop (is j).forced (is j).entries)) ∙ one_ended state slot before.steady.forced_le)
    (λ told k p le lt. (λ j. stage (take (is j).forced (is j).entries) (drop (is j).forced (is j).entries) (view (disk j)).image k p) ∙ earlier_stages state slot before.steady.forced_le (view (disk_of old)).image k p le)

pub ended_appends : (tells : Type 0) (view : View) (pages there : List (Option (List ℕ))) (state next : State) (slot : ℕ) → IsSound tells view pages state → IsSound tells view there next → next ≡ ended state slot → tells
    → AppendsStage slot (record { state = state; image = view.image }) (record { state = next; image = view.image })
ended_appends tells view pages there state next slot before sound is told p =
    last_redone view.image next (sound.steady.on_disk told).whole.ended p
    ∙ (λ j. redone (is j).entries (in_place view.image) p)
    ∙ later_stage state slot before.steady.forced_le view.image state.half.pages p before.steady.apart
    ∙ (λ j. if is_put slot p state.puts then page_of state.entries state.puts view.image p else sym (last_redone view.image state (before.steady.on_disk told).whole.ended p) j)

-- a force keeps the last stage alone
pub forced_last : (old new : List ℕ) (state : State) → AreWhole (λ (q : ℕ). redone (take state.forced state.entries) (in_place old) q) (length (take state.forced state.entries)) (drop state.forced state.entries) → SameRest old new
    → KeepsLast (record { state = state; image = old }) (record { state = forced_all state; image = new })
unfolding firsts
forced_last old new state whole same = record {
  none = ap ends_in (drop_all (length state.entries) state.entries (omega arith));
  last = λ p lt.
      ap (λ (l : List Entry). redone l (in_place new) p) (take_all (length state.entries) state.entries (omega arith))
      ∙ (λ j. redone state.entries (λ (q : ℕ). place_same old new same q j) p)
      ∙ sym (last_redone old state whole p);
}

-- a block that is written leaves the stages
pub block_keeps : {D : Type 0} (tells : Type 0) (view : D → View) (old new : Log D) → IsSoundLog tells view new → state_of new ≡ state_of old → (view (disk_of old)).faults ≤ (view (disk_of new)).faults
    → (tells → SameButBlocks (state_of old).half.pages (view (disk_of old)).image (view (disk_of new)).image) → Keeps tells view 0 old new
block_keeps tells view old new sound is counted same =
    keeps_from tells view 0 old new sound (ap (λ (s : State). s.superblock) is) (ap (λ (s : State). s.half) is) counted ((λ j. ends_in (drop (is j).forced (is j).entries)) ∙ omega arith)
    (λ told k p le lt.
    let state = state_of old in
    let before = (view (disk_of old)).image in
    let after = (view (disk_of new)).image in
    let held = take state.forced state.entries in
    let here : in_place after p ≡ in_place before p = page_same state.half.pages p before after lt (λ k from below. same told k below) in
    (λ j. stage (take (is j).forced (is j).entries) (drop (is j).forced (is j).entries) after k p)
    ∙ redone_at (firsts k (drop state.forced state.entries)) (λ (q : ℕ). redone held (in_place after) q) (λ (q : ℕ). redone held (in_place before) q) p (redone_at held (in_place after) (in_place before) p here))

-- a log that was emptied has one stage
pub emptied_stages : (old new : List ℕ) (state next : State) (superblock : Superblock) (half : Half) → next ≡ fresh_state superblock half
    → ((p : ℕ) → p < state.half.pages → in_place new p ≡ stage_in (record { state = state; image = old }) (last_stage (record { state = state; image = old })) p) → KeepsLast (record { state = state; image = old }) (record { state = next; image = new })
unfolding firsts
emptied_stages old new state next superblock half is placed = record {
  none = ap (λ (s : State). ends_in (drop s.forced s.entries)) is;
  last = λ p lt. ap (λ (s : State). stage (take s.forced s.entries) (drop s.forced s.entries) new 0 p) is ∙ placed p lt;
}
