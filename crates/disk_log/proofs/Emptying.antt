-- A log that is taken to its other half.
use Rattle.std.proofs.Common.{◌≡◌, ◌≢◌, ◌<◌, ◌≤◌, ℕ, suc, ◌+◌, List, [], ◌∷◌, length, take, drop, set, length-set, refl, sym, ◌∙◌, ap, subst, arith, get_or, replicate, Option, Some, None}
use Rattle.std.specs.Prelude.{sum, Bool, true, false, ◌==◌, if◌then◌else◌}
use Rattle.std.proofs.lemmas.Bool.Decides.{nat_tests}
use Rattle.std.proofs.lemmas.List.{take_all, take_more, take-append-drop, get_or-set_other}
use Rattle.std.proofs.lemmas.Grind.{get_or-set_at}
use Rattle.std.proofs.lemmas.List.Folds.{sum_by-replicate}
use Rattle.base_types.specs.View.{View}
use Rattle.disk_layout.specs.declared.half.Half.{Half}
use Rattle.disk_layout.specs.declared.superblock.Superblock.{Superblock}
use Rattle.disk_layout.specs.declared.entry.Entry.{Entry}
use Rattle.disk_layout.specs.declared.entry.Entry.TheVariants.{Update}
use Rattle.disk_layout.specs.Places.{in_place, pages_of, SameBlocks}
use Rattle.disk_layout.specs.Entry.{entries}
use Rattle.disk_layout.specs.Half.{IsLog}
use Rattle.disk_layout.specs.Pages.{redone, recovered, pages_in, firsts, ends_in, AreWhole, HasPages}
use Rattle.disk_layout.proofs.Entries.{held_entries}
use Rattle.disk_layout.proofs.Pages.{whole_recovered, redone-append, redone_at, firsts_all}
use Rattle.disk_log.specs.Append.{SameRest}
use Rattle.disk_log.specs.Pages.{AreKept, HoldsPages}
use Rattle.disk_log.specs.Puts.{overlaid, page_of, count_of, IsOnDisk}
use Rattle.disk_log.specs.Contents.{IsLeft}
use Rattle.disk_log.specs.State.{State, HasNoOpen, HasRoom, IsSound, forced_all}
use Rattle.disk_log.specs.Switch.{other_of, IsUsed}
use Rattle.disk_log.specs.declared.put.Put.{Put}
use Rattle.disk_log.proofs.Reading.{place_of}
use Rattle.disk_log.proofs.Fresh.{sides_of, used_ahead}
use Rattle.disk_log.proofs.Under.{place_same}

own_test : (n : ℕ) → (n == n) ≡ true
own_test n = grind (arith, nat_tests)

none_counted : (puts : List Put) → ((slot : ℕ) → count_of slot puts ≡ 0) → puts ≡ []
none_counted [] none = refl
none_counted (put ∷ puts) none =
    let here : count_of put.slot puts + 1 ≡ 0 = (λ j. if sym (own_test put.slot) j then count_of put.slot puts + 1 else count_of put.slot puts) ∙ none put.slot in
    absurd (omega arith)

all_zero : (xs : List ℕ) → ((k : ℕ) → get_or xs k 0 ≡ 0) → xs ≡ replicate (length xs) 0
all_zero [] none = refl
all_zero (x ∷ xs) none = λ j. none 0 j ∷ all_zero xs (λ k. none (suc k)) j

-- where no transaction is open
module _ (state : State) (room : HasRoom state) (none : HasNoOpen state) where
  pub no_puts : state.puts ≡ []
  no_puts = none_counted state.puts (λ slot. let e = room.enough slot in let f = none slot in omega arith)

  pub no_reservations : state.reservations ≡ replicate 2048 0
  no_reservations = all_zero state.reservations none ∙ ap (λ (n : ℕ). replicate {A = ℕ} n 0) room.slots

  pub none_reserved : state.reserved ≡ 0
  none_reserved = room.in_all ∙ ap sum no_reservations ∙ sum_by-replicate (λ (n : ℕ). n) 2048 0

pub none_put : (state forced : State) → HasRoom state → HasNoOpen state → forced ≡ forced_all state → forced.puts ≡ []
none_put state forced room none is = ap (λ (s : State). s.puts) is ∙ no_puts state room none

-- where all that ended is forced
module _ (view : View) (state : State) (disk : IsOnDisk view state.half state.entries state.forced state.puts) (all : state.forced ≡ length state.entries) (room : length state.entries ≤ 2048) where
  taken : take state.forced state.entries ≡ state.entries
  taken = take_all state.forced state.entries (omega arith)

  log_of_all : IsLog state.half state.entries view.image
  log_of_all = subst (λ (l : List Entry). IsLog state.half l view.image) taken disk.log

  pub entries_there : entries state.half view.image ≡ state.entries
  entries_there = held_entries state.half state.entries view.image room log_of_all.entries

  pub pages_redone : state.puts ≡ [] → (p : ℕ) → pages_in state.half view.image p ≡ page_of state.entries state.puts view.image p
  unfolding pages_in page_of
  pages_redone none p =
      (λ j. recovered (entries_there j) (in_place view.image) p)
      ∙ whole_recovered state.entries (in_place view.image) p (subst (λ (l : List Entry). AreWhole (λ (q : ℕ). in_place view.image q) 0 l) taken disk.whole.forced)
      ∙ ap (λ (puts : List Put). overlaid puts (λ (q : ℕ). redone state.entries (in_place view.image) q) p) (sym none)

-- a log whose pages are as before the force, with the blocks as they read, is one that a crash in a force may leave
module _ (old : View) (state : State) (disk : IsOnDisk old state.half state.entries state.forced state.puts) (reads : old.may_leave old.image) (none : state.puts ≡ []) (many : state.half.pages ≡ pages_of state.superblock.blocks) where
  pub all_firsts : (p : ℕ) → page_of state.entries state.puts old.image p ≡ redone (firsts (ends_in (drop state.forced state.entries)) (drop state.forced state.entries)) (λ (q : ℕ). redone (take state.forced state.entries) (in_place old.image) q) p
  unfolding page_of
  all_firsts p =
      let held = take state.forced state.entries in
      let news = drop state.forced state.entries in
      ap (λ (puts : List Put). overlaid puts (λ (q : ℕ). redone state.entries (in_place old.image) q) p) none
      ∙ ap (λ (l : List Entry). redone l (in_place old.image) p) (sym (take-append-drop state.forced state.entries))
      ∙ redone-append held news (in_place old.image) p
      ∙ ap (λ (l : List Entry). redone l (λ (q : ℕ). redone held (in_place old.image) q) p) (sym (firsts_all news (λ (q : ℕ). redone held (in_place old.image) q) (length held) disk.whole.ended))

  all_left : (image : List ℕ) (now : ℕ → List ℕ) → ((p : ℕ) → now p ≡ page_of state.entries state.puts old.image p) → SameBlocks state.half.pages old.image image → (c : List ℕ) → HasPages state.superblock state.half.generation now image c → IsLeft (record { state = state; image = old.image }) old c
  all_left image now same blocks c has = (
    ends_in (drop state.forced state.entries),
    old.image,
    reads,
    record {
      some_of = omega arith;
      log = record {
        half = has.half;
        log = has.log;
        follows = has.follows;
        pages = λ p lt. has.pages p lt ∙ same p ∙ all_firsts p;
        blocks = λ at le. has.blocks at le ∙ blocks at (omega (arith, many, le));
      };
      blocks = λ some at le. refl;
    },
  )

-- the pages after a force, and what a crash leaves of them from then on
module _ (tells : Type 0) (old mid : View) (pages there : List (Option (List ℕ))) (state forced : State) (sound : IsSound tells old pages state) (none : HasNoOpen state) (after : IsSound tells mid there forced)
    (is : forced ≡ forced_all state) (told : tells) (same : (p : ℕ) → page_of forced.entries forced.puts mid.image p ≡ page_of state.entries state.puts old.image p) where
  all_forced : forced.forced ≡ length forced.entries
  all_forced = ap (λ (s : State). s.forced) is ∙ ap (λ (s : State). length s.entries) (sym is)

  pub used_whole : IsUsed forced.superblock forced.half (other_of forced.half.start) forced.entries mid.image
  used_whole =
      let disk = after.steady.on_disk told in
      record {
        many = after.many;
        front = after.front told;
        ahead = used_ahead forced.half.pages _ forced.half mid.image (sides_of forced.half after.steady.placed) disk.log.used;
        held_there = entries_there mid forced disk all_forced after.steady.room;
      }

  pub pages_known : (p : ℕ) → pages_in forced.half mid.image p ≡ page_of state.entries state.puts old.image p
  pages_known p = pages_redone mid forced (after.steady.on_disk told) all_forced after.steady.room (none_put state forced sound.accounts none is) p ∙ same p

  pub then_left : old.may_leave old.image → SameBlocks state.half.pages old.image mid.image → (c : List ℕ) → HasPages forced.superblock forced.half.generation (pages_in forced.half mid.image) mid.image c → IsLeft (record { state = state; image = old.image }) old c
  then_left reads blocks c has =
      all_left old state (sound.steady.on_disk told) reads (no_puts state sound.accounts none) sound.many mid.image (pages_in forced.half mid.image) pages_known blocks c
      (subst (λ (s : State). HasPages s.superblock s.half.generation (pages_in forced.half mid.image) mid.image c) is has)

page_before : (state : State) (view : View) → state.puts ≡ [] → (p : ℕ) → page_of state.entries state.puts view.image p ≡ redone state.entries (in_place view.image) p
unfolding page_of
page_before state view none p = ap (λ (puts : List Put). overlaid puts (λ (q : ℕ). redone state.entries (in_place view.image) q) p) none

-- pages that are kept as the entries left them stand in their places
pub keeps_holding : (pages : List (Option (List ℕ))) (state : State) (view : View) (image : List ℕ) → state.puts ≡ [] → length pages ≡ state.half.pages
    → ((p : ℕ) → p < state.half.pages → in_place image p ≡ page_of state.entries state.puts view.image p) → AreKept pages (redone state.entries (in_place view.image)) → HoldsPages pages [] image
keeps_holding pages state view image none size placed kept p bytes is = kept p bytes is ∙ sym (page_before state view none p) ∙ sym (placed p (let e = place_of pages p bytes is in omega arith))

-- where all entries are forced the pages are kept as all of them left them
pub kept_all : (tells : Type 0) (view : View) (pages : List (Option (List ℕ))) (state : State) → IsSound tells view pages state → state.forced ≡ length state.entries → tells → AreKept pages (redone state.entries (in_place view.image))
kept_all tells view pages state sound all told =
    subst (λ (held : List Entry). AreKept pages (redone held (in_place view.image))) (take_all state.forced state.entries (omega (arith, all))) (sound.kept told)

-- so they are once those behind the forced ones were kept, and these were forced, too
pub kept_forced : (pages : List (Option (List ℕ))) (entries news : List Entry) (forced : ℕ) (old new : List ℕ) → news ≡ drop forced entries → SameRest old new → AreKept pages (redone news (redone (take forced entries) (in_place old)))
    → HoldsPages pages (take (length entries) entries) new
kept_forced pages entries news forced old new is same kept p bytes there =
    kept p bytes there
    ∙ ap (λ (l : List Entry). redone l (λ (q : ℕ). redone (take forced entries) (in_place old) q) p) is
    ∙ sym (redone-append (take forced entries) (drop forced entries) (in_place old) p)
    ∙ ap (λ (l : List Entry). redone l (in_place old) p) (take-append-drop forced entries)
    ∙ redone_at entries (λ (q : ℕ). in_place old q) (λ (q : ℕ). in_place new q) p (sym (place_same old new same p))
    ∙ ap (λ (l : List Entry). redone l (in_place new) p) (sym (take_all (length entries) entries (omega arith)))

-- one entry more
pub keep_more : (pages : List (Option (List ℕ))) (entries : List Entry) (i : ℕ) (default : Entry) (known : ℕ → List ℕ) → i < length entries
    → AreKept pages (redone (get_or entries i default ∷ []) (redone (take i entries) known)) → AreKept pages (redone (take (i + 1) entries) known)
keep_more pages entries i default known lt kept p bytes is =
    kept p bytes is ∙ sym (redone-append (take i entries) (get_or entries i default ∷ []) known p) ∙ ap (λ (l : List Entry). redone l known p) (sym (take_more entries i default lt))

-- a page that is kept anew
pub kept_new : (pages : List (Option (List ℕ))) (page t : ℕ) (old new : List ℕ) (known : ℕ → List ℕ) → AreKept pages known → AreKept (set pages page (Some new)) (redone (Update t page old new ∷ []) known)
kept_new pages page t old new known kept p bytes is = by (page == p) refl
  where
    by : (here : Bool) → (page == p) ≡ here → bytes ≡ (if page == p then new else known p)
    by true e =
        let same : p ≡ page = grind (arith, nat_tests, e) in
        let lt : p < length pages = let f = place_of (set pages page (Some new)) p bytes is in let g = length-set pages page (Some new) in omega arith in
        let there : Some new ≡ Some bytes = sym (get_or-set_at pages page p (Some new) None same (omega arith)) ∙ is in
        let equal : new ≡ bytes = cc in
        sym equal ∙ (λ j. if sym e j then new else known p)
    by false e =
        let apart : p ≢ page = λ f. absurd (grind (arith, nat_tests, e, f)) in
        kept p bytes (sym (get_or-set_other pages page p (Some new) None apart) ∙ is) ∙ (λ j. if sym e j then new else known p)

-- without entries a page is what stands in its place
pub page_emptied : (image : List ℕ) (p : ℕ) → page_of [] [] image p ≡ in_place image p
unfolding page_of
page_emptied image p = refl

-- a half that is used has the entries that stand in it
pub used_by : {superblock : Superblock} {half : Half} {other : ℕ} {held : List Entry} {image : List ℕ} → IsUsed superblock half other held image → IsUsed superblock half other (entries half image) image
used_by used = record { many = used.many; front = used.front; ahead = used.ahead; held_there = refl }
