-- A transaction that ends.
use Rattle.disk_layout.specs.Places.{in_place}
use Rattle.std.proofs.Common.{◌≡◌, ◌≢◌, ◌<◌, ◌≤◌, ◌⊎◌, ◌+◌, ℕ, suc, List, [], ◌∷◌, ◌++◌, length, take, drop, refl, sym, ◌∙◌, ap, subst, inl, inr, arith, get_or, length-append, drop-cons}
use Rattle.std.specs.Prelude.{Bool, true, false, not, ◌==◌, if◌then◌else◌, ◌-◌, zero, filter}
use Rattle.std.proofs.lemmas.Bool.{cases_lt}
use Rattle.std.proofs.lemmas.Bool.Decides.{nat_tests}
use Rattle.std.proofs.lemmas.List.{take-append-drop, take-append-le, drop-append-le, length-take, length-drop, append_assoc, get_or_append_left, get_or-append-add}
use Rattle.base_types.specs.View.{View}
use Rattle.disk_layout.specs.declared.entry.Entry.{Entry}
use Rattle.disk_layout.specs.declared.entry.Entry.TheVariants.{Update, End}
use Rattle.disk_layout.specs.declared.half.Half.{Half}
use Rattle.disk_layout.specs.Entry.{Fits}
use Rattle.disk_layout.specs.Half.{IsLog}
use Rattle.disk_layout.specs.Pages.{redone, AreWhole, AreWholeFrom}
use Rattle.disk_layout.proofs.Pages.{redone-append, whole-append}
use Rattle.disk_log.specs.Append.{AllFit}
use Rattle.disk_log.specs.Puts.{overlaid, page_of, IsAbsent, ArePuts, AreApart, IsOnDisk, IsSteady, updates_of, run_of, without}
use Rattle.disk_log.proofs.Under.{overlaid_at}
use Rattle.disk_log.specs.declared.put.Put.{Put}

abbrev set_page : ℕ → List ℕ → (ℕ → List ℕ) → ℕ → List ℕ
set_page page new pages q = if page == q then new else pages q

set_here : (page p : ℕ) (new : List ℕ) (pages : ℕ → List ℕ) → (page == p) ≡ true → set_page page new pages p ≡ new
set_here page p new pages is = λ j. if is j then new else pages p

set_other : (page p : ℕ) (new : List ℕ) (pages : ℕ → List ℕ) → (page == p) ≡ false → set_page page new pages p ≡ pages p
set_other page p new pages is = λ j. if is j then new else pages p

apart_test : (a b : ℕ) → a ≢ b → (a == b) ≡ false
apart_test a b other = grind (arith, nat_tests)

same_test : (a b : ℕ) → (a == b) ≡ true → a ≡ b
same_test a b is = grind (arith, nat_tests)

overlaid_absent : (puts : List Put) (pages : ℕ → List ℕ) (p : ℕ) → IsAbsent p puts → overlaid puts pages p ≡ pages p
overlaid_absent [] pages p absent = refl
overlaid_absent (put ∷ puts) pages p absent = (λ j. if apart_test put.page p absent.0 j then put.new else overlaid puts pages p) ∙ overlaid_absent puts pages p absent.1

-- what a transaction's updates make of a page that it didn't put
untouched : (slot name : ℕ) (puts : List Put) (pages : ℕ → List ℕ) (p : ℕ) → IsAbsent p puts → redone (updates_of slot name puts) pages p ≡ pages p
untouched slot name [] pages p absent = refl
untouched slot name (put ∷ puts) pages p absent = by (put.slot == slot) (untouched slot name puts (set_page put.page put.new pages) p absent.1 ∙ set_other put.page p put.new pages (apart_test put.page p absent.0)) (untouched slot name puts pages p absent.1)
  where
    by : (b : Bool) → redone (updates_of slot name puts) (set_page put.page put.new pages) p ≡ pages p → redone (updates_of slot name puts) pages p ≡ pages p
        → redone (if b then Update name put.page put.old put.new ∷ updates_of slot name puts else updates_of slot name puts) pages p ≡ pages p
    by true mine other = mine
    by false mine other = other

-- a page now is the same once a transaction has ended
overlaid_ended : (n slot name : ℕ) (puts : List Put) (pages : ℕ → List ℕ) (p : ℕ) → AreApart n puts → overlaid (without slot puts) (λ (q : ℕ). redone (updates_of slot name puts) pages q) p ≡ overlaid puts pages p
overlaid_ended n slot name [] pages p apart = refl
overlaid_ended n slot name (put ∷ puts) pages p apart =
    by (put.slot == slot) (put.page == p) refl (overlaid_ended n slot name puts (set_page put.page put.new pages) p apart.2) (overlaid_ended n slot name puts pages p apart.2)
  where
    by : (mine here : Bool) → (put.page == p) ≡ here → overlaid (without slot puts) (λ (q : ℕ). redone (updates_of slot name puts) (set_page put.page put.new pages) q) p ≡ overlaid puts (set_page put.page put.new pages) p
        → overlaid (without slot puts) (λ (q : ℕ). redone (updates_of slot name puts) pages q) p ≡ overlaid puts pages p
        → overlaid (if mine then without slot puts else put ∷ without slot puts) (λ (q : ℕ). redone (if mine then Update name put.page put.old put.new ∷ updates_of slot name puts else updates_of slot name puts) pages q) p
        ≡ (if put.page == p then put.new else overlaid puts pages p)
    by true true is moved stays =
        let absent : IsAbsent p puts = subst (λ (q : ℕ). IsAbsent q puts) (same_test put.page p is) apart.1 in
        moved ∙ overlaid_absent puts (set_page put.page put.new pages) p absent ∙ set_here put.page p put.new pages is ∙ (λ j. if sym is j then put.new else overlaid puts pages p)
    by true false is moved stays = moved ∙ overlaid_at puts (set_page put.page put.new pages) pages p (set_other put.page p put.new pages is) ∙ (λ j. if sym is j then put.new else overlaid puts pages p)
    by false here is moved stays = λ j. if put.page == p then put.new else stays j

abbrev DoAgree : (a b : ℕ → List ℕ) → List Put → Type 0
DoAgree a b [] = Unit {0}
DoAgree a b (put ∷ puts) = (a put.page ≡ b put.page) × DoAgree a b puts

agree_set : (page : ℕ) (new : List ℕ) (a b : ℕ → List ℕ) (puts : List Put) → IsAbsent page puts → DoAgree a b puts → DoAgree (set_page page new a) b puts
agree_set page new a b [] absent agree = tt
agree_set page new a b (put ∷ puts) absent agree =
    (set_other page put.page new a (apart_test page put.page (λ e. absent.0 (sym e))) ∙ agree.0, agree_set page new a b puts absent.1 agree.1)

agree_same : (a : ℕ → List ℕ) (puts : List Put) → DoAgree a a puts
agree_same a [] = tt
agree_same a (put ∷ puts) = (refl, agree_same a puts)

-- the puts of the others hold the old values still
others_over : (n slot name : ℕ) (puts : List Put) (now pages : ℕ → List ℕ) → AreApart n puts → DoAgree now pages puts → ArePuts pages puts → ArePuts (λ (q : ℕ). redone (updates_of slot name puts) now q) (without slot puts)
others_over n slot name [] now pages apart agree over = tt
others_over n slot name (put ∷ puts) now pages apart agree over =
    by (put.slot == slot) (others_over n slot name puts (set_page put.page put.new now) pages apart.2 (agree_set put.page put.new now pages puts apart.1 agree.1) over.1) (others_over n slot name puts now pages apart.2 agree.1 over.1)
  where
    by : (mine : Bool) → ArePuts (λ (q : ℕ). redone (updates_of slot name puts) (set_page put.page put.new now) q) (without slot puts) → ArePuts (λ (q : ℕ). redone (updates_of slot name puts) now q) (without slot puts)
        → ArePuts (λ (q : ℕ). redone (if mine then Update name put.page put.old put.new ∷ updates_of slot name puts else updates_of slot name puts) now q) (if mine then without slot puts else put ∷ without slot puts)
    by true moved stays = moved
    by false moved stays = (over.0 ∙ sym agree.0 ∙ sym (untouched slot name puts now put.page apart.1), stays)

absent_without : (slot p : ℕ) (puts : List Put) → IsAbsent p puts → IsAbsent p (without slot puts)
absent_without slot p [] absent = tt
absent_without slot p (put ∷ puts) absent = by (put.slot == slot) (absent_without slot p puts absent.1)
  where
    by : (mine : Bool) → IsAbsent p (without slot puts) → IsAbsent p (if mine then without slot puts else put ∷ without slot puts)
    by true rest = rest
    by false rest = (absent.0, rest)

pub apart_without : (n slot : ℕ) (puts : List Put) → AreApart n puts → AreApart n (without slot puts)
apart_without n slot [] apart = tt
apart_without n slot (put ∷ puts) apart = by (put.slot == slot) (apart_without n slot puts apart.2)
  where
    by : (mine : Bool) → AreApart n (without slot puts) → AreApart n (if mine then without slot puts else put ∷ without slot puts)
    by true rest = rest
    by false rest = (apart.0, absent_without slot put.page puts apart.1, rest)

-- a transaction's entries are whole
run_whole : (slot at : ℕ) (puts : List Put) (pages now : ℕ → List ℕ) (m : ℕ) → ArePuts pages puts → AreWholeFrom pages now at m (run_of slot at puts)
run_whole slot at [] pages now m over = (refl, refl)
run_whole slot at (put ∷ puts) pages now m over = by (put.slot == slot) (run_whole slot at puts pages (set_page put.page put.new now) (suc m) over.1) (run_whole slot at puts pages now m over.1)
  where
    by : (mine : Bool) → AreWholeFrom pages (set_page put.page put.new now) at (suc m) (run_of slot at puts) → AreWholeFrom pages now at m (run_of slot at puts)
        → AreWholeFrom pages now at m ((if mine then Update at put.page put.old put.new ∷ updates_of slot at puts else updates_of slot at puts) ++ End at ∷ [])
    by true moved stays = (refl, over.0, moved)
    by false moved stays = stays

run_redone : (slot name : ℕ) (puts : List Put) (pages : ℕ → List ℕ) (q : ℕ) → redone (run_of slot name puts) pages q ≡ redone (updates_of slot name puts) pages q
run_redone slot name puts pages q = redone-append (updates_of slot name puts) (End name ∷ []) pages q

module _ (entries : List Entry) (slot n : ℕ) (puts : List Put) (image : List ℕ) (apart : AreApart n puts) where
  after_run : (q : ℕ) → redone (entries ++ run_of slot (length entries) puts) (in_place image) q ≡ redone (updates_of slot (length entries) puts) (λ (r : ℕ). redone entries (in_place image) r) q
  after_run q = redone-append entries (run_of slot (length entries) puts) (in_place image) q ∙ run_redone slot (length entries) puts (λ (r : ℕ). redone entries (in_place image) r) q

  pub page_ended : (p : ℕ) → page_of (entries ++ run_of slot (length entries) puts) (without slot puts) image p ≡ page_of entries puts image p
  unfolding page_of
  page_ended p = (λ j. overlaid (without slot puts) (λ (q : ℕ). after_run q j) p) ∙ overlaid_ended n slot (length entries) puts (λ (r : ℕ). redone entries (in_place image) r) p apart

pub on_disk_ended : (view : View) (half : Half) (entries : List Entry) (forced slot : ℕ) (puts : List Put) → forced ≤ length entries → AreApart half.pages puts → IsOnDisk view half entries forced puts
    → IsOnDisk view half (entries ++ run_of slot (length entries) puts) forced (without slot puts)
on_disk_ended view half entries forced slot puts le apart on_disk =
    let run = run_of slot (length entries) puts in
    let B : ℕ → List ℕ = λ (q : ℕ). in_place view.image q in
    let taken : take forced (entries ++ run) ≡ take forced entries = take-append-le forced entries run le in
    let dropped : drop forced (entries ++ run) ≡ drop forced entries ++ run = drop-append-le forced entries run le in
    let same : (q : ℕ) → redone entries (in_place view.image) q ≡ redone (drop forced entries) (λ (r : ℕ). redone (take forced entries) (in_place view.image) r) q =
    λ q. (λ j. redone (sym (take-append-drop forced entries) j) (in_place view.image) q) ∙ redone-append (take forced entries) (drop forced entries) (in_place view.image) q in
    let whole : AreWhole (λ (q : ℕ). redone entries (in_place view.image) q) (length entries) run =
    run_whole slot (length entries) puts (λ (q : ℕ). redone entries (in_place view.image) q) (λ (q : ℕ). redone entries (in_place view.image) q) (length entries) on_disk.puts_over in
    let size : length entries ≡ length (take forced entries) + length (drop forced entries) = let e = length-take forced entries in let f = length-drop forced entries in omega arith in
    let placed = subst (λ (at : ℕ). AreWhole (λ (q : ℕ). redone entries (in_place view.image) q) at run) size whole in
    let behind = subst (λ (pages : ℕ → List ℕ). AreWhole pages (length (take forced entries) + length (drop forced entries)) run) (λ j q. same q j) placed in
    record {
      log = subst (λ (l : List Entry). IsLog half l view.image) (sym taken) on_disk.log;
      whole = record {
        forced = subst (λ (l : List Entry). AreWhole (λ (q : ℕ). in_place view.image q) 0 l) (sym taken) on_disk.whole.forced;
        ended = subst (λ (l : List Entry). AreWhole (λ (q : ℕ). redone l (in_place view.image) q) (length l) (drop forced (entries ++ run))) (sym taken)
            (subst (λ (l : List Entry). AreWhole (λ (q : ℕ). redone (take forced entries) (in_place view.image) q) (length (take forced entries)) l) (sym dropped)
            (whole-append (drop forced entries) run (λ (q : ℕ). redone (take forced entries) (in_place view.image) q) (length (take forced entries)) on_disk.whole.ended behind));
      };
      puts_over =
          subst (λ (pages : ℕ → List ℕ). ArePuts pages (without slot puts)) (λ j q. sym (after_run entries slot half.pages puts view.image apart q) j)
          (others_over half.pages slot (length entries) puts (λ (r : ℕ). redone entries (in_place view.image) r) (λ (r : ℕ). redone entries (in_place view.image) r) apart (agree_same _ puts) on_disk.puts_over);
      settled = on_disk.settled;
    }

one_update : (slot name : ℕ) (put : Put) (puts : List Put) → updates_of slot name (put ∷ puts) ≡ updates_of slot name (put ∷ []) ++ updates_of slot name puts
one_update slot name put puts = by (put.slot == slot)
  where
    by : (mine : Bool) → (if mine then Update name put.page put.old put.new ∷ updates_of slot name puts else updates_of slot name puts)
        ≡ (if mine then Update name put.page put.old put.new ∷ [] else []) ++ updates_of slot name puts
    by true = refl
    by false = refl

-- a loop over puts goes on
pub run_step : (puts : List Put) (i slot name : ℕ) (default : Put) (so_far more whole : List Entry) → i < length puts → so_far ++ updates_of slot name (drop i puts) ≡ whole
    → more ≡ so_far ++ updates_of slot name (get_or puts i default ∷ []) → more ++ updates_of slot name (drop (i + 1) puts) ≡ whole
run_step puts i slot name default so_far more whole lt is pushed =
    let e : i + 1 ≡ suc i = omega arith in
    let put = get_or puts i default in
    (λ j. pushed j ++ updates_of slot name (drop (e j) puts)) ∙ append_assoc so_far (updates_of slot name (put ∷ [])) (updates_of slot name (drop (suc i) puts))
    ∙ (λ j. so_far ++ sym (one_update slot name put (drop (suc i) puts)) j) ∙ (λ j. so_far ++ updates_of slot name (sym (drop-cons puts i default lt) j)) ∙ is

fits_run : (half : Half) (slot name : ℕ) (puts : List Put) → AreApart half.pages puts → AllFit half (run_of slot name puts)
fits_run half slot name [] apart zero lt = tt
fits_run half slot name [] apart (suc k) lt = absurd (omega arith)
fits_run half slot name (put ∷ puts) apart k lt = by (put.slot == slot) k (λ m below. fits_run half slot name puts apart.2 m below) lt
  where
    by : (mine : Bool) (k : ℕ) → AllFit half (run_of slot name puts) → k < length ((if mine then Update name put.page put.old put.new ∷ updates_of slot name puts else updates_of slot name puts) ++ End name ∷ [])
        → Fits half (get_or ((if mine then Update name put.page put.old put.new ∷ updates_of slot name puts else updates_of slot name puts) ++ End name ∷ []) k (End 0))
    by true zero rest lt = apart.0
    by true (suc k) rest lt = rest k (omega arith)
    by false k rest lt = rest k lt

fits_both : (half : Half) (xs ys : List Entry) → AllFit half xs → AllFit half ys → AllFit half (xs ++ ys)
fits_both half xs ys left right k lt = by (cases_lt k (length xs))
  where
    by : (k < length xs) ⊎ (length xs ≤ k) → Fits half (get_or (xs ++ ys) k (End 0))
    by (inl below) = subst (λ (e : Entry). Fits half e) (sym (get_or_append_left xs ys (End 0) k below)) (left k below)
    by (inr from) =
        let m = k - length xs in
        let e : length xs + m ≡ k = omega arith in
        let size = length-append xs ys in
        let lt_m : m < length ys = omega arith in
        subst (λ (at : ℕ). Fits half (get_or (xs ++ ys) at (End 0))) e (subst (λ (x : Entry). Fits half x) (sym (get_or-append-add xs ys m (End 0))) (right m lt_m))

pub sound_ended : (tells : Type 0) (view : View) (half : Half) (entries : List Entry) (forced slot : ℕ) (puts : List Put) → IsSteady tells view half entries forced puts → length (entries ++ run_of slot (length entries) puts) ≤ 2048
    → IsSteady tells view half (entries ++ run_of slot (length entries) puts) forced (without slot puts)
sound_ended tells view half entries forced slot puts sound room = record {
  placed = sound.placed;
  few_pages = sound.few_pages;
  forced_le = let e = length-append entries (run_of slot (length entries) puts) in let f = sound.forced_le in omega arith;
  room = room;
  fits = fits_both half entries (run_of slot (length entries) puts) sound.fits (fits_run half slot (length entries) puts sound.apart);
  apart = apart_without half.pages slot puts sound.apart;
  on_disk = λ told. on_disk_ended view half entries forced slot puts sound.forced_le sound.apart (sound.on_disk told);
}

pub filter_without : (slot : ℕ) (puts : List Put) → filter (λ (put : Put). not (put.slot == slot)) puts ≡ without slot puts
filter_without slot [] = refl
filter_without slot (put ∷ puts) = by (put.slot == slot) (filter_without slot puts)
  where
    by : (mine : Bool) → filter (λ (put : Put). not (put.slot == slot)) puts ≡ without slot puts
        → (if not mine then put ∷ filter (λ (put : Put). not (put.slot == slot)) puts else filter (λ (put : Put). not (put.slot == slot)) puts) ≡ (if mine then without slot puts else put ∷ without slot puts)
    by true rest = rest
    by false rest = ap (λ (l : List Put). put ∷ l) rest

over_without : (slot : ℕ) (puts : List Put) (pages : ℕ → List ℕ) → ArePuts pages puts → ArePuts pages (without slot puts)
over_without slot [] pages over = tt
over_without slot (put ∷ puts) pages over = by (put.slot == slot) (over_without slot puts pages over.1)
  where
    by : (mine : Bool) → ArePuts pages (without slot puts) → ArePuts pages (if mine then without slot puts else put ∷ without slot puts)
    by true rest = rest
    by false rest = (over.0, rest)

pub sound_undone : (tells : Type 0) (view : View) (half : Half) (entries : List Entry) (forced slot : ℕ) (puts : List Put) → IsSteady tells view half entries forced puts → IsSteady tells view half entries forced (without slot puts)
sound_undone tells view half entries forced slot puts sound = record {
  placed = sound.placed;
  few_pages = sound.few_pages;
  forced_le = sound.forced_le;
  room = sound.room;
  fits = sound.fits;
  apart = apart_without half.pages slot puts sound.apart;
  on_disk = λ told. let before = sound.on_disk told in record { log = before.log; whole = before.whole; puts_over = over_without slot puts (λ (q : ℕ). redone entries (in_place view.image) q) before.puts_over; settled = before.settled };
}
