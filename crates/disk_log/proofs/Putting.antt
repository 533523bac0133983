-- A page that is put.
use Rattle.disk_layout.specs.Places.{in_place}
use Rattle.std.proofs.Common.{◌≡◌, ◌≢◌, ◌<◌, get_or, ℕ, List, [], ◌∷◌, ◌++◌, take, drop, refl, sym, ◌∙◌, ap, subst, arith}
use Rattle.std.specs.Prelude.{Bool, true, false, not, filter, ◌==◌, if◌then◌else◌}
use Rattle.std.proofs.lemmas.Bool.Decides.{nat_tests}
use Rattle.base_types.specs.Image.{byte_at}
use Rattle.base_types.specs.View.{View}
use Rattle.base_types.specs.Crash.{IsQuiet}
use Rattle.disk_layout.specs.declared.entry.Entry.{Entry}
use Rattle.disk_layout.specs.declared.half.Half.{Half}
use Rattle.disk_layout.specs.Half.{IsLog}
use Rattle.disk_layout.specs.Pages.{redone, HasWhole}
use Rattle.disk_layout.proofs.Pages.{redone_at}
use Rattle.disk_log.specs.Puts.{overlaid, page_of, ended_page, or_of, settled_byte, IsAbsent, ArePuts, AreApart, IsOnDisk, IsSteady, without_page}
use Rattle.disk_log.specs.declared.put.Put.{Put}

pub filter_page : (page : ℕ) (puts : List Put) → filter (λ (put : Put). not (put.page == page)) puts ≡ without_page page puts
filter_page page [] = refl
filter_page page (put ∷ puts) = by (put.page == page) (filter_page page puts)
  where
    by : (same : Bool) → filter (λ (put : Put). not (put.page == page)) puts ≡ without_page page puts
        → (if not same then put ∷ filter (λ (put : Put). not (put.page == page)) puts else filter (λ (put : Put). not (put.page == page)) puts) ≡ (if same then without_page page puts else put ∷ without_page page puts)
    by true rest = rest
    by false rest = ap (λ (l : List Put). put ∷ l) rest

same_test : (a b : ℕ) → (a == b) ≡ true → a ≡ b
same_test a b is = grind (arith, nat_tests)

other_test : (a b : ℕ) → (a == b) ≡ false → a ≢ b
other_test a b is = λ e. absurd (grind (arith, nat_tests, is, e))

overlaid_put : (puts : List Put) (put : Put) (pages : ℕ → List ℕ) (p : ℕ) → overlaid (without_page put.page puts ++ put ∷ []) pages p ≡ (if put.page == p then put.new else overlaid puts pages p)
overlaid_put [] put pages p = refl
overlaid_put (first ∷ puts) put pages p = by (first.page == put.page) refl (first.page == p) refl (put.page == p) refl (overlaid_put puts put pages p)
  where
    by : (same : Bool) → (first.page == put.page) ≡ same → (of_first : Bool) → (first.page == p) ≡ of_first → (of_put : Bool) → (put.page == p) ≡ of_put
        → overlaid (without_page put.page puts ++ put ∷ []) pages p ≡ (if put.page == p then put.new else overlaid puts pages p)
        → overlaid ((if same then without_page put.page puts else first ∷ without_page put.page puts) ++ put ∷ []) pages p ≡ (if put.page == p then put.new else (if first.page == p then first.new else overlaid puts pages p))
    by true same true is_first true is_put rest = rest ∙ (λ j. if is_put j then put.new else overlaid puts pages p) ∙ (λ j. if sym is_put j then put.new else (if first.page == p then first.new else overlaid puts pages p))
    by true same false is_first true is_put rest = rest ∙ (λ j. if is_put j then put.new else overlaid puts pages p) ∙ (λ j. if sym is_put j then put.new else (if first.page == p then first.new else overlaid puts pages p))
    by true same true is_first false is_put rest = absurd (other_test put.page p is_put (sym (same_test first.page put.page same) ∙ same_test first.page p is_first))
    by true same false is_first false is_put rest = rest ∙ (λ j. if put.page == p then put.new else (if sym is_first j then first.new else overlaid puts pages p))
    by false same true is_first true is_put rest = absurd (other_test first.page put.page same (same_test first.page p is_first ∙ sym (same_test put.page p is_put)))
    by false same true is_first false is_put rest = (λ j. if is_first j then first.new else overlaid (without_page put.page puts ++ put ∷ []) pages p) ∙ (λ j. if sym is_put j then put.new else (if sym is_first j then first.new else overlaid puts pages p))
    by false same false is_first of_put is_put rest = (λ j. if is_first j then first.new else rest j) ∙ (λ j. if put.page == p then put.new else (if sym is_first j then first.new else overlaid puts pages p))

absent_put : (page p : ℕ) (put : Put) (puts : List Put) → IsAbsent p puts → put.page ≢ p → IsAbsent p (without_page page puts ++ put ∷ [])
absent_put page p put [] absent other = (other, tt)
absent_put page p put (first ∷ puts) absent other = by (first.page == page) (absent_put page p put puts absent.1 other)
  where
    by : (same : Bool) → IsAbsent p (without_page page puts ++ put ∷ []) → IsAbsent p ((if same then without_page page puts else first ∷ without_page page puts) ++ put ∷ [])
    by true rest = rest
    by false rest = (absent.0, rest)

apart_put : (n : ℕ) (put : Put) (puts : List Put) → AreApart n puts → put.page < n → AreApart n (without_page put.page puts ++ put ∷ [])
apart_put n put [] apart lt = (lt, tt, tt)
apart_put n put (first ∷ puts) apart lt = by (first.page == put.page) refl (apart_put n put puts apart.2 lt)
  where
    by : (same : Bool) → (first.page == put.page) ≡ same → AreApart n (without_page put.page puts ++ put ∷ []) → AreApart n ((if same then without_page put.page puts else first ∷ without_page put.page puts) ++ put ∷ [])
    by true is rest = rest
    by false is rest = (apart.0, absent_put put.page first.page put puts apart.1 (λ e. other_test first.page put.page is (sym e)), rest)

over_put : (pages : ℕ → List ℕ) (put : Put) (puts : List Put) → ArePuts pages puts → put.old ≡ pages put.page → ArePuts pages (without_page put.page puts ++ put ∷ [])
over_put pages put [] over is = (is, tt)
over_put pages put (first ∷ puts) over is = by (first.page == put.page) (over_put pages put puts over.1 is)
  where
    by : (same : Bool) → ArePuts pages (without_page put.page puts ++ put ∷ []) → ArePuts pages ((if same then without_page put.page puts else first ∷ without_page put.page puts) ++ put ∷ [])
    by true rest = rest
    by false rest = (over.0, rest)

-- one page has the new bytes, and the others are the same
pub page_put : (entries : List Entry) (put : Put) (puts : List Put) (image : List ℕ) (p : ℕ) → page_of entries (without_page put.page puts ++ put ∷ []) image p ≡ (if put.page == p then put.new else page_of entries puts image p)
unfolding page_of
page_put entries put puts image p = overlaid_put puts put (λ (q : ℕ). redone entries (in_place image) q) p

pub page_under : (entries : List Entry) (image mid : List ℕ) (p : ℕ) → mid ≡ redone entries (in_place image) p → mid ≡ ended_page entries image p
unfolding ended_page
page_under entries image mid p is = is

on_disk_quiet : (old new : View) (half : Half) (entries : List Entry) (forced : ℕ) (puts : List Put) → IsQuiet old new → IsOnDisk old half entries forced puts → IsOnDisk new half entries forced puts
on_disk_quiet old new half entries forced puts quiet on_disk = record {
  log = subst (λ (image : List ℕ). IsLog half (take forced entries) image) (sym quiet.image) on_disk.log;
  whole = subst (λ (image : List ℕ). HasWhole (take forced entries) (drop forced entries) image) (sym quiet.image) on_disk.whole;
  puts_over = subst (λ (image : List ℕ). ArePuts (λ (q : ℕ). redone entries (in_place image) q) puts) (sym quiet.image) on_disk.puts_over;
  settled = λ d left at below. on_disk.settled d (quiet.now d left) at below ∙ ap (λ (image : List ℕ). byte_at image at) (sym quiet.image);
}

-- a log stays sound where no byte changes
pub sound_quiet : (tells : Type 0) (old new : View) (half : Half) (entries : List Entry) (forced : ℕ) (puts : List Put) → IsQuiet old new → IsSteady tells old half entries forced puts → IsSteady tells new half entries forced puts
sound_quiet tells old new half entries forced puts quiet sound = record {
  placed = sound.placed;
  few_pages = sound.few_pages;
  forced_le = sound.forced_le;
  room = sound.room;
  fits = sound.fits;
  apart = sound.apart;
  on_disk = λ told. on_disk_quiet old new half entries forced puts quiet (sound.on_disk told);
}

pub sound_put : (tells : Type 0) (view : View) (half : Half) (entries : List Entry) (forced : ℕ) (put : Put) (puts : List Put) → IsSteady tells view half entries forced puts → put.page < half.pages
    → (tells → put.old ≡ ended_page entries view.image put.page) → IsSteady tells view half entries forced (without_page put.page puts ++ put ∷ [])
unfolding ended_page
sound_put tells view half entries forced put puts sound lt old = record {
  placed = sound.placed;
  few_pages = sound.few_pages;
  forced_le = sound.forced_le;
  room = sound.room;
  fits = sound.fits;
  apart = apart_put half.pages put puts sound.apart lt;
  on_disk = λ told. let before = sound.on_disk told in record {
    log = before.log;
    whole = before.whole;
    puts_over = over_put (λ (q : ℕ). redone entries (in_place view.image) q) put puts before.puts_over (old told);
    settled = before.settled;
  };
}

-- the same log by other names
pub sound_as : (tells : Type 0) (view : View) (half half_2 : Half) (entries entries_2 : List Entry) (forced forced_2 : ℕ) (puts puts_2 : List Put) → half_2 ≡ half → entries_2 ≡ entries → forced_2 ≡ forced → puts_2 ≡ puts
    → IsSteady tells view half entries forced puts → IsSteady tells view half_2 entries_2 forced_2 puts_2
sound_as tells view half half_2 entries entries_2 forced forced_2 puts puts_2 e f g h sound =
    let first = subst (λ (l : Half). IsSteady tells view l entries forced puts) (sym e) sound in
    let second = subst (λ (l : List Entry). IsSteady tells view half_2 l forced puts) (sym f) first in
    let third = subst (λ (l : ℕ). IsSteady tells view half_2 entries_2 l puts) (sym g) second in
    subst (λ (l : List Put). IsSteady tells view half_2 entries_2 forced_2 l) (sym h) third

-- a page as the last force left it is laid under what the ended transactions left
pub settled_read : (entries held rests : List Entry) (forced : ℕ) (image out last : List ℕ) (p k : ℕ) → held ≡ take forced entries → rests ≡ drop forced entries → out ≡ redone held (in_place image) p
    → get_or last k 0 ≡ or_of rests p k (get_or out k 0) → get_or last k 0 ≡ settled_byte entries forced image p k
unfolding settled_byte
settled_read entries held rests forced image out last p k first rest read last_is =
    last_is ∙ (λ j. or_of (rest j) p k (get_or (read j) k 0)) ∙ (λ j. or_of (drop forced entries) p k (get_or (redone (first j) (in_place image) p) k 0))
