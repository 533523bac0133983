-- Entries and puts over a page.
use Rattle.std.proofs.Common.{◌≡◌, ◌<◌, ◌+◌, ℕ, List, [], ◌∷◌, length, take, drop, refl, sym, ◌∙◌, ap, subst, arith, get_or, drop-cons, suc}
use Rattle.std.specs.Prelude.{◌==◌, if◌then◌else◌}
use Rattle.base_types.specs.Image.{byte_at}
use Rattle.base_types.specs.View.{View}
use Rattle.base_types.specs.Crash.{IsSettled}
use Rattle.base_outside.proofs.Image.{bytes_from-same}
use Rattle.std.proofs.lemmas.List.{take-append-drop, take_all, drop_all}
use Rattle.disk_layout.specs.declared.entry.Entry.{Entry}
use Rattle.disk_layout.specs.declared.entry.Entry.TheVariants.{Update, End}
use Rattle.disk_layout.specs.declared.half.Half.{Half}
use Rattle.disk_layout.specs.Places.{page_start, in_place}
use Rattle.disk_layout.specs.Half.{IsLog}
use Rattle.disk_layout.specs.Pages.{redone, AreWhole, HasWhole}
use Rattle.disk_layout.proofs.Pages.{redone-append, redone_at, whole-append}
use Rattle.disk_log.specs.Append.{SameRest}
use Rattle.disk_log.specs.Puts.{overlaid, page_of, ArePuts, IsOnDisk}
use Rattle.disk_log.specs.declared.put.Put.{Put}

-- one entry and then the others
pub redone_one : (entry : Entry) (rest : List Entry) (out : List ℕ) (p : ℕ) → redone rest (λ (q : ℕ). redone (entry ∷ []) (λ (r : ℕ). out) p) p ≡ redone (entry ∷ rest) (λ (q : ℕ). out) p
redone_one (Update t page old new) rest out p =
    redone_at rest (λ (q : ℕ). if page == p then new else out) (λ (q : ℕ). if page == q then new else out) p refl
redone_one (End t) rest out p = refl

pub overlaid_at : (puts : List Put) (a b : ℕ → List ℕ) (p : ℕ) → a p ≡ b p → overlaid puts a p ≡ overlaid puts b p
overlaid_at [] a b p same = same
overlaid_at (put ∷ puts) a b p same = λ j. if put.page == p then put.new else overlaid_at puts a b p same j

-- a page as the first entries left it is redone by the others
pub over_forced : (entries held news : List Entry) (forced : ℕ) (image out mid : List ℕ) (p : ℕ) → held ≡ take forced entries → news ≡ drop forced entries → out ≡ redone held (in_place image) p → mid ≡ redone news (λ (q : ℕ). out) p
    → mid ≡ redone entries (in_place image) p
over_forced entries held news forced image out mid p first rest read is =
    is ∙ redone_at news (λ (q : ℕ). out) (λ (q : ℕ). redone held (in_place image) q) p read
    ∙ (λ j. redone (rest j) (λ (q : ℕ). redone (first j) (in_place image) q) p)
    ∙ sym (redone-append (take forced entries) (drop forced entries) (in_place image) p)
    ∙ ap (λ (l : List Entry). redone l (in_place image) p) (take-append-drop forced entries)

-- and overlaid
pub page_read : (entries : List Entry) (puts : List Put) (image mid : List ℕ) (p : ℕ) → mid ≡ redone entries (in_place image) p → overlaid puts (λ (q : ℕ). mid) p ≡ page_of entries puts image p
unfolding page_of
page_read entries puts image mid p is = overlaid_at puts (λ (q : ℕ). mid) (λ (q : ℕ). redone entries (in_place image) q) p is

pub place_same : (old new : List ℕ) → SameRest old new → (q : ℕ) → in_place new q ≡ in_place old q
place_same old new same q = bytes_from-same new old (page_start q) 512 (λ k from below. same k (omega arith))

-- pages in place that stay
module _ (old new : List ℕ) (same : SameRest old new) where
  pub page_stays : (entries : List Entry) (puts : List Put) (p : ℕ) → page_of entries puts new p ≡ page_of entries puts old p
  unfolding page_of
  page_stays entries puts p = λ j. overlaid puts (λ (q : ℕ). redone entries (λ (r : ℕ). place_same old new same r j) q) p

-- a loop over entries goes on
pub redo_step : (entries : List Entry) (i : ℕ) (default : Entry) (out mid whole : List ℕ) (p : ℕ) → i < length entries → mid ≡ redone (get_or entries i default ∷ []) (λ (r : ℕ). out) p
    → redone (drop i entries) (λ (q : ℕ). out) p ≡ whole → redone (drop (i + 1) entries) (λ (q : ℕ). mid) p ≡ whole
redo_step entries i default out mid whole p lt is so_far =
    let e : i + 1 ≡ suc i = omega arith in
    (λ j. redone (drop (e j) entries) (λ (q : ℕ). is j) p) ∙ redone_one (get_or entries i default) (drop (suc i) entries) out p
    ∙ (λ j. redone (sym (drop-cons entries i default lt) j) (λ (q : ℕ). out) p) ∙ so_far

-- after a force
module _ (old new : View) (half : Half) (entries : List Entry) (forced n : ℕ) (puts : List Put) (on_disk : IsOnDisk old half entries forced puts) (all : n ≡ length entries)
    (same : SameRest old.image new.image) where
  same_function : let a : ℕ → List ℕ = λ (r : ℕ). in_place new.image r in let b : ℕ → List ℕ = λ (r : ℕ). in_place old.image r in a ≡ b
  same_function = λ j r. place_same old.image new.image same r j

  whole_before : AreWhole (λ (q : ℕ). in_place old.image q) 0 entries
  whole_before =
      let both = whole-append (take forced entries) (drop forced entries) (λ (q : ℕ). in_place old.image q) 0 on_disk.whole.forced
      (let e : length (take forced entries) ≡ 0 + length (take forced entries) = omega arith in
      subst (λ (at : ℕ). AreWhole (λ (q : ℕ). redone (take forced entries) (in_place old.image) q) at (drop forced entries)) e on_disk.whole.ended) in
      subst (λ (l : List Entry). AreWhole (λ (q : ℕ). in_place old.image q) 0 l) (take-append-drop forced entries) both

  taken : take n entries ≡ entries
  taken = take_all n entries (omega arith)

  whole_after : HasWhole (take n entries) (drop n entries) new.image
  whole_after = record {
    forced = subst (λ (l : List Entry). AreWhole (λ (q : ℕ). in_place new.image q) 0 l) (sym taken) (subst (λ (pages : ℕ → List ℕ). AreWhole pages 0 entries) (sym same_function) whole_before);
    ended =
        subst (λ (l : List Entry). AreWhole (λ (q : ℕ). redone (take n entries) (in_place new.image) q) (length (take n entries)) l) (sym (drop_all n entries (omega arith))) refl;
  }

  pub on_disk_after : IsLog half entries new.image → IsSettled new → IsOnDisk new half entries n puts
  on_disk_after log settled = record {
    log = subst (λ (l : List Entry). IsLog half l new.image) (sym taken) log;
    whole = whole_after;
    puts_over = subst (λ (pages : ℕ → List ℕ). ArePuts (λ (q : ℕ). redone entries pages q) puts) (sym same_function) on_disk.puts_over;
    settled = λ d left at below. ap (λ (l : List ℕ). byte_at l at) (settled d left);
  }
