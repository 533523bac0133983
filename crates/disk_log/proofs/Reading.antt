-- Calls that only read keep a log sound.
use Rattle.std.proofs.Common.{◌≡◌, ◌≢◌, ◌<◌, ◌≤◌, ◌⊎◌, ℕ, ◌+◌, List, length, take, drop, set, length-set, refl, sym, ◌∙◌, ap, subst, arith, Option, Some, None, get_or, inl, inr}
use Rattle.std.specs.Prelude.{Bool, true, false, ◌==◌}
use Rattle.std.proofs.lemmas.Bool.{cases_lt}
use Rattle.std.proofs.lemmas.Bool.Decides.{nat_tests}
use Rattle.std.proofs.lemmas.Grind.{get_or-set_at}
use Rattle.std.proofs.lemmas.List.{get_or_past, get_or-set_other, length-drop, take_all}
use Rattle.base_types.specs.Image.{bytes_from, Holds}
use Rattle.base_types.specs.View.{View}
use Rattle.base_types.specs.Crash.{IsQuiet}
use Rattle.disk_layout.specs.declared.entry.Entry.{Entry}
use Rattle.disk_layout.specs.declared.half.Half.{Half}
use Rattle.disk_layout.specs.Places.{entry_start}
use Rattle.disk_layout.specs.Superblock.{IsSuperblock}
use Rattle.disk_layout.specs.Entry.{Spells, Fits, Stands}
use Rattle.disk_layout.proofs.Entries.{stands_written}
use Rattle.disk_log.specs.Pages.{AreKept, HoldsPages}
use Rattle.disk_log.specs.State.{State, IsSound}
use Rattle.disk_log.proofs.Putting.{sound_quiet}

pub sound_read : (tells : Type 0) (old new : View) (pages fresh : List (Option (List ℕ))) (state : State) → IsQuiet old new → length fresh ≡ length pages → (tells → HoldsPages fresh (take state.forced state.entries) new.image)
    → IsSound tells old pages state → IsSound tells new fresh state
sound_read tells old new pages fresh state quiet size kept sound = record {
  steady = sound_quiet tells old new state.half state.entries state.forced state.puts quiet sound.steady;
  accounts = sound.accounts;
  many = sound.many;
  blocks = sound.blocks;
  front = λ told. subst (λ (image : List ℕ). IsSuperblock state.superblock image) (sym quiet.image) (sound.front told);
  slots = size ∙ sound.slots;
  kept = kept;
}

-- pages under the first of these entries, by another name
pub held_as : (pages : List (Option (List ℕ))) (a b : List Entry) (forced : ℕ) (image : List ℕ) → a ≡ b → HoldsPages pages (take forced a) image → HoldsPages pages (take forced b) image
held_as pages a b forced image is held = subst (λ (l : List Entry). HoldsPages pages (take forced l) image) is held

-- a page that is kept has a place
pub place_of : (pages : List (Option (List ℕ))) (p : ℕ) (bytes : List ℕ) → get_or pages p None ≡ Some bytes → p < length pages
place_of pages p bytes is = by (cases_lt p (length pages))
  where
    by : (p < length pages) ⊎ (length pages ≤ p) → p < length pages
    by (inl lt) = lt
    by (inr le) = let e = get_or_past pages p None le in absurd (cc)

-- a page that is read is kept
pub kept_read : (pages : List (Option (List ℕ))) (page : ℕ) (out : List ℕ) (known : ℕ → List ℕ) → AreKept pages known → out ≡ known page → AreKept (set pages page (Some out)) known
kept_read pages page out known kept is p bytes there = by (page == p) refl
  where
    by : (here : Bool) → (page == p) ≡ here → bytes ≡ known p
    by true e =
        let same : p ≡ page = grind (arith, nat_tests, e) in
        let lt : p < length pages = let f = place_of (set pages page (Some out)) p bytes there in let g = length-set pages page (Some out) in omega arith in
        let found : Some out ≡ Some bytes = sym (get_or-set_at pages page p (Some out) None same (omega arith)) ∙ there in
        let equal : out ≡ bytes = cc in
        sym equal ∙ is ∙ ap known (sym same)
    by false e =
        let apart : p ≢ page = λ f. absurd (grind (arith, nat_tests, e, f)) in
        kept p bytes (sym (get_or-set_other pages page p (Some out) None apart) ∙ there)

-- an entry stands where its bytes behind the gate were written
pub stands_after : (half : Half) (entry : Entry) (bytes image : List ℕ) (i m : ℕ) → Fits half entry → Spells entry half.generation bytes → length bytes ≡ 1536 → m ≡ 1535
    → Holds (entry_start half.start i + 1) (take m (drop 1 bytes)) image → Stands half entry image i
stands_after half entry bytes image i m fits spells size many holds =
    let rest : length (drop 1 bytes) ≡ 1535 = let e = length-drop 1 bytes in omega arith in
    let all : take m (drop 1 bytes) ≡ drop 1 bytes = take_all m (drop 1 bytes) (omega arith) in
    let here = subst (λ (piece : List ℕ). Holds (entry_start half.start i + 1) piece image) all holds in
    stands_written half entry bytes image i fits spells (omega arith) (ap (bytes_from image (entry_start half.start i + 1)) (sym rest) ∙ here.inside)
