-- Entries that count once the gate of the first is open.
use Rattle.std.proofs.Common.{◌≡◌, ◌<◌, ◌≤◌, ◌⊎◌, ℕ, ◌+◌, ◌-◌, ◌++◌, List, length, take, drop, get_or, inl, inr, sym, ◌∙◌, ap, subst, arith, length-append}
use Rattle.std.specs.Prelude.{Result, Ok, Err, OnOk}
use Rattle.std.proofs.lemmas.Bool.{cases_lt}
use Rattle.std.proofs.lemmas.List.{get_or_append_left, get_or-append-add, length-drop, length-take, take-append-drop}
use Rattle.disk_layout.specs.declared.entry.Entry.{Entry}
use Rattle.disk_layout.specs.declared.entry.Entry.TheVariants.{End}
use Rattle.disk_layout.specs.declared.half.Half.{Half}
use Rattle.disk_layout.specs.Places.{entry_start}
use Rattle.disk_layout.specs.Entry.{AreOpen, Fits, SameButBodies, SameButEntries, SameButThese, StandFrom, Stands, gate_at}
use Rattle.disk_layout.proofs.Entries.{stand_append, stands_still}
use Rattle.disk_layout.proofs.Slots.{these_within}
use Rattle.disk_log.specs.Append.{AllFit}
use Rattle.disk_log.proofs.Pieces.{piece_is}

-- all gates are open
pub open_all : (half : Half) (first n : ℕ) (staged c : List ℕ) → ((k : ℕ) → 1 ≤ k → k < n → gate_at half.start staged (first + k) ≡ 1)
    → ((k : ℕ) → 1 ≤ k → gate_at half.start c (first + k) ≡ gate_at half.start staged (first + k)) → (0 < n → gate_at half.start c first ≡ 1) → AreOpen half first n c
open_all half first n staged c behind same opened k lt = by (cases_lt 0 k)
  where
    by : (0 < k) ⊎ (k ≤ 0) → gate_at half.start c (first + k) ≡ 1
    by (inl some) = same k (omega (arith, some)) ∙ behind k (omega (arith, some)) lt
    by (inr none) = (let e : first + k ≡ first = omega (arith, none) in ap (gate_at half.start c) e) ∙ opened (omega (arith, lt))

-- what an Ok says where there is something, it says so
pub open_some : {T E P : Type 0} {Q R : Type 0} (result : Result T E) → (P → OnOk result Q) → ((P → Q) → R) → OnOk result R
open_some (Ok value) opened then = then (λ some. opened some)
open_some (Err error) opened then = tt

fits_left : (half : Half) (a b : List Entry) → AllFit half (a ++ b) → AllFit half a
fits_left half a b fits k lt = subst (λ (e : Entry). Fits half e) (get_or_append_left a b (End 0) k lt) (fits k (let size = length-append a b in omega (arith, size, lt)))

fits_right : (half : Half) (a b : List Entry) → AllFit half (a ++ b) → AllFit half b
fits_right half a b fits k lt = subst (λ (e : Entry). Fits half e) (get_or-append-add a b k (End 0)) (fits (length a + k) (let size = length-append a b in omega (arith, size, lt)))

-- the first s of some entries, and those behind them as they are sliced
module _ (half : Half) (first s : ℕ) (news : List Entry) (le : s ≤ length news) where
  pub many : length (take (length news - s) (drop s news)) ≡ length news - s
  many = ap (λ (l : List Entry). length l) (piece_is news s le) ∙ length-drop s news

  pub few : length (take s news) ≡ s
  few = let e = length-take s news in omega (arith, e, le)

  whole : AllFit half news → AllFit half (take s news ++ drop s news)
  whole fits = subst (λ (l : List Entry). AllFit half l) (sym (take-append-drop s news)) fits

  pub first_fit : AllFit half news → AllFit half (take s news)
  first_fit fits = fits_left half (take s news) (drop s news) (whole fits)

  pub rest_fit : AllFit half news → AllFit half (take (length news - s) (drop s news))
  rest_fit fits = subst (λ (l : List Entry). AllFit half l) (sym (piece_is news s le)) (fits_right half (take s news) (drop s news) (whole fits))

  pub these_as : (a b : List ℕ) → (0 < length news → 0 < s) → SameButThese half.start (first + s) (length (take (length news - s) (drop s news))) a b → SameButEntries half.start first (length news) a b
  these_as a b some these = these_within half.start first s (length news) a b le some (subst (λ (n : ℕ). SameButThese half.start (first + s) n a b) many these)

  module _ (mid c : List ℕ) (same : SameButBodies half.start first (length (take s news)) mid c) where
    pub stand_parts : StandFrom half (first + s) (take (length news - s) (drop s news)) mid → StandFrom half first (take s news) c → StandFrom half first news c
    stand_parts two one =
        let rest : StandFrom half (first + s) (drop s news) mid = subst (λ (l : List Entry). StandFrom half (first + s) l mid) (piece_is news s le) two in
        subst (λ (l : List Entry). StandFrom half first l c) (take-append-drop s news)
        (stand_append half first (take s news) (drop s news) c one
        (λ k lt. let size = few in
        let at : first + s + k ≡ first + length (take s news) + k = omega (arith, size) in
        subst (λ (p : ℕ). Stands half (get_or (drop s news) k (End 0)) c p) at
        (stands_still half (first + s + k) mid c (λ j from below. same.above (entry_start half.start (first + s + k) + j) (omega (arith, size))) _ (rest k lt))))

    pub open_parts : s ≤ 1 → AreOpen half (first + s) (length (take (length news - s) (drop s news))) mid → (k : ℕ) → 1 ≤ k → k < length news → gate_at half.start c (first + k) ≡ 1
    open_parts one opened k from lt =
        let size = many in
        let e : first + s + (k - s) ≡ first + k = omega (arith, one, from) in
        same.gates (first + k) ∙ ap (gate_at half.start mid) (sym e) ∙ opened (k - s) (omega (arith, size, lt, from, one, le))
