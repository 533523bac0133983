-- The anodes of a slot, renewed one after another.
use Rattle.std.proofs.Common.{◌≡◌, ◌<◌, ◌≤◌, ℕ, zero, suc, ◌+◌, ◌-◌, List, [], ◌∷◌, length, map, take, replicate, refl, sym, ◌∙◌, ap, subst, arith, Option, Some, None}
use Rattle.std.specs.Prelude.{true, slice_get, is_none, unwrap_or}
use Rattle.std.specs.Option.{option_map}
use Rattle.base_types.specs.Lists.{changed_at}
use Rattle.tree_filesets.specs.Founding.{unused_anode}
use Rattle.tree_filesets.specs.WellFormed.{is_settled}
use Rattle.tree_objects.specs.declared.content.Anode.{Anode}
use Rattle.tree_objects.specs.declared.content.Content.{Content}
use Rattle.tree_objects.specs.declared.content.Content.TheVariants.{Dir, File}
use Rattle.tree_objects.specs.Changes.{anode_freed}
use Rattle.store_acts.specs.Parts.{is_tellable}
use Rattle.store_state.specs.declared.state.Holding.{Holding}
use Rattle.disk_objects.specs.Objects.{anode_at, with_slot, with_anode}
use Rattle.disk_objects.proofs.Places.{slot_here}
use Rattle.disk_fileset.specs.Slots.{is_whole}
use Rattle.disk_fileset.proofs.EachAnode.{changed_to, slot_itself}
use Rattle.disk_fileset.proofs.Twice.{slot_twice, anode_where}
use Rattle.disk_records.specs.Stored.{AreHeld}
use Rattle.disk_acts.specs.Anodes.{IsOne, IsAt, replaced, slot_replaced, renewed}
use Rattle.disk_acts.specs.Seen.{seen_anode}
use Rattle.disk_acts.specs.Steps.{SlotAnodes}
use Rattle.disk_acts.specs.Touched.{anodes_before}
use Rattle.disk_acts.specs.declared.seen.SeenAnode.{SeenAnode}
use Rattle.disk_acts.proofs.Seeing.{AllTold, told_at}

-- the first anodes of a slot renewed
abbrev pub change_of : List Anode → ℕ → Anode → Anode
change_of after k = renewed (slice_get after k)

abbrev pub renewed_to : ℕ → List Anode → ℕ → (ℕ → List Anode) → ℕ → List Anode
renewed_to slot after n slots = with_slot slot (changed_to (change_of after) n (slots slot)) slots

changed_more : (change : ℕ → Anode → Anode) (n : ℕ) (xs : List Anode) → changed_at (changed_to change n xs) n (change n) ≡ changed_to change (suc n) xs
changed_more change zero [] = refl
changed_more change zero (x ∷ xs) = refl
changed_more change (suc n) [] = refl
changed_more change (suc n) (x ∷ xs) = ap (λ ys. change 0 x ∷ ys) (changed_more (λ k. change (suc k)) n xs)

rest_same : (change : ℕ → Anode → Anode) (n : ℕ) (xs : List Anode) → slice_get (changed_to change n xs) n ≡ slice_get xs n
rest_same change zero xs = refl
rest_same change (suc n) [] = refl
rest_same change (suc n) (x ∷ xs) = rest_same (λ k. change (suc k)) n xs

pub renewed_more : (slot n : ℕ) (after : List Anode) (slots : ℕ → List Anode) → with_anode slot (n + 1) (change_of after n) (renewed_to slot after n slots) ≡ renewed_to slot after (n + 1) slots
renewed_more slot n after slots =
    let first : List Anode = changed_to (change_of after) n (slots slot) in
    let here = slot_here slots slot slot first refl in
    let back : n + 1 - 1 ≡ n = omega arith in
    let next : suc n ≡ n + 1 = omega arith in
    (λ i. with_slot slot (changed_at (here i) (back i) (change_of after n)) (with_slot slot first slots))
    ∙ (λ i. with_slot slot (changed_more (change_of after) n (slots slot) i) (with_slot slot first slots))
    ∙ slot_twice slots slot first (changed_to (change_of after) (suc n) (slots slot))
    ∙ (λ i. with_slot slot (changed_to (change_of after) (next i) (slots slot)) slots)

all_replaced : (after : List Anode) (n : ℕ) (xs : List Anode) → length xs ≤ n → changed_to (change_of after) n xs ≡ replaced after xs
all_replaced after zero [] le = refl
all_replaced after zero (x ∷ xs) le = absurd (omega (arith, le))
all_replaced after (suc n) [] le = refl
all_replaced [] (suc n) (x ∷ xs) le = ap (λ ys. anode_freed x ∷ ys) (all_replaced [] n xs (omega (arith, le)))
all_replaced (y ∷ after) (suc n) (x ∷ xs) le = ap (λ ys. y ∷ ys) (all_replaced after n xs (omega (arith, le)))

pub renewed_whole : (slot n : ℕ) (after : List Anode) (slots : ℕ → List Anode) → length (slots slot) ≤ n → renewed_to slot after n slots ≡ slot_replaced slot after slots
renewed_whole slot n after slots le = λ i. with_slot slot (all_replaced after n (slots slot) le i) slots

-- the next one is as it was
pub at_next : (slot n : ℕ) (before : List SeenAnode) (after : List Anode) (slots : ℕ → List Anode) → IsAt slot n before after slots → IsAt slot n before after (renewed_to slot after n slots)
at_next slot n before after slots is =
    let back : n + 1 - 1 ≡ n = omega arith in
    let here = slot_here slots slot slot (changed_to (change_of after) n (slots slot)) refl in
    let same : anode_at (renewed_to slot after n slots slot) (n + 1) ≡ anode_at (slots slot) (n + 1) =
    (λ i. anode_at (here i) (n + 1)) ∙ (λ i. unwrap_or (slice_get (changed_to (change_of after) n (slots slot)) (back i)) unused_anode)
    ∙ (λ i. unwrap_or (rest_same (change_of after) n (slots slot) i) unused_anode) ∙ (λ i. unwrap_or (slice_get (slots slot) (sym back i)) unused_anode) in
    subst (λ (a : Anode). IsOne (slice_get before n) (slice_get after n) a) (sym same) is

-- an anode that stays
itself : (xs : List Anode) (n : ℕ) → changed_at xs n (λ a. a) ≡ xs
itself [] n = refl
itself (x ∷ xs) zero = refl
itself (x ∷ xs) (suc n) = ap (λ ys. x ∷ ys) (itself xs n)

pub anode_stays : (slot n : ℕ) (change : Anode → Anode) (slots : ℕ → List Anode) → change (anode_at (slots slot) n) ≡ anode_at (slots slot) n → with_anode slot n change slots ≡ slots
anode_stays slot n change slots same =
    anode_where slots slot n change (λ a. a) same ∙ (λ i. with_slot slot (itself (slots slot) (n - 1) i) slots) ∙ slot_itself slots slot

-- the anodes that are held then
front_replaced : (after xs : List Anode) → length after ≤ length xs → take (length after) (replaced after xs) ≡ after
front_replaced [] xs le = refl
front_replaced (y ∷ after) [] le = absurd (omega (arith, le))
front_replaced (y ∷ after) (x ∷ xs) le = ap (λ ys. y ∷ ys) (front_replaced after xs (omega (arith, le)))

rest_replaced : (after xs : List Anode) (n : ℕ) → length after ≤ n → is_none (unwrap_or (slice_get (replaced after xs) n) unused_anode).object ≡ true
rest_replaced after [] n le = refl
rest_replaced [] (x ∷ xs) zero le = refl
rest_replaced [] (x ∷ xs) (suc n) le = rest_replaced [] xs n (omega arith)
rest_replaced (y ∷ after) (x ∷ xs) zero le = absurd (omega (arith, le))
rest_replaced (y ∷ after) (x ∷ xs) (suc n) le = rest_replaced after xs n (omega (arith, le))

pub held_replaced : (holding : Holding) (xs : List Anode) → length xs ≡ 64 → length holding.fileset.anodes ≤ 64 → AreHeld holding (replaced holding.fileset.anodes xs)
held_replaced holding xs size few = record {
  front = front_replaced holding.fileset.anodes xs (omega (arith, size, few));
  rest = λ anode above most. rest_replaced holding.fileset.anodes xs (anode - 1) (omega (arith, above));
}

-- the anodes of a slot are those that were kept of it
got_take : (n : ℕ) (xs : List Anode) (at : ℕ) (a : Anode) → slice_get (take n xs) at ≡ Some a → slice_get xs at ≡ Some a
got_take zero xs at a e = absurd (cc)
got_take (suc n) [] at a e = e
got_take (suc n) (x ∷ xs) zero a e = e
got_take (suc n) (x ∷ xs) (suc at) a e = got_take n xs at a e

none_past : (xs : List Anode) (at : ℕ) → slice_get xs at ≡ None → length xs ≤ at
none_past [] at e = omega arith
none_past (x ∷ xs) zero e = absurd (cc)
none_past (x ∷ xs) (suc at) e = let h = none_past xs at e in omega (arith, h)

got_same : (n at : ℕ) (x : Anode) → at < n → slice_get (replicate n x) at ≡ Some x
got_same zero at x lt = absurd (omega (arith, lt))
got_same (suc n) zero x lt = refl
got_same (suc n) (suc at) x lt = got_same n at x (omega (arith, lt))

at_place : (list : List Anode) (at : ℕ) (a : Anode) → slice_get list at ≡ Some a → anode_at list (at + 1) ≡ a
at_place list at a e = let back : at + 1 - 1 ≡ at = omega arith in (λ i. unwrap_or (slice_get list (back i)) unused_anode) ∙ (λ i. unwrap_or (e i) unused_anode)

got_seen : (xs : List Anode) (at : ℕ) (o : Option Anode) → slice_get xs at ≡ o → slice_get (map seen_anode xs) at ≡ option_map seen_anode o
got_seen [] at o e = (λ i. option_map seen_anode (e i))
got_seen (x ∷ xs) zero o e = (λ i. option_map seen_anode (e i))
got_seen (x ∷ xs) (suc at) o e = got_seen xs at o e

seen_one : (old after : List Anode) (at : ℕ) (a now : Anode) → AllTold old after → slice_get old at ≡ Some a → now ≡ a → IsOne (slice_get (map seen_anode old) at) (slice_get after at) now
seen_one old after at a now told got is = subst (λ (o : Option SeenAnode). IsOne o (slice_get after at) now) (sym (got_seen old at (Some a) got)) (by (slice_get after at) refl)
  where
    by : (o : Option Anode) → slice_get after at ≡ o → IsOne (Some (seen_anode a)) o now
    by None k = tt
    by (Some next) k = λ e. is ∙ sym (told_at old after at a next told got k (sym e))

no_one : (old after : List Anode) (at : ℕ) (now : Anode) → slice_get old at ≡ None → is_none now.object ≡ true → IsOne (slice_get (map seen_anode old) at) (slice_get after at) now
no_one old after at now none free = subst (λ (o : Option SeenAnode). IsOne o (slice_get after at) now) (sym (got_seen old at None none)) free

pub at_before : (held : Option Holding) (list after : List Anode) (at : ℕ) → at < 64 → AllTold (anodes_before held) after → SlotAnodes held list
    → IsOne (slice_get (map seen_anode (anodes_before held)) at) (slice_get after at) (anode_at list (at + 1))
at_before None list after at lt told is =
    let e : slice_get list at ≡ Some unused_anode = (λ i. slice_get (is i) at) ∙ got_same 64 at unused_anode lt in
    seen_one (replicate 64 unused_anode) after at unused_anode (anode_at list (at + 1)) told (got_same 64 at unused_anode lt) (at_place list at unused_anode e)
at_before (Some holding) list after at lt told is = by (slice_get holding.fileset.anodes at) refl
  where
    by : (o : Option Anode) → slice_get holding.fileset.anodes at ≡ o → IsOne (slice_get (map seen_anode holding.fileset.anodes) at) (slice_get after at) (anode_at list (at + 1))
    by (Some a) e = seen_one holding.fileset.anodes after at a (anode_at list (at + 1)) told e (at_place list at a (got_take (length holding.fileset.anodes) list at a ((λ i. slice_get (is.front i) at) ∙ e)))
    by None e = let past = none_past holding.fileset.anodes at e in no_one holding.fileset.anodes after at (anode_at list (at + 1)) e (is.rest (at + 1) (omega (arith, past)) (omega (arith, lt)))

-- what is within the limits, with nothing unsaved, is whole
pub tellable_whole : (content : Content) → is_settled content ≡ true → is_tellable content ≡ true → is_whole content ≡ true
tellable_whole (Dir entries lists) settled tellable = tellable
tellable_whole (File list kept [] None) settled tellable = tellable
tellable_whole (File list kept [] (Some len)) settled tellable = absurd (grind (arith, settled))
tellable_whole (File list kept (byte ∷ unsaved) len) settled tellable = absurd (grind (arith, settled))
