-- How many blocks the objects of all slots have.
use Rattle.std.proofs.Common.{◌≡◌, ◌<◌, ◌≤◌, ℕ, zero, suc, ◌+◌, ◌-◌, ◌*◌, ◌%◌, List, length, take, get_or, refl, sym, ◌∙◌, inl, inr, arith}
use Rattle.std.specs.Prelude.{Bool, true, false, ◌==◌, ◌&&◌, if◌then◌else◌, nat_lt, nat_le, min, Option, Some, None, IfSome, is_none, unwrap_or, slice_get}
use Rattle.std.specs.List.{sum_by}
use Rattle.std.specs.Option.{option_map_or}
use Rattle.std.proofs.Math.Seq.{take-suc}
use Rattle.std.proofs.lemmas.Bool.Decides.{nat_tests}
use Rattle.std.proofs.lemmas.List.{take_all}
use Rattle.std.proofs.lemmas.List.Sums.{sum_by_push}
use Rattle.std.proofs.lemmas.Option.{unwrap_or-slice_get}
use Rattle.tree_objects.specs.declared.content.Anode.{Anode}
use Rattle.tree_objects.specs.declared.content.Content.{Content}
use Rattle.tree_objects.specs.declared.content.Content.TheVariants.{Dir, File}
use Rattle.tree_objects.specs.declared.content.Object.{Object}
use Rattle.tree_objects.specs.Files.{present_length}
use Rattle.tree_objects.specs.Objects.{blocks_of}
use Rattle.tree_filesets.specs.Founding.{unused_anode}
use Rattle.tree_filesets.specs.Promises.{anode_blocks}
use Rattle.disk_log.specs.State.{State}
use Rattle.disk_anode.specs.Anode.{IsTrimmed}
use Rattle.disk_anode.specs.Node.{node_in}
use Rattle.disk_objects.specs.Holds.{sum_below, is_anode, no_anode, pointers_set, all_pointers, blocks_most}
use Rattle.disk_objects.proofs.Room.{pointers_free, pointers_few, pointers_trimmed}
use Rattle.disk_objects.proofs.Sums.{sum_same, sum_le, sum_zero}
use Rattle.disk_objects.specs.Objects.{object_kept, kept_of, page_for, anode_at, kept_anodes, FitsContent, FitsObject, AreKept, KeepsNow, IsCovered}
use Rattle.disk_objects.proofs.Contents.{vacant_kind}
use Rattle.disk_objects.proofs.Places.{page_is, kept_here}

-- the blocks of an object
content_most : (unique : ℕ) (owner group : List ℕ) (content : Content) → FitsContent content
    → blocks_most (object_kept unique (record { owner = owner; group = group; content = content })) ≤ blocks_of content
content_most unique owner group (Dir entries lists) fits = let few = fits.0 in omega (arith, few)
content_most unique owner group (File list kept unsaved len) fits =
    let none : len ≡ None = fits.2 in
    let size : present_length kept len ≡ length kept = (λ i. present_length kept (none i)) in
    omega (arith, size)

content_few : (content : Content) → FitsContent content → blocks_of content ≤ 68
content_few (Dir entries lists) fits = omega arith
content_few (File list kept unsaved len) fits =
    let none : len ≡ None = fits.2 in
    let few = fits.0 in
    let size : present_length kept len ≡ length kept = (λ i. present_length kept (none i)) in
    omega (arith, size, few)

anode_most : (anode : Anode) → IfSome anode.object FitsObject → blocks_most (kept_of anode) ≤ anode_blocks anode
anode_most anode fits = by anode.object fits
  where
    by : (o : Option Object) → IfSome o FitsObject
        → blocks_most (option_map_or (object_kept anode.unique) o (record no_anode { unique = anode.unique })) ≤ option_map_or (λ object. blocks_of object.content) o 0
    by None fits = omega arith
    by (Some object) fits = content_most anode.unique object.owner object.group object.content fits.content

anode_few : (anode : Anode) → IfSome anode.object FitsObject → anode_blocks anode ≤ 68
anode_few anode fits = by anode.object fits
  where
    by : (o : Option Object) → IfSome o FitsObject → option_map_or (λ object. blocks_of object.content) o 0 ≤ 68
    by None fits = omega arith
    by (Some object) fits = content_few object.content fits.content

anode_none : (anode : Anode) → is_none anode.object ≡ true → anode_blocks anode ≡ 0
anode_none anode none = by anode.object none
  where
    by : (o : Option Object) → is_none o ≡ true → option_map_or (λ object. blocks_of object.content) o 0 ≡ 0
    by None none = refl
    by (Some object) none = absurd (grind (arith, none))

-- a sum of one more, in two parts, and one of a list
sum_none : (f : ℕ → ℕ) → sum_below f 0 ≡ 0
unfolding sum_below
sum_none f = refl

sum_more : (f : ℕ → ℕ) (n : ℕ) → sum_below f (suc n) ≡ sum_below f n + f n
unfolding sum_below
sum_more f n = refl

bounded : (n m : ℕ) → sum_below (λ j. if nat_lt j n then 68 else 0) m ≤ 68 * min m n
bounded n zero = let none = sum_none (λ j. if nat_lt j n then 68 else 0) in omega (arith, none)
bounded n (suc m) = let rest = bounded n m in let more = sum_more (λ j. if nat_lt j n then 68 else 0) m in by (nat_lt m n) refl rest more
  where
    by : (a : Bool) → nat_lt m n ≡ a → sum_below (λ j. if nat_lt j n then 68 else 0) m ≤ 68 * min m n
        → sum_below (λ j. if nat_lt j n then 68 else 0) (suc m) ≡ sum_below (λ j. if nat_lt j n then 68 else 0) m + (if a then 68 else 0)
        → sum_below (λ j. if nat_lt j n then 68 else 0) (suc m) ≤ 68 * min (suc m) n
    by true e rest more = let lt : m < n = grind (arith, nat_tests, e) in omega (arith, rest, more, lt)
    by false e rest more = omega (arith, rest, more)

sum_split : (f : ℕ → ℕ) (m n : ℕ) → sum_below f (m + n) ≡ sum_below f m + sum_below (λ j. f (m + j)) n
sum_split f m zero =
    let e : m + 0 ≡ m = omega arith in
    let same : sum_below f (m + 0) ≡ sum_below f m = (λ i. sum_below f (e i)) in
    let none = sum_none (λ j. f (m + j)) in
    omega (arith, same, none)
sum_split f m (suc n) =
    let e : m + suc n ≡ suc (m + n) = omega arith in
    let same : sum_below f (m + suc n) ≡ sum_below f (suc (m + n)) = (λ i. sum_below f (e i)) in
    let rest = sum_split f m n in
    let more = sum_more f (m + n) in
    let last = sum_more (λ j. f (m + j)) n in
    omega (arith, same, rest, more, last)

sum_list : (f : Anode → ℕ) (xs : List Anode) (k : ℕ) → k ≤ length xs → sum_below (λ i. f (get_or xs i unused_anode)) k ≡ sum_by f (take k xs)
sum_list f xs zero le = sum_none (λ i. f (get_or xs i unused_anode))
sum_list f xs (suc k) le =
    let rest = sum_list f xs k (omega (arith, le)) in
    sum_more (λ i. f (get_or xs i unused_anode)) k ∙ (λ i. rest i + f (get_or xs k unused_anode)) ∙ sym (sum_by_push f (take k xs) (get_or xs k unused_anode)) ∙ (λ i. sum_by f (sym (take-suc xs k unused_anode (omega (arith, le))) i))

slot_list : (f : Anode → ℕ) (anodes : List Anode) → length anodes ≡ 64 → sum_below (λ j. f (anode_at anodes (j + 1))) 64 ≡ sum_by f anodes
slot_list f anodes full =
    sum_same (λ j. f (anode_at anodes (j + 1))) (λ j. f (get_or anodes j unused_anode)) 64
    (λ j lt. (let e : j + 1 - 1 ≡ j = omega arith in (λ i. f (unwrap_or (slice_get anodes (e i)) unused_anode)) ∙ (λ i. f (unwrap_or-slice_get anodes j unused_anode i))))
    ∙ sum_list f anodes 64 (omega (arith, full)) ∙ (λ i. sum_by f (take_all 64 anodes (omega (arith, full)) i))

-- the blocks of a slot
pub slot_few : (anodes : List Anode) (n : ℕ) → AreKept anodes → ((a : ℕ) → n < a → a ≤ 64 → is_none (anode_at anodes a).object ≡ true) → sum_by anode_blocks anodes ≤ 68 * n
slot_few anodes n kept free =
    let e = slot_list anode_blocks anodes kept.count in
    let few = sum_le (λ j. anode_blocks (anode_at anodes (j + 1))) (λ j. if nat_lt j n then 68 else 0) 64 (λ j lt. at j lt (nat_lt j n) refl) in
    let all = bounded n 64 in
    omega (arith, e, few, all)
  where
    at : (j : ℕ) → j < 64 → (a : Bool) → nat_lt j n ≡ a → anode_blocks (anode_at anodes (j + 1)) ≤ (if a then 68 else 0)
    at j lt true e = anode_few (anode_at anodes (j + 1)) (kept.each (j + 1) (omega arith) (omega (arith, lt)))
    at j lt false e =
        let high : n ≤ j = grind (arith, nat_tests, e) in
        let none = anode_none (anode_at anodes (j + 1)) (free (j + 1) (omega (arith, high)) (omega (arith, lt))) in
        omega (arith, none)

-- the pointers of the anodes of all slots
module _ (slots : ℕ → List Anode) (state : State) (image : List ℕ) (keeps : KeepsNow slots state image) where
  at_page : ℕ → ℕ
  at_page p = if is_anode p then pointers_set (node_in state image p) else 0

  not_anode : (p : ℕ) → (p - 2) % 66 < 2 → at_page p ≡ 0
  unfolding at_page
  not_anode p low =
      let off : nat_le 2 ((p - 2) % 66) ≡ false = grind (arith, nat_tests, low) in
      by (nat_le 2 p) (nat_lt p 1058) off
    where
      by : (a b : Bool) → nat_le 2 ((p - 2) % 66) ≡ false → (if a && b && nat_le 2 ((p - 2) % 66) then pointers_set (node_in state image p) else 0) ≡ 0
      by true true off = λ i. if off i then pointers_set (node_in state image p) else 0
      by true false off = refl
      by false b off = refl

  an_anode : (slot j : ℕ) → slot < 16 → j < 64 → at_page (2 + 66 * slot + (2 + j)) ≡ pointers_set (node_in state image (page_for slot (j + 1)))
  unfolding at_page
  an_anode slot j low lt =
      let is : 2 + 66 * slot + (2 + j) ≡ page_for slot (j + 1) = omega arith in
      let on = page_is slot (j + 1) low (omega arith) (omega (arith, lt)) in
      (λ i. if is_anode (is i) then pointers_set (node_in state image (is i)) else 0)
      ∙ (λ i. if on i then pointers_set (node_in state image (page_for slot (j + 1))) else 0)

  kind_there : (slot j : ℕ) → slot < 16 → j < 64 → (kept_anodes slots (page_for slot (j + 1))).kind ≡ (kept_of (anode_at (slots slot) (j + 1))).kind
  kind_there slot j low lt = λ i. (kept_here slots slot (j + 1) low (omega arith) (omega (arith, lt)) i).kind

  few_here : (slot j : ℕ) → slot < 16 → j < 64 → pointers_set (node_in state image (page_for slot (j + 1))) ≤ 68
  few_here slot j low lt = by ((kept_anodes slots (page_for slot (j + 1))).kind == 0) (pointers_few (kept_anodes slots) (page_for slot (j + 1)) state image (page_is slot (j + 1) low (omega arith) (omega (arith, lt))) keeps.held)
    where
      by : (a : Bool) → pointers_set (node_in state image (page_for slot (j + 1))) ≤ (if a then 0 else 68) → pointers_set (node_in state image (page_for slot (j + 1))) ≤ 68
      by true le = omega (arith, le)
      by false le = le

  none_here : (slot j : ℕ) → slot < 16 → j < 64 → is_none (anode_at (slots slot) (j + 1)).object ≡ true → pointers_set (node_in state image (page_for slot (j + 1))) ≡ 0
  none_here slot j low lt none = pointers_free (kept_anodes slots) (page_for slot (j + 1)) state image (page_is slot (j + 1) low (omega arith) (omega (arith, lt))) keeps.held
      (kind_there slot j low lt ∙ vacant_kind (anode_at (slots slot) (j + 1)) none)

  trimmed_here : (slot j : ℕ) → slot < 16 → j < 64 → IsTrimmed (node_in state image (page_for slot (j + 1))) → pointers_set (node_in state image (page_for slot (j + 1))) ≤ anode_blocks (anode_at (slots slot) (j + 1))
  trimmed_here slot j low lt trimmed =
      let e = pointers_trimmed (kept_anodes slots) (page_for slot (j + 1)) state image (page_is slot (j + 1) low (omega arith) (omega (arith, lt))) keeps.held trimmed in
      let f = anode_most (anode_at (slots slot) (j + 1)) ((keeps.each slot low).each (j + 1) (omega arith) (omega (arith, lt))) in
      let same : blocks_most (kept_anodes slots (page_for slot (j + 1))) ≡ blocks_most (kept_of (anode_at (slots slot) (j + 1))) = (λ i. blocks_most (kept_here slots slot (j + 1) low (omega arith) (omega (arith, lt)) i)) in
      omega (arith, e, f, same)

  -- those of one slot
  one_slot : (slot blocks : ℕ) → slot < 16 → IsCovered (slots slot) slot state image blocks → sum_below (λ j. at_page (2 + 66 * slot + j)) 66 ≤ blocks
  one_slot slot blocks low covered =
      let parts = sum_split (λ j. at_page (2 + 66 * slot + j)) 2 64 in
      let front = sum_zero (λ j. at_page (2 + 66 * slot + j)) 2 (λ j lt. not_anode (2 + 66 * slot + j) (omega (arith, lt))) in
      let same = sum_same (λ j. at_page (2 + 66 * slot + (2 + j))) (λ j. pointers_set (node_in state image (page_for slot (j + 1)))) 64 (λ j lt. an_anode slot j low lt) in
      let some = by covered in
      omega (arith, parts, front, same, some)
    where
      by : IsCovered (slots slot) slot state image blocks → sum_below (λ j. pointers_set (node_in state image (page_for slot (j + 1)))) 64 ≤ blocks
      by (inl (objects, free, le)) =
          let few = sum_le (λ j. pointers_set (node_in state image (page_for slot (j + 1)))) (λ j. if nat_lt j objects then 68 else 0) 64 (λ j lt. at j lt (nat_lt j objects) refl) in
          let all = bounded objects 64 in
          omega (arith, few, all, le)
        where
          at : (j : ℕ) → j < 64 → (a : Bool) → nat_lt j objects ≡ a → pointers_set (node_in state image (page_for slot (j + 1))) ≤ (if a then 68 else 0)
          at j lt true e = few_here slot j low lt
          at j lt false e =
              let high : objects ≤ j = grind (arith, nat_tests, e) in
              let none = none_here slot j low lt (free (j + 1) (omega (arith, high)) (omega (arith, lt))) in
              omega (arith, none)
      by (inr (trimmed, le)) =
          let few = sum_le (λ j. pointers_set (node_in state image (page_for slot (j + 1)))) (λ j. anode_blocks (anode_at (slots slot) (j + 1))) 64 (λ j lt. trimmed_here slot j low lt (trimmed (j + 1) (omega arith) (omega (arith, lt)))) in
          let all = slot_list anode_blocks (slots slot) (keeps.each slot low).count in
          omega (arith, few, all, le)

  all_slots : (promised : ℕ → ℕ) → ((slot : ℕ) → slot < 16 → IsCovered (slots slot) slot state image (promised slot)) → (k : ℕ) → k ≤ 16 → sum_below at_page (2 + 66 * k) ≤ sum_below promised k
  all_slots promised covered zero le = let none = sum_zero at_page 2 (λ j lt. not_anode j (omega (arith, lt))) in omega (arith, none)
  all_slots promised covered (suc k) le =
      let rest = all_slots promised covered k (omega (arith, le)) in
      let parts = sum_split at_page (2 + 66 * k) 66 in
      let here = one_slot k (promised k) (omega (arith, le)) (covered k (omega (arith, le))) in
      let e : 2 + 66 * suc k ≡ 2 + 66 * k + 66 = omega arith in
      let same : sum_below at_page (2 + 66 * suc k) ≡ sum_below at_page (2 + 66 * k + 66) = (λ i. sum_below at_page (e i)) in
      (let more = sum_more promised k in omega (arith, rest, parts, here, same, more))

  pub all_few : (promised : ℕ → ℕ) → ((slot : ℕ) → slot < 16 → IsCovered (slots slot) slot state image (promised slot)) → all_pointers state image ≤ sum_below promised 16
  unfolding at_page
  all_few promised covered = all_slots promised covered 16 (omega arith)
