-- The blocks that promises leave free.
use Rattle.std.proofs.Common.{◌≡◌, ◌<◌, ◌≤◌, ℕ, zero, suc, ◌+◌, ◌-◌, List, [], ◌∷◌, length, take, get_or, refl, sym, ◌∙◌, ap, inl, inr, subst, arith}
use Rattle.std.specs.Prelude.{true, false, if◌then◌else◌, Option, Some, None, is_none, unwrap_or, slice_get, replicate}
use Rattle.std.specs.List.{sum_by}
use Rattle.std.specs.Option.{option_map_or, option_and_then}
use Rattle.std.proofs.lemmas.Bool.{false≢true}
use Rattle.std.proofs.Math.Seq.{take-suc}
use Rattle.std.proofs.lemmas.List.{take_all}
use Rattle.std.proofs.lemmas.List.Sums.{sum_by-cons, sum_by_push}
use Rattle.std.proofs.lemmas.Option.{unwrap_or-slice_get, slice_get-get_or}
use Rattle.base_types.specs.View.{View}
use Rattle.tree_objects.specs.declared.content.Anode.{Anode}
use Rattle.tree_objects.specs.declared.content.Object.{Object}
use Rattle.tree_objects.specs.Objects.{blocks_of}
use Rattle.tree_filesets.specs.Founding.{unused_anode}
use Rattle.tree_filesets.specs.Promises.{anode_blocks, clone_promise, new_promise, promise}
use Rattle.store_state.specs.Founding.{held_promise, promised}
use Rattle.store_state.specs.State.{held_at, is_gone}
use Rattle.store_state.specs.declared.state.Holding.{Holding}
use Rattle.store_state.specs.declared.state.Stay.{Stay}
use Rattle.store_state.specs.declared.state.Stay.TheVariants.{Writable, Clone, Leaving, Arriving, Gone}
use Rattle.store_state.specs.declared.state.StoreState.{StoreState}
use Rattle.store_records.specs.Stored.{StaysRight, IsStored}
use Rattle.disk_log.specs.Contents.{contents_of}
use Rattle.disk_log.specs.Log.{disk_of, state_of}
use Rattle.disk_log.specs.State.{State}
use Rattle.disk_log.specs.declared.log.Log.{Log}
use Rattle.disk_anode.specs.Room.{free_blocks}
use Rattle.disk_objects.specs.Holds.{sum_below}
use Rattle.disk_objects.proofs.Room.{room_left}
use Rattle.disk_objects.specs.Objects.{anode_at, kept_anodes, AreKept, AreTrimmed, IsCovered}
use Rattle.disk_objects.proofs.ObjectRoom.{all_few}
use Rattle.disk_records.specs.Stored.{AreHeld, SaysSlot}
use Rattle.disk_acts.specs.Records.{HasStage, HasNow}
use Rattle.disk_acts.proofs.Transacting.{stage_now}
use Rattle.disk_acts.specs.Batch.{AreClonesTrimmed, Rests}
use Rattle.disk_acts.proofs.Free.{count_same}

object_none : (object : Option Object) → is_none object ≡ true → option_map_or (λ o. blocks_of o.content) object 0 ≡ 0
object_none None none = refl
object_none (Some o) none = absurd (false≢true none)

-- anodes without objects have no blocks
all_none : (xs : List Anode) → ((i : ℕ) → i < length xs → is_none (get_or xs i unused_anode).object ≡ true) → sum_by anode_blocks xs ≡ 0
all_none [] none = refl
all_none (x ∷ xs) none =
    let first = object_none x.object (none 0 (omega arith)) in
    let rest = all_none xs (λ i lt. none (suc i) (omega (arith, lt))) in
    let both = sum_by-cons anode_blocks x xs in
    omega (arith, first, rest, both)

head_same : {X : Type 0} (x y : X) (xs ys : List X) → x ∷ xs ≡ y ∷ ys → x ≡ y
head_same x y xs ys e = cc

tail_same : {X : Type 0} (x y : X) (xs ys : List X) → x ∷ xs ≡ y ∷ ys → xs ≡ ys
tail_same x y xs ys e = cc

-- so those of a slot have the blocks of what is held there
held_sum : (xs held : List Anode) → take (length held) xs ≡ held → ((i : ℕ) → length held ≤ i → i < length xs → is_none (get_or xs i unused_anode).object ≡ true)
    → sum_by anode_blocks xs ≡ sum_by anode_blocks held
held_sum xs [] front none = all_none xs (λ i lt. none i (omega arith) lt)
held_sum [] (h ∷ held) front none = absurd (let e = ap length front in omega (arith, e))
held_sum (x ∷ xs) (h ∷ held) front none =
    let first = head_same x h (take (length held) xs) held front in
    let rest = held_sum xs held (tail_same x h (take (length held) xs) held front) (λ i le lt. none (suc i) (omega (arith, le)) (omega (arith, lt))) in
    sum_by-cons anode_blocks x xs ∙ (λ i. anode_blocks (first i) + rest i) ∙ sym (sum_by-cons anode_blocks h held)

-- an unused slot has no object
all_unused : (n i : ℕ) → get_or (replicate n unused_anode) i unused_anode ≡ unused_anode
all_unused zero i = refl
all_unused (suc n) zero = refl
all_unused (suc n) (suc i) = all_unused n i

-- each slot is covered by what it is promised, where clones have no pointers past their lengths
slot_covered : (state : StoreState) (found : Option Holding) (slot : ℕ) (log : State) (image : List ℕ) (anodes : List Anode) (header numbers : List ℕ) → AreKept anodes → SaysSlot found anodes header numbers
    → ((holding : Holding) → found ≡ Some holding → IsStored state holding) → ((holding : Holding) → found ≡ Some holding → holding.stay ≡ Clone → AreTrimmed slot log image)
    → IsCovered anodes slot log image (held_promise found)
slot_covered state None slot log image anodes header numbers kept says stored trimmed = inl (0, λ a high low. free a, omega arith)
  where
    free : (a : ℕ) → is_none (anode_at anodes a).object ≡ true
    free a =
        (λ i. is_none (unwrap_or (slice_get (says.anodes_unused i) (a - 1)) unused_anode).object)
        ∙ (λ i. is_none (unwrap_or-slice_get (replicate 64 unused_anode) (a - 1) unused_anode i).object)
        ∙ (λ i. is_none (all_unused 64 (a - 1) i).object)
slot_covered state (Some holding) slot log image anodes header numbers kept says stored trimmed = by holding.stay refl (stored holding refl).stay
  where
    held : AreHeld holding anodes
    held = says.anodes_are

    behind : (i : ℕ) → length holding.fileset.anodes ≤ i → i < length anodes → is_none (get_or anodes i unused_anode).object ≡ true
    behind i le lt =
        let full = kept.count in
        let e : suc i - 1 ≡ i = omega arith in
        let same : anode_at anodes (suc i) ≡ get_or anodes i unused_anode = (λ j. unwrap_or (slice_get anodes (e j)) unused_anode) ∙ unwrap_or-slice_get anodes i unused_anode in
        subst (λ (a : Anode). is_none a.object ≡ true) same (held.rest (suc i) (omega (arith, le)) (omega (arith, lt, full)))

    writable : (stay : Stay) → holding.stay ≡ stay → is_gone stay ≡ false → holding.fileset.read_only ≡ false → length holding.fileset.anodes ≤ holding.fileset.objects
        → IsCovered anodes slot log image (held_promise (Some holding))
    writable stay e there right le =
        let is : held_promise (Some holding) ≡ new_promise holding.fileset.objects =
        (λ j. if is_gone (e j) then 0 else promise holding.fileset) ∙ (λ j. if there j then 0 else if right j then clone_promise holding.fileset else new_promise holding.fileset.objects) in
        inl (holding.fileset.objects, λ a high low. held.rest a (omega (arith, high, le)) low, omega (arith, is))

    by : (stay : Stay) → holding.stay ≡ stay → StaysRight state holding.fileset stay → IsCovered anodes slot log image (held_promise (Some holding))
    by Writable e right = let count = right.0.count in writable Writable e refl right.1 (omega (arith, count))
    by Clone e right =
        let is : held_promise (Some holding) ≡ clone_promise holding.fileset =
        (λ j. if is_gone (e j) then 0 else if right.1 j then clone_promise holding.fileset else new_promise holding.fileset.objects) in
        let same = held_sum anodes holding.fileset.anodes held.front behind in
        inr (trimmed holding refl e, omega (arith, is, same))
    by (Leaving to ship) e right = let count = right.0.count in writable (Leaving to ship) e refl right.1 (omega (arith, count))
    by (Arriving from ship parts) e right = let count = right.0.count in let most = right.0.most in writable (Arriving from ship parts) e refl right.1 (omega (arith, count, most))
    by (Gone to) e right =
        let none : length holding.fileset.anodes ≡ 0 = ap length right.0 in
        inl (0, λ a high low. held.rest a (omega (arith, none, high)) low, omega arith)

sum_held : (xs : List (Option Holding)) (k : ℕ) → k ≤ length xs → sum_below (λ s. held_promise (held_at xs s)) k ≡ sum_by held_promise (take k xs)
unfolding sum_below
sum_held xs zero le = refl
sum_held xs (suc k) le =
    let rest = sum_held xs k (omega (arith, le)) in
    let there : held_at xs k ≡ get_or xs k None = ap (option_and_then (λ slot. slot)) (slice_get-get_or xs k None (omega (arith, le))) in
    (λ i. rest i + held_promise (there i)) ∙ sym (sum_by_push held_promise (take k xs) (get_or xs k None)) ∙ (λ i. sum_by held_promise (sym (take-suc xs k None (omega (arith, le))) i))

-- so 1,024 blocks are free once all is durable
module _ {D : Type 0} (tells : Type 0) (view : D → View) (log : Log D) (state : StoreState) (rests : Rests tells view state log) (told : tells)
    (trimmed : AreClonesTrimmed state (state_of log) (view (disk_of log)).image) where
  abbrev Image : List ℕ
  Image = (view (disk_of log)).image

  pub many_free : 1024 ≤ free_blocks (state_of log) Image
  many_free =
      let own = rests.own told in
      let now : HasNow state (state_of log) Image =
      stage_now tells view log rests.idle told state (subst (λ (k : ℕ). HasStage state k (contents_of view log)) (sym rests.last) (rests.held told)) in
      let slots : ℕ → List Anode = now.0 in
      let says = now.1.says in
      let covered : (s : ℕ) → s < 16 → IsCovered (slots s) s (state_of log) Image (held_promise (held_at state.slots s)) =
      λ s lt. slot_covered state (held_at state.slots s) s (state_of log) Image (slots s) _ _ (now.1.each s lt) (says.slot s lt) (λ holding is. own.storable.each s holding is) (λ holding is stay. trimmed s holding lt is stay) in
      let left = room_left (kept_anodes slots) (state_of log) Image now.1.held (λ b lt none. count_same tells view log rests.idle rests.last told b ∙ none) in
      let few = all_few slots (state_of log) Image (record { held = now.1.held; each = now.1.each }) (λ s. held_promise (held_at state.slots s)) covered in
      let size = own.storable.limits.table in
      let all = sum_held state.slots 16 (omega (arith, size)) in
      let whole : sum_by held_promise (take 16 state.slots) ≡ promised state.slots = (λ i. sum_by held_promise (take_all 16 state.slots (omega (arith, size)) i)) in
      let room = own.storable.room in
      let blocks = own.blocks in
      omega (arith, left, few, all, whole, room, blocks)
