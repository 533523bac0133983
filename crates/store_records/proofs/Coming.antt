-- A part of a fileset that comes leaves a record that a disk can have, where what is held then may be.
use Rattle.std.proofs.Common.{◌≡◌, ◌<◌, ◌≤◌, ℕ, zero, suc, ◌+◌, List, [], ◌∷◌, ◌++◌, length, replicate, inl, inr, refl, sym, ◌∙◌, ap, arith}
use Rattle.std.specs.Prelude.{Bool, true, false, ◌==◌, not, nat_lt, cond, if◌then◌else◌, Option, Some, None, slice_get}
use Rattle.std.specs.Option.{option_map, option_map_or}
use Rattle.std.proofs.lemmas.Bool.{and_from, and_parts, cases_eq, cond-false, eqb-true, false≢true, ltb-true}
use Rattle.std.proofs.lemmas.List.Folds.{list_all-append}
use Rattle.base_types.specs.declared.access.AccessEntry.{AccessEntry}
use Rattle.base_types.specs.declared.ids.FilesetId.{FilesetId}
use Rattle.base_types.specs.declared.ids.ServerId.{ServerId}
use Rattle.tree_calls.specs.declared.part.DirEntry.{DirEntry}
use Rattle.tree_calls.specs.declared.part.Piece.{Piece}
use Rattle.tree_calls.specs.declared.part.Status.{Status}
use Rattle.tree_objects.specs.declared.content.Anode.{Anode}
use Rattle.tree_objects.specs.declared.content.Content.TheVariants.{Dir, File}
use Rattle.tree_objects.specs.declared.content.Object.{Object as ObjectOf}
use Rattle.tree_filesets.specs.Promises.{new_promise, promise}
use Rattle.tree_filesets.specs.WellFormed.{is_at_rest, is_settled}
use Rattle.store_acts.specs.Moving.{anode_outcome, done_where, held_with}
use Rattle.store_acts.specs.Parts.{anode_of_part}
use Rattle.store_state.proofs.Slots.{first, held_changed, slot_first}
use Rattle.store_state.specs.Founding.{held_promise}
use Rattle.store_state.specs.Giving.{put_pieces}
use Rattle.store_state.specs.Sought.{awaits}
use Rattle.store_state.specs.State.{held_at, held_so, is_gone, is_of, is_used_so, slot_so, with_held}
use Rattle.store_state.specs.declared.state.Holding.{Holding}
use Rattle.store_state.specs.declared.state.Stay.TheVariants.{Writable, Arriving}
use Rattle.store_state.specs.declared.state.StoreState.{StoreState}
use Rattle.store_records.specs.Stored.{IsStored}
use Rattle.store_records.proofs.Calls.{held_fit}
use Rattle.store_records.proofs.Fit.{IsFit, IsChanged, still_slots, stored_on}
use Rattle.store_records.proofs.Tables.{found_passes, held_changed_other}
use Rattle.store_records.specs.Stands.{MayHold}
use Rattle.store_records.proofs.Heads.{Waits, waits}

-- what only one slot has is found there
first_only : (test : Holding → Bool) (slots : List (Option Holding)) (t : ℕ) (b : Holding) → held_at slots t ≡ Some b → test b ≡ true
    → ((s : ℕ) (c : Holding) → held_at slots s ≡ Some c → test c ≡ true → s ≡ t) → first test slots ≡ t
first_only test [] t b there is only = absurd (cc)
first_only test (slot ∷ slots) zero b there is only =
    let passes : is_used_so test slot ≡ true = ap (is_used_so test) there ∙ is in
    ap (λ p. cond (not p) (1 + first test slots) 0) passes
first_only test (None ∷ slots) (suc t) b there is only =
    let rest = first_only test slots t b there is (λ s c e k. (let n : suc s ≡ suc t = only (suc s) c e k in omega (arith, n))) in
    omega (arith, rest)
first_only test (Some other ∷ slots) (suc t) b there is only =
    by (test other) refl (first_only test slots t b there is (λ s c e k. (let n : suc s ≡ suc t = only (suc s) c e k in omega (arith, n))))
  where
    by : (p : Bool) → test other ≡ p → first test slots ≡ t → cond (not p) (1 + first test slots) 0 ≡ suc t
    by true e rest = let n : 0 ≡ suc t = only 0 other refl e in absurd (omega (arith, n))
    by false e rest = omega (arith, rest)

-- what is found is there
used_there : (test : Holding → Bool) (slots : List (Option Holding)) → first test slots < length slots → (a : Holding) × (held_at slots (first test slots) ≡ Some a)
used_there test [] h = absurd (omega (arith, h))
used_there test (None ∷ slots) h =
    let (a, there) = used_there test slots (omega (arith, h)) in
    let n : suc (first test slots) ≡ 1 + first test slots = omega arith in
    (a, ap (held_at (None ∷ slots)) (sym n) ∙ there)
used_there test (Some other ∷ slots) h = by (test other) h (λ k. used_there test slots k)
  where
    by : (b : Bool) → cond (not b) (1 + first test slots) 0 < suc (length slots)
        → (first test slots < length slots → (a : Holding) × (held_at slots (first test slots) ≡ Some a))
        → (a : Holding) × (held_at (Some other ∷ slots) (cond (not b) (1 + first test slots) 0) ≡ Some a)
    by true k rest = (other, refl)
    by false k rest =
        let (a, there) = rest (omega (arith, k)) in
        let n : suc (first test slots) ≡ 1 + first test slots = omega arith in
        (a, ap (held_at (Some other ∷ slots)) (sym n) ∙ there)

pub held_only : (test : Holding → Bool) (slots : List (Option Holding)) (t : ℕ) (b : Holding) → held_at slots t ≡ Some b → test b ≡ true
    → ((s : ℕ) (c : Holding) → held_at slots s ≡ Some c → test c ≡ true → s ≡ t) → held_so test slots ≡ Some b
held_only test slots t b there is only = ap (held_at slots) (slot_first test slots ∙ first_only test slots t b there is only) ∙ there

-- a part tells of nothing unsaved
pub part_rests : (unique : ℕ) (status : Option Status) (pieces : List Piece) (entries : List DirEntry)
    → option_map_or (λ object. is_settled object.content) (anode_of_part unique status pieces entries).object true ≡ true
part_rests unique None pieces entries = refl
part_rests unique (Some status) pieces entries = by status.dir (slice_get status.lists 0)
  where
    by : (dir : Bool) (list : Option (List AccessEntry)) → option_map_or (λ (object : ObjectOf). is_settled object.content)
        (option_map (λ content. record { owner = status.owner; group = status.group; content = content })
        (if dir then Some (Dir entries status.lists) else option_map (λ list. File list (put_pieces (replicate status.length 0) pieces) [] None) list)) true ≡ true
    by true list = refl
    by false None = refl
    by false (Some list) = refl

same_id : (id : FilesetId) (a : Holding) → is_of id a ≡ true → a.fileset.id ≡ id
same_id id a e = let n = eqb-true a.fileset.id.0 id.0 e in λ i. record { 0 = n i }

-- where a part is waited for, and what is held then
abbrev pub awaiting : StoreState → ServerId → ℕ → FilesetId → ℕ → ℕ → ℕ
awaiting state from ship id moves at = slot_so (awaits id from ship moves at) state.slots

abbrev pub taking : StoreState → ServerId → ℕ → FilesetId → ℕ → ℕ → Anode → StoreState
taking state from ship id moves at anode = with_held state (awaiting state from ship id moves at) (held_with from ship at anode)

-- an anode
module _ (state : StoreState) (from : ServerId) (ship : ℕ) (id : FilesetId) (moves at : ℕ) (anode : Anode) (h : IsFit state)
    (settled : option_map_or (λ object. is_settled object.content) anode.object true ≡ true) where
  abbrev place : ℕ
  place = awaiting state from ship id moves at

  abbrev after : StoreState
  after = taking state from ship id moves at anode

  -- it is found by its id
  found_after : (a : Holding) → held_at state.slots place ≡ Some a → held_so (is_of id) after.slots ≡ Some (held_with from ship at anode a)
  found_after a there =
      held_only (is_of id) after.slots place (held_with from ship at anode a) (held_changed state.slots place (held_with from ship at anode) ∙ ap (option_map (held_with from ship at anode)) there) own only
    where
      own : is_of id a ≡ true
      own = (and_parts (is_of id a) _ (and_parts _ _ (found_passes (awaits id from ship moves at) state.slots a there)).0).0

      only : (s : ℕ) (c : Holding) → held_at after.slots s ≡ Some c → is_of id c ≡ true → s ≡ place
      only s c e k =
          elim (cases_eq s place) [
            | inl same ↦ same
            | inr far ↦ absurd ((h.apart s place c a far (sym (held_changed_other state.slots place s (held_with from ship at anode) far) ∙ e) there).ids (same_id id c k ∙ sym (same_id id a own)))
          ]

  turned : (a : Holding) → held_at state.slots place ≡ Some a → IsStored after a → MayHold (held_with from ship at anode a).fileset (held_with from ship at anode a).stay
      → IsChanged state after a (held_with from ship at anode a)
  turned a there one may = by (at == a.fileset.objects) may
    where
      waiting : Waits after from at a
      waiting = waits after id from ship moves at a (found_passes (awaits id from ship moves at) state.slots a there) one.stay

      rested : is_at_rest (record a.fileset { anodes = a.fileset.anodes ++ anode ∷ [] }) ≡ true
      rested =
          list_all-append (λ (x : Anode). option_map_or (λ object. is_settled object.content) x.object true) a.fileset.anodes (anode ∷ [])
          ∙ and_from _ _ one.rest (and_from _ true settled refl)

      promises : promise (record a.fileset { anodes = a.fileset.anodes ++ anode ∷ [] }) ≤ held_promise (Some a)
      promises =
          let (sender, sent, taken, is) = waiting.stays in
          let x : promise (record a.fileset { anodes = a.fileset.anodes ++ anode ∷ [] }) ≡ new_promise a.fileset.objects = cond-false a.fileset.read_only _ _ waiting.writable in
          let y : held_promise (Some a) ≡ new_promise a.fileset.objects = cond-false (is_gone a.stay) _ _ (ap is_gone is) ∙ cond-false a.fileset.read_only _ _ waiting.writable in
          omega (arith, x, y)

      by : (b : Bool) → MayHold (record a.fileset { anodes = a.fileset.anodes ++ anode ∷ [] }) (if b then Writable else Arriving from ship (at + 1))
          → IsChanged state after a (record a {
            stay = if b then Writable else Arriving from ship (at + 1);
            fileset = record a.fileset { anodes = a.fileset.anodes ++ anode ∷ [] };
          })
      by true may = record {
        id = refl;
        name = refl;
        stored = record { server = one.server; id = one.id; name = one.name; rest = rested; stay = (may rested, waiting.writable) };
        promise = promises;
        leaving = inl (λ off. absurd (false≢true off));
      }
      by false may = record {
        id = refl;
        name = refl;
        stored = record { server = one.server; id = one.id; name = one.name; rest = rested; stay = (may, waiting.writable, waiting.other) };
        promise = promises;
        leaving = inl (λ off. absurd (false≢true off));
      }

  -- what is held then is what waited, with the anode
  pub came : nat_lt place (length state.slots) ≡ true → (holding : Holding) → held_so (is_of id) after.slots ≡ Some holding
      → (a : Holding) × (held_so (awaits id from ship moves at) state.slots ≡ Some a) × (holding ≡ held_with from ship at anode a)
  came inside holding there =
      let at_first = slot_first (awaits id from ship moves at) state.slots in
      let below = ltb-true place (length state.slots) inside in
      let (a, here) = used_there (awaits id from ship moves at) state.slots (omega (arith, below, at_first)) in
      let waited : held_at state.slots place ≡ Some a = ap (held_at state.slots) at_first ∙ here in
      let found = found_after a waited in
      let same : holding ≡ held_with from ship at anode a = cc in
      (a, waited, same)

  pub anode_fits : ((holding : Holding) → held_so (is_of id) (anode_outcome state from ship id moves at anode).state.slots ≡ Some holding → MayHold holding.fileset holding.stay)
      → IsFit (anode_outcome state from ship id moves at anode).state
  anode_fits may = by (nat_lt place (length state.slots)) may
    where
      by : (b : Bool) → ((holding : Holding) → held_so (is_of id) (done_where b state after).state.slots ≡ Some holding → MayHold holding.fileset holding.stay) → IsFit (done_where b state after).state
      by false may = h
      by true may =
          held_fit state place (held_with from ship at anode) h (λ a there k.
          turned a there (stored_on state after a (still_slots state _ h) k) (may (held_with from ship at anode a) (found_after a there)))
