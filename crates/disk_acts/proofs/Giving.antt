-- What a give-back leaves in a slot.
use Rattle.std.proofs.Common.{◌≡◌, ◌≢◌, ◌≤◌, ◌<◌, ℕ, zero, suc, ◌-◌, List, [], ◌∷◌, length, take, refl, sym, subst, ◌∙◌, ap, arith, inl, inr, ◌⊎◌, Option, Some, None}
use Rattle.std.specs.Prelude.{Bool, true, false, ◌==◌, ◌&&◌, not, if◌then◌else◌, slice_get, is_none, unwrap_or, nat_lt}
use Rattle.std.specs.Option.{option_map, option_map_or, option_and_then}
use Rattle.std.proofs.lemmas.Bool.{and_parts, false≢true, cases_eq}
use Rattle.std.proofs.lemmas.List.{length-take}
use Rattle.std.proofs.lemmas.Bool.Decides.{nat_tests}
use Rattle.base_types.specs.Lists.{changed_at}
use Rattle.base_types.specs.declared.ids.Fid.{Fid}
use Rattle.base_types.specs.declared.ids.FilesetId.{FilesetId}
use Rattle.base_types.specs.declared.ids.HostId.{HostId}
use Rattle.tree_calls.specs.declared.part.Piece.{Piece}
use Rattle.tree_calls.specs.declared.ship.Record.{Record}
use Rattle.tree_objects.specs.declared.content.Anode.{Anode}
use Rattle.tree_objects.specs.declared.content.Content.{Content}
use Rattle.tree_objects.specs.declared.content.Content.TheVariants.{Dir, File}
use Rattle.tree_objects.specs.declared.content.Object.{Object}
use Rattle.tree_objects.specs.Changes.{anode_changed}
use Rattle.tree_objects.specs.Objects.{is_dir}
use Rattle.tree_filesets.specs.Founding.{unused_anode}
use Rattle.tree_filesets.specs.Laws.{is_file_at}
use Rattle.tree_filesets.specs.Updates.{changed, updated}
use Rattle.tree_filesets.specs.Walk.{object_at}
use Rattle.store_acts.specs.Acts.{act_done}
use Rattle.store_acts.specs.declared.act.Act.TheVariants.{Give}
use Rattle.store_state.specs.Giving.{content_given, held_given, give_outcome}
use Rattle.tree_calls.specs.declared.reply.Refusal.TheVariants.{NoFileset}
use Rattle.tree_calls.specs.declared.reply.Reply.TheVariants.{Ok as Accepted, Refused}
use Rattle.store_records.proofs.Tables.{held_changed_other}
use Rattle.store_state.specs.Outcomes.{fresh as applied, not_fresh, unless_before, applied_before, give_applied}
use Rattle.store_state.specs.State.{held_at, held_noted, is_of, is_server, is_writable, record_of, records_of, slot_so, with_held, with_record}
use Rattle.store_state.specs.declared.done.Done.{Done}
use Rattle.store_state.specs.declared.state.Holding.{Holding}
use Rattle.store_state.specs.declared.state.StoreState.{StoreState}
use Rattle.store_state.proofs.Slots.{held_changed}
use Rattle.disk_objects.proofs.Places.{at_other}
use Rattle.disk_fileset.specs.Slots.{is_file, IsFile}
use Rattle.disk_records.specs.Stored.{AreHeld}

mapped_some : (o : Option Holding) (f : Holding → Holding) (is : Holding) → option_map f o ≡ Some is → (was : Holding) × (o ≡ Some was) × (is ≡ f was)
mapped_some None f is e = absurd (cc)
mapped_some (Some was) f is e = (was, refl, cc)

-- a slot of a store with what is kept of requests changed
noted_at : (mid : StoreState) (id : FilesetId) (host : HostId) (change : Record → Record) (at : ℕ) (is : Holding) → held_at (with_record mid id host change).slots at ≡ Some is
    → (was : Holding) × (held_at mid.slots at ≡ Some was) × (is.fileset ≡ was.fileset)
noted_at mid id host change at is e = by (is_server id) e
  where
    other : (place : ℕ) → (at ≡ place) ⊎ (at ≢ place) → held_at (changed_at mid.slots place (option_map (held_noted host change))) at ≡ Some is → (was : Holding) × (held_at mid.slots at ≡ Some was) × (is.fileset ≡ was.fileset)
    other place (inl same) e =
        let there = sym (held_changed mid.slots at (held_noted host change)) ∙ (λ i. held_at (changed_at mid.slots (same i) (option_map (held_noted host change))) at) ∙ e in
        let found = mapped_some (held_at mid.slots at) (held_noted host change) is there in
        (found.0, found.1, ap (λ (h : Holding). h.fileset) found.2)
    other place (inr apart) e = (is, sym (held_changed_other mid.slots place at (held_noted host change) apart) ∙ e, refl)

    by : (b : Bool) → held_at (if b then record mid { records = changed_at mid.records host.0 change } else with_held mid (slot_so (is_of id) mid.slots) (held_noted host change)).slots at ≡ Some is
        → (was : Holding) × (held_at mid.slots at ≡ Some was) × (is.fileset ≡ was.fileset)
    by true e = (is, e, refl)
    by false e = other (slot_so (is_of id) mid.slots) (cases_eq at (slot_so (is_of id) mid.slots)) e

-- what was applied before isn't fresh
not_applied : (state : StoreState) (id : FilesetId) (host : HostId) (number : ℕ) (done : Done) → applied_before state id host number ≡ Some done → done.fresh ≡ false
not_applied state id host number done e = by (records_of state id) e
  where
    test : (b : Bool) → (if b then None else Some (not_fresh Accepted)) ≡ Some done → done.fresh ≡ false
    test true e = absurd (cc)
    test false e = let same : not_fresh Accepted ≡ done = cc in ap (λ (d : Done). d.fresh) (sym same)

    by : (o : Option (List Record)) → option_map_or (λ records. if nat_lt (record_of records host).give number then None else Some (not_fresh Accepted)) o (Some (not_fresh (Refused NoFileset))) ≡ Some done → done.fresh ≡ false
    by None e = (let same : not_fresh (Refused NoFileset) ≡ done = cc in ap (λ (d : Done). d.fresh) (sym same))
    by (Some records) e = test (nat_lt (record_of records host).give number) e

pub given_is : (old : StoreState) (host : HostId) (number : ℕ) (fid : Fid) (pieces : List Piece) (given : Option ℕ) (at : ℕ) (is : Holding) → at ≡ slot_so (is_of fid.fileset) old.slots
    → (act_done old (Give host number fid pieces given)).done.fresh ≡ true → held_at (act_done old (Give host number fid pieces given)).state.slots at ≡ Some is
    → (was : Holding) × (held_at old.slots at ≡ Some was) × (is.fileset ≡ (held_given fid pieces given was).fileset)
unfolding act_done give_outcome
given_is old host number fid pieces given at is here fresh e = by (applied_before old fid.fileset host number) refl fresh e
  where
    by : (o : Option Done) → applied_before old fid.fileset host number ≡ o
        → (unless_before o old (applied Accepted (with_record (with_held old (slot_so (is_of fid.fileset) old.slots) (held_given fid pieces given)) fid.fileset host (give_applied number)))).done.fresh ≡ true
        → held_at (unless_before o old (applied Accepted (with_record (with_held old (slot_so (is_of fid.fileset) old.slots) (held_given fid pieces given)) fid.fileset host (give_applied number)))).state.slots at ≡ Some is
        → (was : Holding) × (held_at old.slots at ≡ Some was) × (is.fileset ≡ (held_given fid pieces given was).fileset)
    by (Some done) k fresh e = absurd (false≢true (sym (not_applied old fid.fileset host number done k) ∙ fresh))
    by None k fresh e =
        let noted = noted_at (with_held old (slot_so (is_of fid.fileset) old.slots) (held_given fid pieces given)) fid.fileset host (give_applied number) at is e in
        let there = sym (held_changed old.slots at (held_given fid pieces given)) ∙ (λ i. held_at (changed_at old.slots (here i) (option_map (held_given fid pieces given))) at) ∙ noted.1 in
        let found = mapped_some (held_at old.slots at) (held_given fid pieces given) noted.0 there in
        (found.0, found.1, noted.2 ∙ ap (λ (h : Holding). h.fileset) found.2)

-- whether it is given
pub not_given : (fid : Fid) (pieces : List Piece) (given : Option ℕ) (was : Holding) → (is_writable was.stay && is_file_at was.fileset fid) ≡ false → (held_given fid pieces given was).fileset ≡ was.fileset
not_given fid pieces given was off = λ i. (if off i then record was { fileset = changed was.fileset fid.anode (content_given pieces given) } else was).fileset

pub is_given : (fid : Fid) (pieces : List Piece) (given : Option ℕ) (was : Holding) → (is_writable was.stay && is_file_at was.fileset fid) ≡ true
    → (held_given fid pieces given was).fileset.anodes ≡ changed_at was.fileset.anodes (fid.anode - 1) (anode_changed (content_given pieces given))
unfolding updated
is_given fid pieces given was on = λ i. (if on i then record was { fileset = changed was.fileset fid.anode (content_given pieces given) } else was).fileset.anodes

-- the file that is there
got_take : (n : ℕ) (xs : List Anode) (at : ℕ) (a : Anode) → slice_get (take n xs) at ≡ Some a → slice_get xs at ≡ Some a
got_take zero xs at a e = absurd (cc)
got_take (suc n) [] at a e = e
got_take (suc n) (x ∷ xs) zero a e = e
got_take (suc n) (x ∷ xs) (suc at) a e = got_take n xs at a e

got_low : (xs : List Anode) (at : ℕ) (a : Anode) → slice_get xs at ≡ Some a → at < length xs
got_low [] at a e = absurd (cc)
got_low (x ∷ xs) zero a e = omega arith
got_low (x ∷ xs) (suc at) a e = let h = got_low xs at a e in omega (arith, h)

file_of : (content : Content) → not (is_dir content) ≡ true → is_file content ≡ true
file_of (Dir entries lists) e = e
file_of (File list kept unsaved len) e = refl

pub record IsFileHeld (anode : ℕ) (was : Holding) : Type 0 where
  pub place : Anode
  pub some : 1 ≤ anode
  pub there : slice_get was.fileset.anodes (anode - 1) ≡ Some place
  pub file : option_map_or (λ object. is_file object.content) place.object false ≡ true

pub file_held : (fid : Fid) (was : Holding) → (is_writable was.stay && is_file_at was.fileset fid) ≡ true → IsFileHeld fid.anode was
file_held fid was on = object_is (object_at was.fileset.anodes fid.anode) refl (and_parts _ _ (and_parts (is_writable was.stay) (is_file_at was.fileset fid) on).1).1
  where
    kept : (place : Anode) (object : Object) → place.object ≡ Some object → not (is_dir object.content) ≡ true → option_map_or (λ object. is_file object.content) place.object false ≡ true
    kept place object e file = (λ i. option_map_or (λ object. is_file object.content) (e i) false) ∙ file_of object.content file

    got : (object : Object) → not (is_dir object.content) ≡ true → (fid.anode == 0) ≡ false → (o : Option Anode) → slice_get was.fileset.anodes (fid.anode - 1) ≡ o → option_and_then (λ a. a.object) o ≡ Some object → IsFileHeld fid.anode was
    got object file off None e k = absurd (cc)
    got object file off (Some place) e k = record { place = place; some = grind (arith, nat_tests, off); there = e; file = kept place object k file }

    at_test : (object : Object) → not (is_dir object.content) ≡ true → (b : Bool) → (fid.anode == 0) ≡ b → (if b then None else option_and_then (λ a. a.object) (slice_get was.fileset.anodes (fid.anode - 1))) ≡ Some object → IsFileHeld fid.anode was
    at_test object file true b k = absurd (cc)
    at_test object file false b k = got object file b (slice_get was.fileset.anodes (fid.anode - 1)) refl k

    object_is : (o : Option Object) → object_at was.fileset.anodes fid.anode ≡ o → option_map_or (λ object. not (is_dir object.content)) o false ≡ true → IsFileHeld fid.anode was
    object_is None e file = absurd (false≢true file)
    object_is (Some object) e file = at_test object file (fid.anode == 0) refl e

pub file_there : (anode slot : ℕ) (was : Holding) (slots : ℕ → List Anode) → AreHeld was (slots slot) → IsFileHeld anode was → IsFile slot anode slots
file_there anode slot was slots are held =
    let at : slice_get (slots slot) (anode - 1) ≡ Some held.place = got_take (length was.fileset.anodes) (slots slot) (anode - 1) held.place ((λ i. slice_get (are.front i) (anode - 1)) ∙ held.there) in
    (λ i. option_map_or (λ object. is_file object.content) (unwrap_or (at i) unused_anode).object false) ∙ held.file

pub file_low : (anode : ℕ) (was : Holding) (list : List Anode) → length list ≡ 64 → AreHeld was list → IsFileHeld anode was → anode ≤ 64
file_low anode was list size are held =
    let low = got_low was.fileset.anodes (anode - 1) held.place held.there in
    let few = ap length are.front in
    let cut = length-take (length was.fileset.anodes) list in
    omega (arith, low, few, cut, size)

-- the anodes that are held then
take_changed : (n : ℕ) (xs : List Anode) (i : ℕ) (f : Anode → Anode) → take n (changed_at xs i f) ≡ changed_at (take n xs) i f
take_changed zero xs i f = refl
take_changed (suc n) [] i f = refl
take_changed (suc n) (x ∷ xs) zero f = refl
take_changed (suc n) (x ∷ xs) (suc i) f = ap (λ ys. x ∷ ys) (take_changed n xs i f)

length_changed : (xs : List Anode) (i : ℕ) (f : Anode → Anode) → length (changed_at xs i f) ≡ length xs
length_changed [] i f = refl
length_changed (x ∷ xs) zero f = refl
length_changed (x ∷ xs) (suc i) f = ap suc (length_changed xs i f)

pub held_changed_to : (anode : ℕ) (f : Anode → Anode) (was is : Holding) (list : List Anode) → is.fileset.anodes ≡ changed_at was.fileset.anodes (anode - 1) f → IsFileHeld anode was → AreHeld was list
    → AreHeld is (changed_at list (anode - 1) f)
held_changed_to anode f was is list anodes held are =
    let low = got_low was.fileset.anodes (anode - 1) held.place held.there in
    let size : length is.fileset.anodes ≡ length was.fileset.anodes = ap length anodes ∙ length_changed was.fileset.anodes (anode - 1) f in
    record {
      front = (λ i. take (size i) (changed_at list (anode - 1) f)) ∙ take_changed (length was.fileset.anodes) list (anode - 1) f ∙ (λ i. changed_at (are.front i) (anode - 1) f) ∙ sym anodes;
      rest = λ n above most. (let some = held.some in
          subst (λ (a : Anode). is_none a.object ≡ true) (sym (at_other list anode n f (λ e. absurd (omega (arith, e, above, size, low, some)))))
          (are.rest n (omega (arith, above, size)) most));
    }
