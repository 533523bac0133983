-- What a clone has in its slot.
use Rattle.std.proofs.Common.{◌≡◌, ◌<◌, ℕ, zero, suc, ◌+◌, ◌-◌, List, [], ◌∷◌, length, map, set, take, refl, sym, subst, ◌∙◌, ap, arith, Option, Some, None}
use Rattle.std.specs.Prelude.{not, Result, Ok, Err, slice_get, unwrap_or, IfSome}
use Rattle.std.specs.Option.{option_map, option_map_or}
use Rattle.base_types.specs.Outcomes.{either}
use Rattle.base_types.specs.declared.ids.HostId.{HostId}
use Rattle.base_types.specs.declared.ids.ServerId.{ServerId}
use Rattle.base_types.specs.declared.user.User.{User}
use Rattle.tree_calls.specs.Rosters.{user_of}
use Rattle.tree_calls.specs.declared.call.Call.TheVariants.{CloneFileset}
use Rattle.tree_calls.specs.declared.reply.Refusal.{Refusal}
use Rattle.tree_calls.specs.declared.reply.Refusal.TheVariants.{Denied}
use Rattle.tree_calls.specs.declared.reply.Reply.TheVariants.{Ok as Accepted}
use Rattle.tree_objects.specs.declared.content.Anode.{Anode}
use Rattle.tree_objects.specs.declared.content.Content.{Content}
use Rattle.tree_objects.specs.declared.content.Content.TheVariants.{Dir, File}
use Rattle.tree_objects.specs.declared.content.Object.{Object}
use Rattle.tree_objects.specs.Changes.{content_as_cloned}
use Rattle.tree_objects.specs.Objects.{object_as_cloned}
use Rattle.tree_objects.proofs.Lawful.{over_itself}
use Rattle.tree_filesets.specs.Founding.{anode_as_cloned, cloned, control_check, unused_anode}
use Rattle.tree_filesets.specs.Promises.{clone_promise}
use Rattle.tree_filesets.specs.declared.fileset.Fileset.{Fileset}
use Rattle.tree_filesets.proofs.Targets.{then_ok, ok_is}
use Rattle.store_acts.specs.Acts.{act_done, do_outcome}
use Rattle.store_acts.specs.declared.act.Act.TheVariants.{Do}
use Rattle.store_state.specs.Founding.{free_slot, source_named, why_absent, room_for, clone_target, clone_answer, next_id, with_new}
use Rattle.store_state.specs.Outcomes.{unless_before, decided, decided_before, refuse}
use Rattle.store_state.specs.Rows.{answer_to, answer_for}
use Rattle.store_state.specs.State.{held_at, held_so, is_here_as, no_records, slot_so}
use Rattle.store_state.specs.declared.done.Done.{Done}
use Rattle.store_state.specs.declared.state.Holding.{Holding}
use Rattle.store_state.specs.declared.state.Stay.TheVariants as stays
use Rattle.store_state.specs.declared.state.StoreState.{StoreState}
use Rattle.disk_objects.specs.Objects.{anode_at, FitsContent, FitsObject, AreKept}
use Rattle.disk_records.specs.Stored.{AreHeld}
use Rattle.disk_acts.proofs.FreeSlot.{free_none}
use Rattle.disk_acts.proofs.Touching.{room_slot}

-- what was cloned
pub record IsCloned (old : StoreState) (at : ℕ) (source : List ℕ) (is : Holding) : Type 0 where
  pub free : held_at old.slots at ≡ None
  pub from : Holding
  pub there : held_at old.slots (slot_so (is_here_as source) old.slots) ≡ Some from
  pub anodes : is.fileset.anodes ≡ map anode_as_cloned from.fileset.anodes

set_is : (slots : List (Option Holding)) (at : ℕ) (other is : Holding) → held_at (set slots at (Some other)) at ≡ Some is → is ≡ other
set_is [] at other is e = absurd (cc)
set_is (slot ∷ slots) zero other is e = cc
set_is (slot ∷ slots) (suc at) other is e = set_is slots at other is e

module _ (old : StoreState) (at : ℕ) (source new : List ℕ) (is : Holding) (here : at ≡ free_slot old.slots) where
  nothing : held_at old.slots at ≡ None
  nothing = ap (held_at old.slots) here ∙ free_none old.slots

  not_old : held_at old.slots at ≡ Some is → IsCloned old at source is
  not_old e = let both : None ≡ Some is = sym nothing ∙ e in absurd (cc)

  source_held : (fileset : Fileset) → source_named old source ≡ Ok fileset → (from : Holding) × (held_so (is_here_as source) old.slots ≡ Some from) × (from.fileset ≡ fileset)
  source_held fileset e = by (held_so (is_here_as source) old.slots) refl e
    where
      by : (o : Option Holding) → held_so (is_here_as source) old.slots ≡ o → option_map_or (λ holding. Ok holding.fileset) o (Err (why_absent old source)) ≡ Ok fileset
          → (from : Holding) × (held_so (is_here_as source) old.slots ≡ Some from) × (from.fileset ≡ fileset)
      by None k e = absurd (cc)
      by (Some from) k e = (from, k, cc)

  put_is : (slot : ℕ) (other : Holding) → free_slot old.slots ≡ slot → held_at (set old.slots slot (Some other)) at ≡ Some is → is ≡ other
  put_is slot other same e = set_is old.slots at other is ((λ i. held_at (set old.slots ((here ∙ same) i) (Some other)) at) ∙ e)

  -- the target of a clone
  cloned_is : (user : User) → held_at (clone_answer old user source new).state.slots at ≡ Some is → IsCloned old at source is
  unfolding clone_answer clone_target cloned
  cloned_is user e = by (clone_target old user source new) refl e
    where
      parts : (fileset : Fileset) (slot : ℕ) → clone_target old user source new ≡ Ok (fileset, slot) → (source_named old source ≡ Ok fileset) × (free_slot old.slots ≡ slot)
      parts fileset slot e =
          let (found, is_found, a) = then_ok (source_named old source) _ (fileset, slot) e in
          let (checked, is_checked, b) = then_ok (control_check found user) _ (fileset, slot) a in
          let (place, is_place, c) = then_ok (room_for old new (clone_promise found)) _ (fileset, slot) b in
          let pair : (found, place) ≡ (fileset, slot) = ok_is _ _ c in
          (is_found ∙ ap (λ (p : Fileset × ℕ). Ok p.0) pair, room_slot old new (clone_promise found) place is_place ∙ ap (λ (p : Fileset × ℕ). p.1) pair)

      by : (target : Result (Fileset × ℕ) Refusal) → clone_target old user source new ≡ target
          → held_at (either target (λ (fileset, slot). record { reply = Accepted; state = with_new old slot stays.Clone (cloned fileset (next_id old) new) }) (refuse old)).state.slots at ≡ Some is
          → IsCloned old at source is
      by (Err refusal) k e = not_old e
      by (Ok (fileset, slot)) k e =
          let (found, place) = parts fileset slot k in
          let source_is = source_held fileset found in
          let same = put_is slot (record { stay = stays.Clone; fileset = cloned fileset (next_id old) new; records = no_records }) place e in
          record {
            free = nothing;
            from = source_is.0;
            there = source_is.1;
            anodes = ap (λ (h : Holding). h.fileset.anodes) same ∙ ap (λ (f : Fileset). map anode_as_cloned f.anodes) (sym source_is.2);
          }

  pub clone_is : (host : HostId) (number : ℕ) (server : ServerId) → held_at (act_done old (Do host number (CloneFileset server source new))).state.slots at ≡ Some is → IsCloned old at source is
  unfolding act_done do_outcome answer_to answer_for
  clone_is host number server e = by_done (decided_before old (record { 0 = 0 }) host number) e
    where
      by_user : (o : Option User) → held_at (option_map_or (answer_for old host (CloneFileset server source new)) o (refuse old (Denied 0))).state.slots at ≡ Some is → IsCloned old at source is
      by_user None e = not_old e
      by_user (Some user) e = cloned_is user e

      by_done : (o : Option Done) → held_at (unless_before o old (decided (record { 0 = 0 }) host number (answer_to old host (CloneFileset server source new)))).state.slots at ≡ Some is → IsCloned old at source is
      by_done (Some done) e = not_old e
      by_done None e = by_user (user_of old.roster host) e

-- what is kept is cloned as it is
content_itself : (content : Content) → FitsContent content → content_as_cloned content ≡ content
content_itself (Dir entries lists) fits = refl
content_itself (File list kept unsaved len) fits =
    let none = fits.1 in
    let whole = fits.2 in
    (λ i. content_as_cloned (File list kept (none i) (whole i))) ∙ (λ i. File list (over_itself kept i) [] None) ∙ (λ i. File list kept (sym none i) (sym whole i))

object_itself : (object : Object) → FitsObject object → object_as_cloned object ≡ object
object_itself object fits = λ i. record { owner = object.owner; group = object.group; content = content_itself object.content fits.content i }

anode_itself : (anode : Anode) → IfSome anode.object FitsObject → anode_as_cloned anode ≡ anode
anode_itself anode fits = by anode.object fits
  where
    by : (o : Option Object) → IfSome o FitsObject → record anode { object = option_map object_as_cloned o } ≡ record anode { object = o }
    by None fits = refl
    by (Some object) fits = λ i. record anode { object = Some (object_itself object fits i) }

map_itself : (xs : List Anode) → ((k : ℕ) (a : Anode) → slice_get xs k ≡ Some a → anode_as_cloned a ≡ a) → map anode_as_cloned xs ≡ xs
map_itself [] each = refl
map_itself (x ∷ xs) each = λ i. each 0 x refl i ∷ map_itself xs (λ k a e. each (suc k) a e) i

got_take : (n : ℕ) (xs : List Anode) (at : ℕ) (a : Anode) → slice_get (take n xs) at ≡ Some a → (slice_get xs at ≡ Some a) × (at < length xs)
got_take zero xs at a e = absurd (cc)
got_take (suc n) [] at a e = absurd (cc)
got_take (suc n) (x ∷ xs) zero a e = (e, omega arith)
got_take (suc n) (x ∷ xs) (suc at) a e = let h = got_take n xs at a e in (h.0, (let lt = h.1 in omega (arith, lt)))

pub kept_itself : (from : Holding) (list : List Anode) → AreKept list → AreHeld from list → map anode_as_cloned from.fileset.anodes ≡ from.fileset.anodes
kept_itself from list kept are = map_itself from.fileset.anodes (λ k a e.
    (let there = got_take (length from.fileset.anodes) list k a ((λ i. slice_get (are.front i) k) ∙ e) in
    let size = kept.count in
    let lt = there.1 in
    let back : k + 1 - 1 ≡ k = omega arith in
    let is : anode_at list (k + 1) ≡ a = (λ i. unwrap_or (slice_get list (back i)) unused_anode) ∙ (λ i. unwrap_or (there.0 i) unused_anode) in
    anode_itself a (subst (λ (x : Anode). IfSome x.object FitsObject) is (kept.each (k + 1) (omega arith) (omega (arith, lt, size))))))

-- so a clone has what its source has
pub held_cloned : (from is : Holding) (list : List Anode) → AreKept list → AreHeld from list → is.fileset.anodes ≡ map anode_as_cloned from.fileset.anodes → AreHeld is list
held_cloned from is list kept are anodes =
    let same : is.fileset.anodes ≡ from.fileset.anodes = anodes ∙ kept_itself from list kept are in
    record {
      front = (λ i. take (length (same i)) list) ∙ are.front ∙ sym same;
      rest = λ anode above few. are.rest anode (let e = ap length same in omega (arith, e, above)) few;
    }
