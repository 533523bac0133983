-- Calls, and what hosts give back, leave a record that a disk can have.
use Rattle.std.proofs.Common.{◌≡◌, ◌≤◌, ℕ, zero, suc, ◌+◌, ◌-◌, List, [], ◌∷◌, length, replicate, set, take, inl, refl, sym, subst, ◌∙◌, ap, arith}
use Rattle.std.specs.Prelude.{Bool, true, false, IsTrue, ◌==◌, ◌&&◌, not, max, nat_le, if◌then◌else◌, Option, Some, None, IfSome, Result, Ok, Err, unwrap_or, slice_get}
use Rattle.std.specs.Option.{option_map_or, option_and_then}
use Rattle.std.proofs.lemmas.List.{length-append, length-replicate, length-take}
use Rattle.std.proofs.lemmas.Bool.{and_parts, and_from, false≢true, cond-false, le-leb, leb-true}
use Rattle.base_types.specs.Lists.{changed_at}
use Rattle.base_types.specs.Name.{is_name}
use Rattle.base_types.specs.Outcomes.{either}
use Rattle.base_types.specs.declared.ids.Fid.{Fid}
use Rattle.base_types.specs.declared.ids.FilesetId.{FilesetId}
use Rattle.base_types.specs.declared.ids.HostId.{HostId}
use Rattle.base_types.specs.declared.limits.TheConstants.{FILE_BYTES_MAX}
use Rattle.base_types.specs.declared.user.User.{User}
use Rattle.tree_calls.specs.declared.call.Call.{Call}
use Rattle.tree_calls.specs.declared.call.Call.TheVariants.{Rename}
use Rattle.tree_calls.specs.declared.part.Piece.{Piece}
use Rattle.tree_calls.specs.declared.place.Place.{Place}
use Rattle.tree_calls.specs.declared.reply.Refusal.{Refusal}
use Rattle.tree_calls.specs.declared.ship.Record.{Record}
use Rattle.tree_objects.specs.Files.{resized}
use Rattle.tree_objects.specs.Objects.{is_dir}
use Rattle.tree_objects.specs.Sound.{is_sound}
use Rattle.tree_objects.specs.declared.content.Anode.{Anode}
use Rattle.tree_objects.specs.declared.content.Content.{Content}
use Rattle.tree_objects.specs.declared.content.Content.TheVariants.{Dir, File}
use Rattle.tree_objects.specs.declared.content.Object.{Object}
use Rattle.tree_filesets.specs.Laws.{is_file_at}
use Rattle.tree_filesets.specs.Promises.{new_promise, promise}
use Rattle.tree_filesets.specs.Rows.{fileset_answer}
use Rattle.tree_filesets.specs.Updates.{changed, updated}
use Rattle.tree_filesets.specs.Walk.{object_at}
use Rattle.tree_filesets.specs.WellFormed.{is_settled, is_at_rest, IsWellFormed}
use Rattle.tree_filesets.specs.declared.fileset.Fileset.{Fileset}
use Rattle.tree_filesets.proofs.Alike.{HasSameEntries, well_formed_changed}
use Rattle.tree_filesets.proofs.Observations.{object_not_zero}
use Rattle.tree_filesets.proofs.Stays.{stays_itself}
use Rattle.tree_filesets.proofs.StaysWellFormed.{stays_well_formed}
use Rattle.store_acts.specs.Sound.{IsAllowed, IsDecided}
use Rattle.store_state.specs.Giving.{put_bytes, put_pieces, lengthened, content_given, held_given}
use Rattle.store_state.specs.Outcomes.{refuse}
use Rattle.store_state.specs.Rows.{nothing_used, held_answered, named_row, rename_row, move_check}
use Rattle.store_state.specs.Founding.{held_promise}
use Rattle.store_state.specs.State.{held_at, is_here, is_here_as, is_gone, is_of, is_server, is_writable, slot_so, with_held, with_record, held_noted}
use Rattle.store_state.specs.declared.state.Holding.{Holding}
use Rattle.store_state.specs.declared.state.Stay.{Stay}
use Rattle.store_state.specs.declared.state.Stay.TheVariants.{Writable, Clone, Leaving, Arriving, Gone}
use Rattle.store_state.specs.declared.state.StoreState.{StoreState}
use Rattle.store_records.specs.Stored.{IsStored, StaysRight}
use Rattle.store_records.proofs.Fit.{IsFit, IsStill, IsChanged, still_slots, stored_on, allowed_on, stays_on, in_place}
use Rattle.store_records.proofs.Rests.{rests, rest_answered, rest_changed, frozen_answered, all_got}
use Rattle.store_records.proofs.Tables.{found_passes}

pub same_le : (n : ℕ) → n ≤ n
same_le n = omega arith

-- a state with one slot changed
pub held_fit : (state : StoreState) (at : ℕ) (f : Holding → Holding) → IsFit state
    → ((a : Holding) → held_at state.slots at ≡ Some a → IsStored state a → IsChanged state (with_held state at f) a (f a)) → IsFit (with_held state at f)
held_fit state at f h change = in_place state (with_held state at f) at f h (still_slots state _ h) refl change

-- what is kept of requests
pub noted_fit : (state : StoreState) (id : FilesetId) (host : HostId) (change : Record → Record) → IsFit state → IsFit (with_record state id host change)
noted_fit state id host change h = by (is_server id)
  where
    by : (b : Bool) → IsFit (if b then record state { records = changed_at state.records host.0 change } else with_held state (slot_so (is_of id) state.slots) (held_noted host change))
    by true = record {
      servers = h.servers;
      first = h.first;
      last = h.last;
      next = h.next;
      hosts = h.hosts;
      taken = h.taken;
      each = λ s b e. (let one = h.each s b e in record { server = one.server; id = allowed_on state _ b.fileset.id still one.id; name = one.name; rest = one.rest; stay = stays_on state _ b.fileset b.stay still one.stay });
      apart = h.apart;
      room = h.room;
    }
      where
        still : IsStill state (record state { records = changed_at state.records host.0 change })
        still = record { server = refl; roster = refl; capacity = refl; next = omega arith; last = h.next.1; ship = omega arith; hosts = h.hosts; taken = h.taken }
    by false =
        held_fit state (slot_so (is_of id) state.slots) (held_noted host change) h (λ a there k.
        (let one = stored_on state _ a (still_slots state _ h) k in record {
          id = refl;
          name = refl;
          stored = record { server = one.server; id = one.id; name = one.name; rest = one.rest; stay = one.stay };
          promise = same_le (held_promise (Some a));
          leaving = inl (λ e. e);
        }))

-- a fileset that is here answers a call
answered_stays : (state : StoreState) (host : HostId) (user : User) (call : Call) (fileset : Fileset) (stay : Stay) → IsDecided call → is_here stay ≡ true
    → StaysRight state fileset stay → StaysRight state (fileset_answer fileset nothing_used host user call).fileset stay
answered_stays state host user call fileset Writable d here h =
    (stays_well_formed fileset nothing_used host user call h.0, (stays_itself fileset nothing_used host user call).read_only ∙ h.1)
answered_stays state host user call fileset Clone d here h =
    (stays_well_formed fileset nothing_used host user call h.0, (stays_itself fileset nothing_used host user call).read_only ∙ h.1)
answered_stays state host user call fileset (Leaving to ship) d here h = absurd (false≢true here)
answered_stays state host user call fileset (Arriving from ship parts) d here h = absurd (false≢true here)
answered_stays state host user call fileset (Gone to) d here h = absurd (false≢true here)

answered_promise : (state : StoreState) (host : HostId) (user : User) (call : Call) (fileset : Fileset) (stay : Stay) → IsDecided call → is_here stay ≡ true
    → StaysRight state fileset stay → promise (fileset_answer fileset nothing_used host user call).fileset ≡ promise fileset
answered_promise state host user call fileset Writable d here h =
    let same = stays_itself fileset nothing_used host user call in
    cond-false _ _ _ (same.read_only ∙ h.1) ∙ ap new_promise same.objects ∙ sym (cond-false fileset.read_only _ _ h.1)
answered_promise state host user call fileset Clone d here h = ap promise (frozen_answered fileset nothing_used host user call d h.1)
answered_promise state host user call fileset (Leaving to ship) d here h = absurd (false≢true here)
answered_promise state host user call fileset (Arriving from ship parts) d here h = absurd (false≢true here)
answered_promise state host user call fileset (Gone to) d here h = absurd (false≢true here)

promise_held : (a b : Fileset) (gone : Bool) → promise a ≡ promise b → (if gone then 0 else promise a) ≤ (if gone then 0 else promise b)
promise_held a b true e = omega arith
promise_held a b false e = omega (arith, e)

answered_changed : (state new : StoreState) (host : HostId) (user : User) (call : Call) (a : Holding) → IsDecided call → is_here a.stay ≡ true → IsStored new a → IsChanged state new a (held_answered host user call a)
answered_changed state new host user call a d here one =
    let same = stays_itself a.fileset nothing_used host user call in
    record {
      id = same.id;
      name = same.name;
      stored = record {
        server = same.server ∙ one.server;
        id = subst (λ id. IsAllowed new id) (sym same.id) one.id;
        name = subst (λ n. IsTrue (is_name n)) (sym same.name) one.name;
        rest = rest_answered a.fileset nothing_used host user call d one.rest;
        stay = answered_stays new host user call a.fileset a.stay d here one.stay;
      };
      promise =
          promise_held (fileset_answer a.fileset nothing_used host user call).fileset a.fileset (is_gone a.stay)
          (answered_promise new host user call a.fileset a.stay d here one.stay);
      leaving = inl (λ e. e);
    }

pub named_fit : (state : StoreState) (name : List ℕ) (host : HostId) (user : User) (call : Call) → IsDecided call → IsFit state → IsFit (named_row state name host user call).state
unfolding named_row
named_fit state name host user call d h =
    held_fit state (slot_so (is_here_as name) state.slots) (held_answered host user call) h (λ a there k.
    answered_changed state (with_held state (slot_so (is_here_as name) state.slots) (held_answered host user call)) host user call a d
    (and_parts (is_here a.stay) _ (found_passes (is_here_as name) state.slots a there)).0
    (stored_on state (with_held state (slot_so (is_here_as name) state.slots) (held_answered host user call)) a (still_slots state _ h) k))

pub renamed_fit : (state : StoreState) (host : HostId) (user : User) (from to : Place) → IsFit state → IsFit (rename_row state host user from to).state
unfolding rename_row
renamed_fit state host user from to h = by (move_check state from to)
  where
    by : (checked : Result (Unit {0}) Refusal) → IsFit (either checked (λ _. named_row state from.fileset host user (Rename from to)) (refuse state)).state
    by (Ok done) = named_fit state from.fileset host user (Rename from to) tt h
    by (Err refusal) = h

-- what is given back
put_length : (kept : List ℕ) (at : ℕ) (bytes : List ℕ) → length (put_bytes kept at bytes) ≡ length kept
put_length kept at [] = refl
put_length kept at (value ∷ values) = put_length (set kept at value) (at + 1) values ∙ set_length kept at value
  where
    set_length : (xs : List ℕ) (i x : ℕ) → length (set xs i x) ≡ length xs
    set_length [] i x = refl
    set_length (y ∷ xs) zero x = refl
    set_length (y ∷ xs) (suc i) x = ap suc (set_length xs i x)

pieces_length : (kept : List ℕ) (pieces : List Piece) → length (put_pieces kept pieces) ≡ length kept
pieces_length kept [] = refl
pieces_length kept (piece ∷ pieces) = pieces_length (put_bytes kept piece.from piece.bytes) pieces ∙ put_length kept piece.from piece.bytes

given_entries : (pieces : List Piece) (given : Option ℕ) (content : Content) → HasSameEntries content (content_given pieces given content)
given_entries pieces given (Dir entries lists) = record { entries = λ name. refl; kind = refl }
given_entries pieces given (File list kept unsaved len) = record { entries = λ name. refl; kind = refl }

given_rests : (pieces : List Piece) (given : Option ℕ) (content : Content) → is_settled content ≡ true → is_settled (content_given pieces given content) ≡ true
given_rests pieces given (Dir entries lists) h = h
given_rests pieces given (File list kept [] None) h = refl
given_rests pieces given (File list kept [] (Some len)) h = h
given_rests pieces given (File list kept (byte ∷ unsaved) len) h = h

given_most : (given : Option ℕ) → IfSome given (λ n. n ≤ FILE_BYTES_MAX) → unwrap_or given 0 ≤ FILE_BYTES_MAX
given_most None h = omega arith
given_most (Some n) h = h

grown : (kept : List ℕ) (len : ℕ) → length kept ≤ len → len ≤ FILE_BYTES_MAX → length (resized kept len) ≤ FILE_BYTES_MAX
grown kept len below most =
    let a = length-append (take len kept) (replicate (len - length kept) 0) in
    let b = length-replicate {A = ℕ} (len - length kept) 0 in
    let c = length-take len kept in
    omega (arith, a, b, c, below, most)

given_sound : (pieces : List Piece) (given : Option ℕ) (content : Content) → IfSome given (λ n. n ≤ FILE_BYTES_MAX) → is_settled content ≡ true
    → is_sound content ≡ true → is_sound (content_given pieces given content) ≡ true
given_sound pieces given (Dir entries lists) g r h = h
given_sound pieces given (File list kept [] None) g r h =
    let size = (and_parts (nat_le (length kept) FILE_BYTES_MAX) _ (and_parts _ _ (and_parts _ _ (and_parts _ _ h).0).0).0).0 in
    let fits = grown kept (max (unwrap_or given 0) (length kept)) (omega arith) (let a = given_most given g in let b = leb-true _ _ size in omega (arith, a, b)) in
    let long : length (put_pieces (lengthened kept given) pieces) ≤ FILE_BYTES_MAX = (let e = pieces_length (lengthened kept given) pieces in omega (arith, e, fits)) in
    let is : nat_le (length (put_pieces (lengthened kept given) pieces)) FILE_BYTES_MAX ≡ true = le-leb _ _ long in
    and_from _ true (and_from _ true (and_from _ true (and_from _ _ is is) refl) refl) refl
given_sound pieces given (File list kept [] (Some len)) g r h = absurd (false≢true r)
given_sound pieces given (File list kept (byte ∷ unsaved) len) g r h = absurd (false≢true r)

file_there : (o : Option Object) → option_map_or (λ object. not (is_dir object.content)) o false ≡ true → (object : Object) × (o ≡ Some object)
file_there None h = absurd (false≢true h)
file_there (Some object) h = (object, refl)

object_rests : (fileset : Fileset) (anode : ℕ) (object : Object) → is_at_rest fileset ≡ true → object_at fileset.anodes anode ≡ Some object → is_settled object.content ≡ true
object_rests fileset anode object h there = by (anode == 0) there
  where
    got : (o : Option Anode) → slice_get fileset.anodes (anode - 1) ≡ o → option_and_then (λ anode. anode.object) o ≡ Some object → is_settled object.content ≡ true
    got None e k = absurd (cc)
    got (Some anode) e k = ap rests (sym k) ∙ all_got (λ anode. rests anode.object) fileset.anodes _ anode h e

    by : (b : Bool) → (if b then None else option_and_then (λ anode. anode.object) (slice_get fileset.anodes (anode - 1))) ≡ Some object → is_settled object.content ≡ true
    by true k = absurd (cc)
    by false k = got (slice_get fileset.anodes (anode - 1)) refl k

given_formed : (fileset : Fileset) (fid : Fid) (pieces : List Piece) (given : Option ℕ) → IfSome given (λ n. n ≤ FILE_BYTES_MAX) → is_at_rest fileset ≡ true
    → is_file_at fileset fid ≡ true → IsWellFormed fileset → IsWellFormed (changed fileset fid.anode (content_given pieces given))
given_formed fileset fid pieces given g r file w =
    let (object, there) = file_there (object_at fileset.anodes fid.anode) (and_parts _ _ file).1 in
    well_formed_changed fileset fid.anode object (content_given pieces given) w there (object_not_zero fileset.anodes fid.anode object there)
    (given_entries pieces given object.content)
    (given_sound pieces given object.content g (object_rests fileset fid.anode object r there))

given_changed : (state : StoreState) (new : StoreState) (fid : Fid) (pieces : List Piece) (given : Option ℕ) (a : Holding) → IfSome given (λ n. n ≤ FILE_BYTES_MAX)
    → IsStored new a → IsChanged state new a (held_given fid pieces given a)
unfolding updated
given_changed state new fid pieces given a g one = by (is_writable a.stay && is_file_at a.fileset fid) refl
  where
    still : IsChanged state new a a
    still = record { id = refl; name = refl; stored = one; promise = same_le (held_promise (Some a)); leaving = inl (λ e. e) }

    given_stays : (stay : Stay) → is_writable stay ≡ true → is_file_at a.fileset fid ≡ true → StaysRight new a.fileset stay
        → StaysRight new (changed a.fileset fid.anode (content_given pieces given)) stay
    given_stays Writable w file h = (given_formed a.fileset fid pieces given g one.rest file h.0, h.1)
    given_stays Clone w file h = absurd (false≢true w)
    given_stays (Leaving to ship) w file h = absurd (false≢true w)
    given_stays (Arriving from ship parts) w file h = absurd (false≢true w)
    given_stays (Gone to) w file h = absurd (false≢true w)

    given_promise : (stay : Stay) → is_writable stay ≡ true → StaysRight new a.fileset stay
        → promise (changed a.fileset fid.anode (content_given pieces given)) ≡ promise a.fileset
    given_promise Writable w h = cond-false a.fileset.read_only _ _ h.1 ∙ sym (cond-false a.fileset.read_only _ _ h.1)
    given_promise Clone w h = absurd (false≢true w)
    given_promise (Leaving to ship) w h = absurd (false≢true w)
    given_promise (Arriving from ship parts) w h = absurd (false≢true w)
    given_promise (Gone to) w h = absurd (false≢true w)

    by : (b : Bool) → (is_writable a.stay && is_file_at a.fileset fid) ≡ b
        → IsChanged state new a (if b then record a { fileset = changed a.fileset fid.anode (content_given pieces given) } else a)
    by false e = still
    by true e =
        let (w, file) = and_parts (is_writable a.stay) (is_file_at a.fileset fid) e in
        record {
          id = refl;
          name = refl;
          stored = record {
            server = one.server;
            id = one.id;
            name = one.name;
            rest = rest_changed a.fileset fid.anode (content_given pieces given) (given_rests pieces given) one.rest;
            stay = given_stays a.stay w file one.stay;
          };
          promise = promise_held (changed a.fileset fid.anode (content_given pieces given)) a.fileset (is_gone a.stay) (given_promise a.stay w one.stay);
          leaving = inl (λ e. e);
        }

pub given_fit : (state : StoreState) (at : ℕ) (fid : Fid) (pieces : List Piece) (given : Option ℕ) → IfSome given (λ n. n ≤ FILE_BYTES_MAX) → IsFit state
    → IsFit (with_held state at (held_given fid pieces given))
given_fit state at fid pieces given g h =
    held_fit state at (held_given fid pieces given) h (λ a there k. given_changed state _ fid pieces given a g (stored_on state _ a (still_slots state _ h) k))
