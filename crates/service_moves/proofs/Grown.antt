-- What acts leave of a store where each keeps the numbers that were noted.
use Rattle.std.proofs.Common.{◌≡◌, ◌≤◌, ◌<◌, ◌⊎◌, ℕ, zero, suc, ◌+◌, ◌*◌, ◌/◌, ◌%◌, List, [], ◌∷◌, length, inl, inr, refl, sym, subst, ◌∙◌, ap, arith}
use Rattle.std.specs.Prelude.{Bool, true, false, ◌==◌, ◌&&◌, nat_lt, nat_le, if◌then◌else◌, Option, Some, None, Ok, slice_get, unwrap_or}
use Rattle.std.specs.Option.{option_map, option_and_then}
use Rattle.std.specs.List.{list_any}
use Rattle.std.proofs.lemmas.Bool.{and_parts, cases_lt, cond-false, cond-true, false≢true, lt-ltb}
use Rattle.std.proofs.lemmas.Bool.Decides.{eqb_tells}
use Rattle.base_types.specs.Lists.{changed_at}
use Rattle.base_types.specs.Name.{same_name}
use Rattle.base_types.specs.declared.ids.FilesetId.{FilesetId}
use Rattle.base_types.specs.declared.ids.HostId.{HostId}
use Rattle.base_types.specs.declared.limits.TheConstants.{FILESET_NUMBER_MAX}
use Rattle.tree_calls.specs.declared.reply.Refusal.TheVariants.{Exists, TooMany, NoRoom}
use Rattle.tree_calls.specs.declared.ship.Record.{Record}
use Rattle.tree_filesets.specs.declared.fileset.Fileset.{Fileset}
use Rattle.tree_filesets.proofs.Names.{names_equal, same_self}
use Rattle.tree_filesets.proofs.Targets.{unless_ok, ok_is}
use Rattle.store_state.specs.Founding.{free_slot, room_for, next_id, with_new, promised}
use Rattle.store_state.specs.Rows.{found_named}
use Rattle.store_state.specs.Sought.{is_named}
use Rattle.store_state.specs.State.{no_record, no_records, is_gone, is_here, is_here_as, is_of, is_server, is_used_so, held_at, held_so, slot_so, unless_gone, records_of, record_of, with_held, held_noted, with_record}
use Rattle.store_state.specs.declared.state.Holding.{Holding}
use Rattle.store_state.specs.declared.state.Stay.{Stay}
use Rattle.store_state.specs.declared.state.StoreState.{StoreState}
use Rattle.store_state.proofs.Slots.{slot_first, first_changed, held_changed}
use Rattle.service_moves.proofs.Tables.{IsChanged, found_passes, none_any, changed_found, held_before, nothing_free, added_before, found_added}

-- no fileset has an id that the server has yet to give
abbrev pub AreGiven : StoreState → Type 0
AreGiven state = (slot : ℕ) (holding : Holding) → held_at state.slots slot ≡ Some holding
    → holding.fileset.id.0 / 65536 ≡ state.server.0 → holding.fileset.id.0 % 65536 < state.next

-- names lead where they led, all that is kept of requests stays, and ids are given once
pub record Stays (old new : StoreState) : Type 0 where
  pub names : (name : List ℕ) (id : FilesetId) → found_named old name ≡ Some id → found_named new name ≡ Some id
  pub records : (id : FilesetId) (records : List Record) → records_of old id ≡ Some records → records_of new id ≡ Some records
  pub given : AreGiven old → AreGiven new

-- the numbers that are kept don't fall
pub record IsAbove (old new : Record) : Type 0 where
  pub change : old.change ≤ new.change
  pub give : old.give ≤ new.give

pub above_self : (kept : Record) → IsAbove kept kept
above_self kept = record { change = omega arith; give = omega arith }

-- names lead where they led, no number falls, and ids are given once
pub record Grows (old new : StoreState) : Type 0 where
  pub names : (name : List ℕ) (id : FilesetId) → found_named old name ≡ Some id → found_named new name ≡ Some id
  pub records : (id : FilesetId) (records : List Record) → records_of old id ≡ Some records
      → (later : List Record) × (records_of new id ≡ Some later) × ((host : HostId) → IsAbove (record_of records host) (record_of later host))
  pub given : AreGiven old → AreGiven new

pub stays_self : (state : StoreState) → Stays state state
stays_self state = record { names = λ name id e. e; records = λ id records e. e; given = λ g. g }

pub stays_grows : (a b c : StoreState) → Stays a b → Grows b c → Grows a c
stays_grows a b c s g = record {
  names = λ name id e. g.names name id (s.names name id e);
  records = λ id records e. g.records id records (s.records id records e);
  given = λ h. g.given (s.given h);
}

-- a change of a holding that leaves its fileset's id and name, and where it is
pub record KeepsMarks (f : Holding → Holding) : Type 0 where
  pub ids : (holding : Holding) → (f holding).fileset.id ≡ holding.fileset.id
  pub names : (holding : Holding) → (f holding).fileset.name ≡ holding.fileset.name
  pub stays : (holding : Holding) → (f holding).stay ≡ holding.stay

here_kept : (f : Holding → Holding) → KeepsMarks f → (name : List ℕ) (holding : Holding) → is_here_as name (f holding) ≡ is_here_as name holding
here_kept f k name holding =
    ap (λ stay. is_here stay && same_name (f holding).fileset.name name) (k.stays holding)
    ∙ ap (λ own. is_here holding.stay && same_name own name) (k.names holding)

of_kept : (f : Holding → Holding) → KeepsMarks f → (id : FilesetId) (holding : Holding) → is_of id (f holding) ≡ is_of id holding
of_kept f k id holding = ap (λ (own : FilesetId). own.0 == id.0) (k.ids holding)

id_kept : (f : Holding → Holding) → KeepsMarks f → (slots : List (Option Holding)) (at : ℕ) (b c : Holding) → IsChanged f slots at b c → c.fileset.id ≡ b.fileset.id
id_kept f k slots at b c (inl e) = ap (λ (h : Holding). h.fileset.id) e
id_kept f k slots at b c (inr (e, there)) = ap (λ (h : Holding). h.fileset.id) e ∙ k.ids b

held_names : (state : StoreState) (at : ℕ) (f : Holding → Holding) → KeepsMarks f → (name : List ℕ) (id : FilesetId) → found_named state name ≡ Some id
    → found_named (with_held state at f) name ≡ Some id
held_names state at f k name id e = by (held_so (is_here_as name) state.slots) refl e
  where
    by : (o : Option Holding) → held_so (is_here_as name) state.slots ≡ o → option_map (λ (h : Holding). h.fileset.id) o ≡ Some id → found_named (with_held state at f) name ≡ Some id
    by None there e = absurd (cc)
    by (Some b) there e =
        let (c, now, is) = changed_found (is_here_as name) f (here_kept f k name) state.slots at b there in
        ap (option_map (λ (h : Holding). h.fileset.id)) now ∙ ap (λ (i : FilesetId). Some i) (id_kept f k state.slots at b c is) ∙ e

held_given : (state : StoreState) (at : ℕ) (f : Holding → Holding) → KeepsMarks f → AreGiven state → AreGiven (with_held state at f)
held_given state at f k g slot c e own =
    let (b, there, is) = held_before state.slots at slot f c e in
    let same : c.fileset.id ≡ b.fileset.id = elim is as (λ _. c.fileset.id ≡ b.fileset.id) [
      | inl x ↦ ap (λ (h : Holding). h.fileset.id) x
      | inr x ↦ ap (λ (h : Holding). h.fileset.id) x ∙ k.ids b
    ] in
    let below = g slot b there (ap (λ (i : FilesetId). i.0 / 65536) (sym same) ∙ own) in
    let number : c.fileset.id.0 % 65536 ≡ b.fileset.id.0 % 65536 = ap (λ (i : FilesetId). i.0 % 65536) same in
    omega (arith, below, number)

-- where what is kept under an id is
pub server_records : (state : StoreState) (id : FilesetId) → is_server id ≡ true → records_of state id ≡ Some state.records
server_records state id e = cond-true _ _ _ e

pub held_records : (state : StoreState) (id : FilesetId) → is_server id ≡ false → records_of state id ≡ option_and_then unless_gone (held_so (is_of id) state.slots)
held_records state id e = cond-false _ _ _ e

unless_alike : (b c : Holding) → c.stay ≡ b.stay → c.records ≡ b.records → unless_gone c ≡ unless_gone b
unless_alike b c stay records = ap (λ s. unless_gone (record c { stay = s })) stay ∙ ap (λ r. unless_gone (record c { stay = b.stay; records = r })) records

changed_unless : (f : Holding → Holding) → KeepsMarks f → ((holding : Holding) → (f holding).records ≡ holding.records) → (slots : List (Option Holding)) (at : ℕ) (b c : Holding)
    → IsChanged f slots at b c → unless_gone c ≡ unless_gone b
changed_unless f k same slots at b c (inl e) = ap unless_gone e
changed_unless f k same slots at b c (inr (e, there)) = ap unless_gone e ∙ unless_alike b (f b) (k.stays b) (same b)

-- a holding that changes but in what its fileset contains
pub held_stays : (state : StoreState) (at : ℕ) (f : Holding → Holding) → KeepsMarks f → ((holding : Holding) → (f holding).records ≡ holding.records) → Stays state (with_held state at f)
held_stays state at f k same = record { names = held_names state at f k; records = kept; given = held_given state at f k }
  where
    found : (id : FilesetId) (o : Option Holding) (records : List Record) → held_so (is_of id) state.slots ≡ o → option_and_then unless_gone o ≡ Some records
        → option_and_then unless_gone (held_so (is_of id) (with_held state at f).slots) ≡ Some records
    found id None records there e = absurd (cc)
    found id (Some b) records there e =
        let (c, now, is) = changed_found (is_of id) f (of_kept f k id) state.slots at b there in
        ap (option_and_then unless_gone) now ∙ changed_unless f k same state.slots at b c is ∙ e

    kept : (id : FilesetId) (records : List Record) → records_of state id ≡ Some records → records_of (with_held state at f) id ≡ Some records
    kept id records e = by (is_server id) refl
      where
        by : (b : Bool) → is_server id ≡ b → records_of (with_held state at f) id ≡ Some records
        by true is = server_records (with_held state at f) id is ∙ sym (server_records state id is) ∙ e
        by false is =
            held_records (with_held state at f) id is
            ∙ found id (held_so (is_of id) state.slots) records refl (sym (held_records state id is) ∙ e)

-- what is kept of one host's requests changes
pub record_changed : (records : List Record) (host : HostId) (f : Record → Record) → host.0 < length records
    → record_of (changed_at records host.0 f) host ≡ f (record_of records host)
record_changed records host f h = by records host.0 h
  where
    by : (records : List Record) (at : ℕ) → at < length records → unwrap_or (slice_get (changed_at records at f) at) no_record ≡ f (unwrap_or (slice_get records at) no_record)
    by [] at l = absurd (omega (arith, l))
    by (kept ∷ records) zero l = refl
    by (kept ∷ records) (suc at) l = by records at (omega (arith, l))

changed_above : (records : List Record) (host : HostId) (f : Record → Record) → IsAbove (record_of records host) (f (record_of records host)) → (other : HostId)
    → IsAbove (record_of records other) (record_of (changed_at records host.0 f) other)
changed_above records host f h other = by records host.0 other.0 h
  where
    by : (records : List Record) (at s : ℕ) → IsAbove (unwrap_or (slice_get records at) no_record) (f (unwrap_or (slice_get records at) no_record))
        → IsAbove (unwrap_or (slice_get records s) no_record) (unwrap_or (slice_get (changed_at records at f) s) no_record)
    by [] at s k = above_self no_record
    by (kept ∷ records) zero zero k = k
    by (kept ∷ records) zero (suc s) k = above_self _
    by (kept ∷ records) (suc at) zero k = above_self kept
    by (kept ∷ records) (suc at) (suc s) k = by records at s k

noted_marks : (host : HostId) (f : Record → Record) → KeepsMarks (held_noted host f)
noted_marks host f = record { ids = λ h. refl; names = λ h. refl; stays = λ h. refl }

-- the records of a holding that hasn't left
unless_noted : (host : HostId) (f : Record → Record) (b : Holding) (records : List Record) → unless_gone b ≡ Some records
    → unless_gone (held_noted host f b) ≡ Some (changed_at records host.0 f)
unless_noted host f b records e = by (is_gone b.stay) e
  where
    by : (gone : Bool) → (if gone then None else Some b.records) ≡ Some records → (if gone then None else Some (changed_at b.records host.0 f)) ≡ Some (changed_at records host.0 f)
    by true k = absurd (cc)
    by false k = let same : b.records ≡ records = cc in ap (λ (rs : List Record). Some (changed_at rs host.0 f)) same

-- the holding whose records are kept under an id
pub found_held : (state : StoreState) (id : FilesetId) (records : List Record) → is_server id ≡ false → records_of state id ≡ Some records
    → (holder : Holding) × (held_so (is_of id) state.slots ≡ Some holder) × (unless_gone holder ≡ Some records)
found_held state id records is e = by (held_so (is_of id) state.slots) refl (sym (held_records state id is) ∙ e)
  where
    by : (o : Option Holding) → held_so (is_of id) state.slots ≡ o → option_and_then unless_gone o ≡ Some records
        → (holder : Holding) × (held_so (is_of id) state.slots ≡ Some holder) × (unless_gone holder ≡ Some records)
    by None there k = absurd (cc)
    by (Some holder) there k = (holder, there, k)

-- what is noted of a host's requests under an id: it stands there, and nothing else changes
pub record IsNoted (old : StoreState) (id : FilesetId) (host : HostId) (f : Record → Record) (records : List Record) (new : StoreState) : Type 0 where
  pub grows : Grows old new
  pub there : records_of new id ≡ Some (changed_at records host.0 f)

pub noted : (state : StoreState) (id : FilesetId) (host : HostId) (f : Record → Record) (records : List Record) → records_of state id ≡ Some records
    → IsAbove (record_of records host) (f (record_of records host)) → IsNoted state id host f records (with_record state id host f)
noted state id host f records e above = by (is_server id) refl
  where
    own : StoreState
    own = record state { records = changed_at state.records host.0 f }

    at : ℕ
    at = slot_so (is_of id) state.slots

    held : StoreState
    held = with_held state at (held_noted host f)

    in_own : is_server id ≡ true → IsNoted state id host f records own
    in_own is = record {
      grows = record { names = λ name i k. k; records = kept; given = λ g. g };
      there = server_records own id is ∙ ap (λ (rs : List Record). Some (changed_at rs host.0 f)) same;
    }
      where
        same : state.records ≡ records
        same = let a : Some state.records ≡ Some records = sym (server_records state id is) ∙ e in cc

        kept : (i : FilesetId) (rs : List Record) → records_of state i ≡ Some rs → (later : List Record) × (records_of own i ≡ Some later)
            × ((other : HostId) → IsAbove (record_of rs other) (record_of later other))
        kept i rs k = by_id (is_server i) refl
          where
            by_id : (b : Bool) → is_server i ≡ b → (later : List Record) × (records_of own i ≡ Some later) × ((other : HostId) → IsAbove (record_of rs other) (record_of later other))
            by_id false there = (rs, held_records own i there ∙ sym (held_records state i there) ∙ k, λ other. above_self (record_of rs other))
            by_id true there =
                let these : rs ≡ records = (let a : Some state.records ≡ Some rs = sym (server_records state i there) ∙ k in let b = same in cc) in (
                  changed_at records host.0 f,
                  server_records own i there ∙ ap (λ (xs : List Record). Some (changed_at xs host.0 f)) same,
                  λ other. subst (λ xs. IsAbove (record_of xs other) (record_of (changed_at records host.0 f) other)) (sym these) (changed_above records host f above other),
                )

    in_slot : is_server id ≡ false → IsNoted state id host f records held
    in_slot is = by_holder (found_held state id records is e)
      where
        by_holder : (holder : Holding) × (held_so (is_of id) state.slots ≡ Some holder) × (unless_gone holder ≡ Some records) → IsNoted state id host f records held
        by_holder (holder, is_there, has) = record {
          grows = record { names = held_names state at (held_noted host f) (noted_marks host f); records = kept; given = held_given state at (held_noted host f) (noted_marks host f) };
          there = held_records held id is ∙ ap (option_and_then unless_gone) now ∙ unless_noted host f holder records has;
        }
          where
            place : slot_so (is_of id) held.slots ≡ at
            place = slot_first (is_of id) held.slots ∙ first_changed (is_of id) (held_noted host f) (of_kept (held_noted host f) (noted_marks host f) id) state.slots at ∙ sym (slot_first (is_of id) state.slots)

            now : held_so (is_of id) held.slots ≡ Some (held_noted host f holder)
            now = ap (held_at held.slots) place ∙ held_changed state.slots at (held_noted host f) ∙ ap (option_map (held_noted host f)) is_there

            kept : (i : FilesetId) (rs : List Record) → records_of state i ≡ Some rs → (later : List Record) × (records_of held i ≡ Some later)
                × ((other : HostId) → IsAbove (record_of rs other) (record_of later other))
            kept i rs k = by_id (is_server i) refl
              where
                later : (b c : Holding) → unless_gone b ≡ Some rs → held_so (is_of i) held.slots ≡ Some c → is_server i ≡ false → IsChanged (held_noted host f) state.slots at b c
                    → (later : List Record) × (records_of held i ≡ Some later) × ((other : HostId) → IsAbove (record_of rs other) (record_of later other))
                later b c own c_there away (inl same) =
                    (rs, held_records held i away ∙ ap (option_and_then unless_gone) c_there ∙ ap unless_gone same ∙ own, λ other. above_self (record_of rs other))
                later b c own c_there away (inr (same, b_there)) =
                    let one : b ≡ holder = (let x : Some b ≡ Some holder = sym b_there ∙ is_there in cc) in
                    let these : rs ≡ records = (let x : Some rs ≡ Some records = sym own ∙ ap unless_gone one ∙ has in cc) in (
                      changed_at rs host.0 f,
                      held_records held i away ∙ ap (option_and_then unless_gone) c_there ∙ ap unless_gone same ∙ unless_noted host f b rs own,
                      changed_above rs host f (subst (λ xs. IsAbove (record_of xs host) (f (record_of xs host))) (sym these) above),
                    )

                by_id : (b : Bool) → is_server i ≡ b → (later : List Record) × (records_of held i ≡ Some later) × ((other : HostId) → IsAbove (record_of rs other) (record_of later other))
                by_id true there = (rs, server_records held i there ∙ sym (server_records state i there) ∙ k, λ other. above_self (record_of rs other))
                by_id false there =
                    let (b, b_there, own) = found_held state i rs there k in
                    let (c, c_there, changed) = changed_found (is_of i) (held_noted host f) (of_kept (held_noted host f) (noted_marks host f) i) state.slots at b b_there in
                    later b c own c_there there changed

    by : (b : Bool) → is_server id ≡ b → IsNoted state id host f records (if b then own else held)
    by true is = in_own is
    by false is = in_slot is

-- there is room
not_above : (a b : ℕ) → nat_lt a b ≡ false → b ≤ a
not_above a b e = elim (cases_lt a b) [ inl lt ↦ absurd (false≢true (sym e ∙ lt-ltb a b lt)) | inr le ↦ le ]

record HasRoom (state : StoreState) (name : List ℕ) (slot : ℕ) : Type 0 where
  named : list_any (is_used_so (is_named name)) state.slots ≡ false
  number : state.next ≤ FILESET_NUMBER_MAX
  place : free_slot state.slots ≡ slot

room_ok : (state : StoreState) (name : List ℕ) (blocks slot : ℕ) → room_for state name blocks ≡ Ok slot → HasRoom state name slot
room_ok state name blocks slot e =
    let (named, a) = unless_ok (list_any (is_used_so (is_named name)) state.slots) Exists _ slot e in
    let (number, b) = unless_ok (nat_lt FILESET_NUMBER_MAX state.next) TooMany _ slot a in
    let (few, c) = unless_ok (nat_le (length state.slots) (free_slot state.slots)) TooMany _ slot b in
    let (room, d) = unless_ok (nat_lt state.capacity (promised state.slots + blocks)) NoRoom _ slot c in
    record { named = named; number = not_above FILESET_NUMBER_MAX state.next number; place = ok_is (free_slot state.slots) slot d }

-- a fileset more, under a name and an id that none has
pub new_stays : (state : StoreState) (name : List ℕ) (blocks slot : ℕ) (stay : Stay) (fileset : Fileset) → AreGiven state → room_for state name blocks ≡ Ok slot
    → fileset.id ≡ next_id state → fileset.name ≡ name → Stays state (with_new state slot stay fileset)
new_stays state name blocks slot stay fileset given room_is id_is name_is = record { names = names; records = kept; given = λ g. more }
  where
    room : HasRoom state name slot
    room = room_ok state name blocks slot room_is

    new : Holding
    new = record { stay = stay; fileset = fileset; records = no_records }

    free : held_at state.slots slot ≡ None
    free = ap (held_at state.slots) (sym room.place) ∙ nothing_free state.slots

    of : (state.server.0 * 65536 + state.next) / 65536 ≡ state.server.0
    of = let n = room.number in omega (arith, n)

    last : (state.server.0 * 65536 + state.next) % 65536 ≡ state.next
    last = let n = room.number in omega (arith, n)

    -- no fileset that is held has its id
    other_id : (at : ℕ) (b : Holding) → held_at state.slots at ≡ Some b → b.fileset.id.0 ≡ (next_id state).0 → ⊥
    other_id at b there same =
        let below = given at b there (ap (λ n. n / 65536) same ∙ of) in
        let is : b.fileset.id.0 % 65536 ≡ state.next = ap (λ n. n % 65536) same ∙ last in
        omega (arith, below, is)

    -- nor its name
    other_name : (at : ℕ) (b : Holding) → held_at state.slots at ≡ Some b → b.fileset.name ≡ name → ⊥
    other_name at b there same =
        false≢true (sym (none_any (is_named name) state.slots room.named at b there) ∙ ap (λ n. same_name n name) same ∙ same_self name)

    not_named : (sought : List ℕ) (b : Holding) → held_so (is_here_as sought) state.slots ≡ Some b → is_here_as sought new ≡ false
    not_named sought b there = by (is_here_as sought new) refl
      where
        by : (t : Bool) → is_here_as sought new ≡ t → t ≡ false
        by false e = refl
        by true e =
            let mine : fileset.name ≡ sought = names_equal fileset.name sought (and_parts (is_here stay) (same_name fileset.name sought) e).1 in
            let theirs : b.fileset.name ≡ sought =
            names_equal b.fileset.name sought (and_parts (is_here b.stay) (same_name b.fileset.name sought) (found_passes (is_here_as sought) state.slots b there)).1 in
            absurd (other_name (slot_so (is_here_as sought) state.slots) b there (theirs ∙ sym mine ∙ name_is))

    not_id : (id : FilesetId) (b : Holding) → held_so (is_of id) state.slots ≡ Some b → is_of id new ≡ false
    not_id id b there = by (is_of id new) refl
      where
        equal : (m n : ℕ) → (m == n) ≡ true → m ≡ n
        equal m n e = elim (eqb_tells m n) as (λ _. m ≡ n) [ inl x ↦ x.1 | inr x ↦ absurd (false≢true (sym x.0 ∙ e)) ]

        by : (t : Bool) → is_of id new ≡ t → t ≡ false
        by false e = refl
        by true e =
            let mine : fileset.id.0 ≡ id.0 = equal fileset.id.0 id.0 e in
            let theirs : b.fileset.id.0 ≡ id.0 = equal b.fileset.id.0 id.0 (found_passes (is_of id) state.slots b there) in
            absurd (other_id (slot_so (is_of id) state.slots) b there (theirs ∙ sym mine ∙ ap (λ (i : FilesetId). i.0) id_is))

    names : (sought : List ℕ) (id : FilesetId) → found_named state sought ≡ Some id → found_named (with_new state slot stay fileset) sought ≡ Some id
    names sought id e = by (held_so (is_here_as sought) state.slots) refl e
      where
        by : (o : Option Holding) → held_so (is_here_as sought) state.slots ≡ o → option_map (λ (h : Holding). h.fileset.id) o ≡ Some id
            → found_named (with_new state slot stay fileset) sought ≡ Some id
        by None there k = absurd (cc)
        by (Some b) there k =
            ap (option_map (λ (h : Holding). h.fileset.id)) (found_added (is_here_as sought) state.slots slot new b free (not_named sought b there) there) ∙ k

    kept : (id : FilesetId) (records : List Record) → records_of state id ≡ Some records → records_of (with_new state slot stay fileset) id ≡ Some records
    kept id records e = by (is_server id) refl
      where
        by : (b : Bool) → is_server id ≡ b → records_of (with_new state slot stay fileset) id ≡ Some records
        by true is = server_records (with_new state slot stay fileset) id is ∙ sym (server_records state id is) ∙ e
        by false is =
            let (b, there, has) = found_held state id records is e in
            held_records (with_new state slot stay fileset) id is
            ∙ ap (option_and_then unless_gone) (found_added (is_of id) state.slots slot new b free (not_id id b there) there) ∙ has

    more : AreGiven (with_new state slot stay fileset)
    more at c there own = by (added_before state.slots slot at new c there)
      where
        by : (c ≡ new) ⊎ (held_at state.slots at ≡ Some c) → c.fileset.id.0 % 65536 < state.next + 1
        by (inl same) =
            let is : c.fileset.id.0 % 65536 ≡ state.next = ap (λ (h : Holding). h.fileset.id.0 % 65536) same ∙ ap (λ (i : FilesetId). i.0 % 65536) id_is ∙ last in
            omega (arith, is)
        by (inr was) = let below = given at c was own in omega (arith, below)
