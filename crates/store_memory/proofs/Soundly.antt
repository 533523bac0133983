-- What is told is within the limits of a message.
use Rattle.std.proofs.Common.{◌≡◌, ◌≤◌, ℕ, zero, suc, ◌+◌, ◌-◌, ◌==◌, nat_le, Bool, true, false, ◌&&◌, if◌then◌else◌, IsTrue, List, [], ◌∷◌, length, take, drop, inl, inr, Option, Some, None, is_some, refl, subst, arith}
use Rattle.std.specs.Prelude.{slice_get}
use Rattle.std.specs.List.{list_all}
use Rattle.std.specs.Option.{option_and_then, option_map, option_map_or}
use Rattle.std.proofs.lemmas.Bool.{leb-true}
use Rattle.std.proofs.lemmas.Bool.Decides.{eqb_tells}
use Rattle.std.proofs.lemmas.Grind.{common_steps}
use Rattle.base_types.specs.Name.{is_before}
use Rattle.base_types.specs.declared.ids.Fid.{Fid}
use Rattle.base_types.specs.declared.ids.FilesetId.{FilesetId}
use Rattle.base_types.specs.declared.limits.TheConstants.{FILE_BYTES_MAX, OBJECTS_MAX}
use Rattle.base_types.specs.declared.span.Span.{Span}
use Rattle.tree_calls.specs.declared.part.DirEntry.{DirEntry}
use Rattle.tree_calls.specs.declared.roster.Roster.{Roster}
use Rattle.tree_calls.specs.declared.ship.Mover.{Mover}
use Rattle.tree_objects.specs.declared.content.Anode.{Anode}
use Rattle.tree_objects.specs.declared.content.Content.{Content}
use Rattle.tree_objects.specs.declared.content.Content.TheVariants.{Dir, File}
use Rattle.tree_objects.specs.declared.content.Object.{Object}
use Rattle.tree_objects.specs.Sound.{names_rise}
use Rattle.tree_filesets.specs.declared.fileset.Fileset.{Fileset}
use Rattle.tree_filesets.specs.Laws.{lists_in, entries_in}
use Rattle.tree_filesets.specs.Walk.{object_at, unique_at}
use Rattle.message_types.specs.Soundness.{Each, IsTold, IsPart, AreFileBytes, NamesRise}
use Rattle.store_state.specs.declared.state.Holding.{Holding}
use Rattle.store_state.specs.declared.state.StoreState.{StoreState}
use Rattle.store_acts.specs.Parts.{
  is_tellable,
  tellable_or_none,
  told_object,
  kept_bytes,
  kept_length,
  status_of,
  pieces_of,
  object_part,
  part_of,
}
use Rattle.store_memory.specs.Reading.{
  fids_from,
  fileset_of,
  files_of,
  object_in,
  object_named,
  status_told,
  bytes_told,
  entries_told,
  slots_from,
  shipped,
}
use Rattle.store_memory.specs.Sound.{IsSlot, IsMover, IsLeavingOf}
use Rattle.store_acts.specs.Sound.{IsHolding, KeepsLimits}
use Rattle.store_state.specs.State.{is_of, slot_so}
use Rattle.store_acts.proofs.Limits.{Slots, held_fits}

both : (a b : Bool) → (a && b) ≡ true → (a ≡ true) × (b ≡ true)
both true true h = (refl, refl)
both true false h = absurd (cc)
both false b h = absurd (cc)

-- names

each_of_all : {X : Type 0} (p : X → Bool) (xs : List X) → list_all p xs ≡ true → Each (λ x. IsTrue (p x)) xs
each_of_all p [] h = tt
each_of_all p (x ∷ xs) h = let (a, b) = both (p x) (list_all p xs) h in (a, each_of_all p xs b)

rise : (entries : List DirEntry) → names_rise entries ≡ true → NamesRise entries
rise [] h = tt
rise (entry ∷ entries) h =
    let (a, b) = both (list_all (λ other. is_before entry.name other.name) entries) (names_rise entries) h in
    (each_of_all (λ other. is_before entry.name other.name) entries a, rise entries b)

-- an object that may be told

pub record IsWithin (content : Content) : Type 0 where
  pub size : kept_length content ≤ FILE_BYTES_MAX
  pub bytes : length (kept_bytes content) ≤ FILE_BYTES_MAX
  pub few : length (entries_in content) ≤ OBJECTS_MAX
  pub order : NamesRise (entries_in content)

pub within : (content : Content) → is_tellable content ≡ true → IsWithin content
within (Dir entries lists) h =
    let (ab, c) = both (nat_le (length entries) OBJECTS_MAX && (length lists == 3)) (names_rise entries) h in
    let (a, b) = both (nat_le (length entries) OBJECTS_MAX) (length lists == 3) ab in
    let few = leb-true (length entries) OBJECTS_MAX a in
    record { size = omega (arith, few); bytes = omega arith; few = few; order = rise entries c }
within (File list kept unsaved len) h =
    let most = leb-true (length kept) FILE_BYTES_MAX h in
    record { size = most; bytes = most; few = omega arith; order = tt }

lists_of : (content : Content) → is_tellable content ≡ true →
    length (lists_in content) ≡ (if (status_of false (record { owner = []; group = []; content = content })).dir then 3
    else 1)
lists_of (Dir entries lists) h =
    let (ab, c) = both (nat_le (length entries) OBJECTS_MAX && (length lists == 3)) (names_rise entries) h in
    let (a, b) = both (nat_le (length entries) OBJECTS_MAX) (length lists == 3) ab in
    grind (arith, common_steps, b)
lists_of (File list kept unsaved len) h = refl

pieces_fit : (content : Content) → is_tellable content ≡ true → AreFileBytes (pieces_of content)
pieces_fit (Dir entries lists) h = record { ends = tt; order = tt; together = omega arith; count = omega arith }
pieces_fit (File list kept unsaved len) h =
    let most = leb-true (length kept) FILE_BYTES_MAX h in
    record {
      ends = (omega (arith, most), tt);
      order = (tt, tt);
      together = omega (arith, most);
      count = omega arith;
    }

no_pieces : AreFileBytes []
no_pieces = record { ends = tt; order = tt; together = omega arith; count = omega arith }

told_whole : (read_only : Bool) (object : Object) → is_tellable object.content ≡ true →
    IsTold (Some (status_of read_only object)) (pieces_of object.content) (entries_in object.content)
told_whole read_only object h =
    let w = within object.content h in
    record {
      size = w.size;
      lists = lists_of object.content h;
      bytes = pieces_fit object.content h;
      order = w.order;
      few = w.few;
      absent = λ e. absurd (cc);
    }

told_status : (read_only : Bool) (object : Object) → is_tellable object.content ≡ true →
    IsTold (Some (status_of read_only object)) [] []
told_status read_only object h =
    let w = within object.content h in
    record {
      size = w.size;
      lists = lists_of object.content h;
      bytes = no_pieces;
      order = tt;
      few = omega arith;
      absent = λ e. absurd (cc);
    }

told_nothing : IsTold None [] []
told_nothing =
    record { size = tt; lists = tt; bytes = no_pieces; order = tt; few = omega arith; absent = λ e. (refl, refl) }

tellable_of : (found : Option Object) (object : Object) → option_and_then tellable_or_none found ≡ Some object →
    is_tellable object.content ≡ true
tellable_of None object e = absurd (cc)
tellable_of (Some found) object e = by (is_tellable found.content) refl e
  where
    by : (b : Bool) → is_tellable found.content ≡ b → (if b then Some found else None) ≡ Some object →
        is_tellable object.content ≡ true
    by true k e = let same : found ≡ object = cc in subst (λ x. is_tellable x.content ≡ true) same k
    by false k e = absurd (cc)

tellable : (anodes : List Anode) (at : ℕ) (object : Object) → told_object anodes at ≡ Some object →
    is_tellable object.content ≡ true
tellable anodes at object e = tellable_of (object_at anodes at) object e

-- what readers tell

in_tellable : (fileset : Fileset) (fid : Fid) (object : Object) → object_in fileset fid ≡ Some object →
    is_tellable object.content ≡ true
in_tellable fileset fid object e = by (unique_at fileset.anodes fid.anode == fid.unique) e
  where
    by : (b : Bool) → (if b then told_object fileset.anodes fid.anode else None) ≡ Some object →
        is_tellable object.content ≡ true
    by true e = tellable fileset.anodes fid.anode object e
    by false e = absurd (cc)

pub status_sound : (state : StoreState) (fid : Fid) → IsTold (status_told state fid) [] []
status_sound state fid = by (fileset_of state fid.fileset)
  where
    told : (fileset : Fileset) (o : Option Object) → object_in fileset fid ≡ o →
        IsTold (option_map (status_of fileset.read_only) o) [] []
    told fileset None e = told_nothing
    told fileset (Some object) e = told_status fileset.read_only object (in_tellable fileset fid object e)

    by : (o : Option Fileset) →
        IsTold (option_and_then (λ fileset. option_map (status_of fileset.read_only) (object_in fileset fid)) o) [] []
    by None = told_nothing
    by (Some fileset) = told fileset (object_in fileset fid) refl

named_tellable : (state : StoreState) (fid : Fid) (object : Object) → object_named state fid ≡ Some object →
    is_tellable object.content ≡ true
named_tellable state fid object e = by (fileset_of state fid.fileset) e
  where
    by : (o : Option Fileset) → option_and_then (λ fileset. object_in fileset fid) o ≡ Some object →
        is_tellable object.content ≡ true
    by None e = absurd (cc)
    by (Some fileset) e = in_tellable fileset fid object e

pub entries_few : (state : StoreState) (fid : Fid) → length (entries_told state fid) ≤ OBJECTS_MAX
entries_few state fid = by (object_named state fid) refl
  where
    by : (o : Option Object) → object_named state fid ≡ o →
        length (option_map_or (λ object. entries_in object.content) o []) ≤ OBJECTS_MAX
    by None e = omega arith
    by (Some object) e = (within object.content (named_tellable state fid object e)).few

pub entries_rise : (state : StoreState) (fid : Fid) → NamesRise (entries_told state fid)
entries_rise state fid = by (object_named state fid) refl
  where
    by : (o : Option Object) → object_named state fid ≡ o →
        NamesRise (option_map_or (λ object. entries_in object.content) o [])
    by None e = tt
    by (Some object) e = (within object.content (named_tellable state fid object e)).order

length_cut : {X : Type 0} (n : ℕ) (xs : List X) → length (take n xs) ≤ n
length_cut zero xs = omega arith
length_cut (suc n) [] = omega arith
length_cut (suc n) (x ∷ xs) = let h = length_cut n xs in omega (arith, h)

pub bytes_fit : (state : StoreState) (fid : Fid) (span : Span) →
    span.from + length (bytes_told state fid span) ≤ FILE_BYTES_MAX
bytes_fit state fid span = by (object_named state fid)
  where
    ends : span.from ≤ FILE_BYTES_MAX
    ends = let a = span.ordered in let b = span.within in omega (arith, a, b)

    by : (o : Option Object) →
        span.from + length
        (option_map_or (λ object. take (span.to - span.from) (drop span.from (kept_bytes object.content))) o []) ≤
        FILE_BYTES_MAX
    by None = let e = ends in omega (arith, e)
    by (Some object) =
        let h = length_cut (span.to - span.from) (drop span.from (kept_bytes object.content)) in
        let a = span.ordered in let b = span.within in omega (arith, h, a, b)

-- the objects of a fileset

fids_few : (id : FilesetId) (at : ℕ) (anodes : List Anode) → length (fids_from id at anodes) ≤ length anodes
fids_few id at [] = omega arith
fids_few id at (anode ∷ anodes) = by (is_some anode.object) (fids_few id (at + 1) anodes)
  where
    by : (b : Bool) → length (fids_from id (at + 1) anodes) ≤ length anodes →
        length (if b then record { fileset = id; anode = at; unique = anode.unique } ∷ fids_from id (at + 1) anodes
        else fids_from id (at + 1) anodes) ≤ suc (length anodes)
    by true h = omega (arith, h)
    by false h = omega (arith, h)

fids_own : (id : FilesetId) (at : ℕ) (anodes : List Anode) → Each (λ fid. fid.fileset ≡ id) (fids_from id at anodes)
fids_own id at [] = tt
fids_own id at (anode ∷ anodes) = by (is_some anode.object) (fids_own id (at + 1) anodes)
  where
    by : (b : Bool) → Each (λ fid. fid.fileset ≡ id) (fids_from id (at + 1) anodes) →
        Each (λ fid. fid.fileset ≡ id) (if b then record { fileset = id; anode = at; unique = anode.unique } ∷
        fids_from id (at + 1) anodes else fids_from id (at + 1) anodes)
    by true h = (refl, h)
    by false h = h

pub files_few : (state : StoreState) (id : FilesetId) → length (files_of state id) ≤ OBJECTS_MAX
files_few state id = by (fileset_of state id)
  where
    by : (o : Option Fileset) →
        length (option_map_or (λ fileset. fids_from id 1 (take OBJECTS_MAX fileset.anodes)) o []) ≤ OBJECTS_MAX
    by None = omega arith
    by (Some fileset) =
        let a = fids_few id 1 (take OBJECTS_MAX fileset.anodes) in let b = length_cut OBJECTS_MAX fileset.anodes in
        omega (arith, a, b)

pub files_own : (state : StoreState) (id : FilesetId) → Each (λ fid. fid.fileset ≡ id) (files_of state id)
files_own state id = by (fileset_of state id)
  where
    by : (o : Option Fileset) →
        Each (λ fid. fid.fileset ≡ id)
        (option_map_or (λ fileset. fids_from id 1 (take OBJECTS_MAX fileset.anodes)) o [])
    by None = tt
    by (Some fileset) = fids_own id 1 (take OBJECTS_MAX fileset.anodes)

-- slots and parts

pub slots_sound : (roster : Roster) (slots : List (Option Holding)) (at : ℕ) → Slots roster slots →
    Each (IsSlot roster) (slots_from at slots)
slots_sound roster [] at h = tt
slots_sound roster (None ∷ slots) at h = slots_sound roster slots (at + 1) h.1
slots_sound roster (Some holding ∷ slots) at h =
    (record { stay = h.0.stay; least = h.0.least; most = h.0.most }, slots_sound roster slots (at + 1) h.1)

anode_sound : (roster : Roster) (at unique : ℕ) (found : Option Object) → 1 ≤ at → at ≤ OBJECTS_MAX →
    IsPart roster at (object_part at unique (option_and_then tellable_or_none found))
anode_sound roster at unique found low high = by (option_and_then tellable_or_none found) refl
  where
    by : (o : Option Object) → option_and_then tellable_or_none found ≡ o → IsPart roster at (object_part at unique o)
    by None e = (low, high, refl, told_nothing)
    by (Some object) e = (low, high, refl, told_whole false object (tellable_of found object e))

part_sound : (roster : Roster) (holding : Holding) (at : ℕ) (mover : Mover) → at ≤ OBJECTS_MAX →
    IsHolding roster holding → IsMover roster mover → IsPart roster at (part_of holding at mover)
part_sound roster holding at mover l h m =
    elim (eqb_tells at 0) as (λ _. IsPart roster at (part_of holding at mover)) [
      | inl (e, k) ↦ rw e (
        k,
        record {
          least = h.least;
          most = h.most;
          hosts = h.records.count;
          kept = h.records.each;
          host = m.host;
          call = m.call;
          moves = m.moves;
        },
      )
      | inr (e, k) ↦ rw e (anode_sound roster at (unique_at holding.fileset.anodes at)
          (option_and_then (λ anode. anode.object) (slice_get holding.fileset.anodes (at - 1))) (omega (arith, k)) l)
    ]

pub shipped_sound : (state : StoreState) (id : FilesetId) (at : ℕ) (mover : Mover) → KeepsLimits state →
    at ≤ OBJECTS_MAX → IsLeavingOf state id at → IsMover state.roster mover →
    IsPart state.roster at (shipped state id at mover)
shipped_sound state id at mover h l leaving m =
    let (holding, e, is, most) = leaving in
    let fits = held_fits state.roster state.slots (slot_so (is_of id) state.slots) holding h.slots e in
    rw e (part_sound state.roster holding at mover l fits m)
