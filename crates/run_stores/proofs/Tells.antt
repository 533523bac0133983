-- What a store tells is what its server keeps by the rules.
use Rattle.std.proofs.Common.{◌≡◌, ◌≢◌, ℕ, zero, suc, ◌+◌, ◌-◌, ◌==◌, ◌≤◌, nat_lt, nat_le, Bool, true, false, ◌&&◌, ◌||◌, ◌⊎◌, inl, inr, cond, get_or, take, drop, List, [], ◌∷◌, length, map, Option, Some, None, is_some, unwrap_or, refl, sym, ap, ◌∙◌, arith}
use Rattle.std.specs.Prelude.{slice_get, if◌then◌else◌, option_and_then, not}
use Rattle.std.specs.List.{find, list_all, prefix_len}
use Rattle.std.specs.Option.{option_map, option_map_or}
use Rattle.std.proofs.lemmas.Grind.{common_steps}
use Rattle.base_types.specs.Image.{byte_at}
use Rattle.base_types.specs.declared.ids.Fid.{Fid}
use Rattle.base_types.specs.declared.ids.FilesetId.{FilesetId}
use Rattle.base_types.specs.declared.span.Span.{Span}
use Rattle.tree_calls.specs.declared.part.Piece.{Piece}
use Rattle.tree_calls.specs.declared.part.Status.{Status}
use Rattle.tree_objects.specs.declared.content.Anode.{Anode}
use Rattle.tree_objects.specs.declared.content.Content.{Content}
use Rattle.tree_objects.specs.declared.content.Content.TheVariants.{Dir, File}
use Rattle.tree_objects.specs.declared.content.Object.{Object}
use Rattle.tree_filesets.specs.Laws.{entries_in, is_file_at}
use Rattle.tree_objects.specs.Objects.{is_dir}
use Rattle.tree_filesets.specs.Walk.{object_at, unique_at}
use Rattle.tree_filesets.specs.WellFormed.{IsWellFormed as IsWellFormedFileset}
use Rattle.tree_filesets.specs.declared.fileset.Fileset.{Fileset}
use Rattle.store_memory.specs.Reading.{bytes_told, fileset_of, object_named, status_told, object_in as store_object}
use Rattle.tree_answers.specs.Finding.{has_id}
use Rattle.tree_answers.specs.declared.tree.Tree.{Tree}
use Rattle.tree_answers.proofs.AfterMove.{formed_get}
use Rattle.tree_answers.proofs.Places.{found_passes, get_all, place_found}
use Rattle.store_laws.proofs.Told.{tellable_if_formed}
use Rattle.message_types.specs.declared.telling.Grant.{Grant as GrantOf}
use Rattle.store_acts.specs.Parts.{is_tellable, kept_bytes, kept_length, status_of, tellable_or_none, told_object}
use Rattle.store_state.specs.Sought.{is_here_of}
use Rattle.store_state.specs.State.{held_at, is_here, is_of, is_used_so, slot_so}
use Rattle.store_state.specs.declared.state.Holding.{Holding}
use Rattle.store_state.specs.declared.state.StoreState.{StoreState}
use Rattle.tree_laws.specs.Parts.{Part, cell_at, cell_found, cell_in, object_in}
use Rattle.tree_laws.specs.Parts.Part.{ByteAt, Entries, Size, Traits}
use Rattle.store_laws.proofs.Called.{same_id}
use Rattle.store_laws.proofs.Keys.{same_key}
use Rattle.store_laws.proofs.Slots.{found_is, none_used, only_slot}
use Rattle.store_laws.proofs.KeptSteps.{held_here}
use Rattle.run_rules.specs.Views.{byte_in, byte_of, nature_told, part_told}
use Rattle.run_stores.specs.Keeping.{StandsFor}
use Rattle.run_stores.specs.Telling.{GiftsAreTold, GrantsTellKept, HasPart, is_dir_told, TellsAreKept, is_within, may_take, pieces_told}
use Rattle.run_stores.proofs.Gives.{its_own, none_there}

-- the fileset of an id that a store has here
pub none_less : {X : Type 0} (p q : X → Bool) → ((x : X) → p x ≡ false → q x ≡ false) → (xs : List X) →
    find p xs ≡ None → find q xs ≡ None
none_less p q k [] h = refl
none_less {X} p q k (x ∷ xs) h = by (p x) refl h (none_less p q k xs)
  where
    by : (b : Bool) → p x ≡ b → cond b (Some x) (find p xs) ≡ None → (find p xs ≡ None → find q xs ≡ None) →
        cond (q x) (Some x) (find q xs) ≡ None
    by true e h rest = absurd (cc)
    by false e h rest = ap (λ c. cond c (Some x) (find q xs)) (k x e) ∙ rest h

less_here : (id : FilesetId) (slot : Option Holding) → is_used_so (is_of id) slot ≡ false →
    is_used_so (is_here_of id) slot ≡ false
less_here id None e = refl
less_here id (Some holding) e = ap (λ b. b && is_here holding.stay) e

not_of : (id : FilesetId) (b holding : Holding) → holding.fileset.id ≡ id → b.fileset.id ≢ holding.fileset.id →
    is_here_of id b ≡ false
not_of id b holding its apart = by (is_of id b) refl
  where
    by : (t : Bool) → is_of id b ≡ t → (t && is_here b.stay) ≡ false
    by true e = absurd (apart (same_id b.fileset.id id e ∙ sym its))
    by false e = refl

pub kept_found : (tree : Tree) (state : StoreState) (id : FilesetId) → StandsFor tree state →
    fileset_of state id ≡ find (has_id id) tree.filesets
kept_found tree state id s = by (find (has_id id) tree.filesets) refl
  where
    by : (found : Option Fileset) → find (has_id id) tree.filesets ≡ found → fileset_of state id ≡ found
    by None e =
        let none = none_used (is_of id) state.slots (none_there tree state id s.keeps s.is_of.unmoved e) in
        let here = none_less (is_used_so (is_of id)) (is_used_so (is_here_of id)) (less_here id) state.slots none in
        ap (option_map (λ (h : Holding). h.fileset)) (found_is (is_here_of id) state.slots
        ∙ ap (option_and_then (λ slot. slot)) here)
    by (Some fileset) e =
        let its : fileset.id ≡ id = same_id fileset.id id (found_passes (has_id id) tree.filesets fileset e) in
        let known = ap (λ i. find (has_id i) tree.filesets) its ∙ e in
        let at = its_own state.server tree fileset.id fileset s.is_of known in
        let (holding, h) = held_here tree state fileset s.keeps known at in
        let id_is : holding.fileset.id ≡ id = ap (λ (f : Fileset). f.id) h.same ∙ its in
        let passes : is_here_of id holding ≡ true =
        ap (λ (i : FilesetId). (i.0 == id.0) && is_here holding.stay) id_is
        ∙ ap (λ b. b && is_here holding.stay) (same_key id.0) ∙ h.here in
        let slot = only_slot (is_here_of id) state.slots (slot_so (is_of fileset.id) state.slots) holding h.held passes
        (λ other b apart there. not_of id b holding id_is
        (s.keeps.storable.apart other (slot_so (is_of fileset.id) state.slots) b holding apart there h.held).ids) in
        ap (option_map (λ (h : Holding). h.fileset)) (ap (held_at state.slots) slot ∙ h.held) ∙ ap Some h.same

-- its objects
abbrev tells_all : Anode → Bool
tells_all anode = option_map_or (λ object. is_tellable object.content) anode.object true

told_or_none : (object : Option Object) → option_map_or (λ object. is_tellable object.content) object true ≡ true →
    option_and_then tellable_or_none object ≡ object
told_or_none None t = refl
told_or_none (Some object) t = rw t refl

told_at : (anodes : List Anode) (at : ℕ) → list_all tells_all anodes ≡ true → told_object anodes at ≡ object_at anodes at
told_at anodes at all = by (at == 0) (slice_get anodes (at - 1)) refl
  where
    by : (b : Bool) (found : Option Anode) → slice_get anodes (at - 1) ≡ found →
        option_and_then tellable_or_none (if b then None else option_and_then (λ a. a.object) found)
        ≡ (if b then None else option_and_then (λ a. a.object) found)
    by true found e = refl
    by false None e = refl
    by false (Some anode) e = told_or_none anode.object (get_all tells_all anodes (at - 1) anode (sym e) all)

same_object : (fileset : Fileset) (fid : Fid) → IsWellFormedFileset fileset → store_object fileset fid ≡ object_in fileset fid
same_object fileset fid w =
    ap (λ o. if unique_at fileset.anodes fid.anode == fid.unique then o else None)
    (told_at fileset.anodes fid.anode (tellable_if_formed fileset w))

pub formed_found : (tree : Tree) (state : StoreState) (id : FilesetId) (fileset : Fileset) → StandsFor tree state →
    find (has_id id) tree.filesets ≡ Some fileset → IsWellFormedFileset fileset
formed_found tree state id fileset s e =
    formed_get tree.filesets (prefix_len (λ x. not (has_id id x)) tree.filesets) fileset
    (sym e ∙ place_found (has_id id) tree.filesets) s.formed.filesets

-- the status, and the object, of what is found
abbrev pub status_in : Option Fileset → Fid → Option Status
status_in found fid = option_and_then (λ fileset. option_map (status_of fileset.read_only) (object_in fileset fid)) found

abbrev object_of : Option Fileset → Fid → Option Object
object_of found fid = option_and_then (λ fileset. object_in fileset fid) found

pub status_is : (tree : Tree) (state : StoreState) (fid : Fid) → StandsFor tree state →
    status_told state fid ≡ status_in (find (has_id fid.fileset) tree.filesets) fid
status_is tree state fid s =
    ap (option_and_then (λ fileset. option_map (status_of fileset.read_only) (store_object fileset fid)))
    (kept_found tree state fid.fileset s)
    ∙ by (find (has_id fid.fileset) tree.filesets) refl
  where
    by : (found : Option Fileset) → find (has_id fid.fileset) tree.filesets ≡ found →
        option_and_then (λ fileset. option_map (status_of fileset.read_only) (store_object fileset fid)) found
        ≡ status_in found fid
    by None e = refl
    by (Some fileset) e =
        ap (option_map (status_of fileset.read_only))
        (same_object fileset fid (formed_found tree state fid.fileset fileset s e))

object_is : (tree : Tree) (state : StoreState) (fid : Fid) → StandsFor tree state →
    object_named state fid ≡ object_of (find (has_id fid.fileset) tree.filesets) fid
object_is tree state fid s =
    ap (option_and_then (λ fileset. store_object fileset fid)) (kept_found tree state fid.fileset s)
    ∙ by (find (has_id fid.fileset) tree.filesets) refl
  where
    by : (found : Option Fileset) → find (has_id fid.fileset) tree.filesets ≡ found →
        option_and_then (λ fileset. store_object fileset fid) found ≡ object_of found fid
    by None e = refl
    by (Some fileset) e = same_object fileset fid (formed_found tree state fid.fileset fileset s e)

-- each part
traits_in : (found : Option Fileset) (fid : Fid) →
    option_map nature_told (status_in found fid) ≡ (cell_in found fid Traits).kept
traits_in None fid = refl
traits_in (Some fileset) fid = by (object_in fileset fid)
  where
    by : (o : Option Object) → option_map nature_told (option_map (status_of fileset.read_only) o)
        ≡ (cell_found fileset.read_only o Traits).kept
    by None = refl
    by (Some object) = refl

size_in : (found : Option Fileset) (fid : Fid) →
    option_map_or (λ (status : Status). status.length) (status_in found fid) 0 ≡ (cell_in found fid Size).kept
size_in None fid = refl
size_in (Some fileset) fid = by (object_in fileset fid)
  where
    at : (object : Object) (content : Content) → object.content ≡ content →
        kept_length object.content ≡ (cell_found fileset.read_only (Some object) Size).kept
    at object (Dir entries lists) e = rw e refl
    at object (File list kept unsaved len) e = rw e refl

    by : (o : Option Object) →
        option_map_or (λ (status : Status). status.length) (option_map (status_of fileset.read_only) o) 0
        ≡ (cell_found fileset.read_only o Size).kept
    by None = refl
    by (Some object) = at object object.content refl

entries_of : (found : Option Fileset) (fid : Fid) →
    option_map_or (λ (object : Object). entries_in object.content) (object_of found fid) []
    ≡ (cell_in found fid Entries).kept
entries_of None fid = refl
entries_of (Some fileset) fid = by (object_in fileset fid)
  where
    by : (o : Option Object) → option_map_or (λ (object : Object). entries_in object.content) o []
        ≡ (cell_found fileset.read_only o Entries).kept
    by None = refl
    by (Some object) = refl

-- the kept bytes of what is found
abbrev bytes_of : Option Object → List ℕ
bytes_of o = option_map_or (λ (object : Object). kept_bytes object.content) o []

bytes_in : (found : Option Fileset) (fid : Fid) (at : ℕ) →
    byte_at (bytes_of (object_of found fid)) at ≡ (cell_in found fid (ByteAt at)).kept
bytes_in None fid at = refl
bytes_in (Some fileset) fid at = by (object_in fileset fid)
  where
    here : (object : Object) (content : Content) → object.content ≡ content →
        byte_at (kept_bytes object.content) at ≡ (cell_found fileset.read_only (Some object) (ByteAt at)).kept
    here object (Dir entries lists) e = rw e refl
    here object (File list kept unsaved len) e = rw e refl

    by : (o : Option Object) → byte_at (bytes_of o) at ≡ (cell_found fileset.read_only o (ByteAt at)).kept
    by None = refl
    by (Some object) = here object object.content refl

take_none : (n : ℕ) → (let none : List ℕ = [] in take n none ≡ none)
take_none zero = refl
take_none (suc n) = refl

drop_none : (n : ℕ) → (let none : List ℕ = [] in drop n none ≡ none)
drop_none zero = refl
drop_none (suc n) = refl

abbrev cut : List ℕ → Span → List ℕ
cut kept span = take (span.to - span.from) (drop span.from kept)

told_cut : (o : Option Object) (span : Span) →
    option_map_or (λ (object : Object). take (span.to - span.from) (drop span.from (kept_bytes object.content))) o []
    ≡ cut (bytes_of o) span
told_cut None span =
    sym (ap (take (span.to - span.from)) (drop_none span.from) ∙ take_none (span.to - span.from))
told_cut (Some object) span = refl

-- a byte of a piece that was cut from a file
none_if : (b : Bool) → (let none : Option ℕ = None in none ≡ (if b then none else none))
none_if true = refl
none_if false = refl

get_cut : (xs : List ℕ) (n i : ℕ) → slice_get (take n xs) i ≡ (if nat_lt i n then slice_get xs i else None)
get_cut xs zero i = let less : nat_lt i 0 ≡ false = grind (arith, common_steps) in
    sym (ap (λ b. if b then slice_get xs i else None) less)
get_cut [] (suc n) i = none_if (nat_lt i (suc n))
get_cut (x ∷ xs) (suc n) zero =
    let less : nat_lt 0 (suc n) ≡ true = grind (arith, common_steps) in
    sym (ap (λ b. if b then Some x else None) less)
get_cut (x ∷ xs) (suc n) (suc i) =
    let same : nat_lt (suc i) (suc n) ≡ nat_lt i n = grind (arith, common_steps) in
    get_cut xs n i ∙ sym (ap (λ b. if b then slice_get xs i else None) same)

get_dropped : (xs : List ℕ) (n i : ℕ) → slice_get (drop n xs) i ≡ slice_get xs (n + i)
get_dropped xs zero i = ap (slice_get xs) (omega arith)
get_dropped [] (suc n) i = refl
get_dropped (x ∷ xs) (suc n) i =
    let one : suc (n + i) ≡ suc n + i = omega arith in get_dropped xs n i ∙ ap (slice_get (x ∷ xs)) one

get_is : (xs : List ℕ) (i : ℕ) → slice_get xs i ≡ (if nat_lt i (length xs) then Some (get_or xs i 0) else None)
get_is [] i = let less : nat_lt i 0 ≡ false = grind (arith, common_steps) in
    sym (ap (λ b. if b then Some 0 else None) less)
get_is (x ∷ xs) zero =
    let less : nat_lt 0 (length (x ∷ xs)) ≡ true = grind (arith, common_steps) in
    sym (ap (λ b. if b then Some x else None) less)
get_is (x ∷ xs) (suc i) =
    let same : nat_lt (suc i) (length (x ∷ xs)) ≡ nat_lt i (length xs) = grind (arith, common_steps) in
    get_is xs i ∙ sym (ap (λ b. if b then Some (get_or xs i 0) else None) same)

abbrev cut_piece : List ℕ → Span → Piece
cut_piece kept span = record { from = span.from; bytes = cut kept span }

abbrev some_if : Bool → List ℕ → ℕ → Option ℕ
some_if b kept at = if b && nat_lt at (length kept) then Some (byte_at kept at) else None

byte_cut : (kept : List ℕ) (span : Span) (at : ℕ) →
    byte_in (cut_piece kept span) at ≡ some_if (nat_le span.from at && nat_lt at span.to) kept at
byte_cut kept span at = by (nat_le span.from at) refl
  where
    by : (b : Bool) → nat_le span.from at ≡ b →
        (if b then slice_get (cut kept span) (at - span.from) else None) ≡ some_if (b && nat_lt at span.to) kept at
    by false e = refl
    by true e =
        let low : span.from ≤ at = grind (arith, common_steps, e) in
        let same : nat_lt (at - span.from) (span.to - span.from) ≡ nat_lt at span.to = grind (arith, common_steps, low) in
        let place : span.from + (at - span.from) ≡ at = omega (arith, low) in
        get_cut (drop span.from kept) (span.to - span.from) (at - span.from)
        ∙ ap (λ b. if b then slice_get (drop span.from kept) (at - span.from) else None) same
        ∙ ap (λ o. if nat_lt at span.to then o else None) (get_dropped kept span.from (at - span.from)
        ∙ ap (slice_get kept) place ∙ get_is kept at)
        ∙ both (nat_lt at span.to)
      where
        both : (b : Bool) → (if b then (if nat_lt at (length kept) then Some (byte_at kept at) else None) else None)
            ≡ some_if b kept at
        both true = refl
        both false = refl

byte_cuts : (kept : List ℕ) (spans : List Span) (at : ℕ) →
    byte_of (map (cut_piece kept) spans) at ≡ some_if (is_within at spans) kept at
byte_cuts kept [] at = refl
byte_cuts kept (span ∷ spans) at =
    ap (λ o. if is_some o then o else byte_of (map (cut_piece kept) spans) at) (byte_cut kept span at)
    ∙ ap (λ o. if is_some (some_if (nat_le span.from at && nat_lt at span.to) kept at)
    then some_if (nat_le span.from at && nat_lt at span.to) kept at else o) (byte_cuts kept spans at)
    ∙ by (nat_le span.from at && nat_lt at span.to) (is_within at spans) (nat_lt at (length kept))
  where
    by : (b c d : Bool) → (if is_some (if b && d then Some (byte_at kept at) else None)
        then (if b && d then Some (byte_at kept at) else None)
        else (if c && d then Some (byte_at kept at) else None))
        ≡ (if (b || c) && d then Some (byte_at kept at) else None)
    by true c true = refl
    by true true false = refl
    by true false false = refl
    by false c d = refl

past_end : (kept : List ℕ) (at : ℕ) → nat_lt at (length kept) ≡ false → byte_at kept at ≡ 0
past_end [] at e = refl
past_end (x ∷ kept) zero e = absurd (grind (arith, common_steps, e))
past_end (x ∷ kept) (suc at) e = past_end kept at (grind (arith, common_steps, e))

cut_told : (kept : List ℕ) (spans : List Span) (at : ℕ) → is_within at spans ≡ true →
    unwrap_or (byte_of (map (cut_piece kept) spans) at) 0 ≡ byte_at kept at
cut_told kept spans at within =
    ap (λ o. unwrap_or o 0) (byte_cuts kept spans at ∙ ap (λ b. some_if b kept at) within)
    ∙ by (nat_lt at (length kept)) refl
  where
    by : (b : Bool) → nat_lt at (length kept) ≡ b →
        unwrap_or (if b then Some (byte_at kept at) else None) 0 ≡ byte_at kept at
    by true e = refl
    by false e = sym (past_end kept at e)

pieces_are : (state : StoreState) (fid : Fid) (o : Option Object) → object_named state fid ≡ o → (spans : List Span) →
    pieces_told state fid spans ≡ map (cut_piece (bytes_of o)) spans
pieces_are state fid o e [] = refl
pieces_are state fid o e (span ∷ spans) =
    let one : bytes_told state fid span ≡ cut (bytes_of o) span =
    ap (λ o. option_map_or (λ (object : Object). take (span.to - span.from) (drop span.from (kept_bytes object.content))) o
    []) e ∙ told_cut o span in
    let rest = pieces_are state fid o e spans in
    λ i. record { from = span.from; bytes = one i } ∷ rest i

some_mapped : {A B : Type 0} (f : A → B) (o : Option A) → is_some o ≡ is_some (option_map f o)
some_mapped f None = refl
some_mapped f (Some x) = refl

traits_told : (tree : Tree) (state : StoreState) (fid : Fid) → StandsFor tree state →
    option_map nature_told (status_told state fid) ≡ (cell_at tree fid Traits).kept
traits_told tree state fid s =
    ap (option_map nature_told) (status_is tree state fid s)
    ∙ traits_in (find (has_id fid.fileset) tree.filesets) fid

-- a directory has no bytes
dir_bytes : (read_only : Bool) (o : Option Object) →
    option_map_or (λ (status : Status). status.dir) (option_map (status_of read_only) o) false ≡ true → bytes_of o ≡ []
dir_bytes read_only None e = refl
dir_bytes read_only (Some object) e = by object.content refl
  where
    by : (content : Content) → object.content ≡ content → kept_bytes object.content ≡ []
    by (Dir entries lists) c = ap kept_bytes c
    by (File list kept unsaved len) c =
        let clash : false ≡ true = sym (ap is_dir c) ∙ e in absurd (cc)

dir_found : (found : Option Fileset) (fid : Fid) →
    option_map_or (λ (status : Status). status.dir) (status_in found fid) false ≡ true → bytes_of (object_of found fid) ≡ []
dir_found None fid e = refl
dir_found (Some fileset) fid e = dir_bytes fileset.read_only (object_in fileset fid) e

none_told : (kept : List ℕ) (spans : List Span) (at : ℕ) → kept ≡ [] →
    unwrap_or (byte_of (map (cut_piece kept) spans) at) 0 ≡ byte_at kept at
none_told kept spans at none =
    ap (λ o. unwrap_or o 0) (byte_cuts kept spans at) ∙ by kept none
  where
    by : (xs : List ℕ) → xs ≡ [] → unwrap_or (some_if (is_within at spans) xs at) 0 ≡ byte_at xs at
    by [] e =
        let less : nat_lt at 0 ≡ false = grind (arith, common_steps) in
        ap (λ b. unwrap_or (if is_within at spans && b then Some 0 else None) 0) less ∙ no (is_within at spans)
      where
        no : (b : Bool) → ◌≡◌ {A = ℕ} (unwrap_or (if b && false then Some 0 else None) 0) 0
        no true = refl
        no false = refl
    by (x ∷ xs) e = absurd (cc)

tells_part : (tree : Tree) (state : StoreState) (grant : GrantOf) (spans : List Span) (part : Part) →
    StandsFor tree state → HasPart state grant spans part → part_told grant part ≡ (cell_at tree grant.bring.fid part).kept
tells_part tree state grant spans Traits s e = ap (option_map nature_told) e ∙ traits_told tree state grant.bring.fid s
tells_part tree state grant spans Size s e =
    ap (λ o. option_map_or (λ (status : Status). status.length) o 0) (e ∙ status_is tree state grant.bring.fid s)
    ∙ size_in (find (has_id grant.bring.fid.fileset) tree.filesets) grant.bring.fid
tells_part tree state grant spans (ByteAt at) s (e, within) =
    let same = object_is tree state grant.bring.fid s in
    ap (λ pieces. unwrap_or (byte_of pieces at) 0) (e ∙ pieces_are state grant.bring.fid o same spans)
    ∙ by within
    ∙ bytes_in (find (has_id grant.bring.fid.fileset) tree.filesets) grant.bring.fid at
  where
    o : Option Object
    o = object_of (find (has_id grant.bring.fid.fileset) tree.filesets) grant.bring.fid

    by : (is_within at spans ≡ true) ⊎ (is_dir_told state grant.bring.fid ≡ true) →
        unwrap_or (byte_of (map (cut_piece (bytes_of o)) spans) at) 0 ≡ byte_at (bytes_of o) at
    by (inl within) = cut_told (bytes_of o) spans at within
    by (inr dir) =
        none_told (bytes_of o) spans at
        (dir_found (find (has_id grant.bring.fid.fileset) tree.filesets) grant.bring.fid
        (sym (ap (λ o. option_map_or (λ (status : Status). status.dir) o false)
        (status_is tree state grant.bring.fid s)) ∙ dir))
tells_part tree state grant spans Entries s e =
    e ∙ ap (λ o. option_map_or (λ (object : Object). entries_in object.content) o [])
    (object_is tree state grant.bring.fid s)
    ∙ entries_of (find (has_id grant.bring.fid.fileset) tree.filesets) grant.bring.fid

pub tells_are_kept : TellsAreKept
tells_are_kept = record {
  there = λ tree state fid s. some_mapped nature_told (status_told state fid) ∙ ap is_some (traits_told tree state fid s);
  parts = tells_part;
}

pub grants_tell_kept : GrantsTellKept
grants_tell_kept tree state grant spans s has t part i shown = tells_part tree state grant spans part s (has t part i shown)

and_none : (b : Bool) → (b && false) ≡ false
and_none true = refl
and_none false = refl

gifts_in : (found : Option Fileset) (fid : Fid) →
    option_map_or (λ fileset. not fileset.read_only && is_file_at fileset fid) found false
    ≡ option_map_or may_take (status_in found fid) false
gifts_in None fid = refl
gifts_in (Some fileset) fid = by (unique_at fileset.anodes fid.anode == fid.unique) (object_at fileset.anodes fid.anode)
  where
    by : (b : Bool) (o : Option Object) →
        (not fileset.read_only && (b && option_map_or (λ (object : Object). not (is_dir object.content)) o false))
        ≡ option_map_or may_take (option_map (status_of fileset.read_only) (if b then o else None)) false
    by true None = and_none (not fileset.read_only)
    by true (Some object) = refl
    by false o = and_none (not fileset.read_only)

pub gifts_are_told : GiftsAreTold
gifts_are_told tree state fid s =
    gifts_in (find (has_id fid.fileset) tree.filesets) fid
    ∙ sym (ap (λ o. option_map_or may_take o false) (status_is tree state fid s))
