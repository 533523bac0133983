-- Acts that fit may stand.
use Rattle.std.proofs.Common.{◌≡◌, ℕ, zero, suc, ◌-◌, List, [], ◌∷◌, ◌++◌, length, replicate, take, refl, sym, subst, ◌∙◌, ap, arith}
use Rattle.std.specs.Prelude.{Bool, true, false, ◌==◌, IsTrue, nat_lt, if◌then◌else◌, Option, Some, None, slice_get}
use Rattle.std.specs.List.{list_all}
use Rattle.std.specs.Option.{option_map, option_map_or}
use Rattle.std.proofs.lemmas.Bool.{and_from, and_parts, cond-true, eq-eqb, false≢true}
use Rattle.std.proofs.lemmas.List.Folds.{list_all-append}
use Rattle.base_types.specs.Name.{is_before, is_name}
use Rattle.base_types.specs.declared.access.AccessEntry.{AccessEntry}
use Rattle.base_types.specs.declared.ids.FilesetId.{FilesetId}
use Rattle.base_types.specs.declared.ids.ServerId.{ServerId}
use Rattle.base_types.specs.declared.ids.HostId.{HostId}
use Rattle.tree_calls.specs.declared.call.Call.{Call}
use Rattle.tree_calls.specs.declared.part.DirEntry.{DirEntry}
use Rattle.tree_calls.specs.declared.part.Piece.{Piece}
use Rattle.tree_calls.specs.declared.part.Status.{Status}
use Rattle.tree_calls.specs.declared.ship.Mover.{Mover}
use Rattle.tree_calls.specs.declared.ship.Record.{Record}
use Rattle.tree_calls.specs.declared.ship.ShipPart.{ShipPart}
use Rattle.tree_calls.specs.declared.ship.ShipPart.TheVariants.{Head, Object}
use Rattle.tree_objects.specs.Sound.{names_rise}
use Rattle.tree_objects.specs.declared.content.Anode.{Anode}
use Rattle.tree_objects.specs.declared.content.Content.{Content}
use Rattle.tree_objects.specs.declared.content.Content.TheVariants.{Dir, File}
use Rattle.tree_objects.specs.declared.content.Object.{Object as ObjectOf}
use Rattle.tree_filesets.specs.Laws.{entries_in}
use Rattle.tree_filesets.specs.Walk.{object_at}
use Rattle.tree_filesets.specs.WellFormed.{IsWellFormed}
use Rattle.tree_filesets.specs.declared.fileset.Fileset.{Fileset}
use Rattle.message_types.specs.Soundness.{Each, NamesRise}
use Rattle.store_acts.specs.Acts.{act_done}
use Rattle.store_acts.specs.Moving.{anode_outcome, done_where, part_outcome}
use Rattle.store_acts.specs.Parts.{anode_of_part}
use Rattle.store_acts.specs.Sound.{Fits, FitsAt, HasName, IsAllowed}
use Rattle.store_acts.specs.declared.act.Act.TheVariants.{Do, Leave, Part}
use Rattle.store_state.specs.Giving.{put_pieces}
use Rattle.store_state.specs.State.{held_so, is_of, slot_so}
use Rattle.store_state.specs.declared.state.Holding.{Holding}
use Rattle.store_state.specs.declared.state.Stay.{Stay}
use Rattle.store_state.specs.declared.state.Stay.TheVariants.{Writable, Clone, Leaving, Arriving, Gone}
use Rattle.store_state.specs.declared.state.StoreState.{StoreState}
use Rattle.store_records.specs.Stored.{IsStorable, StaysRight}
use Rattle.store_records.proofs.Acts.{acts_keep_storable}
use Rattle.store_records.proofs.Fit.{fit_of}
use Rattle.store_records.specs.Stands.{AllRise, CamePlain, DidntFit, MayCome, MayHold, WasDone}
use Rattle.store_records.specs.Tree.{is_kept_sound}
use Rattle.store_records.proofs.Coming.{awaiting, came, part_rests, taking}
use Rattle.store_records.proofs.Heads.{head_next}
use Rattle.store_records.proofs.Standing.{head_done_next, server_stays}
use Rattle.store_records.proofs.Trees.{each_anode, object_passes, sound_kept}

-- whether names rise in an object, if it is a directory
abbrev rise_in : Option ObjectOf → Bool
rise_in o = option_map_or (λ object. names_rise (entries_in object.content)) o true

abbrev rise_all : List Anode → Bool
rise_all anodes = list_all (λ anode. rise_in anode.object) anodes

all_rise : (anodes : List Anode) → rise_all anodes ≡ true → AllRise anodes
all_rise anodes h at = by (object_at anodes at) refl
  where
    by : (o : Option ObjectOf) → object_at anodes at ≡ o → names_rise (option_map_or (λ object. entries_in object.content) o []) ≡ true
    by None is = refl
    by (Some object) is =
        let (anode, there, passes) = object_passes (λ (a : Anode). rise_in a.object) anodes at object h is in
        ap rise_in (sym there) ∙ passes

kept_rise : (content : Content) → is_kept_sound content ≡ true → names_rise (entries_in content) ≡ true
kept_rise (Dir entries lists) h = (and_parts (names_rise entries) _ h).0
kept_rise (File list kept unsaved len) h = refl

formed_rise : (fileset : Fileset) → IsWellFormed fileset → rise_all fileset.anodes ≡ true
formed_rise fileset w = each_anode rise_in fileset.anodes refl (λ at object there. kept_rise object.content (sound_kept object.content (w.sound at object there)))

all_taken : (p : Anode → Bool) (anodes : List Anode) (n : ℕ) → list_all p anodes ≡ true → list_all p (take n anodes) ≡ true
all_taken p anodes zero h = refl
all_taken p [] (suc n) h = refl
all_taken p (anode ∷ anodes) (suc n) h =
    let (a, b) = and_parts (p anode) (list_all p anodes) h in and_from (p anode) (list_all p (take n anodes)) a (all_taken p anodes n b)

each_before : (entry : DirEntry) (entries : List DirEntry) → Each (λ other. IsTrue (is_before entry.name other.name)) entries → list_all (λ other. is_before entry.name other.name) entries ≡ true
each_before entry [] h = refl
each_before entry (other ∷ entries) h = and_from (is_before entry.name other.name) _ h.0 (each_before entry entries h.1)

told_rise : (entries : List DirEntry) → NamesRise entries → names_rise entries ≡ true
told_rise [] h = refl
told_rise (entry ∷ entries) h = and_from _ (names_rise entries) (each_before entry entries h.0) (told_rise entries h.1)

part_rises : (unique : ℕ) (status : Option Status) (pieces : List Piece) (entries : List DirEntry) → NamesRise entries → rise_in (anode_of_part unique status pieces entries).object ≡ true
part_rises unique None pieces entries rise = refl
part_rises unique (Some status) pieces entries rise = by status.dir (slice_get status.lists 0)
  where
    by : (dir : Bool) (list : Option (List AccessEntry)) → rise_in (option_map (λ content. record { owner = status.owner; group = status.group; content = content })
        (if dir then Some (Dir entries status.lists) else option_map (λ list. File list (put_pieces (replicate status.length 0) pieces) [] None) list)) ≡ true
    by true list = told_rise entries rise
    by false None = refl
    by false (Some list) = refl

-- in what came names rise
came_rising : (state : StoreState) (from : ServerId) (ship : ℕ) (id : FilesetId) (moves at unique : ℕ) (status : Option Status) (pieces : List Piece) (entries : List DirEntry) (told : ShipPart) (fileset : Fileset)
    → IsStorable state → NamesRise entries → FitsAt state from ship id moves at told fileset → (anode_outcome state from ship id moves at (anode_of_part unique status pieces entries)).done.fresh ≡ true
    → (holding : Holding) → held_so (is_of id) (anode_outcome state from ship id moves at (anode_of_part unique status pieces entries)).state.slots ≡ Some holding → AllRise holding.fileset.anodes
came_rising state from ship id moves at unique status pieces entries told fileset h rise fits fresh holding there =
    by (nat_lt (awaiting state from ship id moves at) (length state.slots)) refl fresh there
  where
    by : (b : Bool) → nat_lt (awaiting state from ship id moves at) (length state.slots) ≡ b
        → (done_where b state (taking state from ship id moves at (anode_of_part unique status pieces entries))).done.fresh ≡ true
        → held_so (is_of id) (done_where b state (taking state from ship id moves at (anode_of_part unique status pieces entries))).state.slots ≡ Some holding → AllRise holding.fileset.anodes
    by false inside fresh there = absurd (false≢true fresh)
    by true inside fresh there =
        let (a, waited, same) = came state from ship id moves at (anode_of_part unique status pieces entries) (fit_of state h) (part_rests unique status pieces entries) inside holding there in
        let front = (fits.taken a waited).anodes in
        let old : rise_all a.fileset.anodes ≡ true = ap rise_all front ∙ all_taken (λ (x : Anode). rise_in x.object) fileset.anodes (at - 1) (formed_rise fileset fits.well_formed) in
        let new : rise_all (a.fileset.anodes ++ anode_of_part unique status pieces entries ∷ []) ≡ true =
        list_all-append (λ (x : Anode). rise_in x.object) a.fileset.anodes (anode_of_part unique status pieces entries ∷ [])
        ∙ and_from _ _ old (and_from _ true (part_rises unique status pieces entries rise) refl) in
        all_rise holding.fileset.anodes (ap (λ (b : Holding). rise_all b.fileset.anodes) same ∙ new)

-- what is held right may be held
right_may : (state : StoreState) (fileset : Fileset) (stay : Stay) → StaysRight state fileset stay → MayHold fileset stay
right_may state fileset Writable k = λ rest. k.0
right_may state fileset Clone k = tt
right_may state fileset (Leaving to ship) k = tt
right_may state fileset (Arriving from ship parts) k = k.0
right_may state fileset (Gone to) k = tt

head_name : (a b : List ℕ) (m n : ℕ) (r s : List Record) (x y : Mover) → ◌≡◌ {A = ShipPart} (Head a m r x) (Head b n s y) → a ≡ b
head_name a b m n r s x y e = cc

allowed_after : (before after : StoreState) (id : FilesetId) → after.server ≡ before.server → after.next ≡ before.next → IsAllowed before id → IsAllowed after id
allowed_after before after id server next a = record {
  first = a.first;
  last = a.last;
  number = a.number;
  given = λ own. (let below = a.given (own ∙ ap (λ (s : ServerId). s.0) server) in omega (arith, below, next));
}

object_done : (before : StoreState) (from : ServerId) (ship : ℕ) (id : FilesetId) (moves at number unique : ℕ) (status : Option Status) (pieces : List Piece) (entries : List DirEntry)
    → act_done before (Part from ship id moves at (Object number unique status pieces entries)) ≡ anode_outcome before from ship id moves at (anode_of_part unique status pieces entries)
unfolding act_done part_outcome
object_done before from ship id moves at number unique status pieces entries = refl

-- a part that fits, which was taken now
pub part_may : (before after : StoreState) (from : ServerId) (ship : ℕ) (id : FilesetId) (moves at : ℕ) (part : ShipPart) → WasDone before (Part from ship id moves at part) after
    → (act_done before (Part from ship id moves at part)).done.fresh ≡ true → Fits before (Part from ship id moves at part) → CamePlain after id part × MayCome after from id part
part_may before after from ship id moves at (Head name objects records mover) was fresh (fileset, fits) =
    let server : after.server ≡ before.server = ap (λ (s : StoreState). s.server) was.done ∙ server_stays before (Part from ship id moves at (Head name objects records mover)) was.storable was.allowed in
    let next : after.next ≡ before.next =
    ap (λ (s : StoreState). s.next) was.done ∙ ap (λ (s : StoreState). s.next) (head_done_next before from ship id moves at (Head name objects records mover))
    ∙ head_next before from ship id moves at name objects records mover in
    let (stay, kept, other, is) = fits.part in
    let same : name ≡ fileset.name = head_name _ _ _ _ _ _ _ _ (is ∙ cond-true (at == 0) _ _ (eq-eqb at 0 was.allowed.1.0)) in (
      tt,
      (
        (λ own. fits.other (own ∙ ap (λ (s : ServerId). s.0) server)),
        allowed_after before after id server next fits.allowed,
        subst (λ n. IsTrue (is_name n)) (sym same) fits.named,
      ),
    )
part_may before after from ship id moves at (Object number unique status pieces entries) was fresh (fileset, fits) =
    let storable : IsStorable after = subst IsStorable (sym was.done) (acts_keep_storable before (Part from ship id moves at (Object number unique status pieces entries)) was.storable was.allowed (fileset, fits)) in
    let done = object_done before from ship id moves at number unique status pieces entries in
    let rising = came_rising before from ship id moves at unique status pieces entries (Object number unique status pieces entries) fileset was.storable was.allowed.1.3.order fits (ap (λ o. o.done.fresh) (sym done) ∙ fresh) in (
      (λ holding there. record {
        rest = (storable.each (slot_so (is_of id) after.slots) holding there).rest;
        rise = rising holding (ap (λ (s : StoreState). held_so (is_of id) s.slots) (sym (was.done ∙ ap (λ o. o.state) done)) ∙ there);
      }),
      (λ holding there. right_may after holding.fileset holding.stay (storable.each (slot_so (is_of id) after.slots) holding there).stay),
    )

-- acts that didn't fit
pub do_unfit : (after : StoreState) (host : HostId) (number : ℕ) (call : Call) → (HasName call → ⊥) → DidntFit (Do host number call) after
do_unfit after host number call without = λ before was fresh fits. without fits

pub leave_unfit : (after : StoreState) (id : FilesetId) (to : ServerId) → to.0 ≡ after.server.0 → DidntFit (Leave id to) after
leave_unfit after id to own = λ before was fresh fits.
    fits (own ∙ ap (λ (s : ServerId). s.0) (ap (λ (s : StoreState). s.server) was.done ∙ server_stays before (Leave id to) was.storable was.allowed))

pub part_unfit : (after : StoreState) (from : ServerId) (ship : ℕ) (id : FilesetId) (moves at : ℕ) (part : ShipPart) → (CamePlain after id part → MayCome after from id part → ⊥)
    → DidntFit (Part from ship id moves at part) after
part_unfit after from ship id moves at part never = λ before was fresh fits.
    (let (plain, may) = part_may before after from ship id moves at part was fresh fits in never plain may)
