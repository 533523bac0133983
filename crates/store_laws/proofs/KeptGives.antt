-- A host writes and stores what it wrote, in a tree and in the store that has the file.
use Rattle.std.proofs.Common.{◌≡◌, ℕ, zero, suc, ◌+◌, ◌-◌, ◌==◌, nat_lt, Bool, true, false, ◌&&◌, not, List, [], ◌∷◌, length, map, Option, Some, None, Result, Ok, Err, refl, sym, ap, ◌∙◌, subst, arith}
use Rattle.std.specs.Prelude.{slice_get, slice_set, if◌then◌else◌, option_and_then}
use Rattle.std.specs.List.{find, list_all, prefix_len}
use Rattle.std.specs.Option.{option_map, option_map_or}
use Rattle.std.proofs.lemmas.Grind.{common_steps, same_number_lists}
use Rattle.base_types.specs.Lists.{changed_at}
use Rattle.base_types.specs.Outcomes.{either}
use Rattle.base_types.specs.declared.access.AccessEntry.{AccessEntry}
use Rattle.base_types.specs.declared.ids.Fid.{Fid}
use Rattle.base_types.specs.declared.ids.FilesetId.{FilesetId}
use Rattle.base_types.specs.declared.ids.HostId.{HostId}
use Rattle.base_types.specs.declared.ids.ServerId.{ServerId}
use Rattle.base_types.specs.declared.limits.TheConstants.{FILE_BYTES_MAX}
use Rattle.base_types.specs.declared.span.Span.{Span}
use Rattle.base_types.specs.declared.user.User.{User}
use Rattle.tree_calls.specs.declared.call.Call.TheVariants.{Write}
use Rattle.tree_calls.specs.declared.part.Piece.{Piece}
use Rattle.tree_calls.specs.declared.place.Place.{Place}
use Rattle.tree_calls.specs.declared.reply.Refusal.{Refusal}
use Rattle.tree_calls.specs.declared.reply.Refusal.TheVariants.{NoFileset, ReadOnly, TooBig}
use Rattle.tree_calls.specs.declared.reply.Reply.TheVariants.{Ok as Accepted, Refused}
use Rattle.tree_objects.specs.Changes.{anode_changed, content_changed, content_written, length_after, unsaved_after}
use Rattle.tree_objects.specs.Objects.{is_dir}
use Rattle.tree_objects.specs.Positions.{positions_rise}
use Rattle.tree_objects.specs.Sound.{is_sound}
use Rattle.tree_objects.specs.Stores.{content_stored, is_storable}
use Rattle.tree_objects.specs.declared.content.Anode.{Anode}
use Rattle.tree_objects.specs.declared.content.Content.{Content}
use Rattle.tree_objects.specs.declared.content.Content.TheVariants.{Dir, File}
use Rattle.tree_objects.specs.declared.content.Object.{Object}
use Rattle.tree_objects.specs.declared.content.Unsaved.{Unsaved}
use Rattle.tree_objects.specs.declared.content.UnsavedLength.{UnsavedLength}
use Rattle.tree_objects.proofs.Observed.{and_left, and_right}
use Rattle.tree_filesets.specs.Answers.{answered}
use Rattle.tree_filesets.specs.Changing.{write_target, write_answer}
use Rattle.tree_filesets.specs.Laws.{is_file_at}
use Rattle.tree_filesets.specs.Rights.{write_right}
use Rattle.tree_filesets.specs.Rows.{fileset_answer}
use Rattle.tree_filesets.specs.Updates.{updated, changed}
use Rattle.tree_filesets.specs.Walk.{object_at, unique_at, walk, permitted_file}
use Rattle.tree_filesets.specs.WellFormed.{leads, is_settled, is_at_rest, IsWellFormed as IsWellFormedFileset}
use Rattle.tree_filesets.specs.declared.fileset.Fileset.{Fileset}
use Rattle.tree_filesets.proofs.Observations.{object_from, object_not_zero, object_changed_to, unique_changed}
use Rattle.tree_filesets.proofs.StaysWellFormed.{stays_well_formed}
use Rattle.tree_filesets.proofs.Targets.{then_ok, unless_ok, ok_is, permitted_file_ok, permitted_file_file, walk_leads}
use Rattle.tree_filesets.proofs.Updates.{found_changed}
use Rattle.tree_saving.specs.Saving.{fid_named}
use Rattle.tree_answers.specs.declared.tree.Tree.{Tree}
use Rattle.tree_answers.specs.Answers.{answer_to as tree_answer}
use Rattle.tree_answers.specs.Finding.{Answer as TreeAnswer, has_id, found_or, fileset_named, leads_to}
use Rattle.tree_answers.specs.Founding.{room_of}
use Rattle.tree_answers.specs.Stores.{content_in, content_at, may_store, place_with_id, stored_tree}
use Rattle.tree_answers.specs.WellFormed.{IsWellFormed}
use Rattle.tree_answers.proofs.AfterMove.{formed_get}
use Rattle.tree_answers.proofs.Inserted.{position_or_end}
use Rattle.tree_answers.proofs.Kept.{formed_answer}
use Rattle.tree_answers.proofs.Places.{find_all, find_at_place, place_found}
use Rattle.tree_answers.proofs.Resting.{settled_there}
use Rattle.store_records.specs.Stored.{IsStorable, StaysRight}
use Rattle.store_records.proofs.Acts.{acts_keep_storable}
use Rattle.store_acts.specs.Acts.{act_done}
use Rattle.store_acts.specs.Parts.{kept_bytes}
use Rattle.store_acts.specs.Sound.{IsAct}
use Rattle.store_acts.specs.declared.act.Act.TheVariants.{Give}
use Rattle.store_laws.specs.Gives.{piece_of}
use Rattle.store_laws.proofs.Gives.{gives_are_stores}
use Rattle.store_state.specs.Giving.{content_given, held_given, give_outcome, put_pieces, lengthened}
use Rattle.store_state.specs.Outcomes.{Outcome, applied_before, fresh, give_applied, not_fresh}
use Rattle.store_state.specs.Rows.{nothing_used}
use Rattle.store_state.specs.State.{is_here, is_gone, is_of, is_server, is_writable, held_so, held_noted, record_of, records_of, slot_so, unless_gone, with_held}
use Rattle.store_state.specs.declared.state.Holding.{Holding}
use Rattle.store_state.specs.declared.state.Stay.{Stay}
use Rattle.store_state.specs.declared.state.Stay.TheVariants.{Writable, Clone, Leaving, Arriving, Gone}
use Rattle.store_state.specs.declared.state.StoreState.{StoreState}
use Rattle.store_laws.specs.Calls.{IsDecidedBy, DoesKeep}
use Rattle.store_laws.specs.KeptGives.{IsNewGive, pieces_in, after_write, WritesAreKept}
use Rattle.store_laws.specs.TreeKeeping.{KeepsOf}
use Rattle.store_laws.proofs.Called.{accepts_so, led_there}
use Rattle.store_laws.proofs.Keys.{same_key}
use Rattle.store_laws.proofs.KeptRows.{
  noted_slots,
  not_gone,
  IsPut,
  put_found,
  put_others,
  put_elsewhere,
  put_part,
}
use Rattle.store_laws.proofs.Slots.{Table, changes_one, changes_then}
use Rattle.store_laws.proofs.KeptSteps.{IsPart, SameAt, part_of, keeps_parts, parts_step, same_part, held_here, not_server}

-- a content of which nothing is unsaved
settled_file : (list : List AccessEntry) (kept : List ℕ) (unsaved : List Unsaved) (len : Option UnsavedLength) →
    is_settled (File list kept unsaved len) ≡ true → File list kept unsaved len ≡ File list kept [] None
settled_file list kept [] None h = refl
settled_file list kept [] (Some len) h = absurd (cc)
settled_file list kept (byte ∷ unsaved) len h = absurd (cc)

-- what is given is what is stored, where that leaves nothing unsaved
given_is_stored : (host : HostId) (spans : List Span) (stored : Option ℕ) (list : List AccessEntry) (kept : List ℕ)
    (unsaved : List Unsaved) (len : Option UnsavedLength) → positions_rise unsaved ≡ true →
    is_storable host spans stored (File list kept unsaved len) ≡ true →
    is_settled (content_stored host spans stored (File list kept unsaved len)) ≡ true →
    content_given (map (piece_of kept unsaved) spans) stored (File list kept [] None)
    ≡ content_stored host spans stored (File list kept unsaved len)
given_is_stored host spans stored list kept unsaved len rise may settled =
    let size = gives_are_stores.size host spans stored list kept unsaved len may in
    let bytes = same_number_lists
    (put_pieces (lengthened kept stored) (map (piece_of kept unsaved) spans))
    (kept_bytes (content_stored host spans stored (File list kept unsaved len))) size
    (λ at below. gives_are_stores.bytes host spans stored list kept unsaved len at rise may) in
    ap (λ xs. File list xs [] None) bytes ∙ sym (settled_file list
    (kept_bytes (content_stored host spans stored (File list kept unsaved len))) _ _ settled)

sound_rises : (list : List AccessEntry) (kept : List ℕ) (unsaved : List Unsaved) (len : Option UnsavedLength) →
    is_sound (File list kept unsaved len) ≡ true → positions_rise unsaved ≡ true
sound_rises list kept unsaved len h = and_right _ _ (and_left _ _ (and_left _ _ h))

-- a write to a file leaves what is kept of it
give_content : (writer host : HostId) (from : ℕ) (bytes : List ℕ) (spans : List Span) (stored : Option ℕ)
    (content : Content) → is_settled content ≡ true → is_sound (content_written writer from bytes content) ≡ true →
    is_storable host spans stored (content_written writer from bytes content) ≡ true →
    is_settled (content_stored host spans stored (content_written writer from bytes content)) ≡ true →
    content_given (pieces_in (Some (content_written writer from bytes content)) spans) stored content
    ≡ content_stored host spans stored (content_written writer from bytes content)
give_content writer host from [] spans stored (Dir entries lists) s sound may settled = absurd (cc)
give_content writer host from (byte ∷ bytes) spans stored (Dir entries lists) s sound may settled = absurd (cc)
give_content writer host from [] spans stored (File list kept [] None) s sound may settled =
    given_is_stored host spans stored list kept [] None refl may settled
give_content writer host from (byte ∷ bytes) spans stored (File list kept [] None) s sound may settled =
    let unsaved = unsaved_after [] writer from (byte ∷ bytes) in
    let len = length_after None (length kept) writer (from + length (byte ∷ bytes)) in
    given_is_stored host spans stored list kept unsaved len (sound_rises list kept unsaved len sound) may settled
give_content writer host from bytes spans stored (File list kept [] (Some len)) s sound may settled = absurd (cc)
give_content writer host from bytes spans stored (File list kept (other ∷ unsaved) len) s sound may settled =
    absurd (cc)

-- one change in place of two
one_change : (anodes : List Anode) (i : ℕ) (object : Object) (g f s : Content → Content) →
    option_and_then (λ a. a.object) (slice_get anodes i) ≡ Some object → g object.content ≡ s (f object.content) →
    changed_at anodes i (anode_changed g) ≡ changed_at (changed_at anodes i (anode_changed f)) i (anode_changed s)
one_change [] i object g f s e k = absurd (cc)
one_change (x ∷ xs) zero object g f s e k =
    let first : option_map (content_changed g) x.object ≡ Some (record object { content = g object.content }) =
    ap (option_map (content_changed g)) e in
    let second : option_map (content_changed s) (option_map (content_changed f) x.object)
    ≡ Some (record object { content = s (f object.content) }) =
    ap (λ o. option_map (content_changed s) (option_map (content_changed f) o)) e in
    let same : Some (record object { content = g object.content })
    ≡ Some (record object { content = s (f object.content) }) = ap (λ c. Some (record object { content = c })) k in
    ap (λ o. record x { object = o } ∷ xs) (first ∙ same ∙ sym second)
one_change (x ∷ xs) (suc i) object g f s e k = ap (λ ys. x ∷ ys) (one_change xs i object g f s e k)

one_changed : (fileset : Fileset) (anode : ℕ) (object : Object) (g f s : Content → Content) →
    object_at fileset.anodes anode ≡ Some object → g object.content ≡ s (f object.content) →
    changed fileset anode g ≡ changed (changed fileset anode f) anode s
unfolding updated
one_changed fileset anode object g f s e k =
    ap (λ anodes. record fileset { anodes = anodes }) (one_change fileset.anodes (anode - 1) object g f s
    (sym (object_from fileset.anodes anode (object_not_zero fileset.anodes anode object e)) ∙ e) k)

pub changed_id : (fileset : Fileset) (anode : ℕ) (change : Content → Content) →
    ((changed fileset anode change).id ≡ fileset.id) × ((changed fileset anode change).server ≡ fileset.server)
    × ((changed fileset anode change).moves ≡ fileset.moves)
unfolding updated
changed_id fileset anode change = (refl, refl, refl)

-- a write that is accepted
pub record IsWritten (tree : Tree) (host : HostId) (place : Place) (from : ℕ) (bytes : List ℕ) (at : ℕ)
    (fileset : Fileset) (fid : Fid) : Type 0 where
  pub object : Object
  pub there : object_at fileset.anodes fid.anode ≡ Some object
  pub is_file : is_dir object.content ≡ false
  pub writable : fileset.read_only ≡ false
  pub fileset_is : fid.fileset ≡ fileset.id
  pub unique : unique_at fileset.anodes fid.anode ≡ fid.unique
  pub put : IsPut tree (after_write tree host place from bytes) at fileset
      (changed fileset fid.anode (content_written host from bytes))
  pub roster : (after_write tree host place from bytes).roster ≡ tree.roster
  pub servers : (after_write tree host place from bytes).servers ≡ tree.servers
  pub formed : IsWellFormedFileset (changed fileset fid.anode (content_written host from bytes))

pub write_way : (fileset : Fileset) (user : User) (path : List (List ℕ)) (end anode : ℕ) →
    write_target fileset user path end ≡ Ok anode →
    (fileset.read_only ≡ false) × (walk fileset.anodes user 1 path ≡ Ok anode)
    × (object : Object) × (object_at fileset.anodes anode ≡ Some object) × (is_dir object.content ≡ false)
unfolding write_target
write_way fileset user path end anode e =
    let (writable, a) = unless_ok fileset.read_only ReadOnly _ anode e in
    let (found, b, c) = then_ok (permitted_file fileset user path write_right) _ anode a in
    let (small, d) = unless_ok (nat_lt FILE_BYTES_MAX end) TooBig _ anode c in
    let w = permitted_file_ok fileset user path write_right found b in
    let file = permitted_file_file fileset user path write_right found b in
    let same : found.0 ≡ anode = ok_is found.0 anode d in
    (writable, w.way ∙ ap Ok same, found.1, subst (λ n. object_at fileset.anodes n ≡ Some found.1) same w.there, file)

pub accepted_target : (fileset : Fileset) (checked : Result ℕ Refusal) (effect : ℕ → Fileset) →
    (answered fileset checked effect).reply ≡ Accepted → (anode : ℕ) × (checked ≡ Ok anode)
accepted_target fileset (Ok anode) effect h = (anode, refl)
accepted_target fileset (Err e) effect h = absurd (cc)

-- the file to which a place leads
pub its_fid : (tree : Tree) (place : Place) (fileset : Fileset) (user : User) (anode : ℕ) →
    find (leads_to tree place.server place.fileset) tree.filesets ≡ Some fileset →
    walk fileset.anodes user 1 place.path ≡ Ok anode →
    fid_named tree place
    ≡ Some (record { fileset = fileset.id; anode = anode; unique = unique_at fileset.anodes anode })
unfolding fileset_named
its_fid tree place fileset user anode e way =
    let led = walk_leads fileset.anodes user place.path 1 anode way in
    ap (λ o. either (found_or o NoFileset) (λ (f : Fileset).
    option_map (λ at. let fid : Fid = record { fileset = f.id; anode = at; unique = unique_at f.anodes at } in fid)
    (leads f.anodes 1 place.path)) (λ refusal. None)) e
    ∙ ap (option_map (λ at.
    let fid : Fid = record { fileset = fileset.id; anode = at; unique = unique_at fileset.anodes at } in fid)) led

written_so : (tree : Tree) (host : HostId) (place : Place) (from : ℕ) (bytes : List ℕ) (fileset : Fileset) (fid : Fid) →
    IsWellFormed tree → (by : IsDecidedBy tree (Write place from bytes) fileset) →
    (tree_answer tree host (Write place from bytes)).reply ≡ Accepted → fid_named tree place ≡ Some fid →
    IsWritten tree host place from bytes by.place fileset fid
unfolding fileset_answer write_answer
written_so tree host place from bytes fileset fid w by accepted named =
    let (user, a) = accepts_so tree host (Write place from bytes) by.place fileset by.decides by.there accepted in
    let (anode, target) = accepted_target fileset
    (write_target fileset user place.path (from + length bytes)) _ a.reply in
    let (writable, way, object, there, file) =
    write_way fileset user place.path (from + length bytes) anode target in
    let led = led_there tree place.server place.fileset by.place fileset by.decides by.there in
    let is = its_fid tree place fileset user anode led way in
    let its : Fid = record { fileset = fileset.id; anode = anode; unique = unique_at fileset.anodes anode } in
    let same : its ≡ fid = (let e : Some its ≡ Some fid = sym is ∙ named in cc) in
    let after : ℕ → Fileset = λ at. changed fileset at (content_written host from bytes) in
    let next : (fileset_answer fileset nothing_used host user (Write place from bytes)).fileset ≡ after anode =
    ap (λ checked. (answered fileset checked after).fileset) target in
    let told = ap (λ (t : TreeAnswer). t.tree) a.answer in
    let formed : IsWellFormedFileset (after anode) =
    subst IsWellFormedFileset next (stays_well_formed fileset nothing_used host user (Write place from bytes)
    (formed_get tree.filesets by.place fileset (sym by.there) w.filesets)) in
    let (id, server, moves) = changed_id fileset anode (content_written host from bytes) in
    let so : IsWritten tree host place from bytes by.place fileset its = record {
      object = object;
      there = there;
      is_file = file;
      writable = writable;
      fileset_is = refl;
      unique = refl;
      put = record {
        there = by.there;
        filesets = ap (λ (t : Tree). t.filesets) told ∙ ap (slice_set tree.filesets by.place) next;
        away = ap (λ (t : Tree). t.away) told;
        id = id;
        server = server;
        moves = moves;
      };
      roster = ap (λ (t : Tree). t.roster) told;
      servers = ap (λ (t : Tree). t.servers) told;
      formed = formed;
    } in
    subst (IsWritten tree host place from bytes by.place fileset) same so

-- what is stored of it
stored_put : (tree : Tree) (host : HostId) (fid : Fid) (spans : List Span) (stored : Option ℕ) (fileset : Fileset) →
    fid.fileset ≡ fileset.id → find (has_id fileset.id) tree.filesets ≡ Some fileset →
    IsPut tree (stored_tree tree host fid spans stored) (prefix_len (λ x. not (has_id fileset.id x)) tree.filesets)
    fileset (changed fileset fid.anode (content_stored host spans stored))
unfolding stored_tree
stored_put tree host fid spans stored fileset its found =
    let (id, server, moves) = changed_id fileset fid.anode (content_stored host spans stored) in
    let there : slice_get tree.filesets (prefix_len (λ x. not (has_id fileset.id x)) tree.filesets) ≡ Some fileset =
    sym (place_found (has_id fileset.id) tree.filesets) ∙ found in
    record {
      there = there;
      filesets = ap (λ i. changed_at tree.filesets i
          (λ f. changed f fid.anode (content_stored host spans stored)))
          (ap (place_with_id tree.filesets) its ∙ position_or_end (has_id fileset.id) tree.filesets)
          ∙ sym (found_changed tree.filesets (prefix_len (λ x. not (has_id fileset.id x)) tree.filesets) fileset
          (changed fileset fid.anode (content_stored host spans stored))
          (λ f. changed f fid.anode (content_stored host spans stored)) (sym there) refl);
      away = refl;
      id = id;
      server = server;
      moves = moves;
    }

-- the act in the store
abbrev given_slots : Table → Fid → List Piece → Option ℕ → Table
given_slots slots fid pieces given =
    changed_at slots (slot_so (is_of fid.fileset) slots) (option_map (held_given fid pieces given))

abbrev give_slots : Table → HostId → ℕ → Fid → List Piece → Option ℕ → Table
give_slots slots host number fid pieces given =
    noted_slots (given_slots slots fid pieces given) fid.fileset host (give_applied number)

new_give : (state : StoreState) (id : FilesetId) (holding : Holding) (host : HostId) (number : ℕ) →
    held_so (is_of id) state.slots ≡ Some holding → is_server id ≡ false → is_gone holding.stay ≡ false →
    IsNewGive state id host number → applied_before state id host number ≡ None
new_give state id holding host number e server gone new =
    ap (λ o. option_map_or (λ records.
    if nat_lt (record_of records host).give number then None else Some (not_fresh Accepted)) o
    (Some (not_fresh (Refused NoFileset)))) there
    ∙ ap (λ b. if b then None else Some (not_fresh Accepted)) low
  where
    there : records_of state id ≡ Some holding.records
    there = ap (λ b. if b then Some state.records else option_and_then unless_gone (held_so (is_of id) state.slots)) server
        ∙ ap (option_and_then unless_gone) e ∙ ap (λ b. if b then None else Some holding.records) gone

    low : nat_lt (record_of holding.records host).give number ≡ true
    low = let below = new holding.records there in grind (arith, common_steps, below)

give_done : (state : StoreState) (holding : Holding) (host : HostId) (number : ℕ) (fid : Fid) (pieces : List Piece)
    (given : Option ℕ) → held_so (is_of fid.fileset) state.slots ≡ Some holding → is_server fid.fileset ≡ false →
    is_gone holding.stay ≡ false → IsNewGive state fid.fileset host number →
    act_done state (Give host number fid pieces given)
    ≡ fresh Accepted (record state { slots = give_slots state.slots host number fid pieces given })
unfolding act_done give_outcome
give_done state holding host number fid pieces given e server gone new =
    let before = new_give state fid.fileset holding host number e server gone new in
    rw before (ap (λ b. fresh Accepted (
    if b then record (with_held state (slot_so (is_of fid.fileset) state.slots) (held_given fid pieces given)) {
      records = changed_at state.records host.0 (give_applied number);
    }
    else record state { slots = give_slots state.slots host number fid pieces given })) server)

given_id : (fid : Fid) (pieces : List Piece) (given : Option ℕ) (any : FilesetId) (h : Holding) →
    is_of any (held_given fid pieces given h) ≡ is_of any h
given_id fid pieces given any h = by (is_writable h.stay && is_file_at h.fileset fid)
  where
    by : (b : Bool) → is_of any (if b
        then record h { fileset = changed h.fileset fid.anode (content_given pieces given) } else h) ≡ is_of any h
    by true = ap (λ (i : FilesetId). i.0 == any.0) (changed_id h.fileset fid.anode (content_given pieces given)).0
    by false = refl

-- it may be changed
pub here_writable : (state : StoreState) (fileset : Fileset) (stay : Stay) → StaysRight state fileset stay →
    is_here stay ≡ true → fileset.read_only ≡ false → is_writable stay ≡ true
here_writable state fileset Writable r h e = refl
here_writable state fileset Clone r h e = let wrong : false ≡ true = sym e ∙ r.1 in absurd (cc)
here_writable state fileset (Leaving to ship) r h e = absurd (cc)
here_writable state fileset (Arriving from ship parts) r h e = absurd (cc)
here_writable state fileset (Gone to) r h e = absurd (cc)

-- the content that a host stores of
content_is : (fileset : Fileset) (fid : Fid) (object : Object) (change : Content → Content) →
    unique_at fileset.anodes fid.anode ≡ fid.unique → object_at fileset.anodes fid.anode ≡ Some object →
    content_in (changed fileset fid.anode change) fid ≡ Some (change object.content)
content_is fileset fid object change u e =
    ap (λ b. if b then option_map (λ o. o.content) (object_at (changed fileset fid.anode change).anodes fid.anode)
    else None)
    (ap (λ n. n == fid.unique) (unique_changed fileset fid.anode change fid.anode ∙ u) ∙ same_key fid.unique)
    ∙ ap (option_map (λ o. o.content)) (object_changed_to fileset fid.anode change object e)

-- each object of a fileset at rest is settled
pub rest_at : (fileset : Fileset) (anode : ℕ) (object : Object) → is_at_rest fileset ≡ true →
    object_at fileset.anodes anode ≡ Some object → is_settled object.content ≡ true
rest_at fileset anode object r e =
    settled_there fileset.anodes (anode - 1) object r
    (sym (object_from fileset.anodes anode (object_not_zero fileset.anodes anode object e)) ∙ e)

-- both steps in the tree
pub record IsStoredSo (tree : Tree) (host : HostId) (place : Place) (from : ℕ) (bytes : List ℕ) (fid : Fid)
    (spans : List Span) (stored : Option ℕ) (fileset : Fileset) : Type 0 where
  pub at : ℕ
  pub written : IsWritten tree host place from bytes at fileset fid
  pub formed : IsWellFormed (after_write tree host place from bytes)
  pub found : find (has_id fileset.id) (after_write tree host place from bytes).filesets
      ≡ Some (changed fileset fid.anode (content_written host from bytes))
  pub back : ℕ
  pub put : IsPut (after_write tree host place from bytes)
      (stored_tree (after_write tree host place from bytes) host fid spans stored) back
      (changed fileset fid.anode (content_written host from bytes))
      (changed (changed fileset fid.anode (content_written host from bytes)) fid.anode
      (content_stored host spans stored))
  pub roster : (stored_tree (after_write tree host place from bytes) host fid spans stored).roster ≡ tree.roster
  pub servers : (stored_tree (after_write tree host place from bytes) host fid spans stored).servers ≡ tree.servers

same_rest : (tree : Tree) (host : HostId) (fid : Fid) (spans : List Span) (stored : Option ℕ) →
    ((stored_tree tree host fid spans stored).roster ≡ tree.roster)
    × ((stored_tree tree host fid spans stored).servers ≡ tree.servers)
unfolding stored_tree
same_rest tree host fid spans stored = (refl, refl)

stored_so : (tree : Tree) (host : HostId) (place : Place) (from : ℕ) (bytes : List ℕ) (fid : Fid) (spans : List Span)
    (stored : Option ℕ) (fileset : Fileset) → IsWellFormed tree →
    IsDecidedBy tree (Write place from bytes) fileset →
    (tree_answer tree host (Write place from bytes)).reply ≡ Accepted → fid_named tree place ≡ Some fid →
    IsStoredSo tree host place from bytes fid spans stored fileset
stored_so tree host place from bytes fid spans stored fileset w by accepted named =
    let so = written_so tree host place from bytes fileset fid w by accepted named in
    let middle = after_write tree host place from bytes in
    let found = put_found tree middle by.place fileset (changed fileset fid.anode (content_written host from bytes)) w
    so.put in
    let same = so.put.id in
    let found_by : find (has_id (changed fileset fid.anode (content_written host from bytes)).id) middle.filesets
    ≡ Some (changed fileset fid.anode (content_written host from bytes)) =
    ap (λ i. find (has_id i) middle.filesets) same ∙ found in
    let rest = same_rest middle host fid spans stored in
    record {
      at = by.place;
      written = so;
      formed = formed_answer tree host (Write place from bytes) w refl;
      found = found;
      back = prefix_len (λ x. not (has_id (changed fileset fid.anode (content_written host from bytes)).id x))
          middle.filesets;
      put = stored_put middle host fid spans stored (changed fileset fid.anode (content_written host from bytes))
          (so.fileset_is ∙ sym same) found_by;
      roster = rest.0 ∙ so.roster;
      servers = rest.1 ∙ so.servers;
    }

trans_same : (a b c : Tree) (server : ServerId) (id : FilesetId) → SameAt a b server id → SameAt b c server id →
    SameAt a c server id
trans_same a b c server id x y =
    record {
      fileset = y.fileset ∙ x.fileset;
      record_is = y.record_is ∙ x.record_is;
      moves = λ after e.
          (let (middle, there, low) = y.moves after e in
          let (before, was, least) = x.moves middle there in
          (before, was, omega (arith, low, least)));
    }

write_elsewhere : (tree : Tree) (state : StoreState) (host : HostId) (place : Place) (from : ℕ) (bytes : List ℕ)
    (fid : Fid) (spans : List Span) (stored : Option ℕ) (fileset : Fileset) → IsWellFormed tree →
    KeepsOf tree state → IsDecidedBy tree (Write place from bytes) fileset →
    (fileset.server.0 == state.server.0) ≡ false →
    (tree_answer tree host (Write place from bytes)).reply ≡ Accepted → fid_named tree place ≡ Some fid →
    KeepsOf (stored_tree (after_write tree host place from bytes) host fid spans stored) state
write_elsewhere tree state host place from bytes fid spans stored fileset w k by apart accepted named =
    let so = stored_so tree host place from bytes fid spans stored fileset w by accepted named in
    let middle = after_write tree host place from bytes in
    let last = stored_tree middle host fid spans stored in
    keeps_parts last state k.storable (k.roster ∙ sym so.roster)
    (ap (λ rooms. room_of rooms state.server) so.servers ∙ k.room)
    (λ id. same_part tree last state.server id _
    (trans_same tree middle last state.server id
    (put_elsewhere tree middle so.at fileset _ state.server w so.written.put apart id)
    (put_elsewhere middle last so.back _ _ state.server so.formed so.put
    (ap (λ (s : ServerId). s.0 == state.server.0) so.written.put.server ∙ apart) id))
    (part_of tree state id k))

-- what is given leaves the file as the tree has it
given_so : (tree : Tree) (state : StoreState) (host : HostId) (place : Place) (from : ℕ) (bytes : List ℕ) (fid : Fid)
    (spans : List Span) (stored : Option ℕ) (fileset : Fileset) (holding : Holding) →
    (so : IsStoredSo tree host place from bytes fid spans stored fileset) → is_at_rest fileset ≡ true →
    may_store (after_write tree host place from bytes) host fid spans stored ≡ true →
    list_all is_at_rest (stored_tree (after_write tree host place from bytes) host fid spans stored).filesets ≡ true →
    changed fileset fid.anode
    (content_given (pieces_in (content_at (after_write tree host place from bytes) fid) spans) stored)
    ≡ changed (changed fileset fid.anode (content_written host from bytes)) fid.anode
    (content_stored host spans stored)
given_so tree state host place from bytes fid spans stored fileset holding so rest may settled =
    one_changed fileset fid.anode object
    (content_given (pieces_in (content_at middle fid) spans) stored) (content_written host from bytes)
    (content_stored host spans stored) so.written.there
    (ap (λ o. content_given (pieces_in o spans) stored object.content) told
    ∙ give_content host host from bytes spans stored object.content
    (rest_at fileset fid.anode object rest so.written.there)
    (so.written.formed.sound fid.anode (content_changed (content_written host from bytes) object) there_then)
    (sym (ap (λ o. option_map_or (is_storable host spans stored) o false) told) ∙ may) last_settled)
  where
    object : Object
    object = so.written.object

    middle : Tree
    middle = after_write tree host place from bytes

    written : Fileset
    written = changed fileset fid.anode (content_written host from bytes)

    there_then : object_at (changed fileset fid.anode (content_written host from bytes)).anodes fid.anode
        ≡ Some (content_changed (content_written host from bytes) so.written.object)
    there_then = object_changed_to fileset fid.anode (content_written host from bytes) so.written.object so.written.there

    told : content_at (after_write tree host place from bytes) fid
        ≡ Some (content_written host from bytes so.written.object.content)
    told =
        ap (λ i. option_and_then (λ (f : Fileset). content_in f fid)
        (find (has_id i) (after_write tree host place from bytes).filesets)) so.written.fileset_is
        ∙ ap (option_and_then (λ (f : Fileset). content_in f fid)) so.found
        ∙ content_is fileset fid so.written.object (content_written host from bytes) so.written.unique so.written.there

    last_settled : is_settled
        (content_stored host spans stored (content_written host from bytes so.written.object.content)) ≡ true
    last_settled =
        let f1 = changed fileset fid.anode (content_written host from bytes) in
        let f2 = changed f1 fid.anode (content_stored host spans stored) in
        let last = stored_tree (after_write tree host place from bytes) host fid spans stored in
        let found = put_found (after_write tree host place from bytes) last so.back f1 f2 so.formed so.put in
        let rested = find_all (has_id f1.id) is_at_rest last.filesets f2 found settled in
        rest_at f2 fid.anode _ rested (object_changed_to f1 fid.anode (content_stored host spans stored) _ there_then)

-- the holding then
held_so_given : (holding : Holding) (fid : Fid) (pieces : List Piece) (given : Option ℕ) →
    is_writable holding.stay ≡ true → is_file_at holding.fileset fid ≡ true →
    held_given fid pieces given holding
    ≡ record holding { fileset = changed holding.fileset fid.anode (content_given pieces given) }
held_so_given holding fid pieces given a b =
    ap (λ t. if t then record holding { fileset = changed holding.fileset fid.anode (content_given pieces given) }
    else holding) (ap (λ t. t && is_file_at holding.fileset fid) a ∙ b)

its_file : (fileset : Fileset) (fid : Fid) (object : Object) → unique_at fileset.anodes fid.anode ≡ fid.unique →
    object_at fileset.anodes fid.anode ≡ Some object → is_dir object.content ≡ false → is_file_at fileset fid ≡ true
its_file fileset fid object u e d =
    ap (λ b. b && option_map_or (λ (o : Object). not (is_dir o.content)) (object_at fileset.anodes fid.anode) false)
    (ap (λ n. n == fid.unique) u ∙ same_key fid.unique)
    ∙ ap (λ o. option_map_or (λ (o : Object). not (is_dir o.content)) o false) e ∙ ap not d

write_here : (tree : Tree) (state : StoreState) (host : HostId) (number : ℕ) (place : Place) (from : ℕ)
    (bytes : List ℕ) (fid : Fid) (spans : List Span) (stored : Option ℕ) (fileset : Fileset) → IsWellFormed tree →
    KeepsOf tree state → IsDecidedBy tree (Write place from bytes) fileset → fileset.server ≡ state.server →
    (tree_answer tree host (Write place from bytes)).reply ≡ Accepted → fid_named tree place ≡ Some fid →
    may_store (after_write tree host place from bytes) host fid spans stored ≡ true →
    list_all is_at_rest (stored_tree (after_write tree host place from bytes) host fid spans stored).filesets ≡ true →
    IsNewGive state fid.fileset host number →
    IsAct state.roster state.server (Give host number fid
    (pieces_in (content_at (after_write tree host place from bytes) fid) spans) stored) →
    DoesKeep (stored_tree (after_write tree host place from bytes) host fid spans stored) state
    (Give host number fid (pieces_in (content_at (after_write tree host place from bytes) fid) spans) stored)
write_here tree state host number place from bytes fid spans stored fileset w k by at accepted named may settled new
    fits =
    let so = stored_so tree host place from bytes fid spans stored fileset w by accepted named in
    let middle = after_write tree host place from bytes in
    let last = stored_tree middle host fid spans stored in
    let pieces = pieces_in (content_at middle fid) spans in
    let f1 = changed fileset fid.anode (content_written host from bytes) in
    let f2 = changed f1 fid.anode (content_stored host spans stored) in
    let known = find_at_place fileset.id tree.filesets by.place fileset (sym by.there) w.ordered
    (same_key fileset.id.0) in
    let (holding, h) = held_here tree state fileset k known at in
    let its = so.written.fileset_is in
    let held : held_so (is_of fid.fileset) state.slots ≡ Some holding =
    ap (λ i. held_so (is_of i) state.slots) its ∙ h.held in
    let server = not_server state fid.fileset holding k.storable held in
    let each = k.storable.each (slot_so (is_of fileset.id) state.slots) holding h.held in
    let rest : is_at_rest fileset ≡ true = subst (λ (f : Fileset). is_at_rest f ≡ true) h.same each.rest in
    let read_only : holding.fileset.read_only ≡ false = ap (λ (f : Fileset). f.read_only) h.same ∙ so.written.writable in
    let writable = here_writable state holding.fileset holding.stay each.stay h.here read_only in
    let file : is_file_at holding.fileset fid ≡ true = ap (λ (f : Fileset). is_file_at f fid) h.same
    ∙ its_file fileset fid so.written.object so.written.unique so.written.there so.written.is_file in
    let given = held_so_given holding fid pieces stored writable file in
    let same : (held_given fid pieces stored holding).fileset ≡ f2 =
    ap (λ (h : Holding). h.fileset) given
    ∙ ap (λ (f : Fileset). changed f fid.anode (content_given pieces stored)) h.same
    ∙ given_so tree state host place from bytes fid spans stored fileset holding so rest may settled in
    let stays : (held_given fid pieces stored holding).stay ≡ holding.stay = ap (λ (h : Holding). h.stay) given in
    let does = give_done state holding host number fid pieces stored held server (not_gone holding.stay h.here) new in
    let first = changes_one state.slots fid.fileset holding (held_given fid pieces stored)
    (given_id fid pieces stored) held in
    let second = changes_one (given_slots state.slots fid pieces stored) fid.fileset
    (held_given fid pieces stored holding) (held_noted host (give_applied number)) (λ any h. refl) first.here in
    let changes = changes_then state.slots (given_slots state.slots fid pieces stored)
    (give_slots state.slots host number fid pieces stored) fid.fileset _ _ first second in
    let next = held_noted host (give_applied number) (held_given fid pieces stored holding) in
    let found : find (has_id fileset.id) last.filesets ≡ Some f2 =
    ap (λ i. find (has_id i) last.filesets) (sym so.written.put.id)
    ∙ put_found middle last so.back f1 f2 so.formed so.put in
    let part : IsPart last state.server fid.fileset (Some next) =
    subst (λ i. IsPart last state.server i (Some next)) (sym its)
    (put_part tree last state fileset f2 holding next k found (so.put.away ∙ so.written.put.away)
    (so.put.server ∙ so.written.put.server ∙ at) h stays same) in
    let storable = acts_keep_storable state (Give host number fid pieces stored) k.storable fits tt in
    let after : KeepsOf last (record state { slots = give_slots state.slots host number fid pieces stored }) =
    keeps_parts last (record state { slots = give_slots state.slots host number fid pieces stored })
    (subst IsStorable (ap (λ (o : Outcome). o.state) does) storable) (k.roster ∙ sym so.roster)
    (ap (λ rooms. room_of rooms state.server) so.servers ∙ k.room)
    (parts_step tree last state.server state.slots (give_slots state.slots host number fid pieces stored) fid.fileset _
    (λ id. part_of tree state id k) changes
    (λ other apart. trans_same tree middle last state.server other
    (put_others tree middle so.at fileset f1 state.server so.written.put other
    (ap (λ (i : FilesetId). other.0 == i.0) (sym its) ∙ apart))
    (put_others middle last so.back f1 f2 state.server so.put other
    (ap (λ (i : FilesetId). other.0 == i.0) (so.written.put.id ∙ sym its) ∙ apart)))
    part) in
    record {
      done = ap (λ (o : Outcome). o.done) does;
      keeps = subst (KeepsOf last) (sym (ap (λ (o : Outcome). o.state) does)) after;
    }

pub writes_are_kept : WritesAreKept
writes_are_kept = record { here = write_here; elsewhere = write_elsewhere }
