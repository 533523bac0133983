-- What hosts give back leaves each object what it is: a directory or a file, in a fileset that may be changed or not.
use Rattle.std.proofs.Common.{◌≡◌, ◌∙◌, ◌≤◌, ◌+◌, ◌-◌, ℕ, zero, suc, ◌==◌, nat_le, Bool, true, false, ◌&&◌, List, []}
use Rattle.std.proofs.Common.{◌∷◌}
use Rattle.std.proofs.Common.{length, max, Option, Some, None, refl, sym, ap, arith}
use Rattle.std.proofs.lemmas.Grind.{common_steps}
use Rattle.std.specs.Option.{option_map, option_map_or}
use Rattle.std.specs.Prelude.{IfSome, if◌then◌else◌, option_and_then, slice_get, slice_set, unwrap_or}
use Rattle.base_types.specs.Lists.{changed_at}
use Rattle.base_types.specs.declared.ids.Fid.{Fid}
use Rattle.base_types.specs.declared.ids.FilesetId.{FilesetId}
use Rattle.base_types.specs.declared.ids.HostId.{HostId}
use Rattle.base_types.specs.declared.limits.TheConstants.{FILE_BYTES_MAX}
use Rattle.tree_calls.specs.declared.part.Piece.{Piece}
use Rattle.tree_calls.specs.declared.part.Status.{Status}
use Rattle.tree_calls.specs.declared.reply.Reply.TheVariants.{Ok as Accepted}
use Rattle.tree_calls.specs.declared.ship.Record.{Record}
use Rattle.tree_objects.proofs.Observed.{length_resized}
use Rattle.tree_objects.specs.Changes.{anode_changed}
use Rattle.tree_objects.specs.Objects.{is_dir}
use Rattle.tree_objects.specs.declared.content.Anode.{Anode}
use Rattle.tree_objects.specs.declared.content.Content.{Content}
use Rattle.tree_objects.specs.declared.content.Content.TheVariants.{Dir, File}
use Rattle.tree_objects.specs.declared.content.Object.{Object}
use Rattle.tree_filesets.specs.Laws.{is_file_at}
use Rattle.tree_filesets.specs.Updates.{changed, updated}
use Rattle.tree_filesets.specs.declared.fileset.Fileset.{Fileset}
use Rattle.store_acts.specs.Acts.{act_done}
use Rattle.store_acts.specs.Parts.{is_tellable, status_of, tellable_or_none}
use Rattle.store_acts.specs.declared.act.Act.TheVariants.{Give}
use Rattle.store_memory.specs.Reading.{object_in, status_told}
use Rattle.store_state.specs.Giving.{content_given, give_outcome, held_given, lengthened, put_bytes, put_pieces}
use Rattle.store_state.specs.Outcomes.{applied_before, fresh, give_applied, unless_before}
use Rattle.store_state.specs.Sought.{is_here_of}
use Rattle.store_state.specs.State.{held_noted, held_so, is_of, is_server, is_writable, slot_so, with_held, with_record}
use Rattle.store_state.specs.declared.done.Done.{Done}
use Rattle.store_state.specs.declared.state.Holding.{Holding}
use Rattle.store_state.specs.declared.state.StoreState.{StoreState}
use Rattle.server_keeps.proofs.Repeating.{view_kept}

-- what a status tells of what an object is
abbrev pub kind : Option Status → Option (Bool × Bool)
kind = option_map (λ (told : Status). (told.dir, told.read_only))

-- # A content

put_length : (kept : List ℕ) (at : ℕ) (bytes : List ℕ) → length (put_bytes kept at bytes) ≡ length kept
put_length kept at [] = refl
put_length kept at (byte ∷ bytes) = put_length (slice_set kept at byte) (at + 1) bytes ∙ set_length kept at byte
  where
    set_length : (xs : List ℕ) (i x : ℕ) → length (slice_set xs i x) ≡ length xs
    set_length [] i x = refl
    set_length (y ∷ ys) zero x = refl
    set_length (y ∷ ys) (suc i) x = ap suc (set_length ys i x)

pieces_length : (kept : List ℕ) (pieces : List Piece) → length (put_pieces kept pieces) ≡ length kept
pieces_length kept [] = refl
pieces_length kept (piece ∷ pieces) =
    pieces_length (put_bytes kept piece.from piece.bytes) pieces ∙ put_length kept piece.from piece.bytes

within : (given : Option ℕ) → IfSome given (λ n. n ≤ FILE_BYTES_MAX) → unwrap_or given 0 ≤ FILE_BYTES_MAX
within None h = omega arith
within (Some n) h = h

tellable_still : (pieces : List Piece) (given : Option ℕ) (content : Content)
    → IfSome given (λ n. n ≤ FILE_BYTES_MAX) → is_tellable (content_given pieces given content) ≡ is_tellable content
tellable_still pieces given (Dir entries lists) h = refl
tellable_still pieces given (File list kept unsaved len) h =
    let few = within given h in
    let size : length (put_pieces (lengthened kept given) pieces) ≡ max (unwrap_or given 0) (length kept) =
    pieces_length (lengthened kept given) pieces ∙ length_resized kept (max (unwrap_or given 0) (length kept)) in
    ap (λ (n : ℕ). nat_le n FILE_BYTES_MAX) size ∙ grind (arith, common_steps, few)

dir_still : (pieces : List Piece) (given : Option ℕ) (content : Content)
    → is_dir (content_given pieces given content) ≡ is_dir content
dir_still pieces given (Dir entries lists) = refl
dir_still pieces given (File list kept unsaved len) = refl

-- # An anode

-- what counts of an object
abbrev sort_of : Object → Bool × Bool
sort_of object = (is_dir object.content, is_tellable object.content)

abbrev seen : Anode → ℕ × Option (Bool × Bool)
seen anode = (anode.unique, option_map sort_of anode.object)

seen_still : (pieces : List Piece) (given : Option ℕ) → IfSome given (λ n. n ≤ FILE_BYTES_MAX)
    → (anode : Anode) → seen (anode_changed (content_given pieces given) anode) ≡ seen anode
seen_still pieces given h anode = ap (λ o. (anode.unique, o)) (by anode.object)
  where
    by : (o : Option Object)
        → option_map sort_of (option_map (λ (x : Object). record x
        { content = content_given pieces given x.content }) o)
        ≡ option_map sort_of o
    by None = refl
    by (Some x) =
        ap (λ (d : Bool). Some (d, is_tellable (content_given pieces given x.content)))
        (dir_still pieces given x.content)
        ∙ ap (λ (t : Bool). Some (is_dir x.content, t)) (tellable_still pieces given x.content h)

got_still : {A : Type 0} (view : Anode → A) (f : Anode → Anode) → ((anode : Anode) → view (f anode) ≡ view anode)
    → (anodes : List Anode) (at i : ℕ)
    → option_map view (slice_get (changed_at anodes at f) i) ≡ option_map view (slice_get anodes i)
got_still view f same [] at i = refl
got_still view f same (anode ∷ anodes) zero zero = ap Some (same anode)
got_still view f same (anode ∷ anodes) zero (suc i) = refl
got_still view f same (anode ∷ anodes) (suc at) zero = refl
got_still view f same (anode ∷ anodes) (suc at) (suc i) = got_still view f same anodes at i

-- # A fileset

-- what is told of an object, by what counts of it
abbrev told_by : Bool → Option (Bool × Bool) → Option (Bool × Bool)
told_by read_only o = option_and_then (λ (dir, tellable). if tellable then Some (dir, read_only) else None) o

abbrev kind_by : Bool → Fid → Option (ℕ × Option (Bool × Bool)) → Option (Bool × Bool)
kind_by read_only fid o =
    if option_map_or (λ p. p.0) o 0 == fid.unique
    then told_by read_only (if fid.anode == 0 then None else option_and_then (λ p. p.1) o) else None

abbrev kind_in : Fid → Fileset → Option (Bool × Bool)
kind_in fid fileset = kind (option_map (status_of fileset.read_only) (object_in fileset fid))

kind_seen : (fid : Fid) (fileset : Fileset)
    → kind_in fid fileset ≡ kind_by fileset.read_only fid (option_map seen (slice_get fileset.anodes (fid.anode - 1)))
kind_seen fid fileset = by (slice_get fileset.anodes (fid.anode - 1))
  where
    told : (o : Option Object)
        → kind (option_map (status_of fileset.read_only) (option_and_then tellable_or_none o))
        ≡ told_by fileset.read_only (option_map sort_of o)
    told None = refl
    told (Some x) = by_test (is_tellable x.content)
      where
        by_test : (b : Bool)
            → kind (option_map (status_of fileset.read_only) (if b then Some x else None))
            ≡ (if b then Some (is_dir x.content, fileset.read_only) else None)
        by_test true = refl
        by_test false = refl

    found : (same zeroth : Bool) (o : Option Object)
        → kind (option_map (status_of fileset.read_only)
        (if same then option_and_then tellable_or_none (if zeroth then None else o) else None))
        ≡ (if same then told_by fileset.read_only (if zeroth then None else option_map sort_of o) else None)
    found true true o = refl
    found true false o = told o
    found false zeroth o = refl

    by : (o : Option Anode)
        → kind (option_map (status_of fileset.read_only)
        (if option_map_or (λ (a : Anode). a.unique) o 0 == fid.unique
        then option_and_then tellable_or_none
        (if fid.anode == 0 then None else option_and_then (λ (a : Anode). a.object) o)
        else None))
        ≡ kind_by fileset.read_only fid (option_map seen o)
    by None = found (0 == fid.unique) (fid.anode == 0) None
    by (Some a) = found (a.unique == fid.unique) (fid.anode == 0) a.object

changed_still : (pieces : List Piece) (given : Option ℕ) → IfSome given (λ n. n ≤ FILE_BYTES_MAX)
    → (fileset : Fileset) (anode : ℕ) (fid : Fid)
    → kind_in fid (changed fileset anode (content_given pieces given)) ≡ kind_in fid fileset
unfolding updated
changed_still pieces given h fileset anode fid =
    kind_seen fid (changed fileset anode (content_given pieces given))
    ∙ ap (kind_by fileset.read_only fid)
    (got_still seen (anode_changed (content_given pieces given)) (seen_still pieces given h) fileset.anodes
    (anode - 1) (fid.anode - 1))
    ∙ sym (kind_seen fid fileset)

-- # A store

-- by what is found under the id of its fileset
told_found : (state : StoreState) (fid : Fid)
    → kind (status_told state fid)
    ≡ option_and_then (λ k. k) (option_map (λ (h : Holding). kind_in fid h.fileset)
    (held_so (is_here_of fid.fileset) state.slots))
told_found state fid = by (held_so (is_here_of fid.fileset) state.slots)
  where
    by : (o : Option Holding)
        → kind (option_and_then
        (λ (fileset : Fileset). option_map (status_of fileset.read_only) (object_in fileset fid))
        (option_map (λ (h : Holding). h.fileset) o))
        ≡ option_and_then (λ k. k) (option_map (λ (h : Holding). kind_in fid h.fileset) o)
    by None = refl
    by (Some h) = refl

held_still : (state : StoreState) (at : ℕ) (f : Holding → Holding) (fid : Fid)
    → ((h : Holding) → is_here_of fid.fileset (f h) ≡ is_here_of fid.fileset h)
    → ((h : Holding) → kind_in fid (f h).fileset ≡ kind_in fid h.fileset)
    → kind (status_told (with_held state at f) fid) ≡ kind (status_told state fid)
held_still state at f fid test same =
    told_found (with_held state at f) fid
    ∙ ap (option_and_then (λ k. k))
    (view_kept (λ (h : Holding). kind_in fid h.fileset) (is_here_of fid.fileset) f test same state.slots at)
    ∙ sym (told_found state fid)

noted_still : (state : StoreState) (id : FilesetId) (host : HostId) (g : Record → Record) (fid : Fid)
    → kind (status_told (with_record state id host g) fid) ≡ kind (status_told state fid)
noted_still state id host g fid = by (is_server id)
  where
    by : (b : Bool)
        → kind (status_told (if b then record state { records = changed_at state.records host.0 g }
        else with_held state (slot_so (is_of id) state.slots) (held_noted host g)) fid)
        ≡ kind (status_told state fid)
    by true = refl
    by false =
        held_still state (slot_so (is_of id) state.slots) (held_noted host g) fid (λ h. refl) (λ h. refl)

put_still : (state : StoreState) (at : ℕ) (fid : Fid) (pieces : List Piece) (given : Option ℕ)
    → IfSome given (λ n. n ≤ FILE_BYTES_MAX) → (other : Fid)
    → kind (status_told (with_held state at (held_given fid pieces given)) other) ≡ kind (status_told state other)
unfolding updated
put_still state at fid pieces given few other =
    held_still state at (held_given fid pieces given) other
    (λ h. test (is_writable h.stay && is_file_at h.fileset fid) h)
    (λ h. same (is_writable h.stay && is_file_at h.fileset fid) h)
  where
    test : (b : Bool) (h : Holding)
        → is_here_of other.fileset (if b then record h
        { fileset = changed h.fileset fid.anode (content_given pieces given) } else h)
        ≡ is_here_of other.fileset h
    test true h = refl
    test false h = refl

    same : (b : Bool) (h : Holding)
        → kind_in other (if b then record h
        { fileset = changed h.fileset fid.anode (content_given pieces given) } else h).fileset
        ≡ kind_in other h.fileset
    same true h = changed_still pieces given few h.fileset fid.anode other
    same false h = refl

-- what a host gives back leaves each object what it is
pub gift_still : (state : StoreState) (host : HostId) (number : ℕ) (fid : Fid) (pieces : List Piece) (given : Option ℕ)
    → IfSome given (λ n. n ≤ FILE_BYTES_MAX) → (other : Fid)
    → kind (status_told (act_done state (Give host number fid pieces given)).state other)
    ≡ kind (status_told state other)
unfolding act_done give_outcome
gift_still state host number fid pieces given few other = by (applied_before state fid.fileset host number)
  where
    by : (o : Option Done)
        → kind (status_told (unless_before o state (fresh Accepted
        (with_record (with_held state (slot_so (is_of fid.fileset) state.slots) (held_given fid pieces given))
        fid.fileset host (give_applied number)))).state other)
        ≡ kind (status_told state other)
    by (Some done) = refl
    by None =
        noted_still (with_held state (slot_so (is_of fid.fileset) state.slots) (held_given fid pieces given))
        fid.fileset host (give_applied number) other
        ∙ put_still state (slot_so (is_of fid.fileset) state.slots) fid pieces given few other
