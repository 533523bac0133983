-- What a host wrote is unsaved.
use Rattle.store_laws.proofs.KeptGives.{accepted_target, changed_id, its_fid, rest_at, write_way}
use Rattle.std.proofs.Common.{◌≡◌, ℕ, ◌+◌, ◌-◌, ◌==◌, nat_lt, Bool, true, false, List, [], ◌∷◌, ◌++◌, length, filter, Option, Some, None, Result, Ok, Err, refl, sym, ap, ◌∙◌, subst, arith}
use Rattle.std.specs.Prelude.{slice_set, if◌then◌else◌, option_and_then}
use Rattle.std.specs.List.{find, list_all}
use Rattle.std.specs.Option.{option_map}
use Rattle.base_types.specs.Outcomes.{either}
use Rattle.base_types.specs.declared.access.AccessEntry.{AccessEntry}
use Rattle.base_types.specs.declared.ids.Fid.{Fid}
use Rattle.base_types.specs.declared.ids.HostId.{HostId}
use Rattle.base_types.specs.declared.ids.ServerId.{ServerId}
use Rattle.base_types.specs.declared.limits.TheConstants.{FILE_BYTES_MAX}
use Rattle.base_types.specs.declared.span.Span.{Span}
use Rattle.base_types.specs.declared.user.User.{User}
use Rattle.tree_calls.specs.declared.call.Call.TheVariants.{Write}
use Rattle.tree_calls.specs.declared.part.Piece.{Piece}
use Rattle.tree_calls.specs.declared.place.Place.{Place}
use Rattle.tree_calls.specs.declared.reply.Refusal.{Refusal}
use Rattle.tree_calls.specs.declared.reply.Refusal.TheVariants.{NoFileset, ReadOnly, TooBig}
use Rattle.tree_calls.specs.declared.reply.Reply.TheVariants.{Ok as Accepted}
use Rattle.tree_objects.specs.Changes.{content_written, length_after, written}
use Rattle.tree_objects.specs.Objects.{is_dir}
use Rattle.tree_objects.specs.declared.content.Content.{Content}
use Rattle.tree_objects.specs.declared.content.Content.TheVariants.{Dir, File}
use Rattle.tree_objects.specs.declared.content.Object.{Object}
use Rattle.tree_objects.specs.declared.content.Unsaved.{Unsaved}
use Rattle.tree_objects.specs.declared.content.UnsavedLength.{UnsavedLength}
use Rattle.tree_objects.proofs.Observed.{and_left, and_right}
use Rattle.tree_filesets.specs.Answers.{answered}
use Rattle.tree_filesets.specs.Changing.{write_target, write_answer}
use Rattle.tree_filesets.specs.Rights.{write_right}
use Rattle.tree_filesets.specs.Rows.{fileset_answer}
use Rattle.tree_filesets.specs.Updates.{updated, changed}
use Rattle.tree_filesets.specs.Walk.{object_at, unique_at, walk, permitted_file}
use Rattle.tree_filesets.specs.WellFormed.{leads, is_settled, is_at_rest, IsWellFormed as IsWellFormedFileset}
use Rattle.tree_filesets.specs.declared.fileset.Fileset.{Fileset}
use Rattle.tree_filesets.proofs.Observations.{object_from, object_not_zero, object_changed_to}
use Rattle.tree_filesets.proofs.StaysWellFormed.{stays_well_formed}
use Rattle.tree_filesets.proofs.Targets.{then_ok, unless_ok, ok_is, permitted_file_ok, permitted_file_file, walk_leads}
use Rattle.tree_saving.specs.Saving.{fid_named}
use Rattle.tree_answers.specs.declared.tree.Tree.{Tree}
use Rattle.tree_answers.specs.Answers.{answer_to as tree_answer}
use Rattle.tree_answers.specs.Finding.{Answer as TreeAnswer, has_id, found_or, fileset_named, leads_to}
use Rattle.tree_answers.specs.WellFormed.{IsWellFormed}
use Rattle.tree_answers.proofs.AfterMove.{formed_get}
use Rattle.tree_answers.proofs.Places.{find_all}
use Rattle.tree_answers.proofs.Resting.{settled_there}
use Rattle.store_state.specs.Rows.{nothing_used}
use Rattle.store_laws.specs.Calls.{IsDecidedBy}
use Rattle.store_laws.specs.KeptGives.{pieces_in, after_write}
use Rattle.store_laws.proofs.Called.{accepts_so, led_there}
use Rattle.store_laws.proofs.KeptRows.{put_found}
use Rattle.store_laws.proofs.KeptGives.{IsWritten}
use Rattle.std.specs.Prelude.{◌≤◌, ◌&&◌, nat_le, is_some}
use Rattle.tree_objects.specs.Files.{present_length}
use Rattle.message_types.specs.Soundness.{Each}
use Rattle.base_types.specs.Ids.{same_fid}
use Rattle.tree_objects.proofs.Observed.{over_length}
use Rattle.store_laws.specs.TreeKeeping.{fileset_at, if_at}
use Rattle.store_laws.proofs.Keys.{equal_keys}

-- a write that is accepted names a file
pub write_named : (tree : Tree) (host : HostId) (place : Place) (from : ℕ) (bytes : List ℕ) (fileset : Fileset) →
    IsDecidedBy tree (Write place from bytes) fileset →
    (tree_answer tree host (Write place from bytes)).reply ≡ Accepted → (fid : Fid) × (fid_named tree place ≡ Some fid)
unfolding fileset_answer write_answer
write_named tree host place from bytes fileset by accepted =
    let (user, a) = accepts_so tree host (Write place from bytes) by.place fileset by.decides by.there accepted in
    let (anode, target) = accepted_target fileset
    (write_target fileset user place.path (from + length bytes)) _ a.reply in
    let (writable, way, object, there, file) =
    write_way fileset user place.path (from + length bytes) anode target in
    let led = led_there tree place.server place.fileset by.place fileset by.decides by.there in (
      record { fileset = fileset.id; anode = anode; unique = unique_at fileset.anodes anode },
      its_fid tree place fileset user anode led way,
    )

pub written_so : (tree : Tree) (host : HostId) (place : Place) (from : ℕ) (bytes : List ℕ) (fileset : Fileset) (fid : Fid) →
    IsWellFormed tree → (by : IsDecidedBy tree (Write place from bytes) fileset) →
    (tree_answer tree host (Write place from bytes)).reply ≡ Accepted → fid_named tree place ≡ Some fid →
    IsWritten tree host place from bytes by.place fileset fid
unfolding fileset_answer write_answer
written_so tree host place from bytes fileset fid w by accepted named =
    let (user, a) = accepts_so tree host (Write place from bytes) by.place fileset by.decides by.there accepted in
    let (anode, target) = accepted_target fileset
    (write_target fileset user place.path (from + length bytes)) _ a.reply in
    let (writable, way, object, there, file) =
    write_way fileset user place.path (from + length bytes) anode target in
    let led = led_there tree place.server place.fileset by.place fileset by.decides by.there in
    let is = its_fid tree place fileset user anode led way in
    let its : Fid = record { fileset = fileset.id; anode = anode; unique = unique_at fileset.anodes anode } in
    let same : its ≡ fid = (let e : Some its ≡ Some fid = sym is ∙ named in cc) in
    let after : ℕ → Fileset = λ at. changed fileset at (content_written host from bytes) in
    let next : (fileset_answer fileset nothing_used host user (Write place from bytes)).fileset ≡ after anode =
    ap (λ checked. (answered fileset checked after).fileset) target in
    let told = ap (λ (t : TreeAnswer). t.tree) a.answer in
    let formed : IsWellFormedFileset (after anode) =
    subst IsWellFormedFileset next (stays_well_formed fileset nothing_used host user (Write place from bytes)
    (formed_get tree.filesets by.place fileset (sym by.there) w.filesets)) in
    let (id, server, moves) = changed_id fileset anode (content_written host from bytes) in
    let so : IsWritten tree host place from bytes by.place fileset its = record {
      object = object;
      there = there;
      is_file = file;
      writable = writable;
      fileset_is = refl;
      unique = refl;
      put = record {
        there = by.there;
        filesets = ap (λ (t : Tree). t.filesets) told ∙ ap (slice_set tree.filesets by.place) next;
        away = ap (λ (t : Tree). t.away) told;
        id = id;
        server = server;
        moves = moves;
      };
      roster = ap (λ (t : Tree). t.roster) told;
      servers = ap (λ (t : Tree). t.servers) told;
      formed = formed;
    } in
    subst (IsWritten tree host place from bytes by.place fileset) same so

-- a file to which bytes were written isn't settled
unsaved_list : (before later above : List Unsaved) (byte : Unsaved) → (list : List AccessEntry) (kept : List ℕ)
    (len : Option UnsavedLength) → is_settled (File list kept ((before ++ (byte ∷ later)) ++ above) len) ≡ false
unsaved_list [] later above byte list kept len = refl
unsaved_list (x ∷ before) later above byte list kept len = refl

written_unsettled : (host : HostId) (from value : ℕ) (values : List ℕ) (content : Content) → is_dir content ≡ false →
    is_settled (content_written host from (value ∷ values) content) ≡ false
written_unsettled host from value values (Dir entries lists) d = absurd (cc)
written_unsettled host from value values (File list kept unsaved len) d =
    unsaved_list (filter (λ byte. nat_lt byte.at from) unsaved)
    (written host (from + 1) values) (filter (λ byte. nat_le (from + length (value ∷ values)) byte.at) unsaved)
    (record { at = from; value = value; writer = host }) list kept
    (length_after len (present_length kept len) host (from + length (value ∷ values)))

pub never_rests : (tree : Tree) (host : HostId) (place : Place) (from value : ℕ) (values : List ℕ) (at : ℕ)
    (fileset : Fileset) (fid : Fid) → IsWellFormed tree →
    IsWritten tree host place from (value ∷ values) at fileset fid →
    list_all is_at_rest (after_write tree host place from (value ∷ values)).filesets ≡ true → ⊥
never_rests tree host place from value values at fileset fid w so rest =
    let middle = after_write tree host place from (value ∷ values) in
    let change = content_written host from (value ∷ values) in
    let found = put_found tree middle at fileset (changed fileset fid.anode change) w so.put in
    let rested = find_all (has_id fileset.id) is_at_rest middle.filesets (changed fileset fid.anode change) found rest in
    let settled = rest_at (changed fileset fid.anode change) fid.anode _ rested
    (object_changed_to fileset fid.anode change so.object so.there) in
    let not_so = written_unsettled host from value values so.object.content so.is_file in
    let wrong : true ≡ false = sym settled ∙ not_so in
    absurd (cc)

-- whether its fileset is at a server
pub written_at : (tree : Tree) (server : ServerId) (host : HostId) (place : Place) (from : ℕ) (bytes : List ℕ)
    (at : ℕ) (fileset : Fileset) (fid : Fid) → IsWellFormed tree → IsWritten tree host place from bytes at fileset fid →
    is_some (fileset_at (after_write tree host place from bytes) server fid.fileset) ≡ (fileset.server.0 == server.0)
written_at tree server host place from bytes at fileset fid w so =
    ap (λ i. is_some (fileset_at middle server i)) so.fileset_is
    ∙ ap (λ o. is_some (option_and_then (if_at server) o)) (put_found tree middle at fileset next w so.put)
    ∙ told (next.server.0 == server.0) ∙ ap (λ (s : ServerId). s.0 == server.0) so.put.server
  where
    middle : Tree
    middle = after_write tree host place from bytes

    next : Fileset
    next = changed fileset fid.anode (content_written host from bytes)

    told : (b : Bool) → is_some (if b then Some next else None) ≡ b
    told true = refl
    told false = refl

-- what is given back of it is within a file's limit
pub pieces_fit : (content : Option Content) (spans : List Span) →
    Each (λ (span : Span). (span.from ≤ span.to) × (span.to ≤ FILE_BYTES_MAX)) spans →
    Each (λ (piece : Piece). piece.from + length piece.bytes ≤ FILE_BYTES_MAX) (pieces_in content spans)
pieces_fit None spans h = tt
pieces_fit (Some (Dir entries lists)) spans h = tt
pieces_fit (Some (File list kept unsaved len)) [] h = tt
pieces_fit (Some (File list kept unsaved len)) (span ∷ spans) h = (
  (let n = over_length kept unsaved span.from (span.to - span.from) in
      let low = h.0.0 in
      let high = h.0.1 in
      omega (arith, n, low, high)),
  pieces_fit (Some (File list kept unsaved len)) spans h.1,
)

-- one fid
pub one_fid : (a b : Fid) → same_fid a b ≡ true → a ≡ b
one_fid a b h =
    let first = (a.fileset.0 == b.fileset.0) && (a.anode == b.anode) in
    let both = and_left first (a.unique == b.unique) h in
    let f = equal_keys a.fileset.0 b.fileset.0 (and_left (a.fileset.0 == b.fileset.0) (a.anode == b.anode) both) in
    let n = equal_keys a.anode b.anode (and_right (a.fileset.0 == b.fileset.0) (a.anode == b.anode) both) in
    let u = equal_keys a.unique b.unique (and_right first (a.unique == b.unique) h) in
    λ i. record { fileset = record { 0 = f i }; anode = n i; unique = u i }
