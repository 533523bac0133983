-- The bytes of a file in spans that a host may store.
use Rattle.std.proofs.Common.{◌≡◌, ◌≤◌, ◌<◌, ◌+◌, ◌-◌, ◌==◌, ℕ, zero, suc, Bool, true, false, List, [], ◌∷◌, length, map, take, drop, min, Option, Some, None, refl, sym, ap, ◌∙◌, subst, arith}
use Rattle.std.specs.Prelude.{if◌then◌else◌, IsTrue, MatchOption, ◌&&◌, nat_le, nat_lt, option_and_then, unwrap_or}
use Rattle.std.specs.List.{find, list_all}
use Rattle.std.specs.Option.{option_map, option_map_or}
use Rattle.std.proofs.lemmas.Bool.{leb-true, ltb-true}
use Rattle.base_types.specs.declared.access.AccessEntry.{AccessEntry}
use Rattle.base_types.specs.declared.ids.Fid.{Fid}
use Rattle.base_types.specs.declared.ids.FilesetId.{FilesetId}
use Rattle.base_types.specs.declared.ids.HostId.{HostId}
use Rattle.base_types.specs.declared.ids.ServerId.{ServerId}
use Rattle.base_types.specs.declared.span.Span.{Span}
use Rattle.tree_calls.specs.declared.part.Piece.{Piece}
use Rattle.tree_filesets.specs.Walk.{object_at, unique_at}
use Rattle.tree_filesets.specs.WellFormed.{IsWellFormed as IsWellFormedFileset}
use Rattle.tree_filesets.specs.declared.fileset.Fileset.{Fileset}
use Rattle.tree_objects.specs.Files.{bytes_over, content_bytes, present_length, unsaved_at}
use Rattle.tree_objects.specs.Sound.{is_longer, is_sound}
use Rattle.tree_objects.specs.Stores.{has_written, is_storable, is_storable_length}
use Rattle.tree_objects.specs.declared.content.Content.{Content}
use Rattle.tree_objects.specs.declared.content.Content.TheVariants.{Dir, File}
use Rattle.tree_objects.specs.declared.content.Object.{Object}
use Rattle.tree_objects.specs.declared.content.Unsaved.{Unsaved}
use Rattle.tree_objects.specs.declared.content.UnsavedLength.{UnsavedLength}
use Rattle.tree_objects.proofs.Observed.{and_left, and_right, over_length}
use Rattle.tree_objects.proofs.Overlays.{over_part}
use Rattle.tree_answers.specs.declared.tree.Tree.{Tree}
use Rattle.tree_answers.specs.Finding.{has_id}
use Rattle.tree_answers.specs.Stores.{content_at, content_in, may_store}
use Rattle.tree_answers.specs.WellFormed.{AreWellFormed, IsWellFormed}
use Rattle.message_types.specs.Soundness.{Each}
use Rattle.store_laws.specs.KeptGives.{pieces_in}
use Rattle.store_laws.specs.TreeKeeping.{fileset_at, if_at}
use Rattle.service_stores.specs.Reading.{HasBytes}

-- what is read of a span
abbrev pub read_of : Content → Span → Piece
read_of content span =
    record { from = span.from; bytes = take (span.to - span.from) (drop span.from (content_bytes content)) }

bytes_read : (kept : List ℕ) (unsaved : List Unsaved) (end from len : ℕ) → len ≤ end - from →
    take len (drop from (bytes_over kept unsaved 0 end)) ≡ bytes_over kept unsaved from len
bytes_read kept unsaved end from len h =
    let n : min end (from + len) - from ≡ len = omega (arith, h) in
    sym (over_part kept unsaved end from len (min end (from + len)) refl)
    ∙ ap (bytes_over kept unsaved from) n

abbrev piece_over : List ℕ → List Unsaved → Span → Piece
piece_over kept unsaved span =
    record { from = span.from; bytes = bytes_over kept unsaved span.from (span.to - span.from) }

spans_read : (list : List AccessEntry) (kept : List ℕ) (unsaved : List Unsaved) (len : Option UnsavedLength)
    (spans : List Span) →
    Each (λ (span : Span). span.to - span.from ≤ length (content_bytes (File list kept unsaved len)) - span.from) spans →
    map (read_of (File list kept unsaved len)) spans ≡ map (piece_over kept unsaved) spans
spans_read list kept unsaved len [] h = refl
spans_read list kept unsaved len (span ∷ spans) h =
    let n = over_length kept unsaved 0 (present_length kept len) in
    let low = h.0 in
    let fits : span.to - span.from ≤ present_length kept len - span.from = omega (arith, n, low) in
    ap (λ bytes. (let piece : Piece = record { from = span.from; bytes = bytes } in piece) ∷ map (read_of (File list kept unsaved len)) spans)
    (bytes_read kept unsaved (present_length kept len) span.from (span.to - span.from) fits)
    ∙ ap (λ pieces. piece_over kept unsaved span ∷ pieces) (spans_read list kept unsaved len spans h.1)

-- it is what a host gives back of it
pub pieces_read : (content : Content) (spans : List Span) → HasBytes content spans →
    map (read_of content) spans ≡ pieces_in (Some content) spans
pieces_read (Dir entries lists) spans h = let no = h.file in absurd (cc)
pieces_read (File list kept unsaved len) spans h = spans_read list kept unsaved len spans h.there

-- what a host may store is there
written_below : (host : HostId) (unsaved : List Unsaved) (end at n : ℕ) → has_written host unsaved end at n ≡ true →
    n ≤ end - at
written_below host unsaved end at zero h = omega arith
written_below host unsaved end at (suc n) h =
    let own = option_map_or (λ byte. byte.writer.0 == host.0) (unsaved_at unsaved at) false in
    let front = and_left (own && nat_lt at end) (has_written host unsaved end (suc at) n) h in
    let low : at < end = ltb-true at end (and_right own (nat_lt at end) front) in
    let more = written_below host unsaved end (suc at) n (and_right (own && nat_lt at end) _ h) in
    omega (arith, low, more)

end_within : (host : HostId) (kept : List ℕ) (len : Option UnsavedLength) (stored : Option ℕ) →
    is_longer kept len ≡ true → is_storable_length host kept len stored ≡ true →
    unwrap_or stored (length kept) ≤ present_length kept len
end_within host kept None None longer h = omega arith
end_within host kept (Some unsaved) None longer h =
    let low : length kept < unsaved.length = ltb-true (length kept) unsaved.length longer in omega (arith, low)
end_within host kept len (Some stored) longer h =
    leb-true stored (present_length kept len) (and_right (nat_le (length kept) stored) _ (and_left _ _ h))

spans_there : (host : HostId) (list : List AccessEntry) (kept : List ℕ) (unsaved : List Unsaved)
    (len : Option UnsavedLength) (end : ℕ) (spans : List Span) → end ≤ present_length kept len →
    list_all (λ (span : Span). has_written host unsaved end span.from (span.to - span.from)) spans ≡ true →
    Each (λ (span : Span). span.to - span.from ≤ length (content_bytes (File list kept unsaved len)) - span.from) spans
spans_there host list kept unsaved len end [] low h = tt
spans_there host list kept unsaved len end (span ∷ spans) low h =
    let n = over_length kept unsaved 0 (present_length kept len) in
    let here = written_below host unsaved end span.from (span.to - span.from)
    (and_left (has_written host unsaved end span.from (span.to - span.from)) _ h) in (
      omega (arith, n, here, low),
      spans_there host list kept unsaved len end spans low
          (and_right (has_written host unsaved end span.from (span.to - span.from)) _ h),
    )

storable_there : (host : HostId) (spans : List Span) (stored : Option ℕ) (content : Content) →
    is_sound content ≡ true → is_storable host spans stored content ≡ true → HasBytes content spans
storable_there host spans stored (Dir entries lists) sound h = absurd (cc)
storable_there host spans stored (File list kept unsaved len) sound h =
    let end = unwrap_or stored (length kept) in
    let longer = and_right _ (is_longer kept len) sound in
    let fits = and_left (is_storable_length host kept len stored) _ h in
    record {
      file = refl;
      there = spans_there host list kept unsaved len end spans (end_within host kept len stored longer fits)
          (and_right (is_storable_length host kept len stored) _ h);
    }

-- the file that a fid names in a fileset
formed_found : (test : Fileset → Bool) (filesets : List Fileset) (fileset : Fileset) → AreWellFormed filesets →
    find test filesets ≡ Some fileset → IsWellFormedFileset fileset
formed_found test [] fileset w e = absurd (cc)
formed_found test (other ∷ filesets) fileset w e = by (test other) (formed_found test filesets fileset w.1) e
  where
    by : (b : Bool) → (find test filesets ≡ Some fileset → IsWellFormedFileset fileset) →
        (if b then Some other else find test filesets) ≡ Some fileset → IsWellFormedFileset fileset
    by true rec e = let same : other ≡ fileset = cc in subst IsWellFormedFileset same w.0
    by false rec e = rec e

pub given_there : (host : HostId) (fid : Fid) (spans : List Span) (stored : Option ℕ) (tree : Tree) (fileset : Fileset) →
    IsWellFormed tree → IsTrue (may_store tree host fid spans stored) →
    find (has_id fid.fileset) tree.filesets ≡ Some fileset →
    MatchOption (content_in fileset fid) ⊥ (λ content. HasBytes content spans)
given_there host fid spans stored tree fileset w may e =
    let formed = formed_found (has_id fid.fileset) tree.filesets fileset w.filesets e in
    let P : Option Fileset → Type 0 =
    λ found. IsTrue (option_map_or (is_storable host spans stored) (option_and_then (λ f. content_in f fid) found) false) in
    by formed (unique_at fileset.anodes fid.anode == fid.unique) (object_at fileset.anodes fid.anode) refl
    (subst P e may)
  where
    by : IsWellFormedFileset fileset → (b : Bool) (found : Option Object) →
        object_at fileset.anodes fid.anode ≡ found →
        IsTrue (option_map_or (is_storable host spans stored)
        (if b then option_map (λ object. object.content) found else None) false) →
        MatchOption (if b then option_map (λ object. object.content) found else None) ⊥ (λ content. HasBytes content spans)
    by formed false found f h = absurd (cc)
    by formed true None f h = absurd (cc)
    by formed true (Some object) f h =
        storable_there host spans stored object.content (formed.sound fid.anode object f) h

-- the object of it
pub in_object : (fileset : Fileset) (fid : Fid) (object : Object) (spans : List Span) →
    object_at fileset.anodes fid.anode ≡ Some object →
    MatchOption (content_in fileset fid) ⊥ (λ content. HasBytes content spans) →
    HasBytes object.content spans × (content_in fileset fid ≡ Some object.content)
in_object fileset fid object spans e h =
    let P : Option Object → Type 0 =
    λ found. MatchOption (if unique_at fileset.anodes fid.anode == fid.unique then option_map (λ o. o.content) found else None) ⊥
    (λ content. HasBytes content spans) in
    let found = by (unique_at fileset.anodes fid.anode == fid.unique) (subst P e h) in (
      found.0,
      ap (λ found. if unique_at fileset.anodes fid.anode == fid.unique then option_map (λ (o : Object). o.content) found else None) e
          ∙ found.1,
    )
  where
    by : (b : Bool) →
        MatchOption (if b then Some object.content else None) ⊥ (λ content. HasBytes content spans) →
        HasBytes object.content spans × ((if b then Some object.content else None) ≡ Some object.content)
    by true h = (h, refl)
    by false h = absurd h

pub not_none : (fileset : Fileset) (fid : Fid) (spans : List Span) → object_at fileset.anodes fid.anode ≡ None →
    MatchOption (content_in fileset fid) ⊥ (λ content. HasBytes content spans) → ⊥
not_none fileset fid spans e h =
    let P : Option Object → Type 0 =
    λ found. MatchOption (if unique_at fileset.anodes fid.anode == fid.unique then option_map (λ o. o.content) found else None) ⊥
    (λ content. HasBytes content spans) in
    by (unique_at fileset.anodes fid.anode == fid.unique) (subst P e h)
  where
    by : (b : Bool) →
        MatchOption (if b then (let none : Option Content = None in none) else None) ⊥
        (λ content. HasBytes content spans) → ⊥
    by true h = h
    by false h = h

pub at_found : (tree : Tree) (server : ServerId) (id : FilesetId) (fileset : Fileset) →
    Some fileset ≡ fileset_at tree server id → find (has_id id) tree.filesets ≡ Some fileset
at_found tree server id fileset e = by (find (has_id id) tree.filesets) e
  where
    chosen : (b : Bool) (other : Fileset) → Some fileset ≡ (if b then Some other else None) → other ≡ fileset
    chosen true other e = cc
    chosen false other e = absurd (cc)

    by : (found : Option Fileset) → Some fileset ≡ option_and_then (if_at server) found → found ≡ Some fileset
    by None e = absurd (cc)
    by (Some other) e = ap Some (chosen (other.server.0 == server.0) other e)

-- where its fileset stands
pub content_found : (tree : Tree) (fid : Fid) (fileset : Fileset) →
    find (has_id fid.fileset) tree.filesets ≡ Some fileset → content_at tree fid ≡ content_in fileset fid
content_found tree fid fileset e = ap (option_and_then (λ f. content_in f fid)) e
