-- A Grant that is made of what a store tells tells what the server keeps.
use Rattle.std.proofs.Common.{Bool, IsTrue, List, None, Option, Some, [], ap, false, inl, inr, max, min, nat_le}
use Rattle.std.proofs.Common.{nat_lt, refl, subst, sym, true, ℕ, ◌&&◌, ◌<◌, ◌≤◌, ◌∙◌, ◌≡◌, ◌∷◌, arith}
use Rattle.std.proofs.lemmas.Bool.{false≢true}
use Rattle.std.proofs.lemmas.Grind.{common_steps}
use Rattle.std.specs.List.{fold}
use Rattle.std.specs.Option.{option_map, option_map_or}
use Rattle.std.specs.Prelude.{if◌then◌else◌, is_some, map, option_and_then, slice_get, unwrap_or, ◌||◌, ◌-◌}
use Rattle.base_types.specs.Spans.{has_byte}
use Rattle.base_types.specs.declared.ids.Fid.{Fid}
use Rattle.base_types.specs.declared.limits.TheConstants.{FILE_BYTES_MAX}
use Rattle.base_types.specs.declared.span.Span.{Span}
use Rattle.tree_calls.specs.declared.part.Piece.{Piece}
use Rattle.tree_calls.specs.declared.part.Status.{Status as StatusOf}
use Rattle.tree_objects.specs.Objects.{is_dir}
use Rattle.tree_objects.specs.Spans.{span_between}
use Rattle.tree_objects.specs.declared.content.Content.{Content}
use Rattle.tree_objects.specs.declared.content.Content.TheVariants.{Dir, File}
use Rattle.tree_objects.specs.declared.content.Object.{Object}
use Rattle.tree_filesets.specs.Laws.{entries_in}
use Rattle.tree_filesets.specs.declared.fileset.Fileset.{Fileset}
use Rattle.tree_answers.specs.declared.tree.Tree.{Tree}
use Rattle.tree_laws.specs.Parts.{Part, cell_at}
use Rattle.tree_laws.specs.Parts.Part.{ByteAt, Entries, Size, Traits}
use Rattle.token_types.specs.Conflicts.{need_of}
use Rattle.token_types.specs.declared.token.Kind.{Kind}
use Rattle.token_types.specs.declared.token.Kind.TheVariants.{Bytes, Lock, Opening, Status}
use Rattle.token_types.specs.declared.token.Need.{Need}
use Rattle.token_types.specs.declared.token.Token.{Token}
use Rattle.message_types.specs.declared.telling.Grant.{Grant as GrantOf}
use Rattle.need_host.specs.Shows.{shows}
use Rattle.store_acts.specs.Parts.{status_of}
use Rattle.store_memory.specs.Reading.{bytes_told, entries_told, fileset_of, object_in, status_told}
use Rattle.store_state.specs.declared.state.StoreState.{StoreState}
use Rattle.run_rules.specs.Past.{In}
use Rattle.run_rules.specs.Views.{byte_of, part_told}
use Rattle.run_stores.proofs.Tells.{tells_are_kept}
use Rattle.run_stores.specs.Keeping.{StandsFor}
use Rattle.run_stores.specs.Telling.{is_dir_told, pieces_told}
use Rattle.server_keeps.specs.Granting.{GrantsTell, IsMadeOf, asked_with, joined, piece_if_some}
use Rattle.server_keeps.specs.Granting.{span_asked}

-- # The span that some needs ask for has each byte that a token for one of them shows

-- what was asked for so far has a byte
abbrev HasAsked : Option Span → ℕ → Type 0
HasAsked asked at = (span : Span) × (asked ≡ Some span) × (has_byte span at ≡ true)

byte_within : (span : Span) (at : ℕ) → has_byte span at ≡ true → (span.from ≤ at) × (at < span.to)
byte_within span at e = by (nat_le span.from at) refl e
  where
    by : (b : Bool) → nat_le span.from at ≡ b → (b && nat_lt at span.to) ≡ true → (span.from ≤ at) × (at < span.to)
    by true k h = (grind (arith, common_steps, k), grind (arith, common_steps, h))
    by false k h = absurd (false≢true h)

within_byte : (span : Span) (at : ℕ) → span.from ≤ at → at < span.to → has_byte span at ≡ true
within_byte span at low high =
    let a : nat_le span.from at ≡ true = grind (arith, common_steps, low) in
    let b : nat_lt at span.to ≡ true = grind (arith, common_steps, high) in
    ap (λ c. c && nat_lt at span.to) a ∙ b

between_byte : (from to at : ℕ) → from ≤ at → at < to → to ≤ FILE_BYTES_MAX → has_byte (span_between from to) at ≡ true
between_byte from to at low high most =
    let ends : min to FILE_BYTES_MAX ≡ to = omega (arith, most) in
    within_byte (span_between from to) at (omega (arith, low, ends, high)) (omega (arith, high, ends))

joined_left : (one other : Span) (at : ℕ) → has_byte one at ≡ true → has_byte (joined one other) at ≡ true
joined_left one other at e =
    let w = byte_within one at e in let low = w.0 in let high = w.1 in
    let a = one.within in let b = other.within in
    between_byte (min one.from other.from) (max one.to other.to) at (omega (arith, low)) (omega (arith, high))
    (omega (arith, a, b))

joined_right : (one other : Span) (at : ℕ) → has_byte other at ≡ true → has_byte (joined one other) at ≡ true
joined_right one other at e =
    let w = byte_within other at e in let low = w.0 in let high = w.1 in
    let a = one.within in let b = other.within in
    between_byte (min one.from other.from) (max one.to other.to) at (omega (arith, low)) (omega (arith, high))
    (omega (arith, a, b))

asked_kept : (asked : Option Span) (kind : Kind) (at : ℕ) → HasAsked asked at → HasAsked (asked_with asked kind) at
asked_kept asked (Bytes update span) at (one, e, has) =
    (joined one span, ap (λ o. Some (option_map_or (λ other. joined other span) o span)) e, joined_left one span at has)
asked_kept asked (Status update) at h = h
asked_kept asked (Lock writing span) at h = h
asked_kept asked (Opening kind) at h = h

asked_now : (asked : Option Span) (update : Bool) (span : Span) (at : ℕ) → has_byte span at ≡ true
    → HasAsked (asked_with asked (Bytes update span)) at
asked_now None update span at has = (span, refl, has)
asked_now (Some other) update span at has = (joined other span, refl, joined_right other span at has)

abbrev asked_by : Option Span → Need → Option Span
asked_by asked need = asked_with asked need.kind

still_asked : (needs : List Need) (asked : Option Span) (at : ℕ) → HasAsked asked at
    → HasAsked (fold asked_by asked needs) at
still_asked [] asked at h = h
still_asked (need ∷ needs) asked at h = still_asked needs (asked_by asked need) at (asked_kept asked need.kind at h)

asked_from : (needs : List Need) (asked : Option Span) (need : Need) (update : Bool) (span : Span) (at : ℕ)
    → In need needs → need.kind ≡ Bytes update span → has_byte span at ≡ true → HasAsked (fold asked_by asked needs) at
asked_from [] asked need update span at i e has = absurd i
asked_from (first ∷ needs) asked need update span at (inl same) e has =
    still_asked needs (asked_by asked first) at
    (subst (λ kind. HasAsked (asked_with asked kind) at) (sym (ap (λ (n : Need). n.kind) (sym same) ∙ e))
    (asked_now asked update span at has))
asked_from (first ∷ needs) asked need update span at (inr i) e has =
    asked_from needs (asked_by asked first) need update span at i e has

-- a token that is brought is for one of the needs
need_in : (tokens : List Token) (needs : List Need) (t : Token) → map need_of tokens ≡ needs → In t tokens
    → In (need_of t) needs
need_in tokens needs t e i = subst (In (need_of t)) e (mapped tokens i)
  where
    mapped : (xs : List Token) → In t xs → In (need_of t) (map need_of xs)
    mapped [] i = absurd i
    mapped (x ∷ xs) (inl same) = inl (ap need_of same)
    mapped (x ∷ xs) (inr i) = inr (mapped xs i)

-- # Bytes

-- an empty piece tells nothing
abbrev none_at : ℕ → ℕ → Bool → Option ℕ
none_at from at b = if b then slice_get (let none : List ℕ = [] in none) (at - from) else None

byte_if_some : (from : ℕ) (bytes : List ℕ) (at : ℕ)
    → byte_of (piece_if_some from bytes) at
    ≡ byte_of ((let piece : Piece = record { from = from; bytes = bytes } in piece) ∷ []) at
byte_if_some from [] at = by (nat_le from at)
  where
    by : (b : Bool)
        → (let none : Option ℕ = None in none ≡ (if is_some (none_at from at b) then none_at from at b else none))
    by true = refl
    by false = refl
byte_if_some from (byte ∷ bytes) at = refl

-- a file has no entries
file_entries : (state : StoreState) (fid : Fid) (status : StatusOf) → status_told state fid ≡ Some status
    → status.dir ≡ false → entries_told state fid ≡ []
file_entries state fid status there file = by (fileset_of state fid.fileset) there
  where
    none : (read_only : Bool) (object : Object) (content : Content) → object.content ≡ content
        → Some (status_of read_only object) ≡ Some status → entries_in object.content ≡ []
    none read_only object (Dir entries lists) c e =
        let same : status_of read_only object ≡ status = cc in
        absurd (false≢true (sym file ∙ sym (ap (λ (told : StatusOf). told.dir) same) ∙ ap is_dir c))
    none read_only object (File list kept unsaved len) c e = ap entries_in c

    at : (read_only : Bool) (o : Option Object) → option_map (status_of read_only) o ≡ Some status
        → option_map_or (λ (object : Object). entries_in object.content) o [] ≡ []
    at read_only None e = absurd (cc)
    at read_only (Some object) e = none read_only object object.content refl e

    by : (o : Option Fileset)
        → option_and_then (λ (fileset : Fileset). option_map (status_of fileset.read_only) (object_in fileset fid)) o
        ≡ Some status
        → option_map_or (λ (object : Object). entries_in object.content)
        (option_and_then (λ (fileset : Fileset). object_in fileset fid) o) [] ≡ []
    by None e = refl
    by (Some fileset) e = at fileset.read_only (object_in fileset fid) e

module _ (tree : Tree) (state : StoreState) (needs : List Need) (status : StatusOf) (grant : GrantOf)
    (s : StandsFor tree state) (m : IsMadeOf state needs status grant) where
  dir_is : is_dir_told state grant.bring.fid ≡ status.dir
  dir_is = ap (λ o. option_map_or (λ (told : StatusOf). told.dir) o false) m.there

  -- what the status tells
  tells_status : grant.status ≡ status_told state grant.bring.fid
  tells_status = m.status_is ∙ sym m.there

  -- the Grant with pieces as they are told in a span
  abbrev with_pieces : List Piece → GrantOf
  with_pieces pieces = record grant { pieces = pieces }

  bytes_in_span : (span : Span) (at : ℕ) → has_byte span at ≡ true → status.dir ≡ false → span_asked needs ≡ Some span
      → part_told grant (ByteAt at) ≡ (cell_at tree grant.bring.fid (ByteAt at)).kept
  bytes_in_span span at has file asked =
      ap (λ pieces. unwrap_or (byte_of pieces at) 0)
      (m.pieces_are ∙ ap (λ b. if b then [] else option_map_or (λ (one : Span).
      piece_if_some one.from (bytes_told state grant.bring.fid one)) (span_asked needs) []) file
      ∙ ap (λ o. option_map_or (λ (one : Span). piece_if_some one.from
      (bytes_told state grant.bring.fid one)) o []) asked)
      ∙ ap (λ o. unwrap_or o 0) (byte_if_some span.from (bytes_told state grant.bring.fid span) at)
      ∙ tells_are_kept.parts tree state (with_pieces (pieces_told state grant.bring.fid (span ∷ []))) (span ∷ [])
      (ByteAt at) s (refl, inl (ap (λ b. b || false) has))

  bytes_of_dir : (at : ℕ) → status.dir ≡ true
      → part_told grant (ByteAt at) ≡ (cell_at tree grant.bring.fid (ByteAt at)).kept
  bytes_of_dir at dir =
      tells_are_kept.parts tree state grant [] (ByteAt at) s (
        m.pieces_are ∙ ap (λ b. if b then [] else option_map_or (λ (one : Span).
            piece_if_some one.from (bytes_told state grant.bring.fid one)) (span_asked needs) []) dir,
        inr (dir_is ∙ dir),
      )

  tells_byte : (at : ℕ) (update : Bool) (span : Span) (need : Need) → In need needs → need.kind ≡ Bytes update span
      → has_byte span at ≡ true → part_told grant (ByteAt at) ≡ (cell_at tree grant.bring.fid (ByteAt at)).kept
  tells_byte at update span need i e has = by status.dir refl
    where
      by : (b : Bool) → status.dir ≡ b → part_told grant (ByteAt at) ≡ (cell_at tree grant.bring.fid (ByteAt at)).kept
      by true dir = bytes_of_dir at dir
      by false file =
          let (asked, is, has_it) = asked_from needs None need update span at i e has in
          bytes_in_span asked at has_it file is

  -- entries
  tells_entries : (update : Bool) (span : Span) (need : Need) → In need needs → need.kind ≡ Bytes update span
      → has_byte span 0 ≡ true → part_told grant Entries ≡ (cell_at tree grant.bring.fid Entries).kept
  tells_entries update span need i e has = by status.dir refl
    where
      asked : is_some (span_asked needs) ≡ true
      asked = let (one, is, has_it) = asked_from needs None need update span 0 i e has in ap is_some is

      told : (b : Bool) → status.dir ≡ b
          → grant.entries ≡ (if b && is_some (span_asked needs) then entries_told state grant.bring.fid else [])
      told b is = m.entries_are
          ∙ ap (λ c. if c && is_some (span_asked needs) then entries_told state grant.bring.fid else []) is

      by : (b : Bool) → status.dir ≡ b → part_told grant Entries ≡ (cell_at tree grant.bring.fid Entries).kept
      by true dir =
          tells_are_kept.parts tree state grant [] Entries s
          (told true dir ∙ ap (λ c. if c then entries_told state grant.bring.fid else []) asked)
      by false file =
          told false file ∙ sym (no_entries file)
          ∙ tells_are_kept.parts tree state (record grant { entries = entries_told state grant.bring.fid }) [] Entries
          s refl
        where
          no_entries : status.dir ≡ false → entries_told state grant.bring.fid ≡ []
          no_entries file = file_entries state grant.bring.fid status m.there file

  tells_shown : (kind : Kind) (need : Need) (part : Part) → In need needs → need.kind ≡ kind → IsTrue (shows kind part)
      → part_told grant part ≡ (cell_at tree grant.bring.fid part).kept
  tells_shown kind need Traits i e shown = tells_are_kept.parts tree state grant [] Traits s tells_status
  tells_shown kind need Size i e shown = tells_are_kept.parts tree state grant [] Size s tells_status
  tells_shown (Bytes update span) need (ByteAt at) i e shown = tells_byte at update span need i e shown
  tells_shown (Bytes update span) need Entries i e shown = tells_entries update span need i e shown
  tells_shown (Status update) need (ByteAt at) i e shown = absurd (false≢true shown)
  tells_shown (Status update) need Entries i e shown = absurd (false≢true shown)
  tells_shown (Lock writing span) need (ByteAt at) i e shown = absurd (false≢true shown)
  tells_shown (Lock writing span) need Entries i e shown = absurd (false≢true shown)
  tells_shown (Opening way) need (ByteAt at) i e shown = absurd (false≢true shown)
  tells_shown (Opening way) need Entries i e shown = absurd (false≢true shown)

  pub tells_kept : (t : Token) (part : Part) → In t grant.bring.tokens → IsTrue (shows t.kind part)
      → part_told grant part ≡ (cell_at tree grant.bring.fid part).kept
  tells_kept t part i shown =
      tells_shown t.kind (need_of t) part (need_in grant.bring.tokens needs t m.brings i) refl shown

is_there : (tree : Tree) (state : StoreState) (fid : Fid) → StandsFor tree state
    → is_some (status_told state fid) ≡ is_some (cell_at tree fid Traits).kept
is_there tree state fid s = tells_are_kept.there tree state fid s

pub grants_tell : GrantsTell
grants_tell = record {
  tells = λ tree state needs status grant s m t part i shown.
      tells_kept tree state needs status grant s m t part i shown;
  there = λ tree state status grant s e none.
      false≢true (sym (ap is_some none) ∙ sym (is_there tree state grant.bring.fid s) ∙ ap is_some e);
  gone = λ tree state grant s e there.
      there (none_of (cell_at tree grant.bring.fid Traits).kept
      (sym (is_there tree state grant.bring.fid s) ∙ ap is_some e));
}
  where
    none_of : {X : Type 0} (o : Option X) → is_some o ≡ false → o ≡ None
    none_of None e = refl
    none_of (Some x) e = absurd (cc)
