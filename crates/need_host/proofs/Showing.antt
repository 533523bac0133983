-- Which tokens show parts, and what is in their way.
use Rattle.std.proofs.Common.{◌≡◌, ◌≤◌, ◌<◌, ℕ, ◌+◌, ◌==◌, nat_lt, nat_le, min, max, Bool, true, false, ◌&&◌, ◌||◌, cond, List, [], ◌∷◌, length, Option, Some, None, refl, ap, ◌∙◌, subst, arith}
use Rattle.std.specs.Prelude.{map}
use Rattle.std.specs.Option.{option_map, option_map_or}
use Rattle.std.specs.List.{list_any, list_all, find}
use Rattle.std.proofs.lemmas.Grind.{common_steps}
use Rattle.base_types.specs.Ids.{same_fid}
use Rattle.base_types.specs.Image.{byte_at}
use Rattle.base_types.specs.Spans.{overlap, has_byte}
use Rattle.base_types.specs.declared.ids.Fid.{Fid}
use Rattle.base_types.specs.declared.limits.TheConstants.{FILE_BYTES_MAX}
use Rattle.base_types.specs.declared.span.Span.{Span}
use Rattle.tree_objects.specs.declared.content.Content.{Content}
use Rattle.tree_objects.specs.declared.content.Content.TheVariants.{Dir, File}
use Rattle.tree_objects.specs.declared.content.Object.{Object}
use Rattle.tree_objects.specs.declared.content.Unsaved.{Unsaved}
use Rattle.tree_objects.specs.Files.{unsaved_at}
use Rattle.tree_objects.specs.Sound.{is_sound}
use Rattle.tree_objects.proofs.Observed.{and_left, and_right, get_past}
use Rattle.tree_objects.proofs.StaysSound.{sound_places}
use Rattle.tree_filesets.specs.declared.fileset.Fileset.{Fileset}
use Rattle.tree_filesets.specs.Walk.{object_at, unique_at}
use Rattle.tree_filesets.specs.WellFormed.{IsWellFormed as IsWellFormedFileset}
use Rattle.tree_answers.specs.Finding.{has_id}
use Rattle.tree_answers.proofs.Followed.{same_fid_itself}
use Rattle.token_types.specs.declared.token.Kind.{Kind}
use Rattle.token_types.specs.declared.token.Kind.TheVariants.{Bytes, Status, Lock, Opening}
use Rattle.token_types.specs.declared.token.Need.{Need}
use Rattle.token_types.specs.declared.token.Token.{Token}
use Rattle.token_types.specs.Conflicts.{kinds_conflict, need_of, any_conflict}
use Rattle.token_types.specs.Covers.{does_for, kind_covers_byte, covers_byte, kind_covers, covers_alone, CoversKind}
use Rattle.tree_laws.specs.Parts.{Part, present, written_byte, byte_cell, cell_found, cell_in}
use Rattle.tree_laws.specs.Parts.Part.{ByteAt, Size, Traits, Entries}
use Rattle.tree_laws.proofs.Steps.{no_dir, no_file, fid_is, formed_found}
use Rattle.need_host.specs.Looks.{kind_for, CoverAll}
use Rattle.need_host.specs.Shows.{is_update, shows, updates, needs_show, needs_update, can_be}
use Rattle.need_host.specs.Laws.{for_update, TokensShowParts, ShownAgree, NothingBeyond}
use Rattle.need_host.proofs.Updates.{rounded_has}

-- the need of a part
seen_by : (part : Part) → can_be part ≡ true → shows (kind_for part) part ≡ true
seen_by (ByteAt at) can =
    let low : at ≤ at = omega arith in let high : at < at + 1 = omega arith in
    rounded_has at (at + 1) at low high can
seen_by Size can = refl
seen_by Traits can = refl
seen_by Entries can = refl

-- from tokens to the needs that they meet
any_token : (p : Token → Bool) (q : Need → Bool) → ((token : Token) → p token ≡ true → q (need_of token) ≡ true) → (held : List Token) → list_any p held ≡ true → list_any q (map need_of held) ≡ true
any_token p q each [] h = no_file h
any_token p q each (token ∷ held) h = by_test (p token) refl (any_token p q each held) h
  where
    first : (a b : Bool) → a ≡ true → (a || b) ≡ true
    first true b h = refl
    first false b h = no_file h

    last : (a b : Bool) → b ≡ true → (a || b) ≡ true
    last true b h = refl
    last false b h = h

    by_test : (b : Bool) → p token ≡ b → (list_any p held ≡ true → list_any q (map need_of held) ≡ true) → (b || list_any p held) ≡ true → list_any q (map need_of (token ∷ held)) ≡ true
    by_test true e rest k = first (q (need_of token)) (list_any q (map need_of held)) (each token e)
    by_test false e rest k = last (q (need_of token)) (list_any q (map need_of held)) (rest k)

both : (a b : Bool) → a ≡ true → b ≡ true → (a && b) ≡ true
both true b h k = k
both false b h k = no_file h

-- a token over a byte, for update or for reading
byte_shown : (needed : Bool) (at : ℕ) (kind : Kind) → kind_covers_byte needed at kind ≡ true → shows kind (ByteAt at) ≡ true
byte_shown needed at (Bytes update span) h = and_right _ _ h
byte_shown needed at (Status update) h = no_file h
byte_shown needed at (Lock writing span) h = no_file h
byte_shown needed at (Opening kind) h = no_file h

does_update : (update : Bool) → does_for update true ≡ true → update ≡ true
does_update true h = refl
does_update false h = no_file h

byte_updated : (at : ℕ) (kind : Kind) → kind_covers_byte true at kind ≡ true → is_update kind ≡ true
byte_updated at (Bytes update span) h = does_update update (and_left _ _ h)
byte_updated at (Status update) h = no_file h
byte_updated at (Lock writing span) h = no_file h
byte_updated at (Opening kind) h = no_file h

byte_entries : (kind : Kind) → shows kind (ByteAt 0) ≡ true → shows kind Entries ≡ true
byte_entries (Bytes update span) h = h
byte_entries (Status update) h = no_file h
byte_entries (Lock writing span) h = no_file h
byte_entries (Opening kind) h = no_file h

-- a token over the status
status_shown : (needed : Bool) (kind : Kind) → kind_covers kind (Status needed) ≡ true → (shows kind Size ≡ true) × (shows kind Traits ≡ true)
status_shown needed (Bytes update span) h = no_file h
status_shown needed (Status update) h = (refl, refl)
status_shown needed (Lock writing span) h = no_file h
status_shown needed (Opening kind) h = no_file h

status_updated : (kind : Kind) → kind_covers kind (Status true) ≡ true → is_update kind ≡ true
status_updated (Bytes update span) h = no_file h
status_updated (Status update) h = does_update update h
status_updated (Lock writing span) h = no_file h
status_updated (Opening kind) h = no_file h

-- a byte of a span
inside : (span : Span) (at : ℕ) → has_byte span at ≡ true → (span.from ≤ at) × (at < span.to)
inside span at h =
    let low : nat_le span.from at ≡ true = and_left _ _ h in
    let high : nat_lt at span.to ≡ true = and_right _ _ h in
    let a : span.from ≤ at = grind (arith, common_steps, low) in
    let b : at < span.to = grind (arith, common_steps, high) in (a, b)

-- what covers a need shows what the need shows
shown_kind : (held : List Token) (fid : Fid) (kind : Kind) (part : Part) → CoversKind held fid kind → shows kind part ≡ true → needs_show (map need_of held) fid part ≡ true
shown_kind held fid (Bytes needed span) (ByteAt at) covers h =
    let (low, high) = inside span at h in
    any_token (covers_byte fid needed at) _ (λ token k. both (same_fid token.fid fid) (shows token.kind (ByteAt at)) (and_left _ _ k) (byte_shown needed at token.kind (and_right _ _ k))) held (covers at low high)
shown_kind held fid (Bytes needed span) Entries covers h =
    let (low, high) = inside span 0 h in
    any_token (covers_byte fid needed 0) _ (λ token k. both (same_fid token.fid fid) (shows token.kind Entries) (and_left _ _ k) (byte_entries token.kind (byte_shown needed 0 token.kind (and_right _ _ k)))) held (covers 0 low high)
shown_kind held fid (Bytes needed span) Size covers h = no_file h
shown_kind held fid (Bytes needed span) Traits covers h = no_file h
shown_kind held fid (Status needed) Size covers h =
    any_token (covers_alone fid (Status needed)) _ (λ token k. both (same_fid token.fid fid) (shows token.kind Size) (and_left _ _ k) (status_shown needed token.kind (and_right _ _ k)).0) held covers
shown_kind held fid (Status needed) Traits covers h =
    any_token (covers_alone fid (Status needed)) _ (λ token k. both (same_fid token.fid fid) (shows token.kind Traits) (and_left _ _ k) (status_shown needed token.kind (and_right _ _ k)).1) held covers
shown_kind held fid (Status needed) (ByteAt at) covers h = no_file h
shown_kind held fid (Status needed) Entries covers h = no_file h
shown_kind held fid (Lock writing span) part covers h = no_file (locks part h)
  where
    locks : (part : Part) → shows (Lock writing span) part ≡ true → false ≡ true
    locks (ByteAt at) h = h
    locks Size h = h
    locks Traits h = h
    locks Entries h = h
shown_kind held fid (Opening kind) part covers h = no_file (opens part h)
  where
    opens : (part : Part) → shows (Opening kind) part ≡ true → false ≡ true
    opens (ByteAt at) h = h
    opens Size h = h
    opens Traits h = h
    opens Entries h = h

-- and is for update where the need is
updated_kind : (held : List Token) (fid : Fid) (kind : Kind) (part : Part) → CoversKind held fid kind → updates kind part ≡ true → needs_update (map need_of held) fid part ≡ true
updated_kind held fid (Bytes true span) (ByteAt at) covers h =
    let (low, high) = inside span at h in
    any_token (covers_byte fid true at) _ (λ token k. both (same_fid token.fid fid) (updates token.kind (ByteAt at)) (and_left _ _ k)
    (both (is_update token.kind) (shows token.kind (ByteAt at)) (byte_updated at token.kind (and_right _ _ k)) (byte_shown true at token.kind (and_right _ _ k)))) held (covers at low high)
updated_kind held fid (Bytes true span) Entries covers h =
    let (low, high) = inside span 0 h in
    any_token (covers_byte fid true 0) _ (λ token k. both (same_fid token.fid fid) (updates token.kind Entries) (and_left _ _ k)
    (both (is_update token.kind) (shows token.kind Entries) (byte_updated 0 token.kind (and_right _ _ k)) (byte_entries token.kind (byte_shown true 0 token.kind (and_right _ _ k))))) held (covers 0 low high)
updated_kind held fid (Bytes true span) Size covers h = no_file h
updated_kind held fid (Bytes true span) Traits covers h = no_file h
updated_kind held fid (Bytes false span) part covers h = no_file h
updated_kind held fid (Status true) Size covers h =
    any_token (covers_alone fid (Status true)) _ (λ token k. both (same_fid token.fid fid) (updates token.kind Size) (and_left _ _ k)
    (both (is_update token.kind) (shows token.kind Size) (status_updated token.kind (and_right _ _ k)) (status_shown true token.kind (and_right _ _ k)).0)) held covers
updated_kind held fid (Status true) Traits covers h =
    any_token (covers_alone fid (Status true)) _ (λ token k. both (same_fid token.fid fid) (updates token.kind Traits) (and_left _ _ k)
    (both (is_update token.kind) (shows token.kind Traits) (status_updated token.kind (and_right _ _ k)) (status_shown true token.kind (and_right _ _ k)).1)) held covers
updated_kind held fid (Status true) (ByteAt at) covers h = no_file h
updated_kind held fid (Status true) Entries covers h = no_file h
updated_kind held fid (Status false) part covers h = no_file h
updated_kind held fid (Lock writing span) part covers h = no_file h
updated_kind held fid (Opening kind) part covers h = no_file h

covers_show : (held : List Token) (needs : List Need) (fid : Fid) (part : Part) → CoverAll held needs → needs_show needs fid part ≡ true → needs_show (map need_of held) fid part ≡ true
covers_show held [] fid part all h = no_file h
covers_show held (need ∷ needs) fid part all h = by_test (same_fid need.fid fid && shows need.kind part) refl (covers_show held needs fid part all.1) h
  where
    by_test : (b : Bool) → (same_fid need.fid fid && shows need.kind part) ≡ b → (needs_show needs fid part ≡ true → needs_show (map need_of held) fid part ≡ true) → (b || needs_show needs fid part) ≡ true → needs_show (map need_of held) fid part ≡ true
    by_test true e rest k = shown_kind held fid need.kind part (subst (λ f. CoversKind held f need.kind) (fid_is need.fid fid (and_left _ _ e)) all.0) (and_right _ _ e)
    by_test false e rest k = rest k

covers_update : (held : List Token) (needs : List Need) (fid : Fid) (part : Part) → CoverAll held needs → needs_update needs fid part ≡ true → needs_update (map need_of held) fid part ≡ true
covers_update held [] fid part all h = no_file h
covers_update held (need ∷ needs) fid part all h = by_test (same_fid need.fid fid && updates need.kind part) refl (covers_update held needs fid part all.1) h
  where
    by_test : (b : Bool) → (same_fid need.fid fid && updates need.kind part) ≡ b → (needs_update needs fid part ≡ true → needs_update (map need_of held) fid part ≡ true) → (b || needs_update needs fid part) ≡ true → needs_update (map need_of held) fid part ≡ true
    by_test true e rest k = updated_kind held fid need.kind part (subst (λ f. CoversKind held f need.kind) (fid_is need.fid fid (and_left _ _ e)) all.0) (and_right _ _ e)
    by_test false e rest k = rest k

-- two spans with one byte
overlap_at : (a b : Span) (at : ℕ) → has_byte a at ≡ true → has_byte b at ≡ true → overlap a b ≡ true
overlap_at a b at h k =
    let (low, high) = inside a at h in let (first, last) = inside b at k in
    let less : max a.from b.from < min a.to b.to = omega (arith, low, high, first, last) in
    grind (arith, common_steps, less)

-- two kinds that show one part, one of them for update
kinds_meet : (a b : Kind) (part : Part) → shows a part ≡ true → shows b part ≡ true → (is_update a || is_update b) ≡ true → kinds_conflict a b ≡ true
kinds_meet (Bytes u s) (Bytes v t) (ByteAt at) h k w = both (u || v) (overlap s t) w (overlap_at s t at h k)
kinds_meet (Bytes u s) (Bytes v t) Size h k w = no_file h
kinds_meet (Bytes u s) (Bytes v t) Traits h k w = no_file h
kinds_meet (Bytes u s) (Bytes v t) Entries h k w = both (u || v) (overlap s t) w (overlap_at s t 0 h k)
kinds_meet (Bytes u s) (Status v) (ByteAt at) h k w = no_file k
kinds_meet (Bytes u s) (Status v) Size h k w = no_file h
kinds_meet (Bytes u s) (Status v) Traits h k w = no_file h
kinds_meet (Bytes u s) (Status v) Entries h k w = no_file k
kinds_meet (Bytes u s) (Lock v t) (ByteAt at) h k w = no_file k
kinds_meet (Bytes u s) (Lock v t) Size h k w = no_file h
kinds_meet (Bytes u s) (Lock v t) Traits h k w = no_file h
kinds_meet (Bytes u s) (Lock v t) Entries h k w = no_file k
kinds_meet (Bytes u s) (Opening p) (ByteAt at) h k w = no_file k
kinds_meet (Bytes u s) (Opening p) Size h k w = no_file h
kinds_meet (Bytes u s) (Opening p) Traits h k w = no_file h
kinds_meet (Bytes u s) (Opening p) Entries h k w = no_file k
kinds_meet (Status u) (Bytes v t) (ByteAt at) h k w = no_file h
kinds_meet (Status u) (Bytes v t) Size h k w = no_file k
kinds_meet (Status u) (Bytes v t) Traits h k w = no_file k
kinds_meet (Status u) (Bytes v t) Entries h k w = no_file h
kinds_meet (Status u) (Status v) (ByteAt at) h k w = no_file h
kinds_meet (Status u) (Status v) Size h k w = w
kinds_meet (Status u) (Status v) Traits h k w = w
kinds_meet (Status u) (Status v) Entries h k w = no_file h
kinds_meet (Status u) (Lock v t) (ByteAt at) h k w = no_file h
kinds_meet (Status u) (Lock v t) Size h k w = no_file k
kinds_meet (Status u) (Lock v t) Traits h k w = no_file k
kinds_meet (Status u) (Lock v t) Entries h k w = no_file h
kinds_meet (Status u) (Opening p) (ByteAt at) h k w = no_file h
kinds_meet (Status u) (Opening p) Size h k w = no_file k
kinds_meet (Status u) (Opening p) Traits h k w = no_file k
kinds_meet (Status u) (Opening p) Entries h k w = no_file h
kinds_meet (Lock u s) (Bytes v t) (ByteAt at) h k w = no_file h
kinds_meet (Lock u s) (Bytes v t) Size h k w = no_file h
kinds_meet (Lock u s) (Bytes v t) Traits h k w = no_file h
kinds_meet (Lock u s) (Bytes v t) Entries h k w = no_file h
kinds_meet (Lock u s) (Status v) (ByteAt at) h k w = no_file h
kinds_meet (Lock u s) (Status v) Size h k w = no_file h
kinds_meet (Lock u s) (Status v) Traits h k w = no_file h
kinds_meet (Lock u s) (Status v) Entries h k w = no_file h
kinds_meet (Lock u s) (Lock v t) (ByteAt at) h k w = no_file h
kinds_meet (Lock u s) (Lock v t) Size h k w = no_file h
kinds_meet (Lock u s) (Lock v t) Traits h k w = no_file h
kinds_meet (Lock u s) (Lock v t) Entries h k w = no_file h
kinds_meet (Lock u s) (Opening p) (ByteAt at) h k w = no_file h
kinds_meet (Lock u s) (Opening p) Size h k w = no_file h
kinds_meet (Lock u s) (Opening p) Traits h k w = no_file h
kinds_meet (Lock u s) (Opening p) Entries h k w = no_file h
kinds_meet (Opening o) (Bytes v t) (ByteAt at) h k w = no_file h
kinds_meet (Opening o) (Bytes v t) Size h k w = no_file h
kinds_meet (Opening o) (Bytes v t) Traits h k w = no_file h
kinds_meet (Opening o) (Bytes v t) Entries h k w = no_file h
kinds_meet (Opening o) (Status v) (ByteAt at) h k w = no_file h
kinds_meet (Opening o) (Status v) Size h k w = no_file h
kinds_meet (Opening o) (Status v) Traits h k w = no_file h
kinds_meet (Opening o) (Status v) Entries h k w = no_file h
kinds_meet (Opening o) (Lock v t) (ByteAt at) h k w = no_file h
kinds_meet (Opening o) (Lock v t) Size h k w = no_file h
kinds_meet (Opening o) (Lock v t) Traits h k w = no_file h
kinds_meet (Opening o) (Lock v t) Entries h k w = no_file h
kinds_meet (Opening o) (Opening p) (ByteAt at) h k w = no_file h
kinds_meet (Opening o) (Opening p) Size h k w = no_file h
kinds_meet (Opening o) (Opening p) Traits h k w = no_file h
kinds_meet (Opening o) (Opening p) Entries h k w = no_file h

either_way : (a b : Bool) → b ≡ true → (a || b) ≡ true
either_way true b h = refl
either_way false b h = h

first_way : (a b : Bool) → a ≡ true → (a || b) ≡ true
first_way true b h = refl
first_way false b h = no_file h

-- what shows a part against needs of it
any_meets : (need : Need) (test : Kind → Bool) (part : Part) → ((kind : Kind) → test kind ≡ true → kinds_conflict need.kind kind ≡ true) → (needs : List Need) →
    list_any (λ other. same_fid other.fid need.fid && test other.kind) needs ≡ true → any_conflict need needs ≡ true
any_meets need test part each [] h = no_file h
any_meets need test part each (other ∷ needs) h = by_test (same_fid other.fid need.fid && test other.kind) refl (any_meets need test part each needs) h
  where
    by_test : (b : Bool) → (same_fid other.fid need.fid && test other.kind) ≡ b → (list_any (λ other. same_fid other.fid need.fid && test other.kind) needs ≡ true → any_conflict need needs ≡ true) → (b || list_any (λ other. same_fid other.fid need.fid && test other.kind) needs) ≡ true → any_conflict need (other ∷ needs) ≡ true
    by_test true e rest k =
        let one : same_fid need.fid other.fid ≡ true = ap (λ f. same_fid need.fid f) (fid_is other.fid need.fid (and_left _ _ e)) ∙ same_fid_itself need.fid in
        first_way (same_fid need.fid other.fid && kinds_conflict need.kind other.kind) (any_conflict need needs) (both (same_fid need.fid other.fid) (kinds_conflict need.kind other.kind) one (each other.kind (and_right _ _ e)))
    by_test false e rest k = either_way (same_fid need.fid other.fid && kinds_conflict need.kind other.kind) (any_conflict need needs) (rest k)

only : (kind : Kind) (part : Part) → can_be part ≡ true → shows kind part ≡ true → kinds_conflict kind (for_update (kind_for part)) ≡ true
only kind (ByteAt at) can h = kinds_meet kind (for_update (kind_for (ByteAt at))) (ByteAt at) h (seen_by (ByteAt at) can) (either_way (is_update kind) true refl)
only kind Size can h = kinds_meet kind (Status true) Size h refl (either_way (is_update kind) true refl)
only kind Traits can h = kinds_meet kind (Status true) Traits h refl (either_way (is_update kind) true refl)
only kind Entries can h = kinds_meet kind (for_update (kind_for Entries)) Entries h refl (either_way (is_update kind) true refl)

pub tokens_show_parts : TokensShowParts
tokens_show_parts = record {
  seen_by = seen_by;
  only = only;
  covers = covers_show;
  covers_update = covers_update;
  conflict = λ need needs part h k. any_meets need (λ kind. updates kind part) part
      (λ kind e. kinds_meet need.kind kind part h (and_right _ _ e) (either_way (is_update need.kind) (is_update kind) (and_left _ _ e))) needs k;
  conflict_update = λ need needs part h u k. any_meets need (λ kind. shows kind part) part
      (λ kind e. kinds_meet need.kind kind part h e (first_way (is_update need.kind) (is_update kind) u)) needs k;
}

-- views that agree on what tokens show
pub shown_agree : ShownAgree
shown_agree held a b same beyond fid part covered = by_test (can_be part) refl
  where
    there : can_be part ≡ true → a fid part ≡ b fid part
    there can =
        let need : Need = record { fid = fid; kind = kind_for part } in
        same fid part (covers_show held (need ∷ []) fid part (covered, tt) (first_way _ _ (both (same_fid fid fid) (shows (kind_for part) part) (same_fid_itself fid) (seen_by part can))))

    behind : (part : Part) → can_be part ≡ false → a fid part ≡ b fid part
    behind (ByteAt at) h = beyond fid at (grind (arith, common_steps, h))
    behind Size h = no_dir h
    behind Traits h = no_dir h
    behind Entries h = no_dir h

    by_test : (t : Bool) → can_be part ≡ t → a fid part ≡ b fid part
    by_test true e = there e
    by_test false e = behind part e

-- no byte beyond the greatest file
none_beyond : (unsaved : List Unsaved) (at : ℕ) → FILE_BYTES_MAX ≤ at → list_all (λ byte. nat_lt byte.at FILE_BYTES_MAX) unsaved ≡ true → unsaved_at unsaved at ≡ None
none_beyond [] at far h = refl
none_beyond (byte ∷ rest) at far h =
    let low : nat_lt byte.at FILE_BYTES_MAX ≡ true = and_left _ _ h in
    let other : (byte.at == at) ≡ false = grind (arith, common_steps, low, far) in
    ap (λ t. cond t (Some byte) (unsaved_at rest at)) other ∙ none_beyond rest at far (and_right _ _ h)

content_beyond : (content : Content) (at : ℕ) → FILE_BYTES_MAX ≤ at → is_sound content ≡ true → present (byte_cell content at) ≡ 0
content_beyond (Dir entries lists) at far sound = refl
content_beyond (File list kept unsaved len) at far sound =
    let short : nat_le (length kept) FILE_BYTES_MAX ≡ true = and_left _ _ (and_left _ _ (and_left _ _ (and_left _ _ sound))) in
    let past : length kept ≤ at = grind (arith, common_steps, short, far) in
    ap (λ o. option_map_or (λ written. written.value) (option_map written_byte o) (byte_at kept at)) (none_beyond unsaved at far (sound_places list kept unsaved len sound)) ∙ get_past kept at past

found_beyond : (fileset : Fileset) (fid : Fid) (at : ℕ) → FILE_BYTES_MAX ≤ at → IsWellFormedFileset fileset → (b : Bool) (o : Option Object) → object_at fileset.anodes fid.anode ≡ o →
    present (cell_found fileset.read_only (cond b o None) (ByteAt at)) ≡ 0
found_beyond fileset fid at far formed true (Some object) e = content_beyond object.content at far (formed.sound fid.anode object e)
found_beyond fileset fid at far formed true None e = refl
found_beyond fileset fid at far formed false o e = refl

in_beyond : (o : Option Fileset) (fid : Fid) (at : ℕ) → FILE_BYTES_MAX ≤ at → ((fileset : Fileset) → o ≡ Some fileset → IsWellFormedFileset fileset) → present (cell_in o fid (ByteAt at)) ≡ 0
in_beyond None fid at far formed = refl
in_beyond (Some fileset) fid at far formed =
    found_beyond fileset fid at far (formed fileset refl) (unique_at fileset.anodes fid.anode == fid.unique) (object_at fileset.anodes fid.anode) refl

pub nothing_beyond : NothingBeyond
nothing_beyond tree fid at w far = in_beyond (find (has_id fid.fileset) tree.filesets) fid at far (λ fileset found. formed_found (has_id fid.fileset) tree.filesets fileset w.filesets found)
