-- What an answer that is used leaves of the tables: the tokens that it brings and that weren't held come to the front
-- of the cache, and show what a Grant tells.
use Rattle.base_types.specs.Ids.{same_fid}
use Rattle.base_types.specs.Image.{byte_at}
use Rattle.base_types.specs.declared.ids.Fid.{Fid}
use Rattle.base_types.specs.declared.ids.ServerId.{ServerId}
use Rattle.base_types.specs.declared.limits.TheConstants.{FILE_BYTES_MAX}
use Rattle.host_cache.specs.Bytes.{told_byte}
use Rattle.host_cache.specs.Holding.{has_id, is_id, is_status, kind_has_byte, tokens_of}
use Rattle.host_cache.specs.Seen.{Kept, Seen as Shown, after_add, seen}
use Rattle.host_cache.specs.declared.held.Held.{Held}
use Rattle.host_manager.specs.Learning.{HasTaken, Taking, floor_by, taking, taking_from, taking_one, taking_token}
use Rattle.host_manager.specs.Learning.{with_floor_by, without_length}
use Rattle.host_manager.specs.Taking.{told_by}
use Rattle.host_tables.proofs.Lists.{any_in, by_test, fid_same, id_same, in_any, in_either, in_left, in_map, in_right}
use Rattle.host_tables.proofs.Lists.{map_in, none_in, not_true, same_fid_is, same_id_is, true_false}
use Rattle.host_tables.proofs.Updating.{reads_after}
use Rattle.host_tables.specs.Drafts.{no_draft}
use Rattle.host_tables.specs.Granting.{AfterGrant, BringsAnew, grants}
use Rattle.host_tables.specs.HeardDone.{call_after}
use Rattle.host_tables.specs.HeardUsed.{AfterDone, TakesAnew}
use Rattle.host_tables.specs.Stands.{CacheStands}
use Rattle.host_tables.specs.Tables.{content, floor_of, length_given, updates_status}
use Rattle.host_tables.specs.declared.draft.Draft.{Draft}
use Rattle.host_lengths.specs.declared.given.Given.{Given}
use Rattle.host_tables.specs.declared.tables.Tables.{Tables}
use Rattle.message_types.specs.Soundness.{Each, IsBody, IsBrought, IsDone, IsGrant, IsSound}
use Rattle.message_types.specs.declared.message.Body.TheVariants.{Done, Grant}
use Rattle.message_types.specs.declared.message.Message.{Message}
use Rattle.message_types.specs.declared.telling.Done.{Done as DoneOf}
use Rattle.message_types.specs.declared.telling.DoneIs.{DoneIs}
use Rattle.message_types.specs.declared.telling.DoneIs.TheVariants.{Known, Reply as HasReply}
use Rattle.message_types.specs.declared.telling.Grant.{Grant as GrantOf}
use Rattle.need_host.specs.Shows.{shows}
use Rattle.run_rules.specs.Past.{In}
use Rattle.run_rules.specs.Tokens.{BringsUses, HoldsId, IsUseKind}
use Rattle.run_rules.specs.Views.{UpdatesStatus, byte_of, nature_told, part_told}
use Rattle.run_rules.specs.declared.step.Step.{Step}
use Rattle.std.proofs.Common.{Bool, List, None, Option, Some, [], ap, append-nil, append_assoc, arith, false, filter}
use Rattle.std.proofs.Common.{if◌then◌else◌, inl, inr, is_some, le-ltb, leb-true, length, ltb-false, ltb-true, nat_le}
use Rattle.std.proofs.Common.{nat_lt, not, refl, slice_get, subst, sym, true, unwrap_or, ℕ, ◌&&◌, ◌+◌, ◌++◌}
use Rattle.std.proofs.Common.{◌-◌, ◌||◌, ◌∙◌, ◌∷◌, ◌↔◌, ◌≡◌, ◌≤◌, ◌⊎◌}
use Rattle.std.proofs.lemmas.Bool.{and_parts}
use Rattle.std.proofs.lemmas.List.{map-append}
use Rattle.std.proofs.lemmas.Option.{slice_get-get_or, slice_get_past}
use Rattle.std.specs.List.{find, list_any}
use Rattle.std.specs.Option.{option_map, option_map_or}
use Rattle.token_types.specs.declared.token.Kind.{Kind}
use Rattle.token_types.specs.declared.token.Kind.TheVariants.{Bytes, Lock, Opening, Status}
use Rattle.token_types.specs.declared.token.Token.{Token}
use Rattle.token_types.specs.declared.token.TokenId.{TokenId}
use Rattle.tree_calls.specs.declared.part.DirEntry.{DirEntry}
use Rattle.tree_calls.specs.declared.part.Piece.{Piece}
use Rattle.tree_calls.specs.declared.part.Status.{Status as StatusOf}
use Rattle.tree_calls.specs.declared.roster.Roster.{Roster}
use Rattle.tree_laws.specs.Parts.{Part, Seen}
use Rattle.tree_laws.specs.Parts.Part.{ByteAt, Entries, Size, Traits}

of_each : {A : Type 0} (P : A → Type 0) (xs : List A) → Each P xs → (x : A) → In x xs → P x
of_each P [] each x i = elim i [ ]
of_each P (y ∷ ys) each x (inl e) = subst P (sym e) each.0
of_each P (y ∷ ys) each x (inr i) = of_each P ys each.1 x i

-- # Bytes that pieces tell
told_is : (pieces : List Piece) (at : ℕ) → told_byte pieces at ≡ unwrap_or (byte_of pieces at) 0
told_is [] at = refl
told_is (piece ∷ pieces) at = by_from (told_is pieces at) (nat_le piece.from at) refl
  where
    by_end : told_byte pieces at ≡ unwrap_or (byte_of pieces at) 0 → piece.from ≤ at → (b : Bool)
        → nat_lt at (piece.from + length piece.bytes) ≡ b
        → (if b then byte_at piece.bytes (at - piece.from) else told_byte pieces at)
        ≡ unwrap_or (if is_some (slice_get piece.bytes (at - piece.from)) then slice_get piece.bytes (at - piece.from)
        else byte_of pieces at) 0
    by_end later low true e =
        let l = ltb-true at (piece.from + length piece.bytes) e in
        let q = slice_get-get_or piece.bytes (at - piece.from) 0 (omega (arith, l, low)) in
        ap (λ (o : Option ℕ). unwrap_or (if is_some o then o else byte_of pieces at) 0) (sym q)
    by_end later low false e =
        let past = ltb-false at (piece.from + length piece.bytes) e in
        let q = slice_get_past piece.bytes (at - piece.from) (omega (arith, past, low)) in
        later ∙ ap (λ (o : Option ℕ). unwrap_or (if is_some o then o else byte_of pieces at) 0) (sym q)

    by_from : told_byte pieces at ≡ unwrap_or (byte_of pieces at) 0 → (b : Bool) → nat_le piece.from at ≡ b
        → (if b && nat_lt at (piece.from + length piece.bytes) then byte_at piece.bytes (at - piece.from)
        else told_byte pieces at)
        ≡ unwrap_or (if is_some (if b then slice_get piece.bytes (at - piece.from) else None)
        then (if b then slice_get piece.bytes (at - piece.from) else None) else byte_of pieces at) 0
    by_from later true e = by_end later (leb-true piece.from at e) (nat_lt at (piece.from + length piece.bytes)) refl
    by_from later false e = later

-- # Parts that are shown
abbrev seen_part : Shown → Fid → (part : Part) → Seen part
seen_part s fid (ByteAt at) = unwrap_or (s.bytes fid at) 0
seen_part s fid Size = option_map_or (λ status. status.length) (s.status fid) 0
seen_part s fid Traits = option_map nature_told (s.status fid)
seen_part s fid Entries = s.entries fid

content_is : (kept : Kept) (fid : Fid) (part : Part) → content kept fid part ≡ seen_part (seen kept) fid part
content_is kept fid (ByteAt at) = refl
content_is kept fid Size = refl
content_is kept fid Traits = refl
content_is kept fid Entries = refl

abbrev shows_it : Fid → Part → Token → Bool
shows_it fid part token = same_fid token.fid fid && shows token.kind part

byte_shows : (k : Kind) (at : ℕ) → kind_has_byte at k ≡ shows k (ByteAt at)
byte_shows (Bytes update span) at = refl
byte_shows (Status update) at = refl
byte_shows (Lock writing span) at = refl
byte_shows (Opening kind) at = refl

first_shows : (k : Kind) → kind_has_byte 0 k ≡ shows k Entries
first_shows (Bytes update span) = refl
first_shows (Status update) = refl
first_shows (Lock writing span) = refl
first_shows (Opening kind) = refl

size_shows : (k : Kind) → is_status k ≡ shows k Size
size_shows (Bytes update span) = refl
size_shows (Status update) = refl
size_shows (Lock writing span) = refl
size_shows (Opening kind) = refl

traits_show : (k : Kind) → is_status k ≡ shows k Traits
traits_show (Bytes update span) = refl
traits_show (Status update) = refl
traits_show (Lock writing span) = refl
traits_show (Opening kind) = refl

if_ap : {A B : Type 0} (f : A → B) (b : Bool) (x y : A) → f (if b then x else y) ≡ (if b then f x else f y)
if_ap f true x y = refl
if_ap f false x y = refl

both_told : (b c : Bool) → (b ≡ true → c ≡ true) → (b && c) ≡ b
both_told true c told = told refl
both_told false c told = refl

updates_kind : (k : Kind) → updates_status k ≡ true → k ≡ Status true
updates_kind (Status true) e = refl
updates_kind (Status false) e = absurd (cc)
updates_kind (Bytes update span) e = absurd (cc)
updates_kind (Lock writing span) e = absurd (cc)
updates_kind (Opening kind) e = absurd (cc)

any_append : {A : Type 0} (p : A → Bool) (xs ys : List A) → list_any p (xs ++ ys) ≡ (list_any p xs || list_any p ys)
any_append p [] ys = refl
any_append p (x ∷ xs) ys = by_first (any_append p xs ys) (p x)
  where
    by_first : list_any p (xs ++ ys) ≡ (list_any p xs || list_any p ys) → (b : Bool)
        → (b || list_any p (xs ++ ys)) ≡ ((b || list_any p xs) || list_any p ys)
    by_first later true = refl
    by_first later false = later

either_if : {A : Type 0} (b c : Bool) (x y : A) → (if c then x else (if b then x else y)) ≡ (if b || c then x else y)
either_if true true x y = refl
either_if true false x y = refl
either_if false true x y = refl
either_if false false x y = refl

-- # Lengths that are forgotten
module _ {A : Type 0} (p q : A → Bool) where
  find_kept : ((x : A) → p x ≡ true → q x ≡ true) → (xs : List A) → find p (filter q xs) ≡ find p xs
  find_kept keeps [] = refl
  find_kept keeps (x ∷ xs) = by_kept (find_kept keeps xs) (q x) refl
    where
      by_kept : find p (filter q xs) ≡ find p xs → (b : Bool) → q x ≡ b
          → find p (if b then x ∷ filter q xs else filter q xs) ≡ (if p x then Some x else find p xs)
      by_kept later true e = ap (λ (o : Option A). if p x then Some x else o) later
      by_kept later false e = elim (by_test (p x)) [
        | inl t ↦ absurd (true_false (q x) (keeps x t) e)
        | inr f ↦ later ∙ sym (ap (λ (b : Bool). if b then Some x else find p xs) f)
      ]

  find_gone : ((x : A) → p x ≡ true → q x ≡ true → ⊥) → (xs : List A) → find p (filter q xs) ≡ None
  find_gone gone [] = refl
  find_gone gone (x ∷ xs) = by_kept (find_gone gone xs) (q x) refl
    where
      by_kept : find p (filter q xs) ≡ None → (b : Bool) → q x ≡ b
          → find p (if b then x ∷ filter q xs else filter q xs) ≡ None
      by_kept later true e = elim (by_test (p x)) [
        | inl t ↦ absurd (gone x t e)
        | inr f ↦ ap (λ (b : Bool). if b then Some x else find p (filter q xs)) f ∙ later
      ]
      by_kept later false e = later

  find_still : (xs : List A) → find p xs ≡ None → find p (filter q xs) ≡ None
  find_still [] e = refl
  find_still (x ∷ xs) e = by_found (λ rest. find_still xs rest) (p x) refl e
    where
      by_kept : p x ≡ false → find p (filter q xs) ≡ None → (b : Bool)
          → find p (if b then x ∷ filter q xs else filter q xs) ≡ None
      by_kept f later true = ap (λ (b : Bool). if b then Some x else find p (filter q xs)) f ∙ later
      by_kept f later false = later

      by_found : (find p xs ≡ None → find p (filter q xs) ≡ None) → (b : Bool) → p x ≡ b
          → (if b then Some x else find p xs) ≡ None → find p (if q x then x ∷ filter q xs else filter q xs) ≡ None
      by_found later true t rest = absurd (cc)
      by_found later false f rest = by_kept f (later rest) (q x)

-- # Tokens that are taken, one after the other
module _ (status : Option StatusOf) (pieces : List Piece) (entries : List DirEntry) where
  abbrev told : (part : Part) → Seen part
  told (ByteAt at) = told_byte pieces at
  told Size = option_map_or (λ s. s.length) status 0
  told Traits = option_map nature_told status
  told Entries = entries

  shown_added : (s : Shown) (t : Token) → (is_status t.kind ≡ true → is_some status ≡ true) → (fid : Fid) (part : Part)
      → seen_part (after_add s t status pieces entries) fid part
      ≡ (if shows_it fid part t then told part else seen_part s fid part)
  shown_added s t some fid (ByteAt at) =
      if_ap (λ (o : Option ℕ). unwrap_or o 0) (same_fid t.fid fid && kind_has_byte at t.kind)
      (Some (told_byte pieces at)) (s.bytes fid at)
      ∙ ap (λ (b : Bool). if same_fid t.fid fid && b then told_byte pieces at else unwrap_or (s.bytes fid at) 0)
      (byte_shows t.kind at)
  shown_added s t some fid Size =
      if_ap (λ (o : Option StatusOf). option_map_or (λ s. s.length) o 0)
      (same_fid t.fid fid && (is_status t.kind && is_some status)) status (s.status fid)
      ∙ ap (λ (b : Bool). if same_fid t.fid fid && b then option_map_or (λ s. s.length) status 0
      else option_map_or (λ s. s.length) (s.status fid) 0)
      (both_told (is_status t.kind) (is_some status) some ∙ size_shows t.kind)
  shown_added s t some fid Traits =
      if_ap (λ (o : Option StatusOf). option_map nature_told o)
      (same_fid t.fid fid && (is_status t.kind && is_some status)) status (s.status fid)
      ∙ ap (λ (b : Bool). if same_fid t.fid fid && b then option_map nature_told status
      else option_map nature_told (s.status fid))
      (both_told (is_status t.kind) (is_some status) some ∙ traits_show t.kind)
  shown_added s t some fid Entries =
      ap (λ (b : Bool). if same_fid t.fid fid && b then entries else s.entries fid) (first_shows t.kind)

  -- of the tokens those are taken that weren't held
  record TookSo (at : Taking) (tokens : List Token) (after : Taking) : Type 0 where
    front : List Held
    more : List Token
    held : after.shown.held ≡ front ++ at.shown.held
    taken : after.taken ≡ at.taken ++ more
    same : (t : Token) → In t (tokens_of front) ↔ In t more
    from : (t : Token) → In t more → In t tokens
    anew : (t : Token) → In t more → has_id at.shown.held t.id ≡ false
    all : (t : Token) → In t tokens → has_id at.shown.held t.id ≡ false → (u : Token) × In u more × (u.id ≡ t.id)
    one : (t u : Token) → In t more → In u more → t.id ≡ u.id → t ≡ u
    unused : (h : Held) → In h front → (h.in_use ≡ false) × (is_status h.token.kind ≡ true → h.tells ≡ true)
    sees : (fid : Fid) (part : Part) → seen_part after.shown fid part
        ≡ (if list_any (shows_it fid part) more then told part else seen_part at.shown fid part)
    lengths : (fid : Fid) → ((t : Token) → In t more → UpdatesStatus t fid → ⊥)
        → length_given after.lengths fid ≡ length_given at.lengths fid
    forgotten : (fid : Fid) (t : Token) → In t more → UpdatesStatus t fid → length_given after.lengths fid ≡ None
    still : (fid : Fid) → length_given at.lengths fid ≡ None → length_given after.lengths fid ≡ None
    unchanged : ((t : Token) → In t tokens → updates_status t.kind ≡ false) → after.lengths ≡ at.lengths

  took_none : (at : Taking) → TookSo at [] at
  took_none at = record {
    front = [];
    more = [];
    held = refl;
    taken = sym (append-nil at.taken);
    same = λ t. ((λ i. i), λ i. i);
    from = λ t i. elim i [ ];
    anew = λ t i. elim i [ ];
    all = λ t i. elim i [ ];
    one = λ t u i. elim i [ ];
    unused = λ h i. elim i [ ];
    sees = λ fid part. refl;
    lengths = λ fid none. refl;
    forgotten = λ fid t i. elim i [ ];
    still = λ fid e. e;
    unchanged = λ free. refl;
  }

  -- one that is held
  took_held : (at : Taking) (t : Token) → has_id at.shown.held t.id ≡ true → TookSo at (t ∷ []) at
  took_held at t has = record {
    front = [];
    more = [];
    held = refl;
    taken = sym (append-nil at.taken);
    same = λ t. ((λ i. i), λ i. i);
    from = λ t i. elim i [ ];
    anew = λ t i. elim i [ ];
    all = λ u i none. elim i [
      | inl e ↦ absurd (true_false (has_id at.shown.held t.id) has
          (ap (λ (x : Token). has_id at.shown.held x.id) (sym e) ∙ none))
      | inr n ↦ elim n [ ]
    ];
    one = λ t u i. elim i [ ];
    unused = λ h i. elim i [ ];
    sees = λ fid part. refl;
    lengths = λ fid none. refl;
    forgotten = λ fid t i. elim i [ ];
    still = λ fid e. e;
    unchanged = λ free. refl;
  }

  only : {A : Type 0} (x y : A) → In x (y ∷ []) → x ≡ y
  only x y i = elim i [ inl e ↦ e | inr n ↦ elim n [ ] ]

  -- one that isn't
  module _ (at : Taking) (t : Token) (some : is_status t.kind ≡ true → is_some status ≡ true)
      (none : has_id at.shown.held t.id ≡ false) where
    abbrev added : Taking
    added = record {
      shown = after_add at.shown t status pieces entries;
      lengths = without_length t at.lengths;
      taken = at.taken ++ t ∷ [];
    }

    abbrev new_held : Held
    new_held = record { token = t; in_use = false; tells = is_status t.kind && is_some status }

    abbrev other_file : Given → Bool
    other_file given = not (same_fid given.fid t.fid)

    abbrev of_file : Fid → Given → Bool
    of_file fid given = same_fid given.fid fid

    lengths_stay : (fid : Fid) → (UpdatesStatus t fid → ⊥) → (b : Bool) → updates_status t.kind ≡ b
        → length_given (if b then filter other_file at.lengths else at.lengths) fid ≡ length_given at.lengths fid
    lengths_stay fid free false e = refl
    lengths_stay fid free true e = find_kept (of_file fid) other_file (λ given same. elim (by_test (other_file given)) [
      | inl y ↦ y
      | inr f ↦ absurd (free (
        sym (same_fid_is given.fid t.fid (not_not (same_fid given.fid t.fid) f)) ∙ same_fid_is given.fid fid same,
        updates_kind t.kind e,
      ))
    ]) at.lengths
      where
        not_not : (b : Bool) → not b ≡ false → b ≡ true
        not_not true q = refl
        not_not false q = absurd (cc)

    lengths_go : (fid : Fid) → UpdatesStatus t fid → length_given (without_length t at.lengths) fid ≡ None
    lengths_go fid u =
        ap (λ (b : Bool). length_given (if b then filter other_file at.lengths else at.lengths) fid)
        (ap updates_status u.1)
        ∙ find_gone (of_file fid) other_file (λ given same other. not_true (same_fid given.fid t.fid) other
        (fid_same given.fid t.fid (same_fid_is given.fid fid same ∙ sym u.0))) at.lengths

    lengths_still : (fid : Fid) → length_given at.lengths fid ≡ None → (b : Bool)
        → length_given (if b then filter other_file at.lengths else at.lengths) fid ≡ None
    lengths_still fid e true = find_still (of_file fid) other_file at.lengths e
    lengths_still fid e false = e

    one_if : {A : Type 0} (b : Bool) (x y : A) → (if b then x else y) ≡ (if b || false then x else y)
    one_if true x y = refl
    one_if false x y = refl

    took_token : TookSo at (t ∷ []) added
    took_token = record {
      front = new_held ∷ [];
      more = t ∷ [];
      held = refl;
      taken = refl;
      same = λ u. ((λ i. i), λ i. i);
      from = λ u i. i;
      anew = λ u i. ap (λ (x : Token). has_id at.shown.held x.id) (only u t i) ∙ none;
      all = λ u i free. (u, i, refl);
      one = λ u v i j e. only u t i ∙ sym (only v t j);
      unused = λ h i.
          let e = only h new_held i in (
            ap (λ (x : Held). x.in_use) e,
            λ k.
                let status_is = ap (λ (x : Held). is_status x.token.kind) (sym e) ∙ k in
                ap (λ (x : Held). x.tells) e
                ∙ (both_told (is_status t.kind) (is_some status) some ∙ status_is),
          );
      sees = λ fid part. shown_added at.shown t some fid part
          ∙ one_if (shows_it fid part t) (told part) (seen_part at.shown fid part);
      lengths = λ fid free. lengths_stay fid (λ u. free t (inl refl) u) (updates_status t.kind) refl;
      forgotten = λ fid u i up. lengths_go fid (subst (λ (x : Token). UpdatesStatus x fid) (only u t i) up);
      still = λ fid e. lengths_still fid e (updates_status t.kind);
      unchanged = λ free. ap (λ (b : Bool). if b then filter other_file at.lengths else at.lengths) (free t (inl refl));
    }

  -- and those behind it
  module _ (at mid after : Taking) (t : Token) (ts : List Token) (first : TookSo at (t ∷ []) mid)
      (rest : TookSo mid ts after) where
    abbrev more_of : List Token
    more_of = first.more ++ rest.more

    abbrev front_of : List Held
    front_of = rest.front ++ first.front

    tokens_both : tokens_of front_of ≡ tokens_of rest.front ++ tokens_of first.front
    tokens_both = map-append (λ (h : Held). h.token) rest.front first.front

    -- what is held then: what was held, and the first
    mid_has : (h : Held) (id : TokenId) → In h first.front ⊎ In h at.shown.held → is_id id h ≡ true
        → has_id mid.shown.held id ≡ true
    mid_has h id i e =
        let within : In h (first.front ++ at.shown.held) = elim i [
          | inl j ↦ in_left first.front at.shown.held h j
          | inr j ↦ in_right first.front at.shown.held h j
        ] in
        any_in (is_id id) mid.shown.held h (subst (In h) (sym first.held) within) e

    mid_none : (id : TokenId) → has_id mid.shown.held id ≡ false → has_id at.shown.held id ≡ false
    mid_none id free = elim (by_test (has_id at.shown.held id)) [
      | inl has ↦
          let r = in_any (is_id id) at.shown.held has in
          absurd (true_false (has_id mid.shown.held id) (mid_has r.0 id (inr r.1) r.2) free)
      | inr f ↦ f
    ]

    first_held : (u : Token) → In u first.more → (id : TokenId) → u.id ≡ id → has_id mid.shown.held id ≡ true
    first_held u i id e =
        let h = in_map (λ (h : Held). h.token) first.front u ((first.same u).1 i) in
        mid_has h.0 id (inl h.1) (id_same h.0.token.id id (ap (λ (x : Token). x.id) (sym h.2) ∙ e))

    mid_found : (u : Token) → has_id at.shown.held u.id ≡ false → has_id mid.shown.held u.id ≡ true
        → (v : Token) × In v first.more × (v.id ≡ u.id)
    mid_found u free has =
        let r = in_any (is_id u.id) mid.shown.held has in
        elim (in_either first.front at.shown.held r.0 (subst (In r.0) first.held r.1)) [
          | inl i ↦ (
            r.0.token,
            (first.same r.0.token).0 (map_in (λ (h : Held). h.token) first.front r.0 i),
            same_id_is r.0.token.id u.id r.2,
          )
          | inr i ↦ absurd (true_false (has_id at.shown.held u.id) (any_in (is_id u.id) at.shown.held r.0 i r.2) free)
        ]

    apart : (u v : Token) → In u first.more → In v rest.more → u.id ≡ v.id → ⊥
    apart u v i j e = true_false (has_id mid.shown.held v.id) (first_held u i v.id e) (rest.anew v j)

    took_more : TookSo at (t ∷ ts) after
    took_more = record {
      front = front_of;
      more = more_of;
      held = rest.held ∙ (ap (λ (l : List Held). rest.front ++ l) first.held
          ∙ sym (append_assoc rest.front first.front at.shown.held));
      taken = rest.taken ∙ (ap (λ (l : List Token). l ++ rest.more) first.taken
          ∙ append_assoc at.taken first.more rest.more);
      same = λ u. (
        (λ i. elim (in_either (tokens_of rest.front) (tokens_of first.front) u (subst (In u) tokens_both i)) [
          | inl j ↦ in_right first.more rest.more u ((rest.same u).0 j)
          | inr j ↦ in_left first.more rest.more u ((first.same u).0 j)
        ]),
        λ i. subst (In u) (sym tokens_both) (elim (in_either first.more rest.more u i)
            as (λ x. In u (tokens_of rest.front ++ tokens_of first.front)) [
              | inl j ↦ in_right (tokens_of rest.front) (tokens_of first.front) u ((first.same u).1 j)
              | inr j ↦ in_left (tokens_of rest.front) (tokens_of first.front) u ((rest.same u).1 j)
            ]),
      );
      from = λ u i. elim (in_either first.more rest.more u i) [
        | inl j ↦ inl (only u t (first.from u j))
        | inr j ↦ inr (rest.from u j)
      ];
      anew = λ u i. elim (in_either first.more rest.more u i) [
        | inl j ↦ first.anew u j
        | inr j ↦ mid_none u.id (rest.anew u j)
      ];
      all = λ u i free. elim i [
        | inl e ↦ (let r = first.all u (inl e) free in (r.0, in_left first.more rest.more r.0 r.1, r.2))
        | inr j ↦ elim (by_test (has_id mid.shown.held u.id)) [
          | inl has ↦ (let r = mid_found u free has in (r.0, in_left first.more rest.more r.0 r.1, r.2))
          | inr f ↦ (let r = rest.all u j f in (r.0, in_right first.more rest.more r.0 r.1, r.2))
        ]
      ];
      one = λ u v i j e. elim (in_either first.more rest.more u i) [
        | inl a ↦ elim (in_either first.more rest.more v j) [
          | inl b ↦ first.one u v a b e
          | inr b ↦ absurd (apart u v a b e)
        ]
        | inr a ↦ elim (in_either first.more rest.more v j) [
          | inl b ↦ absurd (apart v u b a (sym e))
          | inr b ↦ rest.one u v a b e
        ]
      ];
      unused = λ h i. elim (in_either rest.front first.front h i) [
        | inl j ↦ rest.unused h j
        | inr j ↦ first.unused h j
      ];
      sees = λ fid part. rest.sees fid part
          ∙ (ap (λ (x : Seen part). if list_any (shows_it fid part) rest.more then told part else x)
          (first.sees fid part)
          ∙ (either_if (list_any (shows_it fid part) first.more) (list_any (shows_it fid part) rest.more) (told part)
          (seen_part at.shown fid part)
          ∙ ap (λ (b : Bool). if b then told part else seen_part at.shown fid part)
          (sym (any_append (shows_it fid part) first.more rest.more))));
      lengths = λ fid free. rest.lengths fid (λ u i. free u (in_right first.more rest.more u i))
          ∙ first.lengths fid (λ u i. free u (in_left first.more rest.more u i));
      forgotten = λ fid u i up. elim (in_either first.more rest.more u i) [
        | inl j ↦ rest.still fid (first.forgotten fid u j up)
        | inr j ↦ rest.forgotten fid u j up
      ];
      still = λ fid e. rest.still fid (first.still fid e);
      unchanged = λ free. rest.unchanged (λ u i. free u (inr i))
          ∙ first.unchanged (λ u i. free u (inl (only u t i)));
    }

-- what an answer tells
abbrev status_in : Option GrantOf → Option StatusOf
status_in None = None
status_in (Some g) = g.status

abbrev pieces_in : Option GrantOf → List Piece
pieces_in None = []
pieces_in (Some g) = g.pieces

abbrev entries_in : Option GrantOf → List DirEntry
entries_in None = []
entries_in (Some g) = g.entries

abbrev TookBy : Option GrantOf → Taking → List Token → Taking → Type 0
TookBy grant at tokens after = TookSo (status_in grant) (pieces_in grant) (entries_in grant) at tokens after

took_new : (grant : Option GrantOf) (at : Taking) (t : Token)
    → (is_status t.kind ≡ true → is_some (status_in grant) ≡ true) → has_id at.shown.held t.id ≡ false
    → TookBy grant at (t ∷ []) (taking_token grant at t)
took_new None at t some free = took_token None [] [] at t some free
took_new (Some g) at t some free = took_token g.status g.pieces g.entries at t some free

took_one : (grant : Option GrantOf) (at : Taking) (t : Token)
    → (is_status t.kind ≡ true → is_some (status_in grant) ≡ true) → TookBy grant at (t ∷ []) (taking_one grant at t)
took_one grant at t some = by_held (has_id at.shown.held t.id) refl
  where
    by_held : (b : Bool) → has_id at.shown.held t.id ≡ b
        → TookBy grant at (t ∷ []) (if b then at else taking_token grant at t)
    by_held true e = took_held (status_in grant) (pieces_in grant) (entries_in grant) at t e
    by_held false e = took_new grant at t some e

took_all : (grant : Option GrantOf) (tokens : List Token) (at : Taking)
    → ((t : Token) → In t tokens → is_status t.kind ≡ true → is_some (status_in grant) ≡ true)
    → TookBy grant at tokens (taking grant tokens at)
took_all grant [] at some = took_none (status_in grant) (pieces_in grant) (entries_in grant) at
took_all grant (t ∷ ts) at some =
    let mid = taking_one grant at t in
    took_more (status_in grant) (pieces_in grant) (entries_in grant) at mid (taking grant ts mid) t ts
    (took_one grant at t (some t (inl refl))) (took_all grant ts mid (λ u i. some u (inr i)))

-- # What is held by the steps, and by the tables
module _ (m : Tables) (past : List Step) (stands : CacheStands m.cache.held past) where
  unheld : (id : TokenId) → has_id m.cache.held id ≡ false → HoldsId past id → ⊥
  unheld id free h =
      let r = in_map (λ (x : Held). x.token) m.cache.held h.0 (stands.cached h.0 h.1) in
      true_false (has_id m.cache.held id) (any_in (is_id id) m.cache.held r.0 r.1
      (id_same r.0.token.id id (ap (λ (x : Token). x.id) (sym r.2) ∙ h.2))) free

  not_held : (id : TokenId) → (HoldsId past id → ⊥) → has_id m.cache.held id ≡ false
  not_held id free = elim (by_test (has_id m.cache.held id)) [
    | inl has ↦
        let r = in_any (is_id id) m.cache.held has in
        absurd (free (
          r.0.token,
          stands.held r.0.token (map_in (λ (x : Held). x.token) m.cache.held r.0 r.1),
          same_id_is r.0.token.id id r.2,
        ))
    | inr f ↦ f
  ]

-- the draft of a message that has taught nothing yet
abbrev from_nothing : Tables → Taking
from_nothing m = taking_from m no_draft

told_so : (g : GrantOf) (part : Part) → told g.status g.pieces g.entries part ≡ part_told g part
told_so g (ByteAt at) = told_is g.pieces at
told_so g Size = refl
told_so g Traits = refl
told_so g Entries = refl

-- behind what a file can have nothing is told
told_zero : (pieces : List Piece) (at : ℕ)
    → Each (λ (piece : Piece). piece.from + length piece.bytes ≤ FILE_BYTES_MAX) pieces → FILE_BYTES_MAX ≤ at
    → told_byte pieces at ≡ 0
told_zero [] at ends past = refl
told_zero (piece ∷ pieces) at ends past =
    let out : nat_lt at (piece.from + length piece.bytes) ≡ false =
    le-ltb at (piece.from + length piece.bytes) (let e = ends.0 in omega (arith, e, past)) in
    ap (λ (b : Bool). if nat_le piece.from at && b then byte_at piece.bytes (at - piece.from) else told_byte pieces at)
    out ∙ (none (nat_le piece.from at) ∙ told_zero pieces at ends.1 past)
  where
    none : (b : Bool) → (if b && false then byte_at piece.bytes (at - piece.from) else told_byte pieces at)
        ≡ told_byte pieces at
    none true = refl
    none false = refl

-- # A Grant
module _ (m new : Tables) (past : List Step) (stands : CacheStands m.cache.held past) (roster : Roster)
    (message : Message) (g : GrantOf) (sound : IsSound roster message) (b : message.body ≡ Grant g) (after : Draft)
    (has : HasTaken (with_floor_by g.bring (record m { request = None })) no_draft
    (taking (Some g) g.bring.tokens (from_nothing m)) new after)
  where
    grant_is : IsGrant message g
    grant_is = subst (IsBody roster message) b sound.body

    some_told : (t : Token) → In t g.bring.tokens → is_status t.kind ≡ true → is_some g.status ≡ true
    some_told t i e = by_status g.status refl
      where
        by_status : (o : Option StatusOf) → g.status ≡ o → is_some o ≡ true
        by_status None n = absurd (none_in g.bring.tokens (grant_is.absent n) t i)
        by_status (Some s) n = refl

    abbrev grant_took : TookBy (Some g) (from_nothing m) g.bring.tokens
        (taking (Some g) g.bring.tokens (from_nothing m))
    grant_took = took_all (Some g) g.bring.tokens (from_nothing m) some_told

    took_taken : after.taken ≡ grant_took.more
    took_taken = ap (λ (d : Draft). d.taken) has.draft_is ∙ grant_took.taken

    brings_more : BringsAnew past g grant_took.more
    brings_more = record {
      file = λ t i. (of_each (IsBrought message g.bring.fid) g.bring.tokens grant_is.brings.tokens t i).file;
      zero = λ at far. sym (told_is g.pieces at) ∙ told_zero g.pieces at grant_is.told.bytes.ends far;
      from = grant_took.from;
      anew = λ t i. unheld m past stands t.id (grant_took.anew t i);
      all = λ t i free. grant_took.all t i (not_held m past stands t.id free);
      one = grant_took.one;
    }

    module _ (server : ServerId) (epoch moves : ℕ) where
      after_more : AfterGrant m new g grant_took.more past (grants m.host server epoch moves g grant_took.more)
      after_more = record {
        host = ap (λ (x : Tables). x.host) has.tables;
        user = ap (λ (x : Tables). x.user) has.tables;
        limit = ap (λ (x : Tables). x.limit) has.tables;
        held = grant_took.front;
        front = ap (λ (s : Shown). s.held) has.shown ∙ grant_took.held;
        taken_is = grant_took.same;
        unused = grant_took.unused;
        content_is = λ fid part. content_is new.cache fid part
            ∙ (ap (λ (s : Shown). seen_part s fid part) has.shown
            ∙ (grant_took.sees fid part
            ∙ (ap (λ (x : Seen part). if list_any (shows_it fid part) grant_took.more then x
            else seen_part (seen m.cache) fid part) (told_so g part)
            ∙ ap (λ (x : Seen part). if list_any (shows_it fid part) grant_took.more then part_told g part else x)
            (sym (content_is m.cache fid part)))));
        dirty = ap (λ (x : Tables). x.dirty) has.tables;
        lengths = λ fid free. ap (λ (x : Tables). length_given x.lengths fid) has.tables
            ∙ grant_took.lengths fid (λ t i u. free (t, i, u));
        forgotten = λ fid t. ap (λ (x : Tables). length_given x.lengths fid) has.tables
            ∙ grant_took.forgotten fid t.0 t.1 t.2;
        uses = ap (λ (x : Tables). x.uses) has.tables;
        gives = ap (λ (x : Tables). x.gives) has.tables;
        leaving = ap (λ (x : Tables). x.leaving) has.tables;
        ending = ap (λ (x : Tables). x.ending) has.tables;
        floors = λ fid. ap (λ (x : Tables). floor_of x.floors fid) has.tables
            ∙ reads_after.floors m.floors (floor_by g.bring) fid;
        sites = ap (λ (x : Tables). x.sites) has.tables;
        request = ap (λ (x : Tables). x.request) has.tables;
        fetched = ap (λ (x : Tables). x.fetched) has.tables;
        changed = ap (λ (x : Tables). x.changed) has.tables;
        homes = ap (λ (x : Tables). x.homes) has.tables;
        call = ap (λ (x : Tables). x.call) has.tables;
        lost = ap (λ (x : Tables). x.lost) has.tables;
        begun = ap (λ (x : Tables). x.begun) has.tables;
      }

      pub grant_after : AfterGrant m new g after.taken past (grants m.host server epoch moves g after.taken)
      grant_after = subst (λ (l : List Token). AfterGrant m new g l past (grants m.host server epoch moves g l))
          (sym took_taken) after_more

    pub grant_brings : BringsAnew past g after.taken
    grant_brings = subst (BringsAnew past g) (sym took_taken) brings_more

-- # A Done
-- what a Done tells changes free more than the homes, the request and the call
told_rest : (o : DoneIs) (m : Tables)
    → told_by o m ≡ record m { homes = (told_by o m).homes; request = None; call = call_after o m.call }
told_rest (Known id) m = refl
told_rest (HasReply reply) m = refl
told_rest _ m = refl

no_status_use : (k : Kind) → IsUseKind k → is_status k ≡ false
no_status_use (Lock writing span) u = refl
no_status_use (Opening kind) u = refl
no_status_use (Bytes update span) u = elim u [ ]
no_status_use (Status update) u = elim u [ ]

no_update_use : (k : Kind) → IsUseKind k → k ≡ Status true → ⊥
no_update_use (Lock writing span) u e = absurd (cc)
no_update_use (Opening kind) u e = absurd (cc)
no_update_use (Bytes update span) u e = elim u [ ]
no_update_use (Status update) u e = elim u [ ]

no_shows_use : (k : Kind) (part : Part) → IsUseKind k → shows k part ≡ false
no_shows_use (Lock writing span) part u = refl
no_shows_use (Opening kind) part u = refl
no_shows_use (Bytes update span) part u = elim u [ ]
no_shows_use (Status update) part u = elim u [ ]

module _ (m new : Tables) (past : List Step) (stands : CacheStands m.cache.held past) (roster : Roster)
    (message : Message) (d : DoneOf) (sound : IsSound roster message) (b : message.body ≡ Done d)
    (uses : BringsUses d.bring) (after : Draft)
    (has : HasTaken (with_floor_by d.bring (told_by d.outcome m)) no_draft
    (taking None d.bring.tokens (taking_from (told_by d.outcome m) no_draft)) new after)
  where
    done_is : IsDone roster message d
    done_is = subst (IsBody roster message) b sound.body

    abbrev told_tables : Tables
    told_tables = record m {
      homes = (told_by d.outcome m).homes;
      request = None;
      call = call_after d.outcome m.call;
    }

    has_so : HasTaken (with_floor_by d.bring told_tables) no_draft (taking None d.bring.tokens (from_nothing m)) new
        after
    has_so = subst (λ (x : Tables). HasTaken (with_floor_by d.bring x) no_draft
        (taking None d.bring.tokens (taking_from x no_draft)) new after) (told_rest d.outcome m) has

    abbrev done_took : TookBy None (from_nothing m) d.bring.tokens (taking None d.bring.tokens (from_nothing m))
    done_took = took_all None d.bring.tokens (from_nothing m) (λ t i e.
        absurd (true_false (is_status t.kind) e (no_status_use t.kind (uses t i))))

    done_taken : after.taken ≡ done_took.more
    done_taken = ap (λ (d : Draft). d.taken) has_so.draft_is ∙ done_took.taken

    done_more : TakesAnew past d.bring done_took.more
    done_more = record {
      file = λ t i. (of_each (IsBrought message d.bring.fid) d.bring.tokens done_is.brings.tokens t i).file;
      from = done_took.from;
      anew = λ t i. unheld m past stands t.id (done_took.anew t i);
      all = λ t i free. done_took.all t i (not_held m past stands t.id free);
      one = done_took.one;
    }

    none_shows : (fid : Fid) (part : Part) → list_any (shows_it fid part) done_took.more ≡ false
    none_shows fid part = elim (by_test (list_any (shows_it fid part) done_took.more)) [
      | inl t ↦
          let r = in_any (shows_it fid part) done_took.more t in
          let p = and_parts (same_fid r.0.fid fid) (shows r.0.kind part) r.2 in
          absurd (true_false (shows r.0.kind part) p.1
          (no_shows_use r.0.kind part (uses r.0 (done_took.from r.0 r.1))))
      | inr f ↦ f
    ]

    after_done : AfterDone m new d done_took.more
    after_done = record {
      host = ap (λ (x : Tables). x.host) has_so.tables;
      user = ap (λ (x : Tables). x.user) has_so.tables;
      limit = ap (λ (x : Tables). x.limit) has_so.tables;
      held = done_took.front;
      front = ap (λ (s : Shown). s.held) has_so.shown ∙ done_took.held;
      taken_is = done_took.same;
      unused = λ h i. (done_took.unused h i).0;
      content_is = λ fid part. content_is new.cache fid part
          ∙ (ap (λ (s : Shown). seen_part s fid part) has_so.shown
          ∙ (done_took.sees fid part
          ∙ (ap (λ (x : Bool). if x then told None [] [] part else seen_part (seen m.cache) fid part)
          (none_shows fid part)
          ∙ sym (content_is m.cache fid part))));
      dirty = ap (λ (x : Tables). x.dirty) has_so.tables;
      lengths = ap (λ (x : Tables). x.lengths) has_so.tables ∙ done_took.unchanged (λ t i.
          elim (by_test (updates_status t.kind)) [
            | inl u ↦ absurd (no_update_use t.kind (uses t i) (updates_kind t.kind u))
            | inr f ↦ f
          ]);
      uses = ap (λ (x : Tables). x.uses) has_so.tables;
      gives = ap (λ (x : Tables). x.gives) has_so.tables;
      leaving = ap (λ (x : Tables). x.leaving) has_so.tables;
      ending = ap (λ (x : Tables). x.ending) has_so.tables;
      floors = λ fid. ap (λ (x : Tables). floor_of x.floors fid) has_so.tables
          ∙ reads_after.floors m.floors (floor_by d.bring) fid;
      sites = ap (λ (x : Tables). x.sites) has_so.tables;
      request = ap (λ (x : Tables). x.request) has_so.tables;
      fetched = ap (λ (x : Tables). x.fetched) has_so.tables;
      changed = ap (λ (x : Tables). x.changed) has_so.tables;
      call = ap (λ (x : Tables). x.call) has_so.tables;
      lost = ap (λ (x : Tables). x.lost) has_so.tables;
      begun = ap (λ (x : Tables). x.begun) has_so.tables;
    }

    pub done_after : AfterDone m new d after.taken
    done_after = subst (AfterDone m new d) (sym done_taken) after_done

    pub done_takes : TakesAnew past d.bring after.taken
    done_takes = subst (TakesAnew past d.bring) (sym done_taken) done_more
