-- The cache drops a token as the rules see it.
use Rattle.base_types.specs.Ids.{same_fid}
use Rattle.base_types.specs.declared.ids.Fid.{Fid}
use Rattle.base_types.specs.declared.limits.TheConstants.{FILE_BYTES_MAX}
use Rattle.host_cache.specs.Holding.{is_id, is_status, kind_has_byte, shows_byte, tells_of, tokens_of, without_id}
use Rattle.host_cache.specs.Seen.{Kept, Seen, after_drop, seen, shows, tells}
use Rattle.host_cache.specs.declared.held.Held.{Held}
use Rattle.host_tables.proofs.Lists.{any_in, in_any, in_filter, in_map}
use Rattle.host_tables.specs.Dropping.{DropsAlike}
use Rattle.host_tables.specs.Evicting.{IsWithout}
use Rattle.host_tables.specs.Tables.{content, is_shown_by}
use Rattle.need_host.specs.Shows.{shows as kind_shows}
use Rattle.run_rules.specs.Past.{In}
use Rattle.run_rules.specs.Views.{nature_told}
use Rattle.std.proofs.Common.{Bool, None, Option, [], ap, if◌then◌else◌, map, not, refl, subst, sym, true, unwrap_or}
use Rattle.std.proofs.Common.{ℕ, ◌&&◌, ◌∙◌, ◌≡◌, ◌≤◌}
use Rattle.std.specs.Option.{option_map, option_map_or}
use Rattle.std.specs.Prelude.{false}
use Rattle.token_types.specs.Conflicts.{need_of}
use Rattle.token_types.specs.declared.token.Kind.{Kind}
use Rattle.token_types.specs.declared.token.Kind.TheVariants.{Bytes, Lock as LockKind, Opening, Status as StatusKind}
use Rattle.token_types.specs.declared.token.Need.{Need}
use Rattle.token_types.specs.declared.token.Token.{Token}
use Rattle.token_types.specs.declared.token.TokenId.{TokenId}
use Rattle.tree_laws.specs.Parts.{Part}
use Rattle.tree_laws.specs.Parts.Part.{ByteAt, Entries, Size, Traits}

both : (a b : Bool) → (a && b) ≡ true → (a ≡ true) × (b ≡ true)
both true b e = (refl, e)
both false b e = absurd (cc)

and_both : (a b : Bool) → a ≡ true → b ≡ true → (a && b) ≡ true
and_both true b e f = f
and_both false b e f = absurd (cc)

byte_if : (b : Bool) (x : Option ℕ) → unwrap_or x 0 ≡ 0 → unwrap_or (if b then x else None) 0 ≡ unwrap_or x 0
byte_if true x e = refl
byte_if false x e = sym e

module _ (old new : Kept) (id : TokenId) (told : seen new ≡ after_drop (seen old) id)
    (status_tells : (h : Held) → In h old.held → is_status h.token.kind ≡ true → h.tells ≡ true)
    (zero_beyond : (fid : Fid) (at : ℕ) → FILE_BYTES_MAX ≤ at → content old fid (ByteAt at) ≡ 0) where
  held : new.held ≡ without_id id old.held
  held = ap (λ (x : Seen). x.held) told

  -- a token that shows the part
  shower : (fid : Fid) (part : Part) → is_shown_by (tokens_of new.held) fid part ≡ true
      → (h : Held) × In h (without_id id old.held) × (same_fid h.token.fid fid ≡ true)
      × (kind_shows h.token.kind part ≡ true)
  shower fid part e =
      let r = in_any (λ (n : Need). same_fid n.fid fid && kind_shows n.kind part) (map need_of (tokens_of new.held))
      e in
      let x = in_map need_of (tokens_of new.held) r.0 r.1 in
      let y = in_map (λ (h : Held). h.token) new.held x.0 x.1 in
      let p : (same_fid y.0.token.fid fid && kind_shows y.0.token.kind part) ≡ true =
      ap (λ (t : Token). same_fid t.fid fid && kind_shows t.kind part) (sym y.2)
      ∙ (ap (λ (n : Need). same_fid n.fid fid && kind_shows n.kind part) (sym x.2) ∙ r.2) in
      let q = both (same_fid y.0.token.fid fid) (kind_shows y.0.token.kind part) p in
      (y.0, subst (In y.0) held y.1, q.0, q.1)

  told_there : (fid : Fid) (h : Held) → In h (without_id id old.held) → same_fid h.token.fid fid ≡ true
      → is_status h.token.kind ≡ true → tells (without_id id old.held) fid ≡ true
  told_there fid h i s k =
      any_in (tells_of fid) (without_id id old.held) h i
      (and_both (same_fid h.token.fid fid) h.tells s
      (status_tells h (in_filter (λ (x : Held). not (is_id id x)) old.held h i).0 k))

  byte_there : (fid : Fid) (at : ℕ) (h : Held) → In h (without_id id old.held) → same_fid h.token.fid fid ≡ true
      → kind_has_byte at h.token.kind ≡ true → shows (without_id id old.held) fid at ≡ true
  byte_there fid at h i s k = any_in (shows_byte fid at) (without_id id old.held) h i
      (and_both (same_fid h.token.fid fid) (kind_has_byte at h.token.kind) s k)

  status_kind : (k : Kind) → kind_shows k Size ≡ true → is_status k ≡ true
  status_kind (Bytes update span) e = absurd (cc)
  status_kind (StatusKind update) e = refl
  status_kind (LockKind writing span) e = absurd (cc)
  status_kind (Opening kind) e = absurd (cc)

  traits_kind : (k : Kind) → kind_shows k Traits ≡ true → is_status k ≡ true
  traits_kind (Bytes update span) e = absurd (cc)
  traits_kind (StatusKind update) e = refl
  traits_kind (LockKind writing span) e = absurd (cc)
  traits_kind (Opening kind) e = absurd (cc)

  byte_kind : (k : Kind) (at : ℕ) → kind_shows k (ByteAt at) ≡ true → kind_has_byte at k ≡ true
  byte_kind (Bytes update span) at e = e
  byte_kind (StatusKind update) at e = absurd (cc)
  byte_kind (LockKind writing span) at e = absurd (cc)
  byte_kind (Opening kind) at e = absurd (cc)

  entries_kind : (k : Kind) → kind_shows k Entries ≡ true → kind_has_byte 0 k ≡ true
  entries_kind (Bytes update span) e = e
  entries_kind (StatusKind update) e = absurd (cc)
  entries_kind (LockKind writing span) e = absurd (cc)
  entries_kind (Opening kind) e = absurd (cc)

  same_content : (fid : Fid) (part : Part) → is_shown_by (tokens_of new.held) fid part ≡ true → content new fid part
      ≡ content old fid part
  same_content fid (ByteAt at) e =
      let r = shower fid (ByteAt at) e in
      ap (λ (x : Seen). unwrap_or (x.bytes fid at) 0) told
      ∙ ap (λ (b : Bool). unwrap_or (if b then (seen old).bytes fid at else None) 0)
      (byte_there fid at r.0 r.1 r.2 (byte_kind r.0.token.kind at r.3))
  same_content fid Size e =
      let r = shower fid Size e in
      ap (λ (x : Seen). option_map_or (λ status. status.length) (x.status fid) 0) told
      ∙ ap (λ (b : Bool). option_map_or (λ status. status.length) (if b then (seen old).status fid else None) 0)
      (told_there fid r.0 r.1 r.2 (status_kind r.0.token.kind r.3))
  same_content fid Traits e =
      let r = shower fid Traits e in
      ap (λ (x : Seen). option_map nature_told (x.status fid)) told
      ∙ ap (λ (b : Bool). option_map nature_told (if b then (seen old).status fid else None))
      (told_there fid r.0 r.1 r.2 (traits_kind r.0.token.kind r.3))
  same_content fid Entries e =
      let r = shower fid Entries e in
      ap (λ (x : Seen). x.entries fid) told
      ∙ ap (λ (b : Bool). if b then (seen old).entries fid else [])
      (byte_there fid 0 r.0 r.1 r.2 (entries_kind r.0.token.kind r.3))

  pub without : IsWithout old new id
  without = record {
    held = held;
    content_is = same_content;
    beyond = λ fid at far. ap (λ (x : Seen). unwrap_or (x.bytes fid at) 0) told
        ∙ byte_if (shows (without_id id old.held) fid at) ((seen old).bytes fid at) (zero_beyond fid at far);
  }

pub drops_alike : DropsAlike
drops_alike old new id told status_tells zero_beyond = without old new id told status_tells zero_beyond
