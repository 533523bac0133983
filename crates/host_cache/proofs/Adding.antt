-- A token that is added, and what is told under it.
use Rattle.std.proofs.Common.{◌≡◌, ◌≤◌, ℕ, Bool, true, false, not, cond, ◌&&◌, ◌||◌, List, [], ◌∷◌, ◌++◌}
use Rattle.std.proofs.Common.{length, Option, Some, None, refl, sym, ap}
use Rattle.std.proofs.Common.{◌∙◌, subst, arith, if◌then◌else◌, is_some, append_assoc, option_copied, Bor}
use Rattle.std.specs.List.{filter, list_any}
use Rattle.std.specs.Option.{option_map_or}
use Rattle.base_types.specs.Image.{byte_at}
use Rattle.base_types.specs.Ids.{same_fid}
use Rattle.base_types.specs.declared.ids.Fid.{Fid}
use Rattle.tree_calls.specs.declared.part.DirEntry.{DirEntry}
use Rattle.tree_calls.specs.declared.part.Piece.{Piece}
use Rattle.tree_calls.specs.declared.part.Status.{Status as StatusOf}
use Rattle.token_types.specs.declared.token.Token.{Token}
use Rattle.host_cache.specs.declared.held.Held.{Held}
use Rattle.host_cache.specs.Bytes.{told_byte}
use Rattle.host_cache.specs.Holding.{is_id, has_id, without_id, tokens_of, tells_at, kind_has_byte, is_status, IsOnce}
use Rattle.host_cache.specs.Files.{FileKey, file_key, same_key, parts_at, HasRoom, Grows, Learns, IsRoomy}
use Rattle.host_cache.specs.Parts.{Parts}
use Rattle.host_cache.specs.Seen.{seen, tells, shows, after_add, of_key, IsKept}
use Rattle.host_cache.proofs.Filing.{key_same, grows_itself, learns_roomy}
use Rattle.host_cache.proofs.Lists.{found_between, any-map}
use Rattle.host_cache.proofs.Seeing.{Files, kept, seen_is, grown}
use Rattle.host_cache.proofs.Using.{is_itself, alone}

-- the status that counts under a token
abbrev told_of : Bool → Option StatusOf → Option StatusOf
told_of status told = if status then told else None

pub told_tells : (b : Bool) (s : Option StatusOf) → is_some (told_of b s) ≡ (b && is_some s)
told_tells true s = refl
told_tells false s = refl

status_told : (b t : Bool) (s raw : Option StatusOf) →
    (if is_some (told_of b s) || t then (if is_some (told_of b s) then told_of b s else raw) else None)
    ≡ (if b && is_some s then s else if t then raw else None)
status_told true true None raw = refl
status_told true false None raw = refl
status_told true t (Some s) raw = refl
status_told false true s raw = refl
status_told false false s raw = refl

under_told : {A : Type 0} (k t : Bool) (new old none : A) →
    (if k || t then (if k then new else old) else none) ≡ (if k then new else if t then old else none)
under_told true t new old none = refl
under_told false t new old none = refl

some_told : (k t : Bool) (new old : ℕ) →
    (if k || t then Some (if k then new else old) else None) ≡ (if k then Some new else if t then Some old else None)
some_told true t new old = refl
some_told false t new old = refl

neither : (a b : Bool) → (a || b) ≡ false → (a ≡ false) × (b ≡ false)
neither true b e = absurd (grind (arith, e))
neither false b e = (refl, e)

-- the token that is added
abbrev pub new_held : Token → Option StatusOf → Held
new_held token status =
    record { token = token; in_use = false; tells = is_some (told_of (is_status token.kind) status) }

module _ (held : List Held) (files files' : Files) (inv : IsKept held files) (token : Token) (status : Option StatusOf)
    (pieces : List Piece) (names : List DirEntry)
    (own : Learns token (told_of (is_status token.kind) status) pieces names (parts_at files (file_key token.fid))
    (parts_at files' (file_key token.fid)))
    (others : (key : FileKey) → same_key (file_key token.fid) key ≡ false → parts_at files' key ≡ parts_at files key)
    (fits : HasRoom token.kind (parts_at files (file_key token.fid)).bytes) where
  abbrev told : Option StatusOf
  told = told_of (is_status token.kind) status

  pub added_kept : IsKept (new_held token status ∷ held) files'
  added_kept = record {
    tokens = λ key. elim (same_key (file_key token.fid) key) as (λ b. same_key (file_key token.fid) key ≡ b →
        (parts_at files' key).tokens ≡ tokens_of (cond b (new_held token status ∷ of_key key held) (of_key key held))) [
          | true ↦ λ e. let k = key_same (file_key token.fid) key e in
              ap (λ (q : FileKey). (parts_at files' q).tokens) (sym k) ∙ own.tokens
              ∙ ap (λ (ts : List Token). token ∷ ts) (inv.tokens (file_key token.fid))
              ∙ ap (λ (q : FileKey). token ∷ tokens_of (of_key q held)) k
          | false ↦ λ e. ap (λ (p : Parts). p.tokens) (others key e) ∙ inv.tokens key
        ] refl;
    room = λ key. elim (same_key (file_key token.fid) key) as (λ b. same_key (file_key token.fid) key ≡ b →
        IsRoomy (parts_at files' key)) [
          | true ↦ λ e. subst (λ q. IsRoomy (parts_at files' q)) (key_same (file_key token.fid) key e)
              (learns_roomy (parts_at files (file_key token.fid)) (parts_at files' (file_key token.fid)) token told
              pieces names own fits (inv.room (file_key token.fid)))
          | false ↦ λ e. subst IsRoomy (sym (others key e)) (inv.room key)
        ] refl;
    told = λ fid. elim (same_fid token.fid fid) as (λ b. same_fid token.fid fid ≡ b →
        ((b && is_some told) || tells held fid) ≡ false → (parts_at files' (file_key fid)).status ≡ None) [
          | true ↦ λ e none. let k = key_same (file_key token.fid) (file_key fid) e in
              let apart = neither (is_some told) (tells held fid) none in
              ap (λ (q : FileKey). (parts_at files' q).status) (sym k) ∙ own.status
              ∙ ap (λ b. if b then told else (parts_at files (file_key token.fid)).status) apart.0
              ∙ ap (λ (q : FileKey). (parts_at files q).status) k ∙ inv.told fid apart.1
          | false ↦ λ e none. ap (λ (p : Parts). p.status) (others (file_key fid) e) ∙ inv.told fid none
        ] refl;
  }

  added_status : (fid : Fid) → (seen (kept (new_held token status ∷ held) files')).status fid
      ≡ (after_add (seen (kept held files)) token status pieces names).status fid
  added_status fid = elim (same_fid token.fid fid) as (λ b. same_fid token.fid fid ≡ b →
      (if (b && is_some told) || tells held fid then (parts_at files' (file_key fid)).status else None)
      ≡ (if b && (is_status token.kind && is_some status) then status
      else if tells held fid then (parts_at files (file_key fid)).status else None)) [
        | true ↦ λ e. let k = key_same (file_key token.fid) (file_key fid) e in
            ap (λ (q : FileKey). if is_some told || tells held fid then (parts_at files' q).status else None) (sym k)
            ∙ ap (λ s. if is_some told || tells held fid then s else None) own.status
            ∙ ap (λ (q : FileKey). if is_some told || tells held fid then (if is_some told then told
            else (parts_at files q).status) else None) k
            ∙ status_told (is_status token.kind) (tells held fid) status (parts_at files (file_key fid)).status
        | false ↦ λ e. ap (λ (p : Parts). if tells held fid then p.status else None) (others (file_key fid) e)
      ] refl

  added_entries : (fid : Fid) → (seen (kept (new_held token status ∷ held) files')).entries fid
      ≡ (after_add (seen (kept held files)) token status pieces names).entries fid
  added_entries fid = elim (same_fid token.fid fid) as (λ b. same_fid token.fid fid ≡ b →
      (if (b && kind_has_byte 0 token.kind) || shows held fid 0 then (parts_at files' (file_key fid)).entries else [])
      ≡ (if b && kind_has_byte 0 token.kind then names
      else if shows held fid 0 then (parts_at files (file_key fid)).entries else [])) [
        | true ↦ λ e. let k = key_same (file_key token.fid) (file_key fid) e in
            let has = kind_has_byte 0 token.kind in
            ap (λ (q : FileKey). if has || shows held fid 0 then (parts_at files' q).entries else []) (sym k)
            ∙ ap (λ es. if has || shows held fid 0 then es else []) own.entries
            ∙ ap (λ (q : FileKey). if has || shows held fid 0 then (if has then names
            else (parts_at files q).entries) else []) k
            ∙ under_told has (shows held fid 0) names (parts_at files (file_key fid)).entries []
        | false ↦ λ e. ap (λ (p : Parts). if shows held fid 0 then p.entries else []) (others (file_key fid) e)
      ] refl

  added_bytes : (fid : Fid) (at : ℕ) → (seen (kept (new_held token status ∷ held) files')).bytes fid at
      ≡ (after_add (seen (kept held files)) token status pieces names).bytes fid at
  added_bytes fid at = elim (same_fid token.fid fid) as (λ b. same_fid token.fid fid ≡ b →
      (if (b && kind_has_byte at token.kind) || shows held fid at then Some (byte_at (parts_at files' (file_key
      fid)).bytes at)
      else None)
      ≡ (if b && kind_has_byte at token.kind then Some (told_byte pieces at)
      else if shows held fid at then Some (byte_at (parts_at files (file_key fid)).bytes at) else None)) [
        | true ↦ λ e. let k = key_same (file_key token.fid) (file_key fid) e in
            let has = kind_has_byte at token.kind in
            ap (λ (q : FileKey). if has || shows held fid at then Some (byte_at (parts_at files' q).bytes at) else None)
            (sym k)
            ∙ ap (λ (n : ℕ). if has || shows held fid at then Some n else None) (own.bytes at)
            ∙ ap (λ (q : FileKey). if has || shows held fid at then Some (if has then told_byte pieces at
            else byte_at (parts_at files q).bytes at) else None) k
            ∙ some_told has (shows held fid at) (told_byte pieces at) (byte_at (parts_at files (file_key fid)).bytes at)
        | false ↦ λ e. ap (λ (p : Parts). if shows held fid at then Some (byte_at p.bytes at) else None)
            (others (file_key fid) e)
      ] refl

  pub added_seen : seen (kept (new_held token status ∷ held) files') ≡ after_add (seen (kept held files)) token
      status pieces names
  added_seen =
      seen_is (seen (kept (new_held token status ∷ held) files')) (after_add (seen (kept held files)) token status
      pieces names)
      (λ i. record { token = token; in_use = false; tells = told_tells (is_status token.kind) status i } ∷ held)
      added_status added_entries added_bytes

-- ---- which tokens came with a status
module _ (q : Held → Bool) where
  told_from : (pre rest : List Held) → IsOnce (pre ++ rest) →
      list_any (λ h. tells_at (pre ++ rest) h.token.id) (filter q rest) ≡ list_any (λ h. q h && h.tells) rest
  told_from pre [] once = refl
  told_from pre (h ∷ rest) once =
      let moved : (pre ++ h ∷ []) ++ rest ≡ pre ++ h ∷ rest = append_assoc pre (h ∷ []) rest in
      let later : list_any (λ x. tells_at (pre ++ h ∷ rest) x.token.id) (filter q rest)
      ≡ list_any (λ x. q x && x.tells) rest =
      ap (λ hs. list_any (λ x. tells_at hs x.token.id) (filter q rest)) (sym moved)
      ∙ told_from (pre ++ h ∷ []) rest (subst IsOnce (sym moved) once) in
      let none = alone_here pre h rest (once h.token.id) in
      let here : tells_at (pre ++ h ∷ rest) h.token.id ≡ h.tells =
      ap (λ o. option_map_or (λ x. x.tells) o false)
      (found_between (is_id h.token.id) pre h rest (is_itself h) none) in
      elim (q h) as (λ b. list_any (λ x. tells_at (pre ++ h ∷ rest) x.token.id) (cond b (h ∷
      filter q rest) (filter q rest))
      ≡ ((b && h.tells) || list_any (λ x. q x && x.tells) rest)) [
        | true ↦ λ i. here i || later i
        | false ↦ later
      ]
    where
      alone_here : (pre : List Held) (h : Held) (rest : List Held) →
          length (filter (is_id h.token.id) (pre ++ h ∷ rest)) ≤ 1 → length (filter (is_id h.token.id) pre) ≡ 0
      alone_here pre h rest once = (alone pre h rest once).0

pub tells_is : (held : List Held) (fid : Fid) → IsOnce held →
    list_any (λ (t : Token). tells_at held t.id) (tokens_of (of_key (file_key fid) held)) ≡ tells held fid
tells_is held fid once =
    any-map (λ (t : Token). tells_at held t.id) (λ (h : Held). h.token) (of_key (file_key fid) held)
    ∙ told_from (λ h. same_key (file_key h.token.fid) (file_key fid)) [] held once

-- a token that wasn't there, put first and taken out again
pub taken_again : (held : List Held) (h : Held) → has_id held h.token.id ≡ false → without_id h.token.id (h ∷
    held) ≡ held
taken_again held h new =
    ap (λ b. cond (not b) (h ∷ without_id h.token.id held) (without_id h.token.id held)) (is_itself h)
    ∙ unchanged held new
  where
    unchanged : (hs : List Held) → has_id hs h.token.id ≡ false → without_id h.token.id hs ≡ hs
    unchanged [] e = refl
    unchanged (x ∷ hs) e =
        (elim (is_id h.token.id x) as (λ b. (b || has_id hs h.token.id) ≡ false →
        cond (not b) (x ∷ without_id h.token.id hs) (without_id h.token.id hs) ≡ x ∷ hs) [
          | true ↦ λ k. absurd (grind (arith, k))
          | false ↦ λ k. ap (λ l. x ∷ l) (unchanged hs k)
        ]) e

pub some_copied : {A : Type 0} (o : Option (Bor A)) → is_some o ≡ is_some (option_copied o)
some_copied None = refl
some_copied (Some x) = refl

-- files of which the same is kept
pub kept_same : (held : List Held) (files files' : Files) → IsKept held files →
    ((key : FileKey) → parts_at files' key ≡ parts_at files key) →
    IsKept held files' × (seen (kept held files') ≡ seen (kept held files))
kept_same held files files' inv same =
    grown held files files' inv
    (λ key. subst (λ p. Grows (parts_at files key) p) (sym (same key)) (grows_itself (parts_at files key)))

pub order_is : (token : Token) (status : Option StatusOf) (held after : List Held) (told : Option (Bor StatusOf))
    (tells : Bool) →
    tells ≡ is_some told → option_copied told ≡ told_of (is_status token.kind) status →
    after ≡ record { token = token; in_use = false; tells = tells } ∷ held → after ≡ new_held token status ∷ held
order_is token status held after told tells some is pushed =
    let tell : tells ≡ is_some (told_of (is_status token.kind) status) = some ∙ some_copied told
    ∙ ap (λ o. is_some o) is in
    pushed ∙ (λ i. record { token = token; in_use = false; tells = tell i } ∷ held)
