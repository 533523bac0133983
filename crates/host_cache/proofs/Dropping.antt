-- A token that is dropped.
use Rattle.std.proofs.Common.{◌≡◌, ◌≤◌, ◌<◌, ℕ, suc, Bool, true, false, not, cond, ◌||◌, List}
use Rattle.std.proofs.Common.{[], ◌∷◌, length, Some, None, refl, sym, ap, ◌∙◌, arith, if◌then◌else◌, inl, inr}
use Rattle.std.specs.List.{filter, find, list_any}
use Rattle.std.proofs.lemmas.Bool.{and_parts, or_cases}
use Rattle.base_types.specs.Image.{byte_at}
use Rattle.base_types.specs.Ids.{same_fid}
use Rattle.base_types.specs.declared.ids.Fid.{Fid}
use Rattle.token_types.specs.Conflicts.{same_id}
use Rattle.token_types.specs.declared.token.Token.{Token}
use Rattle.token_types.specs.declared.token.TokenId.{TokenId}
use Rattle.host_cache.specs.declared.held.Held.{Held}
use Rattle.host_cache.specs.Holding.{is_id, without_id, tokens_of, kind_has_byte, shows_byte, tells_at, tells_of}
use Rattle.host_cache.specs.Holding.{IsOnce}
use Rattle.host_cache.specs.Files.{FileKey, file_key, same_key, parts_at, Puts, left, told_by, without_token, IsRoomy}
use Rattle.host_cache.specs.Parts.{Parts}
use Rattle.host_cache.specs.Seen.{seen, tells, shows, after_drop, of_key, IsKept}
use Rattle.host_cache.proofs.Filing.{each_key, key_same, left_roomy, left_some, left_none, put_here, put_elsewhere}
use Rattle.host_cache.proofs.Lists.{any_kept, filters_turned, filter-map, none_kept}
use Rattle.host_cache.proofs.Adding.{tells_is}
use Rattle.host_cache.proofs.Seeing.{Files, kept, seen_is, AreAlike, alike_same}

-- one passes at most, and this one does
sole : {X : Type 0} (p : X → Bool) (xs : List X) (x : X) → length (filter p xs) ≤ 1 → find p xs ≡ Some x →
    filter p xs ≡ x ∷ []
sole p [] x once there = absurd (grind (arith, there))
sole p (y ∷ ys) x once there =
    (elim (p y) as (λ b. length (cond b (y ∷ filter p ys) (filter p ys)) ≤ 1 → cond b (Some y) (find p ys) ≡ Some x →
    cond b (y ∷ filter p ys) (filter p ys) ≡ x ∷ []) [
      | true ↦ λ k e. let same : y ≡ x = grind (arith, e) in
          (λ i. same i ∷ empty (filter p ys) (omega (arith, k)) i)
      | false ↦ λ k e. sole p ys x k e
    ]) once there
  where
    empty : {X : Type 0} (zs : List X) → length zs ≡ 0 → zs ≡ []
    empty [] e = refl
    empty (z ∷ zs) e = absurd (omega (arith, e))

-- where none passes one test, none passes it among those that pass another
any_length : {X : Type 0} (p q : X → Bool) → ((x : X) → p x ≡ true → q x ≡ true) → (xs : List X) →
    list_any p xs ≡ true → 0 < length (filter q xs)
any_length p q h [] e = absurd (grind (arith, e))
any_length p q h (x ∷ xs) e =
    (elim (q x) as (λ b. q x ≡ b → 0 < length (cond b (x ∷ filter q xs) (filter q xs))) [
      | true ↦ λ f. omega arith
      | false ↦ λ f. elim (or_cases (p x) (list_any p xs) e) [
        | inl here ↦ let bad : true ≡ false = sym (h x here) ∙ f in absurd (grind (arith, bad))
        | inr there ↦ any_length p q h xs there
      ]
    ]) refl

any_fewer : {X : Type 0} (p q : X → Bool) (xs : List X) → list_any p (filter q xs) ≡ true → list_any p xs ≡ true
any_fewer p q [] e = e
any_fewer p q (x ∷ xs) e =
    (elim (q x) as (λ b. list_any p (cond b (x ∷ filter q xs) (filter q xs)) ≡ true → (p x || list_any p xs) ≡ true) [
      | true ↦ λ k. elim (or_cases (p x) (list_any p (filter q xs)) k) [
        | inl here ↦ ap (λ b. b || list_any p xs) here
        | inr there ↦ or_any (p x) (any_fewer p q xs there)
      ]
      | false ↦ λ k. or_any (p x) (any_fewer p q xs k)
    ]) e
  where
    or_any : (b : Bool) {c : Bool} → c ≡ true → (b || c) ≡ true
    or_any true h = refl
    or_any false h = h

tokens_many : (held : List Held) → length (tokens_of held) ≡ length held
tokens_many [] = refl
tokens_many (h ∷ held) = ap (λ (n : ℕ). suc n) (tokens_many held)

twice : {A : Type 0} (b : Bool) (x none : A) → (if b then x else none) ≡ (if b then (if b then x else none) else none)
twice true x none = refl
twice false x none = refl

module _ (held : List Held) (files files' : Files) (inv : IsKept held files) (id : TokenId) (h : Held)
    (once : IsOnce held) (there : find (is_id id) held ≡ Some h)
    (put : Puts files (file_key h.token.fid) (left (without_token id (parts_at files (file_key h.token.fid))))
    files') where
  abbrev key : FileKey
  key = file_key h.token.fid

  abbrev fewer_parts : Parts
  fewer_parts = without_token id (parts_at files key)

  abbrev rest : List Held
  rest = without_id id held

  -- the tokens of a file that are left
  of_rest : (k : FileKey) → of_key k rest ≡ without_id id (of_key k held)
  of_rest k = filters_turned (λ x. same_key (file_key x.token.fid) k) (λ x. not (is_id id x)) held

  tokens_rest : (k : FileKey) → filter (λ (t : Token). not (same_id t.id id)) (tokens_of (of_key k held))
      ≡ tokens_of (of_key k rest)
  tokens_rest k =
      filter-map (λ (t : Token). not (same_id t.id id)) (λ (x : Held). x.token) (of_key k held)
      ∙ ap tokens_of (sym (of_rest k))

  others_rest : (k : FileKey) → same_key key k ≡ false → of_key k rest ≡ of_key k held
  others_rest k apart =
      let e : filter (is_id id) (of_key k held) ≡ [] =
      filters_turned (is_id id) (λ x. same_key (file_key x.token.fid) k) held
      ∙ ap (filter (λ x. same_key (file_key x.token.fid) k)) (sole (is_id id) held h (once id) there)
      ∙ ap (λ b. cond b (h ∷ []) []) apart in
      of_rest k ∙ none_kept (is_id id) (of_key k held) (ap (λ (l : List Held). length l) e)

  left_tokens : (p : Parts) → (left p).tokens ≡ p.tokens
  left_tokens p = by_length p.tokens refl
    where
      by_length : (ts : List Token) → p.tokens ≡ ts → (left p).tokens ≡ p.tokens
      by_length [] e = ap (λ (q : Parts). q.tokens) (left_none p (ap (λ (l : List Token). length l) e)) ∙ sym e
      by_length (t ∷ ts) e =
          let k : length p.tokens ≡ suc (length ts) = ap (λ (l : List Token). length l) e in
          ap (λ (q : Parts). q.tokens) (left_some p (omega (arith, k)))

  dropped_tokens : (k : FileKey) → (parts_at files' k).tokens ≡ tokens_of (of_key k rest)
  dropped_tokens =
      each_key files files' key (left fewer_parts) put (λ k parts. parts.tokens ≡ tokens_of (of_key k rest))
      (left_tokens fewer_parts ∙ ap (filter (λ (t : Token). not (same_id t.id id))) (inv.tokens key)
      ∙ tokens_rest key)
      (λ other apart. inv.tokens other ∙ ap tokens_of (sym (others_rest other apart)))

  dropped_room : (k : FileKey) → IsRoomy (parts_at files' k)
  dropped_room = each_key files files' key (left fewer_parts) put (λ k parts. IsRoomy parts)
      (left_roomy (parts_at files key) id (inv.room key)) (λ other apart. inv.room other)

  -- of a file of which a token is left the same is kept
  alike : (k : FileKey) → 0 < length (of_key k rest) → AreAlike (parts_at files' k) (parts_at files k)
  alike = each_key files files' key (left fewer_parts) put
      (λ k parts. 0 < length (of_key k rest) → AreAlike parts (parts_at files k))
      (λ some. let many = left_tokens fewer_parts ∙ ap (filter (λ (t : Token). not (same_id t.id id))) (inv.tokens
      key) ∙ tokens_rest key in
      let size : length fewer_parts.tokens ≡ length (of_key key rest) =
      ap (λ (l : List Token). length l) (sym (left_tokens fewer_parts) ∙ many) ∙ tokens_many (of_key key rest) in
      let same = left_some fewer_parts (omega (arith, size, some)) in
      record {
        status = ap (λ (p : Parts). p.status) same;
        entries = ap (λ (p : Parts). p.entries) same;
        bytes = λ at. ap (λ (p : Parts). byte_at p.bytes at) same;
      })
      (λ other apart some. alike_same (parts_at files other) (parts_at files other) refl)

  under : {A : Type 0} (b c : Bool) (new old none : A) → (b ≡ true → c ≡ true) → (b ≡ true → new ≡ old) →
      (if b then new else none) ≡ (if b then (if c then old else none) else none)
  under true c new old none h same = same refl ∙ ap (λ t. if t then old else none) (sym (h refl))
  under false c new old none h same = refl

  own_tells : (fid : Fid) (x : Held) → tells_of fid x ≡ true → same_key (file_key x.token.fid) (file_key fid) ≡ true
  own_tells fid x e = (and_parts (same_fid x.token.fid fid) x.tells e).0

  own_shows : (fid : Fid) (at : ℕ) (x : Held) → shows_byte fid at x ≡ true →
      same_key (file_key x.token.fid) (file_key fid) ≡ true
  own_shows fid at x e = (and_parts (same_fid x.token.fid fid) (kind_has_byte at x.token.kind) e).0

  dropped_seen : seen (kept rest files') ≡ after_drop (seen (kept held files)) id
  dropped_seen =
      seen_is (seen (kept rest files')) (after_drop (seen (kept held files)) id) refl
      (λ fid. under (tells rest fid) (tells held fid) (parts_at files' (file_key fid)).status
      (parts_at files (file_key fid)).status None (any_fewer (tells_of fid) (λ x. not (is_id id x)) held)
      (λ e. (alike (file_key fid) (any_length (tells_of fid) (λ x. same_key (file_key x.token.fid) (file_key fid))
      (own_tells fid) rest e)).status))
      (λ fid. under (shows rest fid 0) (shows held fid 0) (parts_at files' (file_key fid)).entries
      (parts_at files (file_key fid)).entries [] (any_fewer (shows_byte fid 0) (λ x. not (is_id id x)) held)
      (λ e. (alike (file_key fid) (any_length (shows_byte fid 0) (λ x. same_key (file_key x.token.fid) (file_key fid))
      (own_shows fid 0) rest e)).entries))
      (λ fid at. under (shows rest fid at) (shows held fid at) (Some (byte_at (parts_at files' (file_key fid)).bytes
      at))
      (Some (byte_at (parts_at files (file_key fid)).bytes at)) None
      (any_fewer (shows_byte fid at) (λ x. not (is_id id x)) held)
      (λ e. ap (λ (n : ℕ). Some n) ((alike (file_key fid) (any_length (shows_byte fid at)
      (λ x. same_key (file_key x.token.fid) (file_key fid)) (own_shows fid at) rest e)).bytes at)))

  -- then its status is forgotten, where none of its tokens came with one
  module _ (last : Files) (single : IsOnce rest)
      (gone : Puts files' key (told_by rest (parts_at files' key)) last) where
    told_here : (fid : Fid) → key ≡ file_key fid → list_any (λ (t : Token). tells_at rest t.id) (parts_at files'
        key).tokens ≡ tells rest fid
    told_here fid k =
        ap (list_any (λ (t : Token). tells_at rest t.id)) (dropped_tokens key)
        ∙ ap (λ q. list_any (λ (t : Token). tells_at rest t.id) (tokens_of (of_key q rest))) k
        ∙ tells_is rest fid single

    here : (fid : Fid) → key ≡ file_key fid → (parts_at last (file_key fid)).status
        ≡ (if tells rest fid then (parts_at files' (file_key fid)).status else None)
    here fid k =
        ap (λ q. (parts_at last q).status) (sym k)
        ∙ ap (λ (p : Parts). p.status) (put_here files' last key (told_by rest (parts_at files' key)) gone)
        ∙ ap (λ b. if b then (parts_at files' key).status else None) (told_here fid k)
        ∙ ap (λ q. if tells rest fid then (parts_at files' q).status else None) k

    others_tell : (fid : Fid) → same_key key (file_key fid) ≡ false → tells held fid ≡ tells rest fid
    others_tell fid apart =
        sym (any_kept (tells_of fid) (λ x. same_key (file_key x.token.fid) (file_key fid)) (own_tells fid) held)
        ∙ ap (list_any (tells_of fid)) (sym (others_rest (file_key fid) apart))
        ∙ any_kept (tells_of fid) (λ x. same_key (file_key x.token.fid) (file_key fid)) (own_tells fid) rest

    pub forgot_kept : IsKept rest last
    forgot_kept = record {
      tokens = each_key files' last key (told_by rest (parts_at files' key)) gone
          (λ k parts. parts.tokens ≡ tokens_of (of_key k rest)) (dropped_tokens key) (λ other apart. dropped_tokens
          other);
      room = each_key files' last key (told_by rest (parts_at files' key)) gone (λ k parts. IsRoomy parts)
          (dropped_room key) (λ other apart. dropped_room other);
      told = λ fid none. elim (same_key key (file_key fid)) as (λ b. same_key key (file_key fid) ≡ b →
          (parts_at last (file_key fid)).status ≡ None) [
            | true ↦ λ e. here fid (key_same key (file_key fid) e)
                ∙ ap (λ b. if b then (parts_at files' (file_key fid)).status else None) none
            | false ↦ λ e.
                ap (λ (p : Parts). p.status) (put_elsewhere files' last key (told_by rest (parts_at files' key)) gone
                (file_key fid) e)
                ∙ ap (λ (p : Parts). p.status) (put_elsewhere files files' key (left fewer_parts) put (file_key fid) e)
                ∙ inv.told fid (others_tell fid e ∙ none)
          ] refl;
    }

    forgot_status : (fid : Fid) → (seen (kept rest last)).status fid ≡ (seen (kept rest files')).status fid
    forgot_status fid = elim (same_key key (file_key fid)) as (λ b. same_key key (file_key fid) ≡ b →
        (if tells rest fid then (parts_at last (file_key fid)).status else None)
        ≡ (if tells rest fid then (parts_at files' (file_key fid)).status else None)) [
          | true ↦ λ e. ap (λ s. if tells rest fid then s else None) (here fid (key_same key (file_key fid) e))
              ∙ sym (twice (tells rest fid) (parts_at files' (file_key fid)).status None)
          | false ↦ λ e. ap (λ (p : Parts). if tells rest fid then p.status else None)
              (put_elsewhere files' last key (told_by rest (parts_at files' key)) gone (file_key fid) e)
        ] refl

    forgot_rest : (k : FileKey) → ((parts_at last k).entries ≡ (parts_at files' k).entries)
        × ((parts_at last k).bytes ≡ (parts_at files' k).bytes)
    forgot_rest = each_key files' last key (told_by rest (parts_at files' key)) gone
        (λ k parts. (parts.entries ≡ (parts_at files' k).entries) × (parts.bytes ≡ (parts_at files' k).bytes))
        (refl, refl) (λ other apart. (refl, refl))

    pub forgot_seen : seen (kept rest last) ≡ after_drop (seen (kept held files)) id
    forgot_seen =
        seen_is (seen (kept rest last)) (seen (kept rest files')) refl forgot_status
        (λ fid. ap (λ es. if shows rest fid 0 then es else []) (forgot_rest (file_key fid)).0)
        (λ fid at. ap (λ (l : List ℕ). if shows rest fid at then Some (byte_at l at) else None)
        (forgot_rest (file_key fid)).1)
        ∙ dropped_seen

-- where no token has the number, nothing changes
pub nothing_dropped : (held : List Held) (files : Files) (id : TokenId) → without_id id held ≡ held →
    seen (kept held files) ≡ after_drop (seen (kept held files)) id
nothing_dropped held files id same =
    seen_is (seen (kept held files)) (after_drop (seen (kept held files)) id) (sym same)
    (λ fid. twice (tells held fid) (parts_at files (file_key fid)).status None
    ∙ ap (λ hs. if tells hs fid then (if tells held fid then (parts_at files (file_key fid)).status else None) else
    None)
    (sym same))
    (λ fid. twice (shows held fid 0) (parts_at files (file_key fid)).entries []
    ∙ ap (λ hs. if shows hs fid 0 then (if shows held fid 0 then (parts_at files (file_key fid)).entries else [])
    else [])
    (sym same))
    (λ fid at. twice (shows held fid at) (Some (byte_at (parts_at files (file_key fid)).bytes at)) None
    ∙ ap (λ hs. if shows hs fid at then (if shows held fid at then Some (byte_at (parts_at files (file_key
    fid)).bytes at)
    else None) else None) (sym same))
