-- Tokens that are used, and tokens that are dropped.
use Rattle.std.proofs.Common.{◌≡◌, ◌≤◌, ◌<◌, ℕ, suc, ◌+◌, Bool, true, false, not, cond, ◌&&◌, ◌==◌, List}
use Rattle.std.proofs.Common.{[], ◌∷◌, ◌++◌, length, None, refl, sym, ap}
use Rattle.std.proofs.Common.{◌∙◌, subst, arith, if◌then◌else◌, append_assoc, length-append, take, drop, get_or}
use Rattle.std.specs.List.{filter}
use Rattle.std.proofs.lemmas.Bool.{and_parts}
use Rattle.std.proofs.lemmas.Bool.Decides.{nat_tests}
use Rattle.std.proofs.lemmas.List.{take_at}
use Rattle.std.proofs.lemmas.List.Elements.{filter-append}
use Rattle.base_types.specs.Ids.{same_fid}
use Rattle.token_types.specs.declared.token.Need.{Need}
use Rattle.token_types.specs.declared.token.Token.{Token}
use Rattle.token_types.specs.declared.token.TokenId.{TokenId}
use Rattle.host_cache.specs.declared.held.Held.{Held}
use Rattle.host_cache.specs.Holding.{is_id, brought, tokens_of, shows_byte, tells_of, helps}
use Rattle.host_cache.specs.Holding.{helps_cover, helpers_first, first_by, used, IsOnce, brought_all}
use Rattle.host_cache.specs.Files.{FileKey, file_key, same_key, nothing, parts_at, Puts, IsRoomy}
use Rattle.host_cache.specs.Parts.{Parts}
use Rattle.host_cache.specs.Seen.{seen, after_used, of_key, IsKept}
use Rattle.host_cache.proofs.Filing.{key_same, each_key, first_roomy}
use Rattle.host_cache.proofs.Lists.{any_first, kept_first, none_first, map_first, fewer, first_between, drop_here}
use Rattle.host_cache.proofs.Seeing.{Files, kept, AreAlike, alike_same, seen_alike}

-- whether a held token helps to cover a need
abbrev pub helper : Need → Held → Bool
helper need h = helps_cover need h.token

-- ---- the order after helpers were brought to the front, one by one
abbrev promoted : Need → List Token → List Held → List Held
promoted need [] held = held
promoted need (token ∷ tokens) held =
    if helps_cover need token then brought token.id (promoted need tokens held) else promoted need tokens held

brought_helpers : (need : Need) (tokens : List Token) (held : List Held) →
    brought_all (filter (helps_cover need) tokens) held ≡ promoted need tokens held
brought_helpers need [] held = refl
brought_helpers need (t ∷ ts) held =
    elim (helps_cover need t) as (λ b.
    brought_all (cond b (t ∷ filter (helps_cover need) ts) (filter (helps_cover need) ts)) held
    ≡ (if b then brought t.id (promoted need ts held) else promoted need ts held)) [
      | true ↦ ap (brought t.id) (brought_helpers need ts held)
      | false ↦ brought_helpers need ts held
    ]

id_itself : (a b c : ℕ) → (((a == a) && (b == b)) && (c == c)) ≡ true
id_itself a b c = grind (arith, nat_tests)

pub is_itself : (h : Held) → is_id h.token.id h ≡ true
is_itself h = id_itself h.token.id.server.0 h.token.id.epoch h.token.id.seq

-- the token of a number is there once, before and after which there is none of it
pub alone : (pre : List Held) (h : Held) (rest : List Held) → length (filter (is_id h.token.id) (pre ++ h ∷ rest)) ≤ 1 →
    (length (filter (is_id h.token.id) pre) ≡ 0) × (length (filter (is_id h.token.id) rest) ≡ 0)
alone pre h rest once =
    let p = is_id h.token.id in
    let e : length (filter (is_id h.token.id) (pre ++ h ∷ rest)) ≡ length (filter p pre) + suc (length (filter p
    rest)) =
    ap (λ (l : List Held). length l) (filter-append p pre (h ∷ rest))
    ∙ length-append (filter p pre) (filter p (h ∷ rest))
    ∙ ap (λ b. length (filter p pre) + length (cond b (h ∷ filter p rest) (filter p rest))) (is_itself h) in
    (omega (arith, e, once), omega (arith, e, once))

module _ (need : Need) (q : Held → Bool) (own : (h : Held) → helper need h ≡ true → q h ≡ true) where
  abbrev others : List Held → List Held
  others held = filter (λ h. not (helper need h)) held

  abbrev helpers : List Held → List Held
  helpers held = filter (helper need) held

  abbrev count : TokenId → List Held → ℕ
  count id held = length (filter (is_id id) held)

  regroup : (xs bs : List Held) (h : Held) (cs : List Held) → xs ++ ((bs ++ h ∷ []) ++ cs) ≡ (xs ++ bs) ++ h ∷ cs
  regroup xs bs h cs =
      ap (λ l. xs ++ l) (append_assoc bs (h ∷ []) cs) ∙ sym (append_assoc xs bs (h ∷ cs))

  step : (pre : List Held) (h : Held) (rest : List Held) → count h.token.id (pre ++ h ∷ rest) ≤ 1 →
      brought h.token.id ((helpers rest ++ pre) ++ h ∷ others rest) ≡ h ∷ ((helpers rest ++ pre) ++ others rest)
  step pre h rest once =
      let p = is_id h.token.id in
      let none = alone pre h rest once in
      let a : count h.token.id (helpers rest) ≡ 0 = omega (arith, fewer p (helper need) rest, none.1) in
      let b : count h.token.id (helpers rest ++ pre) ≡ 0 =
      ap (λ (l : List Held). length l) (filter-append p (helpers rest) pre)
      ∙ length-append (filter p (helpers rest)) (filter p pre) ∙ (λ i. a i + none.0 i) in
      let c : count h.token.id (others rest) ≡ 0 = omega (arith, fewer p (λ x. not (helper need x)) rest, none.1) in
      first_between p (helpers rest ++ pre) h (others rest) (is_itself h) b c

  pub promoted_from : (pre rest : List Held) → IsOnce (pre ++ rest) →
      promoted need (tokens_of (filter q rest)) (pre ++ rest) ≡ helpers rest ++ (pre ++ others rest)
  promoted_from pre [] once = refl
  promoted_from pre (h ∷ rest) once =
      let moved : (pre ++ h ∷ []) ++ rest ≡ pre ++ h ∷ rest = append_assoc pre (h ∷ []) rest in
      let before : promoted need (tokens_of (filter q rest)) (pre ++ h ∷ rest)
      ≡ (helpers rest ++ pre) ++ h ∷ others rest =
      ap (promoted need (tokens_of (filter q rest))) (sym moved)
      ∙ promoted_from (pre ++ h ∷ []) rest (subst IsOnce (sym moved) once)
      ∙ regroup (helpers rest) pre h (others rest) in
      elim (helper need h) as (λ b. helper need h ≡ b →
      promoted need (tokens_of (filter q (h ∷ rest))) (pre ++ h ∷ rest)
      ≡ cond b (h ∷ helpers rest) (helpers rest) ++ (pre ++ cond (not b) (h ∷ others rest) (others rest))) [
        | true ↦ λ e.
            ap (λ b. promoted need (tokens_of (cond b (h ∷ filter q rest) (filter q rest))) (pre ++ h ∷ rest)) (own h e)
            ∙ ap (λ b. if b then brought h.token.id (promoted need (tokens_of (filter q rest)) (pre ++ h ∷ rest))
            else promoted need (tokens_of (filter q rest)) (pre ++ h ∷ rest)) e
            ∙ ap (brought h.token.id) before ∙ step pre h rest (once h.token.id)
            ∙ ap (λ l. h ∷ l) (append_assoc (helpers rest) pre (others rest))
        | false ↦ λ e.
            passed_over e (q h) ∙ before ∙ append_assoc (helpers rest) pre (h ∷ others rest)
      ] refl
    where
      passed_over : helper need h ≡ false → (b : Bool) →
          promoted need (tokens_of (cond b (h ∷ filter q rest) (filter q rest))) (pre ++ h ∷ rest)
          ≡ promoted need (tokens_of (filter q rest)) (pre ++ h ∷ rest)
      passed_over e true =
          ap (λ b. if b then brought h.token.id (promoted need (tokens_of (filter q rest)) (pre ++ h ∷ rest))
          else promoted need (tokens_of (filter q rest)) (pre ++ h ∷ rest)) e
      passed_over e false = refl

-- helpers are tokens of the need's file
helper_own : (need : Need) (h : Held) → helper need h ≡ true → same_key (file_key h.token.fid) (file_key need.fid) ≡
    true
helper_own need h e = (and_parts (same_fid h.token.fid need.fid) (helps h.token.kind need.kind) e).0

pub brought_used : (need : Need) (held : List Held) → IsOnce held →
    brought_all (filter (helps_cover need) (tokens_of (of_key (file_key need.fid) held))) held ≡ used need held
brought_used need held once =
    brought_helpers need (tokens_of (of_key (file_key need.fid) held)) held
    ∙ promoted_from need (λ h. same_key (file_key h.token.fid) (file_key need.fid)) (helper_own need) [] held once

-- of another file none helps
none_helps : (need : Need) (key : FileKey) → same_key (file_key need.fid) key ≡ false → (held : List Held) →
    length (filter (helper need) (of_key key held)) ≡ 0
none_helps need key apart [] = refl
none_helps need key apart (h ∷ held) =
    let rest = none_helps need key apart held in
    elim (same_key (file_key h.token.fid) key) as (λ b. same_key (file_key h.token.fid) key ≡ b →
    length (filter (helper need) (cond b (h ∷ of_key key held) (of_key key held))) ≡ 0) [
      | true ↦ λ e. (elim (helper need h) as (λ c. helper need h ≡ c →
          length (cond c (h ∷ filter (helper need) (of_key key held)) (filter (helper need) (of_key key held))) ≡ 0) [
            | true ↦ λ f.
                let k = key_same (file_key h.token.fid) (file_key need.fid) (helper_own need h f) in
                let bad : true ≡ false = sym e ∙ ap (λ a. same_key a key) k ∙ apart in
                absurd (grind (arith, bad))
            | false ↦ λ f. rest
          ]) refl
      | false ↦ λ e. rest
    ] refl

module _ (held : List Held) (files files' : Files) (inv : IsKept held files) (need : Need)
    (put : Puts files (file_key need.fid) (record (parts_at files (file_key need.fid))
    { tokens = helpers_first need (parts_at files (file_key need.fid)).tokens }) files') where
  abbrev key : FileKey
  key = file_key need.fid

  abbrev w : Parts
  w = record (parts_at files key) { tokens = helpers_first need (parts_at files key).tokens }

  of_used : (k : FileKey) → of_key k (used need held) ≡ first_by (helper need) (of_key k held)
  of_used k = kept_first (λ h. same_key (file_key h.token.fid) k) (helper need) held

  pub used_kept : IsKept (used need held) files'
  used_kept = record {
    tokens = each_key files files' key w put (λ k parts. parts.tokens ≡ tokens_of (of_key k (used need held)))
        (ap (helpers_first need) (inv.tokens key) ∙ map_first (λ (h : Held). h.token) (helps_cover need) (of_key key
        held)
        ∙ ap tokens_of (sym (of_used key)))
        (λ other apart. inv.tokens other
        ∙ ap tokens_of (sym (none_first (helper need) (of_key other held) (none_helps need other apart held))
        ∙ sym (of_used other)));
    room = each_key files files' key w put (λ k parts. IsRoomy parts)
        (first_roomy (parts_at files key) need (inv.room key)) (λ other apart. inv.room other);
    told = λ fid e. each_key files files' key w put
        (λ k parts. (parts_at files k).status ≡ None → parts.status ≡ None)
        (λ none. none) (λ other apart none. none) (file_key fid)
        (inv.told fid (sym (any_first (tells_of fid) (helper need) held) ∙ e));
  }

  pub used_seen : seen (kept (used need held) files') ≡ after_used (seen (kept held files)) need
  used_seen =
      seen_alike held (used need held) files files'
      (λ fid. any_first (tells_of fid) (helper need) held) (λ fid at. any_first (shows_byte fid at) (helper need) held)
      (each_key files files' key w put (λ k parts. AreAlike parts (parts_at files k))
      (record { status = refl; entries = refl; bytes = λ at. refl })
      (λ other apart. alike_same (parts_at files other) (parts_at files other) refl))

-- where nothing is kept of a file, none of its tokens is held, and none helps
pub nothing_used : (held : List Held) (files : Files) → IsKept held files → (need : Need) →
    parts_at files (file_key need.fid) ≡ nothing → used need held ≡ held
nothing_used held files inv need none = none_first (helper need) held (counted held empty)
  where
    empty : length (of_key (file_key need.fid) held) ≡ 0
    empty = same_length (of_key (file_key need.fid) held)
        (sym (inv.tokens (file_key need.fid)) ∙ ap (λ (p : Parts). p.tokens) none)
      where
        same_length : (hs : List Held) → tokens_of hs ≡ [] → length hs ≡ 0
        same_length [] e = refl
        same_length (h ∷ hs) e = absurd (grind (arith, e))

    counted : (hs : List Held) → length (of_key (file_key need.fid) hs) ≡ 0 → length (filter (helper need) hs) ≡ 0
    counted [] e = refl
    counted (h ∷ hs) e =
        (elim (helper need h) as (λ b. helper need h ≡ b →
        length (cond b (h ∷ filter (helper need) hs) (filter (helper need) hs)) ≡ 0) [
          | true ↦ λ f.
              let bad : suc (length (of_key (file_key need.fid) hs)) ≡ 0 =
              ap (λ b. length (cond b (h ∷ of_key (file_key need.fid) hs) (of_key (file_key need.fid) hs)))
              (sym (helper_own need h f)) ∙ e in
              absurd (omega (arith, bad))
          | false ↦ λ f. counted hs (fewer_left h hs e)
        ]) refl
      where
        fewer_left : (h : Held) (hs : List Held) → length (of_key (file_key need.fid) (h ∷ hs)) ≡ 0 →
            length (of_key (file_key need.fid) hs) ≡ 0
        fewer_left h hs e =
            (elim (same_key (file_key h.token.fid) (file_key need.fid)) as (λ b.
            length (cond b (h ∷ of_key (file_key need.fid) hs) (of_key (file_key need.fid) hs)) ≡ 0 →
            length (of_key (file_key need.fid) hs) ≡ 0) [
              | true ↦ λ k. absurd (omega (arith, k))
              | false ↦ λ k. k
            ]) e

-- ---- the loops
pub brought_next : (tokens : List Token) (old : List Held) (i : ℕ) (token : Token) → i < length tokens →
    token ≡ get_or tokens i token →
    brought_all (drop i tokens) old ≡ brought token.id (brought_all (drop (suc i) tokens) old)
brought_next tokens old i token lt here = ap (λ ts. brought_all ts old) (drop_here tokens i token lt here)

-- the helpers stand first
module _ (need : Need) (tokens : List Token) where
  abbrev not_helping : List Token
  not_helping = filter (λ t. not (helps_cover need t)) tokens

  pub front_within : length (filter (helps_cover need) tokens) ≤ length (helpers_first need tokens)
  front_within = omega (arith, length-append (filter (helps_cover need) tokens) not_helping)

  pub front_is : take (length (filter (helps_cover need) tokens)) (helpers_first need tokens)
      ≡ filter (helps_cover need) tokens
  front_is = take_at (filter (helps_cover need) tokens) not_helping (length (filter (helps_cover need) tokens)) refl
