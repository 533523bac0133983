-- The tokens that a host holds, by their numbers.
use Rattle.std.proofs.Common.{Bool, List, [], ap, arith, cond, false, filter, fold, inl, inr, length, map, not, refl}
use Rattle.std.proofs.Common.{subst, suc, sym, true, ℕ, ◌&&◌, ◌<◌, ◌||◌, ◌∙◌, ◌∷◌, ◌≡◌, ◌≤◌, ◌⊎◌}
use Rattle.std.specs.List.{list_any}
use Rattle.base_types.specs.Ids.{same_fid}
use Rattle.base_types.specs.declared.ids.Fid.{Fid}
use Rattle.host_cache.specs.Holding.{IsOnce, is_id, is_status, tokens_of, without_id}
use Rattle.host_cache.specs.Seen.{Seen, after_drop, seen}
use Rattle.host_cache.specs.declared.held.Held.{Held}
use Rattle.host_walk.specs.Trying.{status_need}
use Rattle.run_rules.specs.Past.{In}
use Rattle.token_types.specs.Conflicts.{same_id}
use Rattle.token_types.specs.Covers.{covers_alone, kind_covers}
use Rattle.token_types.specs.declared.token.Kind.{Kind}
use Rattle.token_types.specs.declared.token.Kind.TheVariants.{Bytes, Lock, Opening, Status}
use Rattle.token_types.specs.declared.token.Token.{Token}
use Rattle.host_tables.specs.Tables.{held_of}
use Rattle.host_tables.specs.declared.tables.Tables.{Tables}
use Rattle.host_tables.proofs.Lists.{fid_same, filter_in, id_same, in_filter, in_map, map_in, true_not}
use Rattle.host_leaves.specs.Giving.{shown_without}
use Rattle.host_leaves.specs.Revoking.{covers_status}

-- two elements that pass a test, of which one alone does
filled : {A : Type 0} (p : A → Bool) (xs : List A) (x : A) → In x xs → p x ≡ true → 0 < length (filter p xs)
filled {A = A} p xs x m e = by_in (filter p xs) (filter_in p xs x m e)
  where
    by_in : (ys : List A) → In x ys → 0 < length ys
    by_in [] i = absurd i
    by_in (y ∷ ys) i = omega arith

pub one_passes : {A : Type 0} (p : A → Bool) (xs : List A) → length (filter p xs) ≤ 1 → (x y : A) → In x xs →
    p x ≡ true → In y xs → p y ≡ true → x ≡ y
one_passes {A = A} p xs one x y i e j k = by_in (filter p xs) one (filter_in p xs x i e) (filter_in p xs y j k)
  where
    by_in : (ys : List A) → length ys ≤ 1 → In x ys → In y ys → x ≡ y
    by_in [] h i j = absurd i
    by_in (z ∷ []) h (inl a) (inl b) = a ∙ sym b
    by_in (z ∷ []) h (inl a) (inr b) = absurd b
    by_in (z ∷ []) h (inr a) j = absurd a
    by_in (z ∷ w ∷ ys) h i j = absurd (omega (arith, h))

-- a held token is held where tokens of other numbers are dropped
abbrev pub is_apart : Token → List Token → Type 0
is_apart token tokens = (other : Token) → In other tokens → same_id token.id other.id ≡ true → ⊥

held_stays : (held : Held) (tokens : List Token) (shown : Seen) → is_apart held.token tokens → In held shown.held →
    In held (shown_without shown tokens).held
held_stays held [] shown apart i = i
held_stays held (t ∷ tokens) shown apart i =
    held_stays held tokens (after_drop shown t.id) (λ other k. apart other (inr k))
    (filter_in (λ (h : Held). not (is_id t.id h)) shown.held held i
    (true_not (is_id t.id held) (λ e. apart t (inl refl) e)))

-- of other files
pub stays : (m new : Tables) (tokens : List Token) → IsOnce m.cache.held →
    seen new.cache ≡ shown_without (seen m.cache) tokens → ((other : Token) → In other tokens → In other (held_of m)) →
    (token : Token) → ((other : Token) → In other tokens → same_fid token.fid other.fid ≡ false) →
    In token (held_of m) → In token (held_of new)
stays m new tokens once e held token apart i =
    let r = in_map (λ (h : Held). h.token) m.cache.held token i in
    let h = r.0 in
    let here : In h new.cache.held =
    subst (λ (s : Seen). In h s.held) (sym e) (held_stays h tokens (seen m.cache) (other_id h r.1 r.2) r.1) in
    subst (λ t. In t (held_of new)) (sym r.2) (map_in (λ (h : Held). h.token) new.cache.held h here)
  where
    same_file : (t : Token) (other : Token) → t ≡ other → same_fid token.fid other.fid ≡ false → token ≡ t → ⊥
    same_file t other s d k =
        absurd (let x = sym (fid_is token.fid other.fid (ap (λ (t : Token). t.fid) (k ∙ s))) ∙ d in cc)
      where
        fid_is : (a b : Fid) → a ≡ b → same_fid a b ≡ true
        fid_is a b e = fid_same a b e

    other_id : (h : Held) → In h m.cache.held → token ≡ h.token → is_apart h.token tokens
    other_id h k s other o q =
        let r = in_map (λ (h : Held). h.token) m.cache.held other (held other o) in
        let g = r.0 in
        let same : h ≡ g =
        one_passes (is_id other.id) m.cache.held (once other.id) h g k q r.1
        (id_same g.token.id other.id (sym (ap (λ (t : Token). t.id) r.2))) in
        same_file h.token other (ap (λ (h : Held). h.token) same ∙ sym r.2) (apart other o) s

-- the status is covered by any token of it
status_kind : (kind : Kind) → kind_covers kind (Status false) ≡ is_status kind
status_kind (Bytes update span) = refl
status_kind (Status true) = refl
status_kind (Status false) = refl
status_kind (Lock writing span) = refl
status_kind (Opening kind) = refl

pub status_covers : (fid : Fid) (tokens : List Token) →
    list_any (covers_alone fid (Status false)) tokens ≡ covers_status fid tokens
status_covers fid [] = refl
status_covers fid (token ∷ tokens) =
    ap (λ t. (same_fid token.fid fid && t) || list_any (covers_alone fid (Status false)) tokens)
    (status_kind token.kind)
    ∙ ap (λ t. (same_fid token.fid fid && is_status token.kind) || t) (status_covers fid tokens)
