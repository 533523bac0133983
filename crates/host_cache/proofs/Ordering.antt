-- The held tokens, as entries under their numbers.
use Rattle.std.proofs.Common.{◌≡◌, ◌≤◌, ◌<◌, ℕ, ◌-◌, ◌^◌, Bool, true, false, not, cond, ◌&&◌, ◌==◌, List, [], ◌∷◌, ◌++◌}
use Rattle.std.proofs.Common.{map, length, suc, take, Option, Some, None, refl}
use Rattle.std.proofs.Common.{sym, ap, ◌∙◌, subst, arith, append-nil, option_map, if◌then◌else◌, take_all}
use Rattle.std.specs.List.{find, filter, IsDistinct, AllByRecursion}
use Rattle.std.specs.Option.{option_map_or}
use Rattle.std.specs.Map.{lookup, lookup_entry, remove_entry, set_value, values_of, keys_of}
use Rattle.std.proofs.lemmas.Bool.{cases_Bool}
use Rattle.std.proofs.lemmas.Bool.Decides.{nat_tests}
use Rattle.std.proofs.lemmas.Map.Keys.{IsDistinct-head, IsDistinct-tail}
use Rattle.std.proofs.lemmas.List.Elements.{filter-append}
use Rattle.lru.specs.LruCache.{LruCache, lru_cache, promoted as put_first, put_entries}
use Rattle.token_types.specs.declared.token.TokenId.{TokenId}
use Rattle.host_cache.specs.declared.held.Held.{Held}
use Rattle.host_cache.specs.Keys.{IdKey, id_key, keyed, IsOrder}
use Rattle.host_cache.specs.Holding.{is_id, has_id, without_id, brought, with_use, IsOnce, is_idle, last_of}
use Rattle.host_cache.proofs.Lists.{none_kept, none_passes, none_any, last_push}

-- how a cache of the least recently used entries compares keys
abbrev pub key_eq : IdKey → IdKey → Bool
key_eq a b = (a.0 == b.0) && ((a.1.0 == b.1.0) && (a.1.1 == b.1.1))

numbers_same : (a b c x y z : ℕ) → ((a == x) && ((b == y) && (c == z))) ≡ (((x == a) && (y == b)) && (z == c))
numbers_same a b c x y z = grind (arith, nat_tests)

pub key_is : (id : TokenId) (h : Held) → key_eq (id_key id) (id_key h.token.id) ≡ is_id id h
key_is id h = numbers_same id.server.0 id.epoch id.seq h.token.id.server.0 h.token.id.epoch h.token.id.seq

pub values_keyed : (held : List Held) → values_of (keyed held) ≡ held
values_keyed [] = refl
values_keyed (h ∷ held) = ap (λ hs. h ∷ hs) (values_keyed held)

pub order_from : (entries : LruCache IdKey Held) (held : List Held) → entries.entries ≡ keyed held →
    entries.cap ≡ 2 ^ 64 - 1 → IsOrder entries × (values_of entries.entries ≡ held)
order_from entries held e cap =
    let v = ap values_of e ∙ values_keyed held in
    (record { keys = e ∙ ap keyed (sym v); cap = cap }, v)

module _ (id : TokenId) where
  abbrev test : IdKey → Bool
  test key = key_eq (id_key id) key

  pub lookup_keyed : (held : List Held) → lookup test (keyed held) ≡ find (is_id id) held
  lookup_keyed [] = refl
  lookup_keyed (h ∷ held) = λ i. cond (key_is id h i) (Some h) (lookup_keyed held i)

  pub entry_keyed : (held : List Held) →
      lookup_entry test (keyed held) ≡ option_map (λ h. (id_key h.token.id, h)) (find (is_id id) held)
  entry_keyed [] = refl
  entry_keyed (h ∷ held) =
      (λ i. cond {A = Option (IdKey × Held)} (key_is id h i) (Some (id_key h.token.id, h)) (entry_keyed held i))
      ∙ chosen (is_id id h) h (find (is_id id) held)
    where
      chosen : (b : Bool) (h : Held) (o : Option Held) →
          cond {A = Option (IdKey × Held)} b (Some (id_key h.token.id, h)) (option_map (λ x. (id_key x.token.id, x)) o)
          ≡ option_map (λ x. (id_key x.token.id, x)) (cond b (Some h) o)
      chosen true h o = refl
      chosen false h o = refl

  pub removed_keyed : (held : List Held) → length (filter (is_id id) held) ≤ 1 →
      remove_entry test (keyed held) ≡ keyed (without_id id held)
  removed_keyed [] once = refl
  removed_keyed (h ∷ held) once =
      (λ i. cond (key_is id h i) (keyed held) ((id_key h.token.id, h) ∷ remove_entry test (keyed held)))
      ∙ (elim (is_id id h) as (λ b. length (cond b (h ∷ filter (is_id id) held) (filter (is_id id) held)) ≤ 1 →
      cond b (keyed held) ((id_key h.token.id, h) ∷ remove_entry test (keyed held))
      ≡ keyed (cond (not b) (h ∷ without_id id held) (without_id id held))) [
        | true ↦ λ k. ap keyed (sym (none_kept (is_id id) held (omega (arith, k))))
        | false ↦ λ k. ap (λ es. (id_key h.token.id, h) ∷ es) (removed_keyed held k)
      ]) once

  pub promoted_keyed : (held : List Held) → length (filter (is_id id) held) ≤ 1 →
      put_first test (keyed held) ≡ keyed (brought id held)
  promoted_keyed held once =
      (λ i. option_map_or (λ e. e ∷ removed_keyed held once i) (entry_keyed held i) (keyed held))
      ∙ chosen (find (is_id id) held)
    where
      chosen : (o : Option Held) →
          option_map_or (λ e. e ∷ keyed (without_id id held)) (option_map (λ h. (id_key h.token.id, h)) o) (keyed held)
          ≡ keyed (option_map_or (λ h. h ∷ without_id id held) o held)
      chosen None = refl
      chosen (Some h) = refl

  -- none of them is the token
  pub none_changed : (in_use : Bool) (held : List Held) → length (filter (is_id id) held) ≡ 0 →
      map (with_use id in_use) held ≡ held
  none_changed in_use [] none = refl
  none_changed in_use (h ∷ held) none =
      (elim (is_id id h) as (λ b. length (cond b (h ∷ filter (is_id id) held) (filter (is_id id) held)) ≡ 0 →
      (if b then record h { in_use = in_use } else h) ∷ map (with_use id in_use) held ≡ h ∷ held) [
        | true ↦ λ k. absurd (omega (arith, k))
        | false ↦ λ k. ap (λ hs. h ∷ hs) (none_changed in_use held k)
      ]) none

  pub use_keyed : (in_use : Bool) (held : List Held) (h : Held) → length (filter (is_id id) held) ≤ 1 →
      find (is_id id) held ≡ Some h →
      set_value test (keyed held) (record h { in_use = in_use }) ≡ keyed (map (with_use id in_use) held)
  use_keyed in_use [] h once there = absurd (grind (arith, there))
  use_keyed in_use (x ∷ held) h once there =
      (λ i. cond (key_is id x i) ((id_key x.token.id, record h { in_use = in_use }) ∷ keyed held)
      ((id_key x.token.id, x) ∷ set_value test (keyed held) (record h { in_use = in_use })))
      ∙ (elim (is_id id x) as (λ b. length (cond b (x ∷ filter (is_id id) held) (filter (is_id id) held)) ≤ 1 →
      cond b (Some x) (find (is_id id) held) ≡ Some h →
      cond b ((id_key x.token.id, record h { in_use = in_use }) ∷ keyed held)
      ((id_key x.token.id, x) ∷ set_value test (keyed held) (record h { in_use = in_use }))
      ≡ keyed ((if b then record x { in_use = in_use } else x) ∷ map (with_use id in_use) held)) [
        | true ↦ λ k e. let same : h ≡ x = grind (arith, e) in
            (λ i. (id_key x.token.id, record (same i) { in_use = in_use })
            ∷ keyed (sym (none_changed in_use held (omega (arith, k))) i))
        | false ↦ λ k e. ap (λ es. (id_key x.token.id, x) ∷ es) (use_keyed in_use held h k e)
      ]) once there

-- a number that no other has
none_like : (id : TokenId) (h : Held) (held : List Held) → is_id id h ≡ true →
    AllByRecursion (λ key. key_eq (id_key h.token.id) key ≡ false) (keys_of (keyed held)) →
    length (filter (is_id id) held) ≡ 0
none_like id h [] same apart = refl
none_like id h (x ∷ held) same apart =
    let rest = none_like id h held same apart.1 in
    let other : is_id id x ≡ false =
    unlike id.server.0 id.epoch id.seq h.token.id.server.0 h.token.id.epoch h.token.id.seq
    x.token.id.server.0 x.token.id.epoch x.token.id.seq same apart.0 in
    ap (λ b. length (cond b (x ∷ filter (is_id id) held) (filter (is_id id) held))) other ∙ rest
  where
    unlike : (a b c x y z u v w : ℕ) → (((x == a) && (y == b)) && (z == c)) ≡ true →
        ((x == u) && ((y == v) && (z == w))) ≡ false → (((u == a) && (v == b)) && (w == c)) ≡ false
    unlike a b c x y z u v w same apart = grind (arith, nat_tests, same, apart)

-- entries whose keys differ are of tokens that are held once
pub once_keyed : (held : List Held) → IsDistinct key_eq (keys_of (keyed held)) → IsOnce held
once_keyed [] distinct id = omega arith
once_keyed (h ∷ held) distinct id =
    let rest = once_keyed held (IsDistinct-tail key_eq (id_key h.token.id) (keys_of (keyed held)) distinct) id in
    let apart = IsDistinct-head key_eq (id_key h.token.id) (keys_of (keyed held)) distinct in
    elim (is_id id h) as (λ b. is_id id h ≡ b →
    length (cond b (h ∷ filter (is_id id) held) (filter (is_id id) held)) ≤ 1) [
      | true ↦ λ e. let none = none_like id h held e apart in omega (arith, none)
      | false ↦ λ e. rest
    ] refl

-- a token more
pub put_keyed : (held : List Held) (h : Held) (entries : LruCache IdKey Held) → entries.entries ≡ keyed held →
    entries.cap ≡ 2 ^ 64 - 1 → length entries.entries < 2 ^ 63 → has_id held h.token.id ≡ false →
    put_entries key_eq entries (id_key h.token.id) h ≡ keyed (h ∷ held)
put_keyed held h entries e cap few new =
    let none : lookup_entry (key_eq (id_key h.token.id)) entries.entries ≡ None =
    ap (lookup_entry (key_eq (id_key h.token.id))) e ∙ entry_keyed h.token.id held
    ∙ ap (option_map (λ x. (id_key x.token.id, x))) (none_any (is_id h.token.id) held new) in
    ap (λ o. option_map_or (λ x. (x.0, h) ∷ remove_entry (key_eq (id_key h.token.id)) entries.entries) o
    ((id_key h.token.id, h) ∷ take (entries.cap - 1) entries.entries)) none
    ∙ ap (λ es. (id_key h.token.id, h) ∷ es) (take_all (entries.cap - 1) entries.entries (omega (arith, few, cap)) ∙ e)

pub once_of : (entries : LruCache IdKey Held) → IsOrder entries → IsDistinct key_eq (keys_of entries.entries) →
    IsOnce (values_of entries.entries)
once_of entries order distinct =
    once_keyed (values_of entries.entries)
    (subst (λ (es : List (IdKey × Held)). IsDistinct key_eq (keys_of es)) order.keys distinct)

pub idle_few : (es : List (IdKey × Held)) → length (filter is_idle (values_of es)) ≤ length es
idle_few [] = omega arith
idle_few (e ∷ es) = grind (arith, cases_Bool (is_idle e.1), idle_few es)

-- ---- the calls
module _ (s : LruCache IdKey Held) (order : IsOrder s) (id : TokenId) (key : IdKey) (is : key ≡ id_key id) where
  abbrev vals : List Held
  vals = values_of s.entries

  pub looked : lookup (key_eq key) s.entries ≡ find (is_id id) vals
  looked =
      ap (λ k. lookup (key_eq k) s.entries) is ∙ ap (lookup (key_eq (id_key id))) order.keys ∙ lookup_keyed id vals

  pub popped : (new : LruCache IdKey Held) → IsDistinct key_eq (keys_of s.entries) →
      new ≡ lru_cache (remove_entry (key_eq key) s.entries) s.cap →
      IsOrder new × (values_of new.entries ≡ without_id id vals)
  popped new distinct made =
      order_from new (without_id id vals)
      (ap (λ (l : LruCache IdKey Held). l.entries) made ∙ ap (λ k. remove_entry (key_eq k) s.entries) is
      ∙ ap (remove_entry (key_eq (id_key id))) order.keys ∙ removed_keyed id vals (once_of s order distinct id))
      (ap (λ (l : LruCache IdKey Held). l.cap) made ∙ order.cap)

  pub moved : (new : LruCache IdKey Held) → IsDistinct key_eq (keys_of s.entries) →
      new ≡ lru_cache (put_first (key_eq key) s.entries) s.cap →
      IsOrder new × (values_of new.entries ≡ brought id vals)
  moved new distinct made =
      order_from new (brought id vals)
      (ap (λ (l : LruCache IdKey Held). l.entries) made ∙ ap (λ k. put_first (key_eq k) s.entries) is
      ∙ ap (put_first (key_eq (id_key id))) order.keys ∙ promoted_keyed id vals (once_of s order distinct id))
      (ap (λ (l : LruCache IdKey Held). l.cap) made ∙ order.cap)

  pub noted : (new : LruCache IdKey Held) (in_use : Bool) (h : Held) → IsDistinct key_eq (keys_of s.entries) →
      lookup (key_eq key) s.entries ≡ Some h →
      new ≡ lru_cache (set_value (key_eq key) s.entries (record h { in_use = in_use })) s.cap →
      IsOrder new × (values_of new.entries ≡ map (with_use id in_use) vals)
  noted new in_use h distinct there made =
      order_from new (map (with_use id in_use) vals)
      (ap (λ (l : LruCache IdKey Held). l.entries) made
      ∙ ap (λ k. set_value (key_eq k) s.entries (record h { in_use = in_use })) is
      ∙ ap (λ es. set_value (key_eq (id_key id)) es (record h { in_use = in_use })) order.keys
      ∙ use_keyed id in_use vals h (once_of s order distinct id) (sym looked ∙ there))
      (ap (λ (l : LruCache IdKey Held). l.cap) made ∙ order.cap)

  pub unnoted : (in_use : Bool) → lookup (key_eq key) s.entries ≡ None → map (with_use id in_use) vals ≡ vals
  unnoted in_use none = none_changed id in_use vals (none_passes (is_id id) vals (sym looked ∙ none))

pub pushed : (s : LruCache IdKey Held) → IsOrder s → (h : Held) (key : IdKey) → key ≡ id_key h.token.id →
    (new : LruCache IdKey Held) → length s.entries < 2 ^ 63 → has_id (values_of s.entries) h.token.id ≡ false →
    new ≡ lru_cache (put_entries key_eq s key h) s.cap →
    IsOrder new × (values_of new.entries ≡ h ∷ values_of s.entries)
pushed s order h key is new few none made =
    order_from new (h ∷ values_of s.entries)
    (ap (λ (l : LruCache IdKey Held). l.entries) made ∙ ap (λ k. put_entries key_eq s k h) is
    ∙ put_keyed (values_of s.entries) h s order.keys order.cap few none)
    (ap (λ (l : LruCache IdKey Held). l.cap) made ∙ order.cap)

-- ---- the last that isn't in use, from the end on
values_push : (es : List (IdKey × Held)) (k : IdKey) (h : Held) → values_of (es ++ (k, h) ∷ []) ≡ values_of es ++ h ∷ []
values_push [] k h = refl
values_push (e ∷ es) k h = ap (λ hs. e.1 ∷ hs) (values_push es k h)

module _ (es rest : List (IdKey × Held)) (k : IdKey) (h : Held) (is : es ≡ rest ++ (k, h) ∷ []) where
  idle_push : filter is_idle (values_of es)
      ≡ filter is_idle (values_of rest) ++ cond (not h.in_use) (h ∷ []) []
  idle_push =
      ap (λ (l : List (IdKey × Held)). filter is_idle (values_of l)) is ∙ ap (filter is_idle) (values_push rest k h)
      ∙ filter-append is_idle (values_of rest) (h ∷ [])

  pub last_idle : h.in_use ≡ false → last_of (filter is_idle (values_of es)) ≡ Some h
  last_idle e =
      ap last_of (idle_push ∙ ap (λ b. filter is_idle (values_of rest) ++ cond (not b) (h ∷ []) []) e)
      ∙ last_push (filter is_idle (values_of rest)) h

  pub last_used : h.in_use ≡ true → last_of (filter is_idle (values_of es)) ≡ last_of (filter is_idle (values_of rest))
  last_used e =
      ap last_of (idle_push ∙ ap (λ b. filter is_idle (values_of rest) ++ cond (not b) (h ∷ []) []) e
      ∙ append-nil (filter is_idle (values_of rest)))

-- there are as many values as entries
pub length_values : (es : List (IdKey × Held)) → length es ≡ length (values_of es)
length_values [] = refl
length_values (e ∷ es) = ap suc (length_values es)
