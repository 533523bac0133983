-- What is kept of each file, where one changes.
use Rattle.std.proofs.Common.{◌≡◌, ◌≤◌, ◌<◌, ℕ, zero, suc, Bool, true, false}
use Rattle.std.proofs.Common.{not, cond, ◌&&◌, ◌==◌, List, [], length, Option, Some}
use Rattle.std.proofs.Common.{None, refl, sym, ap, ◌∙◌, subst, arith, if◌then◌else◌, unwrap_or}
use Rattle.std.proofs.Common.{is_some, ne_eqb, All, IsSome, Result, Ok, Err, OnErr, OnOk}
use Rattle.std.specs.List.{filter, list_any}
use Rattle.std.specs.Map.{lookup}
use Rattle.std.proofs.lemmas.Bool.{eqb-true, and_parts, cond-false}
use Rattle.std.proofs.lemmas.Bool.Decides.{nat_tests}
use Rattle.std.proofs.lemmas.List.Elements.{All-nil, All-cons, All-filter, All-append, All-weaker}
use Rattle.tree_calls.specs.declared.part.DirEntry.{DirEntry}
use Rattle.tree_calls.specs.declared.part.Piece.{Piece}
use Rattle.tree_calls.specs.declared.part.Status.{Status as StatusOf}
use Rattle.token_types.specs.Conflicts.{same_id}
use Rattle.token_types.specs.declared.token.Kind.{Kind}
use Rattle.token_types.specs.declared.token.Kind.TheVariants.{Bytes, Status, Lock, Opening}
use Rattle.token_types.specs.declared.token.Need.{Need}
use Rattle.token_types.specs.declared.token.Token.{Token}
use Rattle.token_types.specs.declared.token.TokenId.{TokenId}
use Rattle.host_cache.specs.declared.held.Held.{Held}
use Rattle.host_cache.specs.Holding.{helps_cover, helpers_first, tells_at}
use Rattle.host_cache.specs.Files.{FileKey, same_key, nothing, parts_at, Puts, left, told_by}
use Rattle.host_cache.specs.Files.{HasRoom, Grows, Learns, Writes, without_token, IsRoomy}
use Rattle.host_cache.specs.Parts.{Parts}

-- how a table compares keys
abbrev pub hash_eq : FileKey → FileKey → Bool
hash_eq a b = (a.0 == b.0) && ((a.1.0 == b.1.0) && (a.1.1 == b.1.1))

regrouped : (x y z : Bool) → (x && (y && z)) ≡ ((x && y) && z)
regrouped true y z = refl
regrouped false y z = refl

pub hash_is : (a b : FileKey) → hash_eq a b ≡ same_key a b
hash_is a b = regrouped (a.0 == b.0) (a.1.0 == b.1.0) (a.1.1 == b.1.1)

pub lookup_is : (files : List (FileKey × Parts)) (key : FileKey) →
    lookup (hash_eq key) files ≡ lookup (same_key key) files
lookup_is files key = λ i. lookup (λ k. hash_is key k i) files

pub parts_are : (files : List (FileKey × Parts)) (key : FileKey) →
    unwrap_or (lookup (hash_eq key) files) nothing ≡ parts_at files key
parts_are files key = ap (λ o. unwrap_or o nothing) (lookup_is files key)

pub key_same : (a b : FileKey) → same_key a b ≡ true → a ≡ b
key_same a b h =
    let both = and_parts ((a.0 == b.0) && (a.1.0 == b.1.0)) (a.1.1 == b.1.1) h in
    let first = and_parts (a.0 == b.0) (a.1.0 == b.1.0) both.0 in
    let x : a.0 ≡ b.0 = eqb-true a.0 b.0 first.0 in
    let y : a.1.0 ≡ b.1.0 = eqb-true a.1.0 b.1.0 first.1 in
    let z : a.1.1 ≡ b.1.1 = eqb-true a.1.1 b.1.1 both.1 in
    λ i. (x i, (y i, z i))

pub key_itself : (a : FileKey) → same_key a a ≡ true
key_itself a = numbers_same a.0 a.1.0 a.1.1
  where
    numbers_same : (x y z : ℕ) → (((x == x) && (y == y)) && (z == z)) ≡ true
    numbers_same x y z = grind (arith, nat_tests)

unwrapped : (b : Bool) (w o : Option Parts) →
    unwrap_or (cond b w o) nothing ≡ (if b then unwrap_or w nothing else unwrap_or o nothing)
unwrapped true w o = refl
unwrapped false w o = refl

-- the files after a change at one key
pub puts : (old new : List (FileKey × Parts)) (key : FileKey) (w : Option Parts) →
    ((q : FileKey) → lookup (hash_eq q) new ≡ cond (hash_eq key q) w (lookup (hash_eq q) old)) →
    Puts old key (unwrap_or w nothing) new
puts old new key w h other =
    sym (parts_are new other) ∙ ap (λ o. unwrap_or o nothing) (h other)
    ∙ unwrapped (hash_eq key other) w (lookup (hash_eq other) old)
    ∙ (λ i. if hash_is key other i then unwrap_or w nothing else parts_are old other i)

pub put_here : (old new : List (FileKey × Parts)) (key : FileKey) (w : Parts) → Puts old key w new →
    parts_at new key ≡ w
put_here old new key w h = h key ∙ ap (λ b. if b then w else parts_at old key) (key_itself key)

pub put_elsewhere : (old new : List (FileKey × Parts)) (key : FileKey) (w : Parts) → Puts old key w new →
    (other : FileKey) → same_key key other ≡ false → parts_at new other ≡ parts_at old other
put_elsewhere old new key w h other apart = h other ∙ ap (λ b. if b then w else parts_at old other) apart

-- the same put again
pub puts_same : (files : List (FileKey × Parts)) (key : FileKey) → Puts files key (parts_at files key) files
puts_same files key other =
    elim (same_key key other) as (λ b. same_key key other ≡ b →
    parts_at files other ≡ (if b then parts_at files key else parts_at files other)) [
      | true ↦ λ e. ap (parts_at files) (sym (key_same key other e))
      | false ↦ λ e. refl
    ] refl

-- what holds at one key and stays elsewhere holds at each
pub each_key : (old new : List (FileKey × Parts)) (key : FileKey) (w : Parts) → Puts old key w new →
    (P : FileKey → Parts → Type 0) → P key w → ((other : FileKey) → same_key key other
    ≡ false → P other (parts_at old other)) →
    (k : FileKey) → P k (parts_at new k)
each_key old new key w h P here there k =
    subst (P k) (sym (h k))
    (elim (same_key key k) as (λ b. same_key key k ≡ b → P k (if b then w else parts_at old k)) [
      | true ↦ λ e. subst (λ q. P q w) (key_same key k e) here
      | false ↦ λ e. there k e
    ] refl)

-- ---- room
grown_room : (kind : Kind) (old new : List ℕ) → length old ≤ length new → HasRoom kind old → HasRoom kind new
grown_room (Bytes update span) old new le room = omega (arith, le, room)
grown_room (Status update) old new le room = tt
grown_room (Lock writing span) old new le room = tt
grown_room (Opening kind) old new le room = tt

pub room_grown : (tokens : List Token) (old new : List ℕ) → length old ≤ length new →
    All (λ (t : Token). HasRoom t.kind old) tokens → All (λ (t : Token). HasRoom t.kind new) tokens
room_grown tokens old new le room =
    All-weaker (λ (t : Token). HasRoom t.kind old) (λ (t : Token). HasRoom t.kind new)
    (λ t. grown_room t.kind old new le) tokens room

module _ (old new : Parts) where
  pub grows_roomy : Grows old new → IsRoomy old → IsRoomy new
  grows_roomy g room =
      subst (λ (tokens : List Token). All (λ (t : Token). HasRoom t.kind new.bytes) tokens) (sym g.tokens)
      (room_grown old.tokens old.bytes new.bytes g.room room)

  pub learns_roomy : (token : Token) (told : Option StatusOf) (pieces : List Piece) (names : List DirEntry) →
      Learns token told pieces names old new →
      HasRoom token.kind old.bytes → IsRoomy old → IsRoomy new
  learns_roomy token told pieces names l fits room =
      let le : length old.bytes ≤ length new.bytes = omega (arith, l.room) in
      subst (λ (tokens : List Token). All (λ (t : Token). HasRoom t.kind new.bytes) tokens) (sym l.tokens)
      (All-cons (λ (t : Token). HasRoom t.kind new.bytes) token old.tokens
      (grown_room token.kind old.bytes new.bytes le fits) (room_grown old.tokens old.bytes new.bytes le room))

  pub writes_roomy : (from : ℕ) (piece : List ℕ) → Writes from piece old new → IsRoomy old → IsRoomy new
  writes_roomy from piece w room =
      let le : length old.bytes ≤ length new.bytes = omega (arith, w.room) in
      subst (λ (tokens : List Token). All (λ (t : Token). HasRoom t.kind new.bytes) tokens) (sym w.tokens)
      (room_grown old.tokens old.bytes new.bytes le room)

pub left_roomy : (parts : Parts) (id : TokenId) → IsRoomy parts → IsRoomy (left (without_token id parts))
left_roomy parts id room =
    let kept = All-filter (λ (t : Token). not (same_id t.id id)) (λ (t : Token). HasRoom t.kind parts.bytes)
    parts.tokens room in
    elim (length (without_token id parts).tokens == 0) as (λ b.
    IsRoomy (if b then nothing else without_token id parts)) [
      | true ↦ All-nil (λ (t : Token). HasRoom t.kind [])
      | false ↦ kept
    ]

pub first_roomy : (parts : Parts) (need : Need) → IsRoomy parts →
    IsRoomy (record parts { tokens = helpers_first need parts.tokens })
first_roomy parts need room =
    let fits = λ (t : Token). HasRoom t.kind parts.bytes in
    All-append fits (filter (helps_cover need) parts.tokens) (filter (λ t. not (helps_cover need t)) parts.tokens)
    (All-filter (helps_cover need) fits parts.tokens room)
    (All-filter (λ t. not (helps_cover need t)) fits parts.tokens room)

-- ---- what is kept of the file that a table lends
module _ (old : List (FileKey × Parts)) (key : FileKey) where
  pub found : (was : Parts) → lookup (hash_eq key) old ≡ Some was → parts_at old key ≡ was
  found was there = sym (parts_are old key) ∙ ap (λ o. unwrap_or o nothing) there

  pub absent : lookup (hash_eq key) old ≡ None → parts_at old key ≡ nothing
  absent none = sym (parts_are old key) ∙ ap (λ o. unwrap_or o nothing) none

  pub lent : (new : List (FileKey × Parts)) (was w : Parts) → lookup (hash_eq key) old ≡ Some was →
      (IsSome (lookup (hash_eq key) old) →
      (q : FileKey) → lookup (hash_eq q) new ≡ cond (hash_eq key q) (Some w) (lookup (hash_eq q) old)) →
      Puts old key w new
  lent new was w there updates = puts old new key (Some w) (updates (ap (λ o. is_some o) there))

pub grows_itself : (p : Parts) → Grows p p
grows_itself p = record {
  tokens = refl;
  status = refl;
  entries = refl;
  room = omega arith;
  bytes = λ at. refl;
}

-- more room in one file
pub room_made : (old new : List (FileKey × Parts)) (key : FileKey) (w : Parts) → Puts old key w new →
    Grows (parts_at old key) w → (k : FileKey) → Grows (parts_at old k) (parts_at new k)
room_made old new key w put grows =
    each_key old new key w put (λ k parts. Grows (parts_at old k) parts) grows
    (λ other apart. grows_itself (parts_at old other))

-- two changes of one file
pub puts_twice : (old mid new : List (FileKey × Parts)) (key : FileKey) (v w : Parts) → Puts old key v mid →
    Puts mid key w new → Puts old key w new
puts_twice old mid new key v w first second other =
    second other ∙ (elim (same_key key other) as (λ b. same_key key other ≡ b →
    (if b then w else parts_at mid other) ≡ (if b then w else parts_at old other)) [
      | true ↦ λ e. refl
      | false ↦ λ e. put_elsewhere old mid key v first other e
    ] refl)

-- the same, where the key is known by its file
module _ (old : List (FileKey × Parts)) (key k : FileKey) (is : k ≡ key) where
  pub lent_at : (new : List (FileKey × Parts)) (was w : Parts) → Some was ≡ lookup (hash_eq k) old →
      (IsSome (lookup (hash_eq k) old) →
      (q : FileKey) → lookup (hash_eq q) new ≡ cond (hash_eq k q) (Some w) (lookup (hash_eq q) old)) →
      Puts old key w new × (parts_at old key ≡ was)
  lent_at new was w there updates =
      subst (λ q. Puts old q w new × (parts_at old q ≡ was)) is
      (lent old k new was w (sym there) updates, found old k was (sym there))

  pub found_at : (was : Parts) → Some was ≡ lookup (hash_eq k) old → parts_at old key ≡ was
  found_at was there = subst (λ q. parts_at old q ≡ was) is (found old k was (sym there))

  pub absent_at : None ≡ lookup (hash_eq k) old → parts_at old key ≡ nothing
  absent_at none = subst (λ q. parts_at old q ≡ nothing) is (absent old k (sym none))

-- nothing is kept of a file without tokens, and all of one with some
pub left_none : (p : Parts) → length p.tokens ≡ 0 → left p ≡ nothing
left_none p none = ap (λ (n : ℕ). if n == 0 then nothing else p) none

pub left_some : (p : Parts) → 0 < length p.tokens → left p ≡ p
left_some p some = by_count (length p.tokens) some
  where
    by_count : (n : ℕ) → 0 < n → (if n == 0 then nothing else p) ≡ p
    by_count zero lt = absurd (omega (arith, lt))
    by_count (suc n) lt = cond-false (suc n == 0) nothing p (ne_eqb (suc n) 0 (λ e. omega (arith, e)))

-- a status is forgotten, or stays
module _ (held : List Held) (p : Parts) where
  abbrev any_tells : Bool
  any_tells = list_any (λ (t : Token). tells_at held t.id) p.tokens

  pub told_none : any_tells ≡ false → told_by held p ≡ record p { status = None }
  told_none e = λ i. record p { status = if e i then p.status else None }

  pub told_some : any_tells ≡ true → told_by held p ≡ p
  told_some e = λ i. record p { status = if e i then p.status else None }

pub on_err : {A E P : Type 0} (r : Result A E) → P → OnErr r P
on_err (Ok a) p = tt
on_err (Err e) p = p

pub on_err_then : {A E P Q : Type 0} (r : Result A E) → OnErr r P → (P → Q) → OnErr r Q
on_err_then (Ok a) p f = tt
on_err_then (Err e) p f = f p

pub some_there : (n : ℕ) → false ≡ (n == 0) → 0 < n
some_there n h = grind (arith, nat_tests, h)

pub none_there : (n : ℕ) → true ≡ (n == 0) → n ≡ 0
none_there n h = eqb-true n 0 (sym h)

-- where the file is put as it was, all files are
pub put_same : (old new : List (FileKey × Parts)) (key : FileKey) (w : Parts) → Puts old key w new →
    w ≡ parts_at old key → (k : FileKey) → parts_at new k ≡ parts_at old k
put_same old new key w put same k =
    put k ∙ (λ i. if same_key key k then same i else parts_at old k) ∙ sym (puts_same old key k)

pub on_ok_then : {A E P Q : Type 0} (r : Result A E) → OnOk r P → (P → Q) → OnOk r Q
on_ok_then (Ok a) p f = f p
on_ok_then (Err e) p f = tt
