-- The laws of what a cache shows.
use Rattle.std.proofs.Common.{◌≡◌, ℕ, ◌+◌, ◌-◌, Bool, true, false, not, cond, ◌&&◌, ◌||◌, ◌==◌}
use Rattle.std.proofs.Common.{List, [], ◌∷◌, length, Some, None, refl, sym, ap, ◌∙◌, arith, if◌then◌else◌, All}
use Rattle.std.specs.List.{filter}
use Rattle.std.proofs.lemmas.Bool.{cases_Bool, cond-true, cond-false}
use Rattle.std.proofs.lemmas.Bool.Decides.{nat_tests}
use Rattle.std.proofs.lemmas.Option.{slice_get-get_or}
use Rattle.std.proofs.lemmas.List.Elements.{All-nil, All-cons, filter_passes, All-weaker}
use Rattle.base_types.specs.Image.{byte_at}
use Rattle.base_types.specs.Ids.{same_fid}
use Rattle.base_types.specs.declared.ids.Fid.{Fid}
use Rattle.token_types.specs.Conflicts.{same_id}
use Rattle.token_types.specs.declared.token.TokenId.{TokenId}
use Rattle.host_cache.specs.declared.held.Held.{Held}
use Rattle.host_cache.specs.Bytes.{told_byte, is_within}
use Rattle.host_cache.specs.Holding.{has_id, is_id, without_id, helps_cover, is_idle, last_of}
use Rattle.host_cache.specs.Seen.{after_write}
use Rattle.host_cache.specs.CacheLaws.{Written, Told, Dropped, Used, OldestAt, Oldest, NoneOldest}
use Rattle.host_cache.proofs.Writing.{within, not_within_low, not_within_high}
use Rattle.host_cache.proofs.Filing.{key_itself}

fid_itself : (fid : Fid) → same_fid fid fid ≡ true
fid_itself fid = key_itself (fid.fileset.0, (fid.anode, fid.unique))

pub written : Written
written s file from piece =
    let n = length piece in
    let own : (at : ℕ) → (after_write s file from piece).bytes file at
    ≡ (if is_within from n at then Some (byte_at piece (at - from)) else s.bytes file at) =
    λ at. ap (λ b. if b && is_within from n at then Some (byte_at piece (at - from)) else s.bytes file at)
    (fid_itself file) in
    record {
      inside = λ at lt. let e : from + at - from ≡ at = omega arith in
          own (from + at)
          ∙ cond-true (is_within from n (from + at)) (Some (byte_at piece (from + at - from))) (s.bytes file (from +
          at))
          (within from n (from + at) (omega arith) (omega arith))
          ∙ ap (λ (k : ℕ). Some (byte_at piece k)) e ∙ sym (slice_get-get_or piece at 0 lt);
      below = λ at lt. own at
          ∙ cond-false (is_within from n at) (Some (byte_at piece (at - from))) (s.bytes file at) (not_within_low
          from n at lt);
      behind = λ at le. own at
          ∙ cond-false (is_within from n at) (Some (byte_at piece (at - from))) (s.bytes file at) (not_within_high
          from n at le);
      others = λ fid at apart. ap (λ b. if b && is_within from n at then Some (byte_at piece (at - from)) else
          s.bytes fid at) apart;
    }

pub told : Told
told piece pieces =
    let n = length piece.bytes in
    record {
      first = λ at lt. let e : piece.from + at - piece.from ≡ at = omega arith in
          ap (λ (k : ℕ). Some k) (cond-true (is_within piece.from n (piece.from + at))
          (byte_at piece.bytes (piece.from + at - piece.from)) (told_byte pieces (piece.from + at))
          (within piece.from n (piece.from + at) (omega arith) (omega arith)))
          ∙ ap (λ (k : ℕ). Some (byte_at piece.bytes k)) e ∙ sym (slice_get-get_or piece.bytes at 0 lt);
      below = λ at lt. cond-false (is_within piece.from n at) (byte_at piece.bytes (at - piece.from)) (told_byte
          pieces at)
          (not_within_low piece.from n at lt);
      behind = λ at le. cond-false (is_within piece.from n at) (byte_at piece.bytes (at - piece.from)) (told_byte
          pieces at)
          (not_within_high piece.from n at le);
      none = λ at. refl;
    }

gone : (id : TokenId) (held : List Held) → has_id (without_id id held) id ≡ false
gone id [] = refl
gone id (h ∷ held) = grind (arith, cases_Bool (is_id id h), gone id held)

id_apart : (a b c x y z u v w : ℕ) → (((a == x) && (b == y)) && (c == z)) ≡ false →
    (((u == a) && (v == b)) && (w == c)) ≡ true → (((u == x) && (v == y)) && (w == z)) ≡ false
id_apart a b c x y z u v w apart same = grind (arith, nat_tests, apart, same)

others : (id other : TokenId) → same_id id other ≡ false → (held : List Held) →
    has_id (without_id id held) other ≡ has_id held other
others id other apart [] = refl
others id other apart (h ∷ held) =
    let rest = others id other apart held in
    elim (is_id id h) as (λ b. is_id id h ≡ b →
    has_id (cond (not b) (h ∷ without_id id held) (without_id id held)) other ≡ (is_id other h || has_id held other)) [
      | true ↦ λ e.
          let no : is_id other h ≡ false =
          id_apart id.server.0 id.epoch id.seq other.server.0 other.epoch other.seq h.token.id.server.0 h.token.id.epoch
          h.token.id.seq apart e in
          rest ∙ ap (λ b. b || has_id held other) (sym no)
      | false ↦ λ e. ap (λ b. is_id other h || b) rest
    ] refl

pub dropped : Dropped
dropped s id = record {
  gone = gone id s.held;
  others = λ other apart. others id other apart s.held;
  shown = λ fid at e. ap (λ b. if b then s.bytes fid at else None) e;
  unseen = λ fid at e. ap (λ b. if b then s.bytes fid at else None) e;
}

negated : (b : Bool) → not b ≡ true → b ≡ false
negated true h = sym h
negated false h = refl

pub used_law : Used
used_law need held = record {
  first = filter (λ h. helps_cover need h.token) held;
  last = filter (λ h. not (helps_cover need h.token)) held;
  parts = refl;
  help = filter_passes (λ h. helps_cover need h.token) held;
  others = All-weaker (λ h. not (helps_cover need h.token) ≡ true) (λ h. helps_cover need h.token ≡ false)
      (λ h. negated (helps_cover need h.token)) (filter (λ h. not (helps_cover need h.token)) held)
      (filter_passes (λ h. not (helps_cover need h.token)) held);
  helpers_stay = refl;
  others_stay = refl;
}

last_none : {A : Type 0} (xs : List A) → last_of xs ≡ None → length xs ≡ 0
last_none [] e = refl
last_none (x ∷ []) e = absurd (grind (arith, e))
last_none (x ∷ y ∷ xs) e = let k = last_none (y ∷ xs) e in absurd (omega (arith, k))

all_in_use : (held : List Held) → length (filter is_idle held) ≡ 0 → All (λ (h : Held). h.in_use ≡ true) held
all_in_use [] e = All-nil (λ (h : Held). h.in_use ≡ true)
all_in_use (h ∷ held) e =
    (elim (h.in_use) as (λ b. h.in_use ≡ b → length (cond (not b) (h ∷ filter is_idle held) (filter is_idle held)) ≡ 0 →
    All (λ (x : Held). x.in_use ≡ true) (h ∷ held)) [
      | true ↦ λ f k. All-cons (λ (x : Held). x.in_use ≡ true) h held f (all_in_use held k)
      | false ↦ λ f k. absurd (omega (arith, k))
    ]) refl e

pub none_oldest : NoneOldest
none_oldest held e = all_in_use held (last_none (filter is_idle held) e)

behind_one : (held : List Held) (x h : Held) → OldestAt held h → OldestAt (x ∷ held) h
behind_one held x h o = record {
  before = x ∷ o.before;
  behind = o.behind;
  there = ap (λ hs. x ∷ hs) o.there;
  idle = o.idle;
  in_use = o.in_use;
}

pub oldest : Oldest
oldest [] h e = absurd (grind (arith, e))
oldest (x ∷ held) h e =
    (elim (x.in_use) as (λ b. x.in_use ≡ b →
    last_of (cond (not b) (x ∷ filter is_idle held) (filter is_idle held)) ≡ Some h → OldestAt (x ∷ held) h) [
      | true ↦ λ f k. behind_one held x h (oldest held h k)
      | false ↦ λ f k. by_rest f (oldest held h) (filter is_idle held) refl k
    ]) refl e
  where
    by_rest : x.in_use ≡ false → (last_of (filter is_idle held) ≡ Some h → OldestAt held h) → (rest : List Held) →
        filter is_idle held ≡ rest → last_of (x ∷ rest) ≡ Some h → OldestAt (x ∷ held) h
    by_rest f on [] none k =
        let same : x ≡ h = grind (arith, k) in
        record {
          before = [];
          behind = held;
          there = ap (λ y. y ∷ held) same;
          idle = ap (λ (y : Held). y.in_use) (sym same) ∙ f;
          in_use = all_in_use held (ap (λ (l : List Held). length l) none);
        }
    by_rest f on (y ∷ rest) some k = behind_one held x h (on (ap last_of some ∙ k))
