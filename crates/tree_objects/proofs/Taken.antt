-- A stretch that a write goes on with.
use Rattle.std.proofs.Common.{◌≡◌, ℕ, zero, suc, ◌+◌, ◌-◌, ◌<◌, ◌≤◌, ◌==◌, min, nat_le, nat_lt, Bool, true, ◌&&◌}
use Rattle.std.proofs.Common.{List, [], ◌∷◌, ◌++◌, length, filter, take, drop, get_or, set, length-append}
use Rattle.std.proofs.Common.{length-take, append_assoc, drop-cons, refl, sym, ap, ◌∙◌, subst, arith}
use Rattle.std.specs.List.{list_all, splice}
use Rattle.std.proofs.Math.Seq.{drop-nil}
use Rattle.std.proofs.lemmas.List.{append-nil, length-drop}
use Rattle.std.proofs.lemmas.Grind.{common_steps}
use Rattle.base_types.specs.declared.ids.HostId.{HostId}
use Rattle.base_types.specs.declared.limits.TheConstants.{FILE_BYTES_MAX}
use Rattle.tree_objects.specs.declared.content.Unsaved.{Unsaved}
use Rattle.tree_objects.specs.declared.stretch.Stretch.{Stretch}
use Rattle.tree_objects.specs.Changes.{unsaved_after}
use Rattle.tree_objects.specs.Cuts.{IsCut}
use Rattle.tree_objects.specs.Positions.{written}
use Rattle.tree_objects.specs.Stretches.{bytes_of, all_bytes, is_stretch, reaches, replaced, written_in}
use Rattle.tree_objects.proofs.Observed.{and_left, and_right}
use Rattle.tree_objects.proofs.Rising.{and_both}
use Rattle.tree_objects.proofs.Pieces.{some_of, within_of, made_of, drop_more, below_written, above_written}
use Rattle.tree_objects.proofs.Cuts.{cut_written, each_put}

-- what goes on behind the end was added there before
replaced_front : (bytes part : List ℕ) (n : ℕ) → n ≡ min (length part) (length bytes) → take n part ++ drop
    (length (take n part)) (bytes ++ drop n part) ≡ part ++ drop (length part) bytes
replaced_front [] part n e =
    let z : n ≡ zero = omega (arith, e) in
    rw z (sym (append-nil part) ∙ ap (λ ys. part ++ ys) (sym (drop-nil (length part))))
replaced_front (x ∷ xs) [] n e =
    let z : n ≡ zero = omega (arith, e) in
    rw z (append-nil (x ∷ xs))
replaced_front (x ∷ xs) (p ∷ part) zero e = absurd (omega (arith, e))
replaced_front (x ∷ xs) (p ∷ part) (suc n) e = ap (λ ys. p ∷ ys) (replaced_front xs part n (omega (arith, e)))

replaced_more : (x : ℕ) (xs : List ℕ) (at : ℕ) (part : List ℕ) → replaced (x ∷ xs) (suc at) part ≡ x ∷ replaced xs at
    part
replaced_more x xs at part = let e : suc at + length part ≡ suc (at + length part) = omega arith in rw e refl

pub replaced_whole : (bytes part : List ℕ) (at n : ℕ) → at ≤ length bytes → n ≡ min (length part) (length bytes - at)
    → replaced (bytes ++ drop n part) at (take n part) ≡ replaced bytes at part
replaced_whole bytes part zero n h e =
    let z : zero + length (take n part) ≡ length (take n part) = omega arith in
    let y : zero + length part ≡ length part = omega arith in
    rw (z, y) (replaced_front bytes part n (omega (arith, e)))
replaced_whole [] part (suc at) n h e = absurd (omega (arith, h))
replaced_whole (x ∷ xs) part (suc at) n h e =
    replaced_more x (xs ++ drop n part) at (take n part) ∙ ap (λ ys. x ∷ ys)
    (replaced_whole xs part at n (omega (arith, h)) (omega (arith, e))) ∙ sym (replaced_more x xs at part)

-- how many there are
pub replaced_length : (bytes : List ℕ) (at : ℕ) (part : List ℕ) → at ≤ length bytes → length (replaced bytes at part)
    ≡ at + (length part + (length bytes - (at + length part)))
replaced_length bytes at part h = rw (length-append, length-take, length-append, length-drop) (omega (arith, h))

pub replaced_same : (bytes : List ℕ) (at : ℕ) (part : List ℕ) → at + length part ≤ length bytes → length
    (replaced bytes at part) ≡ length bytes
replaced_same bytes at part h = let long = replaced_length bytes at part (omega (arith, h)) in omega (arith, long, h)

-- a part that is copied in takes the place of others
pub replaced_in : (bytes part : List ℕ) (at n : ℕ) (ys : List ℕ) → n ≡ length part → ys ≡ part → take at bytes ++
    (ys ++ drop n (drop at bytes)) ≡ replaced bytes at part
replaced_in bytes part at n ys e put =
    ap (λ zs. take at bytes ++ (zs ++ drop n (drop at bytes))) put
    ∙ ap (λ zs. take at bytes ++ (part ++ zs)) (sym (drop_more bytes at n) ∙ ap (λ m. drop (at + m) bytes) e)

-- written bytes behind others
written_append : (host : HostId) (from : ℕ) (xs ys : List ℕ) → written host from (xs ++ ys) ≡ written host from xs ++
    written host (from + length xs) ys
written_append host from [] ys = let z : from + zero ≡ from = omega arith in rw z refl
written_append host from (x ∷ xs) ys =
    let z : from + 1 + length xs ≡ from + suc (length xs) = omega arith in
    let first : Unsaved = record { at = from; value = x; writer = host } in
    ap (λ bytes. first ∷ bytes) (written_append host (from + 1) xs ys ∙ ap
    (λ n. written host (from + 1) xs ++ written host n ys) z)

same_host : (a b : HostId) → (a.0 == b.0) ≡ true → a ≡ b
same_host a b h = let n : a.0 ≡ b.0 = grind (arith, common_steps, h) in ap
    (λ i. let id : HostId = record { 0 = i } in id) n

-- the bytes of a stretch in which a host wrote
in_bytes : (s : Stretch) (host : HostId) (from : ℕ) (bytes : List ℕ) → s.writer ≡ host → s.from ≤ from → from ≤
    s.from + length s.bytes
    → bytes_of (written_in s from bytes) ≡ unsaved_after (bytes_of s) host from bytes
in_bytes s host from bytes same begun reached =
    let at = from - s.from in let to = from + length bytes in
    let front = take at s.bytes in let back = drop (at + length bytes) s.bytes in
    let long : length front ≡ at = length-take at s.bytes ∙ omega (arith, begun, reached) in
    let z : s.from + length front ≡ from = omega (arith, long, begun) in
    let n : to - s.from ≡ at + length bytes = omega (arith, begun) in
    let y : s.from + (at + length bytes) ≡ to = omega (arith, begun) in
    let low = below_written s.writer s.from s.bytes from in
    let high : filter (λ byte. nat_le to byte.at) (bytes_of s) ≡ written s.writer to back
    = above_written s.writer s.from s.bytes to ∙ ap (λ k. written s.writer (s.from + k) (drop k s.bytes)) n ∙ ap
    (λ k. written s.writer k back) y in
    written_append s.writer s.from front (bytes ++ back)
    ∙ ap (λ k. written s.writer s.from front ++ written s.writer k (bytes ++ back)) z
    ∙ ap (λ ys. written s.writer s.from front ++ ys) (written_append s.writer from bytes back)
    ∙ ap (λ h. written s.writer s.from front ++ (written h from bytes ++ written s.writer to back)) same
    ∙ ap (λ ys. ys ++ (written host from bytes ++ written s.writer to back)) (sym low)
    ∙ ap (λ ys. filter (λ byte. nat_lt byte.at from) (bytes_of s) ++ (written host from bytes ++ ys)) (sym high)
    ∙ regroup (filter (λ byte. nat_lt byte.at from) (bytes_of s)) (written host from bytes)
    (filter (λ byte. nat_le to byte.at) (bytes_of s))
  where
    regroup : (a b c : List Unsaved) → a ++ (b ++ c) ≡ a ++ b ++ c
    regroup a b c = simp append_assoc

-- it stays a stretch
in_stretch : (s : Stretch) (from : ℕ) (bytes : List ℕ) → is_stretch s ≡ true → s.from ≤ from → from ≤ s.from + length
    s.bytes → from + length bytes ≤ FILE_BYTES_MAX → is_stretch (written_in s from bytes) ≡ true
in_stretch s from bytes k begun reached within =
    let at = from - s.from in
    let some = some_of s k in
    let room = within_of s k in
    let long : length (written_in s from bytes).bytes ≡ at + (length bytes + (length s.bytes - (at + length bytes)))
    = replaced_length s.bytes at bytes (omega (arith, begun, reached)) in
    made_of (written_in s from bytes) (omega (arith, long, some, begun, reached))
    (omega (arith, long, room, begun, reached, within))

-- a part that a host may go on with is one stretch
pub lone_inside : (ss : List Stretch) (i k : ℕ) (b : Bool) → i ≤ k → k ≤ length ss
    → ((length (take (k - i) (drop i ss)) == 1) && b) ≡ true → (k ≡ suc i) × (i < length ss)
lone_inside ss i k b o w h =
    let one : (length (take (k - i) (drop i ss)) == 1) ≡ true = and_left _ _ h in
    let e : length (take (k - i) (drop i ss)) ≡ 1 = grind (arith, common_steps, one) in
    let long = length-take (k - i) (drop i ss) in
    let rest = length-drop i ss in
    let next : k ≡ suc i = omega (arith, e, long, rest, o, w) in
    (next, omega (arith, next, w))

pub record Lone (ss : List Stretch) (host : HostId) (from i k : ℕ) (x : Stretch) : Type 0 where
  pub next : k ≡ suc i
  pub inside : i < length ss
  pub writer : (get_or ss i x).writer ≡ host
  pub begun : (get_or ss i x).from ≤ from
  pub reached : from ≤ (get_or ss i x).from + length (get_or ss i x).bytes
  pub part : take (k - i) (drop i ss) ≡ get_or ss i x ∷ []

-- where it stands, and what is known of it
pub lone_of : (ss : List Stretch) (host : HostId) (from to i k : ℕ) (x : Stretch) → i ≤ k → k ≤ length ss
    → ((length (take (k - i) (drop i ss)) == 1) && list_all (reaches host from to) (take (k - i) (drop i ss))) ≡ true
    → Lone ss host from i k x
lone_of ss host from to i k x o w h =
    let part = take (k - i) (drop i ss) in
    let (next, inside) = lone_inside ss i k _ o w h in
    let n : k - i ≡ suc zero = omega (arith, next) in
    let is : part ≡ get_or ss i x ∷ [] = ap (λ m. take m (drop i ss)) n ∙ ap (take (suc zero))
    (drop-cons ss i x inside) in
    let all : reaches host from to (get_or ss i x) ≡ true = and_left _ _
    (subst (λ xs. list_all (reaches host from to) xs ≡ true) is (and_right _ _ h)) in
    let writer : ((get_or ss i x).writer.0 == host.0) ≡ true = and_left _ _ (and_left _ _ (and_left _ _ all)) in
    let low : nat_le (get_or ss i x).from from ≡ true = and_right _ _ (and_left _ _ (and_left _ _ all)) in
    let high : nat_le from ((get_or ss i x).from + length (get_or ss i x).bytes) ≡ true
    = and_right _ _ (and_left _ _ all) in
    record {
      next = next;
      inside = inside;
      writer = same_host (get_or ss i x).writer host writer;
      begun = grind (arith, common_steps, low);
      reached = grind (arith, common_steps, high);
      part = is;
    }

-- a stretch in the place of another
set_splice : (ss : List Stretch) (i : ℕ) (x : Stretch) → i < length ss → set ss i x ≡ splice ss i (suc i) (x ∷ [])
set_splice [] i x h = absurd (omega (arith, h))
set_splice (s ∷ ss) zero x h = refl
set_splice (s ∷ ss) (suc i) x h = ap (λ ys. s ∷ ys) (set_splice ss i x (omega (arith, h)))

-- a write that a stretch takes
pub taken_bytes : (ss next : List Stretch) (host : HostId) (from : ℕ) (bytes : List ℕ) (i k : ℕ) (x : Stretch)
    → IsCut ss from (from + length bytes) i k → Lone ss host from i k x
    → next ≡ set ss i (written_in (get_or ss i x) from bytes) → all_bytes next ≡ unsaved_after (all_bytes ss) host
    from bytes
taken_bytes ss next host from bytes i k x cut lone e =
    let s = get_or ss i x in let new = written_in s from bytes in
    let put : next ≡ splice ss i k (new ∷ []) = e ∙ set_splice ss i new lone.inside ∙ ap
    (λ n. splice ss i n (new ∷ [])) (sym lone.next) in
    let made : all_bytes (new ∷ []) ≡ unsaved_after (all_bytes (take (k - i) (drop i ss))) host from bytes
    = append-nil (bytes_of new) ∙ in_bytes s host from bytes lone.writer lone.begun lone.reached
    ∙ ap (λ xs. unsaved_after xs host from bytes) (sym (append-nil (bytes_of s)))
    ∙ ap (λ xs. unsaved_after (all_bytes xs) host from bytes) (sym lone.part) in
    cut_written ss (new ∷ []) next host from bytes i k cut made put

pub taken_each : (ss next : List Stretch) (host : HostId) (from : ℕ) (bytes : List ℕ) (i k : ℕ) (x : Stretch)
    → list_all is_stretch ss ≡ true → from + length bytes ≤ FILE_BYTES_MAX → Lone ss host from i k x
    → next ≡ set ss i (written_in (get_or ss i x) from bytes) → list_all is_stretch next ≡ true
taken_each ss next host from bytes i k x each within lone e =
    let s = get_or ss i x in let new = written_in s from bytes in
    let put : next ≡ splice ss i k (new ∷ []) = e ∙ set_splice ss i new lone.inside ∙ ap
    (λ n. splice ss i n (new ∷ [])) (sym lone.next) in
    let stands : is_stretch s ≡ true = at_place ss i lone.inside each in
    each_put ss (new ∷ []) next i k put each (and_both _ _ (in_stretch s from bytes stands lone.begun lone.reached
    within) refl)
  where
    at_place : (ss : List Stretch) (i : ℕ) → i < length ss → list_all is_stretch ss ≡ true → is_stretch
        (get_or ss i x) ≡ true
    at_place [] i l h = absurd (omega (arith, l))
    at_place (s ∷ ss) zero l h = and_left _ _ h
    at_place (s ∷ ss) (suc i) l h = at_place ss i (omega (arith, l)) (and_right _ _ h)
