-- What a file shows at one position after each change.
use Rattle.std.proofs.Common.{◌≡◌, ℕ, zero, suc, ◌+◌, ◌-◌, ◌<◌, ◌≤◌, ◌==◌, nat_le, nat_lt, Bool, true, false, ◌&&◌, not, cond, List, [], ◌∷◌, ◌++◌, length, filter, get_or, replicate, min, length-append, length-take, Option, Some, None, unwrap_or, refl, ap, ◌∙◌, subst, arith, inl, inr, rules}
use Rattle.std.specs.List.{list_all}
use Rattle.std.specs.Option.{option_map_or}
use Rattle.std.proofs.lemmas.Grind.{common_steps}
use Rattle.std.proofs.lemmas.List.Folds.{find-append}
use Rattle.std.specs.Option.{option_or}
use Rattle.std.proofs.lemmas.List.{length-replicate}
use Rattle.std.proofs.lemmas.Bool.Decides.{leb_tells, eqb_tells}
use Rattle.base_types.specs.declared.ids.HostId.{HostId}
use Rattle.base_types.specs.declared.span.Span.{Span}
use Rattle.base_types.specs.declared.access.AccessEntry.{AccessEntry}
use Rattle.base_types.specs.Image.{byte_at}
use Rattle.tree_objects.specs.declared.content.Unsaved.{Unsaved}
use Rattle.tree_objects.specs.declared.content.UnsavedLength.{UnsavedLength}
use Rattle.tree_objects.specs.declared.content.Content.TheVariants.{File}
use Rattle.tree_objects.specs.Files.{present_length, present_bytes, unsaved_at, byte_over, bytes_over, resized, content_bytes}
use Rattle.tree_objects.specs.Changes.{written, unsaved_after, content_written, content_truncated, content_forgotten, content_as_cloned}
use Rattle.tree_objects.specs.Stores.{is_stored, content_stored, content_synced, own_length}
use Rattle.tree_objects.specs.Positions.{positions_rise}
use Rattle.tree_objects.specs.Spans.{whole}
use Rattle.tree_objects.specs.Shown.{Shown, shown, present_byte, shown_written, shown_kept, shown_stored, others_byte, shown_forgotten}

-- the byte at a place among so many
pub over_at : (kept : List ℕ) (unsaved : List Unsaved) (at n i : ℕ) → i < n → get_or (bytes_over kept unsaved at n) i 0 ≡ byte_over kept unsaved (at + i)
over_at kept unsaved at zero i h = absurd (omega (arith, h))
over_at kept unsaved at (suc n) zero h = let e : at + zero ≡ at = omega arith in rw e refl
over_at kept unsaved at (suc n) (suc i) h = let e : at + suc i ≡ suc at + i = omega arith in rw e (over_at kept unsaved (suc at) n i (omega (arith, h)))

-- how many bytes there are
pub over_length : (kept : List ℕ) (unsaved : List Unsaved) (at n : ℕ) → length (bytes_over kept unsaved at n) ≡ n
over_length kept unsaved at zero = refl
over_length kept unsaved at (suc n) = ap suc (over_length kept unsaved (suc at) n)

-- nothing stands past the end
pub get_past : (xs : List ℕ) (i : ℕ) → length xs ≤ i → get_or xs i 0 ≡ 0
get_past [] i h = refl
get_past (x ∷ xs) zero h = absurd (omega (arith, h))
get_past (x ∷ xs) (suc i) h = get_past xs i (omega (arith, h))

-- both hold
pub and_left : (a b : Bool) → (a && b) ≡ true → a ≡ true
and_left true b h = refl
and_left false b h = h

pub and_right : (a b : Bool) → (a && b) ≡ true → b ≡ true
and_right true b h = h
and_right false b h = absurd (search (rules, h))

-- a value that passes a test
abbrev pub passing : (Unsaved → Bool) → Option Unsaved → Option Unsaved
passing test None = None
passing test (Some byte) = cond (test byte) (Some byte) None

-- what is found by position among the bytes that pass a test that goes by position
pub find_filter : (test : Unsaved → Bool) (b : Bool) (at : ℕ) → ((byte : Unsaved) → byte.at ≡ at → test byte ≡ b) → (unsaved : List Unsaved) → unsaved_at (filter test unsaved) at ≡ cond b (unsaved_at unsaved at) None
find_filter test true at h [] = refl
find_filter test false at h [] = refl
find_filter test true at h (x ∷ xs) =
    elim (eqb_tells x.at at) as (λ _. unsaved_at (filter test (x ∷ xs)) at ≡ unsaved_at (x ∷ xs) at) [
      | inl (e, k) ↦ rw (h x k) (rw e refl)
      | inr (e, k) ↦ elim (test x) as (λ t. unsaved_at (cond t (x ∷ filter test xs) (filter test xs)) at ≡ unsaved_at (x ∷ xs) at)
          [ true ↦ rw e (find_filter test true at h xs) | false ↦ rw e (find_filter test true at h xs) ]
    ]
find_filter test false at h (x ∷ xs) =
    elim (eqb_tells x.at at) as (λ _. unsaved_at (filter test (x ∷ xs)) at ≡ None) [
      | inl (e, k) ↦ rw (h x k) (find_filter test false at h xs)
      | inr (e, k) ↦ elim (test x) as (λ t. unsaved_at (cond t (x ∷ filter test xs) (filter test xs)) at ≡ None)
          [ true ↦ rw e (find_filter test false at h xs) | false ↦ find_filter test false at h xs ]
    ]

-- nothing is found below all positions
find_above : (test : Unsaved → Bool) (at : ℕ) (unsaved : List Unsaved) → list_all (λ other. nat_lt at other.at) unsaved ≡ true → unsaved_at (filter test unsaved) at ≡ None
find_above test at [] h = refl
find_above test at (x ∷ xs) h =
    let above : nat_lt at x.at ≡ true = and_left _ _ h in
    let e : (x.at == at) ≡ false = grind (arith, common_steps, above) in
    let rest : unsaved_at (filter test xs) at ≡ None = find_above test at xs (and_right _ _ h) in
    elim (test x) as (λ t. unsaved_at (cond t (x ∷ filter test xs) (filter test xs)) at ≡ None)
    [ true ↦ rw e rest | false ↦ rest ]

-- what is found by position among the bytes that pass a test, where positions rise
pub find_rising : (test : Unsaved → Bool) (at : ℕ) (unsaved : List Unsaved) → positions_rise unsaved ≡ true → unsaved_at (filter test unsaved) at ≡ passing test (unsaved_at unsaved at)
find_rising test at [] h = refl
find_rising test at (x ∷ xs) h =
    elim (eqb_tells x.at at) as (λ _. unsaved_at (filter test (x ∷ xs)) at ≡ passing test (unsaved_at (x ∷ xs) at)) [
      | inl (e, k) ↦ rw e (elim (test x) as (λ t. unsaved_at (cond t (x ∷ filter test xs) (filter test xs)) at ≡ cond t (Some x) None)
          [ true ↦ rw e refl | false ↦ find_above test at xs (subst (λ p. list_all (λ other. nat_lt p other.at) xs ≡ true) k (and_left _ _ h)) ])
      | inr (e, k) ↦ rw e (elim (test x) as (λ t. unsaved_at (cond t (x ∷ filter test xs) (filter test xs)) at ≡ passing test (unsaved_at xs at))
          [ true ↦ rw e (find_rising test at xs (and_right _ _ h)) | false ↦ find_rising test at xs (and_right _ _ h) ])
    ]

-- a written byte is found at its position
written_at : (host : HostId) (from : ℕ) (bytes : List ℕ) (at : ℕ) → from ≤ at → at < from + length bytes → unsaved_at (written host from bytes) at ≡ Some (record { at = at; value = get_or bytes (at - from) 0; writer = host })
written_at host from [] at h k = absurd (omega (arith, h, k))
written_at host from (x ∷ xs) at h k =
    elim (eqb_tells from at) as (λ _. unsaved_at (written host from (x ∷ xs)) at ≡ Some (record { at = at; value = get_or (x ∷ xs) (at - from) 0; writer = host })) [
      | inl (e, same) ↦
          let z : at - from ≡ zero = omega (arith, same) in
          let found : Option Unsaved = Some (record { at = at; value = x; writer = host }) in
          rw z (rw e (ap (λ p. Some (record { at = p; value = x; writer = host })) same))
      | inr (e, other) ↦
          let z : at - from ≡ suc (at - (from + 1)) = omega (arith, other, h) in
          rw z (rw e (written_at host (from + 1) xs at (omega (arith, other, h)) (omega (arith, k))))
    ]

-- none below the first
written_below : (host : HostId) (from : ℕ) (bytes : List ℕ) (at : ℕ) → at < from → unsaved_at (written host from bytes) at ≡ None
written_below host from [] at h = refl
written_below host from (x ∷ xs) at h =
    let e : (from == at) ≡ false = grind (arith, common_steps, h) in
    rw e (written_below host (from + 1) xs at (omega (arith, h)))

-- none above the last
written_above : (host : HostId) (from : ℕ) (bytes : List ℕ) (at : ℕ) → from + length bytes ≤ at → unsaved_at (written host from bytes) at ≡ None
written_above host from [] at h = refl
written_above host from (x ∷ xs) at h =
    let e : (from == at) ≡ false = grind (arith, common_steps, h) in
    rw e (written_above host (from + 1) xs at (omega (arith, h)))

-- what is found in three parts
find_three : (xs ys zs : List Unsaved) (at : ℕ) → unsaved_at (xs ++ ys ++ zs) at ≡ option_or (option_or (unsaved_at xs at) (unsaved_at ys at)) (unsaved_at zs at)
find_three xs ys zs at =
    find-append (λ byte. byte.at == at) (xs ++ ys) zs
    ∙ ap (λ o. option_or o (unsaved_at zs at)) (find-append (λ byte. byte.at == at) xs ys)

-- or nothing
or_none : (o : Option Unsaved) → option_or o None ≡ o
or_none None = refl
or_none (Some byte) = refl

-- one of three parts has the position
placed : (from len at : ℕ) (here among : Option Unsaved) (x : Unsaved) → (at < from → among ≡ None) → (from + len ≤ at → among ≡ None) → (from ≤ at → at < from + len → among ≡ Some x) →
    option_or (option_or (cond (nat_lt at from) here None) among) (cond (nat_le (from + len) at) here None) ≡ cond (nat_le from at && nat_lt at (from + len)) (Some x) here
placed from len at here among x below above within =
    elim (leb_tells from at) as (λ _. option_or (option_or (cond (nat_lt at from) here None) among) (cond (nat_le (from + len) at) here None) ≡ cond (nat_le from at && nat_lt at (from + len)) (Some x) here) [
      | inl (e, h) ↦
          let f : nat_lt at from ≡ false = grind (arith, common_steps, h) in
          elim (leb_tells (from + len) at) as (λ _. option_or (option_or (cond (nat_lt at from) here None) among) (cond (nat_le (from + len) at) here None) ≡ cond (nat_le from at && nat_lt at (from + len)) (Some x) here) [
            | inl (g, k) ↦ let l : nat_lt at (from + len) ≡ false = grind (arith, common_steps, k) in rw (e, f, g, l, above k) refl
            | inr (g, k) ↦ let l : nat_lt at (from + len) ≡ true = grind (arith, common_steps, k) in rw (e, f, g, l, within h k) refl
          ]
      | inr (e, h) ↦
          let f : nat_lt at from ≡ true = grind (arith, common_steps, h) in
          let g : nat_le (from + len) at ≡ false = grind (arith, common_steps, h) in
          rw (e, f, g, below h) (or_none (option_or here None) ∙ or_none here)
    ]

-- an unsaved byte after a write
unsaved_written : (unsaved : List Unsaved) (host : HostId) (from : ℕ) (bytes : List ℕ) (at : ℕ) →
    unsaved_at (unsaved_after unsaved host from bytes) at
    ≡ cond (nat_le from at && nat_lt at (from + length bytes)) (Some (record { at = at; value = byte_at bytes (at - from); writer = host })) (unsaved_at unsaved at)
unsaved_written unsaved host from bytes at =
    let below = find_filter (λ byte. nat_lt byte.at from) (nat_lt at from) at (λ byte k. ap (λ p. nat_lt p from) k) unsaved in
    let above = find_filter (λ byte. nat_le (from + length bytes) byte.at) (nat_le (from + length bytes) at) at (λ byte k. ap (λ p. nat_le (from + length bytes) p) k) unsaved in
    let found : unsaved_at (unsaved_after unsaved host from bytes) at ≡ option_or (option_or (cond (nat_lt at from) (unsaved_at unsaved at) None) (unsaved_at (written host from bytes) at)) (cond (nat_le (from + length bytes) at) (unsaved_at unsaved at) None)
    = find_three (filter (λ byte. nat_lt byte.at from) unsaved) (written host from bytes) (filter (λ byte. nat_le (from + length bytes) byte.at) unsaved) at
    ∙ ap (λ o. option_or (option_or o (unsaved_at (written host from bytes) at)) (unsaved_at (filter (λ byte. nat_le (from + length bytes) byte.at) unsaved) at)) below
    ∙ ap (λ o. option_or (option_or (cond (nat_lt at from) (unsaved_at unsaved at) None) (unsaved_at (written host from bytes) at)) o) above in
    found ∙ placed from (length bytes) at (unsaved_at unsaved at) (unsaved_at (written host from bytes) at) (record { at = at; value = byte_at bytes (at - from); writer = host })
    (written_below host from bytes at) (written_above host from bytes at) (written_at host from bytes at)

-- a choice of two records that differ in one field
shown_choice : (b : Bool) (kept : ℕ) (x y : Option Unsaved) → record { kept = kept; unsaved = cond b x y } ≡ cond {A = Shown} b (record { kept = kept; unsaved = x }) (record { kept = kept; unsaved = y })
shown_choice true kept x y = refl
shown_choice false kept x y = refl

-- after a write
pub shown_after_write : (host : HostId) (from : ℕ) (bytes : List ℕ) (list : List AccessEntry) (kept : List ℕ) (unsaved : List Unsaved) (len : Option UnsavedLength) (at : ℕ) →
    shown (content_written host from bytes (File list kept unsaved len)) at ≡ shown_written host from bytes at (shown (File list kept unsaved len) at)
shown_after_write host from [] list kept unsaved len at =
    elim (leb_tells from at) as (λ _. shown (File list kept unsaved len) at ≡ shown_written host from [] at (shown (File list kept unsaved len) at)) [
      | inl (e, h) ↦ let l : nat_lt at (from + zero) ≡ false = grind (arith, common_steps, h) in rw (e, l) refl
      | inr (e, h) ↦ rw e refl
    ]
shown_after_write host from (v ∷ vs) list kept unsaved len at =
    ap (λ o. let here : Shown = record { kept = byte_at kept at; unsaved = o } in here) (unsaved_written unsaved host from (v ∷ vs) at)
    ∙ shown_choice _ _ _ _

-- a byte among the first of some
pub over_get : (kept : List ℕ) (unsaved : List Unsaved) (end at : ℕ) → get_or (bytes_over kept unsaved 0 end) at 0 ≡ cond (nat_lt at end) (byte_over kept unsaved at) 0
over_get kept unsaved end at =
    elim (leb_tells (suc at) end) as (λ _. get_or (bytes_over kept unsaved 0 end) at 0 ≡ cond (nat_lt at end) (byte_over kept unsaved at) 0) [
      | inl (e, h) ↦
          let l : nat_lt at end ≡ true = grind (arith, common_steps, h) in
          let z : 0 + at ≡ at = omega arith in
          rw l (over_at kept unsaved 0 end at (omega (arith, h)) ∙ ap (λ p. byte_over kept unsaved p) z)
      | inr (e, h) ↦
          let l : nat_lt at end ≡ false = grind (arith, common_steps, h) in
          let n = over_length kept unsaved 0 end in
          rw l (get_past (bytes_over kept unsaved 0 end) at (omega (arith, n, h)))
    ]

-- the byte that readers see at a position, which is none behind the last one
pub present_shown : (list : List AccessEntry) (kept : List ℕ) (unsaved : List Unsaved) (len : Option UnsavedLength) (at : ℕ) →
    byte_at (content_bytes (File list kept unsaved len)) at ≡ cond (nat_lt at (present_length kept len)) (present_byte (shown (File list kept unsaved len) at)) 0
present_shown list kept unsaved len at = over_get kept unsaved (present_length kept len) at

-- a clone holds what readers see
pub shown_in_clone : (list : List AccessEntry) (kept : List ℕ) (unsaved : List Unsaved) (len : Option UnsavedLength) (at : ℕ) →
    shown (content_as_cloned (File list kept unsaved len)) at ≡ shown_kept (present_length kept len) at (shown (File list kept unsaved len) at)
shown_in_clone list kept unsaved len at =
    ap (λ b. let here : Shown = record { kept = b; unsaved = None } in here) (over_get kept unsaved (present_length kept len) at)

-- zeros
get_zeros : (n i : ℕ) → ◌≡◌ {A = ℕ} (get_or (replicate n 0) i 0) 0
get_zeros zero i = refl
get_zeros (suc n) zero = refl
get_zeros (suc n) (suc i) = get_zeros n i

-- a byte among the first of some, with zeros where there are fewer
get_resized_below : (xs : List ℕ) (n i : ℕ) → i < n → get_or (resized xs n) i 0 ≡ get_or xs i 0
get_resized_below [] zero i h = absurd (omega (arith, h))
get_resized_below [] (suc n) i h = get_zeros (suc n - zero) i
get_resized_below (x ∷ xs) zero i h = absurd (omega (arith, h))
get_resized_below (x ∷ xs) (suc n) zero h = refl
get_resized_below (x ∷ xs) (suc n) (suc i) h = let e : suc n - suc (length xs) ≡ n - length xs = omega arith in rw e (get_resized_below xs n i (omega (arith, h)))

-- how many bytes there are
pub length_resized : (xs : List ℕ) (n : ℕ) → length (resized xs n) ≡ n
length_resized xs n = rw (length-append, length-take, length-replicate) (omega arith)

-- a byte of a list that was cut or filled with zeros
get_resized : (xs : List ℕ) (n i : ℕ) → get_or (resized xs n) i 0 ≡ cond (nat_lt i n) (get_or xs i 0) 0
get_resized xs n i =
    elim (leb_tells (suc i) n) as (λ _. get_or (resized xs n) i 0 ≡ cond (nat_lt i n) (get_or xs i 0) 0) [
      | inl (e, h) ↦ let l : nat_lt i n ≡ true = grind (arith, common_steps, h) in rw l (get_resized_below xs n i (omega (arith, h)))
      | inr (e, h) ↦
          let l : nat_lt i n ≡ false = grind (arith, common_steps, h) in
          let k = length_resized xs n in
          rw l (get_past (resized xs n) i (omega (arith, h, k)))
    ]

-- below both is below the lesser
below_both : (at a b x : ℕ) → cond (nat_lt at a) (cond (nat_lt at b) x 0) 0 ≡ cond (nat_lt at (min b a)) x 0
below_both at a b x =
    elim (leb_tells (suc at) a) as (λ _. cond (nat_lt at a) (cond (nat_lt at b) x 0) 0 ≡ cond (nat_lt at (min b a)) x 0) [
      | inl (e, h) ↦
          let l : nat_lt at a ≡ true = grind (arith, common_steps, h) in
          elim (leb_tells (suc at) b) as (λ _. cond (nat_lt at a) (cond (nat_lt at b) x 0) 0 ≡ cond (nat_lt at (min b a)) x 0) [
            | inl (f, k) ↦ let m : nat_lt at b ≡ true = grind (arith, common_steps, k) in let n : suc at ≤ min b a = omega (arith, h, k) in let o : nat_lt at (min b a) ≡ true = grind (arith, common_steps, n) in rw (l, m, o) refl
            | inr (f, k) ↦ let m : nat_lt at b ≡ false = grind (arith, common_steps, k) in let n : min b a < suc at = omega (arith, k) in let o : nat_lt at (min b a) ≡ false = grind (arith, common_steps, n) in rw (l, m, o) refl
          ]
      | inr (e, h) ↦ let l : nat_lt at a ≡ false = grind (arith, common_steps, h) in let n : min b a < suc at = omega (arith, h) in let o : nat_lt at (min b a) ≡ false = grind (arith, common_steps, n) in rw (l, o) refl
    ]

-- after a truncation
pub shown_after_truncate : (size : ℕ) (list : List AccessEntry) (kept : List ℕ) (unsaved : List Unsaved) (len : Option UnsavedLength) (at : ℕ) →
    shown (content_truncated size (File list kept unsaved len)) at ≡ shown_kept (min (present_length kept len) size) at (shown (File list kept unsaved len) at)
shown_after_truncate size list kept unsaved len at =
    let within : get_or (resized (present_bytes kept unsaved len) size) at 0 ≡ cond (nat_lt at (min (present_length kept len) size)) (byte_over kept unsaved at) 0
    = get_resized (present_bytes kept unsaved len) size at ∙ ap (λ b. cond (nat_lt at size) b 0) (over_get kept unsaved (present_length kept len) at) ∙ below_both at size (present_length kept len) (byte_over kept unsaved at) in
    ap (λ b. let here : Shown = record { kept = b; unsaved = None } in here) within

-- an unsaved byte that passes a test or its opposite
passing_not : (test : Unsaved → Bool) (o : Option Unsaved) → passing (λ byte. not (test byte)) o ≡ cond (option_map_or test o false) None o
passing_not test None = refl
passing_not test (Some byte) = elim (test byte) as (λ t. cond (not t) (Some byte) None ≡ cond t None (Some byte)) [ true ↦ refl | false ↦ refl ]

-- the kept byte after a store
stored_byte : (test : Unsaved → Bool) (o : Option Unsaved) (kept : ℕ) → option_map_or (λ byte. byte.value) (passing test o) kept ≡ cond (option_map_or test o false) (option_map_or (λ byte. byte.value) o kept) kept
stored_byte test None kept = refl
stored_byte test (Some byte) kept = elim (test byte) as (λ t. option_map_or (λ byte. byte.value) (cond t (Some byte) None) kept ≡ cond t byte.value kept) [ true ↦ refl | false ↦ refl ]

-- the host stores below the kept length that is left
stored_below : (host : HostId) (spans : List Span) (end at : ℕ) (unsaved : List Unsaved) → option_map_or (is_stored host spans end) (unsaved_at unsaved at) false ≡ true → nat_lt at end ≡ true
stored_below host spans end at [] = λ h. absurd (search (rules, h))
stored_below host spans end at (x ∷ xs) =
    elim (eqb_tells x.at at) as (λ _. option_map_or (is_stored host spans end) (unsaved_at (x ∷ xs) at) false ≡ true → nat_lt at end ≡ true) [
      | inl (e, k) ↦ rw e (λ h. subst (λ p. nat_lt p end ≡ true) k (and_right _ _ (and_left _ _ h)))
      | inr (e, k) ↦ rw e (stored_below host spans end at xs)
    ]

-- a choice of what is shown
stored_choice : (stored below : Bool) (value kept : ℕ) (o : Option Unsaved) → (stored ≡ true → below ≡ true) →
    record { kept = cond below (cond stored value kept) 0; unsaved = cond stored None o } ≡ cond {A = Shown} stored (record { kept = value; unsaved = None }) (record { kept = cond below kept 0; unsaved = o })
stored_choice true below value kept o h = rw (h refl) refl
stored_choice false below value kept o h = refl

-- after a host stored
pub shown_after_store : (host : HostId) (spans : List Span) (stored : Option ℕ) (list : List AccessEntry) (kept : List ℕ) (unsaved : List Unsaved) (len : Option UnsavedLength) (at : ℕ) → positions_rise unsaved ≡ true →
    shown (content_stored host spans stored (File list kept unsaved len)) at ≡ shown_stored host spans (unwrap_or stored (length kept)) at (shown (File list kept unsaved len) at)
shown_after_store host spans stored list kept unsaved len at rise =
    let end = unwrap_or stored (length kept) in
    let test = is_stored host spans end in
    let here = unsaved_at unsaved at in
    let bytes : get_or (bytes_over kept (filter test unsaved) 0 end) at 0 ≡ cond (nat_lt at end) (cond (option_map_or test here false) (option_map_or (λ byte. byte.value) here (byte_at kept at)) (byte_at kept at)) 0
    = over_get kept (filter test unsaved) end at
    ∙ ap (λ o. cond (nat_lt at end) (option_map_or (λ byte. byte.value) o (byte_at kept at)) 0) (find_rising test at unsaved rise)
    ∙ ap (λ b. cond (nat_lt at end) b 0) (stored_byte test here (byte_at kept at)) in
    let left : unsaved_at (filter (λ byte. not (test byte)) unsaved) at ≡ cond (option_map_or test here false) None here
    = find_rising (λ byte. not (test byte)) at unsaved rise ∙ passing_not test here in
    ap (λ b. let s : Shown = record { kept = b; unsaved = unsaved_at (filter (λ byte. not (test byte)) unsaved) at } in s) bytes
    ∙ ap (λ o. let s : Shown = record { kept = cond (nat_lt at end) (cond (option_map_or test here false) (option_map_or (λ byte. byte.value) here (byte_at kept at)) (byte_at kept at)) 0; unsaved = o } in s) left
    ∙ stored_choice (option_map_or test here false) (nat_lt at end) (option_map_or (λ byte. byte.value) here (byte_at kept at)) (byte_at kept at) here (stored_below host spans end at unsaved)

-- after a sync
pub shown_after_sync : (host : HostId) (list : List AccessEntry) (kept : List ℕ) (unsaved : List Unsaved) (len : Option UnsavedLength) (at : ℕ) → positions_rise unsaved ≡ true →
    shown (content_synced host (File list kept unsaved len)) at ≡ shown_stored host (whole ∷ []) (unwrap_or (own_length host len) (length kept)) at (shown (File list kept unsaved len) at)
shown_after_sync host list kept unsaved len at rise = shown_after_store host (whole ∷ []) (own_length host len) list kept unsaved len at rise

-- an unsaved byte of another host
others_passing : (host : HostId) (o : Option Unsaved) → passing (λ byte. not (byte.writer.0 == host.0)) o ≡ others_byte host o
others_passing host None = refl
others_passing host (Some byte) = elim (byte.writer.0 == host.0) as (λ t. cond (not t) (Some byte) None ≡ cond t None (Some byte)) [ true ↦ refl | false ↦ refl ]

-- after a host's unsaved changes are lost
pub shown_after_forget : (host : HostId) (list : List AccessEntry) (kept : List ℕ) (unsaved : List Unsaved) (len : Option UnsavedLength) (at : ℕ) → positions_rise unsaved ≡ true →
    shown (content_forgotten host (File list kept unsaved len)) at ≡ shown_forgotten host (shown (File list kept unsaved len) at)
shown_after_forget host list kept unsaved len at rise =
    ap (λ o. let here : Shown = record { kept = byte_at kept at; unsaved = o } in here)
    (find_rising (λ byte. not (byte.writer.0 == host.0)) at unsaved rise ∙ others_passing host (unsaved_at unsaved at))
