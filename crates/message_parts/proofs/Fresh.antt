-- A name that is none of a few.
use Rattle.std.proofs.Common.{◌≡◌, ℕ, zero, suc, ◌+◌, ◌<◌, ◌≤◌, Bool, true, false, ◌&&◌, cond, List, [], ◌∷◌, ◌++◌, length, refl, sym, ◌∙◌, ap, arith, append_assoc, append-nil}
use Rattle.std.specs.Prelude.{not, nat_eq, nat_lt}
use Rattle.std.proofs.lemmas.Bool.{and_parts, and_from, eqb-true, eq-eqb, ne_eqb}
use Rattle.base_types.specs.Name.{same_name, is_among}
use Rattle.message_parts.specs.Spelled.{Spelled, ◌&◌, one_byte, number, items}
use Rattle.message_parts.specs.Reading.{byte_at, number_at}
use Rattle.message_parts.specs.Words.{is_plain, spell_name}
use Rattle.message_parts.specs.Access.{may_be, fresh_from, fresh_name_at}
use Rattle.message_parts.proofs.More.{more_right}
use Rattle.message_parts.proofs.Parts.{moved, end_right, byte_right}
use Rattle.message_parts.proofs.Numbers.{number_right}
use Rattle.message_parts.proofs.Words.{code_bounds}
use Rattle.message_parts.proofs.Right.{Spells, Right, Any, same, IsRight}

pub same_eq : (a b : List ℕ) → same_name a b ≡ true → a ≡ b
same_eq [] [] e = refl
same_eq [] (y ∷ b) e = absurd (cc)
same_eq (x ∷ a) [] e = absurd (cc)
same_eq (x ∷ a) (y ∷ b) e =
    let p = and_parts (nat_eq x y) (same_name a b) e in
    let h : x ≡ y = eqb-true x y p.0 in
    let t : a ≡ b = same_eq a b p.1 in
    cc

pub same_self : (a : List ℕ) → same_name a a ≡ true
same_self [] = refl
same_self (x ∷ a) = and_from (nat_eq x x) (same_name a a) (eq-eqb x x refl) (same_self a)

-- the names without one that is the same
abbrev without : List ℕ → List (List ℕ) → List (List ℕ)
without x [] = []
without x (y ∷ ys) = cond (same_name y x) ys (y ∷ without x ys)

without_length : (x : List ℕ) (ys : List (List ℕ)) → is_among ys x ≡ true → suc (length (without x ys)) ≡ length ys
without_length x [] e = absurd (cc)
without_length x (y ∷ ys) e = by_test (same_name y x) refl (without_length x ys)
  where
    by_test : (v : Bool) → same_name y x ≡ v → (is_among ys x ≡ true → suc (length (without x ys)) ≡ length ys) → suc (length (without x (y ∷ ys))) ≡ length (y ∷ ys)
    by_test true t again = rw t refl
    by_test false t again =
        let h : is_among ys x ≡ true = rw t at e in
        rw t (ap suc (again h))

without_among : (x z : List ℕ) (ys : List (List ℕ)) → same_name x z ≡ false → is_among (without x ys) z ≡ false → is_among ys z ≡ false
without_among x z [] apart e = refl
without_among x z (y ∷ ys) apart e = by_test (same_name y x) refl (without_among x z ys apart)
  where
    by_test : (v : Bool) → same_name y x ≡ v → (is_among (without x ys) z ≡ false → is_among ys z ≡ false) → is_among (y ∷ ys) z ≡ false
    by_test true t again =
        let h : is_among ys z ≡ false = rw t at e in
        let k : same_name y z ≡ false = rw (same_eq y x t) apart in
        rw (k, h) refl
    by_test false t again =
        let h : is_among (y ∷ without x ys) z ≡ false = rw t at e in
        parts_false (same_name y z) refl h
      where
        parts_false : (w : Bool) → same_name y z ≡ w → is_among (y ∷ without x ys) z ≡ false → is_among (y ∷ ys) z ≡ false
        parts_false true s h = absurd (let k : true ≡ false = rw s at h in cc)
        parts_false false s h =
            let k : is_among (without x ys) z ≡ false = rw s at h in
            rw s (again k)

-- of more names than these one is none of these
fresh_of : (f : ℕ → List ℕ) → ((i j : ℕ) → i < j → same_name (f j) (f i) ≡ false) → (n : ℕ) (names : List (List ℕ)) → length names < n
    → (j : ℕ) × (j < n) × (is_among names (f j) ≡ false)
fresh_of f apart zero names few = absurd (omega (arith, few))
fresh_of f apart (suc n) names few = by_test (is_among names (f n)) refl (fresh_of f apart n)
  where
    by_test : (v : Bool) → is_among names (f n) ≡ v → ((others : List (List ℕ)) → length others < n → (j : ℕ) × (j < n) × (is_among others (f j) ≡ false))
        → (j : ℕ) × (j < suc n) × (is_among names (f j) ≡ false)
    by_test false t again = (n, omega arith, t)
    by_test true t again =
        let l = without_length (f n) names t in
        let (j, lt, e) = again (without (f n) names) (omega (arith, l, few)) in
        (j, omega (arith, lt), without_among (f n) (f j) names (apart j n lt) e)

abbrev ending_in : List ℕ → ℕ → List ℕ
ending_in front j = front ++ (48 + j) ∷ []

ends_apart : (front : List ℕ) (i j : ℕ) → i < j → same_name (ending_in front j) (ending_in front i) ≡ false
ends_apart [] i j lt = rw (ne_eqb (48 + j) (48 + i) (λ e. absurd (omega (arith, e, lt)))) refl
ends_apart (x ∷ front) i j lt = rw (eq-eqb x x refl) (ends_apart front i j lt)

digit_plain : (j : ℕ) → j < 16 → is_plain (48 + j) ≡ true
digit_plain j lt =
    let a : nat_eq (48 + j) 47 ≡ false = ne_eqb (48 + j) 47 (λ e. absurd (omega (arith, e))) in
    let b : nat_eq (48 + j) 0 ≡ false = ne_eqb (48 + j) 0 (λ e. absurd (omega (arith, e))) in
    rw (a, b) refl

module _ (taken : List (List ℕ)) (few : length taken < 16) where
  abbrev pub next_test : ℕ → List ℕ → ℕ → Bool
  next_test k front byte = is_plain byte && may_be taken k (front ++ byte ∷ [])

  -- some byte goes on
  some_next : (k : ℕ) (front : List ℕ) → (b : ℕ) × (b < 256) × (next_test k front b ≡ true)
  some_next (suc k) front = (97, omega arith, refl)
  some_next zero front =
      let (j, lt, e) = fresh_of (ending_in front) (ends_apart front) 16 taken few in
      (48 + j, omega (arith, lt), and_from (is_plain (48 + j)) (not (is_among taken (ending_in front j))) (digit_plain j lt) (rw e refl))

  abbrev pub rest_spelled : List ℕ → List ℕ → Spelled
  rest_spelled front xs = record { fits = not (is_among taken (front ++ xs)); bytes = [] } & items (one_byte is_plain) xs

  abbrev pub has_length : ℕ → List ℕ → Type 0
  has_length k xs = length xs ≡ k

  may_go_on : (k : ℕ) (front : List ℕ) (b : ℕ) (ys : List ℕ) → length ys ≡ k → not (is_among taken (front ++ b ∷ ys)) ≡ true → may_be taken k (front ++ b ∷ []) ≡ true
  may_go_on (suc k) front b ys l e = refl
  may_go_on zero front b [] l e = e
  may_go_on zero front b (y ∷ ys) l e = absurd (cc)

  no_more : (xs : List ℕ) → length xs ≡ 0 → xs ≡ []
  no_more [] e = refl
  no_more (x ∷ xs) e = absurd (cc)

  one_more : (k : ℕ) (xs : List ℕ) → length xs ≡ suc k → (x : ℕ) × (ys : List ℕ) × (x ∷ ys ≡ xs) × (length ys ≡ k)
  one_more k [] e = absurd (cc)
  one_more k (x ∷ xs) e = (x, xs, refl, omega (arith, e))

  pub fresh_right : (k : ℕ) (front : List ℕ) → may_be taken k front ≡ true → Right (has_length k) (rest_spelled front) (λ xs. front ++ xs) (fresh_from taken k front)
  unfolding items
  fresh_right zero front may = end_right (has_length 0) (rest_spelled front) (λ xs. front ++ xs) front [] refl (rw (append-nil front, may) refl)
      (λ xs l f. (ap (λ v. front ++ v) (no_more xs l) ∙ append-nil front, ap (λ v. (rest_spelled front v).bytes) (no_more xs l)))
  fresh_right (suc k) front may =
      let (b0, low, passes) = some_next k front in
      let test : ℕ → Bool = next_test k front in
      let among : ℕ × List ℕ → Type 0 = λ p. length p.1 ≡ k in
      let tail : ℕ × List ℕ → Spelled = λ p. record { fits = not (is_among taken (front ++ p.0 ∷ p.1)); bytes = [] } & items (one_byte is_plain) p.1 in
      let made : ℕ × List ℕ → List ℕ = λ p. front ++ p.0 ∷ p.1 in
      moved among (λ p. one_byte test p.0 & tail p) made (has_length (suc k)) (rest_spelled front) (λ xs. front ++ xs) (fresh_from taken (suc k) front)
      (λ p bytes s. (p.0 ∷ p.1, record { chosen = (let h : length p.1 ≡ k = s.chosen in omega (arith, h)); fits = to_rest k front p.0 p.1 s.fits; whole = s.whole }, refl))
      (λ xs bytes s. back_to k front xs bytes s)
      (more_right among (one_byte test) tail (λ p. p.0) made (byte_at test) (λ b rest. fresh_from taken k (front ++ b ∷ []) rest) (byte_right test b0 low passes)
      (λ b fits. behind k front b (fresh_right k (front ++ b ∷ []) ((and_parts (is_plain b) (may_be taken k (front ++ b ∷ [])) ((and_parts (nat_lt b 256) (test b) fits).1)).1))))
    where
      to_rest : (k : ℕ) (front : List ℕ) (b : ℕ) (ys : List ℕ) → ((nat_lt b 256 && next_test k front b) && (not (is_among taken (front ++ b ∷ ys)) && (items (one_byte is_plain) ys).fits)) ≡ true
          → (rest_spelled front (b ∷ ys)).fits ≡ true
      to_rest k front b ys f =
          let p = and_parts (nat_lt b 256 && next_test k front b) (not (is_among taken (front ++ b ∷ ys)) && (items (one_byte is_plain) ys).fits) f in
          let q = and_parts (nat_lt b 256) (next_test k front b) p.0 in
          let r = and_parts (not (is_among taken (front ++ b ∷ ys))) (items (one_byte is_plain) ys).fits p.1 in
          and_from (not (is_among taken (front ++ b ∷ ys))) ((nat_lt b 256 && is_plain b) && (items (one_byte is_plain) ys).fits) r.0
          (and_from (nat_lt b 256 && is_plain b) (items (one_byte is_plain) ys).fits
          (and_from (nat_lt b 256) (is_plain b) q.0 ((and_parts (is_plain b) (may_be taken k (front ++ b ∷ [])) q.1).0)) r.1)

      from_rest : (k : ℕ) (front : List ℕ) (b : ℕ) (ys : List ℕ) → length ys ≡ k → (rest_spelled front (b ∷ ys)).fits ≡ true
          → ((nat_lt b 256 && next_test k front b) && (not (is_among taken (front ++ b ∷ ys)) && (items (one_byte is_plain) ys).fits)) ≡ true
      from_rest k front b ys l f =
          let p = and_parts (not (is_among taken (front ++ b ∷ ys))) ((nat_lt b 256 && is_plain b) && (items (one_byte is_plain) ys).fits) f in
          let q = and_parts (nat_lt b 256 && is_plain b) (items (one_byte is_plain) ys).fits p.1 in
          let r = and_parts (nat_lt b 256) (is_plain b) q.0 in
          and_from (nat_lt b 256 && next_test k front b) (not (is_among taken (front ++ b ∷ ys)) && (items (one_byte is_plain) ys).fits)
          (and_from (nat_lt b 256) (next_test k front b) r.0 (and_from (is_plain b) (may_be taken k (front ++ b ∷ [])) r.1 (may_go_on k front b ys l p.0)))
          (and_from (not (is_among taken (front ++ b ∷ ys))) (items (one_byte is_plain) ys).fits p.0 q.1)

      back_to : (k : ℕ) (front xs bytes : List ℕ) → Spells (has_length (suc k)) (rest_spelled front) xs bytes
          → (p : ℕ × List ℕ) × Spells (λ (p : ℕ × List ℕ). length p.1 ≡ k) (λ p. one_byte (next_test k front) p.0 & (record { fits = not (is_among taken (front ++ p.0 ∷ p.1)); bytes = [] } & items (one_byte is_plain) p.1)) p bytes
          × (front ++ p.0 ∷ p.1 ≡ front ++ xs)
      back_to k front xs bytes s =
          let (y, ys, e, l) = one_more k xs s.chosen in
          let fits : (rest_spelled front (y ∷ ys)).fits ≡ true = ap (λ v. (rest_spelled front v).fits) e ∙ s.fits in
          ((y, ys), record { chosen = l; fits = from_rest k front y ys l fits; whole = s.whole ∙ ap (λ v. (rest_spelled front v).bytes) (sym e) }, ap (λ v. front ++ v) e)

      behind : (k : ℕ) (front : List ℕ) (b : ℕ) → Right (has_length k) (rest_spelled (front ++ b ∷ [])) (λ xs. (front ++ b ∷ []) ++ xs) (fresh_from taken k (front ++ b ∷ []))
          → Right (λ (p : ℕ × List ℕ). (length p.1 ≡ k) × (p.0 ≡ b)) (λ p. record { fits = not (is_among taken (front ++ p.0 ∷ p.1)); bytes = [] } & items (one_byte is_plain) p.1) (λ p. front ++ p.0 ∷ p.1) (fresh_from taken k (front ++ b ∷ []))
      behind k front b right = moved (has_length k) (rest_spelled (front ++ b ∷ [])) (λ xs. (front ++ b ∷ []) ++ xs)
          (λ (p : ℕ × List ℕ). (length p.1 ≡ k) × (p.0 ≡ b)) (λ p. record { fits = not (is_among taken (front ++ p.0 ∷ p.1)); bytes = [] } & items (one_byte is_plain) p.1) (λ p. front ++ p.0 ∷ p.1)
          (fresh_from taken k (front ++ b ∷ []))
          (λ xs bytes s. ((b, xs), record { chosen = (s.chosen, refl); fits = ap (λ v. not (is_among taken v) && (items (one_byte is_plain) xs).fits) (sym (append_assoc front (b ∷ []) xs)) ∙ s.fits; whole = s.whole }, append_assoc front (b ∷ []) xs))
          (λ p bytes s.
          let e : (front ++ b ∷ []) ++ p.1 ≡ front ++ p.0 ∷ p.1 = append_assoc front (b ∷ []) p.1 ∙ ap (λ v. front ++ v ∷ p.1) (sym s.chosen.1) in
          (p.1, record { chosen = s.chosen.0; fits = ap (λ v. not (is_among taken v) && (items (one_byte is_plain) p.1).fits) e ∙ s.fits; whole = s.whole }, e))
          right

  abbrev pub fresh_spelled : List ℕ → Spelled
  fresh_spelled name = record { fits = not (is_among taken name); bytes = [] } & spell_name name

  pub fresh_name_right : IsRight fresh_spelled (fresh_name_at taken)
  unfolding fresh_name_at spell_name
  fresh_name_right = moved Any (λ name. number 1 1 60 (length name) & rest_spelled [] name) same Any fresh_spelled same (fresh_name_at taken)
      (λ name bytes s. (name, record { chosen = tt; fits = fits_there name s.fits; whole = s.whole }, refl))
      (λ name bytes s. (name, record { chosen = tt; fits = fits_back name s.fits; whole = s.whole }, refl))
      (more_right Any (number 1 1 60) (rest_spelled []) length same (number_at 1 1 60) (λ count rest. fresh_from taken count [] rest)
      (number_right 1 60 (omega arith) 1 (omega arith))
      (λ count f. by_count count ((code_bounds 1 60 count f).0)))
    where
      fits_there : (name : List ℕ) → ((number 1 1 60 (length name)).fits && (not (is_among taken name) && (items (one_byte is_plain) name).fits)) ≡ true
          → (not (is_among taken name) && ((number 1 1 60 (length name)).fits && (items (one_byte is_plain) name).fits)) ≡ true
      fits_there name f =
          let p = and_parts (number 1 1 60 (length name)).fits (not (is_among taken name) && (items (one_byte is_plain) name).fits) f in
          let q = and_parts (not (is_among taken name)) (items (one_byte is_plain) name).fits p.1 in
          and_from (not (is_among taken name)) ((number 1 1 60 (length name)).fits && (items (one_byte is_plain) name).fits) q.0
          (and_from (number 1 1 60 (length name)).fits (items (one_byte is_plain) name).fits p.0 q.1)

      fits_back : (name : List ℕ) → (not (is_among taken name) && ((number 1 1 60 (length name)).fits && (items (one_byte is_plain) name).fits)) ≡ true
          → ((number 1 1 60 (length name)).fits && (not (is_among taken name) && (items (one_byte is_plain) name).fits)) ≡ true
      fits_back name f =
          let p = and_parts (not (is_among taken name)) ((number 1 1 60 (length name)).fits && (items (one_byte is_plain) name).fits) f in
          let q = and_parts (number 1 1 60 (length name)).fits (items (one_byte is_plain) name).fits p.1 in
          and_from (number 1 1 60 (length name)).fits (not (is_among taken name) && (items (one_byte is_plain) name).fits) q.0
          (and_from (not (is_among taken name)) (items (one_byte is_plain) name).fits p.0 q.1)

      by_count : (count : ℕ) → 1 ≤ count → Right (λ name. Any name × (length name ≡ count)) (rest_spelled []) same (fresh_from taken count [])
      by_count zero l = absurd (omega (arith, l))
      by_count (suc n) l = moved (has_length (suc n)) (rest_spelled []) same (λ name. Any name × (length name ≡ suc n)) (rest_spelled []) same (fresh_from taken (suc n) [])
          (λ name bytes s. (name, record { chosen = (tt, s.chosen); fits = s.fits; whole = s.whole }, refl))
          (λ name bytes s. (name, record { chosen = s.chosen.1; fits = s.fits; whole = s.whole }, refl))
          (fresh_right (suc n) [] refl)
