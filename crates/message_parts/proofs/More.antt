-- Reading a part and then the rest is right where both are.
use Rattle.std.proofs.Common.{◌≡◌, ℕ, ◌⊎◌, inl, inr, true, List, [], ◌∷◌, ◌++◌, Ok, Err, refl, sym, ◌∙◌, ap, subst, append_assoc}
use Rattle.std.proofs.lemmas.Bool.{and_parts, and_from}
use Rattle.message_parts.specs.Spelled.{Spelled, ◌&◌}
use Rattle.message_parts.specs.Reading.{Reading, ◌>>=◌}
use Rattle.message_parts.proofs.Right.{Spells, Begins, Stops, AreBytes, Found, Right, Any, same}

pub ok_both : {A : Type 0} (a b : A) (x y : List ℕ) → Path (Reading A) (Ok (a, x)) (Ok (b, y)) → (a ≡ b) × (x ≡ y)
ok_both {A} a b x y e =
    let p : Path (A × List ℕ) (a, x) (b, y) = cc in
    (ap (λ v. v.0) p, ap (λ v. v.1) p)

pub ok_then : {A B : Type 0} (r : Reading A) (next : A → List ℕ → Reading B) (b : B) (rest : List ℕ)
    → (r >>= next) ≡ Ok (b, rest) → (a : A) × (mid : List ℕ) × (r ≡ Ok (a, mid)) × (next a mid ≡ Ok (b, rest))
ok_then (Ok x) next b rest e = (x.0, x.1, refl, e)
ok_then (Err left) next b rest e = absurd (cc)

pub err_then : {A B : Type 0} (r : Reading A) (next : A → List ℕ → Reading B) (left : ℕ)
    → (r >>= next) ≡ Err left → (r ≡ Err left) ⊎ ((a : A) × (mid : List ℕ) × (r ≡ Ok (a, mid)) × (next a mid ≡ Err left))
err_then (Ok x) next left e = inr (x.0, x.1, refl, e)
err_then (Err other) next left e = inl (let h : other ≡ left = cc in cc)

-- of two beginnings of one list one begins the other
pub compare_fronts : (p q x y : List ℕ) → p ++ q ≡ x ++ y → ((m : List ℕ) × (x ≡ p ++ m)) ⊎ ((m : List ℕ) × (p ≡ x ++ m))
compare_fronts [] q x y e = inl (x, refl)
compare_fronts (b ∷ p) q [] y e = inr (b ∷ p, refl)
compare_fronts (b ∷ p) q (c ∷ x) y e =
    let h : b ≡ c = cc in
    let t : p ++ q ≡ x ++ y = cc in
    elim (compare_fronts p q x y t) [ inl w ↦ inl (w.0, let i = w.1 in cc) | inr w ↦ inr (w.0, let i = w.1 in cc) ]

pub bytes_behind : (xs ys : List ℕ) → AreBytes (xs ++ ys) → AreBytes ys
bytes_behind [] ys h = h
bytes_behind (x ∷ xs) ys h = bytes_behind xs ys h.1

module _ {A T B : Type 0} (among : T → Type 0) (one : A → Spelled) (tail : T → Spelled) (part : T → A) (made : T → B)
    (read : List ℕ → Reading A) (next : A → List ℕ → Reading B)
    (first : Right Any one same read)
    (rest_right : (a : A) → (one a).fits ≡ true → Right (λ t. among t × (part t ≡ a)) tail made (next a)) where
  abbrev pub both : T → Spelled
  both t = one (part t) & tail t

  abbrev pub after : List ℕ → Reading B
  after bytes = read bytes >>= next

  -- what spells the whole is the part's spelling and then the rest's
  pub read_part : (t : T) (y rest : List ℕ) → (one (part t)).fits ≡ true → read ((one (part t)).bytes ++ (y ++ rest)) ≡ Ok (part t, y ++ rest)
  read_part t y rest f = first.again (part t) (one (part t)).bytes (y ++ rest) (record { chosen = tt; fits = f; whole = refl })

  pub more_again : (t : T) (bytes rest : List ℕ) → Spells among both t bytes → after (bytes ++ rest) ≡ Ok (made t, rest)
  more_again t bytes rest s =
      let fit = and_parts (one (part t)).fits (tail t).fits s.fits in
      let x : List ℕ = (one (part t)).bytes in
      let y : List ℕ = (tail t).bytes in
      let e : bytes ++ rest ≡ x ++ (y ++ rest) = rw s.whole (append_assoc x y rest) in
      let r : read (bytes ++ rest) ≡ Ok (part t, y ++ rest) = rw e (read_part t y rest fit.0) in
      let n : next (part t) (y ++ rest) ≡ Ok (made t, rest) =
      (rest_right (part t) fit.0).again t y rest (record { chosen = (s.chosen, refl); fits = fit.1; whole = refl }) in
      ap (λ v. v >>= next) r ∙ n

  pub found_rest : (a value : A) (mid bytes front rest : List ℕ) (b : B) → AreBytes bytes → a ≡ value → Spells Any one value front
      → bytes ≡ front ++ mid → next a mid ≡ Ok (b, rest) → Found among both made bytes b rest
  found_rest a value mid bytes front rest b are is s split n =
      let fit : (one a).fits ≡ true = rw is s.fits in
      let behind : AreBytes mid = bytes_behind front mid (subst AreBytes split are) in
      let g = (rest_right a fit).found mid b rest behind n in
      let same_part : part g.value ≡ a = g.spells.chosen.1 in
      record {
        value = g.value;
        front = front ++ g.front;
        spells = record {
          chosen = g.spells.chosen.0;
          fits = and_from (one (part g.value)).fits (tail g.value).fits (ap (λ v. (one v).fits) same_part ∙ fit) g.spells.fits;
          whole = ap (λ v. v ++ g.front) s.whole ∙ ap (λ v. (one v).bytes ++ g.front) (sym (same_part ∙ is)) ∙ ap (λ v. (one (part g.value)).bytes ++ v) g.spells.whole;
        };
        is = g.is;
        split = split ∙ ap (λ v. front ++ v) g.split ∙ sym (append_assoc front g.front rest);
      }

  pub more_found : (bytes : List ℕ) (b : B) (rest : List ℕ) → AreBytes bytes → after bytes ≡ Ok (b, rest) → Found among both made bytes b rest
  more_found bytes b rest are e =
      let (a, mid, r, n) = ok_then (read bytes) next b rest e in
      let f = first.found bytes a mid are r in
      found_rest a f.value mid bytes f.front rest b are f.is f.spells f.split n

  -- a beginning of the part begins the whole
  pub begun_part : (front : List ℕ) → Begins Any one front → Begins among both front
  begun_part front (a, more, s) =
      let (t, y, q) = (rest_right a s.fits).some in (
        t,
        more ++ y,
        record {
          chosen = q.chosen.0;
          fits = and_from (one (part t)).fits (tail t).fits (rw q.chosen.1 s.fits) q.fits;
          whole = sym (append_assoc front more y) ∙ rw (q.chosen.1, s.whole, q.whole) refl;
        },
      )

  -- where the part stops no spelling of the whole goes on
  pub longest_part : (front back : List ℕ) (left : ℕ) → read (front ++ back) ≡ Err left
      → ((byte : ℕ) (more : List ℕ) → back ≡ byte ∷ more → Begins Any one (front ++ byte ∷ []) → ⊥)
      → (byte : ℕ) (more : List ℕ) → back ≡ byte ∷ more → Begins among both (front ++ byte ∷ []) → ⊥
  longest_part front back left e h byte more is (t, last, s) =
      let fit = and_parts (one (part t)).fits (tail t).fits s.fits in
      let x : List ℕ = (one (part t)).bytes in
      let y : List ℕ = (tail t).bytes in
      elim (compare_fronts (front ++ byte ∷ []) last x y s.whole) [
        | inl w ↦ h byte more is (part t, w.0, record { chosen = tt; fits = fit.0; whole = sym w.1 })
        | inr w ↦
            let all : front ++ back ≡ x ++ (w.0 ++ more) =
            ap (λ v. front ++ v) is ∙ sym (append_assoc front (byte ∷ []) more) ∙ ap (λ v. v ++ more) w.1 ∙ append_assoc x w.0 more in
            let r : read (front ++ back) ≡ Ok (part t, w.0 ++ more) = ap read all ∙ read_part t w.0 more fit.0 in
            cc
      ]

  -- the same behind the part
  pub longest_rest : (a : A) (front behind back : List ℕ) → (one a).fits ≡ true → front ≡ (one a).bytes
      → ((byte : ℕ) (more : List ℕ) → back ≡ byte ∷ more → Begins (λ t. among t × (part t ≡ a)) tail (behind ++ byte ∷ []) → ⊥)
      → (byte : ℕ) (more : List ℕ) → back ≡ byte ∷ more → Begins among both ((front ++ behind) ++ byte ∷ []) → ⊥
  longest_rest a front behind back fit spelled h byte more is (t, last, s) =
      let fits = and_parts (one (part t)).fits (tail t).fits s.fits in
      let x : List ℕ = (one (part t)).bytes in
      let y : List ℕ = (tail t).bytes in
      let z : List ℕ = (behind ++ byte ∷ []) ++ last in
      let all : ((front ++ behind) ++ byte ∷ []) ++ last ≡ front ++ z =
      ap (λ v. v ++ last) (append_assoc front behind (byte ∷ [])) ∙ append_assoc front (behind ++ byte ∷ []) last in
      let r : read (front ++ z) ≡ Ok (a, z) = first.again a front z (record { chosen = tt; fits = fit; whole = spelled }) in
      let q : read (x ++ y) ≡ Ok (part t, y) =
      first.again (part t) x y (record { chosen = tt; fits = fits.0; whole = refl }) in
      let j : front ++ z ≡ x ++ y = sym all ∙ s.whole in
      let both_ok : Path (Reading A) (Ok (a, z)) (Ok (part t, y)) = sym r ∙ ap read j ∙ q in
      let (same_part, same_rest) = ok_both a (part t) z y both_ok in
      h byte more is (t, last, record { chosen = (s.chosen, sym same_part); fits = fits.1; whole = same_rest })

  pub stops_part : (bytes : List ℕ) (left : ℕ) → read bytes ≡ Err left → Stops Any one bytes left → Stops among both bytes left
  stops_part bytes left e s = record {
    front = s.front;
    back = s.back;
    split = s.split;
    rest = s.rest;
    begun = begun_part s.front s.begun;
    longest = longest_part s.front s.back left (ap read (sym s.split) ∙ e) s.longest;
  }

  pub begun_rest : (a : A) (front behind : List ℕ) → (one a).fits ≡ true → front ≡ (one a).bytes
      → Begins (λ t. among t × (part t ≡ a)) tail behind → Begins among both (front ++ behind)
  begun_rest a front behind fit spelled (t, more, s) = (
    t,
    more,
    record {
      chosen = s.chosen.0;
      fits = and_from (one (part t)).fits (tail t).fits (rw s.chosen.1 fit) s.fits;
      whole = append_assoc front behind more ∙ rw (s.chosen.1, spelled, s.whole) refl;
    },
  )

  pub stops_rest : (a : A) (bytes front mid : List ℕ) (left : ℕ) → (one a).fits ≡ true → front ≡ (one a).bytes → bytes ≡ front ++ mid
      → Stops (λ t. among t × (part t ≡ a)) tail mid left → Stops among both bytes left
  stops_rest a bytes front mid left fit spelled split s = record {
    front = front ++ s.front;
    back = s.back;
    split = split ∙ ap (λ v. front ++ v) s.split ∙ sym (append_assoc front s.front s.back);
    rest = s.rest;
    begun = begun_rest a front s.front fit spelled s.begun;
    longest = longest_rest a front s.front s.back fit spelled s.longest;
  }

  pub more_stops : (bytes : List ℕ) (left : ℕ) → AreBytes bytes → after bytes ≡ Err left → Stops among both bytes left
  more_stops bytes left are e = elim (err_then (read bytes) next left e) [
    | inl r ↦ stops_part bytes left r (first.stops bytes left are r)
    | inr w ↦
        let f = first.found bytes w.0 w.1 are w.2 in
        let is : w.0 ≡ f.value = f.is in
        let fit : (one w.0).fits ≡ true = ap (λ v. (one v).fits) is ∙ f.spells.fits in
        let spelled : f.front ≡ (one w.0).bytes = f.spells.whole ∙ ap (λ v. (one v).bytes) (sym is) in
        let behind : AreBytes w.1 = bytes_behind f.front w.1 (subst AreBytes f.split are) in
        stops_rest w.0 bytes f.front w.1 left fit spelled f.split ((rest_right w.0 fit).stops w.1 left behind w.3)
  ]

  pub more_some : (t : T) × (bytes : List ℕ) × Spells among both t bytes
  more_some =
      let (a, x, s) = first.some in
      begun_part [] (a, x, s)

  pub more_right : Right among both made after
  more_right = record { some = more_some; again = more_again; found = more_found; stops = more_stops }
