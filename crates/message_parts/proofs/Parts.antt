-- The parts of which readings are made.
use Rattle.std.proofs.Common.{◌≡◌, ℕ, suc, ◌<◌, inl, inr, Bool, true, false, List, [], ◌∷◌, ◌++◌, length, Ok, Err, refl, sym, ◌∙◌, ap, subst}
use Rattle.std.specs.Prelude.{nat_lt}
use Rattle.std.proofs.lemmas.Bool.{and_parts, and_from, lt-ltb}
use Rattle.message_parts.specs.Spelled.{Spelled, one_byte}
use Rattle.message_parts.specs.Reading.{Reading, ◌>>=◌, byte_at}
use Rattle.message_parts.proofs.More.{ok_both, ok_then, err_then}
use Rattle.message_parts.proofs.Right.{Spells, Begins, Stops, AreBytes, Found, Right, Any, same, IsRight}

-- the same reading, looked at as one of other values
module _ {T U B : Type 0} (among : T → Type 0) (spelled : T → Spelled) (made : T → B) (among' : U → Type 0) (spelled' : U → Spelled) (made' : U → B)
    (read : List ℕ → Reading B)
    (there : (t : T) (bytes : List ℕ) → Spells among spelled t bytes → (u : U) × Spells among' spelled' u bytes × (made t ≡ made' u))
    (back : (u : U) (bytes : List ℕ) → Spells among' spelled' u bytes → (t : T) × Spells among spelled t bytes × (made t ≡ made' u))
    (right : Right among spelled made read) where
  pub moved_begins : (front : List ℕ) → Begins among spelled front → Begins among' spelled' front
  moved_begins front (t, more, s) =
      let (u, q, e) = there t (front ++ more) s in
      (u, more, q)

  pub begins_moved : (front : List ℕ) → Begins among' spelled' front → Begins among spelled front
  begins_moved front (u, more, s) =
      let (t, q, e) = back u (front ++ more) s in
      (t, more, q)

  pub moved_found : (bytes : List ℕ) (b : B) (rest : List ℕ) → Found among spelled made bytes b rest → Found among' spelled' made' bytes b rest
  moved_found bytes b rest f =
      let (u, q, e) = there f.value f.front f.spells in
      record { value = u; front = f.front; spells = q; is = f.is ∙ e; split = f.split }

  pub moved_stops : (bytes : List ℕ) (left : ℕ) → Stops among spelled bytes left → Stops among' spelled' bytes left
  moved_stops bytes left s = record {
    front = s.front;
    back = s.back;
    split = s.split;
    rest = s.rest;
    begun = moved_begins s.front s.begun;
    longest = λ byte more e b. s.longest byte more e (begins_moved (s.front ++ byte ∷ []) b);
  }

  pub moved_again : (u : U) (bytes rest : List ℕ) → Spells among' spelled' u bytes → read (bytes ++ rest) ≡ Ok (made' u, rest)
  moved_again u bytes rest s =
      let (t, q, e) = back u bytes s in
      right.again t bytes rest q ∙ ap (λ v. Ok (v, rest)) e

  pub moved_some : (u : U) × (bytes : List ℕ) × Spells among' spelled' u bytes
  moved_some =
      let (t, bytes, s) = right.some in
      let (u, q, e) = there t bytes s in
      (u, bytes, q)

  pub moved : Right among' spelled' made' read
  moved = record {
    some = moved_some;
    again = moved_again;
    found = λ bytes b rest are e. moved_found bytes b rest (right.found bytes b rest are e);
    stops = λ bytes left are e. moved_stops bytes left (right.stops bytes left are e);
  }

-- nothing is left to read
module _ {T B : Type 0} (among : T → Type 0) (spelled : T → Spelled) (made : T → B) (b : B) (t : T)
    (chosen : among t) (fits : (spelled t).fits ≡ true)
    (only : (u : T) → among u → (spelled u).fits ≡ true → (made u ≡ b) × ((spelled u).bytes ≡ [])) where
  pub end_again : (u : T) (bytes rest : List ℕ) → Spells among spelled u bytes → Path (Reading B) (Ok (b, bytes ++ rest)) (Ok (made u, rest))
  end_again u bytes rest s =
      let (e, none) = only u s.chosen s.fits in
      rw (e, s.whole, none) refl

  pub end_found : (bytes : List ℕ) (c : B) (rest : List ℕ) → Path (Reading B) (Ok (b, bytes)) (Ok (c, rest)) → Found among spelled made bytes c rest
  end_found bytes c rest e =
      let (is, none) = only t chosen fits in
      record {
        value = t;
        front = [];
        spells = record { chosen = chosen; fits = fits; whole = sym none };
        is = sym ((ok_both b c bytes rest e).0) ∙ sym is;
        split = (ok_both b c bytes rest e).1;
      }

  pub end_right : Right among spelled made (λ bytes. Ok (b, bytes))
  end_right = record {
    some = (t, [], record { chosen = chosen; fits = fits; whole = sym ((only t chosen fits).1) });
    again = end_again;
    found = λ bytes c rest are e. end_found bytes c rest e;
    stops = λ bytes left are e. absurd (let h : Path (Reading B) (Ok (b, bytes)) (Err left) = e in cc);
  }

-- one byte that passes a test
module _ (test : ℕ → Bool) where
  pub byte_found : (v : Bool) (b : ℕ) (bs : List ℕ) (c : ℕ) (rest : List ℕ) → test b ≡ v → b < 256 → byte_at test (b ∷ bs) ≡ Ok (c, rest)
      → Found Any (one_byte test) same (b ∷ bs) c rest
  byte_found true b bs c rest t lt e =
      let r : Path (Reading ℕ) (Ok (b, bs)) (Ok (c, rest)) = rw t at e in
      record {
        value = b;
        front = b ∷ [];
        spells = record { chosen = tt; fits = and_from (nat_lt b 256) (test b) (lt-ltb b 256 lt) t; whole = refl };
        is = sym ((ok_both b c bs rest r).0);
        split = ap (λ v. b ∷ v) (ok_both b c bs rest r).1;
      }
  byte_found false b bs c rest t lt e = absurd (let r : Path (Reading ℕ) (Err (suc (length bs))) (Ok (c, rest)) = rw t at e in cc)

  -- a byte that doesn't pass begins nothing
  pub not_begun : (b : ℕ) → test b ≡ false → Begins Any (one_byte test) (b ∷ []) → ⊥
  not_begun b fails (c, more, s) =
      let e : b ≡ c = let w : b ∷ more ≡ c ∷ [] = s.whole in cc in
      let h = and_parts (nat_lt c 256) (test c) s.fits in
      let f : test c ≡ true = h.1 in
      let g : test b ≡ true = ap test e ∙ f in
      cc

  module _ (some : ℕ) (below : some < 256) (passes : test some ≡ true) where
    pub some_byte : Begins Any (one_byte test) []
    some_byte = (some, some ∷ [], record { chosen = tt; fits = and_from (nat_lt some 256) (test some) (lt-ltb some 256 below) passes; whole = refl })

    pub byte_stops : (v : Bool) (b : ℕ) (bs : List ℕ) (left : ℕ) → test b ≡ v → byte_at test (b ∷ bs) ≡ Err left → Stops Any (one_byte test) (b ∷ bs) left
    byte_stops true b bs left t e = absurd (let r : Path (Reading ℕ) (Ok (b, bs)) (Err left) = rw t at e in cc)
    byte_stops false b bs left t e =
        let r : Path (Reading ℕ) (Err (suc (length bs))) (Err left) = rw t at e in
        record {
          front = [];
          back = b ∷ bs;
          split = refl;
          rest = (let h : suc (length bs) ≡ left = cc in h);
          begun = some_byte;
          longest = λ byte more is begins. not_begun b t (let h : byte ≡ b = cc in subst (λ v. Begins Any (one_byte test) (v ∷ [])) h begins);
        }

    pub no_byte_stops : (left : ℕ) → Path (Reading ℕ) (Err 0) (Err left) → Stops Any (one_byte test) [] left
    no_byte_stops left e = record {
      front = [];
      back = [];
      split = refl;
      rest = (let h : 0 ≡ left = cc in h);
      begun = some_byte;
      longest = λ byte more is begins. absurd (let h : [] ≡ byte ∷ more = is in cc);
    }

    pub byte_right : IsRight (one_byte test) (byte_at test)
    byte_right = record {
      some = (some_byte.0, some_byte.1, some_byte.2);
      again = byte_again;
      found = λ bytes. elim bytes as (λ v. (b : ℕ) (rest : List ℕ) → AreBytes v → byte_at test v ≡ Ok (b, rest) → Found Any (one_byte test) same v b rest) [
        | [] ↦ λ b rest are e. absurd (let h : Path (Reading ℕ) (Err 0) (Ok (b, rest)) = e in cc)
        | b ∷ bs ↦ λ c rest are e. byte_found (test b) b bs c rest refl are.0 e
      ];
      stops = λ bytes. elim bytes as (λ v. (left : ℕ) → AreBytes v → byte_at test v ≡ Err left → Stops Any (one_byte test) v left) [
        | [] ↦ λ left are e. no_byte_stops left e
        | b ∷ bs ↦ λ left are e. byte_stops (test b) b bs left refl e
      ];
    }
      where
        byte_again : (t : ℕ) (bytes rest : List ℕ) → Spells Any (one_byte test) t bytes → byte_at test (bytes ++ rest) ≡ Ok (t, rest)
        byte_again t bytes rest s = rw (s.whole, (and_parts (nat_lt t 256) (test t) s.fits).1) refl

-- a function of what is read
module _ {T A B : Type 0} (among : T → Type 0) (spelled : T → Spelled) (made : T → A) (f : A → B) (read : List ℕ → Reading A)
    (right : Right among spelled made read) where
  abbrev pub mapping : A → List ℕ → Reading B
  mapping a rest = Ok (f a, rest)

  pub mapped_found : (bytes : List ℕ) (b : B) (rest : List ℕ) → AreBytes bytes → (read bytes >>= mapping) ≡ Ok (b, rest) → Found among spelled (λ t. f (made t)) bytes b rest
  mapped_found bytes b rest are e =
      let (a, mid, r, n) = ok_then (read bytes) mapping b rest e in
      let (fa, m) = ok_both (f a) b mid rest n in
      let w = right.found bytes a mid are r in
      let is : a ≡ made w.value = w.is in
      record { value = w.value; front = w.front; spells = w.spells; is = sym fa ∙ ap f is; split = w.split ∙ ap (λ v. w.front ++ v) m }

  pub mapped_stops : (bytes : List ℕ) (left : ℕ) → AreBytes bytes → (read bytes >>= mapping) ≡ Err left → Stops among spelled bytes left
  mapped_stops bytes left are e = elim (err_then (read bytes) mapping left e) [
    | inl r ↦ right.stops bytes left are r
    | inr w ↦ absurd (let h : Path (Reading B) (Ok (f w.0, w.1)) (Err left) = w.3 in cc)
  ]

  pub mapped : Right among spelled (λ t. f (made t)) (λ bytes. read bytes >>= mapping)
  mapped = record {
    some = right.some;
    again = λ t bytes rest s. ap (λ v. v >>= mapping) (right.again t bytes rest s);
    found = mapped_found;
    stops = mapped_stops;
  }

-- the last part of a value: the parts before it, and it, determine what is made
module _ {T A B : Type 0} (among : T → Type 0) (amongA : A → Type 0) (one : A → Spelled) (part : T → A) (made : T → B) (make : A → B) (read : List ℕ → Reading A)
    (of : (a : A) → amongA a → (t : T) × among t × (part t ≡ a))
    (is : (t : T) → among t → amongA (part t) × (make (part t) ≡ made t))
    (right : Right amongA one same read) where
  pub last_there : (a : A) (bytes : List ℕ) → Spells amongA one a bytes → (t : T) × Spells among (λ t. one (part t)) t bytes × (make a ≡ made t)
  last_there a bytes s =
      let (t, c, e) = of a s.chosen in
      (t, record { chosen = c; fits = ap (λ v. (one v).fits) e ∙ s.fits; whole = s.whole ∙ ap (λ v. (one v).bytes) (sym e) }, ap make (sym e) ∙ (is t c).1)

  pub last_right : Right among (λ t. one (part t)) made (λ bytes. read bytes >>= λ a rest. Ok (make a, rest))
  last_right = moved amongA one make among (λ t. one (part t)) made (λ bytes. read bytes >>= λ a rest. Ok (make a, rest))
      last_there
      (λ t bytes s. (part t, record { chosen = (is t s.chosen).0; fits = s.fits; whole = s.whole }, (is t s.chosen).1))
      (mapped amongA one same make read right)
