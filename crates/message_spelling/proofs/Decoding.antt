-- What decoding answers, from the law of reading.
use Rattle.std.proofs.Common.{◌≡◌, ℕ, zero, suc, ◌+◌, ◌-◌, ◌<◌, ◌≤◌, true, List, [], ◌∷◌, ◌++◌, length, Ok, Err, refl, sym, ◌∙◌, ap, subst, arith, take, drop, append_assoc, append-nil}
use Rattle.std.proofs.lemmas.List.{length-append, take_at, take-append-drop, length-take}
use Rattle.message_types.specs.declared.message.Message.{Message}
use Rattle.message_spelling.specs.declared.coding.DecodeRefused.TheVariants.{BadMessage, Memory}
use Rattle.message_parts.specs.declared.part.Stopped.{Stopped}
use Rattle.message_parts.specs.declared.part.Stopped.TheVariants.{Bad}
use Rattle.message_parts.specs.Reading.{Reading, Fails}
use Rattle.message_spelling.specs.Messages.{spell_message, message_at, spelling, is_spellable, BeginsMessage, HasMessage, IsLongestBeginning, OneSpelling, ReadsBack}
use Rattle.message_parts.proofs.More.{ok_both}
use Rattle.message_parts.proofs.Right.{Begins, Stops, AreBytes, Any}
use Rattle.message_spelling.proofs.Whole.{message_right}

pub stopped : (e : Stopped) (left : ℕ) (read : Reading Message) → e ≡ Bad left → Fails e read → read ≡ Err left
stopped e left read is f = subst (λ v. Fails v read) is f

pub rest_within : (bytes rest : List ℕ) (message : Message) → AreBytes bytes → message_at bytes ≡ Ok (message, rest) → length rest ≤ length bytes
rest_within bytes rest message are e =
    let f = message_right.found bytes message rest are e in
    let l : length bytes ≡ length f.front + length rest = ap length f.split ∙ length-append f.front rest in
    omega (arith, l)

pub left_within : (bytes : List ℕ) (left : ℕ) → AreBytes bytes → message_at bytes ≡ Err left → left ≤ length bytes
left_within bytes left are e =
    let s = message_right.stops bytes left are e in
    let l : length bytes ≡ length s.front + length s.back = ap length s.split ∙ length-append s.front s.back in
    let r = s.rest in
    omega (arith, l, r)

-- what is read stands at the front of the bytes
pub found_front : (bytes rest : List ℕ) (message : Message) → AreBytes bytes → message_at bytes ≡ Ok (message, rest)
    → (length bytes - length rest ≤ length bytes) × (is_spellable message ≡ true) × (take (length bytes - length rest) bytes ≡ spelling message)
found_front bytes rest message are e =
    let f = message_right.found bytes message rest are e in
    let is : message ≡ f.value = f.is in
    let front : f.front ≡ spelling message = f.spells.whole ∙ ap spelling (sym is) in
    let split : bytes ≡ spelling message ++ rest = f.split ∙ ap (λ v. v ++ rest) front in
    let l : length bytes ≡ length (spelling message) + length rest = ap length split ∙ length-append (spelling message) rest in
    let n : length bytes - length rest ≡ length (spelling message) = omega (arith, l) in
    (omega arith, ap is_spellable is ∙ f.spells.fits, rw n (rw split (take_at (spelling message) rest (length (spelling message)) refl)))

-- a message that stands at the front is read
pub none_there : (bytes : List ℕ) (left : ℕ) → message_at bytes ≡ Err left → HasMessage bytes → ⊥
none_there bytes left e (message, more, fits, whole) =
    let r : message_at (spelling message ++ more) ≡ Ok (message, more) = message_right.again message (spelling message) more (record { chosen = tt; fits = fits; whole = refl }) in
    let q : message_at bytes ≡ Ok (message, more) = ap message_at whole ∙ r in
    cc

-- the beginnings of what begins a message begin it too
pub shorter_begins : (front byte_on : List ℕ) → BeginsMessage (front ++ byte_on) → Begins Any spell_message front
shorter_begins front more (message, last, fits, whole) = (message, more ++ last, record { chosen = tt; fits = fits; whole = sym (append_assoc front more last) ∙ whole })

pub longest_there : (bytes : List ℕ) (left : ℕ) → Stops Any spell_message bytes left → IsLongestBeginning bytes (length bytes - left)
longest_there bytes left s =
    let l : length bytes ≡ length s.front + length s.back = ap length s.split ∙ length-append s.front s.back in
    let r = s.rest in
    let n : length bytes - left ≡ length s.front = omega (arith, l, r) in
    let t : take (length bytes - left) bytes ≡ s.front = rw n (rw s.split (take_at s.front s.back (length s.front) refl)) in
    record {
      within = omega arith;
      begins = (let b = s.begun in (b.0, b.1, b.2.fits, ap (λ v. v ++ b.1) t ∙ b.2.whole));
      longest = λ m low high begins. longer s.front s.back m bytes s.split (omega (arith, low, n)) high s.longest begins;
    }
  where
    longer : (front back : List ℕ) (m : ℕ) (bytes : List ℕ) → bytes ≡ front ++ back → length front < m → m ≤ length bytes
        → ((byte : ℕ) (more : List ℕ) → back ≡ byte ∷ more → Begins Any spell_message (front ++ byte ∷ []) → ⊥)
        → BeginsMessage (take m bytes) → ⊥
    longer front [] m bytes split low high stops begins =
        let l : length bytes ≡ length front = ap length split ∙ ap length (append-nil front) in
        absurd (omega (arith, l, low, high))
    longer front (byte ∷ back) m bytes split low high stops begins =
        let k : suc (m - length front - 1) ≡ m - length front = omega (arith, low) in
        let e : take m bytes ≡ (front ++ byte ∷ []) ++ take (m - length front - 1) back = front_of front byte back m bytes split low in
        stops byte back refl (shorter_begins (front ++ byte ∷ []) (take (m - length front - 1) back) (subst BeginsMessage e begins))
      where
        front_of : (front : List ℕ) (byte : ℕ) (back : List ℕ) (m : ℕ) (bytes : List ℕ) → bytes ≡ front ++ byte ∷ back → length front < m
            → take m bytes ≡ (front ++ byte ∷ []) ++ take (m - length front - 1) back
        front_of front byte back m bytes split low = rw split (taken front byte back m low)
          where
            taken : (front : List ℕ) (byte : ℕ) (back : List ℕ) (m : ℕ) → length front < m → take m (front ++ byte ∷ back) ≡ (front ++ byte ∷ []) ++ take (m - length front - 1) back
            taken [] byte back zero low = absurd (omega (arith, low))
            taken [] byte back (suc m) low = ap (λ v. byte ∷ take v back) (omega arith)
            taken (b ∷ front) byte back zero low = absurd (omega (arith, low))
            taken (b ∷ front) byte back (suc m) low =
                let n : suc m - suc (length front) - 1 ≡ m - length front - 1 = omega arith in
                rw n (ap (λ v. b ∷ v) (taken front byte back m (omega (arith, low))))

pub bad_there : (bytes : List ℕ) (left : ℕ) → AreBytes bytes → message_at bytes ≡ Err left → IsLongestBeginning bytes (length bytes - left)
bad_there bytes left are e = longest_there bytes left (message_right.stops bytes left are e)

pub one_reading : OneSpelling
one_reading a b x y f g e =
    let p : message_at (spelling a ++ x) ≡ Ok (a, x) = message_right.again a (spelling a) x (record { chosen = tt; fits = f; whole = refl }) in
    let q : message_at (spelling b ++ y) ≡ Ok (b, y) = message_right.again b (spelling b) y (record { chosen = tt; fits = g; whole = refl }) in
    ok_both a b x y (sym p ∙ ap message_at e ∙ q)

-- what was written is read back, whatever follows
pub written_back : ReadsBack
written_back message more (Ok found) f d =
    let bytes : List ℕ = spelling message ++ more in
    let back : List ℕ = drop found.1 bytes in
    let e : spelling found.0 ++ back ≡ bytes = ap (λ v. v ++ back) (sym d.2) ∙ take-append-drop found.1 bytes in
    let same = one_reading found.0 message back more d.1 f e in
    let front : take found.1 bytes ≡ spelling message = d.2 ∙ ap spelling same.0 in
    let count : length (take found.1 bytes) ≡ length (spelling message) = ap length front in
    let n : found.1 ≡ length (spelling message) = omega (arith, d.0, count, length-take found.1 bytes) in
    ap (λ v. (v, found.1)) same.0 ∙ ap (λ v. (message, v)) n
written_back message more (Err (BadMessage n)) f d = absurd (d.0 (message, more, f, refl))
written_back message more (Err Memory) f d = refl
