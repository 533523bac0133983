-- Reading pieces is right.
use Rattle.std.proofs.Common.{◌≡◌, ℕ, zero, suc, ◌+◌, ◌-◌, ◌<◌, ◌≤◌, ◌^◌, true, ◌&&◌, List, [], ◌∷◌, ◌++◌, length, Ok, Err, refl, sym, ◌∙◌, ap, arith, lit<, append-nil}
use Rattle.std.specs.Prelude.{nat_le}
use Rattle.std.proofs.lemmas.Bool.{and_parts, and_from, le-leb, leb-true}
use Rattle.tree_calls.specs.declared.part.Piece.{Piece}
use Rattle.message_parts.specs.declared.part.Stopped.{Stopped}
use Rattle.message_parts.specs.declared.part.Stopped.TheVariants.{Bad, Memory}
use Rattle.message_parts.specs.Spelled.{Spelled, ◌&◌, number, items, one_byte}
use Rattle.message_parts.specs.Reading.{Reading, ◌>>=◌, number_at, Fails}
use Rattle.message_parts.specs.Words.{spell_u32, u32_at, spell_bytes, bytes_at, any_byte}
use Rattle.message_parts.specs.Objects.{spell_piece_in, piece_in_at, spell_piece, bytes_in, spell_pieces, pieces_from, pieces_at}
use Rattle.message_parts.proofs.Loop.{with_front, regroup}
use Rattle.message_parts.proofs.More.{more_right}
use Rattle.message_parts.proofs.Parts.{moved, end_right, last_right}
use Rattle.message_parts.proofs.Numbers.{number_right}
use Rattle.message_parts.proofs.Right.{Spells, Right, Any, same, IsRight}
use Rattle.message_parts.proofs.Words.{u32_right, variant_right, bytes_right, code4_bounds}

abbrev pub made_piece : (ℕ × List ℕ) → Piece
made_piece t = record { from = t.0; bytes = t.1 }

pub piece_parts : (room : ℕ) → room < 256 ^ 4 → Right Any (λ t. spell_piece_in room (made_piece t)) made_piece (piece_in_at room)
unfolding spell_piece_in piece_in_at
piece_parts room top =
    more_right (λ (t : (ℕ × List ℕ)). Any t) spell_u32 (λ t. spell_bytes room t.1) (λ t. t.0) made_piece u32_at
    (λ a0 rest. bytes_at room rest >>= λ a1 rest. Ok (record { from = a0; bytes = a1 }, rest)) u32_right
    (λ a0 f0. last_right (λ (t : (ℕ × List ℕ)). (Any t × (t.0 ≡ a0))) Any (spell_bytes room) (λ t. t.1) made_piece (λ z. record { from = a0; bytes = z }) (bytes_at room)
    (λ z any. ((a0, z), (tt, refl), refl)) (λ t c. (tt, cc)) (bytes_right room top))

pub piece_right : (room : ℕ) → room < 256 ^ 4 → IsRight (spell_piece_in room) (piece_in_at room)
piece_right room top = variant_right Any (spell_piece_in room) made_piece (piece_in_at room) (λ t. tt) (λ a c. ((a.from, a.bytes), refl)) (piece_parts room top)

-- what is spelled of a piece depends on the room only in whether it fits
pub same_piece : (room other : ℕ) (x : Piece) → (spell_piece_in room x).bytes ≡ (spell_piece_in other x).bytes
unfolding spell_piece_in spell_bytes number
same_piece room other x = refl

pub length_fits : (room : ℕ) (x : Piece) → (spell_piece_in room x).fits ≡ true → length x.bytes ≤ room
unfolding spell_piece_in spell_bytes
length_fits room x f =
    let p = and_parts (spell_u32 x.from).fits ((number 4 0 room (length x.bytes)).fits && (items (one_byte any_byte) x.bytes).fits) f in
    let q = and_parts (number 4 0 room (length x.bytes)).fits (items (one_byte any_byte) x.bytes).fits p.1 in
    (code4_bounds 0 room (length x.bytes) q.0).1

-- a piece that fits fits in other room that is enough
pub fits_in : (room other : ℕ) (x : Piece) → length x.bytes ≤ other → (spell_piece_in room x).fits ≡ true → (spell_piece_in other x).fits ≡ true
unfolding spell_piece_in spell_bytes number
fits_in room other x h f =
    let p = and_parts (spell_u32 x.from).fits ((nat_le 0 (length x.bytes) && nat_le (length x.bytes) room) && (items (one_byte any_byte) x.bytes).fits) f in
    let q = and_parts (nat_le 0 (length x.bytes) && nat_le (length x.bytes) room) (items (one_byte any_byte) x.bytes).fits p.1 in
    and_from (spell_u32 x.from).fits ((nat_le 0 (length x.bytes) && nat_le (length x.bytes) other) && (items (one_byte any_byte) x.bytes).fits) p.0
    (and_from (nat_le 0 (length x.bytes) && nat_le (length x.bytes) other) (items (one_byte any_byte) x.bytes).fits
    (and_from (nat_le 0 (length x.bytes)) (nat_le (length x.bytes) other) (le-leb 0 (length x.bytes) (omega arith)) (le-leb (length x.bytes) other h)) q.1)

-- pieces in so much room
abbrev pub in_room : ℕ → List Piece → Spelled
in_room room xs = record { fits = nat_le (bytes_in xs) room; bytes = [] } & items spell_piece xs

abbrev pub has_length : ℕ → List Piece → Type 0
has_length n xs = length xs ≡ n

abbrev pub rest_in : ℕ → Piece × List Piece → Spelled
rest_in room p = in_room (room - length p.0.bytes) p.1

abbrev pub rest_length : ℕ → Piece × List Piece → Type 0
rest_length n p = length p.1 ≡ n

abbrev pub joined : Piece × List Piece → List Piece
joined p = p.0 ∷ p.1

no_more : (xs : List Piece) → length xs ≡ 0 → xs ≡ []
no_more [] e = refl
no_more (x ∷ xs) e = absurd (cc)

one_more : (n : ℕ) (xs : List Piece) → length xs ≡ suc n → (x : Piece) × (ys : List Piece) × (x ∷ ys ≡ xs) × (length ys ≡ n)
one_more n [] e = absurd (cc)
one_more n (x ∷ ys) e = (x, ys, refl, omega (arith, e))

to_all : (room : ℕ) (x : Piece) (xs : List Piece) → room ≤ 65536 → ((spell_piece_in room x).fits && (rest_in room (x, xs)).fits) ≡ true → (in_room room (x ∷ xs)).fits ≡ true
unfolding items
to_all room x xs le f =
    let p = and_parts (spell_piece_in room x).fits (rest_in room (x, xs)).fits f in
    let q = and_parts (nat_le (bytes_in xs) (room - length x.bytes)) (items spell_piece xs).fits p.1 in
    let l : length x.bytes ≤ room = length_fits room x p.0 in
    let m : bytes_in xs ≤ room - length x.bytes = leb-true (bytes_in xs) (room - length x.bytes) q.0 in
    and_from (nat_le (length x.bytes + bytes_in xs) room) ((spell_piece x).fits && (items spell_piece xs).fits)
    (le-leb (length x.bytes + bytes_in xs) room (omega (arith, l, m)))
    (and_from (spell_piece x).fits (items spell_piece xs).fits (fits_in room 65536 x (omega (arith, l, le)) p.0) q.1)

from_all : (room : ℕ) (x : Piece) (xs : List Piece) → (in_room room (x ∷ xs)).fits ≡ true → ((spell_piece_in room x).fits && (rest_in room (x, xs)).fits) ≡ true
unfolding items
from_all room x xs f =
    let p = and_parts (nat_le (length x.bytes + bytes_in xs) room) ((spell_piece x).fits && (items spell_piece xs).fits) f in
    let q = and_parts (spell_piece x).fits (items spell_piece xs).fits p.1 in
    let l : length x.bytes + bytes_in xs ≤ room = leb-true (length x.bytes + bytes_in xs) room p.0 in
    and_from (spell_piece_in room x).fits (rest_in room (x, xs)).fits (fits_in 65536 room x (omega (arith, l)) q.0)
    (and_from (nat_le (bytes_in xs) (room - length x.bytes)) (items spell_piece xs).fits (le-leb (bytes_in xs) (room - length x.bytes) (omega (arith, l))) q.1)

both_bytes : (room : ℕ) (x : Piece) (xs : List Piece) → ((spell_piece_in room x).bytes ++ (rest_in room (x, xs)).bytes) ≡ (in_room room (x ∷ xs)).bytes
unfolding items
both_bytes room x xs = ap (λ v. v ++ (items spell_piece xs).bytes) (same_piece room 65536 x)

back_to_all : (n room : ℕ) (xs : List Piece) (bytes : List ℕ) → Spells (has_length (suc n)) (in_room room) xs bytes
    → (p : Piece × List Piece) × Spells (rest_length n) (λ p. spell_piece_in room p.0 & rest_in room p) p bytes × (joined p ≡ xs)
back_to_all n room xs bytes s =
    let (y, ys, e, l) = one_more n xs s.chosen in
    let f : (in_room room (y ∷ ys)).fits ≡ true = ap (λ v. (in_room room v).fits) e ∙ s.fits in
    ((y, ys), record { chosen = l; fits = from_all room y ys f; whole = s.whole ∙ ap (λ v. (in_room room v).bytes) (sym e) ∙ sym (both_bytes room y ys) }, e)

behind_piece : (n room : ℕ) (x : Piece) → Right (has_length n) (in_room (room - length x.bytes)) same (pieces_from (room - length x.bytes) n)
    → Right (λ p. rest_length n p × (p.0 ≡ x)) (rest_in room) joined (λ rest. pieces_from (room - length x.bytes) n rest >>= λ xs rest. Ok (x ∷ xs, rest))
behind_piece n room x right =
    moved (λ p. rest_length n p × (p.0 ≡ x)) (λ p. in_room (room - length x.bytes) p.1) joined (λ p. rest_length n p × (p.0 ≡ x)) (rest_in room) joined
    (λ rest. pieces_from (room - length x.bytes) n rest >>= λ xs rest. Ok (x ∷ xs, rest))
    (λ p bytes s. let e = s.chosen.1 in
    (p, record { chosen = s.chosen; fits = ap (λ v. (in_room (room - length v.bytes) p.1).fits) e ∙ s.fits; whole = s.whole }, refl))
    (λ p bytes s. let e = s.chosen.1 in
    (p, record { chosen = s.chosen; fits = ap (λ v. (in_room (room - length v.bytes) p.1).fits) (sym e) ∙ s.fits; whole = s.whole }, refl))
    (last_right (λ p. rest_length n p × (p.0 ≡ x)) (has_length n) (in_room (room - length x.bytes)) (λ p. p.1) joined (λ xs. x ∷ xs) (pieces_from (room - length x.bytes) n)
    (λ xs l. ((x, xs), (l, refl), refl))
    (λ p c. (c.0, ap (λ v. v ∷ p.1) (sym c.1)))
    right)

room_right : (n room : ℕ) → room ≤ 65536 → Right (has_length n) (in_room room) same (pieces_from room n)
unfolding items
room_right zero room le = end_right (has_length 0) (in_room room) same [] [] refl (and_from (nat_le 0 room) true (le-leb 0 room (omega arith)) refl)
    (λ xs e f. (no_more xs e, ap (λ v. (in_room room v).bytes) (no_more xs e)))
room_right (suc n) room le =
    moved (rest_length n) (λ p. spell_piece_in room p.0 & rest_in room p) joined (has_length (suc n)) (in_room room) same (pieces_from room (suc n))
    (λ p bytes s. (joined p, record { chosen = (let h : length p.1 ≡ n = s.chosen in omega (arith, h)); fits = to_all room p.0 p.1 le s.fits; whole = s.whole ∙ both_bytes room p.0 p.1 }, refl))
    (λ xs bytes s. back_to_all n room xs bytes s)
    (more_right (rest_length n) (spell_piece_in room) (rest_in room) (λ p. p.0) joined (piece_in_at room)
    (λ x rest. pieces_from (room - length x.bytes) n rest >>= λ xs rest. Ok (x ∷ xs, rest))
    (piece_right room (let t : 65536 < 256 ^ 4 = lit< tt in omega (arith, le, t)))
    (λ x f. behind_piece n room x (room_right n (room - length x.bytes) (omega (arith, le)))))

abbrev pub count_first : List Piece → Spelled
count_first xs = number 2 0 65535 (length xs) & in_room 65536 xs

pub pieces_right : IsRight spell_pieces pieces_at
unfolding spell_pieces pieces_at
pieces_right = moved Any count_first same Any spell_pieces same pieces_at
    (λ xs bytes s.
    let p = and_parts (number 2 0 65535 (length xs)).fits (nat_le (bytes_in xs) 65536 && (items spell_piece xs).fits) s.fits in
    let q = and_parts (nat_le (bytes_in xs) 65536) (items spell_piece xs).fits p.1 in
    (xs, record { chosen = tt; fits = and_from (nat_le (bytes_in xs) 65536) ((number 2 0 65535 (length xs)).fits && (items spell_piece xs).fits) q.0 (and_from (number 2 0 65535 (length xs)).fits (items spell_piece xs).fits p.0 q.1); whole = s.whole }, refl))
    (λ xs bytes s.
    let p = and_parts (nat_le (bytes_in xs) 65536) ((number 2 0 65535 (length xs)).fits && (items spell_piece xs).fits) s.fits in
    let q = and_parts (number 2 0 65535 (length xs)).fits (items spell_piece xs).fits p.1 in
    (xs, record { chosen = tt; fits = and_from (number 2 0 65535 (length xs)).fits (nat_le (bytes_in xs) 65536 && (items spell_piece xs).fits) q.0 (and_from (nat_le (bytes_in xs) 65536) (items spell_piece xs).fits p.0 q.1); whole = s.whole }, refl))
    (more_right Any (number 2 0 65535) (in_room 65536) length same (number_at 2 0 65535) (λ count rest. pieces_from 65536 count rest) (number_right 0 65535 (omega arith) 2 (lit< tt))
    (λ count f. moved (has_length count) (in_room 65536) same (λ xs. Any xs × (length xs ≡ count)) (in_room 65536) same (pieces_from 65536 count)
    (λ xs bytes s. (xs, record { chosen = (tt, s.chosen); fits = s.fits; whole = s.whole }, refl))
    (λ xs bytes s. (xs, record { chosen = s.chosen.1; fits = s.fits; whole = s.whole }, refl))
    (room_right count 65536 (omega arith))))

-- reading them one after another
pub pieces_go_on : (room : ℕ) (front : List Piece) (count i : ℕ) (bytes : List ℕ) (x : Piece) (after : List ℕ) (total : Reading (List Piece)) → i < count → piece_in_at room bytes ≡ Ok (x, after)
    → with_front front (pieces_from room (count - i) bytes) ≡ total → with_front (front ++ x ∷ []) (pieces_from (room - length x.bytes) (count - (i + 1)) after) ≡ total
pieces_go_on room front count i bytes x after total lt h so_far =
    let k : count - i ≡ suc (count - (i + 1)) = omega arith in
    let one : with_front front (pieces_from room (count - i) bytes) ≡ with_front (front ++ x ∷ []) (pieces_from (room - length x.bytes) (count - (i + 1)) after) =
    rw (k, h) (regroup front x (pieces_from (room - length x.bytes) (count - (i + 1)) after)) in
    sym one ∙ so_far

pub pieces_end : (room : ℕ) (e : Stopped) (front : List Piece) (count i : ℕ) (bytes : List ℕ) (total : Reading (List Piece)) → i < count → Fails e (piece_in_at room bytes)
    → with_front front (pieces_from room (count - i) bytes) ≡ total → Fails e total
pieces_end room Memory front count i bytes total lt h so_far = tt
pieces_end room (Bad left) front count i bytes total lt h so_far =
    let k : count - i ≡ suc (count - (i + 1)) = omega arith in
    let one : with_front front (pieces_from room (count - i) bytes) ≡ Err left = rw (k, h) refl in
    sym so_far ∙ one

pub pieces_done : (room : ℕ) (front : List Piece) (count i : ℕ) (bytes : List ℕ) (total : Reading (List Piece)) → count ≤ i → with_front front (pieces_from room (count - i) bytes) ≡ total → total ≡ Ok (front, bytes)
pieces_done room front count i bytes total le so_far =
    let k : count - i ≡ 0 = omega arith in
    let one : with_front front (pieces_from room (count - i) bytes) ≡ Ok (front, bytes) = rw k (ap (λ v. Ok (v, bytes)) (append-nil front)) in
    sym so_far ∙ one
