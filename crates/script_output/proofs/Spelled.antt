-- Bytes between quotes, and what follows them.
use Rattle.std.proofs.Common.{◌≡◌, ℕ, zero, suc, ◌==◌, ◌||◌, nat_lt, Bool, true, false, if◌then◌else◌, ◌+◌, ◌<◌, ◌/◌, ◌%◌, List, [], ◌∷◌, ◌++◌, get_or, take, drop, length, ◌-◌, ◌≤◌, refl, sym, ap, subst, ◌∙◌, arith, append_assoc, append-nil}
use Rattle.std.specs.Str.{IsAscii, IsUtf8}
use Rattle.std.proofs.lemmas.List.{drop_more, get_or-drop, length-drop, take_more}
use Rattle.std.proofs.lemmas.Str.{IsAscii-append, IsUtf8-from_ascii}
use Rattle.std.proofs.lemmas.Str.Ascii.{IsAscii-nil}
use Rattle.std.proofs.lemmas.Grind.{common_steps}
use Rattle.script_words.specs.Words.{is_in}
use Rattle.script_words.specs.Spelling.{hex_of, spelled_byte, spelled_bytes}

pub byte_more : (byte : ℕ) (rest : List ℕ) → spelled_byte byte rest ≡ spelled_byte byte [] ++ rest
byte_more byte rest = grind (arith, common_steps)

pub spelled_more : (bytes rest : List ℕ) → spelled_bytes bytes rest ≡ spelled_bytes bytes [] ++ rest
spelled_more [] rest = refl
spelled_more (byte ∷ bytes) rest =
    ap (spelled_byte byte) (spelled_more bytes rest)
    ∙ byte_more byte (spelled_bytes bytes [] ++ rest)
    ∙ sym (append_assoc (spelled_byte byte []) (spelled_bytes bytes []) rest)
    ∙ ap (λ front. front ++ rest) (sym (byte_more byte (spelled_bytes bytes [])))

pub quoted_after : (out bytes : List ℕ) → ((out ++ 34 ∷ []) ++ spelled_bytes bytes []) ++ 34 ∷ [] ≡ out ++ 34 ∷ spelled_bytes bytes (34 ∷ [])
quoted_after out bytes = rw (spelled_more bytes (34 ∷ [])) (simp append_assoc)

-- bytes between quotes are ASCII
ascii_more : (x : ℕ) (xs : List ℕ) → x < 128 → IsAscii xs → IsAscii (x ∷ xs)
ascii_more x xs h rest zero = h
ascii_more x xs h rest (suc i) = rest i

either_below : (test : Bool) (m n : ℕ) → m < 128 → n < 128 → (if test then m else n) < 128
either_below true m n h k = h
either_below false m n h k = k

hex_ascii : (n : ℕ) → n < 16 → hex_of n < 128
hex_ascii n h = either_below (nat_lt n 10) (n + 48) (n + 87) (omega arith) (omega arith)

spelled_ascii : (escaped inside : Bool) (byte : ℕ) → (escaped ≡ true → byte < 128) → (inside ≡ true → byte < 128) → byte < 256 →
    IsAscii (if escaped then 92 ∷ byte ∷ [] else (if inside then byte ∷ [] else 92 ∷ 120 ∷ hex_of (byte / 16) ∷ hex_of (byte % 16) ∷ []))
spelled_ascii true inside byte e i h = ascii_more 92 (byte ∷ []) (omega arith) (ascii_more byte [] (e refl) IsAscii-nil)
spelled_ascii false true byte e i h = ascii_more byte [] (i refl) IsAscii-nil
spelled_ascii false false byte e i h =
    ascii_more 92 (120 ∷ hex_of (byte / 16) ∷ hex_of (byte % 16) ∷ []) (omega arith)
    (ascii_more 120 (hex_of (byte / 16) ∷ hex_of (byte % 16) ∷ []) (omega arith)
    (ascii_more (hex_of (byte / 16)) (hex_of (byte % 16) ∷ []) (hex_ascii (byte / 16) (omega arith)) (ascii_more (hex_of (byte % 16)) [] (hex_ascii (byte % 16) (omega arith)) IsAscii-nil)))

pub byte_ascii : (byte : ℕ) → byte < 256 → IsAscii (spelled_byte byte [])
byte_ascii byte h =
    spelled_ascii ((byte == 34) || (byte == 92)) (is_in 32 126 byte) byte (λ e. grind (arith, common_steps, e)) (λ e. grind (arith, common_steps, e)) h

pub bytes_ascii : (bytes : List ℕ) → ((i : ℕ) → get_or bytes i 0 < 256) → IsAscii (spelled_bytes bytes [])
bytes_ascii [] h = IsAscii-nil
bytes_ascii (byte ∷ bytes) h =
    subst IsAscii (sym (byte_more byte (spelled_bytes bytes [])))
    (IsAscii-append (spelled_byte byte []) (spelled_bytes bytes []) (byte_ascii byte (h 0)) (bytes_ascii bytes (λ i. h (suc i))))

pub spelled_utf8 : (bytes text : List ℕ) → ((i : ℕ) → get_or bytes i 0 < 256) → text ≡ spelled_bytes bytes [] → IsUtf8 text
spelled_utf8 bytes text h e = subst IsUtf8 (sym e) (IsUtf8-from_ascii (spelled_bytes bytes []) (bytes_ascii bytes h))

-- the byte at a place, and what is left behind it
spelled_at : (bytes : List ℕ) (at : ℕ) → at < length bytes → spelled_byte (get_or bytes at 0) [] ++ spelled_bytes (drop (at + 1) bytes) [] ≡ spelled_bytes (drop at bytes) []
spelled_at bytes at lt =
    sym (byte_more (get_or bytes at 0) (spelled_bytes (drop (at + 1) bytes) []))
    ∙ ap (λ left. spelled_bytes left []) (sym (drop_more bytes at 0 lt))

-- one byte more that stands as it is
pub stands_more : (out bytes : List ℕ) (from at : ℕ) → from ≤ at → at < length bytes → spelled_byte (get_or bytes at 0) [] ≡ get_or bytes at 0 ∷ []
    → (out ++ take (at + 1 - from) (drop from bytes)) ++ spelled_bytes (drop (at + 1) bytes) [] ≡ (out ++ take (at - from) (drop from bytes)) ++ spelled_bytes (drop at bytes) []
stands_more out bytes from at le lt s =
    let byte : ℕ = get_or bytes at 0 in
    let rest : List ℕ = spelled_bytes (drop (at + 1) bytes) [] in
    let piece : List ℕ = take (at - from) (drop from bytes) in
    let count : at + 1 - from ≡ at - from + 1 = omega (arith, le) in
    let long : at - from < length (drop from bytes) = omega (arith, le, lt, length-drop from bytes) in
    let place : from + (at - from) ≡ at = omega (arith, le) in
    let read : get_or (drop from bytes) (at - from) 0 ≡ byte = get_or-drop from bytes (at - from) 0 ∙ ap (λ k. get_or bytes k 0) place in
    let longer : take (at + 1 - from) (drop from bytes) ≡ piece ++ spelled_byte byte []
    = ap (λ k. take k (drop from bytes)) count ∙ take_more (drop from bytes) (at - from) 0 long ∙ ap (λ x. piece ++ (x ∷ [])) read ∙ ap (λ front. piece ++ front) (sym s) in
    ap (λ front. (out ++ front) ++ rest) longer
    ∙ ap (λ front. front ++ rest) (sym (append_assoc out piece (spelled_byte byte [])))
    ∙ append_assoc (out ++ piece) (spelled_byte byte []) rest
    ∙ ap (λ behind. (out ++ piece) ++ behind) (spelled_at bytes at lt)

-- one byte more by an escape, after the piece before it
pub escaped_more : (out bytes : List ℕ) (from at : ℕ) → at < length bytes
    → (((out ++ take (at - from) (drop from bytes)) ++ spelled_byte (get_or bytes at 0) []) ++ take (at + 1 - (at + 1)) (drop (at + 1) bytes)) ++ spelled_bytes (drop (at + 1) bytes) []
    ≡ (out ++ take (at - from) (drop from bytes)) ++ spelled_bytes (drop at bytes) []
escaped_more out bytes from at lt =
    let escape : List ℕ = spelled_byte (get_or bytes at 0) [] in
    let rest : List ℕ = spelled_bytes (drop (at + 1) bytes) [] in
    let before : List ℕ = out ++ take (at - from) (drop from bytes) in
    let none : at + 1 - (at + 1) ≡ 0 = omega arith in
    ap (λ k. ((before ++ escape) ++ take k (drop (at + 1) bytes)) ++ rest) none
    ∙ ap (λ front. front ++ rest) (append-nil (before ++ escape))
    ∙ append_assoc before escape rest
    ∙ ap (λ behind. before ++ behind) (spelled_at bytes at lt)
