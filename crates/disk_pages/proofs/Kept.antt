-- What later writes leave of a page.
use Rattle.std.proofs.Common.{◌≡◌, ◌<◌, ◌≤◌, ℕ, ◌+◌, List, length, ◌∙◌, ap, arith}
use Rattle.std.specs.Prelude.{◌-◌, ◌&&◌, true, min, nat_le}
use Rattle.std.proofs.lemmas.Bool.{and_from, and_parts, le-leb, leb-true}
use Rattle.base_types.specs.Image.{byte_at, bytes_from, Torn, Holds}
use Rattle.base_types.specs.Name.{is_name}
use Rattle.base_outside.proofs.Image.{bytes_from-same}
use Rattle.disk_layout.specs.Numbers.{number_at}
use Rattle.disk_layout.proofs.Bytes.{number-same}
use Rattle.disk_pages.specs.Words.{name_at, is_name_at, are_zero}
use Rattle.disk_pages.specs.Server.{taken_at}
use Rattle.disk_pages.specs.Fields.{IsZeroFrom}
use Rattle.disk_pages.proofs.Zeros.{zeros_at, zeros_same}

-- the bytes before a place are as before
abbrev pub IsSameBefore : ℕ → List ℕ → List ℕ → Type 0
IsSameBefore p old new = (k : ℕ) → k < p → byte_at new k ≡ byte_at old k

-- one write more, behind them
pub write_more : (p at n : ℕ) (a b c : List ℕ) → p ≤ at → Torn at n a b → IsSameBefore at b c → IsSameBefore p a c
write_more p at n a b c le torn same k lt = same k (omega arith) ∙ torn.before k (omega arith)

pub fewer : (p q : ℕ) (a b : List ℕ) → p ≤ q → IsSameBefore q a b → IsSameBefore p a b
fewer p q a b le same k lt = same k (omega arith)

-- zeros behind what was written
pub zero_behind : (p at n q : ℕ) (a b : List ℕ) → IsZeroFrom p a → Torn at n a b → p ≤ q → at + n ≤ q → IsZeroFrom q b
zero_behind p at n q a b blank torn le end k from = torn.after k (omega arith) ∙ blank k (omega arith)

-- what stands before a place
pub number_kept : (n at p : ℕ) (a b : List ℕ) → at + n ≤ p → IsSameBefore p a b → number_at n at b ≡ number_at n at a
number_kept n at p a b le same = number-same n at at b a (λ j lt. same (at + j) (omega arith))

pub bytes_kept : (n at p : ℕ) (a b : List ℕ) → at + n ≤ p → IsSameBefore p a b
    → bytes_from b at n ≡ bytes_from a at n
bytes_kept n at p a b le same = bytes_from-same b a at n (λ k from below. same k (omega arith))

pub taken_kept : (at p : ℕ) (a b : List ℕ) → at + 9 ≤ p → IsSameBefore p a b → taken_at at b ≡ taken_at at a
taken_kept at p a b le same =
    let ship = number_kept 8 at p a b (omega arith) same in
    let code = same (at + 8) (omega arith) in
    λ i. record { ship = ship i; code = code i }

pub name_kept : (at p : ℕ) (a b : List ℕ) → at + 61 ≤ p → IsSameBefore p a b → name_at at b ≡ name_at at a
unfolding name_at
name_kept at p a b le same =
    let size = same at (omega arith) in
    (λ i. bytes_from b (at + 1) (min (size i) 60))
    ∙ bytes_from-same b a (at + 1) (min (byte_at a at) 60) (λ k from below. same k (omega arith))

pub is_name_kept : (at p : ℕ) (a b : List ℕ) → at + 61 ≤ p → IsSameBefore p a b → is_name_at at b ≡ is_name_at at a
unfolding is_name_at
is_name_kept at p a b le same =
    let size = same at (omega arith) in
    let name = name_kept at p a b le same in
    let zeros : are_zero (at + 1 + byte_at b at) (60 - byte_at b at) b ≡ are_zero (at + 1 + byte_at a at) (60 - byte_at a at) a =
    (λ i. are_zero (at + 1 + size i) (60 - size i) b)
    ∙ zeros_same (at + 1 + byte_at a at) (60 - byte_at a at) a b (λ k low high. same k (omega arith)) in
    λ i. nat_le (size i) 60 && is_name (name i) && zeros i

-- a name that was written over zeros
pub name_written : (at : ℕ) (name a b c : List ℕ) → is_name name ≡ true → IsZeroFrom at a
    → Torn at 1 a b → byte_at b at ≡ length name → Torn (at + 1) (length name) b c → Holds (at + 1) name c
    → (name_at at c ≡ name) × (is_name_at at c ≡ true)
unfolding name_at is_name_at
name_written at name a b c is blank first size second holds =
    let short = leb-true (length name) 60 (and_parts _ _ (and_parts _ _ is).0).1 in
    let many : byte_at c at ≡ length name = second.before at (omega arith) ∙ size in
    let whole : min (byte_at c at) 60 ≡ length name = omega (arith, many, short) in
    let text : bytes_from c (at + 1) (min (byte_at c at) 60) ≡ name = ap (bytes_from c (at + 1)) whole ∙ holds.inside in
    let zeros = zeros_at (at + 1 + byte_at c at) (60 - byte_at c at) c (λ k low high.
    second.after k (omega (arith, many)) ∙ first.after k (omega arith) ∙ blank k (omega arith)) in
    let fits : nat_le (byte_at c at) 60 ≡ true = le-leb (byte_at c at) 60 (omega (arith, many, short)) in
    (text, and_from _ _ (and_from _ _ fits (ap is_name text ∙ is)) zeros)
