-- What is settled covers whatever a crash leaves of a page, byte by byte.
use Rattle.disk_layout.specs.Places.{in_place}
use Rattle.std.proofs.Common.{◌≤◌, ℕ, zero, suc, List, [], ◌∷◌, take, drop, arith, get_or}
use Rattle.std.specs.Prelude.{Bool, true, false, ◌==◌, if◌then◌else◌, bit_or}
use Rattle.std.proofs.lemmas.Nat.{le_or_l, le_or_r}
use Rattle.disk_layout.specs.declared.entry.Entry.{Entry}
use Rattle.disk_layout.specs.declared.entry.Entry.TheVariants.{Update, End}
use Rattle.disk_layout.specs.Pages.{redone, firsts}
use Rattle.disk_log.specs.Puts.{or_of, settled_byte}

or_grows : (news : List Entry) (p k byte : ℕ) → byte ≤ or_of news p k byte
or_grows [] p k byte = omega arith
or_grows (End t ∷ news) p k byte = or_grows news p k byte
or_grows (Update t page old new ∷ news) p k byte = by (page == p) (or_grows news p k (bit_or byte (get_or new k 0))) (or_grows news p k byte)
  where
    by : (here : Bool) → bit_or byte (get_or new k 0) ≤ or_of news p k (bit_or byte (get_or new k 0)) → byte ≤ or_of news p k byte → byte ≤ or_of news p k (if here then bit_or byte (get_or new k 0) else byte)
    by true more same = let e = le_or_l byte (get_or new k 0) in omega arith
    by false more same = same

covers : (news : List Entry) (m p k byte : ℕ) (pages : ℕ → List ℕ) → get_or (pages p) k 0 ≤ byte → get_or (redone (firsts m news) pages p) k 0 ≤ or_of news p k byte
unfolding firsts
covers news zero p k byte pages le = let e = or_grows news p k byte in omega arith
covers [] (suc m) p k byte pages le = le
covers (End t ∷ news) (suc m) p k byte pages le = covers news m p k byte pages le
covers (Update t page old new ∷ news) (suc m) p k byte pages le =
    covers news (suc m) p k (if page == p then bit_or byte (get_or new k 0) else byte) (λ (q : ℕ). if page == q then new else pages q) (by (page == p))
  where
    by : (here : Bool) → get_or (if here then new else pages p) k 0 ≤ (if here then bit_or byte (get_or new k 0) else byte)
    by true = le_or_r byte (get_or new k 0)
    by false = le

-- a byte that is zero as settled is zero in whatever a crash leaves
pub settled_covers : (entries : List Entry) (forced m : ℕ) (image : List ℕ) (p k : ℕ)
    → get_or (redone (firsts m (drop forced entries)) (λ (q : ℕ). redone (take forced entries) (in_place image) q) p) k 0 ≤ settled_byte entries forced image p k
unfolding settled_byte
settled_covers entries forced m image p k = covers (drop forced entries) m p k (get_or (redone (take forced entries) (in_place image) p) k 0) (λ (q : ℕ). redone (take forced entries) (in_place image) q) (omega arith)
