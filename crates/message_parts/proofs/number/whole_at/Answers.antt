use Rattle.std.proofs.Common.{◌≡◌, ◌∙◌, ℕ, List, take, ap, arith, sym, refl}
use Rattle.byteorder.specs.Endian.{big_from}
use Rattle.message_parts.proofs.Right.{are_bytes}
use Rattle.message_parts.proofs.Whole.{number_short, number_whole, below_whole}
use Rattle.message_parts.proofs.number.whole_at.Goals as goal

pub returns-then-bytes-width-clause-number : goal.returns-then-bytes-width-clause-number
returns-then-bytes-width-clause-number c =
    number_short c.args.width c.args.bytes.now (are_bytes c.args.bytes.now (λ i. omega (arith, c.type_inv.bytes i))) c.if-bytes-width.true

pub returns-clause-number : goal.returns-clause-number
returns-clause-number c =
    let n : big_from 0 c.args.width (take c.args.width c.args.bytes.now) ≡ c.read_uint.result =
    ap (λ (v : List ℕ). big_from 0 c.args.width v) (sym c.split_at.ensures.front) ∙ sym c.read_uint.ensures in
    number_whole c.args.width c.args.bytes.now (are_bytes c.args.bytes.now (λ i. omega (arith, c.type_inv.bytes i))) c.if-bytes-width.false
    ∙ rw (n, c.split_at.ensures.back) refl

pub returns-clause-below : goal.returns-clause-below
returns-clause-below c =
    let h = below_whole c.args.width c.args.bytes.now (λ i. omega (arith, c.type_inv.bytes i)) in
    let n : big_from 0 c.args.width (take c.args.width c.args.bytes.now) ≡ c.read_uint.result =
    ap (λ (v : List ℕ). big_from 0 c.args.width v) (sym c.split_at.ensures.front) ∙ sym c.read_uint.ensures in
    omega (arith, h, n)
