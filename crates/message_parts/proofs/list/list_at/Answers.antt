use Rattle.std.proofs.Common.{◌≡◌, true, false, ap, sym, ◌∙◌, arith, Err}
use Rattle.base_types.specs.Access.{is_access_list}
use Rattle.message_parts.proofs.Access.{read_list}
use Rattle.message_parts.proofs.Right.{are_bytes}
use Rattle.message_parts.proofs.list.list_at.Goals as goal

-- What was read is an access list.
pub unreachable-requires : goal.unreachable-requires
unreachable-requires c =
    let bad : is_access_list c.as_slice.result.now ≡ false = c.in-Err-BadList.ensures.bad.0 (ap Err c.in-Err-BadList.field-0-is) in
    let good : is_access_list c.in_ok-entries.entries ≡ true =
    read_list c.args.count c.args.bytes.now c.in_ok-entries.rest.now c.in_ok-entries.entries c.requires.least c.requires.most (are_bytes c.args.bytes.now (λ i. omega (arith, c.type_inv.bytes i))) c.in_ok-entries.ensures in
    let e : true ≡ false = sym good ∙ sym (ap is_access_list c.as_slice.ensures) ∙ bad in
    cc
