use Rattle.std.proofs.Common.{arith}
use Rattle.message_spelling.specs.Messages.{message_at}
use Rattle.message_parts.proofs.Right.{are_bytes}
use Rattle.message_spelling.proofs.Decoding.{stopped, rest_within, left_within, found_front, none_there, bad_there}
use Rattle.message_spelling.proofs.coding.decode.Goals as goal

pub overflow_sub-result : goal.overflow_sub-result
overflow_sub-result c = rest_within c.args.bytes.now c.in-Ok.rest.now c.in-Ok.message (are_bytes c.args.bytes.now (λ i. omega (arith, c.type_inv.bytes i))) c.in-Ok.ensures

pub overflow_sub-result-in-Err-Bad : goal.overflow_sub-result-in-Err-Bad
overflow_sub-result-in-Err-Bad c = left_within c.args.bytes.now c.in-Err-Bad.left (are_bytes c.args.bytes.now (λ i. omega (arith, c.type_inv.bytes i))) (stopped c.in-Err-Bad.field-0 c.in-Err-Bad.left (message_at c.args.bytes.now) c.in-Err-Bad.field-0-is c.in-Err-Bad.ensures)

pub returns-in-Ok : goal.returns-in-Ok
returns-in-Ok c = found_front c.args.bytes.now c.in-Ok.rest.now c.in-Ok.message (are_bytes c.args.bytes.now (λ i. omega (arith, c.type_inv.bytes i))) c.in-Ok.ensures

pub returns-in-Err-Bad : goal.returns-in-Err-Bad
returns-in-Err-Bad c =
    (none_there c.args.bytes.now c.in-Err-Bad.left (stopped c.in-Err-Bad.field-0 c.in-Err-Bad.left (message_at c.args.bytes.now) c.in-Err-Bad.field-0-is c.in-Err-Bad.ensures), bad_there c.args.bytes.now c.in-Err-Bad.left (are_bytes c.args.bytes.now (λ i. omega (arith, c.type_inv.bytes i))) (stopped c.in-Err-Bad.field-0 c.in-Err-Bad.left (message_at c.args.bytes.now) c.in-Err-Bad.field-0-is c.in-Err-Bad.ensures))
