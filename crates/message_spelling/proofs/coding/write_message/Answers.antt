use Rattle.std.proofs.Common.{◌≡◌, ◌∙◌, ◌++◌, List, ℕ, ap, subst, OnOk}
use Rattle.message_parts.specs.Spelled.{big_endian}
use Rattle.message_spelling.proofs.Written.{message_written}
use Rattle.message_spelling.proofs.coding.write_message.Goals as goal

pub returns : goal.returns
returns c =
    let out : List ℕ = c.args.out.now in
    subst (λ (v : List ℕ). OnOk c.write_body.result (c.write_body.new.out ≡ v))
    (message_written c.args.message.now out c.push_number.new.out c.push_number-2.new.out c.push_number-3.new.out c.write.new.out c.push_number-4.new.out
    (c.in_ok-push_number.ensures ∙ ap (λ v. out ++ big_endian 1 v) c.body_tag.ensures)
    (c.in_ok-push_number-2.ensures ∙ ap (λ v. c.push_number.new.out ++ big_endian 1 v) c.direction_code.ensures)
    c.in_ok-push_number-3.ensures c.in_ok-write.ensures c.in_ok-push_number-4.ensures)
    c.write_body.ensures
