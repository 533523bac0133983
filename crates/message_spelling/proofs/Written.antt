-- What is written of a message, part by part.
use Rattle.std.proofs.Common.{◌≡◌, ℕ, List, ◌++◌, ◌∙◌, ap, append_assoc}
use Rattle.message_types.specs.declared.message.Message.{Message}
use Rattle.message_parts.specs.Spelled.{number, big_endian}
use Rattle.message_parts.specs.Words.{coded, spell_server}
use Rattle.message_spelling.specs.Bodies.{body_tag, body_fields}
use Rattle.message_spelling.specs.Messages.{direction_code, spell_message}

regroup : (out a b c d e f : List ℕ) → (((((out ++ a) ++ b) ++ c) ++ d) ++ e) ++ f ≡ out ++ (a ++ (b ++ (c ++ (d ++ (e ++ f)))))
regroup out a b c d e f = simp append_assoc

pub message_written : (m : Message) (out a b c d e : List ℕ) → a ≡ out ++ big_endian 1 (body_tag m.body) → b ≡ a ++ big_endian 1 (direction_code m.direction)
    → c ≡ b ++ big_endian 1 m.host.0 → d ≡ c ++ (spell_server m.server).bytes → e ≡ d ++ big_endian 8 m.epoch
    → e ++ (body_fields m.moves m.body).bytes ≡ out ++ (spell_message m).bytes
unfolding spell_message number coded
message_written m out a b c d e ea eb ec ed ee =
    let tail : List ℕ = (body_fields m.moves m.body).bytes in
    let e1 : b ≡ (out ++ big_endian 1 (body_tag m.body)) ++ big_endian 1 (direction_code m.direction) = eb ∙ ap (λ v. v ++ big_endian 1 (direction_code m.direction)) ea in
    let e2 = ec ∙ ap (λ v. v ++ big_endian 1 m.host.0) e1 in
    let e3 = ed ∙ ap (λ v. v ++ (spell_server m.server).bytes) e2 in
    let e4 = ee ∙ ap (λ v. v ++ big_endian 8 m.epoch) e3 in
    ap (λ v. v ++ tail) e4
    ∙ regroup out (big_endian 1 (body_tag m.body)) (big_endian 1 (direction_code m.direction)) (big_endian 1 m.host.0) (spell_server m.server).bytes (big_endian 8 m.epoch) tail
