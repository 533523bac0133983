use Rattle.std.proofs.Common.{List, None, ap, arith, subst, ◌∙◌, ◌∷◌, ◌++◌, [], ℕ}
use Rattle.host_tells.specs.Spoken.{Puts}
use Rattle.host_tells.proofs.Room.{put_fails, puts_then}
use Rattle.message_calls.specs.Replies.{refusal_fields, refusal_tag}
use Rattle.host_tells.proofs.Room.{byte_is}
use Rattle.host_tells.proofs.Spelled.{refusal_is}
use Rattle.host_tells.proofs.spelling.put_refusal.Goals as goal

pub put_denied-requires : goal.put_denied-requires
put_denied-requires c =
    let p = c.in_ok-at.ensures in
    let low = p.1 in
    let same = p.2 in
    omega (arith, low, same)

pub returns-in_err-at : goal.returns-in_err-at
returns-in_err-at c =
    rw c.from_residual.ensures (subst (λ (bytes : List ℕ). Puts bytes c.args.at c.args.out.now c.put_byte.new.out None)
    (ap (λ (front : List ℕ). front ++ (refusal_fields c.args.refusal.now).bytes) (ap (λ t. t ∷ []) c.refusal_tag.ensures
    ∙ byte_is (refusal_tag c.args.refusal.now) (omega (arith, c.refusal_tag.ensures, c.refusal_tag.type_inv)))
    ∙ refusal_is c.args.refusal.now)
    (put_fails (c.refusal_tag.result ∷ []) ((refusal_fields c.args.refusal.now).bytes) c.args.at c.args.out.now
    c.put_byte.new.out c.put_byte.new.out
    c.in_err-at.ensures))

pub returns : goal.returns
returns c =
    subst (λ (bytes : List ℕ). Puts bytes c.args.at c.args.out.now c.put_denied.new.out c.put_denied.result)
    (ap (λ (front : List ℕ). front ++ (refusal_fields c.args.refusal.now).bytes) (ap (λ t. t ∷ []) c.refusal_tag.ensures
    ∙ byte_is (refusal_tag c.args.refusal.now) (omega (arith, c.refusal_tag.ensures, c.refusal_tag.type_inv)))
    ∙ refusal_is c.args.refusal.now)
    (puts_then (c.refusal_tag.result ∷ []) ((refusal_fields c.args.refusal.now).bytes) c.args.at c.args.out.now
    c.put_byte.new.out c.put_denied.new.out
    c.in_ok-at.at c.put_denied.result c.in_ok-at.ensures c.put_denied.ensures)
