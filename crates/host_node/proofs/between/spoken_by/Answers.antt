use Rattle.std.proofs.Common.{◌≡◌, ◌++◌, ◌∙◌, ℕ, List, ap, length, sym, take}
use Rattle.host_node.proofs.Waiting.{first_is, no_first}
use Rattle.message_calls.specs.Replies.{spell_reply}
use Rattle.host_node.proofs.between.spoken_by.Goals as goal

pub returns-in_default : goal.returns-in_default
returns-in_default c = no_first c.at.result c.args.step.now.answers c.at.ensures c.in_default.not-Some

pub returns : goal.returns
returns c =
    let bytes = (spell_reply c.in-Some.answer.now.reply).bytes in
    let spelled : c.write_reply.new.out ≡ bytes =
    c.in_ok-write_reply.ensures ∙ ap (λ (l : List ℕ). l ++ bytes) c.new-spelled.ensures in
    let size : c.len-count.result ≡ length c.as_slice.result.now =
    c.len-count.ensures ∙ ap (λ (l : List ℕ). length l) (sym c.as_slice.ensures) in
    let taken : take c.len-count.result c.put_front.new.out ≡ c.as_slice.result.now =
    ap (λ (n : ℕ). take n c.put_front.new.out) size ∙ c.put_front.ensures in (
      c.in-Some.answer.now,
      first_is c.at.result c.args.step.now.answers c.in-Some.answer c.at.ensures c.in-Some.is,
      taken ∙ c.as_slice.ensures ∙ spelled,
    )
