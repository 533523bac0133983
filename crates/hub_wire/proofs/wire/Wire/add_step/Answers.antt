use Rattle.std.proofs.Common.{sym, ap, ◌∙◌, arith}
use Rattle.hub_wire.specs.Networks.{Network, Wired, with_message}
use Rattle.hub_wire.proofs.Sending.{messages_more}
use Rattle.hub_wire.proofs.wire.Wire.add_step.Goals as goal

pub loop-message-preserved : goal.loop-message-preserved
loop-message-preserved c =
    let i = c.loop-message.invariant in
    let one = c.in_ok-add_message.ensures.ok in
    record {
      counted = ap (λ (v : Wired). v.counted) one ∙ i.counted;
      ready = ap (λ (v : Wired). v.ready) one ∙ ap (λ (n : Network). with_message n c.message-item.result) i.ready
          ∙ sym (messages_more c.count_step.new.self.ready c.args.sent.now c.loop-message.message-index
          c.message-item.result (omega arith) c.message-item.is);
    }
