use Rattle.std.proofs.Common.{◌∙◌, arith, refl}
use Rattle.script_output.proofs.Spelled.{stands_more, escaped_more}
use Rattle.script_output.proofs.texts.push_spelled.Goals as goal
use Rattle.script_output.proofs.texts.push_spelled.Goals.{then-is_escaped+in_ok-push_piece+in_ok-push_byte, else-is_escaped}

pub loop-at-preserved : goal.loop-at-preserved
loop-at-preserved c =
    let lt = c.loop-at-test.true in let order = c.loop-at.invariant.order in
    let bytes = c.args.bytes.now in let at = c.loop-at.at in
    elim c.if-is_escaped.branch [
      | then-is_escaped+in_ok-push_piece+in_ok-push_byte w ↦ (
          let from = w.from-is in
          let piece = w.in_ok-push_piece.ensures in
          let escape = w.in_ok-push_byte.ensures in
          record {
            order = omega (arith, from);
            bytes = rw (w.out-is, from, escape, piece) (escaped_more c.loop-at.out bytes c.loop-at.from at lt ∙ c.loop-at.invariant.bytes);
          })
      | else-is_escaped w ↦ (
          let from = w.from-is in
          record {
            order = omega (arith, from, order);
            bytes = rw (w.out-is, from) (stands_more c.loop-at.out bytes c.loop-at.from at order lt (w.if-is_escaped.ensures refl) ∙ c.loop-at.invariant.bytes);
          })
    ]
