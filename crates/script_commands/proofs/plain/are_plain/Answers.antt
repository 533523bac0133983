use Rattle.std.proofs.Common.{rules, ◌≡◌, codes, arith}
use Rattle.std.specs.String.{string_bytes}
use Rattle.std.proofs.lemmas.Grind.{common_steps}
use Rattle.script_commands.proofs.Steps.{is_text}
use Rattle.script_commands.proofs.Refused.{plain_value, plain_first, plain_none, plain_name, texts_next}
use Rattle.script_commands.proofs.plain.are_plain.Goals as goal
use Rattle.script_commands.proofs.plain.are_plain.Goals.{then-awaits+else-is_dashed, else-awaits+then-is_word, else-awaits+else-is_word+else-not-is_plain}

pub returns-then-is_dashed : goal.returns-then-is_dashed
returns-then-is_dashed c = grind (arith, common_steps, texts_next string_bytes c.args.words.now c.loop-word.word-index c.word-item.result (search rules) (search rules), plain_value)

pub returns-then-not-is_plain : goal.returns-then-not-is_plain
returns-then-not-is_plain c = grind (arith, common_steps, texts_next string_bytes c.args.words.now c.loop-word.word-index c.word-item.result (search rules) (search rules), plain_first)

pub loop-word-preserved : goal.loop-word-preserved
loop-word-preserved c =
    elim c.if-awaits.branch [
      | then-awaits+else-is_dashed w ↦ grind (arith, common_steps, texts_next string_bytes c.args.words.now c.loop-word.word-index c.word-item.result (search rules) (search rules), plain_value)
      | else-awaits+then-is_word w ↦
          let next = texts_next string_bytes c.args.words.now c.loop-word.word-index c.word-item.result (search rules) (search rules) in
          let text : string_bytes c.word-item.result ≡ codes "--workers" = is_text _ _ (search rules) in
          rw w.awaits-is (rw (w.if-awaits.false, next, text) at c.loop-word.invariant)
      | else-awaits+else-is_word+else-not-is_plain w ↦ grind (arith, common_steps, texts_next string_bytes c.args.words.now c.loop-word.word-index c.word-item.result (search rules) (search rules), plain_first)
    ]

pub returns : goal.returns
returns c = grind (arith, common_steps, plain_none, plain_name)
