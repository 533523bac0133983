use Rattle.std.proofs.Common.{◌≡◌, ◌+◌, ◌≤◌, ◌==◌, ◌++◌, length, false, [], ◌∷◌, sym, subst, arith}
use Rattle.std.proofs.lemmas.Grind.{common_steps}
use Rattle.tree_objects.specs.Losses.{spans_from}
use Rattle.tree_objects.specs.Stretches.{bytes_of}
use Rattle.tree_objects.proofs.Owned.{joined_on, joined_apart, joined_first}
use Rattle.tree_objects.proofs.losses.joined.Goals as goal

pub returns-then-from-last-clause-spans : goal.returns-then-from-last-clause-spans
returns-then-from-last-clause-spans c rest =
    joined_on c.args.last.from c.args.last.to _ c.args.stretch.now c.args.spans.now rest c.requires.stretch
    c.requires.ordered
    (omega (arith, c.if-from-last.true, c.from-from.ensures)) (omega (arith, c.from-from.ensures, c.len.ensures))

pub returns-in_ok-push-clause-spans : goal.returns-in_ok-push-clause-spans
returns-in_ok-push-clause-spans c rest =
    let stretch = c.args.stretch.now in let last = c.args.last in
    let other : (stretch.from == last.to) ≡ false = grind (
      arith,
      common_steps,
      c.if-from-last.false,
      c.from-from.ensures,
    ) in
    let end : c.from-from.result + c.len.result ≡ stretch.from + length stretch.bytes = omega
    (arith, c.from-from.ensures, c.len.ensures) in
    subst (λ from. c.push.new.self ++ spans_from from (c.from-from.result + c.len.result) rest ≡ c.args.spans.now ++
    spans_from last.from last.to (bytes_of stretch ++ rest)) (sym c.from-from.ensures)
    (joined_apart last.from last.to _ stretch c.args.spans.now c.push.new.self rest c.requires.stretch c.if-last.true
    other end
    (subst (λ span. c.push.new.self ≡ c.args.spans.now ++ span ∷ []) c.span_between.ensures c.in_ok-push.ensures.ok))

pub returns-else-last-clause-spans : goal.returns-else-last-clause-spans
returns-else-last-clause-spans c rest =
    let stretch = c.args.stretch.now in let last = c.args.last in
    let end : c.from-from.result + c.len.result ≡ stretch.from + length stretch.bytes = omega
    (arith, c.from-from.ensures, c.len.ensures) in
    let none : last.to ≤ last.from = omega (arith, c.if-last.false) in
    subst (λ from. c.args.spans.now ++ spans_from from (c.from-from.result + c.len.result) rest ≡ c.args.spans.now ++
    spans_from last.from last.to (bytes_of stretch ++ rest)) (sym c.from-from.ensures)
    (joined_first last.from last.to _ stretch c.args.spans.now rest c.requires.stretch none end)
