use Rattle.std.proofs.Common.{ap, arith, ◌+◌, ◌∙◌, ◌≡◌}
use Rattle.std.proofs.lemmas.Result.{on_ok_weaker}
use Rattle.host_asks.specs.Asking.{doing}
use Rattle.host_asks.specs.Going.{left_open}
use Rattle.host_asks.proofs.Gone.{begins, when_answered, when_open}
use Rattle.host_asks.proofs.going.begin_call.Goals as goal

pub returns-then-is_answered : goal.returns-then-is_answered
returns-then-is_answered c =
    let k_is : c.in-Some.k ≡ c.args.tables.now.begun + 1 = omega arith in
    let gone = doing c.go.new.tables c.go.new.draft in
    record {
      gone = gone;
      answered = c.in_ok-is_answered.is_answered;
      goes = begins (doing c.args.tables.now c.args.draft.now) c.in-Some.k c.args.call.now c.truncate.new.self gone
          c.in_ok-is_answered.is_answered k_is
          c.truncate.ensures c.in_ok-is_answered.ensures;
      after = when_answered c.in_ok-is_answered.is_answered gone
          (left_open (record { k = c.args.tables.now.begun + 1; call = c.args.call.now }) gone) c.if-is_answered.true;
    }

pub returns : goal.returns
returns c =
    let k_is : c.in-Some.k ≡ c.args.tables.now.begun + 1 = omega arith in
    let gone = doing c.go.new.tables c.go.new.draft in
    on_ok_weaker c.leave_open.result (λ left. record {
      gone = gone;
      answered = c.in_ok-is_answered.is_answered;
      goes = begins (doing c.args.tables.now c.args.draft.now) c.in-Some.k c.args.call.now c.truncate.new.self gone
          c.in_ok-is_answered.is_answered k_is
          c.truncate.ensures c.in_ok-is_answered.ensures;
      after = left ∙ ap (λ k. left_open (record { k = k; call = c.args.call.now }) gone) k_is
          ∙ when_open c.in_ok-is_answered.is_answered gone
          (left_open (record { k = c.args.tables.now.begun + 1; call = c.args.call.now }) gone) c.if-is_answered.false;
    }) c.leave_open.ensures
