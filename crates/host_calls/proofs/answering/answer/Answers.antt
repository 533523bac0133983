use Rattle.std.proofs.Common.{List, [], ap, sym, ◌∙◌, ◌∷◌}
use Rattle.std.proofs.lemmas.Result.{on_ok_weaker}
use Rattle.base_types.specs.declared.ids.HostId.{HostId}
use Rattle.host_calls.proofs.Replied.{host_same, reply_same}
use Rattle.run_rules.specs.declared.applied.Answer.{Answer}
use Rattle.host_calls.proofs.answering.answer.Goals as goal

pub returns : goal.returns
returns c =
    let m = c.args.tables.now in
    let call = c.args.current.call.now in
    let new = c.change.new.tables in
    let own = c.change.new.draft in
    let with_host : HostId → Answer = λ h. record {
      host = h;
      k = c.args.current.k;
      call = call;
      reply = c.in_ok-answer.answer.reply;
      first = c.args.current.first;
    } in
    let host = host_same call m c.args.draft.now new own c.args.verdict c.in_ok-change.ensures in
    let answer_is = c.in_ok-answer.ensures.answer ∙ ap with_host host in
    on_ok_weaker c.put_alone.result (λ p. record {
      reply = c.in_ok-answer.answer.reply;
      right = sym (reply_same call m c.args.draft.now new own c.args.verdict c.in_ok-change.ensures)
          ∙ c.in_ok-answer.ensures.reply call;
      own = own;
      changes = c.in_ok-change.ensures;
      draft_is = ap (λ (a : List Answer). record own { answers = a })
          (p ∙ (λ i. answer_is i ∷ []));
    }) c.put_alone.ensures
