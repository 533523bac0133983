use Rattle.std.proofs.Common.{◌≡◌, append_assoc, subst}
use Rattle.std.specs.Prelude.{OnOk}
use Rattle.message_json.proofs.Lists.{list_tokens}
use Rattle.run_journal.proofs.line.put_list.Goals as goal

pub returns : goal.returns
returns g c =
    subst (λ after. OnOk c.end_list.result (c.end_list.new.self ≡ after))
    (rw (c.in_ok-put_all.ensures, c.in_ok-begin_list.ensures, list_tokens g.T.ToLine.json c.args.values.now) (simp append_assoc))
    c.end_list.ensures
