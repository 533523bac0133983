use Rattle.std.proofs.lemmas.Result.{on_ok_weaker}
use Rattle.host_leaves.proofs.giving.leave_ended.Goals as goal

pub give_ended-requires : goal.give_ended-requires
give_ended-requires c = c.requires

pub returns : goal.returns
returns c =
    on_ok_weaker c.drop_all.result
    (λ h. record {
      given = c.give_ended.new.tables;
      made = c.give_ended.new.draft;
      gives = c.in_ok-give_ended.ensures;
      drops = h;
    }) c.drop_all.ensures
