use Rattle.std.proofs.Common.{ap, subst, sym, ◌∙◌}
use Rattle.std.proofs.lemmas.Result.{on_ok_weaker}
use Rattle.host_leaves.specs.Giving.{AreCovered, GivesWhere, returned_ids, returning}
use Rattle.host_leaves.proofs.DirtyTokens.{part_covered}
use Rattle.host_leaves.proofs.giving.leave.Goals as goal

pub give_where-requires : goal.give_where-requires
give_where-requires c =
    subst (AreCovered c.args.tables.now c.args.fid) (sym c.as_slice-giving.ensures)
    (part_covered c.args.tables.now c.args.fid c.args.tokens.now c.in_ok-giving.giving c.requires
    c.in_ok-giving.ensures)

pub returns : goal.returns
returns c =
    on_ok_weaker c.send_back.result
    (λ h. record {
      giving = c.in_ok-giving.giving;
      which = c.in_ok-giving.ensures;
      given = c.give_where.new.tables;
      made = c.give_where.new.draft;
      gives = subst (λ giving. GivesWhere c.args.tables.now c.args.draft.now c.args.fid giving c.args.tokens.now
          c.give_where.new.tables c.give_where.new.draft) c.as_slice-giving.ensures c.in_ok-give_where.ensures;
      dropped = c.drop_all.new.draft;
      drops = c.in_ok-drop_all.ensures;
      draft_is = h ∙ ap (λ ids. returning c.drop_all.new.tables c.args.fid ids c.drop_all.new.draft)
          (c.in_ok-ids.ensures
          ∙ ap (λ giving. returned_ids c.args.tokens.now giving c.args.back.now) c.as_slice-giving.ensures);
    }) c.send_back.ensures
