use Rattle.std.proofs.Common.{IsTrue, ap, subst, sym, ◌+◌, ◌∙◌}
use Rattle.std.proofs.lemmas.Bool.{eq-eqb}
use Rattle.std.proofs.lemmas.Result.{on_ok_weaker}
use Rattle.host_gives.specs.Counters.{last_of}
use Rattle.host_gives.specs.Giving.{after_add, is_next}
use Rattle.host_leaves.proofs.giving.add_give.Goals as goal

pub add-added-requires : goal.add-added-requires
add-added-requires c =
    let give = c.args.give.now in
    let giving = c.args.tables.now.gives in
    subst (λ x. IsTrue (is_next giving x)) (sym c.in_ok-message.ensures)
    (eq-eqb give.number (last_of giving.counters give.fid.fileset + 1) c.requires)

pub returns : goal.returns
returns c =
    on_ok_weaker c.add-added.result
    (λ after. ap (λ gives. record c.args.tables.now { gives = gives })
    (after ∙ ap (after_add c.args.tables.now.gives) c.in_ok-message.ensures)) c.add-added.ensures.after
