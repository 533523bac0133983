use Rattle.std.proofs.Common.{None, ap, ◌∙◌}
use Rattle.message_types.specs.declared.giving.Give.{Give}
use Rattle.host_leaves.specs.Giving.{making, with_give}
use Rattle.host_leaves.proofs.Making.{both_ok, gives_is, number_is}
use Rattle.host_leaves.proofs.giving.make_give.Goals as goal

pub make-requires : goal.make-requires
make-requires c =
    number_is c.args.tables.now c.give_of.new.tables c.args.fid c.args.giving.now c.args.leaving.now c.args.draft.now
    c.in_ok-give.give None
    c.in_ok-give.ensures.give c.in_ok-give.ensures.after

pub returns : goal.returns
returns c =
    let give = c.in_ok-give.give in
    let t = c.give_of.new.tables in
    let same = ap (λ ends. record give { ends = ends }) c.in_ok-give.ensures.give.ends in
    both_ok c.make.result c.make.ensures.tables c.make.ensures.draft
    (λ tables draft. gives_is c.args.tables.now c.give_of.new.tables c.args.fid c.args.giving.now c.args.leaving.now
    c.args.draft.now c.in_ok-give.give None
    c.in_ok-give.ensures.give c.in_ok-give.ensures.after c.make.new.tables c.make.new.draft c.in_ok-give.ensures.cleans
    (tables ∙ ap (with_give t) same) (draft ∙ ap (λ g. making t g c.args.draft.now) same))
