use Rattle.std.proofs.Common.{Some, ap, sym, ◌+◌, ◌∙◌}
use Rattle.host_gives.specs.Counters.{last_of}
use Rattle.message_types.specs.declared.giving.Give.{Give}
use Rattle.host_leaves.specs.Giving.{making, with_give}
use Rattle.host_leaves.proofs.Making.{both_ok, gives_is, number_is}
use Rattle.host_leaves.proofs.giving.give_ended.Goals as goal

pub make-requires : goal.make-requires
make-requires c =
    let t = c.give_of.new.tables in
    ap (λ (g : Give). g.number) c.in_ok-give-2.ensures
    ∙ number_is c.args.tables.now c.give_of.new.tables c.args.fid c.args.tokens.now c.args.tokens.now c.args.draft.now
    c.in_ok-give.give
    (Some (record { k = c.args.k; call = c.args.call.now })) c.in_ok-give.ensures.give c.in_ok-give.ensures.after
    ∙ ap (λ (g : Give). last_of t.gives.counters g.fid.fileset + 1) (sym c.in_ok-give-2.ensures)

pub returns : goal.returns
returns c =
    let t = c.give_of.new.tables in
    both_ok c.make.result c.make.ensures.tables c.make.ensures.draft
    (λ tables draft. gives_is c.args.tables.now c.give_of.new.tables c.args.fid c.args.tokens.now c.args.tokens.now
    c.args.draft.now c.in_ok-give.give
    (Some (record { k = c.args.k; call = c.args.call.now })) c.in_ok-give.ensures.give c.in_ok-give.ensures.after
    c.make.new.tables c.make.new.draft
    c.in_ok-give.ensures.cleans (tables ∙ ap (with_give t) c.in_ok-give-2.ensures)
    (draft ∙ ap (λ g. making t g c.args.draft.now) c.in_ok-give-2.ensures))
