use Rattle.std.proofs.Common.{[], position, ap, sym, subst, ◌∙◌}
use Rattle.token_table.specs.Masks.{nothing}
use Rattle.token_table.specs.Parts.{AreBarred, has_host, is_other, own_of, passing}
use Rattle.token_table.specs.declared.parts.Part.{Part}
use Rattle.token_table.proofs.Parting.{own_less, own_none, noted_at, noted_passing}
use Rattle.token_table.proofs.parts.drop_own.Goals as goal

pub returns-in-Some-clause-own : goal.returns-in-Some-clause-own
returns-in-Some-clause-own c = λ other.
    let e = sym (c.in-Some.ensures ∙ ap (position (has_host c.args.host)) c.as_slice.ensures) in
    let any : Part = record { host = c.args.host; barred = nothing; tokens = [] } in
    ap (λ parts. own_of parts other) c.drop_at.ensures
    ∙ own_less c.args.parts.now c.args.host c.args.id c.in-Some.index any other e

pub returns-in-Some-clause-barred : goal.returns-in-Some-clause-barred
returns-in-Some-clause-barred c = λ all. subst AreBarred (sym c.drop_at.ensures)
    (noted_at c.args.parts.now c.in-Some.index (passing (is_other c.args.id)) (noted_passing (is_other c.args.id)) all)

pub returns-in_default-clause-own : goal.returns-in_default-clause-own
returns-in_default-clause-own c = λ other.
    own_none c.args.parts.now c.args.host c.args.id other
    (sym (c.in_default.ensures ∙ ap (position (has_host c.args.host)) c.as_slice.ensures))
