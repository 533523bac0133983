use Rattle.std.proofs.Common.{length, [], ◌∷◌, ◌++◌, position, ap, sym, subst, ◌∙◌, arith}
use Rattle.token_table.specs.Parts.{AreBarred, and_token, first_part, has_host, own_of}
use Rattle.token_table.specs.declared.parts.Part.{Part}
use Rattle.token_table.proofs.Parting.{on_ok, own_at, own_more, own_first, noted_at, noted_more, noted_behind}
use Rattle.token_table.proofs.parts.note.Goals as goal

pub note_at-requires-clause-own : goal.note_at-requires-clause-own
note_at-requires-clause-own c = λ part is.
    let e = sym (c.in-Some.ensures ∙ ap (position (has_host c.args.token.host)) c.as_slice.ensures) in
    let at = own_at c.args.token.host c.args.parts.now c.in-Some.index part e in
    let size = ap (λ (p : Part). length p.tokens) is ∙ ap length at in
    let within = c.requires.within in
    omega (arith, within, size)

pub returns-in-Some-clause-own : goal.returns-in-Some-clause-own
returns-in-Some-clause-own c =
    let e = sym (c.in-Some.ensures ∙ ap (position (has_host c.args.token.host)) c.as_slice.ensures) in
    on_ok c.note_at.result (λ changed host. ap (λ parts. own_of parts host) changed
    ∙ own_more c.args.parts.now c.args.token c.args.own c.in-Some.index (first_part c.args.token) host e)
    c.note_at.ensures.ok

pub returns-in-Some-clause-barred : goal.returns-in-Some-clause-barred
returns-in-Some-clause-barred c =
    on_ok c.note_at.result (λ changed all. subst AreBarred (sym changed)
    (noted_at c.args.parts.now c.in-Some.index (and_token c.args.own c.args.token)
    (noted_more c.args.own c.args.token) all))
    c.note_at.ensures.ok

pub returns-in_ok-part-in-None-clause-own : goal.returns-in_ok-part-in-None-clause-own
returns-in_ok-part-in-None-clause-own c =
    let e = sym (c.in-None.ensures ∙ ap (position (has_host c.args.token.host)) c.as_slice.ensures) in
    on_ok c.push.result (λ pushed host. ap (λ parts. own_of parts host)
    (pushed ∙ ap (λ part. c.args.parts.now ++ part ∷ []) c.in_ok-part-in-None.ensures)
    ∙ own_first c.args.parts.now c.args.token c.args.own host e c.requires.within)
    c.push.ensures.ok

pub returns-in_ok-part-in-None-clause-barred : goal.returns-in_ok-part-in-None-clause-barred
returns-in_ok-part-in-None-clause-barred c =
    on_ok c.push.result (λ pushed all. subst AreBarred
    (sym (pushed ∙ ap (λ part. c.args.parts.now ++ part ∷ []) c.in_ok-part-in-None.ensures))
    (noted_behind c.args.parts.now c.args.token all))
    c.push.ensures.ok
