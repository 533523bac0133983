use Rattle.std.proofs.Common.{sym, ap, ◌∙◌}
use Rattle.std.specs.List.{filter, find, list_any}
use Rattle.std.specs.Option.{option_map}
use Rattle.token_types.specs.Conflicts.{blocks}
use Rattle.token_table.specs.Parts.{own_of, is_in_way, is_another_in_way}
use Rattle.token_table.specs.declared.parts.Part.{Part}
use Rattle.token_table.proofs.Parting.{near_free, near_one}
use Rattle.token_table.proofs.file_tokens.FileTokens.near.Goals as goal

pub returns-in_default : goal.returns-in_default
returns-in_default c =
    let s = c.self.inside in
    near_free s.tokens s.parts c.args.host c.args.needs.now c.self.invariant
    (c.in_default.ensures ∙ ap (λ parts. option_map (λ (p : Part). p.host)
    (find (is_in_way c.args.host c.args.needs.now) parts)) c.as_slice-parts.ensures)
    ∙ ap (filter (blocks c.args.host c.args.needs.now)) c.self.view_is

pub returns : goal.returns
returns c =
    let s = c.self.inside in
    let first = c.in-Some.first in
    let those = filter (blocks c.args.host c.args.needs.now) in
    ap those (c.own_of.ensures ∙ ap (λ parts. own_of parts first) c.as_slice-parts.ensures)
    ∙ near_one s.tokens s.parts c.args.host c.args.needs.now c.self.invariant first
    (ap (list_any (is_another_in_way first c.args.host c.args.needs.now)) (sym c.as_slice-parts.ensures)
    ∙ sym c.is_another_in_way.ensures ∙ c.if-is_another_in_way.false)
    ∙ ap those c.self.view_is
