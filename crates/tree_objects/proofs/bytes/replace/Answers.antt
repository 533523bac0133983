use Rattle.std.proofs.Common.{◌++◌, length, take, drop, length-append, length-take, arith, ◌∙◌, ap}
use Rattle.std.proofs.lemmas.List.{length-drop}
use Rattle.tree_objects.specs.Stretches.{replaced}
use Rattle.tree_objects.proofs.Pieces.{rest_all}
use Rattle.tree_objects.proofs.Taken.{replaced_whole}
use Rattle.tree_objects.proofs.bytes.replace.Goals as goal

pub put_at-requires : goal.put_at-requires
put_at-requires c =
    let old = c.args.bytes.now in let part = c.args.part.now in let n = c.min-inside.result in
    let longer = ap length (c.in_ok-extend.ensures.ok ∙ ap (λ ys. old ++ ys) (rest_all part n)) in
    let both = length-append old (drop n part) in
    let back = length-drop n part in
    let few = length-take n part in
    omega (arith, longer, both, back, few, c.min-inside.ensures, c.len.ensures, c.requires)

pub returns-clause-ok : goal.returns-clause-ok
returns-clause-ok c =
    let old = c.args.bytes.now in let part = c.args.part.now in let at = c.args.at in let n = c.min-inside.result in
    c.put_at.ensures ∙ ap (λ bytes. replaced bytes at (take n part))
    (c.in_ok-extend.ensures.ok ∙ ap (λ ys. old ++ ys) (rest_all part n))
    ∙ replaced_whole old part at n c.requires (omega (arith, c.min-inside.ensures, c.len.ensures))
