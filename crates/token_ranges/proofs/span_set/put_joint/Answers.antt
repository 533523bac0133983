use Rattle.std.proofs.Common.{◌≡◌, ◌<◌, suc, ◌++◌, ◌∷◌, length, take, drop, ap, ◌∙◌, arith}
use Rattle.std.proofs.lemmas.List.{set_split}
use Rattle.token_ranges.proofs.span_set.put_joint.Goals as goal

pub returns-then-joint-2-clause-ok : goal.returns-then-joint-2-clause-ok
returns-then-joint-2-clause-ok c =
    let joint = c.args.joint in
    let spans = c.args.spans.now in
    let within : joint.front < length spans = omega (arith, c.if-joint-2.true, c.requires.within) in
    let next : suc joint.front ≡ joint.end = omega (arith, c.if-joint-2.true) in
    c.set.ensures ∙ set_split spans joint.front joint.merged within
    ∙ ap (λ n. take joint.front spans ++ joint.merged ∷ drop n spans) next
