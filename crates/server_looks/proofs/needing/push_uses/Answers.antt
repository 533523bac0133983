use Rattle.std.proofs.Common.{◌≡◌, ◌++◌, [], ◌∷◌, true, subst}
use Rattle.std.specs.Prelude.{OnOk}
use Rattle.base_types.specs.declared.ids.OpenKind.TheVariants.{Exclusive}
use Rattle.base_types.specs.declared.span.Span.{Span}
use Rattle.token_types.specs.declared.token.Kind.TheVariants.{Lock, Opening}
use Rattle.server_looks.proofs.Again.{pushed_two}
use Rattle.server_looks.proofs.needing.push_uses.Goals as goal

pub returns : goal.returns
returns c =
    let fid = c.args.fid in
    subst (λ (s : Span). OnOk c.push-2.result (c.push-2.new.self ≡ c.args.needs.now
    ++ record { fid = fid; kind = Lock true s } ∷ record { fid = fid; kind = Opening Exclusive } ∷ []))
    c.whole-span.ensures
    (pushed_two c.push-2.result c.args.needs.now c.push.new.self c.push-2.new.self
    (record { fid = fid; kind = Lock true c.whole-span.result })
    (record { fid = fid; kind = Opening Exclusive }) c.in_ok-push.ensures.ok c.push-2.ensures.ok)
