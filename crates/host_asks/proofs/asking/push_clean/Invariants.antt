use Rattle.std.proofs.Common.{◌≡◌, ◌++◌, map, take}
use Rattle.base_types.specs.declared.span.Span.{Span}
use Rattle.token_types.specs.declared.token.Kind.TheVariants.{Bytes}
use Rattle.host_asks.proofs.asking.push_clean.Given as goal

abbrev pub invariant-loop-left : goal.invariant-loop-left
invariant-loop-left l =
    l.needs ≡ l.initial.needs
    ++ map (λ (left : Span). record { fid = l.fid; kind = Bytes l.update left }) (take l.left-index l.left-items)
