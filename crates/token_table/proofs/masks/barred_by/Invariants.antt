use Rattle.std.proofs.Common.{◌≡◌, drop}
use Rattle.std.specs.List.{fold}
use Rattle.token_table.specs.Masks.{with_kind, barred_by}
use Rattle.token_table.proofs.masks.barred_by.Given as goal

abbrev pub invariant-loop-token : goal.invariant-loop-token
invariant-loop-token l =
    fold (λ barred token. with_kind barred token.kind) l.barred (drop l.token-index l.tokens) ≡ barred_by l.tokens
