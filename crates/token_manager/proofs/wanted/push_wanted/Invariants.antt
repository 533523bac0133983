use Rattle.std.proofs.Common.{◌≡◌, ◌++◌, ◌||◌, not, drop, map}
use Rattle.std.specs.List.{filter}
use Rattle.token_manager.specs.Grants.{asked_back, is_own, blocks_any, to_revoke}
use Rattle.token_manager.proofs.wanted.push_wanted.Given as goal

abbrev pub invariant-loop-token : goal.invariant-loop-token
invariant-loop-token l =
    l.found ++ map (asked_back l.grants.notes)
    (filter (λ token. not (is_own token || blocks_any l.earlier token)) (drop l.token-index l.token-items))
    ≡ l.initial.found ++ map (asked_back l.grants.notes)
    (filter (λ token. not (is_own token || blocks_any l.earlier token)) l.token-items)
