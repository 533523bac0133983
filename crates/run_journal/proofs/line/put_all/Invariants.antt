use Rattle.std.proofs.Common.{◌≡◌, ◌++◌, drop}
use Rattle.std.specs.List.{flat_map}
use Rattle.json.specs.Tree.{json_tokens}
use Rattle.run_journal.proofs.line.put_all.Given as goal

-- the tokens so far, and those of the values that are left
abbrev pub invariant-loop-value : goal.invariant-loop-value
invariant-loop-value g l =
    l.line ++ flat_map (λ value. json_tokens (g.T.ToLine.json value)) (drop l.value-index l.values)
    ≡ l.initial.line ++ flat_map (λ value. json_tokens (g.T.ToLine.json value)) l.values
