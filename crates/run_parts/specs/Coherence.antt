-- What holds in every list of steps that meets the rules of tokens and those of contents.
use Rattle.std.specs.Prelude.{List, ℕ}
use Rattle.base_types.specs.declared.ids.ServerId.{ServerId}
use Rattle.run_parts.specs.Contents.{Contents}
use Rattle.run_parts.specs.Legal.{ContentsRun}
use Rattle.run_tokens.specs.TokenLaws.{IsTokenRun}
use Rattle.run_rules.specs.declared.step.Step.{Step}

abbrev pub HoldsInRuns : (Contents → (ServerId → ℕ) → List Step → Type 0) → Type 0
HoldsInRuns Holds =
    (c : Contents) (firsts : ServerId → ℕ) (past : List Step) → IsTokenRun firsts past → ContentsRun c firsts past
    → Holds c firsts past
