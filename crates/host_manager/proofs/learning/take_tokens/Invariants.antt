use Rattle.std.proofs.Common.{take}
use Rattle.std.specs.Prelude.{option_copied}
use Rattle.host_manager.specs.Learning.{HasTaken, taking, taking_from}
use Rattle.host_manager.proofs.learning.take_tokens.Given as goal

abbrev pub invariant-loop-token : goal.invariant-loop-token
invariant-loop-token l = HasTaken l.initial.tables l.initial.draft
    (taking (option_copied l.grant) (take l.token-index l.tokens) (taking_from l.initial.tables l.initial.draft))
    l.tables l.draft
