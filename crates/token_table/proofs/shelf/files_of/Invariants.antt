use Rattle.std.proofs.Common.{take}
use Rattle.token_table.specs.Places.{AreByFile}
use Rattle.token_table.proofs.shelf.files_of.Given as goal

abbrev pub invariant-loop-token : goal.invariant-loop-token
invariant-loop-token l = AreByFile (take l.token-index l.tokens) l.files
