use Rattle.std.proofs.Common.{◌≡◌, [], drop}
use Rattle.script_words.specs.Lists.{entries_from}
use Rattle.script_words.proofs.lists.entries_of.Given as goal

abbrev pub invariant-loop-part : goal.invariant-loop-part
invariant-loop-part l = entries_from l.entries (drop l.part-index l.parts) ≡ entries_from [] l.parts
