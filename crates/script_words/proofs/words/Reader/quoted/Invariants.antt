use Rattle.std.proofs.Common.{◌≡◌, ◌≤◌, length}
use Rattle.script_words.specs.Words.{said}
use Rattle.script_words.specs.Words.Mode.{Quoted}
use Rattle.script_words.proofs.words.Reader.quoted.Given as goal

abbrev pub invariant-loop-byte : goal.invariant-loop-byte
invariant-loop-byte l = (said l.fn.self Quoted l.text ≡ said l.self Quoted l.rest) × (length l.rest ≤ length l.text)

abbrev pub decreases-loop-byte : goal.decreases-loop-byte
decreases-loop-byte l = length l.rest
