use Rattle.std.proofs.Common.{◌≡◌, ◌≤◌, ◌-◌, ◌++◌, [], take, drop}
use Rattle.script_words.specs.Spelling.{spelled_bytes}
use Rattle.script_output.proofs.texts.push_spelled.Given as goal

-- the bytes so far but the last piece, that piece, and the bytes that are left
abbrev pub invariant-loop-at : goal.invariant-loop-at
invariant-loop-at l = record {
  order : l.from ≤ l.at;
  bytes : l.out ++ take (l.at - l.from) (drop l.from l.bytes) ++ spelled_bytes (drop l.at l.bytes) [] ≡ l.fn.out ++ spelled_bytes l.bytes [];
}
