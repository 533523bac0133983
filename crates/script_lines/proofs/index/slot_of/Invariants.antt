use Rattle.std.proofs.Common.{◌≡◌, ◌<◌, drop}
use Rattle.script_lines.specs.Index.{slot_from}
use Rattle.script_lines.specs.declared.index.TheConstants.{SLOTS}
use Rattle.script_lines.proofs.index.slot_of.Given as goal

abbrev pub invariant-loop-byte : goal.invariant-loop-byte
invariant-loop-byte l = record {
  rest : slot_from l.slot (drop l.byte-index l.name) ≡ slot_from 0 l.name;
  within : l.slot < SLOTS;
}
