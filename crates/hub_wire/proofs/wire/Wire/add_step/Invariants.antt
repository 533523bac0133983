use Rattle.std.proofs.Common.{◌≡◌, take}
use Rattle.hub_wire.specs.Networks.{with_messages}
use Rattle.hub_wire.proofs.wire.Wire.add_step.Given as goal

abbrev pub invariant-loop-message : goal.invariant-loop-message
invariant-loop-message l = record {
  counted : l.self.counted ≡ l.initial.self.counted;
  ready : l.self.ready ≡ with_messages l.initial.self.ready (take l.message-index l.sent);
}
