-- What the fields of a wire stand for.
use Rattle.std.specs.Prelude.{take}
use Rattle.hub_wire.specs.Networks.{Network}
use Rattle.hub_wire.specs.Plans.{counted_lines, ready_lines}
use Rattle.hub_wire.specs.declared.wire.Wire.TheInside.{Inside}

abbrev pub counted_network : Inside → Network
counted_network w = record {
  net = w.net;
  lines = counted_lines w.lines;
  drawn = w.counted.drawn;
  left = w.counted.left;
  steps = w.counted.steps;
  packets = take w.packets_counted w.packets;
  due = take w.due_counted w.due;
}

abbrev pub ready_network : Inside → Network
ready_network w = record {
  net = w.net;
  lines = ready_lines w.lines;
  drawn = w.ready.drawn;
  left = w.ready.left;
  steps = w.ready.steps;
  packets = w.packets;
  due = w.due;
}
