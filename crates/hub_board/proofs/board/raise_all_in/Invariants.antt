use Rattle.std.proofs.Common.{◌≡◌, take}
use Rattle.hub_board.specs.Hubs.{flagged}
use Rattle.hub_board.proofs.board.raise_all_in.Given as goal

abbrev pub invariant-loop-flag : goal.invariant-loop-flag
invariant-loop-flag l =
    l.wire ≡ record {
      counted = flagged (take l.flag-index l.flags) l.fn.wire.counted;
      ready = flagged (take l.flag-index l.flags) l.fn.wire.counted;
    }
