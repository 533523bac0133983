use Rattle.std.proofs.Common.{sym, arith}
use Rattle.std.proofs.lemmas.List.Sums.{prefix_len-le-length}
use Rattle.std.specs.Prelude.{not}
use Rattle.script_lines.specs.Sound.{same_node}
use Rattle.hub_board.specs.declared.follow.Follow.{Follow}
use Rattle.hub_wire.proofs.Takes.{at_none, at_place}
use Rattle.hub_board.proofs.follower.place_of.Goals as goal

pub returns-in-Some : goal.returns-in-Some
returns-in-Some c =
    (at_place (λ (f : Follow). same_node f.node c.args.node) c.args.follows.now c.in-Some.place
    (sym c.in-Some.ensures)).1

pub returns-in-None : goal.returns-in-None
returns-in-None c =
    let most = at_none (λ (f : Follow). same_node f.node c.args.node) c.args.follows.now (sym c.in-None.ensures) in
    let least = prefix_len-le-length (λ (f : Follow). not (same_node f.node c.args.node)) c.args.follows.now in
    omega (arith, most, least)
