use Rattle.std.proofs.Common.{refl, ◌≡◌, ◌<◌, ◌≤◌, length, true, arith}
use Rattle.std.proofs.lemmas.Grind.{common_steps}
use Rattle.std.proofs.lemmas.Option.{slice_get_read}
use Rattle.service_starts.proofs.Within.{one_more, all_within}
use Rattle.service_starts.proofs.rooms.are_within.Goals as goal

pub loop-k-preserved : goal.loop-k-preserved
loop-k-preserved c =
    let servers = c.args.tree.now.servers in
    let test = c.loop-k-test.true in
    let count = c.len-k-end.ensures in
    let lt : c.loop-k.k < length servers = grind (arith, common_steps) in
    let held = c.if-not-is_within.false in
    let is : c.is_within.result ≡ true = grind (arith, common_steps) in
    one_more c.args.tree.now c.loop-k.k c.get.result.now (slice_get_read servers (length servers) c.loop-k.k c.get.result.now refl lt c.get.ensures) (c.is_within.ensures is) c.loop-k.invariant

pub returns : goal.returns
returns c =
    let test = c.loop-k-test.false in
    let count = c.len-k-end.ensures in
    let le : length c.args.tree.now.servers ≤ c.loop-k.k = grind (arith, common_steps) in
    λ _. all_within c.args.tree.now c.loop-k.k le c.loop-k.invariant
