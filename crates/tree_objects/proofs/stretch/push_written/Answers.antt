use Rattle.std.proofs.Common.{◌≤◌, ◌-◌, drop, length-take, arith}
use Rattle.std.proofs.lemmas.List.{length-drop}
use Rattle.tree_objects.proofs.Stored.{none_written, piece_added, all_written}
use Rattle.tree_objects.proofs.stretch.push_written.Goals as goal

pub loop-done-init : goal.loop-done-init
loop-done-init c = record {
  bytes = none_written c.args.host c.args.from c.args.bytes.now _;
  each = λ h. h;
  within = omega arith;
}

pub push_piece-requires : goal.push_piece-requires
push_piece-requires c =
    let bytes = c.args.bytes.now in let done = c.loop-done.done in let next = c.min-next.result in
    let long = length-take (next - done) (drop done bytes) in
    let rest = length-drop done bytes in
    omega (arith, c.requires, long, rest, c.min-next.ensures, c.loop-done-test.true, c.loop-done.invariant.within)

pub loop-done-preserved : goal.loop-done-preserved
loop-done-preserved c =
    let bytes = c.args.bytes.now in let done = c.loop-done.done in let next = c.min-next.result in
    let n = c.min-next.ensures in
    let o : done ≤ next = omega (arith, n, c.loop-done-test.true) in
    record {
      bytes = piece_added c.args.host c.args.from bytes done next _ _ _ o c.in_ok-push_piece.ensures.bytes
          c.loop-done.invariant.bytes;
      each = λ h. c.in_ok-push_piece.ensures.each (c.loop-done.invariant.each h);
      within = omega (arith, n);
    }

pub returns-clause-bytes : goal.returns-clause-bytes
returns-clause-bytes c =
    all_written c.args.host c.args.from c.args.bytes.now c.loop-done.done _ _ (omega (arith, c.loop-done-test.false))
    c.loop-done.invariant.bytes

pub returns-clause-each : goal.returns-clause-each
returns-clause-each c = c.loop-done.invariant.each
