use Rattle.std.proofs.Common.{◌≤◌, ◌+◌, sym, subst, arith}
use Rattle.disk_log.specs.Log.{slot_of, state_of}
use Rattle.disk_log.specs.Puts.{count_of}
use Rattle.disk_log.specs.declared.kept.Tx.{Tx}
use Rattle.disk_log.specs.State.{IsOnly}
use Rattle.disk_tests.proofs.Others.{may_put, count_after, only_after}
use Rattle.disk_tests.proofs.logs.begun.Goals as goal

pub put-requires-clause-may : goal.put-requires-clause-may
put-requires-clause-may g c =
    let inv = c.loop-i.invariant in
    let few = c.requires.few in
    may_put _ _ _ c.loop-i.i inv.sound.accounts inv.only inv.few (omega (arith, few))

pub loop-i-preserved : goal.loop-i-preserved
loop-i-preserved g c =
    let inv = c.loop-i.invariant in
    let is = c.in_ok-put.ensures.put.1 in
    let new = state_of c.put.new.self in
    record {
      sound = c.put.ensures.keeps.sound;
      only = subst (λ (tx : Tx). IsOnly new (slot_of tx) 7) (sym c.put.ensures.tx)
          (only_after (state_of c.loop-i.log) _ _ _ is inv.only);
      few = subst (λ (tx : Tx). count_of (slot_of tx) new.puts ≤ c.loop-i.i + 1) (sym c.put.ensures.tx)
          (count_after (state_of c.loop-i.log) _ _ _ _ is inv.few);
    }
