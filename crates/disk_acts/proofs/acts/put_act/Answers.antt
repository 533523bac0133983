use Rattle.std.proofs.Common.{◌∙◌, sym, subst}
use Rattle.std.specs.Prelude.{Result, Err}
use Rattle.std.proofs.lemmas.Result.{err_from_is_err_and}
use Rattle.disk_log.specs.Log.{disk_of}
use Rattle.disk_anode.specs.Faults.{IsNodeFault}
use Rattle.disk_anode.specs.declared.fault.NodeFault.{NodeFault}
use Rattle.disk_acts.specs.Acts.{act_blocks, DoesAct}
use Rattle.disk_acts.proofs.Transacting.{begun_now, may_step, does_act, does_none, may_finish}
use Rattle.disk_acts.proofs.acts.put_act.Goals as goal

pub returns-in_err-tx : goal.returns-in_err-tx
returns-in_err-tx g c =
    let p = err_from_is_err_and c.from_residual.result c.from_residual.ensures.1 in
    let begins = c.in_err-tx.ensures in
    let none = does_none g.D.Disk.tells g.D.Disk.view (act_blocks c.args.act.now) c.requires.made.0 c.args.state.now c.args.log.now c.begin.new.log c.requires.made.2 begins.keeps begins.disk begins.unopened (Err c.in_err-tx.field-0.0)
    (subst (λ (fault : NodeFault). IsNodeFault fault (g.D.Disk.view (disk_of c.args.log.now)) (g.D.Disk.view (disk_of c.begin.new.log))) (sym begins.only) tt) (λ told. tt) in
    subst (λ (r : Result Unit NodeFault). DoesAct g.D.Disk.tells g.D.Disk.view (act_blocks c.args.act.now) c.args.state.now r c.args.log.now c.begin.new.log) (sym (p.1 ∙ (λ i. Err (p.2 i)))) none

pub put_made-put-requires-clause-may : goal.put_made-put-requires-clause-may
put_made-put-requires-clause-may g c =
    may_step g.D.Disk.tells g.D.Disk.view (act_blocks c.args.act.now) c.requires.made.0 c.args.log.now c.begin.new.log c.in_ok-tx.tx c.requires.made.2 c.in_ok-tx.ensures c.args.before.now.slot

pub put_made-put-requires-clause-made : goal.put_made-put-requires-clause-made
put_made-put-requires-clause-made g c = (c.requires.made.0, c.requires.made.1)

pub put_made-put-requires-clause-held : goal.put_made-put-requires-clause-held
put_made-put-requires-clause-held g c = λ told.
    (c.requires.made.0, c.requires.made.1, begun_now g.D.Disk.tells g.D.Disk.view (act_blocks c.args.act.now) c.requires.made.0 c.args.log.now c.begin.new.log c.in_ok-tx.tx c.requires.made.2 c.in_ok-tx.ensures told)

pub finish-requires-clause-sound : goal.finish-requires-clause-sound
finish-requires-clause-sound g c = c.put_made-put.ensures.steps.sound

pub finish-requires-clause-opened : goal.finish-requires-clause-opened
finish-requires-clause-opened g c =
    may_finish g.D.Disk.tells g.D.Disk.view c.args.before.now.slot (act_blocks c.args.act.now) c.requires.made.0 c.args.state.now c.args.log.now c.begin.new.log c.put_made-put.new.log c.put_made-put.new.log c.in_ok-tx.tx c.put_made-put.new.tx
    c.requires.made.2 c.in_ok-tx.ensures c.put_made-put.result c.put_made-put.ensures.steps

pub returns : goal.returns
returns g c =
    does_act g.D.Disk.tells g.D.Disk.view c.args.before.now.slot (act_blocks c.args.act.now) c.requires.made.0 c.args.state.now c.args.log.now c.begin.new.log c.put_made-put.new.log c.finish.new.log c.in_ok-tx.tx c.put_made-put.new.tx
    c.requires.made.2 c.in_ok-tx.ensures c.put_made-put.result c.finish.result c.finish.ensures.same c.put_made-put.ensures.steps (c.put_made-put.ensures.says c.requires.made.0 c.requires.made.1) c.finish.ensures.finishes
