use Rattle.std.proofs.Common.{◌∙◌, arith}
use Rattle.std.specs.Prelude.{Ok, Err}
use Rattle.std.proofs.lemmas.Result.{err_from_is_err_and}
use Rattle.tree_objects.specs.declared.content.Anode.{Anode}
use Rattle.disk_fileset.proofs.Read.{looks_none, looks_then, looks_value, looks_failed, keeps_still, anode_more}
use Rattle.disk_fileset.proofs.reading.kept_anodes.Goals as goal

pub loop-i-init : goal.loop-i-init
loop-i-init g c = record {
  looks = looks_none g.D.Disk.tells g.D.Disk.view 0 c.args.log.now c.requires.sound;
  anodes = λ told slots keeps. c.new-anodes.ensures;
}

pub returns-in_err-anode-clause-looks : goal.returns-in_err-anode-clause-looks
returns-in_err-anode-clause-looks g c =
    let p = err_from_is_err_and c.from_residual.result c.from_residual.ensures.1 in
    looks_failed g.D.Disk.tells g.D.Disk.view {T = Anode} c.in_err-anode.field-0.0 c.from_residual.result c.args.log.now c.kept_anode.new.log (p.1 ∙ (λ i. Err (p.2 i)))
    (looks_then g.D.Disk.tells g.D.Disk.view 0 _ c.args.log.now c.loop-i.log c.kept_anode.new.log c.loop-i.invariant.looks c.in_err-anode.ensures.looks)

pub loop-i-preserved : goal.loop-i-preserved
loop-i-preserved g c =
    let inv = c.loop-i.invariant in
    record {
      looks = looks_value g.D.Disk.tells g.D.Disk.view c.in_ok-anode.anode 0 c.args.log.now c.kept_anode.new.log (looks_then g.D.Disk.tells g.D.Disk.view 0 (Ok c.in_ok-anode.anode) c.args.log.now c.loop-i.log c.kept_anode.new.log inv.looks c.in_ok-anode.ensures.looks);
      anodes = λ told slots keeps.
          (let still = keeps_still g.D.Disk.tells g.D.Disk.view (Ok 0) c.args.log.now c.loop-i.log slots inv.looks keeps in
          let low = c.loop-i-test.true in
          let most = c.requires.count in
          c.in-Ok.ensures.ok ∙ anode_more (slots c.args.slot) c.loop-i.anodes c.loop-i.i c.in_ok-anode.anode (keeps.each c.args.slot c.requires.slot) (omega (arith, low, most)) (inv.anodes told slots keeps) (c.in_ok-anode.ensures.anode told slots still));
    }

pub returns-clause-looks : goal.returns-clause-looks
returns-clause-looks g c = looks_value g.D.Disk.tells g.D.Disk.view 0 _ c.args.log.now c.loop-i.log c.loop-i.invariant.looks
