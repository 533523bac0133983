use Rattle.std.proofs.Common.{ℕ, ◌∙◌, refl, sym}
use Rattle.std.specs.Prelude.{Err}
use Rattle.std.proofs.lemmas.Result.{err_from_is_err_and}
use Rattle.disk_anode.specs.declared.fault.NodeFault.TheVariants.{Memory}
use Rattle.disk_log.specs.Log.{disk_of, state_of}
use Rattle.disk_objects.specs.Objects.{page_for}
use Rattle.disk_fileset.proofs.Read.{looks_none, looks_memory, looks_failed, free_there, object_read}
use Rattle.disk_fileset.proofs.reading.object_of.Goals as goal

pub returns-then-head-eq-FREE-clause-object : goal.returns-then-head-eq-FREE-clause-object
returns-then-head-eq-FREE-clause-object g c = λ is told slots keeps.
    sym (free_there slots c.args.slot c.args.anode c.requires.slot c.requires.first c.requires.last (page_for c.args.slot c.args.anode) refl (state_of c.args.log.now) (g.D.Disk.view (disk_of c.args.log.now)).image keeps
    c.args.head.now is c.if-head-eq-FREE.true)

pub returns-in_err-owner-clause-looks : goal.returns-in_err-owner-clause-looks
returns-in_err-owner-clause-looks g c =
    let p = err_from_is_err_and c.from_residual.result c.from_residual.ensures.1 in
    looks_failed g.D.Disk.tells g.D.Disk.view {T = ℕ} Memory c.from_residual.result c.args.log.now c.args.log.now (p.1 ∙ (λ i. Err (p.2 i)) ∙ (λ i. Err (c.in_err-owner.ensures.only i)))
    (looks_memory g.D.Disk.tells g.D.Disk.view {T = ℕ} 0 c.args.log.now c.args.log.now (looks_none g.D.Disk.tells g.D.Disk.view {T = ℕ} 0 c.args.log.now c.requires.sound))

pub returns-in_err-group-clause-looks : goal.returns-in_err-group-clause-looks
returns-in_err-group-clause-looks g c =
    let p = err_from_is_err_and c.from_residual-in_err-group.result c.from_residual-in_err-group.ensures.1 in
    looks_failed g.D.Disk.tells g.D.Disk.view {T = ℕ} Memory c.from_residual-in_err-group.result c.args.log.now c.args.log.now (p.1 ∙ (λ i. Err (p.2 i)) ∙ (λ i. Err (c.in_err-group.ensures.only i)))
    (looks_memory g.D.Disk.tells g.D.Disk.view {T = ℕ} 0 c.args.log.now c.args.log.now (looks_none g.D.Disk.tells g.D.Disk.view {T = ℕ} 0 c.args.log.now c.requires.sound))

pub returns-clause-object : goal.returns-clause-object
returns-clause-object g c = λ is told slots keeps.
    object_read slots c.args.slot c.args.anode c.requires.slot c.requires.first c.requires.last (page_for c.args.slot c.args.anode) refl (state_of c.args.log.now) (g.D.Disk.view (disk_of c.args.log.now)).image keeps
    c.args.head.now is c.if-head-eq-FREE.false c.in_ok-owner.owner c.in_ok-group.group c.in_ok-content.content c.in_ok-owner.ensures.name c.in_ok-group.ensures.name (λ object there dir. c.in_ok-content.ensures.content told slots keeps object there dir)
