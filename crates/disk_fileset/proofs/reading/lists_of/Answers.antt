use Rattle.std.proofs.Common.{◌∙◌, List}
use Rattle.std.specs.Prelude.{Ok, Err}
use Rattle.std.proofs.lemmas.Result.{err_from_is_err_and}
use Rattle.base_types.specs.declared.access.AccessEntry.{AccessEntry}
use Rattle.disk_log.specs.Log.{disk_of, state_of}
use Rattle.disk_fileset.proofs.Read.{looks_none, looks_then, looks_value, looks_failed, keeps_still, list_more, lists_all, fits_of}
use Rattle.disk_fileset.proofs.reading.lists_of.Goals as goal

pub loop-which-init : goal.loop-which-init
loop-which-init g c = record {
  looks = looks_none g.D.Disk.tells g.D.Disk.view 0 c.args.log.now c.requires.sound;
  lists = λ told slots keeps object there dir. c.new-lists.ensures;
}

pub returns-in_err-list-clause-looks : goal.returns-in_err-list-clause-looks
returns-in_err-list-clause-looks g c =
    let p = err_from_is_err_and c.from_residual.result c.from_residual.ensures.1 in
    looks_failed g.D.Disk.tells g.D.Disk.view {T = List AccessEntry} c.in_err-list.field-0.0 c.from_residual.result c.args.log.now c.list_of.new.log (p.1 ∙ (λ i. Err (p.2 i)))
    (looks_then g.D.Disk.tells g.D.Disk.view 0 _ c.args.log.now c.loop-which.log c.list_of.new.log c.loop-which.invariant.looks c.in_err-list.ensures.looks)

pub loop-which-preserved : goal.loop-which-preserved
loop-which-preserved g c =
    let inv = c.loop-which.invariant in
    record {
      looks = looks_value g.D.Disk.tells g.D.Disk.view c.in_ok-list.list 0 c.args.log.now c.list_of.new.log (looks_then g.D.Disk.tells g.D.Disk.view 0 (Ok c.in_ok-list.list) c.args.log.now c.loop-which.log c.list_of.new.log inv.looks c.in_ok-list.ensures.looks);
      lists = λ told slots keeps object there dir.
          (let fits = fits_of slots c.args.slot c.args.anode c.requires.slot c.requires.first c.requires.last (state_of c.args.log.now) (g.D.Disk.view (disk_of c.args.log.now)).image keeps object there in
          let still = keeps_still g.D.Disk.tells g.D.Disk.view (Ok 0) c.args.log.now c.loop-which.log slots inv.looks keeps in
          let low = c.loop-which-test.true in
          c.in-Ok.ensures.ok ∙ list_more object.content c.loop-which.lists c.loop-which.which c.in_ok-list.list fits.content dir low (inv.lists told slots keeps object there dir) (c.in_ok-list.ensures.list told slots still object there));
    }

pub returns-clause-lists : goal.returns-clause-lists
returns-clause-lists g c = λ told slots keeps object there dir.
    (let fits = fits_of slots c.args.slot c.args.anode c.requires.slot c.requires.first c.requires.last (state_of c.args.log.now) (g.D.Disk.view (disk_of c.args.log.now)).image keeps object there in
    let past = c.loop-which-test.false in
    lists_all object.content c.loop-which.lists c.loop-which.which fits.content dir past (c.loop-which.invariant.lists told slots keeps object there dir))

pub returns-clause-looks : goal.returns-clause-looks
returns-clause-looks g c = looks_value g.D.Disk.tells g.D.Disk.view 0 _ c.args.log.now c.loop-which.log c.loop-which.invariant.looks
