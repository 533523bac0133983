use Rattle.disk_classes.proofs.Counting.{needs_all}
use Rattle.std.proofs.Common.{◌≤◌, sym, ap, subst, arith, length, List}
use Rattle.std.proofs.lemmas.Result.{err_from_is_err_and}
use Rattle.disk_classes.specs.Notes.{notes_in, bytes_in}
use Rattle.disk_classes.specs.declared.member.Noted.{Noted as Kept}
use Rattle.disk_classes.proofs.Noted.{open_live}
use Rattle.disk_classes.proofs.Sound.{limits_put}
use Rattle.disk_classes.proofs.classes.Classes.put.Goals as goal

pub put-requires-clause-live : goal.put-requires-clause-live
put-requires-clause-live g c = open_live _ c.requires.may.0

pub returns-in_err-put-clause-sound : goal.returns-in_err-put-clause-sound
returns-in_err-put-clause-sound g c = record {
  idle = c.requires.sound.idle;
  partition = c.put.ensures.partition;
  limits = λ m. subst (λ (l : List Kept). length (notes_in l m).pages ≤ (notes_in l m).limit) (sym c.in_err-put.ensures.err) (c.requires.sound.limits m);
  values = c.put.ensures.values;
  within = c.put.ensures.within _ c.requires.page c.requires.sound.within;
  room = (let e = c.put.ensures.needed in let f = c.requires.sound.room in omega (arith, e, f));
  few = (let e = c.put.ensures.size in let f = c.requires.sound.few in omega (arith, e, f));
  needs = needs_all c.put.new.self.noted (let e = c.put.ensures.size in let f = c.requires.sound.few in omega (arith, e, f));
}

pub returns-in_err-put-clause-err : goal.returns-in_err-put-clause-err
returns-in_err-put-clause-err g c =
    let p = err_from_is_err_and c.from_residual.result c.from_residual.ensures.1 in
    rw p.1 (record {
      notes = λ m. ap (λ (l : List Kept). notes_in l m) c.in_err-put.ensures.err;
      values = λ q. ap bytes_in (c.in_err-put.ensures.err_values q);
      needed = c.put.ensures.needed;
    })

pub returns-clause-sound : goal.returns-clause-sound
returns-clause-sound g c = record {
  idle = c.requires.sound.idle;
  partition = c.put.ensures.partition;
  limits = limits_put c.args.member.now.number c.args.page (notes_in c.args.self.now.members.noted) (notes_in c.put.new.self.noted) c.requires.may c.in_ok-put.ensures.put c.requires.sound.limits;
  values = c.put.ensures.values;
  within = c.put.ensures.within _ c.requires.page c.requires.sound.within;
  room = (let e = c.put.ensures.needed in let f = c.requires.sound.room in omega (arith, e, f));
  few = (let e = c.put.ensures.size in let f = c.requires.sound.few in omega (arith, e, f));
  needs = needs_all c.put.new.self.noted (let e = c.put.ensures.size in let f = c.requires.sound.few in omega (arith, e, f));
}
