use Rattle.disk_classes.proofs.Counting.{needs_all}
use Rattle.std.proofs.Common.{ap, subst, arith}
use Rattle.disk_classes.specs.Notes.{needed_in, IsPlaced}
use Rattle.disk_classes.specs.declared.member.Noted.{Noted as Kept}
use Rattle.disk_classes.proofs.Standing.{partition_begun, needed_begun, notes_begun, begun_pages, values_kept}
use Rattle.disk_classes.proofs.Sound.{limits_begun, lowest_said, below_said, few_begun}
use Rattle.disk_classes.proofs.classes.Classes.begin.Goals as goal

pub returns-clause-sound : goal.returns-clause-sound
returns-clause-sound g c =
    let ms = c.args.self.now.members.noted in
    let now = c.place.new.noted in
    let number = c.first_vacant-number.result in
    let none = lowest_said ms c.as_slice-2.result.now number c.as_slice-2.ensures c.first_vacant-number.ensures.within c.first_vacant-number.ensures.vacant in
    let lowest = below_said ms c.as_slice-2.result.now number c.as_slice-2.ensures c.first_vacant-number.ensures.lowest in
    let placed = subst (λ (n : Kept). IsPlaced number n ms now) c.in_ok-noted.ensures c.in_ok-place.ensures.ok in
    let part = c.requires.sound.partition in
    record {
      idle = c.requires.sound.idle;
      partition = partition_begun ms now number c.args.pages part none placed;
      limits = limits_begun ms now number c.args.pages (notes_begun ms now number c.args.pages part none placed) c.requires.sound.limits;
      values = values_kept ms now c.args.self.now.members.values (begun_pages ms now number c.args.pages part none placed) c.requires.sound.values;
      within = c.requires.sound.within;
      room = (let e = needed_begun ms now number c.args.pages part none placed in let f = ap needed_in c.as_slice.ensures in let free = c.free-free.ensures in omega (arith, e, f, free));
      few = few_begun ms now number c.args.pages lowest placed c.requires.sound.few (let f = ap needed_in c.as_slice.ensures in let free = c.free-free.ensures in omega (arith, f, free));
      needs = needs_all now (few_begun ms now number c.args.pages lowest placed c.requires.sound.few (let f = ap needed_in c.as_slice.ensures in let free = c.free-free.ensures in omega (arith, f, free)));
    }

pub returns-clause-begun : goal.returns-clause-begun
returns-clause-begun g c =
    let ms = c.args.self.now.members.noted in
    let now = c.place.new.noted in
    let number = c.first_vacant-number.result in
    let none = lowest_said ms c.as_slice-2.result.now number c.as_slice-2.ensures c.first_vacant-number.ensures.within c.first_vacant-number.ensures.vacant in
    let lowest = below_said ms c.as_slice-2.result.now number c.as_slice-2.ensures c.first_vacant-number.ensures.lowest in
    let placed = subst (λ (n : Kept). IsPlaced number n ms now) c.in_ok-noted.ensures c.in_ok-place.ensures.ok in
    let part = c.requires.sound.partition in
    record {
      fits = (let f = ap needed_in c.as_slice.ensures in let free = c.free-free.ensures in omega (arith, f, free));
      lowest = record { vacant = none; lowest = lowest };
      notes = notes_begun ms now number c.args.pages part none placed;
      needed = needed_begun ms now number c.args.pages part none placed;
    }
