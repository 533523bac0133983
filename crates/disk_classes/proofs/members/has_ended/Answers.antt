use Rattle.std.proofs.Common.{◌≡◌, ◌<◌, ◌∙◌, length, get_or, sym, ap, true, false, rules}
use Rattle.disk_classes.specs.declared.member.Noted.{Noted as Kept}
use Rattle.disk_classes.proofs.Ended.{list_is, inside_list, ended_more, ended_not, ended_whole, at_number}
use Rattle.disk_classes.proofs.members.has_ended.Goals as goal

pub bounds-noted-number : goal.bounds-noted-number
bounds-noted-number c =
    inside_list c.args.noted.now c.args.class c.as_slice-number-items.result.now c.loop-number.number-index
    (list_is c.args.noted.now c.args.class c.index-noted-class.result c.as_slice-number-items.result.now c.requires.class c.as_slice-number-items.ensures)
    c.requires.within c.loop-number-test.true

pub offset_bounds-noted-number : goal.offset_bounds-noted-number
offset_bounds-noted-number c =
    let lt : get_or c.as_slice-number-items.result.now c.loop-number.number-index 0 < length c.args.noted.now =
    inside_list c.args.noted.now c.args.class c.as_slice-number-items.result.now c.loop-number.number-index
    (list_is c.args.noted.now c.args.class c.index-noted-class.result c.as_slice-number-items.result.now c.requires.class c.as_slice-number-items.ensures)
    c.requires.within c.loop-number-test.true in
    search rules

pub returns-then-not-is_ended : goal.returns-then-not-is_ended
returns-then-not-is_ended c =
    let f : c.is_ended.result ≡ false = search rules in
    ended_not c.args.noted.now c.args.class c.as_slice-number-items.result.now c.loop-number.number-index
    (list_is c.args.noted.now c.args.class c.index-noted-class.result c.as_slice-number-items.result.now c.requires.class c.as_slice-number-items.ensures)
    c.loop-number-test.true
    (λ ended. let t : c.is_ended.result ≡ true = c.is_ended.ensures.1 (ap (λ (n : Kept). n.standing) (at_number c.args.noted.now _ c.index-noted-number.result c.requires.within
    (list_is c.args.noted.now c.args.class c.index-noted-class.result c.as_slice-number-items.result.now c.requires.class c.as_slice-number-items.ensures)
    c.loop-number-test.true c.index-noted-number.is) ∙ ended) in absurd (let g : true ≡ false = sym t ∙ f in cc))

pub loop-number-preserved : goal.loop-number-preserved
loop-number-preserved c =
    let t : c.is_ended.result ≡ true = search rules in
    ended_more c.args.noted.now c.as_slice-number-items.result.now c.loop-number.number-index c.loop-number-test.true c.loop-number.invariant
    (sym (ap (λ (n : Kept). n.standing) (at_number c.args.noted.now _ c.index-noted-number.result c.requires.within
    (list_is c.args.noted.now c.args.class c.index-noted-class.result c.as_slice-number-items.result.now c.requires.class c.as_slice-number-items.ensures)
    c.loop-number-test.true c.index-noted-number.is)) ∙ c.is_ended.ensures.0 t)

pub returns : goal.returns
returns c =
    ended_whole c.args.noted.now c.args.class c.as_slice-number-items.result.now c.loop-number.number-index
    (list_is c.args.noted.now c.args.class c.index-noted-class.result c.as_slice-number-items.result.now c.requires.class c.as_slice-number-items.ensures)
    c.loop-number-test.false c.loop-number.invariant
