use Rattle.std.proofs.Common.{◌≡◌, ◌∙◌, ◌++◌, length-set, get_or, set, arith}
use Rattle.disk_classes.specs.Notes.{renumbered}
use Rattle.disk_classes.proofs.Ended.{within_said}
use Rattle.disk_classes.proofs.Noted.{joins_said}
use Rattle.disk_classes.proofs.members.join.Goals as goal

pub renumber-requires : goal.renumber-requires
renumber-requires c = λ m there.
    let lt = within_said c.args.noted.now c.args.from c.get.result.now c.as_slice-3.result.now c.requires.from c.get.ensures (c.as_slice-3.ensures ∙ c.in_ok-members.ensures ∙ c.as_slice.ensures) c.requires.within m there in
    let e = length-set c.args.noted.now c.args.into c.add_joined.new.noted in
    let f = length-set (set c.args.noted.now c.args.into c.add_joined.new.noted) c.args.from c.clear_joined.new.noted in
    omega (arith, lt, e, f)

pub returns-clause-ok : goal.returns-clause-ok
returns-clause-ok c =
    let ms = c.args.noted.now in
    let b = c.get_mut.result.now in
    let list = c.in_ok-members.members in
    let add : c.add_joined.new.noted ≡ record b { joined = b.joined ++ list } = c.in_ok-add_joined.ensures.ok ∙ (λ j. record b { joined = b.joined ++ c.as_slice-2.ensures j }) in
    joins_said c.args.from c.args.into ms c.requires.apart c.requires.from c.requires.into c.requires.within c.get.result.now b c.get_mut-2.result.now list c.renumber.new.noted
    c.get.ensures (c.in_ok-members.ensures ∙ c.as_slice.ensures) c.get_mut.ensures.value
    (c.get_mut-2.ensures.value ∙ (λ j. get_or (set ms c.args.into (add j)) c.args.from c.get_mut-2.result.now))
    (c.renumber.ensures ∙ (λ j. renumbered c.args.into (c.as_slice-3.ensures j) (set (set ms c.args.into (add j)) c.args.from (c.clear_joined.ensures j))))
