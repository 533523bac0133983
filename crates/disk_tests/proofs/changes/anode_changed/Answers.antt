use Rattle.std.proofs.Common.{◌≡◌, refl, arith}
use Rattle.std.specs.Prelude.{Bool, true, ◌||◌}
use Rattle.disk_log.specs.Log.{state_of, slot_of}
use Rattle.disk_anode.specs.Room.{with_counts, is_page}
use Rattle.disk_anode.proofs.Putting.{may_fewer, may_one}
use Rattle.disk_anode.proofs.Saving.{page_in}
use Rattle.disk_tests.proofs.changes.anode_changed.Goals as goal

or_first : (a b : Bool) → a ≡ true → (a || b) ≡ true
or_first a b is = rw is refl

pub create-requires-clause-may : goal.create-requires-clause-may
create-requires-clause-may g c =
    let page = c.args.page in
    may_fewer (is_page page) (with_counts page) (state_of c.args.log.now) (slot_of c.args.tx.now)
    (λ p is. or_first _ _ is) c.requires.act.may

pub put-requires-clause-may : goal.put-requires-clause-may
put-requires-clause-may g c =
    let page = c.args.page in
    let many = c.requires.act.sound.many in
    let few = c.requires.page in
    may_one (with_counts page) (state_of c.args.log.now) (slot_of c.args.tx.now) page c.requires.act.may (page_in page)
    (omega (arith, many, few))
