use Rattle.std.proofs.Common.{arith}
use Rattle.std.proofs.lemmas.Result.{on_ok_weaker}
use Rattle.disk_log.specs.Log.{disk_of, state_of, slot_of}
use Rattle.disk_anode.specs.Node.{names, names_below, no_names}
use Rattle.disk_anode.specs.Room.{are_counts, with_counts}
use Rattle.disk_anode.proofs.Putting.{may_fewer}
use Rattle.disk_anode.proofs.Saving.{counts_in}
use Rattle.disk_anode.proofs.Moving.{moves_as}
use Rattle.disk_anode.proofs.Laid.{still_counted}
use Rattle.disk_anode.proofs.Sharing.{below_all, below_none}
use Rattle.disk_anode.proofs.Copied.{copy_cloned, copy_owns, names_cut, counted_fewer, few_fewer}
use Rattle.disk_anode.proofs.Changing.{wrote_own}
use Rattle.disk_anode.proofs.copying.put_copy.Goals as goal

pub share_all-requires-clause-may : goal.share_all-requires-clause-may
share_all-requires-clause-may g c = may_fewer are_counts (with_counts c.args.page) (state_of c.args.log.now) (slot_of c.args.tx.now) (λ p is. counts_in c.args.page p is) c.requires.may

pub share_all-requires-clause-named : goal.share_all-requires-clause-named
share_all-requires-clause-named g c = λ told block lt. counted_fewer c.args.copy.now c.set_pointer.new.self (state_of c.args.log.now) _ (names_cut c.args.copy.now c.set_pointer.new.self c.set_pointer.ensures) (c.requires.named told) block lt

pub share_all-requires-clause-few : goal.share_all-requires-clause-few
share_all-requires-clause-few g c = λ told block lt. few_fewer c.args.copy.now c.set_pointer.new.self (state_of c.args.log.now) _ (names_cut c.args.copy.now c.set_pointer.new.self c.set_pointer.ensures) (c.requires.few told) block lt

pub save-requires-clause-named : goal.save-requires-clause-named
save-requires-clause-named g c = λ told block lt.
    let rest = c.share_all.ensures.puts.rest in
    let cut = c.set_pointer.new.self in
    still_counted no_names (names cut) (state_of c.args.log.now) (state_of c.share_all.new.log) (g.D.Disk.view (disk_of c.args.log.now)).image _ (λ i. (rest i).superblock.blocks)
    (moves_as (names_below 0 cut) (names_below 68 cut) no_names (names cut) (state_of c.args.log.now) (state_of c.share_all.new.log) _ _ (λ b low. let none = below_none cut b in let all = below_all cut b in omega (arith, none, all)) (c.in_ok-share_all.ensures.moves told))
    (λ b low. omega arith) block lt

pub returns-clause-cloned : goal.returns-clause-cloned
returns-clause-cloned g c = λ told.
    let rest = c.share_all.ensures.puts.rest in
    on_ok_weaker c.save.result (λ saved. copy_cloned c.args.page c.args.copy.now c.set_pointer.new.self c.save.new.node (state_of c.args.log.now) (state_of c.share_all.new.log) (state_of c.save.new.log) _ _ _ (λ i. (rest i).superblock.blocks) c.set_pointer.ensures
    (c.in_ok-share_all.ensures.moves told) c.share_all.ensures.quiet.image saved c.save.ensures.facts c.requires.blocks) (c.save.ensures.saved told)

pub returns-clause-own : goal.returns-clause-own
returns-clause-own g c = λ told.
    let rest = c.share_all.ensures.puts.rest in
    on_ok_weaker c.save.result (λ saved. copy_owns c.args.page c.args.copy.now c.set_pointer.new.self c.save.new.node (state_of c.args.log.now) (state_of c.share_all.new.log) (state_of c.save.new.log) _ _ _ (λ i. (rest i).superblock.blocks) c.set_pointer.ensures
    (c.in_ok-share_all.ensures.moves told) c.share_all.ensures.quiet.image saved c.save.ensures.facts c.requires.blocks) (c.save.ensures.saved told)

pub returns-clause-wrote : goal.returns-clause-wrote
returns-clause-wrote g c = λ told.
    let rest = c.share_all.ensures.puts.rest in
    let cut = c.set_pointer.new.self in
    wrote_own no_names (names cut) (state_of c.args.log.now) (state_of c.share_all.new.log) _ _ _ (λ i. (rest i).superblock.blocks)
    (moves_as (names_below 0 cut) (names_below 68 cut) no_names (names cut) (state_of c.args.log.now) (state_of c.share_all.new.log) _ _ (λ b low. let none = below_none cut b in let all = below_all cut b in omega (arith, none, all)) (c.in_ok-share_all.ensures.moves told))
    c.share_all.ensures.quiet (c.save.ensures.wrote told)
