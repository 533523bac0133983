use Rattle.std.proofs.Common.{arith, length, ◌∙◌, rules, subst}
use Rattle.disk_log.specs.Log.{state_of, slot_of}
use Rattle.disk_log.specs.declared.kept.Tx.{Tx}
use Rattle.disk_anode.specs.Node.{names}
use Rattle.disk_anode.specs.Room.{are_counts, PutsPages}
use Rattle.disk_anode.proofs.Moving.{puts_then, wrote_more}
use Rattle.disk_anode.proofs.Laid.{laid_more, laid_all}
use Rattle.disk_anode.proofs.Free.{written_more}
use Rattle.disk_anode.proofs.writing.lay.Goals as goal

pub returns-in_err-lay_block-clause-wrote : goal.returns-in_err-lay_block-clause-wrote
returns-in_err-lay_block-clause-wrote g c = λ told.
    let same = c.loop-i.invariant.puts.rest in
    wrote_more (names c.args.node.now) (names c.loop-i.node) (state_of c.args.log.now) (state_of c.loop-i.log) _ _ _ (λ i. (same i).superblock.blocks) (c.loop-i.invariant.laid told).moves (c.loop-i.invariant.wrote told) (c.lay_block.ensures.wrote told)

pub loop-i-preserved : goal.loop-i-preserved
loop-i-preserved g c =
    let invariant = c.loop-i.invariant in
    let same = invariant.puts.rest in
    let old = state_of c.args.log.now in
    let mid = state_of c.loop-i.log in
    let new = state_of c.lay_block.new.log in
    record {
      sound = c.lay_block.ensures.sound;
      tx = c.lay_block.ensures.tx ∙ invariant.tx;
      puts = puts_then are_counts (slot_of c.args.tx.now) old mid new invariant.puts (subst (λ (tx : Tx). PutsPages are_counts (slot_of tx) mid new) invariant.tx c.lay_block.ensures.puts);
      facts = record { blocks = c.lay_block.ensures.facts.blocks ∙ invariant.facts.blocks; rest = λ k beside. c.lay_block.ensures.facts.rest k beside ∙ invariant.facts.rest k beside; behind = λ k le. c.lay_block.ensures.facts.behind k le ∙ invariant.facts.behind k le };
      laid = λ told. laid_more c.loop-i.i c.args.kept c.args.from c.args.piece.now c.args.node.now old _ c.loop-i.node mid _ c.lay_block.new.node new _ (search rules) (λ i. (same i).superblock.blocks) (invariant.laid told) (c.in_ok-lay_block.ensures.replaced told) c.lay_block.ensures.others c.in_ok-lay_block.ensures.past c.lay_block.ensures.same;
      room = λ told. let a = invariant.room told in let b = c.in_ok-lay_block.ensures.room told in omega (arith, a, b);
      wrote = λ told. wrote_more (names c.args.node.now) (names c.loop-i.node) old mid _ _ _ (λ i. (same i).superblock.blocks) (invariant.laid told).moves (invariant.wrote told) (c.lay_block.ensures.wrote told);
      counted = search rules;
    }

pub lay_block-requires-clause-room : goal.lay_block-requires-clause-room
lay_block-requires-clause-room g c = λ told.
    let a = c.loop-i.invariant.room told in
    let b = c.requires.room told in
    let more = written_more c.args.kept c.args.from (length c.args.piece.now) c.loop-i.i 64 (search rules) in
    omega (arith, a, b, more)

pub returns-clause-laid : goal.returns-clause-laid
returns-clause-laid g c = λ told. laid_all c.args.kept c.args.from c.args.piece.now c.args.node.now (state_of c.args.log.now) _ c.loop-i.node (state_of c.loop-i.log) _ (search rules)
