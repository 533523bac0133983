use Rattle.std.proofs.Common.{◌∙◌, ◌+◌, ℕ, rules, subst, arith}
use Rattle.std.specs.Prelude.{◌==◌}
use Rattle.disk_log.specs.Log.{disk_of, state_of, slot_of}
use Rattle.disk_log.specs.declared.kept.Tx.{Tx}
use Rattle.disk_anode.specs.Node.{no_names}
use Rattle.disk_anode.specs.Room.{are_counts, one, PutsPages}
use Rattle.disk_anode.specs.Changes.{Moves}
use Rattle.disk_anode.proofs.Moving.{puts_then}
use Rattle.disk_anode.proofs.Sharing.{moves_shared, may_share, few_share, free_shared}
use Rattle.base_outside.proofs.Runs.{quiet_then}
use Rattle.disk_anode.proofs.blocks.share_all.Goals as goal

pub share_under-requires-clause-named : goal.share_under-requires-clause-named
share_under-requires-clause-named g c = λ told is.
    let same = c.loop-w.invariant.puts.rest in
    may_share c.args.node.now c.args.from c.loop-w.w c.pointer.result (state_of c.args.log.now) (state_of c.loop-w.log) _ _ c.pointer.ensures (omega arith) (search rules) c.requires.blocks (λ i. (same i).superblock.blocks)
    (c.requires.named told) (c.loop-w.invariant.moves told) is

pub share_under-requires-clause-few : goal.share_under-requires-clause-few
share_under-requires-clause-few g c = λ told is.
    let same = c.loop-w.invariant.puts.rest in
    few_share c.args.node.now c.args.from c.loop-w.w c.pointer.result (state_of c.args.log.now) (state_of c.loop-w.log) _ _ c.pointer.ensures (omega arith) (λ i. (same i).superblock.blocks)
    (c.requires.few told) (c.loop-w.invariant.moves told) is

pub loop-w-preserved : goal.loop-w-preserved
loop-w-preserved g c =
    let invariant = c.loop-w.invariant in
    let same = invariant.puts.rest in
    let old = state_of c.args.log.now in
    let mid = state_of c.loop-w.log in
    let new = state_of c.share_under.new.log in
    record {
      sound = c.share_under.ensures.sound;
      tx = c.share_under.ensures.tx ∙ invariant.tx;
      puts = puts_then are_counts (slot_of c.args.tx.now) old mid new invariant.puts (subst (λ (tx : Tx). PutsPages are_counts (slot_of tx) mid new) invariant.tx c.share_under.ensures.puts);
      moves = λ told. moves_shared c.args.from c.loop-w.w c.args.node.now old mid new _ _ _ (λ i. (same i).superblock.blocks) (invariant.moves told)
          (subst (λ (p : ℕ). Moves no_names (λ b. one (p == b + 1)) mid (g.D.Disk.view (disk_of c.loop-w.log)).image new (g.D.Disk.view (disk_of c.share_under.new.log)).image) c.pointer.ensures (c.in_ok-share_under.ensures.moves told));
      quiet = quiet_then invariant.quiet c.share_under.ensures.quiet;
      counted = search rules;
    }

pub returns-clause-room : goal.returns-clause-room
returns-clause-room g c = λ told.
    let same = c.loop-w.invariant.puts.rest in
    free_shared c.args.node.now c.args.from c.args.to (state_of c.args.log.now) (state_of c.loop-w.log) _ _ c.requires.to (λ i. (same i).superblock.blocks) (c.requires.named told) (search rules)
