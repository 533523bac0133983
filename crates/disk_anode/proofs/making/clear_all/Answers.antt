use Rattle.std.proofs.Common.{◌∙◌, ◌≡◌, ◌≢◌, ◌⊎◌, ◌<◌, ◌+◌, ℕ, rules, subst, inl, inr, arith, ap}
use Rattle.std.proofs.lemmas.Bool.{cases_eq}
use Rattle.disk_log.specs.Log.{state_of, slot_of}
use Rattle.disk_log.specs.declared.kept.Tx.{Tx}
use Rattle.disk_anode.specs.Node.{pointer_of, names}
use Rattle.disk_anode.specs.Room.{are_counts, PutsPages}
use Rattle.disk_anode.proofs.Moving.{puts_then, wrote_more}
use Rattle.disk_anode.proofs.Laid.{moves_on}
use Rattle.disk_anode.proofs.making.clear_all.Goals as goal

pub returns-in_err-clear-clause-wrote : goal.returns-in_err-clear-clause-wrote
returns-in_err-clear-clause-wrote g c = λ told.
    let same = c.loop-w.invariant.puts.rest in
    wrote_more (names c.args.node.now) (names c.loop-w.node) (state_of c.args.log.now) (state_of c.loop-w.log) _ _ _ (λ i. (same i).superblock.blocks) (c.loop-w.invariant.moves told) (c.loop-w.invariant.wrote told) (c.clear.ensures.wrote told)

pub loop-w-preserved : goal.loop-w-preserved
loop-w-preserved g c =
    let invariant = c.loop-w.invariant in
    let same = invariant.puts.rest in
    let old = state_of c.args.log.now in
    let mid = state_of c.loop-w.log in
    let new = state_of c.clear.new.log in
    let points = c.in_ok-clear.ensures.points in
    let by : (v : ℕ) → v < c.loop-w.w + 1 → (v ≡ c.loop-w.w) ⊎ (v ≢ c.loop-w.w) → pointer_of c.clear.new.node v ≡ 0 = λ v lt which.
    elim which [ inl is ↦ ap (pointer_of c.clear.new.node) is ∙ points.here | inr apart ↦ points.others v (omega arith) apart ∙ invariant.none v (omega arith) ] in
    record {
      sound = c.clear.ensures.sound;
      tx = c.clear.ensures.tx ∙ invariant.tx;
      puts = puts_then are_counts (slot_of c.args.tx.now) old mid new invariant.puts (subst (λ (tx : Tx). PutsPages are_counts (slot_of tx) mid new) invariant.tx c.clear.ensures.puts);
      facts = record { blocks = c.clear.ensures.facts.blocks ∙ invariant.facts.blocks; rest = λ k beside. c.clear.ensures.facts.rest k beside ∙ invariant.facts.rest k beside; behind = λ k le. c.clear.ensures.facts.behind k le ∙ invariant.facts.behind k le };
      none = λ v lt. by v lt (cases_eq v c.loop-w.w);
      moves = λ told. moves_on (names c.args.node.now) (names c.loop-w.node) (names c.clear.new.node) old mid new _ _ _ (λ i. (same i).superblock.blocks) (invariant.moves told) (c.in_ok-clear.ensures.replaced told).moves;
      room = λ told. let a = invariant.room told in let b = c.in_ok-clear.ensures.room told in omega (arith, a, b);
      wrote = λ told. wrote_more (names c.args.node.now) (names c.loop-w.node) old mid _ _ _ (λ i. (same i).superblock.blocks) (invariant.moves told) (invariant.wrote told) (c.clear.ensures.wrote told);
      counted = search rules;
    }
