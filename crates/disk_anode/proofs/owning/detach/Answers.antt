use Rattle.std.proofs.Common.{◌≡◌, ◌∙◌, ◌+◌, ℕ, List, sym, subst, arith}
use Rattle.std.specs.Prelude.{true, ◌==◌}
use Rattle.std.proofs.lemmas.Result.{on_ok_weaker}
use Rattle.disk_log.specs.Log.{disk_of, state_of}
use Rattle.disk_log.specs.State.{State}
use Rattle.disk_anode.specs.Room.{one}
use Rattle.disk_anode.specs.Node.{names_below}
use Rattle.disk_anode.specs.Changes.{is_shared as shared_of, Moves}
use Rattle.disk_anode.proofs.Sharing.{counted_shared, moves_detached}
use Rattle.disk_anode.proofs.Cells.{named_but, one_other}
use Rattle.disk_anode.proofs.Renewing.{left_shared}
use Rattle.disk_anode.proofs.owning.detach.Goals as goal

pub returns-clause-left : goal.returns-clause-left
returns-clause-left g c = λ told.
    let node = c.args.node.now in
    let before = (g.D.Disk.view (disk_of c.args.log.now)).image in
    let shared : shared_of (state_of c.args.log.now) before node ≡ true = sym (c.in_ok-is_shared.ensures.shared told) ∙ (let e = c.if-not-branch.false in grind (arith, e)) in
    on_ok_weaker c.clear.result (λ points b.
    let e = left_shared (state_of c.args.log.now) before node b shared in
    let f = named_but node c.clear.new.node 15 0 b (omega arith) points in
    let z : one (0 == b + 1) ≡ 0 = one_other 0 (b + 1) (omega arith) in
    omega (arith, e, f, z)) c.clear.ensures.points

pub clear-requires-clause-named : goal.clear-requires-clause-named
clear-requires-clause-named g c = λ told.
    let node = c.args.node.now in
    let same = c.is_shared.ensures.state in
    let rest = c.share_all.ensures.puts.rest in
    let before = (g.D.Disk.view (disk_of c.args.log.now)).image in
    let after = (g.D.Disk.view (disk_of c.share_all.new.log)).image in
    counted_shared node (state_of c.args.log.now) (state_of c.share_all.new.log) before after (λ i. ((λ j. (rest j).superblock.blocks) ∙ (λ j. (same j).superblock.blocks)) i) (c.requires.named told)
    (subst (λ (s : State). Moves (names_below 16 node) (names_below 68 node) s before (state_of c.share_all.new.log) after) same
    (subst (λ (l : List ℕ). Moves (names_below 16 node) (names_below 68 node) (state_of c.is_shared.new.log) l (state_of c.share_all.new.log) after) c.is_shared.ensures.quiet.image (c.in_ok-share_all.ensures.moves told)))

pub returns-clause-moves : goal.returns-clause-moves
returns-clause-moves g c = λ told.
    let node = c.args.node.now in
    let same = c.is_shared.ensures.state in
    let rest = c.share_all.ensures.puts.rest in
    let before = (g.D.Disk.view (disk_of c.args.log.now)).image in
    let after = (g.D.Disk.view (disk_of c.share_all.new.log)).image in
    let shared : shared_of (state_of c.args.log.now) before node ≡ true = sym (c.in_ok-is_shared.ensures.shared told) ∙ (let e = c.if-not-branch.false in grind (arith, e)) in
    on_ok_weaker c.clear.result (λ replaced. moves_detached node c.clear.new.node (state_of c.args.log.now) (state_of c.share_all.new.log) (state_of c.clear.new.log) before after _ (λ i. ((λ j. (rest j).superblock.blocks) ∙ (λ j. (same j).superblock.blocks)) i) shared
    (subst (λ (s : State). Moves (names_below 16 node) (names_below 68 node) s before (state_of c.share_all.new.log) after) same
    (subst (λ (l : List ℕ). Moves (names_below 16 node) (names_below 68 node) (state_of c.is_shared.new.log) l (state_of c.share_all.new.log) after) c.is_shared.ensures.quiet.image (c.in_ok-share_all.ensures.moves told))) replaced) (c.clear.ensures.replaced told)
