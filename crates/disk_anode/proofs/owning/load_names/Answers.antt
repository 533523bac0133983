use Rattle.std.proofs.Common.{◌≡◌, ◌∙◌, sym}
use Rattle.std.specs.Prelude.{true}
use Rattle.std.proofs.lemmas.List.{get_or-replicate}
use Rattle.disk_log.specs.Log.{disk_of, state_of}
use Rattle.disk_anode.specs.Changes.{is_shared as shared_of, own_names}
use Rattle.disk_anode.proofs.Sharing.{own_shared}
use Rattle.disk_anode.proofs.Copied.{names_front}
use Rattle.disk_anode.proofs.owning.load_names.Goals as goal

pub returns-then-branch-clause-names : goal.returns-then-branch-clause-names
returns-then-branch-clause-names g c = λ told b.
    let node = c.in_ok-node.node in
    let old = state_of c.args.log.now in
    let before = (g.D.Disk.view (disk_of c.args.log.now)).image in
    let same = c.load.ensures.state in
    let quiet = c.load.ensures.quiet.image in
    let is = c.in_ok-node.ensures.node told in
    let shared : shared_of old before node ≡ true = (λ i. shared_of (sym same i) (sym quiet i) node) ∙ sym (c.in_ok-is_shared.ensures.shared told) ∙ c.if-branch.true in
    names_front node _ (λ i. node.page) (λ k lt. get_or-replicate 1024 k 0 0 lt) b ∙ sym (own_shared old before node b shared) ∙ (λ i. own_names old before (is i) b)
