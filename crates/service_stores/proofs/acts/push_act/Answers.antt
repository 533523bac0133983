use Rattle.std.proofs.Common.{rules, ◌≡◌, Some, subst}
use Rattle.std.specs.Prelude.{MatchOption}
use Rattle.tree_answers.specs.Histories.{IsLegal}
use Rattle.tree_answers.specs.Stores.{content_in}
use Rattle.store_laws.specs.TreeKeeping.{fileset_at}
use Rattle.service_stores.specs.Reading.{HasBytes}
use Rattle.service_stores.proofs.Pieces.{at_found, given_there}
use Rattle.service_stores.proofs.acts.push_act.Goals as goal

pub give_of-requires : goal.give_of-requires
give_of-requires c =
    let tree = c.args.tree.now in
    let entry = c.in-Stored in
    let fileset = c.in-Some-Some.fileset.now in
    let at : Some fileset ≡ fileset_at tree c.args.server entry.fid.fileset = first_of (search rules, cc) in
    let spans : entry.spans ≡ c.as_slice-spans.result.now = first_of (search rules, cc) in
    let legal = subst (IsLegal tree) entry.is c.requires.legal in
    subst (λ spans. MatchOption (content_in fileset entry.fid) ⊥ (λ content. HasBytes content spans)) spans
    (given_there entry.host entry.fid entry.spans entry.length tree fileset c.requires.formed legal
    (at_found tree c.args.server entry.fid.fileset fileset at))
