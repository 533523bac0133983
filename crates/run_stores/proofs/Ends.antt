-- What a store keeps of the tree that an ended run leaves.
use Rattle.run_history.proofs.EndedLaw.{ended_runs_may_be_followed}
use Rattle.run_history.proofs.Law.{servers_keep_the_tree}
use Rattle.run_history.specs.Past.{ServersKeepTheTree}
use Rattle.run_history.specs.PastEnded.{EndedRunsMayBeFollowed}
use Rattle.run_rules.specs.Kept.{filesets_kept}
use Rattle.run_rules.specs.Runs.{past_of}
use Rattle.run_tokens.specs.Pasts.{tree_at}
use Rattle.run_rules.specs.Steps.{steps_of_server}
use Rattle.run_stores.proofs.Firsts.{last_is_kept}
use Rattle.run_stores.specs.Ending.{StoresFollow}

kept_just : ServersKeepTheTree
kept_just = servers_keep_the_tree

followed : EndedRunsMayBeFollowed
followed = ended_runs_may_be_followed

pub stores_follow : StoresFollow
stores_follow script journal run ended state keeps =
    let left = tree_at run.start (past_of journal) in
    let valid = (followed script journal run ended).0 in
    last_is_kept left (filesets_kept run.start state.server (steps_of_server state.server (past_of journal))) state valid.well_formed
    valid.at_rest valid.unmoved (kept_just script journal run state.server) keeps
