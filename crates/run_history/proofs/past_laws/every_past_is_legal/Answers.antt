use Rattle.run_history.proofs.Law.{
  histories_make_the_tree,
  journals_are_legal,
  runs_are_legal,
  servers_keep_the_tree,
}
use Rattle.run_history.proofs.past_laws.every_past_is_legal.Goals as goal

pub returns : goal.returns
returns c = record {
  legal = runs_are_legal;
  journal = journals_are_legal;
  tree = histories_make_the_tree;
  servers = servers_keep_the_tree;
}
