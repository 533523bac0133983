use Rattle.run_parts.proofs.place_laws.contents_are_coherent.Goals as goal
use Rattle.run_parts.proofs.PlaceLaw.{legal, sees_present, keeps_tree, loses_exactly, lies_inside}

pub returns : goal.returns
returns c = record {
  legal = legal;
  sees = sees_present;
  keeps = keeps_tree;
  losses = loses_exactly;
  inside = lies_inside;
}
