use Rattle.tree_objects.proofs.Lawful.{write_shows, write_keeps_others, write_is_seen}
use Rattle.tree_objects.proofs.laws.write_law.Goals as goal

pub returns-clause-shows : goal.returns-clause-shows
returns-clause-shows c = write_shows

pub returns-clause-others : goal.returns-clause-others
returns-clause-others c = write_keeps_others

pub returns-clause-seen : goal.returns-clause-seen
returns-clause-seen c = write_is_seen
