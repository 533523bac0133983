use Rattle.tree_laws.proofs.Agreeing.{uses_keep_agreeing}
use Rattle.tree_laws.proofs.Counting.{labels_are_counted, others_exclude_only_so, overlap_is_common, open_table}
use Rattle.tree_laws.proofs.Labels.{labels_change_so}
use Rattle.tree_laws.proofs.hold_laws.label_law.Goals as goal

pub returns : goal.returns
returns c = record {
  changes = labels_change_so;
  uses = uses_keep_agreeing;
  counts = labels_are_counted;
  others = others_exclude_only_so;
  overlaps = overlap_is_common;
  kinds = open_table;
}
