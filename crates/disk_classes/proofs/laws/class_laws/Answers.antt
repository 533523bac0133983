use Rattle.disk_classes.proofs.ClassLaws.{whole_law, absent_law, commits_law, apart_law, sides_law, joined_law, part_law, pages_law, not_one_law, not_each_law}
use Rattle.disk_classes.proofs.laws.class_laws.Goals as goal

pub returns : goal.returns
returns c = record {
  whole = whole_law;
  absent = absent_law;
  commits = commits_law;
  apart = apart_law;
  sides = sides_law;
  joined = joined_law;
  part = part_law;
  pages = pages_law;
  not_one = not_one_law;
  not_each = not_each_law;
}
