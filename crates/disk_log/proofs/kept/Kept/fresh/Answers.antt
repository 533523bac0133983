use Rattle.disk_log.proofs.kept.Kept.fresh.Goals as goal

pub returns-clause-state : goal.returns-clause-state
returns-clause-state c = λ j. record {
  superblock = c.args.superblock;
  half = c.args.half;
  entries = c.in_ok-entries.ensures.items j;
  forced = 0;
  puts = c.new.ensures.items j;
  reservations = c.in_ok-reservations.ensures j;
  reserved = 0;
}
