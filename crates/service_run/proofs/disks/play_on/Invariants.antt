use Rattle.service_disks.specs.Seats.{seat_view}
use Rattle.service_watch.proofs.Going.{first_views}
use Rattle.service_run.proofs.disks.play_on.Given as goal

abbrev pub ghosts-run_over : goal.ghosts-run_over
ghosts-run_over g a = record { from = first_views (seat_view g.D.Disk.tells g.D.Disk.view) a.seats.items }
