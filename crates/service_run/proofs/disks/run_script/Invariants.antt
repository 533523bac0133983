use Rattle.service_run.proofs.disks.run_script.Given as goal

abbrev pub ghosts-play_on : goal.ghosts-play_on
ghosts-play_on g a = record { disks = a.count }
