-- A run that is quiet and rests: that of two hosts which the rules admit from its first step to its end.
use Rattle.script_lines.specs.Sound.{IsSound}
use Rattle.run_examples.specs.Journal.{journal, script}
use Rattle.run_rules.specs.Runs.{past_of}
use Rattle.run_goes_on.specs.Ended.{LocksBytes, NoMoveWaits}
use Rattle.run_goes_on.specs.Rest.{RunRests}
use Rattle.run_goes_on.specs.Resting.{NoneAwaits}
use Rattle.run_goes_on.specs.Waiting.{IsQuiet}

-- all that `RunsEnd` asks for is so of it
pub record RestsWhole : Type 0 where
  pub sound : IsSound script
  pub locks : LocksBytes script
  pub quiet : IsQuiet script journal
  pub rests : RunRests script journal
  pub awaits : NoneAwaits script (past_of journal)
  pub still : NoMoveWaits journal
