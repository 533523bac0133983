use Rattle.hub_laws.proofs.Whole.{kept_is_met, kept_is_planned, kept_is_sent, kept_is_sound}
use Rattle.hub_laws.proofs.laws.what_is_kept_is_planned.Goals as goal

pub returns-clause-sent : goal.returns-clause-sent
returns-clause-sent c = kept_is_sent

pub returns-clause-sound : goal.returns-clause-sound
returns-clause-sound c = kept_is_sound

pub returns-clause-met : goal.returns-clause-met
returns-clause-met c = kept_is_met

pub returns-clause-planned : goal.returns-clause-planned
returns-clause-planned c = kept_is_planned
