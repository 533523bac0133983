use Rattle.run_parts.proofs.label_laws.labels_are_coherent.Goals as goal
use Rattle.run_parts.proofs.LabelLaw.{locked_granted, locks_apart, pinned_locked}

pub returns : goal.returns
returns c = record { granted = locked_granted; apart = locks_apart; pinned = pinned_locked }
