use Rattle.run_history.proofs.Answered.{answers_from_cache_exactly}
use Rattle.run_history.proofs.laws.calls_are_answered_from_cache_exactly.Goals as goal

pub returns : goal.returns
returns c = answers_from_cache_exactly
