use Rattle.run_tokens.proofs.host_worked.a_host_runs.Goals as goal
use Rattle.run_tokens.proofs.HostRunSteps.{meets_greets, meets_enters, meets_fetches, meets_takes, meets_from_cache}

pub returns : goal.returns
returns c = record {
  greets = meets_greets;
  enters = meets_enters;
  asks = meets_fetches;
  answers = meets_takes;
  caches = meets_from_cache;
}
