use Rattle.std.proofs.Common.{ℕ, ◌≡◌}
use Rattle.base_types.specs.declared.ids.Fid.{Fid}
use Rattle.tree_laws.specs.Parts.{Part}
use Rattle.run_rules.specs.Views.{is_dirty, sees as host_sees}
use Rattle.run_parts.specs.Uses.{UsesStay}
use Rattle.run_parts.specs.Contents.{FetchesSo, GivesShow, TakesShow, WritesGrow, dirty, sees}
use Rattle.run_contents.proofs.Asks.{fetches_so}
use Rattle.run_contents.proofs.Gives.{gives_show}
use Rattle.run_contents.proofs.Runs.{in_runs}
use Rattle.run_contents.proofs.Takes.{takes_show}
use Rattle.run_contents.proofs.Views.{sees_same, dirty_same}
use Rattle.run_contents.proofs.Writes.{writes_grow}
use Rattle.run_contents.proofs.laws.hosts_show_what_they_are_told.Goals as goal

pub returns : goal.returns
returns c = record {
  seen = in_runs (λ c past s. (f : Fid) (p : Part) → sees c past s f p ≡ host_sees past s f p)
      (λ c script host past s same run m f p. sees_same c same script host past run s f p);
  dirty = in_runs (λ c past s. (f : Fid) (at : ℕ) → dirty c past f at ≡ is_dirty past f at)
      (λ c script host past s same run m f at. dirty_same c same script host past run f at);
  takes = in_runs TakesShow (λ c script host past s same run m. takes_show c same script host past s run m);
  grown = in_runs WritesGrow (λ c script host past s same run m. writes_grow c same script host past s run m);
  asks = in_runs FetchesSo (λ c script host past s same run m. fetches_so c same script host past s run m);
  gives = in_runs GivesShow (λ c script host past s same run m. gives_show c same script host past s run m);
  uses = in_runs (λ c past s. UsesStay past s) (λ c script host past s same run m. record {
    returns_idle = m.revoked.returns_idle;
    makes_ends = m.gives.ends_used;
    keeps = λ i q. (m.revoked.keeps i q).1;
  });
}
