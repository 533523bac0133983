-- Give-backs that wait to be stored together.
use Rattle.std.specs.List.{list_all}
use Rattle.std.specs.Prelude.{◌≡◌, ◌≤◌, ◌⊎◌, List, [], None, length, true}
use Rattle.message_types.specs.Soundness.{Each}
use Rattle.store_acts.specs.Sound.{IsAct}
use Rattle.store_acts.specs.declared.act.Act.{Act}
use Rattle.store_state.specs.declared.state.StoreState.{StoreState}
use Rattle.server_tables.specs.Judging.{first_ripe}
use Rattle.server_tables.specs.declared.tables.Tables.{Tables}
use Rattle.server_says.specs.Acts.{IsGive}
use Rattle.server_says.specs.Draft.{Draft}
use Rattle.server_decides.specs.Deciding.{is_waiting, outlook_at}
use Rattle.server_decides.specs.declared.finishing.TheConstants.{GIVES_MAX}

-- some give-backs, each of which the store of this state may be given
pub record AreGives (state : StoreState) (acts : List Act) : Type 0 where
  pub few : length acts ≤ GIVES_MAX
  pub gives : Each IsGive acts
  pub each : Each (IsAct state.roster state.server) acts

-- nothing can come of wants and claims
pub record IsIdle (x : Tables) (d : Draft) : Type 0 where
  pub old : d.fresh ≡ None
  pub claims : first_ripe x.recovering x.server ≡ None
  pub wants : list_all (λ pending. is_waiting (outlook_at x pending.number)) x.pending ≡ true

-- nothing waits any more, or the store keeps what it kept
abbrev pub IsStoredOrSame : Type 0 → StoreState → StoreState → List Act → Type 0
IsStoredOrSame tells old new waiting = (waiting ≡ []) ⊎ (tells → new ≡ old)
