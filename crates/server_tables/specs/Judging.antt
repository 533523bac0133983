-- By what claims are judged.
use Rattle.std.specs.Prelude.{ℕ, ◌==◌, Bool, ◌&&◌, ◌||◌, not, List, [], Option}
use Rattle.std.specs.List.{filter, find, list_all, list_any}
use Rattle.base_types.specs.declared.ids.FilesetId.{FilesetId}
use Rattle.base_types.specs.declared.ids.HostId.{HostId}
use Rattle.base_types.specs.declared.ids.ServerId.{ServerId}
use Rattle.message_types.specs.declared.giving.Outstanding.{Outstanding}
use Rattle.message_types.specs.declared.giving.Reclaim.{Reclaim}
use Rattle.token_types.specs.Conflicts.{same_id}
use Rattle.token_types.specs.declared.token.TokenId.{TokenId}
use Rattle.server_tables.specs.declared.recovering.Claimed.{Claimed}
use Rattle.server_tables.specs.declared.recovering.GaveUp.{GaveUp}
use Rattle.server_tables.specs.declared.recovering.Recovering.{Recovering}
use Rattle.server_tables.specs.declared.tables.LastGive.{LastGive}
use Rattle.server_tables.specs.Places.{is_of}

abbrev pub gave_up : List GaveUp → HostId → TokenId → Bool
gave_up ups host id = list_any (λ gave. (gave.host.0 == host.0) && same_id gave.id id) ups

abbrev pub has_taken : List LastGive → HostId → FilesetId → ℕ → Bool
has_taken takens host fileset number =
    list_any (λ taken. (taken.host.0 == host.0) && ((taken.give.fileset.0 == fileset.0) &&
    (taken.give.number == number))) takens

-- what is outstanding is at a fileset that is here
abbrev pub is_here : ServerId → Outstanding → Bool
is_here server out = (out.moves == 0) && is_of server out.fileset

-- the give-backs of a claim that go to the server were all taken
abbrev pub has_all : List LastGive → ServerId → HostId → Reclaim → Bool
has_all takens server host claim =
    list_all (λ out. (out.give == 0) || (not (is_here server out) || has_taken takens host out.fileset out.give))
    claim.numbers

abbrev pub first_ripe : Recovering → ServerId → Option Claimed
first_ripe x server = find (λ claimed. has_all x.taken server claimed.host claimed.claim) x.claims

abbrev pub nothing_recovered : Recovering
nothing_recovered = record { claims = []; taken = []; given_up = []; answers = [] }

abbrev pub forgotten : Recovering → HostId → Recovering
forgotten x host = record x {
  claims = filter (λ claimed. not (claimed.host.0 == host.0)) x.claims;
  taken = filter (λ taken. not (taken.host.0 == host.0)) x.taken;
  given_up = filter (λ gave. not (gave.host.0 == host.0)) x.given_up;
}
