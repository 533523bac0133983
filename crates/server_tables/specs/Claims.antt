-- What claims name, and what is noted of them.
use Rattle.std.specs.Prelude.{◌==◌, Bool, ◌&&◌, not, if◌then◌else◌, List, [], ◌∷◌, ◌++◌, Option, map}
use Rattle.std.specs.List.{filter, find, list_any}
use Rattle.std.specs.Option.{option_map}
use Rattle.base_types.specs.declared.ids.FilesetId.{FilesetId}
use Rattle.base_types.specs.declared.ids.HostId.{HostId}
use Rattle.base_types.specs.declared.ids.ServerId.{ServerId}
use Rattle.message_types.specs.declared.giving.AppliedGive.{AppliedGive}
use Rattle.message_types.specs.declared.giving.Outstanding.{Outstanding}
use Rattle.message_types.specs.declared.giving.Reclaim.{Reclaim}
use Rattle.message_types.specs.declared.giving.Reclaimed.{Reclaimed}
use Rattle.token_types.specs.declared.token.Token.{Token}
use Rattle.token_types.specs.declared.token.TokenId.{TokenId}
use Rattle.server_tables.specs.declared.recovering.Answered.{Answered}
use Rattle.server_tables.specs.declared.recovering.GaveUp.{GaveUp}
use Rattle.server_tables.specs.declared.tables.LastGive.{LastGive}
use Rattle.server_tables.specs.Judging.{gave_up, has_taken, is_here}

-- what was answered to a host's claim
abbrev pub answer_to : List Answered → HostId → Option Reclaimed
answer_to answers host = option_map (λ a. a.answer) (find (λ a. a.host.0 == host.0) answers)

-- the answers with this one of a host, in the place of those before
abbrev pub answered_so : List Answered → HostId → Reclaimed → List Answered
answered_so answers host answer =
    filter (λ a. not (a.host.0 == host.0)) answers ++ record { host = host; answer = answer } ∷ []

-- the give-backs that were taken, with this one of a host
unfoldable pub taking_one : List LastGive → HostId → AppliedGive → List LastGive
taking_one takens host give =
    if has_taken takens host give.fileset give.number then takens else takens ++ record {
      host = host;
      give =
          give;
    } ∷ []

-- the tokens that were given up, with this one of a host
unfoldable pub one_up : List GaveUp → HostId → TokenId → List GaveUp
one_up ups host id = if gave_up ups host id then ups else ups ++ record { host = host; id = id } ∷ []

abbrev pub ups_of : List GaveUp → HostId → List TokenId → List GaveUp
ups_of ups host [] = ups
ups_of ups host (id ∷ ids) = ups_of (one_up ups host id) host ids

-- of what is outstanding the give-backs that were taken
abbrev pub applied_of : List LastGive → HostId → List Outstanding → List AppliedGive
applied_of takens host outs =
    map (λ out. record { fileset = out.fileset; number = out.give })
    (filter (λ out. has_taken takens host out.fileset out.give) outs)

-- of tokens the numbers of those that the host gave up
abbrev pub left_out_of : List GaveUp → HostId → List Token → List TokenId
left_out_of ups host tokens = map (λ token. token.id) (filter (λ token. gave_up ups host token.id) tokens)

-- a claim names a fileset that is here
abbrev pub names : Reclaim → ServerId → FilesetId → Bool
names claim server fileset = list_any (λ out. (out.fileset.0 == fileset.0) && is_here server out) claim.numbers
