-- Which tokens conflict.
use Rattle.std.specs.Prelude.{Bool, false, ◌==◌, ◌&&◌, ◌||◌, not, List}
use Rattle.std.specs.List.{list_any}
use Rattle.base_types.specs.Spans.{overlap}
use Rattle.base_types.specs.Opens.{opens_conflict}
use Rattle.base_types.specs.Ids.{same_fid}
use Rattle.base_types.specs.declared.ids.HostId.{HostId}
use Rattle.token_types.specs.declared.token.Kind.{Kind}
use Rattle.token_types.specs.declared.token.Kind.TheVariants.{Bytes, Status, Lock, Opening}
use Rattle.token_types.specs.declared.token.Need.{Need}
use Rattle.token_types.specs.declared.token.Token.{Token}
use Rattle.token_types.specs.declared.token.TokenId.{TokenId}

-- whether two tokens have one number
abbrev pub same_id : TokenId → TokenId → Bool
same_id a b = (a.server.0 == b.server.0) && (a.epoch == b.epoch) && (a.seq == b.seq)

-- whether two hosts cannot both have these of one object
abbrev pub kinds_conflict : Kind → Kind → Bool
kinds_conflict (Bytes update span) (Bytes update' span') = (update || update') && overlap span span'
kinds_conflict (Status update) (Status update') = update || update'
kinds_conflict (Lock writing span) (Lock writing' span') = (writing || writing') && overlap span span'
kinds_conflict (Opening kind) (Opening other) = opens_conflict kind other
kinds_conflict _ _ = false

-- whether two hosts' needs cannot both be met
abbrev pub needs_conflict : Need → Need → Bool
needs_conflict a b = same_fid a.fid b.fid && kinds_conflict a.kind b.kind

-- the need that a token meets
abbrev pub need_of : Token → Need
need_of token = record { fid = token.fid; kind = token.kind }

-- whether two tokens conflict
abbrev pub conflict : Token → Token → Bool
conflict a b = not (a.host.0 == b.host.0) && needs_conflict (need_of a) (need_of b)

-- whether a host's need conflicts with one of those of another host
abbrev pub any_conflict : Need → List Need → Bool
any_conflict need others = list_any (λ other. needs_conflict need other) others

-- whether two wants cannot both be met: they are of two hosts, and a need of one conflicts with a need of the other
abbrev pub wants_conflict : HostId → List Need → HostId → List Need → Bool
wants_conflict host needs other others = not (host.0 == other.0) && list_any (λ need. any_conflict need others) needs

-- whether a token is in the way of a host's needs: it is another host's, and conflicts with one of them
abbrev pub blocks : HostId → List Need → Token → Bool
blocks host needs token = not (token.host.0 == host.0) && any_conflict (need_of token) needs
