-- What was answered to Changes, and what is answered to one that comes again.
use Rattle.std.specs.Prelude.{ℕ, ◌==◌, Bool, false, ◌&&◌, ◌||◌, not, nat_lt, nat_le, if◌then◌else◌, List, [], ◌∷◌, ◌++◌}
use Rattle.std.specs.Prelude.{Option, Some, None, ◌≡◌}
use Rattle.std.specs.List.{filter, find, list_any}
use Rattle.std.specs.Option.{option_and_then, option_map_or, option_or}
use Rattle.base_types.specs.declared.ids.FilesetId.{FilesetId}
use Rattle.base_types.specs.declared.ids.HostId.{HostId}
use Rattle.message_types.specs.Soundness.{no_fid}
use Rattle.message_types.specs.declared.asking.Change.{Change as ChangeOf}
use Rattle.message_types.specs.declared.telling.Bring.{Bring}
use Rattle.message_types.specs.declared.telling.Done.{Done as DoneOf}
use Rattle.message_types.specs.declared.telling.DoneIs.{DoneIs}
use Rattle.message_types.specs.declared.telling.DoneIs.TheVariants.{Again}
use Rattle.token_manager.specs.declared.grants.Grants.{Grants}
use Rattle.token_manager.specs.Grants.{holds}
use Rattle.token_types.specs.declared.token.Token.{Token}
use Rattle.run_rules.specs.Past.{In}
use Rattle.run_rules.specs.declared.applied.Written.{Written}
use Rattle.server_tables.specs.declared.tables.LastChange.{LastChange}
use Rattle.server_tables.specs.declared.tables.Tables.{Tables}

-- it is what was answered last to Changes of a host on a fileset
abbrev pub is_for_change : HostId → FilesetId → LastChange → Bool
is_for_change host fileset last = (last.host.0 == host.0) && (last.fileset.0 == fileset.0)

abbrev pub not_for_change : HostId → FilesetId → LastChange → Bool
not_for_change host fileset last = not (is_for_change host fileset last)

abbrev pub last_change : List LastChange → HostId → FilesetId → Option LastChange
last_change changes host fileset = find (is_for_change host fileset) changes

-- which of the Changes of a host on a fileset was written down last
abbrev pub last_written : List LastChange → HostId → FilesetId → Option Written
last_written changes host fileset = option_and_then (λ last. last.written) (last_change changes host fileset)

-- a Change was written down, and has no higher number than the one that was written down last
abbrev pub is_durable : Option Written → ℕ → Bool
is_durable None number = false
is_durable (Some written) number = nat_le number written.number

-- A Change of a number is old: it was written down, or answered in this epoch, or a later one was answered.
abbrev pub is_before : LastChange → ℕ → ℕ → Bool
is_before last epoch number =
    is_durable last.written number
    || (nat_lt number last.done.bring.number || ((last.epoch == epoch) && (number == last.done.bring.number)))

abbrev pub is_old : Tables → HostId → ChangeOf → Bool
is_old x host change =
    option_map_or (λ last. is_before last x.hosts.epoch change.number) (last_change x.changes host change.fileset) false

-- an answer that brings no token
abbrev pub done_without : FilesetId → DoneIs → ℕ → DoneOf
done_without fileset outcome number = record {
  fileset = fileset;
  outcome = outcome;
  bring = record { number = number; fid = no_fid; stamp = 0; tokens = [] };
}

-- a host has a token still that was granted to it in the present epoch
abbrev pub has_still : Grants → Token → Bool
has_still grants token = (token.id.epoch == grants.table.epoch) && holds grants token.host token.id

-- a host hasn't one of the tokens any more that an answer brought, or claims it anew since a restart
abbrev pub is_lost : Grants → Bring → Bool
is_lost grants bring = list_any (λ token. not (has_still grants token)) bring.tokens

-- the same answer, or that the call is to be started anew
abbrev pub once_more : Grants → DoneOf → DoneOf
once_more grants done =
    if is_lost grants done.bring then done_without done.fileset Again done.bring.number else done

abbrev pub again_of : Grants → ℕ → Option LastChange → Option DoneOf
again_of grants number None = None
again_of grants number (Some last) =
    if last.done.bring.number == number then Some (once_more grants last.done) else None

-- a Change that comes again is answered once more where it was the last that was answered
abbrev pub answer_again : Tables → HostId → ChangeOf → Option DoneOf
answer_again x host change = again_of x.tokens.grants change.number (last_change x.changes host change.fileset)

-- what was answered last, with this answer to a host
abbrev pub renewed : Tables → HostId → DoneOf → Option Written → List LastChange
renewed x host done written = filter (not_for_change host done.fileset) x.changes ++ record {
  host = host;
  fileset = done.fileset;
  epoch = x.hosts.epoch;
  done = done;
  written = option_or written (last_written x.changes host done.fileset);
} ∷ []

-- of a host and a fileset one is what was answered last
abbrev pub AreLastChanges : List LastChange → Type 0
AreLastChanges changes =
    (l m : LastChange) → In l changes → In m changes → l.host ≡ m.host → l.fileset ≡ m.fileset → l ≡ m
