-- Queued wants.
use Rattle.std.specs.Prelude.{ℕ, Bool, ◌==◌, ◌&&◌, not, nat_lt, List, Option}
use Rattle.std.specs.List.{find, filter, list_any}
use Rattle.base_types.specs.declared.ids.FilesetId.{FilesetId}
use Rattle.base_types.specs.declared.ids.HostId.{HostId}
use Rattle.token_types.specs.Conflicts.{wants_conflict}
use Rattle.token_manager.specs.declared.want.Want.{Want}

-- whether a want has to wait for another: that one was asked earlier and conflicts
abbrev pub is_ahead : Want → Want → Bool
is_ahead want other = nat_lt other.number want.number && wants_conflict want.host want.needs other.host other.needs

-- the first queued want that a want has to wait for
abbrev pub first_ahead : List Want → Want → Option Want
first_ahead queue want = find (is_ahead want) queue

-- the queue but for the want of this number
abbrev pub without_want : List Want → ℕ → List Want
without_want queue number = filter (λ want. not (want.number == number)) queue

-- the queue but for the wants of this host
abbrev pub not_wants_of : List Want → HostId → List Want
not_wants_of queue host = filter (λ want. not (want.host.0 == host.0)) queue

-- whether a want is of a fileset: one of its needs is
abbrev pub is_want_in : FilesetId → Want → Bool
is_want_in fileset want = list_any (λ need. need.fid.fileset.0 == fileset.0) want.needs

-- the queued wants of a fileset, and all others
abbrev pub wants_in : List Want → FilesetId → List Want
wants_in queue fileset = filter (is_want_in fileset) queue

abbrev pub not_wants_in : List Want → FilesetId → List Want
not_wants_in queue fileset = filter (λ want. not (is_want_in fileset want)) queue
