-- What calls leave of the tables of a server.
use Rattle.std.specs.Prelude.{ℕ, ◌+◌, ◌==◌, Bool, ◌||◌, not, if◌then◌else◌, List, [], ◌∷◌, ◌++◌, remove}
use Rattle.std.specs.List.{filter}
use Rattle.base_types.specs.declared.ids.HostId.{HostId}
use Rattle.token_manager.specs.Managers.{Manager, after_down, after_enqueue, after_forget, after_given_up}
use Rattle.run_rules.specs.declared.applied.Wanted.{Wanted}
use Rattle.server_tables.specs.declared.pending.Pending.{Pending}
use Rattle.server_tables.specs.declared.tables.Tables.{Tables}
use Rattle.server_tables.specs.Judging.{forgotten, nothing_recovered}
use Rattle.server_tables.specs.Listing.{leaving, next_epoch, no_grace, reclaiming}
use Rattle.server_tables.specs.Standing.{want_for}

-- the token manager once a want was made: out of a grace period it is asked
unfoldable pub tokens_enqueued : Tables → Pending → Manager
tokens_enqueued x p = if no_grace x.hosts then after_enqueue x.tokens (want_for p) else x.tokens

-- a want waits behind all others
abbrev pub enqueued : Tables → Wanted → Tables
enqueued x wanted = record x {
  tokens = tokens_enqueued x (record { number = x.next; wanted = wanted });
  pending = x.pending ++ record { number = x.next; wanted = wanted } ∷ [];
  next = x.next + 1;
}

-- the want at a place, which has this number, doesn't wait any more
abbrev pub unqueued : Tables → ℕ → ℕ → Tables
unqueued x at number = record x { tokens = after_given_up x.tokens number; pending = remove x.pending at }

-- the token manager once it was asked these wants
abbrev pub all_enqueued : Manager → List Pending → Manager
all_enqueued manager [] = manager
all_enqueued manager (p ∷ ps) = all_enqueued (after_enqueue manager (want_for p)) ps

-- Once a grace period has ended the token manager is asked all wants that wait. `over`: none lasted before.
unfoldable pub tokens_opened : Bool → Tables → Manager
tokens_opened over x = if over || not (no_grace x.hosts) then x.tokens else all_enqueued x.tokens x.pending

abbrev pub opened : Bool → Tables → Tables
opened over x = record x { tokens = tokens_opened over x }

-- the token manager without a want, where that is of a host
unfoldable pub without_one : Manager → HostId → Pending → Manager
without_one manager host p = if p.wanted.host.0 == host.0 then after_given_up manager p.number else manager

-- the token manager without those of some wants that are of a host
abbrev pub without_its : Manager → HostId → List Pending → Manager
without_its manager host [] = manager
without_its manager host (p ∷ ps) = without_its (without_one manager host p) host ps

-- the wants that wait of other hosts
abbrev pub wants_left : List Pending → HostId → List Pending
wants_left pendings host = filter (λ p. not (p.wanted.host.0 == host.0)) pendings

-- the token manager without the tokens and the wants of a host
abbrev pub tokens_left : Tables → HostId → Manager
tokens_left x host = without_its (after_down x.tokens host) host x.pending

-- a host is down, or has ended
abbrev pub left_by : Tables → HostId → Tables
left_by x host = record x {
  hosts = leaving x.hosts host;
  tokens = tokens_left x host;
  pending = wants_left x.pending host;
  recovering = forgotten x.recovering host;
}

abbrev pub gone_away : Tables → HostId → Tables
gone_away x host = opened (no_grace x.hosts) (left_by x host)

-- a host has reclaimed
abbrev pub reclaimed_by : Tables → HostId → Tables
reclaimed_by x host = opened (no_grace x.hosts) (record x {
  hosts = reclaiming x.hosts host;
  recovering = forgotten x.recovering host;
})

-- the next epoch begins
abbrev pub begun : Tables → Tables
begun x = record x {
  hosts = next_epoch x.hosts;
  tokens = after_forget x.tokens (x.hosts.epoch + 1);
  pending = [];
  stamp = 0;
  recovering = nothing_recovered;
}

-- the next stamp is given
abbrev pub stamped : Tables → Tables
stamped x = record x { stamp = x.stamp + 1 }
