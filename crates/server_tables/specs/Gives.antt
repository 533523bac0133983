-- The give-backs that were taken.
use Rattle.std.specs.Prelude.{◌≡◌, ℕ, ◌==◌, Bool, ◌&&◌, not, List, [], ◌∷◌, ◌++◌}
use Rattle.std.specs.List.{filter, find}
use Rattle.std.specs.Option.{option_map_or}
use Rattle.base_types.specs.declared.ids.FilesetId.{FilesetId}
use Rattle.base_types.specs.declared.ids.HostId.{HostId}
use Rattle.message_types.specs.declared.giving.AppliedGive.{AppliedGive}
use Rattle.run_rules.specs.Past.{In}
use Rattle.server_tables.specs.declared.tables.LastGive.{LastGive}

-- it is the last that was taken of a host on a fileset
abbrev pub is_for_give : HostId → FilesetId → LastGive → Bool
is_for_give host fileset last = (last.host.0 == host.0) && (last.give.fileset.0 == fileset.0)

-- the number of that one; 0 for none
abbrev pub last_give : List LastGive → HostId → FilesetId → ℕ
last_give gives host fileset = option_map_or (λ last. last.give.number) (find (is_for_give host fileset) gives) 0

-- the last ones, with this one of a host
abbrev pub given : List LastGive → HostId → AppliedGive → List LastGive
given gives host give =
    filter (λ last. not (is_for_give host give.fileset last)) gives ++ record { host = host; give = give } ∷ []

-- of a host and a fileset one is the last that was taken
abbrev pub AreLast : List LastGive → Type 0
AreLast gives = (l m : LastGive) → In l gives → In m gives → l.host ≡ m.host → l.give.fileset ≡ m.give.fileset → l ≡ m
