-- What is sought among the filesets of a table.
use Rattle.std.specs.Prelude.{ℕ, ◌==◌, nat_le, Bool, false, ◌&&◌, ◌||◌, not, List}
use Rattle.base_types.specs.Name.{same_name}
use Rattle.base_types.specs.declared.ids.FilesetId.{FilesetId}
use Rattle.base_types.specs.declared.ids.ServerId.{ServerId}
use Rattle.store_state.specs.declared.finding.Sought.{Sought}
use Rattle.store_state.specs.declared.finding.Sought.TheVariants.{
  Of,
  HereOf,
  HereAs,
  GoneAs,
  Named,
  Other,
  Past,
  Leaving as SomeLeaving,
  Awaiting,
}
use Rattle.store_state.specs.declared.state.Holding.{Holding}
use Rattle.store_state.specs.declared.state.Stay.{Stay}
use Rattle.store_state.specs.declared.state.Stay.TheVariants.{Writable, Clone, Leaving, Arriving, Gone}
use Rattle.store_state.specs.State.{is_here, is_gone, is_leaving, is_of, is_here_as, is_gone_as}

-- whether a holding is a fileset that is here
abbrev pub is_here_of : FilesetId → Holding → Bool
is_here_of id holding = is_of id holding && is_here holding.stay

-- whether a slot has a name, of a fileset that has left too
abbrev pub is_named : List ℕ → Holding → Bool
is_named name holding = same_name holding.fileset.name name

-- whether a slot has the name of another fileset
abbrev pub is_other : FilesetId → List ℕ → Holding → Bool
is_other id name holding = is_named name holding && not (is_of id holding)

-- whether a head comes too late: the fileset is here, or has left with as many moves or more
abbrev pub is_past : FilesetId → ℕ → Holding → Bool
is_past id moves holding = is_of id holding && (not (is_gone holding.stay) || nat_le moves holding.fileset.moves)

-- whether a fileset waits for a part of a ship
abbrev pub is_due : ServerId → ℕ → ℕ → Stay → Bool
is_due from ship at Writable = false
is_due from ship at Clone = false
is_due from ship at (Leaving to sent) = false
is_due from ship at (Arriving sender taken parts) = (sender.0 == from.0) && (taken == ship) && (parts == at)
is_due from ship at (Gone to) = false

-- whether a holding waits for a part of a ship with so many moves
abbrev pub awaits : FilesetId → ServerId → ℕ → ℕ → ℕ → Holding → Bool
awaits id from ship moves at holding =
    is_of id holding && is_due from ship at holding.stay && (holding.fileset.moves == moves)

-- whether a holding is one that is sought
abbrev pub is_sought : Sought → Holding → Bool
is_sought (Of id) = is_of id
is_sought (HereOf id) = is_here_of id
is_sought (HereAs name) = is_here_as name.now
is_sought (GoneAs name) = is_gone_as name.now
is_sought (Named name) = is_named name.now
is_sought (Other id name) = is_other id name.now
is_sought (Past id moves) = is_past id moves
is_sought SomeLeaving = λ holding. is_leaving holding.stay
is_sought (Awaiting coming) = awaits coming.id coming.from coming.ship coming.moves coming.at
