-- A fileset that arrives in a store, and one that moves in a tree.
use Rattle.std.specs.Prelude.{
  ◌≡◌,
  ◌≤◌,
  ℕ,
  ◌+◌,
  nat_lt,
  Bool,
  true,
  false,
  List,
  [],
  ◌∷◌,
  length,
  map,
  Some,
  Ok,
}
use Rattle.std.specs.List.{list_any, list_all}
use Rattle.std.specs.Option.{option_map_or}
use Rattle.base_types.specs.Lists.{changed_at}
use Rattle.base_types.specs.declared.ids.ServerId.{ServerId}
use Rattle.tree_calls.specs.declared.reply.Reply.TheVariants.{Ok as Accepted}
use Rattle.tree_calls.specs.declared.ship.Mover.{Mover}
use Rattle.tree_objects.specs.declared.content.Anode.{Anode}
use Rattle.tree_filesets.specs.declared.fileset.Fileset.{Fileset}
use Rattle.tree_filesets.specs.Founding.{moved}
use Rattle.tree_filesets.specs.WellFormed.{is_at_rest}
use Rattle.store_state.specs.declared.state.Holding.{Holding}
use Rattle.store_state.specs.declared.state.Stay.TheVariants.{Writable}
use Rattle.store_state.specs.declared.state.StoreState.{StoreState}
use Rattle.store_state.specs.Outcomes.{change_decided}
use Rattle.store_state.specs.Sought.{is_past}
use Rattle.store_state.specs.State.{is_of, is_used_so, held_so}
use Rattle.store_acts.specs.declared.act.Act.{Act}
use Rattle.store_acts.specs.declared.act.Act.TheVariants.{Part}
use Rattle.store_acts.specs.Acts.{state_after}
use Rattle.store_acts.specs.Moving.{taken_from, arrival, received}
use Rattle.store_acts.specs.Parts.{is_tellable, part_of}

-- a fileset that may leave: writable, with all its anodes and nothing unsaved
pub record MayLeave (fileset : Fileset) : Type 0 where
  pub least : 1 ≤ fileset.objects
  pub count : length fileset.anodes ≡ fileset.objects
  pub writable : fileset.read_only ≡ false
  pub settled : is_at_rest fileset ≡ true

-- whether each object is within the limits of what is told; each of a well formed fileset is
abbrev pub are_tellable : List Anode → Bool
are_tellable anodes = list_all (λ anode. option_map_or (λ object. is_tellable object.content) anode.object true) anodes

-- the parts of a fileset that is leaving a server under a ship number, from that of an anode on
abbrev pub parts_from : Holding → ServerId → ℕ → Mover → ℕ → List Anode → List Act
parts_from holding from ship mover at [] = []
parts_from holding from ship mover at (anode ∷ anodes) =
    Part from ship holding.fileset.id (holding.fileset.moves + 1) at (part_of holding at mover)
    ∷ parts_from holding from ship mover (at + 1) anodes

-- all of them, in their order
abbrev pub all_parts : Holding → ServerId → ℕ → Mover → List Act
all_parts holding from ship mover =
    Part from ship holding.fileset.id (holding.fileset.moves + 1) 0 (part_of holding 0 mover)
    ∷ parts_from holding from ship mover 1 holding.fileset.anodes

-- another server's store takes the head of a fileset: it isn't late, its ship is new, and there is a slot for it
pub record MayArrive (state : StoreState) (fileset : Fileset) (from : ServerId) (ship slot : ℕ) : Type 0 where
  pub late : list_any (is_used_so (is_past fileset.id (fileset.moves + 1))) state.slots ≡ false
  pub taken : nat_lt (taken_from state from).ship ship ≡ true
  pub room : arrival state fileset.id fileset.name fileset.objects ≡ Ok slot

-- Once its head and all its anodes came, it is writable at the other server, and just what the tree's move makes of it;
-- what is kept of hosts' requests came with it, and its mover's call is done.
pub record ArrivesAsMoved : Type 0 where
  pub arrives : (holding : Holding) (state : StoreState) (from : ServerId) (ship slot : ℕ) (mover : Mover)
      → MayLeave holding.fileset → are_tellable holding.fileset.anodes ≡ true
      → MayArrive state holding.fileset from ship slot
      → held_so (is_of holding.fileset.id) (state_after state (all_parts holding from ship mover)).slots
      ≡ Some (record {
        stay = Writable;
        fileset = moved holding.fileset state.server;
        records = changed_at (map received holding.records) mover.host.0 (change_decided mover.number Accepted);
      })
