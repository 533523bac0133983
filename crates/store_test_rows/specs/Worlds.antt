-- Two stores that are tried.
use Rattle.store_memory.specs.Views.{View}
use Rattle.store_test_rows.specs.Standing.{Stands}
use Rattle.store_test_rows.specs.declared.world.World.{World}

abbrev pub BothStand : {S : Type 0} → (S → View) → World S → Type 0
BothStand view world = Stands view world.roster world.one × Stands view world.roster world.two
