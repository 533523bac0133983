-- What the rows know of classes that they act on.
use Rattle.base_types.specs.View.{View}
use Rattle.disk_classes.specs.Classes.{IsSoundClasses}
use Rattle.disk_classes.specs.declared.classes.Classes.{Classes}

-- classes that have not failed, over a disk that tells nothing
pub record IsReady {D : Type 0} (tells : Type 0) (view : D → View) (classes : Classes D) : Type 0 where
  pub untold : tells → ⊥
  pub sound : IsSoundClasses tells view classes
