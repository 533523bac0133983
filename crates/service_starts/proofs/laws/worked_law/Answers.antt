use Rattle.std.specs.Prelude.{refl}
use Rattle.service_starts.proofs.laws.worked_law.Goals as goal

pub returns : goal.returns
returns c = record {
  stayed = (refl, refl);
  beside = (refl, refl);
  moved = (refl, refl);
  alone = refl;
  diskless = refl;
  lost = refl;
  older = refl;
  again = refl;
  unsent = (refl, refl);
  unsent_alone = refl;
  begun = (refl, refl);
  halfway = (refl, refl);
  come = (refl, refl);
  unknown = refl;
  another = refl;
  later = refl;
  twice = refl;
  twice_later = refl;
  renamed = refl;
  grown = refl;
  cloned = refl;
}
