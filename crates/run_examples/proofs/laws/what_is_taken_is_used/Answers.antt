use Rattle.std.proofs.Common.{inl, refl}
use Rattle.run_examples.proofs.laws.what_is_taken_is_used.Goals as goal

pub returns : goal.returns
returns c = λ roster host past s t m. inl (inl m, refl)
