-- Stores that were asked, one answer behind the other.
use Rattle.std.proofs.Common.{◌∙◌, Ok}
use Rattle.store_memory.specs.Views.{View, IsAsked}
use Rattle.store_test_rows.specs.Standing.{Stays}

pub asked_stays : {T : Type 0} (tells : Type 0) (value : T) (old new : View) → IsAsked tells (Ok value) old new → Stays old new
asked_stays tells value old new asked = record {
  same = asked.same;
  wear = asked.wear;
  usable = record { ready = asked.ready (λ e. absurd cc); mendable = asked.mendable };
}

pub stays_on : (first next last : View) → Stays first next → Stays next last → Stays first last
stays_on first next last a b = record {
  same = record { server = b.same.server ∙ a.same.server; roster = b.same.roster ∙ a.same.roster };
  wear = b.wear ∙ a.wear;
  usable = b.usable;
}
