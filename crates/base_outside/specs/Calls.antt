-- The calls of a thing in memory.
use Rattle.std.specs.Prelude.{
  ◌≡◌,
  ◌⊎◌,
  ◌+◌,
  ℕ,
  List,
  [],
  Bool,
  true,
  false,
  ◌||◌,
  nat_lt,
  nat_eq,
  min,
  max,
  if◌then◌else◌,
  Option,
  Some,
  None,
  Result,
  IsErr,
  OnErr,
  OnOk,
}
use Rattle.std.specs.List.{list_any}
use Rattle.base_types.specs.Faults.{RoseBy}
use Rattle.base_outside.specs.declared.calls.Calls.{Calls}

-- no call so far
abbrev pub new_calls : List ℕ → Option ℕ → Calls
new_calls failing passes = record { failing = failing; passes = passes; made = 0; faults = 0; refused = 0 }

-- no call is listed, and there is no limit
abbrev pub NoneFails : Calls → Type 0
NoneFails calls = (calls.failing ≡ []) × (calls.passes ≡ None)

-- one more, up to the last value of 64 bits
abbrev pub risen : ℕ → ℕ
risen count = max count (min (count + 1) 18446744073709551615)

-- one call more
abbrev pub counted : Calls → Calls
counted calls = record calls { made = risen calls.made }

-- one fault more
abbrev pub faulted : Calls → Calls
faulted calls = record calls { faults = risen calls.faults }

-- one growth more for which there was no memory, which is a fault too
abbrev pub growth_refused : Calls → Calls
growth_refused calls = record calls { faults = risen calls.faults; refused = risen calls.refused }

-- whether a call stands behind the limit
abbrev pub is_behind : Option ℕ → ℕ → Bool
is_behind None number = false
is_behind (Some passes) number = nat_lt passes number

-- whether the last call is to fail: it is listed, or stands behind the limit
abbrev pub is_to_fail : Calls → Bool
is_to_fail calls = list_any (λ number. nat_eq number calls.made) calls.failing || is_behind calls.passes calls.made

-- one call more, and a fault where it is to fail
abbrev pub after_call : Calls → Calls
after_call calls = if is_to_fail (counted calls) then faulted (counted calls) else counted calls

-- A call was counted. It fails where it is to, and else only where a growth was refused in it.
pub record IsCall {T E : Type 0} (result : Result T E) (old new : Calls) : Type 0 where
  pub made : new.made ≡ risen old.made
  pub failing : new.failing ≡ old.failing
  pub passes : new.passes ≡ old.passes
  pub listed : is_to_fail (counted old) ≡ true → IsErr result
  pub only : OnErr result ((is_to_fail (counted old) ≡ true) ⊎ RoseBy 1 old.refused new.refused)
  pub ok : OnOk result (new ≡ counted old)
