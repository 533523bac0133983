use Rattle.std.proofs.Common.{◌≡◌, ℕ, List, [], Option, Some, None, IsSomeAnd, ap, ◌∙◌, unwrap_or, option_map}
use Rattle.clap.specs.Matches.{matched_of, raw_values}
use Rattle.clap.specs.Walk.{Text, rows_of}
use Rattle.clap.specs.declared.parser.matches.Found.{Found}
use Rattle.clap.proofs.WalkLemmas.{raw_values-rows}
use Rattle.clap.specs.declared.builder.range.ValueRange.{ValueRange}
use Rattle.script_commands.specs.Told.{values_at}

pub raw_values_at : (f : Found) (id : Text) (raw : Option (List Text)) → raw ≡ option_map raw_values (matched_of f id) → unwrap_or raw [] ≡ values_at id (rows_of f)
raw_values_at f id raw e = ap (λ (o : Option (List Text)). unwrap_or o []) (e ∙ raw_values-rows f id)

pub range_is : (range : Option ValueRange) (least most : ℕ) → IsSomeAnd range (λ r. r ≡ record { start_inclusive = least; end_inclusive = most }) → range ≡ Some (record { start_inclusive = least; end_inclusive = most })
range_is None least most h = absurd h
range_is (Some r) least most h = ap (λ x. Some x) h
