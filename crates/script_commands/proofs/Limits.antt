use Rattle.std.proofs.Common.{◌≡◌, ℕ, ◌≤◌, List, Option, Some, None, Ok, slice_get, arith}
use Rattle.std.proofs.lemmas.Grind.{common_steps}
use Rattle.script_words.specs.Outcome.{◌>>=◌, found}
use Rattle.script_words.specs.Fields.{at_least, number_up_to, number_at}
use Rattle.script_words.specs.declared.fault.BadWhy.TheVariants.{Number, Word}

at_least_least : (least n : ℕ) (number : Option ℕ) → found Number (at_least least number) ≡ Ok n → least ≤ n
at_least_least least n None h = cc
at_least_least least n (Some m) h = grind (arith, common_steps)

found_least : (least most n : ℕ) (word : Option (List ℕ)) → (found Word word >>= (λ text. found Number (at_least least (number_up_to most text)))) ≡ Ok n → least ≤ n
found_least least most n None h = cc
found_least least most n (Some text) h = at_least_least least n (number_up_to most text) h

pub number_least : (least most n : ℕ) (words : List (List ℕ)) (i : ℕ) → number_at least most words i ≡ Ok n → least ≤ n
unfolding number_at
number_least least most n words i h = found_least least most n (slice_get words i) h
