-- The words that a seed gives (O'Neill, "PCG: a family of simple fast space-efficient statistically good algorithms for
-- random number generation").
use Rattle.std.specs.Prelude.{ℕ, zero, suc}
use Rattle.rand_pcg.specs.Lcg.{Lcg, started, increment_of}
use Rattle.rand_pcg.specs.Pcg.{multiplier_64, pcg32}

-- the generator of a seed, on stream 1
unfoldable pub generator : ℕ → Lcg
generator seed = started 64 multiplier_64 seed (increment_of 64 1)

-- the word that a generator gives, and the generator after it
unfoldable pub word_of : Lcg → ℕ
word_of rng = (pcg32 rng).0

unfoldable pub after_word : Lcg → Lcg
after_word rng = (pcg32 rng).1

-- the generator after so many words
abbrev pub after_words : ℕ → Lcg → Lcg
after_words zero rng = rng
after_words (suc n) rng = after_word (after_words n rng)

-- the word that comes after so many others
abbrev pub nth_word : ℕ → Lcg → ℕ
nth_word n rng = word_of (after_words n rng)
