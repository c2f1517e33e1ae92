-- The words of PCG32 by a seed, in stream 54, as the crate rand_pcg has them.
use Rattle.std.specs.Prelude.{ℕ, zero, suc}
use Rattle.rand_pcg.specs.Lcg.{Lcg, started, increment_of}
use Rattle.rand_pcg.specs.Pcg.{pcg32, multiplier_64}

-- the generator of a seed
unfoldable pub generator_of : ℕ → Lcg
generator_of seed = started 64 multiplier_64 seed (increment_of 64 54)

-- the word that a generator gives, and the generator that is left
unfoldable pub word_of : Lcg → ℕ
word_of generator = (pcg32 generator).0

unfoldable pub next_generator : Lcg → Lcg
next_generator generator = (pcg32 generator).1

-- the generator after so many words
abbrev pub generator_after : ℕ → Lcg → Lcg
generator_after zero generator = generator
generator_after (suc n) generator = next_generator (generator_after n generator)

-- the word number n of a seed, from 0
abbrev pub word_of_seed : ℕ → ℕ → ℕ
word_of_seed seed n = word_of (generator_after n (generator_of seed))
