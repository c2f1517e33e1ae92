-- Looking names up by their places.
use Rattle.std.proofs.Common.{◌≡◌, ℕ, List, [], Option, Some, None, refl, ◌∙◌, ap}
use Rattle.std.specs.Prelude.{position, bytes_eq, slice_index_or, is_some, if◌then◌else◌}
use Rattle.rv32_asm.specs.declared.registers.TheConstants.{NUMBERS}
use Rattle.rv32_asm.specs.Names.{register_of, numbered_names, calling_names}

abbrev pub place_among : List (List ℕ) → List ℕ → Option ℕ
place_among names word = position (λ number. bytes_eq (slice_index_or names number []) word) NUMBERS

numbered : (word : List ℕ) → place_among numbered_names word ≡ position (λ name. bytes_eq name word) numbered_names
numbered word = refl

calling : (word : List ℕ) → place_among calling_names word ≡ position (λ name. bytes_eq name word) calling_names
calling word = refl

pub numbered_register : (word : List ℕ) (n : ℕ) → Some n ≡ place_among numbered_names word → Some n ≡ register_of word
unfolding register_of
numbered_register word n e = ap (λ (o : Option ℕ). if is_some o then o else position (λ name. bytes_eq name word) calling_names) (e ∙ numbered word)

pub other_register : (word : List ℕ) (r : Option ℕ) → None ≡ place_among numbered_names word → r ≡ place_among calling_names word → r ≡ register_of word
unfolding register_of
other_register word r none e = e ∙ calling word ∙ ap (λ (o : Option ℕ). if is_some o then o else position (λ name. bytes_eq name word) calling_names) (none ∙ numbered word)
