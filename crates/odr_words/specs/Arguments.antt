-- What follows the command: positional words, and options with their values in any place.
use Rattle.std.specs.Prelude.{ℕ, ◌==◌, ◌&&◌, Bool, true, false, not, List, [], ◌∷◌, drop, codes, bytes_eq, nat_eq, Option, Some, None, option_map, if◌then◌else◌}
use Rattle.std.specs.List.{before_first, after_first, list_any, list_all, starts_with}
use Rattle.std.specs.Map.{lookup}

abbrev pub Text : Type 0
Text = List ℕ

-- the names of options with their values, in the order of the words
abbrev pub Options : Type 0
Options = List (Text × Text)

pub record Arguments : Type 0 where
  pub positionals : List Text
  pub options : Options

-- ---- one word

-- what a word can be: neither empty nor beginning with a hyphen, `--name`, `--name=value`, or no
-- word of a job
pub data Word : Type 0 where
  Plain : Text → Word
  Name : Text → Word
  NameValue : Text → Text → Word
  Neither : Word

-- a positional word and a value are plain
abbrev pub is_plain : Text → Bool
is_plain [] = false
is_plain (first ∷ rest) = not (first == 45)

abbrev pub is_equals_sign : ℕ → Bool
is_equals_sign byte = byte == 61

abbrev pub with_value : Text → Text → Word
with_value name value = if is_plain value then NameValue name value else Neither

-- what follows the hyphens of an option
abbrev pub option_of : Text → Word
option_of text =
    if list_any is_equals_sign text
    then with_value (before_first is_equals_sign text) (after_first is_equals_sign text)
    else Name text

abbrev pub word_of : Text → Word
word_of word =
    if is_plain word then Plain word
    else (if starts_with nat_eq word (codes "--") then option_of (drop 2 word) else Neither)

-- ---- all words

abbrev pub with_positional : Text → Arguments → Arguments
with_positional word rest = record rest { positionals = word ∷ rest.positionals }

abbrev pub with_option : Text → Text → Arguments → Arguments
with_option name value rest = record rest { options = (name, value) ∷ rest.options }

abbrev pub arguments_of : List Word → Option Arguments
arguments_of [] = Some (record { positionals = []; options = [] })
arguments_of (Plain word ∷ rest) = option_map (with_positional word) (arguments_of rest)
arguments_of (NameValue name value ∷ rest) = option_map (with_option name value) (arguments_of rest)
arguments_of (Name name ∷ Plain value ∷ rest) =
    option_map (with_option name value) (arguments_of rest)
arguments_of other = None

-- ---- options by name

abbrev pub value_of : Text → Options → Option Text
value_of name = lookup (bytes_eq name)

abbrev pub has_name : Text → Options → Bool
has_name name = list_any (λ option. bytes_eq name option.0)

-- each option is among the names, and is there once
abbrev pub are_known : List Text → Options → Bool
are_known names = list_all (λ option. list_any (bytes_eq option.0) names)

abbrev pub are_distinct : Options → Bool
are_distinct [] = true
are_distinct (option ∷ rest) = not (has_name option.0 rest) && are_distinct rest
