-- What the reader's own values stand for.
use Rattle.std.specs.Prelude.{◌≡◌, ◌≢◌, ◌==◌, ◌++◌, true, List, [], ◌∷◌, length, map, codes, bytes_eq, Option, Some, None, option_map, option_and_then, Result, Ok, Err, if◌then◌else◌}
use Rattle.std.specs.List.{list_any}
use Rattle.odr_words.specs.Arguments.{Text, Options, Arguments, Plain, Name, NameValue, Neither, word_of, arguments_of, value_of}
use Rattle.odr_words.specs.Arguments.{Word as SeenWord}
use Rattle.odr_words.specs.Jobs.{options_of, takes, job_given}
use Rattle.odr_words.specs.declared.command.Command.{Command}
use Rattle.odr_words.specs.declared.fault.WordsFault.{WordsFault}
use Rattle.odr_words.specs.declared.fault.WordsFault.TheVariants as fault
use Rattle.odr_words.specs.declared.job.Job.{Job}
use Rattle.odr_words.specs.declared.word.Word.{Word}
use Rattle.odr_words.specs.declared.word.Word.TheVariants as word
use Rattle.odr_words.specs.declared.positionals.Positionals.{Positionals}
use Rattle.odr_words.specs.declared.positionals.Positionals.TheVariants as positionals
use Rattle.odr_words.specs.declared.options.OptionValues.{OptionValues}
use Rattle.odr_words.specs.declared.reading.Reading.{Reading}

-- ---- values as texts

abbrev pub seen_word : Word → SeenWord
seen_word (word.Plain text) = Plain text.now
seen_word (word.Name name) = Name name.now
seen_word (word.NameValue name value) = NameValue name.now value.now
seen_word word.Neither = Neither

abbrev pub seen_positionals : Positionals → List Text
seen_positionals positionals.Zero = []
seen_positionals (positionals.One first) = first.now ∷ []
seen_positionals (positionals.Two first second) = first.now ∷ second.now ∷ []
seen_positionals (positionals.Three first second third) = first.now ∷ second.now ∷ third.now ∷ []

pub record Values : Type 0 where
  pub seed : Option Text
  pub limit : Option Text
  pub steps : Option Text
  pub input : Option Text

abbrev pub seen_values : OptionValues → Values
seen_values options = record {
  seed = option_map (λ text. text.now) options.seed;
  limit = option_map (λ text. text.now) options.limit;
  steps = option_map (λ text. text.now) options.steps;
  input = option_map (λ text. text.now) options.input;
}

abbrev pub value_in : Values → Text → Option Text
value_in values name =
    if bytes_eq name (codes "seed") then values.seed
    else (if bytes_eq name (codes "limit") then values.limit
    else (if bytes_eq name (codes "steps") then values.steps
    else (if bytes_eq name (codes "input") then values.input else None)))

-- what the words so far gave, and an option among them that still wants its value
pub record Progress : Type 0 where
  pub positionals : List Text
  pub values : Values
  pub awaiting : Option Text

abbrev pub seen_reading : Reading → Progress
seen_reading reading = record {
  positionals = seen_positionals reading.given.positionals;
  values = seen_values reading.given.options;
  awaiting = option_map (λ name. name.now) reading.awaiting;
}

-- ---- one more word

-- no command takes more than three positional words
abbrev pub positionals_with : Text → List Text → Option (List Text)
positionals_with word words = if length words == 3 then None else Some (words ++ word ∷ [])

abbrev pub once : Option Text → Text → Option (Option Text)
once None value = Some (Some value)
once (Some before) value = None

abbrev pub values_added : Text → Text → Values → Option Values
values_added name value values =
    if bytes_eq name (codes "seed")
    then option_map (λ text. record values { seed = text }) (once values.seed value)
    else (if bytes_eq name (codes "limit")
    then option_map (λ text. record values { limit = text }) (once values.limit value)
    else (if bytes_eq name (codes "steps")
    then option_map (λ text. record values { steps = text }) (once values.steps value)
    else (if bytes_eq name (codes "input")
    then option_map (λ text. record values { input = text }) (once values.input value)
    else None)))

abbrev pub values_with : Command → Text → Text → Values → Option Values
values_with command name value values =
    if list_any (bytes_eq name) (options_of command) then values_added name value values else None

abbrev pub after_by : Command → Option Text → Progress → SeenWord → Option Progress
after_by command None so_far (Plain word) =
    option_map (λ words. record so_far { positionals = words })
    (positionals_with word so_far.positionals)
after_by command None so_far (Name name) = Some (record so_far { awaiting = Some name })
after_by command None so_far (NameValue name value) =
    option_map (λ values. record so_far { values = values })
    (values_with command name value so_far.values)
after_by command (Some name) so_far (Plain value) =
    option_map (λ values. record so_far { values = values; awaiting = None })
    (values_with command name value so_far.values)
after_by command awaiting so_far word = None

abbrev pub after_word : Command → Progress → SeenWord → Option Progress
after_word command so_far word = after_by command so_far.awaiting so_far word

-- ---- what was read, against the arguments of the words

pub record HasValues (values : Values) (options : Options) : Type 0 where
  pub seed : value_of (codes "seed") options ≡ values.seed
  pub limit : value_of (codes "limit") options ≡ values.limit
  pub steps : value_of (codes "steps") options ≡ values.steps
  pub input : value_of (codes "input") options ≡ values.input

abbrev pub pending : Option Text → List SeenWord → List SeenWord
pending None rest = rest
pending (Some name) rest = Name name ∷ rest

abbrev pub joined : List Text → Options → Arguments → Arguments
joined positionals options rest = record {
  positionals = positionals ++ rest.positionals;
  options = options ++ rest.options;
}

-- all but the rest of the words were read
pub record IsRead (command : Command) (so_far : Progress) (rest all : List SeenWord) : Type 0 where
  pub options : Options
  pub whole : arguments_of all
      ≡ option_map (joined so_far.positionals options)
      (arguments_of (pending so_far.awaiting rest))
  pub values : HasValues so_far.values options
  pub taken : takes command options ≡ true

-- all words were read, and the options are the command's
pub record IsWhole (command : Command) (words : List Text) (texts : Values) (all : List SeenWord)
    : Type 0 where
  pub options : Options
  pub whole : arguments_of all ≡ Some (record { positionals = words; options = options })
  pub values : HasValues texts options
  pub taken : takes command options ≡ true

-- no job has these words after its command
abbrev pub IsNoJob : Command → List SeenWord → Type 0
IsNoJob command all = option_and_then (job_given command) (arguments_of all) ≡ None

-- the job of a command with the words after it
abbrev pub job_after : Command → List Text → Option Job
job_after command words = option_and_then (job_given command) (arguments_of (map word_of words))

-- the words of three places, of which the later are empty where an earlier is
abbrev pub words_at : Option Text → Option Text → Option Text → List Text
words_at (Some first) (Some second) (Some third) = first ∷ second ∷ third ∷ []
words_at (Some first) (Some second) None = first ∷ second ∷ []
words_at (Some first) None third = first ∷ []
words_at None second third = []

-- the result is the job, or says that there is none; it may want memory only where there is one
abbrev pub Reads : Option Job → Result Job WordsFault → Type 0
Reads found (Ok job) = found ≡ Some job
Reads found (Err fault.Bad) = found ≡ None
Reads found (Err fault.Memory) = found ≢ None
