-- The rows that clap finds are the positional words and the options of the words.
use Rattle.std.proofs.Common.{◌≡◌, ◌+◌, ◌<◌, ◌≤◌, ◌++◌, ◌&&◌, ◌||◌, ◌⊎◌, inl, inr, ℕ, suc, Bool, true, false, cond, List, [], ◌∷◌, length, map, drop, String, Global, codes, Option, Some, None, is_some, option_map, option_and_then, refl, sym, ap, ap₂, ◌∙◌, subst, arith, tests, rules}
use Rattle.std.specs.Prelude.{slice_get, nat_eq}
use Rattle.std.specs.Str.{bytes_eq}
use Rattle.std.specs.Cmp.Lexicographic.{same_text}
use Rattle.std.specs.List.{fold, list_any, before_first, after_first, starts_with}
use Rattle.std.specs.String.{string_bytes}
use Rattle.std.proofs.lemmas.List.{drop-map, append_assoc, append-nil, length-append}
use Rattle.clap.specs.Lexer.{long_of}
use Rattle.clap.specs.Walk.{Row, Rule, Walk, walk_from, walked, nothing_held, settled_rows, first_of, has_row, with_default}
use Rattle.clap.specs.Simple.{built, matches_of}
use Rattle.clap.specs.Takes.{walk_passes, level_passes}
use Rattle.clap.specs.Takes.{takes as clap_takes}
use Rattle.clap.proofs.TakesLemmas.{leaf_takes}
use Rattle.clap.proofs.WalkLemmas.{first_value-rows}
use Rattle.clap.specs.Matches.{first_value}
use Rattle.clap.specs.Walk.{rows_of}
use Rattle.clap.specs.declared.parser.matches.Found.{Found as Matches}
use Rattle.odr_words.specs.Split.{words_app}
use Rattle.odr_words.specs.Arguments.{Text, Options, Arguments, Word, Plain, Name, NameValue, Neither, is_plain, is_equals_sign, option_of, word_of, arguments_of, with_positional, with_option, value_of, has_name}
use Rattle.odr_words.specs.Jobs.{options_of, takes, job_with, job_given}
use Rattle.odr_words.specs.Read.{Values, pending, words_at, job_after, value_in}
use Rattle.odr_words.specs.declared.command.Command.{Command}
use Rattle.odr_words.specs.declared.command.Command.TheVariants as command
use Rattle.odr_words.proofs.GivenLemmas.{no_four}
use Rattle.odr_words.proofs.JobLemmas.{given-whole}
use Rattle.odr_words.proofs.OptionLemmas.{pick, takes-unknown, takes-twice, first_or, value_of-append, has_name-value}
use Rattle.odr_words.proofs.WalkLemmas.{the_shape, the_rules, row, first_of-row, Idle, Waits, IsOption, Seed, Limit, Steps, Input, turn_is_fine, place-step, named-step, value-step, joined-step}

-- ---- tests

and_parts : (a b : Bool) → (a && b) ≡ true → (a ≡ true) × (b ≡ true)
and_parts true b e = (refl, e)
and_parts false b e = cc

and_false : (b : Bool) → (b && false) ≡ false
and_false true = refl
and_false false = refl

is_equal : (a b : ℕ) → nat_eq a b ≡ true → a ≡ b
is_equal a b e = search (tests, rules)

-- ---- what a word is, and what clap takes it for

-- a word is plain, or an option with what follows its hyphens, or neither
abbrev pub Kind : Text → Type 0
Kind word = ((is_plain word ≡ true) × (word_of word ≡ Plain word))
    ⊎ (((rest : Text) × (word ≡ 45 ∷ 45 ∷ rest) × (word_of word ≡ option_of rest)) ⊎ (word_of word ≡ Neither))

dashes : (word : Text) → starts_with nat_eq word (codes "--") ≡ true → word ≡ 45 ∷ 45 ∷ drop 2 word
dashes [] e = cc
dashes (first ∷ []) e = let f : (nat_eq 45 first && false) ≡ false = and_false (nat_eq 45 first) in cc
dashes (first ∷ second ∷ rest) e =
    let parts = and_parts (nat_eq 45 first) (nat_eq 45 second && true) e in
    let others = and_parts (nat_eq 45 second) true parts.1 in
    let one : 45 ≡ first = is_equal 45 first parts.0 in
    let two : 45 ≡ second = is_equal 45 second others.0 in
    ap₂ (λ (a b : ℕ). a ∷ b ∷ rest) (sym one) (sym two)

kind_by : (word : Text) (p s : Bool) → is_plain word ≡ p → starts_with nat_eq word (codes "--") ≡ s → Kind word
kind_by word true s e f = inl (e, rw e refl)
kind_by word false true e f = inr (inl (drop 2 word, dashes word f, rw (e, f) refl))
kind_by word false false e f = inr (inr (rw (e, f) refl))

pub kind_of : (word : Text) → Kind word
kind_of word = kind_by word (is_plain word) (starts_with nat_eq word (codes "--")) refl refl

-- ---- options that a command takes

one_or : (name known : Text) (rest : Bool) → IsOption known → (rest ≡ true → IsOption name) → (bytes_eq name known || rest) ≡ true → IsOption name
one_or name known rest o more e = by_test (bytes_eq name known) refl e
  where
    by_test : (b : Bool) → bytes_eq name known ≡ b → (b || rest) ≡ true → IsOption name
    by_test true same f = subst IsOption (sym (same_text name known (sym same))) o
    by_test false other f = more f

option_taken : (c : Command) (name : Text) → list_any (bytes_eq name) (options_of c) ≡ true → IsOption name
option_taken command.Record name e =
    one_or name (codes "seed") _ Seed (one_or name (codes "limit") _ Limit (one_or name (codes "input") _ Input (λ f. cc))) e
option_taken command.Infer name e = one_or name (codes "steps") _ Steps (λ f. cc) e
option_taken command.Check name e = cc
option_taken command.Replay name e = cc
option_taken command.Debug name e = cc
option_taken command.Asm name e = cc
option_taken command.Demo name e = cc

-- an option among those that a command takes is one of the program's, and was not given before
new_option : (c : Command) (name value : Text) (before after : Options) → takes c (before ++ (name, value) ∷ after) ≡ true
    → IsOption name × (value_of name before ≡ None)
new_option c name value before after t =
    (option_taken c name (by_known (list_any (bytes_eq name) (options_of c)) refl), by_new (has_name name before) refl)
  where
    by_known : (b : Bool) → list_any (bytes_eq name) (options_of c) ≡ b → list_any (bytes_eq name) (options_of c) ≡ true
    by_known true e = e
    by_known false e = let f = takes-unknown c name value before after e in cc

    by_value : (found : Option Text) → value_of name before ≡ found → is_some found ≡ false → value_of name before ≡ None
    by_value None e f = e
    by_value (Some v) e f = cc

    by_new : (b : Bool) → has_name name before ≡ b → value_of name before ≡ None
    by_new true e = let f = takes-twice c name value before after e in cc
    by_new false e =
        let f : is_some (value_of name before) ≡ false = sym (has_name-value name before) ∙ e in
        by_value (value_of name before) refl f

-- ---- what was given so far

-- the values by the names of places and options
pub record Found (given : Options) (words : List Text) (options : Options) : Type 0 where
  pub first : value_of (codes "first") given ≡ slice_get words 0
  pub second : value_of (codes "second") given ≡ slice_get words 1
  pub third : value_of (codes "third") given ≡ slice_get words 2
  pub seed : value_of (codes "seed") given ≡ value_of (codes "seed") options
  pub limit : value_of (codes "limit") given ≡ value_of (codes "limit") options
  pub steps : value_of (codes "steps") given ≡ value_of (codes "steps") options
  pub input : value_of (codes "input") given ≡ value_of (codes "input") options

-- the value of another name stays
kept : (asked name value : Text) (given : Options) (held : Option Text) → bytes_eq asked name ≡ false → value_of asked given ≡ held
    → value_of asked (given ++ (name, value) ∷ []) ≡ held
kept asked name value given held other e = value_of-append asked name value given ∙ rw (other, e) (or_none held)
  where
    or_none : (found : Option Text) → first_or found None ≡ found
    or_none None = refl
    or_none (Some v) = refl

-- the value of a name that is new
new_value : (name value : Text) (given : Options) → bytes_eq name name ≡ true → value_of name given ≡ None
    → value_of name (given ++ (name, value) ∷ []) ≡ Some value
new_value name value given tie e = value_of-append name name value given ∙ rw (tie, e) refl

-- both lists find the same after the same option
same_value : (asked name value : Text) (given options : Options) → value_of asked given ≡ value_of asked options
    → value_of asked (given ++ (name, value) ∷ []) ≡ value_of asked (options ++ (name, value) ∷ [])
same_value asked name value given options e =
    value_of-append asked name value given
    ∙ ap (λ found. first_or found (cond (bytes_eq asked name) (Some value) None)) e
    ∙ sym (value_of-append asked name value options)

no_place : (name : Text) → IsOption name → (bytes_eq (codes "first") name ≡ false) × (bytes_eq (codes "second") name ≡ false) × (bytes_eq (codes "third") name ≡ false)
no_place name Seed = (refl, refl, refl)
no_place name Limit = (refl, refl, refl)
no_place name Steps = (refl, refl, refl)
no_place name Input = (refl, refl, refl)

pub found-option : (name value : Text) (given : Options) (words : List Text) (options : Options) → IsOption name → Found given words options
    → Found (given ++ (name, value) ∷ []) words (options ++ (name, value) ∷ [])
found-option name value given words options o h =
    let other = no_place name o in
    record {
      first = kept (codes "first") name value given _ other.0 h.first;
      second = kept (codes "second") name value given _ other.1 h.second;
      third = kept (codes "third") name value given _ other.2 h.third;
      seed = same_value (codes "seed") name value given options h.seed;
      limit = same_value (codes "limit") name value given options h.limit;
      steps = same_value (codes "steps") name value given options h.steps;
      input = same_value (codes "input") name value given options h.input;
    }

found-new : (name : Text) (given : Options) (words : List Text) (options : Options) → IsOption name → Found given words options
    → value_of name options ≡ None → value_of name given ≡ None
found-new name given words options Seed h e = h.seed ∙ e
found-new name given words options Limit h e = h.limit ∙ e
found-new name given words options Steps h e = h.steps ∙ e
found-new name given words options Input h e = h.input ∙ e

-- ---- the walk over the words

abbrev pub place_of : List Text → ℕ
place_of [] = 1
place_of (first ∷ []) = 2
place_of (first ∷ second ∷ []) = 3
place_of words = 4

-- the walk stands after these positional words and options, and an option may wait
abbrev pub StandsAt : Walk → List Text → Options → Option Text → Type 0
StandsAt w words options None = (given : Options) × Idle w given (place_of words) × Found given words options
StandsAt w words options (Some name) =
    (given : Options) × Waits w given (place_of words) name × Found given words options × IsOption name × (value_of name options ≡ None)

pub positional : (w : Walk) (given : Options) (words : List Text) (options : Options) (word : Text) → is_plain word ≡ true → length words < 3
    → Idle w given (place_of words) → Found given words options
    → StandsAt (walked the_rules [] w word) (words ++ word ∷ []) options None × turn_is_fine w word
positional w given [] options word e few idle found =
    let s = place-step w given 1 2 (codes "first") word e (refl, refl) refl found.first idle in (
      (
        given ++ (codes "first", word) ∷ [],
        s.0,
        record {
          first = new_value (codes "first") word given refl found.first;
          second = kept (codes "second") (codes "first") word given None refl found.second;
          third = kept (codes "third") (codes "first") word given None refl found.third;
          seed = kept (codes "seed") (codes "first") word given _ refl found.seed;
          limit = kept (codes "limit") (codes "first") word given _ refl found.limit;
          steps = kept (codes "steps") (codes "first") word given _ refl found.steps;
          input = kept (codes "input") (codes "first") word given _ refl found.input;
        },
      ),
      s.1,
    )
positional w given (first ∷ []) options word e few idle found =
    let s = place-step w given 2 3 (codes "second") word e (refl, refl) refl found.second idle in (
      (
        given ++ (codes "second", word) ∷ [],
        s.0,
        record {
          first = kept (codes "first") (codes "second") word given (Some first) refl found.first;
          second = new_value (codes "second") word given refl found.second;
          third = kept (codes "third") (codes "second") word given None refl found.third;
          seed = kept (codes "seed") (codes "second") word given _ refl found.seed;
          limit = kept (codes "limit") (codes "second") word given _ refl found.limit;
          steps = kept (codes "steps") (codes "second") word given _ refl found.steps;
          input = kept (codes "input") (codes "second") word given _ refl found.input;
        },
      ),
      s.1,
    )
positional w given (first ∷ second ∷ []) options word e few idle found =
    let s = place-step w given 3 4 (codes "third") word e (refl, refl) refl found.third idle in (
      (
        given ++ (codes "third", word) ∷ [],
        s.0,
        record {
          first = kept (codes "first") (codes "third") word given (Some first) refl found.first;
          second = kept (codes "second") (codes "third") word given (Some second) refl found.second;
          third = new_value (codes "third") word given refl found.third;
          seed = kept (codes "seed") (codes "third") word given _ refl found.seed;
          limit = kept (codes "limit") (codes "third") word given _ refl found.limit;
          steps = kept (codes "steps") (codes "third") word given _ refl found.steps;
          input = kept (codes "input") (codes "third") word given _ refl found.input;
        },
      ),
      s.1,
    )
positional w given (first ∷ second ∷ third ∷ more) options word e few idle found = absurd (omega arith)

abbrev pub Ends : List Text → Options → List Text → Walk → Type 0
Ends all_words all_options texts w =
    StandsAt (fold (walked the_rules []) w texts) all_words all_options None × (walk_passes the_shape [] w texts ≡ true)

-- from wherever the walk stands before these words, it ends with all positional words and options
abbrev pub Goes : List Text → Options → List Text → Type 0
Goes all_words all_options texts = (awaiting : Option Text) (w : Walk) (words : List Text) (options : Options) (a : Arguments)
    → StandsAt w words options awaiting → arguments_of (pending awaiting (map word_of texts)) ≡ Some a
    → words ++ a.positionals ≡ all_words → options ++ a.options ≡ all_options → Ends all_words all_options texts w

passes_more : (w : Walk) (word : Text) (rest : List Text) → turn_is_fine w word → walk_passes the_shape [] (walked the_rules [] w word) rest ≡ true
    → walk_passes the_shape [] w (word ∷ rest) ≡ true
unfolding walk_passes
passes_more w word rest t e = rw (t, e) refl

pub ends_more : (all_words : List Text) (all_options : Options) (w : Walk) (word : Text) (rest : List Text) → turn_is_fine w word
    → Ends all_words all_options rest (walked the_rules [] w word) → Ends all_words all_options (word ∷ rest) w
ends_more all_words all_options w word rest t e = (e.0, passes_more w word rest t e.1)

pub mapped : {X Y : Type 0} (f : X → Y) (found : Option X) (y : Y) → option_map f found ≡ Some y → (x : X) × (found ≡ Some x) × (f x ≡ y)
mapped f None y e = cc
mapped f (Some x) y e = (x, refl, cc)

-- a positional word
pub goes_positional : (all_words : List Text) (all_options : Options) (word : Text) (rest : List Text) (w : Walk) (words : List Text) (options : Options) (a : Arguments)
    → length all_words ≤ 3 → is_plain word ≡ true → StandsAt w words options None
    → option_map (with_positional word) (arguments_of (map word_of rest)) ≡ Some a
    → words ++ a.positionals ≡ all_words → options ++ a.options ≡ all_options → Goes all_words all_options rest
    → Ends all_words all_options (word ∷ rest) w
goes_positional all_words all_options word rest w words options a few plain stands e p o next =
    let b = mapped (with_positional word) (arguments_of (map word_of rest)) a e in
    let all : words ++ (word ∷ b.0.positionals) ≡ all_words = ap (λ (x : Arguments). words ++ x.positionals) b.2 ∙ p in
    let size : length words + suc (length b.0.positionals) ≡ length all_words = sym (length-append words (word ∷ b.0.positionals)) ∙ ap length all in
    let s = positional w stands.0 words options word plain (omega arith) stands.1 stands.2 in
    ends_more all_words all_options w word rest s.1
    (next None (walked the_rules [] w word) (words ++ word ∷ []) options b.0 s.0 b.1
    (append_assoc words (word ∷ []) b.0.positionals ∙ all)
    (ap (λ (x : Arguments). options ++ x.options) b.2 ∙ o))

-- what the arguments after an option are
after_option : (c : Command) (all_words : List Text) (all_options : Options) (name value : Text) (found : Option Arguments) (words : List Text) (options : Options) (a : Arguments)
    → takes c all_options ≡ true → option_map (with_option name value) found ≡ Some a
    → words ++ a.positionals ≡ all_words → options ++ a.options ≡ all_options
    → (b : Arguments) × (found ≡ Some b) × (words ++ b.positionals ≡ all_words) × ((options ++ (name, value) ∷ []) ++ b.options ≡ all_options)
    × IsOption name × (value_of name options ≡ None)
after_option c all_words all_options name value found words options a t e p o =
    let b = mapped (with_option name value) found a e in
    let all : options ++ ((name, value) ∷ b.0.options) ≡ all_options = ap (λ (x : Arguments). options ++ x.options) b.2 ∙ o in
    let new = new_option c name value options b.0.options (ap (takes c) all ∙ t) in
    (b.0, b.1, ap (λ (x : Arguments). words ++ x.positionals) b.2 ∙ p, append_assoc options ((name, value) ∷ []) b.0.options ∙ all, new.0, new.1)

-- `--name=value`
pub goes_joined : (c : Command) (all_words : List Text) (all_options : Options) (name value word : Text) (rest : List Text) (w : Walk) (words : List Text) (options : Options) (a : Arguments)
    → takes c all_options ≡ true → bytes_eq word (45 ∷ 45 ∷ []) ≡ false → long_of word ≡ Some (name, Some value) → StandsAt w words options None
    → option_map (with_option name value) (arguments_of (map word_of rest)) ≡ Some a
    → words ++ a.positionals ≡ all_words → options ++ a.options ≡ all_options → Goes all_words all_options rest
    → Ends all_words all_options (word ∷ rest) w
goes_joined c all_words all_options name value word rest w words options a t d l stands e p o next =
    let b = after_option c all_words all_options name value (arguments_of (map word_of rest)) words options a t e p o in
    let s = joined-step w stands.0 (place_of words) name value word b.4 (found-new name stands.0 words options b.4 stands.2 b.5) d l stands.1 in
    ends_more all_words all_options w word rest s.1
    (next None (walked the_rules [] w word) words (options ++ (name, value) ∷ []) b.0
    (stands.0 ++ (name, value) ∷ [], s.0, found-option name value stands.0 words options b.4 stands.2) b.1 b.2 b.3)

-- a value that an option waits for
pub goes_value : (c : Command) (all_words : List Text) (all_options : Options) (name word : Text) (rest : List Text) (w : Walk) (words : List Text) (options : Options) (a : Arguments)
    → takes c all_options ≡ true → is_plain word ≡ true → StandsAt w words options (Some name)
    → option_map (with_option name word) (arguments_of (map word_of rest)) ≡ Some a
    → words ++ a.positionals ≡ all_words → options ++ a.options ≡ all_options → Goes all_words all_options rest
    → Ends all_words all_options (word ∷ rest) w
goes_value c all_words all_options name word rest w words options a t plain stands e p o next =
    let b = after_option c all_words all_options name word (arguments_of (map word_of rest)) words options a t e p o in
    let s = value-step w stands.0 (place_of words) name word plain b.4 (found-new name stands.0 words options b.4 stands.2 b.5) stands.1 in
    ends_more all_words all_options w word rest s.1
    (next None (walked the_rules [] w word) words (options ++ (name, word) ∷ []) b.0
    (stands.0 ++ (name, word) ∷ [], s.0, found-option name word stands.0 words options b.4 stands.2) b.1 b.2 b.3)

-- the option that `--name` begins
pub goes_named : (all_words : List Text) (all_options : Options) (name word : Text) (rest : List Text) (w : Walk) (words : List Text) (options : Options) (a : Arguments)
    → IsOption name → value_of name options ≡ None → bytes_eq word (45 ∷ 45 ∷ []) ≡ false → long_of word ≡ Some (name, None) → StandsAt w words options None
    → arguments_of (Name name ∷ map word_of rest) ≡ Some a
    → words ++ a.positionals ≡ all_words → options ++ a.options ≡ all_options → Goes all_words all_options rest
    → Ends all_words all_options (word ∷ rest) w
goes_named all_words all_options name word rest w words options a is_one new d l stands e p o next =
    let s = named-step w stands.0 (place_of words) name word is_one d l stands.1 in
    ends_more all_words all_options w word rest s.1
    (next (Some name) (walked the_rules [] w word) words options a (stands.0, s.0, stands.2, is_one, new) e p o)

-- ---- each kind of word

-- what clap takes an option for
long_joined : (text : Text) → list_any is_equals_sign text ≡ true
    → (long_of (45 ∷ 45 ∷ text) ≡ Some (before_first is_equals_sign text, Some (after_first is_equals_sign text)))
    × (bytes_eq (45 ∷ 45 ∷ text) (45 ∷ 45 ∷ []) ≡ false)
long_joined [] e = cc
long_joined (first ∷ text) e = (rw e refl, refl)

long_named : (text : Text) → IsOption text → (long_of (45 ∷ 45 ∷ text) ≡ Some (text, None)) × (bytes_eq (45 ∷ 45 ∷ text) (45 ∷ 45 ∷ []) ≡ false)
long_named text Seed = (refl, refl)
long_named text Limit = (refl, refl)
long_named text Steps = (refl, refl)
long_named text Input = (refl, refl)

-- `--name` stands before a value
before_value : (name : Text) (rest : List Word) (a : Arguments) → arguments_of (Name name ∷ rest) ≡ Some a
    → (value : Text) × (more : List Word) × (option_map (with_option name value) (arguments_of more) ≡ Some a)
before_value name [] a e = cc
before_value name (Plain value ∷ more) a e = (value, more, e)
before_value name (Name other ∷ more) a e = cc
before_value name (NameValue other value ∷ more) a e = cc
before_value name (Neither ∷ more) a e = cc

-- an option is no value
no_value : (name text : Text) (rest : List Word) → arguments_of (Name name ∷ option_of text ∷ rest) ≡ None
no_value name text rest =
    pick (λ word. arguments_of (Name name ∷ word ∷ rest) ≡ None) (list_any is_equals_sign text) _ _
    (λ joined. pick (λ word. arguments_of (Name name ∷ word ∷ rest) ≡ None) (is_plain (after_first is_equals_sign text)) _ _
    (λ plain. refl) (λ bare. refl))
    (λ named. refl)

abbrev Turn : Command → List Text → Options → Text → List Text → Option Text → Type 0
Turn c all_words all_options word rest awaiting = (w : Walk) (words : List Text) (options : Options) (a : Arguments)
    → StandsAt w words options awaiting → arguments_of (pending awaiting (map word_of (word ∷ rest))) ≡ Some a
    → words ++ a.positionals ≡ all_words → options ++ a.options ≡ all_options → Ends all_words all_options (word ∷ rest) w

turn_option : (c : Command) (all_words : List Text) (all_options : Options) (text : Text) (rest : List Text) (any plain : Bool) → takes c all_options ≡ true
    → list_any is_equals_sign text ≡ any → is_plain (after_first is_equals_sign text) ≡ plain
    → word_of (45 ∷ 45 ∷ text) ≡ option_of text → Goes all_words all_options rest → Turn c all_words all_options (45 ∷ 45 ∷ text) rest None
turn_option c all_words all_options text rest true true t any plain is next w words options a stands e p o =
    let is_joined : word_of (45 ∷ 45 ∷ text) ≡ NameValue (before_first is_equals_sign text) (after_first is_equals_sign text) = is ∙ rw (any, plain) refl in
    let l = long_joined text any in
    goes_joined c all_words all_options (before_first is_equals_sign text) (after_first is_equals_sign text) (45 ∷ 45 ∷ text) rest w words options a
    t l.1 l.0 stands (rw is_joined at e) p o next
turn_option c all_words all_options text rest true false t any plain is next w words options a stands e p o =
    let is_neither : word_of (45 ∷ 45 ∷ text) ≡ Neither = is ∙ rw (any, plain) refl in
    let none : arguments_of (Neither ∷ map word_of rest) ≡ Some a = rw is_neither at e in cc
turn_option c all_words all_options text rest false plain t any plain_is is next w words options a stands e p o =
    let is_named : word_of (45 ∷ 45 ∷ text) ≡ Name text = is ∙ rw any refl in
    let f : arguments_of (Name text ∷ map word_of rest) ≡ Some a = rw is_named at e in
    let v = before_value text (map word_of rest) a f in
    let b = after_option c all_words all_options text v.0 (arguments_of v.1) words options a t v.2 p o in
    let l = long_named text b.4 in
    goes_named all_words all_options text (45 ∷ 45 ∷ text) rest w words options a b.4 b.5 l.1 l.0 stands f p o next

turn : (c : Command) (all_words : List Text) (all_options : Options) (word : Text) (rest : List Text) (awaiting : Option Text) → length all_words ≤ 3 → takes c all_options ≡ true
    → Kind word → Goes all_words all_options rest → Turn c all_words all_options word rest awaiting
turn c all_words all_options word rest None few t (inl plain) next w words options a stands e p o =
    goes_positional all_words all_options word rest w words options a few plain.0 stands (rw plain.1 at e) p o next
turn c all_words all_options word rest (Some name) few t (inl plain) next w words options a stands e p o =
    goes_value c all_words all_options name word rest w words options a t plain.0 stands (rw plain.1 at e) p o next
turn c all_words all_options word rest None few t (inr (inl option)) next w words options a stands e p o =
    let Here : Text → Type 0 = λ here. word_of here ≡ option_of option.0 → Turn c all_words all_options here rest None in
    subst Here (sym option.1)
    (λ is. turn_option c all_words all_options option.0 rest (list_any is_equals_sign option.0) (is_plain (after_first is_equals_sign option.0)) t refl refl is next)
    option.2 w words options a stands e p o
turn c all_words all_options word rest (Some name) few t (inr (inl option)) next w words options a stands e p o =
    let f : arguments_of (Name name ∷ option_of option.0 ∷ map word_of rest) ≡ Some a = rw option.2 at e in
    let none = no_value name option.0 (map word_of rest) in cc
turn c all_words all_options word rest None few t (inr (inr neither)) next w words options a stands e p o =
    let f : arguments_of (Neither ∷ map word_of rest) ≡ Some a = rw neither at e in cc
turn c all_words all_options word rest (Some name) few t (inr (inr neither)) next w words options a stands e p o =
    let f : arguments_of (Name name ∷ Neither ∷ map word_of rest) ≡ Some a = rw neither at e in cc

no_passes : (w : Walk) → walk_passes the_shape [] w [] ≡ true
unfolding walk_passes
no_passes w = refl

ending : (all_words : List Text) (all_options : Options) (w : Walk) (words : List Text) (options : Options) (a : Arguments)
    → StandsAt w words options None → Some (record { positionals = []; options = [] }) ≡ Some a
    → words ++ a.positionals ≡ all_words → options ++ a.options ≡ all_options → Ends all_words all_options [] w
ending all_words all_options w words options a stands e p o =
    let nothing : record { positionals = []; options = [] } ≡ a = cc in
    let w_all : words ≡ all_words = sym (append-nil words) ∙ ap (λ (x : Arguments). words ++ x.positionals) nothing ∙ p in
    let o_all : options ≡ all_options = sym (append-nil options) ∙ ap (λ (x : Arguments). options ++ x.options) nothing ∙ o in
    (subst (λ (x : List Text). StandsAt w x all_options None) w_all (subst (λ (x : Options). StandsAt w words x None) o_all stands), no_passes w)

pub goes : (c : Command) (all_words : List Text) (all_options : Options) → length all_words ≤ 3 → takes c all_options ≡ true
    → (texts : List Text) → Goes all_words all_options texts
goes c all_words all_options few t [] None w words options a stands e p o = ending all_words all_options w words options a stands e p o
goes c all_words all_options few t [] (Some name) w words options a stands e p o = cc
goes c all_words all_options few t (word ∷ rest) awaiting w words options a stands e p o =
    turn c all_words all_options word rest awaiting few t (kind_of word) (goes c all_words all_options few t rest) w words options a stands e p o

-- ---- what clap finds

NoDefaults : List Rule → Type 0
NoDefaults [] = Unit {0}
NoDefaults (a ∷ rules) = (a.defaults ≡ []) × NoDefaults rules

either_way : {X : Type 0} (b : Bool) (x : X) → cond b x x ≡ x
either_way true x = refl
either_way false x = refl

finished-same : (rules : List Rule) (rows : List Row) → NoDefaults rules → fold with_default rows rules ≡ rows
unfolding NoDefaults
finished-same [] rows d = refl
finished-same (a ∷ rules) rows d = rw (d.0, either_way (has_row a.id rows) rows) (finished-same rules rows d.1)

no_defaults : NoDefaults the_rules
unfolding NoDefaults
no_defaults = (refl, (refl, (refl, (refl, (refl, (refl, (refl, tt)))))))

-- the walk begins with nothing
at_start : StandsAt (walk_from nothing_held) [] [] None
at_start = (
  [],
  record { rows = []; pending = None; place = refl; held = refl; passes = refl },
  record {
    first = refl;
    second = refl;
    third = refl;
    seed = refl;
    limit = refl;
    steps = refl;
    input = refl;
  },
)

-- the command takes the words of a job, and finds their positional words and options
pub record Splits (all : List Text) (words : List Text) (options : Options) : Type 0 where
  pub given : Options
  pub rows : matches_of words_app all ≡ map row given
  pub found : Found given words options
  pub taken : clap_takes words_app all ≡ true

taken_by : (texts : List Text) (words : List Text) (options : Options) → (stands : StandsAt (fold (walked the_rules []) (walk_from nothing_held) texts) words options None)
    → walk_passes the_shape [] (walk_from nothing_held) texts ≡ true → level_passes the_shape [] nothing_held texts false ≡ true
taken_by texts words options stands passes = rw (passes, stands.1.place, stands.1.passes) refl

pub splits : (c : Command) (all : List Text) (words : List Text) (options : Options) → length words ≤ 3 → takes c options ≡ true
    → arguments_of (map word_of (drop 1 all)) ≡ Some (record { positionals = words; options = options }) → Splits all words options
splits c all words options few t e =
    let a : Arguments = record { positionals = words; options = options } in
    let ends = goes c words options few t (drop 1 all) None (walk_from nothing_held) [] [] a at_start e refl refl in
    record {
      given = ends.0.0;
      rows = finished-same the_rules _ no_defaults
          ∙ ap (λ (w : Walk). settled_rows the_rules w.held.pending w.held.rows) ends.0.1.place ∙ ends.0.1.held;
      found = ends.0.2;
      taken = leaf_takes (built words_app) nothing_held (drop 1 all) refl (taken_by (drop 1 all) words options ends.0 ends.1);
    }

-- ---- the job of what clap finds

-- where there is a job, the words are its arguments
record IsTaken (c : Command) (found : Option Arguments) : Type 0 where
  arguments : Arguments
  is : found ≡ Some arguments
  few : length arguments.positionals ≤ 3
  taken : takes c arguments.options ≡ true

few_words : (c : Command) (words : List Text) (value : Text → Option Text) → is_some (job_with c words value) ≡ true → length words ≤ 3
few_words c [] value e = omega arith
few_words c (first ∷ []) value e = omega arith
few_words c (first ∷ second ∷ []) value e = omega arith
few_words c (first ∷ second ∷ third ∷ []) value e = omega arith
few_words c (first ∷ second ∷ third ∷ fourth ∷ more) value e =
    let none = no_four c first second third fourth more value in cc

taken_if : (c : Command) (a : Arguments) (b : Bool) → takes c a.options ≡ b
    → is_some (cond b (job_with c a.positionals (λ name. value_of name a.options)) None) ≡ true → IsTaken c (Some a)
taken_if c a true t e = record { arguments = a; is = refl; few = few_words c a.positionals _ e; taken = t }
taken_if c a false t e = cc

is_taken : (c : Command) (found : Option Arguments) → is_some (option_and_then (job_given c) found) ≡ true → IsTaken c found
is_taken c None e = cc
is_taken c (Some a) e = taken_if c a (takes c a.options) refl e

words_at-few : (words : List Text) → length words ≤ 3 → words_at (slice_get words 0) (slice_get words 1) (slice_get words 2) ≡ words
words_at-few [] few = refl
words_at-few (first ∷ []) few = refl
words_at-few (first ∷ second ∷ []) few = refl
words_at-few (first ∷ second ∷ third ∷ []) few = refl
words_at-few (first ∷ second ∷ third ∷ fourth ∷ more) few = absurd (omega arith)

-- what clap's matches have under a name
value_found : (f : Matches) (all : List Text) (words : List Text) (options : Options) (name : Text) → (s : Splits all words options)
    → rows_of f ≡ matches_of words_app all → first_value f name ≡ value_of name s.given
value_found f all words options name s rows =
    first_value-rows f name ∙ ap (first_of name) (rows ∙ s.rows) ∙ first_of-row name s.given

-- the texts that `get_str` gave
pub record Gets (f : Matches) (first second third : Option Text) (values : Values) : Type 0 where
  pub first_is : first ≡ first_value f (codes "first")
  pub second_is : second ≡ first_value f (codes "second")
  pub third_is : third ≡ first_value f (codes "third")
  pub seed : values.seed ≡ first_value f (codes "seed")
  pub limit : values.limit ≡ first_value f (codes "limit")
  pub steps : values.steps ≡ first_value f (codes "steps")
  pub input : values.input ≡ first_value f (codes "input")

pub split_job : (c : Command) (all : List Text) (f : Matches) (first second third : Option Text) (values : Values)
    → is_some (job_after c (drop 1 all)) ≡ true → rows_of f ≡ matches_of words_app all → Gets f first second third values
    → job_after c (drop 1 all) ≡ job_with c (words_at first second third) (value_in values)
split_job c all f first second third values some rows got =
    let t = is_taken c (arguments_of (map word_of (drop 1 all))) some in
    let a = t.arguments in
    let s = splits c all a.positionals a.options t.few t.taken t.is in
    let value = λ (name : Text). value_found f all a.positionals a.options name s rows in
    let words : words_at first second third ≡ a.positionals =
    rw (got.first_is ∙ value (codes "first") ∙ s.found.first, got.second_is ∙ value (codes "second") ∙ s.found.second, got.third_is ∙ value (codes "third") ∙ s.found.third)
    (words_at-few a.positionals t.few) in
    given-whole c (words_at first second third) values (map word_of (drop 1 all)) (record {
      options = a.options;
      whole = t.is ∙ ap (λ (w : List Text). Some (record { positionals = w; options = a.options })) (sym words);
      values = record {
        seed = sym (got.seed ∙ value (codes "seed") ∙ s.found.seed);
        limit = sym (got.limit ∙ value (codes "limit") ∙ s.found.limit);
        steps = sym (got.steps ∙ value (codes "steps") ∙ s.found.steps);
        input = sym (got.input ∙ value (codes "input") ∙ s.found.input);
      };
      taken = t.taken;
    })

-- clap takes the words of a job
pub job_taken : (c : Command) (all : List Text) → is_some (job_after c (drop 1 all)) ≡ true → clap_takes words_app all ≡ true
job_taken c all some =
    let t = is_taken c (arguments_of (map word_of (drop 1 all))) some in
    (splits c all t.arguments.positionals t.arguments.options t.few t.taken t.is).taken

-- the same of the texts behind strings
pub strings_job : (c : Command) (words : List (String Global)) (f : Matches) (first second third : Option Text) (values : Values)
    → is_some (job_after c (map string_bytes (drop 1 words))) ≡ true → rows_of f ≡ matches_of words_app (map string_bytes words) → Gets f first second third values
    → job_after c (map string_bytes (drop 1 words)) ≡ job_with c (words_at first second third) (value_in values)
strings_job c words f first second third values some rows got =
    let e = drop-map string_bytes 1 words in
    ap (job_after c) (sym e) ∙ split_job c (map string_bytes words) f first second third values (ap (λ (t : List Text). is_some (job_after c t)) e ∙ some) rows got

pub strings_taken : (c : Command) (words : List (String Global)) → is_some (job_after c (map string_bytes (drop 1 words))) ≡ true
    → clap_takes words_app (map string_bytes words) ≡ true
strings_taken c words some =
    job_taken c (map string_bytes words) (ap (λ (t : List Text). is_some (job_after c t)) (drop-map string_bytes 1 words) ∙ some)
