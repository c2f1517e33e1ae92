-- One more word keeps the arguments of all words, or no job has these words.
use Rattle.std.proofs.Common.{◌≡◌, ◌==◌, ◌+◌, ◌<◌, ◌++◌, ℕ, Bool, true, false, cond, List, [], ◌∷◌, length, map, drop, get_or, String, Global, Option, Some, None, option_map, option_and_then, MatchOption, refl, sym, ap, ap₂, ◌∙◌, subst, add-one, arith, tests, rules}
use Rattle.std.specs.String.{string_bytes}
use Rattle.std.proofs.Math.Seq.{drop-cons}
use Rattle.std.proofs.lemmas.List.{append-nil, append_assoc}
use Rattle.odr_words.specs.Arguments.{Text, Options, Arguments, Word, Plain, Name, NameValue, Neither, word_of, arguments_of, with_positional, with_option}
use Rattle.odr_words.specs.Jobs.{takes, job_with, job_given}
use Rattle.odr_words.specs.Read.{Values, Progress, IsRead, IsWhole, IsNoJob, after_by, after_word, joined, positionals_with}
use Rattle.odr_words.specs.declared.command.Command.{Command}
use Rattle.odr_words.specs.declared.command.Command.TheVariants as command
use Rattle.odr_words.proofs.OptionLemmas.{pick, MoreOptions, values_with-more}

-- ---- one argument more in front of the rest

joined-nothing : (rest : Option Arguments) → option_map (joined [] []) rest ≡ rest
joined-nothing None = refl
joined-nothing (Some a) = refl

joined-positional : (words : List Text) (options : Options) (word : Text) (rest : Option Arguments)
    → option_map (joined words options) (option_map (with_positional word) rest) ≡ option_map (joined (words ++ word ∷ []) options) rest
joined-positional words options word None = refl
joined-positional words options word (Some a) =
    ap (λ (all : List Text). Some (record { positionals = all; options = options ++ a.options })) (sym (append_assoc words (word ∷ []) a.positionals))

joined-option : (words : List Text) (options : Options) (name value : Text) (rest : Option Arguments)
    → option_map (joined words options) (option_map (with_option name value) rest) ≡ option_map (joined words (options ++ (name, value) ∷ [])) rest
joined-option words options name value None = refl
joined-option words options name value (Some a) =
    ap (λ (all : Options). Some (record { positionals = words ++ a.positionals; options = all })) (sym (append_assoc options ((name, value) ∷ []) a.options))

-- ---- no job

pub no_four : (c : Command) (first second third fourth : Text) (more : List Text) (value : Text → Option Text)
    → job_with c (first ∷ second ∷ third ∷ fourth ∷ more) value ≡ None
no_four command.Record first second third fourth more value = refl
no_four command.Infer first second third fourth more value = refl
no_four command.Check first second third fourth more value = refl
no_four command.Replay first second third fourth more value = refl
no_four command.Debug first second third fourth more value = refl
no_four command.Asm first second third fourth more value = refl
no_four command.Demo first second third fourth more value = refl

either_none : {X : Type 0} (b : Bool) (found : Option X) → found ≡ None → cond b found None ≡ None
either_none true found e = e
either_none false found e = refl

four_given : (c : Command) (first second third word : Text) (options : Options) (rest : Option Arguments)
    → option_and_then (job_given c) (option_map (joined (first ∷ second ∷ third ∷ []) options) (option_map (with_positional word) rest)) ≡ None
four_given c first second third word options None = refl
four_given c first second third word options (Some a) = either_none (takes c (options ++ a.options)) _ (no_four c first second third word a.positionals _)

no_fourth : (c : Command) (words : List Text) (word : Text) (options : Options) (rest : Option Arguments) → length words ≡ 3
    → option_and_then (job_given c) (option_map (joined words options) (option_map (with_positional word) rest)) ≡ None
no_fourth c (first ∷ second ∷ third ∷ []) word options rest e = four_given c first second third word options rest
no_fourth c (first ∷ second ∷ third ∷ fourth ∷ more) word options rest e = absurd (omega arith)
no_fourth c (first ∷ second ∷ []) word options rest e = absurd (omega arith)
no_fourth c (first ∷ []) word options rest e = absurd (omega arith)
no_fourth c [] word options rest e = absurd (omega arith)

not_taken : (c : Command) (name value : Text) (words : List Text) (options : Options) (rest : Option Arguments)
    → ((after : Options) → takes c (options ++ (name, value) ∷ after) ≡ false)
    → option_and_then (job_given c) (option_map (joined words options) (option_map (with_option name value) rest)) ≡ None
not_taken c name value words options None e = refl
not_taken c name value words options (Some a) e = rw (e a.options) refl

no_arguments : (c : Command) (words : List Text) (options : Options) (all : List Word)
    → arguments_of all ≡ option_map (joined words options) None → IsNoJob c all
no_arguments c words options all e = ap (option_and_then (job_given c)) e

-- ---- one word

abbrev pub Step : Command → List Word → List Word → Option Progress → Type 0
Step c rest all next = MatchOption next (IsNoJob c all) (λ so_far. IsRead c so_far rest all)

step-positional : (c : Command) (words : List Text) (values : Values) (word : Text) (rest all : List Word)
    → IsRead c (record { positionals = words; values = values; awaiting = None }) (Plain word ∷ rest) all
    → Step c rest all (option_map (λ more. record { positionals = more; values = values; awaiting = None }) (positionals_with word words))
step-positional c words values word rest all h =
    pick (λ (more : Option (List Text)). Step c rest all (option_map (λ (m : List Text). let p : Progress = record { positionals = m; values = values; awaiting = None } in p) more))
    (length words == 3) None (Some (words ++ word ∷ []))
    (λ three. let e : length words ≡ 3 = search (tests, rules) in ap (option_and_then (job_given c)) h.whole ∙ no_fourth c words word h.options (arguments_of rest) e)
    (λ fewer. record {
      options = h.options;
      whole = h.whole ∙ joined-positional words h.options word (arguments_of rest);
      values = h.values;
      taken = h.taken;
    })

step-option : (c : Command) (words : List Text) (name value : Text) (options : Options) (rest all : List Word) (next : Option Values)
    → arguments_of all ≡ option_map (joined words options) (option_map (with_option name value) (arguments_of rest))
    → MoreOptions c name value options next
    → Step c rest all (option_map (λ values. record { positionals = words; values = values; awaiting = None }) next)
step-option c words name value options rest all None e more =
    ap (option_and_then (job_given c)) e ∙ not_taken c name value words options (arguments_of rest) more
step-option c words name value options rest all (Some values) e more = record {
  options = options ++ (name, value) ∷ [];
  whole = e ∙ joined-option words options name value (arguments_of rest);
  values = more.1;
  taken = more.0;
}

step-by : (c : Command) (awaiting : Option Text) (words : List Text) (values : Values) (word : Word) (rest all : List Word)
    → IsRead c (record { positionals = words; values = values; awaiting = awaiting }) (word ∷ rest) all
    → Step c rest all (after_by c awaiting (record { positionals = words; values = values; awaiting = awaiting }) word)
step-by c None words values (Plain word) rest all h = step-positional c words values word rest all h
step-by c None words values (Name name) rest all h = record { options = h.options; whole = h.whole; values = h.values; taken = h.taken }
step-by c None words values (NameValue name value) rest all h =
    step-option c words name value h.options rest all _ h.whole (values_with-more c name value values h.options h.values h.taken)
step-by c None words values Neither rest all h = no_arguments c words h.options all h.whole
step-by c (Some name) words values (Plain value) rest all h =
    step-option c words name value h.options rest all _ h.whole (values_with-more c name value values h.options h.values h.taken)
step-by c (Some name) words values (Name other) rest all h = no_arguments c words h.options all h.whole
step-by c (Some name) words values (NameValue other value) rest all h = no_arguments c words h.options all h.whole
step-by c (Some name) words values Neither rest all h = no_arguments c words h.options all h.whole

step : (c : Command) (so_far : Progress) (word : Word) (rest all : List Word) (next : Option Progress)
    → IsRead c so_far (word ∷ rest) all → next ≡ after_word c so_far word → Step c rest all next
step c so_far word rest all next h e = rw e (step-by c so_far.awaiting so_far.positionals so_far.values word rest all h)

abbrev pub words_in : List (String Global) → List Word
words_in words = map word_of (map string_bytes words)

words_in-drop : (words : List (String Global)) (i : ℕ) (word : String Global) → i < length words → word ≡ get_or words i word
    → words_in (drop i words) ≡ word_of (string_bytes word) ∷ words_in (drop (i + 1) words)
words_in-drop words i word h e =
    ap words_in (drop-cons words i word h)
    ∙ ap₂ (λ (w : String Global) (n : ℕ). word_of (string_bytes w) ∷ words_in (drop n words)) (sym e) (sym (add-one i))

-- a turn of the loop over the words
pub turn : (c : Command) (so_far : Progress) (words : List (String Global)) (i : ℕ) (word : String Global) (text : Text) (next : Option Progress)
    → i < length words → word ≡ get_or words i word → text ≡ string_bytes word
    → IsRead c so_far (words_in (drop i words)) (words_in words) → next ≡ after_word c so_far (word_of text)
    → Step c (words_in (drop (i + 1) words)) (words_in words) next
turn c so_far words i word text next h item same read e =
    step c so_far (word_of (string_bytes word)) (words_in (drop (i + 1) words)) (words_in words) next
    (subst (λ (here : List Word). IsRead c so_far here (words_in words)) (words_in-drop words i word h item) read)
    (e ∙ ap (λ (t : Text). after_word c so_far (word_of t)) same)

-- ---- the first word and the last

pub at_first : (c : Command) (all : List Word)
    → IsRead c (record { positionals = []; values = record { seed = None; limit = None; steps = None; input = None }; awaiting = None }) all all
at_first c all = record {
  options = [];
  whole = sym (joined-nothing (arguments_of all));
  values = record { seed = refl; limit = refl; steps = refl; input = refl };
  taken = refl;
}

pub at_last : (c : Command) (words : List Text) (values : Values) (all : List Word)
    → IsRead c (record { positionals = words; values = values; awaiting = None }) [] all → IsWhole c words values all
at_last c words values all h = record {
  options = h.options;
  whole = rw (← append-nil words, ← append-nil h.options) h.whole;
  values = h.values;
  taken = h.taken;
}

pub at_last-awaiting : (c : Command) (words : List Text) (values : Values) (name : Text) (all : List Word)
    → IsRead c (record { positionals = words; values = values; awaiting = Some name }) [] all → IsNoJob c all
at_last-awaiting c words values name all h = no_arguments c words h.options all h.whole
