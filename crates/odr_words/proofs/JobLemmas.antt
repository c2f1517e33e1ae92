-- The job of the words, from what was read of them.
use Rattle.std.proofs.Common.{◌≡◌, List, [], ◌∷◌, Option, option_and_then, is_some, IsErrAnd, true, Ok, Err, Result, refl, ap, ◌∙◌}
use Rattle.odr_words.specs.Arguments.{Text, Options, Word, arguments_of, value_of}
use Rattle.odr_words.specs.Jobs.{job_with, job_given}
use Rattle.odr_words.specs.Read.{Values, HasValues, IsWhole, Reads, value_in}
use Rattle.odr_words.specs.declared.command.Command.{Command}
use Rattle.odr_words.specs.declared.command.Command.TheVariants as command
use Rattle.odr_words.specs.declared.fault.WordsFault.{WordsFault}
use Rattle.odr_words.specs.declared.fault.WordsFault.TheVariants as fault
use Rattle.odr_words.specs.declared.job.Job.{Job}

pub job_with-values : (c : Command) (words : List Text) (values : Values) (options : Options) → HasValues values options
    → job_with c words (λ name. value_of name options) ≡ job_with c words (value_in values)
job_with-values command.Record [] values options h = refl
job_with-values command.Record (elf ∷ []) values options h = refl
job_with-values command.Record (elf ∷ log ∷ []) values options h = rw (h.seed, h.limit, h.input) refl
job_with-values command.Record (elf ∷ log ∷ other ∷ more) values options h = refl
job_with-values command.Infer [] values options h = refl
job_with-values command.Infer (elf ∷ []) values options h = refl
job_with-values command.Infer (elf ∷ log ∷ []) values options h = refl
job_with-values command.Infer (elf ∷ log ∷ out ∷ []) values options h = rw h.steps refl
job_with-values command.Infer (elf ∷ log ∷ out ∷ other ∷ more) values options h = refl
job_with-values c [] values options h = refl
job_with-values c (first ∷ []) values options h = refl
job_with-values c (first ∷ second ∷ []) values options h = refl
job_with-values c (first ∷ second ∷ third ∷ []) values options h = refl
job_with-values c (first ∷ second ∷ third ∷ other ∷ more) values options h = refl

pub given-whole : (c : Command) (words : List Text) (values : Values) (all : List Word) → IsWhole c words values all
    → option_and_then (job_given c) (arguments_of all) ≡ job_with c words (value_in values)
given-whole c words values all h =
    ap (option_and_then (job_given c)) h.whole ∙ rw h.taken (job_with-values c words values h.options h.values)

-- memory may be wanting only where there is a job
pub wanting : (found : Option Job) (r : Result Job WordsFault) → is_some found ≡ true → IsErrAnd r (λ e. e ≡ fault.Memory) → Reads found r
wanting found (Ok job) some h = absurd h
wanting found (Err fault.Bad) some h = cc
wanting found (Err fault.Memory) some h = λ none. cc
