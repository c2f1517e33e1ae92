-- What an assembly owes.
use Rattle.std.specs.Prelude.{◌≡◌, ℕ, List, [], ◌∷◌, ◌++◌, length, codes, decimal, Option, Some}
use Rattle.std.specs.Io.KnownBytes.{append_known}
use Rattle.odr_io.specs.Outside.{Held, Holds}
use Rattle.odr_words.specs.declared.job.Job.{Job}
use Rattle.odr_words.specs.declared.job.Job.TheVariants as job
use Rattle.rv32_asm.specs.File.{AsmFile}
use Rattle.odr_task.specs.Verdict.{Verdict, Ended}
use Rattle.odr_task.specs.Files.{Finds, FromFile}
use Rattle.odr_top.specs.Inputs.{IsSource, NoSource}

abbrev pub size_line : ℕ → List ℕ
size_line bytes = decimal bytes ++ codes " bytes" ++ 10 ∷ []

-- these are the bytes of the program, which are saved
abbrev pub assembled : List ℕ → Verdict
assembled file = Ended 0 (size_line (length file)) (Some file)

abbrev pub asm_owes : Option Held → List ℕ → Verdict → Type 0
asm_owes told text verdict = FromFile IsSource NoSource told text (λ file v. v ≡ assembled file) verdict

-- a text was found of which these bytes are the program
pub record IsAssembled (told : Option Held) (name file : List ℕ) : Type 0 where
  pub text : List ℕ
  pub text_held : Finds told name (Some text)
  pub is_file : AsmFile text file

-- A text was assembled: the file holds the program, and its line was printed.
pub record MadeProgram (before after : Option Held) (text elf : List ℕ) (out_before out_after : Option (List ℕ)) : Type 0 where
  pub file : List ℕ
  pub assembled : IsAssembled before text file
  pub saved : Holds after elf file
  pub printed : out_after ≡ append_known out_before (size_line (length file))

abbrev pub Assembled : Option Held → Option Held → Option Job → Option (List ℕ) → Option (List ℕ) → Type 0
Assembled before after words out_before out_after =
    (text elf : List ℕ) → words ≡ Some (job.Asm text elf) → MadeProgram before after text elf out_before out_after
