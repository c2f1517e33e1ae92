-- The check that a fault names.
use Rattle.std.specs.Prelude.{◌≡◌, List, ℕ, Option, Some, None, IfSome}
use Rattle.elf_image.specs.declared.fault.Check.{Check}
use Rattle.elf_image.specs.declared.fault.Check.TheVariants as check
use Rattle.elf_image.specs.declared.fault.ElfFault.{ElfFault}
use Rattle.elf_image.specs.declared.fault.ElfFault.TheVariants as fault
use Rattle.elf_image.specs.Checks.{first_check}

-- none for want of memory
abbrev pub check_of : ElfFault → Option Check
check_of fault.Short = Some check.Short
check_of fault.Magic = Some check.Magic
check_of fault.Class = Some check.Class
check_of fault.Kind = Some check.Kind
check_of fault.Machine = Some check.Machine
check_of fault.Compressed = Some check.Compressed
check_of fault.Headers = Some check.Headers
check_of fault.Dynamic = Some check.Dynamic
check_of fault.NoLoad = Some check.NoLoad
check_of fault.TooManyLoads = Some check.TooManyLoads
check_of fault.Range = Some check.Range
check_of fault.WritableCode = Some check.WritableCode
check_of fault.Overlap = Some check.Overlap
check_of fault.TooLarge = Some check.TooLarge
check_of fault.EntryOutside = Some check.EntryOutside
check_of fault.Memory = None

-- a fault is want of memory, or the first check that fails
abbrev pub IsFirstFault : List ℕ → ElfFault → Type 0
IsFirstFault file fault = IfSome (check_of fault) (λ check. first_check file ≡ Some check)
