-- What an instruction did that left the memory alone.
use Rattle.std.specs.Prelude.{List, Result, refl}
use Rattle.std.proofs.Common.{sym, ap}
use Rattle.elf_image.specs.declared.write.Write.{Write}
use Rattle.elf_image.specs.Memory.{Cells, cells_after}
use Rattle.odr_log.specs.declared.log.Cause.{Cause}
use Rattle.rv_model.specs.declared.state.Local.{Local}
use Rattle.rv_model.specs.declared.hearing.Outcome.{Outcome}
use Rattle.rv_model.specs.declared.hearing.Outcome.TheVariants.{Faults, Goes}
use Rattle.guest_machine.specs.declared.note.Note.{Note}
use Rattle.guest_machine.specs.Ran.{Ran, RanAlone}

pub ran_alone : (cells : Cells) (old : Local) (outcome : Outcome) (result : Result Note Cause) (now : Local) → RanAlone old outcome result now → Ran cells old outcome result now cells
ran_alone cells old (Faults fault) result now (err, same) = record { err = err; local_is = same; memory = λ address. refl }
ran_alone cells old (Goes local writes shown) result now (note, ok, shows, same, none) = record { note = note; ok = ok; shows = shows; local_is = same; memory = λ address. ap (λ (written : List Write). cells_after cells written address) (sym none) }
