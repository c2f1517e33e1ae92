use Rattle.std.proofs.Common.{sym, arith, ap, length}
use Rattle.rv32_asm.proofs.Find.{atomic_fits}
use Rattle.rv32_asm.proofs.mnemonic.atomic_named.Goals as goal

pub slice_bounds-result-count : goal.slice_bounds-result-count
slice_bounds-result-count c = let fits = atomic_fits c.args.word.now c.in_ok-atomic.atomic (sym c.in_ok-atomic.ensures) in omega (arith, fits, ap length c.atomic_name-name.ensures)

pub slice_bounds-result-start : goal.slice_bounds-result-start
slice_bounds-result-start c = let fits = atomic_fits c.args.word.now c.in_ok-atomic.atomic (sym c.in_ok-atomic.ensures) in omega (arith, fits, ap length c.atomic_name-name.ensures)
