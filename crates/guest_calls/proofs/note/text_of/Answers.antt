use Rattle.std.proofs.Common.{◌<◌, ℕ, List, length, get_or, subst, sym, arith}
use Rattle.std.proofs.lemmas.Result.{IfOk-weaker}
use Rattle.std.proofs.lemmas.List.{get_or_default}
use Rattle.odr_log.specs.Grammar.{IsText}
use Rattle.guest_calls.proofs.note.text_of.Goals as goal

bytes_fit : (xs : List ℕ) → ((k : ℕ) → get_or xs k 0 < 256) → (k d : ℕ) → k < length xs → get_or xs k d < 256
bytes_fit xs fits k d within = subst (λ (x : ℕ). x < 256) (get_or_default xs k 0 d within) (fits k)

pub returns-clause-spelled : goal.returns-clause-spelled
returns-clause-spelled c =
    IfOk-weaker c.from_slice.result _ _
    (λ text same. subst IsText (sym same) (omega arith, bytes_fit c.args.bytes.now (λ k. (c.type_inv.bytes k).fits)))
    c.from_slice.ensures
