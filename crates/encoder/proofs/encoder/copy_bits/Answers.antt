use Rattle.std.proofs.Common.{◌≡◌, ◌+◌, ◌<◌, ◌∷◌, ◌++◌, [], ◌∙◌, sym, ap, take, length, List, rules, arith}
use Rattle.std.proofs.lemmas.List.{append_assoc}
use Rattle.clause_store.specs.declared.lit.Lit.{Lit}
use Rattle.encoder.proofs.Encoding.{take_more}
use Rattle.encoder.proofs.encoder.copy_bits.Goals as goal

pub loop-k-preserved : goal.loop-k-preserved
loop-k-preserved c =
    let bits = c.args.bits.now in
    let k = c.loop-k.k in
    let within : k < length bits = first_of (search rules, omega arith) in
    let next : take (k + 1) bits ≡ take k bits ++ c.bit.result ∷ [] = take_more bits k c.bit.result within (c.bit.ensures c.bit.result) in
    c.in_ok-push.ensures ∙ ap (λ (xs : List Lit). xs ++ c.bit.result ∷ []) c.loop-k.invariant
    ∙ append_assoc c.args.lits.now (take k bits) (c.bit.result ∷ []) ∙ ap (λ (xs : List Lit). c.args.lits.now ++ xs) (sym next)
