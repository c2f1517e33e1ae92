use Rattle.std.proofs.Common.{◌≡◌, subst, sym}
use Rattle.clause_store.specs.Literals.{literal_value}
use Rattle.bit_gates.specs.Gate.{IsGate, BothGive, joined, both, either, differ}
use Rattle.bit_clauses.specs.declared.gate.Gate.{Gate}
use Rattle.bit_clauses.specs.Bitwise.{gate_of}
use Rattle.bit_clauses.specs.Circuit.{IsCircuit, Decides}
use Rattle.bit_clauses.proofs.Built.{if_both}
use Rattle.bit_clauses.proofs.Gates.{by_gate}
use Rattle.bit_clauses.proofs.bitwise.one.Goals as goal

pub returns-in-And-clause-circuit : goal.returns-in-And-clause-circuit
returns-in-And-clause-circuit c =
    if_both c.and.result (λ out. IsGate c.args.clauses.now c.and.new.clauses (joined both c.args.a c.args.b) out) (λ out. BothGive both c.and.new.clauses.clauses c.args.a c.args.b out)
    (λ out. IsCircuit c.args.clauses.now c.and.new.clauses (λ v. Decides v c.args.a × Decides v c.args.b) (λ v. Decides v out) (λ w. literal_value w out ≡ gate_of c.args.gate (literal_value w c.args.a) (literal_value w c.args.b)))
    (λ out g h. subst (λ (k : Gate). IsCircuit c.args.clauses.now c.and.new.clauses (λ v. Decides v c.args.a × Decides v c.args.b) (λ v. Decides v out) (λ w. literal_value w out ≡ gate_of k (literal_value w c.args.a) (literal_value w c.args.b)))
    (sym c.in-And.is) (by_gate c.args.clauses.now c.and.new.clauses both c.args.a c.args.b out g h))
    c.and.ensures.gate c.and.ensures.given

pub returns-in-Or-clause-circuit : goal.returns-in-Or-clause-circuit
returns-in-Or-clause-circuit c =
    if_both c.or.result (λ out. IsGate c.args.clauses.now c.or.new.clauses (joined either c.args.a c.args.b) out) (λ out. BothGive either c.or.new.clauses.clauses c.args.a c.args.b out)
    (λ out. IsCircuit c.args.clauses.now c.or.new.clauses (λ v. Decides v c.args.a × Decides v c.args.b) (λ v. Decides v out) (λ w. literal_value w out ≡ gate_of c.args.gate (literal_value w c.args.a) (literal_value w c.args.b)))
    (λ out g h. subst (λ (k : Gate). IsCircuit c.args.clauses.now c.or.new.clauses (λ v. Decides v c.args.a × Decides v c.args.b) (λ v. Decides v out) (λ w. literal_value w out ≡ gate_of k (literal_value w c.args.a) (literal_value w c.args.b)))
    (sym c.in-Or.is) (by_gate c.args.clauses.now c.or.new.clauses either c.args.a c.args.b out g h))
    c.or.ensures.gate c.or.ensures.given

pub returns-in-Xor-clause-circuit : goal.returns-in-Xor-clause-circuit
returns-in-Xor-clause-circuit c =
    if_both c.xor.result (λ out. IsGate c.args.clauses.now c.xor.new.clauses (joined differ c.args.a c.args.b) out) (λ out. BothGive differ c.xor.new.clauses.clauses c.args.a c.args.b out)
    (λ out. IsCircuit c.args.clauses.now c.xor.new.clauses (λ v. Decides v c.args.a × Decides v c.args.b) (λ v. Decides v out) (λ w. literal_value w out ≡ gate_of c.args.gate (literal_value w c.args.a) (literal_value w c.args.b)))
    (λ out g h. subst (λ (k : Gate). IsCircuit c.args.clauses.now c.xor.new.clauses (λ v. Decides v c.args.a × Decides v c.args.b) (λ v. Decides v out) (λ w. literal_value w out ≡ gate_of k (literal_value w c.args.a) (literal_value w c.args.b)))
    (sym c.in-Xor.is) (by_gate c.args.clauses.now c.xor.new.clauses differ c.args.a c.args.b out g h))
    c.xor.ensures.gate c.xor.ensures.given
