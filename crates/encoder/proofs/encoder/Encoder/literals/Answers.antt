use Rattle.std.proofs.Common.{◌≡◌, ◌<◌, [], ℕ, List, take, take_all, length, get_or, sym, subst, refl, rules, arith}
use Rattle.bv_terms.specs.declared.node.TermId.{TermId}
use Rattle.std.specs.Prelude.{Contains}
use Rattle.encoder.specs.Encodes.{AreBuilt, Encodes, joined}
use Rattle.encoder.proofs.Encoding.{HasJoined, encodes_none, joined_more, get_or_any, numbers, numbers_more}
use Rattle.encoder.proofs.encoder.Encoder.literals.Goals as goal

pub loop-k-init : goal.loop-k-init
loop-k-init c = record {
  encodes = encodes_none c.args.self.now [] c.requires.known;
  built = λ (id : ℕ) (listed : Contains [] id). absurd (omega (arith, listed.1));
  lits_are = c.new-lits.ensures;
  same = refl;
}

pub loop-k-preserved : goal.loop-k-preserved
loop-k-preserved c =
    let terms = c.args.terms.now in
    let k = c.loop-k.k in
    let id = get_or terms k (record { number = 0 }) in
    let within : k < length terms = first_of (search rules, omega arith) in
    subst (λ (xs : List ℕ). HasJoined c.args.self.now c.append.new.self xs c.append.new.lits) (sym (numbers_more terms k id within (get_or_any terms k (record { number = 0 }) id within)))
    (joined_more c.args.self.now c.loop-k.self c.append.new.self (numbers (take k terms)) c.loop-k.lits c.append.new.lits id.number c.loop-k.invariant
    c.in_ok-append.ensures.encodes c.in_ok-append.ensures.built c.in_ok-append.ensures.lits c.append.ensures.pool)

pub returns-clause-encodes : goal.returns-clause-encodes
returns-clause-encodes c =
    let done : take c.loop-k.k c.args.terms.now ≡ c.args.terms.now = take_all c.loop-k.k c.args.terms.now c.loop-k-test.false in
    subst (λ (xs : List TermId). Encodes c.args.self.now c.loop-k.self (numbers xs)) done c.loop-k.invariant.encodes

pub returns-clause-built : goal.returns-clause-built
returns-clause-built c =
    let done : take c.loop-k.k c.args.terms.now ≡ c.args.terms.now = take_all c.loop-k.k c.args.terms.now c.loop-k-test.false in
    subst (λ (xs : List TermId). AreBuilt c.loop-k.self (numbers xs)) done c.loop-k.invariant.built

pub returns-clause-lits : goal.returns-clause-lits
returns-clause-lits c =
    let done : take c.loop-k.k c.args.terms.now ≡ c.args.terms.now = take_all c.loop-k.k c.args.terms.now c.loop-k-test.false in
    subst (λ (xs : List TermId). c.loop-k.lits ≡ joined c.loop-k.self.blaster.terms (numbers xs)) done c.loop-k.invariant.lits_are
