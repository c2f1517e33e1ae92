use Rattle.std.proofs.Common.{◌++◌, List, ◌∙◌, ap, subst}
use Rattle.clause_store.specs.declared.lit.Lit.{Lit}
use Rattle.bit_clauses.specs.Nodes.{lits_at}
use Rattle.source_clauses.specs.Same.{AddsSame}
use Rattle.same_parts.proofs.Adding.{Steps, says_same}
use Rattle.same_parts.proofs.same.add_same_terms.Goals as goal

pub returns-clause-says : goal.returns-clause-says
returns-clause-says c =
    let steps : Steps = record {
      old = c.args.encoder.now;
      one = c.append.new.self;
      two = c.append-2.new.self;
      read = c.args.read.number;
      source = c.args.source.number;
      read_bits = c.append.new.lits;
      source_bits = c.append-2.new.lits;
      first = c.in_ok-append.ensures.encodes;
      first_built = c.in_ok-append.ensures.built;
      first_pool = c.append.ensures.pool;
      first_bits = c.in_ok-append.ensures.lits ∙ ap (λ (lits : List Lit). lits ++ lits_at c.append.new.self.blaster.terms c.args.read.number) c.new-read_bits.ensures;
      second = c.in_ok-append-2.ensures.encodes;
      second_built = c.in_ok-append-2.ensures.built;
      second_pool = c.append-2.ensures.pool;
      second_bits = c.in_ok-append-2.ensures.lits ∙ ap (λ (lits : List Lit). lits ++ lits_at c.append-2.new.self.blaster.terms c.args.source.number) c.new-source_bits.ensures;
    } in
    says_same steps c.add_same.new.clauses
    (subst (λ (lits : List Lit). AddsSame c.append-2.new.self.clauses c.add_same.new.clauses lits c.append.new.lits) c.as_slice.ensures
    (subst (λ (lits : List Lit). AddsSame c.append-2.new.self.clauses c.add_same.new.clauses c.as_slice.result.now lits) c.as_slice-2.ensures c.in_ok-add_same.ensures.ok))
