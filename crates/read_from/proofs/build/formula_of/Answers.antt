use Rattle.std.proofs.Common.{refl, subst}
use Rattle.clause_store.specs.Formula.{Formula as Clauses}
use Rattle.trace_path.specs.Traced.{walk_of}
use Rattle.formula_base.specs.Basis.{HasPaths, IsBase}
use Rattle.read_from.proofs.Building.{adds_all, are_narrow, are_terms, can_all}
use Rattle.read_from.proofs.Formed.{formed}
use Rattle.read_from.proofs.Naming.{Based}
use Rattle.read_from.proofs.build.formula_of.Goals as goal

pub known_of-requires-clause-terms : goal.known_of-requires-clause-terms
known_of-requires-clause-terms g c =
    let walk = walk_of c.args.traces.now c.requires.traced.notes in
    are_terms c.args.image.now c.args.log.now walk c.run.new.pool c.in_ok-accesses.field-0
    (record {
      is_walk = c.requires.traced.walk;
      fits = c.requires.order_of.fit;
      valid = c.requires.valid;
      are = c.in_ok-accesses.ensures.paths walk c.requires.traced.walk;
    })

pub known_of-requires-clause-narrow : goal.known_of-requires-clause-narrow
known_of-requires-clause-narrow g c =
    let walk = walk_of c.args.traces.now c.requires.traced.notes in
    are_narrow c.args.image.now c.args.log.now walk c.run.new.pool c.in_ok-accesses.field-0
    (record {
      is_walk = c.requires.traced.walk;
      fits = c.requires.order_of.fit;
      valid = c.requires.valid;
      are = c.in_ok-accesses.ensures.paths walk c.requires.traced.walk;
    })

pub add_all-requires : goal.add_all-requires
add_all-requires g c =
    let walk = walk_of c.args.traces.now c.requires.traced.notes in
    let has : HasPaths c.args.image.now c.args.log.now walk c.run.new.pool c.in_ok-accesses.field-0 = record {
      is_walk = c.requires.traced.walk;
      fits = c.requires.order_of.fit;
      valid = c.requires.valid;
      are = c.in_ok-accesses.ensures.paths walk c.requires.traced.walk;
    } in
    let b : Based = record {
      image = c.args.image.now;
      log = c.args.log.now;
      walk = walk;
      nodes = c.run.new.pool;
      paths = c.in_ok-accesses.field-0;
      also = c.args.also.now;
      known = c.in_ok-known.known;
      clauses = c.known_of.new.clauses;
      has = has;
      accesses_are = c.in_ok-known.ensures.accesses;
      base = subst (λ (old : Clauses). IsBase c.args.image.now c.args.log.now c.run.new.pool c.args.also.now c.in_ok-known.known old c.known_of.new.clauses) c.new-clauses.ensures
          (c.in_ok-known.ensures.base c.args.image.now c.args.log.now walk c.in_ok-accesses.field-0 has refl c.requires.order_of);
    } in record { can = can_all b c.new.result c.as_slice.result.now c.new.ensures c.as_slice.ensures }

pub returns : goal.returns
returns g c =
    let walk = walk_of c.args.traces.now c.requires.traced.notes in
    let has : HasPaths c.args.image.now c.args.log.now walk c.run.new.pool c.in_ok-accesses.field-0 = record {
      is_walk = c.requires.traced.walk;
      fits = c.requires.order_of.fit;
      valid = c.requires.valid;
      are = c.in_ok-accesses.ensures.paths walk c.requires.traced.walk;
    } in
    let b : Based = record {
      image = c.args.image.now;
      log = c.args.log.now;
      walk = walk;
      nodes = c.run.new.pool;
      paths = c.in_ok-accesses.field-0;
      also = c.args.also.now;
      known = c.in_ok-known.known;
      clauses = c.known_of.new.clauses;
      has = has;
      accesses_are = c.in_ok-known.ensures.accesses;
      base = subst (λ (old : Clauses). IsBase c.args.image.now c.args.log.now c.run.new.pool c.args.also.now c.in_ok-known.known old c.known_of.new.clauses) c.new-clauses.ensures
          (c.in_ok-known.ensures.base c.args.image.now c.args.log.now walk c.in_ok-accesses.field-0 has refl c.requires.order_of);
    } in
    formed b c.add_all.new.encoder (adds_all b c.new.result c.add_all.new.encoder c.as_slice.result.now c.new.ensures c.as_slice.ensures c.in_ok-add_all.ensures.adds)
    b.base.is.order_of c.laws.ensures c.valid_formulas_stand.ensures
