-- The clauses of all parts over those of the order are the formula of the image and the log.
use Rattle.std.specs.Prelude.{◌≡◌, ℕ, ◌+◌, ◌<◌, List, [], All, Contains, IsSome, is_some, length, Some, None, Bool}
use Rattle.std.proofs.Common.{sym, ap, subst, refl, inl, inr, arith}
use Rattle.std.proofs.lemmas.Bool.{cases_lt, true≢false}
use Rattle.std.proofs.lemmas.List.Elements.{All-contains}
use Rattle.elf_image.specs.Layout.{IsSound}
use Rattle.happens_before.specs.Table.{IsOrderOf}
use Rattle.bv_terms.specs.declared.node.TermId.{TermId}
use Rattle.bv_terms.specs.Shapes.{Shape}
use Rattle.bv_terms.proofs.Terms.{keeps-same}
use Rattle.clause_store.specs.Formula.{Formula as Clauses}
use Rattle.clause_store.specs.UnitRule.{Partial}
use Rattle.clause_store.proofs.Growth.{older_at_rest}
use Rattle.bit_clauses.specs.Bits.{Bits}
use Rattle.encoder.specs.declared.encoder.Encoder.{Encoder}
use Rattle.encoder.specs.Encodes.{IsKnown}
use Rattle.order_places.proofs.Decided.{values_decide}
use Rattle.formula_parts.specs.Order.{DecidesOrder, IsOrder, Setting}
use Rattle.formula_parts.specs.Parts.{Adds, StandsOn}
use Rattle.stands_for.specs.Law.{HasOrder, order_of, variables_from}
use Rattle.stands_for.specs.Whole.{IsWhole}
use Rattle.stands_for.proofs.Given.{decides_all}
use Rattle.stands_for.proofs.Variables.{from_all}
use Rattle.valid_logs.specs.Laws.{ValidFormulasStand}
use Rattle.formula_facts.specs.All.{AddsAll, all_facts}
use Rattle.formula_base.specs.Basis.{setting_of}
use Rattle.read_from.specs.Formulas.{Decide, IsFormulaOf}
use Rattle.read_from.proofs.Listing.{all_listed}
use Rattle.read_from.proofs.Naming.{Based, asked, chosen_in, names, ordered_in}

abbrev pub no_bits : Bits
no_bits = record { sure = None; variables = []; terms = [] }

-- the encoder to which all parts are added
abbrev pub base_of : Based → Encoder
base_of b = record { pool = b.nodes; blaster = no_bits; clauses = b.clauses }

abbrev pub setting_in : Based → Setting
setting_in b = setting_of b.image b.log b.nodes b.known b.base.access

none_known : (pool : List Shape) (clauses : Clauses) → IsKnown (record { pool = pool; blaster = no_bits; clauses = clauses })
none_known pool clauses = record {
  sure = λ l e. absurd (true≢false (sym (ap is_some e)));
  variables = λ width number first e. absurd (true≢false (sym (ap is_some e)));
  terms = λ id built. absurd (omega (arith, built));
}

pub stands_on : (b : Based) → StandsOn (setting_in b) (base_of b)
stands_on b = record {
  known = none_known b.nodes b.clauses;
  terms = keeps-same b.nodes;
  variables = λ width number id less occurs. occurs;
  places = b.base.places;
}

pub all_inside : (b : Based) → All (λ (id : TermId). id.number < length b.nodes) b.paths.constraints
all_inside b k d less = (b.has.are.bits k d less).inside

-- what was added to it
added : (b : Based) (last : Encoder) → AddsAll b.image b.known (base_of b) last b.paths.constraints → Adds (setting_in b) (base_of b) last (all_facts b.known.accesses b.paths.constraints)
added b last all = all (setting_in b) refl b.base.is (stands_on b) (all_inside b)

whole : (b : Based) (last : Encoder) → AddsAll b.image b.known (base_of b) last b.paths.constraints
    → IsWhole (setting_in b) b.walk b.paths (base_of b) last (all_facts b.known.accesses b.paths.constraints)
whole b last all = record {
  is_walk = b.has.is_walk;
  fits = b.has.fits;
  paths_are = b.has.are;
  accesses_are = b.accesses_are;
  stands = stands_on b;
  adds = added b last all;
  all = all_listed (setting_in b) b.paths.constraints;
}

has_order : (b : Based) → HasOrder (setting_in b) (chosen_in b) b.known.places (ordered_in b) b.base.access (base_of b)
has_order b = record { placed = b.base.placed; places = refl; no_variables = refl }

-- ---- the order decides all

pair_given : (b : Based) (v : Partial) → All (λ (x : ℕ). IsSome (v x)) (order_of (chosen_in b) (ordered_in b)).first
    → (k : ℕ) → k < length (ordered_in b).table.pairs → IsSome (v (0 + k))
pair_given b v given k less =
    let has : Contains (variables_from (ordered_in b).first (length (ordered_in b).table.pairs)) ((ordered_in b).first + k) =
    from_all (ordered_in b).first (length (ordered_in b).table.pairs) k less in
    subst (λ (n : ℕ). IsSome (v (n + k))) b.base.placed.literals.first
    (All-contains (λ (x : ℕ). IsSome (v x)) (variables_from (ordered_in b).first (length (ordered_in b).table.pairs)) ((ordered_in b).first + k) given has)

decide : (b : Based) (last : Encoder) → AddsAll b.image b.known (base_of b) last b.paths.constraints → Decide (order_of (chosen_in b) (ordered_in b)).first last.clauses
decide b last all l known v rest given = elim (cases_lt l.var b.clauses.vars) [
  | inl older ↦ (let count = b.base.vars in let zero_and : 0 + l.var ≡ l.var = omega arith in
      subst (λ (n : ℕ). IsSome (v n)) zero_and (pair_given b v given l.var (omega (arith, older, count))))
  | inr newer ↦
      (let of : (lt : ℕ → ℕ → Bool) × IsOrder b.log b.known.accesses lt × DecidesOrder v (setting_in b).places lt =
      values_decide b.image b.log b.walk b.known.accesses (chosen_in b) b.known.places (ordered_in b) b.base.access (record { vars = 0; clauses = [] }) b.clauses
      b.has.is_walk b.has.fits b.base.placed v (older_at_rest b.clauses last.clauses v (added b last all).keeps.grows rest) (pair_given b v given) in
      decides_all (setting_in b) b.walk b.paths (base_of b) last (all_facts b.known.accesses b.paths.constraints) (whole b last all) v of.0
      (record { rest = rest; is_order = of.1; order = of.2 }) l.var newer known)
]

-- ---- all of it

pub formed : (b : Based) (last : Encoder) → AddsAll b.image b.known (base_of b) last b.paths.constraints → IsOrderOf b.known.order b.log → IsSound b.image → ValidFormulasStand
    → IsFormulaOf b.image b.log b.also (record { clauses = last.clauses; ordering = Some (record { order = b.known.order; vars = b.known.vars }) })
formed b last all order_of_log sound stand = record {
  stands = stand (setting_in b) b.walk b.paths (base_of b) last (all_facts b.known.accesses b.paths.constraints) (chosen_in b) b.known.places (ordered_in b) b.base.access
      (whole b last all) (has_order b) sound b.has.valid b.base.terms;
  decide = decide b last all;
  ordering_is = record { walk = b.walk; is_walk = b.has.is_walk; order_of_log = order_of_log; names = names b; asked = asked b };
}
