use Rattle.std.proofs.Common.{◌≡◌, ◌∙◌, List, subst, sym}
use Rattle.bit_clauses.specs.declared.variable_map.VariableName.{VariableName}
use Rattle.bit_clauses.specs.declared.variables.Variable.{Variable}
use Rattle.bit_clauses.specs.Bits.{first_of}
use Rattle.bit_clauses.proofs.NameLemmas.{first_by_name}
use Rattle.bit_clauses.proofs.variable_map.VariableMap.first.Goals as goal

pub returns : goal.returns
returns c =
    let name : VariableName = record { width = c.args.width; number = c.args.number } in
    subst (λ (vs : List Variable). c.copied.result ≡ first_of vs c.args.width c.args.number) c.self.view_is
    (c.copied.ensures ∙ c.get.ensures.value ∙ sym (first_by_name c.self.inside.firsts.entries name))
