use Rattle.std.proofs.Common.{◌≡◌, ◌∙◌, ◌++◌, ◌∷◌, [], List, None, ap, subst, sym}
use Rattle.indexmap.proofs.CallerLemmas.{insert_entry-new}
use Rattle.bit_clauses.specs.declared.variable_map.VariableName.{VariableName}
use Rattle.bit_clauses.specs.declared.variables.Variable.{Variable}
use Rattle.bit_clauses.specs.contracts.variable_map.VariableNamePartialEq.TheImpl.{ghosts}
use Rattle.bit_clauses.specs.Bits.{first_of}
use Rattle.bit_clauses.specs.Named.{named}
use Rattle.bit_clauses.proofs.NameLemmas.{absent, named-push}
use Rattle.bit_clauses.proofs.variable_map.VariableMap.push.Goals as goal

pub returns : goal.returns
returns c =
    let x = c.args.variable in
    let name : VariableName = record { width = x.width; number = x.number } in
    let map = c.self.inside.firsts in
    let free : first_of (named map.entries) x.width x.number ≡ None = ap (λ (vs : List Variable). first_of vs x.width x.number) c.self.view_is ∙ c.requires in
    let entries = c.in_ok-insert.ensures.entries ∙ insert_entry-new ghosts.eq map name x.first (absent map.entries name free) in
    subst (λ (vs : List Variable). named c.insert.new.self.entries ≡ vs ++ x ∷ []) c.self.view_is (named-push map.entries c.insert.new.self.entries name x.first entries)
