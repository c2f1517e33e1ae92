use Rattle.std.proofs.Common.{◌≡◌, ℕ, List, get_or, Some, sym, ◌∙◌, ap}
use Rattle.rv32_decode.specs.declared.instr.Instr.TheVariants as instr
use Rattle.rv_model.specs.declared.walk.Place.{Place}
use Rattle.trace_path.specs.Traced.{Traced}
use Rattle.trace_path.proofs.WholeLemmas.{place_read}
use Rattle.trace_path.proofs.traces.Traces.instr.Goals as goal

pub returns : goal.returns
returns c =
    let none : Place = record { pc = 0; instr = instr.Lui 0 0 } in
    let row : List Place = c.index-as_slice-from.result in
    let view : c.self.inside.places ≡ c.args.self.now.places = first_of (assumption (ap (λ (t : Traced). t.places) c.self.view_is), assumption (ap (λ (t : Traced). t.places) (sym c.self.view_is))) in
    let read : row ≡ get_or c.args.self.now.places c.args.at.thread row =
    c.index-as_slice-from.is ∙ ap (λ (ps : List (List Place)). get_or ps c.from.result row) (c.as_slice.ensures ∙ view)
    ∙ ap (λ (t : ℕ). get_or c.args.self.now.places t row) c.from.ensures in
    place_read c.args.self.now.places c.args.at.thread c.args.at.step row none read c.requires
    ∙ ap (λ (r : List Place). Some (get_or r c.args.at.step none)) (sym c.as_slice-2.ensures)
