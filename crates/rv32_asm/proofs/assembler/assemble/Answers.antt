use Rattle.std.proofs.Common.{◌∙◌, ℕ, List, [], sym, subst, length}
use Rattle.std.proofs.lemmas.Bool.{eqb-true, eqb-false}
use Rattle.std.proofs.lemmas.Result.{err_from_is_err_and}
use Rattle.rv32_asm.specs.Seen.{draft_seen}
use Rattle.rv32_asm.specs.File.{AppendsCode}
use Rattle.rv32_asm.proofs.Finishing.{assembled, refused, no_instruction, too_large, in_limits}
use Rattle.rv32_asm.proofs.assembler.assemble.Goals as goal

pub returns-in_err-part-clause-refused : goal.returns-in_err-part-clause-refused
returns-in_err-part-clause-refused c =
    let p = err_from_is_err_and c.from_residual-in_err-part.result c.from_residual-in_err-part.ensures.1 in
    rw (p.1, p.2) (refused c.args.text.now (draft_seen c.in_ok-draft.draft) c.in_err-part.field-0.0 c.in_ok-draft.ensures.value c.in_err-part.ensures)

pub returns-then-is_empty-clause-refused : goal.returns-then-is_empty-clause-refused
returns-then-is_empty-clause-refused c =
    let d = draft_seen c.in_ok-draft.draft in
    let given = c.in_ok-part.ensures in
    let made = subst (λ (t : List ℕ). AppendsCode given.0 [] t) (sym c.as_slice-code.ensures.value) given.2 in
    assembled c.args.text.now d given.0 c.in_ok-draft.ensures.value given.1
    ∙ no_instruction d.lines given.0 d.stored c.as_slice-code.result.now made (eqb-true (length c.as_slice-code.result.now) 0 (sym c.if-is_empty.ensures))

pub returns-then-is_too_large-clause-refused : goal.returns-then-is_too_large-clause-refused
returns-then-is_too_large-clause-refused c =
    let d = draft_seen c.in_ok-draft.draft in
    let given = c.in_ok-part.ensures in
    let made = subst (λ (t : List ℕ). AppendsCode given.0 [] t) (sym c.as_slice-code.ensures.value) given.2 in
    assembled c.args.text.now d given.0 c.in_ok-draft.ensures.value given.1
    ∙ too_large d.lines given.0 d.stored c.as_slice-code.result.now made (eqb-false (length c.as_slice-code.result.now) 0 (sym c.if-is_empty.ensures))
    (sym c.is_too_large.ensures.value ∙ c.if-is_too_large.true)

pub returns-clause-file : goal.returns-clause-file
returns-clause-file c =
    let d = draft_seen c.in_ok-draft.draft in
    let given = c.in_ok-part.ensures in
    let made = subst (λ (t : List ℕ). AppendsCode given.0 [] t) (sym c.as_slice-code.ensures.value) given.2 in
    record {
      program = record { code = given.0; data_bytes = d.stored.bytes };
      assembled = assembled c.args.text.now d given.0 c.in_ok-draft.ensures.value given.1
          ∙ in_limits d.lines given.0 d.stored c.as_slice-code.result.now made (eqb-false (length c.as_slice-code.result.now) 0 (sym c.if-is_empty.ensures))
          (sym c.is_too_large.ensures.value ∙ c.if-is_too_large.false);
      of_program = record {
        text = c.as_slice-code.result.now;
        of_code = made;
        bytes = rw c.as_slice.ensures.value at c.in_ok-file.ensures;
      };
    }
