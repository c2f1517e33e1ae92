-- A word of another opcode fits no row; what the functions of the opcodes give is the table's, so it is valid.
use Rattle.std.proofs.Common.{◌≡◌, false, sym, arith}
use Rattle.std.proofs.lemmas.Bool.Decides.{nat_tests}
use Rattle.rv32_decode.specs.Fields.{opcode_of}
use Rattle.rv32_decode.proofs.Groups.{is_opcode, decode_of-other}
use Rattle.rv32_decode.proofs.Validity.{valid_since}
use Rattle.rv32_decode.proofs.decoder.decode.Goals as goal

pub returns-in_default-clause-table : goal.returns-in_default-clause-table
returns-in_default-clause-table c =
    let other : is_opcode (opcode_of c.args.word) ≡ false = grind (arith, nat_tests) in
    sym (decode_of-other c.args.word other)

pub returns-in-99-clause-valid : goal.returns-in-99-clause-valid
returns-in-99-clause-valid c = valid_since c.decode_branch.result c.args.word c.decode_branch.ensures

pub returns-in-3-clause-valid : goal.returns-in-3-clause-valid
returns-in-3-clause-valid c = valid_since c.decode_load.result c.args.word c.decode_load.ensures

pub returns-in-19-clause-valid : goal.returns-in-19-clause-valid
returns-in-19-clause-valid c = valid_since c.decode_immediate.result c.args.word c.decode_immediate.ensures

pub returns-in-51-clause-valid : goal.returns-in-51-clause-valid
returns-in-51-clause-valid c = valid_since c.decode_register.result c.args.word c.decode_register.ensures

pub returns-in-47-clause-valid : goal.returns-in-47-clause-valid
returns-in-47-clause-valid c = valid_since c.decode_atomic.result c.args.word c.decode_atomic.ensures

pub returns-in-35-clause-valid : goal.returns-in-35-clause-valid
returns-in-35-clause-valid c = valid_since c.decode_store.result c.args.word c.decode_store.ensures
