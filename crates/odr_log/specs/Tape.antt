-- What a log says of the input and of the output: the bytes that its calls read and wrote.
use Rattle.std.specs.Prelude.{ℕ, List, []}
use Rattle.std.specs.List.{flat_map}
use Rattle.odr_log.specs.declared.log.Call.{Call}
use Rattle.odr_log.specs.declared.log.Call.TheVariants.{Write, Read}
use Rattle.odr_log.specs.declared.log.Log.{Log}

-- the bytes that a call read
abbrev pub read_by : Call → List ℕ
read_by (Read want bytes) = bytes
read_by _ = []

-- the bytes that a call wrote
abbrev pub written_by : Call → List ℕ
written_by (Write bytes) = bytes
written_by _ = []

-- the bytes of all reads, joined in call order
abbrev pub tape_of : Log → List ℕ
tape_of log = flat_map (λ r. read_by r.call) log.calls

-- the bytes of all writes, joined in call order
abbrev pub output_of : Log → List ℕ
output_of log = flat_map (λ r. written_by r.call) log.calls
