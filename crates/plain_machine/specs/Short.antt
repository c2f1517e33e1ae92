-- Texts whose length a word holds.
use Rattle.std.specs.Prelude.{◌<◌, ◌^◌, length}
use Rattle.odr_log.specs.declared.log.Call.{Call}
use Rattle.odr_log.specs.declared.log.Call.TheVariants as call

abbrev pub IsShort : Call → Type 0
IsShort (call.Write bytes) = length bytes < 2 ^ 32
IsShort (call.Read want bytes) = length bytes < 2 ^ 32
IsShort other = Unit {0}
