-- Items of a path by their kind.
use Rattle.std.specs.Prelude.{ℕ, Bool, Option, Some, None}
use Rattle.odr_log.specs.declared.log.PathItem.{PathItem}
use Rattle.odr_log.specs.declared.log.PathItem.TheVariants as item

abbrev pub jump_of : Option PathItem → Option ℕ
jump_of (Some (item.Jump target)) = Some target
jump_of (Some (item.Branch taken)) = None
jump_of None = None

abbrev pub branch_of : Option PathItem → Option Bool
branch_of (Some (item.Branch taken)) = Some taken
branch_of (Some (item.Jump target)) = None
branch_of None = None
