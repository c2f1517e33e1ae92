-- Files that are too long.
use Rattle.std.specs.Prelude.{◌≡◌, ◌<◌, ◌+◌, ℕ, List, length, replicate, Option, Some, None, refl}
use Rattle.std.specs.Option.{IsSomeAnd}
use Rattle.std.proofs.Common.{arith, sym}
use Rattle.std.proofs.lemmas.List.{length-replicate}
use Rattle.odr_io.specs.Outside.{Held, held_at, HoldsMore}
use Rattle.odr_task.specs.Verdict.{Verdict}
use Rattle.odr_task.specs.Files.{Turns}

turns_held : (held : Held) (name : List ℕ) (limit : ℕ) (large : Verdict) (content : Option (List ℕ)) → held_at held name ≡ content
    → IsSomeAnd content (λ bytes. limit < length bytes) → Turns (Some held) name limit large large
turns_held held name limit large None is more = absurd more
turns_held held name limit large (Some bytes) is more = record { content = Some bytes; finds = is; unfit = (more, refl) }

-- a store that doesn't tell may hold any file that is too long
pub turns_too_long : (told : Option Held) (name : List ℕ) (limit : ℕ) (large : Verdict) → HoldsMore told name limit → Turns told name limit large large
turns_too_long None name limit large more = record {
  content = Some (replicate (limit + 1) 0);
  finds = tt;
  unfit = (let e = length-replicate {A = ℕ} (limit + 1) 0 in omega (arith, e), refl);
}
turns_too_long (Some held) name limit large more = turns_held held name limit large (held_at held name) refl more
