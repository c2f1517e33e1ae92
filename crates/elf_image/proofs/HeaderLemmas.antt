-- The table of program headers, one header more at its end.
use Rattle.std.proofs.Common.{◌≡◌, ℕ, zero, suc, ◌+◌, ◌*◌, List, [], ◌∷◌, ◌++◌, ap, ◌∙◌, arith}
use Rattle.elf_image.specs.declared.header.ProgramHeader.{ProgramHeader}
use Rattle.elf_image.specs.Fields.{header_at, headers_from}

pub headers_from-more : (file : List ℕ) (at count : ℕ) → headers_from file at (count + 1) ≡ headers_from file at count ++ header_at file (at + 32 * count) ∷ []
headers_from-more file at zero = let e : at ≡ at + 32 * 0 = omega arith in ap (λ (n : ℕ). header_at file n ∷ []) e
headers_from-more file at (suc count) =
    let here : suc count + 1 ≡ suc (count + 1) = omega arith in
    let next : (at + 32) + 32 * count ≡ at + 32 * suc count = omega arith in
    ap (λ (n : ℕ). headers_from file at n) here
    ∙ ap (λ (l : List ProgramHeader). header_at file at ∷ l) (headers_from-more file (at + 32) count)
    ∙ ap (λ (n : ℕ). headers_from file at (suc count) ++ header_at file n ∷ []) next

pub ruleset table = (headers_from-more)
