-- Bytes that are handed out and written a piece at a time.
use Rattle.std.proofs.Common.{◌≡◌, ℕ, ◌+◌, ◌-◌, ◌<◌, ◌≤◌, List, ◌++◌, length, take, drop, min, Option, None, Some, IfSome, sym, ap, ◌∙◌, arith, length-drop, length-take, length-append}
use Rattle.std.proofs.lemmas.List.{take_all, take-append-le, take-append-drop, drop-drop}
use Rattle.std.proofs.lemmas.Option.{none-some, same_Some}
use Rattle.std.proofs.Math.Seq.{take-add}
use Rattle.std.specs.Io.KnownBytes.{append_known, prepend_known}
use Rattle.odr_io.specs.Written.{append_known-append_known}

-- the slice from `at` to the end
slice_from : (bytes : List ℕ) (at : ℕ) → take (length bytes - at) (drop at bytes) ≡ drop at bytes
slice_from bytes at = take_all (length bytes - at) (drop at bytes) (omega (arith, length-drop at bytes))

-- the first `done` bytes and then a piece of `count` of the rest are the first `done + count`
pub append-piece : (told : Option (List ℕ)) (bytes : List ℕ) (done count : ℕ)
    → append_known (append_known told (take done bytes)) (take count (take (length bytes - done) (drop done bytes)))
    ≡ append_known told (take (done + count) bytes)
append-piece told bytes done count =
    append_known-append_known told (take done bytes) _
    ∙ ap (append_known told) (ap (λ piece. take done bytes ++ take count piece) (slice_from bytes done) ∙ sym (take-add done count bytes))

-- the bytes that are left are those that were copied to the front of `into`, and then those left after them
pub left-handed : (bytes copied into : List ℕ) (at count : ℕ)
    → copied ≡ take count (take (length bytes - at) (drop at bytes))
    → count ≡ min (length (take (length bytes - at) (drop at bytes))) (length into)
    → drop at bytes ≡ take count (copied ++ drop count into) ++ drop (at + count) bytes
left-handed bytes copied into at count copies counts =
    let enough : count ≤ length (drop at bytes) = omega (arith, counts, ap length (slice_from bytes at)) in
    let copied_is : copied ≡ take count (drop at bytes) = copies ∙ ap (take count) (slice_from bytes at) in
    let copied_length : length copied ≡ count = omega (arith, ap length copied_is, length-take count (drop at bytes)) in
    let front : take count (copied ++ drop count into) ≡ copied =
    take-append-le count copied (drop count into) (omega arith) ∙ take_all count copied (omega arith) in
    sym (take-append-drop count (drop at bytes))
    ∙ ap (λ back. take count (drop at bytes) ++ back) (drop-drop count at bytes)
    ∙ ap (λ first. first ++ drop (at + count) bytes) (sym copied_is ∙ sym front)

-- a source has more than `limit` bytes where what was read and the next piece are more
pub more_than : (told at_turn after : Option (List ℕ)) (start read piece : List ℕ) (limit : ℕ)
    → prepend_known start told ≡ prepend_known read at_turn → at_turn ≡ prepend_known piece after
    → limit < length read + length piece → IfSome told (λ left. limit < length start + length left)
more_than None at_turn after start read piece limit same handed more = tt
more_than (Some left) None after start read piece limit same handed more = absurd (none-some _ (sym same))
more_than (Some left) (Some rest) None start read piece limit same handed more = absurd (none-some _ (sym handed))
more_than (Some left) (Some rest) (Some later) start read piece limit same handed more =
    omega (arith, ap length (same_Some _ _ same), ap length (same_Some _ _ handed), length-append {A = ℕ})
