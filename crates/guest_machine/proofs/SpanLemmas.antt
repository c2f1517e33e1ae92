-- Runs of addresses that were written, and the reservations that they end.
use Rattle.std.specs.Prelude.{◌≡◌, ℕ, zero, suc, ◌+◌, ◌-◌, ◌/◌, ◌^◌, ◌<◌, Bool, true, false, ◌||◌, List, [], ◌∷◌, ◌++◌, length, map, take, drop, nat_eq, refl}
use Rattle.std.proofs.Common.{sym, ◌∙◌, ap, arith, set, get_or}
use Rattle.elf_image.specs.declared.write.Write.{Write}
use Rattle.elf_image.specs.Memory.{next, writes_of, bytes_of}
use Rattle.rv_model.specs.Thread.{touches}
use Rattle.guest_machine.specs.Spans.{touches_from}

pub touches_from-more : (address count done reserved : ℕ) → done < count
    → touches_from address (count - done) reserved ≡ (nat_eq (address / 4) (reserved / 4) || touches_from (next address) (count - (done + 1)) reserved)
touches_from-more address count done reserved within = let e : count - done ≡ suc (count - (done + 1)) = omega arith in ap (λ (n : ℕ). touches_from address n reserved) e

pub ruleset one_byte_more = (touches_from-more)

or_swap : (a b c : Bool) → ((a || b) || c) ≡ (b || (a || c))
or_swap true true c = refl
or_swap true false c = refl
or_swap false true c = refl
or_swap false false c = refl

pub touches-writes_of : (address : ℕ) (bytes : List ℕ) (older : List Write) (reserved : ℕ)
    → touches (writes_of address bytes older) reserved ≡ (touches_from address (length bytes) reserved || touches older reserved)
touches-writes_of address [] older reserved = refl
touches-writes_of address (byte ∷ bytes) older reserved =
    touches-writes_of (next address) bytes (record { address = address; byte = byte } ∷ older) reserved
    ∙ sym (or_swap (nat_eq (address / 4) (reserved / 4)) (touches_from (next address) (length bytes) reserved) (touches older reserved))

or_false : (a : Bool) → (a || false) ≡ a
or_false true = refl
or_false false = refl

pub touches-written : (address : ℕ) (bytes : List ℕ) (reserved : ℕ) → touches (writes_of address bytes []) reserved ≡ touches_from address (length bytes) reserved
touches-written address bytes reserved = touches-writes_of address bytes [] reserved ∙ or_false (touches_from address (length bytes) reserved)

pub length-bytes_of : (count value : ℕ) → length (bytes_of count value) ≡ count
length-bytes_of zero value = refl
length-bytes_of (suc count) value = ap suc (length-bytes_of count (value / 2 ^ 8))

pub touches-stored : (address count value reserved : ℕ) → touches (writes_of address (bytes_of count value) []) reserved ≡ touches_from address count reserved
touches-stored address count value reserved =
    touches-written address (bytes_of count value) reserved ∙ ap (λ (n : ℕ). touches_from address n reserved) (length-bytes_of count value)

pub ruleset written_spans = (touches-written, touches-stored, length-bytes_of)

-- one element more is changed in place
pub changed_in_place : {T : Type 0} (f : T → T) (xs : List T) (i : ℕ) (d : T) → i < length xs
    → set (map f (take i xs) ++ drop i xs) i (f (get_or xs i d)) ≡ map f (take (suc i) xs) ++ drop (suc i) xs
changed_in_place f [] i d within = absurd (omega arith)
changed_in_place f (x ∷ xs) zero d within = refl
changed_in_place {T} f (x ∷ xs) (suc i) d within = ap (λ (ys : List T). f x ∷ ys) (changed_in_place f xs i d (omega arith))

pub seen_in_place : {T : Type 0} (f : T → T) (xs : List T) (i : ℕ) (d : T) → i < length xs → get_or (map f (take i xs) ++ drop i xs) i d ≡ get_or xs i d
seen_in_place f [] i d within = absurd (omega arith)
seen_in_place f (x ∷ xs) zero d within = refl
seen_in_place f (x ∷ xs) (suc i) d within = seen_in_place f xs i d (omega arith)
