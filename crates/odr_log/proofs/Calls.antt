-- The readers of calls belong to their spelling.
use Rattle.std.proofs.Common.{◌≡◌, ℕ, zero, suc, ◌-◌, ◌^◌, ◌<◌, ◌≤◌, Bool, true, false, List, [], ◌∷◌, ◌++◌, Option, Some, None, Result, Ok, refl, arith}
use Rattle.std.specs.Prelude.{◌==◌, if◌then◌else◌, IfSome}
use Rattle.std.specs.Int.{w32, to_le_bytes}
use Rattle.std.proofs.lemmas.Bool.{eqb-true, eqb-false, ne_eqb}
use Rattle.std.proofs.lemmas.List.Elements.{All-nil}
use Rattle.byteorder.specs.Endian.{little_bytes}
use Rattle.odr_log.specs.declared.log.Call.{Call}
use Rattle.odr_log.specs.declared.log.Call.TheVariants as call
use Rattle.odr_log.specs.declared.log.CallRec.{CallRec}
use Rattle.odr_log.specs.Grammar.{text_bytes, flag_bytes, kind_of, child_of, fields_of, record_bytes, IsText, IsCall, IsRecord}
use Rattle.odr_log.specs.Reading.{◌>>=◌, mapped, byte_at, number_at, flag_at, text_at, flagged_at, child_at, spawned_at, wanted_at, fields_at, record_at}
use Rattle.odr_log.proofs.Readers.{IsReader, then-reader, done-reader, made-reader, pair-reader}
use Rattle.odr_log.proofs.Bytes.{IsBetween, one_byte, byte-reader}
use Rattle.odr_log.proofs.Threads.{Any, word-reader, flag-reader, text-reader}

-- ---- the shapes of fields

abbrev IsFlagged : ℕ × Bool → Type 0
IsFlagged x = (x.0 < 2 ^ 32) × Any x.1

abbrev flagged_bytes : ℕ × Bool → List ℕ
flagged_bytes x = little_bytes 4 x.0 ++ flag_bytes x.1

flagged-reader : IsReader IsFlagged flagged_bytes flagged_at
unfolding flagged_at
flagged-reader = pair-reader (λ n. n < 2 ^ 32) (to_le_bytes w32) (number_at w32) Any flag_bytes flag_at word-reader flag-reader false tt

abbrev IsChild : Option ℕ → Type 0
IsChild child = IfSome child (λ c. c < 255)

abbrev child_bytes : Option ℕ → List ℕ
child_bytes child = child_of child ∷ []

abbrev child_from : ℕ → Option ℕ
child_from b = if b == 255 then None else Some b

some_child : (b : ℕ) (is_none : Bool) → (b == 255) ≡ is_none → b ≤ 255 → IsChild (child_from b) × (child_bytes (child_from b) ≡ one_byte b)
some_child b true e le = rw e (tt, rw (eqb-true b 255 e) refl)
some_child b false e le = let ne = eqb-false b 255 e in rw e ((let h : b < 255 = omega arith in h), refl)

child_made : (child : Option ℕ) → IsChild child → (b : ℕ) × IsBetween 0 255 b × (child ≡ child_from b)
child_made None h = (255, (omega arith, omega arith), refl)
child_made (Some c) h = (c, (omega arith, omega arith), let e : (c == 255) ≡ false = ne_eqb c 255 (λ is. omega arith) in rw e refl)

child-reader : IsReader IsChild child_bytes child_at
unfolding child_at
child-reader = made-reader (IsBetween 0 255) one_byte (byte_at 0 255) IsChild child_bytes child_from (byte-reader 0 255 (omega arith)) (record {
  some = λ b h. some_child b (b == 255) refl h.1;
  made = child_made;
})

abbrev IsSpawned : ℕ × Option ℕ → Type 0
IsSpawned x = (x.0 < 2 ^ 32) × IsChild x.1

abbrev spawned_bytes : ℕ × Option ℕ → List ℕ
spawned_bytes x = little_bytes 4 x.0 ++ child_bytes x.1

spawned-reader : IsReader IsSpawned spawned_bytes spawned_at
unfolding spawned_at
spawned-reader = pair-reader (λ n. n < 2 ^ 32) (to_le_bytes w32) (number_at w32) IsChild child_bytes child_at word-reader child-reader None tt

abbrev IsWanted : ℕ × List ℕ → Type 0
IsWanted x = (x.0 < 2 ^ 32) × IsText x.1

abbrev wanted_bytes : ℕ × List ℕ → List ℕ
wanted_bytes x = little_bytes 4 x.0 ++ text_bytes x.1

wanted-reader : IsReader IsWanted wanted_bytes wanted_at
unfolding wanted_at
wanted-reader = pair-reader (λ n. n < 2 ^ 32) (to_le_bytes w32) (number_at w32) IsText text_bytes text_at word-reader text-reader [] (omega arith, All-nil (λ b. b < 256))

-- a call of one kind
abbrev IsOfKind : ℕ → Call → Type 0
IsOfKind kind c = IsCall c × (kind_of c ≡ kind)

-- ---- calls with no field

bare-reader : (kind : ℕ) (c : Call) → IsCall c → kind_of c ≡ kind → fields_of c ≡ [] → ((y : Call) → kind_of y ≡ kind → y ≡ c) → IsReader (IsOfKind kind) fields_of (λ bytes. Ok (c, bytes))
bare-reader kind c h e nothing only = done-reader (IsOfKind kind) fields_of c (h, e) (λ y g. only y g.1) nothing

only_end : (c : Call) → kind_of c ≡ 0x02 → c ≡ call.EndThread
only_end call.EndThread e = refl
only_end c e = absurd cc

only_self : (c : Call) → kind_of c ≡ 0x0a → c ≡ call.SelfId
only_self call.SelfId e = refl
only_self c e = absurd cc

only_yield : (c : Call) → kind_of c ≡ 0x0b → c ≡ call.Yield
only_yield call.Yield e = refl
only_yield c e = absurd cc

only_write_bad : (c : Call) → kind_of c ≡ 0x0c → c ≡ call.WriteBad
only_write_bad call.WriteBad e = refl
only_write_bad c e = absurd cc

only_read_bad : (c : Call) → kind_of c ≡ 0x0d → c ≡ call.ReadBad
only_read_bad call.ReadBad e = refl
only_read_bad c e = absurd cc

-- ---- calls with fields

exit_made : (c : Call) → IsOfKind 0x01 c → (code : ℕ) × (code < 2 ^ 32) × (c ≡ call.Exit code)
exit_made (call.Exit code) g = (code, g.0, refl)
exit_made c g = let e = g.1 in absurd cc

unknown_made : (c : Call) → IsOfKind 0x0e c → (number : ℕ) × (number < 2 ^ 32) × (c ≡ call.Unknown number)
unknown_made (call.Unknown number) g = (number, g.0, refl)
unknown_made c g = let e = g.1 in absurd cc

join_made : (c : Call) → IsOfKind 0x04 c → (x : ℕ × Bool) × IsFlagged x × (c ≡ call.Join x.0 x.1)
join_made (call.Join target ok) g = ((target, ok), (g.0, tt), refl)
join_made c g = let e = g.1 in absurd cc

lock_made : (c : Call) → IsOfKind 0x05 c → (x : ℕ × Bool) × IsFlagged x × (c ≡ call.Lock x.0 x.1)
lock_made (call.Lock mutex ok) g = ((mutex, ok), (g.0, tt), refl)
lock_made c g = let e = g.1 in absurd cc

unlock_made : (c : Call) → IsOfKind 0x06 c → (x : ℕ × Bool) × IsFlagged x × (c ≡ call.Unlock x.0 x.1)
unlock_made (call.Unlock mutex ok) g = ((mutex, ok), (g.0, tt), refl)
unlock_made c g = let e = g.1 in absurd cc

trylock_made : (c : Call) → IsOfKind 0x07 c → (x : ℕ × Bool) × IsFlagged x × (c ≡ call.TryLock x.0 x.1)
trylock_made (call.TryLock mutex got) g = ((mutex, got), (g.0, tt), refl)
trylock_made c g = let e = g.1 in absurd cc

write_made : (c : Call) → IsOfKind 0x08 c → (bytes : List ℕ) × IsText bytes × (c ≡ call.Write bytes)
write_made (call.Write bytes) g = (bytes, g.0, refl)
write_made c g = let e = g.1 in absurd cc

spawn_made : (c : Call) → IsOfKind 0x03 c → (x : ℕ × Option ℕ) × IsSpawned x × (c ≡ call.Spawn x.0 x.1)
spawn_made (call.Spawn entry child) g = ((entry, child), g.0, refl)
spawn_made c g = let e = g.1 in absurd cc

read_made : (c : Call) → IsOfKind 0x09 c → (x : ℕ × List ℕ) × IsWanted x × (c ≡ call.Read x.0 x.1)
read_made (call.Read want bytes) g = ((want, bytes), g.0, refl)
read_made c g = let e = g.1 in absurd cc

-- ---- by their kinds

flagged-by : (kind : ℕ) (make : ℕ × Bool → Call) → ((x : ℕ × Bool) → IsFlagged x → IsOfKind kind (make x) × (fields_of (make x) ≡ flagged_bytes x))
    → ((c : Call) → IsOfKind kind c → (x : ℕ × Bool) × IsFlagged x × (c ≡ make x)) → IsReader (IsOfKind kind) fields_of (λ bytes. mapped make (flagged_at bytes))
flagged-by kind make some made = made-reader IsFlagged flagged_bytes flagged_at (IsOfKind kind) fields_of make flagged-reader (record { some = some; made = made })

word-by : (kind : ℕ) (make : ℕ → Call) → ((n : ℕ) → n < 2 ^ 32 → IsOfKind kind (make n) × (fields_of (make n) ≡ to_le_bytes w32 n))
    → ((c : Call) → IsOfKind kind c → (n : ℕ) × (n < 2 ^ 32) × (c ≡ make n)) → IsReader (IsOfKind kind) fields_of (λ bytes. mapped make (number_at w32 bytes))
word-by kind make some made = made-reader (λ n. n < 2 ^ 32) (to_le_bytes w32) (number_at w32) (IsOfKind kind) fields_of make word-reader (record { some = some; made = made })

-- what holds of each of the kinds
each_kind : (P : ℕ → Type 0) → P 0x01 → P 0x02 → P 0x03 → P 0x04 → P 0x05 → P 0x06 → P 0x07 → P 0x08 → P 0x09 → P 0x0a → P 0x0b → P 0x0c → P 0x0d → P 0x0e
    → (kind : ℕ) → IsBetween 0x01 0x0e kind → P kind
each_kind P a b c d e f g h i j k l m n zero is = absurd (omega (arith, is.0))
each_kind P a b c d e f g h i j k l m n (suc zero) is = a
each_kind P a b c d e f g h i j k l m n (suc (suc zero)) is = b
each_kind P a b c d e f g h i j k l m n (suc (suc (suc zero))) is = c
each_kind P a b c d e f g h i j k l m n (suc (suc (suc (suc zero)))) is = d
each_kind P a b c d e f g h i j k l m n (suc (suc (suc (suc (suc zero))))) is = e
each_kind P a b c d e f g h i j k l m n (suc (suc (suc (suc (suc (suc zero)))))) is = f
each_kind P a b c d e f g h i j k l m n (suc (suc (suc (suc (suc (suc (suc zero))))))) is = g
each_kind P a b c d e f g h i j k l m n (suc (suc (suc (suc (suc (suc (suc (suc zero)))))))) is = h
each_kind P a b c d e f g h i j k l m n (suc (suc (suc (suc (suc (suc (suc (suc (suc zero))))))))) is = i
each_kind P a b c d e f g h i j k l m n (suc (suc (suc (suc (suc (suc (suc (suc (suc (suc zero)))))))))) is = j
each_kind P a b c d e f g h i j k l m n (suc (suc (suc (suc (suc (suc (suc (suc (suc (suc (suc zero))))))))))) is = k
each_kind P a b c d e f g h i j k l m n (suc (suc (suc (suc (suc (suc (suc (suc (suc (suc (suc (suc zero)))))))))))) is = l
each_kind P a b c d e f g h i j k l m n (suc (suc (suc (suc (suc (suc (suc (suc (suc (suc (suc (suc (suc zero))))))))))))) is = m
each_kind P a b c d e f g h i j k l m n (suc (suc (suc (suc (suc (suc (suc (suc (suc (suc (suc (suc (suc (suc zero)))))))))))))) is = n
each_kind P a b c d e f g h i j k l m n (suc (suc (suc (suc (suc (suc (suc (suc (suc (suc (suc (suc (suc (suc (suc more))))))))))))))) is = absurd (omega (arith, is.1))

fields-reader : (kind : ℕ) → IsBetween 0x01 0x0e kind → IsReader (IsOfKind kind) fields_of (fields_at kind)
unfolding fields_at
fields-reader = each_kind (λ kind. IsReader (IsOfKind kind) fields_of (fields_at kind))
    (word-by 0x01 call.Exit (λ n lt. ((lt, refl), refl)) exit_made)
    (bare-reader 0x02 call.EndThread tt refl refl only_end)
    (made-reader IsSpawned spawned_bytes spawned_at (IsOfKind 0x03) fields_of (λ x. call.Spawn x.0 x.1) spawned-reader (record { some = λ x h. ((h, refl), refl); made = spawn_made }))
    (flagged-by 0x04 (λ x. call.Join x.0 x.1) (λ x h. ((h.0, refl), refl)) join_made)
    (flagged-by 0x05 (λ x. call.Lock x.0 x.1) (λ x h. ((h.0, refl), refl)) lock_made)
    (flagged-by 0x06 (λ x. call.Unlock x.0 x.1) (λ x h. ((h.0, refl), refl)) unlock_made)
    (flagged-by 0x07 (λ x. call.TryLock x.0 x.1) (λ x h. ((h.0, refl), refl)) trylock_made)
    (made-reader IsText text_bytes text_at (IsOfKind 0x08) fields_of call.Write text-reader (record { some = λ x h. ((h, refl), refl); made = write_made }))
    (made-reader IsWanted wanted_bytes wanted_at (IsOfKind 0x09) fields_of (λ x. call.Read x.0 x.1) wanted-reader (record { some = λ x h. ((h, refl), refl); made = read_made }))
    (bare-reader 0x0a call.SelfId tt refl refl only_self)
    (bare-reader 0x0b call.Yield tt refl refl only_yield)
    (bare-reader 0x0c call.WriteBad tt refl refl only_write_bad)
    (bare-reader 0x0d call.ReadBad tt refl refl only_read_bad)
    (word-by 0x0e call.Unknown (λ n lt. ((lt, refl), refl)) unknown_made)

-- ---- records

some_call : (kind : ℕ) → IsBetween 0x01 0x0e kind → (c : Call) × IsCall c × (kind_of c ≡ kind)
some_call = each_kind (λ kind. (c : Call) × IsCall c × (kind_of c ≡ kind))
    (call.Exit 0, omega arith, refl)
    (call.EndThread, tt, refl)
    (call.Spawn 0 None, (omega arith, tt), refl)
    (call.Join 0 false, omega arith, refl)
    (call.Lock 0 false, omega arith, refl)
    (call.Unlock 0 false, omega arith, refl)
    (call.TryLock 0 false, omega arith, refl)
    (call.Write [], (omega arith, All-nil (λ b. b < 256)), refl)
    (call.Read 0 [], (omega arith, (omega arith, All-nil (λ b. b < 256))), refl)
    (call.SelfId, tt, refl)
    (call.Yield, tt, refl)
    (call.WriteBad, tt, refl)
    (call.ReadBad, tt, refl)
    (call.Unknown 0, omega arith, refl)

kind-known : (c : Call) → IsBetween 0x01 0x0e (kind_of c)
kind-known (call.Exit code) = (omega arith, omega arith)
kind-known call.EndThread = (omega arith, omega arith)
kind-known (call.Spawn entry child) = (omega arith, omega arith)
kind-known (call.Join target ok) = (omega arith, omega arith)
kind-known (call.Lock mutex ok) = (omega arith, omega arith)
kind-known (call.Unlock mutex ok) = (omega arith, omega arith)
kind-known (call.TryLock mutex got) = (omega arith, omega arith)
kind-known (call.Write bytes) = (omega arith, omega arith)
kind-known (call.Read want bytes) = (omega arith, omega arith)
kind-known call.SelfId = (omega arith, omega arith)
kind-known call.Yield = (omega arith, omega arith)
kind-known call.WriteBad = (omega arith, omega arith)
kind-known call.ReadBad = (omega arith, omega arith)
kind-known (call.Unknown number) = (omega arith, omega arith)

-- a record without its thread, without its step, without its kind
abbrev behind_tid : CallRec → List ℕ
behind_tid z = little_bytes 4 z.at ++ kind_of z.call ∷ fields_of z.call

abbrev behind_at : CallRec → List ℕ
behind_at z = kind_of z.call ∷ fields_of z.call

abbrev behind_kind : CallRec → List ℕ
behind_kind z = fields_of z.call

abbrev call_with : ℕ → ℕ → ℕ → List ℕ → Result (CallRec × List ℕ) ℕ
call_with tid at kind bytes = fields_at kind bytes >>= λ made. Ok (record { tid = tid; at = at; call = made.0 }, made.1)

abbrev kind_with : ℕ → ℕ → List ℕ → Result (CallRec × List ℕ) ℕ
kind_with tid at bytes = byte_at 0x01 0x0e bytes >>= λ kind. call_with tid at kind.0 kind.1

abbrev at_with : ℕ → List ℕ → Result (CallRec × List ℕ) ℕ
at_with tid bytes = number_at w32 bytes >>= λ at. kind_with tid at.0 at.1

call-reader : (threads tid at kind : ℕ) → tid < threads → at < 2 ^ 32 → IsBetween 0x01 0x0e kind
    → IsReader (λ z. ((IsRecord threads z × (z.tid ≡ tid)) × (z.at ≡ at)) × (kind_of z.call ≡ kind)) behind_kind (call_with tid at kind)
call-reader threads tid at kind tid_fits at_fits kind_fits =
    made-reader (IsOfKind kind) fields_of (fields_at kind) (λ z. ((IsRecord threads z × (z.tid ≡ tid)) × (z.at ≡ at)) × (kind_of z.call ≡ kind)) behind_kind
    (λ c. record { tid = tid; at = at; call = c }) (fields-reader kind kind_fits)
    (record {
      some = λ c g. ((((record { tid = tid_fits; at = at_fits; call = g.0 }, refl), refl), g.1), refl);
      made = λ z g. (z.call, (g.0.0.0.call, g.1), λ i. record { tid = g.0.0.1 i; at = g.0.1 i; call = z.call });
    })

kind-reader : (threads tid at : ℕ) → tid < threads → at < 2 ^ 32 → IsReader (λ z. (IsRecord threads z × (z.tid ≡ tid)) × (z.at ≡ at)) behind_at (kind_with tid at)
kind-reader threads tid at tid_fits at_fits =
    then-reader (IsBetween 0x01 0x0e) one_byte (byte_at 0x01 0x0e) (λ z. (IsRecord threads z × (z.tid ≡ tid)) × (z.at ≡ at)) behind_at (λ z. kind_of z.call) behind_kind (call_with tid at)
    (byte-reader 0x01 0x0e (omega arith)) (λ kind kind_fits. call-reader threads tid at kind tid_fits at_fits kind_fits)
    (record {
      fits = λ z g. kind-known z.call;
      text = λ z g. refl;
      some = λ kind kind_fits.
          let c = some_call kind kind_fits in
          (record { tid = tid; at = at; call = c.0 }, ((record { tid = tid_fits; at = at_fits; call = c.1 }, refl), refl), c.2);
    })

at-reader : (threads tid : ℕ) → tid < threads → IsReader (λ z. IsRecord threads z × (z.tid ≡ tid)) behind_tid (at_with tid)
at-reader threads tid tid_fits =
    then-reader (λ n. n < 2 ^ 32) (to_le_bytes w32) (number_at w32) (λ z. IsRecord threads z × (z.tid ≡ tid)) behind_tid (λ z. z.at) behind_at (kind_with tid)
    word-reader (λ at at_fits. kind-reader threads tid at tid_fits at_fits)
    (record {
      fits = λ z g. g.0.at;
      text = λ z g. refl;
      some = λ at at_fits. (record { tid = tid; at = at; call = call.EndThread }, (record { tid = tid_fits; at = at_fits; call = tt }, refl), refl);
    })

pub record-reader : (threads : ℕ) → 0 < threads → IsReader (IsRecord threads) record_bytes (record_at threads)
unfolding record_at
record-reader threads some =
    then-reader (IsBetween 0 (threads - 1)) one_byte (byte_at 0 (threads - 1)) (IsRecord threads) record_bytes (λ z. z.tid) behind_tid at_with
    (byte-reader 0 (threads - 1) (omega arith)) (λ tid fits. at-reader threads tid (omega arith))
    (record {
      fits = λ z g. let tid_fits = g.tid in (omega arith, omega arith);
      text = λ z g. refl;
      some = λ tid fits. (record { tid = tid; at = 0; call = call.EndThread }, record { tid = omega arith; at = omega arith; call = tt }, refl);
    })
