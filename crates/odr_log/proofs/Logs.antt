-- The reader of a log belongs to its spelling.
use Rattle.std.proofs.Common.{◌≡◌, ℕ, zero, suc, ◌-◌, ◌^◌, ◌<◌, ◌≤◌, List, [], ◌∷◌, ◌++◌, length, All, Result, Ok, Err, refl, ap, subst, ◌∙◌, append_assoc, arith}
use Rattle.std.specs.Prelude.{replicate, codes}
use Rattle.std.specs.Int.{w32, to_le_bytes}
use Rattle.std.specs.List.{flat_map}
use Rattle.std.proofs.lemmas.List.{length-replicate}
use Rattle.std.proofs.lemmas.List.Elements.{All-from_recursion, recursion_from_All, All-nil, All-replicate}
use Rattle.byteorder.specs.Endian.{little_bytes}
use Rattle.odr_log.specs.declared.log.Cause.{Cause}
use Rattle.odr_log.specs.declared.log.Cause.TheVariants as cause
use Rattle.odr_log.specs.declared.log.End.{End}
use Rattle.odr_log.specs.declared.log.End.TheVariants as end
use Rattle.odr_log.specs.declared.log.ThreadLog.{ThreadLog}
use Rattle.odr_log.specs.declared.log.Call.TheVariants as call
use Rattle.odr_log.specs.declared.log.CallRec.{CallRec}
use Rattle.odr_log.specs.declared.log.Log.{Log}
use Rattle.odr_log.specs.Grammar.{list_bytes, thread_bytes, record_bytes, cause_code, end_bytes, log_bytes, IsThread, IsRecord, IsEnd, IsInGrammar}
use Rattle.odr_log.specs.Reading.{◌>>=◌, byte_at, number_at, list_at, thread_at, record_at, cause_of, cause_at, exited_at, faulted_at, end_fields_at, end_at, mark_at, body_at, log_at}
use Rattle.odr_log.proofs.Readers.{IsReader, then-reader, done-reader, made-reader, pair-reader, fits-reader, text-reader, same-reader}
use Rattle.odr_log.proofs.Bytes.{IsBetween, one_byte, byte-reader}
use Rattle.odr_log.proofs.Lists.{AreListed, list-reader}
use Rattle.odr_log.proofs.Threads.{Any, word-reader, thread-reader}
use Rattle.odr_log.proofs.Calls.{record-reader}

-- ---- causes and ends

abbrev cause_bytes : Cause → List ℕ
cause_bytes why = cause_code why ∷ []

code-cause : (code : ℕ) → IsBetween 1 7 code → cause_bytes (cause_of code) ≡ one_byte code
code-cause zero h = absurd (omega (arith, h.0))
code-cause (suc zero) h = refl
code-cause (suc (suc zero)) h = refl
code-cause (suc (suc (suc zero))) h = refl
code-cause (suc (suc (suc (suc zero)))) h = refl
code-cause (suc (suc (suc (suc (suc zero))))) h = refl
code-cause (suc (suc (suc (suc (suc (suc zero)))))) h = refl
code-cause (suc (suc (suc (suc (suc (suc (suc zero))))))) h = refl
code-cause (suc (suc (suc (suc (suc (suc (suc (suc code)))))))) h = absurd (omega (arith, h.1))

cause_made : (why : Cause) → (code : ℕ) × IsBetween 1 7 code × (why ≡ cause_of code)
cause_made cause.FetchFault = (1, (omega arith, omega arith), refl)
cause_made cause.Illegal = (2, (omega arith, omega arith), refl)
cause_made cause.Misaligned = (3, (omega arith, omega arith), refl)
cause_made cause.LoadFault = (4, (omega arith, omega arith), refl)
cause_made cause.StoreFault = (5, (omega arith, omega arith), refl)
cause_made cause.AmoFault = (6, (omega arith, omega arith), refl)
cause_made cause.Breakpoint = (7, (omega arith, omega arith), refl)

cause-reader : IsReader Any cause_bytes cause_at
unfolding cause_at
cause-reader = made-reader (IsBetween 1 7) one_byte (byte_at 1 7) Any cause_bytes cause_of (byte-reader 1 7 (omega arith)) (record {
  some = λ code h. (tt, code-cause code h);
  made = λ why g. cause_made why;
})

abbrev IsExited : ℕ → ℕ × ℕ → Type 0
IsExited threads x = IsBetween 0 (threads - 1) x.0 × (x.1 < 2 ^ 32)

abbrev exited_bytes : ℕ × ℕ → List ℕ
exited_bytes x = one_byte x.0 ++ little_bytes 4 x.1

exited-reader : (threads : ℕ) → IsReader (IsExited threads) exited_bytes (exited_at threads)
unfolding exited_at
exited-reader threads = pair-reader (IsBetween 0 (threads - 1)) one_byte (byte_at 0 (threads - 1)) (λ n. n < 2 ^ 32) (to_le_bytes w32) (number_at w32)
    (byte-reader 0 (threads - 1) (omega arith)) word-reader 0 (omega arith)

abbrev IsFaulted : ℕ → ℕ × Cause → Type 0
IsFaulted threads x = IsBetween 0 (threads - 1) x.0 × Any x.1

abbrev faulted_bytes : ℕ × Cause → List ℕ
faulted_bytes x = one_byte x.0 ++ cause_bytes x.1

faulted-reader : (threads : ℕ) → IsReader (IsFaulted threads) faulted_bytes (faulted_at threads)
unfolding faulted_at
faulted-reader threads = pair-reader (IsBetween 0 (threads - 1)) one_byte (byte_at 0 (threads - 1)) Any cause_bytes cause_at
    (byte-reader 0 (threads - 1) (omega arith)) cause-reader cause.Illegal tt

abbrev end_kind : End → ℕ
end_kind end.Cut = 0
end_kind (end.Exited tid code) = 1
end_kind (end.Faulted tid why) = 2
end_kind end.AllDone = 3

abbrev end_fields : End → List ℕ
end_fields end.Cut = []
end_fields (end.Exited tid code) = tid ∷ little_bytes 4 code
end_fields (end.Faulted tid why) = tid ∷ cause_code why ∷ []
end_fields end.AllDone = []

abbrev IsEndOfKind : ℕ → ℕ → End → Type 0
IsEndOfKind threads kind z = IsEnd threads z × (end_kind z ≡ kind)

end-split : (z : End) → IsBetween 0 3 (end_kind z) × (end_bytes z ≡ one_byte (end_kind z) ++ end_fields z)
end-split end.Cut = ((omega arith, omega arith), refl)
end-split (end.Exited tid code) = ((omega arith, omega arith), refl)
end-split (end.Faulted tid why) = ((omega arith, omega arith), refl)
end-split end.AllDone = ((omega arith, omega arith), refl)

only_cut : (z : End) → end_kind z ≡ 0 → z ≡ end.Cut
only_cut end.Cut e = refl
only_cut z e = absurd cc

only_all_done : (z : End) → end_kind z ≡ 3 → z ≡ end.AllDone
only_all_done end.AllDone e = refl
only_all_done z e = absurd cc

exited_made : (threads : ℕ) (z : End) → IsEnd threads z → end_kind z ≡ 1 → (x : ℕ × ℕ) × IsExited threads x × (z ≡ end.Exited x.0 x.1)
exited_made threads (end.Exited tid code) g e = ((tid, code), ((omega arith, (let h = g.0 in omega arith)), g.1), refl)
exited_made threads z g e = absurd cc

faulted_made : (threads : ℕ) (z : End) → IsEnd threads z → end_kind z ≡ 2 → (x : ℕ × Cause) × IsFaulted threads x × (z ≡ end.Faulted x.0 x.1)
faulted_made threads (end.Faulted tid why) g e = ((tid, why), ((omega arith, omega arith), tt), refl)
faulted_made threads z g e = absurd cc

end-fields-reader : (threads : ℕ) → 0 < threads → (kind : ℕ) → IsBetween 0 3 kind → IsReader (IsEndOfKind threads kind) end_fields (end_fields_at threads kind)
unfolding end_fields_at
end-fields-reader threads some zero h = done-reader (IsEndOfKind threads 0) end_fields end.Cut (tt, refl) (λ z g. only_cut z g.1) refl
end-fields-reader threads some (suc zero) h =
    made-reader (IsExited threads) exited_bytes (exited_at threads) (IsEndOfKind threads 1) end_fields (λ x. end.Exited x.0 x.1) (exited-reader threads) (record {
      some = λ x f. let le = f.0.1 in (((omega arith, f.1), refl), refl);
      made = λ z g. exited_made threads z g.0 g.1;
    })
end-fields-reader threads some (suc (suc zero)) h =
    made-reader (IsFaulted threads) faulted_bytes (faulted_at threads) (IsEndOfKind threads 2) end_fields (λ x. end.Faulted x.0 x.1) (faulted-reader threads) (record {
      some = λ x f. let le = f.0.1 in ((omega arith, refl), refl);
      made = λ z g. faulted_made threads z g.0 g.1;
    })
end-fields-reader threads some (suc (suc (suc zero))) h = done-reader (IsEndOfKind threads 3) end_fields end.AllDone (tt, refl) (λ z g. only_all_done z g.1) refl
end-fields-reader threads some (suc (suc (suc (suc kind)))) h = absurd (omega (arith, h.1))

some_end : (threads : ℕ) → 0 < threads → (kind : ℕ) → IsBetween 0 3 kind → (z : End) × IsEnd threads z × (end_kind z ≡ kind)
some_end threads some zero h = (end.Cut, tt, refl)
some_end threads some (suc zero) h = (end.Exited 0 0, (some, omega arith), refl)
some_end threads some (suc (suc zero)) h = (end.Faulted 0 cause.Illegal, some, refl)
some_end threads some (suc (suc (suc zero))) h = (end.AllDone, tt, refl)
some_end threads some (suc (suc (suc (suc kind)))) h = absurd (omega (arith, h.1))

end-reader : (threads : ℕ) → 0 < threads → IsReader (IsEnd threads) end_bytes (end_at threads)
unfolding end_at
end-reader threads some = then-reader (IsBetween 0 3) one_byte (byte_at 0 3) (IsEnd threads) end_bytes end_kind end_fields (end_fields_at threads)
    (byte-reader 0 3 (omega arith)) (end-fields-reader threads some)
    (record { fits = λ z g. (end-split z).0; text = λ z g. (end-split z).1; some = some_end threads some })

-- ---- the mark

assoc : {A B C : Type 0} (r : Result A ℕ) (f : A → Result B ℕ) (g : B → Result C ℕ) → (r >>= f >>= g) ≡ (r >>= λ x. f x >>= g)
assoc (Ok x) f g = refl
assoc (Err left) f g = refl

mark-reader : {Z : Type 0} (G : Z → Type 0) (u : Z → List ℕ) (q : List ℕ → Result (Z × List ℕ) ℕ) → IsReader G u q → (d : Z) → G d → (mark : List ℕ)
    → IsReader G (λ z. mark ++ u z) (λ bytes. mark_at mark bytes >>= q)
unfolding mark_at
mark-reader {Z} G u q one d g [] = one
mark-reader {Z} G u q one d g (want ∷ mark) =
    let behind : Z → List ℕ = λ z. mark ++ u z in
    let rest : List ℕ → Result (Z × List ℕ) ℕ = λ bytes. mark_at mark bytes >>= q in
    same-reader G (λ z. (want ∷ mark) ++ u z) (λ bytes. byte_at want want bytes >>= λ b. rest b.1) (λ bytes. mark_at (want ∷ mark) bytes >>= q)
    (then-reader (IsBetween want want) one_byte (byte_at want want) G (λ z. (want ∷ mark) ++ u z) (λ _. want) behind (λ _. rest) (byte-reader want want (omega arith))
    (λ b f. fits-reader G (λ z. G z × (want ≡ b)) behind rest (mark-reader G u q one d g mark) (λ z h. let lo = f.0 in let hi = f.1 in (h, omega arith)) (λ z h. h.0))
    (record { fits = λ z h. (omega arith, omega arith); text = λ z h. refl; some = λ b f. let lo = f.0 in let hi = f.1 in (d, g, omega arith) }))
    (λ bytes. assoc (byte_at want want bytes) (λ b. mark_at mark b.1) q)

-- ---- the body: the calls and the end, behind the threads

abbrev behind_threads : Log → List ℕ
behind_threads z = list_bytes record_bytes z.calls ++ end_bytes z.end

abbrev behind_count : Log → List ℕ
behind_count z = flat_map record_bytes z.calls ++ end_bytes z.end

abbrev behind_calls : Log → List ℕ
behind_calls z = end_bytes z.end

-- a log of the grammar with these threads, then with so many calls, then with these
abbrev HasThreads : List ThreadLog → Log → Type 0
HasThreads threads z = IsInGrammar z × (z.threads ≡ threads)

abbrev HasCount : List ThreadLog → ℕ → Log → Type 0
HasCount threads count z = HasThreads threads z × (length z.calls ≡ count)

abbrev HasCalls : List ThreadLog → ℕ → List CallRec → Log → Type 0
HasCalls threads count calls z = HasCount threads count z × (z.calls ≡ calls)

-- threads that a log may have
pub record AreThreads (threads : List ThreadLog) : Type 0 where
  pub some_thread : 1 ≤ length threads
  pub few_threads : length threads ≤ 8
  pub each : All IsThread threads

abbrev made_log : List ThreadLog → List CallRec → End → Log
made_log threads calls e = record { version = 1; threads = threads; calls = calls; end = e }

in_grammar : (threads : List ThreadLog) (calls : List CallRec) (e : End) → AreThreads threads → length calls < 2 ^ 32 → All (IsRecord (length threads)) calls → IsEnd (length threads) e
    → IsInGrammar (made_log threads calls e)
in_grammar threads calls e some few all ends =
    record { version = refl; some_thread = some.some_thread; few_threads = some.few_threads; threads = some.each; few_calls = few; calls = all; end = ends }

abbrev end_with : List ThreadLog → List CallRec → List ℕ → Result (Log × List ℕ) ℕ
end_with threads calls bytes = end_at (length threads) bytes >>= λ e. Ok (made_log threads calls e.0, e.1)

abbrev calls_with : List ThreadLog → ℕ → List ℕ → Result (Log × List ℕ) ℕ
calls_with threads count bytes = list_at (record_at (length threads)) count bytes >>= λ calls. end_with threads calls.0 calls.1

with_end-reader : (threads : List ThreadLog) (count : ℕ) (calls : List CallRec) → AreThreads threads → count < 2 ^ 32 → AreListed (IsRecord (length threads)) count calls
    → IsReader (HasCalls threads count calls) behind_calls (end_with threads calls)
with_end-reader threads count calls some few all =
    let n = length threads in
    let some_thread = some.some_thread in
    made-reader (IsEnd n) end_bytes (end_at n) (HasCalls threads count calls) behind_calls (made_log threads calls) (end-reader n (omega arith))
    (record {
      some = λ e h. ((((in_grammar threads calls e some (rw all.0 few) (All-from_recursion (IsRecord n) calls all.1) h, refl), all.0), refl), refl);
      made = λ z g.
          let inside : IsInGrammar z = g.0.0.0 in
          let threads_are : z.threads ≡ threads = g.0.0.1 in
          (z.end, subst (λ t. IsEnd (length t) z.end) threads_are inside.end, λ i. record { version = inside.version i; threads = threads_are i; calls = g.1 i; end = z.end });
    })

with_calls-reader : (threads : List ThreadLog) (count : ℕ) → AreThreads threads → count < 2 ^ 32 → IsReader (HasCount threads count) behind_count (calls_with threads count)
with_calls-reader threads count some few =
    let n = length threads in
    let some_thread = some.some_thread in
    let idle : CallRec = record { tid = 0; at = 0; call = call.EndThread } in
    let idle_fits : IsRecord n idle = record { tid = omega arith; at = omega arith; call = tt } in
    then-reader (AreListed (IsRecord n) count) (flat_map record_bytes) (list_at (record_at n) count) (HasCount threads count) behind_count (λ z. z.calls) behind_calls (end_with threads)
    (list-reader (IsRecord n) record_bytes (record_at n) (record-reader n (omega arith)) idle idle_fits count)
    (λ calls all. with_end-reader threads count calls some few all)
    (record {
      fits = λ z g.
          let inside : IsInGrammar z = g.0.0 in
          (g.1, recursion_from_All (IsRecord n) z.calls (subst (λ t. All (IsRecord (length t)) z.calls) g.0.1 inside.calls));
      text = λ z g. refl;
      some = λ calls all.
          (made_log threads calls end.Cut, ((in_grammar threads calls end.Cut some (rw all.0 few) (All-from_recursion (IsRecord n) calls all.1) tt, refl), all.0), refl);
    })

body-reader : (threads : List ThreadLog) → AreThreads threads → IsReader (HasThreads threads) behind_threads (body_at threads)
unfolding body_at
body-reader threads some =
    let n = length threads in
    let some_thread = some.some_thread in
    let idle : CallRec = record { tid = 0; at = 0; call = call.EndThread } in
    let idle_fits : IsRecord n idle = record { tid = omega arith; at = omega arith; call = tt } in
    then-reader (λ n. n < 2 ^ 32) (to_le_bytes w32) (number_at w32) (HasThreads threads) behind_threads (λ z. length z.calls) behind_count (calls_with threads) word-reader
    (λ count few. with_calls-reader threads count some few)
    (record {
      fits = λ z g. g.0.few_calls;
      text = λ z g. append_assoc (little_bytes 4 (length z.calls)) (flat_map record_bytes z.calls) (end_bytes z.end);
      some = λ count few.
          let calls : List CallRec = replicate count idle in
          let long : length calls ≡ count = length-replicate {A = CallRec} count idle in
          (made_log threads calls end.Cut, (in_grammar threads calls end.Cut some (rw long few) (All-replicate (IsRecord n) count idle idle_fits) tt, refl), long);
    })

-- ---- the log

abbrev behind_mark : Log → List ℕ
behind_mark z = length z.threads ∷ (flat_map thread_bytes z.threads ++ behind_threads z)

abbrev behind_number : Log → List ℕ
behind_number z = flat_map thread_bytes z.threads ++ behind_threads z

abbrev HasNumber : ℕ → Log → Type 0
HasNumber n z = IsInGrammar z × (length z.threads ≡ n)

abbrev threads_with : ℕ → List ℕ → Result (Log × List ℕ) ℕ
threads_with n bytes = list_at thread_at n bytes >>= λ threads. body_at threads.0 threads.1

still : ThreadLog
still = record { steps = 0; path = [] }

still_fits : IsThread still
unfolding still
still_fits = record { steps = omega arith; items = omega arith; each = All-nil _ }

are_threads : (n : ℕ) (threads : List ThreadLog) → IsBetween 1 8 n → AreListed IsThread n threads → AreThreads threads
are_threads n threads between all =
    let lo = between.0 in
    let hi = between.1 in
    let long = all.0 in
    record { some_thread = omega arith; few_threads = omega arith; each = All-from_recursion IsThread threads all.1 }

some_log : (threads : List ThreadLog) → AreThreads threads → IsInGrammar (made_log threads [] end.Cut)
some_log threads some = in_grammar threads [] end.Cut some (omega arith) (All-nil (IsRecord (length threads))) tt

with_threads-reader : (n : ℕ) → IsBetween 1 8 n → IsReader (HasNumber n) behind_number (threads_with n)
with_threads-reader n between =
    then-reader (AreListed IsThread n) (flat_map thread_bytes) (list_at thread_at n) (HasNumber n) behind_number (λ z. z.threads) behind_threads body_at
    (list-reader IsThread thread_bytes thread_at thread-reader still still_fits n)
    (λ threads all.
    fits-reader (HasThreads threads) (λ z. HasNumber n z × (z.threads ≡ threads)) behind_threads (body_at threads) (body-reader threads (are_threads n threads between all))
    (λ z h. ((h.0, ap length h.1 ∙ all.0), h.1)) (λ z h. (h.0.0, h.1)))
    (record {
      fits = λ z g. let inside : IsInGrammar z = g.0 in (g.1, recursion_from_All IsThread z.threads inside.threads);
      text = λ z g. refl;
      some = λ threads all. (made_log threads [] end.Cut, (some_log threads (are_threads n threads between all), all.0), refl);
    })

number_reader : IsReader IsInGrammar behind_mark (λ bytes. byte_at 1 8 bytes >>= λ n. threads_with n.0 n.1)
number_reader =
    then-reader (IsBetween 1 8) one_byte (byte_at 1 8) IsInGrammar behind_mark (λ z. length z.threads) behind_number threads_with (byte-reader 1 8 (omega arith))
    with_threads-reader
    (record {
      fits = λ z g. (g.some_thread, g.few_threads);
      text = λ z g. refl;
      some = λ n between.
          let threads : List ThreadLog = replicate n still in
          let long : length threads ≡ n = length-replicate {A = ThreadLog} n still in
          let lo = between.0 in
          let hi = between.1 in
          (made_log threads [] end.Cut, some_log threads (record { some_thread = omega arith; few_threads = omega arith; each = All-replicate IsThread n still still_fits }), long);
    })

-- the least log: one thread of no step
least : Log
least = made_log (still ∷ []) [] end.Cut

least_fits : IsInGrammar least
unfolding least
least_fits = some_log (still ∷ []) (record { some_thread = omega arith; few_threads = omega arith; each = All-replicate IsThread 1 still still_fits })

pub log-reader : IsReader IsInGrammar log_bytes log_at
unfolding log_at log_bytes
log-reader =
    let mark = codes "ODRL" ++ 1 ∷ [] in
    text-reader IsInGrammar (λ z. mark ++ behind_mark z) log_bytes log_at
    (mark-reader IsInGrammar behind_mark (λ bytes. byte_at 1 8 bytes >>= λ n. threads_with n.0 n.1) number_reader least least_fits mark)
    (λ z g. ap (λ version. codes "ODRL" ++ version ∷ behind_mark z) g.version)
