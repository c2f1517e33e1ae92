-- What the public readers answer, from what reading all bytes tells.
use Rattle.std.proofs.Common.{◌≡◌, ℕ, ◌-◌, ◌<◌, ◌≤◌, List, [], length, Result, Ok, Err, refl, sym, ap, subst, ◌∙◌, arith, inl, inr}
use Rattle.odr_limits.specs.declared.TheConstants.{MOST_STEPS}
use Rattle.odr_log.specs.declared.log.Log.{Log}
use Rattle.odr_log.specs.Grammar.{log_bytes, steps_of, IsInGrammar, IsValid, IsLog}
use Rattle.odr_log.specs.declared.fault.LogFault.{LogFault}
use Rattle.odr_log.specs.declared.fault.LogFault.TheVariants as fault
use Rattle.odr_log.specs.Faults.{UnlessMemory, FitsFile, IsTooLarge, IsSomeLog, FirstBad}
use Rattle.std.specs.Prelude.{◌↔◌}
use Rattle.std.proofs.lemmas.List.{append-nil}
use Rattle.odr_log.specs.Reading.{whole_at}
use Rattle.odr_log.proofs.Fields.{ok_is}
use Rattle.odr_log.proofs.Readers.{IsBytes}
use Rattle.odr_log.proofs.Whole.{no_prefix, whole-again, whole-takes, whole-stuck, first_bad-no_log, first_bad-one}

-- the one log that has the bytes
pub the_log : (bytes : List ℕ) (log other : Log) → whole_at bytes ≡ Ok log → IsInGrammar other → bytes ≡ log_bytes other → log ≡ other
the_log bytes log other read grammar spelled = ok_is log other (sym read ∙ ap whole_at spelled ∙ whole-again other grammar)

-- where reading stops there is none
pub no_log : (bytes : List ℕ) (left : ℕ) (other : Log) → whole_at bytes ≡ Err left → IsInGrammar other → bytes ≡ log_bytes other → ⊥
no_log bytes left other read grammar spelled =
    let found : whole_at bytes ≡ Ok other = ap whole_at spelled ∙ whole-again other grammar in
    absurd cc

-- ---- logs within the limits

abbrev good : Log → Result Log LogFault
good log = Ok log

abbrev bad : ℕ → Result Log LogFault
bad offset = Err (fault.Bad offset)

same_log : (log other : Log) → good log ≡ good other → log ≡ other
same_log log other e = cc

same_offset : (p q : ℕ) → bad p ≡ bad q → p ≡ q
same_offset p q e = cc

-- what the clauses of the reader say
pub record Answers (bytes : List ℕ) (result : Result Log LogFault) : Type 0 where
  pub ok : UnlessMemory result ((log : Log) → (result ≡ Ok log) ↔ (FitsFile bytes × IsLog bytes log))
  pub too_large : UnlessMemory result ((result ≡ Err fault.TooLarge) ↔ IsTooLarge bytes)
  pub no_log : UnlessMemory result (((offset : ℕ) × (result ≡ Err (fault.Bad offset))) ↔ (FitsFile bytes × ¬ IsSomeLog bytes))
  pub bad : UnlessMemory result ((offset : ℕ) → (result ≡ Err (fault.Bad offset)) ↔ (FitsFile bytes × FirstBad bytes offset))

-- a log that has the bytes has few steps or many
not_both : (bytes : List ℕ) (log : Log) → FitsFile bytes → IsValid log → bytes ≡ log_bytes log → IsTooLarge bytes → ⊥
not_both bytes log small valid spelled (inl long) = absurd (omega arith)
not_both bytes log small valid spelled (inr more) =
    let same = (no_prefix more.0 log [] more.1 valid.grammar (sym spelled ∙ more.2 ∙ sym (append-nil (log_bytes more.0)))).0 in
    let few = valid.steps in
    let many = more.3 in
    let equal : steps_of more.0 ≡ steps_of log = ap steps_of same in
    omega (arith, few, many, equal)

pub log-answers : (bytes : List ℕ) (log : Log) → FitsFile bytes → IsBytes bytes → whole_at bytes ≡ Ok log → steps_of log ≤ MOST_STEPS → Answers bytes (Ok log)
log-answers bytes log small fits read few =
    let took = whole-takes bytes log fits read in
    let valid : IsValid log = record { grammar = took.0; steps = few } in
    record {
      ok = λ other. (
        λ e. let same = same_log log other e in (small, (subst IsValid same valid, took.1 ∙ ap log_bytes same)),
        λ h. ap good (the_log bytes log other read h.1.0.grammar h.1.1),
      );
      too_large = (λ e. absurd cc, λ large. absurd (not_both bytes log small valid took.1 large));
      no_log = (λ e. let is = e.1 in absurd cc, λ h. absurd (h.1 (log, took.0, took.1)));
      bad = λ offset. (λ e. absurd cc, λ h. absurd (first_bad-no_log bytes offset h.1 log took.0 took.1));
    }

pub many-answers : (bytes : List ℕ) (log : Log) → FitsFile bytes → IsBytes bytes → whole_at bytes ≡ Ok log → MOST_STEPS < steps_of log → Answers bytes (Err fault.TooLarge)
many-answers bytes log small fits read many =
    let took = whole-takes bytes log fits read in
    let large : IsTooLarge bytes = inr (log, took.0, took.1, many) in
    record {
      ok = λ other. (λ e. absurd cc, λ h. absurd (not_both bytes other small h.1.0 h.1.1 large));
      too_large = (λ e. large, λ _. refl);
      no_log = (λ e. let is = e.1 in absurd cc, λ h. absurd (h.1 (log, took.0, took.1)));
      bad = λ offset. (λ e. absurd cc, λ h. absurd (first_bad-no_log bytes offset h.1 log took.0 took.1));
    }

stopped_large : (bytes : List ℕ) (left : ℕ) → FitsFile bytes → whole_at bytes ≡ Err left → IsTooLarge bytes → ⊥
stopped_large bytes left small read (inl long) = absurd (omega arith)
stopped_large bytes left small read (inr more) = no_log bytes left more.0 read more.1 more.2

pub bad-answers : (bytes : List ℕ) (left : ℕ) → FitsFile bytes → IsBytes bytes → whole_at bytes ≡ Err left → Answers bytes (Err (fault.Bad (length bytes - left)))
bad-answers bytes left small fits read =
    let stuck = whole-stuck bytes left fits read in
    record {
      ok = λ other. (λ e. absurd cc, λ h. absurd (no_log bytes left other read h.1.0.grammar h.1.1));
      too_large = (λ e. absurd cc, λ large. absurd (stopped_large bytes left small read large));
      no_log = (λ e. (small, λ some. no_log bytes left some.0 read some.1 some.2), λ h. (length bytes - left, refl));
      bad = λ offset. (
        λ e. (small, subst (FirstBad bytes) (same_offset (length bytes - left) offset e) stuck.1),
        λ h. ap bad (first_bad-one bytes (length bytes - left) offset stuck.1 h.1),
      );
    }
