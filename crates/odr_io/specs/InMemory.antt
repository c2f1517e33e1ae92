-- What a store, a source and a sink in memory hold, beside the count of their calls.
use Rattle.std.specs.Prelude.{ℕ, List, refl}
use Rattle.std.specs.Coded.{Coded, code_by, coded×, coded_ℕ, coded_list}
use Rattle.std.specs.FinMap as map
use Rattle.odr_io.specs.Outside.{Held}
use Rattle.odr_io.specs.Calls.{CallCount}

pub record FilesInMemory : Type 0 where
  pub held : Held
  pub calls : CallCount

pub record SourceInMemory : Type 0 where
  pub left : List ℕ
  pub calls : CallCount

pub record SinkInMemory : Type 0 where
  pub written : List ℕ
  pub calls : CallCount

-- files are stored as the list of their entries
abbrev pub held_code : Coded Held
held_code = map.code (coded_list coded_ℕ) (coded_list coded_ℕ)

-- a count is stored as its three parts
abbrev pub call_code : Coded CallCount
call_code =
    code_by (ℕ × (List ℕ × ℕ)) (coded× coded_ℕ (coded× (coded_list coded_ℕ) coded_ℕ))
    (λ c. (c.made, (c.failing, c.faults))) (λ p. record { made = p.0; failing = p.1.0; faults = p.1.1 }) (λ _. refl)

-- a store is stored as its two parts
abbrev pub files_code : Coded FilesInMemory
files_code =
    code_by (Held × CallCount) (coded× held_code call_code)
    (λ f. (f.held, f.calls)) (λ p. record { held = p.0; calls = p.1 }) (λ _. refl)
