-- Labels as they are read.
use Rattle.std.proofs.Common.{◌≡◌, ℕ, Bool, true, false, ◌||◌, List, [], ◌∷◌, map, refl, ap, Some, None, cond, option_map, Ok, Err, sym, ◌∙◌}
use Rattle.std.specs.Prelude.{bytes_eq, find}
use Rattle.std.specs.List.{list_any}
use Rattle.rv32_asm.specs.declared.draft.Label.{Label as ReadLabel}
use Rattle.rv32_asm.specs.declared.fault.AsmFault.TheVariants as fault
use Rattle.rv32_asm.specs.Draft.{is_defined}
use Rattle.rv32_asm.specs.Assembly.{address_of, known_at}
use Rattle.rv32_asm.specs.Seen.{label_seen}

pub defined_seen : (labels : List ReadLabel) (name : List ℕ) → list_any (λ l. bytes_eq l.name.now name) labels ≡ is_defined (map label_seen labels) name
defined_seen [] name = refl
defined_seen (l ∷ labels) name = ap (λ rest. bytes_eq l.name.now name || rest) (defined_seen labels name)

found_seen : (labels : List ReadLabel) (name : List ℕ)
    → option_map (λ l. l.address) (find (λ l. bytes_eq l.name.now name) labels) ≡ option_map (λ l. l.address) (find (λ l. bytes_eq l.name name) (map label_seen labels))
found_seen [] name = refl
found_seen (l ∷ labels) name = pick (bytes_eq l.name.now name) (found_seen labels name)
  where
    pick : (here : Bool)
        → option_map (λ k. k.address) (find (λ k. bytes_eq k.name.now name) labels) ≡ option_map (λ k. k.address) (find (λ k. bytes_eq k.name name) (map label_seen labels))
        → option_map (λ k. k.address) (cond here (Some l) (find (λ k. bytes_eq k.name.now name) labels))
        ≡ option_map (λ k. k.address) (cond here (Some (label_seen l)) (find (λ k. bytes_eq k.name name) (map label_seen labels)))
    pick true later = refl
    pick false later = later

pub address_known : (labels : List ReadLabel) (line : ℕ) (name : List ℕ) (a : ℕ)
    → Some a ≡ option_map (λ l. l.address) (find (λ l. bytes_eq l.name.now name) labels) → address_of (map label_seen labels) line name ≡ Ok a
unfolding address_of
address_known labels line name a e = ap (known_at line) (sym (e ∙ found_seen labels name))

pub address_unknown : (labels : List ReadLabel) (line : ℕ) (name : List ℕ)
    → None ≡ option_map (λ l. l.address) (find (λ l. bytes_eq l.name.now name) labels) → address_of (map label_seen labels) line name ≡ Err (fault.UnknownName line)
unfolding address_of
address_unknown labels line name e = ap (known_at line) (sym (e ∙ found_seen labels name))
