-- What the calls give that build a formula.
use Rattle.std.specs.Prelude.{◌≡◌, ℕ, ◌<◌, ◌≤◌, List, All, length, Option, Some, IfSome}
use Rattle.std.proofs.Common.{sym, ap, subst, refl, arith}
use Rattle.std.proofs.lemmas.List.Elements.{All-from_get_or}
use Rattle.odr_limits.specs.declared.TheConstants.{MOST_ACCESSES}
use Rattle.elf_image.specs.Layout.{Layout}
use Rattle.odr_log.specs.declared.log.Log.{Log}
use Rattle.rv_model.specs.Walk.{Walk}
use Rattle.rv_model.specs.Accesses.{accesses_of}
use Rattle.trace_path.specs.Traced.{IsTraced, Traced, walk_of}
use Rattle.trace_path.proofs.WholeLemmas.{walks_one}
use Rattle.bv_terms.specs.declared.node.TermId.{TermId}
use Rattle.bv_terms.specs.Shapes.{Shape}
use Rattle.bit_clauses.specs.Bits.{Bits}
use Rattle.encoder.specs.declared.encoder.Encoder.{Encoder}
use Rattle.thread_terms.specs.declared.access.Access.{Access}
use Rattle.path_exec.specs.declared.paths.Paths.{Paths}
use Rattle.term_sources.specs.Sees.{access_at, no_access}
use Rattle.access_shapes.specs.Shaped.{IsNarrow}
use Rattle.reader_parts.specs.Conditions.{HasTerms}
use Rattle.valid_logs.specs.Laws.{IsShort}
use Rattle.valid_logs.proofs.Valid.{short}
use Rattle.formula_facts.specs.All.{AddsAll, CanAddAll}
use Rattle.formula_base.specs.Basis.{HasPaths}
use Rattle.formula_base.proofs.Found.{all_have_terms}
use Rattle.read_from.specs.Formulas.{HasFewAccesses}
use Rattle.read_from.proofs.Formed.{base_of, no_bits, setting_in, stands_on}
use Rattle.read_from.proofs.Naming.{Based}

pub are_terms : (image : Layout) (log : Log) (walk : Walk) (nodes : List Shape) (paths : Paths) → HasPaths image log walk nodes paths → All (HasTerms nodes) paths.accesses
are_terms image log walk nodes paths has = all_have_terms log walk nodes paths.accesses has.are.each

pub are_narrow : (image : Layout) (log : Log) (walk : Walk) (nodes : List Shape) (paths : Paths) → HasPaths image log walk nodes paths → All IsNarrow paths.accesses
are_narrow image log walk nodes paths has =
    All-from_get_or IsNarrow paths.accesses no_access
    (λ (x : ℕ) (there : x < length paths.accesses).
    narrow (access_at paths.accesses x) (short image log walk nodes paths.accesses (access_at paths.accesses x) has.is_walk has.valid (has.are.each x no_access there)))
  where
    narrow : (access : Access) → IsShort access → IsNarrow access
    narrow access is = let reads = is.reads in let writes = is.writes in record { reads = omega (arith, reads); writes = omega (arith, writes) }

-- the encoder to which all is added, by the literals that a new one has
abbrev pub encoder_of : Based → Bits → Encoder
encoder_of b bits = record { pool = b.nodes; blaster = bits; clauses = b.clauses }

pub can_all : (b : Based) (bits : Bits) (slice : List TermId) → bits ≡ no_bits → slice ≡ b.paths.constraints → CanAddAll b.image b.known (encoder_of b bits) slice
can_all b bits slice none same =
    subst (λ (x : Bits). CanAddAll b.image b.known (encoder_of b x) slice) (sym none)
    (subst (CanAddAll b.image b.known (base_of b)) (sym same)
    (record { setting = setting_in b; image_is = refl; is = b.base.is; stands = stands_on b; bits = b.has.are.bits }))

pub adds_all : (b : Based) (bits : Bits) (last : Encoder) (slice : List TermId) → bits ≡ no_bits → slice ≡ b.paths.constraints
    → AddsAll b.image b.known (encoder_of b bits) last slice → AddsAll b.image b.known (base_of b) last b.paths.constraints
adds_all b bits last slice none same adds =
    subst (λ (x : Bits). AddsAll b.image b.known (encoder_of b x) last b.paths.constraints) none
    (subst (AddsAll b.image b.known (encoder_of b bits) last) same adds)

-- ---- the number of accesses

-- what traces tell holds of the walk, since a log has one at most
pub few_accesses : (image : Layout) (log : Log) (found : Option Traced) (traced : Traced) (count : ℕ) → found ≡ Some traced → IfSome found (IsTraced image log)
    → count ≡ traced.accesses → count ≤ MOST_ACCESSES → HasFewAccesses image log
few_accesses image log found traced count e holds same few walk is =
    let of : IsTraced image log traced = subst (λ (o : Option Traced). IfSome o (IsTraced image log)) e holds in
    let one : walk_of traced of.notes ≡ walk = walks_one image log (walk_of traced of.notes) walk of.walk is in
    let total : length (accesses_of (walk_of traced of.notes)) ≡ length (accesses_of walk) = ap (λ (w : Walk). length (accesses_of w)) one in
    bounded (length (accesses_of walk)) (length (accesses_of (walk_of traced of.notes))) traced.accesses count MOST_ACCESSES (sym total) (sym of.count) (sym same) few
  where
    bounded : (a b c d most : ℕ) → a ≡ b → b ≡ c → c ≡ d → d ≤ most → a ≤ most
    bounded a b c d most e f g few = omega (arith, e, f, g, few)
