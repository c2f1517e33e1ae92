-- The one source of a byte.
use Rattle.std.specs.Prelude.{◌≡◌, ◌↔◌, ℕ, zero, suc, ◌<◌, ◌^◌, Bool, Option, List, [], ◌∷◌, Some}
use Rattle.std.proofs.Common.{sym, ◌∙◌, ap, arith}
use Rattle.odr_log.specs.declared.log.Pos.{Pos}
use Rattle.bv_terms.specs.Values.{value_at}
use Rattle.bv_terms.specs.Values.{Assignment as TermAssignment}
use Rattle.clause_store.specs.UnitRule.{Partial}
use Rattle.clause_store.proofs.Members.{Contains-head}
use Rattle.elf_image.specs.Memory.{byte_in, opening_cells}
use Rattle.step_terms.proofs.Making.{grows_same}
use Rattle.race_set.specs.declared.shape.AccessShape.{AccessShape}
use Rattle.term_sources.specs.Sees.{SeesAt, access_at}
use Rattle.fixed_reads.specs.Law.{byte_at}
use Rattle.fixed_reads.proofs.Fixed.{IsSource, Scene, are_writes, before, initial_bytes, is_total, source_of, writes, written_bytes}
use Rattle.formula_parts.specs.Order.{IsOrder, Setting}
use Rattle.formula_parts.specs.Facts.{IsReady}
use Rattle.formula_parts.proofs.Required.{decided_of_one}
use Rattle.reader_parts.specs.Readings.{opening_byte}
use Rattle.reader_parts.proofs.Later.{made_decided}
use Rattle.same_parts.specs.Same.{InitialBytesAreSources, IsFixedByte, WritesAreSources, read_id, written_id}

-- an equation with a value that is the same
to_same : (a b c : ℕ) (P : Type 0) → P ↔ (a ≡ b) → b ≡ c → P ↔ (a ≡ c)
to_same a b c P iff same = (λ (p : P). iff.0 p ∙ same, λ (e : a ≡ c). iff.1 (e ∙ sym same))

abbrev scene : (setting : Setting) (shapes : List AccessShape) (x i : ℕ) (t : TermAssignment) (lt : ℕ → ℕ → Bool) (writer : Option Pos) → IsFixedByte setting shapes x i writer
    → IsOrder setting.log setting.accesses lt → Scene
scene setting shapes x i t lt writer is order = record {
  image = setting.image;
  log = setting.log;
  nodes = setting.nodes;
  accesses = setting.accesses;
  shapes = shapes;
  t = t;
  lt = lt;
  x = x;
  i = i;
  are = is.are;
  order = order.total;
  reader = is.there;
}

positive : (width : ℕ) → 0 < 2 ^ width
positive zero = omega arith
positive (suc width) = let less = positive width in omega (arith, less)

-- some assignment
abbrev zeros : TermAssignment
zeros = record { value_of = λ width number. 0; below = λ width number. positive width }

pub writes_sources : WritesAreSources
writes_sources setting encoder shapes x i y m keeps is wrote = record {
  there = is.there;
  within = is.within;
  read = is.read;
  width = keeps.width (written_id setting y m) wrote.written.inside ∙ wrote.written.width;
  holds = λ (t : TermAssignment) (lt : ℕ → ℕ → Bool) (order : IsOrder setting.log setting.accesses lt).
      to_same (value_at t setting.nodes (read_id setting x i)) (value_at t setting.nodes (written_id setting y m)) (value_at t encoder.pool (written_id setting y m))
      (SeesAt setting.image t setting.nodes setting.accesses lt x i)
      (written_bytes setting.image setting.log setting.nodes setting.accesses shapes t lt x i y m is.are order.total is.there wrote.there wrote.within (wrote.place t) (is.fixed t))
      (sym (keeps.value t (written_id setting y m) wrote.written.inside));
  given = λ (v : Partial) (lt : ℕ → ℕ → Bool) (order : IsOrder setting.log setting.accesses lt) (ready : IsReady setting encoder v lt x).
      let s = scene setting shapes x i zeros lt (Some (access_at setting.accesses y).pos) is order in
      let source : IsSource s y = source_of s y wrote.there (is.fixed zeros (before s) (writes s) (is_total s) (are_writes s)) in
      (ready.older y wrote.there source.older).writes m wrote.within;
}

pub initial_sources : InitialBytesAreSources
initial_sources setting nodes encoder shapes x i source keeps grows is made =
    let address = (access_at setting.accesses x).address.number in record {
      there = is.there;
      within = is.within;
      read = is.read;
      width = made.term.width;
      holds = λ (t : TermAssignment) (lt : ℕ → ℕ → Bool) (order : IsOrder setting.log setting.accesses lt).
          to_same (value_at t setting.nodes (read_id setting x i)) (byte_in (opening_cells setting.image (byte_at t setting.nodes setting.accesses x i))) (value_at t encoder.pool source)
          (SeesAt setting.image t setting.nodes setting.accesses lt x i)
          (initial_bytes setting.image setting.log setting.nodes setting.accesses shapes t lt x i is.are order.total is.there (is.fixed t))
          (ap (λ (a : ℕ). opening_byte setting.image a i) (sym (keeps.value t address is.address.inside)) ∙ sym (made.value t));
      given = λ (v : Partial) (lt : ℕ → ℕ → Bool) (order : IsOrder setting.log setting.accesses lt) (ready : IsReady setting encoder v lt x).
          made_decided nodes encoder.pool encoder v (address ∷ []) 8 (λ t. opening_byte setting.image (value_at t nodes address) i) source grows.terms (grows_same encoder.pool) made
          (decided_of_one encoder v address ready.address) source (Contains-head source []);
    }
