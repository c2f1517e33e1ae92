-- Facts that are added one after another.
use Rattle.std.specs.Prelude.{ℕ, ◌<◌, List, [], ◌++◌, length, slice_index_or}
use Rattle.std.proofs.Common.{◌∙◌, arith}
use Rattle.elf_image.specs.Layout.{Layout}
use Rattle.clause_store.specs.Formula.{Grows}
use Rattle.bit_clauses.proofs.Blasted.{built_later}
use Rattle.encoder.specs.declared.encoder.Encoder.{Encoder}
use Rattle.term_sources.specs.Sees.{access_at, no_id}
use Rattle.formula_parts.specs.Order.{Setting}
use Rattle.formula_parts.specs.Facts.{Fact}
use Rattle.formula_parts.specs.Parts.{Adds}
use Rattle.formula_parts.proofs.Composing.{nothing, parts_then, stands_later}
use Rattle.formula_facts.specs.declared.known.Known.{Known}
use Rattle.formula_facts.specs.Known.{AddsFacts, AreTyped, CanAdd, IsReadyFor}

pub ready_later : (setting : Setting) (old now : Encoder) (facts : List Fact) → AreTyped setting → IsReadyFor setting old → Adds setting old now facts → IsReadyFor setting now
ready_later setting old now facts typed ready adds = record {
  stands = stands_later setting old now facts ready.stands adds;
  written = λ (y m : ℕ) (there : y < length setting.accesses) (within : m < length (access_at setting.accesses y).writes).
      let id = (slice_index_or (access_at setting.accesses y).writes m no_id).number in
      let inside : id < length setting.nodes = (typed.written y m there within).inside in
      let longer = ready.stands.terms.grows in (
        built_later old.blaster now.blaster id adds.keeps.bits (ready.written y m there within).0,
        adds.keeps.terms.width id (omega (arith, inside, longer)) ∙ (ready.written y m there within).1,
      );
}

pub none_added : (image : Layout) (known : Known) (encoder : Encoder) → AddsFacts image known encoder encoder []
none_added image known encoder setting is_image is ready = nothing setting encoder ready.stands

pub more_added : (image : Layout) (known : Known) (old now new : Encoder) (facts more : List Fact) → AddsFacts image known old now facts
    → AddsFacts image known now new more → AddsFacts image known old new (facts ++ more)
more_added image known old now new facts more first second setting is_image is ready =
    let adds : Adds setting old now facts = first setting is_image is ready in
    parts_then setting old now new facts more ready.stands adds (second setting is_image is (ready_later setting old now facts is.typed ready adds))

pub can_later : (image : Layout) (known : Known) (old now : Encoder) (facts : List Fact) → CanAdd image known old → AddsFacts image known old now facts → CanAdd image known now
can_later image known old now facts can adds = record {
  setting = can.setting;
  image_is = can.image_is;
  is = can.is;
  ready = ready_later can.setting old now facts can.is.typed can.ready (adds can.setting can.image_is can.is can.ready);
}

pub grown : (image : Layout) (known : Known) (old now : Encoder) (facts : List Fact) → CanAdd image known old → AddsFacts image known old now facts → Grows old.clauses now.clauses
grown image known old now facts can adds = (adds can.setting can.image_is can.is can.ready).keeps.grows
