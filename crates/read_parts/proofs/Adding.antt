-- A reader that is built for whatever setting a caller has.
use Rattle.std.specs.Prelude.{◌≡◌, ℕ, ◌<◌, List, All, length}
use Rattle.std.proofs.Common.{sym, subst}
use Rattle.elf_image.specs.Layout.{Layout}
use Rattle.bv_terms.specs.Shapes.{Shape}
use Rattle.clause_store.specs.Formula.{Formula}
use Rattle.order_clauses.specs.declared.table.Table.{Table}
use Rattle.source_clauses.specs.declared.reader.Reader.{Reader}
use Rattle.source_clauses.specs.Contract.{AddsReader, KnowsReader}
use Rattle.encoder.specs.declared.encoder.Encoder.{Encoder}
use Rattle.encoder.specs.Encodes.{Encodes}
use Rattle.thread_terms.specs.declared.access.Access.{Access}
use Rattle.formula_parts.specs.Order.{Setting}
use Rattle.formula_parts.specs.Parts.{Adds}
use Rattle.reader_parts.specs.declared.reading.Reading.{Reading}
use Rattle.reader_parts.specs.declared.reading.Spot.{Spot}
use Rattle.reader_parts.specs.Conditions.{HasTerms}
use Rattle.reader_parts.specs.Readings.{IsBuiltReader, IsReading, IsSource, reader_parts}
use Rattle.reader_parts.proofs.Later.{all_have_later}
use Rattle.read_parts.specs.Reads.{CanBeRead, CanRead, IsSettingOf, reads_of}
use Rattle.read_parts.proofs.Knowing.{knows_built}
use Rattle.read_parts.proofs.Whole.{readers_whole}

-- ---- what building asks for

pub terms_there : (image : Layout) (accesses : List Access) (table : Table) (encoder : Encoder) (reading : Reading) (spots : List Spot)
    → CanBeRead image accesses table encoder reading spots → All (HasTerms encoder.pool) accesses
terms_there image accesses table encoder reading spots can =
    subst (All (HasTerms encoder.pool)) can.is.accesses_are (all_have_later can.setting.nodes encoder.pool can.setting.accesses can.can.stands.terms can.can.terms)

pub reading_there : (image : Layout) (accesses : List Access) (table : Table) (encoder : Encoder) (reading : Reading) (spots : List Spot)
    → CanBeRead image accesses table encoder reading spots → IsReading accesses reading
reading_there image accesses table encoder reading spots can = subst (λ (all : List Access). IsReading all reading) can.is.accesses_are can.can.reads

pub sources_there : (image : Layout) (accesses : List Access) (table : Table) (encoder : Encoder) (reading : Reading) (spots : List Spot)
    → CanBeRead image accesses table encoder reading spots → All (IsSource accesses reading) spots
sources_there image accesses table encoder reading spots can k d less =
    subst (λ (all : List Access). IsSource all reading _) can.is.accesses_are (can.can.sources k d less).source

-- ---- what was built

encodes_in : (setting : Setting) (image : Layout) (accesses : List Access) (table : Table) (old mid : Encoder) (reading : Reading) (spots : List Spot)
    → IsSettingOf setting image accesses table → Encodes old mid (reader_parts accesses reading spots) → Encodes old mid (reader_parts setting.accesses reading spots)
encodes_in setting image accesses table old mid reading spots is encodes =
    subst (λ (all : List Access). Encodes old mid (reader_parts all reading spots)) (sym is.accesses_are) encodes

built_in : (setting : Setting) (image : Layout) (accesses : List Access) (table : Table) (nodes : List Shape) (mid : Encoder) (reading : Reading) (spots : List Spot) (reader : Reader)
    → IsSettingOf setting image accesses table → IsBuiltReader nodes mid image accesses reading spots reader
    → IsBuiltReader nodes mid setting.image setting.accesses reading spots reader
built_in setting image accesses table nodes mid reading spots reader is built =
    subst (λ (all : List Access). IsBuiltReader nodes mid setting.image all reading spots reader) (sym is.accesses_are)
    (subst (λ (opening : Layout). IsBuiltReader nodes mid opening accesses reading spots reader) (sym is.image_is) built)

pub reader_known : (image : Layout) (accesses : List Access) (table : Table) (old mid : Encoder) (reading : Reading) (spots : List Spot) (reader : Reader)
    → CanBeRead image accesses table old reading spots → Encodes old mid (reader_parts accesses reading spots) → IsBuiltReader old.pool mid image accesses reading spots reader
    → KnowsReader mid.clauses.vars table reader
reader_known image accesses table old mid reading spots reader can encodes built =
    subst (λ (all : Table). KnowsReader mid.clauses.vars all reader) can.is.table_is
    (knows_built (record {
      setting = can.setting;
      old = old;
      mid = mid;
      reading = reading;
      spots = spots;
      reader = reader;
      can = can.can;
      encodes = encodes_in can.setting image accesses table old mid reading spots can.is encodes;
      built = built_in can.setting image accesses table old.pool mid reading spots reader can.is built;
    }))

pub reader_added : (image : Layout) (accesses : List Access) (table : Table) (old mid : Encoder) (after : Formula) (reading : Reading) (spots : List Spot) (reader : Reader)
    → Encodes old mid (reader_parts accesses reading spots) → IsBuiltReader old.pool mid image accesses reading spots reader → AddsReader mid.clauses after table reader
    → (setting : Setting) → IsSettingOf setting image accesses table → CanRead setting old reading spots → Adds setting old (record mid { clauses = after }) (reads_of reading)
reader_added image accesses table old mid after reading spots reader encodes built adds setting is can =
    readers_whole setting old mid after reading spots reader can (encodes_in setting image accesses table old mid reading spots is encodes)
    (built_in setting image accesses table old.pool mid reading spots reader is built)
    (subst (λ (all : Table). AddsReader mid.clauses after all reader) (sym is.table_is) adds)
