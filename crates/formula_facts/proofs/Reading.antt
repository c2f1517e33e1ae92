-- What is known of accesses is what their bytes are read by.
use Rattle.std.specs.Prelude.{◌≡◌, ℕ, ◌+◌, ◌<◌, true, List, [], ◌∷◌, length, get_or, slice_index_or, Option, Some, None, is_some}
use Rattle.std.proofs.Common.{sym, ◌∙◌, ap, subst, arith}
use Rattle.std.proofs.lemmas.Bool.{false≢true}
use Rattle.elf_image.specs.Layout.{Layout}
use Rattle.bv_terms.specs.Shapes.{Shape}
use Rattle.bv_terms.specs.Values.{KeepsTerms}
use Rattle.race_set.specs.declared.reading.Seen.{Seen}
use Rattle.race_set.specs.declared.shape.AccessShape.{AccessShape}
use Rattle.race_set.specs.declared.shape.Span.{Span}
use Rattle.order_clauses.specs.declared.table.Table.{Table}
use Rattle.encoder.specs.declared.encoder.Encoder.{Encoder}
use Rattle.encoder.proofs.Encoding.{get_or_any}
use Rattle.step_terms.specs.Made.{IsTerm}
use Rattle.thread_terms.specs.declared.access.Access.{Access}
use Rattle.term_sources.specs.Sees.{access_at, no_access, no_id}
use Rattle.formula_parts.specs.Order.{Setting}
use Rattle.formula_parts.specs.Facts.{Reads}
use Rattle.reader_parts.specs.declared.reading.Reading.{Reading}
use Rattle.reader_parts.specs.declared.reading.Spot.{Spot}
use Rattle.reader_parts.specs.Readings.{spot_at}
use Rattle.formula_parts.specs.Parts.{Adds}
use Rattle.read_parts.specs.Reads.{CanBeRead, CanRead, IsCoveredByte, IsSettingOf, IsSpot, reads_of}
use Rattle.reader_parts.proofs.Candidates.{terms_of}
use Rattle.same_parts.specs.Adding.{SaysInitial, SaysWritten}
use Rattle.same_parts.specs.Same.{IsFixedByte, IsWrittenThere, written_id}
use Rattle.read_spots.specs.declared.source.Source.{Source}
use Rattle.read_spots.specs.declared.source.Source.TheVariants as source
use Rattle.read_spots.specs.Sources.{HasReadTerms, IsSeenIn, IsSourceIn}
use Rattle.read_spots.specs.Spots.{AreSpots, IsOpenByte, IsReadIn, IsSpotOf, place_in, sought}
use Rattle.formula_facts.specs.declared.known.Known.{Known}
use Rattle.formula_facts.specs.Known.{AddsFacts, AddsOpen, CanAdd, CanAddOpen, IsKnownIn, IsReadyFor}

abbrev pub reading_at : (x i at : ℕ) → Reading
reading_at x i at = record { access = x; index = i; count = 1; at = at }

-- a byte that an access reads among those of a setting
pub record IsThere (setting : Setting) (x i : ℕ) : Type 0 where
  pub there : x < length setting.accesses
  pub within : i < length (access_at setting.accesses x).reads

pub read_in : (setting : Setting) (known : Known) (x i : ℕ) → IsKnownIn setting known → IsThere setting x i
    → IsReadIn setting known.order known.shapes known.places x i
read_in setting known x i is byte = record {
  are = is.are;
  order_of = is.order_of;
  counted = is.counted;
  has = is.has;
  ordered = is.ordered;
  reads = is.reads x i byte.there byte.within;
  within = λ (span : Span) place. is.within x i span byte.there byte.within place;
}

-- an access with a place is chosen
pub chosen_by : (setting : Setting) (known : Known) (y at : ℕ) → IsKnownIn setting known → y < length setting.accesses → place_in known.places y ≡ Some at
    → setting.places.chosen y ≡ true
chosen_by setting known y at is there place = is.has.chosen y there ∙ ap is_some place

-- and one without isn't
pub not_chosen : (setting : Setting) (known : Known) (y : ℕ) → IsKnownIn setting known → y < length setting.accesses → place_in known.places y ≡ None
    → setting.places.chosen y ≡ true → ⊥
not_chosen setting known y is there place chosen = false≢true (sym (is.has.chosen y there ∙ ap is_some place) ∙ chosen)

spot_is : (setting : Setting) (known : Known) (x i at : ℕ) (spot : Spot) → IsKnownIn setting known
    → IsSpotOf (sought setting.log setting.accesses known.shapes known.places x i) spot → IsSpot setting (reading_at x i at) spot
spot_is setting known x i at spot is of = let within = of.within in record {
  source = record { there = of.there; within = omega (arith, within) };
  other = of.precedes.other;
  chosen = chosen_by setting known spot.access spot.at is of.there of.at;
  at = sym (is.has.place spot.access spot.at of.at);
}

pub can_read : (setting : Setting) (known : Known) (encoder : Encoder) (x i at : ℕ) (spots : List Spot) → IsKnownIn setting known → IsReadyFor setting encoder
    → IsThere setting x i → place_in known.places x ≡ Some at → AreSpots setting known.shapes known.places x i spots
    → CanRead setting encoder (reading_at x i at) spots
can_read setting known encoder x i at spots is ready byte place are =
    let within = byte.within in let few = is.typed.few_reads x byte.there in record {
      stands = ready.stands;
      terms = is.typed.terms;
      few = is.typed.few;
      written = ready.written;
      reads = record { there = byte.there; within = omega (arith, within); fits = omega (arith, within, few) };
      bytes = λ (j : ℕ) (less : j < 1). let first : i + j ≡ i = omega (arith, less) in
          subst (λ (n : ℕ). IsTerm setting.nodes 8 (slice_index_or (access_at setting.accesses x).reads n no_id).number) (sym first) (is.typed.read x i byte.there byte.within);
      some = omega arith;
      chosen = are.chosen;
      at = sym (is.has.place x at place);
      sources = λ (k : ℕ) (d : Spot) (less : k < length spots).
          subst (IsSpot setting (reading_at x i at)) (get_or_any spots k (record { access = 0; byte = 0; at = 0 }) d less) (spot_is setting known x i at (spot_at spots k) is (are.only k less));
      distinct = are.apart;
      covered = λ (j : ℕ) (less : j < 1). let first : j ≡ 0 = omega (arith, less) in
          subst (IsCoveredByte setting (reading_at x i at) spots) (sym first) are.covered;
    }

pub can_be_read : (image : Layout) (known : Known) (encoder : Encoder) (x i at : ℕ) (spots : List Spot) (table : Table) (can : CanAdd image known encoder)
    → IsThere can.setting x i → table ≡ known.vars.ordered.table → place_in known.places x ≡ Some at → AreSpots can.setting known.shapes known.places x i spots
    → CanBeRead image known.accesses table encoder (reading_at x i at) spots
can_be_read image known encoder x i at spots table can byte is_table place are = record {
  setting = can.setting;
  is = record { image_is = can.image_is; accesses_are = can.is.accesses_are; table_is = can.is.table_is ∙ sym is_table };
  can = can_read can.setting known encoder x i at spots can.is can.ready byte place are;
}

-- ---- where a byte comes from

seen_in : (setting : Setting) (known : Known) (x i : ℕ) → IsKnownIn setting known → IsThere setting x i → IsSeenIn setting known.shapes known.seen x i
seen_in setting known x i is byte = record {
  are = is.are;
  exact = is.exact;
  order = is.some_order;
  is_order = is.is_order;
  reads = is.reads x i byte.there byte.within;
  within = λ (span : Span) place. is.within x i span byte.there byte.within place;
}

read_terms : (setting : Setting) (known : Known) (x i : ℕ) → IsKnownIn setting known → IsThere setting x i → HasReadTerms setting x i
read_terms setting known x i is byte = record {
  within = byte.within;
  read = is.typed.read x i byte.there byte.within;
  address = (terms_of setting.nodes setting.accesses x is.typed.terms byte.there).address;
}

-- what was told of a byte, by slices of what is known
abbrev pub IsTold : List AccessShape → List Seen → (x i : ℕ) → Source → Type 0
IsTold shapes seen x i source = (setting : Setting) → IsSeenIn setting shapes seen x i → IsSourceIn setting shapes x i source

pub told_in : (setting : Setting) (known : Known) (shapes : List AccessShape) (seen : List Seen) (x i : ℕ) (source : Source) → shapes ≡ known.shapes → seen ≡ known.seen
    → IsTold shapes seen x i source → IsKnownIn setting known → IsThere setting x i → IsSourceIn setting known.shapes x i source
told_in setting known shapes seen x i source same_shapes same_seen told is byte =
    subst (λ (ss : List AccessShape). IsTold ss known.seen x i source) same_shapes (subst (λ (s : List Seen). IsTold shapes s x i source) same_seen told)
    setting (seen_in setting known x i is byte)

-- a byte of known accesses is one of the setting's
pub there_in : (setting : Setting) (known : Known) (x i : ℕ) → IsKnownIn setting known → x < length known.accesses → i < length (access_at known.accesses x).reads
    → IsThere setting x i
there_in setting known x i is there within = record {
  there = subst (λ (accesses : List Access). x < length accesses) (sym is.accesses_are) there;
  within = subst (λ (accesses : List Access). i < length (access_at accesses x).reads) (sym is.accesses_are) within;
}

-- an open byte
pub can_open : (image : Layout) (known : Known) (encoder : Encoder) (shapes : List AccessShape) (seen : List Seen) (x i : ℕ) → CanAdd image known encoder
    → x < length known.accesses → i < length (access_at known.accesses x).reads → shapes ≡ known.shapes → seen ≡ known.seen → IsTold shapes seen x i source.Open
    → CanAddOpen image known encoder x i
can_open image known encoder shapes seen x i can there within same_shapes same_seen told = record {
  can = can;
  there = there;
  within = within;
  is_open = told_in can.setting known shapes seen x i source.Open same_shapes same_seen told can.is (there_in can.setting known x i can.is there within);
}

pub adds_open : (image : Layout) (known : Known) (old new : Encoder) (shapes : List AccessShape) (seen : List Seen) (x i : ℕ)
    → x < length known.accesses → i < length (access_at known.accesses x).reads → shapes ≡ known.shapes → seen ≡ known.seen → IsTold shapes seen x i source.Open
    → AddsOpen image known old new x i → AddsFacts image known old new (Reads x i ∷ [])
adds_open image known old new shapes seen x i there within same_shapes same_seen told adds setting is_image is ready =
    adds setting is_image is ready (told_in setting known shapes seen x i source.Open same_shapes same_seen told is (there_in setting known x i is there within))

-- an initial one
pub adds_initial : (image : Layout) (known : Known) (old new : Encoder) (accesses : List Access) (shapes : List AccessShape) (seen : List Seen) (x i : ℕ)
    → x < length known.accesses → i < length (access_at known.accesses x).reads → accesses ≡ known.accesses → shapes ≡ known.shapes → seen ≡ known.seen
    → IsTold shapes seen x i source.Initial → SaysInitial old new image accesses x i → AddsFacts image known old new (Reads x i ∷ [])
adds_initial image known old new accesses shapes seen x i there within same same_shapes same_seen told says setting is_image is ready =
    let byte = there_in setting known x i is there within in
    says setting known.shapes is_image (is.accesses_are ∙ sym same) ready.stands
    (told_in setting known shapes seen x i source.Initial same_shapes same_seen told is byte (read_terms setting known x i is byte))

-- a written one
written_in : (setting : Setting) (known : Known) (shapes : List AccessShape) (seen : List Seen) (x i y m : ℕ)
    → shapes ≡ known.shapes → seen ≡ known.seen → IsTold shapes seen x i (source.Written y m) → IsKnownIn setting known → IsThere setting x i → IsWrittenThere setting x i y m
written_in setting known shapes seen x i y m same_shapes same_seen told is byte =
    let of = (told_in setting known shapes seen x i (source.Written y m) same_shapes same_seen told is byte).1 in
    record { there = of.there; within = of.within; written = is.typed.written y m of.there of.within; place = of.place }

pub adds_written : (image : Layout) (known : Known) (old new : Encoder) (accesses : List Access) (shapes : List AccessShape) (seen : List Seen) (x i y m : ℕ)
    → x < length known.accesses → i < length (access_at known.accesses x).reads → accesses ≡ known.accesses → shapes ≡ known.shapes → seen ≡ known.seen
    → IsTold shapes seen x i (source.Written y m) → SaysWritten old new accesses x i y m → AddsFacts image known old new (Reads x i ∷ [])
adds_written image known old new accesses shapes seen x i y m there within same same_shapes same_seen told says setting is_image is ready =
    let byte = there_in setting known x i is there within in
    says setting known.shapes (is.accesses_are ∙ sym same) ready.stands
    (subst (λ (xs : List Access). IsFixedByte setting known.shapes x i (Some (access_at xs y).pos)) (is.accesses_are ∙ sym same)
    ((told_in setting known shapes seen x i (source.Written y m) same_shapes same_seen told is byte).0 (read_terms setting known x i is byte)))
    (written_in setting known shapes seen x i y m same_shapes same_seen told is byte)

-- the byte that was written is there, and has a term
pub record HasWritten (pool : List Shape) (accesses : List Access) (y m : ℕ) : Type 0 where
  pub there : y < length accesses
  pub within : m < length (access_at accesses y).writes
  pub written : IsTerm pool 8 (slice_index_or (access_at accesses y).writes m no_id).number

pub has_written : (image : Layout) (known : Known) (encoder : Encoder) (accesses : List Access) (shapes : List AccessShape) (seen : List Seen) (x i y m : ℕ)
    → CanAdd image known encoder → x < length known.accesses → i < length (access_at known.accesses x).reads → accesses ≡ known.accesses → shapes ≡ known.shapes → seen ≡ known.seen
    → IsTold shapes seen x i (source.Written y m) → HasWritten encoder.pool accesses y m
has_written image known encoder accesses shapes seen x i y m can there within same same_shapes same_seen told =
    let of = written_in can.setting known shapes seen x i y m same_shapes same_seen told can.is (there_in can.setting known x i can.is there within) in
    subst (λ (xs : List Access). HasWritten encoder.pool xs y m) (can.is.accesses_are ∙ sym same)
    (record { there = of.there; within = of.within; written = term_later can.setting.nodes encoder.pool 8 (written_id can.setting y m) can.ready.stands.terms of.written })
  where
    term_later : (old new : List Shape) (bits id : ℕ) → KeepsTerms old new → IsTerm old bits id → IsTerm new bits id
    term_later old new bits id keeps term = let inside = term.inside in let longer = keeps.grows in
        record { inside = omega (arith, inside, longer); width = keeps.width id term.inside ∙ term.width }

-- ---- an open byte by what was found for it

-- spots that were found for a byte, by slices of what is known
abbrev pub AreFoundSpots : Known → List Access → List AccessShape → List (Option ℕ) → (x i : ℕ) → List Spot → Type 0
AreFoundSpots known accesses shapes places x i spots =
    (setting : Setting) → setting.accesses ≡ accesses → IsReadIn setting known.order shapes places x i → IsOpenByte setting.log shapes x i
    → AreSpots setting shapes places x i spots

found_spots : (setting : Setting) (known : Known) (accesses : List Access) (shapes : List AccessShape) (places : List (Option ℕ)) (x i : ℕ) (spots : List Spot)
    → accesses ≡ known.accesses → shapes ≡ known.shapes → places ≡ known.places → AreFoundSpots known accesses shapes places x i spots
    → IsKnownIn setting known → IsThere setting x i → IsOpenByte setting.log known.shapes x i → AreSpots setting known.shapes known.places x i spots
found_spots setting known accesses shapes places x i spots same same_shapes same_places found is byte is_open =
    subst (λ (xs : List Access). AreFoundSpots known xs known.shapes known.places x i spots) same
    (subst (λ (ss : List AccessShape). AreFoundSpots known accesses ss known.places x i spots) same_shapes
    (subst (λ (ps : List (Option ℕ)). AreFoundSpots known accesses shapes ps x i spots) same_places found)) setting is.accesses_are (read_in setting known x i is byte) is_open

-- a reader of an open byte has a place
pub unplaced : (setting : Setting) (known : Known) (encoder : Encoder) (accesses : List Access) (shapes : List AccessShape) (places : List (Option ℕ)) (x i : ℕ) (spots : List Spot)
    → x < length known.accesses → i < length (access_at known.accesses x).reads → accesses ≡ known.accesses → shapes ≡ known.shapes → places ≡ known.places
    → AreFoundSpots known accesses shapes places x i spots → place_in known.places x ≡ None → IsKnownIn setting known → IsOpenByte setting.log known.shapes x i
    → Adds setting encoder encoder (Reads x i ∷ [])
unplaced setting known encoder accesses shapes places x i spots there within same same_shapes same_places found none is is_open =
    let byte = there_in setting known x i is there within in
    absurd (not_chosen setting known x is byte.there none (found_spots setting known accesses shapes places x i spots same same_shapes same_places found is byte is_open).chosen)

-- its bytes can be read
pub opened : (image : Layout) (known : Known) (encoder : Encoder) (accesses read_from : List Access) (table : Table) (shapes : List AccessShape) (places : List (Option ℕ))
    (x i at : ℕ) (spots slice : List Spot) → CanAddOpen image known encoder x i
    → accesses ≡ known.accesses → shapes ≡ known.shapes → places ≡ known.places → read_from ≡ known.accesses → table ≡ known.vars.ordered.table → slice ≡ spots
    → AreFoundSpots known accesses shapes places x i spots → place_in known.places x ≡ Some at
    → CanBeRead image read_from table encoder (reading_at x i at) slice
opened image known encoder accesses read_from table shapes places x i at spots slice can same same_shapes same_places read_is table_is slice_is found place =
    let byte = there_in can.can.setting known x i can.can.is can.there can.within in
    subst (λ (xs : List Access). CanBeRead image xs table encoder (reading_at x i at) slice) (sym read_is)
    (subst (CanBeRead image known.accesses table encoder (reading_at x i at)) (sym slice_is)
    (can_be_read image known encoder x i at spots table can.can byte table_is place
    (found_spots can.can.setting known accesses shapes places x i spots same same_shapes same_places found can.can.is byte can.is_open)))

-- what a call says that read them
abbrev pub SaysRead : Layout → List Access → Table → (old new : Encoder) → Reading → List Spot → Type 0
SaysRead image accesses table old new reading spots =
    (setting : Setting) → IsSettingOf setting image accesses table → CanRead setting old reading spots → Adds setting old new (reads_of reading)

pub opens : (image : Layout) (known : Known) (old new : Encoder) (accesses read_from : List Access) (table : Table) (shapes : List AccessShape) (places : List (Option ℕ))
    (x i at : ℕ) (spots slice : List Spot) → x < length known.accesses → i < length (access_at known.accesses x).reads
    → accesses ≡ known.accesses → shapes ≡ known.shapes → places ≡ known.places → read_from ≡ known.accesses → table ≡ known.vars.ordered.table → slice ≡ spots
    → AreFoundSpots known accesses shapes places x i spots → place_in known.places x ≡ Some at
    → SaysRead image read_from table old new (reading_at x i at) slice → AddsOpen image known old new x i
opens image known old new accesses read_from table shapes places x i at spots slice there within same same_shapes same_places read_is table_is slice_is found place says
    setting is_image is ready is_open =
    let byte = there_in setting known x i is there within in
    let can : CanRead setting old (reading_at x i at) spots =
    can_read setting known old x i at spots is ready byte place
    (found_spots setting known accesses shapes places x i spots same same_shapes same_places found is byte is_open) in
    let first : i + 0 ≡ i = omega arith in
    subst (λ (n : ℕ). Adds setting old new (Reads x n ∷ [])) first
    (says setting (record { image_is = is_image; accesses_are = is.accesses_are ∙ sym read_is; table_is = is.table_is ∙ sym table_is })
    (subst (CanRead setting old (reading_at x i at)) (sym slice_is) can))

-- the place of an access that was looked up in a slice
pub place_from : (slice places : List (Option ℕ)) (x : ℕ) (d o : Option ℕ) → slice ≡ places → x < length places → get_or slice x d ≡ o → place_in places x ≡ o
place_from slice places x d o same there e = get_or_any places x None d there ∙ ap (λ (xs : List (Option ℕ)). get_or xs x d) (sym same) ∙ e

-- as many bytes as an access that was looked up in a slice reads
pub reads_count : (slice accesses : List Access) (x : ℕ) (d : Access) → slice ≡ accesses → x < length accesses
    → length (get_or slice x d).reads ≡ length (access_at accesses x).reads
reads_count slice accesses x d same there =
    ap (λ (xs : List Access). length (get_or xs x d).reads) same ∙ ap (λ (a : Access). length a.reads) (get_or_any accesses x d no_access there)
