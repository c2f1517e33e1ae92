-- Spots that are gathered one byte after the other.
use Rattle.std.specs.Prelude.{◌≡◌, ◌≢◌, ◌⊎◌, ℕ, zero, suc, ◌+◌, ◌-◌, ◌%◌, ◌<◌, ◌≤◌, ◌^◌, List, [], ◌∷◌, ◌++◌, length, get_or, Option, Some, None, is_some, refl}
use Rattle.std.proofs.Common.{sym, ◌∙◌, ap, subst, inl, inr, arith}
use Rattle.std.proofs.lemmas.Bool.{cases_lt, false≢true}
use Rattle.std.proofs.lemmas.List.{get_or_append_left, get_or_push, length-append}
use Rattle.std.proofs.lemmas.Option.{same_Some}
use Rattle.race_set.specs.declared.shape.Span.{Span}
use Rattle.race_set.specs.Accesses.{shape_at}
use Rattle.race_set.specs.Bytes.{byte_of}
use Rattle.race_set.specs.Readings.{Precedes}
use Rattle.term_sources.specs.Sees.{access_at}
use Rattle.reader_parts.specs.declared.reading.Spot.{Spot}
use Rattle.reader_parts.specs.Readings.{spot_at}
use Rattle.read_spots.specs.Spots.{AreApart, AreSpotsBefore, IsAmong, IsSpotOf, MayMeet, MayPrecede, Sought, place_in}

abbrev no_spot : Spot
no_spot = record { access = 0; byte = 0; at = 0 }

same_spot : (a b : Spot) → a.access ≡ b.access → a.byte ≡ b.byte → a.at ≡ b.at → a ≡ b
same_spot a b e f g =
    ap (λ (n : ℕ). let o : Spot = record { access = n; byte = a.byte; at = a.at } in o) e
    ∙ ap (λ (n : ℕ). let o : Spot = record { access = b.access; byte = n; at = a.at } in o) f
    ∙ ap (λ (n : ℕ). let o : Spot = record { access = b.access; byte = b.byte; at = n } in o) g

nothing_first : (a b : ℕ) → Precedes a b 0 0 → ⊥
nothing_first a b (inl less) = absurd (omega (arith, less))
nothing_first a b (inr same) = let less : b < 0 = same.1 in absurd (omega (arith, less))

pub none_yet : (s : Sought) → AreSpotsBefore s 0 0 []
none_yet s = record {
  only = λ (k : ℕ) (less : k < 0). absurd (omega (arith, less));
  below = λ (k : ℕ) (less : k < 0). absurd (omega (arith, less));
  apart = λ (j k : ℕ) (less : j < 0). absurd (omega (arith, less));
  each = λ (spot : Spot) (before : Precedes spot.access spot.byte 0 0). absurd (nothing_first spot.access spot.byte before);
}

-- ---- places that have no spot

passed : (s : Sought) (y m z n : ℕ) (spots : List Spot) → ((a b : ℕ) → Precedes a b y m → Precedes a b z n)
    → ((spot : Spot) → Precedes spot.access spot.byte z n → IsSpotOf s spot → Precedes spot.access spot.byte y m)
    → AreSpotsBefore s y m spots → AreSpotsBefore s z n spots
passed s y m z n spots later none are = record {
  only = are.only;
  below = λ (k : ℕ) (less : k < length spots). later (spot_at spots k).access (spot_at spots k).byte (are.below k less);
  apart = are.apart;
  each = λ (spot : Spot) (before : Precedes spot.access spot.byte z n) (is : IsSpotOf s spot). are.each spot (none spot before is) is;
}

further : (a b y m n : ℕ) → m ≤ n → Precedes a b y m → Precedes a b y n
further a b y m n most (inl less) = inl less
further a b y m n most (inr same) = let less : b < m = same.1 in inr (same.0, omega (arith, less, most))

-- bytes from one on have no spot
none_between : (s : Sought) (y m n : ℕ) → ((spot : Spot) → spot.access ≡ y → m ≤ spot.byte → IsSpotOf s spot → ⊥)
    → (spot : Spot) → Precedes spot.access spot.byte y n → IsSpotOf s spot → Precedes spot.access spot.byte y m
none_between s y m n none spot (inl less) is = inl less
none_between s y m n none spot (inr same) is = elim (cases_lt spot.byte m) [
  | inl less ↦ inr (same.0, less)
  | inr past ↦ absurd (none spot same.0 (omega (arith, past)) is)
]

next_access : (a b y m : ℕ) → Precedes a b y m → Precedes a b (y + 1) 0
next_access a b y m (inl less) = inl (omega (arith, less))
next_access a b y m (inr same) = let e : a ≡ y = same.0 in inl (omega (arith, e))

none_after : (s : Sought) (y m : ℕ) → ((spot : Spot) → spot.access ≡ y → m ≤ spot.byte → IsSpotOf s spot → ⊥)
    → (spot : Spot) → Precedes spot.access spot.byte (y + 1) 0 → IsSpotOf s spot → Precedes spot.access spot.byte y m
none_after s y m none spot (inr same) is = let less : spot.byte < 0 = same.1 in absurd (omega (arith, less))
none_after s y m none spot (inl less) is = elim (cases_lt spot.access y) [
  | inl before ↦ inl before
  | inr past ↦ elim (cases_lt spot.byte m) [
    | inl low ↦ inr (omega (arith, less, past), low)
    | inr high ↦ absurd (none spot (omega (arith, less, past)) (omega (arith, high)) is)
  ]
]

-- the first bytes of an access have none
pub skip_first : (s : Sought) (y m : ℕ) (spots : List Spot) → ((spot : Spot) → spot.access ≡ y → IsSpotOf s spot → m ≤ spot.byte)
    → AreSpotsBefore s y 0 spots → AreSpotsBefore s y m spots
skip_first s y m spots from are =
    passed s y 0 y m spots (λ (a b : ℕ). further a b y 0 m (omega arith)) none are
  where
    none : (spot : Spot) → Precedes spot.access spot.byte y m → IsSpotOf s spot → Precedes spot.access spot.byte y 0
    none spot (inl less) is = inl less
    none spot (inr same) is = let less : spot.byte < m = same.1 in let most : m ≤ spot.byte = from spot same.0 is in absurd (omega (arith, less, most))

-- the later bytes of an access have none
pub end_access : (s : Sought) (y m : ℕ) (spots : List Spot) → ((spot : Spot) → spot.access ≡ y → IsSpotOf s spot → spot.byte < m)
    → AreSpotsBefore s y m spots → AreSpotsBefore s (y + 1) 0 spots
end_access s y m spots below are =
    passed s y m (y + 1) 0 spots (λ (a b : ℕ). next_access a b y m)
    (none_after s y m (λ (spot : Spot) (e : spot.access ≡ y) (past : m ≤ spot.byte) (is : IsSpotOf s spot).
    let less : spot.byte < m = below spot e is in absurd (omega (arith, less, past)))) are

-- ---- one more spot

each_pushed : (P : Spot → Type 0) (spots : List Spot) (spot : Spot) → ((k : ℕ) → k < length spots → P (spot_at spots k)) → P spot
    → (k : ℕ) → k < length (spots ++ spot ∷ []) → P (spot_at (spots ++ spot ∷ []) k)
each_pushed P spots spot each last k less = elim (cases_lt k (length spots)) [
  | inl before ↦ subst P (sym (get_or_append_left spots (spot ∷ []) no_spot k before)) (each k before)
  | inr past ↦
      let size : length (spots ++ spot ∷ []) ≡ length spots + 1 = length-append spots (spot ∷ []) in
      let at_end : k ≡ length spots = omega (arith, less, past, size) in
      subst (λ (n : ℕ). P (spot_at (spots ++ spot ∷ []) n)) (sym at_end) (subst P (sym (get_or_push spots spot no_spot (length spots) refl)) last)
]

not_before : (a b y m : ℕ) → a ≡ y → b ≡ m → Precedes a b y m → ⊥
not_before a b y m e f (inl less) = absurd (omega (arith, e, less))
not_before a b y m e f (inr same) = let less : b < m = same.1 in absurd (omega (arith, f, less))

-- two spots of one byte are at one number
abbrev OneNumber : List Spot → (j : ℕ) → (k : ℕ) → Spot → Spot → Type 0
OneNumber spots j k a b = a.access ≡ b.access → a.byte ≡ b.byte → j ≡ k

apart_pushed : (s : Sought) (y m at : ℕ) (spots : List Spot) → AreSpotsBefore s y m spots → AreApart (spots ++ record { access = y; byte = m; at = at } ∷ [])
apart_pushed s y m at spots are j k less_j less_k e f =
    let spot : Spot = record { access = y; byte = m; at = at } in
    let all : List Spot = spots ++ spot ∷ [] in
    let size : length (spots ++ spot ∷ []) ≡ length spots + 1 = length-append spots (spot ∷ []) in
    let old : (n : ℕ) → n < length spots → spot_at (spots ++ spot ∷ []) n ≡ spot_at spots n = λ (n : ℕ) (less : n < length spots). get_or_append_left spots (spot ∷ []) no_spot n less in
    let last : (n : ℕ) → n ≡ length spots → spot_at (spots ++ spot ∷ []) n ≡ spot = λ (n : ℕ) (e : n ≡ length spots). ap (spot_at (spots ++ spot ∷ [])) e ∙ get_or_push spots spot no_spot (length spots) refl in
    elim (cases_lt j (length spots)) [
      | inl low_j ↦ elim (cases_lt k (length spots)) [
        | inl low_k ↦ are.apart j k low_j low_k
            (ap (λ (p : Spot). p.access) (sym (old j low_j)) ∙ e ∙ ap (λ (p : Spot). p.access) (old k low_k))
            (ap (λ (p : Spot). p.byte) (sym (old j low_j)) ∙ f ∙ ap (λ (p : Spot). p.byte) (old k low_k))
        | inr high_k ↦ absurd (not_before (spot_at spots j).access (spot_at spots j).byte y m
            (ap (λ (p : Spot). p.access) (sym (old j low_j)) ∙ e ∙ ap (λ (p : Spot). p.access) (last k (omega (arith, less_k, high_k, size))))
            (ap (λ (p : Spot). p.byte) (sym (old j low_j)) ∙ f ∙ ap (λ (p : Spot). p.byte) (last k (omega (arith, less_k, high_k, size))))
            (are.below j low_j))
      ]
      | inr high_j ↦ elim (cases_lt k (length spots)) [
        | inl low_k ↦ absurd (not_before (spot_at spots k).access (spot_at spots k).byte y m
            (ap (λ (p : Spot). p.access) (sym (old k low_k)) ∙ sym e ∙ ap (λ (p : Spot). p.access) (last j (omega (arith, less_j, high_j, size))))
            (ap (λ (p : Spot). p.byte) (sym (old k low_k)) ∙ sym f ∙ ap (λ (p : Spot). p.byte) (last j (omega (arith, less_j, high_j, size))))
            (are.below k low_k))
        | inr high_k ↦ omega (arith, less_j, less_k, high_j, high_k, size)
      ]
    ]

among_pushed : (spots : List Spot) (spot other : Spot) → IsAmong spots other → IsAmong (spots ++ spot ∷ []) other
among_pushed spots spot other found =
    let size : length (spots ++ spot ∷ []) ≡ length spots + 1 = length-append spots (spot ∷ []) in
    let less : found.0 < length spots = found.1 in
    (found.0, omega (arith, less, size), get_or_append_left spots (spot ∷ []) no_spot found.0 less ∙ found.2)

last_among : (spots : List Spot) (spot : Spot) → IsAmong (spots ++ spot ∷ []) spot
last_among spots spot =
    let size : length (spots ++ spot ∷ []) ≡ length spots + 1 = length-append spots (spot ∷ []) in
    (length spots, omega (arith, size), get_or_push spots spot no_spot (length spots) refl)

before_or_at : (a b y m : ℕ) → Precedes a b y (m + 1) → Precedes a b y m ⊎ ((a ≡ y) × (b ≡ m))
before_or_at a b y m (inl less) = inl (inl less)
before_or_at a b y m (inr same) = elim (cases_lt b m) [
  | inl less ↦ inl (inr (same.0, less))
  | inr past ↦ let most : b < m + 1 = same.1 in inr (same.0, omega (arith, past, most))
]

pub one_more : (s : Sought) (y m at : ℕ) (spots pushed : List Spot) → pushed ≡ spots ++ record { access = y; byte = m; at = at } ∷ []
    → IsSpotOf s (record { access = y; byte = m; at = at }) → AreSpotsBefore s y m spots → AreSpotsBefore s y (m + 1) pushed
one_more s y m at spots pushed same is are =
    subst (λ (list : List Spot). AreSpotsBefore s y (m + 1) list) (sym same) (record {
      only = each_pushed (IsSpotOf s) spots spot are.only is;
      below = each_pushed (λ (p : Spot). Precedes p.access p.byte y (m + 1)) spots spot
          (λ (k : ℕ) (less : k < length spots). further (spot_at spots k).access (spot_at spots k).byte y m (m + 1) (omega arith) (are.below k less))
          (inr (refl, omega arith));
      apart = apart_pushed s y m at spots are;
      each = λ (other : Spot) (before : Precedes other.access other.byte y (m + 1)) (it : IsSpotOf s other). elim (before_or_at other.access other.byte y m before) [
        | inl earlier ↦ among_pushed spots spot other (are.each other earlier it)
        | inr here ↦ subst (IsAmong (spots ++ spot ∷ [])) (same_spot spot other (sym here.0) (sym here.1)
            (same_Some at other.at (sym is.at ∙ ap (place_in s.places) (sym here.0) ∙ it.at))) (last_among spots spot)
      ];
    })
  where
    spot : Spot
    spot = record { access = y; byte = m; at = at }

-- all accesses are done
pub all_done : (s : Sought) (y : ℕ) (spots : List Spot) → y ≡ length s.accesses → AreSpotsBefore s y 0 spots → AreSpotsBefore s (length s.accesses) 0 spots
all_done s y spots done are = subst (λ (n : ℕ). AreSpotsBefore s n 0 spots) done are

-- ---- one access

none_is_some : (o : Option ℕ) (n : ℕ) → o ≡ None → o ≡ Some n → ⊥
none_is_some o n e f = false≢true (ap (λ (p : Option ℕ). is_some p) (sym e ∙ f))

-- an access without a place has no spot
pub without_place : (s : Sought) (y : ℕ) (spots : List Spot) → place_in s.places y ≡ None → AreSpotsBefore s y 0 spots → AreSpotsBefore s (y + 1) 0 spots
without_place s y spots none =
    end_access s y 0 spots (λ (spot : Spot) (e : spot.access ≡ y) (is : IsSpotOf s spot).
    absurd (none_is_some (place_in s.places y) spot.at none (ap (place_in s.places) (sym e) ∙ is.at)))

-- nor has one that may not write before the reader
pub not_preceding : (s : Sought) (y : ℕ) (spots : List Spot) → (MayPrecede s.log s.shapes s.reader y → ⊥) → AreSpotsBefore s y 0 spots → AreSpotsBefore s (y + 1) 0 spots
not_preceding s y spots never =
    end_access s y 0 spots (λ (spot : Spot) (e : spot.access ≡ y) (is : IsSpotOf s spot).
    absurd (never (subst (MayPrecede s.log s.shapes s.reader) e is.precedes)))

-- the bytes of an access that are spots: those from one to another
pub record AreBytesOf (s : Sought) (y at first end : ℕ) : Type 0 where
  pub there : y < length s.accesses
  pub at_is : place_in s.places y ≡ Some at
  pub precedes : MayPrecede s.log s.shapes s.reader y
  pub within : (b : ℕ) → b < end → b < length (access_at s.accesses y).writes
  pub fits : (b : ℕ) → b < end → b < 2 ^ 32
  pub meets : (b : ℕ) → first ≤ b → b < end → MayMeet (shape_at s.shapes y).place (shape_at s.shapes s.reader).place b s.index
  pub all : (b : ℕ) → b < length (access_at s.accesses y).writes → b < 2 ^ 32
      → MayMeet (shape_at s.shapes y).place (shape_at s.shapes s.reader).place b s.index → (first ≤ b) × (b < end)

abbrev all_between : (s : Sought) (y first end : ℕ) → (at : ℕ) → Type 0
all_between s y first end at = (b : ℕ) → first ≤ b → b < end → IsSpotOf s (record { access = y; byte = b; at = at })

spot_in : (s : Sought) (y at first end : ℕ) → AreBytesOf s y at first end → all_between s y first end at
spot_in s y at first end are b from below = record {
  there = are.there;
  within = are.within b below;
  fits = are.fits b below;
  at = are.at_is;
  precedes = are.precedes;
  meets = are.meets b from below;
}

in_row : (s : Sought) (y at first end : ℕ) → AreBytesOf s y at first end → (spot : Spot) → spot.access ≡ y → IsSpotOf s spot → (first ≤ spot.byte) × (spot.byte < end)
in_row s y at first end are spot e is =
    are.all spot.byte (subst (λ (z : ℕ). spot.byte < length (access_at s.accesses z).writes) e is.within) is.fits
    (subst (λ (z : ℕ). MayMeet (shape_at s.shapes z).place (shape_at s.shapes s.reader).place spot.byte s.index) e is.meets)

pub added : (s : Sought) (y at first end : ℕ) (old new : List Spot) → AreBytesOf s y at first end
    → (all_between s y first end at → AreSpotsBefore s y first old → AreSpotsBefore s y end new)
    → AreSpotsBefore s y 0 old → AreSpotsBefore s (y + 1) 0 new
added s y at first end old new are step before =
    end_access s y end new (λ (spot : Spot) (e : spot.access ≡ y) (is : IsSpotOf s spot). (in_row s y at first end are spot e is).1)
    (step (spot_in s y at first end are)
    (skip_first s y first old (λ (spot : Spot) (e : spot.access ≡ y) (is : IsSpotOf s spot). (in_row s y at first end are spot e is).0) before))

-- ---- one byte of a span

number_back : (first byte other n : ℕ) → first < 2 ^ 32 → byte < 2 ^ 32 → (first + byte) % 2 ^ 32 ≡ other → n ≡ (other + (2 ^ 32 - first)) % 2 ^ 32 → n ≡ byte
number_back first byte other n first_in byte_in e f = omega (arith, first_in, byte_in, e, f)

pub one_byte : (from : Span) (byte other n : ℕ) → from.first < 2 ^ 32 → byte < 2 ^ 32 → byte_of from byte ≡ other
    → n ≡ (other + (2 ^ 32 - from.first)) % 2 ^ 32 → n ≡ byte
one_byte from byte other n first_in byte_in e f = number_back from.first byte other n first_in byte_in e f

-- ---- one of a list, whichever stands for none

pub any_default : {X : Type 0} (xs : List X) (k : ℕ) (d e : X) → k < length xs → get_or xs k d ≡ get_or xs k e
any_default [] k d e less = absurd (omega (arith, less))
any_default (x ∷ xs) zero d e less = refl
any_default (x ∷ xs) (suc k) d e less = any_default xs k d e (omega (arith, less))
