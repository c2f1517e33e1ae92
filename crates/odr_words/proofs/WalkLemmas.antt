-- The walk of the command that splits words: its rows are the positional words by their places, and
-- the values of the options by their names.
use Rattle.std.proofs.Common.{◌==◌, min, ◌≡◌, ◌+◌, ◌++◌, ◌&&◌, ◌||◌, ℕ, Bool, true, false, not, cond, List, [], ◌∷◌, map, codes, Option, Some, None, option_and_then, refl, sym, ap, ap₂, ◌∙◌}
use Rattle.std.specs.Prelude.{slice_get}
use Rattle.std.specs.Str.{bytes_eq}
use Rattle.std.specs.Cmp.Lexicographic.{same_text}
use Rattle.std.specs.List.{find}
use Rattle.std.proofs.lemmas.Slice.Eq.{bytes_eq-Decides}
use Rattle.clap.specs.Lexer.{usize_max, long_of, short_of}
use Rattle.clap.specs.Walk.{Row, Rule, Waiting, Walk, idle, option, walked, settled_rows, first_of, has_row, with_values, without, arg_by_long, arg_by_id, arg_by_index, is_pending, reading_by, used}
use Rattle.clap.specs.Simple.{built, new_rule, Shape}
use Rattle.clap.specs.Takes.{settle_passes, turn_passes}
use Rattle.clap.specs.declared.parser.matches.ValueSource.TheVariants.{CommandLine}
use Rattle.clap.specs.declared.builder.action.ArgAction.TheVariants.{Set}
use Rattle.clap.specs.declared.builder.value_parser.ValueParser.TheVariants as vp
use Rattle.odr_words.specs.Split.{words_app, option_rule}
use Rattle.odr_words.specs.Arguments.{Text, Options, is_plain, value_of}

abbrev pub the_shape : Shape
the_shape = (built words_app).top

abbrev pub the_rules : List Rule
the_rules = the_shape.rules

-- ---- the rules that the command has

abbrev pub built_option : Text → Rule
built_option name = record (option_rule name) {
  action = Some Set;
  parser = Some vp.String;
  range = Some (record { start_inclusive = 1; end_inclusive = 1 });
}

abbrev pub built_place : ℕ → Text → Rule
built_place n name = record (new_rule name) {
  action = Some Set;
  parser = Some vp.String;
  range = Some (record { start_inclusive = 1; end_inclusive = 1 });
  index = Some n;
}

pub rules_are : the_rules ≡ built_place 1 (codes "first") ∷ built_place 2 (codes "second") ∷ built_place 3 (codes "third")
    ∷ built_option (codes "seed") ∷ built_option (codes "limit") ∷ built_option (codes "steps") ∷ built_option (codes "input") ∷ []
rules_are = refl

-- the options
pub data IsOption : Text → Type 0 where
  Seed : IsOption (codes "seed")
  Limit : IsOption (codes "limit")
  Steps : IsOption (codes "steps")
  Input : IsOption (codes "input")

by_long : (name : Text) → IsOption name → arg_by_long the_rules name ≡ Some (built_option name)
by_long name Seed = refl
by_long name Limit = refl
by_long name Steps = refl
by_long name Input = refl

by_id : (name : Text) → IsOption name → arg_by_id the_rules name ≡ Some (built_option name)
by_id name Seed = refl
by_id name Limit = refl
by_id name Steps = refl
by_id name Input = refl

-- ---- tests

and_false : (b : Bool) → (b && false) ≡ false
and_false true = refl
and_false false = refl

not_true : (b : Bool) → not b ≡ true → b ≡ false
not_true true e = cc
not_true false e = refl

ties : (a : Text) → bytes_eq a a ≡ true
ties a = (bytes_eq-Decides a a).1 refl

-- ---- rows

abbrev pub row : Text × Text → Row
row given = record {
  id = given.0;
  values = given.1 ∷ [];
  count = None;
  source = Some CommandLine;
  reading = reading_by (built_option []);
}

texts_tie : (a b : Text) → bytes_eq a b ≡ bytes_eq b a
texts_tie a b = tied (bytes_eq a b) (bytes_eq b a) refl refl
  where
    tied : (x y : Bool) → bytes_eq a b ≡ x → bytes_eq b a ≡ y → bytes_eq a b ≡ bytes_eq b a
    tied true y e f = let same : a ≡ b = same_text a b (sym e) in ap₂ bytes_eq same (sym same)
    tied x true e f = let same : b ≡ a = same_text b a (sym f) in ap₂ bytes_eq (sym same) same
    tied false false e f = e ∙ sym f

-- the first row of a name has the name's value
pub first_of-row : (name : Text) (given : Options) → first_of name (map row given) ≡ value_of name given
first_of-row name [] = refl
first_of-row name (g ∷ given) = step (bytes_eq g.0 name) (texts_tie name g.0) (first_of-row name given)
  where
    step : (b : Bool) → bytes_eq name g.0 ≡ b → first_of name (map row given) ≡ value_of name given
        → option_and_then (λ (r : Row). slice_get r.values 0) (cond b (Some (row g)) (find (λ (r : Row). bytes_eq r.id name) (map row given)))
        ≡ cond (bytes_eq name g.0) (Some g.1) (value_of name given)
    step true e rest = rw e refl
    step false e rest = rw e rest

-- a name without a value has no row
has_row-none : (name : Text) (given : Options) → value_of name given ≡ None → has_row name (map row given) ≡ false
has_row-none name [] e = refl
has_row-none name (g ∷ given) e = step (bytes_eq g.0 name) (texts_tie name g.0) (has_row-none name given) e
  where
    step : (b : Bool) → bytes_eq name g.0 ≡ b → (value_of name given ≡ None → has_row name (map row given) ≡ false)
        → cond (bytes_eq name g.0) (Some g.1) (value_of name given) ≡ None → (b || has_row name (map row given)) ≡ false
    step true e rest none = let absent : Some g.1 ≡ None = rw e at none in cc
    step false e rest none = let absent : value_of name given ≡ None = rw e at none in rest absent

without-none : (name : Text) (given : Options) → has_row name (map row given) ≡ false → without name (map row given) ≡ map row given
without-none name [] e = refl
without-none name (g ∷ given) e = step (bytes_eq g.0 name) refl e (without-none name given)
  where
    step : (b : Bool) → bytes_eq g.0 name ≡ b → (b || has_row name (map row given)) ≡ false → (has_row name (map row given) ≡ false → without name (map row given) ≡ map row given)
        → without name (row g ∷ map row given) ≡ row g ∷ map row given
    step true e none rest = cc
    step false e none rest = rw e (ap (λ rows. row g ∷ rows) (rest none))

with_values-new : (name value : Text) (given : Options) → has_row name (map row given) ≡ false
    → with_values name (reading_by (built_option [])) CommandLine (value ∷ []) (map row given) ≡ map row (given ++ (name, value) ∷ [])
with_values-new name value [] e = refl
with_values-new name value (g ∷ given) e = step (bytes_eq g.0 name) refl e (with_values-new name value given)
  where
    step : (b : Bool) → bytes_eq g.0 name ≡ b → (b || has_row name (map row given)) ≡ false
        → (has_row name (map row given) ≡ false → with_values name (reading_by (built_option [])) CommandLine (value ∷ []) (map row given) ≡ map row (given ++ (name, value) ∷ []))
        → with_values name (reading_by (built_option [])) CommandLine (value ∷ []) (row g ∷ map row given) ≡ row g ∷ map row (given ++ (name, value) ∷ [])
    step true e none rest = cc
    step false e none rest = rw e (ap (λ rows. row g ∷ rows) (rest none))

-- a use of an argument that was not used before
used-new : (name value : Text) (given : Options) → value_of name given ≡ None
    → with_values name (reading_by (built_option [])) CommandLine (value ∷ []) (without name (map row given)) ≡ map row (given ++ (name, value) ∷ [])
used-new name value given e =
    let new : has_row name (map row given) ≡ false = has_row-none name given e in
    rw (without-none name given new) (with_values-new name value given new)

-- ---- where the walk stands

abbrev pub walk_at : List Row → Option (Text × List Text) → Waiting → ℕ → Walk
walk_at rows pending waiting position = record {
  held = record { rows = rows; pending = pending; skip = 0 };
  waiting = waiting;
  position = position;
  is_trailing = false;
  stopped = None;
}

abbrev pub settles : List Row → Option (Text × List Text) → Type 0
settles rows pending = settle_passes the_rules false (record { rows = rows; pending = pending; skip = 0 }) ≡ true

-- no option waits for its value; what is held stands for what was given
pub record Idle (w : Walk) (given : Options) (position : ℕ) : Type 0 where
  pub rows : List Row
  pub pending : Option (Text × List Text)
  pub place : w ≡ walk_at rows pending idle position
  pub held : settled_rows the_rules pending rows ≡ map row given
  pub passes : settles rows pending

-- an option waits
pub record Waits (w : Walk) (given : Options) (position : ℕ) (name : Text) : Type 0 where
  pub place : w ≡ walk_at (map row given) (Some (name, [])) (option name) position

abbrev pub turn_is_fine : Walk → Text → Type 0
turn_is_fine w word = turn_passes the_shape [] w word ≡ true

-- a plain word is no flag
not_dashes : (word : Text) → is_plain word ≡ true → (bytes_eq word (45 ∷ 45 ∷ []) ≡ false) × (long_of word ≡ None) × (short_of word ≡ None)
not_dashes [] e = cc
not_dashes (first ∷ rest) e = let other : (first == 45) ≡ false = not_true (first == 45) e in (rw other refl, rw other refl, rw other refl)

-- ---- a positional word

abbrev pub IsPlace : ℕ → Text → Type 0
IsPlace position name = (arg_by_index the_rules position ≡ Some (built_place position name)) × (arg_by_id the_rules name ≡ Some (built_place position name))

place-turn : (rows : List Row) (pending : Option (Text × List Text)) (position : ℕ) (name word : Text) → is_plain word ≡ true → IsPlace position name
    → walked the_rules [] (walk_at rows pending idle position) word
    ≡ walk_at (settled_rows the_rules pending rows) (Some (name, word ∷ [])) idle (min (position + 1) usize_max)
unfolding walked
place-turn rows pending position name word e is =
    let d = not_dashes word e in
    rw (d.0, d.1, d.2, is.0, and_false (is_pending (built_place position name) pending)) refl

pub place-step : (w : Walk) (given : Options) (position next_position : ℕ) (name word : Text) → is_plain word ≡ true → IsPlace position name
    → min (position + 1) usize_max ≡ next_position → value_of name given ≡ None → Idle w given position
    → Idle (walked the_rules [] w word) (given ++ (name, word) ∷ []) next_position × turn_is_fine w word
place-step w given position next_position name word e is further new h =
    let d = not_dashes word e in
    let absent : has_row name (map row given) ≡ false = has_row-none name given new in (
      record {
        rows = settled_rows the_rules h.pending h.rows;
        pending = Some (name, word ∷ []);
        place = ap (λ v. walked the_rules [] v word) h.place ∙ place-turn h.rows h.pending position name word e is
            ∙ ap (λ n. walk_at (settled_rows the_rules h.pending h.rows) (Some (name, word ∷ [])) idle n) further;
        held = rw (is.1, h.held) (used-new name word given new);
        passes = rw (is.1, h.held, absent) refl;
      },
      rw (h.place, d.0, d.1, d.2, is.0, and_false (is_pending (built_place position name) h.pending), h.passes) refl,
    )

-- ---- options

-- a word that is an option begins with two hyphens
named-turn : (rows : List Row) (pending : Option (Text × List Text)) (position : ℕ) (name word : Text) → IsOption name
    → bytes_eq word (45 ∷ 45 ∷ []) ≡ false → long_of word ≡ Some (name, None)
    → walked the_rules [] (walk_at rows pending idle position) word
    ≡ walk_at (settled_rows the_rules pending rows) (Some (name, [])) (option name) position
unfolding walked
named-turn rows pending position name word o d l = rw (d, l, by_long name o) refl

pub named-step : (w : Walk) (given : Options) (position : ℕ) (name word : Text) → IsOption name
    → bytes_eq word (45 ∷ 45 ∷ []) ≡ false → long_of word ≡ Some (name, None) → Idle w given position
    → Waits (walked the_rules [] w word) given position name × turn_is_fine w word
named-step w given position name word o d l h = (
  record {
    place = ap (λ v. walked the_rules [] v word) h.place ∙ named-turn h.rows h.pending position name word o d l
        ∙ ap (λ rows. walk_at rows (Some (name, [])) (option name) position) h.held;
  },
  rw (h.place, d, l, by_long name o, h.passes) refl,
)

value-turn : (rows : List Row) (position : ℕ) (name word : Text) → is_plain word ≡ true → IsOption name
    → walked the_rules [] (walk_at rows (Some (name, [])) (option name) position) word
    ≡ walk_at rows (Some (name, word ∷ [])) idle position
unfolding walked
value-turn rows position name word e o =
    let d = not_dashes word e in
    rw (d.0, d.1, d.2, by_id name o, ties name) refl

pub value-step : (w : Walk) (given : Options) (position : ℕ) (name word : Text) → is_plain word ≡ true → IsOption name
    → value_of name given ≡ None → Waits w given position name
    → Idle (walked the_rules [] w word) (given ++ (name, word) ∷ []) position × turn_is_fine w word
value-step w given position name word e o new h =
    let d = not_dashes word e in
    let absent : has_row name (map row given) ≡ false = has_row-none name given new in (
      record {
        rows = map row given;
        pending = Some (name, word ∷ []);
        place = ap (λ v. walked the_rules [] v word) h.place ∙ value-turn (map row given) position name word e o;
        held = rw (by_id name o) (used-new name word given new);
        passes = rw (by_id name o, absent) refl;
      },
      rw (h.place, d.0, d.1, d.2) refl,
    )

joined-turn : (rows : List Row) (pending : Option (Text × List Text)) (position : ℕ) (name value word : Text) → IsOption name
    → bytes_eq word (45 ∷ 45 ∷ []) ≡ false → long_of word ≡ Some (name, Some value)
    → walked the_rules [] (walk_at rows pending idle position) word
    ≡ walk_at (used (built_option name) (value ∷ []) (settled_rows the_rules pending rows)) None idle position
unfolding walked
joined-turn rows pending position name value word o d l = rw (d, l, by_long name o) refl

pub joined-step : (w : Walk) (given : Options) (position : ℕ) (name value word : Text) → IsOption name → value_of name given ≡ None
    → bytes_eq word (45 ∷ 45 ∷ []) ≡ false → long_of word ≡ Some (name, Some value) → Idle w given position
    → Idle (walked the_rules [] w word) (given ++ (name, value) ∷ []) position × turn_is_fine w word
joined-step w given position name value word o new d l h =
    let absent : has_row name (map row given) ≡ false = has_row-none name given new in (
      record {
        rows = map row (given ++ (name, value) ∷ []);
        pending = None;
        place = ap (λ v. walked the_rules [] v word) h.place ∙ joined-turn h.rows h.pending position name value word o d l
            ∙ ap (λ rows. walk_at rows None idle position) (ap (used (built_option name) (value ∷ [])) h.held ∙ used-new name value given new);
        held = refl;
        passes = refl;
      },
      rw (h.place, d, l, by_long name o, h.passes, h.held, absent) refl,
    )
