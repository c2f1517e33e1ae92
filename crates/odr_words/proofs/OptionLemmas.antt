-- One more option: its value, and whether the command takes it.
use Rattle.std.proofs.Common.{◌≡◌, ◌++◌, ◌&&◌, ◌||◌, ◌⊎◌, inl, inr, Bool, true, false, not, cond, [], ◌∷◌, codes, Option, Some, None, is_some, option_map, MatchOption, refl, sym, ap, ◌∙◌, subst}
use Rattle.std.specs.Prelude.{bytes_eq}
use Rattle.std.specs.Cmp.Lexicographic.{same_text}
use Rattle.std.specs.List.{list_any}
use Rattle.std.proofs.lemmas.List.Folds.{list_any-append, list_all-append}
use Rattle.odr_words.specs.Arguments.{Text, Options, value_of, has_name, are_known, are_distinct}
use Rattle.odr_words.specs.Jobs.{options_of, takes}
use Rattle.odr_words.specs.Read.{Values, HasValues, once, values_added, values_with}
use Rattle.odr_words.specs.declared.command.Command.{Command}
use Rattle.odr_words.specs.declared.command.Command.TheVariants as command

-- ---- tests

pub pick : {X : Type 0} (Goal : X → Type 0) (b : Bool) (x y : X) → (b ≡ true → Goal x) → (b ≡ false → Goal y) → Goal (cond b x y)
pick Goal true x y if_true if_false = if_true refl
pick Goal false x y if_true if_false = if_false refl

and_parts : (a b : Bool) → (a && b) ≡ true → (a ≡ true) × (b ≡ true)
and_parts true b e = (refl, e)
and_parts false b e = cc

both : (a b : Bool) → a ≡ true → b ≡ true → (a && b) ≡ true
both true b e f = f
both false b e f = e

neither : (a b : Bool) → (a || b) ≡ false → (a ≡ false) × (b ≡ false)
neither true b e = cc
neither false b e = (refl, e)

not_both-left : (a b : Bool) → a ≡ false → (a && b) ≡ false
not_both-left true b e = cc
not_both-left false b e = refl

not_both-right : (a b : Bool) → b ≡ false → (a && b) ≡ false
not_both-right true b e = e
not_both-right false b e = refl

not_false : (a : Bool) → a ≡ false → not a ≡ true
not_false a e = rw e refl

texts_differ : (a b : Text) → bytes_eq a b ≡ false → bytes_eq b a ≡ false
texts_differ a b e = differ (bytes_eq b a) refl
  where
    differ : (tie : Bool) → bytes_eq b a ≡ tie → bytes_eq b a ≡ false
    differ true same =
        let d : a ≡ b = sym (same_text b a (sym same)) in
        let no_tie : bytes_eq b b ≡ false = subst (λ (t : Text). bytes_eq t b ≡ false) d e in
        let tie : bytes_eq b b ≡ true = subst (λ (t : Text). bytes_eq b t ≡ true) d same in
        cc
    differ false other = other

or_true : (a : Bool) → (a || true) ≡ true
or_true true = refl
or_true false = refl

and_false : (a : Bool) → (a && false) ≡ false
and_false true = refl
and_false false = refl

still_not : (a : Bool) → not a ≡ true → not (a || false) ≡ true
still_not true e = e
still_not false e = e

has_step : (tie : Bool) (here : Text) (any : Bool) (rest : Option Text) → any ≡ is_some rest
    → (tie || any) ≡ is_some (cond tie (Some here) rest)
has_step true here any rest e = refl
has_step false here any rest e = e

-- ---- the command takes one more

-- a name that stands before stands twice
twice-step : (tie any_before : Bool) (name first : Text) (before after : Options) (value : Text)
    → bytes_eq name first ≡ tie → (tie || any_before) ≡ true
    → (any_before ≡ true → are_distinct (before ++ (name, value) ∷ after) ≡ false)
    → (not (has_name first (before ++ (name, value) ∷ after)) && are_distinct (before ++ (name, value) ∷ after)) ≡ false
twice-step true any_before name first before after value tie some rest =
    let same : name ≡ first = same_text name first (sym tie) in
    let found : bytes_eq first name ≡ true = subst (λ (t : Text). bytes_eq first t ≡ true) (sym same) (subst (λ (t : Text). bytes_eq t first ≡ true) same tie) in
    let there : has_name first (before ++ (name, value) ∷ after) ≡ true = rw (list_any-append (λ (o : Text × Text). bytes_eq first o.0) before ((name, value) ∷ after), found) (or_true (has_name first before)) in
    not_both-left (not (has_name first (before ++ (name, value) ∷ after))) (are_distinct (before ++ (name, value) ∷ after)) (rw there refl)
twice-step false any_before name first before after value tie some rest =
    not_both-right _ _ (rest some)

are_distinct-twice : (name value : Text) (before after : Options) → has_name name before ≡ true
    → are_distinct (before ++ (name, value) ∷ after) ≡ false
are_distinct-twice name value [] after e = cc
are_distinct-twice name value (option ∷ before) after e =
    twice-step (bytes_eq name option.0) (has_name name before) name option.0 before after value refl e
    (are_distinct-twice name value before after)

are_distinct-more : (name value : Text) (before : Options) → are_distinct before ≡ true → has_name name before ≡ false
    → are_distinct (before ++ (name, value) ∷ []) ≡ true
are_distinct-more name value [] d e = refl
are_distinct-more name value (option ∷ before) d e =
    let parts = and_parts (not (has_name option.0 before)) (are_distinct before) d in
    let others = neither (bytes_eq name option.0) (has_name name before) e in
    both _ _
    (rw (list_any-append (λ (o : Text × Text). bytes_eq option.0 o.0) before ((name, value) ∷ []), texts_differ name option.0 others.0) (still_not (has_name option.0 before) parts.0))
    (are_distinct-more name value before parts.1 others.1)

pub takes-more : (c : Command) (name value : Text) (before : Options) → takes c before ≡ true
    → list_any (bytes_eq name) (options_of c) ≡ true → has_name name before ≡ false
    → takes c (before ++ (name, value) ∷ []) ≡ true
takes-more c name value before t known new =
    let parts = and_parts (are_known (options_of c) before) (are_distinct before) t in
    both _ _
    (rw (list_all-append (λ (o : Text × Text). list_any (bytes_eq o.0) (options_of c)) before ((name, value) ∷ []), known, parts.0) refl)
    (are_distinct-more name value before parts.1 new)

pub takes-unknown : (c : Command) (name value : Text) (before after : Options)
    → list_any (bytes_eq name) (options_of c) ≡ false → takes c (before ++ (name, value) ∷ after) ≡ false
takes-unknown c name value before after unknown =
    not_both-left (are_known (options_of c) (before ++ (name, value) ∷ after)) (are_distinct (before ++ (name, value) ∷ after))
    (rw (list_all-append (λ (o : Text × Text). list_any (bytes_eq o.0) (options_of c)) before ((name, value) ∷ after), unknown) (and_false (are_known (options_of c) before)))

pub takes-twice : (c : Command) (name value : Text) (before after : Options) → has_name name before ≡ true
    → takes c (before ++ (name, value) ∷ after) ≡ false
takes-twice c name value before after e =
    not_both-right _ _ (are_distinct-twice name value before after e)

-- ---- the values of one more

abbrev pub first_or : Option Text → Option Text → Option Text
first_or None after = after
first_or (Some value) after = Some value

first_or-none : (found : Option Text) → first_or found None ≡ found
first_or-none None = refl
first_or-none (Some value) = refl

value-step : (tie : Bool) (here : Text) (rest rest' after : Option Text) → rest ≡ first_or rest' after
    → cond tie (Some here) rest ≡ first_or (cond tie (Some here) rest') after
value-step true here rest rest' after e = refl
value-step false here rest rest' after e = e

pub value_of-append : (asked name value : Text) (before : Options)
    → value_of asked (before ++ (name, value) ∷ []) ≡ first_or (value_of asked before) (cond (bytes_eq asked name) (Some value) None)
value_of-append asked name value [] = refl
value_of-append asked name value (option ∷ before) =
    value-step (bytes_eq asked option.0) option.1 _ _ _ (value_of-append asked name value before)

pub has_name-value : (name : Text) (before : Options) → has_name name before ≡ is_some (value_of name before)
has_name-value name [] = refl
has_name-value name (option ∷ before) = has_step (bytes_eq name option.0) option.1 _ _ (has_name-value name before)

-- the value of an option may be added, or the option was given before, or no command takes it
abbrev pub Added : Text → Text → Options → Option Values → Type 0
Added name value before result = MatchOption result
    ((has_name name before ≡ true) ⊎ ((c : Command) → list_any (bytes_eq name) (options_of c) ≡ false))
    (λ next. (has_name name before ≡ false) × HasValues next (before ++ (name, value) ∷ []))

kept-other : (asked name value : Text) (before : Options) (held : Option Text) → value_of asked before ≡ held → bytes_eq asked name ≡ false
    → value_of asked (before ++ (name, value) ∷ []) ≡ held
kept-other asked name value before held e other =
    value_of-append asked name value before ∙ rw other (first_or-none (value_of asked before) ∙ e)

kept-named : (name value : Text) (before : Options) → value_of name before ≡ None → bytes_eq name name ≡ true
    → value_of name (before ++ (name, value) ∷ []) ≡ Some value
kept-named name value before e same = value_of-append name name value before ∙ rw (e, same) refl

given-before : (name : Text) (before : Options) (held : Option Text) → value_of name before ≡ held → has_name name before ≡ is_some held
given-before name before held e = has_name-value name before ∙ ap is_some e

added-seed : (value : Text) (seed limit steps input : Option Text) (before : Options)
    → HasValues (record { seed = seed; limit = limit; steps = steps; input = input }) before
    → Added (codes "seed") value before (option_map (λ text. record { seed = text; limit = limit; steps = steps; input = input }) (once seed value))
added-seed value None limit steps input before h = (
  given-before (codes "seed") before None h.seed,
  record {
    seed = kept-named (codes "seed") value before h.seed refl;
    limit = kept-other (codes "limit") (codes "seed") value before limit h.limit refl;
    steps = kept-other (codes "steps") (codes "seed") value before steps h.steps refl;
    input = kept-other (codes "input") (codes "seed") value before input h.input refl;
  },
)
added-seed value (Some held) limit steps input before h = inl (given-before (codes "seed") before (Some held) h.seed)

added-limit : (value : Text) (seed limit steps input : Option Text) (before : Options)
    → HasValues (record { seed = seed; limit = limit; steps = steps; input = input }) before
    → Added (codes "limit") value before (option_map (λ text. record { seed = seed; limit = text; steps = steps; input = input }) (once limit value))
added-limit value seed None steps input before h = (
  given-before (codes "limit") before None h.limit,
  record {
    seed = kept-other (codes "seed") (codes "limit") value before seed h.seed refl;
    limit = kept-named (codes "limit") value before h.limit refl;
    steps = kept-other (codes "steps") (codes "limit") value before steps h.steps refl;
    input = kept-other (codes "input") (codes "limit") value before input h.input refl;
  },
)
added-limit value seed (Some held) steps input before h = inl (given-before (codes "limit") before (Some held) h.limit)

added-steps : (value : Text) (seed limit steps input : Option Text) (before : Options)
    → HasValues (record { seed = seed; limit = limit; steps = steps; input = input }) before
    → Added (codes "steps") value before (option_map (λ text. record { seed = seed; limit = limit; steps = text; input = input }) (once steps value))
added-steps value seed limit None input before h = (
  given-before (codes "steps") before None h.steps,
  record {
    seed = kept-other (codes "seed") (codes "steps") value before seed h.seed refl;
    limit = kept-other (codes "limit") (codes "steps") value before limit h.limit refl;
    steps = kept-named (codes "steps") value before h.steps refl;
    input = kept-other (codes "input") (codes "steps") value before input h.input refl;
  },
)
added-steps value seed limit (Some held) input before h = inl (given-before (codes "steps") before (Some held) h.steps)

added-input : (value : Text) (seed limit steps input : Option Text) (before : Options)
    → HasValues (record { seed = seed; limit = limit; steps = steps; input = input }) before
    → Added (codes "input") value before (option_map (λ text. record { seed = seed; limit = limit; steps = steps; input = text }) (once input value))
added-input value seed limit steps None before h = (
  given-before (codes "input") before None h.input,
  record {
    seed = kept-other (codes "seed") (codes "input") value before seed h.seed refl;
    limit = kept-other (codes "limit") (codes "input") value before limit h.limit refl;
    steps = kept-other (codes "steps") (codes "input") value before steps h.steps refl;
    input = kept-named (codes "input") value before h.input refl;
  },
)
added-input value seed limit steps (Some held) before h = inl (given-before (codes "input") before (Some held) h.input)

-- no command takes an option of another name
unknown : (name : Text) → bytes_eq name (codes "seed") ≡ false → bytes_eq name (codes "limit") ≡ false
    → bytes_eq name (codes "steps") ≡ false → bytes_eq name (codes "input") ≡ false
    → (c : Command) → list_any (bytes_eq name) (options_of c) ≡ false
unknown name seed limit steps input command.Record = rw (seed, limit, input) refl
unknown name seed limit steps input command.Infer = rw steps refl
unknown name seed limit steps input command.Check = refl
unknown name seed limit steps input command.Replay = refl
unknown name seed limit steps input command.Debug = refl
unknown name seed limit steps input command.Asm = refl
unknown name seed limit steps input command.Demo = refl

named : (name known value : Text) (before : Options) (result : Option Values) → bytes_eq name known ≡ true
    → Added known value before result → Added name value before result
named name known value before result e h = subst (λ (t : Text). Added t value before result) (sym (same_text name known (sym e))) h

values_added-adds : (name value : Text) (v : Values) (before : Options) → HasValues v before
    → Added name value before (values_added name value v)
values_added-adds name value v before h =
    pick (Added name value before) (bytes_eq name (codes "seed")) _ _
    (λ e. named name (codes "seed") value before _ e (added-seed value v.seed v.limit v.steps v.input before h))
    (λ seed. pick (Added name value before) (bytes_eq name (codes "limit")) _ _
    (λ e. named name (codes "limit") value before _ e (added-limit value v.seed v.limit v.steps v.input before h))
    (λ limit. pick (Added name value before) (bytes_eq name (codes "steps")) _ _
    (λ e. named name (codes "steps") value before _ e (added-steps value v.seed v.limit v.steps v.input before h))
    (λ steps. pick (Added name value before) (bytes_eq name (codes "input")) _ _
    (λ e. named name (codes "input") value before _ e (added-input value v.seed v.limit v.steps v.input before h))
    (λ input. inr (unknown name seed limit steps input)))))

-- a command's options with one more, or the reason why it takes no list with that one
abbrev pub MoreOptions : Command → Text → Text → Options → Option Values → Type 0
MoreOptions c name value before result = MatchOption result
    ((after : Options) → takes c (before ++ (name, value) ∷ after) ≡ false)
    (λ next. (takes c (before ++ (name, value) ∷ []) ≡ true) × HasValues next (before ++ (name, value) ∷ []))

more_by : (c : Command) (name value : Text) (before : Options) (result : Option Values) → takes c before ≡ true
    → list_any (bytes_eq name) (options_of c) ≡ true → Added name value before result → MoreOptions c name value before result
more_by c name value before None t known (inl twice) = λ after. takes-twice c name value before after twice
more_by c name value before None t known (inr no_command) = λ after. takes-unknown c name value before after (no_command c)
more_by c name value before (Some next) t known h = (takes-more c name value before t known h.0, h.1)

pub values_with-more : (c : Command) (name value : Text) (v : Values) (before : Options) → HasValues v before → takes c before ≡ true
    → MoreOptions c name value before (values_with c name value v)
values_with-more c name value v before h t =
    pick (MoreOptions c name value before) (list_any (bytes_eq name) (options_of c)) _ _
    (λ known. more_by c name value before _ t known (values_added-adds name value v before h))
    (λ unknown_here. λ after. takes-unknown c name value before after unknown_here)
