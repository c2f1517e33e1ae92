-- Members of lists, and lists in which each step stands after what it is made of, one step more at a time.
use Rattle.std.specs.Prelude.{◌≡◌, ◌↔◌, ℕ, zero, suc, ◌+◌, ◌-◌, ◌<◌, ◌≤◌, ◌⊎◌, Bool, true, false, ◌&&◌, ◌||◌, List, [], ◌∷◌, ◌++◌, length, take, drop, nat_eq, slice_index_or, Option, Some, None, IsTrue, refl}
use Rattle.std.specs.List.{list_any}
use Rattle.std.proofs.Common.{sym, ◌∙◌, ap, subst, arith, inl, inr, get_or, eq-eqb}
use Rattle.std.proofs.lemmas.Bool.{and_parts, and_from, eqb-true, false≢true, cases_lt, cases_eq}
use Rattle.std.proofs.lemmas.List.{take_more, drop_more, drop_all, get_or_past}
use Rattle.std.proofs.lemmas.Option.{none-some, same_Some}
use Rattle.odr_log.specs.declared.log.Pos.{Pos}
use Rattle.rv_model.specs.declared.state.Note.{Note}
use Rattle.guided_walk.specs.Told.{Told}
use Rattle.guided_walk.specs.Orders.{In}
use Rattle.guided_walk.specs.Flow.{NeedsThread, NeedsJoin}
use Rattle.guided_walk.proofs.Table.{same_pos}
use Rattle.walk_lists.specs.Order.{Follows, IsOrder}
use Rattle.plain_walk.specs.Order.{HasRow}

-- ---- members

abbrev is_step : Pos → Pos → Bool
is_step p other = nat_eq other.thread p.thread && nat_eq other.step p.step

any_in : (p x : Pos) (xs : List Pos) (b : Bool) → is_step p x ≡ b → (b || list_any (is_step p) xs) ≡ true → (list_any (is_step p) xs ≡ true → In p xs) → In p (x ∷ xs)
any_in p x xs true here e later =
    let parts : (nat_eq x.thread p.thread ≡ true) × (nat_eq x.step p.step ≡ true) = and_parts _ _ here in
    inl (sym (same_pos p x (eqb-true x.thread p.thread parts.0) (eqb-true x.step p.step parts.1)))
any_in p x xs false here e later = inr (later e)

pub in_by_any : (p : Pos) (xs : List Pos) → list_any (is_step p) xs ≡ true → In p xs
in_by_any p [] e = absurd (false≢true e)
in_by_any p (x ∷ xs) e = any_in p x xs (is_step p x) refl e (in_by_any p xs)

or_later : (b c : Bool) → c ≡ true → (b || c) ≡ true
or_later true c e = refl
or_later false c e = e

pub any_by_in : (p : Pos) (xs : List Pos) → In p xs → list_any (is_step p) xs ≡ true
any_by_in p [] i = absurd i
any_by_in p (x ∷ xs) (inl e) =
    ap (λ (b : Bool). b || list_any (is_step p) xs)
    (and_from (nat_eq x.thread p.thread) (nat_eq x.step p.step) (eq-eqb x.thread p.thread (ap (λ (q : Pos). q.thread) e)) (eq-eqb x.step p.step (ap (λ (q : Pos). q.step) e)))
any_by_in p (x ∷ xs) (inr i) = or_later (is_step p x) (list_any (is_step p) xs) (any_by_in p xs i)

pub in_any : (p : Pos) (xs : List Pos) → IsTrue (list_any (λ (other : Pos). nat_eq other.thread p.thread && nat_eq other.step p.step) xs) ↔ In p xs
in_any p xs = (in_by_any p xs, any_by_in p xs)

-- ---- needs

abbrev pub AllDone : List Pos → (Pos → Type 0) → Type 0
AllDone done need = (q : Pos) → need q → In q done

pub step_before : (told : Told) (done : List Pos) (t s : ℕ) → 0 < s → In (let p : Pos = record { thread = t; step = s - 1 } in p) done → (q : Pos) → NeedsThread told q t s → In q done
step_before told done t zero some here q need = absurd (omega (arith, some))
step_before told done t (suc s) some here q need =
    let same : suc s - 1 ≡ s = omega arith in
    subst (λ (x : Pos). In x done) (sym need) (subst (λ (k : ℕ). In (let p : Pos = record { thread = t; step = k } in p) done) same here)

pub none_before : (told : Told) (done : List Pos) (t s : ℕ) → s ≤ 0 → t ≡ 0 → (q : Pos) → NeedsThread told q t s → In q done
none_before told done zero zero none first q need = absurd need
none_before told done (suc t) s none first q need = absurd (omega (arith, first))
none_before told done t (suc s) none first q need = absurd (omega (arith, none))

pub not_made : (told : Told) (done : List Pos) (t s : ℕ) → s ≤ 0 → None ≡ told.maker t → (q : Pos) → NeedsThread told q t s → In q done
not_made told done zero zero none made q need = absurd need
not_made told done (suc t) zero none made q need = absurd (none-some q (made ∙ need))
not_made told done t (suc s) none made q need = absurd (omega (arith, none))

pub made_before : (told : Told) (done : List Pos) (t s : ℕ) (spawn : Pos) → s ≤ 0 → Some spawn ≡ told.maker t → In spawn done → (q : Pos) → NeedsThread told q t s → In q done
made_before told done zero zero spawn none made here q need = absurd need
made_before told done (suc t) zero spawn none made here q need = subst (λ (x : Pos). In x done) (same_Some spawn q (made ∙ need)) here
made_before told done t (suc s) spawn none made here q need = absurd (omega (arith, none))

pub no_join : (told : Told) (done : List Pos) (o : Option ℕ) → None ≡ o → (q : Pos) → NeedsJoin told q o → In q done
no_join told done None e q need = absurd need
no_join told done (Some target) e q need = absurd (none-some target e)

pub no_end : (told : Told) (done : List Pos) (o : Option ℕ) (target : ℕ) → Some target ≡ o → None ≡ told.ender target → (q : Pos) → NeedsJoin told q o → In q done
no_end told done None target e ends q need = absurd need
no_end told done (Some t) target e ends q need = absurd (none-some q (ends ∙ ap told.ender (same_Some target t e) ∙ need))

pub step_needed : (told : Told) (done : List Pos) (t s : ℕ) → 0 < s → ((q : Pos) → NeedsThread told q t s → In q done) → In (let p : Pos = record { thread = t; step = s - 1 } in p) done
step_needed told done t zero some all = absurd (omega (arith, some))
step_needed told done t (suc s) some all =
    let same : suc s - 1 ≡ s = omega arith in
    subst (λ (k : ℕ). In (let p : Pos = record { thread = t; step = k } in p) done) (sym same) (all (record { thread = t; step = s }) refl)

pub spawn_needed : (told : Told) (done : List Pos) (t s : ℕ) (spawn : Pos) → s ≤ 0 → (t ≡ 0 → ⊥) → Some spawn ≡ told.maker t → ((q : Pos) → NeedsThread told q t s → In q done) → In spawn done
spawn_needed told done zero s spawn none other made all = absurd (other refl)
spawn_needed told done (suc t) zero spawn none other made all = all spawn (sym made)
spawn_needed told done (suc t) (suc s) spawn none other made all = absurd (omega (arith, none))

pub end_needed : (told : Told) (done : List Pos) (o : Option ℕ) (target : ℕ) (end : Pos) → Some target ≡ o → Some end ≡ told.ender target → ((q : Pos) → NeedsJoin told q o → In q done) → In end done
end_needed told done None target end e ends all = absurd (none-some target (sym e))
end_needed told done (Some t) target end e ends all = all end (sym (ends ∙ ap told.ender (same_Some target t e)))

pub end_before : (told : Told) (done : List Pos) (o : Option ℕ) (target : ℕ) (end : Pos) → Some target ≡ o → Some end ≡ told.ender target → In end done → (q : Pos) → NeedsJoin told q o → In q done
end_before told done None target end e ends here q need = absurd need
end_before told done (Some t) target end e ends here q need =
    subst (λ (x : Pos). In x done) (same_Some end q (ends ∙ ap told.ender (same_Some target t e) ∙ need)) here

pub both_done : (told : Told) (done : List Pos) (p : Pos) (o : Option ℕ) → ((q : Pos) → NeedsThread told q p.thread p.step → In q done) → ((q : Pos) → NeedsJoin told q o → In q done)
    → (q : Pos) → NeedsThread told q p.thread p.step ⊎ NeedsJoin told q o → In q done
both_done told done p o one other q (inl need) = one q need
both_done told done p o one other q (inr need) = other q need

-- ---- lists

abbrev OrderFrom : Told → List Pos → ℕ → Type 0
OrderFrom told steps i = IsOrder told [] steps ↔ IsOrder told (take i steps) (drop i steps)

pub order_next : (told : Told) (steps : List Pos) (i : ℕ) (d : Pos) → i < length steps → OrderFrom told steps i → IsOrder told [] steps → Follows told (take i steps) (get_or steps i d)
order_next told steps i d within so_far whole = (subst (IsOrder told (take i steps)) (drop_more steps i d within) (so_far.0 whole)).0

pub order_more : (told : Told) (steps : List Pos) (i : ℕ) (p : Pos) → i < length steps → p ≡ get_or steps i p → Follows told (take i steps) p
    → OrderFrom told steps i → OrderFrom told steps (i + 1)
order_more told steps i p within is follows so_far =
    let front : take (i + 1) steps ≡ take i steps ++ p ∷ [] = take_more steps i p within ∙ ap (λ (x : Pos). take i steps ++ x ∷ []) (sym is) in
    let rest : drop i steps ≡ p ∷ drop (i + 1) steps = drop_more steps i p within ∙ ap (λ (x : Pos). x ∷ drop (i + 1) steps) (sym is) in (
      λ whole. subst (λ (done : List Pos). IsOrder told done (drop (i + 1) steps)) (sym front) (subst (IsOrder told (take i steps)) rest (so_far.0 whole)).1,
      λ later. so_far.1 (subst (IsOrder told (take i steps)) (sym rest) (follows, subst (λ (done : List Pos). IsOrder told done (drop (i + 1) steps)) front later)),
    )

pub order_end : (told : Told) (steps : List Pos) (i : ℕ) → length steps ≤ i → OrderFrom told steps i → IsOrder told [] steps
order_end told steps i past so_far = so_far.1 (subst (IsOrder told (take i steps)) (sym (drop_all i steps past)) tt)

pub row_none : (steps : List Pos) (thread : ℕ) → HasRow steps thread 0
row_none steps thread step less = absurd (omega (arith, less))

pub row_more : (steps : List Pos) (thread n : ℕ) → HasRow steps thread n → In (let p : Pos = record { thread = thread; step = n } in p) steps → HasRow steps thread (n + 1)
row_more steps thread n row here step less =
    elim (cases_eq step n) [
      | inl same ↦ subst (λ (s : ℕ). In (let p : Pos = record { thread = thread; step = s } in p) steps) (sym same) here
      | inr other ↦ row step (omega (arith, less, other))
    ]

abbrev pub HasRows : List (List Note) → List Pos → ℕ → Type 0
HasRows notes steps n = (p : Pos) → p.thread < n → p.step < length (slice_index_or notes p.thread []) → In p steps

pub rows_none : (notes : List (List Note)) (steps : List Pos) → HasRows notes steps 0
rows_none notes steps p less within = absurd (omega (arith, less))

pub rows_more : (notes : List (List Note)) (steps : List Pos) (n : ℕ) → HasRows notes steps n → HasRow steps n (length (slice_index_or notes n [])) → HasRows notes steps (n + 1)
rows_more notes steps n rows row p less within =
    elim (cases_eq p.thread n) [
      | inl same ↦ subst (λ (t : ℕ). In (let q : Pos = record { thread = t; step = p.step } in q) steps) (sym same)
          (row p.step (subst (λ (t : ℕ). p.step < length (slice_index_or notes t [])) same within))
      | inr other ↦ rows p (omega (arith, less, other)) within
    ]

pub rows_all : (notes : List (List Note)) (steps : List Pos) (n : ℕ) → length notes ≤ n → HasRows notes steps n → (p : Pos) → p.step < length (slice_index_or notes p.thread []) → In p steps
rows_all notes steps n past rows p within =
    elim (cases_lt p.thread n) [
      | inl less ↦ rows p less within
      | inr more ↦
          let none : length (slice_index_or notes p.thread []) ≡ 0 = ap (length {A = Note}) (get_or_past notes p.thread [] (omega (arith, past, more))) in
          absurd (omega (arith, within, none))
    ]

pub ruleset threads = (step_before, none_before, not_made, made_before)

pub ruleset joins = (no_join, no_end, end_before)

pub ruleset lists = (order_more, order_end)

pub ruleset rows = (row_none, row_more, rows_none, rows_more, rows_all)
