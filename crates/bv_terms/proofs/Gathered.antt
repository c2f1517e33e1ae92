-- What is gathered along a list of nodes: one more node adds its own at the end, and the rest stays.
use Rattle.std.proofs.Common.{◌≡◌, ℕ, ◌+◌, ◌<◌, List, [], ◌∷◌, ◌++◌, length, get_or, take, drop, fold, Some, slice_get, refl, sym, ◌∙◌, ap, arith, length-append}
use Rattle.std.proofs.lemmas.List.{get_or_append_left, get_or_push, take-append-drop, take_more, length-take-le}
use Rattle.std.proofs.lemmas.List.Sums.{fold-append}
use Rattle.std.proofs.lemmas.Option.{get_or_from_slice_get, slice_get_within, slice_get-get_or}
use Rattle.bv_terms.specs.Shapes.{Shape}
use Rattle.bv_terms.specs.Values.{gathered}

abbrev along : {A : Type 0} → (List A → Shape → A) → List A → List Shape → List A
along rule known nodes = fold (λ known node. known ++ rule known node ∷ []) known nodes

along_length : {A : Type 0} (rule : List A → Shape → A) (known : List A) (nodes : List Shape) → length (along rule known nodes) ≡ length known + length nodes
along_length rule known [] = omega arith
along_length rule known (n ∷ nodes) =
    let e = along_length rule (known ++ rule known n ∷ []) nodes in
    omega (arith, e, length-append known (rule known n ∷ []))

along_keeps : {A : Type 0} (rule : List A → Shape → A) (known : List A) (nodes : List Shape) (i : ℕ) (d : A) → i < length known → get_or (along rule known nodes) i d ≡ get_or known i d
along_keeps rule known [] i d h = refl
along_keeps rule known (n ∷ nodes) i d h =
    let more : i < length (known ++ rule known n ∷ []) = omega (arith, length-append known (rule known n ∷ [])) in
    along_keeps rule (known ++ rule known n ∷ []) nodes i d more ∙ get_or_append_left known (rule known n ∷ []) d i h

pub length-gathered : {A : Type 0} (rule : List A → Shape → A) (nodes : List Shape) → length (gathered rule nodes) ≡ length nodes
length-gathered rule nodes = along_length rule [] nodes ∙ omega arith

pub gathered-append : {A : Type 0} (rule : List A → Shape → A) (nodes more : List Shape) (i : ℕ) (d : A) → i < length nodes → get_or (gathered rule (nodes ++ more)) i d ≡ get_or (gathered rule nodes) i d
gathered-append rule nodes more i d h =
    let e = fold-append (λ known node. known ++ rule known node ∷ []) [] nodes more in
    let within : i < length (gathered rule nodes) = omega (arith, length-gathered rule nodes) in
    ap (λ l. get_or l i d) e ∙ along_keeps rule (gathered rule nodes) more i d within

pub gathered-push : {A : Type 0} (rule : List A → Shape → A) (nodes : List Shape) (node : Shape) (d : A) → get_or (gathered rule (nodes ++ node ∷ [])) (length nodes) d ≡ rule (gathered rule nodes) node
gathered-push rule nodes node d =
    let e = fold-append (λ known node. known ++ rule known node ∷ []) [] nodes (node ∷ []) in
    ap (λ l. get_or l (length nodes) d) e ∙ get_or_push (gathered rule nodes) (rule (gathered rule nodes) node) d (length nodes) (length-gathered rule nodes)

pub slice_get-append : {A : Type 0} (old more : List A) (d : A) (i : ℕ) → i < length old → slice_get (old ++ more) i ≡ slice_get old i
slice_get-append {A} old more d i h =
    let inside : i < length (old ++ more) = omega (arith, length-append old more) in
    slice_get-get_or (old ++ more) i d inside ∙ ap (λ (a : A). Some a) (get_or_append_left old more d i h) ∙ sym (slice_get-get_or old i d h)

pub slice_get-push : {A : Type 0} (old : List A) (a : A) → slice_get (old ++ a ∷ []) (length old) ≡ Some a
slice_get-push {A} old a =
    let inside : length old < length (old ++ a ∷ []) = omega (arith, length-append old (a ∷ [])) in
    slice_get-get_or (old ++ a ∷ []) (length old) a inside ∙ ap (λ (b : A). Some b) (get_or_push old a a (length old) refl)

-- the first nodes up to one of them, and the rest
pub split_at : (nodes : List Shape) (i : ℕ) (node : Shape) → slice_get nodes i ≡ Some node → nodes ≡ (take i nodes ++ node ∷ []) ++ drop (i + 1) nodes
split_at nodes i node h =
    let within = slice_get_within nodes i node h in
    let here = take_more nodes i node within ∙ ap (λ n. take i nodes ++ n ∷ []) (get_or_from_slice_get nodes i node node h) in
    sym (take-append-drop (i + 1) nodes) ∙ ap (λ l. l ++ drop (i + 1) nodes) here

pub gathered-get : {A : Type 0} (rule : List A → Shape → A) (nodes : List Shape) (i : ℕ) (node : Shape) (d : A) → slice_get nodes i ≡ Some node → get_or (gathered rule nodes) i d ≡ rule (gathered rule (take i nodes)) node
gathered-get rule nodes i node d h =
    let within = slice_get_within nodes i node h in
    let count : length (take i nodes) ≡ i = length-take-le i nodes (omega (arith, within)) in
    let inside : i < length (take i nodes ++ node ∷ []) = omega (arith, count, length-append (take i nodes) (node ∷ [])) in
    ap (λ l. get_or (gathered rule l) i d) (split_at nodes i node h)
    ∙ gathered-append rule (take i nodes ++ node ∷ []) (drop (i + 1) nodes) i d inside
    ∙ ap (λ j. get_or (gathered rule (take i nodes ++ node ∷ [])) j d) (sym count)
    ∙ gathered-push rule (take i nodes) node d
