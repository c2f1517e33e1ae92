-- Along a whole list in which each step stands after what it is made of, the walk decides whether the guided walk holds.
use Rattle.std.specs.Prelude.{◌≡◌, ◌↔◌, ℕ, zero, suc, ◌<◌, List, [], ◌∷◌, length, All, refl}
use Rattle.std.proofs.Common.{sym, subst, arith, inl, inr, get_or}
use Rattle.elf_image.specs.Layout.{Layout}
use Rattle.odr_log.specs.declared.log.Pos.{Pos}
use Rattle.rv_model.specs.Noted.{note_in}
use Rattle.guided_walk.specs.Told.{Told, noted}
use Rattle.guided_walk.specs.Guided.{Given, Visits, at, Guided}
use Rattle.guided_walk.specs.Orders.{In}
use Rattle.guided_walk.specs.Along.{walk_along}
use Rattle.walk_lists.specs.Order.{IsOrder, HasEach}
use Rattle.walk_lists.proofs.Orders.{list_law}

-- ---- each of a list

all_in : (P : Pos → Type 0) (xs : List Pos) → All P xs → (p : Pos) → In p xs → P p
all_in P [] all p i = absurd i
all_in P (x ∷ xs) all p (inl e) = subst P e (all 0 x (omega arith))
all_in P (x ∷ xs) all p (inr i) = all_in P xs (λ (k : ℕ) (d : Pos) (w : k < length xs). all (suc k) d (omega (arith, w))) p i

at_in : (xs : List Pos) (k : ℕ) (d : Pos) → k < length xs → In (get_or xs k d) xs
at_in [] k d w = absurd (omega (arith, w))
at_in (x ∷ xs) zero d w = inl refl
at_in (x ∷ xs) (suc k) d w = inr (at_in xs k d (omega (arith, w)))

in_all : (P : Pos → Type 0) (xs : List Pos) → ((p : Pos) → In p xs → P p) → All P xs
in_all P xs each k d w = each (get_or xs k d) (at_in xs k d w)

-- ---- the walk decides

abbrev Shown : Told → Visits → Pos → Type 0
Shown told visits p = note_in (at visits p).outcome ≡ noted told p

pub decides : (image : Layout) (told : Told) (given : Given) (steps : List Pos) (start visits : Visits) → IsOrder told [] steps → HasEach told steps
    → visits ≡ walk_along image told given steps start → All (Shown told visits) steps ↔ Guided image told given
decides image told given steps start visits order all walked =
    let along = (list_law image told given steps start order all).holds in (
      λ shown. along.0 (λ p i. subst (λ (v : Visits). Shown told v p) walked (all_in (Shown told visits) steps shown p i)),
      λ guided. in_all (Shown told visits) steps (λ p i. subst (λ (v : Visits). Shown told v p) (sym walked) (along.1 guided p i)),
    )
