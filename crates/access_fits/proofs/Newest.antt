-- The newest write at an address among the writes of steps.
use Rattle.std.specs.Prelude.{◌≡◌, ◌⊎◌, ℕ, Bool, true, false, cond, List, [], ◌∷◌, ◌++◌, nat_eq, Option, Some, None, option_map, refl}
use Rattle.std.proofs.Common.{sym, ◌∙◌, ap, subst, inl, inr}
use Rattle.elf_image.specs.declared.write.Write.{Write}
use Rattle.elf_image.specs.Layout.{Layout}
use Rattle.elf_image.specs.declared.cell.Cell.{Cell}
use Rattle.elf_image.specs.Memory.{Cells, opening_cells, cells_after, byte_in, with_byte}
use Rattle.odr_log.specs.declared.log.Pos.{Pos}
use Rattle.rv_model.specs.Noted.{writes_in}
use Rattle.guided_walk.specs.Guided.{Visits, at}
use Rattle.guided_walk.specs.Orders.{In, Distinct, Stands}
use Rattle.guided_walk.specs.Fits.{writes_along, memory_along}
use Rattle.walk_orders.proofs.Lists.{stands_second}
use Rattle.access_fits.specs.Fitting.{newest_in, written}

-- ---- bytes

abbrev pub or_else : Option ℕ → ℕ → ℕ
or_else None old = old
or_else (Some byte) old = byte

abbrev pub first_some : Option ℕ → Option ℕ → Option ℕ
first_some None other = other
first_some (Some byte) other = Some byte

-- what writes leave where there is a byte
abbrev Left : Cells → List Write → ℕ → Cell → Type 0
Left before ws a cell = (now : Cell) × (cells_after before ws a ≡ Some now) × (now.byte ≡ or_else (newest_in ws a) cell.byte)

left_by : (w : Write) (older : Option ℕ) (cell now : Cell) (c : Option Cell) (b : Bool) → c ≡ Some now → now.byte ≡ or_else older cell.byte
    → (n : Cell) × (cond b (option_map (with_byte w.byte) c) c ≡ Some n) × (n.byte ≡ or_else (cond b (Some w.byte) older) cell.byte)
left_by w older cell now c true is same = (with_byte w.byte now, ap (option_map (with_byte w.byte)) is, refl)
left_by w older cell now c false is same = (now, is, same)

left_in : (before : Cells) (ws : List Write) (a : ℕ) (cell : Cell) → before a ≡ Some cell → Left before ws a cell
left_in before [] a cell e = (cell, e, refl)
left_in before (w ∷ ws) a cell e =
    let rest : Left before ws a cell = left_in before ws a cell e in
    left_by w (newest_in ws a) cell rest.0 (cells_after before ws a) (nat_eq w.address a) rest.1 rest.2

-- the byte of a memory after steps
pub memory_byte : (image : Layout) (visits : Visits) (done : List Pos) (a : ℕ) (cell : Cell) → opening_cells image a ≡ Some cell
    → byte_in (memory_along image visits done a) ≡ or_else (newest_in (writes_along visits done) a) (byte_in (opening_cells image a))
memory_byte image visits done a cell e =
    let left : Left (opening_cells image) (writes_along visits done) a cell = left_in (opening_cells image) (writes_along visits done) a cell e in
    ap byte_in left.1 ∙ left.2 ∙ ap (or_else (newest_in (writes_along visits done) a)) (sym (ap byte_in e))

-- ---- steps

newest_by : (w : Write) (x y : Option ℕ) (z : Option ℕ) (b : Bool) → z ≡ first_some x y → cond b (Some w.byte) z ≡ first_some (cond b (Some w.byte) x) y
newest_by w x y z true e = refl
newest_by w x y z false e = e

newest_then : (xs ys : List Write) (a : ℕ) → newest_in (xs ++ ys) a ≡ first_some (newest_in xs a) (newest_in ys a)
newest_then [] ys a = refl
newest_then (w ∷ xs) ys a = newest_by w (newest_in xs a) (newest_in ys a) (newest_in (xs ++ ys) a) (nat_eq w.address a) (newest_then xs ys a)

-- Of steps, the newest first: one of them writes at an address, and none of the newer ones does.
pub record IsLast (visits : Visits) (done : List Pos) (a byte : ℕ) : Type 0 where
  pub writer : Pos
  pub there : In writer done
  pub writes : written visits writer a ≡ Some byte
  pub newer : (q : Pos) → Stands done q writer → written visits q a ≡ None
  pub others : (q : Pos) → In q done → Stands done q writer ⊎ ((q ≡ writer) ⊎ Stands done writer q)
  pub left : newest_in (writes_along visits done) a ≡ Some byte

pub record AreNone (visits : Visits) (done : List Pos) (a : ℕ) : Type 0 where
  pub none : (q : Pos) → In q done → written visits q a ≡ None
  pub left : newest_in (writes_along visits done) a ≡ None

last_here : (visits : Visits) (p : Pos) (older : List Pos) (a byte : ℕ) → (In p older → ⊥) → written visits p a ≡ Some byte
    → newest_in (writes_along visits (p ∷ older)) a ≡ Some byte → IsLast visits (p ∷ older) a byte
last_here visits p older a byte once writes left = record {
  writer = p;
  there = inl refl;
  writes = writes;
  newer = λ (q : Pos) (s : Stands (p ∷ older) q p). absurd (elim s [
    | inl x ↦ once x.1
    | inr x ↦ once (stands_second q p older x)
  ]);
  others = λ (q : Pos) (i : In q (p ∷ older)). elim i [
    | inl e ↦ inr (inl (sym e))
    | inr j ↦ inr (inr (inl (refl, j)))
  ];
  left = left;
}

last_later : (visits : Visits) (p : Pos) (older : List Pos) (a byte : ℕ) → IsLast visits older a byte → written visits p a ≡ None
    → newest_in (writes_along visits (p ∷ older)) a ≡ Some byte → IsLast visits (p ∷ older) a byte
last_later visits p older a byte last here left = record {
  writer = last.writer;
  there = inr last.there;
  writes = last.writes;
  newer = λ (q : Pos) (s : Stands (p ∷ older) q last.writer). elim s [
    | inl x ↦ subst (λ (r : Pos). written visits r a ≡ None) x.0 here
    | inr x ↦ last.newer q x
  ];
  others = λ (q : Pos) (i : In q (p ∷ older)). elim i [
    | inl e ↦ inl (inl (e, last.there))
    | inr j ↦ elim (last.others q j) [
      | inl s ↦ inl (inr s)
      | inr x ↦ elim x [ inl e ↦ inr (inl e) | inr s ↦ inr (inr (inr s)) ]
    ]
  ];
  left = left;
}

none_later : (visits : Visits) (p : Pos) (older : List Pos) (a : ℕ) → AreNone visits older a → written visits p a ≡ None
    → newest_in (writes_along visits (p ∷ older)) a ≡ None → AreNone visits (p ∷ older) a
none_later visits p older a are here left = record {
  none = λ (q : Pos) (i : In q (p ∷ older)). elim i [
    | inl e ↦ subst (λ (r : Pos). written visits r a ≡ None) e here
    | inr j ↦ are.none q j
  ];
  left = left;
}

-- the newest write of steps at an address, or none
abbrev Sought : Visits → List Pos → ℕ → Type 0
Sought visits done a = ((byte : ℕ) × IsLast visits done a byte) ⊎ AreNone visits done a

sought_by : (visits : Visits) (p : Pos) (older : List Pos) (a : ℕ) (here : Option ℕ) → (In p older → ⊥) → written visits p a ≡ here
    → newest_in (writes_along visits (p ∷ older)) a ≡ first_some here (newest_in (writes_along visits older) a) → Sought visits older a → Sought visits (p ∷ older) a
sought_by visits p older a (Some byte) once e left rest = inl (byte, last_here visits p older a byte once e left)
sought_by visits p older a None once e left (inl found) = inl (found.0, last_later visits p older a found.0 found.1 e (left ∙ found.1.left))
sought_by visits p older a None once e left (inr are) = inr (none_later visits p older a are e (left ∙ are.left))

pub newest_or_none : (visits : Visits) (done : List Pos) (a : ℕ) → Distinct done → ((byte : ℕ) × IsLast visits done a byte) ⊎ AreNone visits done a
newest_or_none visits [] a distinct = inr (record { none = λ (q : Pos) (i : In q []). absurd i; left = refl })
newest_or_none visits (p ∷ older) a distinct =
    sought_by visits p older a (written visits p a) distinct.0 refl
    (newest_then (writes_in (at visits p).outcome) (writes_along visits older) a) (newest_or_none visits older a distinct.1)
