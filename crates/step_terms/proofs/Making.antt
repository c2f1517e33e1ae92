-- Terms made of terms, one node after another.
use Rattle.std.proofs.Common.{◌≡◌, ℕ, zero, suc, ◌+◌, ◌-◌, ◌/◌, ◌%◌, ◌^◌, ◌<◌, cond, List, [], ◌∷◌, refl, sym, ◌∙◌, ap, subst, inl, inr, nat_eq, arith}
use Rattle.std.specs.Prelude.{Contains, Result, IfOk}
use Rattle.std.proofs.lemmas.Result.{IfOk-weaker}
use Rattle.odr_list.specs.declared.memory.Memory.{Memory}
use Rattle.bv_terms.specs.declared.node.TermId.{TermId}
use Rattle.bv_terms.specs.declared.node.BinOp.{BinOp}
use Rattle.bv_terms.specs.BitVectors.{BitVector, bits, bin_value, bin_width, not_value, neg_value, sign_extend_value}
use Rattle.bv_terms.specs.Shapes.{Shape, Var, Not, Neg, Bin, Extract, ZeroExtend, SignExtend, Ite, children}
use Rattle.bv_terms.specs.Values.{Assignment, term_at, value_at, width_at}
use Rattle.bv_terms.specs.Variables.{Occurs, OccursOnlyBy, IsTermOf}
use Rattle.step_terms.specs.Made.{Grows, IsMade, IsTerm, OccursAmong}

-- ---- growth

pub grows_same : (nodes : List Shape) → Grows nodes nodes
grows_same nodes = record {
  terms = record { grows = omega arith; node = λ id h. refl; width = λ id h. refl; value = λ w id h. refl };
  variables = λ width number id inside there. there;
}

pub grows_on : (old mid new : List Shape) → Grows old mid → Grows mid new → Grows old new
grows_on old mid new first second = let more = first.terms.grows in record {
  terms = record {
    grows = omega (arith, more, second.terms.grows);
    node = λ id h. second.terms.node id (omega (arith, h, more)) ∙ first.terms.node id h;
    width = λ id h. second.terms.width id (omega (arith, h, more)) ∙ first.terms.width id h;
    value = λ w id h. second.terms.value w id (omega (arith, h, more)) ∙ first.terms.value w id h;
  };
  variables = λ width number id inside there. first.variables width number id inside (second.variables width number id (omega (arith, inside, more)) there);
}

pub stays : (old new : List Shape) (k id : ℕ) → Grows old new → IsTerm old k id → IsTerm new k id
stays old new k id grows is = record {
  inside = omega (arith, is.inside, grows.terms.grows);
  width = grows.terms.width id is.inside ∙ is.width;
}

-- ---- what is made

-- an operand that stands behind others
pub second_part : (nodes : List Shape) (a b k : ℕ) → IsTerm nodes k b → IsMade nodes nodes (a ∷ b ∷ []) k (λ w. value_at w nodes b) b
second_part nodes a b k is = record { term = is; value = λ w. refl; occurs = λ width number there. inr (inl there) }

pub first_part : (nodes : List Shape) (a : ℕ) (parts : List ℕ) (k : ℕ) → IsTerm nodes k a → IsMade nodes nodes (a ∷ parts) k (λ w. value_at w nodes a) a
first_part nodes a parts k is = record { term = is; value = λ w. refl; occurs = λ width number there. inl there }

-- what was made stays so
pub later : (old mid new : List Shape) (parts : List ℕ) (k : ℕ) (f : Assignment → ℕ) (id : ℕ) → Grows mid new → IsMade old mid parts k f id → IsMade old new parts k f id
later old mid new parts k f id grows made = record {
  term = stays mid new k id grows made.term;
  value = λ w. grows.terms.value w id made.term.inside ∙ made.value w;
  occurs = λ width number there. made.occurs width number (grows.variables width number id made.term.inside there);
}

pub reworded : (old new : List Shape) (parts : List ℕ) (k : ℕ) (f g : Assignment → ℕ) (id : ℕ) → IsMade old new parts k f id → ((w : Assignment) → f w ≡ g w) → IsMade old new parts k g id
reworded old new parts k f g id made same = record { term = made.term; value = λ w. made.value w ∙ same w; occurs = made.occurs }

-- a value of one part, of a part that was made itself
pub by_one : (old mid new : List Shape) (parts : List ℕ) (x kx k : ℕ) (fx : Assignment → ℕ) (g : ℕ → ℕ) (id : ℕ) → IsMade old mid parts kx fx x
    → IsMade mid new (x ∷ []) k (λ w. g (value_at w mid x)) id → IsMade old new parts k (λ w. g (fx w)) id
by_one old mid new parts x kx k fx g id made_x made = record {
  term = made.term;
  value = λ w. made.value w ∙ ap g (made_x.value w);
  occurs = λ width number there. elim (made.occurs width number there) [
    | inl in_x ↦ made_x.occurs width number in_x
    | inr none ↦ absurd none
  ];
}

pub by_two : (old mid new : List Shape) (parts : List ℕ) (x y kx ky k : ℕ) (fx fy : Assignment → ℕ) (g : ℕ → ℕ → ℕ) (id : ℕ) → IsMade old mid parts kx fx x → IsMade old mid parts ky fy y
    → IsMade mid new (x ∷ y ∷ []) k (λ w. g (value_at w mid x) (value_at w mid y)) id → IsMade old new parts k (λ w. g (fx w) (fy w)) id
by_two old mid new parts x y kx ky k fx fy g id made_x made_y made = record {
  term = made.term;
  value = λ w. made.value w ∙ ap (λ v. g v (value_at w mid y)) (made_x.value w) ∙ ap (λ v. g (fx w) v) (made_y.value w);
  occurs = λ width number there. elim (made.occurs width number there) [
    | inl in_x ↦ made_x.occurs width number in_x
    | inr (inl in_y) ↦ made_y.occurs width number in_y
    | inr (inr none) ↦ absurd none
  ];
}

-- ---- one node

vector : (old mid : List Shape) (parts : List ℕ) (k : ℕ) (f : Assignment → ℕ) (id : ℕ) → IsMade old mid parts k f id → (w : Assignment) → term_at w mid id ≡ bits k (f w)
vector old mid parts k f id made w =
    ap (λ n. record { width = n; value = value_at w mid id }) made.term.width ∙ ap (λ v. record { width = k; value = v }) (made.value w)

-- a variable that occurs in one of these terms
among : (nodes : List Shape) (width number : ℕ) (xs : List ℕ) (child : ℕ) → Contains xs child → Occurs nodes width number child → OccursAmong nodes width number xs
among nodes width number [] child (k, lt, e) there = absurd (omega (arith, lt))
among nodes width number (x ∷ xs) child (zero, lt, e) there = inl (subst (λ c. Occurs nodes width number c) (sym e) there)
among nodes width number (x ∷ xs) child (suc k, lt, e) there = inr (among nodes width number xs child (k, omega (arith, lt), e) there)

node_occurs : (mid new : List Shape) (node : Shape) (id : ℕ) → OccursOnlyBy mid new id node → ((width number : ℕ) → node ≡ Var width number → ⊥)
    → (width number : ℕ) → Occurs new width number id → OccursAmong mid width number (children node)
node_occurs mid new node id only other width number there = elim (only width number there) [
  | inl e ↦ absurd (other width number e)
  | inr (child, listed, below) ↦ among mid width number (children node) child listed below
]

-- a variable of a node on terms that were made of the parts occurs in these
one_part : (old mid : List Shape) (parts : List ℕ) (x kx : ℕ) (fx : Assignment → ℕ) → IsMade old mid parts kx fx x → (width number : ℕ) → OccursAmong mid width number (x ∷ []) → OccursAmong old width number parts
one_part old mid parts x kx fx made width number (inl there) = made.occurs width number there
one_part old mid parts x kx fx made width number (inr none) = absurd none

two_parts : (old mid : List Shape) (parts : List ℕ) (x y kx ky : ℕ) (fx fy : Assignment → ℕ) → IsMade old mid parts kx fx x → IsMade old mid parts ky fy y
    → (width number : ℕ) → OccursAmong mid width number (x ∷ y ∷ []) → OccursAmong old width number parts
two_parts old mid parts x y kx ky fx fy made_x made_y width number (inl there) = made_x.occurs width number there
two_parts old mid parts x y kx ky fx fy made_x made_y width number (inr more) = one_part old mid parts y ky fy made_y width number more

not_bin : (o : BinOp) (x y width number : ℕ) → Bin o x y ≡ Var width number → ⊥
not_bin o x y width number e = cc

not_extract : (x high low width number : ℕ) → Extract x high low ≡ Var width number → ⊥
not_extract x high low width number e = cc

not_zero_extend : (x n width number : ℕ) → ZeroExtend x n ≡ Var width number → ⊥
not_zero_extend x n width number e = cc

not_sign_extend : (x n width number : ℕ) → SignExtend x n ≡ Var width number → ⊥
not_sign_extend x n width number e = cc

not_ite : (x y z width number : ℕ) → Ite x y z ≡ Var width number → ⊥
not_ite x y z width number e = cc

not_not : (x width number : ℕ) → Not x ≡ Var width number → ⊥
not_not x width number e = cc

not_neg : (x width number : ℕ) → Neg x ≡ Var width number → ⊥
not_neg x width number e = cc

pub of_operation : (old mid new : List Shape) (parts : List ℕ) (op : BinOp) (x y kx ky : ℕ) (fx fy : Assignment → ℕ) (id : ℕ) → IsMade old mid parts kx fx x → IsMade old mid parts ky fy y
    → IsTermOf mid new (Bin op x y) id → IsMade old new parts (bin_width op kx ky) (λ w. bin_value op (bits kx (fx w)) (bits ky (fy w))) id
of_operation old mid new parts op x y kx ky fx fy id made_x made_y made = record {
  term = record { inside = made.inside; width = made.width ∙ ap (λ n. bin_width op n (width_at mid y)) made_x.term.width ∙ ap (λ n. bin_width op kx n) made_y.term.width };
  value = λ w. made.value w ∙ ap (λ (b : BitVector). bin_value op b (term_at w mid y)) (vector old mid parts kx fx x made_x w)
      ∙ ap (λ (b : BitVector). bin_value op (bits kx (fx w)) b) (vector old mid parts ky fy y made_y w);
  occurs = λ width number there. two_parts old mid parts x y kx ky fx fy made_x made_y width number (node_occurs mid new (Bin op x y) id made.occurs (not_bin op x y) width number there);
}

pub of_part : (old mid new : List Shape) (parts : List ℕ) (x kx high low : ℕ) (fx : Assignment → ℕ) (id : ℕ) → IsMade old mid parts kx fx x
    → IsTermOf mid new (Extract x high low) id → IsMade old new parts (high + 1 - low) (λ w. fx w / 2 ^ low % 2 ^ (high + 1 - low)) id
of_part old mid new parts x kx high low fx id made_x made = record {
  term = record { inside = made.inside; width = made.width };
  value = λ w. made.value w ∙ ap (λ v. v / 2 ^ low % 2 ^ (high + 1 - low)) (made_x.value w);
  occurs = λ width number there. one_part old mid parts x kx fx made_x width number (node_occurs mid new (Extract x high low) id made.occurs (not_extract x high low) width number there);
}

pub of_zero_extended : (old mid new : List Shape) (parts : List ℕ) (x kx k : ℕ) (fx : Assignment → ℕ) (id : ℕ) → IsMade old mid parts kx fx x → IsTermOf mid new (ZeroExtend x k) id → IsMade old new parts k fx id
of_zero_extended old mid new parts x kx k fx id made_x made = record {
  term = record { inside = made.inside; width = made.width };
  value = λ w. made.value w ∙ made_x.value w;
  occurs = λ width number there. one_part old mid parts x kx fx made_x width number (node_occurs mid new (ZeroExtend x k) id made.occurs (not_zero_extend x k) width number there);
}

pub of_sign_extended : (old mid new : List Shape) (parts : List ℕ) (x kx k : ℕ) (fx : Assignment → ℕ) (id : ℕ) → IsMade old mid parts kx fx x → IsTermOf mid new (SignExtend x k) id
    → IsMade old new parts k (λ w. sign_extend_value (bits kx (fx w)) k) id
of_sign_extended old mid new parts x kx k fx id made_x made = record {
  term = record { inside = made.inside; width = made.width };
  value = λ w. made.value w ∙ ap (λ (b : BitVector). sign_extend_value b k) (vector old mid parts kx fx x made_x w);
  occurs = λ width number there. one_part old mid parts x kx fx made_x width number (node_occurs mid new (SignExtend x k) id made.occurs (not_sign_extend x k) width number there);
}

pub of_inverse : (old mid new : List Shape) (parts : List ℕ) (x k : ℕ) (fx : Assignment → ℕ) (id : ℕ) → IsMade old mid parts k fx x → IsTermOf mid new (Not x) id → IsMade old new parts k (λ w. 2 ^ k - 1 - fx w) id
of_inverse old mid new parts x k fx id made_x made = record {
  term = record { inside = made.inside; width = made.width ∙ made_x.term.width };
  value = λ w. made.value w ∙ ap (λ (b : BitVector). not_value b) (vector old mid parts k fx x made_x w);
  occurs = λ width number there. one_part old mid parts x k fx made_x width number (node_occurs mid new (Not x) id made.occurs (not_not x) width number there);
}

pub of_negative : (old mid new : List Shape) (parts : List ℕ) (x k : ℕ) (fx : Assignment → ℕ) (id : ℕ) → IsMade old mid parts k fx x → IsTermOf mid new (Neg x) id → IsMade old new parts k (λ w. (2 ^ k - fx w) % 2 ^ k) id
of_negative old mid new parts x k fx id made_x made = record {
  term = record { inside = made.inside; width = made.width ∙ made_x.term.width };
  value = λ w. made.value w ∙ ap (λ (b : BitVector). neg_value b) (vector old mid parts k fx x made_x w);
  occurs = λ width number there. one_part old mid parts x k fx made_x width number (node_occurs mid new (Neg x) id made.occurs (not_neg x) width number there);
}

pub of_choice : (old mid new : List Shape) (parts : List ℕ) (x y z kx k : ℕ) (fx fy fz : Assignment → ℕ) (id : ℕ) → IsMade old mid parts kx fx x → IsMade old mid parts k fy y → IsMade old mid parts k fz z
    → IsTermOf mid new (Ite x y z) id → IsMade old new parts k (λ w. cond (nat_eq (fx w) 1) (fy w) (fz w)) id
of_choice old mid new parts x y z kx k fx fy fz id made_x made_y made_z made = record {
  term = record { inside = made.inside; width = made.width ∙ made_y.term.width };
  value = λ w. made.value w ∙ ap (λ v. cond (nat_eq v 1) (value_at w mid y) (value_at w mid z)) (made_x.value w)
      ∙ ap (λ v. cond (nat_eq (fx w) 1) v (value_at w mid z)) (made_y.value w) ∙ ap (λ v. cond (nat_eq (fx w) 1) (fy w) v) (made_z.value w);
  occurs = λ width number there. chosen width number (node_occurs mid new (Ite x y z) id made.occurs (not_ite x y z) width number there);
}
  where
    chosen : (width number : ℕ) → OccursAmong mid width number (x ∷ y ∷ z ∷ []) → OccursAmong old width number parts
    chosen width number (inl there) = made_x.occurs width number there
    chosen width number (inr more) = two_parts old mid parts y z k k fy fz made_y made_z width number more

-- ---- operands

pub first_stays : (old mid : List Shape) (a : ℕ) (parts : List ℕ) (k : ℕ) → Grows old mid → IsTerm old k a → IsMade old mid (a ∷ parts) k (λ w. value_at w old a) a
first_stays old mid a parts k grows is = later old old mid (a ∷ parts) k (λ w. value_at w old a) a grows (first_part old a parts k is)

pub second_stays : (old mid : List Shape) (a b k : ℕ) → Grows old mid → IsTerm old k b → IsMade old mid (a ∷ b ∷ []) k (λ w. value_at w old b) b
second_stays old mid a b k grows is = later old old mid (a ∷ b ∷ []) k (λ w. value_at w old b) b grows (second_part old a b k is)

-- what was made of one of two parts was made of both
pub made_first : (old new : List Shape) (a b k : ℕ) (f : Assignment → ℕ) (id : ℕ) → IsMade old new (a ∷ []) k f id → IsMade old new (a ∷ b ∷ []) k f id
made_first old new a b k f id made = record { term = made.term; value = made.value; occurs = λ width number there. wider width number (made.occurs width number there) }
  where
    wider : (width number : ℕ) → OccursAmong old width number (a ∷ []) → OccursAmong old width number (a ∷ b ∷ [])
    wider width number (inl in_a) = inl in_a
    wider width number (inr none) = absurd none

pub made_second : (old new : List Shape) (a b k : ℕ) (f : Assignment → ℕ) (id : ℕ) → IsMade old new (b ∷ []) k f id → IsMade old new (a ∷ b ∷ []) k f id
made_second old new a b k f id made = record { term = made.term; value = made.value; occurs = λ width number there. inr (made.occurs width number there) }

-- a constant was made of any parts
pub made_constant : (old mid new : List Shape) (parts : List ℕ) (k : ℕ) (f : Assignment → ℕ) (id : ℕ) → IsMade mid new [] k f id → IsMade old new parts k f id
made_constant old mid new parts k f id made = record { term = made.term; value = made.value; occurs = λ width number there. absurd (made.occurs width number there) }

-- what was made in a pool that had grown
pub made_after : (old mid new : List Shape) (a k kx : ℕ) (g : ℕ → ℕ) (id : ℕ) → Grows old mid → IsTerm old kx a → IsMade mid new (a ∷ []) k (λ w. g (value_at w mid a)) id
    → IsMade old new (a ∷ []) k (λ w. g (value_at w old a)) id
made_after old mid new a k kx g id grows is made = by_one old mid new (a ∷ []) a kx k (λ w. value_at w old a) g id (first_stays old mid a [] kx grows is) made

pub said : (result : Result TermId Memory) (old new : List Shape) (parts : List ℕ) (k : ℕ) (f g : Assignment → ℕ) → IfOk result (λ id. IsMade old new parts k f id.number) → ((w : Assignment) → f w ≡ g w)
    → IfOk result (λ id. IsMade old new parts k g id.number)
said result old new parts k f g made same = IfOk-weaker result _ _ (λ id h. reworded old new parts k f g id.number h same) made

-- the value of a term is below 2 to the power of its width
pub bounded : (nodes : List Shape) (a k width : ℕ) → IsTerm nodes k a → width ≡ width_at nodes a → ((w : Assignment) → value_at w nodes a < 2 ^ width) → (w : Assignment) → value_at w nodes a < 2 ^ k
bounded nodes a k width is same below w = subst (λ n. value_at w nodes a < 2 ^ n) (same ∙ is.width) (below w)

-- another value of two words, that is the same
pub by_values : (result : Result TermId Memory) (old new : List Shape) (a b k : ℕ) (f g : ℕ → ℕ → ℕ) → ((w : Assignment) → value_at w old a < 2 ^ 32) → ((w : Assignment) → value_at w old b < 2 ^ 32)
    → IfOk result (λ id. IsMade old new (a ∷ b ∷ []) k (λ w. f (value_at w old a) (value_at w old b)) id.number) → ((x y : ℕ) → x < 2 ^ 32 → y < 2 ^ 32 → f x y ≡ g x y)
    → IfOk result (λ id. IsMade old new (a ∷ b ∷ []) k (λ w. g (value_at w old a) (value_at w old b)) id.number)
by_values result old new a b k f g below_a below_b made same =
    said result old new (a ∷ b ∷ []) k (λ w. f (value_at w old a) (value_at w old b)) (λ w. g (value_at w old a) (value_at w old b)) made (λ w. same (value_at w old a) (value_at w old b) (below_a w) (below_b w))
