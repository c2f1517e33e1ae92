-- A thread's reservation along steps: that of its last LR, or none where a write of another thread ended it.
use Rattle.std.specs.Prelude.{◌≡◌, ◌≢◌, ◌⊎◌, ℕ, Bool, true, false, cond, List, [], ◌∷◌, Option, Some, None, Result, Ok, Err, refl}
use Rattle.std.proofs.Common.{sym, ◌∙◌, ap, subst, inl, inr, eqb, eq-eqb}
use Rattle.std.proofs.lemmas.Bool.{eqb-true, ne_eqb, false≢true}
use Rattle.elf_image.specs.Layout.{Layout}
use Rattle.rv32_decode.specs.declared.instr.Instr.{Instr}
use Rattle.rv32_decode.specs.declared.instr.Instr.TheVariants as instr
use Rattle.odr_log.specs.declared.log.Cause.{Cause}
use Rattle.odr_log.specs.declared.log.Pos.{Pos}
use Rattle.rv_model.specs.declared.state.Local.{Local}
use Rattle.rv_model.specs.Thread.{surviving, touches}
use Rattle.rv_model.specs.Instruction.{access_of, access_at, reserving, reserving_at}
use Rattle.rv_model.specs.Noted.{writes_in}
use Rattle.guided_walk.specs.Guided.{Visits, at, instr_of}
use Rattle.guided_walk.specs.Orders.{In, Distinct, Stands}
use Rattle.guided_walk.specs.Fits.{reserved}
use Rattle.walk_orders.proofs.Lists.{stands_second}
use Rattle.access_fits.specs.Fitting.{is_reserving, is_linking}

-- an LR reserves the address of its access
pub reserves_at : (local : Local) (fetched : Result Instr Cause) (x : Option ℕ) → is_reserving fetched ≡ true
    → reserving_at local fetched x ≡ Some (access_at local fetched).address
unfolding reserving access_of
reserves_at local (Err fault) x e = absurd (false≢true e)
reserves_at local (Ok (instr.LoadReserved rd rs1 aq rl)) x e = refl
reserves_at local (Ok (instr.Lui rd imm)) x e = absurd (false≢true e)
reserves_at local (Ok (instr.Auipc rd imm)) x e = absurd (false≢true e)
reserves_at local (Ok (instr.Jal rd offset)) x e = absurd (false≢true e)
reserves_at local (Ok (instr.Jalr rd rs1 offset)) x e = absurd (false≢true e)
reserves_at local (Ok (instr.Branch op rs1 rs2 offset)) x e = absurd (false≢true e)
reserves_at local (Ok (instr.Load op rd rs1 offset)) x e = absurd (false≢true e)
reserves_at local (Ok (instr.Store op rs1 rs2 offset)) x e = absurd (false≢true e)
reserves_at local (Ok (instr.Imm op rd rs1 imm)) x e = absurd (false≢true e)
reserves_at local (Ok (instr.Op op rd rs1 rs2)) x e = absurd (false≢true e)
reserves_at local (Ok (instr.Fence rd rs1 imm)) x e = absurd (false≢true e)
reserves_at local (Ok instr.Ecall) x e = absurd (false≢true e)
reserves_at local (Ok instr.Ebreak) x e = absurd (false≢true e)
reserves_at local (Ok (instr.StoreConditional rd rs1 rs2 aq rl)) x e = absurd (false≢true e)
reserves_at local (Ok (instr.Amo op rd rs1 rs2 aq rl)) x e = absurd (false≢true e)

-- what is neither LR nor SC keeps the reservation
pub keeps_at : (local : Local) (fetched : Result Instr Cause) (x : Option ℕ) → is_linking fetched ≡ false → reserving_at local fetched x ≡ x
unfolding reserving
keeps_at local (Err fault) x e = refl
keeps_at local (Ok (instr.LoadReserved rd rs1 aq rl)) x e = absurd (false≢true (sym e))
keeps_at local (Ok (instr.StoreConditional rd rs1 rs2 aq rl)) x e = absurd (false≢true (sym e))
keeps_at local (Ok (instr.Lui rd imm)) x e = refl
keeps_at local (Ok (instr.Auipc rd imm)) x e = refl
keeps_at local (Ok (instr.Jal rd offset)) x e = refl
keeps_at local (Ok (instr.Jalr rd rs1 offset)) x e = refl
keeps_at local (Ok (instr.Branch op rs1 rs2 offset)) x e = refl
keeps_at local (Ok (instr.Load op rd rs1 offset)) x e = refl
keeps_at local (Ok (instr.Store op rs1 rs2 offset)) x e = refl
keeps_at local (Ok (instr.Imm op rd rs1 imm)) x e = refl
keeps_at local (Ok (instr.Op op rd rs1 rs2)) x e = refl
keeps_at local (Ok (instr.Fence rd rs1 imm)) x e = refl
keeps_at local (Ok instr.Ecall) x e = refl
keeps_at local (Ok instr.Ebreak) x e = refl
keeps_at local (Ok (instr.Amo op rd rs1 rs2 aq rl)) x e = refl

-- ---- along steps

-- what a step makes of its own thread's reservation
abbrev pub own_after : Layout → Visits → Pos → Option ℕ → Option ℕ
own_after image visits q x = reserving_at (at visits q).seen.local (instr_of image (at visits q).seen) x

-- a step of another thread that writes to the word at an address
abbrev pub Disturbs : Visits → ℕ → ℕ → Pos → Type 0
Disturbs visits t l q = (q.thread ≢ t) × (touches (writes_in (at visits q).outcome) l ≡ true)

pub record IsKept (image : Layout) (visits : Visits) (t : ℕ) (lr : Pos) (l : ℕ) (done : List Pos) : Type 0 where
  pub reservation : reserved image visits t done ≡ Some l
  pub none : (q : Pos) → Stands done q lr → q.thread ≢ t → touches (writes_in (at visits q).outcome) l ≡ false

pub record IsLost (image : Layout) (visits : Visits) (t : ℕ) (lr : Pos) (l : ℕ) (done : List Pos) : Type 0 where
  pub reservation : reserved image visits t done ≡ None
  pub breaker : Pos
  pub newer : Stands done breaker lr
  pub disturbs : Disturbs visits t l breaker

abbrev pub KeptOrLost : Layout → Visits → ℕ → Pos → ℕ → List Pos → Type 0
KeptOrLost image visits t lr l done = IsKept image visits t lr l done ⊎ IsLost image visits t lr l done

-- the reservation after one more step
reserved_own : (image : Layout) (visits : Visits) (t : ℕ) (q : Pos) (older : List Pos) → q.thread ≡ t
    → reserved image visits t (q ∷ older) ≡ own_after image visits q (reserved image visits t older)
reserved_own image visits t q older same =
    ap (λ (b : Bool). cond b (own_after image visits q (reserved image visits t older)) (surviving (writes_in (at visits q).outcome) (reserved image visits t older)))
    (eq-eqb q.thread t same)

reserved_other : (image : Layout) (visits : Visits) (t : ℕ) (q : Pos) (older : List Pos) → q.thread ≢ t
    → reserved image visits t (q ∷ older) ≡ surviving (writes_in (at visits q).outcome) (reserved image visits t older)
reserved_other image visits t q older differs =
    ap (λ (b : Bool). cond b (own_after image visits q (reserved image visits t older)) (surviving (writes_in (at visits q).outcome) (reserved image visits t older)))
    (ne_eqb q.thread t differs)

-- the LR itself is the newest step
kept_here : (image : Layout) (visits : Visits) (t : ℕ) (lr : Pos) (l : ℕ) (older : List Pos) → (In lr older → ⊥) → lr.thread ≡ t
    → ((x : Option ℕ) → own_after image visits lr x ≡ Some l) → IsKept image visits t lr l (lr ∷ older)
kept_here image visits t lr l older once same reserves = record {
  reservation = reserved_own image visits t lr older same ∙ reserves (reserved image visits t older);
  none = λ (q : Pos) (s : Stands (lr ∷ older) q lr) (differs : q.thread ≢ t). absurd (elim s [
    | inl x ↦ once x.1
    | inr x ↦ once (stands_second q lr older x)
  ]);
}

-- a step of the thread that is neither LR nor SC
kept_own : (image : Layout) (visits : Visits) (t : ℕ) (lr p : Pos) (l : ℕ) (older : List Pos) → p.thread ≡ t
    → ((x : Option ℕ) → own_after image visits p x ≡ x) → KeptOrLost image visits t lr l older → KeptOrLost image visits t lr l (p ∷ older)
kept_own image visits t lr p l older same keeps (inl kept) = inl (record {
  reservation = reserved_own image visits t p older same ∙ keeps (reserved image visits t older) ∙ kept.reservation;
  none = λ (q : Pos) (s : Stands (p ∷ older) q lr) (differs : q.thread ≢ t). elim s [
    | inl x ↦ absurd (differs (ap (λ (r : Pos). r.thread) (sym x.0) ∙ same))
    | inr x ↦ kept.none q x differs
  ];
})
kept_own image visits t lr p l older same keeps (inr lost) = inr (record {
  reservation = reserved_own image visits t p older same ∙ keeps (reserved image visits t older) ∙ lost.reservation;
  breaker = lost.breaker;
  newer = inr lost.newer;
  disturbs = lost.disturbs;
})

-- a step of another thread
kept_other_by : (image : Layout) (visits : Visits) (t : ℕ) (lr p : Pos) (l : ℕ) (older : List Pos) (b : Bool) → p.thread ≢ t → In lr older
    → touches (writes_in (at visits p).outcome) l ≡ b → IsKept image visits t lr l older → KeptOrLost image visits t lr l (p ∷ older)
kept_other_by image visits t lr p l older true differs i touched kept = inr (record {
  reservation = reserved_other image visits t p older differs
      ∙ ap (surviving (writes_in (at visits p).outcome)) kept.reservation
      ∙ ap (λ (b : Bool). cond b None (Some l)) touched;
  breaker = p;
  newer = inl (refl, i);
  disturbs = (differs, touched);
})
kept_other_by image visits t lr p l older false differs i touched kept = inl (record {
  reservation = reserved_other image visits t p older differs
      ∙ ap (surviving (writes_in (at visits p).outcome)) kept.reservation
      ∙ ap (λ (b : Bool). cond b None (Some l)) touched;
  none = λ (q : Pos) (s : Stands (p ∷ older) q lr) (other : q.thread ≢ t). elim s [
    | inl x ↦ subst (λ (r : Pos). touches (writes_in (at visits r).outcome) l ≡ false) x.0 touched
    | inr x ↦ kept.none q x other
  ];
})

kept_other : (image : Layout) (visits : Visits) (t : ℕ) (lr p : Pos) (l : ℕ) (older : List Pos) → p.thread ≢ t → In lr older
    → KeptOrLost image visits t lr l older → KeptOrLost image visits t lr l (p ∷ older)
kept_other image visits t lr p l older differs i (inl kept) =
    kept_other_by image visits t lr p l older (touches (writes_in (at visits p).outcome) l) differs i refl kept
kept_other image visits t lr p l older differs i (inr lost) = inr (record {
  reservation = reserved_other image visits t p older differs ∙ ap (surviving (writes_in (at visits p).outcome)) lost.reservation;
  breaker = lost.breaker;
  newer = inr lost.newer;
  disturbs = lost.disturbs;
})

kept_by : (image : Layout) (visits : Visits) (t : ℕ) (lr p : Pos) (l : ℕ) (older : List Pos) (b : Bool) → eqb p.thread t ≡ b → In lr older
    → (p.thread ≡ t → (x : Option ℕ) → own_after image visits p x ≡ x) → KeptOrLost image visits t lr l older → KeptOrLost image visits t lr l (p ∷ older)
kept_by image visits t lr p l older true e i keeps rest =
    let same : p.thread ≡ t = eqb-true p.thread t e in kept_own image visits t lr p l older same (keeps same) rest
kept_by image visits t lr p l older false e i keeps rest =
    kept_other image visits t lr p l older (λ (same : p.thread ≡ t). false≢true (sym e ∙ eq-eqb p.thread t same)) i rest

-- After an LR of a thread, with no LR or SC of the thread since, its reservation is kept or was ended by another thread.
pub kept_or_lost : (image : Layout) (visits : Visits) (t : ℕ) (lr : Pos) (l : ℕ) (done : List Pos) → Distinct done → In lr done → lr.thread ≡ t
    → ((x : Option ℕ) → own_after image visits lr x ≡ Some l)
    → ((q : Pos) → Stands done q lr → q.thread ≡ t → (x : Option ℕ) → own_after image visits q x ≡ x) → KeptOrLost image visits t lr l done
kept_or_lost image visits t lr l [] distinct i own reserves since = absurd i
kept_or_lost image visits t lr l (p ∷ older) distinct (inl e) own reserves since =
    subst (λ (q : Pos). KeptOrLost image visits t lr l (q ∷ older)) (sym e)
    (inl (kept_here image visits t lr l older (λ (i : In lr older). distinct.0 (subst (λ (q : Pos). In q older) (sym e) i)) own reserves))
kept_or_lost image visits t lr l (p ∷ older) distinct (inr i) own reserves since =
    kept_by image visits t lr p l older (eqb p.thread t) refl i (λ (same : p.thread ≡ t). since p (inl (refl, i)) same)
    (kept_or_lost image visits t lr l older distinct.1 i own reserves (λ (q : Pos) (s : Stands older q lr). since q (inr s)))
