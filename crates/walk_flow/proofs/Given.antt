-- A step that begins the same and is given the same as far as it asks does the same.
use Rattle.std.specs.Prelude.{◌≡◌, ℕ, zero, suc, ◌+◌, ◌<◌, Bool, true, false, cond, List, ◌∷◌, map, Option, Some, None, is_some, refl}
use Rattle.std.specs.List.{range_with_len}
use Rattle.std.proofs.Common.{sym, ◌∙◌, ap, subst, arith}
use Rattle.elf_image.specs.Layout.{Layout}
use Rattle.elf_image.specs.Memory.{opening_cells, all_readable}
use Rattle.odr_log.specs.declared.log.Pos.{Pos}
use Rattle.rv_model.specs.declared.hearing.Access.{Access}
use Rattle.rv_model.specs.declared.hearing.Heard.{Heard}
use Rattle.rv_model.specs.declared.hearing.Outcome.{Outcome}
use Rattle.rv_model.specs.Instruction.{act_at}
use Rattle.rv_model.specs.Noted.{note_in}
use Rattle.guided_walk.specs.Told.{Told}
use Rattle.guided_walk.specs.Guided.{Given, Seen, Visit, instr_of, access_in, conditional_in, linked, joins, hears, visit_from}
use Rattle.guided_walk.specs.Fits.{reads_in, conditional_by}
use Rattle.guided_walk.proofs.Acts.{SameHeard, same_act}
use Rattle.guided_walk.proofs.Meeting.{some_cond}
use Rattle.guided_walk.proofs.Here.{conditional_was}
use Rattle.walk_flow.specs.Depends.{SameGiven}

-- bytes that are given one by one
same_bytes : (f g : ℕ → ℕ) (from n : ℕ) → ((i : ℕ) → i < n → f (from + i) ≡ g (from + i)) → map f (range_with_len from n) ≡ map g (range_with_len from n)
same_bytes f g from zero same = refl
same_bytes f g from (suc n) same =
    let e : from + 0 ≡ from = omega arith in
    let first : f from ≡ g from = ap f (sym e) ∙ same 0 (omega arith) ∙ ap g e in
    let rest : map f (range_with_len (from + 1) n) ≡ map g (range_with_len (from + 1) n) =
    same_bytes f g (from + 1) n (λ (i : ℕ) (less : i < n).
    let shift : from + 1 + i ≡ from + suc i = omega arith in
    ap f shift ∙ same (suc i) (omega (arith, less)) ∙ ap g (sym shift)) in
    ap (λ (x : ℕ). x ∷ map f (range_with_len (from + 1) n)) first ∙ ap (λ (xs : List ℕ). g from ∷ xs) rest

same_there : {A : Type 0} (b : Bool) (x y : A) → is_some (cond b (Some x) None) ≡ is_some (cond b (Some y) None)
same_there true x y = refl
same_there false x y = refl

same_read : (image : Layout) (f g : ℕ → ℕ) (access : Access) (reads : Bool) (xs ys : List ℕ) → ((i : ℕ) → i < cond reads access.count 0 → f i ≡ g i)
    → cond (all_readable (opening_cells image) access.address access.count) (Some (map g (range_with_len 0 access.count))) None ≡ Some xs
    → cond (all_readable (opening_cells image) access.address access.count) (Some (map f (range_with_len 0 access.count))) None ≡ Some ys
    → reads ≡ true → xs ≡ ys
same_read image f g access reads xs ys same p q reading =
    let each : (i : ℕ) → i < access.count → g (0 + i) ≡ f (0 + i) = λ (i : ℕ) (less : i < access.count).
    let e : 0 + i ≡ i = omega arith in
    ap g e ∙ sym (same i (subst (λ (b : Bool). i < cond b access.count 0) (sym reading) less)) ∙ ap f (sym e) in
    sym (some_cond (all_readable (opening_cells image) access.address access.count) (map g (range_with_len 0 access.count)) xs p)
    ∙ same_bytes g f 0 access.count each
    ∙ some_cond (all_readable (opening_cells image) access.address access.count) (map f (range_with_len 0 access.count)) ys q

same_won : (address link : Option ℕ) (won new : Bool) (o : Outcome) (a : ℕ) → conditional_by address o ≡ Some a
    → ((b l : ℕ) → conditional_by address o ≡ Some b → link ≡ Some l → won ≡ new) → linked address link new ≡ linked address link won
same_won address None won new o a e same =
    let at : address ≡ Some a = conditional_was address o a e in
    ap (λ (c : Option ℕ). linked c None new) at ∙ sym (ap (λ (c : Option ℕ). linked c None won) at)
same_won address (Some l) won new o a e same =
    let at : address ≡ Some a = conditional_was address o a e in
    ap (λ (c : Option ℕ). linked c (Some l) new) at ∙ sym (same a l e refl) ∙ sym (ap (λ (c : Option ℕ). linked c (Some l) won) at)

pub same_step : (image : Layout) (told : Told) (one other : Given) (p : Pos) (seen : Seen) (joined : ℕ)
    → SameGiven image one other p (visit_from image told one p.thread p.step seen joined)
    → visit_from image told one p.thread p.step seen joined ≡ visit_from image told other p.thread p.step seen joined
same_step image told one other p seen joined same =
    let here : Heard = hears image told one p.thread p.step seen joined in
    let there : Heard = hears image told other p.thread p.step seen joined in
    let access : Access = access_in image seen in
    let o : Outcome = act_at seen.local (instr_of image seen) here in
    let heard : SameHeard (instr_of image seen) (conditional_in image seen) o there here = record {
      thread = refl;
      writable = refl;
      readable =
          same_there (all_readable (opening_cells image) access.address access.count) (map (other.bytes p.thread p.step) (range_with_len 0 access.count))
          (map (one.bytes p.thread p.step) (range_with_len 0 access.count));
      bytes = λ (xs ys : List ℕ) (p' : there.reach.bytes ≡ Some xs) (q : here.reach.bytes ≡ Some ys) (reads : reads_in (instr_of image seen) o ≡ true).
          same_read image (one.bytes p.thread p.step) (other.bytes p.thread p.step) access (reads_in (instr_of image seen) o) xs ys same.bytes p' q reads;
      won = λ (a : ℕ) (e : conditional_by (conditional_in image seen) o ≡ Some a).
          same_won (conditional_in image seen) seen.link (one.won p.thread p.step) (other.won p.thread p.step) o a e same.won;
      reply = refl;
      joined = λ (target : ℕ) (e : joins (note_in o) ≡ Some target). refl;
    } in
    ap (λ (outcome : Outcome). let visit : Visit = record { seen = seen; outcome = outcome } in visit)
    (sym (same_act seen.local (instr_of image seen) there here heard))
