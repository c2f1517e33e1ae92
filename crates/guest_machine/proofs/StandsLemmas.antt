-- From the effect of a step to the states of the model that the machine stands for.
use Rattle.std.specs.Prelude.{◌≡◌, ℕ}
use Rattle.std.proofs.Common.{sym, ap, ◌∙◌}
use mathlib.Core.Path.{fun_ext}
use Rattle.elf_image.specs.Layout.{Layout}
use Rattle.elf_image.specs.Memory.{Cells, Stands, opening_cells, cells_after}
use Rattle.guest_mem.specs.Blocks.{cells_of}
use Rattle.guest_mem.specs.Laws.{Stands-then}
use Rattle.rv_model.specs.declared.state.Core.{Core}
use Rattle.rv_model.specs.declared.state.State.{State}
use Rattle.rv_model.specs.Step.{Effect, effect, step, memory_of, enabled, is_enabled}
use Rattle.guest_machine.specs.declared.note.Note.{Note}
use Rattle.guest_machine.specs.Waiting.{wait_at}
use Rattle.guest_machine.specs.Whole.{Whole, Follows, StandsFor, Steps, may_step}

same_effect : (image there : Layout) (cells memory : Cells) (core now : Core) (tid : ℕ) → image ≡ there → ((address : ℕ) → cells address ≡ memory address) → core ≡ now
    → effect image cells core tid ≡ effect there memory now tid
same_effect image there cells memory core now tid images bytes cores =
    ap (λ (i : Layout). effect i cells core tid) images
    ∙ ap (λ (c : Cells). effect there c core tid) (fun_ext bytes)
    ∙ ap (λ (k : Core). effect there memory k tid) cores

pub follows_steps : (old now : Whole) (before : State) (tid : ℕ) (shown : Note) → Follows old (effect old.image (cells_of old.blocks) old.core tid) shown now
    → StandsFor old before → Steps before tid shown now
unfolding step
follows_steps old now before tid shown follows stands =
    let first : Stands (opening_cells now.image) before.writes (cells_of old.blocks) =
    λ address. stands.memory address ∙ ap (λ (i : Layout). cells_after (opening_cells i) before.writes address) (sym follows.image) in
    let same : effect old.image (cells_of old.blocks) old.core tid ≡ effect now.image (memory_of now.image before) before.core tid =
    same_effect old.image now.image (cells_of old.blocks) (memory_of now.image before) old.core before.core tid (sym follows.image) first stands.core in
    let second : Stands (cells_of old.blocks) (effect now.image (memory_of now.image before) before.core tid).writes (cells_of now.blocks) =
    λ address. follows.memory address ∙ ap (λ (done : Effect). cells_after (cells_of old.blocks) done.writes address) same in
    record {
      note = follows.note ∙ ap (λ (done : Effect). done.note) same;
      state = record {
        core = follows.core ∙ ap (λ (done : Effect). done.core) same;
        memory = Stands-then (opening_cells now.image) (cells_of old.blocks) (cells_of now.blocks) before.writes (effect now.image (memory_of now.image before) before.core tid).writes first second;
      };
    }

-- what the machine shows is what the state shows that it stands for

shown_in : {T : Type 0} (f : Cells → Core → T) (whole : Whole) (state : State) → StandsFor whole state
    → f (cells_of whole.blocks) whole.core ≡ f (memory_of whole.image state) state.core
shown_in {T} f whole state stands =
    ap (λ (cells : Cells). f cells whole.core) (fun_ext stands.memory) ∙ ap (λ (core : Core). f (memory_of whole.image state) core) stands.core

pub enabled_there : (whole : Whole) (state : State) (tid : ℕ) → StandsFor whole state → may_step whole tid ≡ is_enabled whole.image state tid
unfolding is_enabled
enabled_there whole state tid stands = shown_in (λ (cells : Cells) (core : Core). enabled whole.image cells core tid) whole state stands

pub waits_there : (whole : Whole) (state : State) (tid : ℕ) → StandsFor whole state
    → wait_at whole.image (cells_of whole.blocks) whole.core tid ≡ wait_at whole.image (memory_of whole.image state) state.core tid
waits_there whole state tid stands = shown_in (λ (cells : Cells) (core : Core). wait_at whole.image cells core tid) whole state stands

pub ruleset stood_for = (enabled_there, waits_there)
