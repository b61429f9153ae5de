use Rattle.std.proofs.Common.{◌≡◌, ℕ, inl, inr, sym, ap, ◌∙◌, subst, refl}
use Rattle.arena_laws.specs.Holdings.{Holdings, fresh}
use Rattle.cyc_image.specs.Format.{Contents, IsImage}
use Rattle.rv32_machine.specs.Arrays.{IsStart, arrays, state_of}
use Rattle.dynamic_region.specs.Keyed.{held_by}
use Rattle.unique_blocks.specs.Blocks as blocks
use Rattle.rv32_machine.specs.Served.{lacks}
use Rattle.cyc_host.specs.Watched.{nothing}
use Rattle.cycc_driver.proofs.Executions.{begun_alike, text_run}
use Rattle.cycc_driver.proofs.executing.executed.Goals as goal

pub returns-clause-run : goal.returns-clause-run
returns-clause-run g c =
    let made = c.in_ok-bytes.ensures.implemented in
    let image : Contents = c.in-Ok.image in
    let bytes : IsImage c.deref.result.now made.parts = subst (λ b. IsImage b made.parts) (sym c.deref.ensures.value) made.image in
    let all = c.in-Ok.ensures.all made.parts bytes in
    let same : image ≡ made.parts = elim all [ inl h ↦ cc h | inr h ↦ absurd (cc h) ] in
    let start = arrays (λ s. held_by blocks.held blocks.tag_of s.keys.regions) (λ s. blocks.byte_at s.keys.regions) c.in-Ok-new-2.machine in
    let end = arrays (λ s. held_by blocks.held blocks.tag_of s.keys.regions) (λ s. blocks.byte_at s.keys.regions) c.run_watched-ending.new.machine in
    let held = held_by blocks.held blocks.tag_of c.in-Ok-new.store.keys.regions in
    let arena = blocks.byte_at c.in-Ok-new.store.keys.regions in
    let blank : (at : ℕ) → arena at ≡ 0 = λ at. ap (λ (f : ℕ → ℕ). f at) c.in-Ok-new.ensures.zeros in
    let with_parts : IsStart made.parts held arena start =
    subst (λ parts. IsStart parts held arena start) same c.in-Ok-new-2.ensures.starts in
    let starts : IsStart made.parts (fresh c.args.limits.pages) arena start =
    subst (λ (h : Holdings). IsStart made.parts h arena start) c.in-Ok-new.ensures.made with_parts in
    text_run c.args.text.now c.in_ok-bytes.bytes.items c.args.limits.pages c.args.limits.stack_pages c.args.limits.steps c.run_watched-ending.result made arena
    start blank starts (state_of end)
    c.run_watched-ending.ensures.hosted

pub returns-clause-watched : goal.returns-clause-watched
returns-clause-watched g c = λ is.
    let made = c.in_ok-bytes.ensures.implemented in
    let image : Contents = c.in-Ok.image in
    let bytes : IsImage c.deref.result.now made.parts = subst (λ b. IsImage b made.parts) (sym c.deref.ensures.value) made.image in
    let all = c.in-Ok.ensures.all made.parts bytes in
    let same : image ≡ made.parts = elim all [ inl h ↦ cc h | inr h ↦ absurd (cc h) ] in
    let start = arrays (λ s. held_by blocks.held blocks.tag_of s.keys.regions) (λ s. blocks.byte_at s.keys.regions) c.in-Ok-new-2.machine in
    let end = arrays (λ s. held_by blocks.held blocks.tag_of s.keys.regions) (λ s. blocks.byte_at s.keys.regions) c.run_watched-ending.new.machine in
    let held = held_by blocks.held blocks.tag_of c.in-Ok-new.store.keys.regions in
    let arena = blocks.byte_at c.in-Ok-new.store.keys.regions in
    let blank : (at : ℕ) → arena at ≡ 0 = λ at. ap (λ (f : ℕ → ℕ). f at) c.in-Ok-new.ensures.zeros in
    let with_parts : IsStart made.parts held arena start =
    subst (λ parts. IsStart parts held arena start) same c.in-Ok-new-2.ensures.starts in
    let starts : IsStart made.parts (fresh c.args.limits.pages) arena start =
    subst (λ (h : Holdings). IsStart made.parts h arena start) c.in-Ok-new.ensures.made with_parts in
    let begun = c.in-Ok-watch_of.ensures is in
    record {
      bytes = c.in_ok-bytes.bytes.items;
      image = made;
      arena = arena;
      blank = blank;
      start = start;
      starts = starts;
      end = state_of end;
      watched = begun_alike (begun.1.0 ∙ ap nothing (c.code.ensures.code ∙ ap (λ (p : Contents). p.code) same)) begun.1.1
          (c.run_watched-ending.ensures.watched begun.0).1;
    }

pub returns-clause-memory : goal.returns-clause-memory
returns-clause-memory g c = (c.run_watched-ending.ensures.memory refl (ap lacks c.in-Ok-new-2.ensures.starts.runs)).0
