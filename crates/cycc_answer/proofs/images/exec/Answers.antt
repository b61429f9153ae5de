use Rattle.std.proofs.Common.{◌≡◌, ℕ, inl, refl, ap, subst, ◌∙◌}
use Rattle.std.proofs.lemmas.Result.{IfOk-weaker}
use Rattle.arena_laws.specs.Holdings.{Holdings, fresh}
use Rattle.dynamic_region.specs.Keyed.{held_by}
use Rattle.unique_blocks.specs.Blocks as blocks
use Rattle.rv32_machine.specs.Arrays.{IsStart, arrays, state_of}
use Rattle.rv32_machine.specs.Served.{lacks}
use Rattle.cycc_answer.specs.Answers.{IsExec}
use Rattle.cycc_answer.specs.Statuses.{status_of}
use Rattle.cycc_answer.proofs.Counts.{if_refused, of_run}
use Rattle.cycc_answer.proofs.images.exec.Goals as goal

pub returns-clause-run : goal.returns-clause-run
returns-clause-run g c =
    let image = c.in-Ok.image in
    let arena = blocks.byte_at c.in-Ok-new.store.keys.regions in
    let start = arrays (λ s. held_by blocks.held blocks.tag_of s.keys.regions) (λ s. blocks.byte_at s.keys.regions) c.in-Ok-new-2.machine in
    let end = arrays (λ s. held_by blocks.held blocks.tag_of s.keys.regions) (λ s. blocks.byte_at s.keys.regions) c.run_watched-ending.new.machine in
    let starts : IsStart image (fresh image.pages) arena start =
    subst (λ (h : Holdings). IsStart image h arena start) (c.in-Ok-new.ensures.made ∙ ap fresh c.pages.ensures.pages) c.in-Ok-new-2.ensures.starts in
    IfOk-weaker c.told_of.result (λ (status : ℕ). status ≡ status_of c.run_watched-ending.result)
    (IsExec c.args.file.now c.args.steps (g.R.Read.remaining c.args.reader.now) (g.R.Read.remaining c.run_watched-ending.new.reader)
    (g.W.Write.contents c.args.writer.now) (g.W.Write.contents c.run_watched-ending.new.writer))
    (λ status shown. inl (record {
      parts = image;
      image = c.in-Ok.ensures.found;
      arena = arena;
      blank = λ at. ap (λ (f : ℕ → ℕ). f at) c.in-Ok-new.ensures.zeros;
      start = start;
      starts = starts;
      end = state_of end;
      why = c.run_watched-ending.result;
      hosted = c.run_watched-ending.ensures.hosted;
      memory = (c.run_watched-ending.ensures.memory refl (ap lacks c.in-Ok-new-2.ensures.starts.runs)).0;
      shown = shown;
    })) c.told_of.ensures

pub returns-clause-devices : goal.returns-clause-devices
returns-clause-devices g c =
    of_run c.told_of.result _ _ _ _ c.run_watched-ending.result c.told_of.ensures c.run_watched-ending.ensures.reads c.run_watched-ending.ensures.writes

pub returns-clause-untouched : goal.returns-clause-untouched
returns-clause-untouched g c = if_refused _ c.told_of.result c.run_watched-ending.result c.told_of.ensures
