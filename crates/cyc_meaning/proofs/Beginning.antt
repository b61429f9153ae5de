-- Before a unit is due a program reads and writes nothing.
use Rattle.std.specs.Prelude.{codes}
use Rattle.std.specs.Io.KnownBytes.{Appends}
use Rattle.std.proofs.Common.{ℕ, List, [], Option, sym, subst, arith}
use Rattle.std.proofs.KnownBytes.{Appends-nil, Consumes-nil}
use Rattle.cyc_words.specs.Events.{visible}
use Rattle.cyc_tree.specs.Tree as tree
use Rattle.core_eval.specs.declared.ending.EvalEnding.TheVariants as ending
use Rattle.source_meaning.specs.Steps.{Routine, World}
use Rattle.source_meaning.specs.Calls.{function_of}
use Rattle.source_meaning.specs.Callees.{items_callees}
use Rattle.source_meaning.specs.Programs.{entered, first_memory, source, start, status_of, world_of}
use Rattle.source_meaning.proofs.Kept.{Keeps, integer_keeps, need_keeps, one_keeps}
use Rattle.source_meaning.proofs.Forms.{body_keeps, globals_keep}
use Rattle.source_meaning.proofs.Quiet.{AreSilent, IsQuiet, may_call_all, quiet, silent_run}
use Rattle.cyc_meaning.specs.Evaluated.{IsEvaluated}

-- ---- the start of a run

entered_quiet : (f : Routine) (w : World) → Keeps quiet (entered f w [])
entered_quiet f w = record {
  go = λ next m h. (tt, (body_keeps quiet f w [] (may_call_all (items_callees f.body))).go _ m (λ vs m1. (tt, h vs m1)));
}

status_quiet : (w : World) (p : tree.Program) → Keeps quiet (status_of w p)
status_quiet w p = record {
  go = λ next m h. (globals_keep quiet w p 0).go _ m (λ a m1. (need_keeps quiet (function_of w.functions (codes "main"))).go _ m1
      (λ f m2. (entered_quiet f w).go _ m2 (λ vs m3. (one_keeps quiet vs).go _ m3 (λ v m4. (integer_keeps quiet v).go next m4 h))));
}

start_quiet : (p : tree.Program) → IsQuiet (start p)
start_quiet p = (status_quiet (world_of p) p).go _ (first_memory p) (λ status m. tt)

-- ---- nothing done

-- With no unit of fuel a run reads and writes nothing, so a host without memory need not have begun.
pub nothing_done : (p : tree.Program) (fuel : ℕ) (reader writer : Option (List ℕ)) → IsEvaluated ending.HostMemory p fuel reader reader writer writer
nothing_done p fuel reader writer =
    let silent : AreSilent (visible (source p [] 0).events) = silent_run (start p) [] (start_quiet p) in
    record {
      input = [];
      bytes = tt;
      units = 0;
      within = omega arith;
      given = Consumes-nil reader;
      taken = silent.read;
      at_end = λ has. absurd (silent.untold has);
      wrote = subst (Appends writer writer) (sym silent.written) (Appends-nil writer);
      ends = tt;
    }
