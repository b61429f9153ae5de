-- A lexical region does the same as its code: it is born, its handle goes to its local and stays in a temporary, and it is freed on each way out of its block.
use Rattle.std.proofs.Common.{◌≡◌, ℕ, suc, ◌+◌, ◌<◌, List, [], ◌∷◌, ◌++◌, Bool, false, refl, sym, ap, ◌∙◌, subst, arith}
use Rattle.source_meaning.specs.Shapes.{Shape, HandleShape}
use Rattle.source_meaning.specs.Memory as source
use Rattle.source_meaning.specs.Memory.{HandleOf}
use Rattle.source_meaning.specs.Steps as steps
use Rattle.source_meaning.specs.Steps.{Variable, Scope, Flow, Act}
use Rattle.source_meaning.specs.Places.{with_binding}
use Rattle.source_meaning.specs.Regions.{lexical_region, local_with, region_freed}
use Rattle.core_meaning.specs.Memory.{Birth, Born}
use Rattle.core_meaning.specs.Core.{Do, MoreStatements, Put, RegionFree, RegionNew, Statement, Statements}
use Rattle.core_meaning.specs.Steps as core_steps
use Rattle.core_meaning.specs.Steps.{Config, with_memory, with_temp}
use Rattle.core_meaning.specs.Meaning as meaning
use Rattle.source_lowering.specs.Lowered.{put}
use Rattle.source_lowering.specs.Programs.{RegionsAround}
use Rattle.source_lowering.specs.Simulation.{Grown, IsLexical, SameState, Next, Point, SameAt, around, nothing, within}
use Rattle.source_lowering.proofs.memory.Keeping.{fits_later, later_on}
use Rattle.source_lowering.proofs.Runs.{put_all}
use Rattle.source_lowering.proofs.values.Values.{other_temp, put_temp, temp_fits}
use Rattle.source_lowering.proofs.expressions.Making.{local_spot}
use Rattle.source_lowering.proofs.statements.Declaring.{local_with_same, with_local}
use Rattle.source_lowering.proofs.regions.Regions.{IsScoped, born_scoped, scoped_later, core_born, core_freed, region_born_agree, region_born_later}
use Rattle.source_lowering.proofs.regions.Regions.{region_born_same, region_freed_agree}
use Rattle.source_lowering.proofs.regions.Regions.{region_freed_later}
use Rattle.source_lowering.proofs.regions.Regions.{region_freed_same, source_born, source_freed}
use Rattle.source_lowering.proofs.statements.Ways.{Onward, RunsAs, WaysOn, freed}
use Rattle.source_lowering.proofs.statements.Blocks.{result_later}

-- one region more, which a key opened or not
abbrev pub one_more : (opened : Bool) → RegionsAround → RegionsAround
one_more opened h = record { all = suc h.all; broken = suc h.broken; continued = suc h.continued; opened = opened ∷ h.opened }

-- the place in a region's scope
abbrev pub in_scope_of : (opened : Bool) → Point → List ℕ → List Shape → Point
in_scope_of opened p name shapes = record (with_local p name HandleShape shapes) { regions = one_more opened p.regions }

pub fits_in_scope : (opened : Bool) (p : Point) (name : List ℕ) (shapes : List Shape) (m : source.Memory) (c : Config)
    → SameState (with_local p name HandleShape shapes) m c → SameState (in_scope_of opened p name shapes) m c
fits_in_scope opened p name shapes m c f = record {
  agree = f.agree;
  blocks = f.blocks;
  locals = f.locals;
  statics = f.statics;
  begun = f.begun;
  made = f.made;
  pending = f.pending;
  own = f.own;
  called = f.called;
  stands = f.stands;
  owned = f.owned;
}

-- the code behind the region's scope
abbrev pub free_code : ℕ → List Statement
free_code d = Do (RegionFree d) ∷ []

-- what comes after the region's scope in the source
abbrev after_scope : (Flow → source.Memory → steps.Step) → ℕ → Flow → source.Memory → steps.Step
after_scope next r flow = region_freed r (λ u. next flow)

-- the region is freed on each way out
ways_freed : (p : Point) (n r : ℕ) (result : Shape) (m0 m : source.Memory) (c0 c : Config) (next : Flow → source.Memory → steps.Step) (rest : Statements)
    (after : Next) → 0 < r → IsScoped c.memory r → c.temps p.regions.all ≡ Birth r → Onward p.world p.regions.all (around p p.frame) m0 c0 m c
    → WaysOn p.world p.program n p.regions (around p p.frame) m0 c0 result next (meaning.statements rest after) after
    → WaysOn p.world p.program n (one_more false p.regions) (around p p.frame) m c result (after_scope next r)
    (meaning.statements (put (free_code p.regions.all) rest) after) after
ways_freed p n r result m0 m c0 c next rest after positive scope temp onward ways = record {
  falls = λ m' c' o.
      region_freed_same p.world p.program n d r m' c' (λ u. next steps.Falls) (meaning.statements rest after) o.agree positive
      (scoped m' c' o.later) (held c' o.kept)
      (ways.falls (source_freed m' r) (out c') (on m' c' o));
  breaks = λ m' c' o.
      region_freed_same p.world p.program n d r m' c' (λ u. next steps.Breaks) (freed p.regions.opened d p.regions.broken (after core_steps.Breaks)) o.agree
      positive (scoped m' c' o.later) (held c' o.kept) (ways.breaks (source_freed m' r) (out c') (on m' c' o));
  continues = λ m' c' o.
      region_freed_same p.world p.program n d r m' c' (λ u. next steps.Continues) (freed p.regions.opened d p.regions.continued (after core_steps.Continues))
      o.agree positive (scoped m' c' o.later) (held c' o.kept) (ways.continues (source_freed m' r) (out c') (on m' c' o));
  returns = λ m' c' vs xs o given.
      region_freed_same p.world p.program n d r m' c' (λ u. next (steps.Returns vs)) (freed p.regions.opened d d (after (core_steps.Returns xs))) o.agree
      positive (scoped m' c' o.later) (held c' o.kept)
      (ways.returns (source_freed m' r) (out c') vs xs (on m' c' o)
      (result_later nothing p.world m' (source_freed m' r) c'.memory (out c').memory result vs xs (region_freed_later nothing m' c'.memory r) given));
}
  where
    d : ℕ
    d = p.regions.all

    out : Config → Config
    out c' = with_memory (core_freed c'.memory r) c'

    scoped : (m' : source.Memory) (c' : Config) → Grown (around p p.frame) m c.memory m' c'.memory → IsLexical (c'.memory.standing (Born r))
    scoped m' c' l = (l.stays r scope.born).lexical scope.lexical

    held : (c' : Config) → ((k : ℕ) → k < suc d → c'.temps k ≡ c.temps k) → c'.temps d ≡ Birth r
    held c' kept = kept d (omega arith) ∙ temp

    on : (m' : source.Memory) (c' : Config) → Onward p.world (suc d) (around p p.frame) m c m' c'
        → Onward p.world d (around p p.frame) m0 c0 (source_freed m' r) (out c')
    on m' c' o = record {
      agree = region_freed_agree p.world m' c'.memory r o.agree;
      later =
          later_on (around p p.frame) m0 m' (source_freed m' r) c0.memory c'.memory (out c').memory
          (later_on (around p p.frame) m0 m m' c0.memory c.memory c'.memory onward.later o.later)
          (region_freed_later (around p p.frame) m' c'.memory r);
      active = o.active ∙ onward.active;
      kept = λ k less. o.kept k (omega (arith, less)) ∙ onward.kept k less;
    }

pub region_declared : (p : Point) (n : ℕ) (scope : Scope) (name : List ℕ) (shapes : List Shape) (result : Shape) (then_act : Scope → Act Flow)
    (others : List Statement) → scope.world ≡ p.world → scope.frame ≡ p.frame → p.pending ≡ HandleShape ∷ shapes
    → RunsAs (in_scope_of false p name shapes) n p.frame result (then_act (with_binding scope name (Variable HandleShape (local_spot p.frame p.made)))) others
    → RunsAs p n p.frame result (lexical_region scope name then_act)
    ((Do (RegionNew p.regions.all) ∷ Do (Put 0 p.made 4 p.regions.all) ∷ []) ++ (others ++ free_code p.regions.all))
region_declared p n scope name shapes result then_act others world frame pending more = record {
  same = λ m c next rest after fits ways.
      let r = m.births in
      let m1 = source_born m in
      let c1 = with_temp d (Birth r) (with_memory (core_born c.memory) c) in
      let fits1 = temp_fits p m1 (with_memory (core_born c.memory) c) d (Birth r)
      (fits_later p m m1 c (with_memory (core_born c.memory) c) fits (region_born_agree p.world m c.memory fits.agree)
      (region_born_later (within p) m c.memory) refl (λ k less. refl)) (omega arith) in
      let inside = put (others ++ free_code d) rest in
      region_born_same p.world p.program n d m c (λ z. local_with scope name HandleShape (HandleOf z ∷ []) then_act (after_scope next z))
      (meaning.statements (MoreStatements (Do (Put 0 p.made 4 d)) inside) after) fits.agree
      (local_with_same p n (d + 1) d scope name HandleShape shapes (HandleOf r ∷ []) then_act (after_scope next r) m1 c1 inside after world frame tt
      (omega arith) pending fits1
      (record {
        value = HandleOf r;
        alone = refl;
        shown = record { birth = r; value = refl; shown = ap (λ z. z ∷ []) (put_temp d (Birth r) (with_memory (core_born c.memory) c)) };
      })
      (record {
        above = omega arith;
        go = λ m2 c2 fits2 later2 temps2 active2.
            subst (λ z. SameAt p n (then_act (with_binding scope name (Variable HandleShape (local_spot p.frame p.made))) (after_scope next r) m2)
            (meaning.statements z after c2)) (sym (put_all others (free_code d) rest))
            (more.same m2 c2 (after_scope next r) (put (free_code d) rest) after (fits_in_scope false p name shapes m2 c2 fits2)
            (ways_freed p n r result m m2 c c2 next rest after fits.agree.heap
            (scoped_later (around p p.frame) m1 m2 c1.memory c2.memory r (born_scoped c.memory r fits.agree.births) later2)
            (temps2 d (omega arith) ∙ put_temp d (Birth r) (with_memory (core_born c.memory) c))
            (record {
              agree = fits2.agree;
              later =
                  later_on (around p p.frame) m m1 m2 c.memory c1.memory c2.memory (region_born_later (around p p.frame) m c.memory) later2;
              active = active2;
              kept = λ k less. temps2 k (omega (arith, less)) ∙ other_temp d k (Birth r) (with_memory (core_born c.memory) c) less;
            }) ways));
      }));
}
  where
    d : ℕ
    d = p.regions.all
