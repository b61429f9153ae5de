-- Each statement that is in order runs safely, and is left in one of its ways.
use Rattle.std.proofs.Common.{◌≡◌, ℕ, ◌⊎◌, inl, inr, List, [], Option, Some, refl, sym, subst, ◌≤◌, arith}
use Rattle.cyc_tree.specs.Tree.{Expression, BlockItems, Statement}
use Rattle.source_meaning.specs.Shapes.{Shape}
use Rattle.source_meaning.specs.Memory.{Region, Frame, Spot, Dead, Memory, with_state}
use Rattle.source_meaning.specs.Steps.{World, Binding, Scope, Flow, Falls, Breaks, Continues, Returns, give, ◌>>=◌}
use Rattle.source_meaning.specs.Conversions.{converted}
use Rattle.source_meaning.specs.Calls.{truth}
use Rattle.source_meaning.specs.Expressions.{sense}
use Rattle.source_meaning.specs.Regions.{in_block}
use Rattle.source_meaning.specs.Strings.{expression_strings}
use Rattle.source_meaning.specs.Statements.{block_items}
use Rattle.source_typing.specs.Scope.{Env, Enclosing, block_entered}
use Rattle.source_typing.specs.Tables as typing
use Rattle.source_typing.specs.Types.{shape_of}
use Rattle.source_typing.specs.Exchanges.{acts}
use Rattle.source_typing.specs.Flow.{use_of}
use Rattle.source_typing.specs.Left.{Left, left_by, left_by_items}
use Rattle.source_typing.specs.States.{States}
use Rattle.type_proof.specs.Flat.{Tables, flat}
use Rattle.type_proof.specs.Judged.{Accepted, Condition, Returned}
use Rattle.type_proof.proofs.invariant.Invariant.{RunType, heap, Ghost, HaveTypes}
use Rattle.type_proof.proofs.invariant.Growth.{grows_refl, grows_trans}
use Rattle.type_proof.proofs.invariant.After.{After}
use Rattle.type_proof.proofs.invariant.Scopes.{block_ghost, block_memory, runs_block}
use Rattle.type_proof.proofs.invariant.Names.{NameOf, naming}
use Rattle.type_proof.proofs.invariant.Sound.{cells_type, Sound}
use Rattle.type_proof.proofs.Strings.{AreFound}
use Rattle.type_proof.proofs.expressions.Operands.{TellsBy}
use Rattle.type_proof.proofs.expressions.Storing.{runs_converted}
use Rattle.type_proof.proofs.statements.Returning.{HandedOver, handed_over}
use Rattle.type_proof.proofs.invariant.Layouts.{Structs}
use Rattle.type_proof.proofs.expressions.Converting.{converts_some}
use Rattle.type_proof.proofs.Entries.{Invokes}
use Rattle.type_proof.proofs.expressions.Forms.{Denotes, Refuses}
use Rattle.type_proof.proofs.expressions.Applied.{denotes_tells}
use Rattle.type_proof.proofs.expressions.Expressions.{expression_sound}
use Rattle.type_proof.proofs.expressions.Fixed.{EnclosingBelow}
use Rattle.type_proof.proofs.statements.Surroundings.{ResultIs, Surrounds, agrees_here, scene_block, stands_out}
use Rattle.type_proof.proofs.invariant.Standing as standing
use Rattle.type_proof.proofs.invariant.Standing.{Standing, LocalsBelow}
use Rattle.type_proof.proofs.statements.Flows.{WayStands, WaysStand, Leaves}

-- a call of a function gives what any act that is given gives
module _ (n : ℕ) (d : Tables) (world : World) (tables : typing.Tables) (invokes : Invokes n d world tables) (b : ℕ) (gives : RunType) where
  -- an expression that is in order, where these activations' private cells are left alone
  pub denotes_by : (c low : ℕ) (g : Env) (scope : Scope) (f : NameOf → Region) (e : Expression) → (c ≤ low) ⊎ (acts e ≡ [])
      → Surrounds d world tables g scope f gives → (a : Accepted g e)
      → AreFound world.strings (expression_strings e) → Denotes n d g scope f c low a.value (use_of g e) (sense e scope)
  denotes_by c low g scope f e still h a found = expression_sound n d f c low g scope (record {
    invokes = subst (λ (y : World). Invokes n d y g.tables) (sym h.world_is) (subst (λ (y : typing.Tables). Invokes n d world y) (sym h.tables_are) invokes);
    structs = subst (λ (y : World). Structs d y g.tables) (sym h.world_is) (subst (λ (y : typing.Tables). Structs d world y) (sym h.tables_are) h.structs);
    binds = h.binds;
    plain = h.plain;
    functions = h.functions;
    strict = h.strict;
  }) e g.enclosing a.value still (subst (λ (i : Enclosing). EnclosingBelow g.regions.count i) (sym h.inside) tt) a.operands a.members
      (subst (λ (y : World). AreFound y.strings (expression_strings e)) (sym h.world_is) found) a.judged

  pub denotes : (g : Env) (scope : Scope) (f : NameOf → Region) (e : Expression) → Surrounds d world tables g scope f gives → (a : Accepted g e)
      → AreFound world.strings (expression_strings e) → Denotes n d g scope f b b a.value (use_of g e) (sense e scope)
  denotes g scope f e h a found = denotes_by b b g scope f e (inl (omega arith)) h a found

  pub leaves_at_once : (g : Env) (scope : Scope) (f : NameOf → Region) (p : States → Left) (flow : Flow)
      → ((s : States) (w : Ghost) (m : Memory) → Standing d g scope f s w m → WaysStand d gives g scope f (p s) flow w m)
      → Leaves n d gives g scope f b p (give flow)
  leaves_at_once g scope f p flow h = λ s e k w m i x.
      record { by = λ next q. q flow m (record { ghost = w; inv = i; grows = grows_refl k b w m; holds = h s w m x.stands }) }

  pub condition_tells : (g : Env) (scope : Scope) (f : NameOf → Region) (e : Expression) → Surrounds d world tables g scope f gives → Condition g e
      → AreFound world.strings (expression_strings e) → TellsBy n d g scope f b b (use_of g e).look (truth (sense e scope))
  condition_tells g scope f e h c found =
      denotes_tells n d g scope f b b c.accepted.value (use_of g e) (sense e scope) (denotes g scope f e h c.accepted found) c.testable

  -- the ways out of what came into scope
  pub way_out : (g : Env) (scope inner : Scope) (f : NameOf → Region) (r : Region) (o : Option States) (w : Ghost) (m m' : Memory) → inner.locals ≡ scope.locals
      → LocalsBelow g.regions.count g.locals → ((y : Spot) → m'.cells y ≡ m.cells y) → WayStands d g inner (naming f g.regions.count r) o w m
      → WayStands d g scope f o w m'
  way_out g scope inner f r o w m m' same below c h = (
    h.0,
    h.1,
    stands_out d g scope f h.0 r w m m' below c
        (subst (λ (bs : List Binding). standing.AllStand g.tables d (naming f g.regions.count r) g.locals bs h.0 w m) same h.2),
  )

  pub block_out : (g : Env) (scope : Scope) (f : NameOf → Region) (a : ℕ) → LocalsBelow g.regions.count g.locals
      → (l : Left) (flow : Flow) (w2 : Ghost) (m2 : Memory)
      → WaysStand d gives (block_entered g) (record scope { frame = a }) (naming f g.regions.count (Frame a)) l flow w2 m2
      → WaysStand d gives g scope f l flow w2 (with_state m2 (Frame a) Dead)
  block_out g scope f a below l Falls w2 m2 y = way_out g scope (record scope { frame = a }) f (Frame a) l.falls w2 m2 (with_state m2 (Frame a) Dead) refl below
      (λ p. refl) y
  block_out g scope f a below l Breaks w2 m2 y = (
    way_out g scope (record scope { frame = a }) f (Frame a) l.breaks w2 m2 (with_state m2 (Frame a) Dead) refl
        below (λ p. refl) y.0,
    y.1,
  )
  block_out g scope f a below l Continues w2 m2 y = (
    way_out g scope (record scope { frame = a }) f (Frame a) l.continues w2 m2 (with_state m2 (Frame a) Dead)
        refl below (λ p. refl) y.0,
    y.1,
  )
  block_out g scope f a below l (Returns vs) w2 m2 y = y

  -- a block, whose items run in its own scope
  pub leaves_block : (g : Env) (scope : Scope) (f : NameOf → Region) (items : BlockItems) → Surrounds d world tables g scope f gives
      → ((a : ℕ) → Leaves n d gives (block_entered g) (record scope { frame = a }) (naming f g.regions.count (Frame a)) b
      (left_by_items (block_entered g) items) (block_items items (record scope { frame = a })))
      → Leaves n d gives g scope f b (left_by_items (block_entered g) items) (in_block (λ k. block_items items (record scope { frame = k })))
  leaves_block g scope f items h inside = λ s e k w m i x.
      runs_block d n k b w m (λ a. block_items items (record scope { frame = a }))
      (λ flow w' m'. WaysStand d gives (block_entered g) (record scope { frame = m.activations }) (naming f g.regions.count (Frame m.activations))
      (left_by_items (block_entered g) items s) flow w' m')
      (λ flow w' m'. WaysStand d gives g scope f (left_by_items (block_entered g) items s) flow w' m') i
      (λ i1. inside m.activations s e k (block_ghost w m) (block_memory m) i1 (scene_block d world tables g scope f gives b s k w m h i x))
      (λ flow w2 m2 i2 g2 y. block_out g scope f m.activations x.below (left_by_items (block_entered g) items s) flow w2 m2 y)

  -- a result, which is converted to the function's type
  pub leaves_return : (at : ℕ) (g : Env) (scope : Scope) (f : NameOf → Region) (e : Expression) → Surrounds d world tables g scope f gives → Returned g e
      → AreFound world.strings (expression_strings e)
      → Leaves n d gives g scope f b (left_by g (Statement.Return at (Some e)))
      ((sense e scope).value >>= converted scope.world scope.result (sense e scope).shape >>= λ vs. give (Returns vs))
  leaves_return at g scope f e h r found = by z.sound
    where
      a : Accepted g e
      a = r.fitting.accepted

      z : Denotes n d g scope f b b a.value (use_of g e) (sense e scope)
      z = denotes g scope f e h a found

      result : ResultIs g scope f gives r.gives
      result = h.result r.gives r.result

      p : States → Left
      p = left_by g (Statement.Return at (Some e))

      by : Sound n d g scope f b b a.value (use_of g e) z.own (sense e scope) ⊎ Refuses n d g scope f b b (use_of g e)
          → Leaves n d gives g scope f b p ((sense e scope).value >>= converted scope.world scope.result (sense e scope).shape >>= λ vs. give (Returns vs))
      by (inr y) = λ s q. absurd (y.value s q)
      by (inl y) =
          subst (λ (q : Shape). Leaves n d gives g scope f b p
          ((sense e scope).value >>= converted scope.world q (sense e scope).shape >>= λ vs. give (Returns vs))) (sym result.shape)
          (subst (λ (q : Shape). Leaves n d gives g scope f b p
          ((sense e scope).value >>= converted scope.world (shape_of r.gives) q >>= λ vs. give (Returns vs)))
          (sym (y.shape (converts_some g.regions a.value.type r.gives r.fitting.converts r.object)))
          (λ s q k w m i x. runs_converted n d g scope f b b s ((use_of g e).value s).states a.value.type r.gives (sense e scope).value
          (λ vs. give (Returns vs)) k w m
          (λ flow. After d k b w m (λ w' m'. WaysStand d gives g scope f (p s) flow w' m'))
          (agrees_here d world tables g scope f gives h) z.simple r.object r.fitting.converts (y.value (omega arith) s q) i x
          (λ vs w1 m1 i1 g1 typed x1.
          let o : HandedOver d k b w1 m1 vs (cells_type d f r.gives) = handed_over d k b w1 m1 vs (cells_type d f r.gives) i1 typed in
          record {
            by = λ next go. go (Returns vs) m1 (record {
              ghost = o.ghost;
              inv = o.inv;
              grows = grows_trans g1 o.grows;
              holds = subst (λ (t : RunType). HaveTypes d o.ghost (λ c. Rattle.type_proof.proofs.invariant.Invariant.Returned c) vs (flat heap d t)) result.run
                  o.typed;
            });
          })))

  -- an expression, whose value is dropped
  pub leaves_run : (g : Env) (scope : Scope) (f : NameOf → Region) (e : Expression) → Surrounds d world tables g scope f gives → Accepted g e
      → AreFound world.strings (expression_strings e)
      → Leaves n d gives g scope f b (left_by g (Statement.Run e)) ((sense e scope).value >>= λ vs. give Falls)
  leaves_run g scope f e h a found = by z.sound
    where
      z : Denotes n d g scope f b b a.value (use_of g e) (sense e scope)
      z = denotes g scope f e h a found

      by : Sound n d g scope f b b a.value (use_of g e) z.own (sense e scope) ⊎ Refuses n d g scope f b b (use_of g e)
          → Leaves n d gives g scope f b (left_by g (Statement.Run e)) ((sense e scope).value >>= λ vs. give Falls)
      by (inr y) = λ s none. absurd (y.value s none)
      by (inl y) = λ s none k w m i x. record {
        by = λ next q. (y.value (omega arith) s none k w m i x).by (λ vs. next Falls)
            (λ vs m1 z1. q Falls m1 (record { ghost = z1.ghost; inv = z1.inv; grows = z1.grows; holds = (((use_of g e).value s).states, refl, z1.holds.1) }));
      }
