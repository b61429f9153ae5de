-- What is known where an expression is judged, and what prefixes denote.
use Rattle.std.proofs.Common.{◌≡◌, ℕ, true, false, Some, List, [], ◌∷◌, refl, ◌∙◌, ap}
use Rattle.std.specs.Prelude.{◌&&◌, not, ◌++◌, ◌^◌, ◌-◌}
use Rattle.cyc_tree.specs.Operands.{AreSome}
use Rattle.cyc_tree.specs.Tree as tree
use Rattle.cyc_tree.specs.Tree.{Expression, Expressions, NoExpressions, MoreExpressions}
use Rattle.cyc_tree.specs.declared.expression.Operator.TheVariants.{Subtract, BitXor}
use Rattle.cyc_tree.specs.declared.expression.Prefix.{Prefix}
use Rattle.cyc_tree.specs.declared.expression.Prefix.TheVariants as prefix
use Rattle.source_meaning.specs.Memory.{Region, IntegerType, AsInt, AsUnsigned, AsChar}
use Rattle.source_meaning.specs.Steps.{Scope}
use Rattle.source_meaning.specs.Places.{Sense}
use Rattle.source_meaning.specs.Calls.{truth, inverted}
use Rattle.source_meaning.specs.Calls as calls
use Rattle.source_meaning.specs.Expressions.{is_unique_region}
use Rattle.source_typing.specs.Verdicts.{Verdict, Of, after, if_fits}
use Rattle.source_typing.specs.Making.{with_counter}
use Rattle.source_typing.specs.Operators as rules
use Rattle.source_typing.specs.Operators.{applied_to}
use Rattle.source_typing.specs.Places as places
use Rattle.source_typing.specs.Scope.{Env, Enclosing, Value, Seat, Nowhere, In, InBlock, value, meant}
use Rattle.source_typing.specs.Tables.{OfFunction, Signature, find}
use Rattle.source_typing.specs.Types.{StaticType, Int, is_integer, is_testable, is_unique, integer_type}
use Rattle.source_typing.specs.Flow.{use_of, use_all}
use Rattle.source_typing.specs.Moves.{Use, nothing, prefixed_use, is_moved, is_unique_value, in_block}
use Rattle.source_typing.specs.States.{States, Passed, passed}
use Rattle.type_proof.specs.Flat.{Tables}
use Rattle.type_proof.proofs.invariant.Layouts.{Structs}
use Rattle.type_proof.proofs.invariant.Names.{NameOf}
use Rattle.type_proof.proofs.invariant.Scenes.{Binds}
use Rattle.type_proof.proofs.expressions.Operands.{tells_not}
use Rattle.type_proof.proofs.expressions.Testing.{AllTell}
use Rattle.type_proof.proofs.expressions.Calling.{all_values}
use Rattle.type_proof.proofs.expressions.Fixed.{within}
use Rattle.type_proof.proofs.Entries.{MeansPlain, Invokes}
use Rattle.type_proof.proofs.expressions.Counters.{counted_scope, counter_binds, counter_means, counter_functions}
use Rattle.type_proof.proofs.expressions.WordRules.{Valued, fitted}
use Rattle.type_proof.proofs.expressions.Forms.{Denotes, uncopied_type, whole_is}
use Rattle.type_proof.proofs.expressions.Contents.{denotes_contents, denotes_address}
use Rattle.type_proof.proofs.expressions.Applied.{denotes_signed, denotes_tested, denotes_tells}

-- the unique region is looked at without a word
pub unique_used : (g : Env) (e : Expression) → is_unique_region e ≡ true → (s : States) → (use_of g e).look s ≡ nothing s
unique_used g (Expression.UniqueRegion at) h s = refl
unique_used g (Expression.Grouped at e) h s = unique_used g e h s
unique_used g (Expression.Number at k suffix) h s = absurd cc
unique_used g (Expression.Character at byte) h s = absurd cc
unique_used g (Expression.Text at bytes) h s = absurd cc
unique_used g (Expression.Null at) h s = absurd cc
unique_used g (Expression.HeapRegion at) h s = absurd cc
unique_used g (Expression.Variable x) h s = absurd cc
unique_used g (Expression.Call x es) h s = absurd cc
unique_used g (Expression.MakeUnion tag f e) h s = absurd cc
unique_used g (Expression.NumElts at e) h s = absurd cc
unique_used g (Expression.Suffixed e es) h s = absurd cc
unique_used g (Expression.Prefixed at o e) h s = absurd cc
unique_used g (Expression.New at new) h s = absurd cc
unique_used g (Expression.NewIn at x new) h s = absurd cc
unique_used g (Expression.Chain e es) h s = absurd cc
unique_used g (Expression.AllOf e es) h s = absurd cc
unique_used g (Expression.AnyOf e es) h s = absurd cc
unique_used g (Expression.Assign to from) h s = absurd cc

-- ---- what arguments do to the states

abbrev pub uses : Env → Expressions → List Use
uses g NoExpressions = []
uses g (MoreExpressions e es) = use_of g e ∷ uses g es

pub as_values : (g : Env) (es : Expressions) (s : States) → all_values (uses g es) s ≡ use_all g es s
as_values g NoExpressions s = refl
as_values g (MoreExpressions e es) s =
    ap (λ (p : Passed). passed (((use_of g e).value s).faults ++ p.faults) p.states) (as_values g es ((use_of g e).value s).states)

-- ---- all forms

-- what is known of a scope in which expressions are judged
pub record Setting (n : ℕ) (d : Tables) (g : Env) (scope : Scope) (f : NameOf → Region) : Type 0 where
  pub invokes : Invokes n d scope.world g.tables
  pub structs : Structs d scope.world g.tables
  pub binds : Binds g scope f
  pub plain : MeansPlain scope.world g
  pub functions : (x : List ℕ) (s : Signature) → meant g x ≡ Some (OfFunction s) → find g.tables x ≡ Some (OfFunction s)
  pub strict : g.lenient ≡ false

-- with the index of an array's elements in scope
pub setting_counted : (n : ℕ) (d : Tables) (g : Env) (scope : Scope) (f : NameOf → Region) (x : tree.Name) (k : ℕ) → Setting n d g scope f
    → Setting n d (with_counter x g) (counted_scope g scope f x k) f
setting_counted n d g scope f x k s = record {
  invokes = s.invokes;
  structs = s.structs;
  binds = counter_binds g scope f x k s.binds;
  plain = counter_means g scope f x k scope.world s.plain;
  functions = counter_functions g scope f x k s.functions;
  strict = s.strict;
}

module _ (n : ℕ) (d : Tables) (g : Env) (scope : Scope) (f : NameOf → Region) (b : ℕ) (low : ℕ) (setting : Setting n d g scope f) where
  -- operands that are tested, from the second on
  pub record Tested (i : Enclosing) (a v : Value) (es : Expressions) : Type 0 where
    pub others : AllTell n d g scope f b low i es
    pub valued : Valued a Int → Valued v Int
    pub some : AreSome es → (is_testable a.type ≡ true) × Valued v Int

  -- a prefix
  pub prefixed_sound : (i : Enclosing) (at : ℕ) (p : Prefix) (e : Sense) (a v : Value) (u : Use) (y : Verdict Value) → y ≡ Of a
      → Denotes n d g scope f b low a u e
      → rules.prefixed (within i g) at p a ≡ Of v → Denotes n d g scope f b low v (prefixed_use (within i g) at p y u) (calls.prefixed scope.world p e)
  prefixed_sound i at prefix.Negate e a v u y same h j = denotes_signed n d g scope f b low i setting.strict Subtract at 0 a v u e by h j
    where
      by : (s : IntegerType) → applied_to (within i g) Subtract at Int (integer_type s)
          ≡ after (if_fits (is_integer (integer_type s)) at (rules.promoted (integer_type s))) (value at)
      by AsInt = refl
      by AsUnsigned = refl
      by AsChar = refl
  prefixed_sound i at prefix.Complement e a v u y same h j = denotes_signed n d g scope f b low i setting.strict BitXor at (2 ^ 32 - 1) a v u e by h j
    where
      by : (s : IntegerType) → applied_to (within i g) BitXor at Int (integer_type s)
          ≡ after (if_fits (is_integer (integer_type s)) at (rules.promoted (integer_type s))) (value at)
      by AsInt = refl
      by AsUnsigned = refl
      by AsChar = refl
  prefixed_sound i at prefix.Not e a v u y same h j =
      let r : (is_testable a.type ≡ true) × Valued v Int = fitted (is_testable a.type) at at Int v j in
      denotes_tested n d g scope f b low v u.look (inverted (truth e)) r.1
      (λ s z. tells_not n d g scope f b low s (u.look s).states (truth e) (denotes_tells n d g scope f b low a u e h r.0 s z))
  prefixed_sound i at prefix.Dereference e a v u y same h j =
      denotes_contents n d g scope f b low i setting.strict setting.structs at at
      (is_moved (within i g) (after y (places.contents (within i g) at)))
      (is_unique_value y && not u.whole) a v u e
      (uncopied_type (within i g) (after y (places.contents (within i g) at)) v
      (ap (λ (q : Verdict Value). after q (places.contents (within i g) at)) same ∙ j))
      (λ q c t z. whole_is (is_unique_value y) u.whole (ap is_unique_value same ∙ ap is_unique z) q) h j
  prefixed_sound i at prefix.AddressOf e a v u y same h j = denotes_address n d g scope f b low at at (in_block y) a v u e
      (λ z. ap in_block same ∙ block_is a.at a.type a.seat z) h j
    where
      block_is : (place : ℕ) (t : StaticType) (s : Seat) → s ≡ InBlock → in_block (Of (record { at = place; type = t; seat = s })) ≡ true
      block_is place t Nowhere z = absurd cc
      block_is place t (In r) z = absurd cc
      block_is place t InBlock z = refl
