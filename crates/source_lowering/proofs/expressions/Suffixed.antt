-- Suffixes on an expression: the indices' temporary objects come before its own.
use Rattle.std.proofs.Common.{◌≡◌, ℕ, ◌+◌, ◌≤◌, List, ◌++◌, length, refl, arith}
use Rattle.cyc_tree.specs.Tree.{Expression, Suffixes}
use Rattle.source_meaning.specs.Steps.{World, Scope}
use Rattle.source_meaning.specs.Expressions.{sense}
use Rattle.source_lowering.specs.Lowered.{Named, Left, left_of, static_shape, suffix_values, expression_values, suffixed_code, expression_code, place_code}
use Rattle.source_lowering.specs.Lowerable.{TakesPlace, Takes, TakesSuffixes, TakesIndices}
use Rattle.source_lowering.proofs.expressions.Variables.{Agrees}
use Rattle.source_lowering.proofs.expressions.Places.{IsPlaced}
use Rattle.source_lowering.proofs.expressions.Numbered.{AreNumbered, numbered_first, numbered_after}
use Rattle.source_lowering.proofs.expressions.Indices.{indices_taken, IndicesAs}
use Rattle.source_lowering.proofs.expressions.Suffixing.{MemberAs, suffixes_shape, suffixes_same}
use Rattle.source_lowering.proofs.expressions.Known.{Known, place_in, IsKnown}

-- what suffixes lead to from an expression: temporary objects of the indices come first
abbrev pub primary_left : World → List Named → Expression → Suffixes → ℕ → Left
primary_left w names primary suffixes own =
    let first = own + length (suffix_values w names suffixes) in
    suffixed_code w names suffixes
    (left_of (static_shape w names primary) (λ e. expression_code w names primary e first) (λ e. place_code w names primary e first)) own

pub left_shape : (w : World) (names : List Named) (primary : Expression) (suffixes : Suffixes) (own : ℕ)
    → (primary_left w names primary suffixes own).shape ≡ static_shape w names (Expression.Suffixed primary suffixes)
left_shape w names primary suffixes own =
    let first = own + length (suffix_values w names suffixes) in
    suffixes_shape suffixes w names
    (left_of (static_shape w names primary) (λ e. expression_code w names primary e first) (λ e. place_code w names primary e first)) own

-- what suffixes lead to, wherever it comes, where what stands on their left and their indices do as their code
pub suffixed_same : (primary : Expression) (suffixes : Suffixes) (scope : Scope) (k : Known)
    → TakesSuffixes scope.world k.names suffixes (static_shape scope.world k.names primary) (Takes scope.world k.names primary)
    (TakesPlace scope.world k.names primary) → IsKnown scope k → (n own : ℕ)
    → AreNumbered k.owned own (suffix_values scope.world k.names suffixes ++ expression_values scope.world k.names primary) → k.kept ≤ own
    → ((first : ℕ) → AreNumbered k.owned first (expression_values scope.world k.names primary) → k.kept ≤ first → Takes scope.world k.names primary → (d : ℕ)
    → Agrees (place_in scope k) n d (sense primary scope) (static_shape scope.world k.names primary) (expression_code scope.world k.names primary d first))
    → ((first : ℕ) → AreNumbered k.owned first (expression_values scope.world k.names primary) → k.kept ≤ first → TakesPlace scope.world k.names primary
    → (d : ℕ) → IsPlaced (place_in scope k) n d (sense primary scope) (static_shape scope.world k.names primary)
    (place_code scope.world k.names primary d first))
    → (TakesIndices scope.world k.names suffixes → AreNumbered k.owned own (suffix_values scope.world k.names suffixes)
    → IndicesAs (place_in scope k) n scope k.names suffixes own)
    → MemberAs (place_in scope k) n (sense (Expression.Suffixed primary suffixes) scope) (primary_left scope.world k.names primary suffixes own)
suffixed_same primary suffixes scope k h known n own numbered less agrees placed indices =
    let shape = static_shape scope.world k.names primary in
    let values = suffix_values scope.world k.names suffixes in
    let first = own + length values in
    let more = numbered_after k.owned own values (expression_values scope.world k.names primary) numbered in
    suffixes_same suffixes scope (place_in scope k) n k.names (sense primary scope) shape (λ e. expression_code scope.world k.names primary e first)
    (λ e. place_code scope.world k.names primary e first) (Takes scope.world k.names primary) (TakesPlace scope.world k.names primary) own refl
    known.world.structs (agrees first more (omega (arith, less))) (placed first more (omega (arith, less))) h
    (indices (indices_taken scope.world k.names suffixes shape (Takes scope.world k.names primary) (TakesPlace scope.world k.names primary) h)
    (numbered_first k.owned own values (expression_values scope.world k.names primary) numbered))
