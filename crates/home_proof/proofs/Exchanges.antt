-- The sides of an exchange: a word is reached by its name, and what is reached by its place is no word.
use Rattle.std.proofs.Common.{◌≡◌, ℕ, List, [], ◌∷◌, true, false, Option, Some, None, refl, sym, ◌∙◌}
use Rattle.std.proofs.Math.Bool.{and-false}
use Rattle.std.specs.Prelude.{◌||◌, ◌&&◌, not, nat_eq}
use Rattle.cyc_tree.specs.Tree.{Expression}
use Rattle.source_meaning.specs.Shapes.{Shape, FatShape, StructShape, UnionShape, ArrayShape}
use Rattle.source_meaning.specs.Steps.{Entity, Variable, World}
use Rattle.source_meaning.specs.Places.{bound_to}
use Rattle.core_meaning.specs.Core.{Do, LocalAddress}
use Rattle.source_lowering.specs.Lowered.{Home, InBlock, Named, address_by, home_address, local_named, place_code}
use Rattle.source_lowering.specs.Programs.{home_side, local_side, named_side, side_code, side_of}
use Rattle.source_lowering.specs.Lowerable.{TakesPlace}
use Rattle.home_proof.specs.Arguments.{HasArguments}
use Rattle.home_proof.specs.Names.{is_word, pointed}
use Rattle.home_proof.specs.Numbered.{expression_flags}
use Rattle.home_proof.proofs.Codes.{addresses, flags_of}
use Rattle.home_proof.proofs.Leads.{Does, at_home, is_word_at}
use Rattle.home_proof.proofs.Variables.{elsewhere}
use Rattle.home_proof.proofs.Expressions.{place_does}

local_flags : (s : Shape) (o i d : ℕ) → flags_of (side_code (local_side s o i) (Do (LocalAddress d o i) ∷ [])) ≡ []
local_flags (StructShape tag) o i d = refl
local_flags (UnionShape tag) o i d = refl
local_flags (FatShape to) o i d = refl
local_flags (ArrayShape count of) o i d = refl
local_flags _ o i d = refl

local_free : (s : Shape) (o i d out index : ℕ) → (not (nat_eq o out && nat_eq i index) || is_word s) ≡ true
    → addresses out index (side_code (local_side s o i) (Do (LocalAddress d o i) ∷ [])) ≡ false
local_free (StructShape tag) o i d out index h = elsewhere (nat_eq o out && nat_eq i index) h
local_free (UnionShape tag) o i d out index h = elsewhere (nat_eq o out && nat_eq i index) h
local_free (FatShape to) o i d out index h = elsewhere (nat_eq o out && nat_eq i index) h
local_free (ArrayShape count of) o i d out index h = elsewhere (nat_eq o out && nat_eq i index) h
local_free _ o i d out index h = refl

side_flags : (l : Option Named) (e : Option Entity) (d : ℕ) → flags_of (side_code (named_side l) (address_by l e d)) ≡ []
side_flags (Some l) e d = by l.home
  where
    by : (h : Home) → flags_of (side_code (home_side l.shape h) (home_address h d)) ≡ []
    by (InBlock o i) = local_flags l.shape o i d
side_flags None (Some (Variable s at)) d = refl
side_flags None None d = refl

side_free : (l : Option Named) (e : Option Entity) (d out index : ℕ) → is_word_at out index l ≡ true
    → addresses out index (side_code (named_side l) (address_by l e d)) ≡ false
side_free (Some l) e d out index h = by l.home h
  where
    by : (home : Home) → (not (at_home home out index) || is_word l.shape) ≡ true
        → addresses out index (side_code (home_side l.shape home) (home_address home d)) ≡ false
    by (InBlock o i) h = local_free l.shape o i d out index h
side_free None (Some (Variable s at)) d out index h = refl
side_free None None d out index h = refl

pub side_does : (w : World) (names : List Named) (e : Expression) (d next : ℕ) → TakesPlace w names e → HasArguments w e
    → Does names (side_code (side_of names e) (place_code w names e d next)) (λ n. pointed n e) (expression_flags e)
side_does w names (Expression.Variable name) d next h g = record {
  flagged = side_flags (local_named names name.text) (bound_to w.globals name.text) d;
  pointed = λ out index n visible l.
      side_free (local_named names name.text) (bound_to w.globals name.text) d out index (l.word name.text) ∙ sym (and-false visible);
}
side_does w names (Expression.Grouped at inner) d next h g = side_does w names inner d next h g
side_does w names (Expression.Prefixed at operator operand) d next h g = place_does w names (Expression.Prefixed at operator operand) d next h g
side_does w names (Expression.Suffixed primary suffixes) d next h g = place_does w names (Expression.Suffixed primary suffixes) d next h g
side_does w names _ d next h g = absurd h
