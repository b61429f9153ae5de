-- A global without fault: an object that has a beginning, or an array of such, whose type names no region but the heap.
use Rattle.std.proofs.Common.{◌≡◌, ℕ, Bool, true, false, Option, Some, None, List, [], ◌∷◌, sym, subst, ap, ◌∙◌}
use Rattle.std.specs.Prelude.{◌&&◌, not}
use Rattle.cyc_tree.specs.Tree as tree
use Rattle.cyc_tree.specs.Tree.{Initial, TypeName}
use Rattle.source_meaning.specs.Programs.{global_shape}
use Rattle.source_meaning.specs.Shapes as shapes
use Rattle.source_meaning.specs.Shapes.{ArrayShape, Shape}
use Rattle.source_typing.specs.Declarations.{what_after, what_of}
use Rattle.source_typing.specs.Faults.{Fault}
use Rattle.source_typing.specs.Globals.{
  count_of,
  fitting_global,
  foreign_names,
  global_entry,
  global_faults,
  global_type,
  has_none,
  if_clean,
  initial_faults,
  typed_size,
}
use Rattle.source_typing.specs.Regions.{TheHeap}
use Rattle.source_typing.specs.Scope.{Env, at_item}
use Rattle.source_typing.specs.Tables.{Arrayed, OfValue, Stored, Tables, has_beginning}
use Rattle.source_typing.specs.Tags.{settled_alone}
use Rattle.source_typing.specs.Types.{StaticType, Void, is_key, shape_of}
use Rattle.source_typing.specs.Verdicts.{Faulty, Of, Unjudged, Verdict, after, faults_of}
use Rattle.source_typing.specs.Written.{RegionNamed, Spot, spots_of, written}
use Rattle.source_typing.proofs.Inversion.{none_of_both}
use Rattle.source_typing.specs.Named.{NamesBelow}
use Rattle.accepted_proof.specs.Good.{Surely}
use Rattle.accepted_proof.proofs.Constants.{InitialGood, initial_good}
use Rattle.accepted_proof.proofs.good.Locals.{IsFitting, fitting_is}
use Rattle.accepted_proof.proofs.good.Pointers.{IsWritten}
use Rattle.accepted_proof.proofs.good.Types.{KnowsTags, scope_written}
use Rattle.accepted_proof.proofs.HeadTypes.{GivesNothing, GivesObject, ObjectGood, PlainGood, alone_good}
use Rattle.accepted_proof.proofs.Sure.{surely_after, surely_also, surely_is}

-- ---- types

-- an object that has a beginning
record VariableGood (g : Tables) (t : TypeName) (u : StaticType) : Type 0 where
  good : ObjectGood 0 t u
  begins : has_beginning g u ≡ true

-- other region names stand for the heap
heap_names : (ss : List Spot) → NamesBelow 0 (foreign_names ss)
heap_names [] = tt
heap_names (s ∷ ss) = by s.written (heap_names ss)
  where
    by : (r : Option tree.RegionName) → NamesBelow 0 (foreign_names ss) → NamesBelow 0 (foreign_names (record s { written = r } ∷ ss))
    by None others = others
    by (Some (tree.Heap at)) others = others
    by (Some (tree.Unique at)) others = others
    by (Some (tree.Named n)) others = (tt, others)

-- the last of three
third : (a b c : Bool) → a && b && c ≡ true → c ≡ true
third true true c e = e
third true false c e = absurd cc
third false b c e = absurd cc

variable_fits : (g : Env) (at : ℕ) (t : TypeName) (count : Option ℕ) (native : Bool) (u : StaticType) → PlainGood 0 t u
    → Surely (λ z. VariableGood g.tables t z) (fitting_global g at count native u)
variable_fits g at t count native u k =
    surely_also (λ z. IsFitting g count (native && not (is_key u) && has_beginning g.tables u) u z) (λ z. VariableGood g.tables t z)
    (fitting_global g at count native u) (fitting_is g at count (native && not (is_key u) && has_beginning g.tables u) u)
    (λ z f. subst (λ y. VariableGood g.tables t y) (sym f.same) (by u k (third native (not (is_key u)) (has_beginning g.tables u) f.fits_it)))
  where
    by : (u : StaticType) → PlainGood 0 t u → has_beginning g.tables u ≡ true → VariableGood g.tables t u
    by u (GivesObject w) e = record { good = w; begins = e }
    by u (GivesNothing v p) e = absurd (no (subst (λ z. has_beginning g.tables z ≡ true) p e))
      where
        no : has_beginning g.tables Void ≡ true → ⊥
        no e = cc

-- what is written, where region names don't matter
plain_good : (g : Tables) (x : tree.Global) → KnowsTags g
    → Surely (λ u. PlainGood 0 x.of u) (after (written g (foreign_names (spots_of g x.of)) x.of) (settled_alone x.of.at))
plain_good g x tags =
    let names : List RegionNamed = foreign_names (spots_of g x.of) in
    surely_after (λ p. IsWritten true 0 x.of p) (λ u. PlainGood 0 x.of u) (written g names x.of) (settled_alone x.of.at)
    (scope_written 0 g names x.of tags (heap_names (spots_of g x.of))) (λ p w. alone_good true 0 x.of.at x.of p w)

type_good : (g : Env) (x : tree.Global) → KnowsTags g.tables → Surely (λ u. VariableGood g.tables x.of u) (global_type g x)
type_good g x tags =
    let names : List RegionNamed = foreign_names (spots_of g.tables x.of) in
    surely_after (λ u. PlainGood 0 x.of u) (λ u. VariableGood g.tables x.of u) (after (written g.tables names x.of) (settled_alone x.of.at))
    (fitting_global g x.of.at (count_of x.initial) (has_none names)) (plain_good g.tables x tags)
    (λ u k. variable_fits g x.of.at x.of (count_of x.initial) (has_none names) u k)

-- ---- all of it

-- by these tables, its name means a variable or an array in the heap
pub record GlobalGood (g : Tables) (i : ℕ) (x : tree.Global) : Type 0 where
  pub type : StaticType
  pub good : ObjectGood 0 x.of type
  pub begins : has_beginning g type ≡ true
  pub initial : InitialGood type x.initial
  pub entry : global_entry (at_item false g i) x ≡ OfValue (what_of TheHeap (count_of x.initial) (Of type))

pub global_good : (g : Tables) (i : ℕ) (x : tree.Global) → KnowsTags g → global_faults (at_item false g i) x ≡ []
    → GlobalGood g i x
global_good g i x tags p =
    let s : Env = at_item false g i in
    let q : (faults_of (global_type s x) ≡ []) × (initial_faults s x.initial (global_type s x) ≡ []) =
    none_of_both (faults_of (global_type s x)) (initial_faults s x.initial (global_type s x)) p in
    let u : (t : StaticType) × (global_type s x ≡ Of t) × VariableGood g x.of t =
    surely_is (λ t. VariableGood g x.of t) (global_type s x) (type_good s x tags) q.0 in
    let c : initial_faults s x.initial (Of u.0) ≡ [] = subst (λ v. initial_faults s x.initial v ≡ []) u.1 q.1 in
    record {
      type = u.0;
      good = u.2.good;
      begins = u.2.begins;
      initial = initial_good s x.initial u.0 u.2.good.object c;
      entry = ap (λ (fs : List Fault). OfValue (what_after fs (what_of TheHeap (count_of x.initial) (global_type s x)))) p
          ∙ ap (λ (v : Verdict StaticType). OfValue (what_of TheHeap (count_of x.initial) v)) u.1;
    }

-- ---- shapes

-- the shape of a global, or of an array of so many elements
abbrev pub counted_shape : Option ℕ → Shape → Shape
counted_shape None s = s
counted_shape (Some n) s = ArrayShape n s

-- its shape is the one of its type, or of an array of such
pub shape_here : (h : Tables) (i : ℕ) (x : tree.Global) (k : GlobalGood h i x)
    → global_shape x.initial (shapes.settled (shapes.written x.of)) ≡ counted_shape (count_of x.initial) (shape_of k.type)
shape_here h i x k = by x.initial
  where
    by : (i : Initial) → global_shape i (shapes.settled (shapes.written x.of)) ≡ counted_shape (count_of i) (shape_of k.type)
    by Initial.Unset = k.good.shape
    by (Initial.Elements n) = ap (λ (s : Shape). ArrayShape n s) k.good.shape
    by (Initial.Given c) = k.good.shape

-- ---- sizes

-- what its name means tells that it is without fault, and its type
pub size_by_entry : (g : Env) (x : tree.Global) (t : StaticType) (fs : List Fault) (o : Option ℕ) (v : Verdict StaticType)
    → OfValue (what_after fs (what_of TheHeap o v)) ≡ OfValue (what_of TheHeap o (Of t)) → if_clean fs (typed_size g x v) ≡ typed_size g x (Of t)
size_by_entry g x t [] None (Of u) e = ap (λ z. typed_size g x (Of z)) (same u e)
  where
    same : (u : StaticType) → OfValue (Stored u TheHeap) ≡ OfValue (Stored t TheHeap) → u ≡ t
    same u e = cc
size_by_entry g x t [] (Some m) (Of u) e = ap (λ z. typed_size g x (Of z)) (same u e)
  where
    same : (u : StaticType) → OfValue (Arrayed u TheHeap) ≡ OfValue (Arrayed t TheHeap) → u ≡ t
    same u e = cc
size_by_entry g x t [] None (Faulty f fs) e = absurd cc
size_by_entry g x t [] None Unjudged e = absurd cc
size_by_entry g x t [] (Some m) (Faulty f fs) e = absurd cc
size_by_entry g x t [] (Some m) Unjudged e = absurd cc
size_by_entry g x t (f ∷ fs) None v e = absurd cc
size_by_entry g x t (f ∷ fs) (Some m) v e = absurd cc
