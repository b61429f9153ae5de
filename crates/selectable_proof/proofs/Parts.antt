-- The code of an expression's own part names locals of the blocks around it and globals, where its names and the program's globals lie there.
use Rattle.std.proofs.Common.{ℕ, ◌+◌, ◌%◌, ◌^◌, ◌<◌, List, [], ◌∷◌, ◌++◌, Bool, true, false, Option, Some, None, arith}
use Rattle.std.specs.Prelude.{bytes_eq, codes, if◌then◌else◌}
use Rattle.cyc_tree.specs.declared.expression.Operator.{Operator}
use Rattle.cyc_tree.specs.declared.expression.Prefix.{Prefix}
use Rattle.cyc_tree.specs.declared.expression.Prefix.TheVariants as prefix
use Rattle.cyc_tree.specs.declared.expression.Operator.TheVariants as operator
use Rattle.source_meaning.specs.Shapes.{Reach, MayBeNull, NeverNull, Shape, IntShape, CharShape, ThinShape, FatShape, ArrayShape, pointee}
use Rattle.source_meaning.specs.Memory.{IntegerType}
use Rattle.source_meaning.specs.Steps.{Entity, Variable, Binding, World, Routine}
use Rattle.source_meaning.specs.Places.{bound_to}
use Rattle.source_meaning.specs.Calls.{function_of}
use Rattle.core_meaning.specs.Core.{Operation, Statement, Do, IsNull, SamePlace, Getchar, Putchar}
use Rattle.core_meaning.specs.Selectable.{IsLocal}
use Rattle.source_lowering.specs.Members.{null_check, words_in}
use Rattle.source_lowering.specs.Operators.{enough_code}
use Rattle.source_lowering.specs.Lowered.{Named, local_named, number_of, get_local, load_global, stored_code, get_by, put_by, address_by, reach_code}
use Rattle.source_lowering.specs.Lowered.{loads_code, narrow_code, to_fat_code, to_thin_code, thinned_code, conversion_code, type_of, applied_to}
use Rattle.source_lowering.specs.Lowered.{compared_code, fat_code, operator_code, count_code, word_code, not_code, prefix_code, pointed_code, function_call}
use Rattle.source_lowering.specs.Lowered.{call_code, Home, InBlock, get_home, put_home, home_address}
use Rattle.source_lowering.specs.Lowered.{element_names}
use Rattle.source_lowering.specs.Programs.{further_out, outward}
use Rattle.source_lowering.specs.Lowerable.{IsTarget, TakesPrefix, TakesPointer}
use Rattle.source_lowering.proofs.expressions.Names.{AreObjectNames, IsPlainWorld}
use Rattle.source_lowering.proofs.statements.Blocks.{objects_outward}
use Rattle.selectable_proof.specs.Naming.{NamesIn, CodeNames}
use Rattle.selectable_proof.proofs.Naming.{both_name, all_name}
use Rattle.selectable_proof.proofs.Texts.{TextsLie}
use Rattle.selectable_proof.proofs.Pointers.{loads_names, stores_names, check_names, bounds_names, enough_names, reach_names}

-- ---- names in scope

abbrev pub HomeLies : List ℕ → Home → Type 0
HomeLies blocks (InBlock out index) = IsLocal blocks out index

abbrev pub LocalLies : List ℕ → Option Named → Type 0
LocalLies blocks None = Unit {0}
LocalLies blocks (Some l) = HomeLies blocks l.home

-- each of them is a local of the blocks around
abbrev pub LocalsLie : List ℕ → List Named → Type 0
LocalsLie blocks [] = Unit {0}
LocalsLie blocks (l ∷ ls) = HomeLies blocks l.home × LocalsLie blocks ls

abbrev pub GlobalLies : ℕ → Option Entity → Type 0
GlobalLies n None = Unit {0}
GlobalLies n (Some (Variable s at)) = at.object < n

-- each variable among them is one of the first objects
abbrev pub GlobalsLie : ℕ → List Binding → Type 0
GlobalsLie n [] = Unit {0}
GlobalsLie n (b ∷ bs) = GlobalLies n (Some b.entity) × GlobalsLie n bs

pub local_lies : (blocks : List ℕ) (ls : List Named) (name : List ℕ) → LocalsLie blocks ls → LocalLies blocks (local_named ls name)
local_lies blocks [] name h = tt
local_lies blocks (l ∷ ls) name h = by (bytes_eq l.name name) (local_lies blocks ls name h.1)
  where
    by : (t : Bool) → LocalLies blocks (local_named ls name) → LocalLies blocks (if t then Some l else local_named ls name)
    by true others = h.0
    by false others = others

pub global_lies : (n : ℕ) (bs : List Binding) (name : List ℕ) → GlobalsLie n bs → GlobalLies n (bound_to bs name)
global_lies n [] name h = tt
global_lies n (b ∷ bs) name h = by (bytes_eq b.name name) (global_lies n bs name h.1)
  where
    by : (t : Bool) → GlobalLies n (bound_to bs name) → GlobalLies n (if t then Some b.entity else bound_to bs name)
    by true others = h.0
    by false others = others

-- what is around code: the blocks' locals, the names in scope, the globals, strings and functions
pub record Around (blocks : List ℕ) (objects : ℕ) (w : World) (names : List Named) : Type 0 where
  pub locals : LocalsLie blocks names
  pub globals : GlobalsLie objects w.globals
  pub texts : TextsLie objects w.strings
  pub words : AreObjectNames w.unions w.structs names
  pub plain : IsPlainWorld w

-- ---- names further in

pub outward_lie : (blocks : List ℕ) (k : ℕ) (ls : List Named) → LocalsLie blocks ls → LocalsLie (k ∷ blocks) (outward ls)
outward_lie blocks k [] h = tt
outward_lie blocks k (l ∷ ls) h = (by l.home h.0, outward_lie blocks k ls h.1)
  where
    by : (home : Home) → HomeLies blocks home → HomeLies (k ∷ blocks) (further_out home)
    by (InBlock out index) lies = lies

pub further_in : (blocks : List ℕ) (n k : ℕ) (w : World) (names : List Named) → Around blocks n w names → Around (k ∷ blocks) n w (outward names)
further_in blocks n k w names a = record {
  locals = outward_lie blocks k names a.locals;
  globals = a.globals;
  texts = a.texts;
  words = objects_outward w.unions w.structs names a.words;
  plain = a.plain;
}

-- the names in an array's elements, in the block of their index
pub index_around : (blocks : List ℕ) (n : ℕ) (w : World) (names : List Named) (index : List ℕ) → Around blocks n w names
    → Around (1 ∷ blocks) n w (element_names index names)
index_around blocks n w names index a =
    let out = further_in blocks n 1 w names a in
    record {
      locals = (omega arith, out.locals);
      globals = out.globals;
      texts = out.texts;
      words = (tt, out.words);
      plain = out.plain;
    }

-- ---- variables

module _ (blocks : List ℕ) (own n : ℕ) where
  local_read : (s : Shape) (d out index : ℕ) → IsLocal blocks out index → CodeNames blocks own n (get_local s d out index)
  local_read (ArrayShape count of) d out index h = (h, bounds_names blocks own n d count)
  local_read (FatShape to) d out index h = (h, loads_names blocks own n (FatShape to) d 0 0)
  local_read _ d out index h = (h, tt)

  global_read : (s : Shape) (d object : ℕ) → object < n → CodeNames blocks own n (load_global s d object)
  global_read (ArrayShape count of) d object h = (h, bounds_names blocks own n d count)
  global_read s d object h = (h, loads_names blocks own n s d 0 0)

  pub stored_local : (s : Shape) (address d out index : ℕ) → IsLocal blocks out index → CodeNames blocks own n (stored_code s address d out index)
  stored_local (FatShape to) address d out index h = (h, stores_names blocks own n (FatShape to) address d 0 0)
  stored_local _ address d out index h = (h, tt)

  pub get_names : (d : ℕ) (l : Option Named) (e : Option Entity) → LocalLies blocks l → GlobalLies n e → CodeNames blocks own n (get_by l e d)
  get_names d (Some l) e h g = by l.home h
    where
      by : (home : Home) → HomeLies blocks home → CodeNames blocks own n (get_home l.shape home d)
      by (InBlock out index) lies = local_read l.shape d out index lies
  get_names d None (Some (Variable s at)) h g = global_read s d at.object g
  get_names d None None h g = tt

  pub put_names : (d : ℕ) (l : Option Named) (e : Option Entity) → LocalLies blocks l → GlobalLies n e → CodeNames blocks own n (put_by l e d)
  put_names d (Some l) e h g = by l.home h
    where
      by : (home : Home) → HomeLies blocks home → CodeNames blocks own n (put_home l.shape home d)
      by (InBlock out index) lies = stored_local l.shape (d + words_in l.shape) d out index lies
  put_names d None (Some (Variable s at)) h g = (g, stores_names blocks own n s (d + words_in s) d 0 0)
  put_names d None None h g = tt

  pub address_names : (d : ℕ) (l : Option Named) (e : Option Entity) → LocalLies blocks l → GlobalLies n e → CodeNames blocks own n (address_by l e d)
  address_names d (Some l) e h g = by l.home h
    where
      by : (home : Home) → HomeLies blocks home → CodeNames blocks own n (home_address home d)
      by (InBlock out index) lies = (lies, tt)
  address_names d None (Some (Variable s at)) h g = (g, tt)
  address_names d None None h g = tt

  -- ---- conversions

  narrow_names : (from : Shape) (d : ℕ) → CodeNames blocks own n (narrow_code from d)
  narrow_names CharShape d = tt
  narrow_names _ d = (tt, tt)

  to_fat_names : (from : Shape) (d : ℕ) → CodeNames blocks own n (to_fat_code from d)
  to_fat_names (ThinShape (NeverNull count) owner to) d = bounds_names blocks own n d (count % 2 ^ 32)
  to_fat_names (ThinShape (MayBeNull count) owner to) d = (((tt, tt), (tt, tt)), (tt, tt))
  to_fat_names _ d = tt

  module _ (w : World) (plain : IsPlainWorld w) where
    to_thin_names : (bound : Reach) (to : Shape) (d : ℕ) → IsTarget to → CodeNames blocks own n (to_thin_code w bound to d)
    to_thin_names (NeverNull count) to d h =
        both_name blocks own n (null_check d) (enough_code w (count % 2 ^ 32) to d) ((tt, (tt, tt)), tt)
        (enough_names blocks own n w plain (count % 2 ^ 32) to d h)
    to_thin_names (MayBeNull count) to d h =
        let code : List Statement = enough_code w (count % 2 ^ 32) to d in
        ((all_name blocks own n code (enough_names blocks own n w plain (count % 2 ^ 32) to d h), tt), tt)

    thinned_names : (bound : Reach) (to from : Shape) (d : ℕ) → IsTarget to → CodeNames blocks own n (thinned_code w bound to from d)
    thinned_names bound to (FatShape of) d h = to_thin_names bound to d h
    thinned_names (NeverNull count) to from d h = check_names blocks own n from d
    thinned_names (MayBeNull count) to from d h = tt

    pub conversion_names : (to from : Shape) (d : ℕ) → IsTarget to → CodeNames blocks own n (conversion_code w to from d)
    conversion_names CharShape from d h = narrow_names from d
    conversion_names (ThinShape bound owner to) from d h = thinned_names bound to from d h
    conversion_names (FatShape to) from d h = to_fat_names from d
    conversion_names _ from d h = tt

  -- ---- operators

  applied_names : (o : Operator) (s u : IntegerType) (d x y : ℕ) → NamesIn blocks own n (applied_to o s u d x y)
  applied_names operator.BitOr s u d x y = tt
  applied_names operator.BitXor s u d x y = tt
  applied_names operator.BitAnd s u d x y = tt
  applied_names operator.Equal s u d x y = tt
  applied_names operator.NotEqual s u d x y = tt
  applied_names operator.Less s u d x y = tt
  applied_names operator.LessEqual s u d x y = tt
  applied_names operator.Greater s u d x y = tt
  applied_names operator.GreaterEqual s u d x y = tt
  applied_names operator.ShiftLeft s u d x y = tt
  applied_names operator.ShiftRight s u d x y = tt
  applied_names operator.Add s u d x y = tt
  applied_names operator.Subtract s u d x y = tt
  applied_names operator.Multiply s u d x y = tt
  applied_names operator.Divide s u d x y = tt
  applied_names operator.Remainder s u d x y = tt

  compared_names : (o : Operator) (same : Operation) (d : ℕ) → NamesIn blocks own n same → CodeNames blocks own n (compared_code o same d)
  compared_names operator.Equal same d h = (h, tt)
  compared_names operator.NotEqual same d h = (h, (tt, (tt, tt)))
  compared_names _ same d h = tt

  fat_names : (o : Operator) (d : ℕ) → CodeNames blocks own n (fat_code o d)
  fat_names operator.Add d = (tt, tt)
  fat_names operator.Subtract d = (tt, tt)
  fat_names o d = compared_names o (IsNull d d) d tt

  pub operator_names : (o : Operator) (s u : Shape) (d : ℕ) → CodeNames blocks own n (operator_code o s u d)
  operator_names o (FatShape to) u d = fat_names o d
  operator_names o (ThinShape may_be_null owner to) (FatShape of) d = compared_names o (IsNull d (d + 1)) d tt
  operator_names o (ThinShape may_be_null owner to) u d = compared_names o (SamePlace d d (d + 1)) d tt
  operator_names o s u d = (applied_names o (type_of s) (type_of u) d d (d + 1), tt)

  pub count_names : (d : ℕ) → CodeNames blocks own n (count_code d)
  count_names d = (tt, (tt, (tt, tt)))

  pub word_names : (s : Shape) (d : ℕ) → CodeNames blocks own n (word_code s d)
  word_names (ThinShape may_be_null owner to) d = (tt, (tt, (tt, tt)))
  word_names (FatShape to) d = (tt, (tt, (tt, tt)))
  word_names _ d = tt

  not_names : (s : Shape) (d : ℕ) → CodeNames blocks own n (not_code s d)
  not_names (ThinShape may_be_null owner to) d = (tt, tt)
  not_names (FatShape to) d = (tt, tt)
  not_names _ d = (tt, (tt, tt))

  -- an operator on an operand that is taken as a value, or as a place
  module _ (w : World) (plain : IsPlainWorld w) where
    pub prefix_names : (o : Prefix) (s : Shape) (d : ℕ) (above here place : List Statement) (value pointed : Type 0) → TakesPrefix o s value pointed
        → (value → IsTarget s) → (value → CodeNames blocks own n above) → (value → CodeNames blocks own n here)
        → (pointed → CodeNames blocks own n place) → CodeNames blocks own n (prefix_code w o s d above here place)
    prefix_names prefix.Negate s d above here place value pointed takes t h g p =
        (tt, both_name blocks own n above (operator_code operator.Subtract IntShape s d) (h takes) (operator_names operator.Subtract IntShape s d))
    prefix_names prefix.Complement s d above here place value pointed takes t h g p =
        (tt, both_name blocks own n above (operator_code operator.BitXor IntShape s d) (h takes) (operator_names operator.BitXor IntShape s d))
    prefix_names prefix.Not s d above here place value pointed takes t h g p = both_name blocks own n above (not_code s d) (h takes) (not_names s d)
    prefix_names prefix.Dereference s d above here place value pointed takes t h g p =
        both_name blocks own n (here ++ reach_code w s d) (loads_code (pointee s) d 0 0)
        (both_name blocks own n here (reach_code w s d) (g takes.0) (reach_names blocks own n w plain s d (t takes.0)))
        (loads_names blocks own n (pointee s) d 0 0)
    prefix_names prefix.AddressOf s d above here place value pointed takes t h g p = p takes

    pub pointed_names : (o : Prefix) (s : Shape) (d : ℕ) (here : List Statement) (value : Type 0) → TakesPointer o value → (value → IsTarget s)
        → (value → CodeNames blocks own n here) → CodeNames blocks own n (pointed_code w o s d here)
    pointed_names prefix.Dereference s d here value takes t h =
        both_name blocks own n here (reach_code w s d) (h takes) (reach_names blocks own n w plain s d (t takes))
    pointed_names _ s d here value takes t h = absurd takes

  -- ---- calls

  pub call_names : (w : World) (name : List ℕ) (count d : ℕ) → CodeNames blocks own n (call_code w name count d)
  call_names w name count d = by (bytes_eq name (codes "getchar")) (bytes_eq name (codes "putchar")) (function_of w.functions name)
    where
      by : (reads writes : Bool) (r : Option Routine) → CodeNames blocks own n (if reads then Do (Getchar d) ∷ [] else
          (if writes then Do (Putchar d d) ∷ [] else function_call r (number_of w.functions name) count d))
      by true writes r = (tt, tt)
      by false true r = (tt, tt)
      by false false None = tt
      by false false (Some r) = (tt, tt)
