-- Which results go straight into the home of a local, and that lines of a statement and those behind it are so of each way.
use Rattle.std.proofs.Common.{◌≡◌, ℕ, zero, suc, Bool, true, false, List, Option, Some, None, refl, ap, arith}
use Rattle.std.specs.Prelude.{nat_eq, not, ◌&&◌, if◌then◌else◌}
use Rattle.std.proofs.lemmas.Bool.{eqb-true}
use Rattle.core_meaning.specs.Core as core
use Rattle.core_meaning.specs.Core.{Binary, Operation, Apply, Put, Statement, Do, Statements, NoStatements, MoreStatements}
use Rattle.core_lines.specs.declared.line.Line.{Line}
use Rattle.core_lines.specs.Held.{Source, Holding, nth, nth_block, source_of, same_as, comparison_of, number_comparison_of}
use Rattle.core_lines.specs.Straight.{is_arithmetic, home_put, home_put_by, home_put_first, home_of_result, home_of_operation, home_behind, straight_code}
use Rattle.core_lines.specs.Selected.{Surroundings, first_code, later_code}

-- ---- the form of what does

-- an operation on two words, whose result is put into a local of a word with this home
pub record GoesStraight (homes : List (List ℕ)) (hs : List Holding) (s : Statement) (ss : Statements) (home : ℕ) : Type 0 where
  pub o : Binary
  pub t : ℕ
  pub x : ℕ
  pub y : ℕ
  pub out : ℕ
  pub local : ℕ
  pub width : ℕ
  pub others : Statements
  pub first_is : s ≡ Do (Apply o t x y)
  pub next_is : ss ≡ MoreStatements (Do (Put out local width t)) others
  pub computes : is_arithmetic o ≡ true
  pub moves_none : same_as o x y (source_of hs x) (source_of hs y) ≡ None
  pub whole : nat_eq width 1 ≡ false
  pub there : nth (nth_block homes out) local ≡ home

-- a temporary is put into a home
record IsPut (homes : List (List ℕ)) (t : ℕ) (ss : Statements) (home : ℕ) : Type 0 where
  pub out : ℕ
  pub local : ℕ
  pub width : ℕ
  pub others : Statements
  pub is : ss ≡ MoreStatements (Do (Put out local width t)) others
  pub whole : nat_eq width 1 ≡ false
  pub there : nth (nth_block homes out) local ≡ home

none_is_some : (h : ℕ) → 0 ≡ suc h → ⊥
none_is_some h e = omega (arith, e)

put_operation : (homes : List (List ℕ)) (t h : ℕ) (o : Operation) (others : Statements) → home_put homes t o ≡ suc h
    → IsPut homes t (MoreStatements (Do o) others) (suc h)
put_operation homes t h (Put out local width x) others e = by (nat_eq x t) refl (nat_eq width 1) refl e
  where
    by : (same : Bool) → nat_eq x t ≡ same → (byte : Bool) → nat_eq width 1 ≡ byte
        → (if same && not byte then nth (nth_block homes out) local else 0) ≡ suc h → IsPut homes t (MoreStatements (Do (Put out local width x)) others) (suc h)
    by true same false whole e = record {
      out = out;
      local = local;
      width = width;
      others = others;
      is = ap (λ u. MoreStatements (Do (Put out local width u)) others) (eqb-true x t same);
      whole = whole;
      there = e;
    }
    by true same true byte e = absurd (none_is_some h e)
    by false other byte is e = absurd (none_is_some h e)
put_operation homes t h o others e = absurd (none_is_some h e)

put_statement : (homes : List (List ℕ)) (t h : ℕ) (s : Statement) (others : Statements) → home_put_by homes t s ≡ suc h
    → IsPut homes t (MoreStatements s others) (suc h)
put_statement homes t h (Do o) others e = put_operation homes t h o others e
put_statement homes t h s others e = absurd (none_is_some h e)

put_first : (homes : List (List ℕ)) (t h : ℕ) (ss : Statements) → home_put_first homes t ss ≡ suc h → IsPut homes t ss (suc h)
put_first homes t h NoStatements e = absurd (none_is_some h e)
put_first homes t h (MoreStatements s ss) e = put_statement homes t h s ss e

operation_straight : (homes : List (List ℕ)) (hs : List Holding) (o : Operation) (ss : Statements) (h : ℕ) → home_of_operation homes hs o ss ≡ suc h
    → GoesStraight homes hs (Do o) ss (suc h)
operation_straight homes hs (Apply o t x y) ss h e = by (is_arithmetic o) refl (same_as o x y (source_of hs x) (source_of hs y)) refl e
  where
    by : (c : Bool) → is_arithmetic o ≡ c → (same : Option ℕ) → same_as o x y (source_of hs x) (source_of hs y) ≡ same
        → home_of_result c same (home_put_first homes t ss) ≡ suc h → GoesStraight homes hs (Do (Apply o t x y)) ss (suc h)
    by true computes None moves_none e = let put = put_first homes t h ss e in record {
      o = o;
      t = t;
      x = x;
      y = y;
      out = put.out;
      local = put.local;
      width = put.width;
      others = put.others;
      first_is = refl;
      next_is = put.is;
      computes = computes;
      moves_none = moves_none;
      whole = put.whole;
      there = put.there;
    }
    by false compares None none e = absurd (none_is_some h e)
    by c is (Some z) some e = absurd (none_is_some h e)
operation_straight homes hs o ss h e = absurd (none_is_some h e)

pub goes_straight : (homes : List (List ℕ)) (hs : List Holding) (s : Statement) (ss : Statements) (h : ℕ) → home_behind homes hs s ss ≡ suc h
    → GoesStraight homes hs s ss (suc h)
goes_straight homes hs (Do o) ss h e = operation_straight homes hs o ss h e
goes_straight homes hs s ss h e = absurd (none_is_some h e)

-- an arithmetic operation is no comparison
pub compares_none : (o : Binary) (of_x of_y : Option Source) → is_arithmetic o ≡ true → comparison_of o of_x of_y ≡ None
compares_none core.Add of_x of_y is = refl
compares_none core.Subtract of_x of_y is = refl
compares_none core.Multiply of_x of_y is = refl
compares_none core.Divide of_x of_y is = refl
compares_none core.DivideUnsigned of_x of_y is = refl
compares_none core.Remainder of_x of_y is = refl
compares_none core.RemainderUnsigned of_x of_y is = refl
compares_none core.And of_x of_y is = refl
compares_none core.Or of_x of_y is = refl
compares_none core.Xor of_x of_y is = refl
compares_none core.ShiftLeft of_x of_y is = refl
compares_none core.ShiftRight of_x of_y is = refl
compares_none core.ShiftRightUnsigned of_x of_y is = refl
compares_none core.Equal of_x of_y is = absurd (cc is)
compares_none core.NotEqual of_x of_y is = absurd (cc is)
compares_none core.Less of_x of_y is = absurd (cc is)
compares_none core.LessEqual of_x of_y is = absurd (cc is)
compares_none core.LessUnsigned of_x of_y is = absurd (cc is)
compares_none core.LessEqualUnsigned of_x of_y is = absurd (cc is)

-- nor one with a number
pub numbers_none : (o : Binary) (of_x of_y : Option Source) → is_arithmetic o ≡ true → number_comparison_of o of_x of_y ≡ None
numbers_none core.Add of_x of_y is = refl
numbers_none core.Subtract of_x of_y is = refl
numbers_none core.Multiply of_x of_y is = refl
numbers_none core.Divide of_x of_y is = refl
numbers_none core.DivideUnsigned of_x of_y is = refl
numbers_none core.Remainder of_x of_y is = refl
numbers_none core.RemainderUnsigned of_x of_y is = refl
numbers_none core.And of_x of_y is = refl
numbers_none core.Or of_x of_y is = refl
numbers_none core.Xor of_x of_y is = refl
numbers_none core.ShiftLeft of_x of_y is = refl
numbers_none core.ShiftRight of_x of_y is = refl
numbers_none core.ShiftRightUnsigned of_x of_y is = refl
numbers_none core.Equal of_x of_y is = absurd (cc is)
numbers_none core.NotEqual of_x of_y is = absurd (cc is)
numbers_none core.Less of_x of_y is = absurd (cc is)
numbers_none core.LessEqual of_x of_y is = absurd (cc is)
numbers_none core.LessUnsigned of_x of_y is = absurd (cc is)
numbers_none core.LessEqualUnsigned of_x of_y is = absurd (cc is)

-- ---- lines

-- what is so of the lines of either way is so of those that there are
pub first_either : (P : List Line → Type 0) (home : ℕ) (keeps : Bool) (u : Surroundings) (s : Statement) (lines : List Line) → P lines
    → P (straight_code keeps u home s) → P (first_code home keeps u s lines)
first_either P zero keeps u s lines one other = one
first_either P (suc h) keeps u s lines one other = other

pub later_either : (P : List Line → Type 0) (home : ℕ) (all others : List Line) → P all → P others → P (later_code home all others)
later_either P zero all others one other = one
later_either P (suc h) all others one other = other
