-- The greatest depth of a part's phrases where it stands in n phrases is n more than the recursion of PartNesting.antt. So it is n more than where the
-- part stands in none.
use Rattle.std.proofs.Common.{◌≡◌, ℕ, zero, suc, ◌+◌, ◌<◌, max, List, [], ◌∷◌, ◌++◌, Some, None, refl, arith}
use Rattle.cyc_tree.specs.Tree.{Expression, Number, Character, Text, Null, HeapRegion, UniqueRegion, Variable, Call, MakeUnion, NumElts, Grouped, Suffixed}
use Rattle.cyc_tree.specs.Tree.{Prefixed, New, NewIn, Chain, AllOf, AnyOf, Assign, Expressions, NoExpressions, MoreExpressions, Links, NoLinks, MoreLinks}
use Rattle.cyc_tree.specs.Tree.{Suffixes, NoSuffixes, Index, Dot, Arrow, Made, One, Array}
use Rattle.cyc_tree.specs.Tree as tree
use Rattle.cyc_tree.specs.Tree.{Declaration, Local, Statement, Empty, Block, Run, Exchange, If, IfElse, While, Switch, Break, Continue, Return, FreeUnique}
use Rattle.cyc_tree.specs.Tree.{FreeKey, BlockItems, NoItems, Declare, Execute, Clauses, NoClauses, MoreClauses, Item, StructItem, UnionItem, GlobalItem}
use Rattle.cyc_tree.specs.Tree.{FunctionItem, Program}
use Rattle.cyc_tree.specs.Places.{expression_place}
use Rattle.cyc_tree.specs.Depths.{Start, start, inner_starts, argument_starts, operand_starts, link_starts, suffix_starts, made_starts, expression_starts}
use Rattle.cyc_tree.specs.Depths.{declaration_starts, statement_starts, items_starts, clauses_starts, item_starts, program_starts, greatest_depth, nesting}
use Rattle.cyc_tree.proofs.PartNesting.{inner_nesting, argument_nesting, operand_nesting, link_nesting, suffix_nesting, made_nesting, expression_nesting}
use Rattle.cyc_tree.proofs.PartNesting.{declaration_nesting, statement_nesting, items_nesting, clauses_nesting, item_nesting, program_nesting}

-- ---- lists of starts

-- the greatest depth of two lists
pub greatest_both : (xs ys : List Start) → greatest_depth (xs ++ ys) ≡ max (greatest_depth xs) (greatest_depth ys)
greatest_both [] ys = omega arith
greatest_both (s ∷ xs) ys = omega (arith, greatest_both xs ys)

-- the phrases of a part that nests d deep, where it stands in n phrases; if d is 0 it has none
record IsDeep (n : ℕ) (xs : List Start) (d : ℕ) : Type 0 where
  none : d ≡ 0 → greatest_depth xs ≡ 0
  some : 0 < d → greatest_depth xs ≡ n + d

no_starts : (n : ℕ) → IsDeep n [] 0
no_starts n = record { none = λ h. h; some = λ h. absurd (omega (arith, h)) }

module _ {n a : ℕ} {xs : List Start} where
  -- what stands in a phrase that begins here
  inside : (at : ℕ) → IsDeep (n + 1) xs a → IsDeep n (start at (n + 1) ∷ xs) (1 + a)
  inside at r = record { none = λ z. absurd (omega (arith, z)); some = λ p. grind (arith, r.none, r.some) }

  inside_two : (at next : ℕ) → IsDeep (n + 2) xs a → IsDeep n (start at (n + 1) ∷ start next (n + 2) ∷ xs) (2 + a)
  inside_two at next r = record { none = λ z. absurd (omega (arith, z)); some = λ p. grind (arith, r.none, r.some) }

module _ {n a b : ℕ} {xs ys : List Start} where
  both : IsDeep n xs a → IsDeep n ys b → IsDeep n (xs ++ ys) (max a b)
  both r s =
      let joined = greatest_both xs ys in
      record { none = λ z. grind (arith, joined, r.none, r.some, s.none, s.some); some = λ p. grind (arith, joined, r.none, r.some, s.none, s.some) }

  -- a phrase, and what stands behind it
  inside_then : (at : ℕ) → IsDeep (n + 1) xs a → IsDeep n ys b → IsDeep n (start at (n + 1) ∷ xs ++ ys) (max (1 + a) b)
  inside_then at r s =
      let joined = greatest_both xs ys in
      record { none = λ z. absurd (omega (arith, z)); some = λ p. grind (arith, joined, r.none, r.some, s.none, s.some) }

  -- suffixes stand in the phrase of their primary
  suffixed : 0 < a → IsDeep n xs a → IsDeep (n + 1) ys b → IsDeep n (xs ++ ys) (max a (1 + b))
  suffixed some r s =
      let joined = greatest_both xs ys in
      record { none = λ z. absurd (omega (arith, z)); some = λ p. grind (arith, joined, r.none, r.some, s.none, s.some) }

  -- a handle, and what is made in its region
  made_in : (at next : ℕ) → IsDeep (n + 2) xs a → IsDeep (n + 1) ys b → IsDeep n (start at (n + 1) ∷ start next (n + 2) ∷ xs ++ ys) (1 + max (1 + a) b)
  made_in at next r s =
      let joined = greatest_both xs ys in
      record { none = λ z. absurd (omega (arith, z)); some = λ p. grind (arith, joined, r.none, r.some, s.none, s.some) }

-- three parts, where lists are joined to the left and depths to the right
three : {n a b d : ℕ} {xs ys zs : List Start} → IsDeep n xs a → IsDeep n ys b → IsDeep n zs d → IsDeep n (xs ++ ys ++ zs) (max a (max b d))
three {n} {a} {b} {d} {xs} {ys} {zs} r s u =
    let all = both (both r s) u in
    record { none = λ z. all.none (omega (arith, z)); some = λ p. omega (arith, all.some (omega (arith, p))) }

-- ---- expressions, which stand in n phrases

-- an expression has one phrase at least
nests : (e : Expression) → 0 < inner_nesting e
nests (Suffixed primary others) = omega (arith, nests primary)
nests (Chain first others) = omega (arith, nests first)
nests (AllOf first others) = omega (arith, nests first)
nests (AnyOf first others) = omega (arith, nests first)
nests (Assign place value) = omega (arith, nests place)
nests e = omega arith

mutual
  inner_deep : (n : ℕ) (e : Expression) → IsDeep n (inner_starts n e) (inner_nesting e)
  inner_deep n (Number at value suffix) = inside at (no_starts (n + 1))
  inner_deep n (Character at byte) = inside at (no_starts (n + 1))
  inner_deep n (Text at bytes) = inside at (no_starts (n + 1))
  inner_deep n (Null at) = inside at (no_starts (n + 1))
  inner_deep n (HeapRegion at) = inside at (no_starts (n + 1))
  inner_deep n (UniqueRegion at) = inside at (no_starts (n + 1))
  inner_deep n (Variable name) = inside name.at (no_starts (n + 1))
  inner_deep n (Call name arguments) = inside name.at (arguments_deep (n + 1) arguments)
  inner_deep n (MakeUnion tag member value) = inside_two tag.at (expression_place value) (inner_deep (n + 2) value)
  inner_deep n (NumElts at operand) = inside_two at (expression_place operand) (inner_deep (n + 2) operand)
  inner_deep n (Grouped at inner) = inside_two at (expression_place inner) (inner_deep (n + 2) inner)
  inner_deep n (Suffixed primary suffixes) = suffixed (nests primary) (inner_deep n primary) (suffixes_deep (n + 1) suffixes)
  inner_deep n (Prefixed at operator operand) = inside at (inner_deep (n + 1) operand)
  inner_deep n (New at made) = inside at (made_deep (n + 1) made)
  inner_deep n (NewIn at handle made) = made_in at (expression_place handle) (inner_deep (n + 2) handle) (made_deep (n + 1) made)
  inner_deep n (Chain first others) = both (inner_deep n first) (links_deep n others)
  inner_deep n (AllOf first others) = both (inner_deep n first) (operands_deep n others)
  inner_deep n (AnyOf first others) = both (inner_deep n first) (operands_deep n others)
  inner_deep n (Assign place value) = both (inner_deep n place) (inside (expression_place value) (inner_deep (n + 1) value))

  arguments_deep : (n : ℕ) (es : Expressions) → IsDeep n (argument_starts n es) (argument_nesting es)
  arguments_deep n NoExpressions = no_starts n
  arguments_deep n (MoreExpressions first others) = inside_then (expression_place first) (inner_deep (n + 1) first) (arguments_deep n others)

  operands_deep : (n : ℕ) (es : Expressions) → IsDeep n (operand_starts n es) (operand_nesting es)
  operands_deep n NoExpressions = no_starts n
  operands_deep n (MoreExpressions first others) = both (inner_deep n first) (operands_deep n others)

  links_deep : (n : ℕ) (ls : Links) → IsDeep n (link_starts n ls) (link_nesting ls)
  links_deep n NoLinks = no_starts n
  links_deep n (MoreLinks operator operand others) = both (inner_deep n operand) (links_deep n others)

  suffixes_deep : (n : ℕ) (s : Suffixes) → IsDeep n (suffix_starts n s) (suffix_nesting s)
  suffixes_deep n NoSuffixes = no_starts n
  suffixes_deep n (Index index others) = inside_then (expression_place index) (inner_deep (n + 1) index) (suffixes_deep n others)
  suffixes_deep n (Dot member others) = suffixes_deep n others
  suffixes_deep n (Arrow member others) = suffixes_deep n others

  made_deep : (n : ℕ) (m : Made) → IsDeep n (made_starts n m) (made_nesting m)
  made_deep n (One value) = inner_deep n value
  made_deep n (Array index count element) =
      inside_then (expression_place count) (inner_deep (n + 1) count) (inside (expression_place element) (inner_deep (n + 1) element))

-- ---- declarations and statements

expression_deep : (n : ℕ) (e : Expression) → IsDeep n (expression_starts n e) (expression_nesting e)
expression_deep n e = inside (expression_place e) (inner_deep (n + 1) e)

declaration_deep : (n : ℕ) (d : Declaration) → IsDeep n (declaration_starts n d) (declaration_nesting d)
declaration_deep n (Local of name tree.Unset) = no_starts n
declaration_deep n (Local of name (tree.Elements count)) = no_starts n
declaration_deep n (Local of name (tree.Value e)) = expression_deep n e
declaration_deep n (tree.Region at region handle) = no_starts n
declaration_deep n (tree.Open at region handle key) = no_starts n
declaration_deep n (tree.Alias at region of alias pointer) = no_starts n
declaration_deep n (tree.NewKey at region key) = no_starts n

mutual
  statement_deep : (n : ℕ) (s : Statement) → IsDeep n (statement_starts n s) (statement_nesting s)
  statement_deep n (Empty at) = inside at (no_starts (n + 1))
  statement_deep n (Block at items) = inside at (items_deep (n + 1) items)
  statement_deep n (Run e) = inside (expression_place e) (expression_deep (n + 1) e)
  statement_deep n (Exchange left right) = inside (expression_place left) (both (expression_deep (n + 1) left) (expression_deep (n + 1) right))
  statement_deep n (If at condition body) = inside at (both (expression_deep (n + 1) condition) (statement_deep (n + 1) body))
  statement_deep n (IfElse at condition body otherwise) =
      inside at (three (expression_deep (n + 1) condition) (statement_deep (n + 1) body) (statement_deep (n + 1) otherwise))
  statement_deep n (While at condition body) = inside at (both (expression_deep (n + 1) condition) (statement_deep (n + 1) body))
  statement_deep n (Switch at place clauses) = inside at (both (expression_deep (n + 1) place) (clauses_deep (n + 1) clauses))
  statement_deep n (Break at) = inside at (no_starts (n + 1))
  statement_deep n (Continue at) = inside at (no_starts (n + 1))
  statement_deep n (Return at None) = inside at (no_starts (n + 1))
  statement_deep n (Return at (Some value)) = inside at (expression_deep (n + 1) value)
  statement_deep n (FreeUnique at pointer) = inside at (no_starts (n + 1))
  statement_deep n (FreeKey at key) = inside at (no_starts (n + 1))

  items_deep : (n : ℕ) (items : BlockItems) → IsDeep n (items_starts n items) (items_nesting items)
  items_deep n NoItems = no_starts n
  items_deep n (Declare declaration others) = both (declaration_deep n declaration) (items_deep n others)
  items_deep n (Execute statement others) = both (statement_deep n statement) (items_deep n others)

  clauses_deep : (n : ℕ) (clauses : Clauses) → IsDeep n (clauses_starts n clauses) (clauses_nesting clauses)
  clauses_deep n NoClauses = no_starts n
  clauses_deep n (MoreClauses at pattern body others) = both (items_deep n body) (clauses_deep n others)

-- ---- programs

-- where it stands in no phrase
alone : {xs : List Start} {d : ℕ} → IsDeep 0 xs d → greatest_depth xs ≡ d
alone r = grind (arith, r.none, r.some)

item_is : (i : Item) → greatest_depth (item_starts i) ≡ item_nesting i
item_is (StructItem s) = refl
item_is (UnionItem u) = refl
item_is (GlobalItem g) = refl
item_is (FunctionItem f) = alone (items_deep 0 f.body)

program_is : (p : Program) → greatest_depth (program_starts p) ≡ program_nesting p
program_is [] = refl
program_is (i ∷ is) = omega (arith, greatest_both (item_starts i) (program_starts is), item_is i, program_is is)

-- the nesting, by recursion
pub nesting_is : (p : Program) → nesting p ≡ program_nesting p
unfolding nesting
nesting_is p = program_is p

-- ---- a part that stands in n phrases, from the same part in none

-- a depth, n phrases deeper; 0 is the depth of no phrase
abbrev pub raised : ℕ → ℕ → ℕ
raised n zero = 0
raised n (suc d) = n + suc d

raised_by : (n : ℕ) (xs : List Start) (d : ℕ) → IsDeep n xs d → greatest_depth xs ≡ raised n d
raised_by n xs zero r = r.none refl
raised_by n xs (suc d) r = r.some (omega arith)

deeper : {n d : ℕ} {xs ys : List Start} → IsDeep n xs d → IsDeep 0 ys d → greatest_depth xs ≡ raised n (greatest_depth ys)
deeper {n} {d} {xs} {ys} r s = rw (alone s) (raised_by n xs d r)

pub inner_some : (n : ℕ) (e : Expression) → 0 < greatest_depth (inner_starts n e)
inner_some n e = omega (arith, nests e, (inner_deep n e).some (nests e))

pub inner_deeper : (n : ℕ) (e : Expression) → greatest_depth (inner_starts n e) ≡ n + greatest_depth (inner_starts 0 e)
inner_deeper n e = omega (arith, (inner_deep n e).some (nests e), (inner_deep 0 e).some (nests e))

pub made_deeper : (n : ℕ) (m : Made) → greatest_depth (made_starts n m) ≡ raised n (greatest_depth (made_starts 0 m))
made_deeper n m = deeper (made_deep n m) (made_deep 0 m)

pub arguments_deeper : (n : ℕ) (es : Expressions) → greatest_depth (argument_starts n es) ≡ raised n (greatest_depth (argument_starts 0 es))
arguments_deeper n es = deeper (arguments_deep n es) (arguments_deep 0 es)

pub suffixes_deeper : (n : ℕ) (s : Suffixes) → greatest_depth (suffix_starts n s) ≡ raised n (greatest_depth (suffix_starts 0 s))
suffixes_deeper n s = deeper (suffixes_deep n s) (suffixes_deep 0 s)

pub statement_deeper : (n : ℕ) (s : Statement) → greatest_depth (statement_starts n s) ≡ raised n (greatest_depth (statement_starts 0 s))
statement_deeper n s = deeper (statement_deep n s) (statement_deep 0 s)

pub items_deeper : (n : ℕ) (items : BlockItems) → greatest_depth (items_starts n items) ≡ raised n (greatest_depth (items_starts 0 items))
items_deeper n items = deeper (items_deep n items) (items_deep 0 items)

pub clauses_deeper : (n : ℕ) (clauses : Clauses) → greatest_depth (clauses_starts n clauses) ≡ raised n (greatest_depth (clauses_starts 0 clauses))
clauses_deeper n clauses = deeper (clauses_deep n clauses) (clauses_deep 0 clauses)
