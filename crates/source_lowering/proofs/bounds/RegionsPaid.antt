-- The words of a statement's locals are enough for the handles of its regions: each is a local too.
use Rattle.std.proofs.Common.{ℕ, suc, ◌≤◌, List, ◌∷◌, arith}
use Rattle.cyc_tree.specs.Tree as tree
use Rattle.cyc_tree.specs.Tree.{Declaration, Statement, BlockItems, NoItems, Declare, Execute, Clauses, NoClauses, MoreClauses, Case, Default}
use Rattle.source_meaning.specs.Shapes.{HandleShape, Part, part_shape}
use Rattle.source_meaning.specs.Steps.{World}
use Rattle.source_lowering.specs.Pieces.{Named, static_shape, union_parts}
use Rattle.source_lowering.specs.Programs.{local_shape, named_here, names_behind, outward}
use Rattle.source_lowering.specs.Bounds.{shape_words, statement_locals, item_locals, clause_locals}
use Rattle.source_lowering.proofs.bounds.Nodes.{region_count, statement_regions, item_regions, clause_regions}
use Rattle.source_lowering.proofs.bounds.LocalWords.{word_words}

region_paid : (w : World) (names : List Named) (declared : Declaration) → region_count declared ≤ shape_words w (local_shape w names declared)
region_paid w names (tree.Region at region handle) = let one = word_words w HandleShape tt in omega (arith, one)
region_paid w names (tree.Local of name initializer) = omega arith
region_paid w names (tree.Open at region handle key) = let one = word_words w HandleShape tt in omega (arith, one)
region_paid w names (tree.Alias at region of alias pointer) = omega arith
region_paid w names (tree.NewKey at region key) = omega arith

mutual
  statement_regions_paid : (w : World) (names : List Named) (s : Statement) → statement_regions s ≤ statement_locals w names s
  statement_regions_paid w names (Statement.Block at items) = item_regions_paid w (outward names) 0 items
  statement_regions_paid w names (Statement.If at condition body) = statement_regions_paid w names body
  statement_regions_paid w names (Statement.IfElse at condition body otherwise) =
      omega (arith, statement_regions_paid w names body, statement_regions_paid w names otherwise)
  statement_regions_paid w names (Statement.While at condition body) = statement_regions_paid w names body
  statement_regions_paid w names (Statement.Switch at place clauses) = clause_regions_paid w names (union_parts w (static_shape w names place)) clauses
  statement_regions_paid w names _ = omega arith

  -- the next local of the block has this number
  pub item_regions_paid : (w : World) (names : List Named) (index : ℕ) (items : BlockItems) → item_regions items ≤ item_locals w names index items
  item_regions_paid w names index NoItems = omega arith
  item_regions_paid w names index (Declare d others) =
      omega (arith, region_paid w names d, item_regions_paid w (names_behind w names index d) (suc index) others)
  item_regions_paid w names index (Execute s others) = omega (arith, statement_regions_paid w names s, item_regions_paid w names index others)

  clause_regions_paid : (w : World) (names : List Named) (parts : List Part) (clauses : Clauses) → clause_regions clauses ≤ clause_locals w names parts clauses
  clause_regions_paid w names parts NoClauses = omega arith
  clause_regions_paid w names parts (MoreClauses at (Case f x) body others) =
      let inside = item_regions_paid w (named_here x.text (part_shape parts f.text) 0 ∷ outward names) 1 body in
      omega (arith, inside, clause_regions_paid w names parts others)
  clause_regions_paid w names parts (MoreClauses at Default body others) =
      omega (arith, item_regions_paid w (outward names) 0 body, clause_regions_paid w names parts others)
