-- What the code of declarations takes, and of the ends and ways out of regions.
use Rattle.std.proofs.Common.{◌≡◌, ℕ, zero, suc, ◌+◌, ◌*◌, ◌≤◌, List, [], ◌∷◌, ◌++◌, Bool, true, false, arith}
use Rattle.cyc_tree.specs.Tree as tree
use Rattle.cyc_tree.specs.Tree.{Expression, Initializer, Declaration}
use Rattle.source_meaning.specs.Shapes.{Shape, ThinShape, FatShape, ArrayShape, StructShape, UnionShape, written, settled, settled_by}
use Rattle.source_meaning.specs.Steps.{World}
use Rattle.core_meaning.specs.Core as core
use Rattle.core_meaning.specs.Core.{Do, Clear, Copy, KeyClose, KeyNew, KeyOpen, LocalAddress, Put, RegionFree, RegionNew}
use Rattle.source_lowering.specs.Layouts.{layout_of, local_of}
use Rattle.source_lowering.specs.Lowered.{Named, width_of, put_local, static_shape, conversion_code, expression_code, get_code, local_named}
use Rattle.source_lowering.specs.Programs.{first_code, begun_code, unset_code, value_code, declaration_code, ending_code, regions_behind}
use Rattle.source_lowering.specs.Programs.{leaving_code, left_by, source_code}
use Rattle.source_lowering.specs.Whole.{is_made}
use Rattle.source_lowering.specs.Lowerable.{Takes, TakesValue, TakesWhole, TakesDeclaration}
use Rattle.source_lowering.specs.Bounds.{tokens_of, declaration_tokens}
use Rattle.source_lowering.specs.Order.{indices_in, indices_in_declaration}
use Rattle.source_meaning.specs.Places.{bound_to}
use Rattle.source_lowering.proofs.values.Integers.{key_moved}
use Rattle.source_lowering.proofs.bounds.Nodes.{expression_count, declaration_count, region_count}
use Rattle.source_lowering.proofs.bounds.Costs.{Costs, no_costs, both_cost, at_most, does_one, does_then, sized}
use Rattle.source_lowering.proofs.bounds.ValueCosts.{put_local_costs, to_fat_costs}
use Rattle.source_lowering.specs.Operators.{to_fat_code}
use Rattle.source_lowering.proofs.bounds.PartCosts.{conversion_costs}
use Rattle.source_lowering.proofs.bounds.Counted.{one_node}
use Rattle.source_lowering.proofs.bounds.ExpressionCosts.{expression_costs}
use Rattle.source_lowering.proofs.bounds.WholeCosts.{source_costs}
use Rattle.source_lowering.proofs.bounds.NameCosts.{alias_costs, moved_costs}

-- ---- declarations

-- a value is converted and put into a local: what takes most to convert is one word
converted_put : (w : World) (t p d index : ℕ) (to from : Shape) → d + 4 ≤ t
    → Costs t p 0 11 (conversion_code w to from d ++ put_local to d 0 index)
converted_put w t p d index (FatShape to) from h =
    at_most t p 8 11 _ (omega arith) (both_cost t p 0 4 0 4 (to_fat_code from d) _ (to_fat_costs from t p d (omega (arith, h)))
    (put_local_costs (FatShape to) t p d 0 index h))
converted_put w t p d index to from h =
    at_most t p 9 11 _ (omega arith) (both_cost t p 0 8 0 1 _ _ (conversion_costs w t p d to from h) (does_one t p _ (omega (arith, h))))

-- a declaration leaves one operation to the end of its region
pub record IsDeclared (t p l n : ℕ) (code : List core.Statement) : Type 0 where
  pub operations : ℕ
  pub costs : Costs t p l operations code
  pub less : operations + 1 ≤ 8 * (1 + n)

first_costs : (t p d : ℕ) (s : Shape) → suc d ≤ t → Costs t p 0 1 (Do (first_code s d) ∷ [])
first_costs t p d (ThinShape may_be_null owner to) h = does_one t p _ h
first_costs t p d _ h = does_one t p _ h

unset_costs : (w : World) (s : Shape) (d index t p : ℕ) → suc d ≤ t → Costs t p 0 2 (unset_code w s d index)
unset_costs w s d index t p h = by s
  where
    word : (of : Shape) → Costs t p 0 2 (Do (first_code of d) ∷ Do (Put 0 index (width_of of) d) ∷ [])
    word of = both_cost t p 0 1 0 1 (Do (first_code of d) ∷ []) (Do (Put 0 index (width_of of) d) ∷ []) (first_costs t p d of h) (does_one t p _ h)

    begun : (of : Shape) → Costs t p 0 2 (begun_code w of d index)
    begun of = does_then t p 1 (LocalAddress d 0 index) _ h (does_one t p (Clear d (local_of w of).layout (local_of w of).count) h)

    by : (of : Shape) → Costs t p 0 2 (unset_code w of d index)
    by (StructShape tag) = begun (StructShape tag)
    by (FatShape to) = begun (FatShape to)
    by (ArrayShape count to) = begun (ArrayShape count to)
    by of = word of

value_bounded : (w : World) (names : List Named) (s : Shape) (e : Expression) (d index own t p : ℕ) → TakesValue w names s e
    → d + 4 * expression_count e ≤ t → 3 * expression_count e ≤ p → IsDeclared t p (indices_in e) (tokens_of e) (value_code w names s e d index own)
value_bounded w names s e d index own t p h f g = by s h
  where
    word : (of : Shape) → Takes w names e → IsDeclared t p (indices_in e) (tokens_of e)
        (expression_code w names e d own ++ (conversion_code w of (static_shape w names e) d ++ put_local of d 0 index))
    word of h =
        let a = expression_costs w names e t p d own h f g in
        let l = a.less in
        let n = one_node e in
        record {
          operations = a.operations + 11;
          costs = sized (both_cost t p _ a.operations _ 11 _ _ a.costs (converted_put w t p d index of (static_shape w names e) (omega (arith, f, n))))
              (omega arith);
          less = omega (arith, l);
        }

    whole : (of : Shape) → TakesWhole w names e → IsDeclared t p (indices_in e) (tokens_of e)
        (source_code w names (is_made w e) e d own ++ (Do (LocalAddress (d + 1) 0 index) ∷ Do (Copy (d + 1) d (layout_of w of)) ∷ []))
    whole of h =
        let a = source_costs w names e t p d own h f g in
        let l = a.less in
        let n = one_node e in
        record {
          operations = a.operations + (1 + 1);
          costs = sized (both_cost t p _ a.operations _ (1 + 1) _ _ a.costs (both_cost t p _ 1 _ 1 (Do (LocalAddress (d + 1) 0 index) ∷ []) _
              (does_one t p _ (omega (arith, f, n))) (does_one t p _ (omega (arith, f, n))))) (omega arith);
          less = omega (arith, l);
        }

    by : (of : Shape) → TakesValue w names of e → IsDeclared t p (indices_in e) (tokens_of e) (value_code w names of e d index own)
    by (StructShape tag) h = whole (StructShape tag) h
    by (UnionShape tag) h = whole (UnionShape tag) h
    by of h = word of h

pub declaration_bounded : (w : World) (names : List Named) (declared : Declaration) (d index own t p : ℕ) → TakesDeclaration w names declared
    → d + 4 * declaration_count declared + 1 ≤ t → 3 * declaration_count declared ≤ p
    → IsDeclared t p (indices_in_declaration declared) (declaration_tokens declared) (declaration_code w names declared d index own)
declaration_bounded w names (tree.Local of name Initializer.Unset) d index own t p h f g =
    record { operations = 2; costs = unset_costs w (settled (written of)) d index t p (omega (arith, f)); less = omega arith }
declaration_bounded w names (tree.Local of name (Initializer.Elements count)) d index own t p h f g =
    record { operations = 2; costs = unset_costs w (ArrayShape count (settled (written of))) d index t p (omega (arith, f)); less = omega arith }
declaration_bounded w names (tree.Local of name (Initializer.Value e)) d index own t p h f g =
    value_bounded w names (settled_by (written of) (static_shape w names e)) e d index own t p h.1 (omega (arith, f)) g
declaration_bounded w names (tree.Region at region handle) d index own t p h f g = record {
  operations = 1 + 1;
  costs = both_cost t p 0 1 0 1 (Do (RegionNew d) ∷ []) _ (does_one t p _ (omega (arith, f))) (does_one t p _ (omega (arith, f)));
  less = omega arith;
}
declaration_bounded w names (tree.Alias at region of alias pointer) d index own t p h f g = record {
  operations = 7;
  costs = alias_costs w names pointer (settled_by (written of) (static_shape w names (Expression.Variable pointer))) d index own t p h.1.0 h.1.1
      (omega (arith, f));
  less = omega arith;
}
declaration_bounded w names (tree.Open at region handle key) d index own t p h f g =
    record {
      operations = 2 + (1 + 1);
      costs = both_cost t p 0 2 0 (1 + 1) (get_code w names key.text d) _
          (moved_costs t p d (local_named names key.text) (bound_to w.globals key.text) (key_moved (static_shape w names (Expression.Variable key)) h)
          (omega (arith, f)))
          (both_cost t p 0 1 0 1 (Do (KeyOpen d) ∷ []) _ (does_one t p _ (omega (arith, f))) (does_one t p _ (omega (arith, f))));
      less = omega arith;
    }
declaration_bounded w names (tree.NewKey at region key) d index own t p h f g = record {
  operations = 1 + 1;
  costs = both_cost t p 0 1 0 1 (Do (KeyNew d) ∷ []) _ (does_one t p _ (omega (arith, f))) (does_one t p _ (omega (arith, f)));
  less = omega arith;
}

-- ---- regions

-- the end of a declaration's region
pub ending_costs : (declared : Declaration) (d t p : ℕ) → suc d ≤ t → Costs t p 0 1 (ending_code declared d)
ending_costs (tree.Region at region handle) d t p h = does_one t p (RegionFree d) h
ending_costs (tree.Local of name initializer) d t p h = at_most t p 0 1 [] (omega arith) (no_costs t p)
ending_costs (tree.Open at region handle key) d t p h = does_one t p (KeyClose d) h
ending_costs (tree.Alias at region of alias pointer) d t p h = at_most t p 0 1 [] (omega arith) (no_costs t p)
ending_costs (tree.NewKey at region key) d t p h = at_most t p 0 1 [] (omega arith) (no_costs t p)

-- a region that is opened has its handle in a temporary
pub regions_counted : (declared : Declaration) (n : ℕ) → regions_behind declared n ≡ n + region_count declared
regions_counted (tree.Region at region handle) n = omega arith
regions_counted (tree.Local of name initializer) n = omega arith
regions_counted (tree.Open at region handle key) n = omega arith
regions_counted (tree.Alias at region of alias pointer) n = omega arith
regions_counted (tree.NewKey at region key) n = omega arith

-- regions are left, an operation each
left_costs : (opened : Bool) (d t p : ℕ) → suc d ≤ t → Costs t p 0 1 (Do (left_by opened d) ∷ [])
left_costs true d t p h = does_one t p (KeyClose d) h
left_costs false d t p h = does_one t p (RegionFree d) h

pub leaving_costs : (opened : List Bool) (all count t p : ℕ) → all ≤ t → Costs t p 0 count (leaving_code opened all count)
leaving_costs opened all zero t p h = no_costs t p
leaving_costs [] all (suc count) t p h = at_most t p 0 (suc count) [] (omega arith) (no_costs t p)
leaving_costs (o ∷ os) zero (suc count) t p h = at_most t p 0 (suc count) [] (omega arith) (no_costs t p)
leaving_costs (o ∷ os) (suc all) (suc count) t p h =
    at_most t p (1 + count) (suc count) _ (omega arith)
    (both_cost t p 0 1 0 count (Do (left_by o all) ∷ []) (leaving_code os all count) (left_costs o all t p h)
    (leaving_costs os all count t p (omega (arith, h))))
