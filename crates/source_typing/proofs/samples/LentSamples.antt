-- Locals that are used while they are lent.
use Rattle.std.proofs.Common.{◌≡◌, refl, Some, None, [], ◌∷◌}
use Rattle.cyc_tree.specs.declared.expression.Operator.TheVariants.{Equal, Add, Subtract}
use Rattle.cyc_tree.specs.declared.expression.Prefix.TheVariants.{Dereference}
use Rattle.cyc_tree.specs.declared.name.Sign.TheVariants as sign
use Rattle.cyc_tree.specs.Tree as tree
use Rattle.cyc_tree.specs.Tree.{Expression, NoExpressions, MoreExpressions, NoLinks, MoreLinks, One, Initializer, Statement, NoItems, Declare, Execute}
use Rattle.source_meaning.proofs.Trees.{pointer}
use Rattle.source_typing.specs.Faults.{fault, region_rule, lent_rule}
use Rattle.source_typing.specs.Answers.{first_fault}
use Rattle.source_typing.proofs.samples.SampleTrees.{name_at, region_at, type_at, int_at, number, variable_at, returns, member, routine, main_at}

-- int main() { int @`U p = rnew(unique_region) 4; { let alias<`r> int @`r x = p; int @`r y = x; *y = *x + 1; ufree(p); } return *p; }
lent_flow_1 : first_fault
    ((main_at 0 (Declare (tree.Local (type_at 13 tree.Int ((pointer (sign.NotNull 1) (Some (tree.Unique 18))) ∷ [])) (name_at 21 "p") (Initializer.Value
    (Expression.NewIn 25 (Expression.UniqueRegion 30) (One (number 45 4))))) (Execute (Statement.Block 48 (Declare (tree.Alias 50 (region_at 60 "r") (type_at
    64 tree.Int ((pointer (sign.NotNull 1) (Some (region_at 69 "r"))) ∷ [])) (name_at 72 "x") (name_at 76 "p")) (Declare (tree.Local (type_at 79 tree.Int
    ((pointer (sign.NotNull 1) (Some (region_at 84 "r"))) ∷ [])) (name_at 87 "y") (Initializer.Value (variable_at 91 "x"))) (Execute (Statement.Run
    (Expression.Assign (Expression.Prefixed 94 Dereference (variable_at 95 "y")) (Expression.Chain (Expression.Prefixed 99 Dereference (variable_at 100 "x"))
    (MoreLinks Add (number 104 1) NoLinks)))) (Execute (Statement.FreeUnique 107 (name_at 113 "p")) NoItems))))) (Execute (returns 119 (Expression.Prefixed
    126 Dereference (variable_at 127 "p"))) NoItems))) 130) ∷ [])
    ≡ Some (fault lent_rule 113)
lent_flow_1 = refl

-- int main() { int @`U p = rnew(unique_region) 4; { let alias<`r> int @`r x = p; int @`r y = x; *y = *x + 1; } return *p; }
lent_flow_2 : first_fault
    ((main_at 0 (Declare (tree.Local (type_at 13 tree.Int ((pointer (sign.NotNull 1) (Some (tree.Unique 18))) ∷ [])) (name_at 21 "p") (Initializer.Value
    (Expression.NewIn 25 (Expression.UniqueRegion 30) (One (number 45 4))))) (Execute (Statement.Block 48 (Declare (tree.Alias 50 (region_at 60 "r") (type_at
    64 tree.Int ((pointer (sign.NotNull 1) (Some (region_at 69 "r"))) ∷ [])) (name_at 72 "x") (name_at 76 "p")) (Declare (tree.Local (type_at 79 tree.Int
    ((pointer (sign.NotNull 1) (Some (region_at 84 "r"))) ∷ [])) (name_at 87 "y") (Initializer.Value (variable_at 91 "x"))) (Execute (Statement.Run
    (Expression.Assign (Expression.Prefixed 94 Dereference (variable_at 95 "y")) (Expression.Chain (Expression.Prefixed 99 Dereference (variable_at 100 "x"))
    (MoreLinks Add (number 104 1) NoLinks)))) NoItems)))) (Execute (returns 109 (Expression.Prefixed 116 Dereference (variable_at 117 "p"))) NoItems))) 120) ∷
    [])
    ≡ None
lent_flow_2 = refl

-- int main() { int *`U p = NULL; { let alias<`r> int *`r x = p; p = NULL; } return 0; }
lent_flow_3 : first_fault
    ((main_at 0 (Declare (tree.Local (type_at 13 tree.Int ((pointer (sign.Nullable 1) (Some (tree.Unique 18))) ∷ [])) (name_at 21 "p") (Initializer.Value
    (Expression.Null 25))) (Execute (Statement.Block 31 (Declare (tree.Alias 33 (region_at 43 "r") (type_at 47 tree.Int ((pointer (sign.Nullable 1) (Some
    (region_at 52 "r"))) ∷ [])) (name_at 55 "x") (name_at 59 "p")) (Execute (Statement.Run (Expression.Assign (variable_at 62 "p") (Expression.Null 66)))
    NoItems))) (Execute (returns 74 (number 81 0)) NoItems))) 84) ∷ [])
    ≡ Some (fault lent_rule 62)
lent_flow_3 = refl

-- int main() { int *`U p = NULL; { let alias<`r> int *`r x = p; if (p == NULL) ; } return 0; }
lent_flow_4 : first_fault
    ((main_at 0 (Declare (tree.Local (type_at 13 tree.Int ((pointer (sign.Nullable 1) (Some (tree.Unique 18))) ∷ [])) (name_at 21 "p") (Initializer.Value
    (Expression.Null 25))) (Execute (Statement.Block 31 (Declare (tree.Alias 33 (region_at 43 "r") (type_at 47 tree.Int ((pointer (sign.Nullable 1) (Some
    (region_at 52 "r"))) ∷ [])) (name_at 55 "x") (name_at 59 "p")) (Execute (Statement.If 62 (Expression.Chain (variable_at 66 "p") (MoreLinks Equal
    (Expression.Null 71) NoLinks)) (Statement.Empty 77)) NoItems))) (Execute (returns 81 (number 88 0)) NoItems))) 91) ∷ [])
    ≡ Some (fault lent_rule 66)
lent_flow_4 = refl

-- int main() { int *`U p = NULL; int *`U q = NULL; { let alias<`r> int *`r x = p; q :=: p; } return 0; }
lent_flow_5 : first_fault
    ((main_at 0 (Declare (tree.Local (type_at 13 tree.Int ((pointer (sign.Nullable 1) (Some (tree.Unique 18))) ∷ [])) (name_at 21 "p") (Initializer.Value
    (Expression.Null 25))) (Declare (tree.Local (type_at 31 tree.Int ((pointer (sign.Nullable 1) (Some (tree.Unique 36))) ∷ [])) (name_at 39 "q")
    (Initializer.Value (Expression.Null 43))) (Execute (Statement.Block 49 (Declare (tree.Alias 51 (region_at 61 "r") (type_at 65 tree.Int ((pointer
    (sign.Nullable 1) (Some (region_at 70 "r"))) ∷ [])) (name_at 73 "x") (name_at 77 "p"))
    (Execute (Statement.Exchange (variable_at 80 "q") (variable_at 86 "p"))
    NoItems))) (Execute (returns 91 (number 98 0)) NoItems)))) 101) ∷ [])
    ≡ Some (fault lent_rule 86)
lent_flow_5 = refl

-- int main() { int *`U p = NULL; { let alias<`r> int *`r x = p; int *`U q = p; } return 0; }
lent_flow_6 : first_fault
    ((main_at 0 (Declare (tree.Local (type_at 13 tree.Int ((pointer (sign.Nullable 1) (Some (tree.Unique 18))) ∷ [])) (name_at 21 "p") (Initializer.Value
    (Expression.Null 25))) (Execute (Statement.Block 31 (Declare (tree.Alias 33 (region_at 43 "r") (type_at 47 tree.Int ((pointer (sign.Nullable 1) (Some
    (region_at 52 "r"))) ∷ [])) (name_at 55 "x") (name_at 59 "p"))
    (Declare (tree.Local (type_at 62 tree.Int ((pointer (sign.Nullable 1) (Some (tree.Unique 67)))
    ∷ [])) (name_at 70 "q") (Initializer.Value (variable_at 74 "p"))) NoItems))) (Execute (returns 79 (number 86 0)) NoItems))) 89) ∷ [])
    ≡ Some (fault lent_rule 74)
lent_flow_6 = refl

-- int main() { int *`U p = NULL; let alias<`r> int *`r x = p; { let alias<`s> int *`s y = p; } return 0; }
lent_flow_7 : first_fault
    ((main_at 0 (Declare (tree.Local (type_at 13 tree.Int ((pointer (sign.Nullable 1) (Some (tree.Unique 18))) ∷ [])) (name_at 21 "p") (Initializer.Value
    (Expression.Null 25))) (Declare
    (tree.Alias 31 (region_at 41 "r") (type_at 45 tree.Int ((pointer (sign.Nullable 1) (Some (region_at 50 "r"))) ∷ [])) (name_at
    53 "x") (name_at 57 "p")) (Execute (Statement.Block 60 (Declare (tree.Alias 62 (region_at 72 "s") (type_at 76 tree.Int ((pointer (sign.Nullable 1) (Some
    (region_at 81 "s"))) ∷ [])) (name_at 84 "y") (name_at 88 "p")) NoItems)) (Execute (returns 93 (number 100 0)) NoItems)))) 103) ∷ [])
    ≡ Some (fault lent_rule 88)
lent_flow_7 = refl

-- int main() { int *`U p = NULL; { let alias<`r> int *`r x = p; } { let alias<`r> int *`r x = p; } ufree(p); return 0; }
lent_flow_8 : first_fault
    ((main_at 0 (Declare (tree.Local (type_at 13 tree.Int ((pointer (sign.Nullable 1) (Some (tree.Unique 18))) ∷ [])) (name_at 21 "p") (Initializer.Value
    (Expression.Null 25))) (Execute (Statement.Block 31 (Declare (tree.Alias 33 (region_at 43 "r") (type_at 47 tree.Int ((pointer (sign.Nullable 1) (Some
    (region_at 52 "r"))) ∷ [])) (name_at 55 "x") (name_at 59 "p")) NoItems)) (Execute (Statement.Block 64 (Declare (tree.Alias 66 (region_at 76 "r") (type_at
    80 tree.Int ((pointer (sign.Nullable 1) (Some (region_at 85 "r"))) ∷ [])) (name_at 88 "x") (name_at 92 "p")) NoItems)) (Execute (Statement.FreeUnique 97
    (name_at 103 "p")) (Execute (returns 107 (number 114 0)) NoItems))))) 117) ∷ [])
    ≡ None
lent_flow_8 = refl

-- a loan ends when the block is left in any way
-- int main() { int *`U p = NULL; while (1) { let alias<`r> int *`r x = p; break; } ufree(p); return 0; }
lent_flow_9 : first_fault
    ((main_at 0 (Declare (tree.Local (type_at 13 tree.Int ((pointer (sign.Nullable 1) (Some (tree.Unique 18))) ∷ [])) (name_at 21 "p") (Initializer.Value
    (Expression.Null 25))) (Execute (Statement.While 31 (number 38 1) (Statement.Block 41 (Declare (tree.Alias 43 (region_at 53 "r") (type_at 57 tree.Int
    ((pointer (sign.Nullable 1) (Some (region_at 62 "r"))) ∷ [])) (name_at 65 "x") (name_at 69 "p")) (Execute (Statement.Break 72) NoItems)))) (Execute
    (Statement.FreeUnique 81 (name_at 87 "p")) (Execute (returns 91 (number 98 0)) NoItems)))) 101) ∷ [])
    ≡ None
lent_flow_9 = refl

-- int main() { int *`U p = NULL; int n = 2; while (n) { n = n - 1; let alias<`r> int *`r x = p; continue; } ufree(p); return 0; }
lent_flow_10 : first_fault
    ((main_at 0 (Declare (tree.Local (type_at 13 tree.Int ((pointer (sign.Nullable 1) (Some (tree.Unique 18))) ∷ [])) (name_at 21 "p") (Initializer.Value
    (Expression.Null 25))) (Declare (tree.Local (int_at 31) (name_at 35 "n") (Initializer.Value (number 39 2))) (Execute (Statement.While 42 (variable_at 49
    "n") (Statement.Block 52 (Execute (Statement.Run (Expression.Assign (variable_at 54 "n") (Expression.Chain (variable_at 58 "n") (MoreLinks Subtract
    (number 62 1) NoLinks)))) (Declare (tree.Alias 65 (region_at 75 "r") (type_at 79 tree.Int ((pointer (sign.Nullable 1) (Some (region_at 84 "r"))) ∷ []))
    (name_at 87 "x") (name_at 91 "p")) (Execute (Statement.Continue 94) NoItems))))) (Execute (Statement.FreeUnique 106 (name_at 112 "p")) (Execute (returns
    116 (number 123 0)) NoItems))))) 126) ∷ [])
    ≡ None
lent_flow_10 = refl

-- int main() { let NewDynamicRegion{<`r> k} = new_ukey(); int *`r p = NULL; { region<`r> h = open(k); p = rnew(h) 5; free_ukey(k); } free_ukey(k); return 0; }
lent_flow_11 : first_fault
    ((main_at 0 (Declare (tree.NewKey 13 (region_at 35 "r") (name_at 39 "k")) (Declare (tree.Local (type_at 56 tree.Int ((pointer (sign.Nullable 1) (Some
    (region_at 61 "r"))) ∷ [])) (name_at 64 "p") (Initializer.Value (Expression.Null 68))) (Execute (Statement.Block 74 (Declare (tree.Open 76 (region_at 83
    "r") (name_at 87 "h") (name_at 96 "k")) (Execute (Statement.Run (Expression.Assign (variable_at 100 "p") (Expression.NewIn 104 (variable_at 109 "h") (One
    (number 112 5))))) (Execute (Statement.FreeKey 115 (name_at 125 "k")) NoItems)))) (Execute (Statement.FreeKey 131 (name_at 141 "k")) (Execute (returns 145
    (number 152 0)) NoItems))))) 155) ∷ [])
    ≡ Some (fault lent_rule 125)
lent_flow_11 = refl

-- int main() { let NewDynamicRegion{<`r> k} = new_ukey(); int *`r p = NULL; { region<`r> h = open(k); p = rnew(h) 5; } free_ukey(k); int *`r q = new 6; if (q
-- == NULL) return 1; return 0; }
lent_flow_12 : first_fault
    ((main_at 0 (Declare (tree.NewKey 13 (region_at 35 "r") (name_at 39 "k")) (Declare (tree.Local (type_at 56 tree.Int ((pointer (sign.Nullable 1) (Some
    (region_at 61 "r"))) ∷ [])) (name_at 64 "p") (Initializer.Value (Expression.Null 68))) (Execute (Statement.Block 74 (Declare (tree.Open 76 (region_at 83
    "r") (name_at 87 "h") (name_at 96 "k")) (Execute (Statement.Run (Expression.Assign (variable_at 100 "p") (Expression.NewIn 104 (variable_at 109 "h") (One
    (number 112 5))))) NoItems))) (Execute (Statement.FreeKey 117 (name_at 127 "k"))
    (Declare (tree.Local (type_at 131 tree.Int ((pointer (sign.Nullable 1) (Some
    (region_at 136 "r"))) ∷ [])) (name_at 139 "q") (Initializer.Value (Expression.New 143 (One (number 147 6))))) (Execute (Statement.If 150 (Expression.Chain
    (variable_at 154 "q") (MoreLinks Equal (Expression.Null 159) NoLinks)) (returns 165 (number 172 1))) (Execute (returns 175 (number 182 0)) NoItems)))))))
    185) ∷ [])
    ≡ None
lent_flow_12 = refl

-- int main() { let NewDynamicRegion{<`r> k} = new_ukey(); { region<`r> h = open(k); region<`r> g = open(k); } return 0; }
lent_flow_13 : first_fault
    ((main_at 0 (Declare (tree.NewKey 13 (region_at 35 "r") (name_at 39 "k")) (Execute (Statement.Block 56 (Declare (tree.Open 58 (region_at 65 "r") (name_at
    69 "h") (name_at 78 "k")) (Declare (tree.Open 82 (region_at 89 "r") (name_at 93 "g") (name_at 102 "k")) NoItems))) (Execute (returns 108 (number 115 0))
    NoItems))) 118) ∷ [])
    ≡ Some (fault lent_rule 102)
lent_flow_13 = refl

-- void f(uregion_key_t<`r> k) { free_ukey(k); } int main() { let NewDynamicRegion{<`r> k} = new_ukey(); { region<`r> h = open(k); f(k); } return 0; }
lent_flow_14 : first_fault
    ((tree.FunctionItem (routine (type_at 0 tree.Void []) (name_at 5 "f") ((member (type_at 7 (tree.Key (region_at 21 "r")) []) (name_at 25 "k")) ∷ []) None []
    (Execute (Statement.FreeKey 30 (name_at 40 "k")) NoItems) 44)) ∷ (main_at 46 (Declare (tree.NewKey 59 (region_at 81 "r") (name_at 85 "k")) (Execute
    (Statement.Block 102 (Declare (tree.Open 104 (region_at 111 "r") (name_at 115 "h") (name_at 124 "k")) (Execute (Statement.Run (Expression.Call (name_at
    128 "f") (MoreExpressions (variable_at 130 "k") NoExpressions))) NoItems))) (Execute (returns 136 (number 143 0)) NoItems))) 146) ∷ [])
    ≡ Some (fault lent_rule 130)
lent_flow_14 = refl

-- int main() { let NewDynamicRegion{<`r> k} = new_ukey(); { region<`r> h = open(k); } { region<`r> h = open(k); } free_ukey(k); return 0; }
lent_flow_15 : first_fault
    ((main_at 0 (Declare (tree.NewKey 13 (region_at 35 "r") (name_at 39 "k")) (Execute (Statement.Block 56 (Declare (tree.Open 58 (region_at 65 "r") (name_at
    69 "h") (name_at 78 "k")) NoItems)) (Execute (Statement.Block 84 (Declare (tree.Open 86 (region_at 93 "r") (name_at 97 "h") (name_at 106 "k")) NoItems))
    (Execute (Statement.FreeKey 112 (name_at 122 "k")) (Execute (returns 126 (number 133 0)) NoItems))))) 136) ∷ [])
    ≡ None
lent_flow_15 = refl

-- a dynamic region is live while it is open
-- int main() { let NewDynamicRegion{<`r> k} = new_ukey(); int *`r p = NULL; { region<`r> h = open(k); p = rnew(h) 5; } free_ukey(k); int *`r q = new 6; if (q
-- == NULL) return 1; if (q == p) return 2; return 0; }
lent_flow_16 : first_fault
    ((main_at 0 (Declare (tree.NewKey 13 (region_at 35 "r") (name_at 39 "k")) (Declare (tree.Local (type_at 56 tree.Int ((pointer (sign.Nullable 1) (Some
    (region_at 61 "r"))) ∷ [])) (name_at 64 "p") (Initializer.Value (Expression.Null 68))) (Execute (Statement.Block 74 (Declare (tree.Open 76 (region_at 83
    "r") (name_at 87 "h") (name_at 96 "k")) (Execute (Statement.Run (Expression.Assign (variable_at 100 "p") (Expression.NewIn 104 (variable_at 109 "h") (One
    (number 112 5))))) NoItems))) (Execute (Statement.FreeKey 117 (name_at 127 "k"))
    (Declare (tree.Local (type_at 131 tree.Int ((pointer (sign.Nullable 1) (Some
    (region_at 136 "r"))) ∷ [])) (name_at 139 "q") (Initializer.Value (Expression.New 143 (One (number 147 6))))) (Execute (Statement.If 150 (Expression.Chain
    (variable_at 154 "q") (MoreLinks Equal (Expression.Null 159) NoLinks)) (returns 165 (number 172 1))) (Execute (Statement.If 175 (Expression.Chain
    (variable_at 179 "q") (MoreLinks Equal (variable_at 184 "p") NoLinks)) (returns 187 (number 194 2))) (Execute (returns 197 (number 204 0)) NoItems))))))))
    207) ∷ [])
    ≡ Some (fault region_rule 179)
lent_flow_16 = refl
