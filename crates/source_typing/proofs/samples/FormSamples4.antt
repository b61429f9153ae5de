-- Forms and places.
use Rattle.std.proofs.Common.{◌≡◌, refl, Some, None, [], ◌∷◌}
use Rattle.cyc_tree.specs.declared.expression.Operator.TheVariants.{Equal}
use Rattle.cyc_tree.specs.declared.expression.Prefix.TheVariants.{AddressOf}
use Rattle.cyc_tree.specs.declared.name.Sign.TheVariants as sign
use Rattle.cyc_tree.specs.Tree as tree
use Rattle.cyc_tree.specs.Tree.{Expression, NoLinks, MoreLinks, NoSuffixes, Index, Arrow, One, Initializer, Statement, NoItems, Declare, Execute}
use Rattle.source_meaning.proofs.Trees.{pointer}
use Rattle.source_typing.specs.Faults.{fault, type_rule, region_rule, outlives_rule}
use Rattle.source_typing.specs.Answers.{first_fault}
use Rattle.source_typing.proofs.samples.SampleTrees.{name_at, region_at, type_at, int_at, number, variable_at, returns, member, structure, bound, routine}
use Rattle.source_typing.proofs.samples.SampleTrees.{main_at, main_returns}

-- struct S<`r> { int *`r p; }; void f(struct S<`a, `b> *s) { } int main() { return 0; }
form_109 : first_fault
    ((tree.StructItem (structure 0 (name_at 7 "S") ((region_at 9 "r") ∷ [])
    ((member (type_at 15 tree.Int ((pointer (sign.Nullable 1) (Some (region_at 20 "r"))) ∷
    [])) (name_at 23 "p")) ∷ []))) ∷ (tree.FunctionItem (routine (type_at 29 tree.Void []) (name_at 34 "f") ((member (type_at 36 (tree.Struct (name_at 43 "S")
    ((region_at 45 "a") ∷ (region_at 49 "b") ∷ [])) ((pointer (sign.Nullable 1) None) ∷ [])) (name_at 54 "s")) ∷ []) None [] NoItems 59))
    ∷ (main_returns 61) ∷ [])
    ≡ Some (fault region_rule 36)
form_109 = refl

-- @tagged union U<`r> { int *`r p; }; void f(union U<`a, `b> *s) { } int main() { return 0; }
form_110 : first_fault
    ((tree.UnionItem (structure 0 (name_at 14 "U") ((region_at 16 "r") ∷ [])
    ((member (type_at 22 tree.Int ((pointer (sign.Nullable 1) (Some (region_at 27 "r"))) ∷
    [])) (name_at 30 "p")) ∷ []))) ∷ (tree.FunctionItem (routine (type_at 36 tree.Void []) (name_at 41 "f") ((member (type_at 43 (tree.Union (name_at 49 "U")
    ((region_at 51 "a") ∷ (region_at 55 "b") ∷ [])) ((pointer (sign.Nullable 1) None) ∷ [])) (name_at 60 "s")) ∷ []) None [] NoItems 65))
    ∷ (main_returns 67) ∷ [])
    ≡ Some (fault region_rule 43)
form_110 = refl

-- struct S<`r> { int *`r p; }; void f(struct S<`U> *s) { } int main() { return 0; }
form_111 : first_fault
    ((tree.StructItem (structure 0 (name_at 7 "S") ((region_at 9 "r") ∷ [])
    ((member (type_at 15 tree.Int ((pointer (sign.Nullable 1) (Some (region_at 20 "r"))) ∷
    [])) (name_at 23 "p")) ∷ []))) ∷ (tree.FunctionItem (routine (type_at 29 tree.Void []) (name_at 34 "f") ((member (type_at 36 (tree.Struct (name_at 43 "S")
    ((tree.Unique 45) ∷ [])) ((pointer (sign.Nullable 1) None) ∷ [])) (name_at 50 "s")) ∷ []) None [] NoItems 55)) ∷ (main_returns 57) ∷ [])
    ≡ Some (fault region_rule 45)
form_111 = refl

-- void f(region_t<`U> h) { } int main() { return 0; }
form_112 : first_fault
    ((tree.FunctionItem (routine (type_at 0 tree.Void []) (name_at 5 "f") ((member (type_at 7 (tree.Handle (tree.Unique 16)) []) (name_at 20 "h")) ∷ []) None
    [] NoItems 25)) ∷ (main_returns 27) ∷ [])
    ≡ Some (fault region_rule 16)
form_112 = refl

-- a region name is a phrase by itself
-- int main() { struct S<`q> *p = NULL; return 0; } struct S<`r> { void x; };
form_113 : first_fault
    ((main_at 0 (Declare (tree.Local (type_at 13 (tree.Struct (name_at 20 "S") ((region_at 22 "q") ∷ [])) ((pointer (sign.Nullable 1) None) ∷ []))
    (name_at 27 "p")
    (Initializer.Value (Expression.Null 31))) (Execute (returns 37 (number 44 0)) NoItems)) 47) ∷ (tree.StructItem (structure 49 (name_at 56 "S") ((region_at
    58 "r") ∷ []) ((member (type_at 64 tree.Void []) (name_at 69 "x")) ∷ []))) ∷ [])
    ≡ Some (fault region_rule 22)
form_113 = refl

-- int main() { region_t<`U> h = heap_region; return 0; }
form_114 : first_fault
    ((main_at 0 (Declare (tree.Local (type_at 13 (tree.Handle (tree.Unique 22)) []) (name_at 26 "h") (Initializer.Value (Expression.HeapRegion 30))) (Execute
    (returns 43 (number 50 0)) NoItems)) 53) ∷ [])
    ≡ Some (fault region_rule 22)
form_114 = refl

-- void f(int *`a p; {`b}) { } int main() { return 0; }
form_115 : first_fault
    ((tree.FunctionItem (routine (type_at 0 tree.Void []) (name_at 5 "f") ((member (type_at 7 tree.Int ((pointer (sign.Nullable 1) (Some (region_at 12 "a"))) ∷
    [])) (name_at 15 "p")) ∷ []) (Some ((region_at 19 "b") ∷ [])) [] NoItems 26)) ∷ (main_returns 28) ∷ [])
    ≡ Some (fault region_rule 19)
form_115 = refl

-- void f(int *`a p; {`U}) { } int main() { return 0; }
form_116 : first_fault
    ((tree.FunctionItem (routine (type_at 0 tree.Void []) (name_at 5 "f") ((member (type_at 7 tree.Int ((pointer (sign.Nullable 1) (Some (region_at 12 "a"))) ∷
    [])) (name_at 15 "p")) ∷ []) (Some ((tree.Unique 19) ∷ [])) [] NoItems 26)) ∷ (main_returns 28) ∷ [])
    ≡ Some (fault region_rule 19)
form_116 = refl

-- void f(int *`a p : `b > `a) { } int main() { return 0; }
form_117 : first_fault
    ((tree.FunctionItem (routine (type_at 0 tree.Void []) (name_at 5 "f") ((member (type_at 7 tree.Int ((pointer (sign.Nullable 1) (Some (region_at 12 "a"))) ∷
    [])) (name_at 15 "p")) ∷ []) None ((bound (region_at 19 "b") (region_at 24 "a")) ∷ []) NoItems 30)) ∷ (main_returns 32) ∷ [])
    ≡ Some (fault region_rule 19)
form_117 = refl

-- int *`a f() { return NULL; } int main() { return 0; }
form_118 : first_fault
    ((tree.FunctionItem (routine (type_at 0 tree.Int ((pointer (sign.Nullable 1) (Some (region_at 5 "a"))) ∷ [])) (name_at 8 "f") [] None []
    (Execute (returns 14
    (Expression.Null 21)) NoItems) 27)) ∷ (main_returns 29) ∷ [])
    ≡ Some (fault region_rule 5)
form_118 = refl

-- void f(int *`a p; {`H} : `H > `a) { } int main() { return 0; }
form_119 : first_fault
    ((tree.FunctionItem (routine (type_at 0 tree.Void []) (name_at 5 "f") ((member (type_at 7 tree.Int ((pointer (sign.Nullable 1) (Some (region_at 12 "a"))) ∷
    [])) (name_at 15 "p")) ∷ []) (Some ((tree.Heap 19) ∷ [])) ((bound (tree.Heap 25) (region_at 30 "a")) ∷ []) NoItems 36)) ∷ (main_returns 38) ∷ [])
    ≡ None
form_119 = refl

-- int f(int ?`a p; {}) { return p[0]; } int main() { return 0; }
form_120 : first_fault
    ((tree.FunctionItem (routine (int_at 0) (name_at 4 "f") ((member (type_at 6 tree.Int ((pointer sign.Fat (Some (region_at 11 "a"))) ∷ [])) (name_at 14 "p"))
    ∷ []) (Some []) [] (Execute (Statement.Return 23 (Some (Expression.Suffixed (variable_at 30 "p") (Index (number 32 0) NoSuffixes)))) NoItems) 36)) ∷
    (main_returns 38) ∷ [])
    ≡ Some (fault region_rule 30)
form_120 = refl

-- struct S { int x; }; int f(struct S *`a p; {}) { return p->x; } int main() { return 0; }
form_121 : first_fault
    ((tree.StructItem (structure 0 (name_at 7 "S") [] ((member (int_at 11) (name_at 15 "x")) ∷ []))) ∷ (tree.FunctionItem (routine (int_at 21) (name_at 25 "f")
    ((member (type_at 27 (tree.Struct (name_at 34 "S") []) ((pointer (sign.Nullable 1) (Some (region_at 37 "a"))) ∷ [])) (name_at 40 "p")) ∷ []) (Some []) []
    (Execute (Statement.Return 49 (Some (Expression.Suffixed (variable_at 56 "p") (Arrow (name_at 59 "x") NoSuffixes)))) NoItems) 62)) ∷ (main_returns 64) ∷
    [])
    ≡ Some (fault region_rule 56)
form_121 = refl

-- int f(int *`a p; {}) { if (p == NULL) return 1; return p == p; } int main() { return 0; }
form_122 : first_fault
    ((tree.FunctionItem (routine (int_at 0) (name_at 4 "f")
    ((member (type_at 6 tree.Int ((pointer (sign.Nullable 1) (Some (region_at 11 "a"))) ∷ [])) (name_at 14
    "p")) ∷ []) (Some []) [] (Execute (Statement.If 23 (Expression.Chain (variable_at 27 "p") (MoreLinks Equal (Expression.Null 32) NoLinks)) (returns 38
    (number 45 1))) (Execute (Statement.Return 48 (Some (Expression.Chain (variable_at 55 "p") (MoreLinks Equal (variable_at 60 "p") NoLinks)))) NoItems))
    63)) ∷ (main_returns 65) ∷ [])
    ≡ Some (fault region_rule 55)
form_122 = refl

-- int main() { int a[2]; int *`H p = a; return 0; }
form_123 : first_fault
    ((main_at 0 (Declare (tree.Local (int_at 13) (name_at 17 "a") (Initializer.Elements 2))
    (Declare (tree.Local (type_at 23 tree.Int ((pointer (sign.Nullable 1)
    (Some (tree.Heap 28))) ∷ [])) (name_at 31 "p") (Initializer.Value (variable_at 35 "a"))) (Execute (returns 38 (number 45 0)) NoItems))) 48) ∷ [])
    ≡ Some (fault outlives_rule 35)
form_123 = refl

-- int main() { int a[2]; int ?`H p = a; return 0; }
form_124 : first_fault
    ((main_at 0 (Declare (tree.Local (int_at 13) (name_at 17 "a") (Initializer.Elements 2)) (Declare (tree.Local (type_at 23 tree.Int ((pointer sign.Fat (Some
    (tree.Heap 28))) ∷ [])) (name_at 31 "p") (Initializer.Value (variable_at 35 "a"))) (Execute (returns 38 (number 45 0)) NoItems))) 48) ∷ [])
    ≡ Some (fault outlives_rule 35)
form_124 = refl

-- int main() { int x; int ?`H p = &x; return 0; }
form_125 : first_fault
    ((main_at 0 (Declare (tree.Local (int_at 13) (name_at 17 "x") Initializer.Unset) (Declare (tree.Local (type_at 20 tree.Int ((pointer sign.Fat (Some
    (tree.Heap 25))) ∷ [])) (name_at 28 "p") (Initializer.Value (Expression.Prefixed 32 AddressOf (variable_at 33 "x")))) (Execute (returns 36 (number 43 0))
    NoItems))) 46) ∷ [])
    ≡ Some (fault outlives_rule 32)
form_125 = refl

-- int main() { int x; char *p = &x; return 0; }
form_126 : first_fault
    ((main_at 0 (Declare (tree.Local (int_at 13) (name_at 17 "x") Initializer.Unset)
    (Declare (tree.Local (type_at 20 tree.Char ((pointer (sign.Nullable 1) None) ∷
    [])) (name_at 26 "p") (Initializer.Value (Expression.Prefixed 30 AddressOf (variable_at 31 "x")))) (Execute (returns 34 (number 41 0)) NoItems))) 44) ∷ [])
    ≡ Some (fault type_rule 30)
form_126 = refl

-- int main() { int x; int *p = &x; int *`H *`H q = new p; return 0; }
form_127 : first_fault
    ((main_at 0 (Declare (tree.Local (int_at 13) (name_at 17 "x") Initializer.Unset)
    (Declare (tree.Local (type_at 20 tree.Int ((pointer (sign.Nullable 1) None) ∷
    [])) (name_at 25 "p") (Initializer.Value (Expression.Prefixed 29 AddressOf (variable_at 30 "x")))) (Declare (tree.Local (type_at 33 tree.Int ((pointer
    (sign.Nullable 1) (Some (tree.Heap 38))) ∷ (pointer (sign.Nullable 1) (Some (tree.Heap 42))) ∷ [])) (name_at 45 "q")
    (Initializer.Value (Expression.New 49 (One
    (variable_at 53 "p"))))) (Execute (returns 56 (number 63 0)) NoItems)))) 66) ∷ [])
    ≡ Some (fault outlives_rule 49)
form_127 = refl

-- int main() { int x; int *`U p = &x; return 0; }
form_128 : first_fault
    ((main_at 0 (Declare (tree.Local (int_at 13) (name_at 17 "x") Initializer.Unset) (Declare (tree.Local (type_at 20 tree.Int ((pointer (sign.Nullable 1) (Some
    (tree.Unique 25))) ∷ [])) (name_at 28 "p") (Initializer.Value (Expression.Prefixed 32 AddressOf (variable_at 33 "x")))) (Execute (returns 36 (number 43
    0)) NoItems))) 46) ∷ [])
    ≡ Some (fault region_rule 32)
form_128 = refl

-- int main() { int *`U p = NULL; int *`H q = p; return 0; }
form_129 : first_fault
    ((main_at 0 (Declare (tree.Local (type_at 13 tree.Int ((pointer (sign.Nullable 1) (Some (tree.Unique 18))) ∷ [])) (name_at 21 "p") (Initializer.Value
    (Expression.Null 25))) (Declare (tree.Local (type_at 31 tree.Int ((pointer (sign.Nullable 1) (Some (tree.Heap 36))) ∷ [])) (name_at 39 "q")
    (Initializer.Value
    (variable_at 43 "p"))) (Execute (returns 46 (number 53 0)) NoItems))) 56) ∷ [])
    ≡ Some (fault region_rule 43)
form_129 = refl

-- int f(int ?`r p) { int *`U q = p; return 0; } int main() { return 0; }
form_130 : first_fault
    ((tree.FunctionItem (routine (int_at 0) (name_at 4 "f") ((member (type_at 6 tree.Int ((pointer sign.Fat (Some (region_at 11 "r"))) ∷ [])) (name_at 14 "p"))
    ∷ []) None [] (Declare (tree.Local (type_at 19 tree.Int ((pointer (sign.Nullable 1) (Some (tree.Unique 24))) ∷ [])) (name_at 27 "q") (Initializer.Value
    (variable_at 31 "p"))) (Execute (returns 34 (number 41 0)) NoItems)) 44)) ∷ (main_returns 46) ∷ [])
    ≡ Some (fault region_rule 31)
form_130 = refl

-- int f(int *`U p) { int ?`H q = p; return 0; } int main() { return 0; }
form_131 : first_fault
    ((tree.FunctionItem (routine (int_at 0) (name_at 4 "f") ((member (type_at 6 tree.Int ((pointer (sign.Nullable 1) (Some (tree.Unique 11))) ∷ [])) (name_at 14
    "p")) ∷ []) None [] (Declare (tree.Local (type_at 19 tree.Int ((pointer sign.Fat (Some (tree.Heap 24))) ∷ [])) (name_at 27 "q") (Initializer.Value
    (variable_at 31 "p"))) (Execute (returns 34 (number 41 0)) NoItems)) 44)) ∷ (main_returns 46) ∷ [])
    ≡ Some (fault region_rule 31)
form_131 = refl

-- int f(int *`r *`U p) { int *`H *`U q = p; return 0; } int main() { return 0; }
form_132 : first_fault
    ((tree.FunctionItem (routine (int_at 0) (name_at 4 "f") ((member (type_at 6 tree.Int ((pointer (sign.Nullable 1) (Some (region_at 11 "r"))) ∷ (pointer
    (sign.Nullable 1) (Some (tree.Unique 15))) ∷ [])) (name_at 18 "p")) ∷ []) None []
    (Declare (tree.Local (type_at 23 tree.Int ((pointer (sign.Nullable 1) (Some
    (tree.Heap 28))) ∷ (pointer (sign.Nullable 1) (Some (tree.Unique 32))) ∷ [])) (name_at 35 "q") (Initializer.Value (variable_at 39 "p")))
    (Execute (returns 42
    (number 49 0)) NoItems)) 52)) ∷ (main_returns 54) ∷ [])
    ≡ Some (fault outlives_rule 39)
form_132 = refl

-- int f(char *`U p) { int *`U q = p; return 0; } int main() { return 0; }
form_133 : first_fault
    ((tree.FunctionItem (routine (int_at 0) (name_at 4 "f")
    ((member (type_at 6 tree.Char ((pointer (sign.Nullable 1) (Some (tree.Unique 12))) ∷ [])) (name_at 15
    "p")) ∷ []) None [] (Declare (tree.Local (type_at 20 tree.Int ((pointer (sign.Nullable 1) (Some (tree.Unique 25))) ∷ [])) (name_at 28 "q")
    (Initializer.Value
    (variable_at 32 "p"))) (Execute (returns 35 (number 42 0)) NoItems)) 45)) ∷ (main_returns 47) ∷ [])
    ≡ Some (fault type_rule 32)
form_133 = refl

-- what outlives a region of the effect outlives the stack
-- int f(int *`a p, int *`b q; {`b} : `a > `b) { int y; int *r = &y; r = p; return 0; } int main() { return 0; }
form_134 : first_fault
    ((tree.FunctionItem (routine (int_at 0) (name_at 4 "f")
    ((member (type_at 6 tree.Int ((pointer (sign.Nullable 1) (Some (region_at 11 "a"))) ∷ [])) (name_at 14
    "p")) ∷ (member (type_at 17 tree.Int ((pointer (sign.Nullable 1) (Some (region_at 22 "b"))) ∷ [])) (name_at 25 "q")) ∷ []) (Some ((region_at 29 "b") ∷ []))
    ((bound (region_at 35 "a") (region_at 40 "b")) ∷ []) (Declare (tree.Local (int_at 46) (name_at 50 "y") Initializer.Unset) (Declare (tree.Local (type_at 53
    tree.Int ((pointer (sign.Nullable 1) None) ∷ [])) (name_at 58 "r") (Initializer.Value (Expression.Prefixed 62 AddressOf (variable_at 63 "y")))) (Execute
    (Statement.Run (Expression.Assign (variable_at 66 "r") (variable_at 70 "p"))) (Execute (returns 73 (number 80 0)) NoItems)))) 83)) ∷ (main_returns 85) ∷
    [])
    ≡ None
form_134 = refl

-- int f(int *`a p, int *`b q; {`b}) { int y; int *r = &y; r = p; return 0; } int main() { return 0; }
form_135 : first_fault
    ((tree.FunctionItem (routine (int_at 0) (name_at 4 "f")
    ((member (type_at 6 tree.Int ((pointer (sign.Nullable 1) (Some (region_at 11 "a"))) ∷ [])) (name_at 14
    "p")) ∷ (member (type_at 17 tree.Int ((pointer (sign.Nullable 1) (Some (region_at 22 "b"))) ∷ [])) (name_at 25 "q")) ∷ [])
    (Some ((region_at 29 "b") ∷ [])) []
    (Declare (tree.Local (int_at 36) (name_at 40 "y") Initializer.Unset) (Declare (tree.Local (type_at 43 tree.Int ((pointer (sign.Nullable 1) None) ∷ []))
    (name_at 48 "r") (Initializer.Value (Expression.Prefixed 52 AddressOf (variable_at 53 "y")))) (Execute (Statement.Run (Expression.Assign (variable_at 56
    "r") (variable_at 60 "p"))) (Execute (returns 63 (number 70 0)) NoItems)))) 73)) ∷ (main_returns 75) ∷ [])
    ≡ Some (fault outlives_rule 60)
form_135 = refl

-- an alias region is below the heap alone
-- int f(int *`U p) { int x; int *q = &x; let alias<`r> int *`r y = p; y = q; return 0; } int main() { return 0; }
form_136 : first_fault
    ((tree.FunctionItem (routine (int_at 0) (name_at 4 "f") ((member (type_at 6 tree.Int ((pointer (sign.Nullable 1) (Some (tree.Unique 11))) ∷ [])) (name_at 14
    "p")) ∷ []) None [] (Declare (tree.Local (int_at 19) (name_at 23 "x") Initializer.Unset)
    (Declare (tree.Local (type_at 26 tree.Int ((pointer (sign.Nullable 1)
    None) ∷ [])) (name_at 31 "q") (Initializer.Value (Expression.Prefixed 35 AddressOf (variable_at 36 "x")))) (Declare (tree.Alias 39 (region_at 49 "r")
    (type_at 53 tree.Int ((pointer (sign.Nullable 1) (Some (region_at 58 "r"))) ∷ [])) (name_at 61 "y") (name_at 65 "p")) (Execute (Statement.Run
    (Expression.Assign (variable_at 68 "y") (variable_at 72 "q"))) (Execute (returns 75 (number 82 0)) NoItems))))) 85)) ∷ (main_returns 87) ∷ [])
    ≡ Some (fault outlives_rule 72)
form_136 = refl

-- int f(int *`U p, int *`H q) { let alias<`r> int *`r y = p; y = q; return 0; } int main() { return 0; }
form_137 : first_fault
    ((tree.FunctionItem (routine (int_at 0) (name_at 4 "f") ((member (type_at 6 tree.Int ((pointer (sign.Nullable 1) (Some (tree.Unique 11))) ∷ [])) (name_at 14
    "p")) ∷ (member (type_at 17 tree.Int ((pointer (sign.Nullable 1) (Some (tree.Heap 22))) ∷ [])) (name_at 25 "q")) ∷ []) None [] (Declare (tree.Alias 30
    (region_at 40 "r") (type_at 44 tree.Int ((pointer (sign.Nullable 1) (Some (region_at 49 "r"))) ∷ [])) (name_at 52 "y") (name_at 56 "p")) (Execute
    (Statement.Run (Expression.Assign (variable_at 59 "y") (variable_at 63 "q"))) (Execute (returns 66 (number 73 0)) NoItems))) 76)) ∷ (main_returns 78) ∷ [])
    ≡ None
form_137 = refl

-- int main() { region<`r> h; int *`r p = rnew(h) 1; int *`H q = p; return 0; }
form_138 : first_fault
    ((main_at 0 (Declare (tree.Region 13 (region_at 20 "r") (name_at 24 "h")) (Declare (tree.Local (type_at 27 tree.Int ((pointer (sign.Nullable 1) (Some
    (region_at 32 "r"))) ∷ [])) (name_at 35 "p") (Initializer.Value (Expression.NewIn 39 (variable_at 44 "h") (One (number 47 1))))) (Declare (tree.Local
    (type_at 50 tree.Int ((pointer (sign.Nullable 1) (Some (tree.Heap 55))) ∷ [])) (name_at 58 "q") (Initializer.Value (variable_at 62 "p")))
    (Execute (returns 65
    (number 72 0)) NoItems)))) 75) ∷ [])
    ≡ Some (fault outlives_rule 62)
form_138 = refl
