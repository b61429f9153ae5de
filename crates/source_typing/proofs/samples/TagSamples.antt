-- Tags in types: names of another kind, and second declarations.
use Rattle.std.proofs.Common.{◌≡◌, refl, Some, None, [], ◌∷◌}
use Rattle.cyc_tree.specs.declared.name.Sign.TheVariants as sign
use Rattle.cyc_tree.specs.Tree as tree
use Rattle.cyc_tree.specs.Tree.{Expression, NoExpressions, Initial, Statement, NoItems, Execute}
use Rattle.source_meaning.proofs.Trees.{pointer}
use Rattle.source_typing.specs.Answers.{first_fault}
use Rattle.source_typing.specs.Faults.{fault, name_rule, size_rule, type_rule}
use Rattle.source_typing.proofs.samples.SampleTrees.{name_at, type_at, int_at, number, returns, member, structure, global, routine, main_at, main_returns}

-- a global whose type names itself
-- struct x *x; int main() { x(); return 0; }
tag_1 : first_fault
    ((tree.GlobalItem (global (type_at 0 (tree.Struct (name_at 7 "x") []) (pointer (sign.Nullable 1) None ∷ [])) (name_at 10 "x") Initial.Unset)) ∷ (main_at 13
    (Execute (Statement.Run (Expression.Call (name_at 26 "x") NoExpressions)) (Execute (returns 31 (number 38 0)) NoItems)) 41) ∷ [])
    ≡ Some (fault type_rule 7)
tag_1 = refl

-- a function whose parameter names it
-- int f(struct f *p) { return 0; } int main() { f(); return 0; }
tag_2 : first_fault
    ((tree.FunctionItem (routine (int_at 0) (name_at 4 "f")
    ((member (type_at 6 (tree.Struct (name_at 13 "f") []) (pointer (sign.Nullable 1) None ∷ [])) (name_at
    16 "p")) ∷ []) None [] (Execute (returns 21 (number 28 0)) NoItems) 31)) ∷ (main_at 33 (Execute (Statement.Run (Expression.Call (name_at 46 "f")
    NoExpressions)) (Execute (returns 51 (number 58 0)) NoItems)) 61) ∷ [])
    ≡ Some (fault type_rule 13)
tag_2 = refl

-- two functions whose parameters name each other
-- int f(struct g *p) { return 0; } int g(struct f *p) { return 0; } int main() { return 0; }
tag_3 : first_fault
    ((tree.FunctionItem (routine (int_at 0) (name_at 4 "f")
    ((member (type_at 6 (tree.Struct (name_at 13 "g") []) (pointer (sign.Nullable 1) None ∷ [])) (name_at
    16 "p")) ∷ []) None [] (Execute (returns 21 (number 28 0)) NoItems) 31)) ∷ (tree.FunctionItem (routine (int_at 33) (name_at 37 "g") ((member (type_at 39
    (tree.Struct (name_at 46 "f") []) (pointer (sign.Nullable 1) None ∷ [])) (name_at 49 "p")) ∷ []) None [] (Execute (returns 54 (number 61 0)) NoItems) 64)) ∷
    (main_returns 66) ∷ [])
    ≡ Some (fault type_rule 13)
tag_3 = refl

-- a global that names one with a fault further on
-- struct y *x; struct z *y; int main() { return 0; }
tag_4 : first_fault
    ((tree.GlobalItem (global (type_at 0 (tree.Struct (name_at 7 "y") []) (pointer (sign.Nullable 1) None ∷ [])) (name_at 10 "x") Initial.Unset)) ∷
    (tree.GlobalItem (global (type_at 13 (tree.Struct (name_at 20 "z") []) (pointer (sign.Nullable 1) None ∷ [])) (name_at 23 "y") Initial.Unset)) ∷
    (main_returns 26) ∷ [])
    ≡ Some (fault type_rule 7)
tag_4 = refl

-- of two structs of a name the first is meant, which is small: the second, of 6,144 bytes, counts as nothing where the first is used
-- struct A { int a; int b; int c; int d; int e; int f; int g; int h; }; struct B { struct A a; struct A b; struct A c; struct A d; struct A e; struct A f;
-- struct A g; struct A h; }; struct C { struct B a; struct B b; struct B c; struct B d; struct B e; struct B f; struct B g; struct B h; }; struct S { int a;
-- }; struct S x; struct S { struct C a; struct C b; struct C c; }; int main() { return 0; }
tag_5 : first_fault
    ((tree.StructItem (structure 0 (name_at 7 "A") [] ((member (int_at 11) (name_at 15 "a")) ∷ (member (int_at 18) (name_at 22 "b")) ∷ (member (int_at 25)
    (name_at 29 "c")) ∷ (member (int_at 32) (name_at 36 "d")) ∷ (member (int_at 39) (name_at 43 "e")) ∷ (member (int_at 46) (name_at 50 "f")) ∷ (member
    (int_at 53) (name_at 57 "g")) ∷ (member (int_at 60) (name_at 64 "h")) ∷ []))) ∷ (tree.StructItem (structure 70 (name_at 77 "B") [] ((member (type_at 81
    (tree.Struct (name_at 88 "A") []) []) (name_at 90 "a")) ∷ (member (type_at 93 (tree.Struct (name_at 100 "A") []) []) (name_at 102 "b")) ∷ (member
    (type_at 105 (tree.Struct (name_at 112 "A") []) []) (name_at 114 "c")) ∷ (member (type_at 117 (tree.Struct (name_at 124 "A") []) []) (name_at 126 "d")) ∷
    (member (type_at 129 (tree.Struct (name_at 136 "A") []) []) (name_at 138 "e")) ∷ (member (type_at 141 (tree.Struct (name_at 148 "A") []) []) (name_at 150
    "f")) ∷ (member (type_at 153 (tree.Struct (name_at 160 "A") []) []) (name_at 162 "g")) ∷ (member (type_at 165 (tree.Struct (name_at 172 "A") []) [])
    (name_at 174 "h")) ∷ []))) ∷ (tree.StructItem (structure 180 (name_at 187 "C") [] ((member (type_at 191 (tree.Struct (name_at 198 "B") []) []) (name_at
    200 "a")) ∷ (member (type_at 203 (tree.Struct (name_at 210 "B") []) []) (name_at 212 "b")) ∷ (member (type_at 215 (tree.Struct (name_at 222 "B") []) [])
    (name_at 224 "c")) ∷ (member (type_at 227 (tree.Struct (name_at 234 "B") []) []) (name_at 236 "d")) ∷ (member (type_at 239 (tree.Struct (name_at 246 "B")
    []) []) (name_at 248 "e")) ∷ (member (type_at 251 (tree.Struct (name_at 258 "B") []) []) (name_at 260 "f")) ∷ (member (type_at 263 (tree.Struct (name_at
    270 "B") []) []) (name_at 272 "g")) ∷ (member (type_at 275 (tree.Struct (name_at 282 "B") []) []) (name_at 284 "h")) ∷ []))) ∷ (tree.StructItem
    (structure 290 (name_at 297 "S") [] ((member (int_at 301) (name_at 305 "a")) ∷ []))) ∷ (tree.GlobalItem (global (type_at 311 (tree.Struct (name_at 318
    "S") []) []) (name_at 320 "x") Initial.Unset)) ∷ (tree.StructItem (structure 323 (name_at 330 "S") [] ((member (type_at 334 (tree.Struct (name_at 341
    "C") []) []) (name_at 343 "a")) ∷ (member (type_at 346 (tree.Struct (name_at 353 "C") []) []) (name_at 355 "b")) ∷ (member (type_at 358 (tree.Struct
    (name_at 365 "C") []) []) (name_at 367 "c")) ∷ []))) ∷ (main_returns 373) ∷ [])
    ≡ Some (fault name_rule 330)
tag_5 = refl

-- and here the first one, of 4,096 bytes, is meant by a struct with a member of it and one more
-- struct A { int a; int b; int c; int d; int e; int f; int g; int h; }; struct B { struct A a; struct A b; struct A c; struct A d; struct A e; struct A f;
-- struct A g; struct A h; }; struct C { struct B a; struct B b; struct B c; struct B d; struct B e; struct B f; struct B g; struct B h; }; struct S { struct
-- C a; struct C b; }; struct T { struct S s; int b; }; struct S { int a; }; int main() { return 0; }
tag_6 : first_fault
    ((tree.StructItem (structure 0 (name_at 7 "A") [] ((member (int_at 11) (name_at 15 "a")) ∷ (member (int_at 18) (name_at 22 "b")) ∷ (member (int_at 25)
    (name_at 29 "c")) ∷ (member (int_at 32) (name_at 36 "d")) ∷ (member (int_at 39) (name_at 43 "e")) ∷ (member (int_at 46) (name_at 50 "f")) ∷ (member
    (int_at 53) (name_at 57 "g")) ∷ (member (int_at 60) (name_at 64 "h")) ∷ []))) ∷ (tree.StructItem (structure 70 (name_at 77 "B") [] ((member (type_at 81
    (tree.Struct (name_at 88 "A") []) []) (name_at 90 "a")) ∷ (member (type_at 93 (tree.Struct (name_at 100 "A") []) []) (name_at 102 "b")) ∷ (member
    (type_at 105 (tree.Struct (name_at 112 "A") []) []) (name_at 114 "c")) ∷ (member (type_at 117 (tree.Struct (name_at 124 "A") []) []) (name_at 126 "d")) ∷
    (member (type_at 129 (tree.Struct (name_at 136 "A") []) []) (name_at 138 "e")) ∷ (member (type_at 141 (tree.Struct (name_at 148 "A") []) []) (name_at 150
    "f")) ∷ (member (type_at 153 (tree.Struct (name_at 160 "A") []) []) (name_at 162 "g")) ∷ (member (type_at 165 (tree.Struct (name_at 172 "A") []) [])
    (name_at 174 "h")) ∷ []))) ∷ (tree.StructItem (structure 180 (name_at 187 "C") [] ((member (type_at 191 (tree.Struct (name_at 198 "B") []) []) (name_at
    200 "a")) ∷ (member (type_at 203 (tree.Struct (name_at 210 "B") []) []) (name_at 212 "b")) ∷ (member (type_at 215 (tree.Struct (name_at 222 "B") []) [])
    (name_at 224 "c")) ∷ (member (type_at 227 (tree.Struct (name_at 234 "B") []) []) (name_at 236 "d")) ∷ (member (type_at 239 (tree.Struct (name_at 246 "B")
    []) []) (name_at 248 "e")) ∷ (member (type_at 251 (tree.Struct (name_at 258 "B") []) []) (name_at 260 "f")) ∷ (member (type_at 263 (tree.Struct (name_at
    270 "B") []) []) (name_at 272 "g")) ∷ (member (type_at 275 (tree.Struct (name_at 282 "B") []) []) (name_at 284 "h")) ∷ []))) ∷ (tree.StructItem
    (structure 290 (name_at 297 "S") [] ((member (type_at 301 (tree.Struct (name_at 308 "C") []) []) (name_at 310 "a")) ∷ (member (type_at 313 (tree.Struct
    (name_at 320 "C") []) []) (name_at 322 "b")) ∷ []))) ∷ (tree.StructItem (structure 328 (name_at 335 "T") [] ((member (type_at 339 (tree.Struct (name_at
    346 "S") []) []) (name_at 348 "s")) ∷ (member (int_at 351) (name_at 355 "b")) ∷ []))) ∷ (tree.StructItem (structure 361 (name_at 368 "S") [] ((member
    (int_at 372) (name_at 376 "a")) ∷ []))) ∷ (main_returns 382) ∷ [])
    ≡ Some (fault size_rule 335)
tag_6 = refl

-- of a global and a struct of a name the global is meant, so that no type is of the struct
-- struct T { struct S *p; }; int S; struct S { int a; }; int main() { return 0; }
tag_7 : first_fault
    ((tree.StructItem (structure 0 (name_at 7 "T") [] ((member (type_at 11 (tree.Struct (name_at 18 "S") []) (pointer (sign.Nullable 1) None ∷ [])) (name_at
    21 "p")) ∷ []))) ∷ (tree.GlobalItem (global (int_at 27) (name_at 31 "S") Initial.Unset)) ∷ (tree.StructItem (structure 34 (name_at 41 "S") [] ((member
    (int_at 45) (name_at 49 "a")) ∷ []))) ∷ (main_returns 55) ∷ [])
    ≡ Some (fault type_rule 18)
tag_7 = refl

-- and of a union and a struct the union
-- struct T { struct S *p; }; union S { int a; }; struct S { int a; }; int main() { return 0; }
tag_8 : first_fault
    ((tree.StructItem (structure 0 (name_at 7 "T") [] ((member (type_at 11 (tree.Struct (name_at 18 "S") []) (pointer (sign.Nullable 1) None ∷ [])) (name_at
    21 "p")) ∷ []))) ∷ (tree.UnionItem (structure 27 (name_at 33 "S") [] ((member (int_at 37) (name_at 41 "a")) ∷ []))) ∷ (tree.StructItem (structure 47
    (name_at 54 "S") [] ((member (int_at 58) (name_at 62 "a")) ∷ []))) ∷ (main_returns 68) ∷ [])
    ≡ Some (fault type_rule 18)
tag_8 = refl

-- a struct that names itself as a union
-- struct S { union S *p; }; int main() { return 0; }
tag_9 : first_fault
    ((tree.StructItem (structure 0 (name_at 7 "S") [] ((member (type_at 11 (tree.Union (name_at 17 "S") []) (pointer (sign.Nullable 1) None ∷ [])) (name_at
    20 "p")) ∷ []))) ∷ (main_returns 26) ∷ [])
    ≡ Some (fault type_rule 17)
tag_9 = refl

-- a union that names itself as a struct
-- union U { struct U *p; }; int main() { return 0; }
tag_10 : first_fault
    ((tree.UnionItem (structure 0 (name_at 6 "U") [] ((member (type_at 10 (tree.Struct (name_at 17 "U") []) (pointer (sign.Nullable 1) None ∷ [])) (name_at
    20 "p")) ∷ []))) ∷ (main_returns 26) ∷ [])
    ≡ Some (fault type_rule 17)
tag_10 = refl

-- a union that is a member of itself
-- union U { int a; union U u; }; int main() { return 0; }
tag_11 : first_fault
    ((tree.UnionItem (structure 0 (name_at 6 "U") [] ((member (int_at 10) (name_at 14 "a")) ∷ (member (type_at 17 (tree.Union (name_at 23 "U") []) [])
    (name_at 25 "u")) ∷ []))) ∷ (main_returns 31) ∷ [])
    ≡ Some (fault type_rule 17)
tag_11 = refl

-- what has a fault by itself isn't checked within itself
-- struct S { struct S s; int x; int x; }; int main() { return 0; }
tag_12 : first_fault
    ((tree.StructItem (structure 0 (name_at 7 "S") [] ((member (type_at 11 (tree.Struct (name_at 18 "S") []) []) (name_at 20 "s")) ∷ (member (int_at 23)
    (name_at 27 "x")) ∷ (member (int_at 30) (name_at 34 "x")) ∷ []))) ∷ (main_returns 40) ∷ [])
    ≡ Some (fault name_rule 34)
tag_12 = refl

-- and a fault of such a use is the tag's
-- struct S { struct S ?`U p; }; int main() { return 0; }
tag_13 : first_fault
    ((tree.StructItem (structure 0 (name_at 7 "S") [] ((member (type_at 11 (tree.Struct (name_at 18 "S") []) (pointer sign.Fat (Some (tree.Unique 21)) ∷ []))
    (name_at 24 "p")) ∷ []))) ∷ (main_returns 30) ∷ [])
    ≡ Some (fault type_rule 11)
tag_13 = refl
