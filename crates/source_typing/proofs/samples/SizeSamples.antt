-- Sizes of structs, arrays and strings.
use Rattle.std.proofs.Common.{◌≡◌, refl, Some, None, [], ◌∷◌}
use Rattle.std.specs.Prelude.{replicate}
use Rattle.cyc_tree.specs.declared.name.Sign.TheVariants as sign
use Rattle.cyc_tree.specs.Tree as tree
use Rattle.cyc_tree.specs.Tree.{Expression, NoSuffixes, Index, Dot, Initializer, Statement, NoItems, Declare, Execute, Constant, Initial}
use Rattle.source_meaning.proofs.Trees.{pointer}
use Rattle.source_typing.specs.Faults.{fault, type_rule, size_rule}
use Rattle.source_typing.specs.Answers.{first_fault}
use Rattle.source_typing.proofs.samples.SampleTrees.{name_at, type_at, int_at, number, variable_at, returns, member, structure, global, main_at}
use Rattle.source_typing.proofs.samples.SampleTrees.{main_returns}

-- a struct of 4,096 bytes
-- struct A { int a; int b; int c; int d; int e; int f; int g; int h; }; struct B { struct A a; struct A b; struct A c; struct A d; struct A e; struct A f;
-- struct A g; struct A h; }; struct C { struct B a; struct B b; struct B c; struct B d; struct B e; struct B f; struct B g; struct B h; }; struct D { struct C
-- a; struct C b; }; int main() { return 0; }
size_1 : first_fault
    ((tree.StructItem (structure 0 (name_at 7 "A") [] ((member (int_at 11) (name_at 15 "a")) ∷ (member (int_at 18) (name_at 22 "b")) ∷ (member (int_at 25)
    (name_at 29 "c")) ∷ (member (int_at 32) (name_at 36 "d")) ∷ (member (int_at 39) (name_at 43 "e")) ∷ (member (int_at 46) (name_at 50 "f")) ∷ (member
    (int_at 53) (name_at 57 "g")) ∷ (member (int_at 60) (name_at 64 "h")) ∷ []))) ∷ (tree.StructItem (structure 70 (name_at 77 "B") [] ((member (type_at 81
    (tree.Struct (name_at 88 "A") []) []) (name_at 90 "a")) ∷ (member (type_at 93 (tree.Struct (name_at 100 "A") []) []) (name_at 102 "b")) ∷ (member (type_at
    105 (tree.Struct (name_at 112 "A") []) []) (name_at 114 "c")) ∷ (member (type_at 117 (tree.Struct (name_at 124 "A") []) []) (name_at 126 "d")) ∷ (member
    (type_at 129 (tree.Struct (name_at 136 "A") []) []) (name_at 138 "e")) ∷ (member (type_at 141 (tree.Struct (name_at 148 "A") []) []) (name_at 150 "f")) ∷
    (member (type_at 153 (tree.Struct (name_at 160 "A") []) []) (name_at 162 "g")) ∷ (member (type_at 165 (tree.Struct (name_at 172 "A") []) []) (name_at 174
    "h")) ∷ []))) ∷ (tree.StructItem (structure 180 (name_at 187 "C") [] ((member (type_at 191 (tree.Struct (name_at 198 "B") []) []) (name_at 200 "a")) ∷
    (member (type_at 203 (tree.Struct (name_at 210 "B") []) []) (name_at 212 "b")) ∷ (member (type_at 215 (tree.Struct (name_at 222 "B") []) []) (name_at 224
    "c")) ∷ (member (type_at 227 (tree.Struct (name_at 234 "B") []) []) (name_at 236 "d")) ∷ (member (type_at 239 (tree.Struct (name_at 246 "B") []) [])
    (name_at 248 "e")) ∷ (member (type_at 251 (tree.Struct (name_at 258 "B") []) []) (name_at 260 "f")) ∷ (member (type_at 263 (tree.Struct (name_at 270 "B")
    []) []) (name_at 272 "g")) ∷ (member (type_at 275 (tree.Struct (name_at 282 "B") []) []) (name_at 284 "h")) ∷ []))) ∷ (tree.StructItem (structure 290
    (name_at 297 "D") [] ((member (type_at 301 (tree.Struct (name_at 308 "C") []) []) (name_at 310 "a")) ∷ (member (type_at 313 (tree.Struct (name_at 320 "C")
    []) []) (name_at 322 "b")) ∷ []))) ∷ (main_returns 328) ∷ [])
    ≡ None
size_1 = refl

-- one of a byte more, and so of 4,100
-- struct A { int a; int b; int c; int d; int e; int f; int g; int h; }; struct B { struct A a; struct A b; struct A c; struct A d; struct A e; struct A f;
-- struct A g; struct A h; }; struct C { struct B a; struct B b; struct B c; struct B d; struct B e; struct B f; struct B g; struct B h; }; struct D { struct C
-- a; struct C b; char c; }; int main() { return 0; }
size_2 : first_fault
    ((tree.StructItem (structure 0 (name_at 7 "A") [] ((member (int_at 11) (name_at 15 "a")) ∷ (member (int_at 18) (name_at 22 "b")) ∷ (member (int_at 25)
    (name_at 29 "c")) ∷ (member (int_at 32) (name_at 36 "d")) ∷ (member (int_at 39) (name_at 43 "e")) ∷ (member (int_at 46) (name_at 50 "f")) ∷ (member
    (int_at 53) (name_at 57 "g")) ∷ (member (int_at 60) (name_at 64 "h")) ∷ []))) ∷ (tree.StructItem (structure 70 (name_at 77 "B") [] ((member (type_at 81
    (tree.Struct (name_at 88 "A") []) []) (name_at 90 "a")) ∷ (member (type_at 93 (tree.Struct (name_at 100 "A") []) []) (name_at 102 "b")) ∷ (member (type_at
    105 (tree.Struct (name_at 112 "A") []) []) (name_at 114 "c")) ∷ (member (type_at 117 (tree.Struct (name_at 124 "A") []) []) (name_at 126 "d")) ∷ (member
    (type_at 129 (tree.Struct (name_at 136 "A") []) []) (name_at 138 "e")) ∷ (member (type_at 141 (tree.Struct (name_at 148 "A") []) []) (name_at 150 "f")) ∷
    (member (type_at 153 (tree.Struct (name_at 160 "A") []) []) (name_at 162 "g")) ∷ (member (type_at 165 (tree.Struct (name_at 172 "A") []) []) (name_at 174
    "h")) ∷ []))) ∷ (tree.StructItem (structure 180 (name_at 187 "C") [] ((member (type_at 191 (tree.Struct (name_at 198 "B") []) []) (name_at 200 "a")) ∷
    (member (type_at 203 (tree.Struct (name_at 210 "B") []) []) (name_at 212 "b")) ∷ (member (type_at 215 (tree.Struct (name_at 222 "B") []) []) (name_at 224
    "c")) ∷ (member (type_at 227 (tree.Struct (name_at 234 "B") []) []) (name_at 236 "d")) ∷ (member (type_at 239 (tree.Struct (name_at 246 "B") []) [])
    (name_at 248 "e")) ∷ (member (type_at 251 (tree.Struct (name_at 258 "B") []) []) (name_at 260 "f")) ∷ (member (type_at 263 (tree.Struct (name_at 270 "B")
    []) []) (name_at 272 "g")) ∷ (member (type_at 275 (tree.Struct (name_at 282 "B") []) []) (name_at 284 "h")) ∷ []))) ∷ (tree.StructItem (structure 290
    (name_at 297 "D") [] ((member (type_at 301 (tree.Struct (name_at 308 "C") []) []) (name_at 310 "a")) ∷ (member (type_at 313 (tree.Struct (name_at 320 "C")
    []) []) (name_at 322 "b")) ∷ (member (type_at 325 tree.Char []) (name_at 330 "c")) ∷ []))) ∷ (main_returns 336) ∷ [])
    ≡ Some (fault size_rule 297)
size_2 = refl

-- a use of it is not checked
-- struct A { int a; int b; int c; int d; int e; int f; int g; int h; }; struct B { struct A a; struct A b; struct A c; struct A d; struct A e; struct A f;
-- struct A g; struct A h; }; struct C { struct B a; struct B b; struct B c; struct B d; struct B e; struct B f; struct B g; struct B h; }; struct D { char c;
-- struct C a; struct C b; }; int main() { struct D d; d.nope = 1; return 0; }
size_3 : first_fault
    ((tree.StructItem (structure 0 (name_at 7 "A") [] ((member (int_at 11) (name_at 15 "a")) ∷ (member (int_at 18) (name_at 22 "b")) ∷ (member (int_at 25)
    (name_at 29 "c")) ∷ (member (int_at 32) (name_at 36 "d")) ∷ (member (int_at 39) (name_at 43 "e")) ∷ (member (int_at 46) (name_at 50 "f")) ∷ (member
    (int_at 53) (name_at 57 "g")) ∷ (member (int_at 60) (name_at 64 "h")) ∷ []))) ∷ (tree.StructItem (structure 70 (name_at 77 "B") [] ((member (type_at 81
    (tree.Struct (name_at 88 "A") []) []) (name_at 90 "a")) ∷ (member (type_at 93 (tree.Struct (name_at 100 "A") []) []) (name_at 102 "b")) ∷ (member (type_at
    105 (tree.Struct (name_at 112 "A") []) []) (name_at 114 "c")) ∷ (member (type_at 117 (tree.Struct (name_at 124 "A") []) []) (name_at 126 "d")) ∷ (member
    (type_at 129 (tree.Struct (name_at 136 "A") []) []) (name_at 138 "e")) ∷ (member (type_at 141 (tree.Struct (name_at 148 "A") []) []) (name_at 150 "f")) ∷
    (member (type_at 153 (tree.Struct (name_at 160 "A") []) []) (name_at 162 "g")) ∷ (member (type_at 165 (tree.Struct (name_at 172 "A") []) []) (name_at 174
    "h")) ∷ []))) ∷ (tree.StructItem (structure 180 (name_at 187 "C") [] ((member (type_at 191 (tree.Struct (name_at 198 "B") []) []) (name_at 200 "a")) ∷
    (member (type_at 203 (tree.Struct (name_at 210 "B") []) []) (name_at 212 "b")) ∷ (member (type_at 215 (tree.Struct (name_at 222 "B") []) []) (name_at 224
    "c")) ∷ (member (type_at 227 (tree.Struct (name_at 234 "B") []) []) (name_at 236 "d")) ∷ (member (type_at 239 (tree.Struct (name_at 246 "B") []) [])
    (name_at 248 "e")) ∷ (member (type_at 251 (tree.Struct (name_at 258 "B") []) []) (name_at 260 "f")) ∷ (member (type_at 263 (tree.Struct (name_at 270 "B")
    []) []) (name_at 272 "g")) ∷ (member (type_at 275 (tree.Struct (name_at 282 "B") []) []) (name_at 284 "h")) ∷ []))) ∷ (tree.StructItem (structure 290
    (name_at 297 "D") [] ((member (type_at 301 tree.Char []) (name_at 306 "c")) ∷ (member (type_at 309 (tree.Struct (name_at 316 "C") []) []) (name_at 318
    "a")) ∷ (member (type_at 321 (tree.Struct (name_at 328 "C") []) []) (name_at 330 "b")) ∷ []))) ∷ (main_at 336 (Declare (tree.Local (type_at 349
    (tree.Struct (name_at 356 "D") []) []) (name_at 358 "d") Initializer.Unset) (Execute (Statement.Run (Expression.Assign (Expression.Suffixed (variable_at
    361 "d") (Dot (name_at 363 "nope") NoSuffixes)) (number 370 1))) (Execute (returns 373 (number 380 0)) NoItems))) 383) ∷ [])
    ≡ Some (fault size_rule 297)
size_3 = refl

-- struct A { int a; int b; int c; int d; int e; int f; int g; int h; }; struct B { struct A a; struct A b; struct A c; struct A d; struct A e; struct A f;
-- struct A g; struct A h; }; struct C { struct B a; struct B b; struct B c; struct B d; struct B e; struct B f; struct B g; struct B h; }; struct D { struct C
-- a; struct C b; int *p; }; struct E { struct D d; int @q; }; int main() { struct E e; return 0; }
size_4 : first_fault
    ((tree.StructItem (structure 0 (name_at 7 "A") [] ((member (int_at 11) (name_at 15 "a")) ∷ (member (int_at 18) (name_at 22 "b")) ∷ (member (int_at 25)
    (name_at 29 "c")) ∷ (member (int_at 32) (name_at 36 "d")) ∷ (member (int_at 39) (name_at 43 "e")) ∷ (member (int_at 46) (name_at 50 "f")) ∷ (member
    (int_at 53) (name_at 57 "g")) ∷ (member (int_at 60) (name_at 64 "h")) ∷ []))) ∷ (tree.StructItem (structure 70 (name_at 77 "B") [] ((member (type_at 81
    (tree.Struct (name_at 88 "A") []) []) (name_at 90 "a")) ∷ (member (type_at 93 (tree.Struct (name_at 100 "A") []) []) (name_at 102 "b")) ∷ (member (type_at
    105 (tree.Struct (name_at 112 "A") []) []) (name_at 114 "c")) ∷ (member (type_at 117 (tree.Struct (name_at 124 "A") []) []) (name_at 126 "d")) ∷ (member
    (type_at 129 (tree.Struct (name_at 136 "A") []) []) (name_at 138 "e")) ∷ (member (type_at 141 (tree.Struct (name_at 148 "A") []) []) (name_at 150 "f")) ∷
    (member (type_at 153 (tree.Struct (name_at 160 "A") []) []) (name_at 162 "g")) ∷ (member (type_at 165 (tree.Struct (name_at 172 "A") []) []) (name_at 174
    "h")) ∷ []))) ∷ (tree.StructItem (structure 180 (name_at 187 "C") [] ((member (type_at 191 (tree.Struct (name_at 198 "B") []) []) (name_at 200 "a")) ∷
    (member (type_at 203 (tree.Struct (name_at 210 "B") []) []) (name_at 212 "b")) ∷ (member (type_at 215 (tree.Struct (name_at 222 "B") []) []) (name_at 224
    "c")) ∷ (member (type_at 227 (tree.Struct (name_at 234 "B") []) []) (name_at 236 "d")) ∷ (member (type_at 239 (tree.Struct (name_at 246 "B") []) [])
    (name_at 248 "e")) ∷ (member (type_at 251 (tree.Struct (name_at 258 "B") []) []) (name_at 260 "f")) ∷ (member (type_at 263 (tree.Struct (name_at 270 "B")
    []) []) (name_at 272 "g")) ∷ (member (type_at 275 (tree.Struct (name_at 282 "B") []) []) (name_at 284 "h")) ∷ []))) ∷ (tree.StructItem (structure 290
    (name_at 297 "D") [] ((member (type_at 301 (tree.Struct (name_at 308 "C") []) []) (name_at 310 "a")) ∷ (member (type_at 313 (tree.Struct (name_at 320 "C")
    []) []) (name_at 322 "b")) ∷ (member (type_at 325 tree.Int ((pointer (sign.Nullable 1) None) ∷ [])) (name_at 330 "p")) ∷ []))) ∷ (tree.StructItem (structure
    336 (name_at 343 "E") [] ((member (type_at 347 (tree.Struct (name_at 354 "D") []) []) (name_at 356 "d")) ∷ (member (type_at 359 tree.Int ((pointer
    (sign.NotNull 1) None) ∷ [])) (name_at 364 "q")) ∷ [])))
    ∷ (main_at 370 (Declare (tree.Local (type_at 383 (tree.Struct (name_at 390 "E") []) []) (name_at 392
    "e") Initializer.Unset) (Execute (returns 395 (number 402 0)) NoItems)) 405) ∷ [])
    ≡ Some (fault size_rule 297)
size_4 = refl

-- int main() { int a[1024]; char b[4096]; int ?c[341]; return 0; }
size_5 : first_fault
    ((main_at 0 (Declare (tree.Local (int_at 13) (name_at 17 "a") (Initializer.Elements 1024)) (Declare (tree.Local (type_at 26 tree.Char []) (name_at 31 "b")
    (Initializer.Elements 4096)) (Declare (tree.Local (type_at 40 tree.Int ((pointer sign.Fat None) ∷ [])) (name_at 45 "c") (Initializer.Elements 341))
    (Execute (returns 53 (number 60 0)) NoItems)))) 63) ∷ [])
    ≡ None
size_5 = refl

-- int main() { int a[1025]; return 0; }
size_6 : first_fault
    ((main_at 0 (Declare (tree.Local (int_at 13) (name_at 17 "a") (Initializer.Elements 1025)) (Execute (returns 26 (number 33 0)) NoItems)) 36) ∷ [])
    ≡ Some (fault size_rule 13)
size_6 = refl

-- int main() { char a[4097]; return 0; }
size_7 : first_fault
    ((main_at 0 (Declare (tree.Local (type_at 13 tree.Char []) (name_at 18 "a") (Initializer.Elements 4097)) (Execute (returns 27 (number 34 0)) NoItems)) 37)
    ∷ [])
    ≡ Some (fault size_rule 13)
size_7 = refl

-- a fat pointer has 12 bytes
-- int main() { int ?a[342]; return 0; }
size_8 : first_fault
    ((main_at 0 (Declare (tree.Local (type_at 13 tree.Int ((pointer sign.Fat None) ∷ [])) (name_at 18 "a") (Initializer.Elements 342)) (Execute (returns 26
    (number 33 0)) NoItems)) 36) ∷ [])
    ≡ Some (fault size_rule 13)
size_8 = refl

-- a thin pointer has 4
-- @tagged union U { char a; char *b; }; union U *a[1025]; int main() { return 0; }
size_9 : first_fault
    ((tree.UnionItem (structure 0 (name_at 14 "U") [] ((member (type_at 18 tree.Char []) (name_at 23 "a")) ∷ (member (type_at 26 tree.Char ((pointer
    (sign.Nullable 1) None) ∷ [])) (name_at 32 "b")) ∷ [])))
    ∷ (tree.GlobalItem (global (type_at 38 (tree.Union (name_at 44 "U") []) ((pointer (sign.Nullable 1) None)
    ∷ [])) (name_at 47 "a") (Initial.Elements 1025))) ∷ (main_returns 56) ∷ [])
    ≡ Some (fault size_rule 38)
size_9 = refl

-- a member begins at its alignment
-- @tagged union U { char a; char *b; }; struct S { char c; int i; }; int main() { struct S a[512]; return 0; }
size_10 : first_fault
    ((tree.UnionItem (structure 0 (name_at 14 "U") [] ((member (type_at 18 tree.Char []) (name_at 23 "a")) ∷ (member (type_at 26 tree.Char ((pointer
    (sign.Nullable 1) None) ∷ [])) (name_at 32 "b")) ∷ []))) ∷ (tree.StructItem (structure 38 (name_at 45 "S") [] ((member (type_at 49 tree.Char []) (name_at 54
    "c")) ∷ (member (int_at 57) (name_at 61 "i")) ∷ []))) ∷ (main_at 67 (Declare (tree.Local (type_at 80 (tree.Struct (name_at 87 "S") []) []) (name_at 89
    "a") (Initializer.Elements 512)) (Execute (returns 97 (number 104 0)) NoItems)) 107) ∷ [])
    ≡ None
size_10 = refl

-- struct S { char c; int i; }; int main() { struct S a[513]; return 0; }
size_11 : first_fault
    ((tree.StructItem (structure 0 (name_at 7 "S") [] ((member (type_at 11 tree.Char []) (name_at 16 "c")) ∷ (member (int_at 19) (name_at 23 "i")) ∷ []))) ∷
    (main_at 29 (Declare (tree.Local (type_at 42 (tree.Struct (name_at 49 "S") []) []) (name_at 51 "a") (Initializer.Elements 513)) (Execute (returns 59
    (number 66 0)) NoItems)) 69) ∷ [])
    ≡ Some (fault size_rule 42)
size_11 = refl

-- a struct of characters is not rounded up
-- struct S { char c; char d; char e; }; int main() { struct S a[1365]; return 0; }
size_12 : first_fault
    ((tree.StructItem (structure 0 (name_at 7 "S") [] ((member (type_at 11 tree.Char []) (name_at 16 "c")) ∷ (member (type_at 19 tree.Char []) (name_at 24
    "d")) ∷ (member (type_at 27 tree.Char []) (name_at 32 "e")) ∷ []))) ∷ (main_at 38 (Declare (tree.Local (type_at 51 (tree.Struct (name_at 58 "S") []) [])
    (name_at 60 "a") (Initializer.Elements 1365)) (Execute (returns 69 (number 76 0)) NoItems)) 79) ∷ [])
    ≡ None
size_12 = refl

-- struct S { char c; char d; char e; }; int main() { struct S a[1366]; return 0; }
size_13 : first_fault
    ((tree.StructItem (structure 0 (name_at 7 "S") [] ((member (type_at 11 tree.Char []) (name_at 16 "c")) ∷ (member (type_at 19 tree.Char []) (name_at 24
    "d")) ∷ (member (type_at 27 tree.Char []) (name_at 32 "e")) ∷ []))) ∷ (main_at 38 (Declare (tree.Local (type_at 51 (tree.Struct (name_at 58 "S") []) [])
    (name_at 60 "a") (Initializer.Elements 1366)) (Execute (returns 69 (number 76 0)) NoItems)) 79) ∷ [])
    ≡ Some (fault size_rule 51)
size_13 = refl

-- int main() { int a[0]; return 0; }
size_14 : first_fault
    ((main_at 0 (Declare (tree.Local (int_at 13) (name_at 17 "a") (Initializer.Elements 0)) (Execute (returns 23 (number 30 0)) NoItems)) 33) ∷ [])
    ≡ Some (fault type_rule 13)
size_14 = refl

-- int a[1025]; int main() { return 0; }
size_15 : first_fault
    ((tree.GlobalItem (global (int_at 0) (name_at 4 "a") (Initial.Elements 1025))) ∷ (main_returns 13) ∷ [])
    ≡ Some (fault size_rule 0)
size_15 = refl

-- a string of 4,096 bytes, its final 0 among them
-- char ?s = "aaaaaaaaaaaaaaaaaaaaaaaaaaaaaaaaaaaaaaaaaaaaaaaaa .. aaaaaaaaaaaaaaaaaaaaaaaaaaaaaaaaa"; int main() { return 0; }
size_16 : first_fault
    ((tree.GlobalItem (global (type_at 0 tree.Char ((pointer sign.Fat None) ∷ [])) (name_at 6 "s") (Initial.Given (Constant.Text 10 (replicate 4095 97))))) ∷
    (main_returns 4109) ∷ [])
    ≡ None
size_16 = refl

-- char ?s = "aaaaaaaaaaaaaaaaaaaaaaaaaaaaaaaaaaaaaaaaaaaaaaaaa .. aaaaaaaaaaaaaaaaaaaaaaaaaaaaaaaaa"; int main() { return 0; }
size_17 : first_fault
    ((tree.GlobalItem (global (type_at 0 tree.Char ((pointer sign.Fat None) ∷ [])) (name_at 6 "s") (Initial.Given (Constant.Text 10 (replicate 4096 97))))) ∷
    (main_returns 4110) ∷ [])
    ≡ Some (fault size_rule 10)
size_17 = refl

-- int main() { char ?s = "aaaaaaaaaaaaaaaaaaaaaaaaaaaaaaaaaaaa .. aaaaaaaaaaaaaaaaaaaaaaaaaaaaaaaaaaaaaaaaaaa"; return s[0]; }
size_18 : first_fault
    ((main_at 0 (Declare (tree.Local (type_at 13 tree.Char ((pointer sign.Fat None) ∷ [])) (name_at 19 "s") (Initializer.Value (Expression.Text 23 (replicate
    4096 97)))) (Execute (Statement.Return 4123 (Some (Expression.Suffixed (variable_at 4130 "s") (Index (number 4132 0) NoSuffixes)))) NoItems)) 4136) ∷ [])
    ≡ Some (fault size_rule 23)
size_18 = refl
