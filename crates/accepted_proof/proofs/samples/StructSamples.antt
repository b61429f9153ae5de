-- Programs of structs: one that is in order, which copies one, stores through members and pointers to them, and makes one; one whose struct has a region
-- parameter; and types whose name is no tag.
use Rattle.std.proofs.Common.{◌≡◌, ℕ, false, List, None, Some, [], ◌∷◌, refl}
use Rattle.std.specs.Prelude.{◌+◌, codes}
use Rattle.cyc_tree.specs.declared.expression.Prefix.TheVariants.{AddressOf, Dereference}
use Rattle.cyc_tree.specs.declared.name.Sign.TheVariants as sign
use Rattle.cyc_tree.specs.Tree as tree
use Rattle.cyc_tree.specs.Tree.{Arrow, Declare, Dot, Execute, Expression, Initializer, MoreExpressions, NoExpressions, NoItems, NoSuffixes, Program, Statement}
use Rattle.cyc_words.specs.Events.{SourceEnding}
use Rattle.source_meaning.specs.Programs.{source}
use Rattle.source_typing.specs.Answers.{first_fault, program_faults}
use Rattle.source_typing.specs.Faults.{fault, type_rule}

abbrev name_at : ℕ → tree.Name → tree.Name
name_at at x = record x { at = at }

abbrev a_name : tree.Name
a_name = record { at = 0; text = codes "a" }

abbrev next_name : tree.Name
next_name = record { at = 0; text = codes "next" }

abbrev s_name : tree.Name
s_name = record { at = 0; text = codes "s" }

abbrev x_name : tree.Name
x_name = record { at = 0; text = codes "x" }

abbrev y_name : tree.Name
y_name = record { at = 0; text = codes "y" }

abbrev int_type : ℕ → tree.TypeName
int_type at = record { at = at; base = tree.Int; pointers = [] }

abbrev struct_type : ℕ → tree.TypeName
struct_type at = record { at = at; base = tree.Struct (name_at at s_name) []; pointers = [] }

abbrev to_struct : ℕ → tree.TypeName
to_struct at = record (struct_type at) { pointers = record { sign = sign.Nullable 1; region = None } ∷ [] }

abbrev named_x : ℕ → Expression
named_x at = Expression.Variable (name_at at x_name)

abbrev named_y : ℕ → Expression
named_y at = Expression.Variable (name_at at y_name)

-- struct s { int a; struct s *next; };
-- struct s x;
-- int main() { struct s y = s(7, &x); y.next->a = 5; *y.next = y; return x.next->a; }
abbrev copied : Program
copied =
    tree.StructItem (record {
      at = 0;
      tag = name_at 7 s_name;
      regions = [];
      members = record { of = int_type 11; name = name_at 15 a_name } ∷ record { of = to_struct 18; name = name_at 28 next_name } ∷ [];
    })
    ∷ tree.GlobalItem (record { of = struct_type 40; name = name_at 49 x_name; initial = tree.Initial.Unset })
    ∷ tree.FunctionItem (record {
      result = int_type 60;
      name = record { at = 64; text = codes "main" };
      parameters = [];
      effect = None;
      bounds = [];
      body = Declare
          (tree.Local (struct_type 70) (name_at 80 y_name)
          (Initializer.Value (Expression.Call (name_at 84 s_name)
          (MoreExpressions (Expression.Number 86 7 false) (MoreExpressions (Expression.Prefixed 89 AddressOf (named_x 90)) NoExpressions)))))
          (Execute
          (Statement.Run (Expression.Assign (Expression.Suffixed (named_y 100) (Dot (name_at 102 next_name) (Arrow (name_at 108 a_name) NoSuffixes)))
          (Expression.Number 112 5 false)))
          (Execute
          (Statement.Run (Expression.Assign (Expression.Prefixed 120 Dereference (Expression.Suffixed (named_y 121) (Dot (name_at 123 next_name) NoSuffixes)))
          (named_y 130)))
          (Execute
          (Statement.Return 140 (Some (Expression.Suffixed (named_x 147) (Dot (name_at 149 next_name) (Arrow (name_at 155 a_name) NoSuffixes)))))
          NoItems)));
      end = 170;
    })
    ∷ []

no_faults : program_faults copied ≡ []
no_faults = refl

-- it ends with 7: what x points to is x, which has become y
its_ending : (source copied [] 5).ending ≡ SourceEnding.Ended 7
its_ending = refl

-- ---- a region parameter

abbrev region_at : ℕ → ℕ → tree.RegionName
region_at at letter = tree.Named (record { at = at; text = letter ∷ [] })

abbrev pointer_in : ℕ → tree.Base → tree.RegionName → tree.TypeName
pointer_in at base r = record { at = at; base = base; pointers = record { sign = sign.Nullable 1; region = Some r } ∷ [] }

abbrev struct_in : ℕ → tree.RegionName → tree.RegionName → tree.TypeName
struct_in at q r = pointer_in at (tree.Struct (name_at (at + 7) s_name) (q ∷ [])) r

abbrev address : ℕ → Expression → Expression
address at e = Expression.Prefixed at AddressOf e

-- struct s<`r> { int *`r a; struct s<`r> *`r next; };
-- void put(struct s<`q> *`t x, int *`q y) { x->a = y; }
-- int main() { int x = 3; struct s y = s(&x, NULL); y.next = &y; put(y.next, &x); *y.next->a = 7; return x; }
abbrev parametrized : Program
parametrized =
    tree.StructItem (record {
      at = 0;
      tag = name_at 7 s_name;
      regions = region_at 9 114 ∷ [];
      members = record { of = pointer_in 15 tree.Int (region_at 20 114); name = name_at 23 a_name }
          ∷ record { of = struct_in 26 (region_at 35 114) (region_at 40 114); name = name_at 43 next_name } ∷ [];
    })
    ∷ tree.FunctionItem (record {
      result = record { at = 52; base = tree.Void; pointers = [] };
      name = record { at = 57; text = codes "put" };
      parameters = record { of = struct_in 61 (region_at 70 113) (region_at 75 116); name = name_at 78 x_name }
          ∷ record { of = pointer_in 81 tree.Int (region_at 86 113); name = name_at 89 y_name } ∷ [];
      effect = None;
      bounds = [];
      body = Execute
          (Statement.Run (Expression.Assign (Expression.Suffixed (named_x 94) (Arrow (name_at 97 a_name) NoSuffixes)) (named_y 101)))
          NoItems;
      end = 104;
    })
    ∷ tree.FunctionItem (record {
      result = int_type 110;
      name = record { at = 114; text = codes "main" };
      parameters = [];
      effect = None;
      bounds = [];
      body = Declare (tree.Local (int_type 123) (name_at 127 x_name) (Initializer.Value (Expression.Number 131 3 false)))
          (Declare
          (tree.Local (struct_type 134) (name_at 143 y_name)
          (Initializer.Value (Expression.Call (name_at 147 s_name)
          (MoreExpressions (address 149 (named_x 150)) (MoreExpressions (Expression.Null 153) NoExpressions)))))
          (Execute
          (Statement.Run (Expression.Assign (Expression.Suffixed (named_y 160) (Dot (name_at 162 next_name) NoSuffixes)) (address 169 (named_y 170))))
          (Execute
          (Statement.Run (Expression.Call (record { at = 173; text = codes "put" })
          (MoreExpressions (Expression.Suffixed (named_y 177) (Dot (name_at 179 next_name) NoSuffixes))
          (MoreExpressions (address 185 (named_x 186)) NoExpressions))))
          (Execute
          (Statement.Run (Expression.Assign
          (Expression.Prefixed 190 Dereference
          (Expression.Suffixed (named_y 191) (Dot (name_at 193 next_name) (Arrow (name_at 199 a_name) NoSuffixes))))
          (Expression.Number 203 7 false)))
          (Execute (Statement.Return 206 (Some (named_x 213))) NoItems)))));
      end = 216;
    })
    ∷ []

no_fault_with_a_parameter : program_faults parametrized ≡ []
no_fault_with_a_parameter = refl

its_last_value : (source parametrized [] 9).ending ≡ SourceEnding.Ended 7
its_last_value = refl

-- ---- a name that is no tag, in a type

abbrev to_tag : ℕ → List ℕ → tree.TypeName
to_tag at x = record { at = at; base = tree.Struct (record { at = at + 7; text = x }) []; pointers = record { sign = sign.Nullable 1; region = None } ∷ [] }

-- int f(struct t *p) { return 0; }
abbrev taking : ℕ → List ℕ → List ℕ → tree.Function
taking at f t = record {
  result = int_type at;
  name = record { at = at + 4; text = f };
  parameters = record { of = to_tag (at + 6) t; name = record { at = at + 17; text = codes "p" } } ∷ [];
  effect = None;
  bounds = [];
  body = Execute (Statement.Return (at + 22) (Some (Expression.Number (at + 29) 0 false))) NoItems;
  end = at + 32;
}

-- int main() { f(); return 0; }
abbrev calling : List ℕ → tree.Function
calling f = record {
  result = int_type 100;
  name = record { at = 104; text = codes "main" };
  parameters = [];
  effect = None;
  bounds = [];
  body = Execute (Statement.Run (Expression.Call (record { at = 113; text = f }) NoExpressions))
      (Execute (Statement.Return 118 (Some (Expression.Number 125 0 false))) NoItems);
  end = 128;
}

-- struct x *x; and main calls x: Type at the tag
abbrev of_itself : Program
of_itself =
    tree.GlobalItem (record { of = to_tag 0 (codes "x"); name = record { at = 10; text = codes "x" }; initial = tree.Initial.Unset })
    ∷ tree.FunctionItem (calling (codes "x")) ∷ []

no_tag_of_itself : first_fault of_itself ≡ Some (fault type_rule 7)
no_tag_of_itself = refl

-- int f(struct f *p) { return 0; } and main calls f
abbrev taking_itself : Program
taking_itself = tree.FunctionItem (taking 0 (codes "f") (codes "f")) ∷ tree.FunctionItem (calling (codes "f")) ∷ []

no_tag_taking_itself : first_fault taking_itself ≡ Some (fault type_rule 13)
no_tag_taking_itself = refl

-- two functions that name each other
abbrev taking_each_other : Program
taking_each_other =
    tree.FunctionItem (taking 0 (codes "f") (codes "g")) ∷ tree.FunctionItem (taking 40 (codes "g") (codes "f")) ∷ tree.FunctionItem (calling (codes "f")) ∷ []

no_tag_each_other : first_fault taking_each_other ≡ Some (fault type_rule 13)
no_tag_each_other = refl
