-- A program that is accepted is in order by the rules' own tables: so it is never stuck, and it has its `main`.
use Rattle.std.specs.Prelude.{bytes_eq, codes, if◌then◌else◌, length, map}
use Rattle.std.proofs.Common.{◌≡◌, ◌⊎◌, ℕ, ◌<◌, Bool, true, false, inl, inr, Option, Some, None, List, [], ◌∷◌, refl, sym, subst, ap, ◌∙◌}
use Rattle.std.proofs.lemmas.List.{length-map}
use Rattle.std.proofs.lemmas.Slice.Eq.{bytes_eq-Decides}
use Rattle.cyc_tree.specs.Tree as tree
use Rattle.cyc_tree.specs.Tree.{Program}
use Rattle.source_lowering.specs.Programs.{function_code, program_code}
use Rattle.source_meaning.specs.Places.{bound_to}
use Rattle.source_meaning.specs.Programs.{heap_spot, routine_of, world_of}
use Rattle.source_meaning.specs.Shapes.{ArrayShape, part_of, part_shapes}
use Rattle.source_meaning.specs.Steps.{Variable, World}
use Rattle.type_proof.specs.Entries.{Builtin, Function, PlainEntry, Structure, Unioned}
use Rattle.type_proof.specs.Programs.{ArrayFound, FunctionJudged, GlobalFound, MainFound, ProgramJudged}
use Rattle.accepted_programs.specs.Accepted.{IsAccepted}
use Rattle.source_typing.specs.Declarations.{what_of}
use Rattle.source_typing.specs.Functions.{head_of}
use Rattle.source_typing.specs.Programs.{builtins, entries, entries_with, judged_tags, tables_of}
use Rattle.source_typing.specs.Regions.{Region, TheHeap}
use Rattle.source_typing.specs.Tables.{
  Arrayed,
  Counter,
  Entry,
  OfBuiltin,
  OfFunction,
  OfOther,
  OfTag,
  OfValue,
  Signature,
  Stored,
  Tables,
  Tag,
  Unknown,
  What,
  find,
}
use Rattle.source_typing.specs.Types.{StaticType, shape_of}
use Rattle.source_typing.specs.Verdicts.{Of}
use Rattle.type_proof.proofs.Never.{never_stuck}
use Rattle.type_proof.proofs.Same.{judged_same}
use Rattle.accepted_proof.specs.Good.{AllGood, BodiesJudged, IsGoodEntry}
use Rattle.accepted_proof.specs.Laws.{AcceptedAreJudged, AcceptedAreNeverStuck, AcceptedHaveMain}
use Rattle.accepted_proof.proofs.StructsFound.{StructsFound, not_made, structs_found}
use Rattle.accepted_proof.proofs.AlignedTables.{AreAligned, tables_aligned}
use Rattle.accepted_proof.proofs.Found.{AllKnown, FunctionFound, ValueFound, all_known, find_function, find_value, globals_judged}
use Rattle.accepted_proof.proofs.Found.{no_builtin}
use Rattle.accepted_proof.proofs.Globals.{counted_shape}
use Rattle.accepted_proof.proofs.good.Names.{MeansGood, found_good}
use Rattle.accepted_proof.proofs.good.Functions.{FunctionNamed, function_is, function_judged}
use Rattle.accepted_proof.proofs.good.Tables.{AreHeaded, IsClean, all_headed, is_clean_program, tables_good}
use Rattle.accepted_proof.proofs.good.Types.{KnowsTags}
use Rattle.accepted_proof.proofs.Named.{builtins_known, entries_known}
use Rattle.accepted_proof.proofs.lowered.Types.{TagThere}
use Rattle.accepted_proof.proofs.Main.{MainHere, find_main, number_below}

-- ---- names

-- two texts are compared alike from both sides
swapped : (xs ys : List ℕ) (b : Bool) → bytes_eq xs ys ≡ b → bytes_eq ys xs ≡ b
swapped xs ys true e = (bytes_eq-Decides ys xs).1 (sym ((bytes_eq-Decides xs ys).0 e))
swapped xs ys false e = by (bytes_eq ys xs) refl
  where
    by : (c : Bool) → bytes_eq ys xs ≡ c → c ≡ false
    by false p = refl
    by true p = let q : bytes_eq xs ys ≡ true = (bytes_eq-Decides xs ys).1 (sym ((bytes_eq-Decides ys xs).0 p)) in sym q ∙ e

entry_good : (n : ℕ) (g : Tables) (x : List ℕ) (e : Entry) → AllGood n g → find g x ≡ Some e → IsGoodEntry n e
entry_good n g x e h p = subst (λ (z : Option Entry). MeansGood n z) p (found_good n g x h)

-- where a name is found among the items, it is none of the two functions that every program has
record IsOwn (es : Tables) (x : List ℕ) (e : Entry) : Type 0 where
  own : find es x ≡ Some e
  not_read : bytes_eq x (codes "getchar") ≡ false
  not_written : bytes_eq x (codes "putchar") ≡ false

-- the entry of a name, by which of those two functions it is
abbrev entry_by : Tables → List ℕ → Bool → Bool → Option Entry
entry_by es x a c = (if a then Some (OfBuiltin 0) else (if c then Some (OfBuiltin 1) else find es x))

-- ---- a program in order, by its own tables

module _ (bodies : BodiesJudged) (p : Program) (accepted : IsAccepted p) where
  abbrev tables : Tables
  tables = tables_of false p

  abbrev heads : Tables
  heads = builtins (entries (judged_tags p))

  abbrev items : Tables
  items = entries_with false heads 0 (judged_tags p) p

  abbrev world : World
  world = world_of p

  clean : IsClean p
  clean = is_clean_program p accepted

  pub found : StructsFound p
  found = structs_found p accepted.operands clean.tags clean.names

  tags : KnowsTags heads
  tags = builtins_known (entries (judged_tags p)) (entries_known (judged_tags p) p found.named)

  same : AreAligned tables heads
  same = tables_aligned heads (judged_tags p) p found.named

  headed : AreHeaded heads 0 (judged_tags p) p
  headed = all_headed tables heads 0 (judged_tags p) p tags same found.named clean.items

  pub good : AllGood 0 tables
  good = tables_good heads (judged_tags p) p tags headed

  pub known : AllKnown tables heads 0 (judged_tags p) p
  known =
      all_known bodies tables heads 0 (judged_tags p) p good found.kinds same headed accepted.operands clean.items
      clean.flow

  -- ---- names

  function_own : (x : List ℕ) (s : Signature) → find tables x ≡ Some (OfFunction s) → IsOwn items x (OfFunction s)
  function_own x s h = by (bytes_eq (codes "getchar") x) (bytes_eq (codes "putchar") x) refl refl h
    where
      by : (a c : Bool) → bytes_eq (codes "getchar") x ≡ a → bytes_eq (codes "putchar") x ≡ c → entry_by items x a c ≡ Some (OfFunction s)
          → IsOwn items x (OfFunction s)
      by true c q r k = absurd cc
      by false true q r k = absurd cc
      by false false q r k = record { own = k; not_read = swapped (codes "getchar") x false q; not_written = swapped (codes "putchar") x false r }

  function_found : (x : List ℕ) (s : Signature) → find tables x ≡ Some (OfFunction s) → FunctionFound tables p x s
  function_found x s h = find_function tables heads 0 (judged_tags p) p x s known (function_own x s h).own

  function_named : (x : List ℕ) (s : Signature) (h : find tables x ≡ Some (OfFunction s)) → FunctionNamed world tables x s (function_found x s h).function
  function_named x s h =
      let own : IsOwn items x (OfFunction s) = function_own x s h in
      let f : FunctionFound tables p x s = function_found x s h in
      record {
        not_made = not_made p x (OfFunction s) found h (λ t z. cc);
        found = f.found;
        not_read = own.not_read;
        not_written = own.not_written;
        signature = f.signature;
      }

  abbrev its_function : (x : List ℕ) (s : Signature) → find tables x ≡ Some (OfFunction s) → Function world x s
  its_function x s h =
      function_is world tables (function_found x s h).number x s (function_found x s h).function (function_named x s h) (function_found x s h).good

  functions : (x : List ℕ) (s : Signature) (F : Function world x s) → find tables x ≡ Some (OfFunction s) → FunctionJudged world tables x s F
  functions x s F h =
      judged_same world tables x s (its_function x s h) F (function_judged world tables (function_found x s h).number x s (function_found x s h).function
      (function_named x s h) (function_found x s h).good)

  -- what is found of a variable or an array
  value_found : (x : List ℕ) (w : What) → find tables x ≡ Some (OfValue w) → ValueFound p 0 x w
  value_found x w h = by (bytes_eq (codes "getchar") x) (bytes_eq (codes "putchar") x) h
    where
      by : (a c : Bool) → entry_by items x a c ≡ Some (OfValue w) → ValueFound p 0 x w
      by true c k = absurd cc
      by false true k = absurd cc
      by false false k = find_value tables heads 0 0 (judged_tags p) p x w known k

  variables : (x : List ℕ) (t : StaticType) (r : Region) → find tables x ≡ Some (OfValue (Stored t r)) → GlobalFound world x t r
  variables x t r h = by v.count v.means v.is_bound
    where
      v : ValueFound p 0 x (Stored t r)
      v = value_found x (Stored t r) h

      by : (o : Option ℕ) → Stored t r ≡ what_of TheHeap o (Of v.type)
          → bound_to world.globals x ≡ Some (Variable (counted_shape o (shape_of v.type)) (heap_spot v.number)) → GlobalFound world x t r
      by None m b =
          let same : v.type ≡ t = cc in
          record {
            number = v.number;
            is = b ∙ ap (λ (u : StaticType). Some (Variable (shape_of u) (heap_spot v.number))) same;
            region = cc;
            below = (entry_good 0 tables x (OfValue (Stored t r)) good h).1;
          }
      by (Some n) m b = absurd cc

  arrays : (x : List ℕ) (t : StaticType) (r : Region) → find tables x ≡ Some (OfValue (Arrayed t r)) → ArrayFound world x t r
  arrays x t r h = by v.count v.means v.is_bound
    where
      v : ValueFound p 0 x (Arrayed t r)
      v = value_found x (Arrayed t r) h

      by : (o : Option ℕ) → Arrayed t r ≡ what_of TheHeap o (Of v.type)
          → bound_to world.globals x ≡ Some (Variable (counted_shape o (shape_of v.type)) (heap_spot v.number)) → ArrayFound world x t r
      by None m b = absurd cc
      by (Some n) m b =
          let same : v.type ≡ t = cc in
          record {
            number = v.number;
            count = n;
            is = b ∙ ap (λ (u : StaticType). Some (Variable (ArrayShape n (shape_of u)) (heap_spot v.number))) same;
            region = cc;
            below = (entry_good 0 tables x (OfValue (Arrayed t r)) good h).1;
          }

  -- none is the index of an array that is made
  no_counter : (x : List ℕ) → find tables x ≡ Some (OfValue Counter) → ⊥
  no_counter x h = by (value_found x Counter h).count (value_found x Counter h).means
    where
      by : (o : Option ℕ) → Counter ≡ what_of TheHeap o (Of (value_found x Counter h).type) → ⊥
      by None m = cc
      by (Some n) m = cc

  builtin_is : (x : List ℕ) (n : ℕ) → find tables x ≡ Some (OfBuiltin n) → Builtin x n
  builtin_is x n h = by (bytes_eq (codes "getchar") x) (bytes_eq (codes "putchar") x) refl refl h
    where
      number : (m : ℕ) → Some (OfBuiltin m) ≡ Some (OfBuiltin n) → n ≡ m
      number m k = cc

      by : (a c : Bool) → bytes_eq (codes "getchar") x ≡ a → bytes_eq (codes "putchar") x ≡ c → entry_by items x a c ≡ Some (OfBuiltin n) → Builtin x n
      by true c q r k = inl (swapped (codes "getchar") x true q, number 0 k)
      by false true q r k = inr (swapped (codes "getchar") x false q, swapped (codes "putchar") x true r, number 1 k)
      by false false q r k = absurd (no_builtin tables heads 0 n (judged_tags p) p x known k)

  -- a struct
  structure_is : (x : List ℕ) (t : Tag) → find tables x ≡ Some (OfTag t) → t.is_union ≡ false → Structure world x t
  structure_is x t h kind = by (bytes_eq (codes "getchar") x) (bytes_eq (codes "putchar") x) refl refl h
    where
      by : (a c : Bool) → bytes_eq (codes "getchar") x ≡ a → bytes_eq (codes "putchar") x ≡ c → entry_by items x a c ≡ Some (OfTag t) → Structure world x t
      by true c q r k = absurd cc
      by false true q r k = absurd cc
      by false false q r k = record {
        named = found.texts x t h;
        no_union = kind;
        not_read = swapped (codes "getchar") x false q;
        not_written = swapped (codes "putchar") x false r;
        there = subst (λ (b : Bool). TagThere world b x) kind (found.there x t h);
      }

  -- a union
  unioned_is : (x : List ℕ) (t : Tag) → find tables x ≡ Some (OfTag t) → t.is_union ≡ true → Unioned world x t
  unioned_is x t h kind = record {
    named = found.texts x t h;
    union = kind;
    there = subst (λ (b : Bool). TagThere world b x) kind (found.there x t h);
  }

  tag_is : (x : List ℕ) (t : Tag) → find tables x ≡ Some (OfTag t) → Structure world x t ⊎ Unioned world x t
  tag_is x t h = by t.is_union refl
    where
      by : (b : Bool) → t.is_union ≡ b → Structure world x t ⊎ Unioned world x t
      by false e = inl (structure_is x t h e)
      by true e = inr (unioned_is x t h e)

  plain : (x : List ℕ) (y : Entry) → find tables x ≡ Some y → PlainEntry world x y
  plain x y h = by y h (entry_good 0 tables x y good h)
    where
      by : (y : Entry) → find tables x ≡ Some y → IsGoodEntry 0 y → PlainEntry world x y
      by (OfValue (Stored t r)) h s = s.0
      by (OfValue (Arrayed t r)) h s = s.0
      by (OfValue Counter) h s = no_counter x h
      by (OfValue (Unknown sound)) h s = absurd s
      by (OfTag t) h s = tag_is x t h
      by (OfFunction s) h k = its_function x s h
      by (OfBuiltin n) h s = builtin_is x n h
      by OfOther h s = absurd s

  -- ---- `main`

  main_here : MainHere heads 0 (judged_tags p) p
  main_here = find_main tables heads 0 (judged_tags p) p known clean.main

  abbrev main_signature : Signature
  main_signature = (head_of false heads main_here.function).signature

  main_found_there : find tables (codes "main") ≡ Some (OfFunction main_signature)
  main_found_there = main_here.found

  abbrev main_function : FunctionFound tables p (codes "main") main_signature
  main_function = function_found (codes "main") main_signature main_found_there

  -- what takes nothing has no types of parameters
  no_types : (ts : List StaticType) → [] ≡ map (λ (t : StaticType). shape_of t) ts → ts ≡ []
  no_types [] q = refl
  no_types (t ∷ ts) q = absurd cc

  main_judged : MainFound world tables
  main_judged =
      let f : FunctionFound tables p (codes "main") main_signature = main_function in
      record {
        signature = main_signature;
        function = its_function (codes "main") main_signature main_found_there;
        found = main_found_there;
        types = no_types f.good.head.signature.types
            (ap (λ (ms : List tree.Member). part_shapes (map part_of ms)) (sym (f.good.head.main_takes f.named)) ∙ f.good.head.shapes);
        gives = f.good.head.main_gives f.named;
      }

  pub judged : ProgramJudged p tables
  judged = record {
    structs = found.structs;
    unions = found.unions;
    plain = plain;
    globals = globals_judged tables heads 0 (judged_tags p) p same known;
    variables = variables;
    arrays = arrays;
    functions = functions;
    main = main_judged;
  }

  main_below : (program_code p).main < length (program_code p).functions
  main_below =
      let f : FunctionFound tables p (codes "main") main_signature = main_function in
      let less = number_below world.functions (codes "main") (routine_of f.function) f.found in
      subst (λ (n : ℕ). (program_code p).main < n) (sym (length-map world.functions (function_code world))) less

-- ---- the laws

module _ (bodies : BodiesJudged) where
  pub programs_judged : AcceptedAreJudged
  programs_judged p accepted = judged bodies p accepted

  pub programs_never_stuck : AcceptedAreNeverStuck
  programs_never_stuck p accepted = never_stuck p (tables_of false p) (programs_judged p accepted)

  pub programs_have_main : AcceptedHaveMain
  programs_have_main p accepted = main_below bodies p accepted
