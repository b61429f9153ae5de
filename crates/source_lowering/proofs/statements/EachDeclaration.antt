-- Each declaration that is taken does the same as its code.
use Rattle.std.proofs.Common.{◌≡◌, ℕ, suc, ◌+◌, ◌≤◌, List, [], ◌∷◌, ◌++◌, refl, sym, ap, ◌∙◌, subst, arith}
use Rattle.std.proofs.lemmas.List.{append-nil}
use Rattle.cyc_tree.specs.Tree as tree
use Rattle.cyc_tree.specs.Tree.{Expression, TypeName, Initializer, Declaration}
use Rattle.source_meaning.specs.Shapes.{
  Shape,
  IntShape,
  UnsignedShape,
  CharShape,
  VoidShape,
  ThinShape,
  FatShape,
  HandleShape,
  KeyShape,
  StructShape,
  UnionShape,
  ArrayShape,
  written,
  settled,
  settled_by,
}
use Rattle.source_meaning.specs.Steps.{World, Variable, Scope, Flow, Act}
use Rattle.source_meaning.specs.Places.{Sense, with_binding}
use Rattle.source_meaning.specs.Expressions.{sense}
use Rattle.source_meaning.specs.Regions.{declared, local_with, initialised, aliased, new_key}
use Rattle.source_meaning.specs.Statements as meaning_of
use Rattle.core_meaning.specs.Core as core
use Rattle.core_meaning.specs.Meaning as meaning
use Rattle.source_lowering.specs.Layouts.{layout_of}
use Rattle.source_lowering.specs.Lowered.{Named, put, put_local, conversion_code, static_shape, place_code, expression_code}
use Rattle.source_lowering.specs.Members.{words_in}
use Rattle.source_lowering.specs.Programs.{local_shape, named_here, unset_code, value_code, declaration_code}
use Rattle.source_lowering.specs.Lowerable.{IsObject, IsVariable, IsWholeShape, IsObjectType, HasBeginning, Takes, TakesPlace, TakesValue}
use Rattle.source_lowering.specs.Lowerable.{TakesDeclaration}
use Rattle.source_lowering.specs.Simulation.{Point, SameAt, around, contents_in}
use Rattle.source_lowering.proofs.memory.Keeping.{less_self, later_on, later_items, blocks_of}
use Rattle.source_lowering.proofs.Runs.{put_all}
use Rattle.source_lowering.proofs.values.Integers.{IsValueShape, value_taken}
use Rattle.source_lowering.proofs.values.AnyValues.{value_given}
use Rattle.source_lowering.proofs.statements.WrittenTypes.{object_settled, object_by}
use Rattle.source_lowering.proofs.values.Values.{put_three}
use Rattle.source_lowering.proofs.expressions.Variables.{Agrees}
use Rattle.source_lowering.proofs.values.Conversions.{converted_gives}
use Rattle.source_lowering.proofs.expressions.Calls.{CallsAs}
use Rattle.source_lowering.proofs.expressions.EachExpression.{Known, place_in, IsKnown, place_same, expression_same, whole_same}
use Rattle.source_lowering.proofs.expressions.Making.{local_spot}
use Rattle.source_lowering.proofs.statements.Statements.{RunsAs, ways_later}
use Rattle.source_lowering.proofs.statements.Declaring.{local_with_same}
use Rattle.source_lowering.proofs.memory.Beginning.{declared_same}
use Rattle.source_lowering.proofs.expressions.ArrayBeginning.{array_begins}
use Rattle.source_lowering.proofs.memory.ObjectShapes.{object_named}
use Rattle.source_lowering.proofs.memory.Initialising.{copy_code, placed_begins}
use Rattle.source_lowering.proofs.statements.LexicalRegions.{region_declared}
use Rattle.std.specs.Prelude.{if◌then◌else◌}
use Rattle.std.proofs.Common.{Bool, true, false}
use Rattle.source_lowering.specs.Whole.{is_made, expression_values, whole_values, whole_code}
use Rattle.source_lowering.specs.Programs.{regions_with, source_code, initial_values, declaration_values, ending_code}
use Rattle.source_lowering.specs.Lowerable.{TakesWhole}
use Rattle.source_lowering.proofs.expressions.Numbered.{AreNumbered}
use Rattle.source_lowering.proofs.bounds.WholeObjects.{unmade_place, unmade_struct}
use Rattle.source_lowering.proofs.statements.WholeStatements.{whole_begins}
use Rattle.source_lowering.proofs.statements.Aliasing.{alias_same}
use Rattle.source_lowering.proofs.statements.Opening.{key_declared, open_declared}
use Rattle.source_lowering.proofs.expressions.PointerReads.{key_named}
use Rattle.source_lowering.specs.Lowered.{get_code}

-- ---- declarations

-- the place after a declaration, as lowering knows it
abbrev pub known_more : Known → List ℕ → Shape → List Shape → Known
known_more k name shape pending =
    record k { names = named_here name shape k.made ∷ k.names; made = suc k.made; pending = pending }

abbrev pub scope_more : Scope → Known → List ℕ → Shape → Scope
scope_more scope k name shape = with_binding scope name (Variable shape (local_spot scope.frame k.made))

pub known_still : (scope : Scope) (k : Known) (name : List ℕ) (shape : Shape) (pending : List Shape) → IsVariable scope.world.unions scope.world.structs shape
    → IsKnown scope k
    → IsKnown (scope_more scope k name shape) (known_more k name shape pending)
known_still scope k name shape pending object known = record {
  world = known.world;
  locals = (record { named = refl; stands = record { frame = scope.frame; in_block = refl; is = refl } }, known.locals);
  words = (object, known.words);
}

unset_same : (n : ℕ) (scope : Scope) (k : Known) (result : Shape) (name : List ℕ) (shape : Shape) (shapes : List Shape) (then_act : Scope → Act Flow)
    (others : List core.Statement) → IsKnown scope k → IsObject scope.world.unions scope.world.structs shape → HasBeginning shape → k.pending ≡ shape ∷ shapes
    → RunsAs (place_in (scope_more scope k name shape) (known_more k name shape shapes)) n scope.frame result (then_act (scope_more scope k name shape)) others
    → RunsAs (place_in scope k) n scope.frame result (declared scope name shape (meaning_of.first_object scope.world shape) then_act)
    (unset_code scope.world shape k.regions.all k.made ++ others)
unset_same n scope k result name shape shapes then_act others known object begins pending more = record {
  same = λ m c next rest after fits ways.
      subst (λ z. SameAt (place_in scope k) n (declared scope name shape (meaning_of.first_object scope.world shape) then_act next m)
      (meaning.statements z after c)) (sym (put_all (unset_code scope.world shape k.regions.all k.made) others rest))
      (declared_same (place_in scope k) n scope name shape shapes then_act next m c (put others rest) after refl refl known.world.structs object begins pending
      fits
      (record {
        go = λ m2 c2 fits2 later2 blocks2 kept2.
            more.same m2 c2 next rest after fits2
            (ways_later scope.world k.program n k.regions (around (place_in scope k) scope.frame) (around (place_in scope k) scope.frame) m m2 c c2 result next
            (meaning.statements rest after) after (less_self (around (place_in scope k) scope.frame)) later2 blocks2 kept2 ways);
      }));
}

-- an array
array_same : (n : ℕ) (scope : Scope) (k : Known) (result : Shape) (name : List ℕ) (count : ℕ) (of : Shape) (shapes : List Shape)
    (then_act : Scope → Act Flow) (others : List core.Statement) → IsKnown scope k → IsObject scope.world.unions scope.world.structs of
    → k.pending ≡ ArrayShape count of ∷ shapes
    → RunsAs (place_in (scope_more scope k name (ArrayShape count of)) (known_more k name (ArrayShape count of) shapes)) n scope.frame result
    (then_act (scope_more scope k name (ArrayShape count of))) others
    → RunsAs (place_in scope k) n scope.frame result
    (declared scope name (ArrayShape count of) (meaning_of.first_array scope.world count of) then_act)
    (unset_code scope.world (ArrayShape count of) k.regions.all k.made ++ others)
array_same n scope k result name count of shapes then_act others known object pending more = record {
  same = λ m c next rest after fits ways.
      subst (λ z. SameAt (place_in scope k) n (declared scope name (ArrayShape count of) (meaning_of.first_array scope.world count of) then_act next m)
      (meaning.statements z after c)) (sym (put_all (unset_code scope.world (ArrayShape count of) k.regions.all k.made) others rest))
      (array_begins (place_in scope k) n scope name count of shapes then_act next m c (put others rest) after refl refl known.world.structs object pending
      fits
      (record {
        go = λ m2 c2 fits2 later2 blocks2 kept2.
            more.same m2 c2 next rest after fits2
            (ways_later scope.world k.program n k.regions (around (place_in scope k) scope.frame) (around (place_in scope k) scope.frame) m m2 c c2 result next
            (meaning.statements rest after) after (less_self (around (place_in scope k) scope.frame)) later2 blocks2 kept2 ways);
      }));
}

value_same : (n : ℕ) (scope : Scope) (k : Known) (result : Shape) (name : List ℕ) (shape : Shape) (shapes : List Shape) (e : Sense) (from : Shape)
    (first : List core.Statement) (then_act : Scope → Act Flow) (others : List core.Statement) → IsValueShape shape → k.pending ≡ shape ∷ shapes
    → Agrees (place_in scope k) n k.regions.all e from first
    → RunsAs (place_in (scope_more scope k name shape) (known_more k name shape shapes)) n scope.frame result (then_act (scope_more scope k name shape)) others
    → RunsAs (place_in scope k) n scope.frame result (initialised scope name shape e then_act)
    ((first ++ (conversion_code scope.world shape from k.regions.all ++ put_local shape k.regions.all 0 k.made)) ++ others)
value_same n scope k result name shape shapes e from first then_act others is_value pending one more = record {
  same = λ m c next rest after fits ways.
      subst (λ z. SameAt p n (initialised scope name shape e then_act next m) (meaning.statements z after c))
      (sym (put_all (first ++ (conversion_code scope.world shape from d ++ stores)) others rest
      ∙ put_three first (conversion_code scope.world shape from d) stores (put others rest)
      ∙ sym (put_all first (conversion_code scope.world shape from d) (put stores (put others rest)))))
      ((converted_gives p n d shape e from first (value_taken shape is_value) one).same m c (λ vs. local_with scope name shape vs then_act next)
      (put stores (put others rest)) after fits (record {
        above = omega arith;
        go = λ m1 c1 vs fits1 later1 kept1 given1.
            local_with_same p n (d + words_in shape) d scope name shape shapes vs then_act next m1 c1 (put others rest) after refl refl is_value (omega arith)
            pending fits1 (value_given p.world m1 c1.memory shape vs (contents_in d shape c1.temps) is_value given1) (record {
              above = omega arith;
              go = λ m2 c2 fits2 later2 temps2 blocks2.
                  more.same m2 c2 next rest after fits2
                  (ways_later scope.world k.program n k.regions (around p scope.frame) (around p scope.frame) m m2 c c2 result next
                  (meaning.statements rest after) after (less_self (around p scope.frame))
                  (later_on (around p scope.frame) m m1 m2 c.memory c1.memory c2.memory (later_items p m m1 c c1 later1) later2)
                  (blocks2 ∙ blocks_of p m m1 c c1 fits fits1) (λ i small. temps2 i (omega (arith, small)) ∙ kept1 i small) ways);
            });
      }));
}
  where
    p : Point
    p = place_in scope k

    d : ℕ
    d = k.regions.all

    stores : List core.Statement
    stores = put_local shape d 0 k.made

-- a local with an initializer: a value is put there, and a struct's object is copied
value_initialised : (n : ℕ) (scope : Scope) (k : Known) (result : Shape) (name : List ℕ) (of : TypeName) (shape : Shape) (e : Expression)
    (value : ℕ) (shapes : List Shape) (then_act : Scope → Act Flow) (others : List core.Statement)
    → settled_by (written of) (static_shape scope.world k.names e) ≡ shape
    → IsValueShape shape → Takes scope.world k.names e
    → AreNumbered k.owned value (expression_values scope.world k.names e) → k.kept ≤ value → IsKnown scope k → CallsAs scope.world k.program n
    → k.pending ≡ shape ∷ shapes
    → RunsAs (place_in (scope_more scope k name shape) (known_more k name shape shapes)) n scope.frame result (then_act (scope_more scope k name shape)) others
    → RunsAs (place_in scope k) n scope.frame result (initialised scope name (settled_by (written of) (sense e scope).shape) (sense e scope) then_act)
    ((expression_code scope.world k.names e k.regions.all value ++
    (conversion_code scope.world shape (static_shape scope.world k.names e) k.regions.all ++ put_local shape k.regions.all 0 k.made)) ++ others)
value_initialised n scope k result name of shape e value shapes then_act others is is_value h numbered less known calls pending more =
    let one = expression_same e scope k h known n calls k.regions.all value numbered less in
    subst (λ z. RunsAs (place_in scope k) n scope.frame result (initialised scope name z (sense e scope) then_act)
    ((expression_code scope.world k.names e k.regions.all value ++
    (conversion_code scope.world shape (static_shape scope.world k.names e) k.regions.all ++ put_local shape k.regions.all 0 k.made)) ++ others))
    (sym (ap (settled_by (written of)) one.shape_is ∙ is))
    (value_same n scope k result name shape shapes (sense e scope) (static_shape scope.world k.names e)
    (expression_code scope.world k.names e k.regions.all value) then_act others is_value pending one more)

place_initialised : (n : ℕ) (scope : Scope) (k : Known) (result : Shape) (name : List ℕ) (shape : Shape) (of : TypeName) (e : Expression)
    (value : ℕ) (shapes : List Shape) (then_act : Scope → Act Flow) (others : List core.Statement)
    → settled_by (written of) (static_shape scope.world k.names e) ≡ shape
    → IsWholeShape scope.world.unions scope.world.structs shape → TakesPlace scope.world k.names e
    → IsWholeShape scope.world.unions scope.world.structs (static_shape scope.world k.names e)
    → AreNumbered k.owned value (expression_values scope.world k.names e) → k.kept ≤ value → IsKnown scope k → CallsAs scope.world k.program n
    → k.pending ≡ shape ∷ shapes
    → RunsAs (place_in (scope_more scope k name shape) (known_more k name shape shapes)) n scope.frame result
    (then_act (scope_more scope k name shape)) others
    → RunsAs (place_in scope k) n scope.frame result (initialised scope name (settled_by (written of) (sense e scope).shape) (sense e scope) then_act)
    ((place_code scope.world k.names e k.regions.all value ++ copy_code (place_in scope k) (layout_of scope.world shape)) ++ others)
place_initialised n scope k result name shape of e value shapes then_act others is is_whole h whole numbered less known calls pending more =
    let one = place_same e scope k h known n calls k.regions.all value numbered less in
    subst (λ z. RunsAs (place_in scope k) n scope.frame result (initialised scope name z (sense e scope) then_act)
    ((place_code scope.world k.names e k.regions.all value ++ copies) ++ others))
    (sym (ap (settled_by (written of)) one.shape_is ∙ is))
    (record {
      same = λ m c next rest after fits ways.
          subst (λ z. SameAt (place_in scope k) n (initialised scope name shape (sense e scope) then_act next m) (meaning.statements z after c))
          (sym (put_all (place_code scope.world k.names e k.regions.all value ++ copies) others rest ∙
          put_all (place_code scope.world k.names e k.regions.all value) copies (put others rest)))
          (placed_begins (place_in scope k) n scope name shape shapes (sense e scope) (static_shape scope.world k.names e)
          (place_code scope.world k.names e k.regions.all value) then_act next m c (put others rest)
          after refl refl known.world.structs is_whole pending fits one whole
          (record {
            go = λ m2 c2 fits2 later2 blocks2 kept2.
                more.same m2 c2 next rest after fits2
                (ways_later scope.world k.program n k.regions (around (place_in scope k) scope.frame) (around (place_in scope k) scope.frame) m m2 c c2 result
                next (meaning.statements rest after) after (less_self (around (place_in scope k) scope.frame)) later2 blocks2 kept2 ways);
          }));
    })
  where
    copies : List core.Statement
    copies = copy_code (place_in scope k) (layout_of scope.world shape)

-- a struct or a union that is made
made_initialised : (n : ℕ) (scope : Scope) (k : Known) (result : Shape) (name : List ℕ) (shape : Shape) (of : TypeName) (e : Expression) (value : ℕ)
    (shapes : List Shape) (then_act : Scope → Act Flow) (others : List core.Statement) → settled_by (written of) (static_shape scope.world k.names e) ≡ shape
    → IsWholeShape scope.world.unions scope.world.structs shape → TakesWhole scope.world k.names e
    → AreNumbered k.owned value (whole_values scope.world k.names e) → k.kept ≤ value → IsKnown scope k → CallsAs scope.world k.program n
    → k.pending ≡ shape ∷ shapes
    → RunsAs (place_in (scope_more scope k name shape) (known_more k name shape shapes)) n scope.frame result
    (then_act (scope_more scope k name shape)) others
    → RunsAs (place_in scope k) n scope.frame result (initialised scope name (settled_by (written of) (sense e scope).shape) (sense e scope) then_act)
    ((whole_code scope.world k.names e k.regions.all value ++ copy_code (place_in scope k) (layout_of scope.world shape)) ++ others)
made_initialised n scope k result name shape of e value shapes then_act others is is_whole h numbered less known calls pending more =
    let whole = whole_same e scope k h known n calls k.regions.all value numbered in
    let one = whole.whole in
    subst (λ z. RunsAs (place_in scope k) n scope.frame result (initialised scope name z (sense e scope) then_act)
    ((whole_code scope.world k.names e k.regions.all value ++ copies) ++ others))
    (sym (ap (settled_by (written of)) whole.shape_is ∙ is))
    (record {
      same = λ m c next rest after fits ways.
          subst (λ z. SameAt (place_in scope k) n (initialised scope name shape (sense e scope) then_act next m) (meaning.statements z after c))
          (sym (put_all (whole_code scope.world k.names e k.regions.all value ++ copies) others rest ∙
          put_all (whole_code scope.world k.names e k.regions.all value) copies (put others rest)))
          (whole_begins (place_in scope k) n value scope name shape shapes (sense e scope) (whole_code scope.world k.names e k.regions.all value)
          then_act next m c (put others rest) after refl refl known.world.structs is_whole pending fits one
          (record {
            go = λ m2 c2 fits2 later2 blocks2 kept2.
                more.same m2 c2 next rest after fits2
                (ways_later scope.world k.program n k.regions (around (place_in scope k) scope.frame) (around (place_in scope k) scope.frame) m m2 c c2 result
                next (meaning.statements rest after) after (less_self (around (place_in scope k) scope.frame)) later2 blocks2 kept2 ways);
          }));
    })
  where
    copies : List core.Statement
    copies = copy_code (place_in scope k) (layout_of scope.world shape)

whole_initialised : (n : ℕ) (scope : Scope) (k : Known) (result : Shape) (name : List ℕ) (shape : Shape) (of : TypeName) (e : Expression) (value : ℕ)
    (shapes : List Shape) (then_act : Scope → Act Flow) (others : List core.Statement) → settled_by (written of) (static_shape scope.world k.names e) ≡ shape
    → IsWholeShape scope.world.unions scope.world.structs shape → TakesWhole scope.world k.names e
    → AreNumbered k.owned value (if is_made scope.world e then whole_values scope.world k.names e else expression_values scope.world k.names e)
    → k.kept ≤ value → IsKnown scope k → CallsAs scope.world k.program n → k.pending ≡ shape ∷ shapes
    → RunsAs (place_in (scope_more scope k name shape) (known_more k name shape shapes)) n scope.frame result
    (then_act (scope_more scope k name shape)) others
    → RunsAs (place_in scope k) n scope.frame result (initialised scope name (settled_by (written of) (sense e scope).shape) (sense e scope) then_act)
    ((source_code scope.world k.names (is_made scope.world e) e k.regions.all value ++ copy_code (place_in scope k) (layout_of scope.world shape)) ++ others)
whole_initialised n scope k result name shape of e value shapes then_act others is is_whole h numbered less known calls pending more =
    by (is_made scope.world e) refl
  where
    copies : List core.Statement
    copies = copy_code (place_in scope k) (layout_of scope.world shape)

    goal : Bool → Type 0
    goal b = RunsAs (place_in scope k) n scope.frame result (initialised scope name (settled_by (written of) (sense e scope).shape) (sense e scope) then_act)
        ((source_code scope.world k.names b e k.regions.all value ++ copies) ++ others)

    by : (b : Bool) → is_made scope.world e ≡ b → goal (is_made scope.world e)
    by true made =
        subst goal (sym made)
        (made_initialised n scope k result name shape of e value shapes then_act others is is_whole h
        (subst (λ z. AreNumbered k.owned value (if z then whole_values scope.world k.names e else expression_values scope.world k.names e))
        made numbered) less known calls
        pending more)
    by false made =
        subst goal (sym made)
        (place_initialised n scope k result name shape of e value shapes then_act others is is_whole (unmade_place scope.world k.names e h made)
        (unmade_struct scope.world k.names e h made)
        (subst (λ z. AreNumbered k.owned value (if z then whole_values scope.world k.names e else expression_values scope.world k.names e)) made numbered) less
        known calls pending more)

initialised_same : (n : ℕ) (scope : Scope) (k : Known) (result : Shape) (name : List ℕ) (of : TypeName) (e : Expression) (value : ℕ)
    (shapes : List Shape) (then_act : Scope → Act Flow) (others : List core.Statement) → IsObjectType scope.world.unions scope.world.structs of
    → TakesValue scope.world k.names (settled_by (written of) (static_shape scope.world k.names e)) e
    → AreNumbered k.owned value (initial_values scope.world k.names (settled_by (written of) (static_shape scope.world k.names e)) e) → k.kept ≤ value
    → IsKnown scope k
    → CallsAs scope.world k.program n
    → k.pending ≡ settled_by (written of) (static_shape scope.world k.names e) ∷ shapes
    → RunsAs (place_in (scope_more scope k name (settled_by (written of) (static_shape scope.world k.names e)))
    (known_more k name (settled_by (written of) (static_shape scope.world k.names e)) shapes)) n scope.frame result
    (then_act (scope_more scope k name (settled_by (written of) (static_shape scope.world k.names e)))) others
    → RunsAs (place_in scope k) n scope.frame result (initialised scope name (settled_by (written of) (sense e scope).shape) (sense e scope) then_act)
    (value_code scope.world k.names (settled_by (written of) (static_shape scope.world k.names e)) e k.regions.all k.made value ++ others)
initialised_same n scope k result name of e value shapes then_act others type h numbered less known calls pending more =
    by (settled_by (written of) (static_shape scope.world k.names e)) refl
    (object_by scope.world.unions scope.world.structs of type (static_shape scope.world k.names e)) h numbered pending more
  where
    goal : Shape → Type 0
    goal s = RunsAs (place_in scope k) n scope.frame result (initialised scope name (settled_by (written of) (sense e scope).shape) (sense e scope) then_act)
        (value_code scope.world k.names s e k.regions.all k.made value ++ others)

    by : (s : Shape) → settled_by (written of) (static_shape scope.world k.names e) ≡ s → IsObject scope.world.unions scope.world.structs s
        → TakesValue scope.world k.names s e
        → AreNumbered k.owned value (initial_values scope.world k.names s e) → k.pending ≡ s ∷ shapes
        → RunsAs (place_in (scope_more scope k name s) (known_more k name s shapes)) n scope.frame result (then_act (scope_more scope k name s)) others
        → goal s
    by (StructShape tag) is object takes numbers first on =
        whole_initialised n scope k result name (StructShape tag) of e value shapes then_act others is object takes numbers less known calls first on
    by (UnionShape tag) is object takes numbers first on =
        whole_initialised n scope k result name (UnionShape tag) of e value shapes then_act others is object takes numbers less known calls first on
    by IntShape is object takes numbers first on =
        value_initialised n scope k result name of IntShape e value shapes then_act others is tt takes numbers less known calls first on
    by UnsignedShape is object takes numbers first on =
        value_initialised n scope k result name of UnsignedShape e value shapes then_act others is tt takes numbers less known calls first on
    by CharShape is object takes numbers first on =
        value_initialised n scope k result name of CharShape e value shapes then_act others is tt takes numbers less known calls first on
    by (ThinShape b owner to) is object takes numbers first on =
        value_initialised n scope k result name of (ThinShape b owner to) e value shapes then_act others is object takes numbers less known calls first on
    by VoidShape is object takes numbers first on = absurd object
    by (FatShape to) is object takes numbers first on =
        value_initialised n scope k result name of (FatShape to) e value shapes then_act others is object takes numbers less known calls first on
    by HandleShape is object takes numbers first on =
        value_initialised n scope k result name of HandleShape e value shapes then_act others is tt takes numbers less known calls first on
    by KeyShape is object takes numbers first on =
        value_initialised n scope k result name of KeyShape e value shapes then_act others is tt takes numbers less known calls first on
    by (ArrayShape count from) is object takes numbers first on = absurd object

-- the place behind a declaration, as lowering knows it
abbrev pub known_behind : World → Known → Declaration → List Shape → Known
known_behind w k d pending = record (known_more k (tree.local_of d).text (local_shape w k.names d) pending) { regions = regions_with d k.regions }

pub known_next : (scope : Scope) (k : Known) (d : Declaration) (pending : List Shape)
    → IsVariable scope.world.unions scope.world.structs (local_shape scope.world k.names d)
    → IsKnown scope k
    → IsKnown (scope_more scope k (tree.local_of d).text (local_shape scope.world k.names d)) (known_behind scope.world k d pending)
known_next scope k d pending object known =
    let still = known_still scope k (tree.local_of d).text (local_shape scope.world k.names d) pending object known in
    record { world = still.world; locals = still.locals; words = still.words }

pub declaration_same : (n : ℕ) (d : Declaration) (value : ℕ) (scope : Scope) (k : Known) (result : Shape) (shapes : List Shape) (then_act : Scope → Act Flow)
    (others : List core.Statement) → TakesDeclaration scope.world k.names d → AreNumbered k.owned value (declaration_values scope.world k.names d)
    → k.kept ≤ value → IsKnown scope k → CallsAs scope.world k.program n → k.pending ≡ local_shape scope.world k.names d ∷ shapes
    → RunsAs (place_in (scope_more scope k (tree.local_of d).text (local_shape scope.world k.names d)) (known_behind scope.world k d shapes)) n
    scope.frame result
    (then_act (scope_more scope k (tree.local_of d).text (local_shape scope.world k.names d))) others
    → RunsAs (place_in scope k) n scope.frame result (meaning_of.declaration d scope then_act)
    (declaration_code scope.world k.names d k.regions.all k.made value ++ (others ++ ending_code d k.regions.all))
declaration_same n (tree.Local of name Initializer.Unset) value scope k result shapes then_act others h numbered less known calls pending more =
    subst (λ z. RunsAs (place_in scope k) n scope.frame result (declared scope name.text (settled (written of))
    (meaning_of.first_object scope.world (settled (written of))) then_act) (unset_code scope.world (settled (written of)) k.regions.all k.made ++ z))
    (sym (append-nil others))
    (unset_same n scope k result name.text (settled (written of)) shapes then_act others known
    (object_settled scope.world.unions scope.world.structs of h.0) h.1 pending more)
declaration_same n (tree.Local of name (Initializer.Elements count)) value scope k result shapes then_act others h numbered less known calls pending more =
    subst (λ z. RunsAs (place_in scope k) n scope.frame result (declared scope name.text (ArrayShape count (settled (written of)))
    (meaning_of.first_array scope.world count (settled (written of))) then_act)
    (unset_code scope.world (ArrayShape count (settled (written of))) k.regions.all k.made ++ z)) (sym (append-nil others))
    (array_same n scope k result name.text count (settled (written of)) shapes then_act others known
    (object_settled scope.world.unions scope.world.structs of h.0) pending more)
declaration_same n (tree.Local of name (Initializer.Value e)) value scope k result shapes then_act others h numbered less known calls pending more =
    subst (λ z. RunsAs (place_in scope k) n scope.frame result
    (initialised scope name.text (settled_by (written of) (sense e scope).shape) (sense e scope) then_act)
    (value_code scope.world k.names (settled_by (written of) (static_shape scope.world k.names e)) e k.regions.all k.made value ++ z))
    (sym (append-nil others))
    (initialised_same n scope k result name.text of e value shapes then_act others h.0 h.1 numbered less known calls pending more)
declaration_same n (tree.Region at region handle) value scope k result shapes then_act others h numbered less known calls pending more =
    region_declared (place_in scope k) n scope handle.text shapes result then_act others refl refl pending more
declaration_same n (tree.Open at region handle key) value scope k result shapes then_act others h numbered less known calls pending more =
    open_declared (place_in scope k) n scope handle.text key.text (get_code scope.world k.names key.text k.regions.all) shapes result then_act others refl refl
    (key_named (place_in scope k) n k.regions.all key.text known.locals known.words known.world.globals h) pending more
declaration_same n (tree.Alias at region of alias pointer) value scope k result shapes then_act others h numbered less known calls pending more =
    subst (λ z. RunsAs (place_in scope k) n scope.frame result (aliased scope (written of) alias.text pointer.text then_act)
    (value_code scope.world k.names (settled_by (written of) (static_shape scope.world k.names (Expression.Variable pointer))) (Expression.Variable pointer)
    k.regions.all k.made value ++ z)) (sym (append-nil others))
    (alias_same n scope k result (written of) alias.text pointer value shapes then_act others h.1.0 h.1.1 known pending more)
declaration_same n (tree.NewKey at region key) value scope k result shapes then_act others h numbered less known calls pending more =
    subst (λ z. RunsAs (place_in scope k) n scope.frame result (new_key scope key.text then_act)
    ((core.Do (core.KeyNew k.regions.all) ∷ core.Do (core.Put 0 k.made 4 k.regions.all) ∷ []) ++ z)) (sym (append-nil others))
    (key_declared (place_in scope k) n scope key.text shapes result then_act others refl refl pending more)

-- a local is an object, or an array
pub shape_object : (w : World) (names : List Named) (d : Declaration) → TakesDeclaration w names d → IsVariable w.unions w.structs (local_shape w names d)
shape_object w names (tree.Local of name Initializer.Unset) h =
    object_named w.unions w.structs (settled (written of)) (object_settled w.unions w.structs of h.0)
shape_object w names (tree.Local of name (Initializer.Elements count)) h = (h.1.0, object_settled w.unions w.structs of h.0)
shape_object w names (tree.Local of name (Initializer.Value e)) h =
    object_named w.unions w.structs (settled_by (written of) (static_shape w names e)) (object_by w.unions w.structs of h.0 (static_shape w names e))
shape_object w names (tree.Region at region handle) h = tt
shape_object w names (tree.Open at region handle key) h = tt
shape_object w names (tree.Alias at region of alias pointer) h =
    let s = static_shape w names (Expression.Variable pointer) in
    object_named w.unions w.structs (settled_by (written of) s) (object_by w.unions w.structs of h.0 s)
shape_object w names (tree.NewKey at region key) h = tt
