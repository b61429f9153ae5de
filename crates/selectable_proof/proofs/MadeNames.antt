-- What stands around the code of values names temporary objects of its function: structs and unions that are copied, members, and what `new` and `rnew` make.
use Rattle.std.proofs.Common.{ℕ, ◌+◌, ◌<◌, ◌≤◌, Bool, true, false, List, ◌++◌, length, ◌∷◌, arith}
use Rattle.source_meaning.specs.Shapes.{Shape, StructShape, UnionShape, UnsignedShape}
use Rattle.source_meaning.specs.Steps.{World}
use Rattle.core_meaning.specs.Core.{Statement, Do, Element, Put}
use Rattle.core_meaning.specs.Selectable.{IsLocal}
use Rattle.source_lowering.specs.Members.{words_in}
use Rattle.source_lowering.specs.Lowered.{stores_code, values_by, copied_code, word_member_code, member_code, request_code, new_code_by, array_code}
use Rattle.source_lowering.specs.Lowered.{element_by, next_number, union_code, conversion_code, tag_store, held_stores, width_of}
use Rattle.source_lowering.specs.Lowerable.{IsTarget, IsObject, IsWholeShape, TakesMember}
use Rattle.source_lowering.proofs.values.Integers.{object_target}
use Rattle.source_lowering.proofs.expressions.Names.{IsPlainWorld}
use Rattle.source_lowering.proofs.bounds.WholeObjects.{struct_object}
use Rattle.selectable_proof.specs.Naming.{CodeNames}
use Rattle.selectable_proof.proofs.Naming.{both_name, all_name}
use Rattle.selectable_proof.proofs.Layouts.{object_layout, variable_layout}
use Rattle.selectable_proof.proofs.Pointers.{stores_names, given_names}
use Rattle.selectable_proof.proofs.Parts.{conversion_names}
use Rattle.source_meaning.specs.Conversions.{cells_of}
use Rattle.source_lowering.specs.Layouts.{extent_of}
use Rattle.selectable_proof.proofs.StaticShapes.{target_small}

module _ (blocks : List ℕ) (own n : ℕ) (w : World) (plain : IsPlainWorld w) where
  -- a place that is read whole
  pub read_names : (s : Shape) (d next : ℕ) (place : List Statement) → IsWholeShape w.unions w.structs s → next < own → CodeNames blocks own n place
      → CodeNames blocks own n (place ++ copied_code w s d next)
  read_names s d next place h less names =
      let l = object_layout w s plain (struct_object w.unions w.structs s h) in
      both_name blocks own n _ _ names (less, ((l.lies, l.full), (less, tt)))

  -- a union gets a member, whose value is there
  pub union_names : (s from : Shape) (number d : ℕ) → IsTarget s → CodeNames blocks own n (union_code w s from number d)
  union_names s from number d target =
      both_name blocks own n (conversion_code w s from (d + 1)) (tag_store d (d + 1 + words_in s) number ++ held_stores s d (d + 1))
      (conversion_names blocks own n w plain s from (d + 1) target) (tt, (tt, given_names blocks own n s d (d + 1)))

  -- a block for one object is asked for
  request_names : (unique : Bool) (s : Shape) (d count : ℕ) → IsObject w.unions w.structs s → CodeNames blocks own n (request_code w unique s d count)
  request_names true s d count o = (((object_layout w s plain o).lies, target_small w s plain (object_target w.unions w.structs s o)), tt)
  request_names false s d count o = (tt, ((object_layout w s plain o).lies, tt))

  module _ (d next : ℕ) (whole_values word_values : List Shape) (whole word : List Statement) (for_whole for_word : Type 0)
      (as_whole : for_whole → next + length whole_values ≤ own → CodeNames blocks own n whole)
      (as_word : for_word → next + length word_values ≤ own → CodeNames blocks own n word) where
    -- a member of a struct
    pub member_names : (s from : Shape) (cells bytes : ℕ) → IsObject w.unions w.structs s → TakesMember s for_whole for_word
        → next + length (values_by s whole_values word_values) ≤ own → CodeNames blocks own n (member_code w s from d cells bytes whole word)
    member_names s from cells bytes object takes room = by s object takes room
      where
        as_a_word : (of : Shape) → IsObject w.unions w.structs of → CodeNames blocks own n word
            → CodeNames blocks own n (word ++ word_member_code w of from d cells bytes)
        as_a_word of o names =
            both_name blocks own n _ _ names
            (both_name blocks own n _ _ (conversion_names blocks own n w plain of from (d + 1) (object_target w.unions w.structs of o))
            (stores_names blocks own n of d (d + 1) cells bytes))

        by : (of : Shape) → IsObject w.unions w.structs of → TakesMember of for_whole for_word → next + length (values_by of whole_values word_values) ≤ own
            → CodeNames blocks own n (member_code w of from d cells bytes whole word)
        by (StructShape tag) o takes room =
            let l = object_layout w (StructShape tag) plain o in both_name blocks own n _ _ (as_whole takes room) (tt, ((l.lies, l.full), tt))
        by (UnionShape tag) o takes room =
            let l = object_layout w (UnionShape tag) plain o in both_name blocks own n _ _ (as_whole takes room) (tt, ((l.lies, l.full), tt))
        by of o takes room = as_a_word of o (as_word takes room)

    -- what is made: a block is asked for, and the value stored there
    pub made_names : (unique : Bool) (s : Shape) → IsObject w.unions w.structs s → TakesMember s for_whole for_word
        → next + length (values_by s whole_values word_values) ≤ own → CodeNames blocks own n (new_code_by w unique s d whole word)
    made_names unique s object takes room = by s object takes room
      where
        as_a_word : (of : Shape) → IsObject w.unions w.structs of → CodeNames blocks own n word
            → CodeNames blocks own n (word ++ (request_code w unique of d (d + 1 + words_in of) ++ stores_code of d (d + 1) 0 0))
        as_a_word of o names =
            both_name blocks own n _ _ names
            (both_name blocks own n _ _ (request_names unique of d (d + 1 + words_in of) o) (stores_names blocks own n of d (d + 1) 0 0))

        by : (of : Shape) → IsObject w.unions w.structs of → TakesMember of for_whole for_word → next + length (values_by of whole_values word_values) ≤ own
            → CodeNames blocks own n (new_code_by w unique of d whole word)
        by (StructShape tag) o takes room =
            let l = object_layout w (StructShape tag) plain o in
            both_name blocks own n _ _ (as_whole takes room)
            (both_name blocks own n _ _ (request_names unique (StructShape tag) d (d + 2) o) ((l.lies, l.full), tt))
        by (UnionShape tag) o takes room =
            let l = object_layout w (UnionShape tag) plain o in
            both_name blocks own n _ _ (as_whole takes room)
            (both_name blocks own n _ _ (request_names unique (UnionShape tag) d (d + 2) o) ((l.lies, l.full), tt))
        by of o takes room = as_a_word of o (as_word takes room)

    -- an element of an array that is made, in the temporaries behind the array's own
    pub element_names : (s : Shape) → IsObject w.unions w.structs s → TakesMember s for_whole for_word
        → next + length (values_by s whole_values word_values) ≤ own
        → CodeNames blocks own n (element_by w s d whole word)
    element_names s object takes room = by s object takes room
      where
        as_a_word : (of : Shape) → IsObject w.unions w.structs of → CodeNames blocks own n word
            → CodeNames blocks own n (word ++ (Do (Element (d + 3 + words_in of) d (d + 2) (length (cells_of w of)) (extent_of w of).size) ∷
            stores_code of (d + 3 + words_in of) (d + 3) 0 0))
        as_a_word of o names =
            both_name blocks own n _ _ names
            (target_small w of plain (object_target w.unions w.structs of o), stores_names blocks own n of (d + 3 + words_in of) (d + 3) 0 0)

        by : (of : Shape) → IsObject w.unions w.structs of → TakesMember of for_whole for_word → next + length (values_by of whole_values word_values) ≤ own
            → CodeNames blocks own n (element_by w of d whole word)
        by (StructShape tag) o takes room =
            let l = object_layout w (StructShape tag) plain o in
            both_name blocks own n _ _ (as_whole takes room)
            (target_small w (StructShape tag) plain (object_target w.unions w.structs (StructShape tag) o), ((l.lies, l.full), tt))
        by (UnionShape tag) o takes room =
            let l = object_layout w (UnionShape tag) plain o in
            both_name blocks own n _ _ (as_whole takes room)
            (target_small w (UnionShape tag) plain (object_target w.unions w.structs (UnionShape tag) o), ((l.lies, l.full), tt))
        by of o takes room = as_a_word of o (as_word takes room)

  -- the request for an array, and its elements in the block of their index
  pub array_names : (s : Shape) (d : ℕ) (each : List Statement) → IsObject w.unions w.structs s → CodeNames (1 ∷ blocks) own n each
      → CodeNames blocks own n (array_code w s d each)
  array_names s d each object names =
      let inside : List ℕ = 1 ∷ blocks in
      let begun : IsLocal inside 0 0 = omega arith in
      let code : List Statement = Do (Put 0 0 (width_of UnsignedShape) (d + 2)) ∷ (each ++ next_number d) in
      let turn : CodeNames inside own n code =
      (begun, both_name inside own n each (next_number d) names (tt, (tt, tt))) in (
        (object_layout w s plain object).lies,
        ((((variable_layout w UnsignedShape plain tt).lies, tt), (tt, (begun, (((tt, tt), all_name inside own n code turn), tt)))), (tt, tt)),
      )
