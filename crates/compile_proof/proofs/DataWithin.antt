-- The data of a program without fault are within the limit on globals and strings: each of them takes no more bytes than the rule on sizes counts.
use Rattle.std.specs.Prelude.{nat_le, not, codes, map, length}
use Rattle.std.proofs.Common.{◌≡◌, ℕ, suc, ◌+◌, ◌*◌, ◌^◌, ◌≤◌, Bool, true, false, Option, Some, List, [], ◌∷◌, ◌++◌, refl, sym, ap, ◌∙◌}
use Rattle.std.proofs.Common.{arith}
use Rattle.std.proofs.lemmas.Bool.{leb-true}
use Rattle.std.proofs.lemmas.List.{map-append}
use Rattle.cyc_tree.specs.Tree as tree
use Rattle.cyc_tree.specs.Tree.{Initial, Item, Program}
use Rattle.source_meaning.specs.Shapes.{
  ArrayShape,
  CharShape,
  FatShape,
  HandleShape,
  IntShape,
  KeyShape,
  Shape,
  StructShape,
  ThinShape,
  UnionShape,
  UnsignedShape,
  VoidShape,
  settled,
  written,
}
use Rattle.source_meaning.specs.Sizes.{rounded_up}
use Rattle.source_meaning.specs.Memory.{Scalar, Wide}
use Rattle.source_meaning.specs.Places.{literal_string}
use Rattle.source_meaning.specs.Programs.{global_shape, world_of}
use Rattle.source_meaning.specs.Steps.{World}
use Rattle.source_meaning.specs.Strings.{Literal, item_strings, program_strings}
use Rattle.core_meaning.specs.Core.{Datum}
use Rattle.core_lines.specs.Selected.{rounded, bytes_of, end_from, datum_local, datum_locals}
use Rattle.core_lines.specs.Running.{data_end}
use Rattle.source_lowering.specs.Layouts.{extent_of}
use Rattle.source_lowering.specs.Programs.{data_of, text_datum, global_datum, string_datum, program_code}
use Rattle.source_typing.specs.Faults.{name_rule, test}
use Rattle.source_typing.specs.Globals.{Static, global_size, if_passed, item_statics, static_string, total_faults}
use Rattle.source_typing.specs.Programs.{if_first, is_seen, second_names, statics_from, tables_of}
use Rattle.source_typing.specs.Scope.{at_item}
use Rattle.source_typing.specs.Tables.{Tables}
use Rattle.accepted_programs.specs.Accepted.{IsAccepted}
use Rattle.source_typing.proofs.Inversion.{test_is, none_of_both}
use Rattle.accepted_proof.proofs.good.Tables.{IsClean, is_clean_program}
use Rattle.accepted_proof.proofs.Joined.{sized}
use Rattle.accepted_proof.proofs.lowered.SizedGlobals.{AreSized}
use Rattle.accepted_proof.proofs.StringSizes.{AreSeen, one_more, unseen}

-- ---- the rule on sizes

-- the bytes that are counted
abbrev sum_of : List Static → ℕ
sum_of [] = 0
sum_of ((at, bytes) ∷ others) = bytes + sum_of others

sum_both : (xs ys : List Static) → sum_of (xs ++ ys) ≡ sum_of xs + sum_of ys
sum_both [] ys = omega arith
sum_both ((at, bytes) ∷ xs) ys = let h = sum_both xs ys in omega (arith, h)

-- where none passes the limit, all together don't
sum_within : (so_far : ℕ) (ss : List Static) → so_far ≤ 1048576 → total_faults so_far ss ≡ [] → so_far + sum_of ss ≤ 1048576
sum_within so_far [] h e = omega (arith, h)
sum_within so_far ((at, bytes) ∷ others) h e = by (nat_le (so_far + bytes) 1048576) refl e (λ less none. sum_within (so_far + bytes) others less none)
  where
    by : (b : Bool) → nat_le (so_far + bytes) 1048576 ≡ b → if_passed b at (total_faults (so_far + bytes) others) ≡ []
        → (so_far + bytes ≤ 1048576 → total_faults (so_far + bytes) others ≡ [] → so_far + bytes + sum_of others ≤ 1048576)
        → so_far + (bytes + sum_of others) ≤ 1048576
    by true l e more = let all = more (leb-true (so_far + bytes) 1048576 l) e in omega (arith, all)
    by false l e more = absurd cc

-- ---- objects

-- the bytes of objects, each of them rounded up to 8
abbrev data_sum : List Datum → ℕ
data_sum [] = 0
data_sum (d ∷ ds) = rounded_up (bytes_of (datum_local d)) 8 + data_sum ds

data_both : (xs ys : List Datum) → data_sum (xs ++ ys) ≡ data_sum xs + data_sum ys
data_both [] ys = omega arith
data_both (x ∷ xs) ys = let h = data_both xs ys in omega (arith, h)

-- an object behind a multiple of 4
next_rounded : (low so_far bytes : ℕ) → rounded low ≤ so_far → rounded (rounded low + bytes) ≤ so_far + rounded_up bytes 8
next_rounded low so_far bytes h = omega (arith, h)

-- objects end before so many bytes
end_within : (ds : List Datum) (low so_far : ℕ) → rounded low ≤ so_far → end_from low (datum_locals ds) ≤ so_far + data_sum ds
end_within [] low so_far h = omega (arith, h)
end_within (d ∷ ds) low so_far h =
    let size = bytes_of (datum_local d) in
    let rest = end_within ds (rounded low + size) (so_far + rounded_up size 8) (next_rounded low so_far size h) in
    omega (arith, rest)

-- a string has its bytes and the final 0
strings_sum : (w : World) (ss : List Literal) → sum_of (map static_string ss) ≡ data_sum (map (string_datum w) ss)
strings_sum w [] = refl
strings_sum w ((at, bytes) ∷ ss) =
    let once : (length bytes + 1) * 1 ≡ length bytes + 1 = omega arith in
    let first : rounded_up ((length bytes + 1) * 1) 8 ≡ rounded_up (length bytes + 1) 8 = ap (λ (k : ℕ). rounded_up k 8) once in
    let others = strings_sum w ss in
    omega (arith, first, others)

strings_both : (w : World) (xs ys : List Literal)
    → data_sum (map (string_datum w) (xs ++ ys)) ≡ sum_of (map static_string xs) + data_sum (map (string_datum w) ys)
strings_both w xs ys =
    ap data_sum (map-append (string_datum w) xs ys) ∙ data_both (map (string_datum w) xs) (map (string_datum w) ys) ∙
    ap (λ k. k + data_sum (map (string_datum w) ys)) (sym (strings_sum w xs))

-- a global has the bytes of its shape
datum_bytes : (w : World) (i : Initial) (s : Shape) → bytes_of (datum_local (global_datum w i s)) ≡ (extent_of w s).size
datum_bytes w i IntShape = omega arith
datum_bytes w i UnsignedShape = omega arith
datum_bytes w i CharShape = omega arith
datum_bytes w i VoidShape = omega arith
datum_bytes w i (ThinShape may_be_null owner to) = omega arith
datum_bytes w i (FatShape to) = by i
  where
    by : (initial : Initial) → bytes_of (datum_local (global_datum w initial (FatShape to))) ≡ 12
    by (Initial.Given (tree.Text at bytes)) = given (literal_string w.strings at bytes)
      where
        given : (found : Option Scalar) → bytes_of (datum_local (text_datum w (FatShape to) found)) ≡ 12
        given (Some (Wide (Some span))) = omega arith
        given _ = omega arith
    by _ = omega arith
datum_bytes w i HandleShape = omega arith
datum_bytes w i KeyShape = omega arith
datum_bytes w i (StructShape tag) = omega arith
datum_bytes w i (UnionShape tag) = omega arith
datum_bytes w i (ArrayShape count of) = refl

-- what counts with the first item of a name
first_counted : (b : Bool) (statics rest : List Static) → b ≡ true → sum_of (if_first b statics ++ rest) ≡ sum_of statics + sum_of rest
first_counted b statics rest e = ap (λ z. sum_of (if_first z statics ++ rest)) e ∙ sum_both statics rest

module _ (g : Tables) (w : World) where
  -- the rule counts the objects of the data, a string behind what it stands in
  all_counted : (items : List Item) (i : ℕ) (some seen : List (List ℕ)) → AreSeen some seen → second_names seen items ≡ [] → AreSized w g i items
      → sum_of (statics_from false g i some items) ≡ data_sum (data_of w items) + data_sum (map (string_datum w) (program_strings items))
  all_counted [] i some seen s n a = refl
  all_counted (tree.StructItem x ∷ items) i some seen s n a =
      let names = none_of_both (test (not (is_seen seen x.tag.text)) name_rule x.tag.at) (second_names (x.tag.text ∷ seen) items) n in
      let first = unseen some seen x.tag.text s (test_is (not (is_seen seen x.tag.text)) name_rule x.tag.at names.0) in
      let both = first_counted (not (is_seen some x.tag.text)) [] (statics_from false g (suc i) (x.tag.text ∷ some) items) first in
      let others = all_counted items (suc i) (x.tag.text ∷ some) (x.tag.text ∷ seen) (one_more some seen x.tag.text s) names.1 a.1 in
      omega (arith, both, others)
  all_counted (tree.UnionItem x ∷ items) i some seen s n a =
      let names = none_of_both (test (not (is_seen seen x.tag.text)) name_rule x.tag.at) (second_names (x.tag.text ∷ seen) items) n in
      let first = unseen some seen x.tag.text s (test_is (not (is_seen seen x.tag.text)) name_rule x.tag.at names.0) in
      let both = first_counted (not (is_seen some x.tag.text)) [] (statics_from false g (suc i) (x.tag.text ∷ some) items) first in
      let others = all_counted items (suc i) (x.tag.text ∷ some) (x.tag.text ∷ seen) (one_more some seen x.tag.text s) names.1 a.1 in
      omega (arith, both, others)
  all_counted (tree.FunctionItem f ∷ items) i some seen s n a =
      let names = none_of_both (test (not (is_seen seen f.name.text)) name_rule f.name.at) (second_names (f.name.text ∷ seen) items) n in
      let first = unseen some seen f.name.text s (test_is (not (is_seen seen f.name.text)) name_rule f.name.at names.0) in
      let rest : List Static = statics_from false g (suc i) (f.name.text ∷ some) items in
      let literals : List Literal = item_strings (tree.FunctionItem f) in
      let both = first_counted (not (is_seen some f.name.text)) (map static_string literals) rest first in
      let strings = strings_both w literals (program_strings items) in
      let others = all_counted items (suc i) (f.name.text ∷ some) (f.name.text ∷ seen) (one_more some seen f.name.text s) names.1 a.1 in
      omega (arith, both, strings, others)
  all_counted (tree.GlobalItem x ∷ items) i some seen s n a =
      let names = none_of_both (test (not (is_seen seen x.name.text)) name_rule x.name.at) (second_names (x.name.text ∷ seen) items) n in
      let first = unseen some seen x.name.text s (test_is (not (is_seen seen x.name.text)) name_rule x.name.at names.0) in
      let rest : List Static = statics_from false g (suc i) (x.name.text ∷ some) items in
      let literals : List Literal = item_strings (tree.GlobalItem x) in
      let both = first_counted (not (is_seen some x.name.text)) (item_statics (at_item false g i) (tree.GlobalItem x)) rest first in
      let strings = strings_both w literals (program_strings items) in
      let others = all_counted items (suc i) (x.name.text ∷ some) (x.name.text ∷ seen) (one_more some seen x.name.text s) names.1 a.1 in
      let shape : Shape = global_shape x.initial (settled (written x.of)) in
      let bytes : rounded_up (bytes_of (datum_local (global_datum w x.initial shape))) 8 ≡ rounded_up (global_size (at_item false g i) x) 8 =
      ap (λ (k : ℕ). rounded_up k 8) (datum_bytes w x.initial shape ∙ a.0) in
      omega (arith, both, strings, others, bytes)

-- where a program is accepted, its data end within the limit
pub data_within : (p : Program) → IsAccepted p → data_end (program_code p).data_objects ≤ 2 ^ 20
data_within p accepted =
    let clean : IsClean p = is_clean_program p accepted in
    let w : World = world_of p in
    let counted = all_counted (tables_of false p) w p 0 [] (codes "getchar" ∷ codes "putchar" ∷ []) (λ x f. absurd cc) clean.names (sized p accepted) in
    let within = sum_within 0 (statics_from false (tables_of false p) 0 [] p) (omega arith) clean.sizes in
    let ends = end_within (program_code p).data_objects 0 0 (omega arith) in
    let both = data_both (data_of w p) (map (string_datum w) (program_strings p)) in
    omega (arith, counted, within, ends, both)
