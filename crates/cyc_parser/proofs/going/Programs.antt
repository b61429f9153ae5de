-- The readers of items and programs answer the tree, or the first place that is too deep.
use Rattle.std.proofs.Common.{◌≡◌, ℕ, true, false, List, [], ◌∷◌, Option, refl, sym, ap, ◌∙◌, inl, inr}
use Rattle.cyc_lexer.specs.declared.token.Keyword.TheVariants as word
use Rattle.cyc_lexer.specs.declared.token.Sign.TheVariants as sign_of
use Rattle.cyc_tree.specs.Depths.{items_starts, item_starts, program_starts, first_deeper}
use Rattle.cyc_tree.specs.Tree.{Struct, TypeName, Function, Item, StructItem, UnionItem, GlobalItem, FunctionItem, Program}
use Rattle.source_grammar.specs.Phrases.{Tokens, Each}
use Rattle.source_grammar.specs.Grammar.{IsItem, IsProgram}
use Rattle.cyc_parser.specs.Tests.{is_any, is_sign, is_keyword}
use Rattle.cyc_parser.specs.Reader.{read, done, many, keyword}
use Rattle.cyc_parser.specs.ReadTypes.{name, region_list, pointers, type_name}
use Rattle.cyc_parser.specs.ReadPrograms.{typed, struct_or_typed, item, program}
use Rattle.cyc_parser.specs.Exact.{ends}
use Rattle.cyc_parser.proofs.exactness.Composed.{begins_with, stops_ends}
use Rattle.cyc_parser.proofs.exactness.Types.{keyword_exact, name_exact, region_list_exact, is_no_name, pointers_exact, type_exact}
use Rattle.cyc_parser.proofs.exactness.Typed.{IsItemAt, within_none, typed_begins, pointed_begins}
use Rattle.cyc_parser.proofs.exactness.ProgramItems.{StructRead, no_less, pointer_no_brace, no_struct, no_tagged, item_back, item_exact}
use Rattle.cyc_parser.proofs.exactness.Programs.{item_begins, rows_back}
use Rattle.cyc_parser.proofs.Goes.{Goes, or_else, deeper_both, goes_as, goes_then, goes_behind, goes_before, first_of, many_goes}
use Rattle.cyc_parser.proofs.going.Items.{typed_goes}

-- the first place of a program is the first one of its items
items_deeper : (limit : ℕ) (is : List Item) → first_of (λ i. first_deeper limit (item_starts i)) is ≡ first_deeper limit (program_starts is)
items_deeper limit [] = refl
items_deeper limit (i ∷ is) =
    ap (or_else (first_deeper limit (item_starts i))) (items_deeper limit is) ∙ sym (deeper_both limit (item_starts i) (program_starts is))

-- a function whose result is a struct or points to one
struct_goes : (most : ℕ) (f : Function) (from to : Tokens) → StructRead most false (FunctionItem f) from to
    → Goes (struct_or_typed most from) (FunctionItem f) to (first_deeper most (items_starts 0 f.body))
unfolding struct_or_typed
struct_goes most f from to (at, x, k, (tag, y, named, (rs, z, regions, inl w))) = absurd (let other = w.3.0 in cc)
struct_goes most f from to (at, x, k, (tag, y, named, (rs, z, regions, inr w))) =
    let i : Item = FunctionItem f in
    let deep : Option ℕ = first_deeper most (items_starts 0 f.body) in
    let t : TypeName = record { at = at; base = Struct tag rs; pointers = w.0 } in
    goes_behind (keyword word.Struct) _ from at x i to deep ((keyword_exact word.Struct).again at from x k (stops_ends at x))
    (goes_behind name _ x tag y i to deep (name_exact.again tag x y named (stops_ends tag y))
    (goes_behind region_list _ y rs z i to deep (region_list_exact.again rs y z regions (no_less most at tag rs false i z to (inr w)))
    (rw (pointed_begins most (is_sign sign_of.LeftBrace) refl pointer_no_brace w.0 t false i z w.1 to w.2 w.3)
    (goes_behind pointers _ z w.0 w.1 i to deep (pointers_exact.again w.0 z w.1 w.2 (typed_begins most is_no_name refl t false i w.1 to w.3))
    (typed_goes most t i w.1 to w.3)))))

-- a function: its type begins with `struct` or doesn't
function_item_goes : (most : ℕ) (f : Function) (from to : Tokens) → IsItem (FunctionItem f) from to
    → Goes (item most from) (FunctionItem f) to (first_deeper most (items_starts 0 f.body))
unfolding item
function_item_goes most f from to is = elim (item_back most false (FunctionItem f) from to (is, tt)) [
  | inl w ↦ absurd (let other = w.1 in cc)
  | inr (inl w) ↦ rw (no_tagged most false (FunctionItem f) from to (inl w) (stops_ends (FunctionItem f) to))
      (rw (begins_with (is_keyword word.Struct) from _ _ w.2.1 refl) (struct_goes most f from to w))
  | inr (inr w) ↦ rw (no_tagged most false (FunctionItem f) from to (inr w) (stops_ends (FunctionItem f) to))
      (rw (no_struct most false (FunctionItem f) from to w (stops_ends (FunctionItem f) to))
      (goes_behind type_name (λ t. typed most t) from w.0.0 w.0.1 (FunctionItem f) to (first_deeper most (items_starts 0 f.body))
      (type_exact.again w.0.0 from w.0.1 w.0.2 (typed_begins most is_no_name refl w.0.0 false (FunctionItem f) w.0.1 to w.0.3))
      (typed_goes most w.0.0 (FunctionItem f) w.0.1 to w.0.3)))
]

-- an item that has no body nests nothing
item_goes : (most : ℕ) (i : Item) (from to : Tokens) → IsItem i from to → Goes (item most from) i to (first_deeper most (item_starts i))
item_goes most (StructItem s) from to is = (item_exact most).again (StructItem s) from to (is, within_none most true) (stops_ends (StructItem s) to)
item_goes most (UnionItem u) from to is = (item_exact most).again (UnionItem u) from to (is, within_none most true) (stops_ends (UnionItem u) to)
item_goes most (GlobalItem g) from to is = (item_exact most).again (GlobalItem g) from to (is, within_none most true) (stops_ends (GlobalItem g) to)
item_goes most (FunctionItem f) from to is = function_item_goes most f from to is

-- the items behind the first one
others_go : (most : ℕ) (is : List Item) (from : Tokens) → Each IsItem is from []
    → Goes (many is_any (item most) from) is [] (first_of (λ i. first_deeper most (item_starts i)) is)
others_go most is from are =
    many_goes is_any (IsItemAt most) ends (item most) (item_exact most) (item_begins most) (λ i k h. refl) (λ k. false) (λ i k h. h)
    (λ i. first_deeper most (item_starts i)) (λ i from to w s. item_goes most i from to w.0) is from []
    (rows_back most false is from [] are tt) refl

-- a program is read, or refused at its first place that is too deep
pub program_goes : (most : ℕ) (p : Program) (from : Tokens) → IsProgram p from
    → Goes (program most from) p [] (first_deeper most (program_starts p))
unfolding program
program_goes most [] from is = absurd is
program_goes most (i ∷ is) from (mid, first, others) =
    goes_as (program most from) (i ∷ is) [] _ _ (items_deeper most (i ∷ is))
    (goes_then (item most) (λ i. read (many is_any (item most)) (λ is. done (i ∷ is))) from i mid (i ∷ is) [] _ _ (item_goes most i from mid first)
    (goes_before (many is_any (item most)) (λ is. done (i ∷ is)) mid is [] (i ∷ is) [] _ (others_go most is mid others) refl))
