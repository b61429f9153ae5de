-- What the table has of structs is what the rules say of them.
use Rattle.std.proofs.Common.{Bor, ◌≡◌, ◌∙◌, ℕ, ◌+◌, Bool, true, false, refl, sym, ap, subst, List, [], ◌∷◌, ◌++◌, map, length, length-append, max}
use Rattle.std.proofs.Common.{Option, Some, None, if◌then◌else◌}
use Rattle.std.proofs.lemmas.List.{map-append, length-map}
use Rattle.std.specs.Prelude.{bytes_eq, is_some, option_map}
use Rattle.source_meaning.specs.Shapes.{Shape, IntShape, UnsignedShape, CharShape, VoidShape, ThinShape, FatShape, HandleShape}
use Rattle.source_meaning.specs.Shapes.{KeyShape, StructShape, UnionShape, ArrayShape, Part, Layout, has_tag, part_of, part_shapes, parts_of}
use Rattle.source_meaning.specs.Sizes.{Extent, all_cells, cells_by, extent_by, laid_out, no_extent, rounded_up, struct_cells, struct_extent, union_extent}
use Rattle.source_meaning.specs.Placing.{Placed, all_placed, moved, placed_by, struct_placed}
use Rattle.source_meaning.specs.Programs.{layout_of, structs_from}
use Rattle.source_lowering.specs.Lowerable.{AreObjects, AreStructs, IsObject, IsStruct}
use Rattle.cyc_tree.specs.Tree as tree
use Rattle.cyc_tree.specs.Tree.{Item, Structure}
use Rattle.cyc_core.specs.Trees.{bytes_of}
use Rattle.cyc_core.specs.declared.layout.CellLayout.{CellLayout}
use Rattle.cyc_core.specs.declared.operation.Width.{Width}
use Rattle.cyc_tree.specs.View.{member_tree}
use Rattle.cyc_tree.specs.declared.item.Member.{Member}
use Rattle.lower_checks.specs.declared.layouts.Known.{Known}
use Rattle.lower_checks.specs.declared.layouts.Laying.{Laying}
use Rattle.lower_checks.specs.declared.layouts.Structs.{Structs}
use Rattle.lower_checks.specs.Structs.{AreLaid, HasRoom, HaveRoom, IsFound, IsKnown, IsLaid, Knows, all_filled, bytes_and, cell_in, cells_if}
use Rattle.lower_checks.specs.Structs.{cells_in, filled, known_room, laid_cell, laid_cells, member_parts, moved_cell, next_cell}
use Rattle.lower_checks.specs.Structs.{placed_cell, room_if, room_in, struct_in, table_cell}
use Rattle.lower_checks.specs.Unions.{AreUnionsLaid, KnowsUnions, Union, first_union, union_in, union_room}
use Rattle.lower_checks.specs.declared.unions.Union as code
use Rattle.lower_checks.specs.declared.first.Firsts.{Firsts}
use Rattle.lower_checks.proofs.UnionCells.{has_union, union_same}
use Rattle.cyc_core.specs.declared.operation.Cell.{Cell}

-- ---- padding

pub next_same : (b : ℕ) (cs : List CellLayout) → next_cell b (all_filled b cs) ≡ next_cell b cs
next_same b [] = refl
next_same b (c ∷ cs) = refl

-- padding is found of where the cells lie alone
pub filled_again : (b : ℕ) (cs : List CellLayout) → all_filled b (all_filled b cs) ≡ all_filled b cs
filled_again b [] = refl
filled_again b (c ∷ cs) =
    ap (λ n. filled c n ∷ all_filled b (all_filled b cs)) (next_same b cs) ∙ ap (λ ds. filled c (next_cell b cs) ∷ ds) (filled_again b cs)

pub laid_filled : (b : ℕ) (cs : List CellLayout) → map laid_cell (all_filled b cs) ≡ map laid_cell cs
laid_filled b [] = refl
laid_filled b (c ∷ cs) = ap (λ ds. laid_cell c ∷ ds) (laid_filled b cs)

-- ---- moved cells

moved_same : (unions : List Layout) (at : ℕ) (ps : List Placed)
    → map (moved_cell at) (map (placed_cell unions) ps) ≡ map (placed_cell unions) (map (moved at) ps)
moved_same unions at [] = refl
moved_same unions at (p ∷ ps) = ap (λ cs. moved_cell at (placed_cell unions p) ∷ cs) (moved_same unions at ps)

-- ---- what has room

own_or_other : (own other : Bool) → other ≡ true → (if own then true else other) ≡ true
own_or_other true other h = refl
own_or_other false other h = h

-- so it has among more structs
more_room : (l : Layout) (unions structs : List Layout) (s : Shape) → HasRoom unions structs s → HasRoom unions (l ∷ structs) s
more_room l unions structs (StructShape tag) h = own_or_other (bytes_eq l.tag tag) (has_tag structs tag) h
more_room l unions structs _ h = h

more_rooms : (l : Layout) (unions structs : List Layout) (ps : List Part) → HaveRoom unions structs ps → HaveRoom unions (l ∷ structs) ps
more_rooms l unions structs [] h = tt
more_rooms l unions structs (p ∷ ps) h = (more_room l unions structs p.shape h.0, more_rooms l unions structs ps h.1)

-- what is found is one of the structs
found_tag : (unions structs : List Layout) (tag : List ℕ) (found : Option Known) → IsFound unions structs tag found
    → is_some found ≡ true → has_tag structs tag ≡ true
found_tag unions structs tag None is some = absurd cc some
found_tag unions structs tag (Some k) is some = is.has

pub tag_found : (unions structs : List Layout) (tag : List ℕ) (found : Option Known) → IsFound unions structs tag found
    → has_tag structs tag ≡ true → is_some found ≡ true
tag_found unions structs tag None is has = absurd cc (sym is ∙ has)
tag_found unions structs tag (Some k) is has = refl

-- where no struct has a tag, it has no bytes and no cells

pub no_bytes : (unions structs : List Layout) (tag : List ℕ) → has_tag structs tag ≡ false → struct_extent unions structs tag ≡ bytes_and 0 1
no_bytes unions [] tag none = refl
no_bytes unions (l ∷ structs) tag none = by (bytes_eq l.tag tag) none (no_bytes unions structs tag)
  where
    by : (own : Bool) → (if own then true else has_tag structs tag) ≡ false → (has_tag structs tag ≡ false → struct_extent unions structs tag ≡ bytes_and 0 1)
        → (if own then laid_out (extent_by (struct_extent unions structs) (union_extent unions)) (no_extent tag) l.parts else struct_extent unions structs tag)
        ≡ bytes_and 0 1
    by true h others = absurd cc h
    by false h others = others h

pub no_cells : (structs : List Layout) (tag : List ℕ) → has_tag structs tag ≡ false → struct_cells structs tag ≡ []
no_cells [] tag none = refl
no_cells (l ∷ structs) tag none = by (bytes_eq l.tag tag) none (no_cells structs tag)
  where
    by : (own : Bool) → (if own then true else has_tag structs tag) ≡ false → (has_tag structs tag ≡ false → struct_cells structs tag ≡ [])
        → (if own then all_cells (cells_by (struct_cells structs)) l.parts else struct_cells structs tag) ≡ []
    by true h others = absurd cc h
    by false h others = others h

-- ---- a shape

found_room : (unions structs : List Layout) (tag : List ℕ) (found : Option Known) → IsFound unions structs tag found
    → struct_extent unions structs tag ≡ room_if found
found_room unions structs tag None is = no_bytes unions structs tag is
found_room unions structs tag (Some k) is = is.room

found_cells : (unions structs : List Layout) (tag : List ℕ) (found : Option Known) → IsFound unions structs tag found → is_some found ≡ true
    → map (placed_cell unions) (struct_placed unions structs tag) ≡ cells_if found
found_cells unions structs tag None is some = absurd cc some
found_cells unions structs tag (Some k) is some = is.cells

found_count : (unions structs : List Layout) (tag : List ℕ) (found : Option Known) → IsFound unions structs tag found
    → length (struct_cells structs tag) ≡ length (cells_if found)
found_count unions structs tag None is = ap length (no_cells structs tag is)
found_count unions structs tag (Some k) is = is.count ∙ sym (length-map k.layout.value.cells.items laid_cell)

-- what a union's cell is made for
abbrev cell_if : Option Union → Option Cell
cell_if found = option_map (λ (u : Union). u.cell) found

some_cell : (found : Option Union) → is_some found ≡ true → is_some (cell_if found) ≡ true
some_cell (Some u) h = refl
some_cell None h = absurd cc h

module _ (table : Structs) (unions structs : List Layout) (knows : Knows table unions structs) where
  cell_same : (s : Shape) → cell_in unions s ≡ table_cell table s
  cell_same IntShape = refl
  cell_same UnsignedShape = refl
  cell_same CharShape = refl
  cell_same VoidShape = refl
  cell_same (ThinShape n o t) = refl
  cell_same (FatShape t) = refl
  cell_same HandleShape = refl
  cell_same KeyShape = refl
  cell_same (StructShape tag) = refl
  cell_same (UnionShape tag) = ap cell_if (sym (knows.unions_are.first tag))
  cell_same (ArrayShape n s) = refl

  pub room_same : (s : Shape) → IsLaid table s → extent_by (struct_extent unions structs) (union_extent unions) s ≡ room_in table s
  room_same IntShape laid = refl
  room_same UnsignedShape laid = refl
  room_same CharShape laid = refl
  room_same VoidShape laid = absurd cc laid
  room_same (ThinShape n o t) laid = refl
  room_same (FatShape t) laid = refl
  room_same HandleShape laid = refl
  room_same KeyShape laid = refl
  room_same (StructShape tag) laid = found_room unions structs tag (struct_in table tag) (knows.knows tag)
  room_same (UnionShape tag) laid = union_same unions tag knows.unions_are.laid ∙ ap union_room (sym (knows.unions_are.first tag))
  room_same (ArrayShape n s) laid = absurd cc laid

  pub cells_same : (s : Shape) → IsLaid table s → map (placed_cell unions) (placed_by (struct_placed unions structs) s) ≡ cells_in table s
  cells_same IntShape laid = refl
  cells_same UnsignedShape laid = refl
  cells_same CharShape laid = refl
  cells_same VoidShape laid = absurd cc laid
  cells_same (ThinShape n o t) laid = refl
  cells_same (FatShape t) laid = refl
  cells_same HandleShape laid = refl
  cells_same KeyShape laid = refl
  cells_same (StructShape tag) laid = found_cells unions structs tag (struct_in table tag) (knows.knows tag) laid
  cells_same (UnionShape tag) laid = ap (λ c. record { offset = 0; cell = c } ∷ []) (cell_same (UnionShape tag))
  cells_same (ArrayShape n s) laid = absurd cc laid

  pub count_same : (s : Shape) → IsLaid table s → length (cells_by (struct_cells structs) s) ≡ length (cells_in table s)
  count_same IntShape laid = refl
  count_same UnsignedShape laid = refl
  count_same CharShape laid = refl
  count_same VoidShape laid = absurd cc laid
  count_same (ThinShape n o t) laid = refl
  count_same (FatShape t) laid = refl
  count_same HandleShape laid = refl
  count_same KeyShape laid = refl
  count_same (StructShape tag) laid = found_count unions structs tag (struct_in table tag) (knows.knows tag)
  count_same (UnionShape tag) laid = refl
  count_same (ArrayShape n s) laid = absurd cc laid

  -- what is laid has room, and so it is the other way round
  laid_room : (s : Shape) → IsLaid table s → HasRoom unions structs s
  laid_room IntShape laid = laid
  laid_room UnsignedShape laid = laid
  laid_room CharShape laid = laid
  laid_room VoidShape laid = laid
  laid_room (ThinShape n o t) laid = laid
  laid_room (FatShape t) laid = laid
  laid_room HandleShape laid = laid
  laid_room KeyShape laid = laid
  laid_room (StructShape tag) laid = found_tag unions structs tag (struct_in table tag) (knows.knows tag) laid
  laid_room (UnionShape tag) laid = ap is_some (cell_same (UnionShape tag)) ∙ laid
  laid_room (ArrayShape n s) laid = laid

  pub laid_rooms : (ps : List Part) → AreLaid table ps → HaveRoom unions structs ps
  laid_rooms [] laid = tt
  laid_rooms (p ∷ ps) laid = (laid_room p.shape laid.0, laid_rooms ps laid.1)

  object_laid : (s : Shape) → IsObject unions structs s → IsLaid table s
  object_laid IntShape h = refl
  object_laid UnsignedShape h = refl
  object_laid CharShape h = refl
  object_laid VoidShape h = absurd h
  object_laid (ThinShape n o t) h = refl
  object_laid (FatShape t) h = refl
  object_laid HandleShape h = refl
  object_laid KeyShape h = refl
  object_laid (StructShape tag) h = tag_found unions structs tag (struct_in table tag) (knows.knows tag) h
  object_laid (UnionShape tag) h = some_cell (union_in table.unions tag) (ap is_some (knows.unions_are.first tag) ∙ has_union unions tag ∙ h)
  object_laid (ArrayShape n s) h = absurd h

  pub objects_laid : (ps : List Part) → AreObjects unions structs (part_shapes ps) → AreLaid table ps
  objects_laid [] h = tt
  objects_laid (p ∷ ps) h = (object_laid p.shape h.0, objects_laid ps h.1)

  -- ---- members

  pub rooms_same : (so_far : Extent) (ps : List Part) → AreLaid table ps
      → laid_out (extent_by (struct_extent unions structs) (union_extent unions)) so_far ps ≡ laid_out (room_in table) so_far ps
  rooms_same so_far [] laid = refl
  rooms_same so_far (p ∷ ps) laid =
      ap (λ (e : Extent).
      laid_out (extent_by (struct_extent unions structs) (union_extent unions))
      (record { size = rounded_up so_far.size e.align + e.size; align = max so_far.align e.align }) ps) (room_same p.shape laid.0)
      ∙ (let e : Extent = room_in table p.shape in
      rooms_same (record { size = rounded_up so_far.size e.align + e.size; align = max so_far.align e.align }) ps laid.1)

  pub all_same : (so_far : ℕ) (ps : List Part) → AreLaid table ps
      → map (placed_cell unions) (all_placed (placed_by (struct_placed unions structs)) (extent_by (struct_extent unions structs) (union_extent unions))
      so_far ps)
      ≡ laid_cells table so_far ps
  all_same so_far [] laid = refl
  all_same so_far (p ∷ ps) laid =
      let placed = placed_by (struct_placed unions structs) in
      let extent = extent_by (struct_extent unions structs) (union_extent unions) in
      let next = λ (e : Extent). rounded_up so_far e.align + e.size in
      map-append (placed_cell unions) (map (moved (rounded_up so_far (extent p.shape).align)) (placed p.shape))
      (all_placed placed extent (next (extent p.shape)) ps)
      ∙ ap (λ cs. cs ++ map (placed_cell unions) (all_placed placed extent (next (extent p.shape)) ps))
      (sym (moved_same unions (rounded_up so_far (extent p.shape).align) (placed p.shape))
      ∙ ap (map (moved_cell (rounded_up so_far (extent p.shape).align))) (cells_same p.shape laid.0))
      ∙ ap (λ (e : Extent). map (moved_cell (rounded_up so_far e.align)) (cells_in table p.shape)
      ++ map (placed_cell unions) (all_placed placed extent (next e) ps))
      (room_same p.shape laid.0)
      ∙ ap (λ cs. map (moved_cell (rounded_up so_far (room_in table p.shape).align)) (cells_in table p.shape) ++ cs)
      (all_same (next (room_in table p.shape)) ps laid.1)

  pub counts_same : (so_far : ℕ) (ps : List Part) → AreLaid table ps
      → length (all_cells (cells_by (struct_cells structs)) ps) ≡ length (laid_cells table so_far ps)
  counts_same so_far [] laid = refl
  counts_same so_far (p ∷ ps) laid =
      let at = rounded_up so_far (room_in table p.shape).align in
      let next = at + (room_in table p.shape).size in
      length-append (cells_by (struct_cells structs) p.shape) (all_cells (cells_by (struct_cells structs)) ps)
      ∙ ap (λ n. n + length (all_cells (cells_by (struct_cells structs)) ps))
      (count_same p.shape laid.0 ∙ sym (length-map (cells_in table p.shape) (moved_cell at)))
      ∙ ap (λ n. length (map (moved_cell at) (cells_in table p.shape)) + n) (counts_same next ps laid.1)
      ∙ sym (length-append (map (moved_cell at) (cells_in table p.shape)) (laid_cells table next ps))

-- ---- one more struct

-- a struct in code is made of these members
pub record IsMade (table : Structs) (l : Layout) (k : Known) : Type 0 where
  pub parts : member_parts k ≡ l.parts
  pub room : known_room k ≡ laid_out (room_in table) (bytes_and 0 1) l.parts
  pub cells : map laid_cell k.layout.value.cells.items ≡ laid_cells table 0 l.parts
  pub filled : k.layout.value.cells.items ≡ all_filled k.layout.value.bytes k.layout.value.cells.items
  pub laid : AreLaid table l.parts

abbrev pub parts_in : List Member → List Part
parts_in ms = map part_of (map member_tree ms)

-- one that was laid from them is
pub made_of : (table : Structs) (l : Layout) (k : Known) (laying : Laying) (kept laid : Bor (List Member)) (items : List Member) → parts_in items ≡ l.parts
    → kept.now ≡ items → laid.now ≡ items → k.members ≡ kept
    → k.layout.value.bytes ≡ rounded_up laying.room.size (bytes_of laying.room.align) → k.align ≡ laying.room.align
    → k.layout.value.cells.items ≡ all_filled k.layout.value.bytes laying.cells.items
    → bytes_and (rounded_up laying.room.size (bytes_of laying.room.align)) (bytes_of laying.room.align)
    ≡ laid_out (room_in table) (bytes_and 0 1) (parts_in laid.now)
    → map laid_cell laying.cells.items ≡ laid_cells table 0 (parts_in laid.now) → AreLaid table (parts_in laid.now) → IsMade table l k
made_of table l k laying kept laid items items_are kept_is laid_is members_are size_is align_is cells_are room_is laid_are all_laid =
    let parts_are : parts_in laid.now ≡ l.parts = ap parts_in laid_is ∙ items_are in
    record {
      parts = ap (λ (m : Bor (List Member)). parts_in m.now) members_are ∙ ap parts_in kept_is ∙ items_are;
      room =
          ap (λ (n : ℕ). bytes_and n (bytes_of k.align)) size_is
          ∙ ap (λ (w : Width). bytes_and (rounded_up laying.room.size (bytes_of laying.room.align)) (bytes_of w)) align_is ∙ room_is
          ∙ ap (λ (ps : List Part). laid_out (room_in table) (bytes_and 0 1) ps) parts_are;
      cells =
          ap (map laid_cell) cells_are ∙ laid_filled k.layout.value.bytes laying.cells.items ∙ laid_are
          ∙ ap (λ (ps : List Part). laid_cells table 0 ps) parts_are;
      filled =
          cells_are ∙ sym (filled_again k.layout.value.bytes laying.cells.items)
          ∙ ap (λ (cs : List CellLayout). all_filled k.layout.value.bytes cs) (sym cells_are);
      laid = subst (λ (ps : List Part). AreLaid table ps) parts_are all_laid;
    }

-- it is the struct of its tag
made_known : (table : Structs) (l : Layout) (k : Known) (unions structs : List Layout) (tag : List ℕ) → Knows table unions structs → IsMade table l k
    → bytes_eq l.tag tag ≡ true → IsKnown unions (l ∷ structs) tag k
made_known table l k unions structs tag knows made own = record {
  has = ap (λ b. if b then true else has_tag structs tag) own;
  parts = ap (λ b. if b then l.parts else parts_of structs tag) own ∙ sym made.parts;
  members =
      subst (λ ps. HaveRoom unions (l ∷ structs) ps) (sym made.parts)
      (more_rooms l unions structs l.parts (laid_rooms table unions structs knows l.parts made.laid));
  count =
      ap (λ b. length (if b then all_cells (cells_by (struct_cells structs)) l.parts else struct_cells structs tag)) own
      ∙ counts_same table unions structs knows 0 l.parts made.laid ∙ ap length (sym made.cells) ∙ length-map k.layout.value.cells.items laid_cell;
  room =
      ap (λ b. if b then laid_out (extent_by (struct_extent unions structs) (union_extent unions)) (no_extent tag) l.parts
      else struct_extent unions structs tag)
      own
      ∙ rooms_same table unions structs knows (bytes_and 0 1) l.parts made.laid ∙ sym made.room;
  cells =
      ap (λ b.
      map (placed_cell unions) (if b
      then all_placed (placed_by (struct_placed unions structs)) (extent_by (struct_extent unions structs) (union_extent unions)) 0 l.parts
      else struct_placed unions structs tag)) own
      ∙ all_same table unions structs knows 0 l.parts made.laid ∙ sym made.cells;
  filled = made.filled;
}

-- the others stay what they are
found_kept : (l : Layout) (unions structs : List Layout) (tag : List ℕ) (found : Option Known) → bytes_eq l.tag tag ≡ false → IsFound unions structs tag found
    → IsFound unions (l ∷ structs) tag found
found_kept l unions structs tag None other is = ap (λ b. if b then true else has_tag structs tag) other ∙ is
found_kept l unions structs tag (Some k) other is = record {
  has = ap (λ b. if b then true else has_tag structs tag) other ∙ is.has;
  parts = ap (λ b. if b then l.parts else parts_of structs tag) other ∙ is.parts;
  members = more_rooms l unions structs (member_parts k) is.members;
  count =
      ap (λ b. length (if b then all_cells (cells_by (struct_cells structs)) l.parts else struct_cells structs tag)) other ∙ is.count;
  room =
      ap (λ b. if b then laid_out (extent_by (struct_extent unions structs) (union_extent unions)) (no_extent tag) l.parts
      else struct_extent unions structs tag)
      other
      ∙ is.room;
  cells =
      ap (λ b.
      map (placed_cell unions) (if b
      then all_placed (placed_by (struct_placed unions structs)) (extent_by (struct_extent unions structs) (union_extent unions)) 0 l.parts
      else struct_placed unions structs tag)) other
      ∙ is.cells;
  filled = is.filled;
}

either_found : (table : Structs) (l : Layout) (k : Known) (unions structs : List Layout) (tag : List ℕ) (own : Bool) → Knows table unions structs
    → IsMade table l k → bytes_eq l.tag tag ≡ own → IsFound unions (l ∷ structs) tag (if own then Some k else struct_in table tag)
either_found table l k unions structs tag true knows made own = made_known table l k unions structs tag knows made own
either_found table l k unions structs tag false knows made other = found_kept l unions structs tag (struct_in table tag) other (knows.knows tag)

pub knows_more : (old new : Structs) (l : Layout) (k : Known) (unions structs : List Layout) → IsMade old l k → new.unions ≡ old.unions
    → ((tag : List ℕ) → struct_in new tag ≡ (if bytes_eq l.tag tag then Some k else struct_in old tag))
    → Knows old unions structs → Knows new unions (l ∷ structs)
knows_more old new l k unions structs made same added knows = record {
  unions_are = subst (λ table. KnowsUnions table unions) (sym same) knows.unions_are;
  knows = λ tag.
      subst (λ found. IsFound unions (l ∷ structs) tag found) (sym (added tag)) (either_found old l k unions structs tag (bytes_eq l.tag tag) knows made refl);
}

-- no struct as yet
pub knows_none : (table : Structs) (given : Firsts code.Union) (unions : List Layout) → table.unions ≡ given
    → ((tag : List ℕ) → union_in given tag ≡ first_union unions tag) → AreUnionsLaid unions → ((tag : List ℕ) → struct_in table tag ≡ None)
    → Knows table unions []
knows_none table given unions same first laid none = record {
  unions_are = record { first = λ tag. ap (λ us. union_in us tag) same ∙ first tag; laid = laid };
  knows = λ tag. subst (λ found. IsFound unions [] tag found) (sym (none tag)) refl;
}

-- ---- structs one after the other

-- the earlier ones are structs where all are
pub earlier_are : (unions : List Layout) (items : List Item) (found : List Layout) → AreStructs unions (structs_from items found) → AreStructs unions found
earlier_are unions [] found h = h
earlier_are unions (tree.StructItem s ∷ items) found h = (earlier_are unions items (layout_of s ∷ found) h).1
earlier_are unions (tree.UnionItem u ∷ items) found h = earlier_are unions items found h
earlier_are unions (tree.GlobalItem g ∷ items) found h = earlier_are unions items found h
earlier_are unions (tree.FunctionItem f ∷ items) found h = earlier_are unions items found h

-- the next one is a struct after them
pub next_struct :
    (unions : List Layout) (items : List Item) (found all : List Layout) (s : Structure) → structs_from (tree.StructItem s ∷ items) found ≡ all
    → AreStructs unions all → IsStruct unions found (layout_of s)
next_struct unions items found all s is h =
    (earlier_are unions items (layout_of s ∷ found) (subst (λ (ls : List Layout). AreStructs unions ls) (sym is) h)).0

-- its members can be laid
pub members_laid : (table : Structs) (unions structs : List Layout) (l : Layout) → Knows table unions structs
    → IsStruct unions structs l → AreLaid table l.parts
members_laid table unions structs l knows h = objects_laid table unions structs knows l.parts h.members
