-- View of code: pointers of a type in code, as the rules say them.
use Rattle.std.specs.Prelude.{Bool, List, None, Option, Some, false, nat_le, true, [], ◌∷◌}
use Rattle.source_meaning.specs.Shapes.{count_of, may_be_null, same_bound, single}
use Rattle.source_typing.specs.Regions.{same_id}
use Rattle.source_typing.specs.Types.{Differs, Fat, Match, StaticType, Thin, Unique, by_regions, matched, only, same_bool}
use Rattle.cyc_types.specs.Likeness.{likeness_of, match_of}
use Rattle.cyc_types.specs.Reaches.{reach_of}
use Rattle.cyc_types.specs.Regions.{region_of}
use Rattle.cyc_types.specs.declared.layer.Layer.{Layer}
use Rattle.cyc_types.specs.declared.layer.Layer.TheVariants as code
use Rattle.cyc_types.specs.declared.likeness.Likeness.{Likeness}

-- a pointer to a type
abbrev pub pointer_to : Layer → StaticType → StaticType
pointer_to (code.Thin n r) t = Thin (reach_of n) (region_of r) t
pointer_to (code.Fat r) t = Fat (region_of r) t
pointer_to (code.Unique n) t = Unique n t

-- pointers on a type, the outermost last
abbrev pub pointed : StaticType → List Layer → StaticType
pointed t [] = t
pointed t (l ∷ ls) = pointed (pointer_to l t) ls

-- how alike two pointers are, by how alike the types are that they lead to
abbrev pub layers_match : Layer → Layer → Match → Match
layers_match (code.Thin n r) (code.Thin m q) inner = only (same_bound (reach_of n) (reach_of m)) (matched (same_id (region_of r) (region_of q)) inner)
layers_match (code.Thin n r) (code.Unique m) inner = only (same_bound (reach_of n) (single m)) (by_regions inner)
layers_match (code.Unique n) (code.Thin m q) inner = only (same_bound (single n) (reach_of m)) (by_regions inner)
layers_match (code.Unique n) (code.Unique m) inner = only (same_bool n m) inner
layers_match (code.Fat r) (code.Fat q) inner = matched (same_id (region_of r) (region_of q)) inner
layers_match (code.Thin n r) (code.Fat q) inner = Differs
layers_match (code.Fat r) (code.Thin m q) inner = Differs
layers_match (code.Fat r) (code.Unique m) inner = Differs
layers_match (code.Unique n) (code.Fat q) inner = Differs

abbrev pub layers_alike : Layer → Layer → Likeness → Likeness
layers_alike l k inner = likeness_of (layers_match l k (match_of inner))

-- the same for the next pointers outwards, one of each type
abbrev pub next_alike : Likeness → Layer × Layer → Likeness
next_alike inner p = layers_alike p.0 p.1 inner

-- whether a pointer leads to at least as many elements as another one; where one of them is fat, that is checked when the program runs
abbrev pub has_enough : Layer → Layer → Bool
has_enough (code.Thin n r) (code.Thin m q) = nat_le (count_of (reach_of m)) (count_of (reach_of n))
has_enough (code.Unique n) (code.Thin m q) = nat_le (count_of (reach_of m)) 1
has_enough (code.Fat r) (code.Thin m q) = true
has_enough l (code.Fat q) = true
has_enough l (code.Unique m) = true

-- whether there is none
abbrev pub is_plain : List Layer → Bool
is_plain [] = true
is_plain (l ∷ ls) = false

-- the outermost one
abbrev pub last_or : Layer → List Layer → Layer
last_or l [] = l
last_or l (k ∷ ks) = last_or k ks

abbrev pub outermost : List Layer → Option Layer
outermost [] = None
outermost (l ∷ ls) = Some (last_or l ls)

-- whether a pointer is copied, and whether it begins as `NULL`
abbrev pub layer_copies : Layer → Bool
layer_copies (code.Thin n r) = true
layer_copies (code.Fat r) = true
layer_copies (code.Unique n) = false

abbrev pub layer_begins : Layer → Bool
layer_begins (code.Thin n r) = may_be_null (reach_of n)
layer_begins (code.Fat r) = true
layer_begins (code.Unique n) = n
