-- An item takes at least as many tokens as it has parameters or members, with those of a function's body.
use Rattle.std.proofs.Common.{◌+◌, ◌≤◌, List, [], ◌∷◌, length, Option, Some, None, ⊎_elim, arith}
use Rattle.cyc_lexer.specs.declared.token.Sign.TheVariants as sign
use Rattle.cyc_tree.specs.Tree as tree
use Rattle.cyc_tree.specs.Tree.{RegionName, Member, Bound, Initial}
use Rattle.source_grammar.specs.Phrases.{Tokens, IsRegion, Each, Behind}
use Rattle.source_grammar.specs.TypeGrammar.{IsTyped}
use Rattle.source_grammar.specs.StatementGrammar.{AreItems}
use Rattle.source_grammar.specs.Grammar.{IsMember, AreMembers, IsStructure, IsConstant, IsInitial, AreParameters, MayBeListed, IsEffect, IsBound, AreBounds}
use Rattle.source_grammar.specs.Grammar.{IsItem}
use Rattle.source_grammar.proofs.Shorter.{one_taken, keyword_taken, sign_taken, name_taken, string_taken, none_taken, region_shorter}
use Rattle.source_grammar.proofs.Shorter.{listed_shorter, regions_shorter, type_shorter, count_shorter, Takes}

-- ---- what stands before a function's body

-- each parameter has its name
typed_size : (m : Member) (from to : Tokens) → IsTyped m from to → Takes 1 from to
typed_size m from to (a, of, name) = omega (arith, type_shorter m.of from a of, name_taken name)

more_typed_size : (ms : List Member) (from to : Tokens) → Each (Behind sign.Comma IsTyped) ms from to → Takes (length ms) from to
more_typed_size [] from to is = omega (arith, none_taken is)
more_typed_size (m ∷ ms) from to (a, (b, comma, is), are) = omega (arith, sign_taken comma, typed_size m b a is, more_typed_size ms a to are)

parameters_size : (ms : List Member) (from to : Tokens) → AreParameters ms from to → Takes (length ms) from to
parameters_size [] from to is = ⊎_elim (λ none. omega (arith, none_taken none)) (λ void. omega (arith, keyword_taken void)) is
parameters_size (m ∷ ms) from to (a, is, are) = omega (arith, typed_size m from a is, more_typed_size ms a to are)

listed_regions_shorter : (rs : List RegionName) (from to : Tokens) → MayBeListed rs from to → length to ≤ length from
listed_regions_shorter [] from to is = none_taken is
listed_regions_shorter (r ∷ rs) from to are = listed_shorter IsRegion region_shorter (r ∷ rs) from to are

effect_shorter : (effect : Option (List RegionName)) (from to : Tokens) → IsEffect effect from to → length to ≤ length from
effect_shorter None from to is = none_taken is
effect_shorter (Some regions) from to (a, b, c, behind, opened, are, closed) =
    omega (arith, sign_taken behind, sign_taken opened, listed_regions_shorter regions b c are, sign_taken closed)

bound_shorter : (bound : Bound) (from to : Tokens) → IsBound bound from to → length to ≤ length from
bound_shorter bound from to (a, b, longer, above, shorter) =
    omega (arith, region_shorter bound.longer from a longer, sign_taken above, region_shorter bound.shorter b to shorter)

bounds_shorter : (bounds : List Bound) (from to : Tokens) → AreBounds bounds from to → length to ≤ length from
bounds_shorter [] from to is = none_taken is
bounds_shorter (bound ∷ bounds) from to (a, colon, are) = omega (arith, sign_taken colon, listed_shorter IsBound bound_shorter (bound ∷ bounds) a to are)

-- ---- items

-- a function's body, and at least so many tokens around it: its name, the four signs around the parameters and the body, and the parameters
pub body_stands : (f : tree.Function) (from to : Tokens) → IsItem (tree.FunctionItem f) from to
    → (before : Tokens) × (behind : Tokens) × AreItems f.body before behind × Takes (4 + length f.parameters) from before × Takes 1 behind to
body_stands f from to (z, a, typed, named, (b, c, d, e, g, h, i, opened, takes, has, within, closed, begins, does, ends)) =
    (h, i, does, around, omega (arith, one_taken ends))
  where
    around : Takes (4 + length f.parameters) from h
    around =
        omega (
          arith,
          type_shorter f.result from z typed,
          name_taken named,
          sign_taken opened,
          parameters_size f.parameters b c takes,
          effect_shorter f.effect c d has,
          bounds_shorter f.bounds d e within,
          sign_taken closed,
          sign_taken begins,
        )

-- each member has its name
each_member_size : (ms : List Member) (from to : Tokens) → Each IsMember ms from to → Takes (length ms) from to
each_member_size [] from to is = omega (arith, none_taken is)
each_member_size (m ∷ ms) from to (a, (b, is, ends), are) = omega (arith, typed_size m from b is, sign_taken ends, each_member_size ms a to are)

members_size : (ms : List Member) (from to : Tokens) → AreMembers ms from to → Takes (length ms) from to
members_size [] from to is = absurd is
members_size (m ∷ ms) from to (a, b, c, opened, are, closed, ends) =
    omega (arith, sign_taken opened, each_member_size (m ∷ ms) a b are, sign_taken closed, sign_taken ends)

structure_size : (s : tree.Structure) (from to : Tokens) → IsStructure s from to → Takes (length s.members) from to
structure_size s from to (a, b, named, of, are) = omega (arith, name_taken named, regions_shorter s.regions a b of, members_size s.members b to are)

constant_shorter : (c : tree.Constant) (from to : Tokens) → IsConstant c from to → length to ≤ length from
constant_shorter (tree.Constant.Number at value suffix) from to is = omega (arith, one_taken is)
constant_shorter (tree.Constant.Negative at value suffix) from to (a, place, minus, is) = omega (arith, one_taken minus, one_taken is)
constant_shorter (tree.Constant.Character at byte) from to is = omega (arith, one_taken is)
constant_shorter (tree.Constant.Text at bytes) from to is = omega (arith, string_taken is)
constant_shorter (tree.Constant.Null at) from to is = omega (arith, one_taken is)

initial_shorter : (i : Initial) (from to : Tokens) → IsInitial i from to → length to ≤ length from
initial_shorter Initial.Unset from to is = none_taken is
initial_shorter (Initial.Elements count) from to is = count_shorter count from to is
initial_shorter (Initial.Given constant) from to (a, begins, is) = omega (arith, sign_taken begins, constant_shorter constant a to is)

-- an item that isn't a function: a struct and a union have their members
pub struct_size : (s : tree.Structure) (from to : Tokens) → IsItem (tree.StructItem s) from to → Takes (length s.members) from to
struct_size s from to (a, word, is) = omega (arith, one_taken word, structure_size s a to is)

pub union_size : (s : tree.Structure) (from to : Tokens) → IsItem (tree.UnionItem s) from to → Takes (length s.members) from to
union_size s from to (a, b, tagged, word, is) = omega (arith, one_taken tagged, keyword_taken word, structure_size s b to is)

pub global_shorter : (g : tree.Global) (from to : Tokens) → IsItem (tree.GlobalItem g) from to → length to ≤ length from
global_shorter g from to (a, b, c, typed, named, gives, ends) =
    omega (arith, type_shorter g.of from a typed, name_taken named, initial_shorter g.initial b c gives, sign_taken ends)
