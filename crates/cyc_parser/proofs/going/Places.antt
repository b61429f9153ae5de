-- An expression stands where its first token does, and the first phrase in it begins there.
use Rattle.std.proofs.Common.{◌≡◌, ℕ, ◌+◌, List, [], ◌∷◌, ◌++◌, refl, ap}
use Rattle.cyc_lexer.specs.Lexing.{Token}
use Rattle.cyc_tree.specs.Tree.{Expression, Number, Character, Text, Null, HeapRegion, UniqueRegion, Variable, Call, MakeUnion, NumElts, Grouped}
use Rattle.cyc_tree.specs.Tree.{Suffixed, Prefixed, New, NewIn, Chain, AllOf, AnyOf, Assign, NoExpressions, MoreExpressions, NoLinks, MoreLinks}
use Rattle.cyc_tree.specs.Tree.{NoSuffixes, Index, Dot, Arrow}
use Rattle.cyc_tree.specs.Places.{expression_place}
use Rattle.cyc_tree.specs.Depths.{Start, start, inner_starts, suffix_starts, link_starts, operand_starts, expression_starts}
use Rattle.source_grammar.specs.Phrases.{Tokens}
use Rattle.cyc_parser.specs.Reading.{next_place}
use Rattle.source_grammar.specs.ExpressionGrammar.{IsExpression}

place_at : (from : Tokens) (t : Token) (rest : Tokens) → from ≡ t ∷ rest → next_place from ≡ t.at
place_at from t rest same = ap next_place same

-- an expression's place is that of its first token
pub place_of_first : (e : Expression) (from to : Tokens) → IsExpression e from to → next_place from ≡ expression_place e
place_of_first (Number at value suffix) from to h = place_at from _ _ h.1
place_of_first (Character at byte) from to h = place_at from _ _ h.1
place_of_first (Text at bytes) from to h = place_at from _ _ h.1
place_of_first (Null at) from to h = place_at from _ _ h.1
place_of_first (HeapRegion at) from to h = place_at from _ _ h.1
place_of_first (UniqueRegion at) from to h = place_at from _ _ h.1
place_of_first (Variable name) from to h = place_at from _ _ h
place_of_first (Call name arguments) from to h = place_at from _ _ h.2
place_of_first (MakeUnion tag member value) from to h = place_at from _ _ h.3
place_of_first (NumElts at operand) from to h = place_at from _ _ h.1.1
place_of_first (Grouped at inner) from to h = place_at from _ _ h.2.1
place_of_first (Suffixed primary NoSuffixes) from to h = absurd h
place_of_first (Suffixed primary (Index index others)) from to h = place_of_first primary from h.0 h.2
place_of_first (Suffixed primary (Dot member others)) from to h = place_of_first primary from h.0 h.2
place_of_first (Suffixed primary (Arrow member others)) from to h = place_of_first primary from h.0 h.2
place_of_first (Prefixed at o operand) from to h = place_at from _ _ h.2.1
place_of_first (New at made) from to h = place_at from _ _ h.1.1
place_of_first (NewIn at handle made) from to h = place_at from _ _ h.2.1
place_of_first (Chain first NoLinks) from to h = absurd h
place_of_first (Chain first (MoreLinks o operand others)) from to h = place_of_first first from h.0 h.2
place_of_first (AllOf first NoExpressions) from to h = absurd h
place_of_first (AllOf first (MoreExpressions second others)) from to h = place_of_first first from h.0 h.2
place_of_first (AnyOf first NoExpressions) from to h = absurd h
place_of_first (AnyOf first (MoreExpressions second others)) from to h = place_of_first first from h.0 h.2
place_of_first (Assign place value) from to h = place_of_first place from h.0 h.3

-- the first of some starts is the first with others behind them, too
first_of_both : (xs : List Start) (s : Start) (ys : List Start) → (others : List Start) × (xs ≡ s ∷ others)
    → (others : List Start) × (xs ++ ys ≡ s ∷ others)
first_of_both xs s ys h = (h.0 ++ ys, ap (λ (zs : List Start). zs ++ ys) h.1)

-- the first phrase that counts within an expression is a unary one, in no other of them, and begins at the place of the whole
pub first_start : (n : ℕ) (e : Expression) → (others : List Start) × (inner_starts n e ≡ start (expression_place e) (n + 1) ∷ others)
first_start n (Number at value suffix) = ([], refl)
first_start n (Character at byte) = ([], refl)
first_start n (Text at bytes) = ([], refl)
first_start n (Null at) = ([], refl)
first_start n (HeapRegion at) = ([], refl)
first_start n (UniqueRegion at) = ([], refl)
first_start n (Variable name) = ([], refl)
first_start n (Call name arguments) = (_, refl)
first_start n (MakeUnion tag member value) = (_, refl)
first_start n (NumElts at operand) = (_, refl)
first_start n (Grouped at inner) = (_, refl)
first_start n (Suffixed primary suffixes) = first_of_both (inner_starts n primary) _ (suffix_starts (n + 1) suffixes) (first_start n primary)
first_start n (Prefixed at operator operand) = (_, refl)
first_start n (New at made) = (_, refl)
first_start n (NewIn at handle made) = (_, refl)
first_start n (Chain first others) = first_of_both (inner_starts n first) _ (link_starts n others) (first_start n first)
first_start n (AllOf first others) = first_of_both (inner_starts n first) _ (operand_starts n others) (first_start n first)
first_start n (AnyOf first others) = first_of_both (inner_starts n first) _ (operand_starts n others) (first_start n first)
first_start n (Assign place value) = first_of_both (inner_starts n place) _ (expression_starts n value) (first_start n place)
