-- A statement's own start is the first one in it, and it stands at the statement's first token.
use Rattle.std.proofs.Common.{◌≡◌, ℕ, ◌+◌, List, ◌∷◌, Some, None, refl}
use Rattle.cyc_tree.specs.Tree.{Statement, Empty, Block, Run, Exchange, If, IfElse, While, Switch, Break, Continue, Return}
use Rattle.cyc_tree.specs.Tree.{FreeUnique, FreeKey, NoClauses, MoreClauses}
use Rattle.cyc_tree.specs.Places.{statement_place}
use Rattle.cyc_tree.specs.Depths.{Start, start, statement_starts}
use Rattle.source_grammar.specs.Phrases.{Tokens}
use Rattle.source_grammar.specs.StatementGrammar.{IsStatement}
use Rattle.cyc_parser.specs.Reading.{next_place}
use Rattle.cyc_parser.proofs.going.Places.{place_of_first}

pub statement_first : (n : ℕ) (s : Statement) → (others : List Start) × (statement_starts n s ≡ start (statement_place s) (n + 1) ∷ others)
statement_first n (Empty at) = (_, refl)
statement_first n (Block at items) = (_, refl)
statement_first n (Run e) = (_, refl)
statement_first n (Exchange left right) = (_, refl)
statement_first n (If at condition body) = (_, refl)
statement_first n (IfElse at condition body otherwise) = (_, refl)
statement_first n (While at condition body) = (_, refl)
statement_first n (Switch at place _) = (_, refl)
statement_first n (Break at) = (_, refl)
statement_first n (Continue at) = (_, refl)
statement_first n (Return at None) = (_, refl)
statement_first n (Return at (Some value)) = (_, refl)
statement_first n (FreeUnique at pointer) = (_, refl)
statement_first n (FreeKey at key) = (_, refl)

pub place_of_statement : (s : Statement) (from to : Tokens) → IsStatement s from to → next_place from ≡ statement_place s
place_of_statement (Empty at) from to w = rw w.1 refl
place_of_statement (Block at items) from to w = rw w.2.1 refl
place_of_statement (Run e) from to w = place_of_first e from w.0 w.1
place_of_statement (Exchange left right) from to w = place_of_first left from w.0 w.3
place_of_statement (If at condition body) from to w = rw w.2.1 refl
place_of_statement (IfElse at condition body otherwise) from to w = rw w.4.1 refl
place_of_statement (While at condition body) from to w = rw w.2.1 refl
place_of_statement (Switch at place NoClauses) from to w = absurd w
place_of_statement (Switch at place (MoreClauses first pattern body others)) from to w = rw w.4.1 refl
place_of_statement (Break at) from to w = rw w.1.1 refl
place_of_statement (Continue at) from to w = rw w.1.1 refl
place_of_statement (Return at value) from to w = rw w.1.1 refl
place_of_statement (FreeUnique at pointer) from to w = rw w.2.1 refl
place_of_statement (FreeKey at key) from to w = rw w.2.1 refl
